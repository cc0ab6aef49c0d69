-- The type is adjusted, and then the name bound.
use Rattle.std.proofs.Common.{◌∙◌, ap, sym, List}
use Rattle.std.specs.Prelude.{Bool}
use Rattle.c_types.specs.CType.{type_of}
use Rattle.c_scopes.specs.Named.{named_of}
use Rattle.c_scopes.proofs.Growth.{scopes_stay_in}
use Rattle.c_syntax.specs.declared.specifier.Specifier as s
use Rattle.c_syntax.specs.View.{declarator_of, specifiers_of}
use Rattle.c_type_parts.specs.Declaring.{parameter_object}
use Rattle.c_type_parts.specs.Shapes.{first_place, holds_register}
use Rattle.c_type_parts.proofs.BoundParameters.{type_breaks, name_refused, name_given}
use Rattle.c_type_parts.proofs.parameters.declared_parameter.Goals as goal

pub returns-in-Err : goal.returns-in-Err
returns-in-Err c =
    type_breaks c.args.site.alone (specifiers_of c.args.parameter.now.specifiers.items)
    (declarator_of c.args.parameter.now.declarator) c.args.site.number
    (type_of c.args.types.now c.args.site.of) c.args.scopes.now
    c.args.types.now c.requires.here (sym c.is_none.ensures ∙ c.if-is_none.false) c.first_place.result
    c.in-Err.fault
    (c.first_place.ensures
    ∙ ap (λ (all : List s.Specifier). first_place (specifiers_of all)) c.as_slice-specifiers.ensures.value)
    c.in-Err.ensures

pub bind_parameter-requires-clause-here : goal.bind_parameter-requires-clause-here
bind_parameter-requires-clause-here c =
    scopes_stay_in c.args.types.now c.parameter_type.new.types c.in-Ok.ensures.kept.grows c.args.scopes.now
    c.requires.here

pub returns-in-Err-bind_parameter : goal.returns-in-Err-bind_parameter
returns-in-Err-bind_parameter c =
    let mid = c.parameter_type.new.types in
    name_refused c.args.site.alone (specifiers_of c.args.parameter.now.specifiers.items)
    (declarator_of c.args.parameter.now.declarator) c.args.site.number
    (type_of c.args.types.now c.args.site.of) c.args.scopes.now c.args.types.now c.requires.here
    (sym c.is_none.ensures ∙ c.if-is_none.false) mid c.in-Ok.of c.in-Ok.ensures
    (named_of mid c.parameter_object-object.result)
    (c.parameter_object-object.ensures.named mid
    ∙ ap (λ (register : Bool). parameter_object (type_of mid c.in-Ok.of) register c.args.site.number)
    (c.holds_register.ensures
    ∙ ap (λ (all : List s.Specifier). holds_register (specifiers_of all)) c.as_slice-specifiers.ensures.value))
    c.in-Err-bind_parameter.fault c.in-Err-bind_parameter.ensures

pub returns-in-Ok-bind_parameter : goal.returns-in-Ok-bind_parameter
returns-in-Ok-bind_parameter c =
    let mid = c.parameter_type.new.types in
    name_given c.args.site.alone (specifiers_of c.args.parameter.now.specifiers.items)
    (declarator_of c.args.parameter.now.declarator) c.args.site.number
    (type_of c.args.types.now c.args.site.of) c.args.scopes.now c.args.types.now c.requires.here
    (sym c.is_none.ensures ∙ c.if-is_none.false) mid c.in-Ok.of c.in-Ok.ensures
    (named_of mid c.parameter_object-object.result)
    (c.parameter_object-object.ensures.named mid
    ∙ ap (λ (register : Bool). parameter_object (type_of mid c.in-Ok.of) register c.args.site.number)
    (c.holds_register.ensures
    ∙ ap (λ (all : List s.Specifier). holds_register (specifiers_of all)) c.as_slice-specifiers.ensures.value))
    c.bind_parameter.new.scopes c.in-Ok-bind_parameter.ensures
