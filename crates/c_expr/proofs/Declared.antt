-- What a declarator makes of the type of specifiers: the parts one behind another.
use Rattle.std.proofs.Common.{◌≡◌, ◌∙◌, ap, sym, ℕ, Bool, List}
use Rattle.std.specs.Prelude.{Option, Result}
use Rattle.critical_table.specs.declared.pos.Pos.{Pos}
use Rattle.c_syntax.specs.Tree.{Declarator, Param, Specifiers, NamedType}
use Rattle.c_types.specs.declared.shape.TypeId.{TypeId}
use Rattle.c_types.specs.CType.{CType, type_of}
use Rattle.c_types.specs.Types.{Types}
use Rattle.c_core.specs.declared.fault.TypeFault.{TypeFault}
use Rattle.c_core.specs.Ids.{IdIn}
use Rattle.c_core.proofs.Kept.{type_kept}
use Rattle.c_scopes.specs.Clauses.{OptionIn, type_or_none}
use Rattle.c_scopes.specs.Env.{Env, env_of}
use Rattle.c_scopes.specs.Scopes.{Scope}
use Rattle.c_type_rules.specs.declared.context.Context.{Context}
use Rattle.c_type_rules.specs.declared.context.Setting.{Setting}
use Rattle.c_type_rules.specs.declared.context.Setting.TheVariants as setting
use Rattle.c_type_parts.specs.declared.derivations.Around.{Around}
use Rattle.c_type_parts.specs.declared.derivations.Derived as e
use Rattle.c_type_parts.specs.Answers.{Answer, and_then}
use Rattle.c_type_parts.specs.Clauses.{AnswersOption, AnswersType, Given, Refused}
use Rattle.c_type_parts.specs.Declaring.{Derived, derived_type, no_ellipsis, own_around, parameter_of}
use Rattle.c_type_parts.specs.Outlines.{bare_context}
use Rattle.c_type_parts.specs.Seen.{DerivedIn, derived_list}
use Rattle.c_type_parts.specs.Shapes.{name_in, place_in}
use Rattle.c_type_parts.proofs.Steps.{answers_as, refused_as, refused_later, refused_then, then_part}
use Rattle.c_expr.specs.Derivations.{without_names}
use Rattle.c_expr.specs.Typing.{declared, derived, named, parameter_typed, specified}
use Rattle.c_expr.proofs.Derivations.{of_nameless}

module _ (declarator : Declarator) (around own : Around) (base : TypeId) (old : Types) (scopes : List Scope)
    (seen : own ≡ own_around declarator around) where
  abbrev whole : Answer CType
  whole = declared around declarator (type_of old base) (env_of scopes old)

  abbrev part : Answer (List Derived)
  part = without_names (derived own declarator (env_of scopes old))

  abbrev next : List Derived → Env → Answer CType
  next all env = derived_type (place_in (name_in declarator)) around.at (type_of old base) all env

  -- the walk over a declarator, by derivations without names
  nameless : whole ≡ and_then part next
  nameless =
      of_nameless (place_in (name_in declarator)) around.at (type_of old base)
      (derived (own_around declarator around) declarator (env_of scopes old))
      ∙ ap (λ (own : Around). and_then (without_names (derived own declarator (env_of scopes old))) next) (sym seen)

  -- derivations that are refused
  pub declared_refused : (fault : TypeFault) → Refused part fault → Refused whole fault
  declared_refused fault refused =
      refused_as whole (and_then part next) fault nameless (refused_then part next fault refused)

  -- the type of the derivations
  pub declared_answers : (name_at : Option Pos) (all items : List e.Derived) (mid new : Types) (before : List Scope)
      (result : Result TypeId TypeFault) → name_at ≡ place_in (name_in declarator) → items ≡ all → IdIn old base
      → Given part (derived_list mid all) (λ t. DerivedIn t all) old before mid
      → AnswersType (derived_type name_at around.at (type_of mid base) (derived_list mid items) (env_of before mid)) mid
      before new result
      → AnswersType whole old before new result
  declared_answers name_at all items mid new before result at same is_in given answers =
      answers_as type_of IdIn whole (and_then part next) old new before result nameless
      (then_part type_of IdIn part next (derived_list mid all) (λ t. DerivedIn t all) old mid new before before result
      given (answers_as type_of IdIn (next (derived_list mid all) (env_of before mid))
      (derived_type name_at around.at (type_of mid base) (derived_list mid items) (env_of before mid)) mid new before
      result (λ i. derived_type (sym at i) around.at (sym (type_kept old mid given.grown base is_in) i)
      (derived_list mid (sym same i)) (env_of before mid)) answers))

-- ---- specifiers, and then a declarator

module _ (around : Pos) (all items : Specifiers) (declarator : Declarator) (context : Context) (own : Around)
    (env : Env) (same : items ≡ all) (bare : own ≡ no_ellipsis around) where
  abbrev base_next : CType → Env → Answer CType
  base_next base env = declared (no_ellipsis around) declarator base env

  abbrev type_name : Answer CType
  type_name = named around (NamedType all declarator) env

  -- the specifiers by another name
  specifiers_as : (at : Setting) → context ≡ bare_context at
      → specified (bare_context at) all env ≡ specified context items env
  specifiers_as at known = λ i. specified (sym known i) (sym same i) env

  module _ (known : context ≡ bare_context setting.TypeName) where
    -- the walk over a type name
    named_of : type_name ≡ and_then (specified context items env) base_next
    unfolding named
    named_of = λ i. and_then (specifiers_as setting.TypeName known i) base_next

    -- the specifiers of a type name are refused
    pub name_refused : (fault : TypeFault) → Refused (specified context items env) fault → Refused type_name fault
    name_refused fault refused =
        refused_as type_name (and_then (specified context items env) base_next) fault named_of
        (refused_then (specified context items env) base_next fault refused)

    -- a type name by its specifiers and its declarator
    pub name_answers : (base : TypeId) (old mid new : Types) (before after : List Scope)
        (result : Result TypeId TypeFault)
        → Given (specified context items env) (type_of mid base) (λ t. IdIn t base) old before mid
        → AnswersType (declared own declarator (type_of mid base) (env_of before mid)) mid after new result
        → AnswersType type_name old after new result
    name_answers base old mid new before after result given answers =
        answers_as type_of IdIn type_name (and_then (specified context items env) base_next) old new after result
        named_of (then_part type_of IdIn (specified context items env) base_next (type_of mid base) (λ t. IdIn t base)
        old mid new before after result given
        (answers_as type_of IdIn (base_next (type_of mid base) (env_of before mid))
        (declared own declarator (type_of mid base) (env_of before mid)) mid new after result
        (ap (λ (own : Around). declared own declarator (type_of mid base) (env_of before mid)) (sym bare)) answers))

  module _ (alone : Bool) (number : ℕ) (known : context ≡ bare_context setting.Parameter) where
    abbrev parameter : Answer (Option CType)
    parameter = parameter_typed around alone (Param all declarator) number env

    abbrev type_next : CType → Env → Answer (Option CType)
    type_next type env = parameter_of alone all declarator number type env

    abbrev both_next : CType → Env → Answer (Option CType)
    both_next base env = and_then (declared own declarator base env) type_next

    -- the walk over a parameter
    parameter_is : parameter ≡ and_then (specified context items env) both_next
    unfolding parameter_typed
    parameter_is = λ i. and_then (specifiers_as setting.Parameter known i) (λ base env.
        and_then (declared (sym bare i) declarator base env) type_next)

    -- the specifiers of a parameter are refused
    pub parameter_refused : (fault : TypeFault) → Refused (specified context items env) fault → Refused parameter fault
    parameter_refused fault refused =
        refused_as parameter (and_then (specified context items env) both_next) fault parameter_is
        (refused_then (specified context items env) both_next fault refused)

    module _ (base : TypeId) (old mid : Types) (before : List Scope)
        (given : Given (specified context items env) (type_of mid base) (λ t. IdIn t base) old before mid) where
      -- its declarator is refused
      pub declarator_refused : (fault : TypeFault)
          → Refused (declared own declarator (type_of mid base) (env_of before mid)) fault → Refused parameter fault
      declarator_refused fault refused =
          refused_as parameter (and_then (specified context items env) both_next) fault parameter_is
          (refused_later (specified context items env) both_next (type_of mid base) (λ t. IdIn t base) old mid before
          fault given
          (refused_then (declared own declarator (type_of mid base) (env_of before mid)) type_next fault refused))

      -- a parameter by its specifiers, its declarator and its name
      pub parameter_answers : (of : TypeId) (low new : Types) (inner after : List Scope)
          (result : Result (Option TypeId) TypeFault)
          → Given (declared own declarator (type_of mid base) (env_of before mid)) (type_of low of) (λ t. IdIn t of) mid
          inner low
          → AnswersOption (parameter_of alone all declarator number (type_of low of) (env_of inner low)) low after new
          result
          → AnswersOption parameter old after new result
      parameter_answers of low new inner after result type answers =
          answers_as type_or_none OptionIn parameter (and_then (specified context items env) both_next) old new after
          result parameter_is
          (then_part type_or_none OptionIn (specified context items env) both_next (type_of mid base)
          (λ t. IdIn t base) old mid new before after result given
          (then_part type_or_none OptionIn (declared own declarator (type_of mid base) (env_of before mid)) type_next
          (type_of low of) (λ t. IdIn t of) mid low new inner after result type answers))
