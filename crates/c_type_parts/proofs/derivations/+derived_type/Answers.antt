-- The type of the outer derivations, and then that of the first.
use Rattle.std.proofs.Common.{sym, subst, List}
use Rattle.std.specs.Prelude.{[]}
use Rattle.critical_table.specs.declared.pos.Pos.{Pos}
use Rattle.c_types.specs.CType.{type_of}
use Rattle.c_types.specs.Structures.{structures_of}
use Rattle.c_scopes.specs.Clauses.{RulesType}
use Rattle.c_type_parts.specs.declared.derivations.Derived.{Derived}
use Rattle.c_type_parts.specs.Clauses.{AnswersType, Refused}
use Rattle.c_type_parts.specs.Declaring.{derivation_rule}
use Rattle.c_type_parts.specs.Seen.{DerivedIn, derivation_of}
use Rattle.c_type_parts.proofs.Deriving.{from, from_empty, outer_refused, outer_given, split, derivation_stays_in}
use Rattle.c_type_parts.proofs.derivations.+derived_type.Goals as goal

pub returns-in_default : goal.returns-in_default
returns-in_default t c = λ scopes here.
    from_empty c.args.site c.args.base scopes c.args.types.now c.args.all.now c.in_default.len_below here
    c.requires.base

pub derivation_type-requires-clause-of : goal.derivation_type-requires-clause-of
derivation_type-requires-clause-of t c = (c.in-Ok.ensures [] tt).is_in

pub derivation_type-requires-clause-derivation : goal.derivation_type-requires-clause-derivation
derivation_type-requires-clause-derivation t c =
    derivation_stays_in c.args.types.now c.derived_type.new.types (c.in-Ok.ensures [] tt).grown
    c.first-item.result.derivation
    (subst (λ (all : List Derived). DerivedIn c.args.types.now all)
    (split c.args.all.now c.first-item.result c.first-item.is c.in-len1-up.len_at_least) c.requires.all).0

pub returns-in-Err : goal.returns-in-Err
returns-in-Err t c = λ scopes here.
    subst (λ (all : List Derived). Refused (from c.args.site c.args.base scopes c.args.types.now all) c.in-Err.fault)
    (sym (split c.args.all.now c.first-item.result c.first-item.is c.in-len1-up.len_at_least))
    (outer_refused c.args.site c.args.base scopes c.args.types.now c.first-item.result _ c.in-Err.fault
    (c.in-Err.ensures scopes here))

pub returns-in-Ok : goal.returns-in-Ok
returns-in-Ok t c = λ scopes here.
    let parts = split c.args.all.now c.first-item.result c.first-item.is c.in-len1-up.len_at_least in
    let mid = c.derived_type.new.types in
    let new = c.derivation_type.new.types in
    let rules = subst
    (λ (at : Pos). RulesType (derivation_rule (structures_of mid) (type_of mid c.in-Ok.of)
    (derivation_of mid c.first-item.result.derivation)) at mid new c.derivation_type.result)
    c.derivation_place.ensures c.derivation_type.ensures in
    subst (λ (all : List Derived). AnswersType (from c.args.site c.args.base scopes c.args.types.now all)
    c.args.types.now scopes new c.derivation_type.result) (sym parts)
    (outer_given c.args.site c.args.base scopes c.args.types.now c.first-item.result _ mid new c.in-Ok.of
    c.derivation_type.result
    (subst (λ (all : List Derived). DerivedIn c.args.types.now all) parts c.requires.all).0
    (c.in-Ok.ensures scopes here) rules)
