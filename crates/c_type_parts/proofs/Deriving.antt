-- Derivations of a table that grows, and the type that one more makes.
use Rattle.std.proofs.Common.{◌≡◌, ◌∙◌, ap, refl, sym, subst, ◌<◌, ◌≤◌, ◌-◌, List, [], ◌∷◌, All, arith}
use Rattle.std.proofs.Common.{length, take, drop}
use Rattle.std.proofs.Math.ListN.{get_or}
use Rattle.std.proofs.lemmas.List.{take_rest}
use Rattle.std.specs.Prelude.{Result}
use Rattle.std.proofs.lemmas.List.Elements.{All-head, All-tail, All-weaker}
use Rattle.c_types.specs.declared.shape.TypeId.{TypeId}
use Rattle.c_types.specs.CType.{CType, Cons, all_types, type_of, types_at}
use Rattle.c_types.specs.Making.{Grows}
use Rattle.c_types.specs.Types.{Types}
use Rattle.c_core.specs.declared.fault.TypeFault.{TypeFault}
use Rattle.c_core.specs.Ids.{IdIn}
use Rattle.c_scopes.specs.Clauses.{RulesType}
use Rattle.c_scopes.specs.Env.{Env, ScopesIn, env_of}
use Rattle.c_scopes.specs.Scopes.{Scope}
use Rattle.c_types.specs.Structures.{structures_of}
use Rattle.c_types.proofs.Kept.{grows_own}
use Rattle.c_type_parts.specs.declared.derivations.Derivation.{Derivation as Code}
use Rattle.c_type_parts.specs.declared.derivations.Derivation.TheVariants as d
use Rattle.c_type_parts.specs.declared.derivations.Derived as e
use Rattle.c_type_parts.specs.declared.derivations.DerivationSite.{DerivationSite}
use Rattle.c_type_parts.specs.Answers.{Answer, and_then, settle}
use Rattle.c_type_parts.specs.Clauses.{AnswersType, Given, Refused}
use Rattle.c_type_parts.specs.Declaring.{Derivation, ToFunction, derived_type, derivation_rule, derivation_place}
use Rattle.c_type_parts.specs.Seen.{DerivationIn, derivation_of, derived_list}
use Rattle.c_type_parts.proofs.Onward.{Onward, rest_answers}
use Rattle.c_type_parts.proofs.Steps.{settled, then_given, refused_then}

module _ (old new : Types) (grown : Grows old new) where
  pub id_stays_in : (id : TypeId) → IdIn old id → IdIn new id
  id_stays_in id h = let count = grown.types.count in omega (arith, h, count)

  pub ids_stay : (ids : List TypeId) → All (λ (id : TypeId). IdIn old id) ids
      → types_at (all_types new) ids ≡ types_at (all_types old) ids
  ids_stay [] h = refl
  ids_stay (id ∷ ids) h =
      let first = All-head (λ (id : TypeId). IdIn old id) id ids h in
      let rest = All-tail (λ (id : TypeId). IdIn old id) id ids h in
      λ i. Cons (grown.types.same id first i) (ids_stay ids rest i)

  pub derivation_stays : (derivation : Code) → DerivationIn old derivation
      → derivation_of new derivation ≡ derivation_of old derivation
  derivation_stays (d.Pointer quals) h = refl
  derivation_stays (d.Array length) h = refl
  derivation_stays (d.Function list) h = λ i. ToFunction (ids_stay list.types.items h i) list.variadic list.may_vary

  pub ids_stay_in : (ids : List TypeId) → All (λ (id : TypeId). IdIn old id) ids → All (λ (id : TypeId). IdIn new id)
      ids
  ids_stay_in ids h = All-weaker (λ (id : TypeId). IdIn old id) (λ (id : TypeId). IdIn new id) id_stays_in ids h

  pub derivation_stays_in : (derivation : Code) → DerivationIn old derivation → DerivationIn new derivation
  derivation_stays_in (d.Pointer quals) h = tt
  derivation_stays_in (d.Array length) h = h
  derivation_stays_in (d.Function list) h = ids_stay_in list.types.items h

-- a list and its parts
pub split : (all : List e.Derived) (first : e.Derived) → first ≡ get_or all 0 first → 1 ≤ length all
    → all ≡ first ∷ take (length all - 1) (drop 1 all)
split [] first same h = absurd (omega (arith, h))
split (x ∷ xs) first same h =
    ap (λ (d : e.Derived). d ∷ xs) (sym same) ∙ ap (λ (rest : List e.Derived). first ∷ rest)
    (sym (take_rest (x ∷ xs) 1))

module _ (site : DerivationSite) (base : TypeId) (scopes : List Scope) (old : Types) where
  abbrev pub from : List e.Derived → Answer CType
  from all = derived_type site.name_at site.around (type_of old base) (derived_list old all) (env_of scopes old)

  abbrev pub behind : e.Derived → CType → Env → Answer CType
  behind first type env = settle (derivation_place site.name_at site.around first.length_at) env
      (derivation_rule env.structures type (derivation_of old first.derivation))

  pub from_none : ScopesIn old scopes → IdIn old base
      → Given (from []) (type_of old base) (λ types. IdIn types base) old scopes old
  unfolding derived_type
  from_none here is_in = record { is = refl; is_in = is_in; here = here; grown = grows_own old }

  pub from_empty : (all : List e.Derived) → length all < 1 → ScopesIn old scopes → IdIn old base
      → Given (from all) (type_of old base) (λ types. IdIn types base) old scopes old
  from_empty [] h here is_in = from_none here is_in
  from_empty (x ∷ xs) h here is_in = absurd (omega (arith, h))

  from_more : (first : e.Derived) (outer : List e.Derived) → from (first ∷ outer)
      ≡ and_then (from outer) (behind first)
  unfolding derived_type
  from_more first outer = refl

  pub outer_refused : (first : e.Derived) (outer : List e.Derived) (fault : TypeFault) → Refused (from outer) fault
      → Refused (from (first ∷ outer)) fault
  outer_refused first outer fault refused =
      subst (λ (answer : Answer CType). Refused answer fault) (sym (from_more first outer))
      (refused_then (from outer) (behind first) fault refused)

  pub outer_given : (first : e.Derived) (outer : List e.Derived) (mid new : Types) (of : TypeId)
      (result : Result TypeId TypeFault) → DerivationIn old first.derivation
      → Given (from outer) (type_of mid of) (λ types. IdIn types of) old scopes mid
      → RulesType (derivation_rule (structures_of mid) (type_of mid of) (derivation_of mid first.derivation))
      (derivation_place site.name_at site.around first.length_at) mid new result
      → AnswersType (from (first ∷ outer)) old scopes new result
  outer_given first outer mid new of result is_in given rules =
      let on : Onward (from (first ∷ outer)) (behind first (type_of mid of) (env_of scopes mid)) old scopes mid =
      record {
        is = from_more first outer ∙ then_given (from outer) (type_of mid of) (env_of scopes mid) (behind first)
            given.is;
        here = given.here;
        grown = given.grown;
      } in
      let says = subst
      (λ (derivation : Derivation). RulesType (derivation_rule (structures_of mid) (type_of mid of) derivation)
      (derivation_place site.name_at site.around first.length_at) mid new result)
      (derivation_stays old mid given.grown first.derivation is_in) rules in
      rest_answers (from (first ∷ outer)) (behind first (type_of mid of) (env_of scopes mid)) old mid scopes type_of
      IdIn scopes new result on
      (settled type_of IdIn
      (derivation_rule (structures_of mid) (type_of mid of) (derivation_of old first.derivation))
      (derivation_place site.name_at site.around first.length_at) scopes mid new result given.here says)
