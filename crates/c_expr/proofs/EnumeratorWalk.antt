-- Enumerators one by one: their values, and what is left of the walk over them.
use Rattle.std.proofs.Common.{◌≡◌, ◌∙◌, ◌+◌, ◌<◌, ◌≤◌, ℕ, List, [], ◌∷◌, length, get_or, drop, map}
use Rattle.std.proofs.Common.{ap, refl}
use Rattle.std.specs.Prelude.{ℤ, Option}
use Rattle.c_types.specs.Types.{Types}
use Rattle.c_core.specs.declared.fault.TypeFault.{TypeFault}
use Rattle.c_syntax.specs.declared.specifier.Enumerator as n
use Rattle.c_syntax.specs.Tree.{Enumerator, Enumerators}
use Rattle.c_syntax.specs.View.{enumerator_of, enumerators, value_of}
use Rattle.c_scopes.specs.Env.{Env, env_of}
use Rattle.c_scopes.specs.Scopes.{Scope}
use Rattle.c_type_rules.specs.Enumerators.{next_value}
use Rattle.c_type_parts.specs.Answers.{Answer, Gives, and_then}
use Rattle.c_type_parts.specs.Clauses.{Given, Refused}
use Rattle.c_type_parts.specs.Declaring.{enumerator_bound}
use Rattle.c_type_parts.proofs.Onward.{Onward, onward_as, part_given, part_refused}
use Rattle.c_expr.specs.Typing.{enumerated, enumerator_value}
use Rattle.c_expr.proofs.Rows.{left_at, left_none}

-- what is left, from a value on
abbrev pub enumerated_left : List n.Enumerator → ℤ → Env → Answer (Unit {0})
enumerated_left rest next env = enumerated (enumerators (map enumerator_of rest)) next env

first_enumerated : (x : n.Enumerator) (rest : List Enumerator) (next : ℤ) (env : Env)
    → enumerated (enumerators (enumerator_of x ∷ rest)) next env
    ≡ and_then (enumerator_value (value_of x.value) next env) (λ value env.
    and_then (enumerator_bound x.pos x.name value env) (λ n env.
    enumerated (enumerators rest) (next_value n) env))
unfolding enumerated
first_enumerated x rest next env = refl

none_enumerated : (next : ℤ) (env : Env) → enumerated (enumerators []) next env ≡ Gives tt env
unfolding enumerated
none_enumerated next env = refl

module _ (whole : Answer (Unit {0})) (list : List n.Enumerator) (i : ℕ) (x : n.Enumerator) (within : i < length list)
    (at : x ≡ get_or list i x) (old mid : Types) (scopes : List Scope) (next : ℤ)
    (left : Onward whole (enumerated_left (drop i list) next (env_of scopes mid)) old scopes mid) where
  abbrev valued : Answer (Option ℤ)
  valued = enumerator_value (value_of x.value) next (env_of scopes mid)

  abbrev behind_bound : ℤ → Env → Answer (Unit {0})
  behind_bound n env = enumerated_left (drop (i + 1) list) (next_value n) env

  abbrev behind_value : Option ℤ → Env → Answer (Unit {0})
  behind_value value env = and_then (enumerator_bound x.pos x.name value env) behind_bound

  value_left : Onward whole (and_then valued behind_value) old scopes mid
  value_left =
      onward_as whole (enumerated_left (drop i list) next (env_of scopes mid)) (and_then valued behind_value) old scopes
      mid
      (ap (λ (rest : Enumerators). enumerated rest next (env_of scopes mid))
      (left_at enumerators enumerator_of list i x within at)
      ∙ first_enumerated x (map enumerator_of (drop (i + 1) list)) next (env_of scopes mid)) left

  -- its value is refused
  pub value_refused : (fault : TypeFault) → Refused valued fault → Refused whole fault
  value_refused fault refused = part_refused valued behind_value whole old mid scopes fault value_left refused

  module _ (value : Option ℤ) (new : Types) (after : List Scope)
      (given : Given valued value (λ t. Unit {0}) mid after new) where
    abbrev bound : Answer ℤ
    bound = enumerator_bound x.pos x.name value (env_of after new)

    bound_left : Onward whole (and_then bound behind_bound) old after new
    bound_left =
        part_given valued behind_value whole old mid scopes value (λ t. Unit {0}) after new value_left given

    -- its name is refused
    pub enumerator_refused : (fault : TypeFault) → Refused bound fault → Refused whole fault
    enumerator_refused fault refused = part_refused bound behind_bound whole old new after fault bound_left refused

    -- behind it
    pub enumerated_next : (n : ℤ) (last : List Scope) → Given bound n (λ t. Unit {0}) new last new
        → Onward whole (enumerated_left (drop (i + 1) list) (next_value n) (env_of last new)) old last new
    enumerated_next n last named =
        part_given bound behind_bound whole old new after n (λ t. Unit {0}) last new bound_left named

-- all of them
pub enumerated_all : (whole : Answer (Unit {0})) (list : List n.Enumerator) (i : ℕ) → length list ≤ i
    → (next : ℤ) (old types : Types) (scopes : List Scope)
    → Onward whole (enumerated_left (drop i list) next (env_of scopes types)) old scopes types
    → Given whole tt (λ t. Unit {0}) old scopes types
enumerated_all whole list i h next old types scopes left = record {
  is = left.is
      ∙ ap (λ (rest : Enumerators). enumerated rest next (env_of scopes types))
      (left_none enumerators enumerator_of list i h)
      ∙ none_enumerated next (env_of scopes types);
  is_in = tt;
  here = left.here;
  grown = left.grown;
}
