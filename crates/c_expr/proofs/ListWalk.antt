-- A walk over a list of parts that hands on what it has found, as a loop goes through the list.
use Rattle.std.proofs.Common.{◌≡◌, ◌∙◌, ◌+◌, ◌<◌, ℕ, List, ◌∷◌, length, get_or, drop, map, ap}
use Rattle.c_types.specs.Types.{Types}
use Rattle.c_core.specs.declared.fault.TypeFault.{TypeFault}
use Rattle.c_scopes.specs.Env.{Env, env_of}
use Rattle.c_scopes.specs.Scopes.{Scope}
use Rattle.c_type_parts.specs.Answers.{Answer, and_then}
use Rattle.c_type_parts.specs.Clauses.{Given, Refused}
use Rattle.c_type_parts.proofs.Onward.{Onward, onward_as, part_given, part_refused}
use Rattle.c_expr.proofs.Rows.{left_at}

module _ {A B C S R : Type 0} (row : List B → C) (f : A → B) (walk : C → S → Env → Answer R)
    (one : B → S → Env → Answer S)
    (goes_on : (first : B) (rest : List B) (found : S) (env : Env)
    → walk (row (first ∷ rest)) found env
    ≡ and_then (one first found env) (λ next env. walk (row rest) next env))
    (whole : Answer R) (list : List A) (i : ℕ) (x : A) (within : i < length list) (at : x ≡ get_or list i x)
    (found : S) (old mid : Types) (scopes : List Scope)
    (on : Onward whole (walk (row (map f (drop i list))) found (env_of scopes mid)) old scopes mid) where
  abbrev behind : S → Env → Answer R
  behind next env = walk (row (map f (drop (i + 1) list))) next env

  one_left : Onward whole (and_then (one (f x) found (env_of scopes mid)) behind) old scopes mid
  one_left =
      onward_as whole (walk (row (map f (drop i list))) found (env_of scopes mid))
      (and_then (one (f x) found (env_of scopes mid)) behind) old scopes mid
      (ap (λ (left : C). walk left found (env_of scopes mid)) (left_at row f list i x within at)
      ∙ goes_on (f x) (map f (drop (i + 1) list)) found (env_of scopes mid)) on

  -- behind the part at this index
  pub walk_next : (next : S) (In : Types → Type 0) (after : List Scope) (new : Types)
      → Given (one (f x) found (env_of scopes mid)) next In mid after new
      → Onward whole (walk (row (map f (drop (i + 1) list))) next (env_of after new)) old after new
  walk_next next In after new given =
      part_given (one (f x) found (env_of scopes mid)) behind whole old mid scopes next In after new one_left given

  -- it is refused
  pub walk_stopped : (fault : TypeFault) → Refused (one (f x) found (env_of scopes mid)) fault
      → Refused whole fault
  walk_stopped fault refused =
      part_refused (one (f x) found (env_of scopes mid)) behind whole old mid scopes fault one_left refused
