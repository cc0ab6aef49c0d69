-- What comes of a part of a unit: a value and what is in scope behind it, or the first constraint that fails.
use Rattle.std.specs.Prelude.{ℕ}
use Rattle.critical_table.specs.declared.pos.Pos.{Pos}
use Rattle.c_scopes.specs.Env.{Env}
use Rattle.c_scopes.specs.Ruled.{Ruled, Fits, Breaks}

pub data Answer (A : Type 0) : Type 0 where
  Gives : (a : A) (env : Env) → Answer A
  Refuses : (number : ℕ) (at : Pos) → Answer A

-- one part behind another
unfoldable pub and_then : {A B : Type 0} → Answer A → (A → Env → Answer B) → Answer B
and_then (Gives a env) next = next a env
and_then (Refuses number at) next = Refuses number at

-- what a rule says of the node at a place
unfoldable pub settle : {A : Type 0} → Pos → Env → Ruled A → Answer A
settle at env (Fits a) = Gives a env
settle at env (Breaks number) = Refuses number at
