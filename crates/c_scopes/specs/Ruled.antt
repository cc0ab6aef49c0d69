-- What a typing rule says of the typed parts of a node: what the node is, or the number of the constraint that it
-- breaks. A rule knows no scope, no order of the parts, and no place.
use Rattle.std.specs.Prelude.{◌≡◌, ◌⊎◌, ℕ, ◌<◌, Bool, false, cond, List, [], ◌∷◌}

pub data Ruled (A : Type 0) : Type 0 where
  Fits : (a : A) → Ruled A
  Breaks : (number : ℕ) → Ruled A

-- a constraint: its number, and whether it holds
abbrev pub Demand : Type 0
Demand = ℕ × Bool

-- The constraints on a node by rising numbers: the first that fails is the least that fails.
abbrev pub ruled : {A : Type 0} → List Demand → A → Ruled A
ruled [] a = Fits a
ruled (demand ∷ rest) a = cond demand.1 (ruled rest a) (Breaks demand.0)

-- what the constraints say, whatever the node is
abbrev pub verdict : List Demand → Ruled (Unit {0})
verdict demands = ruled demands tt

-- ---- that the numbers rise, which each rule's list is proved to do

-- the number is below all of these
abbrev pub IsBelow : ℕ → List Demand → Type 0
IsBelow number [] = Unit {0}
IsBelow number (demand ∷ rest) = (number < demand.0) × IsBelow number rest

abbrev pub Rises : List Demand → Type 0
Rises [] = Unit {0}
Rises (demand ∷ rest) = IsBelow demand.0 rest × Rises rest

-- one of the constraints has this number, and fails
abbrev pub Fails : ℕ → List Demand → Type 0
Fails number [] = ⊥
Fails number (demand ∷ rest) = ((demand.0 ≡ number) × (demand.1 ≡ false)) ⊎ Fails number rest
