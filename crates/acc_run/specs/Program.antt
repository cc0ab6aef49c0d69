-- The one form of a unit that is run: its parts, how they are spelled, and which of them fit.
use Rattle.std.specs.Prelude.{◌≡◌, ℕ, ◌≤◌, List, ◌++◌, length, All, codes}
use Rattle.std.specs.List.{flat_map}
use Rattle.std.specs.Fmt.{decimal}

-- outputs: the constant that each call of putchar is given, in order. first and rest: the summands of the returned sum
pub record UnitParts : Type 0 where
  pub outputs : List ℕ
  pub first : ℕ
  pub rest : List ℕ

-- one call of putchar
abbrev pub putchar_call : ℕ → List ℕ
putchar_call constant = codes "putchar(" ++ (decimal constant ++ codes ");")

-- one summand behind the first
abbrev pub plus_term : ℕ → List ℕ
plus_term constant = codes "+" ++ decimal constant

-- all that stands before the first summand
abbrev pub before_sum : UnitParts → List ℕ
before_sum parts = codes "int main(void){" ++ (flat_map putchar_call parts.outputs ++ codes "return ")

-- the whole unit
abbrev pub spelling : UnitParts → List ℕ
spelling parts = before_sum parts ++ (decimal parts.first ++ (flat_map plus_term parts.rest ++ codes ";}"))

-- the greatest constant, that of int (5.2.4.2.1)
abbrev pub greatest_constant : ℕ
greatest_constant = 2147483647

-- the longest unit, in bytes
abbrev pub longest_unit : ℕ
longest_unit = 4096

-- each constant is one of int, and the whole is no longer than the longest unit
pub record Fits (parts : UnitParts) : Type 0 where
  pub outputs : All (λ constant. constant ≤ greatest_constant) parts.outputs
  pub first : parts.first ≤ greatest_constant
  pub rest : All (λ constant. constant ≤ greatest_constant) parts.rest
  pub short : length (spelling parts) ≤ longest_unit

-- These bytes are the unit.
pub record IsUnit (parts : UnitParts) (bytes : List ℕ) : Type 0 where
  pub spelled : bytes ≡ spelling parts
  pub fits : Fits parts
