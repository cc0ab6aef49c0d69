-- What a unit means: the bytes that it writes, and how its run ends.
use Rattle.std.specs.Prelude.{ℕ, ◌+◌, ◌%◌, ℤ, pos, unsigned_abs, List, [], ◌∷◌, ◌++◌, length, map, Result, Ok, Err}
use Rattle.std.specs.Int.{int_rem_euclid}
use Rattle.std.specs.Fmt.{decimal}
use Rattle.acc_num.specs.declared.kind.IntKind.TheVariants.{I32}
use Rattle.acc_num.specs.declared.fault.NumFault.{NumFault}
use Rattle.acc_num.specs.Operations.{outcome_of, Add}
use Rattle.critical_table.specs.declared.pos.Pos.{Pos}
use Rattle.critical_table.specs.declared.code.Code.TheVariants.{U01}
use Rattle.critical_table.specs.declared.ended.Ended.{Ended}
use Rattle.critical_table.specs.declared.ended.Ended.TheVariants.{Exited, Undefined}
use Rattle.acc_run.specs.Program.{UnitParts, plus_term, before_sum}

-- how a run ends, and all that it writes to the output
pub record Outcome : Type 0 where
  pub ended : Ended
  pub output : List ℕ

-- the place behind this text, which has no line feed; lines and columns count from 1
abbrev pub place_behind : List ℕ → Pos
place_behind text = record { line = 1; column = length text + 1 }

-- a return from main with this value (5.1.2.2.3)
abbrev pub end_of_return : ℤ → Ended
end_of_return value = Exited (unsigned_abs (int_rem_euclid value (pos 256)))

-- goes on with a sum in the range of int, and else ends at the place of its `+` (6.5p5)
abbrev pub with_sum : Result ℤ NumFault → Pos → (ℤ → Ended) → Ended
with_sum (Ok sum) plus go_on = go_on sum
with_sum (Err fault) plus go_on = Undefined U01 plus

-- The sum is taken from left to right (6.5.6). before: the text of the unit up to here. total: the sum of what stands
-- there
abbrev pub sum_from : List ℕ → ℤ → List ℕ → Ended
sum_from before total [] = end_of_return total
sum_from before total (constant ∷ rest) =
    with_sum (outcome_of I32 Add total (pos constant)) (place_behind before)
    (λ sum. sum_from (before ++ plus_term constant) sum rest)

-- The calls of putchar write their arguments modulo 256 (7.21.7.8), and then the sum is returned.
abbrev pub meaning_of : UnitParts → Outcome
meaning_of parts = record {
  ended = sum_from (before_sum parts ++ decimal parts.first) (pos parts.first) parts.rest;
  output = map (λ constant. constant % 256) parts.outputs;
}
