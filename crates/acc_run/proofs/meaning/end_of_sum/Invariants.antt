-- The sum and the column are those behind the summands so far.
use Rattle.std.proofs.Common.{◌≡◌, List, ℕ, ◌+◌, ◌++◌, length, take, drop}
use Rattle.std.specs.Prelude.{pos}
use Rattle.std.specs.List.{flat_map}
use Rattle.acc_num.specs.declared.kind.IntKind.TheVariants.{I32}
use Rattle.acc_num.specs.Numbers.{InRange}
use Rattle.acc_run.specs.Program.{plus_term}
use Rattle.acc_run.specs.Meaning.{sum_from}
use Rattle.acc_run.proofs.meaning.end_of_sum.Given as goal

-- the sum of what is left, from the total so far, is the sum of all
abbrev pub invariant-loop-summand : goal.invariant-loop-summand
invariant-loop-summand l = record {
  total : InRange I32 l.total;
  column : l.column ≡ l.fn.column + length (flat_map plus_term (take l.summand-index l.rest));
  rest : (start : List ℕ) → length start + 1 ≡ l.fn.column →
      sum_from (start ++ flat_map plus_term (take l.summand-index l.rest)) l.total (drop l.summand-index l.rest)
      ≡ sum_from start (pos l.first) l.rest;
}
