-- What is left of the values still fits, and is the end of their text.
use Rattle.std.proofs.Common.{◌≡◌, ◌+◌, ◌*◌, ◌≤◌, ◌++◌, length}
use Rattle.std.specs.List.{All}
use Rattle.run_defs.specs.Short.{IsShort}
use Rattle.run_defs.specs.Lines.{values_text}
use Rattle.run_defs.proofs.parts.push_values.Given as goal

abbrev pub invariant-loop-values : goal.invariant-loop-values
invariant-loop-values l = record {
  few : length l.values ≤ 4;
  short : All IsShort l.values;
  room : length l.line + 22 * length l.values ≤ 116;
  text : l.line ++ values_text l.values ≡ l.fn.line ++ values_text l.fn.values;
}

abbrev pub decreases-loop-values : goal.decreases-loop-values
decreases-loop-values l = length l.values
