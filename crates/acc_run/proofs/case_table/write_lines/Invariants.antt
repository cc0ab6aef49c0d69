-- The lines so far are written, and there is room for the others.
use Rattle.std.proofs.Common.{◌≡◌, ℕ, ◌+◌, length, take, drop}
use Rattle.acc_io.specs.Bytes.{Gains}
use Rattle.critical_table.specs.Table.{table_lines}
use Rattle.acc_run.specs.Answer.{table_text}
use Rattle.acc_run.proofs.TableLines.{text_of}
use Rattle.acc_run.proofs.case_table.write_lines.Given as goal

-- the lines so far are written
abbrev pub invariant-loop-index : goal.invariant-loop-index
invariant-loop-index g l = record {
  count : g.O.Sink.faults l.out ≡ g.O.Sink.faults l.fn.out;
  written : Gains (g.O.Sink.written l.fn.out) (g.O.Sink.written l.out) (text_of (take l.index table_lines));
  room : (more : ℕ) → g.O.Sink.has_room l.fn.out (length table_text + more)
      → g.O.Sink.has_room l.out (length (text_of (drop l.index table_lines)) + more);
}
