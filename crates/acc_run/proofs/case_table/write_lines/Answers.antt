-- Each line adds itself to those that are written.
use Rattle.std.proofs.Common.{◌≡◌, List, ℕ, ◌+◌, length, take, drop, refl, sym, ◌∙◌, ap, subst, arith, length-append}
use Rattle.std.specs.Prelude.{Some}
use Rattle.std.specs.List.{slice_get}
use Rattle.std.proofs.lemmas.Bool.{false≢true}
use Rattle.acc_io.specs.Bytes.{Gains}
use Rattle.critical_table.specs.Table.{table_lines}
use Rattle.acc_run.specs.Answer.{table_text}
use Rattle.acc_run.proofs.PartialWrites.{part_more, written_more, on_err}
use Rattle.acc_run.proofs.TableLines.{text_of, around_line, one_line_more, one_line_less, all_lines, no_lines}
use Rattle.acc_run.proofs.case_table.write_lines.Goals as goal

-- the room for the rest is that for the line and for what is behind it
line_room : (i more : ℕ) (line : List ℕ) → slice_get table_lines i ≡ Some line
    → length (text_of (drop i table_lines)) + more ≡ length line + (length (text_of (drop (i + 1) table_lines)) + more)
line_room i more line at =
    let parts : length (text_of (drop i table_lines)) ≡ length line + length (text_of (drop (i + 1) table_lines)) =
    ap length (one_line_less table_lines i line at) ∙ length-append line (text_of (drop (i + 1) table_lines)) in
    omega arith

pub returns-in_err-write_all-clause-part : goal.returns-in_err-write_all-clause-part
returns-in_err-write_all-clause-part g c =
    let at : slice_get table_lines c.loop-index.index ≡ Some c.bytes.result.now = c.table_line.ensures.text
    ∙ ap Some (sym c.bytes.ensures.value) in
    on_err c.from_residual.result (part_more (g.O.Sink.written c.args.out.now) (g.O.Sink.written c.loop-index.out)
    (g.O.Sink.written c.write_all.new.sink)
    (text_of (take c.loop-index.index table_lines)) c.bytes.result.now
    (text_of (drop (c.loop-index.index + 1) table_lines)) table_text c.loop-index.invariant.written
    c.in_err-write_all.ensures.part
    (around_line table_lines c.loop-index.index c.bytes.result.now at))

pub returns-in_err-write_all-clause-room : goal.returns-in_err-write_all-clause-room
returns-in_err-write_all-clause-room g c more room =
    let at : slice_get table_lines c.loop-index.index ≡ Some c.bytes.result.now = c.table_line.ensures.text
    ∙ ap Some (sym c.bytes.ensures.value) in
    absurd (false≢true
    (c.in_err-write_all.ensures.room (length (text_of (drop (c.loop-index.index + 1) table_lines)) + more)
    (subst (g.O.Sink.has_room c.loop-index.out) (line_room c.loop-index.index more c.bytes.result.now at)
    (c.loop-index.invariant.room more room))).0)

pub loop-index-preserved : goal.loop-index-preserved
loop-index-preserved g c =
    let at : slice_get table_lines c.loop-index.index ≡ Some c.bytes.result.now = c.table_line.ensures.text
    ∙ ap Some (sym c.bytes.ensures.value) in
    record {
      count = c.in_ok-write_all.ensures.cause.cause ∙ c.loop-index.invariant.count;
      written = subst (Gains (g.O.Sink.written c.args.out.now) (g.O.Sink.written c.write_all.new.sink))
          (one_line_more table_lines c.loop-index.index c.bytes.result.now at)
          (written_more (g.O.Sink.written c.args.out.now) (g.O.Sink.written c.loop-index.out)
          (g.O.Sink.written c.write_all.new.sink) (text_of (take c.loop-index.index table_lines)) c.bytes.result.now
          c.loop-index.invariant.written c.in_ok-write_all.ensures.written);
      room = λ more room.
          (c.in_ok-write_all.ensures.room (length (text_of (drop (c.loop-index.index + 1) table_lines)) + more)
          (subst (g.O.Sink.has_room c.loop-index.out) (line_room c.loop-index.index more c.bytes.result.now at)
          (c.loop-index.invariant.room more room))).1;
    }

pub returns-clause-written : goal.returns-clause-written
returns-clause-written g c =
    let end : c.loop-index.index ≡ 24 = omega arith in
    subst (Gains (g.O.Sink.written c.args.out.now) (g.O.Sink.written c.loop-index.out))
    (ap (λ n. text_of (take n table_lines)) end ∙ all_lines) c.loop-index.invariant.written

pub returns-clause-room : goal.returns-clause-room
returns-clause-room g c more room =
    let end : c.loop-index.index ≡ 24 = omega arith in
    let none : length (text_of (drop c.loop-index.index table_lines)) ≡ 0 =
    ap (λ n. length (text_of (drop n table_lines))) end ∙ ap length no_lines in
    let same : length (text_of (drop c.loop-index.index table_lines)) + more ≡ more = omega arith in
    (refl, subst (g.O.Sink.has_room c.loop-index.out) same (c.loop-index.invariant.room more room))
