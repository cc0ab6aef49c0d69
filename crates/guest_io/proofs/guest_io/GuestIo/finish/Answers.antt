-- A write has failed before, or all is written now.
use Rattle.std.proofs.Common.{[], ◌∙◌, sym}
use Rattle.guest_io.specs.Sights.{written_of}
use Rattle.guest_io.proofs.Adding.{same_cuts}
use Rattle.guest_io.proofs.guest_io.GuestIo.finish.Goals as goal

pub returns-then-is_cut-clause-out_cut : goal.returns-then-is_cut-clause-out_cut
returns-then-is_cut-clause-out_cut g c =
    same_cuts (written_of g.O.Sink.written c.args.self.now.out) []

pub returns-then-is_cut-clause-err_cut : goal.returns-then-is_cut-clause-err_cut
returns-then-is_cut-clause-err_cut g c =
    same_cuts (written_of g.E.Sink.written c.args.self.now.err) c.args.line.now

pub returns-then-is_cut-clause-sinks : goal.returns-then-is_cut-clause-sinks
returns-then-is_cut-clause-sinks g c = λ no_cut.
    absurd (let is = sym c.is_cut.ensures ∙ c.if-is_cut.true in cc)

pub returns-clause-failed : goal.returns-clause-failed
returns-clause-failed g c = λ cut.
    absurd (let is = sym c.is_cut.ensures ∙ c.if-is_cut.false in cc)

pub returns-clause-same : goal.returns-clause-same
returns-clause-same g c = λ cut.
    absurd (let is = sym c.is_cut.ensures ∙ c.if-is_cut.false in cc)

pub returns-clause-input : goal.returns-clause-input
returns-clause-input g c = c.write_end.ensures.input

pub returns-clause-out : goal.returns-clause-out
returns-clause-out g c = c.write_end.ensures.out

pub returns-clause-err : goal.returns-clause-err
returns-clause-err g c = c.write_end.ensures.err

pub returns-clause-out_none : goal.returns-clause-out_none
returns-clause-out_none g c = c.write_end.ensures.out_none

pub returns-clause-err_none : goal.returns-clause-err_none
returns-clause-err_none g c = c.write_end.ensures.err_none

pub returns-clause-out_cut : goal.returns-clause-out_cut
returns-clause-out_cut g c = c.write_end.ensures.out_cut

pub returns-clause-err_cut : goal.returns-clause-err_cut
returns-clause-err_cut g c = c.write_end.ensures.err_cut

pub returns-clause-sinks : goal.returns-clause-sinks
returns-clause-sinks g c = λ no_cut. c.write_end.ensures.sinks
