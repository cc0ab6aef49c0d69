-- What comes of the bytes that were read comes of the file.
use Rattle.std.proofs.Common.{sym}
use Rattle.acc_run.specs.Answer.{observe}
use Rattle.acc_run.proofs.Ends.{given_unit, outcome_of_file, cause_of_unit, found_is_due}
use Rattle.acc_run.proofs.running.due_of_file.Goals as goal

pub returns-in-Ok-clause-cause : goal.returns-in-Ok-clause-cause
returns-in-Ok-clause-cause g c words job =
    let given = given_unit (g.S.Shelf.contents c.args.shelf.now) c.args.file.now c.in-Ok.unit.items
    c.in-Ok.ensures.read in
    cause_of_unit words (observe g.S.Shelf.faults g.S.Shelf.contents c.args.shelf.now c.read_file.new.shelf)
    c.args.file.now given.0 job given.1 c.due_of_unit.result.output.items c.due_of_unit.result.ended
    (λ not_memory. outcome_of_file given.0 c.in-Ok.unit.items _ given.2
    (rw (sym c.deref.ensures.value) (c.due_of_unit.ensures.is_outcome not_memory))) c.due_of_unit.ensures.memory

pub returns-in-Ok-clause-complete : goal.returns-in-Ok-clause-complete
returns-in-Ok-clause-complete g c outcome due sound =
    found_is_due (g.S.Shelf.contents c.args.shelf.now) c.args.file.now c.in-Ok.unit.items outcome
    (record { ended = c.due_of_unit.result.ended; output = c.due_of_unit.result.output.items }) due c.in-Ok.ensures.read
    (λ not_memory. rw (sym c.deref.ensures.value) (c.due_of_unit.ensures.is_outcome not_memory))
    c.due_of_unit.ensures.memory
