-- Where the call has no end, no call stands at the front.
use Rattle.acc_run.proofs.Fronts.{no_call}
use Rattle.acc_run.proofs.read_program.putchar_argument.Goals as goal

pub returns-in_err-rest-2-clause-none : goal.returns-in_err-rest-2-clause-none
returns-in_err-rest-2-clause-none c =
    let stops = no_call c.args.bytes.now c.in_ok-rest.rest.now c.in_ok-argument.rest.now c.in_ok-argument.argument
    c.in_ok-rest.ensures.found c.in_ok-argument.ensures.found.0 c.in_ok-argument.ensures.found.1
    c.in_ok-argument.ensures.found.2 c.in_err-rest-2.ensures.none in
    rw c.from_residual-in_err-rest-2.ensures stops
