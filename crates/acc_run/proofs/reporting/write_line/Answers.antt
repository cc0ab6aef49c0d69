-- The room for 200 bytes is room for the line, and for what it leaves over.
use Rattle.std.proofs.Common.{◌≡◌, ◌+◌, ◌-◌, length, sym, subst, arith}
use Rattle.acc_run.proofs.reporting.write_line.Goals as goal

pub returns-clause-room : goal.returns-clause-room
returns-clause-room g c room =
    let fits : length c.bytes.result.now + (200 - length c.bytes.result.now) ≡ 200 = omega arith in
    let written =
    c.write_all.ensures.room (200 - length c.bytes.result.now)
    (subst (g.E.Sink.has_room c.args.err.now) (sym fits) room) in
    (written.0, (200 - length c.bytes.result.now, written.1))
