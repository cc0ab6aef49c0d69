-- A character that was read is read again.
use Rattle.std.proofs.Common.{arith}
use Rattle.guest_io.proofs.Reading.{known_at, never_stuck, within_at}
use Rattle.guest_io.proofs.text.known_character.Goals as goal

pub place_behind-requires : goal.place_behind-requires
place_behind-requires c =
    let within = within_at c.args.store.now c.args.place c.args.k c.requires in
    omega (arith, within)

pub returns-in-Ok : goal.returns-in-Ok
returns-in-Ok c =
    known_at c.args.store.now c.args.place c.args.k c.requires c.place_behind.result c.place_behind.ensures c.in-Ok.c
    c.in-Ok.ensures.seen

pub returns-in-Err : goal.returns-in-Err
returns-in-Err c =
    absurd (never_stuck c.args.store.now c.args.place c.args.k c.requires c.place_behind.result c.place_behind.ensures
    _ c.in-Err.ensures.stuck)
