-- The first 64 bytes of a name.
use Rattle.std.proofs.Common.{sym, arith}
use Rattle.std.proofs.lemmas.List.{take_all, length-take-le}
use Rattle.lib_defs.proofs.shown.front.Goals as goal

pub slice_bounds-result-end : goal.slice_bounds-result-end
slice_bounds-result-end c = sym (length-take-le 64 c.args.name.now (omega arith))

pub returns-then-name-le-NAME_ROOM-clause-value : goal.returns-then-name-le-NAME_ROOM-clause-value
returns-then-name-le-NAME_ROOM-clause-value c = sym (take_all 64 c.args.name.now (omega arith))

pub returns-else-name-le-NAME_ROOM-clause-short : goal.returns-else-name-le-NAME_ROOM-clause-short
returns-else-name-le-NAME_ROOM-clause-short c = rw (length-take-le 64 c.args.name.now (omega arith)) (omega arith)
