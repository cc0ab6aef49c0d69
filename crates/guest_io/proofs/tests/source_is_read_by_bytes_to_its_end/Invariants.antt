-- No write has failed.
use Rattle.std.proofs.Common.{◌≡◌, false}
use Rattle.guest_io.proofs.tests.source_is_read_by_bytes_to_its_end.Given as goal

abbrev pub invariant-loop-want : goal.invariant-loop-want
invariant-loop-want g l = l.io.cut ≡ false
