-- No write has failed.
use Rattle.std.proofs.Common.{◌≡◌, false}
use Rattle.guest_io.proofs.tests.full_buffer_is_written_at_once.Given as goal

abbrev pub invariant-loop : goal.invariant-loop
invariant-loop g l = l.io.cut ≡ false
