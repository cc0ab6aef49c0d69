-- The first `*/` of the rest is that of all.
use Rattle.std.proofs.Common.{◌≡◌, ◌≤◌, length}
use Rattle.c_lexer.specs.ReadComment.{past_close}
use Rattle.c_lexer.proofs.comment.past_close.Given as goal

abbrev pub invariant-loop-rest : goal.invariant-loop-rest
invariant-loop-rest l = (past_close l.rest ≡ past_close l.bytes) × (length l.rest ≤ length l.bytes)

abbrev pub decreases-loop-rest : goal.decreases-loop-rest
decreases-loop-rest l = length l.rest
