-- The closing quote of the rest is that of all.
use Rattle.std.proofs.Common.{◌≡◌, ◌≤◌, false, length}
use Rattle.c_lexer.specs.ReadComment.{past_quote}
use Rattle.c_lexer.proofs.comment.past_quote.Given as goal

abbrev pub invariant-loop-rest : goal.invariant-loop-rest
invariant-loop-rest l = (past_quote l.quote l.hidden l.rest ≡ past_quote l.quote false l.bytes)
    × (length l.rest ≤ length l.bytes)

abbrev pub decreases-loop-rest : goal.decreases-loop-rest
decreases-loop-rest l = length l.rest
