-- One piece a turn.
use Rattle.std.proofs.Common.{◌≡◌, ◌≤◌, ℕ, List, get_or, length, ◌∙◌, subst}
use Rattle.std.specs.Prelude.{Ok, Err}
use Rattle.c_lexer.specs.ReadDirective.{past_piece}
use Rattle.c_lexer.proofs.PragmaLaws.{turn_at, stop_at, nothing_open, tail_is}
use Rattle.c_lexer.proofs.pragma.goes_on.Goals as goal

pub returns-in-Err : goal.returns-in-Err
returns-in-Err c =
    stop_at c.loop-rest.rest.now c.in-Err.open_end c.in-len1-up.len_at_least
    (subst (λ (t : List ℕ). past_piece (get_or c.loop-rest.rest.now 0 0) t ≡ Err c.in-Err.open_end)
    (tail_is c.loop-rest.rest.now c.in-len1-up.len_at_least) c.in-Err.ensures.value)
    ∙ c.loop-rest.invariant

pub loop-rest-preserved : goal.loop-rest-preserved
loop-rest-preserved c =
    turn_at c.loop-rest.rest.now c.in-Ok.last.now c.in-len1-up.len_at_least
    (subst (λ (t : List ℕ). past_piece (get_or c.loop-rest.rest.now 0 0) t ≡ Ok c.in-Ok.last.now)
    (tail_is c.loop-rest.rest.now c.in-len1-up.len_at_least) c.in-Ok.ensures.value)
    (subst (λ (t : List ℕ). length c.in-Ok.last.now ≤ length t)
    (tail_is c.loop-rest.rest.now c.in-len1-up.len_at_least) c.in-Ok.ensures.shorter)
    ∙ c.loop-rest.invariant

pub returns : goal.returns
returns c = nothing_open c.loop-rest.rest.now c.in_default.len_below ∙ c.loop-rest.invariant
