-- The goals of `pieces` that are answered by hand.
use Rattle.std.proofs.Common.{◌≡◌, [], ◌∷◌, ◌++◌, refl, sym, ◌∙◌, ap}
use Rattle.c_reading.specs.Parser.{Found}
use Rattle.c_reading.specs.ReadExpr.{pieces}
use Rattle.c_reading.proofs.Online.Expr.{piece_online, piece_takes, no_literal}
use Rattle.c_parser.proofs.Turns.{all_over, all_turn}
use Rattle.c_parser.proofs.read.pieces.pieces.Goals as goal

pub each-preserved : goal.each-preserved
unfolding pieces
each-preserved c =
    let units = c.in-Some.units.now in
    let longer : c.push.new.self.items ≡ c.each.more.items ++ units ∷ [] =
    cc (c.in_ok-push.ensures.items, c.in_ok-from_slice.ensures, c.as_slice.ensures) in
    all_turn _ _ _ (λ s. piece_online) (λ s. no_literal c.args.wide) (λ s. piece_takes) _ c.each.more.items
    c.args.wide c.each.rest.now c.each.invariant
    c.tail-rest.result.now units c.push.new.self.items c.args.wide longer refl c.in-Some.ensures.here
    (c.in-Some.ensures.units ∙ ap (λ rest. Found units rest) (sym c.tail-rest.ensures))

pub returns : goal.returns
unfolding pieces
returns c =
    all_over _ _ _ (λ s. piece_online) (λ s. no_literal c.args.wide) (λ s. piece_takes) _ c.each.more.items
    c.args.wide c.each.rest.now c.each.invariant c.in_default.ensures.none
