-- One more piece, and the last one.
use Rattle.std.proofs.Common.{refl, ap, ◌∙◌, ◌++◌}
use Rattle.c_initial_rules.specs.Literals.{piece_bytes, bytes_of_pieces}
use Rattle.c_initial_rules.proofs.Flat.{flat_step, flat_end}
use Rattle.c_initial_rules.proofs.literals.push_pieces.Goals as goal

pub loop-piece-preserved : goal.loop-piece-preserved
loop-piece-preserved c = flat_step (piece_bytes c.args.wide) (bytes_of_pieces c.args.wide) (λ x xs. refl)
    c.args.pieces.now c.loop-piece.piece-index c.piece-item.result c.loop-piece.bytes.items
    c.push_piece.new.bytes.items _ c.loop-piece-test.true c.loop-piece.invariant
    (c.in_ok-push_piece.ensures
    ∙ ap (λ p. c.loop-piece.bytes.items ++ piece_bytes c.args.wide p) (c.as_slice.ensures ∙ c.piece-item.is))

pub returns : goal.returns
returns c = flat_end (piece_bytes c.args.wide) (bytes_of_pieces c.args.wide) (λ x xs. refl) refl
    c.args.pieces.now c.loop-piece.piece-index c.loop-piece.bytes.items _ c.loop-piece-test.false
    c.loop-piece.invariant
