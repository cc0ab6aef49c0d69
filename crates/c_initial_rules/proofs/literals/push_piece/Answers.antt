-- One more unit, and the last one.
use Rattle.std.proofs.Common.{◌≡◌, ◌++◌, refl, rules, slice_index_or}
use Rattle.std.specs.Prelude.{pos}
use Rattle.c_initial_rules.specs.Literals.{unit_bytes, piece_bytes}
use Rattle.c_initial_rules.proofs.Flat.{flat_step, flat_end}
use Rattle.c_initial_rules.proofs.literals.push_piece.Goals as goal

pub loop-unit-preserved : goal.loop-unit-preserved
loop-unit-preserved c =
    let is : c.push_unit.new.bytes.items ≡ c.loop-unit.bytes.items
    ++ unit_bytes c.args.wide (slice_index_or c.args.units.now c.loop-unit.unit-index (pos 0)) =
    search (rules, c.in_ok-push_unit.ensures) in
    flat_step (unit_bytes c.args.wide) (piece_bytes c.args.wide) (λ x xs. refl) c.args.units.now
    c.loop-unit.unit-index (pos 0) c.loop-unit.bytes.items c.push_unit.new.bytes.items _ c.loop-unit-test.true
    c.loop-unit.invariant is

pub returns : goal.returns
returns c = flat_end (unit_bytes c.args.wide) (piece_bytes c.args.wide) (λ x xs. refl) refl c.args.units.now
    c.loop-unit.unit-index c.loop-unit.bytes.items _ c.loop-unit-test.false c.loop-unit.invariant
