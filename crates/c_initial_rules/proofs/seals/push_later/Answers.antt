-- One more range, and the last one.
use Rattle.std.proofs.Common.{◌≡◌, ◌++◌, refl, [], ◌∷◌, slice_index_or}
use Rattle.c_core.specs.declared.function.Range.{Range}
use Rattle.c_initial_rules.specs.Seals.{later, all_later}
use Rattle.c_initial_rules.proofs.Flat.{flat_step, flat_end}
use Rattle.c_initial_rules.proofs.seals.push_later.Goals as goal

abbrev none : Range
none = record { at = 0; len = 0 }

pub loop-range-preserved : goal.loop-range-preserved
loop-range-preserved c =
    let is : c.push.new.self.items ≡ c.loop-range.all.items
    ++ later c.args.by (slice_index_or c.args.ranges.now c.loop-range.range-index none) ∷ [] =
    cc (c.in_ok-push.ensures.items, c.in-Some.ensures.1) in
    flat_step (λ (r : Range). later c.args.by r ∷ []) (all_later c.args.by) (λ x xs. refl) c.args.ranges.now
    c.loop-range.range-index none c.loop-range.all.items c.push.new.self.items _ c.loop-range-test.true
    c.loop-range.invariant is

pub returns : goal.returns
returns c = flat_end (λ (r : Range). later c.args.by r ∷ []) (all_later c.args.by) (λ x xs. refl) refl
    c.args.ranges.now c.loop-range.range-index c.loop-range.all.items _ c.loop-range-test.false
    c.loop-range.invariant
