-- One more place.
use Rattle.std.proofs.Common.{◌+◌, [], ◌∷◌, ◌++◌, drop, ap, sym, ◌∙◌, append_assoc, arith}
use Rattle.c_types.specs.Layouts.{places_from}
use Rattle.c_types.proofs.Ends.{end_from_ge, end_step, places_step}
use Rattle.c_types.proofs.placing.places_in_order.Goals as goal

pub loop-layout-preserved : goal.loop-layout-preserved
loop-layout-preserved c =
    let xs = c.args.layouts.now in
    let l = c.loop-layout in
    let at = c.round_up-at.result in
    let next = at + c.from.result in
    let rest = drop (l.layout-index + 1) xs in
    let step = end_step l.from xs l.layout-index _ (record { size = 0; align = 0 }) at c.from.result
    c.loop-layout-test.true c.round_up-at.ensures.value c.from.ensures in
    let places = places_step l.from xs l.layout-index _ (record { size = 0; align = 0 }) at c.from.result
    c.loop-layout-test.true c.round_up-at.ensures.value c.from.ensures in (
      sym step ∙ l.invariant.0,
      omega (arith, step, end_from_ge next rest, l.invariant.0, c.requires),
      ap (λ v. v ++ places_from next rest) c.in_ok-push.ensures.items
          ∙ append_assoc l.places.items (at ∷ []) (places_from next rest)
          ∙ ap (λ r. l.places.items ++ r) (sym places) ∙ l.invariant.2,
      omega (arith, c.in_ok-push.ensures.len, l.invariant.3),
    )
