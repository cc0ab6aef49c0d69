-- One more layout is found.
use Rattle.std.proofs.Common.{◌+◌, drop, ap, sym, ◌∙◌, arith}
use Rattle.std.specs.Prelude.{List}
use Rattle.c_types.specs.declared.layout.Layout.{Layout}
use Rattle.c_types.specs.Layouts.{layouts_of, layouts_after}
use Rattle.c_types.proofs.Ends.{layouts_step, layouts_after-step}
use Rattle.c_types.proofs.table.TypeTable.layouts.Goals as goal

pub loop-id-preserved : goal.loop-id-preserved
loop-id-preserved c =
    let now = c.args.self.now in
    let l = c.loop-id in
    let rest = layouts_of now (drop (l.id-index + 1) c.args.types.now) in
    let step = layouts_step now c.args.types.now l.id-index _ c.in-Some.layout c.loop-id-test.true
    (sym c.layout.ensures ∙ c.in-Some.is) in (
      ap (λ (ls : List Layout). layouts_after ls rest) c.in_ok-push-in-Some.ensures.items
          ∙ sym (layouts_after-step l.layouts.items c.in-Some.layout rest)
          ∙ sym (ap (layouts_after l.layouts.items) step) ∙ l.invariant.0,
      omega (arith, c.in_ok-push-in-Some.ensures.len, l.invariant.1),
    )
