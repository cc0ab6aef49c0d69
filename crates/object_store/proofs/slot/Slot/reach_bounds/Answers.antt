-- The rows before the marks do not fit, and the marks are those of the range.
use Rattle.std.proofs.Common.{◌≡◌, ◌-◌, ◌+◌, Some, arith, sym, ◌∙◌}
use Rattle.object_store.specs.Reach.{Access}
use Rattle.object_store.proofs.ReachRows.{bounds_rows, mark_rows}
use Rattle.object_store.proofs.slot.Slot.reach_bounds.Goals as goal

pub returns-then-stores-clause-table : goal.returns-then-stores-clause-table
returns-then-stores-clause-table c =
    let a : Access = record {
      object = Some c.args.self.now;
      place = c.args.place;
      len = c.args.len;
      align =
          c.args.align;
    } in
    let same_len : c.args.place.offset + c.args.len - c.args.place.offset ≡ c.args.len = omega arith in
    rw (
      bounds_rows a c.args.by (sym (rw c.size.ensures at c.has_wrong_bounds.ensures) ∙ c.if-has_wrong_bounds.false)
          (sym c.is_at_end.ensures ∙ c.if-is_at_end.false) (sym c.is_outside.ensures ∙ c.if-is_outside.false)
          (sym c.is_misaligned.ensures ∙ c.if-is_misaligned.false),
      mark_rows a c.args.by (sym c.stores.ensures ∙ c.if-stores.true),
    )
    (rw (← c.self.view_is) (rw (c.deref.ensures.value, same_len) at c.reach_marks.ensures))
