-- An object that was made just now may be stored to.
use Rattle.std.proofs.Common.{◌≡◌, ℕ, zero, suc, ◌≤◌, Bool, false, length, take, replicate}
use Rattle.std.proofs.Common.{Some, None, refl, ◌∙◌, arith}
use Rattle.std.specs.List.{list_any}
use Rattle.std.proofs.lemmas.Grind.{common_steps}
use Rattle.std.proofs.lemmas.List.{length-replicate}
use Rattle.object_store.specs.declared.by.By.TheVariants.{TextWrite}
use Rattle.object_store.specs.declared.cell.Cell.{Cell}
use Rattle.object_store.specs.declared.class.Class.TheVariants.{Allocated}
use Rattle.object_store.specs.Storage.{Storage}
use Rattle.object_store.specs.Steps.{stored_cell, new_object, with_new, range}
use Rattle.object_store.specs.Marks.{marked_case}
use Rattle.object_store.specs.Reach.{Access, reach, has_wrong_bounds, is_at_end, is_outside}
use Rattle.object_store.specs.Reach.{is_clash, is_literal, is_const, IsReachedToStore}
use Rattle.object_store.proofs.Found.{new_found}
use Rattle.object_store.proofs.ReachRows.{front_rows, bounds_rows, mark_rows}
use Rattle.lib_defs.specs.Allocation.{new_pointer}

-- its cells have no marks
none_marked : (test : Cell → Bool) (cell : Cell) → test cell ≡ false → (size len : ℕ)
    → list_any test (take len (replicate size cell)) ≡ false
none_marked test cell e zero zero = refl
none_marked test cell e zero (suc len) = refl
none_marked test cell e (suc size) zero = refl
none_marked test cell e (suc size) (suc len) = rw (e, none_marked test cell e size len) refl

plain_cells : (size len : ℕ) → marked_case (range (replicate size (stored_cell None)) 0 len) ≡ None
plain_cells size len = rw (
  none_marked (λ c. is_clash c.mark) (stored_cell None) refl size len,
  none_marked (λ c. is_literal c.mark) (stored_cell None) refl size len,
  none_marked (λ c. is_const c.mark) (stored_cell None) refl size len,
) refl

module _ (s : Storage) (size len : ℕ) (some : 1 ≤ size) (within : len ≤ size) where
  abbrev new : Access
  new = record { object = Some (new_object size Allocated); place = new_pointer s size; len = len; align = 1 }

  right : has_wrong_bounds new ≡ false
  right = let e : length (replicate size (stored_cell None)) ≡ size = length-replicate size (stored_cell None) in
      rw e (grind (arith, common_steps))

  more : is_at_end new ≡ false
  more = grind (arith, common_steps, some)

  inside : is_outside new ≡ false
  inside = grind (arith, common_steps, within)

  new_reach : reach (with_new s size Allocated) (new_pointer s size) len 1 TextWrite ≡ None
  new_reach = rw (new_found s.objects (new_object size Allocated))
      (front_rows new TextWrite refl refl refl ∙ bounds_rows new TextWrite right more inside refl
      ∙ mark_rows new TextWrite refl ∙ plain_cells size len)

  -- its first bytes
  pub new_reached : IsReachedToStore (with_new s size Allocated) (new_pointer s size) len
  new_reached = record { align = 1; by = TextWrite; storing = refl; reached = new_reach }
