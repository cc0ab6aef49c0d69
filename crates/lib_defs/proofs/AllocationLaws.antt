-- The memory management functions keep the laws.
use Rattle.std.proofs.Common.{◌≡◌, ℕ, ◌%◌, ◌==◌, ◌≤◌, ◌&&◌, Bool, true, false, cond, List, []}
use Rattle.std.proofs.Common.{◌∷◌, length, drop, replicate, Option, Some, None, refl, ◌∙◌, arith}
use Rattle.std.specs.Prelude.{min}
use Rattle.std.proofs.Math.Nat.{min-le_left}
use Rattle.std.proofs.lemmas.Bool.{leb-true, and_parts}
use Rattle.std.proofs.lemmas.List.{length-map, length-take, length-replicate}
use Rattle.std.proofs.lemmas.Grind.{common_steps}
use Rattle.critical_table.specs.declared.case.Case.{Case}
use Rattle.critical_table.specs.declared.case.Case.TheVariants.{L9, L11}
use Rattle.object_store.specs.declared.cell.Cell.{Cell}
use Rattle.object_store.specs.declared.class.Class.TheVariants.{Allocated}
use Rattle.object_store.specs.declared.pointer.Pointer.{Pointer}
use Rattle.object_store.specs.Storage.{Storage, is_live, fits}
use Rattle.object_store.specs.Steps.{with_new, bytes_at, cells_of, range}
use Rattle.lib_defs.specs.declared.row.Row.{Row}
use Rattle.lib_defs.specs.declared.row_name.RowName.{RowName}
use Rattle.lib_defs.specs.declared.row_name.RowName.TheVariants as n
use Rattle.lib_defs.specs.declared.step.Rest.{Rest}
use Rattle.lib_defs.specs.declared.value.Arg.{Arg}
use Rattle.lib_defs.specs.declared.value.Value.TheVariants.{Ptr, Nothing}
use Rattle.lib_defs.specs.Units.{rsize_max}
use Rattle.lib_defs.specs.RowNumbers.{name_at}
use Rattle.lib_defs.specs.Reply.{Patch, FailsValue}
use Rattle.lib_defs.specs.Reply.{Did, null}
use Rattle.lib_defs.specs.Columns.{is_null}
use Rattle.lib_defs.specs.RowTable.{count}
use Rattle.lib_defs.specs.World.{World}
use Rattle.lib_defs.specs.Library.{values_of}
use Rattle.lib_defs.specs.Allocation.{release_case, is_dead, new_pointer, can_make, make_if, malloc_did, object_size}
use Rattle.lib_defs.specs.Allocation.{release_then}
use Rattle.lib_defs.specs.StreamRows.{reply_with}
use Rattle.lib_defs.specs.Profile.{plain_did, plain_or}
use Rattle.lib_defs.specs.Laws.{first_pointer, HasForm, IfReleased, RowStopFits}
use Rattle.lib_defs.specs.Laws.{AreReached}
use Rattle.lib_defs.proofs.AnnexRows.{has_form}
use Rattle.lib_defs.proofs.PlainCalls.{Fits, FitsAny, Undecided, answer_fits}
use Rattle.lib_defs.proofs.NewObjects.{new_reached}

-- an object that can be made
make_sizes : (s : Storage) (released size : ℕ) → can_make s released size ≡ true → (1 ≤ size) × (size ≤ rsize_max)
make_sizes s released size e =
    let some = and_parts _ _ e in
    let within = and_parts _ _ some.1 in
    (leb-true 1 size some.0, leb-true size rsize_max within.0)

-- a pointer that may be released is null, or that to a live allocated object
released_fits : (none odd dead live start : Bool)
    → (cond none None (cond (odd && dead) (Some L11) (cond (odd && (live && start)) None (Some L9)))) ≡ None
    → none ≡ false
    → (odd ≡ true) × (live ≡ true)
released_fits true odd dead live start e is = cc
released_fits false true true live start e is = cc
released_fits false true false true start e is = (refl, refl)
released_fits false true false false start e is = cc
released_fits false false dead live start e is = cc

length-bytes_at : (s : Storage) (p : Pointer) (len : ℕ) → length (bytes_at s p len) ≤ len
length-bytes_at s p len =
    let cells : List Cell = drop p.offset (cells_of s.objects p.object) in
    let e : length (bytes_at s p len) ≡ min len (length cells) =
    length-map (range (cells_of s.objects p.object) p.offset len) _ ∙ length-take len cells in
    let le : min len (length cells) ≤ len = min-le_left len (length cells) in
    omega (arith, e, le)

abbrev zeros : ℕ → List (Option ℕ)
zeros size = replicate size (Some 0)

module _ (row : Row) (args : List Arg) (w : World) (keeps : Rest → Bool) where
  -- an object is made, or null is answered
  pub make_fits : Undecided row args w keeps → ((p : Pointer) → HasForm row args (Ptr p)) → (b : Bool) (size : ℕ)
      → (b ≡ true → (1 ≤ size) × (size ≤ rsize_max)) → (stores : List Patch)
      → (1 ≤ size → AreReached (with_new w.store size Allocated) stores) → length stores ≤ 4 → (released : Option ℕ)
      → IfReleased w.store args released → Fits row args w keeps (reply_with w (make_if b w.store size stores released))
  make_fits passes form false size sizes stores reached few released fits =
      answer_fits row args w keeps passes (Ptr null) (form null)
  make_fits passes form true size sizes stores reached few released fits =
      let known = sizes refl in
      record {
        passes = passes;
        made = record { some = known.0; within = known.1; answer = refl };
        reached = reached known.0;
        few = few;
        released = fits;
        set = tt;
        form = form (new_pointer w.store size);
      }

  pub malloc_fits : Undecided row args w keeps → ((p : Pointer) → HasForm row args (Ptr p)) → (size : ℕ)
      → Fits row args w keeps (reply_with w (malloc_did w.store size))
  malloc_fits passes form size =
      make_fits passes form (can_make w.store 0 size) size (λ e. make_sizes w.store 0 size e) [] (λ some. tt)
      (omega arith) None tt

  pub calloc_fits : Undecided row args w keeps → ((p : Pointer) → HasForm row args (Ptr p)) → (size : ℕ)
      → Fits row args w keeps (reply_with w (make_if (can_make w.store 0 size) w.store size
      (record { place = new_pointer w.store size; bytes = replicate size (Some 0) } ∷ []) None))
  calloc_fits passes form size =
      make_fits passes form (can_make w.store 0 size) size (λ e. make_sizes w.store 0 size e) _
      (λ some. (
        new_reached w.store size (length (zeros size)) some
            (let e : length (zeros size) ≡ size = length-replicate size (Some 0) in omega (arith, e)),
        tt,
      ))
      (omega arith) None tt

  -- a pointer that may be released, or not
  release_fits : (name : RowName) → name_at row ≡ Some name
      → ((case : Case) → release_case w.store (first_pointer args) ≡ Some case
      → RowStopFits row args w w.streams (FailsValue case (first_pointer args)))
      → (found : Option Case) (none : Bool) → release_case w.store (first_pointer args) ≡ found
      → is_null (first_pointer args) ≡ none → (if_null go : Did) → Fits row args w keeps (reply_with w if_null)
      → (IfReleased w.store args (Some (first_pointer args).object) → Fits row args w keeps (reply_with w go))
      → Fits row args w keeps (reply_with w (release_then found none (first_pointer args) if_null go))
  release_fits name named stops (Some case) none e is if_null go null_fits next = stops case e
  release_fits name named stops None true e is if_null go null_fits next = null_fits
  release_fits name named stops None false e is if_null go null_fits next =
      let p : Pointer = first_pointer args in
      let h = released_fits (is_null p) (p.object % 2 == 1) (is_dead w.store p.object) (is_live w.store p.object)
      (p.offset == 0) e is in
      next (record { live = h.1; allocated = grind (arith, common_steps, h.0); first = refl })

  pub realloc_fits : name_at row ≡ Some n.Realloc
      → FitsAny row args w keeps (plain_or (plain_did n.Realloc (values_of args) w.store) n.Realloc args w)
  realloc_fits named =
      let s : Storage = w.store in
      let p : Pointer = first_pointer args in
      let size : ℕ = count (values_of args) 1 in
      let form : (q : Pointer) → HasForm row args (Ptr q) =
      λ q. has_form row args n.Realloc named (Ptr q) (λ fit. tt) in
      release_fits n.Realloc named
      (λ case e. record { name = n.Realloc; named = named; first = refl; fits = e })
      (release_case s p) (is_null p) refl refl _ _ (malloc_fits (rw named refl) form size)
      (λ released.
      make_fits (rw named refl) form (can_make s (object_size s p.object) size) size
      (λ e. make_sizes s (object_size s p.object) size e) _
      (λ some. (new_reached s size (length (bytes_at s p size)) some (length-bytes_at s p size), tt)) (omega arith)
      (Some p.object) released)

  pub free_fits : name_at row ≡ Some n.Free
      → FitsAny row args w keeps (plain_or (plain_did n.Free (values_of args) w.store) n.Free args w)
  free_fits named =
      let form : HasForm row args Nothing = has_form row args n.Free named Nothing (λ fit. tt) in
      release_fits n.Free named
      (λ case e. record { name = n.Free; named = named; first = refl; fits = e })
      (release_case w.store (first_pointer args)) (is_null (first_pointer args)) refl refl _ _
      (answer_fits row args w keeps (rw named refl) Nothing form)
      (λ released. record {
        passes = rw named refl;
        made = tt;
        reached = tt;
        few = omega arith;
        released = released;
        set = tt;
        form = form;
      })
