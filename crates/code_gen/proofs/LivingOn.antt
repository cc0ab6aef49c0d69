-- An object that lives does so where others are made and stored to; a static object has the range of each of its marks.
use Rattle.std.proofs.Common.{◌≡◌, ℕ, zero, suc, ◌≤◌, ◌+◌, ◌*◌, Bool, true, false, List, [], ◌∷◌, ◌++◌, length, map}
use Rattle.std.proofs.Common.{slice_get, Option, Some, None, refl, arith, ap, sym, ◌∙◌, subst}
use Rattle.std.specs.Option.{option_map_or, option_and_then}
use Rattle.std.proofs.lemmas.List.{length-map}
use Rattle.std.proofs.lemmas.Bool.{eq-eqb, cond-true, and_from, le-leb}
use Rattle.object_store.specs.declared.class.Class.{Class}
use Rattle.object_store.specs.declared.class.Class.TheVariants.{Static}
use Rattle.object_store.specs.Object.{Object, number_of, place_of, numbered, object_of}
use Rattle.object_store.specs.Storage.{Storage, is_live}
use Rattle.object_store.specs.Steps.{stored_cell, new_object, next_number, with_new, with_cells, range, mark_cell}
use Rattle.object_store.specs.Steps.{with_mark}
use Rattle.object_store.proofs.RangeLemmas.{slice_get-set_same}
use Rattle.run_defs.specs.declared.event.Event.TheVariants.{Sealed}
use Rattle.run_defs.specs.declared.seal.Seal.{Seal}
use Rattle.run_defs.specs.Kept.{outlines}
use Rattle.run_defs.specs.Starts.{StaticObject}
use Rattle.run_defs.specs.State.{State, logged, with_storage, static_made, static_object, sealed, has_range}
use Rattle.run_defs.proofs.Outlines.{is_live-outlines}
use Rattle.code_gen.specs.Lifetimes.{SealsWithin, SealsLie}
use Rattle.code_gen.proofs.Living.{IsNone, length-remarked}

abbrev IsFalse : Bool → Type 0
IsFalse true = ⊥
IsFalse false = Unit {0}

slice_first : (objects : List Object) (o new : Object) (i : ℕ) → slice_get objects i ≡ Some o
    → slice_get (objects ++ new ∷ []) i ≡ Some o
slice_first [] o new i is = absurd (subst IsNone is tt)
slice_first (x ∷ objects) o new zero is = is
slice_first (x ∷ objects) o new (suc i) is = slice_first objects o new i is

slice_last : (objects : List Object) (new : Object) (n : ℕ) → n ≡ length objects
    → slice_get (objects ++ new ∷ []) n ≡ Some new
slice_last [] new zero is = refl
slice_last [] new (suc n) is = absurd (omega (arith, is))
slice_last (x ∷ objects) new zero is = absurd (omega (arith, is))
slice_last (x ∷ objects) new (suc n) is = slice_last objects new n (omega (arith, is))

pub lives_with_more : (s : Storage) (number size : ℕ) (class : Class) → is_live s number ≡ true
    → is_live (with_new s size class) number ≡ true
lives_with_more s number size class lives = by_found (slice_get s.objects (place_of number)) refl lives
  where
    by_found : (x : Option Object) → slice_get s.objects (place_of number) ≡ x
        → option_map_or (λ (o : Object). o.live) (option_and_then (numbered number) x) false ≡ true
        → is_live (with_new s size class) number ≡ true
    by_found None is lives = absurd (subst IsFalse lives tt)
    by_found (Some o) is lives =
        rw (slice_first s.objects o (new_object size class) (place_of number) is) lives

pub lives_as_outlined : (s s1 : Storage) (number : ℕ) → outlines s1.objects ≡ outlines s.objects
    → is_live s number ≡ true → is_live s1 number ≡ true
lives_as_outlined s s1 number same lives = sym (is_live-outlines s1 number)
    ∙ ap (λ objects. is_live (record { objects = objects; budget = 0; open_calls = 0; writes = [] }) number) same
    ∙ is_live-outlines s number ∙ lives

-- ---- a static object and its marks

record IsStored (s : State) (number size : ℕ) : Type 0 where
  index : ℕ
  number_is : number ≡ 2 * (index + 1)
  object : Object
  at : slice_get s.world.store.objects index ≡ Some object
  live : object.live ≡ true
  class : object.class ≡ Static
  size_is : length object.cells ≡ size

static_stored : (bytes : List ℕ) (s : State)
    → IsStored (static_made bytes s) (next_number s.world.store Static) (length bytes)
static_stored bytes s = record {
  index = length s.world.store.objects;
  number_is = refl;
  object = static_object bytes;
  at = slice_last s.world.store.objects (static_object bytes) (length s.world.store.objects) refl;
  live = refl;
  class = refl;
  size_is = length-map bytes (λ (b : ℕ). stored_cell (Some b));
}

module _ (s : State) (number size : ℕ) (o : IsStored s number size) where
  stored_place : place_of number ≡ o.index
  stored_place = omega (arith, o.number_is)

  stored_own : numbered number o.object ≡ Some o.object
  stored_own = let is : number_of Static (place_of number + 1) ≡ number = omega (arith, o.number_is) in
      rw o.class (cond-true _ _ _ (eq-eqb _ _ is))

  stored_at : object_of s.world.store.objects number ≡ Some o.object
  stored_at = rw (stored_place, o.at) stored_own

  stored_in_range : (at len : ℕ) → at + len ≤ size → has_range s.world.store number at len ≡ true
  stored_in_range at len within =
      rw stored_at (and_from _ _ o.live (le-leb (at + len) _ (omega (arith, within, o.size_is))))

  sealed_stored : (seal : Seal) → seal.at + seal.len ≤ size → IsStored (sealed number seal s) number size
  sealed_stored seal within =
      let marked : Object = record (o.object) {
        cells = with_cells o.object.cells seal.at (map (mark_cell seal.mark) (range o.object.cells seal.at seal.len));
      } in
      let still : IsStored (logged (Sealed number seal) (with_storage
      (with_mark s.world.store number seal.at seal.len seal.mark) s)) number size = record {
        index = o.index;
        number_is = o.number_is;
        object = marked;
        at = rw (stored_place, o.at) (slice_get-set_same s.world.store.objects o.index o.object marked o.at);
        live = o.live;
        class = o.class;
        size_is = length-remarked o.object.cells seal.at seal.len seal.mark ∙ o.size_is;
      } in
      rw (stored_in_range seal.at seal.len within) still

seals_lie : (seals : List Seal) (number size : ℕ) → SealsWithin size seals → (s : State) → IsStored s number size
    → SealsLie number seals s
seals_lie [] number size within s o = tt
seals_lie (seal ∷ seals) number size within s o = (
  stored_in_range s number size o seal.at seal.len within.0,
  seals_lie seals number size within.1 (sealed number seal s) (sealed_stored s number size o seal within.0),
)

pub static_lies : (object : StaticObject) → SealsWithin (length object.bytes) object.seals → (s : State)
    → SealsLie (next_number s.world.store Static) object.seals (static_made object.bytes s)
static_lies object within s = seals_lie object.seals (next_number s.world.store Static) (length object.bytes) within
    (static_made object.bytes s) (static_stored object.bytes s)
