-- A store leaves every reach as it was: it changes no mark, since the bytes that it may change have none.
use Rattle.std.proofs.Common.{◌≡◌, ◌≢◌, ℕ, ◌+◌, ◌==◌, ◌||◌, inl, inr, Bool, true, false, cond, List, [], ◌∷◌, ◌++◌}
use Rattle.std.proofs.Common.{length, map, take, drop, replicate, set, slice_get, Option, Some, None, refl, arith, ap}
use Rattle.std.proofs.Common.{subst, sym, ◌∙◌, append_assoc}
use Rattle.std.specs.List.{list_any}
use Rattle.std.proofs.lemmas.Bool.{cases_eq}
use Rattle.std.proofs.lemmas.List.{length-map, map-append, take-append-drop, drop-drop, take-map, drop-map}
use Rattle.critical_table.specs.declared.case.Case.TheVariants.{L2, L5, L8}
use Rattle.object_store.specs.declared.mark.Mark.{Mark}
use Rattle.object_store.specs.declared.mark.Mark.TheVariants.{Plain, Literal, Const, Clash}
use Rattle.object_store.specs.declared.cell.Cell.{Cell}
use Rattle.object_store.specs.declared.by.By.{By}
use Rattle.object_store.specs.declared.pointer.Pointer.{Pointer}
use Rattle.object_store.specs.Object.{Object, number_of, place_of, object_of}
use Rattle.object_store.specs.Storage.{Storage}
use Rattle.object_store.specs.Steps.{with_cells, range, stored_cell, with_bytes, with_store}
use Rattle.object_store.specs.Ranges.{IsLiveRange}
use Rattle.object_store.specs.Marks.{marked_case}
use Rattle.object_store.specs.Reach.{Access, access, cells, first_case, reach_table, reach, is_clash, is_literal}
use Rattle.object_store.specs.Reach.{is_const, IsReachedToStore}
use Rattle.object_store.specs.Changes.{SameReach}
use Rattle.object_store.proofs.CellLists.{length-range}
use Rattle.object_store.proofs.ReachRows.{mark_rows}
use Rattle.object_store.proofs.RangeLemmas.{passed_rows, in_range_to_store, slice_get-set_same, slice_get-set_other}
use Rattle.object_store.proofs.RangeLemmas.{with_bytes_at}

-- the marks of cells
abbrev pub marks : List Cell → List Mark
marks cs = map (λ (c : Cell). c.mark) cs

-- cells that may be stored to are plain
plain_mark : (m : Mark) → is_clash m ≡ false → is_literal m ≡ false → is_const m ≡ false → m ≡ Plain
plain_mark Plain a b c = refl
plain_mark Literal a b c = cc
plain_mark Const a b c = cc
plain_mark Clash a b c = cc

pub or_false : (a b : Bool) → (a || b) ≡ false → (a ≡ false) × (b ≡ false)
or_false true b h = cc
or_false false b h = (refl, h)

-- cells that no test of marks finds are plain
pub plain_marks : (cs : List Cell) → list_any (λ c. is_clash c.mark) cs ≡ false
    → list_any (λ c. is_literal c.mark) cs ≡ false
    → list_any (λ c. is_const c.mark) cs ≡ false → marks cs ≡ replicate (length cs) Plain
plain_marks [] a b c = refl
plain_marks (x ∷ cs) a b c =
    let a2 = or_false (is_clash x.mark) (list_any (λ c. is_clash c.mark) cs) a in
    let b2 = or_false (is_literal x.mark) (list_any (λ c. is_literal c.mark) cs) b in
    let c2 = or_false (is_const x.mark) (list_any (λ c. is_const c.mark) cs) c in
    rw (plain_mark x.mark a2.0 b2.0 c2.0, plain_marks cs a2.1 b2.1 c2.1) refl

-- where the marks are no case, no test of marks holds
pub no_case : (a b c : Bool) → cond a (Some L2) (cond b (Some L5) (cond c (Some L8) None)) ≡ None
    → (a ≡ false) × (b ≡ false) × (c ≡ false)
no_case true b c h = cc
no_case false true c h = cc
no_case false false true h = cc
no_case false false false h = (refl, refl, refl)

-- cells that may be stored to have no marks
pub unmarked : (cs : List Cell) → marked_case cs ≡ None → marks cs ≡ replicate (length cs) Plain
unmarked cs h =
    let none = no_case (list_any (λ c. is_clash c.mark) cs) (list_any (λ c. is_literal c.mark) cs)
    (list_any (λ c. is_const c.mark) cs) h in
    plain_marks cs none.0 none.1 none.2

pub marks-stored_cells : (bytes : List (Option ℕ)) → marks (map stored_cell bytes) ≡ replicate (length bytes) Plain
marks-stored_cells [] = refl
marks-stored_cells (b ∷ bytes) = ap (λ ms. Plain ∷ ms) (marks-stored_cells bytes)

-- a store over plain cells leaves the marks
pub marks-with_cells : (cs : List Cell) (at len : ℕ) (other : List Cell) → length other ≡ len
    → marks other ≡ marks (range cs at len)
    → marks (with_cells cs at other) ≡ marks cs
marks-with_cells cs at len other count same =
    let parts : take at cs ++ (range cs at len ++ drop (at + len) cs) ≡ cs =
    rw (← drop-drop len at cs, take-append-drop len (drop at cs)) (take-append-drop at cs) in
    let whole : marks (take at cs ++ range cs at len ++ drop (at + len) cs) ≡ marks cs =
    ap marks (append_assoc (take at cs) (range cs at len) (drop (at + len) cs) ∙ parts) in
    rw (count, map-append, map-append, same) (rw (map-append, map-append) at whole)

-- objects of one reach
abbrev pub Alike : Option Object → Option Object → Type 0
Alike None None = Unit {0}
Alike (Some o) (Some p) = (o.live ≡ p.live) × (marks o.cells ≡ marks p.cells)
Alike _ _ = ⊥

-- a test of marks over a range is one of its marks
any_mark : (is_it : Mark → Bool) (cs : List Cell) → list_any (λ c. is_it c.mark) cs ≡ list_any is_it (marks cs)
any_mark is_it [] = refl
any_mark is_it (x ∷ cs) = ap (λ b. is_it x.mark || b) (any_mark is_it cs)

-- a test of marks tells the same over the same range of two objects with equal marks
any_marks : (is_it : Mark → Bool) (o p : Object) (at len : ℕ) → marks o.cells ≡ marks p.cells
    → list_any (λ c. is_it c.mark) (range o.cells at len) ≡ list_any (λ c. is_it c.mark) (range p.cells at len)
any_marks is_it o p at len same =
    let moved : (cs : List Cell) → marks (range cs at len) ≡ take len (drop at (marks cs)) =
    λ cs. rw (drop-map, take-map) refl in
    any_mark is_it (range o.cells at len)
    ∙ ap (list_any is_it) (moved o.cells ∙ ap (λ ms. take len (drop at ms)) same ∙ sym (moved p.cells))
    ∙ sym (any_mark is_it (range p.cells at len))

-- accesses to objects of one reach are the same case
pub case_alike : (o p : Option Object) → Alike o p → (place : Pointer) (len align : ℕ) (by : By)
    → first_case reach_table (record { object = o; place = place; len = len; align = align }) by
    ≡ first_case reach_table (record { object = p; place = place; len = len; align = align }) by
unfolding reach_table
case_alike None None alike place len align by = refl
case_alike None (Some p) alike place len align by = absurd alike
case_alike (Some o) None alike place len align by = absurd alike
case_alike (Some o) (Some p) alike place len align by =
    let size : length o.cells ≡ length p.cells =
    sym (length-map o.cells (λ (c : Cell). c.mark)) ∙ ap length alike.1 ∙ length-map p.cells (λ (c : Cell). c.mark) in
    rw (
      alike.0,
      size,
      any_marks is_clash o p place.offset len alike.1,
      any_marks is_literal o p place.offset len alike.1,
      any_marks is_const o p place.offset len alike.1,
    ) refl

alike_itself : (o : Option Object) → Alike o o
alike_itself None = tt
alike_itself (Some o) = (refl, refl)

-- what a number finds is of one reach, if the objects at its place are
alike_numbered : (b : Bool) (o p : Object) → Alike (Some o) (Some p)
    → Alike (cond b (Some o) None) (cond b (Some p) None)
alike_numbered true o p alike = alike
alike_numbered false o p alike = tt

-- each number finds objects of one reach before a range is written and after
with_bytes_alike : (objects : List Object) (place : Pointer) (bytes : List (Option ℕ))
    (r : IsLiveRange objects place (length bytes))
    → marked_case (range r.object.cells place.offset (length bytes)) ≡ None
    → (number : ℕ) → Alike (object_of (with_bytes objects place bytes) number) (object_of objects number)
with_bytes_alike objects place bytes r plain number =
    let o : Object = r.object in
    let i : ℕ = place_of place.object in
    let new : Object = record o { cells = with_cells o.cells place.offset (map stored_cell bytes) } in
    let part : List Cell = range o.cells place.offset (length bytes) in
    let count : length part ≡ length bytes =
    length-range o.cells place.offset (length bytes) (omega (arith, r.high, r.within)) in
    let same_part : marks (map stored_cell bytes) ≡ marks part = marks-stored_cells bytes
    ∙ sym (rw count at (unmarked part plain)) in
    let same_marks : marks new.cells ≡ marks o.cells =
    marks-with_cells o.cells place.offset (length bytes) (map stored_cell bytes) (length-map bytes stored_cell)
    same_part in
    let alike : Alike (Some new) (Some o) = (refl, same_marks) in
    let case_here : i ≡ place_of number → Alike (object_of (set objects i new) number) (object_of objects number) =
    λ same.
    let at : slice_get objects (place_of number) ≡ Some o = subst (λ j. slice_get objects j ≡ Some o) same r.at in
    let at_new : slice_get (set objects i new) (place_of number) ≡ Some new =
    subst (λ j. slice_get (set objects i new) j ≡ Some new) same (slice_get-set_same objects i o new r.at) in
    rw (at_new, at) (alike_numbered (number_of o.class (place_of number + 1) == number) new o alike) in
    let case_other : i ≢ place_of number → Alike (object_of (set objects i new) number) (object_of objects number) =
    λ ne.
    rw (slice_get-set_other objects i (place_of number) new ne) (alike_itself (object_of objects number)) in
    rw (with_bytes_at objects place bytes o r.at) (elim (cases_eq i (place_of number)) [
      | inl same ↦ case_here same
      | inr ne ↦ case_other ne
    ])

-- the marks of a range that was reached to store
pub plain_range : (s : Storage) (place : Pointer) (len : ℕ) (reached : IsReachedToStore s place len)
    (r : IsLiveRange s.objects place len)
    → marked_case (range r.object.cells place.offset len) ≡ None
plain_range s place len reached r =
    let a : Access = access s place len reached.align in
    let none : first_case (drop 7 reach_table) a reached.by ≡ None = (passed_rows a reached.by reached.reached).marks in
    let told : marked_case (range (cells a) place.offset len) ≡ None = sym (mark_rows a reached.by reached.storing)
    ∙ none in
    let own : cells a ≡ r.object.cells = rw r.own refl in
    rw own at told

-- What any access reaches, and which case another one is, a store does not change.
pub reach-with_store : (s : Storage) (place : Pointer) (bytes : List (Option ℕ))
    → IsReachedToStore s place (length bytes)
    → (other : Pointer) (len align : ℕ) (by : By) → reach (with_store s place bytes) other len align by
    ≡ reach s other len align by
unfolding with_store
reach-with_store s place [] reached other len align by = refl
reach-with_store s place (b ∷ bytes) reached other len align by =
    let r : IsLiveRange s.objects place (length (b ∷ bytes)) = in_range_to_store s place (length (b ∷ bytes)) reached in
    case_alike (object_of (with_bytes s.objects place (b ∷ bytes)) other.object) (object_of s.objects other.object)
    (with_bytes_alike s.objects place (b ∷ bytes) r (plain_range s place (length (b ∷ bytes)) reached r)
    other.object) other len align by

-- the same, as the operations of the store say it
pub with_store_reach : (s new : Storage) (place : Pointer) (bytes : List (Option ℕ)) (len : ℕ)
    → IsReachedToStore s place len → len ≡ length bytes
    → new ≡ with_store s place bytes → SameReach s new
with_store_reach s new place bytes len reached e is =
    subst (λ (x : Storage). SameReach s x) (sym is)
    (reach-with_store s place bytes (subst (λ n. IsReachedToStore s place n) e reached))
