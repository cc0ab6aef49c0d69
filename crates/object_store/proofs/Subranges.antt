-- Subranges of a range that was reached are reached.
use Rattle.std.proofs.Common.{◌≡◌, ℕ, zero, suc, ◌+◌, ◌≤◌, ◌⊎◌, inl, inr, Bool, true, false, arith}
use Rattle.std.proofs.Common.{refl, sym, ◌∙◌}
use Rattle.std.proofs.Common.{List, [], ◌∷◌, take, drop, Option, None, cond}
use Rattle.std.specs.List.{list_any}
use Rattle.std.specs.Option.{option_or}
use Rattle.std.proofs.lemmas.Grind.{common_steps}
use Rattle.std.proofs.lemmas.List.{drop-drop}
use Rattle.critical_table.specs.declared.case.Case.{Case}
use Rattle.object_store.specs.declared.by.By.{By}
use Rattle.object_store.specs.declared.by.By.TheVariants.{Star, Arrow, Store, TextRead, TextWrite, OtherRead}
use Rattle.object_store.specs.declared.by.By.TheVariants.{OtherWrite}
use Rattle.object_store.specs.declared.cell.Cell.{Cell}
use Rattle.object_store.specs.declared.pointer.Pointer.{Pointer}
use Rattle.object_store.specs.Storage.{Storage}
use Rattle.object_store.specs.Steps.{range}
use Rattle.object_store.specs.Marks.{marked_case}
use Rattle.object_store.specs.Reach.{Access, access, cells, first_case, reach_table, reach, stores, has_mark}
use Rattle.object_store.specs.Reach.{is_clash, is_literal, is_const, is_at_end, is_outside, is_misaligned}
use Rattle.object_store.specs.Subranges.{move_by, SubrangesAreReached, SubrangesAreReachedToStore}
use Rattle.object_store.proofs.RangeLemmas.{Passed, passed_rows}
use Rattle.object_store.proofs.ReachRows.{front_rows, bounds_rows, mark_rows}
use Rattle.object_store.proofs.SameReach.{or_false, no_case}

-- what no element of a front has, none of a part of it has
list_any-subrange : {X : Type 0} (test : X → Bool) (xs : List X) (len at n : ℕ) → at + n ≤ len
    → list_any test (take len xs) ≡ false → list_any test (take n (drop at xs)) ≡ false
list_any-subrange test xs len zero zero room none = refl
list_any-subrange test [] len zero (suc n) room none = refl
list_any-subrange test [] len (suc at) zero room none = refl
list_any-subrange test [] len (suc at) (suc n) room none = refl
list_any-subrange test (x ∷ xs) zero zero (suc n) room none = absurd (omega arith)
list_any-subrange test (x ∷ xs) zero (suc at) n room none = absurd (omega arith)
list_any-subrange test (x ∷ xs) (suc len) zero (suc n) room none =
    let both = or_false (test x) (list_any test (take len xs)) none in
    rw (both.0, list_any-subrange test xs len zero n (omega arith) both.1) refl
list_any-subrange test (x ∷ xs) (suc len) (suc at) n room none =
    list_any-subrange test xs len at n (omega arith) (or_false (test x) (list_any test (take len xs)) none).1

-- a part of cells that may be stored to may be stored to
marked_case-subrange : (cs : List Cell) (from len at n : ℕ) → at + n ≤ len → marked_case (range cs from len) ≡ None
    → marked_case (range cs (from + at) n) ≡ None
marked_case-subrange cs from len at n room none =
    let tests = no_case (list_any (λ (c : Cell). is_clash c.mark) (range cs from len))
    (list_any (λ (c : Cell). is_literal c.mark) (range cs from len))
    (list_any (λ (c : Cell). is_const c.mark) (range cs from len)) none in
    let there : drop (from + at) cs ≡ drop at (drop from cs) = sym (drop-drop at from cs) in
    rw (
      there,
      list_any-subrange (λ (c : Cell). is_clash c.mark) (drop from cs) len at n room tests.0,
      list_any-subrange (λ (c : Cell). is_literal c.mark) (drop from cs) len at n room tests.1,
      list_any-subrange (λ (c : Cell). is_const c.mark) (drop from cs) len at n room tests.2,
    ) refl

-- an access stores or reads
store_or_read : (by : By) → (stores by ≡ true) ⊎ (stores by ≡ false)
store_or_read Star = inr refl
store_or_read Arrow = inr refl
store_or_read Store = inl refl
store_or_read TextRead = inr refl
store_or_read TextWrite = inl refl
store_or_read OtherRead = inr refl
store_or_read OtherWrite = inl refl

-- rows that have no case in the column tell none, whatever they say
no_case_of : (a b c : Bool)
    → (let none : Option Case = None in
    option_or (cond a none none) (option_or (cond b none none) (option_or (cond c none none) none)) ≡ none)
no_case_of true true true = refl
no_case_of true true false = refl
no_case_of true false true = refl
no_case_of true false false = refl
no_case_of false true true = refl
no_case_of false true false = refl
no_case_of false false true = refl
no_case_of false false false = refl

-- no mark stops a read
read_rows : (a : Access) (by : By) → stores by ≡ false → first_case (drop 7 reach_table) a by ≡ None
unfolding reach_table
read_rows a Star s = no_case_of (has_mark is_clash a) (has_mark is_literal a) (has_mark is_const a)
read_rows a Arrow s = no_case_of (has_mark is_clash a) (has_mark is_literal a) (has_mark is_const a)
read_rows a Store s = cc
read_rows a TextRead s = no_case_of (has_mark is_clash a) (has_mark is_literal a) (has_mark is_const a)
read_rows a TextWrite s = cc
read_rows a OtherRead s = no_case_of (has_mark is_clash a) (has_mark is_literal a) (has_mark is_const a)
read_rows a OtherWrite s = cc

-- the rows of marks have no case for a range within one for which they have none
mark_rows-subrange : (s : Storage) (place : Pointer) (len at n align : ℕ) (by : By) → at + n ≤ len
    → first_case (drop 7 reach_table) (access s place len align) by ≡ None
    → first_case (drop 7 reach_table) (access s (move_by at place) n 1) by ≡ None
mark_rows-subrange s place len at n align by room none =
    let whole : Access = access s place len align in
    let part : Access = access s (move_by at place) n 1 in
    elim (store_or_read by) [
      | inl storing ↦ mark_rows part by storing ∙ marked_case-subrange (cells whole) place.offset len at n room
          (sym (mark_rows whole by storing) ∙ none)
      | inr reading ↦ read_rows part by reading
    ]

-- a part of a range that an access reaches is reached by one of that kind, at alignment 1
reach-subrange : (s : Storage) (place : Pointer) (len at n align : ℕ) (by : By) → at + n ≤ len
    → reach s place len align by ≡ None → reach s (move_by at place) n 1 by ≡ None
reach-subrange s place len at n align by room reached =
    let part : Access = access s (move_by at place) n 1 in
    let p : Passed (access s place len align) by = passed_rows (access s place len align) by reached in
    let low : place.low ≤ place.offset = grind (arith, common_steps, p.inside) in
    let high : place.offset + len ≤ place.high = grind (arith, common_steps, p.inside) in
    let at_end : is_at_end part ≡ false = grind (arith, common_steps) in
    let outside : is_outside part ≡ false = grind (arith, common_steps) in
    let aligned : is_misaligned part ≡ false = grind (arith, common_steps) in
    front_rows part by p.some p.even p.odd ∙ bounds_rows part by p.bounds at_end outside aligned
    ∙ mark_rows-subrange s place len at n align by room p.marks

pub subranges_are_reached : SubrangesAreReached
subranges_are_reached s place len at n room r =
    record { align = 1; by = r.by; reached = reach-subrange s place len at n r.align r.by room r.reached }

pub subranges_are_reached_to_store : SubrangesAreReachedToStore
subranges_are_reached_to_store s place len at n room r = record {
  align = 1;
  by = r.by;
  storing = r.storing;
  reached = reach-subrange s place len at n r.align r.by room r.reached;
}
