-- Rows of the table of reaches, and what an answer to a reach says.
use Rattle.std.proofs.Common.{◌≡◌, ℕ, Bool, true, false, cond, drop, Some, None, Result, Ok, Err, OnOk, IsTrue, refl}
use Rattle.std.specs.Option.{option_or}
use Rattle.critical_table.specs.declared.case.Case.{Case}
use Rattle.critical_table.specs.declared.case.Case.TheVariants.{L2, L5, L8}
use Rattle.object_store.specs.declared.by.By.{By}
use Rattle.object_store.specs.declared.by.By.TheVariants.{Star, Arrow, Store, TextRead, TextWrite, OtherRead}
use Rattle.object_store.specs.declared.by.By.TheVariants.{OtherWrite}
use Rattle.object_store.specs.declared.pointer.Pointer.{Pointer}
use Rattle.object_store.specs.Storage.{Storage}
use Rattle.object_store.specs.Steps.{range}
use Rattle.object_store.specs.Reach.{Access, cells, first_case, reach_table, stores, has_mark, is_clash, is_literal}
use Rattle.object_store.specs.Reach.{is_const, is_no_object, is_dead_even, is_dead_odd, has_wrong_bounds, is_at_end}
use Rattle.object_store.specs.Reach.{is_outside, is_misaligned, reach, Tells, IsReached, IsReachedToStore}
use Rattle.object_store.specs.Marks.{marked_case}

-- of the three rows of marks the first that holds tells
mark_order : (b1 b2 b3 : Bool) (x y z : Case)
    → option_or (cond b1 (Some x) None) (option_or (cond b2 (Some y) None) (option_or (cond b3 (Some z) None) None))
    ≡ cond b1 (Some x) (cond b2 (Some y) (cond b3 (Some z) None))
mark_order true b2 b3 x y z = refl
mark_order false true b3 x y z = refl
mark_order false false true x y z = refl
mark_order false false false x y z = refl

-- by an access that stores they are the marks' own case
pub mark_rows : (a : Access) (by : By) → stores by ≡ true
    → first_case (drop 7 reach_table) a by ≡ marked_case (range (cells a) a.place.offset a.len)
unfolding reach_table
mark_rows a Star s = cc
mark_rows a Arrow s = cc
mark_rows a Store s = mark_order (has_mark is_clash a) (has_mark is_literal a) (has_mark is_const a) L2 L5 L8
mark_rows a TextRead s = cc
mark_rows a TextWrite s = mark_order (has_mark is_clash a) (has_mark is_literal a) (has_mark is_const a) L2 L5 L8
mark_rows a OtherRead s = cc
mark_rows a OtherWrite s = mark_order (has_mark is_clash a) (has_mark is_literal a) (has_mark is_const a) L2 L5 L8

-- an access to a live object passes the first rows
pub front_rows : (a : Access) (by : By) → is_no_object a ≡ false → is_dead_even a ≡ false → is_dead_odd a ≡ false
    → first_case reach_table a by ≡ first_case (drop 3 reach_table) a by
unfolding reach_table
front_rows a by some even odd = rw (some, even, odd) refl

-- an access that none of the earlier rows fits
pub bounds_rows : (a : Access) (by : By) → has_wrong_bounds a ≡ false → is_at_end a ≡ false → is_outside a ≡ false
    → is_misaligned a ≡ false
    → first_case (drop 3 reach_table) a by ≡ first_case (drop 7 reach_table) a by
unfolding reach_table
bounds_rows a by right more inside aligned = rw (right, more, inside, aligned) refl

-- what an answer to a reach says of the range
pub ok_reached : (s : Storage) (place : Pointer) (len align : ℕ) (by : By) (answer : Result (Unit {0}) Case)
    → Tells answer (reach s place len align by) → OnOk answer (IsReached s place len)
ok_reached s place len align by (Ok u) told = record { align = align; by = by; reached = told }
ok_reached s place len align by (Err e) told = tt

-- the same of an access that stores
pub ok_reached_to_store : (s : Storage) (place : Pointer) (len align : ℕ) (by : By) (answer : Result (Unit {0}) Case)
    → Tells answer (reach s place len align by) → OnOk answer (IsTrue (stores by) → IsReachedToStore s place len)
ok_reached_to_store s place len align by (Ok u) told =
    λ storing. record { align = align; by = by; storing = storing; reached = told }
ok_reached_to_store s place len align by (Err e) told = tt
