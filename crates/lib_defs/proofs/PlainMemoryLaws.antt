-- The memory functions keep the laws.
use Rattle.std.proofs.Common.{◌≡◌, ℕ, ◌==◌, nat_lt, Bool, true, false, cond, not, List, [], ◌∷◌, length, Option, None}
use Rattle.std.proofs.Common.{sym, ◌∙◌, arith}
use Rattle.std.specs.Prelude.{ℤ, pos}
use Rattle.std.proofs.lemmas.Int.{ints}
use Rattle.object_store.specs.declared.by.By.TheVariants.{TextRead, TextWrite}
use Rattle.object_store.specs.declared.pointer.Pointer.{Pointer}
use Rattle.object_store.specs.Storage.{Storage}
use Rattle.object_store.specs.Reach.{reach, IsReachedToStore}
use Rattle.lib_defs.specs.declared.value.Value.{Value}
use Rattle.lib_defs.specs.declared.value.Value.TheVariants.{Num, Ptr}
use Rattle.lib_defs.specs.Units.{size, unit_place}
use Rattle.lib_defs.specs.Spans.{span}
use Rattle.lib_defs.specs.Reply.{null}
use Rattle.lib_defs.specs.Constraints.{Look, Saw, length_seen}
use Rattle.lib_defs.specs.Columns.{units}
use Rattle.lib_defs.specs.Prototypes.{IsGiven, GivesPointer, int}
use Rattle.lib_defs.specs.PlainMemory.{copy_did, move_did, equal_units, fill_did, see_known, order, byte_order}
use Rattle.lib_defs.specs.PlainMemory.{memory_order_did, memory_find_did}
use Rattle.lib_defs.specs.Laws.{IsSized}
use Rattle.lib_defs.proofs.Parts.{size_exact}
use Rattle.lib_defs.proofs.RuleLemmas.{span_fits, bytes_long, stores_reached}
use Rattle.lib_defs.proofs.Forms.{int_given}
use Rattle.lib_defs.proofs.PlainFits.{PlainFits, Sees, sees_fits, sees_look, sees_known, fits_reach, fits_look}
use Rattle.lib_defs.proofs.PlainFits.{fits_unless}
use Rattle.lib_defs.proofs.PlainFits.{fits_stores, fits_answer, length-equal_units}

-- the values of functions that give a pointer, and of comparisons
abbrev pub AnyPointer : Value → Type 0
AnyPointer value = IsGiven GivesPointer value

abbrev pub AnyInt : ℤ → Type 0
AnyInt n = IsGiven int (Num n)

pub order_given : (less : Bool) → AnyInt (order less)
order_given true = record { least = omega (arith, ints); greatest = omega (arith, ints) }
order_given false = int_given 1 (omega arith)

pub equal_given : AnyInt (pos 0)
equal_given = int_given 0 (omega arith)

module _ (s : Storage) where
  copies_reached : (w n : ℕ) (s1 s2 : Pointer) → reach s s2 (size w n) w TextRead ≡ None
      → reach s s1 (size w n) w TextWrite ≡ None → IsReachedToStore s s1 (length (units w s s2 n))
  copies_reached w n s1 s2 read write =
      stores_reached s s1 (size w n) w (units w s s2 n)
      (bytes_long s s2 (size w n) (record { align = w; by = TextRead; reached = read })) write

  pub copy_fits : (w : ℕ) (s1 s2 : Pointer) (n : ℕ) → PlainFits AnyPointer s (copy_did w s s1 s2 n)
  copy_fits w s1 s2 n =
      fits_reach AnyPointer s s2 (size w n) w TextRead _ (λ read.
      fits_unless AnyPointer s _ _
      (fits_reach AnyPointer s s1 (size w n) w TextWrite _ (λ write.
      fits_stores AnyPointer s (record { place = s1; bytes = units w s s2 n } ∷ []) (Ptr s1)
      (copies_reached w n s1 s2 read write, tt) (omega arith) tt)))

  pub move_fits : (s1 s2 : Pointer) (n : ℕ) → PlainFits AnyPointer s (move_did s s1 s2 n)
  move_fits s1 s2 n =
      fits_reach AnyPointer s s2 (size 1 n) 1 TextRead _ (λ read.
      fits_reach AnyPointer s s1 (size 1 n) 1 TextWrite _ (λ write.
      fits_stores AnyPointer s (record { place = s1; bytes = units 1 s s2 n } ∷ []) (Ptr s1)
      (copies_reached 1 n s1 s2 read write, tt) (omega arith) tt))

  pub fill_fits : (w : ℕ) → IsSized s → (p : Pointer) (number n : ℕ) → PlainFits AnyPointer s (fill_did w s p number n)
  fill_fits w sized p number n =
      fits_reach AnyPointer s p (size w n) w TextWrite _ (λ write.
      fits_stores AnyPointer s (record { place = p; bytes = equal_units w n number } ∷ []) (Ptr p) (
        stores_reached s p (size w n) w (equal_units w n number)
            (length-equal_units w n number ∙ sym (size_exact s p w n w TextWrite sized write)) write,
        tt,
      ) (omega arith) tt)

  order_test : (b : Bool) (x y : Look ℤ) → Sees AnyInt s x → Sees AnyInt s y → Sees AnyInt s (cond b x y)
  order_test true x y hx hy = hx
  order_test false x y hx hy = hy

  order_sees : (xs ys : List (Option ℕ)) → Sees AnyInt s (byte_order xs ys)
  order_sees [] [] = equal_given
  order_sees [] (y ∷ ys) = equal_given
  order_sees (x ∷ xs) [] = equal_given
  order_sees (x ∷ xs) (y ∷ ys) =
      sees_look (λ (n : ℕ). Unit {0}) AnyInt s (see_known x) _ (sees_known s x) (λ a u.
      sees_look (λ (n : ℕ). Unit {0}) AnyInt s (see_known y) _ (sees_known s y) (λ b v.
      order_test (a == b) (byte_order xs ys) (Saw (order (nat_lt a b))) (order_sees xs ys) (order_given (nat_lt a b))))

  pub memory_order_fits : (s1 s2 : Pointer) (n : ℕ)
      → PlainFits (IsGiven int) s (memory_order_did s s1 s2 n)
  memory_order_fits s1 s2 n =
      fits_reach (IsGiven int) s s1 (size 1 n) 1 TextRead _ (λ one.
      fits_reach (IsGiven int) s s2 (size 1 n) 1 TextRead _ (λ other.
      fits_look (IsGiven int) s AnyInt (byte_order (units 1 s s1 n) (units 1 s s2 n)) _
      (order_sees (units 1 s s1 n) (units 1 s s2 n))
      (λ answer e given. fits_answer (IsGiven int) s (Num answer) given)))

  pub memory_find_fits : (p : Pointer) (c n : ℕ) → PlainFits AnyPointer s (memory_find_did s p c n)
  memory_find_fits p c n =
      fits_look AnyPointer s (λ (k : ℕ). Unit {0}) (length_seen 1 (span (λ b. not (b == c)) 1 s p n)) _
      (sees_fits s (length_seen 1 (span (λ b. not (b == c)) 1 s p n)) (span_fits (λ b. not (b == c)) 1 s p n))
      (λ k e u. fits_answer AnyPointer s (Ptr (cond (k == n) null (unit_place 1 p k))) tt)
