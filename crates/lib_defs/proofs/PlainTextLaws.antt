-- The string functions keep the laws.
use Rattle.std.proofs.Common.{◌≡◌, ℕ, zero, suc, ◌+◌, ◌-◌, ◌*◌, ◌==◌, ◌<◌, ◌≤◌, Bool, true, false, cond, List, [], ◌∷◌}
use Rattle.std.proofs.Common.{length, replicate, Option, Some, None, refl, sym, subst, arith}
use Rattle.std.specs.Prelude.{ℤ, pos, int_lt}
use Rattle.std.proofs.lemmas.List.{length-replicate}
use Rattle.object_store.specs.declared.by.By.TheVariants.{TextRead, TextWrite}
use Rattle.object_store.specs.declared.pointer.Pointer.{Pointer}
use Rattle.object_store.specs.Storage.{Storage}
use Rattle.object_store.specs.Steps.{bytes_at}
use Rattle.object_store.specs.Load.{known_number}
use Rattle.object_store.specs.Reach.{reach, IsReachedToStore}
use Rattle.lib_defs.specs.declared.value.Value.{Value}
use Rattle.lib_defs.specs.declared.value.Value.TheVariants.{Num, Ptr}
use Rattle.lib_defs.specs.declared.reading.Reading.TheVariants.{Length}
use Rattle.lib_defs.specs.Units.{rsize_max, size, unit_place}
use Rattle.lib_defs.specs.Text.{goes_on, text}
use Rattle.lib_defs.specs.Reply.{Did, null}
use Rattle.lib_defs.specs.Constraints.{Look, see_text, see_string}
use Rattle.lib_defs.specs.Columns.{units, ended_units}
use Rattle.lib_defs.specs.Rules.{look_then}
use Rattle.lib_defs.specs.Prototypes.{IsGiven, int, size_t}
use Rattle.lib_defs.specs.PlainMemory.{see_known, order}
use Rattle.lib_defs.specs.PlainTexts.{length_did, text_copy_did, append_did, part_copy_did, part_append_did, see_unit}
use Rattle.lib_defs.specs.PlainTexts.{or_later, order_from, text_order, part_order_did, found_did, text_find_did}
use Rattle.lib_defs.specs.Laws.{IsSized, AreReached}
use Rattle.lib_defs.proofs.Parts.{part_reached, front_reached, size_exact}
use Rattle.lib_defs.proofs.RuleLemmas.{bytes_long, stores_reached}
use Rattle.lib_defs.proofs.RuleSuccess.{length_of, size_within}
use Rattle.lib_defs.proofs.WholeTexts.{span_reached, span_within}
use Rattle.lib_defs.proofs.TextLaws.{text_fits}
use Rattle.lib_defs.proofs.PartLaws.{units_long, ended_reached}
use Rattle.lib_defs.proofs.Forms.{size_given}
use Rattle.lib_defs.proofs.PlainFits.{PlainFits, Sees, sees_fits, sees_look, sees_known, sees_range, fits_reach}
use Rattle.lib_defs.proofs.PlainFits.{fits_look}
use Rattle.lib_defs.proofs.PlainFits.{fits_unless, fits_stores, fits_answer, string_short}
use Rattle.lib_defs.proofs.PlainMemoryLaws.{AnyPointer, AnyInt, order_given, equal_given}

abbrev Anything : ℕ → Type 0
Anything k = Unit {0}

module _ (s : Storage) (sized : IsSized s) where
  -- goes on with the length of a text, and of one that has its null
  with_text : (P : Value → Type 0) (w : ℕ) (p : Pointer) (m : ℕ) (go : ℕ → Did)
      → ((k : ℕ) → text w s p m ≡ Length k → PlainFits P s (go k))
      → PlainFits P s (look_then (see_text w s p m) go)
  with_text P w p m go next =
      fits_look P s Anything (see_text w s p m) go (sees_fits s (see_text w s p m) (text_fits w s p m))
      (λ k e u. next k (length_of w (text w s p m) k e))

  with_string : (P : Value → Type 0) (w : ℕ) → 0 < w → (p : Pointer) (go : ℕ → Did)
      → ((k : ℕ) → text w s p (rsize_max + 1) ≡ Length k → k < rsize_max + 1 → PlainFits P s (go k))
      → PlainFits P s (look_then (see_string w s p) go)
  with_string P w some p go next =
      with_text P w p (rsize_max + 1) go (λ k e. next k e (string_short w some s p k sized e))

  pub length_fits : (w : ℕ) → 0 < w → (p : Pointer) → PlainFits (IsGiven size_t) s (length_did w s p)
  length_fits w some p = with_string (IsGiven size_t) w some p _ (λ k e less.
      fits_answer (IsGiven size_t) s (Num (pos k)) (size_given k (omega (arith, less))))

  -- the units of a string with its null, where their destination is reached
  string_reached : (w : ℕ) → 0 < w → (to from : Pointer) (k : ℕ) → text w s from (rsize_max + 1) ≡ Length k
      → k < rsize_max + 1 → reach s to (size w (k + 1)) w TextWrite ≡ None
      → IsReachedToStore s to (length (units w s from (k + 1)))
  string_reached w some to from k e less write =
      stores_reached s to (size w (k + 1)) w (units w s from (k + 1))
      (bytes_long s from (size w (k + 1))
      (span_reached goes_on w s from some (rsize_max + 1) k (size w (k + 1)) e less (size_within w k))) write

  pub text_copy_fits : (w : ℕ) → 0 < w → (s1 s2 : Pointer) → PlainFits AnyPointer s (text_copy_did w s s1 s2)
  text_copy_fits w some s1 s2 = with_string AnyPointer w some s2 _ (λ k e less.
      fits_unless AnyPointer s _ _
      (fits_reach AnyPointer s s1 (size w (k + 1)) w TextWrite _ (λ write.
      fits_stores AnyPointer s (record { place = s1; bytes = units w s s2 (k + 1) } ∷ []) (Ptr s1)
      (string_reached w some s1 s2 k e less write, tt) (omega arith) tt)))

  pub append_fits : (w : ℕ) → 0 < w → (s1 s2 : Pointer) → PlainFits AnyPointer s (append_did w s s1 s2)
  append_fits w some s1 s2 = with_string AnyPointer w some s1 _ (λ j front few.
      with_string AnyPointer w some s2 _ (λ k e less.
      fits_unless AnyPointer s _ _
      (fits_reach AnyPointer s (unit_place w s1 j) (size w (k + 1)) w TextWrite _ (λ write.
      fits_stores AnyPointer s (record { place = unit_place w s1 j; bytes = units w s s2 (k + 1) } ∷ []) (Ptr s1)
      (string_reached w some (unit_place w s1 j) s2 k e less write, tt) (omega arith) tt))))

  -- k bytes of a text and the nulls behind them
  padded_reached : (s1 s2 : Pointer) (n k : ℕ) → text 1 s s2 n ≡ Length k → reach s s1 (size 1 n) 1 TextWrite ≡ None
      → AreReached s
      (record { place = s1; bytes = bytes_at s s2 k }
      ∷ record { place = unit_place 1 s1 k; bytes = replicate (n - k) (Some 0) }
      ∷ [])
  padded_reached s1 s2 n k e write =
      let within : k ≤ n = span_within goes_on 1 s s2 (omega arith) n k e in
      let exact : size 1 n ≡ 1 * n = size_exact s s1 1 n 1 TextWrite sized write in
      let once : 1 * k ≡ k = omega arith in
      let long : length (bytes_at s s2 k) ≡ k =
      subst (λ (j : ℕ). length (bytes_at s s2 j) ≡ j) once (units_long 1 s s2 n k (omega arith) e) in
      let zeros : List (Option ℕ) = replicate (n - k) (Some 0) in
      let nulls : length zeros ≡ n - k = length-replicate (n - k) (Some 0) in
      let whole : IsReachedToStore s s1 (size 1 n) =
      record { align = 1; by = TextWrite; storing = refl; reached = write } in
      let first : IsReachedToStore s s1 k = front_reached s s1 (size 1 n) k (omega (arith, within, exact)) whole in
      let second : IsReachedToStore s (unit_place 1 s1 k) (n - k) =
      part_reached s s1 (size 1 n) (1 * k) (n - k) (omega (arith, within, exact)) whole in (
        subst (λ (j : ℕ). IsReachedToStore s s1 j) (sym long) first,
        (subst (λ (j : ℕ). IsReachedToStore s (unit_place 1 s1 k) j) (sym nulls) second, tt),
      )

  pub part_copy_fits : (s1 s2 : Pointer) (n : ℕ) → PlainFits AnyPointer s (part_copy_did s s1 s2 n)
  part_copy_fits s1 s2 n = with_text AnyPointer 1 s2 n _ (λ k e.
      fits_unless AnyPointer s _ _
      (fits_reach AnyPointer s s1 (size 1 n) 1 TextWrite _ (λ write.
      fits_stores AnyPointer s _ (Ptr s1) (padded_reached s1 s2 n k e write) (omega arith) tt)))

  pub part_append_fits : (s1 s2 : Pointer) (n : ℕ) → PlainFits AnyPointer s (part_append_did s s1 s2 n)
  part_append_fits s1 s2 n = with_string AnyPointer 1 (omega arith) s1 _ (λ j front few.
      with_text AnyPointer 1 s2 n _ (λ k e.
      fits_unless AnyPointer s _ _
      (fits_reach AnyPointer s (unit_place 1 s1 j) (size 1 (k + 1)) 1 TextWrite _ (λ write.
      fits_stores AnyPointer s (ended_units 1 s (unit_place 1 s1 j) s2 k) (Ptr s1)
      (ended_reached 1 s (unit_place 1 s1 j) s2 k sized (units_long 1 s s2 n k (omega arith) e) write) (omega arith)
      tt))))

  -- comparisons
  unit_sees : (w : ℕ) (p : Pointer) → Sees Anything s (see_unit w s p)
  unit_sees w p = sees_range Anything s p w w TextRead (see_known (known_number (bytes_at s p w)))
      (sees_known s (known_number (bytes_at s p w)))

  decided_sees : (equal last : Bool) (z : ℤ) → AnyInt z → (later : Unit {0} → Look ℤ) → Sees AnyInt s (later tt)
      → Sees AnyInt s (or_later (cond equal (cond last (Some (pos 0)) None) (Some z)) later)
  decided_sees true true z given later h = equal_given
  decided_sees true false z given later h = h
  decided_sees false last z given later h = given

  order_sees : (value : ℕ → ℤ) (w : ℕ) (p q : Pointer) (k most : ℕ)
      → Sees AnyInt s (order_from value w s p q k most)
  order_sees value w p q k zero = equal_given
  order_sees value w p q k (suc most) =
      sees_look Anything AnyInt s (see_unit w s (unit_place w p k)) _ (unit_sees w (unit_place w p k)) (λ a u.
      sees_look Anything AnyInt s (see_unit w s (unit_place w q k)) _ (unit_sees w (unit_place w q k)) (λ b v.
      decided_sees (a == b) (a == 0) (order (int_lt (value a) (value b))) (order_given (int_lt (value a) (value b))) _
      (order_sees value w p q (suc k) most)))

  pub order_fits : (value : ℕ → ℤ) (w : ℕ) (s1 s2 : Pointer) (n : ℕ)
      → PlainFits (IsGiven int) s (part_order_did value w s s1 s2 n)
  order_fits value w s1 s2 n =
      fits_look (IsGiven int) s AnyInt (text_order value w s s1 s2 n) _ (order_sees value w s1 s2 0 n)
      (λ answer e given. fits_answer (IsGiven int) s (Num answer) given)

  found_fits : (p : Pointer) (found : Option ℕ) → PlainFits AnyPointer s (found_did p found)
  found_fits p None = fits_answer AnyPointer s (Ptr null) tt
  found_fits p (Some k) = fits_answer AnyPointer s (Ptr (unit_place 1 p k)) tt

  pub text_find_fits : (p : Pointer) (find : List (Option ℕ) → Option ℕ)
      → PlainFits AnyPointer s (text_find_did s p find)
  text_find_fits p find = with_text AnyPointer 1 p (rsize_max + 1) _ (λ k e. found_fits p (find (units 1 s p (k + 1))))
