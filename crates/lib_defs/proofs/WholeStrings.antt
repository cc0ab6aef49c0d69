-- A string that is read to its null is the same whatever greater bound is put to it: no object has more units.
use Rattle.std.proofs.Common.{◌≡◌, ℕ, zero, suc, ◌+◌, ◌*◌, ◌<◌, ◌≤◌, ◌⊎◌, inl, inr, false, length, Option}
use Rattle.std.proofs.Common.{Some, None, refl, subst, sym, arith}
use Rattle.std.specs.Prelude.{ℤ}
use Rattle.critical_table.specs.declared.case.Case.{Case}
use Rattle.object_store.specs.declared.by.By.{By}
use Rattle.object_store.specs.declared.by.By.TheVariants.{TextRead, OtherRead}
use Rattle.object_store.specs.declared.pointer.Pointer.{Pointer}
use Rattle.object_store.specs.Storage.{Storage}
use Rattle.object_store.specs.Reach.{reach}
use Rattle.lib_defs.specs.declared.reading.Reading.{Reading}
use Rattle.lib_defs.specs.declared.reading.Reading.TheVariants.{Length, Unreached, Unknown}
use Rattle.lib_defs.specs.Units.{rsize_max, unit_place}
use Rattle.lib_defs.specs.Spans.{IsTested, Reads}
use Rattle.lib_defs.specs.Text.{goes_on, text}
use Rattle.lib_defs.specs.Reply.{Stop}
use Rattle.lib_defs.specs.Constraints.{Look, Saw, Stuck, look, reach_seen, see_range}
use Rattle.lib_defs.specs.PlainTexts.{see_unit, unit_order, or_later, order_from, text_order}
use Rattle.lib_defs.specs.Characters.{Characters, EndsWith, AreRead, characters_at, string_at}
use Rattle.lib_defs.specs.Laws.{IsSized}
use Rattle.lib_defs.proofs.Spans.{span_is, span_reads}
use Rattle.lib_defs.proofs.Parts.{reach_end}
use Rattle.lib_defs.proofs.CharacterLemmas.{characters_read, characters_alone}
use Rattle.lib_defs.proofs.PlainFits.{some_more, string_short}

-- what was seen was reached
seen_reach : {A : Type 0} (s : Storage) (place : Pointer) (len align : ℕ) (by : By) (go : Look A) (a : A)
    → see_range s place len align by go ≡ Saw a → reach s place len align by ≡ None
seen_reach s place len align by go a e = at_case (reach s place len align by) refl e
  where
    at_case : (o : Option Case) → reach s place len align by ≡ o → reach_seen o place len align by go ≡ Saw a
        → reach s place len align by ≡ None
    at_case None is e = is
    at_case (Some case) is e = cc

-- a unit that is reached has a number below RSIZE_MAX
unit_below : (w : ℕ) → 0 < w → (s : Storage) (p : Pointer) (k : ℕ) (by : By) → IsSized s
    → reach s (unit_place w p k) w w by ≡ None → k < rsize_max
unit_below w some s p k by sized e =
    let end : p.offset + w * k + w ≤ rsize_max = reach_end s (unit_place w p k) w w by sized e in
    let more : k ≤ w * k = some_more w k some in
    omega (arith, end, more, some)

module _ (s : Storage) (sized : IsSized s) (most : ℕ) (great : rsize_max + 1 ≤ most) where
  -- texts
  ended_more : (w : ℕ) (p : Pointer) (n : ℕ) → n < rsize_max + 1
      → (n ≡ rsize_max + 1) ⊎ IsTested goes_on false w s p n
      → (n ≡ most) ⊎ IsTested goes_on false w s p n
  ended_more w p n less (inl same) = absurd (omega (arith, less, same))
  ended_more w p n less (inr ended) = inr ended

  reads_more : (w : ℕ) → 0 < w → (p : Pointer) (r : Reading) → text w s p (rsize_max + 1) ≡ r
      → Reads goes_on w s p (rsize_max + 1) r → Reads goes_on w s p most r
  reads_more w some p (Length n) e h = record {
    within = omega (arith, great, h.within);
    before = h.before;
    ended = ended_more w p n (string_short w some s p n sized e) h.ended;
  }
  reads_more w some p (Unreached case place) e h =
      record { n = h.n; within = omega (arith, great, h.within); before = h.before; at = h.at; fails = h.fails }
  reads_more w some p Unknown e h =
      record { n = h.n; within = omega (arith, great, h.within); before = h.before; unit = h.unit }

  pub text_whole : (w : ℕ) → 0 < w → (p : Pointer) → text w s p most ≡ text w s p (rsize_max + 1)
  text_whole w some p =
      span_is goes_on w s p most (text w s p (rsize_max + 1))
      (reads_more w some p (text w s p (rsize_max + 1)) refl (span_reads goes_on w s p (rsize_max + 1)))

  -- characters
  characters_more : (p : Pointer) (c : Characters) → AreRead s p 0 (rsize_max + 1) c → AreRead s p 0 most c
  characters_more p c h =
      record { within = omega (arith, great, h.within); each = h.each; ended = ended c.stop h.ended }
    where
      last : length c.list ≡ rsize_max + 1 → ⊥
      last same =
          let read = (h.each rsize_max (omega (arith, same))).read in
          let below : 0 + rsize_max < rsize_max =
          unit_below 1 (omega arith) s p (0 + rsize_max) OtherRead sized
          (seen_reach s (unit_place 1 p (0 + rsize_max)) 1 1 OtherRead _ _ read) in
          omega (arith, below)

      ended : (stop : Option Stop) → EndsWith s p 0 (length c.list) (rsize_max + 1) stop
          → EndsWith s p 0 (length c.list) most stop
      ended None (inl same) = absurd (last same)
      ended None (inr null) = inr null
      ended (Some stop) end = (omega (arith, great, end.0), end.1)

  pub characters_whole : (p : Pointer) → characters_at s p most ≡ string_at s p
  characters_whole p =
      characters_alone s p 0 most (string_at s p) (characters_more p (string_at s p)
      (characters_read s p (rsize_max + 1) 0))

  -- comparisons
  module _ (value : ℕ → ℤ) (w : ℕ) (some : 0 < w) (p q : Pointer) where
    abbrev Behind : ℕ → Type 0
    Behind k = (j : ℕ) → suc j ≡ k → reach s (unit_place w p j) w w TextRead ≡ None

    by_unit : (k m n : ℕ) (a : ℕ) (other : Look ℕ) → order_from value w s p q (suc k) n
        ≡ order_from value w s p q (suc k) m
        → look other (λ b. or_later (unit_order value a b) (λ u. order_from value w s p q (suc k) n))
        ≡ look other (λ b. or_later (unit_order value a b) (λ u. order_from value w s p q (suc k) m))
    by_unit k m n a (Stuck stop) same = refl
    by_unit k m n a (Saw b) same = at_order (unit_order value a b)
      where
        at_order : (o : Option ℤ)
            → or_later o (λ u. order_from value w s p q (suc k) n)
            ≡ or_later o (λ u. order_from value w s p q (suc k) m)
        at_order None = same
        at_order (Some answer) = refl

    by_units : (k m n : ℕ) (seen : Look ℕ) → see_unit w s (unit_place w p k) ≡ seen
        → (Behind (suc k) → order_from value w s p q (suc k) n ≡ order_from value w s p q (suc k) m)
        → look seen (λ a. look (see_unit w s (unit_place w q k)) (λ b.
        or_later (unit_order value a b) (λ u. order_from value w s p q (suc k) n)))
        ≡ look seen (λ a. look (see_unit w s (unit_place w q k)) (λ b.
        or_later (unit_order value a b) (λ u. order_from value w s p q (suc k) m)))
    by_units k m n (Stuck stop) e next = refl
    by_units k m n (Saw a) e next = by_unit k m n a (see_unit w s (unit_place w q k)) (next (λ j same.
        let is : j ≡ k = omega (arith, same) in
        subst (λ (i : ℕ). reach s (unit_place w p i) w w TextRead ≡ None) (sym is)
        (seen_reach s (unit_place w p k) w w TextRead _ a e)))

    too_far : (k : ℕ) → rsize_max + 1 ≤ k → Behind k → ⊥
    too_far zero far behind = omega (arith, far)
    too_far (suc j) far behind =
        let below : j < rsize_max = unit_below w some s p j TextRead sized (behind j refl) in
        omega (arith, far, below)

    order_more : (m n k : ℕ) → m ≤ n → rsize_max + 1 ≤ k + m → Behind k
        → order_from value w s p q k n ≡ order_from value w s p q k m
    order_more zero n k le far behind = absurd (too_far k (omega (arith, far)) behind)
    order_more (suc m) zero k le far behind = absurd (omega (arith, le))
    order_more (suc m) (suc n) k le far behind =
        by_units k m n (see_unit w s (unit_place w p k)) refl
        (order_more m n (suc k) (omega (arith, le)) (omega (arith, far)))

    pub order_whole : text_order value w s p q most ≡ text_order value w s p q (rsize_max + 1)
    order_whole = order_more (rsize_max + 1) most 0 great (omega arith) (λ j same. absurd (omega (arith, same)))
