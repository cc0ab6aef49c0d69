-- The units of a text are reached together.
use Rattle.std.proofs.Common.{◌≡◌, ℕ, zero, suc, ◌+◌, ◌*◌, ◌<◌, ◌≤◌, inl, inr, Bool, true, false, cond, drop, Option}
use Rattle.std.proofs.Common.{None, refl, sym, ap, ◌∙◌, subst, arith}
use Rattle.std.specs.Option.{option_or}
use Rattle.std.proofs.lemmas.Grind.{common_steps}
use Rattle.critical_table.specs.declared.case.Case.{Case}
use Rattle.object_store.specs.declared.by.By.TheVariants.{TextRead}
use Rattle.object_store.specs.declared.pointer.Pointer.{Pointer}
use Rattle.object_store.specs.Storage.{Storage}
use Rattle.object_store.specs.Reach.{Access, access, first_case, reach_table, reach, is_at_end, is_outside}
use Rattle.object_store.specs.Reach.{is_misaligned, has_mark, is_clash, is_literal, is_const, IsReached}
use Rattle.object_store.proofs.ReachRows.{bounds_rows}
use Rattle.object_store.proofs.RangeLemmas.{Passed, passed_rows}
use Rattle.lib_defs.specs.declared.reading.Reading.TheVariants.{Length}
use Rattle.lib_defs.specs.Units.{unit_place}
use Rattle.lib_defs.specs.Spans.{IsTested, AllPass, Ends, Reads, span}
use Rattle.lib_defs.proofs.Spans.{span_reads, nat_split}

no_marks : (a b c : Bool)
    → ◌≡◌ {A = Option Case}
    (option_or (cond a None None) (option_or (cond b None None) (option_or (cond c None None) None))) None
no_marks true true true = refl
no_marks true true false = refl
no_marks true false true = refl
no_marks true false false = refl
no_marks false true true = refl
no_marks false true false = refl
no_marks false false true = refl
no_marks false false false = refl

read_marks : (a : Access) → first_case (drop 7 reach_table) a TextRead ≡ None
unfolding reach_table
read_marks a = no_marks (has_mark is_clash a) (has_mark is_literal a) (has_mark is_const a)

first_rows : (a b : Access) → Passed a TextRead → a.object ≡ b.object → a.place ≡ b.place
    → first_case reach_table b TextRead ≡ first_case (drop 3 reach_table) b TextRead
unfolding reach_table
first_rows a b p same here =
    rw (← same, ← here, p.some, p.even, p.odd) refl

first_place : (w : ℕ) (p : Pointer) → p ≡ unit_place w p 0
first_place w p = let e : p.offset ≡ p.offset + w * 0 = omega arith in ap (λ (n : ℕ). record p { offset = n }) e

-- Where the first unit and a later one are reached, so is what lies between.
pub reads_between : (w : ℕ) (s : Storage) (p : Pointer) (k len : ℕ) → 0 < w
    → reach s (unit_place w p 0) w w TextRead ≡ None → reach s (unit_place w p k) w w TextRead ≡ None
    → len ≤ w * k + w → IsReached s p len
reads_between w s p k len some first last within =
    let here : reach s p w w TextRead ≡ None =
    subst (λ (q : Pointer). reach s q w w TextRead ≡ None) (sym (first_place w p)) first in
    let a : Access = access s p w w in
    let b : Access = access s p len 1 in
    let pf = passed_rows a TextRead here in
    let pl = passed_rows (access s (unit_place w p k) w w) TextRead last in
    let x : ℕ = w * k in
    let far : p.offset + x + w ≤ p.high = grind (arith, common_steps, pl.inside) in
    let more : is_at_end b ≡ false = grind (arith, common_steps, far) in
    let inside : is_outside b ≡ false = grind (arith, common_steps, far, pf.inside) in
    let aligned : is_misaligned b ≡ false = grind (arith, common_steps) in
    record {
      align = 1;
      by = TextRead;
      reached = first_rows a b pf refl refl
          ∙ bounds_rows b TextRead pf.bounds more inside aligned ∙ read_marks b;
    }

module _ (test : ℕ → Bool) (w : ℕ) (s : Storage) (p : Pointer) (some : 0 < w) where
  reached_at : (n j : ℕ) → AllPass test w s p n → IsTested test false w s p n → j ≤ n
      → reach s (unit_place w p j) w w TextRead ≡ None
  reached_at n j on last le = elim (nat_split j n le) [
    | inl e ↦ subst (λ i. reach s (unit_place w p i) w w TextRead ≡ None) (sym e) last.unit.reached
    | inr lt ↦ (on j lt).unit.reached
  ]

  ends_reached : (m n len : ℕ) → Ends test w s p m n → n < m → len ≤ w * n + w → IsReached s p len
  ends_reached m n len h more within = elim h.ended [
    | inl e ↦ absurd (omega arith)
    | inr last ↦ reads_between w s p n len some (reached_at n 0 h.before last (omega arith)) last.unit.reached within
  ]

  -- units that end before they run out are reached with the one that ends them
  pub span_reached : (m n len : ℕ) → span test w s p m ≡ Length n → n < m → len ≤ w * n + w → IsReached s p len
  span_reached m n len e more within =
      ends_reached m n len (subst (λ r. Reads test w s p m r) e (span_reads test w s p m)) more within

  front_reached : (m n len : ℕ) → 0 < n → Ends test w s p m n → len ≤ w * n → IsReached s p len
  front_reached m zero len more h within = absurd (omega arith)
  front_reached m (suc n) len more h within =
      let next : w * suc n ≡ w * n + w = grind arith in
      reads_between w s p n len some (h.before 0 (omega arith)).unit.reached (h.before n (omega arith)).unit.reached
      (omega (arith, next))

  -- and without it, where there is one
  pub units_reached : (m n len : ℕ) → 0 < n → span test w s p m ≡ Length n → len ≤ w * n → IsReached s p len
  units_reached m n len more e within =
      front_reached m n len more (subst (λ r. Reads test w s p m r) e (span_reads test w s p m)) within

  pub span_within : (m n : ℕ) → span test w s p m ≡ Length n → n ≤ m
  span_within m n e = within (subst (λ r. Reads test w s p m r) e (span_reads test w s p m))
    where
      within : Ends test w s p m n → n ≤ m
      within h = h.within
