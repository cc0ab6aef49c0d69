-- Rows without constraints keep the laws: what is the same for all.
use Rattle.std.proofs.Common.{◌≡◌, ℕ, zero, suc, ◌+◌, ◌*◌, ◌<◌, ◌≤◌, Bool, true, false, List, [], map, length}
use Rattle.std.proofs.Common.{inl, inr, Option, Some, None, refl, ap, ◌∙◌, arith}
use Rattle.std.proofs.lemmas.List.{length-append, length-map}
use Rattle.critical_table.specs.declared.case.Case.{Case}
use Rattle.object_store.specs.declared.by.By.{By}
use Rattle.object_store.specs.declared.pointer.Pointer.{Pointer}
use Rattle.object_store.specs.Storage.{Storage}
use Rattle.object_store.specs.Load.{number_bytes}
use Rattle.object_store.specs.Reach.{reach, IsReached}
use Rattle.lib_defs.specs.declared.value.Value.{Value}
use Rattle.lib_defs.specs.declared.reading.Reading.TheVariants.{Length}
use Rattle.lib_defs.specs.Units.{rsize_max}
use Rattle.lib_defs.specs.Text.{goes_on, text}
use Rattle.lib_defs.specs.Reply.{Patch, Change, Did, Done, Broken, Asks, Fails}
use Rattle.lib_defs.specs.Constraints.{Look, Saw, Stuck, look, reach_seen, see_range}
use Rattle.lib_defs.specs.Rules.{done_with, look_then, reach_then_case, reach_then}
use Rattle.lib_defs.specs.PlainMemory.{unless_overlap, equal_units, see_known}
use Rattle.lib_defs.specs.Laws.{IsSized, AreReached}
use Rattle.lib_defs.specs.RuleLaws.{RuleStop}
use Rattle.lib_defs.proofs.Spans.{nat_split}
use Rattle.lib_defs.proofs.Parts.{reach_sized}
use Rattle.lib_defs.proofs.RuleLemmas.{SeenFits}
use Rattle.lib_defs.proofs.WholeTexts.{span_within, units_reached}

-- done with at most four stores, to reached ranges, and no other change
pub record PlainDone (s : Storage) (change : Change) (set : Option Pointer) : Type 0 where
  pub reached : AreReached s change.stores
  pub few : length change.stores ≤ 4
  pub makes_none : change.made ≡ None
  pub ends_none : change.released ≡ None
  pub sets_none : set ≡ None

-- what a row without constraints that makes and ends no object does, where its values are such
abbrev pub PlainFits : (Value → Type 0) → Storage → Did → Type 0
PlainFits P s (Done change set value) = PlainDone s change set × P value
PlainFits P s (Broken k class action value) = ⊥
PlainFits P s (Asks function first second third rest) = ⊥
PlainFits P s (Fails stop) = RuleStop s stop

-- what is seen is such, or stops as the laws say
abbrev pub Sees : {A : Type 0} → (A → Type 0) → Storage → Look A → Type 0
Sees P s (Saw a) = P a
Sees P s (Stuck stop) = RuleStop s stop

pub sees_fits : {A : Type 0} (s : Storage) (seen : Look A) → SeenFits s seen → Sees (λ (a : A). Unit {0}) s seen
sees_fits s (Saw a) h = tt
sees_fits s (Stuck stop) h = h

pub sees_look : {A B : Type 0} (P : A → Type 0) (Q : B → Type 0) (s : Storage) (seen : Look A) (go : A → Look B)
    → Sees P s seen → ((a : A) → P a → Sees Q s (go a)) → Sees Q s (look seen go)
sees_look P Q s (Saw a) go h next = next a h
sees_look P Q s (Stuck stop) go h next = h

pub sees_known : (s : Storage) (found : Option ℕ) → Sees (λ (n : ℕ). Unit {0}) s (see_known found)
sees_known s None = refl
sees_known s (Some n) = tt

pub sees_range : {A : Type 0} (P : A → Type 0) (s : Storage) (place : Pointer) (len align : ℕ) (by : By) (go : Look A)
    → Sees P s go → Sees P s (see_range s place len align by go)
sees_range P s place len align by go h = at_case (reach s place len align by) refl
  where
    at_case : (o : Option Case) → reach s place len align by ≡ o → Sees P s (reach_seen o place len align by go)
    at_case None e = h
    at_case (Some case) e = e

module _ (P : Value → Type 0) (s : Storage) where
  pub fits_reach : (place : Pointer) (len align : ℕ) (by : By) (go : Did)
      → (reach s place len align by ≡ None → PlainFits P s go) → PlainFits P s (reach_then s place len align by go)
  fits_reach place len align by go next = at_case (reach s place len align by) refl
    where
      at_case : (o : Option Case) → reach s place len align by ≡ o
          → PlainFits P s (reach_then_case o place len align by go)
      at_case None e = next e
      at_case (Some case) e = e

  pub fits_look : {A : Type 0} (Q : A → Type 0) (seen : Look A) (go : A → Did) → Sees Q s seen
      → ((a : A) → seen ≡ Saw a → Q a → PlainFits P s (go a)) → PlainFits P s (look_then seen go)
  fits_look Q (Saw a) go h next = next a refl h
  fits_look Q (Stuck stop) go h next = h

  pub fits_unless : (overlaps : Bool) (go : Did) → PlainFits P s go → PlainFits P s (unless_overlap overlaps go)
  fits_unless true go h = refl
  fits_unless false go h = h

  pub fits_stores : (stores : List Patch) (value : Value) → AreReached s stores → length stores ≤ 4 → P value
      → PlainFits P s (done_with stores value)
  fits_stores stores value reached few given =
      (record { reached = reached; few = few; makes_none = refl; ends_none = refl; sets_none = refl }, given)

  pub fits_answer : (value : Value) → P value → PlainFits P s (done_with [] value)
  fits_answer value given = fits_stores [] value tt (omega arith) given

-- the bytes of n equal units
bytes_of_number : (w number : ℕ) → length (number_bytes w number) ≡ w
bytes_of_number zero number = refl
bytes_of_number (suc w) number = ap suc (bytes_of_number w _)

pub length-equal_units : (w n number : ℕ) → length (equal_units w n number) ≡ w * n
length-equal_units w zero number = omega arith
length-equal_units w (suc n) number =
    let unit : length (map Some (number_bytes w number)) ≡ w =
    length-map (number_bytes w number) Some ∙ bytes_of_number w number in
    let rest : length (equal_units w n number) ≡ w * n = length-equal_units w n number in
    let next : w * suc n ≡ w + w * n = grind arith in
    length-append (map Some (number_bytes w number)) (equal_units w n number) ∙ omega (arith, unit, rest, next)

-- A string ends within its object.
pub some_more : (w k : ℕ) → 0 < w → k ≤ w * k
some_more zero k some = absurd (omega arith)
some_more (suc w) k some = let e : suc w * k ≡ k + w * k = grind arith in omega (arith, e)

no_more : (s : Storage) (p : Pointer) (len : ℕ) → IsSized s → IsReached s p len → len ≤ rsize_max
no_more s p len sized r = reach_sized s p len r.align r.by sized r.reached

pub string_short : (w : ℕ) → 0 < w → (s : Storage) (p : Pointer) (k : ℕ) → IsSized s
    → text w s p (rsize_max + 1) ≡ Length k → k < rsize_max + 1
string_short w some s p k sized e = short k (span_within goes_on w s p some (rsize_max + 1) k e) e
  where
    short : (k : ℕ) → k ≤ rsize_max + 1 → text w s p (rsize_max + 1) ≡ Length k → k < rsize_max + 1
    short k within e = elim (nat_split k (rsize_max + 1) within) [
      | inl same ↦
          let long : k ≤ w * k = some_more w k some in
          let r : IsReached s p k =
          units_reached goes_on w s p some (rsize_max + 1) k k (omega (arith, same)) e long in
          absurd (let le : k ≤ rsize_max = no_more s p k sized r in omega (arith, le, same))
      | inr less ↦ less
    ]
