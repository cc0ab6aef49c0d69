-- Rows of Annex K keep the laws: what is the same for all.
use Rattle.std.proofs.Common.{◌≡◌, ℕ, suc, ◌+◌, Bool, true, false, List, [], ◌∷◌, length}
use Rattle.std.proofs.Common.{slice_get, Option, Some, None, refl, sym, subst, ◌∙◌, arith}
use Rattle.std.proofs.lemmas.List.{length-map}
use Rattle.critical_table.specs.declared.case.Case.{Case}
use Rattle.object_store.specs.declared.by.By.{By}
use Rattle.object_store.specs.declared.by.By.TheVariants.{TextRead, TextWrite}
use Rattle.object_store.specs.declared.pointer.Pointer.{Pointer}
use Rattle.object_store.specs.Storage.{Storage}
use Rattle.object_store.specs.Steps.{bytes_at, range, cells_of}
use Rattle.object_store.specs.Reach.{reach, IsReached, IsReachedToStore}
use Rattle.object_store.specs.Ranges.{IsLiveRange}
use Rattle.object_store.proofs.RangeLemmas.{in_range, cells_of-found}
use Rattle.object_store.proofs.CellLists.{length-range}
use Rattle.lib_defs.specs.declared.reading.Reading.{Reading}
use Rattle.lib_defs.specs.declared.reading.Reading.TheVariants.{Length, Unreached, Unknown}
use Rattle.lib_defs.specs.declared.violation.Violation.{Violation}
use Rattle.lib_defs.specs.Spans.{Reads, span}
use Rattle.lib_defs.specs.Reply.{Fill, Did, Broken}
use Rattle.lib_defs.specs.Constraints.{Look, Saw, Stuck, look, length_seen, see_range, reach_seen, Test, Sure, Looks}
use Rattle.lib_defs.specs.Constraints.{Constraint, Refusal, Breaks, Stops, refusal_by_look, refusal_by_test, refusal}
use Rattle.lib_defs.specs.Constraints.{decisions, classes}
use Rattle.lib_defs.specs.Rules.{Rule, reach_then_case, reach_then, look_then, act_then, run_by}
use Rattle.lib_defs.specs.Shown.{none_fails, may_fail, is_first_failing}
use Rattle.lib_defs.specs.Laws.{IsSized}
use Rattle.lib_defs.specs.RuleLaws.{class_at, RuleStop, RuleFits, RuleKeeps}
use Rattle.lib_defs.proofs.Spans.{span_reads}

-- the constraint with this number, counted from k, may be the first that fails, and has this class
pub record First (cs : List Constraint) (k j : ℕ) (told : Violation) : Type 0 where
  pub i : ℕ
  pub at : j ≡ k + i
  pub may : may_fail (decisions cs) i ≡ true
  pub class : slice_get (classes cs) i ≡ Some told

abbrev FirstOf : List Constraint → ℕ → Option Refusal → Type 0
FirstOf cs k None = none_fails (decisions cs) ≡ true
FirstOf cs k (Some (Breaks j class)) = First cs k j class
FirstOf cs k (Some (Stops stop)) = Unit {0}

this_one : (c : Constraint) (cs : List Constraint) (k : ℕ) → may_fail (decisions (c ∷ cs)) 0 ≡ true
    → First (c ∷ cs) k k c.class
this_one c cs k may = record { i = 0; at = omega arith; may = may; class = refl }

-- one that is not decided to fail stands before
later : (c : Constraint) (cs : List Constraint) (k : ℕ) (o : Option Refusal)
    → ((b : Bool) → none_fails (decisions cs) ≡ b → none_fails (decisions (c ∷ cs)) ≡ b)
    → ((i : ℕ) → may_fail (decisions cs) i ≡ true → may_fail (decisions (c ∷ cs)) (suc i) ≡ true)
    → FirstOf cs (k + 1) o → FirstOf (c ∷ cs) k o
later c cs k None none may h = none true h
later c cs k (Some (Breaks j class)) none may h =
    record { i = suc h.i; at = omega (arith, h.at); may = may h.i h.may; class = h.class }
later c cs k (Some (Stops stop)) none may h = tt

first_looked : (seen : Look Bool) (class : Violation) (go : Storage → Look Bool) (cs : List Constraint) (k : ℕ)
    (rest : Option Refusal)
    → FirstOf cs (k + 1) rest
    → FirstOf (record { class = class; test = Looks go } ∷ cs) k (refusal_by_look seen k class rest)
first_looked (Saw true) class go cs k rest h = this_one (record { class = class; test = Looks go }) cs k refl
first_looked (Saw false) class go cs k rest h =
    later (record { class = class; test = Looks go }) cs k rest (λ b e. e) (λ i e. e) h
first_looked (Stuck stop) class go cs k rest h = tt

first_tested : (class : Violation) (t : Test) (cs : List Constraint) (k : ℕ) (s : Storage) (rest : Option Refusal)
    → FirstOf cs (k + 1) rest → FirstOf (record { class = class; test = t } ∷ cs) k (refusal_by_test t k class s rest)
first_tested class (Sure true) cs k s rest h = this_one (record { class = class; test = Sure true }) cs k refl
first_tested class (Sure false) cs k s rest h =
    later (record { class = class; test = Sure false }) cs k rest (λ b e. e) (λ i e. e) h
first_tested class (Looks go) cs k s rest h = first_looked (go s) class go cs k rest h

pub first_of : (cs : List Constraint) (k : ℕ) (s : Storage) → FirstOf cs k (refusal cs k s)
first_of [] k s = refl
first_of (c ∷ cs) k s = first_tested c.class c.test cs k s (refusal cs (k + 1) s) (first_of cs (k + 1) s)

-- what is seen stops as the laws say
abbrev pub SeenFits : {A : Type 0} → Storage → Look A → Type 0
SeenFits s (Saw a) = Unit {0}
SeenFits s (Stuck stop) = RuleStop s stop

abbrev pub TestFits : Storage → Test → Type 0
TestFits s (Sure fails) = Unit {0}
TestFits s (Looks go) = SeenFits s (go s)

abbrev pub TestsFit : Storage → List Constraint → Type 0
TestsFit s [] = Unit {0}
TestsFit s (c ∷ cs) = TestFits s c.test × TestsFit s cs

abbrev StopsFit : Storage → Option Refusal → Type 0
StopsFit s (Some (Stops stop)) = RuleStop s stop
StopsFit s _ = Unit {0}

looked_fits : (s : Storage) (seen : Look Bool) (k : ℕ) (class : Violation) (rest : Option Refusal) → SeenFits s seen
    → StopsFit s rest
    → StopsFit s (refusal_by_look seen k class rest)
looked_fits s (Saw true) k class rest h r = tt
looked_fits s (Saw false) k class rest h r = r
looked_fits s (Stuck stop) k class rest h r = h

tested_fits : (s : Storage) (t : Test) (k : ℕ) (class : Violation) (rest : Option Refusal) → TestFits s t
    → StopsFit s rest
    → StopsFit s (refusal_by_test t k class s rest)
tested_fits s (Sure true) k class rest h r = tt
tested_fits s (Sure false) k class rest h r = r
tested_fits s (Looks go) k class rest h r = looked_fits s (go s) k class rest h r

tests_fit : (s : Storage) (cs : List Constraint) (k : ℕ) → TestsFit s cs → StopsFit s (refusal cs k s)
tests_fit s [] k h = tt
tests_fit s (c ∷ cs) k h = tested_fits s c.test k c.class (refusal cs (k + 1) s) h.0 (tests_fit s cs (k + 1) h.1)

-- looks fit where their parts do
pub look_fits : {A B : Type 0} (s : Storage) (seen : Look A) (go : A → Look B) → SeenFits s seen
    → ((a : A) → seen ≡ Saw a → SeenFits s (go a))
    → SeenFits s (look seen go)
look_fits s (Saw a) go h next = next a refl
look_fits s (Stuck stop) go h next = h

pub range_fits : {A : Type 0} (s : Storage) (place : Pointer) (len align : ℕ) (by : By) (go : Look A) → SeenFits s go
    → SeenFits s (see_range s place len align by go)
range_fits s place len align by go h = at_case (reach s place len align by) refl
  where
    at_case : (o : Option Case) → reach s place len align by ≡ o → SeenFits s (reach_seen o place len align by go)
    at_case None e = h
    at_case (Some case) e = e

pub span_fits : (test : ℕ → Bool) (w : ℕ) (s : Storage) (p : Pointer) (m : ℕ)
    → SeenFits s (length_seen w (span test w s p m))
span_fits test w s p m = at_reading (span test w s p m) (span_reads test w s p m)
  where
    at_reading : (r : Reading) → Reads test w s p m r → SeenFits s (length_seen w r)
    at_reading (Length n) h = tt
    at_reading (Unreached case place) h = subst (λ (q : Pointer). reach s q w w TextRead ≡ Some case) (sym h.at) h.fails
    at_reading Unknown h = refl

module _ (row : Rule) (s : Storage) where
  -- goes on where reached; else the trap is that of the reach
  pub reaching_fits : (place : Pointer) (len align : ℕ) (by : By) (go : Did)
      → (reach s place len align by ≡ None → RuleFits row s go)
      → RuleFits row s (reach_then s place len align by go)
  reaching_fits place len align by go next = at_case (reach s place len align by) refl
    where
      at_case : (o : Option Case) → reach s place len align by ≡ o
          → RuleFits row s (reach_then_case o place len align by go)
      at_case None e = next e
      at_case (Some case) e = e

  pub doing_fits : {A : Type 0} (seen : Look A) (go : A → Did) → SeenFits s seen
      → ((a : A) → seen ≡ Saw a → RuleFits row s (go a))
      → RuleFits row s (look_then seen go)
  doing_fits (Saw a) go h next = next a refl
  doing_fits (Stuck stop) go h next = h

  breaks_fits : (k : ℕ) (class : Violation) (action : Option Fill) → action ≡ row.action
      → is_first_failing (decisions row.constraints) k ≡ true
      → class_at (classes row.constraints) k ≡ Some class
      → RuleFits row s (act_then row.width action s (Broken k class action (row.failure class)))
  breaks_fits k class None by first is = record { first = first; class = is; action = by; reached = tt; failure = refl }
  breaks_fits k class (Some f) by first is = reaching_fits f.place f.len row.width TextWrite _ (λ none. record {
    first = first;
    class = is;
    action = by;
    reached = record { align = row.width; by = TextWrite; storing = refl; reached = none };
    failure = refl;
  })

  first_is : (k : ℕ) (class : Violation) → First row.constraints 1 k class
      → is_first_failing (decisions row.constraints) k ≡ true
  first_is k class h = let e : k ≡ suc h.i = omega (arith, h.at) in rw e h.may

  class_is : (k : ℕ) (class : Violation) → First row.constraints 1 k class
      → class_at (classes row.constraints) k ≡ Some class
  class_is k class h = let e : k ≡ suc h.i = omega (arith, h.at) in rw e h.class

  by_refusal : (o : Option Refusal) → FirstOf row.constraints 1 o → StopsFit s o
      → (o ≡ None → none_fails (decisions row.constraints) ≡ true → RuleFits row s (row.success s))
      → RuleFits row s (run_by o row s)
  by_refusal None first fits success = success refl first
  by_refusal (Some (Breaks k class)) first fits success =
      breaks_fits k class row.action refl (first_is k class first) (class_is k class first)
  by_refusal (Some (Stops stop)) first fits success = fits

-- what is known of the constraints where none fails
abbrev pub Holds : Storage → Test → Type 0
Holds s (Sure fails) = fails ≡ false
Holds s (Looks go) = go s ≡ Saw false

abbrev pub AllHold : Storage → List Constraint → Type 0
AllHold s [] = Unit {0}
AllHold s (c ∷ cs) = Holds s c.test × AllHold s cs

holds_looked : (seen : Look Bool) (k : ℕ) (class : Violation) (rest : Option Refusal)
    → refusal_by_look seen k class rest ≡ None
    → (seen ≡ Saw false) × (rest ≡ None)
holds_looked (Saw true) k class rest e = cc
holds_looked (Saw false) k class rest e = (refl, e)
holds_looked (Stuck stop) k class rest e = cc

holds_tested : (t : Test) (k : ℕ) (class : Violation) (s : Storage) (rest : Option Refusal)
    → refusal_by_test t k class s rest ≡ None
    → Holds s t × (rest ≡ None)
holds_tested (Sure true) k class s rest e = cc
holds_tested (Sure false) k class s rest e = (refl, e)
holds_tested (Looks go) k class s rest e = holds_looked (go s) k class rest e

pub all_hold : (cs : List Constraint) (k : ℕ) (s : Storage) → refusal cs k s ≡ None → AllHold s cs
all_hold [] k s e = tt
all_hold (c ∷ cs) k s e =
    let h = holds_tested c.test k c.class s (refusal cs (k + 1) s) e in
    (h.0, all_hold cs (k + 1) s h.1)

-- A row keeps the laws where its looks and its success do.
pub rule_keeps : (row : Rule) → ((s : Storage) → IsSized s → TestsFit s row.constraints)
    → ((s : Storage) → IsSized s → AllHold s row.constraints → none_fails (decisions row.constraints) ≡ true
    → RuleFits row s (row.success s))
    → RuleKeeps row
rule_keeps row tests success s sized =
    by_refusal row s (refusal row.constraints 1 s) (first_of row.constraints 1 s)
    (tests_fit s row.constraints 1 (tests s sized))
    (λ e passes. success s sized (all_hold row.constraints 1 s e) passes)

-- the bytes of a range that is reached
pub bytes_long : (s : Storage) (p : Pointer) (len : ℕ) → IsReached s p len → length (bytes_at s p len) ≡ len
bytes_long s p len r =
    let i : IsLiveRange s.objects p len = in_range s p len r in
    length-map (range (cells_of s.objects p.object) p.offset len) _
    ∙ (rw (cells_of-found s.objects p.object i.object i.own)
    (length-range i.object.cells p.offset len (omega (arith, i.high, i.within))))

pub stores_reached : (s : Storage) (p : Pointer) (len align : ℕ) (bytes : List (Option ℕ)) → length bytes ≡ len
    → reach s p len align TextWrite ≡ None
    → IsReachedToStore s p (length bytes)
stores_reached s p len align bytes e none =
    record { align = align; by = TextWrite; storing = refl; reached = rw e none }
