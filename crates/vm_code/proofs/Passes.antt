-- All that is known of a function's instructions comes to where they lead; and it comes by ways.
use Rattle.std.proofs.Common.{◌≡◌, ◌⊎◌, inl, inr, ℕ, zero, suc, ◌+◌, ◌==◌, Bool, true, false, List, []}
use Rattle.std.proofs.Common.{◌∷◌, Contains, Option, Some, None, refl, sym, ◌∙◌, ap, subst, arith}
use Rattle.std.proofs.Common.{if◌then◌else◌, eqb-true, zero-add, suc-add}
use Rattle.std.specs.List.{slice_get}
use Rattle.critical_table.specs.declared.pos.Pos.{Pos}
use Rattle.vm_code.specs.declared.instr.Instr.{Instr}
use Rattle.vm_code.specs.declared.parts.CodeFunction.{CodeFunction}
use Rattle.vm_code.specs.Contents.{Contents}
use Rattle.vm_code.specs.OperandKinds.{Kinds, kinds_after}
use Rattle.vm_code.specs.Sound.{is_place, next_places}
use Rattle.vm_code.specs.Ways.{stretch_of}
use Rattle.vm_code.specs.Passing.{Passing, Known, arrive_all, arrive_left, pass_instr, pass_due, passing}
use Rattle.vm_code.specs.Passing.{IsKnown}
use Rattle.vm_code.proofs.Fronts.{some_alone}
use Rattle.vm_code.proofs.ActingOn.{none_is_some}
use Rattle.vm_code.proofs.Arriving.{Arrived, all_arrived}

-- an instruction with known kinds leads others to a place
pub record From (code : Contents) (f : CodeFunction) (known : Known) (to : ℕ) (left : Kinds) : Type 0 where
  pub at : ℕ
  pub kinds : Kinds
  pub instr : Instr
  pub here : Pos
  pub is : known at ≡ Some kinds
  pub stands : slice_get code.instrs at ≡ Some (instr, here)
  pub behind : kinds_after code f.form instr kinds ≡ Some left
  pub led : Contains (next_places code at instr) to
  pub within : is_place code (stretch_of code f) to ≡ true

-- One instruction is passed: what was known and due stays, and what is new is led to, and due.
pub record Passed (code : Contents) (f : CodeFunction) (known : Known) (rest : List ℕ) (q : Passing) : Type 0 where
  pub stays : (t : ℕ) (kinds : Kinds) → known t ≡ Some kinds → q.kinds t ≡ Some kinds
  pub due_stays : (k t : ℕ) → slice_get rest k ≡ Some t → slice_get q.due k ≡ Some t
  pub fresh : (t : ℕ) (kinds : Kinds) → q.kinds t ≡ Some kinds
      → (known t ≡ Some kinds) ⊎ (From code f known t kinds × (turn : ℕ) × (slice_get q.due turn ≡ Some t))

module _ (code : Contents) (f : CodeFunction) where
  unchanged : (known : Known) (rest : List ℕ) → Passed code f known rest (record { kinds = known; due = rest })
  unchanged known rest = record {
    stays = λ t kinds is. is;
    due_stays = λ k t is. is;
    fresh = λ t kinds is. inl is;
  }

  passed_left : (at : ℕ) (instr : Instr) (here : Pos) (kinds : Kinds) (known : Known) (rest : List ℕ)
      → slice_get code.instrs at ≡ Some (instr, here) → known at ≡ Some kinds → (left : Option Kinds)
      → kinds_after code f.form instr kinds ≡ left
      → Passed code f known rest
      (arrive_left code (stretch_of code f) (next_places code at instr) left (record { kinds = known; due = rest }))
  passed_left at instr here kinds known rest stands is None behind = unchanged known rest
  passed_left at instr here kinds known rest stands is (Some left) behind =
      let p : Passing = record { kinds = known; due = rest } in
      let q : Passing = arrive_all code (stretch_of code f) left (next_places code at instr) p in
      let a : Arrived code (stretch_of code f) left (next_places code at instr) p q =
      all_arrived code (stretch_of code f) left (next_places code at instr) p in
      record {
        stays = a.stays;
        due_stays = a.due_stays;
        fresh = λ t others there. elim (a.fresh t others there) [
          | inl before ↦ inl before
          | inr new ↦ inr (
            record {
              at = at;
              kinds = kinds;
              instr = instr;
              here = here;
              is = is;
              stands = stands;
              behind = behind ∙ ap (λ k. Some k) (sym new.same);
              led = new.led;
              within = new.within;
            },
            new.turn,
            new.is_due,
          )
        ];
      }

  passed_instr : (at : ℕ) (known : Known) (rest : List ℕ) (o : Option (Instr × Pos)) → slice_get code.instrs at ≡ o
      → (k : Option Kinds) → known at ≡ k
      → Passed code f known rest (pass_instr code f at o k (record { kinds = known; due = rest }))
  passed_instr at known rest None stands k is = unchanged known rest
  passed_instr at known rest (Some x) stands None is = unchanged known rest
  passed_instr at known rest (Some x) stands (Some kinds) is =
      passed_left at x.0 x.1 kinds known rest stands is (kinds_after code f.form x.0 kinds) refl

  -- the instructions that are due behind the next one
  abbrev behind_next : List ℕ → List ℕ
  behind_next [] = []
  behind_next (at ∷ rest) = rest

  passed_due : (known : Known) (due : List ℕ) → Passed code f known (behind_next due) (pass_due code f known due)
  passed_due known [] = unchanged known []
  passed_due known (at ∷ rest) =
      passed_instr at known rest (slice_get code.instrs at) refl (known at) refl

  abbrev pub step_of : ℕ → Type 0
  step_of n = Passed code f (passing code f n).kinds (behind_next (passing code f n).due) (passing code f (suc n))

  pub one_passed : (n : ℕ) → step_of n
  one_passed n = passed_due (passing code f n).kinds (passing code f n).due

  -- ---- what is known stays known

  stays_for : (m n t : ℕ) (kinds : Kinds) → (passing code f n).kinds t ≡ Some kinds
      → (passing code f (m + n)).kinds t ≡ Some kinds
  stays_for zero n t kinds is =
      let P : ℕ → Type 0 = λ k. (passing code f k).kinds t ≡ Some kinds in subst P (sym (zero-add n)) is
  stays_for (suc m) n t kinds is =
      let P : ℕ → Type 0 = λ k. (passing code f k).kinds t ≡ Some kinds in
      subst P (sym (suc-add m n)) ((one_passed (m + n)).stays t kinds (stays_for m n t kinds is))

  pub one_known : (t : ℕ) (kinds others : Kinds) → IsKnown code f t kinds → IsKnown code f t others → kinds ≡ others
  one_known t kinds others a b =
      let P : ℕ → Type 0 = λ n. (passing code f n).kinds t ≡ Some others in
      let swapped : a.passed + b.passed ≡ b.passed + a.passed = omega arith in
      let later : (passing code f (b.passed + a.passed)).kinds t ≡ Some others =
      subst P swapped (stays_for a.passed b.passed t others b.is) in
      some_alone kinds others (sym (stays_for b.passed a.passed t kinds a.is) ∙ later)

  -- ---- each known instruction is passed in its turn

  pub record Turn (at : ℕ) (kinds : Kinds) : Type 0 where
    pub passed : ℕ
    pub rest : List ℕ
    pub due : (passing code f passed).due ≡ at ∷ rest
    pub is : (passing code f passed).kinds at ≡ Some kinds

  behind_is : (due : List ℕ) (k at : ℕ) → slice_get due (suc k) ≡ Some at → slice_get (behind_next due) k ≡ Some at
  behind_is [] k at is = absurd (none_is_some at is)
  behind_is (x ∷ rest) k at is = is

  first_is : (due : List ℕ) (at : ℕ) → slice_get due 0 ≡ Some at → (rest : List ℕ) × (due ≡ at ∷ rest)
  first_is [] at is = absurd (none_is_some at is)
  first_is (x ∷ rest) at is = (rest, ap (λ y. y ∷ rest) (some_alone x at is))

  turn_at : (k n at : ℕ) (kinds : Kinds) → (passing code f n).kinds at ≡ Some kinds
      → slice_get (passing code f n).due k ≡ Some at → Turn at kinds
  turn_at zero n at kinds known is =
      let first : (rest : List ℕ) × ((passing code f n).due ≡ at ∷ rest) = first_is (passing code f n).due at is in
      record { passed = n; rest = first.0; due = first.1; is = known }
  turn_at (suc k) n at kinds known is = turn_at k (suc n) at kinds ((one_passed n).stays at kinds known)
      ((one_passed n).due_stays k at (behind_is (passing code f n).due k at is))

  pub start_known : (t : ℕ) (kinds : Kinds) → (passing code f 0).kinds t ≡ Some kinds → (t ≡ f.start) × (kinds ≡ [])
  start_known t kinds is = at_place (t == f.start) refl is
    where
      at_place : (b : Bool) → (t == f.start) ≡ b → (if b then Some [] else None) ≡ Some kinds
          → (t ≡ f.start) × (kinds ≡ [])
      at_place true same is = (eqb-true t f.start same, some_alone kinds [] (sym is))
      at_place false other is = absurd (none_is_some kinds is)

  turn_of : (n at : ℕ) (kinds : Kinds) → (passing code f n).kinds at ≡ Some kinds → Turn at kinds
  turn_of zero at kinds is =
      turn_at 0 0 at kinds is (ap (λ t. Some t) (sym (start_known at kinds is).0))
  turn_of (suc n) at kinds is = elim ((one_passed n).fresh at kinds is) [
    | inl before ↦ turn_of n at kinds before
    | inr new ↦ turn_at new.1 (suc n) at kinds is new.2
  ]

  -- where a known instruction leads, kinds are known
  pub onward : (at : ℕ) (kinds left : Kinds) (instr : Instr) (here : Pos) (to : ℕ) → IsKnown code f at kinds
      → slice_get code.instrs at ≡ Some (instr, here) → kinds_after code f.form instr kinds ≡ Some left
      → Contains (next_places code at instr) to → is_place code (stretch_of code f) to ≡ true
      → (others : Kinds) × IsKnown code f to others
  onward at kinds left instr here to known stands behind led within =
      let turn : Turn at kinds = turn_of known.passed at kinds known.is in
      let p : Passing = passing code f turn.passed in
      let start : Passing = record { kinds = p.kinds; due = turn.rest } in
      let q : Passing = arrive_all code (stretch_of code f) left (next_places code at instr) start in
      let a : Arrived code (stretch_of code f) left (next_places code at instr) start q =
      all_arrived code (stretch_of code f) left (next_places code at instr) start in
      let there : (others : Kinds) × (q.kinds to ≡ Some others) = a.reached to led within in
      let same : passing code f (suc turn.passed) ≡ q =
      ap (pass_due code f p.kinds) turn.due
      ∙ ap (λ o. pass_instr code f at o (p.kinds at) start) stands
      ∙ ap (λ k. pass_instr code f at (Some (instr, here)) k start) turn.is
      ∙ ap (λ o. arrive_left code (stretch_of code f) (next_places code at instr) o start) behind in
      (there.0, record { passed = suc turn.passed; is = ap (λ (r : Passing). r.kinds to) same ∙ there.1 })
