-- Code is valid where each instruction that a way comes to has a front: the kinds of its operands, and slots that are
-- made at least.
use Rattle.std.proofs.Common.{◌≡◌, ℕ, zero, suc, ◌+◌, ◌<◌, ◌≤◌, ◌==◌, Bool, true, false, [], Contains, Option}
use Rattle.std.proofs.Common.{Some, None, unwrap_or, sym, ◌∙◌, ap, subst, arith, if◌then◌else◌}
use Rattle.std.specs.List.{slice_get}
use Rattle.vm_code.specs.declared.instr.Instr.{Instr}
use Rattle.vm_code.specs.declared.instr.Instr.TheVariants as i
use Rattle.vm_code.specs.declared.parts.CodeFunction.{CodeFunction}
use Rattle.vm_code.specs.declared.parts.CodeCalled.{CodeCalled}
use Rattle.vm_code.specs.Contents.{Contents}
use Rattle.vm_code.specs.OperandKinds.{Kinds, kinds_after}
use Rattle.vm_code.specs.Sound.{Stretch, is_place, is_sound, next_places}
use Rattle.vm_code.specs.Ways.{Slots, slot_made, slot_killed, slots_after, parameter_slots, stretch_of, Step, Way}
use Rattle.vm_code.specs.Valid.{StandsAt, Comes, LacksSlot, NoObject, NothingToSeal, SealsBeyond, IsStretch, Fails}
use Rattle.vm_code.specs.Valid.{IsUnsound, CannotStart, LacksOperand, LacksObject, KindsDiffer, SizesDiffer}
use Rattle.vm_code.specs.Valid.{KillsNothing}
use Rattle.vm_code.specs.Valid.{OwnFit, IsValid}

-- an option with a value has one alone
pub some_alone : {A : Type 0} (a b : A) → Some a ≡ Some b → a ≡ b
some_alone a b same = ap (λ o. unwrap_or o a) same

no_some : {A : Type 0} (a : A) (o : Option A) → o ≡ None → o ≡ Some a → ⊥
no_some a o none some = cc

pub record Front : Type 0 where
  pub kinds : Kinds
  pub made : Slots

-- the slots of a way are made at least as these
abbrev pub Covers : Slots → Slots → Type 0
Covers made slots = (t size : ℕ) → made t ≡ Some size → slots t ≡ Some size

-- the slots that an instruction uses are made, and a seal lies in its object
abbrev pub SlotsMade : Instr → Slots → Type 0
SlotsMade (i.Slot slot) made = (size : ℕ) × (made slot ≡ Some size)
SlotsMade (i.Seal slot at len) made = (size : ℕ) × (made slot ≡ Some size) × (at + len ≤ size)
SlotsMade (i.Kill slot) made = (size : ℕ) × (made slot ≡ Some size)
SlotsMade _ made = Unit {0}

abbrev pub Fronts : Type 0
Fronts = ℕ → Option Front

-- an instruction finds the operands and slots of its front, and each place where it leads has a front of what it leaves
pub record Fits (code : Contents) (f : CodeFunction) (fronts : Fronts) (at : ℕ) (instr : Instr) (front : Front)
    : Type 0 where
  pub left : Kinds
  pub operands : kinds_after code f.form instr front.kinds ≡ Some left
  pub slots : SlotsMade instr front.made
  pub onward : (to : ℕ) → Contains (next_places code at instr) to
      → (there : Front) × (fronts to ≡ Some there) × (there.kinds ≡ left) × Covers there.made
      (slots_after instr front.made)

-- the fronts of a function's code
pub record AreFronts (code : Contents) (f : CodeFunction) (fronts : Fronts) : Type 0 where
  pub first : Front
  pub start : fronts f.start ≡ Some first
  pub empty : first.kinds ≡ []
  pub parameters : Covers first.made (parameter_slots 0 f.parameters)
  pub fits : (at : ℕ) (instr : Instr) (front : Front) → fronts at ≡ Some front → StandsAt code at instr
      → Fits code f fronts at instr front

-- a way has the kinds of the front, and its slots at least
pub record AtFront (fronts : Fronts) (at : ℕ) (kinds : Kinds) (slots : Slots) : Type 0 where
  pub front : Front
  pub here : fronts at ≡ Some front
  pub same : front.kinds ≡ kinds
  pub covers : Covers front.made slots

-- an instruction that makes or kills keeps more slots made where there were more
made_covers : (slot bytes : ℕ) (made slots : Slots) → Covers made slots
    → Covers (slot_made slot bytes made) (slot_made slot bytes slots)
made_covers slot bytes made slots covers t size is = at_slot (t == slot) is
  where
    at_slot : (b : Bool) → (if b then Some bytes else made t) ≡ Some size
        → (if b then Some bytes else slots t) ≡ Some size
    at_slot true h = h
    at_slot false h = covers t size h

killed_covers : (slot : ℕ) (made slots : Slots) → Covers made slots
    → Covers (slot_killed slot made) (slot_killed slot slots)
killed_covers slot made slots covers t size is = at_slot (t == slot) is
  where
    at_slot : (b : Bool) → (if b then None else made t) ≡ Some size → (if b then None else slots t) ≡ Some size
    at_slot true h = h
    at_slot false h = covers t size h

after_covers : (instr : Instr) (made slots : Slots) → Covers made slots
    → Covers (slots_after instr made) (slots_after instr slots)
after_covers (i.Make slot bytes) made slots covers = made_covers slot bytes made slots covers
after_covers (i.Kill slot) made slots covers = killed_covers slot made slots covers
after_covers _ made slots covers = covers

module _ (code : Contents) (f : CodeFunction) (fronts : Fronts) (are : AreFronts code f fronts) where
  -- the kinds of a way at the next place are those of its front
  on_step : (at : ℕ) (kinds : Kinds) (slots : Slots) (to : ℕ) (kinds_there : Kinds) (slots_there : Slots)
      → AtFront fronts at kinds slots → Step code f at kinds slots to kinds_there slots_there
      → AtFront fronts to kinds_there slots_there
  on_step at kinds slots to kinds_there slots_there a st =
      let fit : Fits code f fronts at st.instr a.front = are.fits at st.instr a.front a.here (st.pos, st.stands) in
      let onward : (there : Front) × (fronts to ≡ Some there) × (there.kinds ≡ fit.left)
      × Covers there.made (slots_after st.instr a.front.made) = fit.onward to st.next in
      let same_left : Some fit.left ≡ Some kinds_there =
      sym fit.operands ∙ ap (kinds_after code f.form st.instr) a.same ∙ st.operands in
      record {
        front = onward.0;
        here = onward.1;
        same = onward.2 ∙ some_alone fit.left kinds_there same_left;
        covers = λ t size made. ap (λ (m : Slots). m t) st.objects
            ∙ after_covers st.instr a.front.made slots a.covers t size (onward.3 t size made);
      }

  on_way : (n at : ℕ) (kinds : Kinds) (slots : Slots) → Way code f n at kinds slots → AtFront fronts at kinds slots
  on_way zero at kinds slots w = record {
    front = are.first;
    here = ap fronts w.0 ∙ are.start;
    same = are.empty ∙ sym w.1;
    covers = λ t size made. ap (λ (m : Slots). m t) w.2 ∙ are.parameters t size made;
  }
  on_way (suc n) at kinds slots w =
      on_step w.0 w.1 w.2 at kinds slots (on_way n w.0 w.1 w.2 w.3) w.4

  same_front : (at : ℕ) (kinds others : Kinds) (slots more : Slots) → AtFront fronts at kinds slots
      → AtFront fronts at others more → kinds ≡ others
  same_front at kinds others slots more a b = sym a.same
      ∙ ap (λ (x : Front). x.kinds) (some_alone a.front b.front (sym a.here ∙ b.here)) ∙ b.same

  lacks_none : (at : ℕ) (kinds : Kinds) (slots : Slots) (instr : Instr) → AtFront fronts at kinds slots
      → StandsAt code at instr → kinds_after code f.form instr kinds ≡ None → ⊥
  lacks_none at kinds slots instr a stands none =
      let fit : Fits code f fronts at instr a.front = are.fits at instr a.front a.here stands in
      no_some fit.left (kinds_after code f.form instr kinds) none
      (ap (kinds_after code f.form instr) (sym a.same) ∙ fit.operands)

  slots_lack_none : (at : ℕ) (kinds : Kinds) (slots : Slots) (instr : Instr) → AtFront fronts at kinds slots
      → StandsAt code at instr → LacksSlot slots instr → ⊥
  slots_lack_none at kinds slots instr a stands (NoObject slot none) =
      let fit : Fits code f fronts at (i.Slot slot) a.front = are.fits at (i.Slot slot) a.front a.here stands in
      no_some fit.slots.0 (slots slot) none (a.covers slot fit.slots.0 fit.slots.1)
  slots_lack_none at kinds slots instr a stands (NothingToSeal slot from len none) =
      let fit : Fits code f fronts at (i.Seal slot from len) a.front =
      are.fits at (i.Seal slot from len) a.front a.here stands in
      no_some fit.slots.0 (slots slot) none (a.covers slot fit.slots.0 fit.slots.1)
  slots_lack_none at kinds slots instr a stands (SealsBeyond slot from len size is beyond) =
      let fit : Fits code f fronts at (i.Seal slot from len) a.front =
      are.fits at (i.Seal slot from len) a.front a.here stands in
      let same : fit.slots.0 ≡ size =
      some_alone fit.slots.0 size (sym (a.covers slot fit.slots.0 fit.slots.1) ∙ is) in
      omega (arith, fit.slots.2, same, beyond)

  kills_some : (at : ℕ) (kinds : Kinds) (slots : Slots) (slot : ℕ) → AtFront fronts at kinds slots
      → StandsAt code at (i.Kill slot) → slots slot ≡ None → ⊥
  kills_some at kinds slots slot a stands none =
      let fit : Fits code f fronts at (i.Kill slot) a.front = are.fits at (i.Kill slot) a.front a.here stands in
      no_some fit.slots.0 (slots slot) none (a.covers slot fit.slots.0 fit.slots.1)

  same_size : (at : ℕ) (kinds others : Kinds) (slots more : Slots) (slot from len : ℕ) → AtFront fronts at kinds slots
      → AtFront fronts at others more → StandsAt code at (i.Seal slot from len) → slots slot ≡ more slot
  same_size at kinds others slots more slot from len a b stands =
      let fit : Fits code f fronts at (i.Seal slot from len) a.front =
      are.fits at (i.Seal slot from len) a.front a.here stands in
      let there : Fits code f fronts at (i.Seal slot from len) b.front =
      are.fits at (i.Seal slot from len) b.front b.here stands in
      let same : a.front ≡ b.front = some_alone a.front b.front (sym a.here ∙ b.here) in
      a.covers slot fit.slots.0 fit.slots.1 ∙ sym fit.slots.1 ∙ ap (λ (x : Front). x.made slot) same
      ∙ there.slots.1 ∙ sym (b.covers slot there.slots.0 there.slots.1)

-- what is shown of code that is valid by fronts
pub record HasFronts (code : Contents) : Type 0 where
  pub sound : (stretch : Stretch) (at : ℕ) (instr : Instr) → IsStretch code stretch → stretch.from ≤ at
      → at < stretch.to → StandsAt code at instr → is_sound code stretch at instr ≡ true
  pub starts : (f : CodeFunction) → Contains code.functions f → is_place code (stretch_of code f) f.start ≡ true
  pub fronts : (f : CodeFunction) → Contains code.functions f → (fronts : Fronts) × AreFronts code f fronts
  pub own : (type : ℕ) (called : CodeCalled) → slice_get code.types type ≡ Some called → OwnFit code called

module _ (code : Contents) (has : HasFronts code) where
  comes_at : (f : CodeFunction) (c : Contains code.functions f) (at : ℕ) (kinds : Kinds) (slots : Slots)
      → Comes code f at kinds slots → AtFront (has.fronts f c).0 at kinds slots
  comes_at f c at kinds slots comes =
      on_way code f (has.fronts f c).0 (has.fronts f c).1 comes.steps at kinds slots comes.way

  none_fails : (at : ℕ) → Fails code at → ⊥
  none_fails at (IsUnsound stretch instr is from to stands unsound) =
      let sound : is_sound code stretch at instr ≡ true = has.sound stretch at instr is from to stands in cc
  none_fails at (CannotStart f c start unsound) =
      let P : ℕ → Type 0 = λ k. is_place code (stretch_of code f) k ≡ true in
      let sound : P at = subst P start (has.starts f c) in cc
  none_fails at (LacksOperand f kinds slots instr c comes stands none) =
      lacks_none code f (has.fronts f c).0 (has.fronts f c).1 at kinds slots instr (comes_at f c at kinds slots comes)
      stands none
  none_fails at (LacksObject f kinds slots instr c comes stands lacks) =
      slots_lack_none code f (has.fronts f c).0 (has.fronts f c).1 at kinds slots instr
      (comes_at f c at kinds slots comes) stands lacks
  none_fails at (KindsDiffer f kinds others slots more c comes others_come differ) =
      differ (same_front code f (has.fronts f c).0 (has.fronts f c).1 at kinds others slots more
      (comes_at f c at kinds slots comes) (comes_at f c at others more others_come))
  none_fails at (SizesDiffer f kinds others slots more slot from len c comes others_come stands differ) =
      differ (same_size code f (has.fronts f c).0 (has.fronts f c).1 at kinds others slots more slot from len
      (comes_at f c at kinds slots comes) (comes_at f c at others more others_come) stands)
  none_fails at (KillsNothing f kinds slots slot c comes stands nothing) =
      kills_some code f (has.fronts f c).0 (has.fronts f c).1 at kinds slots slot (comes_at f c at kinds slots comes)
      stands (nothing kinds slots comes)

  -- Code with fronts is valid.
  pub valid_by_fronts : IsValid code
  valid_by_fronts = record { holds = none_fails; own = has.own }
