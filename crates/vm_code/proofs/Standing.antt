-- What stands at each place of a run of valid code: a way comes to each function that runs or waits, with operands of
-- its kinds and objects in its slots; and each library call that waits gives what the function below it takes.
use Rattle.std.proofs.Common.{◌≡◌, ℕ, zero, suc, inl, inr, ◌+◌, ◌<◌, ◌≤◌, Bool, true, ◌&&◌, List, [], ◌∷◌, length}
use Rattle.std.proofs.Common.{Contains, Option}
use Rattle.std.proofs.Common.{Some, None, refl, ◌∙◌, ap, arith}
use Rattle.std.proofs.lemmas.Bool.{cases_lt}
use Rattle.std.specs.Prelude.{nat_lt, nat_le, not}
use Rattle.std.specs.List.{slice_get}
use Rattle.critical_table.specs.declared.pos.Pos.{Pos}
use Rattle.lib_defs.specs.declared.row.Row.{Row}
use Rattle.lib_defs.specs.declared.row_name.RowName.{RowName}
use Rattle.lib_defs.specs.declared.step.Rest.{Rest}
use Rattle.lib_defs.specs.declared.value.Value.{Value}
use Rattle.lib_defs.specs.RowNumbers.{name_at}
use Rattle.lib_defs.specs.Prototypes.{prototype}
use Rattle.run_defs.specs.declared.library_call.Waits.{Waits}
use Rattle.run_defs.specs.declared.library_call.Waits.TheVariants.{ForHandler, ForFunction}
use Rattle.c_core.specs.declared.form.Form.{Form}
use Rattle.c_core.specs.declared.form.Form.TheVariants as form
use Rattle.c_core.specs.declared.form.Scalar.TheVariants as scalar
use Rattle.vm_code.specs.declared.instr.Instr.{Instr}
use Rattle.vm_code.specs.declared.instr.Instr.TheVariants as i
use Rattle.vm_code.specs.declared.parts.CodeFunction.{CodeFunction}
use Rattle.vm_code.specs.Contents.{Contents, function_at}
use Rattle.vm_code.specs.CodeFunctions.{end_of}
use Rattle.vm_code.specs.Slots.{Held, held_in}
use Rattle.vm_code.specs.Frames.{Activation, Frame, Active, Waiting, Place, Goes, Ends, Stuck}
use Rattle.vm_code.specs.Calling.{row_left}
use Rattle.vm_code.specs.Machine.{fetched_if, fetched}
use Rattle.vm_code.specs.OperandKinds.{Kinds, push_form, kinds_after}
use Rattle.vm_code.specs.Sound.{form_of, is_entry, is_place, is_sound}
use Rattle.vm_code.specs.Ways.{Slots, stretch_of}
use Rattle.vm_code.specs.Valid.{StandsAt, Comes, LacksSlot, NoObject, NothingToSeal, SealsBeyond, LacksOperand}
use Rattle.vm_code.specs.Valid.{LacksObject, IsUnsound, OfFunction, IsValid}
use Rattle.vm_code.specs.Progress.{IsOfKind, AreOfKinds, FindsObject, IsOverOrReady}
use Rattle.vm_code.proofs.Falling.{and_left, bool_true, function_contained, inside_of}
use Rattle.vm_code.proofs.Counted.{end_from_le}

-- ---- what stands

-- the slots that are made on a way hold objects of these sizes
abbrev pub Holds : Slots → List Held → Type 0
Holds slots held = (slot size : ℕ) → slots slot ≡ Some size
    → (h : Held) × (held_in slot held ≡ Some h) × (h.size ≡ size)

-- a way comes to the place with these kinds, and what it has made is held
pub record IsAt (code : Contents) (f : CodeFunction) (at : ℕ) (kinds : Kinds) (held : List Held) : Type 0 where
  pub slots : Slots
  pub comes : Comes code f at kinds slots
  pub within : is_place code (stretch_of code f) at ≡ true
  pub holds : Holds slots held

-- a function that runs
pub record Runs (code : Contents) (f : CodeFunction) (a : Activation) : Type 0 where
  pub kinds : Kinds
  pub is_at : IsAt code f a.at kinds a.held
  pub operands : AreOfKinds kinds a.operands

-- a function that waits for what a call of this form leaves
pub record Awaits (code : Contents) (gives : Form) (f : CodeFunction) (a : Activation) : Type 0 where
  pub below : Kinds
  pub kinds : Kinds
  pub pushed : push_form gives (Some below) ≡ Some kinds
  pub is_at : IsAt code f a.at kinds a.held
  pub operands : AreOfKinds below a.operands

-- what a call of this form leaves
abbrev pub IsLeft : Form → List Value → Type 0
IsLeft form.Nothing [] = Unit {0}
IsLeft (form.Number kind) (v ∷ []) = IsOfKind (scalar.Number kind) v
IsLeft form.Pointer (v ∷ []) = IsOfKind scalar.Pointer v
IsLeft form.Place (v ∷ []) = IsOfKind scalar.Pointer v
IsLeft _ _ = ⊥

-- a row gives what is of this form
pub record GivesForm (row : Row) (gives : Form) : Type 0 where
  pub name : RowName
  pub named : name_at row ≡ Some name
  pub form_is : form_of (prototype name).gives ≡ gives

-- a library call gives what is of the form, once the function that it waits for has returned
abbrev pub WaitsFor : (Row → Rest → Bool) → Row → Form → Waits → Type 0
WaitsFor waits row gives (ForHandler k value) = IsLeft gives (row_left value)
WaitsFor waits row gives (ForFunction rest) = waits row rest ≡ true

-- frames that wait for a function of this form
abbrev pub FramesStand : Contents → (Row → Rest → Bool) → Form → List Frame → Type 0
FramesStand code waits gives [] = Unit {0}
FramesStand code waits gives (Active a ∷ frames) = (f : CodeFunction) ×
    (function_at code.functions a.function ≡ Some f)
    × Awaits code gives f a × FramesStand code waits f.form frames
FramesStand code waits gives (Waiting call ∷ frames) = (own : Form) × GivesForm call.call.row own
    × WaitsFor waits call.call.row own call.waits × FramesStand code waits own frames

-- a run that goes on does so in a function that runs
abbrev pub PlaceStands : Contents → (Row → Rest → Bool) → Place → Type 0
PlaceStands code waits (Goes (Active a ∷ frames) s) = (f : CodeFunction)
    × (function_at code.functions a.function ≡ Some f) × Runs code f a × FramesStand code waits f.form frames
PlaceStands code waits (Goes (Waiting call ∷ frames) s) = ⊥
PlaceStands code waits (Goes [] s) = ⊥
PlaceStands code waits (Ends outcome s) = Unit {0}
PlaceStands code waits Stuck = ⊥

-- ---- what validity says of such a place

pub some_of : {A : Type 0} (o : Option A) → (o ≡ None → ⊥) → (a : A) × (o ≡ Some a)
some_of None never = absurd (never refl)
some_of (Some a) never = (a, refl)

pub some_at : {A : Type 0} (xs : List A) (k : ℕ) → k < length xs → (x : A) × (slice_get xs k ≡ Some x)
some_at [] k less = absurd (let none : ⊥ = omega (arith, less) in none)
some_at (x ∷ xs) zero less = (x, refl)
some_at (x ∷ xs) (suc k) less = some_at xs k (omega (arith, less))

lt_le : (a b c : ℕ) → a < b → b ≤ c → a < c
lt_le a b c less le = omega (arith, less, le)

-- the object that an instruction uses is held
pub finds_object : (instr : Instr) (slots : Slots) (held : List Held) → Holds slots held → (LacksSlot slots instr → ⊥)
    → FindsObject instr held
finds_object (i.Slot slot) slots held holds lacks =
    let made : (size : ℕ) × (slots slot ≡ Some size) =
    some_of (slots slot) (λ none. lacks (NoObject slot none)) in
    let h : (h : Held) × (held_in slot held ≡ Some h) × (h.size ≡ made.0) = holds slot made.0 made.1 in (h.0, h.1)
finds_object (i.Seal slot at len) slots held holds lacks =
    let made : (size : ℕ) × (slots slot ≡ Some size) =
    some_of (slots slot) (λ none. lacks (NothingToSeal slot at len none)) in
    let h : (h : Held) × (held_in slot held ≡ Some h) × (h.size ≡ made.0) = holds slot made.0 made.1 in
    elim (cases_lt made.0 (at + len)) [
      | inl beyond ↦ absurd (lacks (SealsBeyond slot at len made.0 made.1 beyond))
      | inr within ↦ let same : h.0.size ≡ made.0 = h.2 in (h.0, h.1, omega (arith, same, within))
    ]
finds_object _ slots held holds lacks = tt

module _ (code : Contents) (valid : IsValid code) (f : CodeFunction) (number : ℕ)
    (running : function_at code.functions number ≡ Some f) where
  own : Contains code.functions f
  own = function_contained code.functions number f running

  module _ (at : ℕ) (kinds : Kinds) (held : List Held) (there : IsAt code f at kinds held) where
    pub inside : (f.start ≤ at) × (at < end_of code f)
    inside = inside_of code f at (and_left (nat_le f.start at && nat_lt at (end_of code f))
        (not (is_entry (slice_get code.instrs at))) there.within)

    -- an instruction of its own stands there
    pub fetches : (x : Instr × Pos) × (slice_get code.instrs at ≡ Some x)
        × (fetched code f at ≡ Some x)
    fetches =
        let within : at < length code.instrs = lt_le at (end_of code f) (length code.instrs) inside.1
        (end_from_le f.start code.functions (length code.instrs)) in
        let here : (x : Instr × Pos) × (slice_get code.instrs at ≡ Some x) =
        some_at code.instrs at within in
        let both : (nat_le f.start at && nat_lt at (end_of code f)) ≡ true =
        and_left (nat_le f.start at && nat_lt at (end_of code f))
        (not (is_entry (slice_get code.instrs at))) there.within in
        (here.0, here.1, ap (λ (b : Bool). fetched_if b code at) both ∙ here.1)

    module _ (instr : Instr) (stands : StandsAt code at instr) where
      pub finds : (left : Kinds) × (kinds_after code f.form instr kinds ≡ Some left)
      finds = some_of (kinds_after code f.form instr kinds) (λ none. valid.holds at
          (LacksOperand f kinds there.slots instr own there.comes stands none))

      pub lacks_none : LacksSlot there.slots instr → ⊥
      lacks_none lacks = valid.holds at (LacksObject f kinds there.slots instr own there.comes stands lacks)

      pub sound : is_sound code (stretch_of code f) at instr ≡ true
      sound = bool_true (is_sound code (stretch_of code f) at instr) (λ unsound. valid.holds at
          (IsUnsound (stretch_of code f) instr (OfFunction f own) inside.0 inside.1 stands unsound))

-- Where something stands, the run is over or ready.
pub ready_of : (code : Contents) (valid : IsValid code) (waits : Row → Rest → Bool) (place : Place)
    → PlaceStands code waits place → IsOverOrReady code place
ready_of code valid waits (Goes (Active a ∷ frames) s) st =
    let at : (x : Instr × Pos) × (slice_get code.instrs a.at ≡ Some x) × (fetched code st.0 a.at ≡ Some x) =
    fetches code valid st.0 a.function st.1 a.at st.2.kinds a.held st.2.is_at in
    let found : (left : Kinds) × (kinds_after code st.0.form at.0.0 st.2.kinds ≡ Some left) =
    finds code valid st.0 a.function st.1 a.at st.2.kinds a.held st.2.is_at at.0.0 (at.0.1, at.1) in
    record {
      function = st.0;
      running = st.1;
      instr = at.0.0;
      pos = at.0.1;
      next = at.2;
      kinds = st.2.kinds;
      operands = st.2.operands;
      left = found.0;
      found = found.1;
      object = finds_object at.0.0 st.2.is_at.slots a.held st.2.is_at.holds
          (lacks_none code valid st.0 a.function st.1 a.at st.2.kinds a.held st.2.is_at at.0.0 (at.0.1, at.1));
    }
ready_of code valid waits (Goes (Waiting call ∷ frames) s) st = st
ready_of code valid waits (Goes [] s) st = st
ready_of code valid waits (Ends outcome s) st = tt
ready_of code valid waits Stuck st = st
