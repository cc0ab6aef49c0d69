-- Codes on either side of what is asked of valid code.
use Rattle.std.proofs.Common.{◌≡◌, ℕ, zero, suc, ◌<◌, ◌≤◌, Bool, true, false, List, [], ◌∷◌, Contains}
use Rattle.std.proofs.Common.{length}
use Rattle.std.proofs.Common.{Some, None, refl, ◌∙◌, ap, subst, arith, ◌==◌, if◌then◌else◌}
use Rattle.std.specs.Prelude.{pos}
use Rattle.std.specs.List.{slice_get, slice_index_or}
use Rattle.acc_num.specs.declared.kind.IntKind.TheVariants as k
use Rattle.critical_table.specs.declared.pos.Pos.{Pos}
use Rattle.object_store.specs.declared.by.By.TheVariants.{Star}
use Rattle.lib_defs.specs.declared.value.ArgKind.TheVariants as kind
use Rattle.c_core.specs.declared.form.Form.TheVariants as form
use Rattle.c_core.specs.declared.form.Scalar.TheVariants.{Number}
use Rattle.vm_code.specs.declared.instr.Instr.{Instr}
use Rattle.vm_code.specs.declared.instr.Instr.TheVariants as i
use Rattle.vm_code.specs.declared.parts.CodeFunction.{CodeFunction}
use Rattle.vm_code.specs.Contents.{Contents}
use Rattle.vm_code.specs.OperandKinds.{Kinds}
use Rattle.vm_code.specs.Sound.{Stretch, is_place, is_sound}
use Rattle.vm_code.specs.Ways.{Slots, slot_made, slots_after, Step, Way, stretch_of}
use Rattle.vm_code.specs.Valid.{StandsAt, Comes, NoObject, SealsBeyond, OfFunction, BeforeAll, Fails}
use Rattle.vm_code.specs.Valid.{CannotStart, LacksOperand, LacksObject, KindsDiffer, KillsNothing, IsStretch, IsValid}
use Rattle.vm_code.proofs.Acting.{first_of, second_of}
use Rattle.vm_code.proofs.ActingOn.{none_is_some}
use Rattle.vm_code.proofs.Fronts.{some_alone, Front, Covers, Fronts, Fits, AreFronts, HasFronts, valid_by_fronts}
use Rattle.vm_code.proofs.RunWords.{here, int, main, alone, unit, gives_int, types_of}

-- ---- what is asked of an instruction by itself

-- whether it is sound in the code of main alone
abbrev sound_in : List Instr → ℕ → Instr → Bool
sound_in instrs at instr = is_sound (alone instrs) (stretch_of (alone instrs) main) at instr

in_range : sound_in (i.Number k.U8 (pos 255) ∷ i.Give ∷ []) 0 (i.Number k.U8 (pos 255)) ≡ true
in_range = refl

out_of_range : sound_in (i.Number k.U8 (pos 256) ∷ i.Give ∷ []) 0 (i.Number k.U8 (pos 256)) ≡ false
out_of_range = refl

largest : sound_in (i.Make 0 16777216 ∷ i.Leave ∷ []) 0 (i.Make 0 16777216) ≡ true
largest = refl

too_large : sound_in (i.Make 0 16777217 ∷ i.Leave ∷ []) 0 (i.Make 0 16777217) ≡ false
too_large = refl

empty : sound_in (i.Make 0 0 ∷ i.Leave ∷ []) 0 (i.Make 0 0) ≡ false
empty = refl

no_alignment : sound_in (i.Reach 4 0 Star ∷ i.Leave ∷ []) 0 (i.Reach 4 0 Star) ≡ false
no_alignment = refl

no_elements : sound_in (i.Difference 0 ∷ i.Leave ∷ []) 0 (i.Difference 0) ≡ false
no_elements = refl

no_text : sound_in (i.Pool 0 ∷ i.Leave ∷ []) 0 (i.Pool 0) ≡ false
no_text = refl

no_result : sound_in (i.Result ∷ i.Leave ∷ []) 0 i.Result ≡ false
no_result = refl

-- the last instruction goes on behind the end
no_end : sound_in (int 0 ∷ []) 0 (int 0) ≡ false
no_end = refl

jumps_out : sound_in (i.Jump 1 ∷ []) 0 (i.Jump 1) ≡ false
jumps_out = refl

jumps_on : sound_in (i.Jump 1 ∷ i.Leave ∷ []) 0 (i.Jump 1) ≡ true
jumps_on = refl

-- a jump back, to a tick or not; a jump to itself is one
jumps_to_tick : sound_in (i.Tick ∷ i.Jump 0 ∷ []) 1 (i.Jump 0) ≡ true
jumps_to_tick = refl

jumps_back : sound_in (int 0 ∷ i.Drop ∷ i.Jump 0 ∷ []) 2 (i.Jump 0) ≡ false
jumps_back = refl

jumps_to_itself : sound_in (i.Jump 0 ∷ []) 0 (i.Jump 0) ≡ false
jumps_to_itself = refl

-- pairs and defaults
abbrev choice : List Instr
choice = int 1 ∷ i.Cases 1 ∷ i.Pair (pos 1) 4 ∷ i.Default 4 ∷ i.Leave ∷ []

leads_to_cases : sound_in choice 1 (i.Cases 1) ≡ true
leads_to_cases = refl

pair_behind_cases : sound_in choice 2 (i.Pair (pos 1) 4) ≡ true
pair_behind_cases = refl

default_behind_pairs : sound_in choice 3 (i.Default 4) ≡ true
default_behind_pairs = refl

lacks_default : sound_in (int 1 ∷ i.Cases 1 ∷ i.Pair (pos 1) 3 ∷ i.Leave ∷ []) 1 (i.Cases 1) ≡ false
lacks_default = refl

stands_alone : sound_in (i.Default 1 ∷ i.Leave ∷ []) 0 (i.Default 1) ≡ false
stands_alone = refl

jumps_to_pair : sound_in (i.Jump 3 ∷ int 1 ∷ i.Cases 1 ∷ i.Pair (pos 1) 5 ∷ i.Default 5 ∷ i.Leave ∷ []) 0 (i.Jump 3)
    ≡ false
jumps_to_pair = refl

-- calls, through a type of putchar, which is the function 51
abbrev prints : List Instr → Contents
prints instrs = unit [] (types_of (51 ∷ []) (gives_int ∷ []) (kind.Int ∷ []) gives_int) instrs

abbrev call_sound : Contents → Instr → Bool
call_sound code instr = is_sound code (stretch_of code main) 0 instr

one_argument : call_sound (prints (i.Call 1 2 ∷ i.Leave ∷ [])) (i.Call 1 2) ≡ true
one_argument = refl

two_arguments : call_sound (prints (i.Call 2 2 ∷ i.Leave ∷ [])) (i.Call 2 2) ≡ false
two_arguments = refl

no_type : call_sound (prints (i.Call 1 3 ∷ i.Leave ∷ [])) (i.Call 1 3) ≡ false
no_type = refl

other_form : call_sound (unit [] (types_of (51 ∷ []) (form.Pointer ∷ []) (kind.CharPointer ∷ []) gives_int)
    (i.Call 1 2 ∷ i.Leave ∷ [])) (i.Call 1 2) ≡ false
other_form = refl

no_kinds : call_sound (unit [] (types_of (51 ∷ []) (gives_int ∷ []) [] gives_int) (i.Call 1 2 ∷ i.Leave ∷ []))
    (i.Call 1 2) ≡ false
no_kinds = refl

-- ---- what is asked on ways

main_there : Contains (main ∷ []) main
main_there = (0, omega arith, refl)

-- a way of no steps
at_start : (instrs : List Instr) → Comes (alone instrs) main 0 [] (λ t. None)
at_start instrs = record { steps = 0; way = (refl, refl, refl) }

-- `drop` alone: no operand
drops_nothing : Fails (alone (i.Drop ∷ [])) 0
drops_nothing = LacksOperand main [] (λ t. None) i.Drop main_there (at_start (i.Drop ∷ [])) (here 0, refl) refl

-- the slot isn't made
names_nothing : Fails (alone (i.Slot 0 ∷ i.Drop ∷ i.Leave ∷ [])) 0
names_nothing = LacksObject main [] (λ t. None) (i.Slot 0) main_there (at_start (i.Slot 0 ∷ i.Drop ∷ i.Leave ∷ []))
    (here 0, refl) (NoObject 0 refl)

-- a way goes on by an instruction
goes_on : (instrs : List Instr) (at : ℕ) (kinds : Kinds) (slots : Slots) (to : ℕ) (kinds_there : Kinds)
    (slots_there : Slots) → Comes (alone instrs) main at kinds slots
    → Step (alone instrs) main at kinds slots to kinds_there slots_there
    → Comes (alone instrs) main to kinds_there slots_there
goes_on instrs at kinds slots to kinds_there slots_there comes step =
    record { steps = suc comes.steps; way = (at, kinds, slots, comes.way, step) }

-- a seal of a byte behind the object
abbrev sealing : List Instr
sealing = i.Make 0 4 ∷ i.Seal 0 3 2 ∷ i.Leave ∷ []

abbrev made : Slots
made = slot_made 0 4 (λ t. None)

comes_to_seal : Comes (alone sealing) main 1 [] made
comes_to_seal = goes_on sealing 0 [] (λ t. None) 1 [] made (at_start sealing) (record {
  instr = i.Make 0 4;
  pos = here 0;
  stands = refl;
  operands = refl;
  objects = refl;
  next = first_of 1 [];
  within = refl;
})

seals_beyond : Fails (alone sealing) 1
seals_beyond = LacksObject main [] made (i.Seal 0 3 2) main_there comes_to_seal (here 1, refl)
    (SealsBeyond 0 3 2 4 refl (omega arith))

-- of two ways to the last instruction one leaves an operand
abbrev joining : List Instr
joining = int 0 ∷ i.IfZero 3 ∷ int 1 ∷ i.Leave ∷ []

comes_to_test : Comes (alone joining) main 1 (Number k.I32 ∷ []) (λ t. None)
comes_to_test = goes_on joining 0 [] (λ t. None) 1 (Number k.I32 ∷ []) (λ t. None) (at_start joining) (record {
  instr = int 0;
  pos = here 0;
  stands = refl;
  operands = refl;
  objects = refl;
  next = first_of 1 [];
  within = refl;
})

jumps_to_end : Comes (alone joining) main 3 [] (λ t. None)
jumps_to_end = goes_on joining 1 (Number k.I32 ∷ []) (λ t. None) 3 [] (λ t. None) comes_to_test (record {
  instr = i.IfZero 3;
  pos = here 1;
  stands = refl;
  operands = refl;
  objects = refl;
  next = second_of 2 3 [];
  within = refl;
})

goes_to_one : Comes (alone joining) main 2 [] (λ t. None)
goes_to_one = goes_on joining 1 (Number k.I32 ∷ []) (λ t. None) 2 [] (λ t. None) comes_to_test (record {
  instr = i.IfZero 3;
  pos = here 1;
  stands = refl;
  operands = refl;
  objects = refl;
  next = first_of 2 (3 ∷ []);
  within = refl;
})

goes_to_end : Comes (alone joining) main 3 (Number k.I32 ∷ []) (λ t. None)
goes_to_end = goes_on joining 2 [] (λ t. None) 3 (Number k.I32 ∷ []) (λ t. None) goes_to_one (record {
  instr = int 1;
  pos = here 2;
  stands = refl;
  operands = refl;
  objects = refl;
  next = first_of 3 [];
  within = refl;
})

ways_differ : Fails (alone joining) 3
ways_differ = KindsDiffer main [] (Number k.I32 ∷ []) (λ t. None) (λ t. None) main_there jumps_to_end goes_to_end
    (λ same. cc)

-- a kill of a slot that no way makes
nothing_made : (n at : ℕ) (kinds : Kinds) (slots : Slots) → Way (alone (i.Kill 0 ∷ i.Leave ∷ [])) main n at kinds slots
    → (t : ℕ) → slots t ≡ None
nothing_made zero at kinds slots way t = ap (λ (m : Slots). m t) way.2
nothing_made (suc n) at kinds slots way t =
    let before : way.2 t ≡ None = nothing_made n way.0 way.1 way.2 way.3 t in
    ap (λ (m : Slots). m t) way.4.objects ∙ after_none way.0 way.4.instr way.4.pos way.4.stands way.2 t before
  where
    after_none : (place : ℕ) (instr : Instr) (there : Pos)
        → slice_get (alone (i.Kill 0 ∷ i.Leave ∷ [])).instrs place ≡ Some (instr, there) → (m : Slots) (t : ℕ)
        → m t ≡ None → slots_after instr m t ≡ None
    after_none zero instr there stands m t none = let P : Instr × Pos → Type 0 = λ x. slots_after x.0 m t ≡ None in
        subst P (some_alone (i.Kill 0, here 0) (instr, there) stands) (killed_none (t == 0) none)
      where
        killed_none : (b : Bool) → m t ≡ None → (if b then None else m t) ≡ None
        killed_none true is = refl
        killed_none false is = is
    after_none (suc zero) instr there stands m t none =
        let P : Instr × Pos → Type 0 = λ x. slots_after x.0 m t ≡ None in
        subst P (some_alone (i.Leave, here 1) (instr, there) stands) none
    after_none (suc (suc place)) instr there stands m t none = absurd (none_is_some (instr, there) stands)

kills_nothing : Fails (alone (i.Kill 0 ∷ i.Leave ∷ [])) 0
kills_nothing = KillsNothing main [] (λ t. None) 0 main_there (at_start (i.Kill 0 ∷ i.Leave ∷ [])) (here 0, refl)
    (λ others more comes. nothing_made comes.steps 0 others more comes.way 0)

-- a function that starts at a default
abbrev late : CodeFunction
late = record main { start = 3 }

starts_at_default : Fails (unit (late ∷ []) [] choice) 3
starts_at_default = CannotStart late (second_of main late []) refl refl

-- ---- valid code

-- the one function of code with main alone
is_main : (f : CodeFunction) → Contains (main ∷ []) f → main ≡ f
is_main f found = at_index found.0 found.1 found.2
  where
    at_index : (k : ℕ) → k < length (main ∷ []) → slice_index_or (main ∷ []) k f ≡ f → main ≡ f
    at_index zero within is = is
    at_index (suc k) within is = absurd (let none : ⊥ = omega (arith, within) in none)

-- int main(void){return 0;}
abbrev zero_code : Contents
zero_code = alone (int 0 ∷ i.Give ∷ [])

only_one : (one to : ℕ) → Contains (one ∷ []) to → one ≡ to
only_one one to found = at_index found.0 found.1 found.2
  where
    at_index : (k : ℕ) → k < length (one ∷ []) → slice_index_or (one ∷ []) k to ≡ to → one ≡ to
    at_index zero within is = is
    at_index (suc k) within is = absurd (let none : ⊥ = omega (arith, within) in none)

abbrev zero_fronts : Fronts
zero_fronts zero = Some (record { kinds = []; made = λ t. None })
zero_fronts (suc zero) = Some (record { kinds = Number k.I32 ∷ []; made = λ t. None })
zero_fronts (suc (suc k)) = None

covers_none : (slots : Slots) → Covers (λ t. None) slots
covers_none slots t size made = absurd (none_is_some size made)

zero_fits : (at : ℕ) (instr : Instr) (front : Front) → zero_fronts at ≡ Some front → StandsAt zero_code at instr
    → Fits zero_code main zero_fronts at instr front
zero_fits zero instr front is stands =
    let P : Instr × Pos → Type 0 = λ x. Fits zero_code main zero_fronts 0 x.0
    (record { kinds = []; made = λ t. None }) in
    let Q : Front → Type 0 = λ x. Fits zero_code main zero_fronts 0 instr x in
    subst Q (some_alone (record { kinds = []; made = λ t. None }) front is)
    (subst P (some_alone (int 0, here 0) (instr, stands.0) stands.1) (record {
      left = Number k.I32 ∷ [];
      operands = refl;
      slots = tt;
      onward = λ to next. to_one to next;
    }))
  where
    to_one : (to : ℕ) → Contains (1 ∷ []) to → (there : Front) × (zero_fronts to ≡ Some there)
        × (there.kinds ≡ Number k.I32 ∷ []) × Covers there.made (λ t. None)
    to_one to next = let P : ℕ → Type 0 = λ n. (there : Front) × (zero_fronts n ≡ Some there)
        × (there.kinds ≡ Number k.I32 ∷ []) × Covers there.made (λ t. None) in
        subst P (only_one 1 to next)
        (record { kinds = Number k.I32 ∷ []; made = λ t. None }, refl, refl, covers_none (λ t. None))
zero_fits (suc zero) instr front is stands =
    let P : Instr × Pos → Type 0 = λ x. Fits zero_code main zero_fronts 1 x.0
    (record { kinds = Number k.I32 ∷ []; made = λ t. None }) in
    let Q : Front → Type 0 = λ x. Fits zero_code main zero_fronts 1 instr x in
    subst Q (some_alone (record { kinds = Number k.I32 ∷ []; made = λ t. None }) front is)
    (subst P (some_alone (i.Give, here 1) (instr, stands.0) stands.1) (record {
      left = [];
      operands = refl;
      slots = tt;
      onward = λ to next. absurd (let none : ⊥ = omega (arith, next.1) in none);
    }))
zero_fits (suc (suc k)) instr front is stands = absurd (none_is_some front is)

zero_sound : (stretch : Stretch) (at : ℕ) (instr : Instr) → IsStretch zero_code stretch → stretch.from ≤ at
    → at < stretch.to → StandsAt zero_code at instr → is_sound zero_code stretch at instr ≡ true
zero_sound stretch at instr BeforeAll from to stands = absurd (let none : ⊥ = omega (arith, to) in none)
zero_sound stretch zero instr (OfFunction f is) from to stands =
    let P : Instr × Pos → Type 0 = λ x. is_sound zero_code (stretch_of zero_code f) 0 x.0 ≡ true in
    let Q : CodeFunction → Type 0 = λ f. is_sound zero_code (stretch_of zero_code f) 0 (int 0) ≡ true in
    subst P (some_alone (int 0, here 0) (instr, stands.0) stands.1) (subst Q (is_main f is) refl)
zero_sound stretch (suc zero) instr (OfFunction f is) from to stands =
    let P : Instr × Pos → Type 0 = λ x. is_sound zero_code (stretch_of zero_code f) 1 x.0 ≡ true in
    let Q : CodeFunction → Type 0 = λ f. is_sound zero_code (stretch_of zero_code f) 1 i.Give ≡ true in
    subst P (some_alone (i.Give, here 1) (instr, stands.0) stands.1) (subst Q (is_main f is) refl)
zero_sound stretch (suc (suc k)) instr (OfFunction f is) from to stands = absurd (none_is_some
    (instr, stands.0) stands.1)

zero_has_fronts : HasFronts zero_code
zero_has_fronts = record {
  sound = zero_sound;
  starts = λ f is. let Q : CodeFunction → Type 0 = λ f. is_place zero_code (stretch_of zero_code f) f.start ≡ true in
      subst Q (is_main f is) refl;
  fronts = λ f is. let Q : CodeFunction → Type 0 = λ f. (fronts : Fronts) × AreFronts zero_code f fronts in
      subst Q (is_main f is) (
        zero_fronts,
        record {
          first = record { kinds = []; made = λ t. None };
          start = refl;
          empty = refl;
          parameters = covers_none (λ t. None);
          fits = zero_fits;
        },
      );
  own = λ type called is. absurd (none_is_some called is);
}

-- `num I32 0` and `give`, with a function that gives an int
zero_is_valid : IsValid zero_code
zero_is_valid = valid_by_fronts zero_code zero_has_fronts
