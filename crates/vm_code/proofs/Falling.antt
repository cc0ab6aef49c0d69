-- Each step of valid code leaves less of the run.
use Rattle.std.proofs.Common.{◌≡◌, ℕ, zero, suc, ◌+◌, ◌-◌, ◌<◌, ◌≤◌, Bool, true, false, ◌&&◌, ◌||◌, List, [], ◌∷◌}
use Rattle.std.proofs.Common.{length, Option, Some, None, Contains, refl, sym, ◌∙◌, ap, subst, arith}
use Rattle.std.proofs.lemmas.Bool.{ltb-true, leb-true}
use Rattle.std.proofs.lemmas.Option.{slice_get_within}
use Rattle.std.specs.Prelude.{nat_lt, nat_le}
use Rattle.std.specs.List.{slice_get, slice_index_or, list_all}
use Rattle.critical_table.specs.declared.pos.Pos.{Pos}
use Rattle.lib_defs.specs.declared.value.Value.{Value}
use Rattle.run_defs.specs.State.{State}
use Rattle.run_defs.specs.Evaluation.{ticked_at}
use Rattle.run_defs.specs.Functions.{Environment}
use Rattle.vm_code.specs.declared.instr.Instr.{Instr}
use Rattle.vm_code.specs.declared.instr.Instr.TheVariants as i
use Rattle.vm_code.specs.declared.parts.CodeFunction.{CodeFunction}
use Rattle.vm_code.specs.Contents.{Contents, function_at}
use Rattle.vm_code.specs.CodeFunctions.{end_of}
use Rattle.vm_code.specs.Frames.{Activation, Frame, Active, Waiting, Place, Goes, Ends, Stuck, after}
use Rattle.vm_code.specs.Machine.{Context, next, fetched_if, acts, step_in, step}
use Rattle.vm_code.specs.Sound.{Stretch, is_place, is_tick, leads, next_places, is_plain, is_sound}
use Rattle.vm_code.specs.Ways.{stretch_of}
use Rattle.vm_code.specs.Valid.{StandsAt, OfFunction, IsUnsound, IsValid}
use Rattle.vm_code.proofs.Fronts.{some_alone}
use Rattle.vm_code.proofs.Acting.{first_of}
use Rattle.vm_code.proofs.Weights.{spent, rest_if, rest_at, rest_le, by_instructions, weights, Within}
use Rattle.vm_code.proofs.ActingOn.{within_act, later, none_is_some}

-- ---- what soundness says of the places where an instruction leads

pub and_left : (a b : Bool) → (a && b) ≡ true → a ≡ true
and_left true b both = refl
and_left false b both = both

pub and_right : (a b : Bool) → (a && b) ≡ true → b ≡ true
and_right true b both = both
and_right false b both = cc

all_at : {A : Type 0} (p : A → Bool) (xs : List A) (k : ℕ) (x : A) → list_all p xs ≡ true → k < length xs
    → slice_index_or xs k x ≡ x → p x ≡ true
all_at p [] k x all within is = absurd (let none : ⊥ = omega (arith, within) in none)
all_at {A = A} p (y ∷ xs) zero x all within is = let P : A → Type 0 = λ z. p z ≡ true in
    subst P is (and_left (p y) (list_all p xs) all)
all_at p (y ∷ xs) (suc k) x all within is =
    all_at p xs k x (and_right (p y) (list_all p xs) all) (omega (arith, within)) is

pub all_of : {A : Type 0} (p : A → Bool) (xs : List A) (x : A) → list_all p xs ≡ true → Contains xs x → p x ≡ true
all_of p xs x all found = all_at p xs found.0 x all found.1 found.2

lead_rest : (place less tick : Bool) (u at to : ℕ) → (place && (less || tick)) ≡ true → (less ≡ true → at < to)
    → rest_if tick u to ≤ u - (at + 1)
lead_rest place less true u at to leads behind = omega arith
lead_rest place true false u at to leads behind = let far : at < to = behind refl in omega (arith, far)
lead_rest true false false u at to leads behind = absurd (let none : ⊥ = cc in none)
lead_rest false false false u at to leads behind = absurd (let none : ⊥ = cc in none)

leads_rest : (code : Contents) (stretch : Stretch) (at to : ℕ) → leads code stretch at to ≡ true
    → rest_at code to ≤ length code.instrs - (at + 1)
leads_rest code stretch at to is = lead_rest (is_place code stretch to) (nat_lt at to)
    (is_tick (slice_get code.instrs to)) (length code.instrs) at to is (ltb-true at to)

pub bool_true : (b : Bool) → (b ≡ false → ⊥) → b ≡ true
bool_true true never = refl
bool_true false never = absurd (never refl)

found_contains : {A : Type 0} (xs : List A) (k : ℕ) (x : A) → slice_get xs k ≡ Some x → Contains xs x
found_contains [] k x is = absurd (none_is_some x is)
found_contains {A = A} (y ∷ xs) zero x is = let P : A → Type 0 = λ z. Contains (y ∷ xs) z in
    subst P (some_alone y x is) (first_of y xs)
found_contains (y ∷ xs) (suc k) x is = later y xs x (found_contains xs k x is)

pub function_contained : (functions : List CodeFunction) (number : ℕ) (f : CodeFunction)
    → function_at functions number ≡ Some f → Contains functions f
function_contained functions zero f is = absurd (none_is_some f is)
function_contained functions (suc k) f is = found_contains functions k f is

-- ---- a step

-- less than m is left at a place
abbrev pub Falls : Contents → ℕ → Place → Type 0
Falls code m (Goes frames s) = spent (length code.instrs) s.ticks + weights (by_instructions code) frames < m
Falls code m (Ends outcome s) = spent (length code.instrs) s.ticks ≤ m
Falls code m Stuck = Unit {0}

falls_within : (code : Contents) (m n : ℕ) (place : Place) → Within (by_instructions code) m place → m < n
    → Falls code n place
falls_within code m n (Goes frames s) within less = omega (arith, within, less)
falls_within code m n (Ends outcome s) within less = omega (arith, within, less)
falls_within code m n Stuck within less = tt

-- a tick pays for the pass behind it
falls_tick : (n : ℕ) (c : Context) (operands : List Value) → n ≡ c.state.ticks → 0 < length c.code.instrs
    → Falls c.code (spent (length c.code.instrs) n + weights (by_instructions c.code) c.rest)
    (after (ticked_at n c.state) (λ u s. next c operands s))
falls_tick zero c operands same some = let P : ℕ → Type 0 = λ t. spent (length c.code.instrs) t
    ≤ spent (length c.code.instrs) zero + weights (by_instructions c.code) c.rest in subst P same (omega arith)
falls_tick (suc n) c operands same some =
    let rest : rest_at c.code (c.frame.at + 1) ≤ length c.code.instrs = rest_le c.code (c.frame.at + 1) in
    omega (arith, rest, some)

pub inside_of : (code : Contents) (f : CodeFunction) (at : ℕ)
    → (nat_le f.start at && nat_lt at (end_of code f)) ≡ true → f.start ≤ at × at < end_of code f
inside_of code f at both = (
  leb-true f.start at (and_left (nat_le f.start at) (nat_lt at (end_of code f)) both),
  ltb-true at (end_of code f) (and_right (nat_le f.start at) (nat_lt at (end_of code f)) both),
)

module _ (code : Contents) (valid : IsValid code) (e : Environment) where
  sound_at : (f : CodeFunction) (at : ℕ) (instr : Instr) → Contains code.functions f → f.start ≤ at
      → at < end_of code f → StandsAt code at instr → is_sound code (stretch_of code f) at instr ≡ true
  sound_at f at instr is from to stands = bool_true (is_sound code (stretch_of code f) at instr)
      (λ unsound. valid.holds at (IsUnsound (stretch_of code f) instr (OfFunction f is) from to stands unsound))

  falls_other : (f : CodeFunction) (frame : Activation) (rest : List Frame) (s : State) (instr : Instr) (here : Pos)
      → Contains code.functions f → f.start ≤ frame.at → frame.at < end_of code f
      → slice_get code.instrs frame.at ≡ Some (instr, here) → is_tick (Some (instr, here)) ≡ false
      → Falls code (spent (length code.instrs) s.ticks + (rest_at code frame.at + weights (by_instructions code) rest))
      (acts (Some (instr, here)) e code f frame rest s)
  falls_other f frame rest s instr here is from to stands other =
      let sound : is_sound code (stretch_of code f) frame.at instr ≡ true =
      sound_at f frame.at instr is from to (here, stands) in
      let led : list_all (leads code (stretch_of code f) frame.at) (next_places code frame.at instr) ≡ true =
      and_right (is_plain code (stretch_of code f) frame.at instr)
      (list_all (leads code (stretch_of code f) frame.at) (next_places code frame.at instr)) sound in
      let below : frame.at < length code.instrs = slice_get_within code.instrs frame.at (instr, here) stands in
      let no_tick : is_tick (slice_get code.instrs frame.at) ≡ false = ap is_tick stands ∙ other in
      let left : rest_at code frame.at ≡ length code.instrs - frame.at =
      ap (λ (b : Bool). rest_if b (length code.instrs) frame.at) no_tick in
      falls_within code
      (spent (length code.instrs) s.ticks + (length code.instrs - (frame.at + 1)) + weights (by_instructions code) rest)
      (spent (length code.instrs) s.ticks + (rest_at code frame.at + weights (by_instructions code) rest))
      (acts (Some (instr, here)) e code f frame rest s)
      (within_act (by_instructions code) (record {
        environment = e;
        code = code;
        function = f;
        frame = frame;
        rest = rest;
        pos = here;
        state = s;
      })
      (spent (length code.instrs) s.ticks + (length code.instrs - (frame.at + 1)) + weights (by_instructions code) rest)
      (length code.instrs - (frame.at + 1)) (omega arith) instr
      (λ there found. leads_rest code (stretch_of code f) frame.at there
      (all_of (leads code (stretch_of code f) frame.at) (next_places code frame.at instr) there led found)))
      (omega (arith, left, below))

  falls_act : (f : CodeFunction) (frame : Activation) (rest : List Frame) (s : State) (instr : Instr) (here : Pos)
      → Contains code.functions f → f.start ≤ frame.at → frame.at < end_of code f
      → slice_get code.instrs frame.at ≡ Some (instr, here)
      → Falls code (spent (length code.instrs) s.ticks + (rest_at code frame.at + weights (by_instructions code) rest))
      (acts (Some (instr, here)) e code f frame rest s)
  falls_act f frame rest s i.Tick here is from to stands =
      let below : frame.at < length code.instrs = slice_get_within code.instrs frame.at (i.Tick, here) stands in
      let left : rest_at code frame.at ≡ 0 =
      ap (λ (b : Bool). rest_if b (length code.instrs) frame.at) (ap is_tick stands) in
      let P : ℕ → Type 0 =
      λ n. Falls code (spent (length code.instrs) s.ticks + (n + weights (by_instructions code) rest))
      (acts (Some (i.Tick, here)) e code f frame rest s) in
      let Q : ℕ → Type 0 = λ n. Falls code (spent (length code.instrs) s.ticks + n)
      (acts (Some (i.Tick, here)) e code f frame rest s) in
      let zero_first : 0 + weights (by_instructions code) rest ≡ weights (by_instructions code) rest = omega arith in
      subst P (sym left) (subst Q (sym zero_first) (falls_tick s.ticks (record {
        environment = e;
        code = code;
        function = f;
        frame = frame;
        rest = rest;
        pos = here;
        state = s;
      }) frame.operands refl (omega (arith, below))))
  falls_act f frame rest s instr here is from to stands =
      falls_other f frame rest s instr here is from to stands refl

  falls_fetched : (b : Bool) (f : CodeFunction) (frame : Activation) (rest : List Frame) (s : State)
      → (b ≡ true → f.start ≤ frame.at × frame.at < end_of code f) → Contains code.functions f
      → Falls code (spent (length code.instrs) s.ticks + (rest_at code frame.at + weights (by_instructions code) rest))
      (acts (fetched_if b code frame.at) e code f frame rest s)
  falls_fetched false f frame rest s inside is = tt
  falls_fetched true f frame rest s inside is = at_instr (slice_get code.instrs frame.at) refl
    where
      at_instr : (o : Option (Instr × Pos)) → slice_get code.instrs frame.at ≡ o
          → Falls code
          (spent (length code.instrs) s.ticks + (rest_at code frame.at + weights (by_instructions code) rest))
          (acts o e code f frame rest s)
      at_instr None stands = tt
      at_instr (Some (instr, here)) stands =
          falls_act f frame rest s instr here is (inside refl).0 (inside refl).1 stands

  falls_in : (frame : Activation) (rest : List Frame) (s : State) (o : Option CodeFunction)
      → function_at code.functions frame.function ≡ o
      → Falls code (spent (length code.instrs) s.ticks + (rest_at code frame.at + weights (by_instructions code) rest))
      (step_in o e code frame rest s)
  falls_in frame rest s None is = tt
  falls_in frame rest s (Some f) is =
      falls_fetched (nat_le f.start frame.at && nat_lt frame.at (end_of code f)) f frame rest s
      (inside_of code f frame.at) (function_contained code.functions frame.function f is)

  -- Each step leaves less.
  pub step_falls : (frames : List Frame) (s : State)
      → Falls code (spent (length code.instrs) s.ticks + weights (by_instructions code) frames) (step e code frames s)
  step_falls [] s = tt
  step_falls (Waiting call ∷ rest) s = tt
  step_falls (Active frame ∷ rest) s =
      falls_in frame rest s (function_at code.functions frame.function) refl
