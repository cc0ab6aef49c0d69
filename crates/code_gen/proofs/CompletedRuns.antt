-- A library call runs as it means, where the functions of the unit that it wants do: with fewer ticks at each.
use Rattle.std.proofs.Common.{◌≡◌, ℕ, zero, suc, ◌<◌, ◌≤◌, Bool, true, false, List, [], ◌∷◌, refl}
use Rattle.std.proofs.Common.{arith, Option, Some, None}
use Rattle.std.specs.Prelude.{unwrap_or}
use Rattle.critical_table.specs.declared.pos.Pos.{Pos}
use Rattle.object_store.specs.declared.pointer.Pointer.{Pointer}
use Rattle.lib_defs.specs.declared.row.Row.{Row}
use Rattle.lib_defs.specs.declared.value.Value.{Value}
use Rattle.lib_defs.specs.declared.value.Value.TheVariants.{Nothing}
use Rattle.lib_defs.specs.Library.{Library}
use Rattle.lib_defs.specs.Reply.{null}
use Rattle.lib_defs.specs.Variants.{KeepsVariants}
use Rattle.run_defs.specs.declared.library_call.Suspended.{Suspended}
use Rattle.run_defs.specs.Calls.{completed}
use Rattle.run_defs.specs.Evaluation.{Evaluation, Gives, Stops, bind, call_entered}
use Rattle.run_defs.specs.Functions.{Environment}
use Rattle.run_defs.specs.Served.{Served, Answers, Wants, continued}
use Rattle.run_defs.specs.State.{State}
use Rattle.c_core.specs.declared.form.Form.{Form}
use Rattle.c_core.specs.Forms.{given_form}
use Rattle.c_core.specs.TreeUnit.{Definition, Program}
use Rattle.c_core.specs.TypedUnit.{IsWellTyped}
use Rattle.vm_code.specs.declared.parts.CodeFunction.{CodeFunction}
use Rattle.vm_code.specs.Calling.{Entry, fit_parameters, parameters_made, entered_if, entered_at, entered, left_by}
use Rattle.vm_code.specs.Calling.{row_left}
use Rattle.vm_code.specs.Calling.{activation, replied, returned}
use Rattle.vm_code.specs.Contents.{Contents}
use Rattle.vm_code.specs.Contents as code_parts
use Rattle.vm_code.specs.Frames.{Frame, Active, Waiting, Place, Goes, after}
use Rattle.vm_code.proofs.AccessTicks.{leaves_parameters}
use Rattle.vm_code.proofs.ServedTicks.{Serves, serves_continued}
use Rattle.vm_code.proofs.TicksFall.{Leaves, leaves_entered}
use Rattle.code_gen.specs.Calls.{wanted, enter_below}
use Rattle.code_gen.specs.ProgramFunctions.{UnitFunction, function_numbered, environment}
use Rattle.code_gen.specs.RunLaw.{LeavesAt, Arrives, Reaches}
use Rattle.code_gen.specs.UnitCode.{unit_code}
use Rattle.code_gen.proofs.CompatibleForms.{AreTakenValues}
use Rattle.code_gen.proofs.EnteredRuns.{returned_to}
use Rattle.code_gen.proofs.Going.{comes_same, comes_ticks, reaches_bind, reaches_from, reaches_gives, reaches_known}
use Rattle.code_gen.proofs.WantedFunctions.{ServesSo, continued_serves}

-- ---- ticks

-- no more ticks are left, where it gives a value
abbrev pub NoMore : {A : Type 0} → ℕ → Evaluation A → Type 0
NoMore t (Gives v s) = s.ticks ≤ t
NoMore t (Stops outcome s) = Unit {0}

leaves_after : {A : Type 0} (t : ℕ) (x : Evaluation A) (next : A → State → Place) → Leaves t x
    → ((v : A) (s : State) → s.ticks ≤ t → LeavesAt t (next v s)) → LeavesAt t (after x next)
leaves_after t (Gives v s) next le all = all v s le
leaves_after t (Stops outcome s) next le all = le

if_leaves : (b : Bool) (f : CodeFunction) (entry : Entry) (frames : List Frame) (t : ℕ) (s : State) → s.ticks ≤ t
    → LeavesAt t (entered_if b f entry frames s)
if_leaves false f entry frames t s le = tt
if_leaves true f entry frames t s le =
    leaves_after t (call_entered s) (λ u s1.
    after (parameters_made 0 f.parameters entry.arguments [] entry.pos s1) (λ held s2.
    Goes (Active (activation entry f held) ∷ frames) s2)) (leaves_entered t s le) (λ u s1 le1.
    leaves_after t (parameters_made 0 f.parameters entry.arguments [] entry.pos s1) (λ held s2.
    Goes (Active (activation entry f held) ∷ frames) s2)
    (leaves_parameters 0 f.parameters entry.arguments [] entry.pos t s1 le1) (λ held s2 le2. le2))

at_leaves : (o : Option CodeFunction) (entry : Entry) (frames : List Frame) (t : ℕ) (s : State) → s.ticks ≤ t
    → LeavesAt t (entered_at o entry frames s)
at_leaves None entry frames t s le = tt
at_leaves (Some f) entry frames t s le = if_leaves (fit_parameters f.parameters entry.arguments) f entry frames t s le

pub entered_leaves : (code : Contents) (entry : Entry) (frames : List Frame) (t : ℕ) (s : State) → s.ticks ≤ t
    → LeavesAt t (entered code entry frames s)
entered_leaves code entry frames t s le =
    at_leaves (code_parts.function_at code.functions entry.function) entry frames t s le

-- one thing after another, which begins with no more ticks
reaches_fewer : {A B : Type 0} (e : Environment) (code : Contents) (most t : ℕ) (p : Place) (x : Evaluation A)
    (next : A → State → Evaluation B) (Left : A → Type 0) (to : (v : A) → Left v → State → Place) (Last : B → Type 0)
    (then : (v : B) → Last v → State → Place) → NoMore t x → Reaches e code most p x Left to
    → ((v : A) (s : State) (left : Left v) → s.ticks ≤ t → Reaches e code most (to v left s) (next v s) Last then)
    → Reaches e code most p (bind x next) Last then
reaches_fewer e code most t p (Gives v s) next Left to Last then few r go =
    reaches_known e code most p (next v s) Last then
    (λ le. let a = r.arrives le in reaches_from e code most p (to v a.0 s) (next v s) Last then a.1 (go v s a.0 few))
reaches_fewer e code most t p (Stops outcome s) next Left to Last then few r go = record { arrives = r.arrives }

module _ (library : Library) (keeps : KeepsVariants library) (program : Program) (typed : IsWellTyped program) where
  abbrev e : Environment
  e = environment library program

  abbrev code : Contents
  code = unit_code program

  abbrev any : Option Value → Type 0
  any given = Unit {0}

  abbrev pub entry_of : ℕ → List Value → Pointer → Pos → Entry
  entry_of number args result here = record { function = number; arguments = args; result = result; pos = here }

  -- the functions of the unit that are entered with fewer than so many ticks run as they mean
  abbrev pub Enters : ℕ → Type 0
  Enters n = (number : ℕ) (d : Definition) → function_numbered program.functions number ≡ Some (UnitFunction d)
      → (args : List Value) → AreTakenValues d.parameters args → (result : Pointer) (here : Pos) (frames : List Frame)
      (s : State) → s.ticks < n
      → Arrives e code (entered code (entry_of number args result here) frames s)
      (enter_below n library program number args result here s) any
      (λ given u s1. returned_to e code (given_form d.gives) result frames given s1)

  -- such a function gains no tick, as its return from `main` would show
  arrived_ticks : (t : ℕ) (f : Form) (result : Pointer) (p : Place) (x : Evaluation (Option Value)) → LeavesAt t p
      → Arrives e code p x any (λ given u s1. returned_to e code f result [] given s1) → NoMore t x
  arrived_ticks t f result p (Gives given s) le a = comes_ticks e code t p _ a.1 le
  arrived_ticks t f result p (Stops outcome s) le a = tt

  wanted_ticks : (t : ℕ) (x : Evaluation (Option Value)) → NoMore t x
      → NoMore t (bind x (λ given s. Gives (unwrap_or given Nothing) s))
  wanted_ticks t (Gives given s) le = le
  wanted_ticks t (Stops outcome s) le = tt

  enters_fewer : (n : ℕ) → Enters n → (number : ℕ) (d : Definition)
      → function_numbered program.functions number ≡ Some (UnitFunction d) → (args : List Value)
      → AreTakenValues d.parameters args → (here : Pos) (s : State) → s.ticks < n
      → NoMore s.ticks (wanted (enter_below n library program) number args here s)
  enters_fewer n enters number d numbered args taken here s less =
      wanted_ticks s.ticks (enter_below n library program number args null here s)
      (arrived_ticks s.ticks (given_form d.gives) null (entered code (entry_of number args null here) [] s)
      (enter_below n library program number args null here s)
      (entered_leaves code (entry_of number args null here) [] s.ticks s (omega arith))
      (enters number d numbered args taken null here [] s less))

  module _ (n : ℕ) (enters : Enters n) (most : ℕ) (frames : List Frame) where
    abbrev answered : Value → Unit {0} → State → Place
    answered w u s = returned e code (row_left w) w frames s

    abbrev AnyValue : Value → Type 0
    AnyValue w = Unit {0}

    wanted_runs : (number : ℕ) (d : Definition) → function_numbered program.functions number ≡ Some (UnitFunction d)
        → (args : List Value) → AreTakenValues d.parameters args → (call : Suspended) (s : State) → s.ticks < n
        → Reaches e code most (entered code (entry_of number args null call.call.pos) (Waiting call ∷ frames) s)
        (wanted (enter_below n library program) number args call.call.pos s) AnyValue
        (λ v u s1. returned e code (left_by (given_form d.gives) null v) v (Waiting call ∷ frames) s1)
    wanted_runs number d numbered args taken call s less =
        reaches_bind e code most _ (enter_below n library program number args null call.call.pos s)
        (λ given s1. Gives (unwrap_or given Nothing) s1) any
        (λ given u s1. returned_to e code (given_form d.gives) null (Waiting call ∷ frames) given s1) AnyValue
        (λ v u s1. returned e code (left_by (given_form d.gives) null v) v (Waiting call ∷ frames) s1)
        (arrived (enter_below n library program number args null call.call.pos s)
        (enters number d numbered args taken null call.call.pos (Waiting call ∷ frames) s less))
        (λ given s1 u. reaches_gives e code most _ (unwrap_or given Nothing) s1 AnyValue
        (λ v u1 s2. returned e code (left_by (given_form d.gives) null v) v (Waiting call ∷ frames) s2) tt refl)
      where
        arrived : (x : Evaluation (Option Value))
            → Arrives e code (entered code (entry_of number args null call.call.pos) (Waiting call ∷ frames) s) x any
            (λ given u s1. returned_to e code (given_form d.gives) null (Waiting call ∷ frames) given s1)
            → Reaches e code most (entered code (entry_of number args null call.call.pos) (Waiting call ∷ frames) s) x
            any (λ given u s1. returned_to e code (given_form d.gives) null (Waiting call ∷ frames) given s1)
        arrived x a = record { arrives = λ le. a }

    pub completed_runs : (row : Row) (m t : ℕ) (x : Evaluation Served) → ServesSo library program keeps typed.functions
        row x → Serves t x → t < m → t ≤ n
        → Reaches e code most (replied code x frames (λ w s. returned e code (row_left w) w frames s))
        (completed e m (wanted (enter_below n library program)) x) AnyValue answered
    completed_runs row m t (Stops outcome s) serves few less within =
        record { arrives = λ le. comes_same e code _ _ refl }
    completed_runs row m t (Gives (Answers v) s) serves few less within =
        reaches_gives e code most _ v s AnyValue answered tt refl
    completed_runs row zero t (Gives (Wants number args call) s) serves few less within =
        absurd (let none : ⊥ = omega (arith, less) in none)
    completed_runs row (suc m) t (Gives (Wants number args call) s) serves few less within =
        let d : Definition = serves.0.0 in
        reaches_fewer e code most s.ticks _
        (wanted (enter_below n library program) number args call.call.pos s)
        (λ v s1. completed e m (wanted (enter_below n library program)) (continued e call v s1)) AnyValue
        (λ v u s1. returned e code (left_by (given_form d.gives) null v) v (Waiting call ∷ frames) s1) AnyValue answered
        (enters_fewer n enters number d serves.0.1 args serves.0.2 call.call.pos s (omega (arith, few, within)))
        (wanted_runs number d serves.0.1 args serves.0.2 call s (omega (arith, few, within)))
        (λ v s1 u fewer.
        completed_runs row m s1.ticks (continued e call v s1)
        (continued_serves library program keeps typed.functions row call v s1 serves.1 serves.2)
        (serves_continued e call v s1.ticks s1 (omega arith)) (omega (arith, fewer, few, less))
        (omega (arith, fewer, few, within)))
