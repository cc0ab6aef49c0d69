-- The run of a unit's code from its start: the static objects are made, `main` is called, and the run ends as the unit
-- means.
use Rattle.std.proofs.Common.{◌≡◌, ◌∙◌, ℕ, zero, suc, ◌+◌, ◌-◌, ◌≤◌, Bool, true, false, List, [], ◌∷◌, refl, sym, ap}
use Rattle.std.proofs.Common.{subst, arith, Option, Some, map, length, reverse, if◌then◌else◌}
use Rattle.std.specs.List.{slice_get}
use Rattle.std.specs.Str.{bytes_eq}
use Rattle.critical_table.specs.declared.pos.Pos.{Pos}
use Rattle.object_store.specs.declared.pointer.Pointer.{Pointer}
use Rattle.object_store.specs.Storage.{fits}
use Rattle.lib_defs.specs.declared.value.Value.{Value}
use Rattle.lib_defs.specs.Library.{Library}
use Rattle.lib_defs.specs.Reply.{null}
use Rattle.lib_defs.specs.Variants.{KeepsVariants}
use Rattle.lib_defs.specs.World.{Input}
use Rattle.run_defs.specs.declared.outcome.Outcome.{Outcome}
use Rattle.run_defs.specs.declared.outcome.Outcome.TheVariants.{Exited}
use Rattle.run_defs.specs.declared.seal.Seal.{Seal}
use Rattle.run_defs.specs.Evaluation.{Evaluation, Gives, Stops, bind, ticked_at, within_if, call_entered, finished}
use Rattle.run_defs.specs.Functions.{Environment}
use Rattle.run_defs.specs.Starts.{Budgets, StaticObject, empty_state, all_sealed, placed, messages, start_state}
use Rattle.run_defs.specs.Starts.{statics_placed}
use Rattle.run_defs.specs.State.{State, call_left, static_made, sealed}
use Rattle.c_core.specs.Forms.{given_form}
use Rattle.c_core.specs.TreeUnit.{Definition, Static, Program}
use Rattle.c_core.specs.TypedUnit.{IsWellTyped, HasMain, mains, main_name}
use Rattle.vm_code.specs.Calling.{entered}
use Rattle.vm_code.specs.CodeFunctions.{numbered_from, main_function, abort_handler}
use Rattle.vm_code.specs.Contents.{Contents}
use Rattle.vm_code.specs.Frames.{Place, Goes, Ends, Stuck, after}
use Rattle.vm_code.specs.Machine.{step, run, begun_count, static_of, outer_entry, RunsTo}
use Rattle.vm_code.specs.Machine as machine_run
use Rattle.vm_code.specs.Slots.{numbers, all_died}
use Rattle.vm_code.proofs.TicksFall.{sealed_ticks}
use Rattle.code_gen.specs.Blocks.{parameters_made, parameters_sealed}
use Rattle.code_gen.specs.Calls.{call, enter_below, main_value, returned_value}
use Rattle.code_gen.specs.Calls as calling
use Rattle.code_gen.specs.Expressions.{Call}
use Rattle.code_gen.specs.Meaning.{static_object, started, main_from, main_token, main_called, status_of, meaning_at}
use Rattle.code_gen.specs.Meaning.{ended}
use Rattle.code_gen.specs.Meaning as meaning
use Rattle.code_gen.specs.ProgramFunctions.{UnitFunction, unit_or_library, function_numbered, environment}
use Rattle.code_gen.specs.RunLaw.{Comes, Arrives}
use Rattle.code_gen.specs.Statements.{statement}
use Rattle.code_gen.specs.UnitCode.{function_size, functions_from, object_of, unit_code}
use Rattle.code_gen.specs.UnitRunLaw.{RunsAs, EachUnitRuns}
use Rattle.code_gen.proofs.BodyCalls.{all_enter}
use Rattle.code_gen.proofs.CallKinds.{MainGives, main_gives}
use Rattle.code_gen.proofs.CompatibleForms.{AreTakenValues}
use Rattle.code_gen.proofs.CompletedRuns.{NoMore}
use Rattle.code_gen.proofs.EnteredRuns.{returned_to}
use Rattle.code_gen.proofs.Going.{comes_same}
use Rattle.code_gen.proofs.UnitEnvironment.{environments, first_handlers}

-- ---- how many instructions begin

-- so many steps as instructions begin
exactly : (e : Environment) (code : Contents) (n : ℕ) (p : Place) (outcome : Outcome) (s : State)
    → run e code p n ≡ Ends outcome s
    → (m : ℕ) × (run e code p m ≡ Ends outcome s) × (begun_count e code p m ≡ m)
exactly e code n (Ends other s1) outcome s ends = (0, ends, refl)
exactly e code n Stuck outcome s ends = (0, ends, refl)
exactly e code zero (Goes frames s1) outcome s ends = (0, ends, refl)
exactly e code (suc n) (Goes frames s1) outcome s ends =
    let later = exactly e code n (step e code frames s1) outcome s ends in
    (suc later.0, later.1, omega (arith, later.2))

-- ---- static objects

objects_same : (program : Program) (statics : List Static)
    → map static_of (map (object_of program) statics) ≡ map (static_object program) statics
objects_same program [] = refl
objects_same program (first ∷ rest) = ap (λ l. static_object program first ∷ l) (objects_same program rest)

all_sealed_ticks : (number : ℕ) (seals : List Seal) (s : State) → (all_sealed number seals s).ticks ≡ s.ticks
all_sealed_ticks number [] s = refl
all_sealed_ticks number (seal ∷ seals) s =
    all_sealed_ticks number seals (sealed number seal s) ∙ sealed_ticks number seal s

placed_ticks : (object : StaticObject) (s : State) → (placed object s).ticks ≡ s.ticks
placed_ticks object s = all_sealed_ticks _ object.seals (static_made object.bytes s)

within_ticks : (b : Bool) (t : ℕ) (s : State) (next : State → Evaluation (Unit {0})) → NoMore t (next s)
    → NoMore t (bind (within_if b s) (λ u s1. next s1))
within_ticks true t s next few = few
within_ticks false t s next few = tt

statics_ticks : (objects : List StaticObject) (t : ℕ) (s : State) → s.ticks ≤ t → NoMore t (statics_placed objects s)
statics_ticks [] t s le = le
statics_ticks (object ∷ objects) t s le =
    within_ticks (fits s.world.store 0 (length object.bytes)) t s
    (λ s1. statics_placed objects (placed object s1))
    (statics_ticks objects t (placed object s) (subst (λ n. n ≤ t) (sym (placed_ticks object s)) le))

-- ---- `main`

-- where `main` stands among the functions
record MainThere (k at : ℕ) (functions : List Definition) : Type 0 where
  index : ℕ
  definition : Definition
  stands : slice_get functions index ≡ Some definition
  named : bytes_eq definition.name main_name ≡ true
  in_code : numbered_from k main_name (functions_from at functions) ≡ Some (k + index)
  in_unit : main_from k functions ≡ k + index

main_there : (k at : ℕ) (functions : List Definition) (m : Definition) (others : List Definition)
    → mains functions ≡ m ∷ others → MainThere k at functions
main_there k at [] m others is = absurd (let none : ⊥ = cc in none)
main_there k at (first ∷ rest) m others is =
    by_name (bytes_eq first.name main_name) refl is
    (λ there. main_there (k + 1) (at + function_size first) rest m others there)
  where
    by_name : (b : Bool) → bytes_eq first.name main_name ≡ b
        → (if b then first ∷ mains rest else mains rest) ≡ m ∷ others
        → (mains rest ≡ m ∷ others → MainThere (k + 1) (at + function_size first) rest)
        → MainThere k at (first ∷ rest)
    by_name true named there later =
        let same : k ≡ k + 0 = omega arith in
        record {
          index = 0;
          definition = first;
          stands = refl;
          named = named;
          in_code = ap (λ b. if b then Some k else numbered_from (k + 1) main_name
              (functions_from (at + function_size first) rest)) named ∙ ap Some same;
          in_unit = ap (λ b. if b then k else main_from (k + 1) rest) named ∙ same;
        }
    by_name false other there later =
        let found = later there in
        let same : k + 1 + found.index ≡ k + suc found.index = omega arith in
        record {
          index = suc found.index;
          definition = found.definition;
          stands = found.stands;
          named = found.named;
          in_code = ap (λ b. if b then Some k else numbered_from (k + 1) main_name
              (functions_from (at + function_size first) rest)) other ∙ found.in_code ∙ ap Some same;
          in_unit = ap (λ b. if b then k else main_from (k + 1) rest) other ∙ found.in_unit ∙ same;
        }

one_main : (ms : List Definition) → HasMain ms → (m : Definition) × (ms ≡ m ∷ [])
one_main [] has = absurd has
one_main (m ∷ []) has = (m, refl)
one_main (m ∷ other ∷ ms) has = absurd has

-- a function without parameters does not know from where it is called
no_place : (program : Program) (call : Call) (d : Definition) (result : Pointer) (here there : Pos) (s : State)
    → d.parameters ≡ []
    → calling.activation program call d [] result here s ≡ calling.activation program call d [] result there s
no_place program call d result here there s none =
    ap (λ ps. bind (call_entered s) (λ u s1. bind (parameters_made ps 0 [] [] here s1) (λ held s2.
    bind (statement program call result d.body held (parameters_sealed d.parameters (reverse held) s2)) (λ flow s3.
    Gives (main_value (bytes_eq d.name main_name) (returned_value flow))
    (call_left (all_died (numbers held) s3)))))) none
    ∙ sym (ap (λ ps. bind (call_entered s) (λ u s1. bind (parameters_made ps 0 [] [] there s1) (λ held s2.
    bind (statement program call result d.body held (parameters_sealed d.parameters (reverse held) s2)) (λ flow s3.
    Gives (main_value (bytes_eq d.name main_name) (returned_value flow))
    (call_left (all_died (numbers held) s3)))))) none)

no_entry_place : (library : Library) (program : Program) (n number : ℕ) (d : Definition) (result : Pointer)
    (here there : Pos) (s : State) → function_numbered program.functions number ≡ Some (UnitFunction d)
    → d.parameters ≡ []
    → enter_below n library program number [] result here s ≡ enter_below n library program number [] result there s
no_entry_place library program zero number d result here there s numbered none = refl
no_entry_place library program (suc n) number d result here there s numbered none =
    ap (λ o. calling.entered o program (call library program (enter_below n library program)) number [] result here s)
    numbered
    ∙ no_place program (call library program (enter_below n library program)) d result here there s none
    ∙ sym (ap (λ o. calling.entered o program (call library program (enter_below n library program)) number [] result
    there s) numbered)

-- ---- the run

module _ (library : Library) (keeps : KeepsVariants library) (program : Program) (typed : IsWellTyped program)
    (budgets : Budgets) (input : Input) where
  abbrev e : Environment
  e = environment library program

  abbrev code : Contents
  code = unit_code program

  abbrev outside : Pos
  outside = record { line = 1; column = 1 }

  abbrev to : (given : Option Value) → Unit {0} → State → Place
  to given u s = Ends (Exited (status_of given)) s

  abbrev any : Option Value → Type 0
  any given = Unit {0}

  m : (m : Definition) × (mains program.functions ≡ m ∷ [])
  m = one_main (mains program.functions) typed.main

  there : MainThere 1 0 program.functions
  there = main_there 1 0 program.functions m.0 [] m.1

  numbered : function_numbered program.functions (suc there.index) ≡ Some (UnitFunction there.definition)
  numbered = ap (λ o. unit_or_library o (there.index - length program.functions)) there.stands

  own_main : MainGives there.definition
  own_main = main_gives program (suc there.index) there.definition typed.main numbered there.named

  number_is : 1 + there.index ≡ suc there.index
  number_is = omega arith

  taken : AreTakenValues there.definition.parameters []
  taken = subst (λ ps. AreTakenValues ps []) (sym own_main.takes_none) tt

  -- `main` is called, where so many ticks are left
  main_arrives : (k : ℕ) (s : State) → k ≤ budgets.ticks
      → Arrives e code (after (ticked_at k s) (λ u s1. entered code (outer_entry (suc there.index)) [] s1))
      (bind (ticked_at k s) (λ u s1. enter_below budgets.ticks library program (main_from 1 program.functions) [] null
      (main_token program.functions) s1)) any to
  main_arrives zero s le = comes_same e code _ _ refl
  main_arrives (suc k) s le =
      let s1 : State = record s { ticks = k } in
      subst (λ x. Arrives e code (entered code (outer_entry (suc there.index)) [] s1) x any to)
      (no_entry_place library program budgets.ticks (suc there.index) there.definition null outside
      (main_token program.functions) s1 numbered own_main.takes_none
      ∙ ap (λ f. enter_below budgets.ticks library program f [] null (main_token program.functions) s1)
      (sym (there.in_unit ∙ number_is)))
      (arrived s1 (enter_below budgets.ticks library program (suc there.index) [] null outside s1)
      (all_enter library keeps program typed budgets.ticks (suc there.index) there.definition numbered [] taken null
      outside [] s1 (omega (arith, le))))
    where
      arrived : (s1 : State) (x : Evaluation (Option Value))
          → Arrives e code (entered code (outer_entry (suc there.index)) [] s1) x any
          (λ given u s2. returned_to e code (given_form there.definition.gives) null [] given s2)
          → Arrives e code (entered code (outer_entry (suc there.index)) [] s1) x any to
      arrived s1 (Gives given s2) a = (tt, a.1)
      arrived s1 (Stops outcome s2) a = a

  started_arrives : (x : Evaluation (Unit {0})) → NoMore budgets.ticks x
      → Arrives e code (after x (λ u s. machine_run.main_called e code (Some (suc there.index)) s))
      (bind x (λ u s. main_called library program budgets s)) any to
  started_arrives (Gives u s) few = main_arrives s.ticks s few
  started_arrives (Stops outcome s) few = comes_same e code _ _ refl

  -- the start, in an environment
  abbrev begins : Environment → Place
  begins x = after (statics_placed (map static_of code.objects) (start_state budgets input (abort_handler code)))
      (λ u s. machine_run.main_called x code (main_function code) s)

  main_is : main_function code ≡ Some (suc there.index)
  main_is = there.in_code ∙ ap Some number_is

  begins_so : begins e ≡ after (started program input budgets)
      (λ u s. machine_run.main_called e code (Some (suc there.index)) s)
  begins_so =
      ap (λ o. after (statics_placed (map static_of code.objects) (start_state budgets input (abort_handler code)))
      (λ u s. machine_run.main_called e code o s)) main_is
      ∙ ap (λ h. after (statics_placed (map static_of code.objects) (start_state budgets input h))
      (λ u s. machine_run.main_called e code (Some (suc there.index)) s)) (first_handlers program)
      ∙ ap (λ l. after (statics_placed l (start_state budgets input (meaning.first_handler program.functions)))
      (λ u s. machine_run.main_called e code (Some (suc there.index)) s)) (objects_same program program.statics)

  start_few : NoMore budgets.ticks (started program input budgets)
  start_few = statics_ticks (map (static_object program) program.statics) budgets.ticks
      (start_state budgets input (meaning.first_handler program.functions))
      (subst (λ n. n ≤ budgets.ticks)
      (sym (placed_ticks messages (empty_state budgets input (meaning.first_handler program.functions)))) (omega arith))

  arrives : Arrives e code (begins e) (meaning.run library program input budgets) any to
  arrives = subst (λ p. Arrives e code p (meaning.run library program input budgets) any to) (sym begins_so)
      (started_arrives (started program input budgets) start_few)

  as_runs : (outcome : Outcome) (s : State) → Comes e code (begins e) (Ends outcome s)
      → RunsAs library code budgets input (meaning_at outcome budgets s)
  as_runs outcome s comes =
      let some = comes.by 0 in
      let exact = subst (λ x. (n : ℕ) × (run x code (begins x) n ≡ Ends outcome s)
      × (begun_count x code (begins x) n ≡ n)) (sym (environments program library))
      (exactly e code some.0 (begins e) outcome s some.1) in
      record {
        instructions = exact.0;
        last = finished outcome s;
        runs = record { before = s; ends = exact.1; last = refl; all_begin = exact.2 };
        output = refl;
        err = refl;
        journal = refl;
        ticks = refl;
      }

  finish : (x : Evaluation (Option Value)) → Arrives e code (begins e) x any to
      → RunsAs library code budgets input (ended x budgets)
  finish (Gives given s) a = as_runs (Exited (status_of given)) s a.1
  finish (Stops outcome s) a = as_runs outcome s a

  pub unit_runs : RunsAs library code budgets input (meaning.meaning library program input budgets)
  unit_runs = finish (meaning.run library program input budgets) arrives

pub each_unit_runs : EachUnitRuns
each_unit_runs library keeps program typed budgets input = unit_runs library keeps program typed budgets input
