-- A function of the unit that is entered runs as its activation, where the calls in its body do.
use Rattle.std.proofs.Common.{◌≡◌, ◌∙◌, ℕ, ◌+◌, Bool, true, false, List, [], ◌∷◌, ◌++◌, refl, sym, ap, subst}
use Rattle.std.proofs.Common.{arith, Option, Some, None, length, reverse}
use Rattle.std.proofs.lemmas.Bool.{false≢true}
use Rattle.std.proofs.lemmas.List.{length-append}
use Rattle.std.specs.Prelude.{pos as positive, unwrap_or}
use Rattle.std.specs.Str.{bytes_eq}
use Rattle.acc_num.specs.declared.kind.IntKind.TheVariants.{I32}
use Rattle.critical_table.specs.declared.pos.Pos.{Pos}
use Rattle.object_store.specs.declared.pointer.Pointer.{Pointer}
use Rattle.lib_defs.specs.declared.value.Value.{Value}
use Rattle.lib_defs.specs.declared.value.Value.TheVariants.{Num, Nothing}
use Rattle.lib_defs.specs.Library.{Library}
use Rattle.lib_defs.specs.Variants.{KeepsVariants}
use Rattle.run_defs.specs.State.{State, call_left}
use Rattle.run_defs.specs.Evaluation.{Evaluation, Gives, Stops, bind, call_entered}
use Rattle.run_defs.specs.Functions.{Environment}
use Rattle.c_core.specs.declared.form.Form.{Form}
use Rattle.c_core.specs.declared.form.Form.TheVariants as form
use Rattle.c_core.specs.Forms.{given_form}
use Rattle.c_core.specs.Named.{Names}
use Rattle.c_core.specs.TreeUnit.{Definition, Program}
use Rattle.c_core.specs.TypedUnit.{Flow as FlowTyped, IsWellTyped, DefinitionTyped, main_name, tokens_of, static_tokens}
use Rattle.c_core.specs.TypedUnit.{parameter_objects}
use Rattle.vm_code.specs.declared.instr.Instr.{Instr}
use Rattle.vm_code.specs.declared.instr.Instr.TheVariants as i
use Rattle.vm_code.specs.declared.parts.CodeFunction.{CodeFunction}
use Rattle.vm_code.specs.Calling.{Entry, entered_if, entered_at, returned, left_by}
use Rattle.vm_code.specs.Calling as machine
use Rattle.vm_code.specs.Contents.{Contents}
use Rattle.vm_code.specs.Frames.{Frame, Active, Place, Goes, after}
use Rattle.vm_code.specs.Machine.{on_form}
use Rattle.vm_code.specs.Slots.{Held, numbers, all_died}
use Rattle.code_gen.specs.Blocks.{parameters_made, parameters_sealed}
use Rattle.code_gen.specs.Calls.{activation, main_value, returned_value}
use Rattle.code_gen.specs.ExpressionCode.{on}
use Rattle.code_gen.specs.Expressions.{Call}
use Rattle.code_gen.specs.Flows.{Flow, Next, Broke, Continued, Returned}
use Rattle.code_gen.specs.ProgramFunctions.{UnitFunction, function_numbered, environment}
use Rattle.code_gen.specs.RunLaw.{Comes, Reaches, Running, StandAt, stands_at}
use Rattle.code_gen.specs.StatementCode.{Around, statement_size, statement_code}
use Rattle.code_gen.specs.StatementRunLaw.{StatementCallsRun, Inside, leads}
use Rattle.code_gen.specs.Statements.{statement}
use Rattle.code_gen.specs.UnitCode.{parameter_seals, end_code, is_main, outermost, unit_code}
use Rattle.code_gen.specs.UnitCode.{call_table, function_at}
use Rattle.code_gen.proofs.CallKinds.{main_gives, typed_numbered}
use Rattle.code_gen.proofs.CompatibleForms.{AreTakenValues, values_fit}
use Rattle.code_gen.proofs.ExpressionKinds.{CallGives}
use Rattle.code_gen.proofs.Going.{IfGives, comes_on, comes_same, one_step, stand_front, stand_back, does_same}
use Rattle.code_gen.proofs.Going.{does_then}
use Rattle.code_gen.proofs.Going.{reaches_from, reaches_gives, reaches_known}
use Rattle.code_gen.proofs.Lengths.{on_long}
use Rattle.code_gen.proofs.ParameterRuns.{parameters_same, AreMadeFor, made_for, Stand, stand, parameter_sizes}
use Rattle.code_gen.proofs.ParameterRuns.{seals_come}
use Rattle.code_gen.proofs.PlainStatementRuns.{statements_run}
use Rattle.code_gen.proofs.PlainStretches as stretch
use Rattle.code_gen.proofs.StatementKinds.{FlowFits, statement_fits}
use Rattle.code_gen.proofs.StatementLengths.{statement_long}
use Rattle.code_gen.proofs.UnitFunctions.{Located, located}

pub if_any : {A : Type 0} (x : Evaluation A) → IfGives (λ v. Unit {0}) x
if_any (Gives v s) = tt
if_any (Stops outcome s) = tt

-- one thing after another, of whose value something is known
pub reaches_known_of : {A B : Type 0} (e : Environment) (code : Contents) (most : ℕ) (P : A → Type 0) (p : Place)
    (x : Evaluation A) (next : A → State → Evaluation B) (Left : A → Type 0) (to : (v : A) → Left v → State → Place)
    (Last : B → Type 0) (then : (v : B) → Last v → State → Place) → IfGives P x → Reaches e code most p x Left to
    → ((v : A) (s : State) (left : Left v) → P v → Reaches e code most (to v left s) (next v s) Last then)
    → Reaches e code most p (bind x next) Last then
reaches_known_of e code most P p (Gives v s) next Left to Last then is r go =
    reaches_known e code most p (next v s) Last then
    (λ le. let a = r.arrives le in reaches_from e code most p (to v a.0 s) (next v s) Last then a.1 (go v s a.0 is))
reaches_known_of e code most P p (Stops outcome s) next Left to Last then is r go = record { arrives = r.arrives }

-- where a function that gave this, or nothing, has returned to
abbrev pub returned_to : Environment → Contents → Form → (result : Pointer) → List Frame → Option Value → State → Place
returned_to e code f result frames given s =
    returned e code (left_by f result (unwrap_or given Nothing)) (unwrap_or given Nothing) frames s

-- ---- the end of a body

module _ (it : Running) (d : Definition) (form_is : it.function.form ≡ given_form d.gives)
    (main_form : is_main d ≡ true → it.function.form ≡ form.Number I32) where
  abbrev e : Environment
  e = it.environment

  abbrev code : Contents
  code = it.code

  abbrev to : Option Value → State → Place
  to given s = returned_to e code it.function.form it.frame.result it.rest given
      (call_left (all_died (numbers it.frame.held) s))

  end_comes : (b : Bool) (at : ℕ) (answered : Bool) (s : State) → (b ≡ true → it.function.form ≡ form.Number I32)
      → StandAt code it.function at (on d.token (end_code b))
      → Comes e code (stands_at it [] answered at [] s) (to (main_value b None) s)
  end_comes true at answered s main stands =
      let after_number : Running = stretch.beside it [] answered in
      comes_on e code _ (stands_at it [] answered (at + 1) (Num (positive 0) ∷ []) s) _
      (one_step after_number at [] s (i.Number I32 (positive 0)) d.token stands.0)
      (comes_on e code _ _ _
      (one_step after_number (at + 1) (Num (positive 0) ∷ []) s i.Give d.token stands.1.0)
      (comes_same e code _ _ (ap (λ f. on_form f (Num (positive 0) ∷ []) (λ v below.
      machine.leaves e code it.function.form it.frame v it.rest s)) (main refl))))
  end_comes false at answered s main stands =
      one_step (stretch.beside it [] answered) at [] s i.Leave d.token stands.0

  flow_ends : (flow : FlowTyped) (names : Names) (around : Around) (inside : Inside it names flow around) (next : ℕ)
      → flow.breaks ≡ false → flow.continues ≡ false → flow.gives ≡ d.gives
      → StandAt code it.function next (on d.token (end_code (is_main d))) → (f : Flow) (answered : Bool) (s : State)
      → FlowFits flow it.frame.result f
      → Comes e code (leads it inside next f answered s) (to (main_value (is_main d) (returned_value f)) s)
  flow_ends flow names around inside next breaks continues gives stands Next answered s fits =
      end_comes (is_main d) next answered s main_form stands
  flow_ends flow names around inside next breaks continues gives stands Broke answered s fits =
      absurd (false≢true (sym breaks ∙ fits))
  flow_ends flow names around inside next breaks continues gives stands Continued answered s fits =
      absurd (false≢true (sym continues ∙ fits))
  flow_ends flow names around inside next breaks continues gives stands (Returned (Some v)) answered s fits =
      by_main (is_main d)
    where
      by_main : (b : Bool) → Comes e code (to (Some v) s) (to (main_value b (Some v)) s)
      by_main true = comes_same e code _ _ refl
      by_main false = comes_same e code _ _ refl
  flow_ends flow names around inside next breaks continues gives stands (Returned None) answered s fits =
      by_main (is_main d) main_form
    where
      none_is : it.function.form ≡ form.Nothing
      none_is = form_is ∙ ap given_form (sym gives) ∙ fits

      by_main : (b : Bool) → (b ≡ true → it.function.form ≡ form.Number I32)
          → Comes e code (to None s) (to (main_value b None) s)
      by_main true main =
          let clash : form.Nothing ≡ form.Number I32 = sym none_is ∙ main refl in
          absurd (let none : ⊥ = cc in none)
      by_main false main = comes_same e code _ _ refl

-- ---- an activation

module _ (library : Library) (keeps : KeepsVariants library) (program : Program) (typed : IsWellTyped program) where
  abbrev env : Environment
  env = environment library program

  abbrev unit : Contents
  unit = unit_code program

  module _ (most : ℕ) (call : Call) (gives_kind : CallGives call) (number : ℕ) (d : Definition)
      (numbered : function_numbered program.functions number ≡ Some (UnitFunction d)) (frames : List Frame)
      (calls : StatementCallsRun env unit most frames (call_table program) call d.body) where
    l : Located program number d
    l = located program number d numbered

    abbrev function : CodeFunction
    function = function_at l.start d

    t : DefinitionTyped (tokens_of program.functions) (static_tokens program.statics) d
    t = typed_numbered library keeps program typed number d numbered

    abbrev seals : List Instr
    seals = parameter_seals 0 d.parameters

    abbrev names : Names
    names = record {
      functions = tokens_of program.functions;
      statics = static_tokens program.statics;
      objects = parameter_objects 0 d.parameters;
    }

    abbrev flow : FlowTyped
    flow = record { gives = d.gives; slots = d.slots; breaks = false; continues = false }

    abbrev entry : List Value → Pointer → Pos → Entry
    entry args result here = record { function = number; arguments = args; result = result; pos = here }

    abbrev running : List Value → Pointer → Pos → List Held → Running
    running args result here held = record {
      environment = env;
      code = unit;
      function = function;
      frame = machine.activation (entry args result here) function held;
      rest = frames;
      most = most;
      own = l.own;
    }

    abbrev body_code : List (Instr × Pos)
    body_code = statement_code program (call_table program) (l.start + length seals) l.text (outermost d.slots) d.body

    abbrev to_caller : Pointer → Option Value → State → Place
    to_caller result given s = returned_to env unit (given_form d.gives) result frames given s

    inside_of : (args : List Value) (result : Pointer) (here : Pos) (held : List Held) → Stand d.parameters d.slots held
        → Inside (running args result here held) names flow (outermost d.slots)
    inside_of args result here held there = record {
      form_is = refl;
      above = omega arith;
      named = record { named = there.sizes; below = there.below };
      sizes = parameter_sizes 0 d.parameters t.parameters;
      breaks = record { left = []; others = held; both = refl; slots_are = refl };
      continues = record { left = []; others = held; both = refl; slots_are = refl };
    }

    body_runs : (args : List Value) (result : Pointer) (here : Pos) (held : List Held) (s : State)
        → Stand d.parameters d.slots held
        → Reaches env unit most
        (Goes (Active (machine.activation (entry args result here) function held) ∷ frames) s)
        (bind (statement program call result d.body held (parameters_sealed d.parameters (reverse held) s))
        (λ f s1. Gives (main_value (bytes_eq d.name main_name) (returned_value f))
        (call_left (all_died (numbers held) s1)))) (λ given. Unit {0}) (λ given u s1. to_caller result given s1)
    body_runs args result here held s there =
        let it : Running = running args result here held in
        let inside : Inside it names flow (outermost d.slots) = inside_of args result here held there in
        let n : ℕ = length seals in
        let m : ℕ = statement_size 0 0 d.body in
        let at : ℕ = l.start + n in
        let a : List (Instr × Pos) = on d.token seals in
        let c : List (Instr × Pos) = on d.token (end_code (is_main d)) in
        let front : StandAt unit function l.start (a ++ body_code) =
        stand_front unit function l.start (a ++ body_code) c l.stands in
        let body_stands : StandAt unit function at body_code =
        stand_back unit function l.start n a body_code (on_long d.token seals) front in
        let body_long : length body_code ≡ m =
        statement_long program (call_table program) at l.text (outermost d.slots) d.body in
        let both_long : length (a ++ body_code) ≡ n + m =
        omega (arith, length-append a body_code, on_long d.token seals, body_long) in
        let end_at : l.start + (n + m) ≡ at + m = omega arith in
        let end_stands : StandAt unit function (at + m) c = subst (λ k. StandAt unit function k c) end_at
        (stand_back unit function l.start (n + m) (a ++ body_code) c both_long l.stands) in
        let marked : State = parameters_sealed d.parameters (reverse held) s in
        let main_form : is_main d ≡ true → given_form d.gives ≡ form.Number I32 =
        λ named. ap given_form (let g = main_gives program number d typed.main numbered named in g.gives) in
        reaches_from env unit most _ (stands_at it [] true at [] marked) _ (λ given. Unit {0})
        (λ given u s1. to_caller result given s1)
        (seals_come it d.token true 0 d.parameters (reverse held) there.objects there.there t.parameters l.start
        (stand_front unit function l.start a body_code front) s)
        (reaches_known_of env unit most (FlowFits flow result) (stands_at it [] true at [] marked)
        (statement program call result d.body held marked)
        (λ f s1. Gives (main_value (is_main d) (returned_value f)) (call_left (all_died (numbers held) s1))) (λ f. Bool)
        (leads it inside (at + m)) (λ given. Unit {0}) (λ given u s1. to_caller result given s1)
        (statement_fits program call gives_kind result names flow d.body t.body held marked)
        (statements_run it program (call_table program) call names flow (outermost d.slots) inside d.body t.body calls
        at l.text body_stands l.texts true marked)
        (λ f s1 answered fits.
        reaches_from env unit most _
        (to_caller result (main_value (is_main d) (returned_value f)) (call_left (all_died (numbers held) s1))) _
        (λ given. Unit {0}) (λ given u s2. to_caller result given s2)
        (flow_ends it d refl main_form flow names (outermost d.slots) inside (at + m) refl refl refl end_stands f
        answered s1 fits)
        (reaches_gives env unit most _ (main_value (is_main d) (returned_value f))
        (call_left (all_died (numbers held) s1)) (λ given. Unit {0}) (λ given u s2. to_caller result given s2) tt
        refl)))

    pub activation_runs : (args : List Value) → AreTakenValues d.parameters args → (result : Pointer) (here : Pos)
        (s : State)
        → Reaches env unit most (machine.entered unit (entry args result here) frames s)
        (activation program call d args result here s) (λ given. Unit {0}) (λ given u s1. to_caller result given s1)
    activation_runs args taken result here s =
        let own_entry : Entry = entry args result here in
        let fit : machine.fit_parameters function.parameters args ≡ true = values_fit d.parameters args taken in
        let Last : Option Value → Type 0 = λ given. Unit {0} in
        let going : List Held → State → Place =
        λ held s2. Goes (Active (machine.activation own_entry function held) ∷ frames) s2 in
        reaches_from env unit most _ (entered_if true function own_entry frames s) _ Last
        (λ given u s1. to_caller result given s1)
        (comes_same env unit _ _ (ap (λ o. entered_at o own_entry frames s) l.own
        ∙ ap (λ b. entered_if b function own_entry frames s) fit))
        (does_then env unit most _ (call_entered s) _
        (λ u s1. after (machine.parameters_made 0 function.parameters args [] here s1) going) (λ u. Unit {0}) Last
        (λ given u s1. to_caller result given s1)
        (does_same env unit _ (call_entered s)
        (λ u s1. after (machine.parameters_made 0 function.parameters args [] here s1) going) (λ u. Unit {0}) refl
        (if_any (call_entered s)))
        (λ u s1 any.
        does_then env unit most _ (parameters_made d.parameters 0 args [] here s1) _ going
        (AreMadeFor 0 d.parameters []) Last (λ given u1 s2. to_caller result given s2)
        (does_same env unit _ (parameters_made d.parameters 0 args [] here s1) going (AreMadeFor 0 d.parameters [])
        (ap (λ x. after x going) (parameters_same d.parameters args taken 0 [] here s1))
        (made_for d.parameters 0 args [] here s1))
        (λ held s2 made. body_runs args result here held s2 (stand d.parameters d.slots held made t.taken))))
