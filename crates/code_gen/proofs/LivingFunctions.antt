-- Each call and each function of a unit leaves the automatic objects that live as they are, over every library that
-- keeps its laws.
use Rattle.std.proofs.Common.{◌∙◌, ℕ, zero, suc, Bool, true, false, List, [], ◌∷◌, refl, Option, Some, None, reverse}
use Rattle.critical_table.specs.declared.pos.Pos.{Pos}
use Rattle.object_store.specs.declared.pointer.Pointer.{Pointer}
use Rattle.c_types.specs.CType.{CType}
use Rattle.c_types.specs.Compatible.{compatible}
use Rattle.lib_defs.specs.declared.value.Arg.{Arg}
use Rattle.lib_defs.specs.declared.value.Value.{Value}
use Rattle.lib_defs.specs.Reply.{null}
use Rattle.lib_defs.specs.Library.{Library, values_of}
use Rattle.lib_defs.specs.Laws.{KeepsLaws, IsWorld}
use Rattle.run_defs.specs.State.{State}
use Rattle.run_defs.specs.Evaluation.{ticked, automatic_made, call_entered}
use Rattle.run_defs.specs.Functions.{Environment, function_number}
use Rattle.run_defs.specs.Calls.{library_call}
use Rattle.c_core.specs.declared.function.Range.{Range}
use Rattle.c_core.specs.TreeUnit.{Parameter, Definition, Program}
use Rattle.c_core.specs.Types.{content_size}
use Rattle.c_core.specs.TypedUnit.{ParametersTyped, DefinitionTyped, DefinitionsTyped, tokens_of, static_tokens}
use Rattle.vm_code.specs.Accesses.{content_stored}
use Rattle.vm_code.specs.Slots.{Held, numbers, all_died}
use Rattle.code_gen.specs.Blocks.{held_at, first_value, parameters_made, parameters_sealed, ranges_sealed}
use Rattle.code_gen.specs.Expressions.{Call}
use Rattle.code_gen.specs.Statements.{statement}
use Rattle.code_gen.specs.ProgramFunctions.{Named, UnitFunction, LibraryFunction, function_numbered}
use Rattle.code_gen.specs.ProgramFunctions.{designated_by, environment, type_of_function}
use Rattle.code_gen.specs.Calls.{Enter, wanted, function_call, if_compatible, call_of, call, called_type, activation}
use Rattle.code_gen.specs.Calls.{entered, enter_below}
use Rattle.code_gen.specs.Lifetimes.{living, OnGives, Rests}
use Rattle.code_gen.proofs.KeptCalls.{NamedTyped, numbered_typed}
use Rattle.code_gen.proofs.Living.{Dies}
use Rattle.code_gen.proofs.LivingSteps.{HeldOnTop, StepRests, IsMade, rests_here, rests_on, rests_then, gives_then}
use Rattle.code_gen.proofs.LivingSteps.{gives_from}
use Rattle.code_gen.proofs.LivingSteps.{ticks_rest, seal_rests, enter_rests, leave_rests, automatic_lives}
use Rattle.code_gen.proofs.LivingExpressions.{CallRests}
use Rattle.code_gen.proofs.LivingStatements.{held_on, held_die, content_rests, statement_rests}
use Rattle.code_gen.proofs.LivingCalls.{library_rests}

-- ---- parameters

pub parameters_live : (parameters : List Parameter) → ParametersTyped parameters → (slot : ℕ) (args : List Value)
    (made : List Held) (here : Pos) (s : State) → IsWorld s.world
    → OnGives (λ made1 s1. HeldOnTop made made1 s s1) (parameters_made parameters slot args made here s)
parameters_live [] t slot args made here s w = record { new = []; world = w; on_top = refl; held = refl }
parameters_live (parameter ∷ rest) t slot args made here s w =
    let size : ℕ = content_size parameter.content in
    gives_then (IsMade size s) (λ made1 s3. HeldOnTop made made1 s s3) (automatic_made size s) _
    (automatic_lives size s t.0.1 w) (λ place s1 m.
    gives_then (λ u s2. Rests s1 s2) (λ made1 s3. HeldOnTop made made1 s s3)
    (content_stored parameter.content place (first_value args) here s1) _
    (content_rests parameter.content place (first_value args) here s1 m.world) (λ u s2 r.
    let h : Held = held_at slot place size in
    gives_from (λ made1 s3. HeldOnTop (h ∷ made) made1 s2 s3) (λ made1 s3. HeldOnTop made made1 s s3) _
    (parameters_live rest t.2 (suc slot) _ (h ∷ made) here s2 r.world) (λ made1 s3 b.
    held_on h made made1 s s2 s3 (record { world = r.world; on_top = r.same ∙ m.on_top }) b)))

pub ranges_rest : (number : ℕ) (ranges : List Range) (s : State) → IsWorld s.world
    → Rests s (ranges_sealed number ranges s)
ranges_rest number [] s w = rests_here s w
ranges_rest number (range ∷ rest) s w =
    let r = seal_rests s number _ w in
    rests_on s _ _ r (ranges_rest number rest _ r.world)

pub seals_rest : (parameters : List Parameter) (held : List Held) (s : State) → IsWorld s.world
    → Rests s (parameters_sealed parameters held s)
seals_rest [] held s w = rests_here s w
seals_rest (parameter ∷ rest) [] s w = rests_here s w
seals_rest (parameter ∷ rest) (h ∷ held) s w =
    let r = ranges_rest h.number parameter.seals s w in
    rests_on s _ _ r (seals_rest rest held _ r.world)

-- ---- a function

activation_rests : (program : Program) (call : Call) → CallRests call → (functions statics : List Pos)
    (f : Definition) → DefinitionTyped functions statics f → (args : List Value) (result : Pointer) (here : Pos)
    → StepRests (activation program call f args result here)
activation_rests program call rests functions statics f t args result here s w =
    rests_then s (call_entered s) _ (enter_rests s w) (λ u s1 w1.
    gives_then (λ held s2. HeldOnTop [] held s1 s2) (λ v s4. Rests s1 s4)
    (parameters_made f.parameters 0 args [] here s1) _
    (parameters_live f.parameters t.parameters 0 args [] here s1 w1) (λ held s2 h.
    let sealed : State = parameters_sealed f.parameters (reverse held) s2 in
    let r : Rests s2 sealed = seals_rest f.parameters (reverse held) s2 h.world in
    gives_then (λ flow s3. Rests sealed s3) (λ v s4. Rests s1 s4) (statement program call result f.body held sealed) _
    (statement_rests program call rests result _ _ f.body t.body held sealed r.world) (λ flow s3 b.
    let d : Dies (numbers held) (living s1) s3 = held_die held s1 s2 s3 h (rests_on s2 sealed s3 r b) in
    let left : Rests (all_died (numbers held) s3) _ = leave_rests (all_died (numbers held) s3) d.world in
    record { world = left.world; same = left.same ∙ d.left })))

module _ (library : Library) (laws : KeepsLaws library) (program : Program)
    (typed : DefinitionsTyped (tokens_of program.functions) (static_tokens program.statics) program.functions) where
  abbrev e : Environment
  e = environment library program

  abbrev pub EntersRest : Enter → Type 0
  EntersRest enter = (number : ℕ) (args : List Value) (result : Pointer) (here : Pos)
      → StepRests (enter number args result here)

  function_rests : (enter : Enter) → EntersRest enter → (number : ℕ) (f : Named)
      (args : List Arg) (result : Pointer) (here : Pos)
      → StepRests (function_call e enter number f args result here)
  function_rests enter rests number (UnitFunction f) args result here s w =
      rests_then s (ticked s) _ (ticks_rest s w) (λ u s1 w1. rests number (values_of args) result here s1 w1)
  function_rests enter rests number (LibraryFunction row name) args result here s w =
      rests_then s (library_call e s.ticks (wanted enter) (record { row = row; pos = here }) args s) _
      (library_rests e laws (wanted enter) (λ f vs pos s1 w1.
      rests_then s1 (enter f vs null pos s1) _ (rests f vs null pos s1 w1) (λ v s2 w2. rests_here s2 w2))
      s.ticks (record { row = row; pos = here }) args s w) (λ v s1 w1. rests_here s1 w1)

  compatible_rests : (enter : Enter) → EntersRest enter → (b : Bool) (f : Named) (p : Pointer)
      (args : List Arg) (result : Pointer) (here : Pos)
      → StepRests (λ s. if_compatible b e p here s (function_call e enter (function_number p) f args result here))
  compatible_rests enter rests true f p args result here s w =
      function_rests enter rests (function_number p) f args result here s w
  compatible_rests enter rests false f p args result here s w = tt

  found_rests : (enter : Enter) → EntersRest enter → (found : Option Named) (type : CType)
      (p : Pointer) (args : List Arg) (result : Pointer) (here : Pos)
      → StepRests (call_of e enter found type p args result here)
  found_rests enter rests None type p args result here s w = tt
  found_rests enter rests (Some f) type p args result here s w =
      compatible_rests enter rests (compatible (called_type type) (type_of_function f)) f p args result here s w

  pub calls_rest : (enter : Enter) → EntersRest enter → CallRests (call library program enter)
  calls_rest enter rests type p args result here =
      found_rests enter rests (designated_by program.functions p) type p args result here

  entered_rests : (enter : Enter) → EntersRest enter → (found : Option Named)
      → NamedTyped (tokens_of program.functions) (static_tokens program.statics) found
      → EntersRest (entered found program (call library program enter))
  entered_rests enter rests None t number args result here s w = rests_here s w
  entered_rests enter rests (Some (LibraryFunction row name)) t number args result here s w = rests_here s w
  entered_rests enter rests (Some (UnitFunction f)) t number args result here s w =
      activation_rests program _ (calls_rest enter rests) _ _ f t args result here s w

  -- at any depth
  pub enters_rest : (n : ℕ) → EntersRest (enter_below n library program)
  enters_rest zero number args result here s w = tt
  enters_rest (suc n) number args result here s w = entered_rests (enter_below n library program) (enters_rest n)
      (function_numbered program.functions number) (numbered_typed library laws program typed number)
      number args result here s w
