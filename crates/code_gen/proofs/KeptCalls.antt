-- Calls and the functions of a unit keep what is kept, over every library that keeps its laws.
use Rattle.std.proofs.Common.{◌≡◌, ℕ, zero, suc, Bool, true, false, cond, List, [], ◌∷◌, refl, ap, Option, Some, None}
use Rattle.std.proofs.Common.{◌∙◌}
use Rattle.std.proofs.Common.{reverse}
use Rattle.std.specs.Prelude.{nat_lt, slice_get}
use Rattle.std.specs.Option.{option_map}
use Rattle.critical_table.specs.declared.case.Case.TheVariants.{L3, L6}
use Rattle.critical_table.specs.declared.pos.Pos.{Pos}
use Rattle.object_store.specs.declared.pointer.Pointer.{Pointer}
use Rattle.c_types.specs.CType.{CType}
use Rattle.c_types.specs.Compatible.{compatible}
use Rattle.lib_defs.specs.declared.value.Arg.{Arg}
use Rattle.lib_defs.specs.declared.row.Row.{Row}
use Rattle.lib_defs.specs.declared.row_name.RowName.{RowName}
use Rattle.lib_defs.specs.RowNumbers.{name_at}
use Rattle.lib_defs.specs.declared.value.Value.{Value}
use Rattle.lib_defs.specs.declared.value.Value.TheVariants.{Ptr}
use Rattle.lib_defs.specs.Reply.{null}
use Rattle.lib_defs.specs.Handlers.{first_function}
use Rattle.lib_defs.specs.Library.{Library, values_of}
use Rattle.lib_defs.specs.Laws.{KeepsLaws}
use Rattle.run_defs.specs.declared.outcome.Outcome.TheVariants.{OutOfTicks}
use Rattle.run_defs.specs.State.{State}
use Rattle.run_defs.specs.Functions.{Environment, function_at, function_number, value_shown}
use Rattle.run_defs.specs.Fits.{is_call_trap}
use Rattle.run_defs.specs.Replay.{OpenCall}
use Rattle.run_defs.specs.Kept.{At, EnterKeeps}
use Rattle.run_defs.proofs.Completing.{calls_lawful}
use Rattle.run_defs.proofs.Following.{at_sealed, at_tick, at_left, quiet_closes, value_closes, keeps_tick}
use Rattle.run_defs.proofs.Following.{entered_keeps}
use Rattle.run_defs.proofs.Following.{automatic_keeps}
use Rattle.run_defs.proofs.RowFacts.{no_function}
use Rattle.c_core.specs.declared.function.Range.{Range}
use Rattle.c_core.specs.TreeUnit.{Parameter, Definition, Program}
use Rattle.c_core.specs.TypedUnit.{ParametersTyped, DefinitionTyped, DefinitionsTyped, tokens_of, static_tokens}
use Rattle.vm_code.specs.Slots.{Held, numbers}
use Rattle.code_gen.specs.Blocks.{first_value, parameters_made, parameters_sealed, ranges_sealed}
use Rattle.code_gen.specs.Expressions.{Call}
use Rattle.code_gen.specs.ProgramFunctions.{Named, UnitFunction, LibraryFunction, unit_or_library, function_numbered}
use Rattle.code_gen.specs.ProgramFunctions.{library_function, designated_by, seen, environment, type_of_function}
use Rattle.code_gen.specs.Calls.{Enter, wanted, function_call, if_compatible, call_of, call, called_type, activation}
use Rattle.code_gen.specs.Calls.{entered, enter_below}
use Rattle.code_gen.proofs.KeptParts.{StepKeeps, then_keeps, at_all_died}
use Rattle.code_gen.proofs.KeptExpressions.{CallKeeps}
use Rattle.code_gen.proofs.KeptStatements.{content_keeps, statement_keeps}

module _ (e : Environment) (calls : List OpenCall) where
  parameters_keep : (parameters : List Parameter) → ParametersTyped parameters → (slot : ℕ) (args : List Value)
      (made : List Held) (here : Pos) → StepKeeps e calls (parameters_made parameters slot args made here)
  parameters_keep [] t slot args made here s a = a
  parameters_keep (parameter ∷ rest) t slot args made here s a =
      then_keeps e calls _ _ (automatic_keeps e _ s calls t.0.0 t.0.1 a) (λ place s1 a1.
      then_keeps e calls _ _ (content_keeps e calls parameter.content place (first_value args) here s1 a1) (λ u s2 a2.
      parameters_keep rest t.2 (suc slot) _ _ here s2 a2))

  at_ranges : (number : ℕ) (ranges : List Range) (s : State) → At e s calls
      → At e (ranges_sealed number ranges s) calls
  at_ranges number [] s a = a
  at_ranges number (range ∷ rest) s a = at_ranges number rest _ (at_sealed e s calls number _ refl a)

  at_parameters : (parameters : List Parameter) (held : List Held) (s : State) → At e s calls
      → At e (parameters_sealed parameters held s) calls
  at_parameters [] held s a = a
  at_parameters (parameter ∷ rest) [] s a = a
  at_parameters (parameter ∷ rest) (h ∷ held) s a =
      at_parameters rest held _ (at_ranges h.number parameter.seals s a)

  -- ---- a function

  pub activation_keeps : (program : Program) (call : Call) → CallKeeps e calls call → (functions statics : List Pos)
      (f : Definition) → DefinitionTyped functions statics f → (args : List Value) (result : Pointer) (here : Pos)
      → StepKeeps e calls (activation program call f args result here)
  activation_keeps program call kept functions statics f t args result here s a =
      then_keeps e calls _ _ (entered_keeps e s calls a) (λ u s1 a1.
      then_keeps e calls _ _ (parameters_keep f.parameters t.parameters 0 args [] here s1 a1) (λ held s2 a2.
      then_keeps e calls _ _ (statement_keeps e calls program call kept result _ _ f.body t.body held _
      (at_parameters f.parameters (reverse held) s2 a2)) (λ flow s3 a3.
      at_left e _ calls (at_all_died e calls (numbers held) s3 a3))))

-- a function of the unit is well-typed
abbrev pub NamedTyped : List Pos → List Pos → Option Named → Type 0
NamedTyped functions statics (Some (UnitFunction f)) = DefinitionTyped functions statics f
NamedTyped functions statics other = Unit {0}

option_typed : (fs ss : List Pos) (row : Row) (name : Option RowName)
    → NamedTyped fs ss (option_map (LibraryFunction row) name)
option_typed fs ss row None = tt
option_typed fs ss row (Some name) = tt

library_typed : (fs ss : List Pos) (m : ℕ) → NamedTyped fs ss (library_function m)
library_typed fs ss m = option_typed fs ss (record { 0 = m }) (name_at (record { 0 = m }))

unit_typed : (fs ss : List Pos) (functions : List Definition) → DefinitionsTyped fs ss functions → (k m : ℕ)
    → NamedTyped fs ss (unit_or_library (slice_get functions k) m)
unit_typed fs ss [] t k m = library_typed fs ss m
unit_typed fs ss (first ∷ rest) t zero m = t.0
unit_typed fs ss (first ∷ rest) t (suc k) m = unit_typed fs ss rest t.1 k m

module _ (library : Library) (laws : KeepsLaws library) (program : Program)
    (typed : DefinitionsTyped (tokens_of program.functions) (static_tokens program.statics) program.functions) where
  abbrev e : Environment
  e = environment library program

  abbrev EntersKeep : Enter → Type 0
  EntersKeep enter = (number : ℕ) (args : List Value) (result : Pointer) (here : Pos) (calls : List OpenCall)
      → StepKeeps e calls (enter number args result here)

  wanted_keeps : (enter : Enter) → EntersKeep enter → EnterKeeps e (wanted enter)
  wanted_keeps enter kept f args here s calls a =
      then_keeps e calls _ _ (kept f args null here calls s a) (λ v s1 a1. a1)

  function_keeps : (enter : Enter) → EntersKeep enter → (calls : List OpenCall) (number : ℕ) (f : Named)
      (args : List Arg) (result : Pointer) (here : Pos)
      → StepKeeps e calls (function_call e enter number f args result here)
  function_keeps enter kept calls number (UnitFunction f) args result here s a = keeps_tick e calls calls s _ a
      (λ left is. kept number (values_of args) result here calls _ (at_tick e s calls left is a))
  function_keeps enter kept calls number (LibraryFunction row name) args result here s a =
      then_keeps e calls _ _ (calls_lawful e laws (wanted enter) (wanted_keeps enter kept) s.ticks
      (record { row = row; pos = here }) args s calls a) (λ v s1 a1. a1)

  -- what a library call knows of a pointer is read off the function that it designates
  below_seen : (below : Bool) (found : Option Named)
      → cond below None (option_map seen found) ≡ option_map seen (cond below None found)
  below_seen true found = refl
  below_seen false found = refl

  seen_at : (p : Pointer) → function_at e p ≡ option_map seen (designated_by program.functions p)
  seen_at p = below_seen (nat_lt p.object first_function) (function_numbered program.functions (function_number p))

  shown_name : (p : Pointer) (f : Named) → designated_by program.functions p ≡ Some f
      → is_call_trap L3 (value_shown e (Ptr p)) ≡ true
  shown_name p f is = rw (seen_at p ∙ ap (option_map seen) is) refl

  compatible_keeps : (enter : Enter) → EntersKeep enter → (calls : List OpenCall) (b : Bool) (f : Named) (p : Pointer)
      (args : List Arg) (result : Pointer) (here : Pos) → designated_by program.functions p ≡ Some f
      → StepKeeps e calls
      (λ s. if_compatible b e p here s (function_call e enter (function_number p) f args result here))
  compatible_keeps enter kept calls true f p args result here is s a =
      function_keeps enter kept calls (function_number p) f args result here s a
  compatible_keeps enter kept calls false f p args result here is s a =
      value_closes e s calls L3 (value_shown e (Ptr p)) here (shown_name p f is) a

  found_call_keeps : (enter : Enter) → EntersKeep enter → (calls : List OpenCall) (found : Option Named) (type : CType)
      (p : Pointer) (args : List Arg) (result : Pointer) (here : Pos) → designated_by program.functions p ≡ found
      → StepKeeps e calls (call_of e enter found type p args result here)
  found_call_keeps enter kept calls None type p args result here is s a =
      value_closes e s calls L6 (value_shown e (Ptr p)) here
      (no_function e p (seen_at p ∙ ap (option_map seen) is)) a
  found_call_keeps enter kept calls (Some f) type p args result here is s a =
      compatible_keeps enter kept calls (compatible (called_type type) (type_of_function f)) f p args result here is s a

  calls_keep : (enter : Enter) → EntersKeep enter → (calls : List OpenCall)
      → CallKeeps e calls (call library program enter)
  calls_keep enter kept calls type p args result here =
      found_call_keeps enter kept calls (designated_by program.functions p) type p args result here refl

  entered_found : (enter : Enter) → EntersKeep enter → (found : Option Named)
      → NamedTyped (tokens_of program.functions) (static_tokens program.statics) found → EntersKeep
      (entered found program (call library program enter))
  entered_found enter kept None t number args result here calls s a = a
  entered_found enter kept (Some (LibraryFunction row name)) t number args result here calls s a = a
  entered_found enter kept (Some (UnitFunction f)) t number args result here calls s a =
      activation_keeps e calls program _ (calls_keep enter kept calls) _ _ f t args result here s a

  pub numbered_typed : (number : ℕ) → NamedTyped (tokens_of program.functions) (static_tokens program.statics)
      (function_numbered program.functions number)
  numbered_typed zero = tt
  numbered_typed (suc k) = unit_typed _ _ program.functions typed k _

  -- at any depth
  pub enters_keep : (n : ℕ) → EntersKeep (enter_below n library program)
  enters_keep zero number args result here calls s a = quiet_closes e s calls OutOfTicks refl a
  enters_keep (suc n) number args result here calls s a = entered_found (enter_below n library program) (enters_keep n)
      (function_numbered program.functions number) (numbered_typed number) number args result here calls s a
