-- Each call gives a value of the form that its type gives, at any depth.
use Rattle.std.proofs.Common.{◌≡◌, ◌∙◌, ℕ, zero, suc, ◌-◌, Bool, true, false, List, [], ◌∷◌, refl, sym, ap, subst}
use Rattle.std.proofs.Common.{Option, Some, None, length, if◌then◌else◌, reverse, not, ◌&&◌, ◌||◌}
use Rattle.std.proofs.lemmas.Bool.{false≢true}
use Rattle.std.specs.Prelude.{pos}
use Rattle.std.specs.List.{slice_get}
use Rattle.std.specs.Option.{option_map}
use Rattle.std.specs.Str.{bytes_eq}
use Rattle.acc_num.specs.declared.kind.IntKind.TheVariants.{I32}
use Rattle.critical_table.specs.declared.pos.Pos.{Pos}
use Rattle.object_store.specs.declared.pointer.Pointer.{Pointer}
use Rattle.c_types.specs.CType.{CType, CTypes, Plain, Array, Function}
use Rattle.c_types.specs.Compatible.{compatible, agree, bare_agree, all_agree, same_bool, same_quals}
use Rattle.c_types.specs.declared.shape.Quals.{Quals}
use Rattle.lib_defs.specs.declared.row.Row.{Row}
use Rattle.lib_defs.specs.declared.row_name.RowName.{RowName}
use Rattle.lib_defs.specs.declared.row_name.RowName.TheVariants as n
use Rattle.lib_defs.specs.declared.value.Arg.{Arg}
use Rattle.lib_defs.specs.declared.value.Value.{Value}
use Rattle.lib_defs.specs.declared.value.Value.TheVariants.{Num, Ptr, Nothing}
use Rattle.lib_defs.specs.Library.{Library, values_of}
use Rattle.lib_defs.specs.Prototypes.{Gives as GivenKind, GivesNumber, GivesPointer, GivesNothing, prototype}
use Rattle.lib_defs.specs.RowNumbers.{name_at}
use Rattle.lib_defs.specs.Variants.{IsVariant, IsVariantOf, KeepsVariants}
use Rattle.run_defs.specs.Calls.{completed, library_call}
use Rattle.run_defs.specs.Calls as entering
use Rattle.run_defs.specs.declared.library_call.LibraryCall.{LibraryCall}
use Rattle.run_defs.specs.Evaluation.{Evaluation, Gives, Stops, ticked, call_entered}
use Rattle.run_defs.specs.Functions.{Environment, function_number}
use Rattle.run_defs.specs.Served.{Served, Answers, Wants, begun, continued}
use Rattle.run_defs.specs.State.{State, call_left}
use Rattle.library_types.specs.LibraryTypes.{row_type}
use Rattle.c_core.specs.declared.form.Form.{Form}
use Rattle.c_core.specs.declared.form.Form.TheVariants as form
use Rattle.c_core.specs.declared.form.Content.{Content}
use Rattle.c_core.specs.declared.form.Content.TheVariants as content
use Rattle.c_core.specs.declared.form.Scalar.TheVariants as scalar
use Rattle.c_core.specs.Forms.{given_form}
use Rattle.c_core.specs.TreeUnit.{Definition, Program}
use Rattle.c_core.specs.TypedUnit.{DefinitionTyped, IsWellTyped, HasMain, mains, main_name, tokens_of, static_tokens}
use Rattle.c_core.specs.TypedUnit.{IsDefined}
use Rattle.c_core.specs.Types.{value_form}
use Rattle.vm_code.specs.Slots.{numbers, all_died}
use Rattle.vm_code.specs.Sound.{form_of}
use Rattle.code_gen.specs.Blocks.{parameters_made, parameters_sealed}
use Rattle.code_gen.specs.CalledTypes.{result_type}
use Rattle.code_gen.specs.Calls.{Enter, wanted, function_call, if_compatible, call_of, call, called_type, activation}
use Rattle.code_gen.specs.Calls.{entered, enter_below, main_value, returned_value}
use Rattle.code_gen.specs.Expressions.{Call}
use Rattle.code_gen.specs.Flows.{Flow, Next, Broke, Continued, Returned}
use Rattle.code_gen.specs.ProgramFunctions.{Named, UnitFunction, LibraryFunction, unit_or_library, function_numbered}
use Rattle.code_gen.specs.ProgramFunctions.{designated_by, type_of_function, environment}
use Rattle.code_gen.specs.Statements.{statement}
use Rattle.code_gen.proofs.CompatibleForms.{and_first, and_second, some_is, same_forms, defined_agrees}
use Rattle.code_gen.proofs.ExpressionKinds.{if_bind, if_with, GivenFits, CalledGives, CallGives}
use Rattle.code_gen.proofs.Going.{IfGives}
use Rattle.code_gen.proofs.StatementKinds.{ReturnFits, FlowFits, statement_fits}
use Rattle.code_gen.proofs.UnitFunctions.{unit_at, definition_typed}
use Rattle.code_gen.proofs.WantedFunctions.{ServesSo, begun_serves, continued_serves, numbered_at}

-- ---- library functions

-- what a prototype gives has the form of its type
pub row_form : (name : RowName) → value_form (result_type (row_type name)) ≡ Some (form_of (prototype name).gives)
row_form n.MemcpyS = refl
row_form _ = refl

pub variant_fits : (given : GivenKind) (result : Pointer) (v : Value) → IsVariant given v
    → GivenFits (form_of given) result (Some v)
variant_fits (GivesNumber kind) result (Num k) is = (k, refl)
variant_fits (GivesNumber kind) result (Ptr p) is = absurd is
variant_fits (GivesNumber kind) result Nothing is = absurd is
variant_fits GivesPointer result (Num k) is = absurd is
variant_fits GivesPointer result (Ptr p) is = (p, refl)
variant_fits GivesPointer result Nothing is = absurd is
variant_fits GivesNothing result v is = tt

-- a library function that a number designates has a name
row_named : (o : Option RowName) (row other : Row) (name : RowName) → name_at row ≡ o
    → option_map (LibraryFunction row) o ≡ Some (LibraryFunction other name) → name_at other ≡ Some name
row_named None row other name at is = absurd (let none : ⊥ = cc in none)
row_named (Some found) row other name at is =
    let same : row ≡ other = cc in
    let named : found ≡ name = cc in
    subst (λ r. name_at r ≡ Some name) same (at ∙ ap Some named)

pub library_named : (functions : List Definition) (number : ℕ) (row : Row) (name : RowName)
    → function_numbered functions number ≡ Some (LibraryFunction row name) → name_at row ≡ Some name
library_named functions zero row name is = absurd (let none : ⊥ = cc in none)
library_named functions (suc k) row name is = by_found (slice_get functions k) is
  where
    by_found : (o : Option Definition)
        → unit_or_library o (k - length functions) ≡ Some (LibraryFunction row name) → name_at row ≡ Some name
    by_found (Some d) same = absurd (let none : ⊥ = cc in none)
    by_found None same = row_named (name_at (record { 0 = k - length functions }))
        (record { 0 = k - length functions }) row name refl same

-- ---- compatible types give the same

results_agree : (result : CType) (types : CTypes) (variadic : Bool) (quals : Quals) (other : CType)
    → compatible (Plain (Function result types variadic) quals) other ≡ true
    → value_form result ≡ value_form (result_type other)
unfolding agree bare_agree
results_agree result types variadic quals (Plain (Function given others variadic2) quals2) is =
    let both : ((agree result given true && same_bool variadic variadic2) && all_agree types others) ≡ true =
    and_second (not true || same_quals quals quals2)
    ((agree result given true && same_bool variadic variadic2) && all_agree types others) is in
    same_forms result given true (and_first (agree result given true) (same_bool variadic variadic2)
    (and_first (agree result given true && same_bool variadic variadic2) (all_agree types others) both))
results_agree result types variadic quals (Plain other quals2) is =
    absurd (false≢true (and_second (not true || same_quals quals quals2) false is))
results_agree result types variadic quals (Array of len) is = absurd (false≢true is)

pub row_gives : (type : CType) (gives : Option Content) (name : RowName) → CalledGives type gives
    → compatible type (row_type name) ≡ true → form_of (prototype name).gives ≡ given_form gives
row_gives (Plain (Function result types variadic) quals) gives name of is =
    some_is (form_of (prototype name).gives) (given_form gives)
    (sym (row_form name) ∙ sym (results_agree result types variadic quals (row_type name) is) ∙ of)
row_gives _ gives name of is = absurd of

pub unit_gives : (type : CType) (gives : Option Content) (d : Definition)
    → IsDefined d.type d.parameters d.gives → CalledGives type gives → compatible type d.type ≡ true
    → given_form d.gives ≡ given_form gives
unit_gives (Plain (Function result types variadic) quals) gives d t of is =
    let agrees = defined_agrees d.type result types variadic quals d.parameters d.gives t is in
    some_is (given_form d.gives) (given_form gives) (sym agrees.form_is ∙ of)
unit_gives _ gives d t of is = absurd of

-- ---- `main`

pub record MainGives (d : Definition) : Type 0 where
  pub takes_none : d.parameters ≡ []
  pub gives : d.gives ≡ Some (content.Scalar (scalar.Number I32))

only_main : (ms : List Definition) (j : ℕ) (d : Definition) → HasMain ms → slice_get ms j ≡ Some d → MainGives d
only_main [] j d has is = absurd has
only_main (m ∷ []) zero d has is =
    subst MainGives (some_is m d is) (record { takes_none = has.0; gives = has.1 })
only_main (m ∷ []) (suc j) d has is = absurd (let none : ⊥ = cc in none)
only_main (m ∷ other ∷ ms) j d has is = absurd has

among_mains : (ds : List Definition) (k : ℕ) (d : Definition) → slice_get ds k ≡ Some d
    → bytes_eq d.name main_name ≡ true → (j : ℕ) × (slice_get (mains ds) j ≡ Some d)
among_mains [] k d is named = absurd (let none : ⊥ = cc in none)
among_mains (first ∷ rest) zero d is named =
    let same : bytes_eq first.name main_name ≡ true = ap (λ (f : Definition). bytes_eq f.name main_name)
    (some_is first d is) ∙ named in
    (0, ap (λ b. slice_get (if b then first ∷ mains rest else mains rest) 0) same ∙ is)
among_mains (first ∷ rest) (suc k) d is named =
    let later : (j : ℕ) × (slice_get (mains rest) j ≡ Some d) = among_mains rest k d is named in
    by_first (bytes_eq first.name main_name) later
  where
    by_first : (b : Bool) → (j : ℕ) × (slice_get (mains rest) j ≡ Some d)
        → (j : ℕ) × (slice_get (if b then first ∷ mains rest else mains rest) j ≡ Some d)
    by_first true later = (suc later.0, later.1)
    by_first false later = later

pub main_gives : (program : Program) (number : ℕ) (d : Definition) → HasMain (mains program.functions)
    → function_numbered program.functions number ≡ Some (UnitFunction d) → bytes_eq d.name main_name ≡ true
    → MainGives d
main_gives program zero d has is named = absurd (let none : ⊥ = cc in none)
main_gives program (suc k) d has is named =
    let there = among_mains program.functions k d
    (unit_at program.functions k (k - length program.functions) d is) named in
    only_main (mains program.functions) there.0 d has there.1

-- ---- functions of the unit

pub return_given : (f : Form) (result : Pointer) (v : Option Value) → ReturnFits f result v → GivenFits f result v
return_given f result None fits = tt
return_given form.Nothing result (Some v) fits = absurd fits
return_given (form.Number kind) result (Some v) fits = fits
return_given form.Pointer result (Some v) fits = fits
return_given form.Place result (Some v) fits = fits

main_fits : (b : Bool) (f : Form) (result : Pointer) (v : Option Value) → (b ≡ true → f ≡ form.Number I32)
    → GivenFits f result v → GivenFits f result (main_value b v)
main_fits true f result None is fits =
    subst (λ g. GivenFits g result (Some (Num (pos 0)))) (sym (is refl)) (pos 0, refl)
main_fits true f result (Some v) is fits = fits
main_fits false f result v is fits = fits

module _ (library : Library) (keeps : KeepsVariants library) (program : Program) (typed : IsWellTyped program) where
  abbrev e : Environment
  e = environment library program

  -- each function of the unit that is entered gives what it says
  abbrev pub EnterFits : Enter → Type 0
  EnterFits enter = (number : ℕ) (d : Definition)
      → function_numbered program.functions number ≡ Some (UnitFunction d) → (args : List Value) (result : Pointer)
      (here : Pos) (s : State) → IfGives (GivenFits (given_form d.gives) result) (enter number args result here s)

  pub typed_numbered : (number : ℕ) (d : Definition)
      → function_numbered program.functions number ≡ Some (UnitFunction d)
      → DefinitionTyped (tokens_of program.functions) (static_tokens program.statics) d
  typed_numbered number d is = definition_typed (tokens_of program.functions) (static_tokens program.statics) program
      number d is typed.functions

  pub completed_fits : (row : Row) (m : ℕ) (enter : entering.Enter) (x : Evaluation Served)
      → ServesSo library program keeps typed.functions row x → IfGives (IsVariantOf row) (completed e m enter x)
  completed_fits row m enter (Stops outcome s) serves = tt
  completed_fits row m enter (Gives (Answers v) s) serves = serves
  completed_fits row zero enter (Gives (Wants number arguments suspended) s) serves = tt
  completed_fits row (suc m) enter (Gives (Wants number arguments suspended) s) serves =
      if_bind (IsVariantOf row) (enter number arguments suspended.call.pos s)
      (λ v s1. completed e m enter (continued e suspended v s1))
      (λ v s1. completed_fits row m enter (continued e suspended v s1)
      (continued_serves library program keeps typed.functions row suspended v s1 serves.1 serves.2))

  library_fits : (enter : entering.Enter) (call : LibraryCall) (args : List Arg) (m : ℕ) (s : State)
      → IfGives (IsVariantOf call.row) (library_call e m enter call args s)
  library_fits enter call args m s = if_bind (IsVariantOf call.row) (ticked s)
      (λ u s1. completed e m enter (begun e call args s1))
      (λ u s1. completed_fits call.row m enter (begun e call args s1)
      (begun_serves library program keeps typed.functions call args s1))

  named_fits : (enter : Enter) → EnterFits enter → (named : Named) (type : CType) (gives : Option Content)
      → CalledGives type gives → (p : Pointer) → designated_by program.functions p ≡ Some named
      → (b : Bool) → compatible type (type_of_function named) ≡ b → (args : List Arg) (result : Pointer) (here : Pos)
      (s : State) → IfGives (GivenFits (given_form gives) result)
      (if_compatible b e p here s (function_call e enter (function_number p) named args result here))
  named_fits enter fits named type gives of p at false is args result here s = tt
  named_fits enter fits (UnitFunction d) type gives of p at true is args result here s =
      let numbered : function_numbered program.functions (function_number p) ≡ Some (UnitFunction d) =
      numbered_at library program p (UnitFunction d) at in
      let t = typed_numbered (function_number p) d numbered in
      if_bind (GivenFits (given_form gives) result) (ticked s)
      (λ u s1. enter (function_number p) (values_of args) result here s1)
      (λ u s1. subst (λ f. IfGives (GivenFits f result) (enter (function_number p) (values_of args) result here s1))
      (unit_gives type gives d t.type of is) (fits (function_number p) d numbered (values_of args) result here s1))
  named_fits enter fits (LibraryFunction row name) type gives of p at true is args result here s =
      let named : name_at row ≡ Some name = library_named program.functions (function_number p) row name
      (numbered_at library program p (LibraryFunction row name) at) in
      if_with (IsVariantOf row) (GivenFits (given_form gives) result)
      (library_call e s.ticks (wanted enter) (record { row = row; pos = here }) args s) (λ v s1. Gives (Some v) s1)
      (library_fits (wanted enter) (record { row = row; pos = here }) args s.ticks s)
      (λ v s1 variant. subst (λ f. GivenFits f result (Some v)) (row_gives type gives name of is)
      (variant_fits (prototype name).gives result v (variant name named)))

  pub calls_fit : (enter : Enter) → EnterFits enter → CallGives (call library program enter)
  calls_fit enter fits type gives of p args result here s = by_found (designated_by program.functions p) refl
    where
      by_found : (o : Option Named) → designated_by program.functions p ≡ o
          → IfGives (GivenFits (given_form gives) result) (call_of e enter o type p args result here s)
      by_found None at = tt
      by_found (Some named) at = named_fits enter fits named (called_type type) gives of p at
          (compatible (called_type type) (type_of_function named)) refl args result here s

  flow_value : (d : Definition) (result : Pointer) (f : Flow)
      → FlowFits (record { gives = d.gives; slots = d.slots; breaks = false; continues = false }) result f
      → GivenFits (given_form d.gives) result (returned_value f)
  flow_value d result Next fits = tt
  flow_value d result Broke fits = tt
  flow_value d result Continued fits = tt
  flow_value d result (Returned v) fits = return_given (given_form d.gives) result v fits

  activation_fits : (call : Call) → CallGives call → (number : ℕ) (d : Definition)
      → function_numbered program.functions number ≡ Some (UnitFunction d) → (args : List Value) (result : Pointer)
      (here : Pos) (s : State)
      → IfGives (GivenFits (given_form d.gives) result) (activation program call d args result here s)
  activation_fits call gives_kind number d is args result here s =
      let t = typed_numbered number d is in
      let Fits : Option Value → Type 0 = GivenFits (given_form d.gives) result in
      let b : Bool = bytes_eq d.name main_name in
      if_bind Fits (call_entered s) _ (λ u s1.
      if_bind Fits (parameters_made d.parameters 0 args [] here s1) _ (λ held s2.
      if_with (FlowFits (record { gives = d.gives; slots = d.slots; breaks = false; continues = false }) result) Fits
      (statement program call result d.body held (parameters_sealed d.parameters (reverse held) s2))
      (λ f s3. Gives (main_value b (returned_value f)) (call_left (all_died (numbers held) s3)))
      (statement_fits program call gives_kind result _ _ d.body t.body held
      (parameters_sealed d.parameters (reverse held) s2)) (λ f s3 fits.
      main_fits b (given_form d.gives) result (returned_value f)
      (λ named. ap given_form (let m = main_gives program number d typed.main is named in m.gives))
      (flow_value d result f fits))))

  pub enters_fit : (n : ℕ) → EnterFits (enter_below n library program)
  enters_fit zero number d is args result here s = tt
  enters_fit (suc n) number d is args result here s =
      subst (λ o. IfGives (GivenFits (given_form d.gives) result)
      (entered o program (call library program (enter_below n library program)) number args result here s)) (sym is)
      (activation_fits (call library program (enter_below n library program))
      (calls_fit (enter_below n library program) (enters_fit n)) number d is args result here s)
