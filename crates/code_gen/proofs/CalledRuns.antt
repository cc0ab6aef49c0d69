-- Each call of a unit runs as it means: the pointer is tested, and a function of the unit or of the library is called.
use Rattle.std.proofs.Common.{◌≡◌, ◌∙◌, ℕ, zero, suc, ◌-◌, ◌<◌, ◌≤◌, Bool, true, false, List, [], ◌∷◌, ◌++◌, refl, sym}
use Rattle.std.proofs.Common.{ap, subst, arith, Option, Some, None, length}
use Rattle.std.specs.Prelude.{nat_lt, unwrap_or}
use Rattle.std.specs.List.{slice_get, list_any}
use Rattle.std.specs.Option.{option_map}
use Rattle.critical_table.specs.declared.case.Case.TheVariants.{L3}
use Rattle.critical_table.specs.declared.pos.Pos.{Pos}
use Rattle.object_store.specs.declared.pointer.Pointer.{Pointer}
use Rattle.c_types.specs.CType.{CType, CTypes, Plain, Function as FunctionType, Pointer as PointerType, Nil, Cons}
use Rattle.c_types.specs.Compatible.{compatible}
use Rattle.lib_defs.specs.declared.row.Row.{Row}
use Rattle.lib_defs.specs.declared.row_name.RowName.{RowName}
use Rattle.lib_defs.specs.declared.shown.Shown.{Shown}
use Rattle.lib_defs.specs.declared.shown.Shown.TheVariants.{Function as FunctionShown}
use Rattle.lib_defs.specs.declared.value.Arg.{Arg}
use Rattle.lib_defs.specs.declared.value.Value.{Value}
use Rattle.lib_defs.specs.declared.value.Value.TheVariants.{Num, Ptr, Nothing}
use Rattle.lib_defs.specs.Library.{Library, values_of}
use Rattle.lib_defs.specs.Prototypes.{Gives as GivenKind, GivesNumber, GivesPointer, GivesNothing, prototype}
use Rattle.lib_defs.specs.RowNumbers.{name_at}
use Rattle.lib_defs.specs.Variants.{IsVariant, IsVariantOf, KeepsVariants}
use Rattle.run_defs.specs.declared.event.Event.TheVariants.{ValueFailed}
use Rattle.run_defs.specs.declared.library_call.LibraryCall.{LibraryCall}
use Rattle.run_defs.specs.declared.outcome.Outcome.TheVariants.{Trapped}
use Rattle.run_defs.specs.Calls.{completed}
use Rattle.run_defs.specs.Evaluation.{Evaluation, Gives, Stops, bind, ticked_at, ticked}
use Rattle.run_defs.specs.Functions.{OfLibrary, Environment, function_number, function_name}
use Rattle.run_defs.specs.Functions.{value_shown, pointer_shown}
use Rattle.run_defs.specs.Served.{begun}
use Rattle.run_defs.specs.State.{State, logged}
use Rattle.c_core.specs.declared.form.Form.{Form}
use Rattle.c_core.specs.declared.form.Form.TheVariants as form
use Rattle.c_core.specs.declared.form.Content.{Content}
use Rattle.c_core.specs.declared.form.Content.TheVariants as content
use Rattle.c_core.specs.declared.form.Scalar.TheVariants as scalar
use Rattle.c_core.specs.Forms.{given_form, content_form}
use Rattle.c_core.specs.Forms as core_forms
use Rattle.c_core.specs.Tree.{Core, Cores, NoCore, MoreCores, type_in}
use Rattle.c_core.specs.TreeUnit.{Definition, Program}
use Rattle.c_core.specs.Typed.{IsCalled, ArePassed}
use Rattle.c_core.specs.TypedUnit.{IsDefined, IsWellTyped}
use Rattle.c_core.specs.Types.{IsLeft, IsScalar}
use Rattle.vm_code.specs.declared.parts.CodeCalled.{CodeCalled}
use Rattle.vm_code.specs.Calling.{Entry, entered, left_by, is_value, row_left, replied, returned, args_of, row_called}
use Rattle.vm_code.specs.Calling.{compatible_if, called_at, called_through}
use Rattle.vm_code.specs.CodeFunctions.{calls_function}
use Rattle.vm_code.specs.Contents.{Contents}
use Rattle.vm_code.specs.Frames.{Activation, Frame, Active, Place, Goes, Ends, after}
use Rattle.vm_code.specs.Sound.{form_of}
use Rattle.vm_code.proofs.ServedTicks.{serves_begun}
use Rattle.code_gen.specs.Arguments.{arguments}
use Rattle.code_gen.specs.CalledTypes.{through, entry, form_of_type, result_type, kinds_if}
use Rattle.code_gen.specs.CalledTypes.{types_of}
use Rattle.code_gen.specs.Calls.{wanted, function_call, if_compatible, call_of, call, called_type, enter_below}
use Rattle.code_gen.specs.ProgramFunctions.{Named, UnitFunction, LibraryFunction, unit_or_library, function_numbered}
use Rattle.code_gen.specs.ProgramFunctions.{designated_by, type_of_function, seen, environment}
use Rattle.code_gen.specs.RunLaw.{HasKind, pushed, Arrives, Reaches, AreArguments, AreLeft, value_left, IsGivenSo}
use Rattle.code_gen.specs.RunLaw.{CallRuns}
use Rattle.code_gen.specs.UnitCode.{unit_code, call_table}
use Rattle.code_gen.proofs.CallKinds.{enters_fit, typed_numbered, unit_gives, row_gives, library_named, completed_fits}
use Rattle.code_gen.proofs.CallTable.{StandsIn, called_stands, calls_alike, some_above, same_arguments}
use Rattle.code_gen.proofs.CompatibleForms.{AreTakenValues, passed_of_types, defined_agrees}
use Rattle.code_gen.proofs.CompletedRuns.{Enters, completed_runs}
use Rattle.code_gen.proofs.EnteredRuns.{returned_to, reaches_known_of}
use Rattle.code_gen.proofs.ExpressionKinds.{GivenFits, called_gives}
use Rattle.code_gen.proofs.Going.{IfGives, comes_same, reaches_from, reaches_gives}
use Rattle.code_gen.proofs.ValueObjects.{bind_behind}
use Rattle.code_gen.proofs.WantedFunctions.{seen_at, numbered_at, begun_serves}

-- ---- what a call leaves

-- on the operands of its caller
pub record LeftSo (gives : Option Content) (result : Pointer) (given : Option Value) (left operands : List Value)
    (answered : Bool) : Type 0 where
  pub given_so : IsGivenSo gives given answered
  pub same : left ++ operands ≡ pushed (given_form gives) (value_left gives result given) operands

unit_left : (gives : Option Content) (result : Pointer) (given : Option Value) (operands : List Value)
    → GivenFits (given_form gives) result given
    → LeftSo gives result given (left_by (given_form gives) result (unwrap_or given Nothing)) operands
    (is_value (unwrap_or given Nothing))
unit_left None result None operands fits = record { given_so = tt; same = refl }
unit_left None result (Some v) operands fits = record { given_so = tt; same = refl }
unit_left (Some (content.Scalar (scalar.Number kind))) result None operands fits =
    record { given_so = refl; same = refl }
unit_left (Some (content.Scalar (scalar.Number kind))) result (Some v) operands fits =
    subst (λ w. LeftSo (Some (content.Scalar (scalar.Number kind))) result (Some w)
    (left_by (form.Number kind) result w) operands (is_value w)) (sym fits.1)
    (record { given_so = ((fits.0, refl), refl); same = refl })
unit_left (Some (content.Scalar scalar.Pointer)) result None operands fits = record { given_so = refl; same = refl }
unit_left (Some (content.Scalar scalar.Pointer)) result (Some v) operands fits =
    subst (λ w. LeftSo (Some (content.Scalar scalar.Pointer)) result (Some w) (left_by form.Pointer result w) operands
    (is_value w)) (sym fits.1) (record { given_so = ((fits.0, refl), refl); same = refl })
unit_left (Some (content.Whole size)) result None operands fits = record { given_so = refl; same = refl }
unit_left (Some (content.Whole size)) result (Some v) operands fits =
    subst (λ w. LeftSo (Some (content.Whole size)) result (Some w) (left_by form.Place result w) operands (is_value w))
    (sym fits) (record { given_so = ((result, refl), refl); same = refl })

row_pushed : (given : GivenKind) (f : Form) (v : Value) (operands : List Value) → form_of given ≡ f → IsVariant given v
    → row_left v ++ operands ≡ pushed f v operands
row_pushed (GivesNumber kind) f (Num n) operands is variant = ap (λ g. pushed g (Num n) operands) is
row_pushed (GivesNumber kind) f (Ptr p) operands is variant = absurd variant
row_pushed (GivesNumber kind) f Nothing operands is variant = absurd variant
row_pushed GivesPointer f (Num n) operands is variant = absurd variant
row_pushed GivesPointer f (Ptr p) operands is variant = ap (λ g. pushed g (Ptr p) operands) is
row_pushed GivesPointer f Nothing operands is variant = absurd variant
row_pushed GivesNothing f (Num n) operands is variant = absurd variant
row_pushed GivesNothing f (Ptr p) operands is variant = absurd variant
row_pushed GivesNothing f Nothing operands is variant = ap (λ g. pushed g Nothing operands) is

content_left : (c : Content) → IsLeft (content_form c)
content_left (content.Scalar (scalar.Number kind)) = tt
content_left (content.Scalar scalar.Pointer) = tt
content_left (content.Whole size) = tt

row_kind : (given : GivenKind) (c : Content) (v : Value) → form_of given ≡ content_form c → IsVariant given v
    → HasKind (content_form c) v × (is_value v ≡ true)
row_kind (GivesNumber kind) c (Num n) is variant = (subst (λ f. HasKind f (Num n)) is (n, refl), refl)
row_kind (GivesNumber kind) c (Ptr p) is variant = absurd variant
row_kind (GivesNumber kind) c Nothing is variant = absurd variant
row_kind GivesPointer c (Num n) is variant = absurd variant
row_kind GivesPointer c (Ptr p) is variant = (subst (λ f. HasKind f (Ptr p)) is (p, refl), refl)
row_kind GivesPointer c Nothing is variant = absurd variant
row_kind GivesNothing c v is variant = absurd (subst IsLeft (sym is) (content_left c))

library_left : (gives : Option Content) (given : GivenKind) (result : Pointer) (v : Value) (operands : List Value)
    → form_of given ≡ given_form gives → IsVariant given v
    → LeftSo gives result (Some v) (row_left v) operands (is_value v)
library_left None given result v operands is variant =
    record { given_so = tt; same = row_pushed given form.Nothing v operands is variant }
library_left (Some c) given result v operands is variant = record {
  given_so = row_kind given c v is variant;
  same = row_pushed given (content_form c) v operands is variant;
}

-- ---- what is known of a call

scalar_left : (f : Form) → IsScalar f → IsLeft f
scalar_left (form.Number kind) is = tt
scalar_left form.Pointer is = tt
scalar_left form.Place is = absurd is
scalar_left form.Nothing is = absurd is

passed_left : (types : CTypes) (variadic : Bool) (operands : Cores) → ArePassed types variadic operands
    → AreLeft operands
passed_left Nil variadic NoCore passed = tt
passed_left Nil true (MoreCores first rest) passed =
    (scalar_left (core_forms.form_of first) passed.0, passed_left Nil true rest passed.1)
passed_left Nil false (MoreCores first rest) passed = absurd passed
passed_left (Cons type types) variadic NoCore passed = absurd passed
passed_left (Cons type types) variadic (MoreCores first rest) passed =
    (passed.1, passed_left types variadic rest passed.2)

called_left : (type : CType) (gives : Option Content) (operands : Cores) → IsCalled type gives operands
    → AreLeft operands
called_left (Plain (PointerType (Plain (FunctionType result types variadic) quals)) quals2) gives operands is =
    passed_left types variadic operands is.1
called_left _ gives operands is = absurd is

called_form : (type : CType) (gives : Option Content) (operands : Cores) → IsCalled type gives operands
    → form_of_type (result_type (called_type type)) ≡ given_form gives
called_form (Plain (PointerType (Plain (FunctionType result types variadic) quals)) quals2) gives operands is =
    ap (λ o. unwrap_or o form.Nothing) is.0
called_form _ gives operands is = absurd is

-- a function of the unit takes what is passed through a compatible type
called_takes : (type : CType) (gives : Option Content) (operands : Cores) (d : Definition)
    → IsDefined d.type d.parameters d.gives → IsCalled type gives operands
    → compatible (called_type type) d.type ≡ true → (vs : List Value) → AreArguments operands vs
    → AreTakenValues d.parameters vs
called_takes (Plain (PointerType (Plain (FunctionType result types variadic) quals)) quals2) gives operands d t is agree
    vs are =
    let a = defined_agrees d.type result types variadic quals d.parameters d.gives t agree in
    a.takes vs (passed_of_types types operands vs (subst (λ v. ArePassed types v operands) a.fixed is.1) are)
called_takes _ gives operands d t is agree vs are = absurd is

none_beyond : (functions : List Definition) (k : ℕ) → slice_get functions k ≡ None → length functions ≤ k
none_beyond [] k is = omega arith
none_beyond (first ∷ rest) zero is = absurd (let none : ⊥ = cc in none)
none_beyond (first ∷ rest) (suc k) is =
    let below : length rest ≤ k = none_beyond rest k is in omega (arith, below)

library_above : (functions : List Definition) (number : ℕ) (row : Row) (name : RowName)
    → function_numbered functions number ≡ Some (LibraryFunction row name) → length functions < number
library_above functions zero row name is = absurd (let none : ⊥ = cc in none)
library_above functions (suc k) row name is = by_found (slice_get functions k) refl is
  where
    by_found : (o : Option Definition) → slice_get functions k ≡ o
        → unit_or_library o (k - length functions) ≡ Some (LibraryFunction row name) → length functions < suc k
    by_found (Some d) at same = absurd (let none : ⊥ = cc in none)
    by_found None at same =
        let beyond : length functions ≤ k = none_beyond functions k at in omega (arith, beyond)

values_back : (operands : Cores) (vs : List Value) → AreArguments operands vs → values_of (arguments operands vs) ≡ vs
values_back NoCore [] are = refl
values_back NoCore (v ∷ vs) are = absurd are
values_back (MoreCores first rest) [] are = absurd are
values_back (MoreCores first rest) (v ∷ vs) are = ap (λ l. v ∷ l) (values_back rest vs are.1)

-- ---- a tick

tick_reaches : {B : Type 0} (e : Environment) (code : Contents) (most : ℕ) (Last : B → Type 0)
    (then : (v : B) → Last v → State → Place) (k : ℕ) (s : State) (go : State → Place)
    (next : State → Evaluation B) → k ≤ most
    → ((s1 : State) → suc s1.ticks ≡ k → s1.ticks < most → Reaches e code most (go s1) (next s1) Last then)
    → Reaches e code most (after (ticked_at k s) (λ u s1. go s1)) (bind (ticked_at k s) (λ u s1. next s1)) Last then
tick_reaches e code most Last then zero s go next le all = record { arrives = λ few. comes_same e code _ _ refl }
tick_reaches e code most Last then (suc k) s go next le all =
    all (record s { ticks = k }) refl (omega (arith, le))

-- ---- the call

module _ (library : Library) (keeps : KeepsVariants library) (program : Program) (typed : IsWellTyped program) (n : ℕ)
    (enters : Enters library keeps program typed n) (frames : List Frame) where
  abbrev e : Environment
  e = environment library program

  abbrev code : Contents
  code = unit_code program

  module _ (gives : Option Content) (function : Core) (operands : Cores)
      (is_called : IsCalled (type_in function) gives operands) where
    abbrev called : CodeCalled
    called = entry program (through function operands)

    abbrev type : CType
    type = called_type (type_in function)

    abbrev Given : Option Value → Type 0
    Given given = (answered : Bool) × IsGivenSo gives given answered

    module _ (p result : Pointer) (vs : List Value) (are : AreArguments operands vs) (position : Pos)
        (frame : Activation) where
      abbrev ent : Entry
      ent = record { function = function_number p; arguments = vs; result = result; pos = position }

      abbrev args : List Arg
      args = arguments operands vs

      abbrev stack : List Frame
      stack = Active frame ∷ frames

      abbrev to : (given : Option Value) → Given given → State → Place
      to given left s = Goes (Active (record frame {
        operands = pushed (given_form gives) (value_left gives result given) frame.operands;
        answered = left.0;
      }) ∷ frames) s

      -- a function of the unit
      unit_runs : (d : Definition) → designated_by program.functions p ≡ Some (UnitFunction d)
          → compatible type d.type ≡ true → (s : State) → s.ticks < n
          → Reaches e code n (entered code ent stack s)
          (enter_below n library program (function_number p) (values_of args) result position s) Given to
      unit_runs d at agree s less =
          let numbered : function_numbered program.functions (function_number p) ≡ Some (UnitFunction d) =
          numbered_at library program p (UnitFunction d) at in
          let t = typed_numbered library keeps program typed (function_number p) d numbered in
          let same : given_form d.gives ≡ given_form gives =
          unit_gives type gives d t.type (called_gives (type_in function) gives operands is_called) agree in
          let taken : AreTakenValues d.parameters vs =
          called_takes (type_in function) gives operands d t.type is_called agree vs are in
          subst (λ l. Reaches e code n (entered code ent stack s)
          (enter_below n library program (function_number p) l result position s) Given to)
          (sym (values_back operands vs are))
          (arrived (enter_below n library program (function_number p) vs result position s)
          (enters (function_number p) d numbered vs taken result position stack s less)
          (enters_fit library keeps program typed n (function_number p) d numbered vs result position s) same)
        where
          arrived : {f : Form} (x : Evaluation (Option Value))
              → Arrives e code (entered code ent stack s) x (λ given. Unit {0})
              (λ given u s1. returned_to e code f result stack given s1)
              → IfGives (GivenFits f result) x → f ≡ given_form gives
              → Reaches e code n (entered code ent stack s) x Given to
          arrived {f} (Stops outcome s1) a fits same = record { arrives = λ le. a }
          arrived {f} (Gives given s1) a fits same =
              let left = unit_left gives result given frame.operands
              (subst (λ g. GivenFits g result given) same fits) in
              reaches_from e code n _ (returned_to e code f result stack given s1) (Gives given s1) Given to a.1
              (reaches_gives e code n _ given s1 Given to (is_value (unwrap_or given Nothing), left.given_so)
              (ap (λ g. Goes (Active (record frame {
                operands = left_by g result (unwrap_or given Nothing) ++ frame.operands;
                answered = is_value (unwrap_or given Nothing);
              }) ∷ frames) s1) same
              ∙ ap (λ ops. Goes (Active (record frame {
                operands = ops;
                answered = is_value (unwrap_or given Nothing);
              }) ∷ frames) s1) left.same))

      -- a function of the library
      library_runs : (row : Row) (name : RowName) → designated_by program.functions p ≡ Some (LibraryFunction row name)
          → compatible type (type_of_function (LibraryFunction row name)) ≡ true
          → calls_function (function_number p) called ≡ true → (m : ℕ) (s : State) → suc s.ticks ≡ m → s.ticks < n
          → Reaches e code n (row_called e code (OfLibrary row) called ent stack s)
          (bind (completed e m (wanted (enter_below n library program))
          (begun e (record { row = row; pos = position }) args s)) (λ v s1. Gives (Some v) s1)) Given to
      library_runs row name at agree calls m s tick less =
          let numbered : function_numbered program.functions (function_number p) ≡ Some (LibraryFunction row name) =
          numbered_at library program p (LibraryFunction row name) at in
          let named : name_at row ≡ Some name =
          library_named program.functions (function_number p) row name numbered in
          let line : LibraryCall = record { row = row; pos = position } in
          let above : list_any (λ f. nat_lt (length program.functions) f) called.functions ≡ true =
          some_above (length program.functions) (function_number p) called.functions
          (library_above program.functions (function_number p) row name numbered) calls in
          let same_args : args_of vs called.kinds ≡ args =
          ap (λ b. args_of vs (kinds_if b (types_of operands))) above ∙ same_arguments operands vs are in
          let serves = begun_serves library program keeps typed.functions line args s in
          let same : form_of (prototype name).gives ≡ given_form gives =
          row_gives type gives name (called_gives (type_in function) gives operands is_called) agree in
          subst (λ l. Reaches e code n (replied code (begun e line l s) stack
          (λ v s1. returned e code (row_left v) v stack s1))
          (bind (completed e m (wanted (enter_below n library program)) (begun e line args s))
          (λ v s1. Gives (Some v) s1)) Given to) (sym same_args)
          (reaches_known_of e code n (IsVariantOf row) _
          (completed e m (wanted (enter_below n library program)) (begun e line args s)) (λ v s1. Gives (Some v) s1)
          (λ v. Unit {0}) (λ v u s1. returned e code (row_left v) v stack s1) Given to
          (completed_fits library keeps program typed row m (wanted (enter_below n library program))
          (begun e line args s) serves)
          (completed_runs library keeps program typed n enters n stack row m s.ticks (begun e line args s) serves
          (serves_begun e line args s.ticks s (omega arith)) (omega (arith, tick)) (omega (arith, less)))
          (λ v s1 u variant.
          let left = library_left gives (prototype name).gives result v frame.operands same (variant name named) in
          reaches_gives e code n _ (Some v) s1 Given to (is_value v, left.given_so)
          (ap (λ ops. Goes (Active (record frame { operands = ops; answered = is_value v }) ∷ frames) s1) left.same)))

      -- once the type has been tested
      tested_runs : (named : Named) → designated_by program.functions p ≡ Some named → (b : Bool)
          → compatible type (type_of_function named) ≡ b → calls_function (function_number p) called ≡ b → (s : State)
          → s.ticks ≤ n
          → Reaches e code n (compatible_if b e code (seen named) called ent stack s)
          (if_compatible b e p position s
          (function_call e (enter_below n library program) (function_number p) named args result position)) Given to
      tested_runs named at false agree calls s le =
          let shown : value_shown e (Ptr p) ≡ FunctionShown (function_name (seen named)) =
          ap (λ o. pointer_shown o p) (seen_at library program p ∙ ap (option_map seen) at) in
          record {
            arrives = λ few. comes_same e code _ _
                (ap (λ (sh : Shown). Ends (Trapped L3 position) (logged (ValueFailed L3 position sh) s)) (sym shown));
          }
      tested_runs (UnitFunction d) at true agree calls s le =
          tick_reaches e code n Given to s.ticks s (λ s1. entered code ent stack s1)
          (λ s1. enter_below n library program (function_number p) (values_of args) result position s1) le
          (λ s1 tick less. unit_runs d at agree s1 less)
      tested_runs (LibraryFunction row name) at true agree calls s le =
          let line : LibraryCall = record { row = row; pos = position } in
          let done : State → Evaluation Value = λ s1.
          completed e s.ticks (wanted (enter_below n library program)) (begun e line args s1) in
          subst (λ x. Reaches e code n
          (after (ticked s) (λ u s1. row_called e code (OfLibrary row) called ent stack s1)) x Given to)
          (bind_behind (ticked s) (λ u s1. done s1) (λ v s1. Gives (Some v) s1))
          (tick_reaches e code n Given to s.ticks s (λ s1. row_called e code (OfLibrary row) called ent stack s1)
          (λ s1. bind (done s1) (λ v s2. Gives (Some v) s2)) le
          (λ s1 tick less. library_runs row name at agree calls s.ticks s1 tick less))

      through_runs : (o : Option Named) → designated_by program.functions p ≡ o → (s : State) → s.ticks ≤ n
          → Reaches e code n (called_at (option_map seen o) e code p called ent stack s)
          (call_of e (enter_below n library program) o (type_in function) p args result position s) Given to
      through_runs None at s le = record { arrives = λ few. comes_same e code _ _ refl }
      through_runs (Some named) at s le =
          let alike : calls_function (function_number p) called ≡ compatible type (type_of_function named) =
          calls_alike program (through function operands) (function_number p) named
          (numbered_at library program p named at) in
          subst (λ b. Reaches e code n (compatible_if b e code (seen named) called ent stack s)
          (if_compatible (compatible type (type_of_function named)) e p position s
          (function_call e (enter_below n library program) (function_number p) named args result position)) Given to)
          (sym alike)
          (tested_runs named at (compatible type (type_of_function named)) refl alike s le)

      pub pointer_runs : (s : State) → s.ticks ≤ n
          → Reaches e code n (called_through e code p called ent stack s)
          (call library program (enter_below n library program) (type_in function) p args result position s) Given to
      pointer_runs s le =
          subst (λ o. Reaches e code n (called_at o e code p called ent stack s)
          (call library program (enter_below n library program) (type_in function) p args result position s) Given to)
          (sym (seen_at library program p)) (through_runs (designated_by program.functions p) refl s le)

  -- a call whose type stands in the table
  pub call_runs : (gives : Option Content) (function : Core) (operands : Cores)
      → IsCalled (type_in function) gives operands → StandsIn (call_table program) (through function operands)
      → CallRuns e code n frames (call_table program) (call library program (enter_below n library program)) gives
      function operands
  call_runs gives function operands is_called stands = record {
    called = entry program (through function operands);
    stands = called_stands program (call_table program) (through function operands) stands;
    form_is = called_form (type_in function) gives operands is_called;
    left = called_left (type_in function) gives operands is_called;
    runs = λ p result vs are position frame s le.
        pointer_runs gives function operands is_called p result vs are position frame s le;
  }
