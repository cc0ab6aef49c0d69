-- Calls keep to types (6.5.2.2).
use Rattle.std.proofs.Common.{◌≡◌, ℕ, ◌+◌, ◌==◌, ◌<◌, nat_lt, Bool, true, false, ◌&&◌, List, Option}
use Rattle.std.proofs.Common.{Some, None}
use Rattle.std.proofs.Common.{is_some, IfSome, inl, inr, refl, sym, subst, arith}
use Rattle.std.proofs.lemmas.Bool.Decides.{Decides-eqb}
use Rattle.critical_table.specs.declared.pos.Pos.{Pos}
use Rattle.c_types.specs.declared.basic.Basic.TheVariants as b
use Rattle.c_types.specs.declared.layout.Layout.{Layout}
use Rattle.c_types.specs.CType.{CType, CTypes, Plain, Array, BasicType, Pointer, Function, Compound, Enumerated, Nil}
use Rattle.c_types.specs.CType.{Cons}
use Rattle.c_types.specs.Functions.{gives_of, parameters_of, variadic_of}
use Rattle.c_types.specs.Layouts.{layout_of}
use Rattle.c_types.specs.Structures.{Structure}
use Rattle.c_core.specs.declared.form.Content.{Content}
use Rattle.c_core.specs.declared.form.Form.{Form}
use Rattle.c_core.specs.declared.form.Form.TheVariants as form
use Rattle.c_core.specs.Forms.{form_of, given_form}
use Rattle.c_core.specs.Named.{Names}
use Rattle.c_core.specs.Tree.{Core, Cores, At, NoCore, MoreCores}
use Rattle.c_core.specs.Tree as tree
use Rattle.c_core.specs.Typed.{CoreTyped, CoresTyped, ArePassed, IsCalled, MayBeUsed}
use Rattle.c_core.specs.Types.{value_form, IsScalar, IsGiven}
use Rattle.c_conversions.specs.Contents.{given_in, given, whole}
use Rattle.c_conversions.specs.Converting.{assigned, passed, promoted_value}
use Rattle.c_conversions.specs.Kinds.{is_integer, promoted}
use Rattle.c_conversions.specs.Parts.{Part, value}
use Rattle.c_conversions.specs.Versions.{is_pointer, is_compound, is_function, is_void}
use Rattle.c_expr_rules.specs.Calls.{pass_demands, further_demands, further_rule, may_call, count_of_types}
use Rattle.c_expr_rules.specs.Calls.{count_of_cores, is_enough, result_in, call_demands, or_nothing, call_part}
use Rattle.c_expr_rules.specs.Calls.{call_rule}
use Rattle.c_expr_rules.specs.Calls.{pass_rule}
use Rattle.c_expr_rules.specs.Targets.{type_of_part, target_of, basic_in}
use Rattle.c_expr_rules.specs.Uses.{has_value}
use Rattle.c_typing_law.specs.Law.{GivesPart, GivesCore}
use Rattle.c_typing_law.specs.TypedParts.{ValueTyped, PartTyped, Leaves, ArgumentsTyped, IfFits}
use Rattle.c_typing_law.specs.WellFormed.{TypeFormed, LayoutFormed, StructuresFormed}
use Rattle.c_typing_law.proofs.Converted.{pointer_left, promoted_typed, stays, AssignedTyped, NumberTyped}
use Rattle.c_typing_law.proofs.Converted.{assigned_typed, argument_typed, converted_value}
use Rattle.c_typing_law.proofs.Facts.{fits_if, both_hold, either_holds, first_holds, second_holds, either_way}
use Rattle.c_typing_law.proofs.Facts.{not_holds}
use Rattle.c_typing_law.proofs.Facts.{unless_not, both_true}
use Rattle.c_typing_law.proofs.Formed.{form_suits, scalar_left}
use Rattle.c_typing_law.proofs.Integers.{lt_test, lt_holds}
use Rattle.c_typing_law.proofs.Laid.{laid}

-- ---- what a call gives

-- a result that is `void` or complete
record ResultTyped (structures : List Structure) (type : CType) (gives : Option Content) : Type 0 where
  pub form : value_form type ≡ Some (given_form gives)
  pub size : IsGiven gives
  pub whole : (at : Pos) (node : tree.Node) → has_value structures (value (At type at node)) ≡ true

whole_given : (layout : Option Layout) → is_some (given (whole layout)) ≡ true → IfSome layout LayoutFormed
    → (Some form.Place ≡ Some (given_form (or_nothing (given (whole layout)))))
    × IsGiven (or_nothing (given (whole layout))) × (is_some layout ≡ true)
whole_given None there h = cc
whole_given (Some layout) there h = (refl, h.size, refl)

result_typed : (structures : List Structure) → StructuresFormed structures → (type : CType)
    → TypeFormed structures type → is_some (given_in type structures) ≡ true
    → ResultTyped structures type (or_nothing (given_in type structures))
result_typed structures formed (Plain (BasicType b.Void) quals) h there =
    record { form = refl; size = tt; whole = λ at node. refl }
result_typed structures formed (Plain (BasicType basic) quals) h there =
    record { form = refl; size = (omega arith, omega arith); whole = λ at node. refl }
result_typed structures formed (Plain (Pointer to) quals) h there =
    record { form = refl; size = (omega arith, omega arith); whole = λ at node. refl }
result_typed structures formed (Plain (Enumerated number) quals) h there =
    record { form = refl; size = (omega arith, omega arith); whole = λ at node. refl }
result_typed structures formed (Plain (Compound number) quals) h there =
    let made = whole_given (layout_of (Plain (Compound number) quals) structures) there
    (laid structures formed (Plain (Compound number) quals) tt) in
    record { form = made.0; size = made.1; whole = λ at node. made.2 }
result_typed structures formed (Plain (Function gives parameters variadic) quals) h there = cc
result_typed structures formed (Array of len) h there = cc

may_be_used : (used : Bool) (gives : Option Content) → MayBeUsed (used && is_some gives) gives
may_be_used true None = tt
may_be_used true (Some content) = tt
may_be_used false None = tt
may_be_used false (Some content) = tt

-- ---- arguments

fewer : (variadic : Bool) (wanted given : ℕ) → is_enough variadic (wanted + 1) (given + 1) ≡ true
    → is_enough variadic wanted given ≡ true
fewer variadic wanted given h = elim (either_holds (wanted + 1 == given + 1)
    (variadic && nat_lt (wanted + 1) (given + 1)) h) [
      | inl same ↦ (let e : wanted + 1 ≡ given + 1 = (Decides-eqb (wanted + 1) (given + 1)).0 same in
          first_holds (wanted == given) (variadic && nat_lt wanted given) ((Decides-eqb wanted given).1 (omega arith)))
      | inr more ↦ (let both : (variadic ≡ true) × (nat_lt (wanted + 1) (given + 1) ≡ true) = both_hold _ _ more in
          let below : wanted + 1 < given + 1 = lt_test (wanted + 1) (given + 1) both.1 in
          let less : wanted < given = omega arith in
          second_holds (wanted == given) (variadic && nat_lt wanted given) (both_true variadic
          (nat_lt wanted given) both.0 (lt_holds wanted given less)))
    ]

too_few : (variadic : Bool) (wanted : ℕ) → is_enough variadic (wanted + 1) 0 ≡ true → ⊥
too_few variadic wanted h = elim (either_holds (wanted + 1 == 0) (variadic && nat_lt (wanted + 1) 0) h) [
  | inl same ↦ (let e : wanted + 1 ≡ 0 = (Decides-eqb (wanted + 1) 0).0 same in omega arith)
  | inr more ↦ (let both : (variadic ≡ true) × (nat_lt (wanted + 1) 0 ≡ true) = both_hold _ _ more in
      let below : wanted + 1 < 0 = lt_test (wanted + 1) 0 both.1 in omega arith)
]

too_many : (given : ℕ) → is_enough false 0 (given + 1) ≡ true → ⊥
too_many given h = elim (either_holds (0 == given + 1) false h) [
  | inl same ↦ (let e : 0 ≡ given + 1 = (Decides-eqb 0 (given + 1)).0 same in omega arith)
  | inr more ↦ cc
]

module _ (names : Names) where
  further_passed : (arguments : Cores) → ArgumentsTyped names Nil true arguments
      → CoresTyped names arguments × ArePassed Nil true arguments
  further_passed NoCore h = (tt, tt)
  further_passed (MoreCores first rest) h =
      let more : CoresTyped names rest × ArePassed Nil true rest = further_passed rest h.2 in
      ((h.0, more.0), (h.1, more.1))

  all_passed : (types : CTypes) (variadic : Bool) (arguments : Cores)
      → is_enough variadic (count_of_types types) (count_of_cores arguments) ≡ true
      → ArgumentsTyped names types variadic arguments
      → CoresTyped names arguments × ArePassed types variadic arguments
  all_passed Nil variadic NoCore enough h = (tt, tt)
  all_passed Nil true (MoreCores first rest) enough h = further_passed (MoreCores first rest) h
  all_passed Nil false (MoreCores first rest) enough h = absurd (too_many (count_of_cores rest) enough)
  all_passed (Cons type types) variadic NoCore enough h = absurd (too_few variadic (count_of_types types) enough)
  all_passed (Cons type types) variadic (MoreCores first rest) enough h =
      let more : CoresTyped names rest × ArePassed types variadic rest =
      all_passed types variadic rest (fewer variadic (count_of_types types) (count_of_cores rest) enough) h.1 in
      ((h.0.core, more.0), (h.0.form, h.0.value, more.1))

module _ (names : Names) (structures : List Structure) (formed : StructuresFormed structures) where
  record CallTyped (function : CType) (given : Cores) : Type 0 where
    pub result : ResultTyped structures (gives_of (target_of function))
        (or_nothing (given_in (gives_of (target_of function)) structures))
    pub type : TypeFormed structures (gives_of (target_of function))
    pub arguments : CoresTyped names given
    pub called : IsCalled function (or_nothing (given_in (gives_of (target_of function)) structures)) given

  call_parts : (type : CType) (arguments : Cores) → (is_pointer type && is_function (target_of type)) ≡ true
      → TypeFormed structures type → is_some (given_in (gives_of (target_of type)) structures) ≡ true
      → ArgumentsTyped names (parameters_of (target_of type)) (variadic_of (target_of type)) arguments
      → is_enough (variadic_of (target_of type)) (count_of_types (parameters_of (target_of type)))
      (count_of_cores arguments) ≡ true
      → CallTyped type arguments
  call_parts (Plain (Pointer (Plain (Function gives parameters variadic) quals)) quals2) arguments may h there as_are
      enough =
      let all : CoresTyped names arguments × ArePassed parameters variadic arguments =
      all_passed names parameters variadic arguments enough as_are in
      let result : ResultTyped structures gives (or_nothing (given_in gives structures)) =
      result_typed structures formed gives h.0 there in
      record { result = result; type = h.0; arguments = all.0; called = (result.form, all.1) }
  call_parts (Plain (Pointer (Plain (BasicType basic) quals)) quals2) arguments may h there as_are enough = cc
  call_parts (Plain (Pointer (Plain (Pointer to) quals)) quals2) arguments may h there as_are enough = cc
  call_parts (Plain (Pointer (Plain (Compound number) quals)) quals2) arguments may h there as_are enough = cc
  call_parts (Plain (Pointer (Plain (Enumerated number) quals)) quals2) arguments may h there as_are enough = cc
  call_parts (Plain (Pointer (Array of len)) quals2) arguments may h there as_are enough = cc
  call_parts (Plain (BasicType basic) quals2) arguments may h there as_are enough = cc
  call_parts (Plain (Function gives parameters variadic) quals2) arguments may h there as_are enough = cc
  call_parts (Plain (Compound number) quals2) arguments may h there as_are enough = cc
  call_parts (Plain (Enumerated number) quals2) arguments may h there as_are enough = cc
  call_parts (Array of len) arguments may h there as_are enough = cc

  call_value : (at : Pos) (used : Bool) (function : Part) (arguments : Cores)
      → ValueTyped names structures function.core → is_pointer (type_of_part function) ≡ true
      → CallTyped (type_of_part function) arguments
      → ValueTyped names structures (call_part structures at used function arguments).core
  call_value at used function arguments f is_one made = record {
    core = (
      form_suits (result_in function) (given_form (or_nothing (given_in (result_in function) structures)))
          made.result.form,
      (
        pointer_left names structures function.core f is_one,
        f.core,
        made.arguments,
        made.called,
        made.result.size,
        may_be_used used (or_nothing (given_in (result_in function) structures)),
      ),
    );
    type = made.type;
    form = made.result.form;
    whole = made.result.whole at tree.Null;
  }

  pub call_typed : (at : Pos) (used : Bool) (function : Part) (arguments : Cores)
      → ValueTyped names structures function.core
      → ArgumentsTyped names (parameters_of (target_of (type_of_part function)))
      (variadic_of (target_of (type_of_part function))) arguments
      → GivesPart names structures (call_rule structures at used function arguments)
  call_typed at used function arguments f as_are =
      fits_if (PartTyped names structures) (call_demands structures function arguments)
      (call_part structures at used function arguments)
      (λ hold. let may : may_call function ≡ true = hold.1.0 in
      let both : (is_pointer (type_of_part function) ≡ true)
      × (is_function (target_of (type_of_part function)) ≡ true) = both_hold _ _ may in
      call_value at used function arguments f both.0
      (call_parts (type_of_part function) arguments may f.type (unless_not (may_call function) (is_some (given_in
      (result_in function) structures)) hold.0 may) as_are hold.1.1.0))

  pub pass_typed : (type : CType) (part : Part) → TypeFormed structures type → ValueTyped names structures part.core
      → GivesCore names structures type (pass_rule structures type part)
  pass_typed type part h v =
      fits_if (Leaves names type) (pass_demands type part) (passed structures type part)
      (λ hold. let made : AssignedTyped names structures type (assigned type part) =
      assigned_typed names structures type part h v hold.0 in
      argument_typed names structures formed (assigned type part) type made.is made.left
      (converted_value type part (form_of (assigned type part)) hold.0 made.left))

  further_value : (part : Part) → ValueTyped names structures part.core → is_void (type_of_part part) ≡ false
      → is_compound (type_of_part part) ≡ false
      → CoreTyped names (promoted_value part.core) × IsScalar (form_of (promoted_value part.core))
  further_value part v some plain = elim (either_way (is_integer (type_of_part part))) [
    | inl integer ↦ (let made : NumberTyped names structures (promoted (basic_in (type_of_part part)))
        (promoted_value part.core) = promoted_typed names structures part.core v integer in
        (made.is.core, (let P : Form → Type 0 = IsScalar in subst P (sym made.left) tt)))
    | inr other ↦ (let P : Core → Type 0 = λ core. CoreTyped names core × IsScalar (form_of core) in
        subst P (sym (stays names structures part.core other))
        (v.core, scalar_left (type_of_part part) (form_of part.core) v.form some plain))
  ]

  pub further_typed : (part : Part) → ValueTyped names structures part.core → is_void (type_of_part part) ≡ false
      → IfFits (further_rule part) (λ core. CoreTyped names core × IsScalar (form_of core))
  further_typed part v some =
      fits_if (λ core. CoreTyped names core × IsScalar (form_of core)) (further_demands part)
      (promoted_value part.core) (λ hold. further_value part v some (not_holds (is_compound
      (type_of_part part)) hold.0))
