-- Assignments and steps keep to types (6.5.2.4, 6.5.3.1, 6.5.16).
use Rattle.std.proofs.Common.{◌≡◌, pos, Bool, true, false, not, ◌&&◌, ◌||◌, cond, List, inl, inr}
use Rattle.std.proofs.Common.{refl}
use Rattle.std.proofs.Common.{sym, ap, arith}
use Rattle.std.proofs.lemmas.Int.{ints}
use Rattle.acc_num.specs.Numbers.{InRange}
use Rattle.acc_num.specs.declared.kind.IntKind.{IntKind}
use Rattle.acc_num.specs.declared.kind.IntKind.TheVariants as k
use Rattle.critical_table.specs.declared.pos.Pos.{Pos}
use Rattle.c_types.specs.declared.basic.Basic.{Basic}
use Rattle.c_types.specs.declared.basic.Basic.TheVariants as b
use Rattle.c_types.specs.CType.{CType, Plain, Array, BasicType, Pointer, Function, Compound, Enumerated, no_quals}
use Rattle.c_types.specs.Layouts.{layout_of}
use Rattle.c_types.specs.Qualified.{without_quals}
use Rattle.c_types.specs.Structures.{Structure, has_const}
use Rattle.c_core.specs.declared.form.Form.TheVariants as form
use Rattle.c_core.specs.declared.form.Scalar.TheVariants as scalar
use Rattle.c_core.specs.declared.operator.Change.{Change}
use Rattle.c_core.specs.declared.operator.Change.TheVariants as change
use Rattle.c_core.specs.declared.operator.Operator.{Operator}
use Rattle.c_core.specs.Forms.{form_of}
use Rattle.c_core.specs.Named.{Names}
use Rattle.c_core.specs.Operations.{is_shift}
use Rattle.c_core.specs.Tree.{Core, At, type_in}
use Rattle.c_core.specs.Tree as tree
use Rattle.c_core.specs.Typed.{CoreTyped, FitsRight, IsCount}
use Rattle.c_core.specs.Types.{IsNumber}
use Rattle.c_conversions.specs.declared.operand.Category.{Category}
use Rattle.c_conversions.specs.declared.operand.Category.TheVariants as c
use Rattle.c_conversions.specs.Converting.{number_as, promoted_value, converts, assigned}
use Rattle.c_conversions.specs.Kinds.{is_integer, int_kind, promoted, common}
use Rattle.c_conversions.specs.Parts.{Part}
use Rattle.c_conversions.specs.Versions.{is_pointer, is_array, is_compound, is_scalar}
use Rattle.c_expr_rules.specs.Targets.{type_of_part, target_of, basic_in, is_complete, stride}
use Rattle.c_expr_rules.specs.Unary.{is_designator}
use Rattle.c_operator_rules.specs.Assignment.{is_lvalue, is_modifiable, convert_demands, may_hold, assigned_demands}
use Rattle.c_operator_rules.specs.Assignment.{assign_demands, assignment, assign_rule, moves_pointer, takes_off}
use Rattle.c_operator_rules.specs.Assignment.{may_change}
use Rattle.c_operator_rules.specs.Assignment.{compound_demands, compound_part, working_type, operand_in, update}
use Rattle.c_operator_rules.specs.Assignment.{compound_rule, step_demands, step_operator, number_step, step_change, one}
use Rattle.c_operator_rules.specs.Assignment.{prefix_rule, step, postfix_rule}
use Rattle.c_operator_rules.specs.Binary.{are_integers, are_pointer_and_integer}
use Rattle.c_typing_law.specs.Law.{GivesPart, AssignmentTyped}
use Rattle.c_typing_law.specs.TypedParts.{ValueTyped, PlaceTyped, CategoryTyped, PartTyped, Leaves}
use Rattle.c_typing_law.specs.WellFormed.{StructuresFormed}
use Rattle.c_typing_law.proofs.Binaries.{integers}
use Rattle.c_typing_law.proofs.Converted.{number_node, pointer_value, integer_number, is_number, assigned_typed}
use Rattle.c_typing_law.proofs.Converted.{promoted_typed, number_as_typed, NumberTyped, some_same, converted_value}
use Rattle.c_typing_law.proofs.Facts.{fits_if, both_hold, either_holds, not_holds, not_second, unless_not, if_either}
use Rattle.c_typing_law.proofs.Facts.{four_hold, both_true, common_real}
use Rattle.c_typing_law.proofs.Formed.{without_quals_formed, target_formed, unqualified_pointer}
use Rattle.c_typing_law.proofs.Integers.{integer_node, unqualified_integer, unqualified_basic, natural_in_range}
use Rattle.c_typing_law.proofs.Laid.{measured, Measured}
use Rattle.c_typing_law.proofs.Unaries.{part_formed}

no_designator : (category : Category) → is_lvalue category ≡ true → not (is_designator category) ≡ true
no_designator (c.Lvalue register) h = refl
no_designator c.Temporary h = refl
no_designator c.Value h = refl
no_designator c.Designator h = cc

-- a complete type that is no array is that of a scalar, or of a structure or union
holder : (structures : List Structure) (type : CType) → is_array type ≡ false → is_complete type structures ≡ true
    → (is_scalar type || (is_compound type && is_complete type structures)) ≡ true
holder structures (Plain (BasicType b.Void) quals) plain complete = cc
holder structures (Plain (BasicType basic) quals) plain complete = refl
holder structures (Plain (Pointer to) quals) plain complete = refl
holder structures (Plain (Enumerated number) quals) plain complete = refl
holder structures (Plain (Function gives parameters variadic) quals) plain complete = cc
holder structures (Plain (Compound number) quals) plain complete = complete
holder structures (Array of len) plain complete = cc

one_in_kind : (kind : IntKind) → InRange kind (pos 1)
one_in_kind k.Bool = natural_in_range k.Bool 1 (omega (arith, ints))
one_in_kind k.I8 = natural_in_range k.I8 1 (omega (arith, ints))
one_in_kind k.U8 = natural_in_range k.U8 1 (omega (arith, ints))
one_in_kind k.I16 = natural_in_range k.I16 1 (omega (arith, ints))
one_in_kind k.U16 = natural_in_range k.U16 1 (omega (arith, ints))
one_in_kind k.I32 = natural_in_range k.I32 1 (omega (arith, ints))
one_in_kind k.U32 = natural_in_range k.U32 1 (omega (arith, ints))
one_in_kind k.I64 = natural_in_range k.I64 1 (omega (arith, ints))
one_in_kind k.U64 = natural_in_range k.U64 1 (omega (arith, ints))

step_fits : (back : Bool) (kind : IntKind) → FitsRight (step_operator back) kind (form.Number kind)
step_fits true kind = refl
step_fits false kind = refl

module _ (names : Names) (structures : List Structure) (formed : StructuresFormed structures) where
  abbrev Value : Core → Type 0
  Value core = ValueTyped names structures core

  abbrev Typed : Part → Type 0
  Typed part = PartTyped names structures part

  abbrev Place : Core → Type 0
  Place core = PlaceTyped names structures core

  -- ---- modifiable lvalues

  record Modifiable (target : Part) : Type 0 where
    pub place : PlaceTyped names structures target.core
    pub plain : is_array (type_of_part target) ≡ false
    pub complete : is_complete (type_of_part target) structures ≡ true
    pub holds : may_hold structures target ≡ true

  lvalue_place : (category : Category) (core : Core) → CategoryTyped names structures category core
      → is_lvalue category ≡ true → PlaceTyped names structures core
  lvalue_place (c.Lvalue register) core p h = p
  lvalue_place c.Temporary core p h = cc
  lvalue_place c.Value core p h = cc
  lvalue_place c.Designator core p h = cc

  modifiable : (target : Part) → Typed target → is_modifiable structures target ≡ true → Modifiable target
  modifiable target p h =
      let all : (is_lvalue target.category ≡ true) × (not (is_array (type_of_part target)) ≡ true)
      × (is_complete (type_of_part target) structures ≡ true)
      × (not (has_const (type_of_part target) structures) ≡ true) = four_hold _ _ _ _ h in
      record {
        place = lvalue_place target.category target.core p all.0;
        plain = not_holds (is_array (type_of_part target)) all.1;
        complete = all.2;
        holds =
            both_true (not (is_designator target.category))
            (is_scalar (type_of_part target)
            || (is_compound (type_of_part target) && is_complete (type_of_part target) structures))
            (no_designator target.category all.0)
            (holder structures (type_of_part target) (not_holds (is_array (type_of_part target)) all.1) all.2);
      }

  -- ---- `=`

  assignment_typed : (at : Pos) (place core : Core) → Place place → is_array (type_in place) ≡ false
      → is_complete (type_in place) structures ≡ true → Leaves names (type_in place) core
      → Typed (assignment structures at place core)
  assignment_typed at (At (Plain (BasicType b.Void) quals) place_at node) core p plain complete v = cc
  assignment_typed at (At (Plain (BasicType basic) quals) place_at node) core p plain complete v =
      number_node names structures basic at
      (tree.Assign (scalar.Number (int_kind basic)) (At (Plain (BasicType basic) quals) place_at node) core) refl refl
      (p.form, p.core, sym (some_same _ _ v.form), v.core)
  assignment_typed at (At (Plain (Pointer to) quals) place_at node) core p plain complete v =
      pointer_value names structures (Plain (Pointer to) no_quals) at
      (tree.Assign scalar.Pointer (At (Plain (Pointer to) quals) place_at node) core) refl p.type refl
      (p.form, p.core, sym (some_same _ _ v.form), v.core)
  assignment_typed at (At (Plain (Enumerated number) quals) place_at node) core p plain complete v = record {
    core = (refl, (p.form, p.core, sym (some_same _ _ v.form), v.core));
    type = tt;
    form = refl;
    whole = refl;
  }
  assignment_typed at (At (Plain (Function gives parameters variadic) quals) place_at node) core p plain complete v =
      cc
  assignment_typed at (At (Plain (Compound number) quals) place_at node) core p plain complete v =
      let m : Measured (layout_of (Plain (Compound number) quals) structures) =
      measured structures formed (Plain (Compound number) quals) tt complete in
      record {
        core = (tt, (m.size, p.form, p.core, sym (some_same _ _ v.form), v.core));
        type = tt;
        form = refl;
        whole = complete;
      }
  assignment_typed at (At (Array of len) place_at node) core p plain complete v = cc

  assign_typed : (at : Pos) (target : Part) (core : Core) → Typed target
      → (may_hold structures target ≡ true → Leaves names (type_of_part target) core)
      → GivesPart names structures (assign_rule structures at target core)
  assign_typed at target core p left =
      fits_if Typed (assign_demands structures target) (assignment structures at target.core core)
      (λ hold. let m : Modifiable target = modifiable target p hold.0 in
      assignment_typed at target.core core m.place m.plain m.complete (left m.holds))

  -- ---- an object that is changed

  stride_size : (place : Core) → Place place → is_complete (target_of (type_in place)) structures ≡ true
      → Measured (layout_of (target_of (type_in place)) structures)
  stride_size place p complete =
      measured structures formed (target_of (type_in place)) (target_formed structures (type_in place) p.type) complete

  pointer_updated : (at : Pos) (back : Bool) (place number : Core) → Place place
      → is_pointer (type_in place) ≡ true → is_complete (target_of (type_in place)) structures ≡ true
      → CoreTyped names number → IsNumber (form_of number)
      → Typed (update at (change.Pointer (stride structures (type_in place) back)) place number)
  pointer_updated at back place number p is_one complete typed is =
      pointer_value names structures (without_quals (type_in place)) at
      (tree.Update (change.Pointer (stride structures (type_in place) back)) place number)
      (unqualified_pointer (type_in place) is_one) (without_quals_formed structures (type_in place) p.type) refl
      (p.form, p.core, ((stride_size place p complete).size, is), typed)

  number_updated : (at : Pos) (operator : Operator) (working : Basic) (place number : Core) → Place place
      → is_integer (type_in place) ≡ true → CoreTyped names number
      → FitsRight operator (int_kind working) (form_of number)
      → Typed (update at
      (change.Number operator (int_kind (basic_in (type_in place))) (int_kind working)) place number)
  number_updated at operator working place number p integer typed fits =
      integer_node names structures (without_quals (type_in place)) at
      (tree.Update (change.Number operator (int_kind (basic_in (type_in place))) (int_kind working)) place number)
      (unqualified_integer (type_in place) integer)
      (ap (λ basic. form.Number (int_kind basic)) (sym (unqualified_basic (type_in place))))
      (p.form, p.core, fits, typed)

  record FitsOperand (shifts : Bool) (left : Basic) (core : Core) : Type 0 where
    pub typed : CoreTyped names
        (cond shifts (promoted_value core)
        (number_as (cond shifts (promoted left) (common left (basic_in (type_in core)))) core))
    pub fits : IsCount shifts (int_kind (cond shifts (promoted left) (common left (basic_in (type_in core)))))
        (form_of (cond shifts (promoted_value core)
        (number_as (cond shifts (promoted left) (common left (basic_in (type_in core)))) core)))

  operand_fits : (shifts : Bool) (left : Basic) (core : Core) → Value core → is_integer (type_in core) ≡ true
      → FitsOperand shifts left core
  operand_fits true left core v h =
      let made : NumberTyped names structures (promoted (basic_in (type_in core))) (promoted_value core) =
      promoted_typed names structures core v h in
      record { typed = made.is.core; fits = is_number _ _ made.left }
  operand_fits false left core v h =
      let made : NumberTyped names structures (common left (basic_in (type_in core)))
      (number_as (common left (basic_in (type_in core))) core) =
      number_as_typed names structures (common left (basic_in (type_in core))) core (common_real left (basic_in
      (type_in core))) v
      (integer_number names structures core v h) in
      record { typed = made.is.core; fits = made.left }

  compound_by : (at : Pos) (operator : Operator) (place right : Core) (is_one : Bool) → Place place → Value right
      → is_integer (type_in right) ≡ true
      → (is_one ≡ true → (is_pointer (type_in place) ≡ true)
      × (is_complete (target_of (type_in place)) structures ≡ true))
      → (is_one ≡ false → is_integer (type_in place) ≡ true)
      → Typed (update at
      (cond is_one (change.Pointer (stride structures (type_in place) (takes_off operator)))
      (change.Number operator (int_kind (basic_in (type_in place)))
      (int_kind (working_type operator (basic_in (type_in place)) (basic_in (type_in right)))))) place
      (cond is_one right
      (operand_in operator (working_type operator (basic_in (type_in place)) (basic_in (type_in right))) right)))
  compound_by at operator place right true p r h pointer number =
      pointer_updated at (takes_off operator) place right p (pointer refl).0 (pointer refl).1 r.core
      (integer_number names structures right r h)
  compound_by at operator place right false p r h pointer number =
      let made : FitsOperand (is_shift operator) (basic_in (type_in place)) right =
      operand_fits (is_shift operator) (basic_in (type_in place)) right r h in
      number_updated at operator (working_type operator (basic_in (type_in place)) (basic_in (type_in right))) place
      (operand_in operator (working_type operator (basic_in (type_in place)) (basic_in (type_in right))) right) p
      (number refl) made.typed made.fits

  changed_by_integer : (operator : Operator) (target right : Part) → may_change operator target right ≡ true
      → is_integer (type_of_part right) ≡ true
  changed_by_integer operator target right may = elim (either_holds (are_integers target right)
      (moves_pointer operator && are_pointer_and_integer target right) may) [
        | inl both ↦ (integers target right both).right
        | inr moves ↦ (let both : (moves_pointer operator ≡ true)
            × (are_pointer_and_integer target right ≡ true) = both_hold _ _ moves in
            let all : (is_pointer (type_of_part target) ≡ true) × (is_integer (type_of_part right) ≡ true) =
            both_hold _ _ both.1 in all.1)
      ]

  integer_changed : (operator : Operator) (target right : Part) → may_change operator target right ≡ true
      → is_pointer (type_of_part target) ≡ false → is_integer (type_of_part target) ≡ true
  integer_changed operator target right may none = elim (either_holds (are_integers target right)
      (moves_pointer operator && are_pointer_and_integer target right) may) [
        | inl both ↦ (integers target right both).left
        | inr moves ↦ (let both : (moves_pointer operator ≡ true)
            × (are_pointer_and_integer target right ≡ true) = both_hold _ _ moves in
            let all : (is_pointer (type_of_part target) ≡ true) × (is_integer (type_of_part right) ≡ true) =
            both_hold _ _ both.1 in
            let is_one : is_pointer (type_of_part target) ≡ true = all.0 in cc)
      ]

  compound_typed : (at : Pos) (operator : Operator) (target right : Part) → Typed target → Value right.core
      → GivesPart names structures (compound_rule structures at operator target right)
  compound_typed at operator target right p r =
      fits_if Typed (compound_demands structures operator target right)
      (compound_part structures at operator target right)
      (λ hold. let m : Modifiable target = modifiable target p hold.0 in
      compound_by at operator target.core right.core (is_pointer (type_of_part target)) m.place r
      (changed_by_integer operator target right hold.1.0)
      (λ pointer. (
        pointer,
        unless_not (is_pointer (type_of_part target))
            (is_complete (target_of (type_of_part target)) structures) hold.1.1.0 pointer,
      ))
      (λ none. integer_changed operator target right hold.1.0 none))

  -- ---- `++` and `--`

  one_typed : (at : Pos) (type : CType) → NumberTyped names structures (common (basic_in type) b.Int) (one at type)
  one_typed at type = record {
    is =
        number_node names structures (common (basic_in type) b.Int) at
        (tree.Number (int_kind (common (basic_in type) b.Int)) (pos 1)) (common_real (basic_in type) b.Int) refl
        (one_in_kind (int_kind (common (basic_in type) b.Int)));
    left = refl;
  }

  prefix_typed : (at : Pos) (back : Bool) (target : Part) → Typed target
      → GivesPart names structures (prefix_rule structures at back target)
  prefix_typed at back target p =
      fits_if Typed (step_demands structures target)
      (update at (step_change structures back (type_of_part target)) target.core (one at (type_of_part target)))
      (λ hold. let m : Modifiable target = modifiable target p hold.0 in
      let by : NumberTyped names structures (common (basic_in (type_of_part target)) b.Int)
      (one at (type_of_part target)) = one_typed at (type_of_part target) in
      if_either (λ (how : Change). Typed (update at how target.core (one at (type_of_part target))))
      (is_pointer (type_of_part target)) _ _
      (λ pointer. pointer_updated at back target.core (one at (type_of_part target)) m.place pointer
      (unless_not (is_pointer (type_of_part target)) (is_complete (target_of (type_of_part target)) structures)
      hold.1.1.0 pointer) by.is.core tt)
      (λ none. number_updated at (step_operator back) (common (basic_in (type_of_part target)) b.Int) target.core
      (one at (type_of_part target)) m.place (not_second (is_integer (type_of_part target)) (is_pointer
      (type_of_part target)) hold.1.0 none) by.is.core
      (step_fits back (int_kind (common (basic_in (type_of_part target)) b.Int)))))

  pointer_stepped : (at : Pos) (back : Bool) (place : Core) → Place place → is_pointer (type_in place) ≡ true
      → is_complete (target_of (type_in place)) structures ≡ true
      → Typed (step at (change.Pointer (stride structures (type_in place) back)) place)
  pointer_stepped at back place p is_one complete =
      pointer_value names structures (without_quals (type_in place)) at
      (tree.Postfix (change.Pointer (stride structures (type_in place) back)) place)
      (unqualified_pointer (type_in place) is_one) (without_quals_formed structures (type_in place) p.type) refl
      ((stride_size place p complete).size, p.form, p.core)

  number_stepped : (at : Pos) (back : Bool) (place : Core) → Place place → is_integer (type_in place) ≡ true
      → Typed (step at (number_step back (basic_in (type_in place))) place)
  number_stepped at back place p integer =
      integer_node names structures (without_quals (type_in place)) at
      (tree.Postfix (number_step back (basic_in (type_in place))) place)
      (unqualified_integer (type_in place) integer)
      (ap (λ basic. form.Number (int_kind basic)) (sym (unqualified_basic (type_in place)))) (tt, p.form, p.core)

  postfix_typed : (at : Pos) (back : Bool) (target : Part) → Typed target
      → GivesPart names structures (postfix_rule structures at back target)
  postfix_typed at back target p =
      fits_if Typed (step_demands structures target)
      (step at (step_change structures back (type_of_part target)) target.core)
      (λ hold. let m : Modifiable target = modifiable target p hold.0 in
      if_either (λ (how : Change). Typed (step at how target.core)) (is_pointer (type_of_part target)) _ _
      (λ pointer. pointer_stepped at back target.core m.place pointer (unless_not (is_pointer (type_of_part target))
      (is_complete (target_of (type_of_part target)) structures)
      hold.1.1.0 pointer))
      (λ none. number_stepped at back target.core m.place (not_second (is_integer (type_of_part target)) (is_pointer
      (type_of_part target)) hold.1.0 none)))

  pub assignment_rules_typed : AssignmentTyped names structures
  assignment_rules_typed = record {
    convert = λ type part h v.
        fits_if (Leaves names type) (convert_demands type part) (assigned type part)
        (λ hold. let made = assigned_typed names structures type part h v hold.0 in
        record {
          core = made.is.core;
          form = made.left;
          value = converted_value type part (form_of (assigned type part)) hold.0 made.left;
        });
    assigned = λ target part p v may.
        fits_if (Leaves names (type_of_part target)) (assigned_demands structures target part)
        (assigned (type_of_part target) part)
        (λ hold. let may_be : converts (type_of_part target) part ≡ true =
        unless_not (may_hold structures target) (converts (type_of_part target) part) hold.0 may in
        let made = assigned_typed names structures (type_of_part target) part
        (part_formed names structures formed target.category target.core p) v may_be in
        record {
          core = made.is.core;
          form = made.left;
          value =
              converted_value (type_of_part target) part (form_of (assigned (type_of_part target) part)) may_be
              made.left;
        });
    assign = assign_typed;
    compound = compound_typed;
    prefix = prefix_typed;
    postfix = postfix_typed;
  }
