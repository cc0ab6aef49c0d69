-- The conditional operator and the comma keep to types (6.5.15, 6.5.17).
use Rattle.std.proofs.Common.{◌≡◌, true, false, ◌||◌, List, Some, is_some, inl, inr}
use Rattle.std.proofs.Common.{refl}
use Rattle.std.proofs.Common.{sym, ◌∙◌, ap}
use Rattle.critical_table.specs.declared.pos.Pos.{Pos}
use Rattle.c_types.specs.declared.basic.Basic.{Basic}
use Rattle.c_types.specs.declared.basic.Basic.TheVariants as b
use Rattle.c_types.specs.CType.{CType, Plain, Array, BasicType, Pointer, Function, Compound, Enumerated}
use Rattle.c_types.specs.Qualified.{without_quals}
use Rattle.c_types.specs.Structures.{Structure}
use Rattle.c_core.specs.declared.form.Form.TheVariants as form
use Rattle.c_core.specs.Forms.{form_of}
use Rattle.c_core.specs.Named.{Names}
use Rattle.c_core.specs.Tree.{Core, At, Node}
use Rattle.c_core.specs.Tree as tree
use Rattle.c_core.specs.Typed.{CoreTyped}
use Rattle.c_core.specs.Types.{value_form, IsNumber}
use Rattle.c_conversions.specs.Converting.{is_null, assigned}
use Rattle.c_conversions.specs.Kinds.{basic_type, integer_basic, is_integer}
use Rattle.c_conversions.specs.Parts.{Part, value}
use Rattle.c_conversions.specs.Versions.{is_pointer, is_compound, is_void, are_versions, own_unqualified}
use Rattle.c_conversions.proofs.Agreeing.{compatible-own_unqualified}
use Rattle.c_expr_rules.specs.Targets.{type_of_part, target_of, basic_in, is_complete}
use Rattle.c_expr_rules.specs.Uses.{has_value}
use Rattle.c_operator_rules.specs.Binary.{are_integers, common_basic}
use Rattle.c_operator_rules.specs.Comparisons.{are_alike, are_pointer_and_null}
use Rattle.c_operator_rules.specs.Conditional.{are_same_compound, are_void, have_common_type, conditional_demands}
use Rattle.c_operator_rules.specs.Conditional.{common_base, common_quals, common_target, pointer_to_common}
use Rattle.c_operator_rules.specs.Conditional.{common_pointer, conditional_type, conditional_part, conditional_rule}
use Rattle.c_operator_rules.specs.Conditional.{comma_part}
use Rattle.c_typing_law.specs.Law.{GivesPart}
use Rattle.c_typing_law.specs.TypedParts.{ValueTyped, PartTyped}
use Rattle.c_typing_law.specs.WellFormed.{TypeFormed, StructuresFormed}
use Rattle.c_typing_law.proofs.Binaries.{AreIntegers, integers, ArePointers}
use Rattle.c_typing_law.proofs.Compared.{alike_pointers, IsNullFor, null_for}
use Rattle.c_typing_law.proofs.Composed.{composite_formed}
use Rattle.c_typing_law.proofs.Converted.{AssignedTyped, assigned_number, assigned_pointer_typed, compound_left}
use Rattle.c_typing_law.proofs.Converted.{compound_version, void_left, whole_complete, has_form}
use Rattle.c_typing_law.proofs.Facts.{fits_if, both_hold, either_holds, first_holds, if_either, IsReal}
use Rattle.c_typing_law.proofs.Facts.{common_real, compound_form, pointer_form, void_form, either_way, last_of_six}
use Rattle.c_typing_law.proofs.Facts.{second_or_third}
use Rattle.c_typing_law.proofs.Facts.{first_fails, first_of_three, neither_holds}
use Rattle.c_typing_law.proofs.Formed.{with_quals_formed, without_quals_formed, target_formed, form_suits}
use Rattle.c_typing_law.proofs.Formed.{unqualified_pointer}

real_some : (basic : Basic) → IsReal basic → is_some (integer_basic basic) ≡ true
real_some b.Void h = cc
real_some other h = refl

version_place : (type from : CType) → is_compound type ≡ true → are_versions type from ≡ true
    → value_form from ≡ Some form.Place
version_place (Plain (Compound number) quals) from h versions = compound_version number quals from versions
version_place (Plain (Pointer to) quals) from h versions = cc
version_place (Plain (BasicType basic) quals) from h versions = cc
version_place (Plain (Enumerated number) quals) from h versions = cc
version_place (Plain (Function gives parameters variadic) quals) from h versions = cc
version_place (Array of len) from h versions = cc

own_unqualified_formed : (structures : List Structure) (type : CType) → TypeFormed structures type
    → TypeFormed structures (own_unqualified type)
own_unqualified_formed structures (Plain bare quals) h = h
own_unqualified_formed structures (Array of len) h = h

common_target_formed : (structures : List Structure) (left right : CType) → TypeFormed structures left
    → TypeFormed structures right → TypeFormed structures (common_target left right)
common_target_formed structures left right l r =
    with_quals_formed structures (common_quals left right) (common_base left right)
    (if_either (TypeFormed structures) (are_versions left right) _ _
    (λ versions. composite_formed structures (own_unqualified left) (own_unqualified right) true
    (compatible-own_unqualified left right versions) (own_unqualified_formed structures left l)
    (own_unqualified_formed structures right r))
    (λ none. tt))

module _ (names : Names) (structures : List Structure) (formed : StructuresFormed structures) where
  abbrev Value : Core → Type 0
  Value core = ValueTyped names structures core

  -- both parts become values of a type
  record BothBecome (common : CType) (first second : Part) : Type 0 where
    pub type : TypeFormed structures common
    pub left : AssignedTyped names structures common (assigned common first)
    pub right : AssignedTyped names structures common (assigned common second)
    pub whole : (at : Pos) (node : Node) → has_value structures (value (At common at node)) ≡ true

  integers_become : (basic : Basic) (left right : Part) → IsReal basic → Value left.core → Value right.core
      → AreIntegers left right → BothBecome (basic_type basic) left right
  integers_become basic left right real l r h = record {
    type = tt;
    left =
        assigned_number names structures (basic_type basic) left.core (real_some basic real)
        (first_holds (is_integer (type_of_part left)) (is_pointer (type_of_part left)) h.left) l;
    right =
        assigned_number names structures (basic_type basic) right.core (real_some basic real)
        (first_holds (is_integer (type_of_part right)) (is_pointer (type_of_part right)) h.right) r;
    whole = λ at node. refl;
  }

  pointer_has_value : (type : CType) (at : Pos) (node : Node) → is_pointer type ≡ true
      → has_value structures (value (At type at node)) ≡ true
  pointer_has_value (Plain (Pointer to) quals) at node h = refl
  pointer_has_value (Plain (BasicType basic) quals) at node h = cc
  pointer_has_value (Plain (Enumerated number) quals) at node h = cc
  pointer_has_value (Plain (Function gives parameters variadic) quals) at node h = cc
  pointer_has_value (Plain (Compound number) quals) at node h = cc
  pointer_has_value (Array of len) at node h = cc

  pointers_become : (type : CType) (left right : Part) → is_pointer type ≡ true → TypeFormed structures type
      → Value left.core → Value right.core → (is_null left ≡ false → is_pointer (type_of_part left) ≡ true)
      → (is_null right ≡ false → is_pointer (type_of_part right) ≡ true) → BothBecome type left right
  pointers_become type left right is_one h l r first second = record {
    type = h;
    left = assigned_pointer_typed names structures type left is_one h l first;
    right = assigned_pointer_typed names structures type right is_one h r second;
    whole = λ at node. pointer_has_value type at node is_one;
  }

  -- one part is a pointer
  common_pointer_becomes : (left right : Part) → Value left.core → Value right.core
      → (are_pointer_and_null left right ≡ false → are_pointer_and_null right left ≡ false
      → are_alike left right ≡ true)
      → BothBecome (common_pointer left right) left right
  common_pointer_becomes left right l r alike =
      if_either (λ (type : CType). BothBecome type left right) (are_pointer_and_null left right) _ _
      (λ first. let h : IsNullFor left right = null_for left right first in
      pointers_become (without_quals (type_of_part left)) left right
      (unqualified_pointer (type_of_part left) h.pointer)
      (without_quals_formed structures (type_of_part left) l.type) l r (λ other. h.pointer)
      (λ other. let is_one : is_null right ≡ true = h.null in cc))
      (λ first. if_either (λ (type : CType). BothBecome type left right) (are_pointer_and_null right left) _ _
      (λ second. let h : IsNullFor right left = null_for right left second in
      pointers_become (without_quals (type_of_part right)) left right
      (unqualified_pointer (type_of_part right) h.pointer)
      (without_quals_formed structures (type_of_part right) r.type) l r
      (λ other. let is_one : is_null left ≡ true = h.null in cc) (λ other. h.pointer))
      (λ second. let h : ArePointers names structures formed left right =
      alike_pointers names structures formed left right (alike first second) in
      pointers_become (pointer_to_common (target_of (type_of_part left)) (target_of (type_of_part right))) left right
      refl
      (common_target_formed structures (target_of (type_of_part left)) (target_of (type_of_part right))
      (target_formed structures (type_of_part left) l.type) (target_formed structures (type_of_part right) r.type)) l r
      (λ other. h.left) (λ other. h.right)))

  compound_becomes : (type : CType) (left right : Part) → is_compound type ≡ true → is_complete type structures ≡ true
      → Value left.core → Value right.core → form_of left.core ≡ form.Place → form_of right.core ≡ form.Place
      → BothBecome (without_quals type) left right
  compound_becomes (Plain (Compound number) quals) left right h complete l r first second = record {
    type = tt;
    left = record { is = l; left = ap Some (sym first) };
    right = record { is = r; left = ap Some (sym second) };
    whole = λ at node. complete;
  }
  compound_becomes (Plain (Pointer to) quals) left right h complete l r first second = cc
  compound_becomes (Plain (BasicType basic) quals) left right h complete l r first second = cc
  compound_becomes (Plain (Enumerated number) quals) left right h complete l r first second = cc
  compound_becomes (Plain (Function gives parameters variadic) quals) left right h complete l r first second = cc
  compound_becomes (Array of len) left right h complete l r first second = cc

  void_becomes : (type : CType) (left right : Part) → is_void type ≡ true → Value left.core → Value right.core
      → form_of left.core ≡ form.Nothing → form_of right.core ≡ form.Nothing
      → BothBecome (without_quals type) left right
  void_becomes (Plain (BasicType b.Void) quals) left right h l r first second = record {
    type = tt;
    left = record { is = l; left = ap Some (sym first) };
    right = record { is = r; left = ap Some (sym second) };
    whole = λ at node. refl;
  }
  void_becomes (Plain (BasicType basic) quals) left right h l r first second = cc
  void_becomes (Plain (Compound number) quals) left right h l r first second = cc
  void_becomes (Plain (Pointer to) quals) left right h l r first second = cc
  void_becomes (Plain (Enumerated number) quals) left right h l r first second = cc
  void_becomes (Plain (Function gives parameters variadic) quals) left right h l r first second = cc
  void_becomes (Array of len) left right h l r first second = cc

  -- both are versions of one structure or union
  same_becomes : (left right : Part) → Value left.core → Value right.core → are_same_compound left right ≡ true
      → BothBecome (without_quals (type_of_part left)) left right
  same_becomes left right l r h =
      let both : (is_compound (type_of_part left) ≡ true)
      × (are_versions (type_of_part left) (type_of_part right) ≡ true) = both_hold _ _ h in
      compound_becomes (type_of_part left) left right both.0
      (whole_complete names structures left.core l both.0) l r
      (compound_left names structures left.core l both.0)
      (let e : Some form.Place ≡ Some (form_of right.core) =
      sym (version_place (type_of_part left) (type_of_part right) both.0 both.1) ∙ r.form in cc)

  voids_become : (left right : Part) → Value left.core → Value right.core → are_void left right ≡ true
      → BothBecome (without_quals (type_of_part left)) left right
  voids_become left right l r h =
      let both : (is_void (type_of_part left) ≡ true) × (is_void (type_of_part right) ≡ true) = both_hold _ _ h in
      void_becomes (type_of_part left) left right both.0 l r (void_left names structures left.core l both.0)
      (void_left names structures right.core r both.1)

  no_compound : (left right : Part) → (is_pointer (type_of_part left) || is_pointer (type_of_part right)) ≡ true
      → are_same_compound left right ≡ false
  no_compound left right one = elim (either_way (are_same_compound left right)) [
    | inl same ↦ (let both : (is_compound (type_of_part left) ≡ true)
        × (are_versions (type_of_part left) (type_of_part right) ≡ true) = both_hold _ _ same in
        elim (either_holds (is_pointer (type_of_part left)) (is_pointer (type_of_part right)) one) [
          | inl first ↦ (let e = pointer_form (type_of_part left) first in
              let e2 = compound_form (type_of_part left) both.0 in cc)
          | inr second ↦ (let e = pointer_form (type_of_part right) second in
              let e2 = version_place (type_of_part left) (type_of_part right) both.0 both.1 in cc)
        ])
    | inr other ↦ other
  ]

  no_void : (left right : Part) → (is_pointer (type_of_part left) || is_pointer (type_of_part right)) ≡ true
      → are_void left right ≡ false
  no_void left right one = elim (either_way (are_void left right)) [
    | inl voids ↦ (let both : (is_void (type_of_part left) ≡ true) × (is_void (type_of_part right) ≡ true) =
        both_hold _ _ voids in
        elim (either_holds (is_pointer (type_of_part left)) (is_pointer (type_of_part right)) one) [
          | inl first ↦ (let e = pointer_form (type_of_part left) first in
              let e2 = void_form (type_of_part left) both.0 in cc)
          | inr second ↦ (let e = pointer_form (type_of_part right) second in
              let e2 = void_form (type_of_part right) both.1 in cc)
        ])
    | inr other ↦ other
  ]

  becomes : (left right : Part) → Value left.core → Value right.core → have_common_type left right ≡ true
      → BothBecome (conditional_type left right) left right
  becomes left right l r have =
      if_either (λ (type : CType). BothBecome type left right) (are_integers left right) _ _
      (λ both. integers_become (common_basic left right) left right (common_real (basic_in (type_of_part left))
      (basic_in (type_of_part right))) l r (integers left right both))
      (λ none. if_either (λ (type : CType). BothBecome type left right)
      (is_pointer (type_of_part left) || is_pointer (type_of_part right)) _ _
      (λ one. common_pointer_becomes left right l r
      (λ first second. last_of_six (are_integers left right) (are_same_compound left right)
      (are_void left right) (are_pointer_and_null left right) (are_pointer_and_null right left)
      (are_alike left right) have none (no_compound left right one) (no_void left right one) first
      second))
      (λ neither. let both : (is_pointer (type_of_part left) ≡ false) × (is_pointer (type_of_part right) ≡ false) =
      neither_holds (is_pointer (type_of_part left)) (is_pointer (type_of_part right)) neither in
      elim
      (second_or_third (are_integers left right) (are_same_compound left right) (are_void left right)
      (are_pointer_and_null left right) (are_pointer_and_null right left) (are_alike left right) have none
      (first_fails (is_pointer (type_of_part left)) (is_null right) both.0)
      (first_fails (is_pointer (type_of_part right)) (is_null left) both.1)
      (first_of_three (is_pointer (type_of_part left)) (is_pointer (type_of_part right)) _ both.0)) [
        | inl same ↦ same_becomes left right l r same
        | inr voids ↦ voids_become left right l r voids
      ]))

  chosen_typed : (at : Pos) (type : CType) (test : Core) (left right : Part) → CoreTyped names test
      → IsNumber (form_of test) → BothBecome type left right
      → Value (At type at (tree.Cond test (assigned type left) (assigned type right)))
  chosen_typed at type test left right t number both = record {
    core = (
      form_suits type (form_of (assigned type left)) both.left.left,
      (
        number,
        t,
        both.left.is.core,
        (let e : Some (form_of (assigned type right)) ≡ Some (form_of (assigned type left)) =
            sym both.right.left ∙ both.left.left in cc),
        both.right.is.core,
      ),
    );
    type = both.type;
    form = both.left.left;
    whole = both.whole at tree.Null;
  }

  pub conditional_typed : (at : Pos) (test : Core) (left right : Part) → CoreTyped names test
      → IsNumber (form_of test) → Value left.core → Value right.core
      → GivesPart names structures (conditional_rule at test left right)
  conditional_typed at test left right t number l r =
      fits_if (PartTyped names structures) (conditional_demands left right) (conditional_part at test left right)
      (λ hold. chosen_typed at (conditional_type left right) test left right t number
      (becomes left right l r hold.0))

  pub comma_typed : (at : Pos) (left : Core) (right : Part) → CoreTyped names left → form_of left ≡ form.Nothing
      → Value right.core → PartTyped names structures (comma_part at left right)
  comma_typed at left right l nothing r =
      record {
        core = (
          has_form names right.core r.core,
          (nothing, l, r.core),
        );
        type = r.type;
        form = r.form;
        whole = r.whole;
      }
