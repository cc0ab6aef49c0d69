-- Comparisons keep to types (6.5.8, 6.5.9).
use Rattle.std.proofs.Common.{◌≡◌, Bool, true, false, not, ◌&&◌, ◌||◌, List, inl, inr, refl, sym, ◌∙◌}
use Rattle.critical_table.specs.declared.pos.Pos.{Pos}
use Rattle.c_types.specs.declared.basic.Basic.TheVariants as b
use Rattle.c_types.specs.Structures.{Structure}
use Rattle.c_core.specs.declared.operator.Comparison.{Comparison}
use Rattle.c_core.specs.declared.operator.Comparison.TheVariants as c
use Rattle.c_core.specs.declared.operator.Relation.{Relation}
use Rattle.c_core.specs.declared.operator.Relation.TheVariants as order
use Rattle.c_core.specs.Named.{Names}
use Rattle.c_core.specs.Tree.{Core}
use Rattle.c_core.specs.Tree as tree
use Rattle.c_conversions.specs.Converting.{number_as, is_null, pointer_as}
use Rattle.c_conversions.specs.Parts.{Part}
use Rattle.c_conversions.specs.Versions.{is_pointer, is_void, is_function, are_versions}
use Rattle.c_expr_rules.specs.Targets.{type_of_part, target_of}
use Rattle.c_operator_rules.specs.Binary.{are_integers, point_to_versions, common_basic}
use Rattle.c_operator_rules.specs.Comparisons.{compared, may_relate, relational_demands, comparison_of, ordered}
use Rattle.c_operator_rules.specs.Comparisons.{relational_part, relational_rule, are_alike, are_pointer_and_null}
use Rattle.c_operator_rules.specs.Comparisons.{may_equal, equality_demands, equality_comparison, same, same_part}
use Rattle.c_operator_rules.specs.Comparisons.{equality_part, equality_rule, comparison_rule, is_void_and_object}
use Rattle.c_typing_law.specs.Law.{GivesPart}
use Rattle.c_typing_law.specs.TypedParts.{ValueTyped, PartTyped}
use Rattle.c_typing_law.specs.WellFormed.{StructuresFormed}
use Rattle.c_typing_law.proofs.Binaries.{AreIntegers, integers, not_both, InCommon, in_common, ArePointers}
use Rattle.c_typing_law.proofs.Binaries.{versions_pointers}
use Rattle.c_typing_law.proofs.Converted.{number_node, pointer_left, is_number, pointer_as_typed, PointerTyped}
use Rattle.c_typing_law.proofs.Facts.{fits_if, both_hold, three_hold, either_holds, if_either, last_two}

pub alike_pointers : (names : Names) (structures : List Structure) (formed : StructuresFormed structures)
    (left right : Part)
    → are_alike left right ≡ true → ArePointers names structures formed left right
alike_pointers names structures formed left right h =
    let all : (is_pointer (type_of_part left) ≡ true) × (is_pointer (type_of_part right) ≡ true)
    × ((are_versions (target_of (type_of_part left)) (target_of (type_of_part right))
    || is_void_and_object (target_of (type_of_part left)) (target_of (type_of_part right))
    || is_void_and_object (target_of (type_of_part right)) (target_of (type_of_part left))) ≡ true) =
    three_hold _ _ _ h in
    record { left = all.0; right = all.1 }

pub record IsNullFor (first second : Part) : Type 0 where
  pub pointer : is_pointer (type_of_part first) ≡ true
  pub null : is_null second ≡ true

pub null_for : (pointer null : Part) → are_pointer_and_null pointer null ≡ true → IsNullFor pointer null
null_for pointer null h =
    let both : (is_pointer (type_of_part pointer) ≡ true) × (is_null null ≡ true) = both_hold _ _ h in
    record { pointer = both.0; null = both.1 }

module _ (names : Names) (structures : List Structure) (formed : StructuresFormed structures) where
  abbrev Value : Core → Type 0
  Value core = ValueTyped names structures core

  abbrev Typed : Part → Type 0
  Typed part = PartTyped names structures part

  abbrev Pointers : Part → Part → Type 0
  Pointers left right = ArePointers names structures formed left right

  compared_typed : (at : Pos) (comparison : Comparison) (left right : Part) → Value left.core → Value right.core
      → AreIntegers left right → Typed (compared at comparison left right)
  compared_typed at comparison left right l r h =
      let both : InCommon names structures formed left right = in_common names structures formed left right l r h in
      number_node names structures b.Int at
      (tree.Compare comparison (number_as (common_basic left right) left.core)
      (number_as (common_basic left right) right.core)) refl refl (
        is_number _ _ both.left.left,
        both.left.is.core,
        both.right.left ∙ sym both.left.left,
        both.right.is.core,
      )

  ordered_typed : (at : Pos) (relation : Relation) (left right : Part) → Value left.core → Value right.core
      → Pointers left right → Typed (ordered at relation left right)
  ordered_typed at relation left right l r h =
      number_node names structures b.Int at (tree.Order relation left.core right.core) refl refl (
        pointer_left names structures left.core l h.left,
        l.core,
        pointer_left names structures right.core r h.right,
        r.core,
      )

  relation_pointers : (left right : Part) → is_pointer (type_of_part left) ≡ true → may_relate left right ≡ true
      → Pointers left right
  relation_pointers left right pointer may = elim (either_holds (are_integers left right)
      (point_to_versions left right && not (is_function (target_of (type_of_part left)))) may) [
        | inl both ↦ absurd (not_both left (integers left right both).left pointer)
        | inr other ↦ (let all : (point_to_versions left right ≡ true)
            × (not (is_function (target_of (type_of_part left))) ≡ true) = both_hold _ _ other in
            versions_pointers names structures formed left right all.0)
      ]

  relation_integers : (left right : Part) → is_pointer (type_of_part left) ≡ false → may_relate left right ≡ true
      → AreIntegers left right
  relation_integers left right none may = elim (either_holds (are_integers left right)
      (point_to_versions left right && not (is_function (target_of (type_of_part left)))) may) [
        | inl both ↦ integers left right both
        | inr other ↦ (let all : (point_to_versions left right ≡ true)
            × (not (is_function (target_of (type_of_part left))) ≡ true) = both_hold _ _ other in
            let is_one : is_pointer (type_of_part left) ≡ true =
            (versions_pointers names structures formed left right all.0).left in cc)
      ]

  relational_typed : (at : Pos) (relation : Relation) (left right : Part) → Value left.core → Value right.core
      → GivesPart names structures (relational_rule at relation left right)
  relational_typed at relation left right l r =
      fits_if Typed (relational_demands left right) (relational_part at relation left right)
      (λ hold. if_either Typed (is_pointer (type_of_part left)) _ _
      (λ pointer. ordered_typed at relation left right l r (relation_pointers left right pointer hold.0))
      (λ none. compared_typed at (comparison_of relation) left right l r
      (relation_integers left right none hold.0)))

  -- ---- equality

  same_typed : (at : Pos) (equal : Bool) (left right : Core) → PointerTyped names structures left
      → PointerTyped names structures right → Typed (same at equal left right)
  same_typed at equal left right l r =
      number_node names structures b.Int at (tree.Same equal left right) refl refl
      (l.left, l.is.core, r.left, r.is.core)

  pointer_part : (part : Part) → Value part.core → is_pointer (type_of_part part) ≡ true
      → PointerTyped names structures part.core
  pointer_part part v h = record { is = v; left = pointer_left names structures part.core v h }

  -- an operand in the type of the other, which is a pointer
  in_type_of : (pointer part : Part) → Value pointer.core → Value part.core
      → is_pointer (type_of_part pointer) ≡ true → (is_null part ≡ false → is_pointer (type_of_part part) ≡ true)
      → PointerTyped names structures (pointer_as (type_of_part pointer) part)
  in_type_of pointer part p v is_one h =
      pointer_as_typed names structures (type_of_part pointer) part is_one p.type v h

  -- what is left once neither both are integers nor the right one is a null pointer constant
  right_pointer : (left right : Part) → are_integers left right ≡ false → are_pointer_and_null left right ≡ false
      → may_equal left right ≡ true → is_pointer (type_of_part right) ≡ true
  right_pointer left right first second may =
      elim (last_two (are_integers left right) (are_pointer_and_null left right) (are_pointer_and_null right left)
      (are_alike left right) may first second) [
        | inl null ↦ (null_for right left null).pointer
        | inr alike ↦ (alike_pointers names structures formed left right alike).right
      ]

  both_pointers : (left right : Part) → are_integers left right ≡ false → are_pointer_and_null left right ≡ false
      → is_null left ≡ false → may_equal left right ≡ true → Pointers left right
  both_pointers left right first second third may =
      elim (last_two (are_integers left right) (are_pointer_and_null left right) (are_pointer_and_null right left)
      (are_alike left right) may first second) [
        | inl null ↦ (let is_one : is_null left ≡ true = (null_for right left null).null in cc)
        | inr alike ↦ alike_pointers names structures formed left right alike
      ]

  same_by : (at : Pos) (equal : Bool) (left right : Part) → Value left.core → Value right.core
      → are_integers left right ≡ false → may_equal left right ≡ true → Typed (same_part at equal left right)
  same_by at equal left right l r none may =
      if_either Typed (are_pointer_and_null left right) _ _
      (λ null. let h : IsNullFor left right = null_for left right null in
      same_typed at equal left.core (pointer_as (type_of_part left) right) (pointer_part left l h.pointer)
      (in_type_of left right l r h.pointer (λ other. let is_one : is_null right ≡ true = h.null in cc)))
      (λ second. if_either Typed (is_null left) _ _
      (λ null. let h : is_pointer (type_of_part right) ≡ true = right_pointer left right none second may in
      same_typed at equal (pointer_as (type_of_part right) left) right.core
      (in_type_of right left r l h (λ other. cc)) (pointer_part right r h))
      (λ third. let h : Pointers left right = both_pointers left right none second third may in
      if_either Typed (is_void (target_of (type_of_part left))) _ _
      (λ void. same_typed at equal left.core (pointer_as (type_of_part left) right) (pointer_part left l h.left)
      (in_type_of left right l r h.left (λ other. h.right)))
      (λ object. if_either Typed (is_void (target_of (type_of_part right))) _ _
      (λ void. same_typed at equal (pointer_as (type_of_part right) left) right.core
      (in_type_of right left r l h.right (λ other. h.left)) (pointer_part right r h.right))
      (λ object2. same_typed at equal left.core right.core (pointer_part left l h.left)
      (pointer_part right r h.right)))))

  equality_typed : (at : Pos) (equal : Bool) (left right : Part) → Value left.core → Value right.core
      → GivesPart names structures (equality_rule at equal left right)
  equality_typed at equal left right l r =
      fits_if Typed (equality_demands left right) (equality_part at equal left right)
      (λ hold. if_either Typed (are_integers left right) _ _
      (λ both. compared_typed at (equality_comparison equal) left right l r (integers left right both))
      (λ none. same_by at equal left right l r none hold.0))

  pub comparison_typed : (at : Pos) (comparison : Comparison) (left right : Part) → Value left.core
      → Value right.core → GivesPart names structures (comparison_rule at comparison left right)
  comparison_typed at c.Less left right l r = relational_typed at order.Less left right l r
  comparison_typed at c.LessEqual left right l r = relational_typed at order.LessEqual left right l r
  comparison_typed at c.GreaterEqual left right l r = relational_typed at order.GreaterEqual left right l r
  comparison_typed at c.Greater left right l r = relational_typed at order.Greater left right l r
  comparison_typed at c.Equal left right l r = equality_typed at true left right l r
  comparison_typed at c.NotEqual left right l r = equality_typed at false left right l r
