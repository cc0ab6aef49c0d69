-- Operators on two values keep to types (6.5.5 to 6.5.14).
use Rattle.std.proofs.Common.{◌≡◌, Bool, true, false, ◌||◌, List, inl, inr, refl}
use Rattle.acc_num.specs.declared.kind.IntKind.{IntKind}
use Rattle.critical_table.specs.declared.pos.Pos.{Pos}
use Rattle.c_types.specs.declared.basic.Basic.TheVariants as b
use Rattle.c_types.specs.Layouts.{layout_of}
use Rattle.c_types.specs.Structures.{Structure}
use Rattle.c_core.specs.declared.form.Form.{Form}
use Rattle.c_core.specs.declared.form.Form.TheVariants as form
use Rattle.c_core.specs.declared.operator.Operator.{Operator}
use Rattle.c_core.specs.declared.operator.Operator.TheVariants as o
use Rattle.c_core.specs.Forms.{form_of}
use Rattle.c_core.specs.Named.{Names}
use Rattle.c_core.specs.Operations.{is_shift}
use Rattle.c_core.specs.Tree.{Core, At}
use Rattle.c_core.specs.Tree as tree
use Rattle.c_core.specs.Typed.{IsCount}
use Rattle.c_core.specs.Types.{IsNumber}
use Rattle.c_conversions.specs.Contents.{size_in}
use Rattle.c_conversions.specs.Converting.{number_as, promoted_value, truth_value}
use Rattle.c_conversions.specs.Kinds.{basic_type, is_integer, int_kind, promoted}
use Rattle.c_conversions.specs.Parts.{Part, value}
use Rattle.c_conversions.specs.Versions.{is_pointer, is_scalar, are_versions}
use Rattle.c_expr_rules.specs.Targets.{type_of_part, target_of, basic_in, may_move, is_complete}
use Rattle.c_operator_rules.specs.Binary.{are_integers, are_pointer_and_integer, point_to_versions, both_move}
use Rattle.c_operator_rules.specs.Binary.{common_basic, shifted, with_common, arithmetic_demands, arithmetic_part}
use Rattle.c_operator_rules.specs.Binary.{arithmetic_rule, add_demands, add_part, add_rule, subtract_demands}
use Rattle.c_operator_rules.specs.Binary.{subtract_part, subtract_rule, pointer_difference, binary_rule}
use Rattle.c_operator_rules.specs.Binary.{logical_demands}
use Rattle.c_operator_rules.specs.Binary.{and_rule, or_rule, may_add, may_subtract, moved_value}
use Rattle.c_typing_law.specs.Law.{GivesPart}
use Rattle.c_typing_law.specs.TypedParts.{ValueTyped, PartTyped}
use Rattle.c_typing_law.specs.WellFormed.{StructuresFormed}
use Rattle.c_typing_law.proofs.Converted.{number_node, pointer_left, integer_number, promoted_typed, NumberTyped}
use Rattle.c_typing_law.proofs.Converted.{number_as_typed, truth_typed, TruthTyped, is_number}
use Rattle.c_typing_law.proofs.Facts.{fits_if, both_hold, three_hold, three_ways, if_either, unless_not, no_pointer}
use Rattle.c_typing_law.proofs.Facts.{promoted_real, common_real}
use Rattle.c_typing_law.proofs.Formed.{target_formed}
use Rattle.c_typing_law.proofs.Laid.{measured, Measured}
use Rattle.c_typing_law.proofs.Reached.{moved_typed}

pub count_fits : (shifts : Bool) (kind : IntKind) (f : Form) → shifts ≡ true → IsNumber f → IsCount shifts kind f
count_fits true kind f h number = number
count_fits false kind f h number = cc

pub right_fits : (shifts : Bool) (kind : IntKind) (f : Form) → shifts ≡ false → f ≡ form.Number kind
    → IsCount shifts kind f
right_fits true kind f h same = cc
right_fits false kind f h same = same

-- ---- what two operands are

pub record AreIntegers (first second : Part) : Type 0 where
  pub left : is_integer (type_of_part first) ≡ true
  pub right : is_integer (type_of_part second) ≡ true

pub integers : (left right : Part) → are_integers left right ≡ true → AreIntegers left right
integers left right h =
    let both : (is_integer (type_of_part left) ≡ true) × (is_integer (type_of_part right) ≡ true) =
    both_hold _ _ h in
    record { left = both.0; right = both.1 }

-- an integer is no pointer
pub not_both : (part : Part) → is_integer (type_of_part part) ≡ true → is_pointer (type_of_part part) ≡ true → ⊥
not_both part integer pointer =
    let none : is_pointer (type_of_part part) ≡ false = no_pointer (type_of_part part) integer in cc

module _ (names : Names) (structures : List Structure) (formed : StructuresFormed structures) where
  abbrev Value : Core → Type 0
  Value core = ValueTyped names structures core

  abbrev Typed : Part → Type 0
  Typed part = PartTyped names structures part

  -- ---- numbers

  pub record InCommon (first second : Part) : Type 0 where
    pub left : NumberTyped names structures (common_basic first second)
        (number_as (common_basic first second) first.core)
    pub right : NumberTyped names structures (common_basic first second)
        (number_as (common_basic first second) second.core)

  -- two integers in their common type
  pub in_common : (left right : Part) → Value left.core → Value right.core → AreIntegers left right
      → InCommon left right
  in_common left right l r h = record {
    left =
        number_as_typed names structures (common_basic left right) left.core (common_real (basic_in
        (type_of_part left)) (basic_in (type_of_part right))) l
        (integer_number names structures left.core l h.left);
    right =
        number_as_typed names structures (common_basic left right) right.core (common_real (basic_in
        (type_of_part left)) (basic_in (type_of_part right))) r
        (integer_number names structures right.core r h.right);
  }

  shifted_typed : (at : Pos) (operator : Operator) (left right : Part) → Value left.core → Value right.core
      → AreIntegers left right → is_shift operator ≡ true → Typed (shifted at operator left right)
  shifted_typed at operator left right l r h shifts =
      let first : NumberTyped names structures (promoted (basic_in (type_of_part left))) (promoted_value left.core) =
      promoted_typed names structures left.core l h.left in
      let second : NumberTyped names structures (promoted (basic_in (type_of_part right)))
      (promoted_value right.core) = promoted_typed names structures right.core r h.right in
      number_node names structures (promoted (basic_in (type_of_part left))) at
      (tree.Arithmetic operator (int_kind (promoted (basic_in (type_of_part left)))) (promoted_value left.core)
      (promoted_value right.core)) (promoted_real (basic_in (type_of_part left))) refl (
        first.left,
        first.is.core,
        count_fits (is_shift operator) (int_kind (promoted (basic_in (type_of_part left))))
            (form_of (promoted_value right.core)) shifts (is_number _ _ second.left),
        second.is.core,
      )

  with_common_typed : (at : Pos) (operator : Operator) (left right : Part) → Value left.core → Value right.core
      → AreIntegers left right → is_shift operator ≡ false → Typed (with_common at operator left right)
  with_common_typed at operator left right l r h shifts =
      let both : InCommon left right = in_common left right l r h in
      number_node names structures (common_basic left right) at
      (tree.Arithmetic operator (int_kind (common_basic left right)) (number_as (common_basic left right) left.core)
      (number_as (common_basic left right) right.core)) (common_real (basic_in (type_of_part left)) (basic_in
      (type_of_part right))) refl (
        both.left.left,
        both.left.is.core,
        right_fits (is_shift operator) (int_kind (common_basic left right))
            (form_of (number_as (common_basic left right) right.core)) shifts both.right.left,
        both.right.is.core,
      )

  arithmetic_typed : (at : Pos) (operator : Operator) (left right : Part) → Value left.core → Value right.core
      → GivesPart names structures (arithmetic_rule at operator left right)
  arithmetic_typed at operator left right l r =
      fits_if Typed (arithmetic_demands left right) (arithmetic_part at operator left right)
      (λ hold. if_either Typed (is_shift operator) _ _
      (λ shifts. shifted_typed at operator left right l r (integers left right hold.0) shifts)
      (λ shifts. with_common_typed at operator left right l r (integers left right hold.0) shifts))

  -- ---- pointers that move

  pub move_complete : (part : Part) → may_move structures (type_of_part part) ≡ true
      → is_pointer (type_of_part part) ≡ true → is_complete (target_of (type_of_part part)) structures ≡ true
  move_complete part may pointer =
      unless_not (is_pointer (type_of_part part)) (is_complete (target_of (type_of_part part)) structures) may pointer

  moved_value_typed : (at : Pos) (back number_first : Bool) (pointer number : Part) → Value pointer.core
      → Value number.core → is_pointer (type_of_part pointer) ≡ true
      → may_move structures (type_of_part pointer) ≡ true → is_integer (type_of_part number) ≡ true
      → Typed (moved_value structures at back number_first pointer.core number.core)
  moved_value_typed at back number_first pointer number p n is_one may is_number =
      moved_typed names structures formed at back number_first pointer.core number.core p is_one
      (move_complete pointer may is_one) n is_number

  -- one operand is a pointer that moves, and the other an integer
  moves_with : (left right : Part) → is_pointer (type_of_part left) ≡ true
      → (are_integers left right || are_pointer_and_integer left right || are_pointer_and_integer right left) ≡ true
      → is_integer (type_of_part right) ≡ true
  moves_with left right pointer may = elim (three_ways (are_integers left right) (are_pointer_and_integer left right)
      (are_pointer_and_integer right left) may) [
        | inl both ↦ (integers left right both).right
        | inr other ↦ elim other [
          | inl first ↦ (let all : (is_pointer (type_of_part left) ≡ true) × (is_integer (type_of_part right) ≡ true) =
              both_hold _ _ first in all.1)
          | inr second ↦ (let all : (is_pointer (type_of_part right) ≡ true) × (is_integer (type_of_part left) ≡ true) =
              both_hold _ _ second in absurd (not_both left all.1 pointer))
        ]
      ]

  moves_behind : (left right : Part) → is_pointer (type_of_part right) ≡ true
      → (are_integers left right || are_pointer_and_integer left right || are_pointer_and_integer right left) ≡ true
      → is_integer (type_of_part left) ≡ true
  moves_behind left right pointer may = elim (three_ways (are_integers left right) (are_pointer_and_integer left right)
      (are_pointer_and_integer right left) may) [
        | inl both ↦ (integers left right both).left
        | inr other ↦ elim other [
          | inl first ↦ (let all : (is_pointer (type_of_part left) ≡ true) × (is_integer (type_of_part right) ≡ true) =
              both_hold _ _ first in absurd (not_both right all.1 pointer))
          | inr second ↦ (let all : (is_pointer (type_of_part right) ≡ true) × (is_integer (type_of_part left) ≡ true) =
              both_hold _ _ second in all.1)
        ]
      ]

  add_integers : (left right : Part) → is_pointer (type_of_part left) ≡ false
      → is_pointer (type_of_part right) ≡ false → may_add left right ≡ true → AreIntegers left right
  add_integers left right l r may = elim (three_ways (are_integers left right) (are_pointer_and_integer left right)
      (are_pointer_and_integer right left) may) [
        | inl both ↦ integers left right both
        | inr other ↦ elim other [
          | inl first ↦ (let all : (is_pointer (type_of_part left) ≡ true) × (is_integer (type_of_part right) ≡ true) =
              both_hold _ _ first in let is_one : is_pointer (type_of_part left) ≡ true = all.0 in cc)
          | inr second ↦ (let all : (is_pointer (type_of_part right) ≡ true) × (is_integer (type_of_part left) ≡ true) =
              both_hold _ _ second in let is_one : is_pointer (type_of_part right) ≡ true = all.0 in cc)
        ]
      ]

  add_by : (at : Pos) (left right : Part) → Value left.core → Value right.core → may_add left right ≡ true
      → both_move structures left right ≡ true → Typed (add_part structures at left right)
  add_by at left right l r may moves =
      let both : (may_move structures (type_of_part left) ≡ true)
      × (may_move structures (type_of_part right) ≡ true) = both_hold _ _ moves in
      if_either Typed (is_pointer (type_of_part left)) _ _
      (λ pointer. moved_value_typed at false false left right l r pointer both.0 (moves_with left right pointer may))
      (λ first. if_either Typed (is_pointer (type_of_part right)) _ _
      (λ pointer. moved_value_typed at false true right left r l pointer both.1 (moves_behind left right pointer may))
      (λ second. with_common_typed at o.Add left right l r (add_integers left right first second may) refl))

  add_typed : (at : Pos) (left right : Part) → Value left.core → Value right.core
      → GivesPart names structures (add_rule structures at left right)
  add_typed at left right l r =
      fits_if Typed (add_demands structures left right) (add_part structures at left right)
      (λ hold. add_by at left right l r hold.0 hold.1.0)

  -- ---- differences

  pub record ArePointers (first second : Part) : Type 0 where
    pub left : is_pointer (type_of_part first) ≡ true
    pub right : is_pointer (type_of_part second) ≡ true

  pub versions_pointers : (left right : Part) → point_to_versions left right ≡ true → ArePointers left right
  versions_pointers left right h =
      let all : (is_pointer (type_of_part left) ≡ true) × (is_pointer (type_of_part right) ≡ true)
      × (are_versions (target_of (type_of_part left)) (target_of (type_of_part right)) ≡ true) =
      three_hold _ _ _ h in
      record { left = all.0; right = all.1 }

  subtract_pointers : (left right : Part) → is_pointer (type_of_part right) ≡ true → may_subtract left right ≡ true
      → ArePointers left right
  subtract_pointers left right pointer may = elim (three_ways (are_integers left right)
      (are_pointer_and_integer left right)
      (point_to_versions left right) may) [
        | inl both ↦ absurd (not_both right (integers left right both).right pointer)
        | inr other ↦ elim other [
          | inl first ↦ (let all : (is_pointer (type_of_part left) ≡ true) × (is_integer (type_of_part right) ≡ true) =
              both_hold _ _ first in absurd (not_both right all.1 pointer))
          | inr second ↦ versions_pointers left right second
        ]
      ]

  subtract_number : (left right : Part) → is_pointer (type_of_part right) ≡ false → may_subtract left right ≡ true
      → is_integer (type_of_part right) ≡ true
  subtract_number left right none may = elim (three_ways (are_integers left right) (are_pointer_and_integer left right)
      (point_to_versions left right) may) [
        | inl both ↦ (integers left right both).right
        | inr other ↦ elim other [
          | inl first ↦ (let all : (is_pointer (type_of_part left) ≡ true) × (is_integer (type_of_part right) ≡ true) =
              both_hold _ _ first in all.1)
          | inr second ↦ (let is_one : is_pointer (type_of_part right) ≡ true =
              (versions_pointers left right second).right in cc)
        ]
      ]

  subtract_integers : (left right : Part) → is_pointer (type_of_part left) ≡ false
      → is_pointer (type_of_part right) ≡ false → may_subtract left right ≡ true → AreIntegers left right
  subtract_integers left right l r may = elim (three_ways (are_integers left right) (are_pointer_and_integer left right)
      (point_to_versions left right) may) [
        | inl both ↦ integers left right both
        | inr other ↦ elim other [
          | inl first ↦ (let all : (is_pointer (type_of_part left) ≡ true) × (is_integer (type_of_part right) ≡ true) =
              both_hold _ _ first in let is_one : is_pointer (type_of_part left) ≡ true = all.0 in cc)
          | inr second ↦ (let is_one : is_pointer (type_of_part right) ≡ true =
              (versions_pointers left right second).right in cc)
        ]
      ]

  difference_typed : (at : Pos) (left right : Part) → Value left.core → Value right.core → ArePointers left right
      → may_move structures (type_of_part left) ≡ true → Typed (pointer_difference structures at left right)
  difference_typed at left right l r both may =
      let m : Measured (layout_of (target_of (type_of_part left)) structures) =
      measured structures formed (target_of (type_of_part left)) (target_formed structures (type_of_part left) l.type)
      (move_complete left may both.left) in
      number_node names structures b.Long at
      (tree.Difference (size_in (layout_of (target_of
      (type_of_part left)) structures)) left.core right.core) refl refl (
        m.size,
        pointer_left names structures left.core l both.left,
        l.core,
        pointer_left names structures right.core r both.right,
        r.core,
      )

  subtract_by : (at : Pos) (left right : Part) → Value left.core → Value right.core → may_subtract left right ≡ true
      → both_move structures left right ≡ true → Typed (subtract_part structures at left right)
  subtract_by at left right l r may moves =
      let both : (may_move structures (type_of_part left) ≡ true)
      × (may_move structures (type_of_part right) ≡ true) = both_hold _ _ moves in
      if_either Typed (is_pointer (type_of_part right)) _ _
      (λ pointer. difference_typed at left right l r (subtract_pointers left right pointer may) both.0)
      (λ second. if_either Typed (is_pointer (type_of_part left)) _ _
      (λ pointer. moved_value_typed at true false left right l r pointer both.0
      (subtract_number left right second may))
      (λ first. with_common_typed at o.Subtract left right l r (subtract_integers left right first second may) refl))

  subtract_typed : (at : Pos) (left right : Part) → Value left.core → Value right.core
      → GivesPart names structures (subtract_rule structures at left right)
  subtract_typed at left right l r =
      fits_if Typed (subtract_demands structures left right) (subtract_part structures at left right)
      (λ hold. subtract_by at left right l r hold.0 hold.1.0)

  pub binary_typed : (at : Pos) (operator : Operator) (left right : Part) → Value left.core → Value right.core
      → GivesPart names structures (binary_rule structures at operator left right)
  binary_typed at o.Add left right l r = add_typed at left right l r
  binary_typed at o.Subtract left right l r = subtract_typed at left right l r
  binary_typed at other left right l r = arithmetic_typed at other left right l r

  -- ---- `&&` and `||`

  truth_of_part : (part : Part) → Value part.core → is_scalar (type_of_part part) ≡ true
      → TruthTyped names structures (truth_value part.core)
  truth_of_part part v h = truth_typed names structures part.core v h

  pub and_typed : (at : Pos) (left right : Part) → Value left.core → Value right.core
      → GivesPart names structures (and_rule at left right)
  and_typed at left right l r =
      fits_if Typed (logical_demands left right) (value (At (basic_type b.Int) at (tree.AndAlso
      (truth_value left.core) (truth_value right.core))))
      (λ hold. let both : (is_scalar (type_of_part left) ≡ true) × (is_scalar (type_of_part right) ≡ true) =
      both_hold _ _ hold.0 in
      let first : TruthTyped names structures (truth_value left.core) = truth_of_part left l both.0 in
      let second : TruthTyped names structures (truth_value right.core) = truth_of_part right r both.1 in
      number_node names structures b.Int at (tree.AndAlso (truth_value left.core) (truth_value right.core)) refl refl
      (first.number, first.is.core, second.number, second.is.core))

  pub or_typed : (at : Pos) (left right : Part) → Value left.core → Value right.core
      → GivesPart names structures (or_rule at left right)
  or_typed at left right l r =
      fits_if Typed (logical_demands left right) (value (At (basic_type b.Int) at (tree.OrElse
      (truth_value left.core) (truth_value right.core))))
      (λ hold. let both : (is_scalar (type_of_part left) ≡ true) × (is_scalar (type_of_part right) ≡ true) =
      both_hold _ _ hold.0 in
      let first : TruthTyped names structures (truth_value left.core) = truth_of_part left l both.0 in
      let second : TruthTyped names structures (truth_value right.core) = truth_of_part right r both.1 in
      number_node names structures b.Int at (tree.OrElse (truth_value left.core) (truth_value right.core)) refl refl
      (first.number, first.is.core, second.number, second.is.core))
