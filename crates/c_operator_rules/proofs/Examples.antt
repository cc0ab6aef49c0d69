-- Expressions on either side of each rule: the number that is broken, or the type that is given.
use Rattle.std.proofs.Common.{◌≡◌, true, false, Some, None, refl}
use Rattle.c_types.specs.declared.basic.Basic.TheVariants as basic
use Rattle.c_types.specs.CType.{Plain, Array, void}
use Rattle.c_types.specs.CType as type
use Rattle.c_types.specs.Compatible.{agree, bare_agree, all_agree}
use Rattle.c_types.specs.Composite.{composite_of, bare_composite}
use Rattle.c_core.specs.declared.operator.Operator.TheVariants as o
use Rattle.c_core.specs.declared.operator.Comparison.TheVariants as c
use Rattle.c_conversions.specs.Kinds.{basic_type, pointer_to}
use Rattle.c_conversions.specs.Parts.{value}
use Rattle.c_operator_rules.specs.Binary.{binary_rule, and_rule, or_rule}
use Rattle.c_operator_rules.specs.Comparisons.{comparison_rule}
use Rattle.c_operator_rules.specs.Conditional.{conditional_rule}
use Rattle.c_operator_rules.specs.Assignment.{convert_rule, assigned_rule, assign_rule, compound_rule, prefix_rule}
use Rattle.c_operator_rules.specs.Assignment.{postfix_rule}
use Rattle.c_expr_rules.proofs.Samples.{here, broken, given, int, char, unsigned, long, const, const_int}
use Rattle.c_expr_rules.proofs.Samples.{complete, with_const, incomplete, structures, of_int, local, object, loaded}
use Rattle.c_expr_rules.proofs.Samples.{function}
use Rattle.c_expr_rules.proofs.Samples.{called, number, void_value, null}

-- ---- operators on two values

common-unsigned : given (binary_rule structures here o.Multiply (loaded int) (loaded unsigned)) ≡ Some unsigned
common-unsigned = refl

common-long : given (binary_rule structures here o.BitOr (loaded long) (loaded unsigned)) ≡ Some long
common-long = refl

common-long-long : given (binary_rule structures here o.Add (loaded (basic_type basic.LongLong))
    (loaded (basic_type basic.ULong))) ≡ Some (basic_type basic.ULongLong)
common-long-long = refl

shift-left : given (binary_rule structures here o.ShiftLeft (loaded char) (loaded long)) ≡ Some int
shift-left = refl

multiply-pointer : broken (binary_rule structures here o.Multiply (loaded (pointer_to int)) (number 1)) ≡ Some 26
multiply-pointer = refl

add-void-pointer : broken (binary_rule structures here o.Add (number 1) (loaded (pointer_to void))) ≡ Some 27
add-void-pointer = refl

add-pointers : broken (binary_rule structures here o.Add (loaded (pointer_to void)) (loaded (pointer_to void)))
    ≡ Some 26
add-pointers = refl

subtract-pointers : given (binary_rule structures here o.Subtract (loaded (pointer_to const_int))
    (loaded (pointer_to int))) ≡ Some long
unfolding agree bare_agree
subtract-pointers = refl

subtract-others : broken (binary_rule structures here o.Subtract (loaded (pointer_to incomplete))
    (loaded (pointer_to int))) ≡ Some 26
unfolding agree bare_agree
subtract-others = refl

and-structure : broken (and_rule here (number 1) (loaded complete)) ≡ Some 26
and-structure = refl

or-pointer : given (or_rule here (loaded (pointer_to of_int)) (number 1)) ≡ Some int
or-pointer = refl

-- ---- comparisons

less-function-pointers : broken (comparison_rule here c.Less (called of_int) (called of_int)) ≡ Some 28
unfolding agree bare_agree all_agree
less-function-pointers = refl

equal-function-pointers : broken (comparison_rule here c.Equal (called of_int) (called of_int)) ≡ None
unfolding agree bare_agree all_agree
equal-function-pointers = refl

equal-zero : broken (comparison_rule here c.Equal (loaded (pointer_to int)) (number 0)) ≡ None
equal-zero = refl

equal-one : broken (comparison_rule here c.Equal (loaded (pointer_to int)) (number 1)) ≡ Some 28
equal-one = refl

less-zero : broken (comparison_rule here c.Less (loaded (pointer_to int)) (number 0)) ≡ Some 28
less-zero = refl

equal-void : broken (comparison_rule here c.NotEqual (loaded (pointer_to void)) (loaded (pointer_to const_int))) ≡ None
unfolding agree bare_agree
equal-void = refl

equal-void-function : broken (comparison_rule here c.Equal (loaded (pointer_to void)) (called of_int)) ≡ Some 28
unfolding agree bare_agree
equal-void-function = refl

-- ---- the conditional

conditional-qualifiers : given (conditional_rule here (number 1).core (loaded (pointer_to const_int))
    (loaded (pointer_to int))) ≡ Some (pointer_to const_int)
unfolding agree bare_agree composite_of bare_composite
conditional-qualifiers = refl

conditional-void : given (conditional_rule here (number 1).core (loaded (pointer_to void))
    (loaded (pointer_to const_int))) ≡ Some (pointer_to (Plain (type.BasicType basic.Void) const))
unfolding agree bare_agree
conditional-void = refl

conditional-null : given (conditional_rule here (number 1).core null (loaded (pointer_to int)))
    ≡ Some (pointer_to int)
conditional-null = refl

-- the length that either array gives
conditional-composite : given (conditional_rule here (number 1).core (loaded (pointer_to (Array int None)))
    (loaded (pointer_to (Array int (Some 3))))) ≡ Some (pointer_to (Array int (Some 3)))
unfolding agree bare_agree composite_of bare_composite
conditional-composite = refl

conditional-mixed : broken (conditional_rule here (number 1).core (loaded (pointer_to int)) (number 1)) ≡ Some 29
conditional-mixed = refl

conditional-void-one : broken (conditional_rule here (number 1).core void_value (number 1)) ≡ Some 29
conditional-void-one = refl

-- ---- assignments

convert-qualifier-lost : broken (convert_rule (pointer_to int) (loaded (pointer_to const_int))) ≡ Some 30
convert-qualifier-lost = refl

convert-array-pointer : broken (convert_rule (pointer_to (Array const_int (Some 2)))
    (loaded (pointer_to (Array int (Some 2))))) ≡ Some 30
unfolding agree bare_agree
convert-array-pointer = refl

convert-truth : broken (convert_rule (basic_type basic.Bool) (loaded (pointer_to int))) ≡ None
convert-truth = refl

convert-pointer-integer : broken (convert_rule int (loaded (pointer_to int))) ≡ Some 30
convert-pointer-integer = refl

assigned-array : broken (assigned_rule structures (object (Array int (Some 2))) (loaded complete)) ≡ None
assigned-array = refl

assign-const-member : broken (assign_rule structures here (object with_const) (local with_const)) ≡ Some 22
assign-const-member = refl

assign-value : broken (assign_rule structures here (number 1) (number 1).core) ≡ Some 22
assign-value = refl

assign-structure : given (assign_rule structures here (object complete) (local complete)) ≡ Some complete
assign-structure = refl

compound-const : broken (compound_rule structures here o.Add (object const_int) (loaded complete)) ≡ Some 22
compound-const = refl

compound-structure : broken (compound_rule structures here o.Add (object int) (loaded complete)) ≡ Some 26
compound-structure = refl

compound-void-pointer : broken (compound_rule structures here o.Add (object (pointer_to void)) (number 1)) ≡ Some 27
compound-void-pointer = refl

step-structure : broken (prefix_rule structures here false (object complete)) ≡ Some 26
step-structure = refl

step-const-structure : broken (postfix_rule structures here false (object with_const)) ≡ Some 22
step-const-structure = refl

step-incomplete-pointer : broken (postfix_rule structures here true (object (pointer_to incomplete))) ≡ Some 27
step-incomplete-pointer = refl
