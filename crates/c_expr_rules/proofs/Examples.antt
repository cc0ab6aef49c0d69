-- Expressions on either side of each rule: the number that is broken, or the type that is given.
use Rattle.std.proofs.Common.{◌≡◌, true, false, [], ◌∷◌, Some, None, pos, refl}
use Rattle.c_types.specs.declared.basic.Basic.TheVariants as basic
use Rattle.c_types.specs.CType.{Plain, Array, Compound, Nil, no_quals, void}
use Rattle.c_types.specs.CType as type
use Rattle.c_core.specs.declared.operator.By.TheVariants as by
use Rattle.c_core.specs.Tree.{At, NoCore, MoreCores}
use Rattle.c_core.specs.Tree as tree
use Rattle.c_scopes.specs.Named.{TypedefOf, NullPointerOf}
use Rattle.c_scopes.specs.Ruled.{Fits}
use Rattle.c_conversions.specs.Kinds.{basic_type, pointer_to, int_kind}
use Rattle.c_conversions.specs.Parts.{value, lvalue}
use Rattle.c_expr_rules.specs.Uses.{used_rule, value_rule, test_rule, switch_rule}
use Rattle.c_expr_rules.specs.Primary.{number_rule, literal_rule, name_rule}
use Rattle.c_expr_rules.specs.Unary.{plus_rule, minus_rule, flip_rule, not_rule, size_rule, align_rule, size_of_rule}
use Rattle.c_expr_rules.specs.Pointers.{address_rule, deref_rule, index_rule}
use Rattle.c_expr_rules.specs.Members.{dot_rule, arrow_rule}
use Rattle.c_expr_rules.specs.Casts.{cast_rule}
use Rattle.c_expr_rules.specs.Calls.{pass_rule, further_rule, call_rule}
use Rattle.c_expr_rules.proofs.Samples.{here, broken, given, int, char, unsigned, long, const, const_int}
use Rattle.c_expr_rules.proofs.Samples.{complete, incomplete, structures, of_int, of_any, object, register, loaded}
use Rattle.c_expr_rules.proofs.Samples.{function}
use Rattle.c_expr_rules.proofs.Samples.{called, number, void_value, null}

-- ---- values and conditions

incomplete-used : broken (used_rule structures (object incomplete)) ≡ Some 7
incomplete-used = refl

void-value : broken (value_rule structures void_value) ≡ Some 37
void-value = refl

void-used : given (used_rule structures void_value) ≡ Some void
void-used = refl

const-value : given (value_rule structures (object const_int)) ≡ Some int
const-value = refl

array-value : given (value_rule structures (object (Array const_int (Some 3)))) ≡ Some (pointer_to const_int)
array-value = refl

structure-test : broken (test_rule structures (object complete)) ≡ Some 38
structure-test = refl

pointer-test : broken (test_rule structures (object (pointer_to complete))) ≡ None
pointer-test = refl

pointer-switch : broken (switch_rule structures (object (pointer_to int))) ≡ Some 38
pointer-switch = refl

-- ---- constants and names

decimal : given (number_rule here (record { value = 2147483648; decimal = true; unsigned = false; longs = 0 }))
    ≡ Some long
decimal = refl

hexadecimal : given (number_rule here (record { value = 2147483648; decimal = false; unsigned = false; longs = 0 }))
    ≡ Some unsigned
hexadecimal = refl

suffixed : given (number_rule here (record { value = 1; decimal = true; unsigned = true; longs = 2 }))
    ≡ Some (basic_type basic.ULongLong)
suffixed = refl

too-large : broken (number_rule here
    (record { value = 9223372036854775808; decimal = true; unsigned = false; longs = 0 })) ≡ Some 48
too-large = refl

literal-type : given (literal_rule here false 2) ≡ Some (Array char (Some 3))
literal-type = refl

literal-too-large : broken (literal_rule here true 4194304) ≡ Some 8
literal-too-large = refl

unknown-name : broken (name_rule here None) ≡ Some 1
unknown-name = refl

type-name : broken (name_rule here (Some (TypedefOf int))) ≡ Some 1
type-name = refl

null-name : given (name_rule here (Some (NullPointerOf (pointer_to void)))) ≡ Some (pointer_to void)
null-name = refl

-- ---- unary operators

plus-char : given (plus_rule (loaded char)) ≡ Some int
plus-char = refl

minus-pointer : broken (minus_rule here (loaded (pointer_to int))) ≡ Some 25
minus-pointer = refl

flip-unsigned : given (flip_rule here (loaded unsigned)) ≡ Some unsigned
flip-unsigned = refl

not-pointer : given (not_rule here (loaded (pointer_to int))) ≡ Some int
not-pointer = refl

not-structure : broken (not_rule here (loaded complete)) ≡ Some 25
not-structure = refl

size-array : size_of_rule structures here (object (Array int (Some 3)))
    ≡ Fits (value (At (basic_type basic.ULong) here (tree.Number (int_kind basic.ULong) (pos 12))))
size-array = refl

size-function : broken (size_of_rule structures here (function of_int)) ≡ Some 36
size-function = refl

size-incomplete : broken (size_rule structures here incomplete) ≡ Some 36
size-incomplete = refl

align-void : broken (align_rule structures here void) ≡ Some 36
align-void = refl

-- ---- pointers and members

address-register : broken (address_rule here (register int)) ≡ Some 23
address-register = refl

address-value : broken (address_rule here (number 1)) ≡ Some 23
address-value = refl

address-array : given (address_rule here (object (Array int None))) ≡ Some (pointer_to (Array int None))
address-array = refl

-- `&*p` is `p`
address-reached : address_rule here (lvalue (At int here (tree.Reach by.Star 4 4 (loaded (pointer_to int)).core)))
    ≡ Fits (loaded (pointer_to int))
address-reached = refl

deref-void : broken (deref_rule structures here (loaded (pointer_to void))) ≡ Some 24
deref-void = refl

deref-function : given (deref_rule structures here (called of_int)) ≡ Some (pointer_to of_int)
deref-function = refl

index-number-first : given (index_rule structures here (number 1) (loaded (pointer_to const_int))) ≡ Some const_int
index-number-first = refl

index-pointers : broken (index_rule structures here (loaded (pointer_to int)) (loaded (pointer_to int))) ≡ Some 35
index-pointers = refl

index-incomplete : broken (index_rule structures here (loaded (pointer_to incomplete)) (number 1)) ≡ Some 35
index-incomplete = refl

-- a member of a const structure is const
dot-const : given (dot_rule structures here (109 ∷ []) (object (Plain (Compound 0) const))) ≡ Some const_int
dot-const = refl

dot-other : broken (dot_rule structures here (110 ∷ []) (object complete)) ≡ Some 34
dot-other = refl

arrow-member : given (arrow_rule structures here (109 ∷ []) (loaded (pointer_to complete))) ≡ Some int
arrow-member = refl

arrow-structure : broken (arrow_rule structures here (109 ∷ []) (loaded complete)) ≡ Some 34
arrow-structure = refl

-- ---- casts

cast-pointer-integer : broken (cast_rule here long (loaded (pointer_to int))) ≡ Some 31
cast-pointer-integer = refl

cast-integer-pointer : broken (cast_rule here (pointer_to int) (loaded int)) ≡ Some 31
cast-integer-pointer = refl

cast-function-object : broken (cast_rule here (pointer_to void) (called of_int)) ≡ Some 31
cast-function-object = refl

-- `(void *)0` is a null pointer constant, `(void *)(void *)0` is none
cast-null : cast_rule here (pointer_to void) (number 0) ≡ Fits null
cast-null = refl

cast-null-again : cast_rule here (pointer_to void) null ≡ Fits (value (At (pointer_to void) here tree.Null))
cast-null-again = refl

-- ---- calls

pass-structure : broken (pass_rule structures int (loaded complete)) ≡ Some 30
pass-structure = refl

further-structure : broken (further_rule (loaded complete)) ≡ Some 30
further-structure = refl

call-number : broken (call_rule structures here true (number 1) NoCore) ≡ Some 32
call-number = refl

call-without-arguments : broken (call_rule structures here true (called of_int) NoCore) ≡ Some 33
call-without-arguments = refl

call-variadic : given (call_rule structures here true (called of_any)
    (MoreCores (number 1).core (MoreCores (number 2).core NoCore))) ≡ Some void
call-variadic = refl

call-incomplete-result : broken (call_rule structures here true
    (called (Plain (type.Function incomplete Nil false) no_quals)) NoCore) ≡ Some 7
call-incomplete-result = refl
