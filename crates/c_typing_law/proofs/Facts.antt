-- What tests say, and how a rule that fits is used.
use Rattle.std.proofs.Common.{◌≡◌, ℕ, Bool, true, false, not, ◌&&◌, ◌||◌, ◌⊎◌, cond, List, [], ◌∷◌, Some}
use Rattle.std.proofs.Common.{nat_le, refl, inl, inr}
use Rattle.c_types.specs.declared.basic.Basic.{Basic}
use Rattle.c_types.specs.declared.basic.Basic.TheVariants as b
use Rattle.c_types.specs.CType.{CType, Plain, Array, BasicType, Pointer, Function, Compound, Enumerated}
use Rattle.c_types.specs.Layouts.{kind_of}
use Rattle.c_core.specs.declared.form.Form.TheVariants as form
use Rattle.c_core.specs.Types.{value_form, kind_in}
use Rattle.c_scopes.specs.Ruled.{Ruled, Breaks, Demand, ruled}
use Rattle.c_conversions.specs.Kinds.{is_integer, int_kind, promoted, common}
use Rattle.c_conversions.specs.Kinds.{common_promoted, common_mixed, common_alike, unsigned_of, is_unsigned, rank}
use Rattle.c_conversions.specs.Kinds.{has_values_of}
use Rattle.c_conversions.specs.Versions.{is_pointer, is_void, is_compound}
use Rattle.c_expr_rules.specs.Targets.{basic_in}
use Rattle.c_typing_law.specs.TypedParts.{IfFits}

-- ---- tests

pub both_hold : (a b : Bool) → (a && b) ≡ true → (a ≡ true) × (b ≡ true)
both_hold true b h = (refl, h)
both_hold false b h = cc

pub either_holds : (a b : Bool) → (a || b) ≡ true → (a ≡ true) ⊎ (b ≡ true)
either_holds true b h = inl refl
either_holds false b h = inr h

pub not_holds : (a : Bool) → not a ≡ true → a ≡ false
not_holds true h = cc
not_holds false h = refl

pub first_holds : (a b : Bool) → a ≡ true → (a || b) ≡ true
first_holds true b h = refl
first_holds false b h = cc

pub second_holds : (a b : Bool) → b ≡ true → (a || b) ≡ true
second_holds true b h = refl
second_holds false b h = h

pub second_true : (a b : Bool) → (a || b) ≡ true → a ≡ false → b ≡ true
second_true true b h none = cc
second_true false b h none = h

pub not_second : (a b : Bool) → (a || b) ≡ true → b ≡ false → a ≡ true
not_second true b h none = refl
not_second false b h none = cc

pub unless_not : (a b : Bool) → (not a || b) ≡ true → a ≡ true → b ≡ true
unless_not true b h is = h
unless_not false b h is = cc

pub both_true : (a b : Bool) → a ≡ true → b ≡ true → (a && b) ≡ true
both_true true b h k = k
both_true false b h k = cc

pub three_hold : (a b c : Bool) → (a && b && c) ≡ true → (a ≡ true) × (b ≡ true) × (c ≡ true)
three_hold true true true h = (refl, refl, refl)
three_hold true true false h = cc
three_hold true false c h = cc
three_hold false b c h = cc

pub four_hold : (a b c d : Bool) → (a && b && c && d) ≡ true
    → (a ≡ true) × (b ≡ true) × (c ≡ true) × (d ≡ true)
four_hold true true true true h = (refl, refl, refl, refl)
four_hold true true true false h = cc
four_hold true true false d h = cc
four_hold true false c d h = cc
four_hold false b c d h = cc

pub three_ways : (a b c : Bool) → (a || b || c) ≡ true → (a ≡ true) ⊎ ((b ≡ true) ⊎ (c ≡ true))
three_ways true b c h = inl refl
three_ways false true c h = inr (inl refl)
three_ways false false c h = inr (inr h)

pub first_of_three_ways : (a b c : Bool) → (a || b || c) ≡ true → b ≡ false → c ≡ false → a ≡ true
first_of_three_ways true b c h f1 f2 = refl
first_of_three_ways false true c h f1 f2 = cc
first_of_three_ways false false c h f1 f2 = cc

pub last_two : (a b c d : Bool) → (a || b || c || d) ≡ true → a ≡ false → b ≡ false → (c ≡ true) ⊎ (d ≡ true)
last_two true b c d h f1 f2 = cc
last_two false true c d h f1 f2 = cc
last_two false false true d h f1 f2 = inl refl
last_two false false false d h f1 f2 = inr h

pub last_of_six : (a b c d e f : Bool) → (a || b || c || d || e || f) ≡ true → a ≡ false → b ≡ false → c ≡ false
    → d ≡ false → e ≡ false → f ≡ true
last_of_six true b c d e f h f1 f2 f3 f4 f5 = cc
last_of_six false true c d e f h f1 f2 f3 f4 f5 = cc
last_of_six false false true d e f h f1 f2 f3 f4 f5 = cc
last_of_six false false false true e f h f1 f2 f3 f4 f5 = cc
last_of_six false false false false true f h f1 f2 f3 f4 f5 = cc
last_of_six false false false false false f h f1 f2 f3 f4 f5 = h

pub second_or_third : (a b c d e f : Bool) → (a || b || c || d || e || f) ≡ true → a ≡ false → d ≡ false
    → e ≡ false → f ≡ false → (b ≡ true) ⊎ (c ≡ true)
second_or_third true b c d e f h f1 f2 f3 f4 = cc
second_or_third false true c d e f h f1 f2 f3 f4 = inl refl
second_or_third false false true d e f h f1 f2 f3 f4 = inr refl
second_or_third false false false true e f h f1 f2 f3 f4 = cc
second_or_third false false false false true f h f1 f2 f3 f4 = cc
second_or_third false false false false false f h f1 f2 f3 f4 = cc

pub first_fails : (a b : Bool) → a ≡ false → (a && b) ≡ false
first_fails true b h = cc
first_fails false b h = refl

pub first_of_three : (a b c : Bool) → a ≡ false → (a && b && c) ≡ false
first_of_three true b c h = cc
first_of_three false b c h = refl

pub neither_holds : (a b : Bool) → (a || b) ≡ false → (a ≡ false) × (b ≡ false)
neither_holds true b h = cc
neither_holds false b h = (refl, h)

pub either_way : (b : Bool) → (b ≡ true) ⊎ (b ≡ false)
either_way true = inl refl
either_way false = inr refl

pub if_either : {A : Type 0} (P : A → Type 0) (b : Bool) (x y : A) → (b ≡ true → P x) → (b ≡ false → P y)
    → P (cond b x y)
if_either P true x y f g = f refl
if_either P false x y f g = g refl

-- ---- rules

abbrev pub AllHold : List Demand → Type 0
AllHold [] = Unit {0}
AllHold (demand ∷ rest) = (demand.1 ≡ true) × AllHold rest

fits_cond : {A : Type 0} (P : A → Type 0) (b : Bool) (rule : Ruled A) (number : ℕ) → (b ≡ true → IfFits rule P)
    → IfFits (cond b rule (Breaks number)) P
fits_cond P true rule number f = f refl
fits_cond P false rule number f = tt

pub fits_if : {A : Type 0} (P : A → Type 0) (demands : List Demand) (a : A) → (AllHold demands → P a)
    → IfFits (ruled demands a) P
fits_if P [] a f = f tt
fits_if P (demand ∷ rest) a f =
    fits_cond P demand.1 (ruled rest a) demand.0 (λ h. fits_if P rest a (λ hs. f (h, hs)))

-- ---- integer types

-- a basic type that has a kind
abbrev pub IsReal : Basic → Type 0
IsReal basic = kind_of basic ≡ Some (int_kind basic)

pub kind_number : (type : CType) → is_integer type ≡ true → kind_in type ≡ Some (int_kind (basic_in type))
kind_number (Plain (BasicType b.Void) quals) h = cc
kind_number (Plain (BasicType basic) quals) h = refl
kind_number (Plain (Enumerated number) quals) h = refl
kind_number (Plain (Pointer to) quals) h = cc
kind_number (Plain (Function gives parameters variadic) quals) h = cc
kind_number (Plain (Compound number) quals) h = cc
kind_number (Array of len) h = cc

pub form_number : (type : CType) → is_integer type ≡ true
    → value_form type ≡ Some (form.Number (int_kind (basic_in type)))
form_number (Plain (BasicType b.Void) quals) h = cc
form_number (Plain (BasicType basic) quals) h = refl
form_number (Plain (Enumerated number) quals) h = refl
form_number (Plain (Pointer to) quals) h = cc
form_number (Plain (Function gives parameters variadic) quals) h = cc
form_number (Plain (Compound number) quals) h = cc
form_number (Array of len) h = cc

pub real_in : (type : CType) → IsReal (basic_in type)
real_in (Plain (BasicType b.Void) quals) = refl
real_in (Plain (BasicType basic) quals) = refl
real_in (Plain (Enumerated number) quals) = refl
real_in (Plain (Pointer to) quals) = refl
real_in (Plain (Function gives parameters variadic) quals) = refl
real_in (Plain (Compound number) quals) = refl
real_in (Array of len) = refl

pub promoted_real : (basic : Basic) → IsReal (promoted basic)
promoted_real b.Void = refl
promoted_real other = refl

unsigned_real : (basic : Basic) → IsReal (unsigned_of basic)
unsigned_real b.Void = refl
unsigned_real other = refl

alike_real : (left right : Basic) → IsReal left → IsReal right → IsReal (common_alike left right)
alike_real left right l r = if_either IsReal (nat_le (rank right) (rank left)) left right (λ h. l) (λ h. r)

mixed_real : (unsigned signed : Basic) → IsReal unsigned → IsReal signed → IsReal (common_mixed unsigned signed)
mixed_real unsigned signed u s =
    if_either IsReal (nat_le (rank signed) (rank unsigned)) unsigned
    (cond (has_values_of unsigned signed) signed (unsigned_of signed)) (λ h. u)
    (λ h. if_either IsReal (has_values_of unsigned signed) signed (unsigned_of signed) (λ h2. s)
    (λ h2. unsigned_real signed))

promoted_common_real : (left right : Basic) → IsReal left → IsReal right → IsReal (common_promoted left right)
promoted_common_real left right l r =
    if_either IsReal (is_unsigned left)
    (cond (is_unsigned right) (common_alike left right) (common_mixed left right))
    (cond (is_unsigned right) (common_mixed right left) (common_alike left right))
    (λ h. if_either IsReal (is_unsigned right) (common_alike left right) (common_mixed left right)
    (λ h2. alike_real left right l r) (λ h2. mixed_real left right l r))
    (λ h. if_either IsReal (is_unsigned right) (common_mixed right left) (common_alike left right)
    (λ h2. mixed_real right left r l) (λ h2. alike_real left right l r))

pub common_real : (left right : Basic) → IsReal (common left right)
common_real left right =
    promoted_common_real (promoted left) (promoted right) (promoted_real left) (promoted_real right)

-- ---- forms

pub pointer_form : (type : CType) → is_pointer type ≡ true → value_form type ≡ Some form.Pointer
pointer_form (Plain (Pointer to) quals) h = refl
pointer_form (Plain (BasicType basic) quals) h = cc
pointer_form (Plain (Enumerated number) quals) h = cc
pointer_form (Plain (Function gives parameters variadic) quals) h = cc
pointer_form (Plain (Compound number) quals) h = cc
pointer_form (Array of len) h = cc

pub compound_form : (type : CType) → is_compound type ≡ true → value_form type ≡ Some form.Place
compound_form (Plain (Compound number) quals) h = refl
compound_form (Plain (Pointer to) quals) h = cc
compound_form (Plain (BasicType basic) quals) h = cc
compound_form (Plain (Enumerated number) quals) h = cc
compound_form (Plain (Function gives parameters variadic) quals) h = cc
compound_form (Array of len) h = cc

pub void_form : (type : CType) → is_void type ≡ true → value_form type ≡ Some form.Nothing
void_form (Plain (BasicType b.Void) quals) h = refl
void_form (Plain (BasicType basic) quals) h = cc
void_form (Plain (Pointer to) quals) h = cc
void_form (Plain (Enumerated number) quals) h = cc
void_form (Plain (Function gives parameters variadic) quals) h = cc
void_form (Plain (Compound number) quals) h = cc
void_form (Array of len) h = cc

pub no_pointer : (type : CType) → is_integer type ≡ true → is_pointer type ≡ false
no_pointer (Plain (Pointer to) quals) h = cc
no_pointer (Plain (BasicType basic) quals) h = refl
no_pointer (Plain (Enumerated number) quals) h = refl
no_pointer (Plain (Function gives parameters variadic) quals) h = refl
no_pointer (Plain (Compound number) quals) h = refl
no_pointer (Array of len) h = refl
