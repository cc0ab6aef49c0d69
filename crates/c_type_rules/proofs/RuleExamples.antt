-- Each rule on either side of its constraints, and where two of them fail.
use Rattle.std.proofs.Common.{◌≡◌, List, [], ◌∷◌, true, false, refl}
use Rattle.std.specs.Prelude.{pos, negsuc, Some, None, Ok, Err, codes}
use Rattle.c_types.specs.declared.basic.Basic.TheVariants as b
use Rattle.c_types.specs.CType.{CType, Nil, Cons, Plain, Array, Pointer, Function, Compound, Enumerated, no_quals}
use Rattle.c_types.specs.Structures.{Structure, no_members}
use Rattle.c_core.specs.declared.fault.ConstFault.TheVariants.{NotConstant, Value}
use Rattle.c_syntax.specs.declared.specifier.Qualifier.TheVariants.{Const, Restrict}
use Rattle.c_syntax.specs.declared.specifier.Storage.TheVariants.{Auto, Register, Static}
use Rattle.c_scopes.specs.declared.binding.TagState.TheVariants as state
use Rattle.c_scopes.specs.Named.{TagOf, TypedefOf}
use Rattle.c_scopes.specs.Ruled.{Fits, Breaks}
use Rattle.c_conversions.specs.Kinds.{basic_type, pointer_to}
use Rattle.c_type_rules.specs.declared.context.Setting.TheVariants as setting
use Rattle.c_type_rules.specs.Arrays.{length_rule, array_rule}
use Rattle.c_type_rules.specs.Enumerators.{given_value_rule, enumerator_rule}
use Rattle.c_type_rules.specs.Functions.{parameter_rule, function_rule}
use Rattle.c_type_rules.specs.Members.{member_rule, no_member_rule, body_rule}
use Rattle.c_type_rules.specs.Qualified.{pointer_rule, quals_of_words, restrict_rule}
use Rattle.c_type_rules.specs.Settings.{storage_rule}
use Rattle.c_type_rules.specs.Tags.{compound_tag_rule, compound_body_rule, enumerated_tag_rule, enumerated_body_rule}

abbrev int : CType
int = basic_type b.Int

abbrev void : CType
void = basic_type b.Void

-- int f(void)
abbrev function : CType
function = Plain (Function int Nil false) no_quals

-- one structure, which is incomplete
abbrev one : List Structure
one = no_members false ∷ []

abbrev struct_s : CType
struct_s = Plain (Compound 0) no_quals

-- ---- qualifiers: int * const restrict p; int (* restrict f)(void); restrict T x; where T is int *

restrict_pointer : pointer_rule (quals_of_words (Const ∷ Restrict ∷ [])) int
    ≡ Fits (Plain (Pointer int) (record { constant = true; volatile = false; restricted = true }))
restrict_pointer = refl

restrict_to_function : pointer_rule (quals_of_words (Restrict ∷ [])) function ≡ Breaks 12
restrict_to_function = refl

restrict_typedef : restrict_rule (Some (Array (pointer_to void) (Some 2))) Restrict ≡ Fits tt
restrict_typedef = refl

restrict_int : restrict_rule None Restrict ≡ Breaks 12
restrict_int = refl

-- ---- arrays

length_zero : length_rule (Ok (pos 0)) ≡ Breaks 9
length_zero = refl

length_variable : length_rule (Err NotConstant) ≡ Breaks 9
length_variable = refl

length_undefined : length_rule (Err Value) ≡ Breaks 42
length_undefined = refl

array_of_int : array_rule [] int (Some 4194304) ≡ Fits (Array int (Some 4194304))
array_of_int = refl

array_too_large : array_rule [] int (Some 4194305) ≡ Breaks 8
array_too_large = refl

array_of_void : array_rule [] void (Some 1) ≡ Breaks 7
array_of_void = refl

array_of_incomplete : array_rule one struct_s None ≡ Breaks 7
array_of_incomplete = refl

-- int a[2][];
array_of_unknown_length : array_rule [] (Array int None) (Some 2) ≡ Breaks 9
array_of_unknown_length = refl

array_of_functions : array_rule [] function (Some 2) ≡ Breaks 10
array_of_functions = refl

-- ---- functions

array_parameter : parameter_rule (Array int None) ≡ Fits (pointer_to int)
array_parameter = refl

function_parameter : parameter_rule function ≡ Fits (pointer_to function)
function_parameter = refl

void_parameter : parameter_rule void ≡ Breaks 45
void_parameter = refl

gives_array : function_rule (Array int (Some 2)) Nil true false ≡ Breaks 10
gives_array = refl

with_more_arguments : function_rule int (Cons int Nil) true false ≡ Breaks 43
with_more_arguments = refl

-- ---- storage words

static_parameter : storage_rule setting.Parameter true Static ≡ Breaks 46
static_parameter = refl

second_register : storage_rule setting.Parameter true Register ≡ Breaks 5
second_register = refl

auto_outside : storage_rule setting.File false Auto ≡ Breaks 5
auto_outside = refl

-- ---- tags

union_of_struct : compound_tag_rule one true (Some (TagOf struct_s state.Declared)) ≡ Breaks 6
union_of_struct = refl

known_struct : compound_tag_rule one false (Some (TagOf struct_s state.Begun)) ≡ Fits (Some struct_s)
known_struct = refl

second_body : compound_body_rule one false (Some (TagOf struct_s state.Begun)) ≡ Breaks 6
second_body = refl

-- enum e { A = sizeof(enum e) };
enum_in_its_body : enumerated_tag_rule (Some (TagOf (Plain (Enumerated 0) no_quals) state.Begun)) ≡ Breaks 7
enum_in_its_body = refl

enum_of_struct : enumerated_tag_rule (Some (TagOf struct_s state.Declared)) ≡ Breaks 6
enum_of_struct = refl

unknown_enum : enumerated_tag_rule None ≡ Breaks 7
unknown_enum = refl

second_enum : enumerated_body_rule (Some (TagOf struct_s state.Declared)) ≡ Breaks 6
second_enum = refl

-- ---- enumerators

largest : enumerator_rule None (Some (pos 2147483647)) ≡ Fits (pos 2147483647)
largest = refl

too_large : enumerator_rule None (Some (pos 2147483648)) ≡ Breaks 14
too_large = refl

least : enumerator_rule None (Some (negsuc 2147483647)) ≡ Fits (negsuc 2147483647)
least = refl

twice_and_too_large : enumerator_rule (Some (TypedefOf int)) None ≡ Breaks 2
twice_and_too_large = refl

undefined : given_value_rule (Err Value) ≡ Breaks 42
undefined = refl

-- ---- members

member : member_rule [] (codes "a" ∷ []) (codes "b") int ≡ Fits tt
member = refl

given_twice : member_rule [] (codes "a" ∷ []) (codes "a") int ≡ Breaks 11
given_twice = refl

-- struct s { int a; struct s a; };
given_twice_and_incomplete : member_rule one (codes "a" ∷ []) (codes "a") struct_s ≡ Breaks 7
given_twice_and_incomplete = refl

member_function : member_rule [] [] (codes "a") function ≡ Breaks 11
member_function = refl

member_without_length : member_rule [] [] (codes "a") (Array int None) ≡ Breaks 9
member_without_length = refl

nothing_declared : no_member_rule false ≡ Breaks 3
nothing_declared = refl

tag_alone : no_member_rule true ≡ Breaks 11
tag_alone = refl

too_large_together : body_rule false (codes "a" ∷ codes "b" ∷ [])
    (Array (basic_type b.Char) (Some 16777216) ∷ int ∷ []) [] ≡ Breaks 8
too_large_together = refl
