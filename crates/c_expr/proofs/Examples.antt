-- Small texts, each with what the walk answers, and which of two constraints is told.
use Rattle.std.proofs.Common.{◌≡◌, ℕ, List, [], ◌∷◌, true, false, refl}
use Rattle.std.specs.Prelude.{pos, Option, Some, None, codes}
use Rattle.critical_table.specs.declared.pos.Pos.{Pos}
use Rattle.c_types.specs.declared.basic.Basic.TheVariants as b
use Rattle.c_types.specs.CType.{CType, Nil, Cons, Plain, Array, Function, Compound, no_quals, void}
use Rattle.c_types.specs.Structures.{TypedMember, members_of_body, structure_at}
use Rattle.c_syntax.specs.declared.expression.Constant.TheVariants.{Number}
use Rattle.c_syntax.specs.declared.specifier.BasicWord.TheVariants as word
use Rattle.c_syntax.specs.declared.specifier.CompoundWord.TheVariants.{Struct}
use Rattle.c_syntax.specs.declared.specifier.Qualifier.TheVariants.{Restrict}
use Rattle.c_syntax.specs.declared.specifier.Tag.{Tag}
use Rattle.c_syntax.specs.Tree.{Expr, Const, Id, NamedType, Without, With, Specifier, Specifiers, NoSpecifier}
use Rattle.c_syntax.specs.Tree.{MoreSpecifiers, TypeQualifier, BasicType, CompoundTag, Compound, EnumTag, Enum}
use Rattle.c_syntax.specs.Tree.{
  Declares,
  NoMember,
  MoreMembers,
  NoDeclarator,
  MoreDeclarators,
  Enumerates,
  Declarator,
}
use Rattle.c_syntax.specs.Tree.{NoEnumerator, MoreEnumerators, Omitted, Name, DParen, PointerTo, ArrayOf, FunctionOf}
use Rattle.c_syntax.specs.Tree.{Param, Parameters, NoParameter, MoreParameters}
use Rattle.c_scopes.specs.Env.{Env}
use Rattle.c_scopes.specs.Named.{Named, ConstantOf}
use Rattle.c_scopes.specs.Scopes.{no_names, found}
use Rattle.c_conversions.specs.Kinds.{basic_type, pointer_to}
use Rattle.c_type_rules.specs.declared.context.Setting.TheVariants as setting
use Rattle.c_type_parts.specs.Answers.{Answer, Gives, Refuses, and_then, settle}
use Rattle.c_type_parts.specs.declared.derivations.Around.{Around}
use Rattle.c_type_parts.specs.Declaring.{of_derivations, derived_type}
use Rattle.c_type_parts.specs.Outlines.{bare_context, of_specifiers, type_on}
use Rattle.c_expr.specs.Typing.{typed, named, each_specified, one_specified, members_typed, member_typed}
use Rattle.c_expr.specs.Typing.{each_member, enumerated, enumerator_value, derived, array_length, parameters_typed}
use Rattle.c_expr.specs.Typing.{parameter_typed, specified, declared}
use Rattle.c_expr.specs.Uses.{as_value, as_used}

-- a place in the first line
abbrev at : ℕ → Pos
at column = record { line = 1; column = column }

-- a file scope without names
abbrev empty : Env
empty = record { scopes = no_names ∷ []; structures = []; enumerations = 0 }

abbrev outside : Around
outside = record { at = at 1; may_vary = false }

abbrev int : CType
int = basic_type b.Int

abbrev number : ℕ → ℕ → Expr
number column n = Const (at column) (Number (record { value = n; decimal = true; unsigned = false; longs = 0 }))

abbrev int_word : Specifier
int_word = BasicType (at 1) word.Int

abbrev only : Specifier → Specifiers
only one = MoreSpecifiers one NoSpecifier

abbrev void_alone : Parameters
void_alone = MoreParameters (Param (only (BasicType (at 5) word.Void)) Omitted) NoParameter

abbrev tag_at : ℕ → List ℕ → Tag
tag_at column name = record { pos = at column; name = name }

abbrev tag_s : Tag
tag_s = tag_at 8 (codes "s")

abbrev struct_0 : CType
struct_0 = Plain (Compound 0) no_quals

-- int NAME(int, ...)
abbrev with_more : List ℕ → Declarator
with_more name = FunctionOf (Name (at 5) name) (MoreParameters (Param (only int_word) Omitted) NoParameter) true

-- the members of the first structure behind an answer
abbrev members_behind : Answer CType → List TypedMember
members_behind (Gives type env) = members_of_body (structure_at env.structures 0).body
members_behind (Refuses number at) = []

-- what a name stands for behind an answer
abbrev named_behind : List ℕ → Answer CType → Option Named
named_behind name (Gives type env) = found env.scopes false name
named_behind name (Refuses number at) = None

-- int *[3]
array_of_pointers : named (at 9) (NamedType (only int_word) (PointerTo [] (ArrayOf Omitted (With (number 7 3)))))
    empty
    ≡ Gives (Array (pointer_to int) (Some 3)) empty
unfolding typed named each_specified one_specified members_typed member_typed each_member enumerated
    enumerator_value derived array_length parameters_typed parameter_typed and_then settle of_specifiers
    of_derivations
    derived_type type_on as_value as_used
array_of_pointers = refl

-- int (*)(void)
pointer_to_function : named (at 9) (NamedType (only int_word) (FunctionOf (DParen (PointerTo [] Omitted))
    void_alone false)) empty
    ≡ Gives (pointer_to (Plain (Function int Nil false) no_quals)) empty
unfolding typed named each_specified one_specified members_typed member_typed each_member enumerated
    enumerator_value derived array_length parameters_typed parameter_typed and_then settle of_specifiers
    of_derivations
    derived_type type_on as_value as_used
pointer_to_function = refl

-- int (*)(int [5])
parameter_is_adjusted : named (at 9) (NamedType (only int_word) (FunctionOf (DParen (PointerTo [] Omitted))
    (MoreParameters
    (Param (only int_word) (ArrayOf Omitted (With (number 7 5)))) NoParameter) false)) empty
    ≡ Gives (pointer_to (Plain (Function int (Cons (pointer_to int) Nil) false) no_quals)) empty
unfolding typed named each_specified one_specified members_typed member_typed each_member enumerated
    enumerator_value derived array_length parameters_typed parameter_typed and_then settle of_specifiers
    of_derivations
    derived_type type_on as_value as_used
parameter_is_adjusted = refl

-- void x[2]: the elements are incomplete, which is told at the name
array_of_void : declared outside (ArrayOf (Name (at 6) (codes "x")) (With (number 8 2))) void empty ≡ Refuses 7 (at 6)
unfolding typed named each_specified one_specified members_typed member_typed each_member enumerated
    enumerator_value derived array_length parameters_typed parameter_typed and_then settle of_specifiers
    of_derivations
    derived_type type_on as_value as_used
array_of_void = refl

-- int a[0]: the length is told at itself
length_zero : declared outside (ArrayOf (Name (at 5) (codes "a")) (With (number 7 0))) int empty ≡ Refuses 9 (at 7)
unfolding typed named each_specified one_specified members_typed member_typed each_member enumerated
    enumerator_value derived array_length parameters_typed parameter_typed and_then settle of_specifiers
    of_derivations
    derived_type type_on as_value as_used
length_zero = refl

-- char a[16777217]
too_large : declared outside (ArrayOf (Name (at 6) (codes "a")) (With (number 8 16777217))) (basic_type b.Char) empty
    ≡ Refuses 8 (at 6)
unfolding typed named each_specified one_specified members_typed member_typed each_member enumerated
    enumerator_value derived array_length parameters_typed parameter_typed and_then settle of_specifiers
    of_derivations
    derived_type type_on as_value as_used
too_large = refl

-- int a[y][0]: the first length fails first, by its name
first_length_first : declared outside (ArrayOf (ArrayOf (Name (at 5) (codes "a")) (With (Id (at 7) (codes "y"))))
    (With (number 10 0)))
    int empty ≡ Refuses 1 (at 7)
unfolding typed named each_specified one_specified members_typed member_typed each_member enumerated
    enumerator_value derived array_length parameters_typed parameter_typed and_then settle of_specifiers
    of_derivations
    derived_type type_on as_value as_used
first_length_first = refl

-- int f(int x, int x)
parameter_twice : declared outside (FunctionOf (Name (at 5) (codes "f")) (MoreParameters (Param (only int_word)
    (Name (at 11) (codes "x")))
    (MoreParameters (Param (only int_word) (Name (at 18) (codes "x"))) NoParameter)) false) int empty
    ≡ Refuses 2 (at 18)
unfolding typed named each_specified one_specified members_typed member_typed each_member enumerated
    enumerator_value derived array_length parameters_typed parameter_typed and_then settle of_specifiers
    of_derivations
    derived_type type_on as_value as_used
parameter_twice = refl

-- int printf(int, ...), and int f(int, ...)
printf_may_vary : declared (record { at = at 1; may_vary = true }) (with_more (codes "printf")) int empty
    ≡ Gives (Plain (Function int (Cons int Nil) true) no_quals) empty
unfolding typed named each_specified one_specified members_typed member_typed each_member enumerated
    enumerator_value derived array_length parameters_typed parameter_typed and_then settle of_specifiers
    of_derivations
    derived_type type_on as_value as_used
printf_may_vary = refl

others_may_not_vary : declared (record { at = at 1; may_vary = true }) (with_more (codes "f")) int empty ≡ Refuses
    43 (at 5)
unfolding typed named each_specified one_specified members_typed member_typed each_member enumerated
    enumerator_value derived array_length parameters_typed parameter_typed and_then settle of_specifiers
    of_derivations
    derived_type type_on as_value as_used
others_may_not_vary = refl

-- restrict int
restrict_int : specified (bare_context setting.TypeName) (MoreSpecifiers (TypeQualifier (at 1) Restrict) (only
    int_word)) empty
    ≡ Refuses 12 (at 1)
unfolding typed named each_specified one_specified members_typed member_typed each_member enumerated
    enumerator_value derived array_length parameters_typed parameter_typed and_then settle of_specifiers
    of_derivations
    derived_type type_on as_value as_used
restrict_int = refl

-- struct s { struct s *p; }: the structure is in scope in its own body
refers_to_itself : members_behind (specified (bare_context setting.File) (only (Compound (at 1) Struct (Some tag_s)
    (MoreMembers (Declares
    (only (CompoundTag (at 12) Struct tag_s)) (MoreDeclarators (PointerTo [] (Name (at 22) (codes "p")))
    NoDeclarator))
    NoMember))) empty) ≡ record { name = codes "p"; of = pointer_to struct_0; at = 0 } ∷ []
unfolding typed named each_specified one_specified members_typed member_typed each_member enumerated
    enumerator_value derived array_length parameters_typed parameter_typed and_then settle of_specifiers
    of_derivations
    derived_type type_on as_value as_used
refers_to_itself = refl

-- struct s { struct s p; }: but incomplete
contains_itself : specified (bare_context setting.File) (only (Compound (at 1) Struct (Some tag_s) (MoreMembers
    (Declares
    (only (CompoundTag (at 12) Struct tag_s)) (MoreDeclarators (Name (at 21) (codes "p")) NoDeclarator)) NoMember)))
    empty ≡ Refuses 7 (at 21)
unfolding typed named each_specified one_specified members_typed member_typed each_member enumerated
    enumerator_value derived array_length parameters_typed parameter_typed and_then settle of_specifiers
    of_derivations
    derived_type type_on as_value as_used
contains_itself = refl

-- enum e, which no body declares
unknown_enumeration : specified (bare_context setting.File) (only (EnumTag (at 1) (tag_at 6 (codes "e")))) empty ≡
    Refuses 7 (at 6)
unfolding typed named each_specified one_specified members_typed member_typed each_member enumerated
    enumerator_value derived array_length parameters_typed parameter_typed and_then settle of_specifiers
    of_derivations
    derived_type type_on as_value as_used
unknown_enumeration = refl

-- enum { A = 3, B }: what B stands for
next_enumerator : named_behind (codes "B") (specified (bare_context setting.File) (only (Enum (at 1) None
    (MoreEnumerators
    (Enumerates (at 8) (codes "A") (With (number 12 3))) (MoreEnumerators (Enumerates (at 15) (codes "B") Without)
    NoEnumerator)) false)) empty) ≡ Some (ConstantOf int (pos 4))
unfolding typed named each_specified one_specified members_typed member_typed each_member enumerated
    enumerator_value derived array_length parameters_typed parameter_typed and_then settle of_specifiers
    of_derivations
    derived_type type_on as_value as_used
next_enumerator = refl

-- enum { A = 2147483647, A }: twice, and no int
twice_and_too_large : specified (bare_context setting.File) (only (Enum (at 1) None (MoreEnumerators
    (Enumerates (at 8) (codes "A") (With (number 12 2147483647))) (MoreEnumerators
    (Enumerates (at 24) (codes "A") Without) NoEnumerator)) false)) empty ≡ Refuses 2 (at 24)
unfolding typed named each_specified one_specified members_typed member_typed each_member enumerated
    enumerator_value derived array_length parameters_typed parameter_typed and_then settle of_specifiers
    of_derivations
    derived_type type_on as_value as_used
twice_and_too_large = refl
