-- One token tells expressions from declaration specifiers.
use Rattle.std.proofs.Common.{◌≡◌, inl, inr, ℕ, Bool, true, false, List, [], ◌∷◌, ◌++◌, Option, refl, arith}
use Rattle.critical_table.specs.declared.pos.Pos.{Pos}
use Rattle.c_syntax.specs.declared.expression.Constant.TheVariants as constant
use Rattle.c_syntax.specs.declared.operator.Prefix.{Prefix}
use Rattle.c_syntax.specs.declared.operator.Prefix.TheVariants as prefix
use Rattle.c_syntax.specs.declared.operator.Measure.{Measure}
use Rattle.c_syntax.specs.declared.operator.Measure.TheVariants as measure
use Rattle.c_syntax.specs.declared.specifier.Storage.TheVariants as storage
use Rattle.c_syntax.specs.declared.specifier.Qualifier.TheVariants as qualifier
use Rattle.c_syntax.specs.declared.specifier.BasicWord.TheVariants as basic
use Rattle.c_syntax.specs.declared.specifier.CompoundWord.{CompoundWord}
use Rattle.c_syntax.specs.declared.specifier.CompoundWord.TheVariants as compound
use Rattle.c_syntax.specs.declared.spelled.Spelled.{Spelled}
use Rattle.c_syntax.specs.Tree as tree
use Rattle.c_syntax.specs.Tree.{Expr, TypeName, Specifier, Specifiers, MemberDeclaration, Parameter}
use Rattle.c_syntax.specs.TreeUnit.{Declaration}
use Rattle.c_syntax.specs.First.{begins_specifier, IsFirst, is_specifier_word}
use Rattle.c_syntax.specs.Operators.{prefix_token, measure_word, compound_word}
use Rattle.c_syntax.specs.Scopes.{Scope}
use Rattle.c_syntax.specs.Tokens.{spell_pieces}
use Rattle.c_syntax.specs.Spelling.{spell, spell_specifier, spell_specifiers, spell_type_name, spell_parameter}
use Rattle.c_syntax.specs.Spelling.{spell_member}
use Rattle.c_syntax.specs.SpellingUnit.{spell_declaration}
use Rattle.c_syntax.specs.WellFormed.{SpecifyOneType, IsExpr, IsSpecifier, AreSpecifiers, IsTypeName, IsParameter}
use Rattle.c_syntax.specs.WellFormed.{IsMember}
use Rattle.c_syntax.specs.WellFormedUnit.{IsDeclaration}

pub first_more : (begins : Bool) (scope : Scope) (front more : List Spelled)
    → IsFirst begins scope front → IsFirst begins scope (front ++ more)
first_more begins scope [] more is = absurd is
first_more begins scope (first ∷ front) more is = is

-- ---- expressions

first_pieces : (scope : Scope) (place : Option Pos) (wide : Bool) (pieces : List _)
    → (pieces ≡ [] → ⊥) → IsFirst false scope (spell_pieces place wide pieces)
first_pieces scope place wide [] some = absurd (some refl)
first_pieces scope place wide (units ∷ rest) some = refl

first_prefix : (scope : Scope) (operator : Prefix) → begins_specifier scope (prefix_token operator) ≡ false
first_prefix scope prefix.PreInc = refl
first_prefix scope prefix.PreDec = refl
first_prefix scope prefix.AddressOf = refl
first_prefix scope prefix.Deref = refl
first_prefix scope prefix.Plus = refl
first_prefix scope prefix.Minus = refl
first_prefix scope prefix.Flip = refl
first_prefix scope prefix.Not = refl
first_prefix scope prefix.SizeExpr = refl

first_measure : (operator : Measure) → is_specifier_word (measure_word operator) ≡ false
first_measure measure.SizeType = refl
first_measure measure.AlignType = refl

-- no expression begins with a typedef name or a word of a declaration specifier
pub first_expr : (expr : Expr) (scope : Scope) (level : ℕ) → IsExpr expr scope level → IsFirst false scope (spell expr)
first_expr (tree.Const pos (constant.Number number)) scope level is = refl
first_expr (tree.Const pos (constant.Character value wide)) scope level is = refl
first_expr (tree.Id pos x) scope level is = is
first_expr (tree.Text pos text) scope level is = first_pieces scope _ text.wide text.pieces is
first_expr (tree.Paren inner) scope level is = refl
first_expr (tree.Index pos array index) scope level is =
    first_more false scope _ _ (first_more false scope _ _ (first_expr array scope _ is.1))
first_expr (tree.Call pos function arguments) scope level is =
    first_more false scope _ _ (first_more false scope _ _ (first_expr function scope _ is.1))
first_expr (tree.Member pos access whole x) scope level is = first_more false scope _ _ (first_expr whole scope _ is.1)
first_expr (tree.PostfixOp pos operator operand) scope level is =
    first_more false scope _ _ (first_expr operand scope _ is.1)
first_expr (tree.PrefixOp pos operator operand) scope level is = first_prefix scope operator
first_expr (tree.MeasureOp pos operator type) scope level is = first_measure operator
first_expr (tree.Cast pos type operand) scope level is = refl
first_expr (tree.InfixOp pos operator left right) scope level is =
    first_more false scope _ _ (first_expr left scope _ is.1)
first_expr (tree.Cond pos test then else) scope level is =
    first_more false scope _ _ (first_more false scope _ _ (first_expr test scope _ is.1))

-- ---- declaration specifiers

first_compound : (compound : CompoundWord) → is_specifier_word (compound_word compound) ≡ true
first_compound compound.Struct = refl
first_compound compound.Union = refl

first_specifier : (specifier : Specifier) (scope : Scope)
    → IsSpecifier specifier scope → IsFirst true scope (spell_specifier specifier)
first_specifier (tree.StorageClass pos storage.Typedef) scope is = refl
first_specifier (tree.StorageClass pos storage.Extern) scope is = refl
first_specifier (tree.StorageClass pos storage.Static) scope is = refl
first_specifier (tree.StorageClass pos storage.Auto) scope is = refl
first_specifier (tree.StorageClass pos storage.Register) scope is = refl
first_specifier (tree.TypeQualifier pos qualifier.Const) scope is = refl
first_specifier (tree.TypeQualifier pos qualifier.Restrict) scope is = refl
first_specifier (tree.TypeQualifier pos qualifier.Volatile) scope is = refl
first_specifier (tree.Inline pos) scope is = refl
first_specifier (tree.BasicType pos basic.Void) scope is = refl
first_specifier (tree.BasicType pos basic.Char) scope is = refl
first_specifier (tree.BasicType pos basic.Short) scope is = refl
first_specifier (tree.BasicType pos basic.Int) scope is = refl
first_specifier (tree.BasicType pos basic.Long) scope is = refl
first_specifier (tree.BasicType pos basic.Signed) scope is = refl
first_specifier (tree.BasicType pos basic.Unsigned) scope is = refl
first_specifier (tree.BasicType pos basic.Bool) scope is = refl
first_specifier (tree.CompoundTag pos word tag) scope is = first_compound word
first_specifier (tree.Compound pos word tag members) scope is = first_compound word
first_specifier (tree.EnumTag pos tag) scope is = refl
first_specifier (tree.Enum pos tag enumerators comma) scope is = refl
first_specifier (tree.TypedefName pos x) scope is = is

-- one type at least is among the specifiers (6.7.2p2), so there is one
pub some_type : SpecifyOneType tree.NoSpecifier → ⊥
some_type (inl one) = omega (arith, one.0)
some_type (inr one) = omega (arith, one.1)

-- specifiers, and what begins with them, always do
pub first_specifiers : (specifiers : Specifiers) (scope : Scope)
    → SpecifyOneType specifiers → AreSpecifiers specifiers scope → IsFirst true scope (spell_specifiers specifiers)
first_specifiers tree.NoSpecifier scope one are = absurd (some_type one)
first_specifiers (tree.MoreSpecifiers first rest) scope one are =
    first_more true scope _ _ (first_specifier first scope are.0)

pub first_declaration : (declaration : Declaration) (scope : Scope)
    → IsDeclaration declaration scope → IsFirst true scope (spell_declaration declaration)
first_declaration declaration scope is =
    first_more true scope _ _ (first_more true scope _ _ (first_specifiers declaration.specifiers scope is.0 is.1))

pub first_type_name : (type : TypeName) (scope : Scope) → IsTypeName type scope
    → IsFirst true scope (spell_type_name type)
first_type_name (tree.NamedType specifiers declarator) scope is =
    first_more true scope _ _ (first_specifiers specifiers scope is.0 is.1)

pub first_parameter : (parameter : Parameter) (scope : Scope)
    → IsParameter parameter scope → IsFirst true scope (spell_parameter parameter)
first_parameter (tree.Param specifiers declarator) scope is =
    first_more true scope _ _ (first_specifiers specifiers scope is.0 is.1)

pub first_member : (member : MemberDeclaration) (scope : Scope)
    → IsMember member scope → IsFirst true scope (spell_member member)
first_member (tree.Declares specifiers declarators) scope is =
    first_more true scope _ _ (first_more true scope _ _ (first_specifiers specifiers scope is.0 is.1))
