-- The rules at nodes just on either side of them.
use Rattle.std.proofs.Common.{inl, inr, true, false, [], ◌∷◌, ◌++◌, None, refl, arith}
use Rattle.std.specs.Prelude.{codes}
use Rattle.critical_table.specs.declared.pos.Pos.{Pos}
use Rattle.c_syntax.specs.declared.operator.Arithmetic.TheVariants.{Multiply, Subtract}
use Rattle.c_syntax.specs.declared.operator.Infix.TheVariants as between
use Rattle.c_syntax.specs.declared.operator.Prefix.TheVariants.{Minus, SizeExpr}
use Rattle.c_syntax.specs.declared.specifier.BasicWord.TheVariants.{Int, Unsigned}
use Rattle.c_syntax.specs.declared.specifier.Qualifier.TheVariants as qualifier
use Rattle.c_syntax.specs.Tree as tree
use Rattle.c_syntax.specs.Tree.{Expr, Specifiers}
use Rattle.c_syntax.specs.TreeUnit.{Statement, ExprStmt, If, IfElse, While, Do}
use Rattle.c_syntax.specs.Levels.{expression}
use Rattle.c_syntax.specs.Scopes.{Scope}
use Rattle.c_syntax.specs.WellFormed.{SpecifyOneType, IsExpr, IsDeclarator, IsParameter}
use Rattle.c_syntax.specs.WellFormedUnit.{IsStatement}

abbrev pub here : Pos
here = record { line = 1; column = 1 }

-- a scope where T is a type, and one where an inner declaration hides it
abbrev pub typed : Scope
typed = record { name = codes "T"; names_type = true } ∷ []

abbrev pub hidden : Scope
hidden = typed ++ record { name = codes "T"; names_type = false } ∷ []

abbrev pub a : Expr
a = tree.Id here (codes "a")

abbrev pub t : Expr
t = tree.Id here (codes "T")

abbrev minus : Expr → Expr → Expr
minus left right = tree.InfixOp here (between.Arithmetic Subtract) left right

abbrev pub times : Expr → Expr → Expr
times left right = tree.InfixOp here (between.Arithmetic Multiply) left right

-- ---- precedence and association

-- a - a - a
pub left_of_left : IsExpr (minus (minus a a) a) [] expression
left_of_left = (omega arith, (omega arith, refl, refl), refl)

-- a - (a - a) without its parentheses
pub right_of_left : IsExpr (minus a (minus a a)) [] expression → ⊥
right_of_left is = omega (arith, is.2.0)

-- a * a - a, and a * (a - a) without its parentheses
pub tighter : IsExpr (minus (times a a) a) [] expression
tighter = (omega arith, (omega arith, refl, refl), refl)

pub looser : IsExpr (times a (minus a a)) [] expression → ⊥
looser is = omega (arith, is.2.0)

-- f(a, a) has two arguments, a comma expression is none
pub comma_argument : IsExpr (tree.Call here a (tree.MoreExprs (tree.InfixOp here between.Comma a a) tree.NoExpr)) []
    expression → ⊥
comma_argument is = omega (arith, is.2.0.0)

-- -a = a is well-formed, and is refused by a later rule; -a - a = a isn't
pub assigned : IsExpr (tree.InfixOp here between.Assign (tree.PrefixOp here Minus a) a) [] expression
assigned = (omega arith, (omega arith, refl), refl)

pub assigned_sum : IsExpr (tree.InfixOp here between.Assign (minus a a) a) [] expression → ⊥
assigned_sum is = omega (arith, is.1.0)

abbrev pub int : Specifiers
int = tree.MoreSpecifiers (tree.BasicType here Int) tree.NoSpecifier

-- sizeof (int) * a is no cast under sizeof
pub sizeof_cast : IsExpr (tree.PrefixOp here SizeExpr (tree.Cast here (tree.NamedType int tree.Omitted) a)) []
    expression → ⊥
sizeof_cast is = omega (arith, is.1.0)

-- ---- names

-- T * a
pub product : IsExpr (times t a) hidden expression
product = (omega arith, refl, refl)

pub product_of_type : IsExpr (times t a) typed expression → ⊥
product_of_type is = cc (is.1)

abbrev pub named : Specifiers
named = tree.MoreSpecifiers (tree.TypedefName here (codes "T")) tree.NoSpecifier

-- (T) - a
pub cast_of_type : IsExpr (tree.Cast here (tree.NamedType named tree.Omitted) (tree.PrefixOp here Minus a)) typed
    expression
cast_of_type = (omega arith, (inr (refl, refl), (refl, tt), tt, refl), (omega arith, refl))

pub cast_of_hidden : IsExpr (tree.Cast here (tree.NamedType named tree.Omitted) (tree.PrefixOp here Minus a)) hidden
    expression → ⊥
cast_of_hidden is = cc (is.1.1.0)

-- (enum {T})a - T, where T was a type before
pub enumerator_hides
    : IsExpr (minus
    (tree.Cast here
    (tree.NamedType
    (tree.MoreSpecifiers
    (tree.Enum here None (tree.MoreEnumerators (tree.Enumerates here (codes "T") tree.Without) tree.NoEnumerator)
    false) tree.NoSpecifier) tree.Omitted) a) t) typed expression
enumerator_hides = (omega arith, (omega arith, (inr (refl, refl), ((tt, (tt, tt)), tt), tt, refl), refl), refl)

-- ---- specifiers and declarators

-- unsigned T has T for no type, and const alone no type
pub unsigned_type : SpecifyOneType (tree.MoreSpecifiers (tree.BasicType here Unsigned) named) → ⊥
unsigned_type (inl one) = cc (one.1)
unsigned_type (inr one) = cc (one.0)

pub const_alone : SpecifyOneType (tree.MoreSpecifiers (tree.TypeQualifier here qualifier.Const) tree.NoSpecifier) → ⊥
const_alone (inl one) = omega (arith, one.0)
const_alone (inr one) = cc (one.1)

pub const_type : SpecifyOneType (tree.MoreSpecifiers (tree.TypeQualifier here qualifier.Const) named)
const_type = inr (refl, refl)

-- the parameter int (T): a function that takes a T, or T itself where T is no type
pub parameter_takes_type
    : IsParameter
    (tree.Param int
    (tree.FunctionOf tree.Omitted (tree.MoreParameters (tree.Param named tree.Omitted) tree.NoParameter) false)) typed
parameter_takes_type =
    (inl (omega arith, refl), (tt, tt), (tt, tt, ((inr (refl, refl), (refl, tt), tt, tt), tt), tt), tt)

pub parameter_of_type : IsParameter (tree.Param int (tree.DParen (tree.Name here (codes "T")))) typed → ⊥
parameter_of_type is = cc (is.3.0)

pub parameter_of_no_type : IsParameter (tree.Param int (tree.DParen (tree.Name here (codes "T")))) hidden
parameter_of_no_type = (inl (omega arith, refl), (tt, tt), (tt, tt), (refl, tt))

-- int (*T) is T itself
pub pointer_parameter : IsParameter (tree.Param int (tree.DParen (tree.PointerTo [] (tree.Name here (codes "T")))))
    typed
pointer_parameter = (inl (omega arith, refl), (tt, tt), (tt, tt), (tt, tt))

-- no () around an omitted identifier, no array of a pointer without parentheses, no ... alone
pub empty_parentheses : IsDeclarator (tree.DParen tree.Omitted) [] → ⊥
empty_parentheses is = is.0

pub array_of_pointer : IsDeclarator (tree.ArrayOf (tree.PointerTo [] (tree.Name here (codes "a"))) tree.Without) [] → ⊥
array_of_pointer is = is.0

pub ellipsis_alone : IsDeclarator (tree.FunctionOf tree.Omitted tree.NoParameter true) [] → ⊥
ellipsis_alone is = is.3

-- ---- statements

abbrev empty : Statement
empty = ExprStmt None

-- if (a) if (a) ; else ; has no else in the outer if, which may have one behind a block or a do
pub else_of_outer : IsStatement (IfElse here a (If here a empty) empty) [] → ⊥
else_of_outer is = is.2

pub else_through_while : IsStatement (IfElse here a (While here a (If here a empty)) empty) [] → ⊥
else_through_while is = is.2

pub else_behind_do : IsStatement (IfElse here a (Do here (If here a empty) a) empty) []
else_behind_do = (refl, ((refl, tt), refl), tt, tt)
