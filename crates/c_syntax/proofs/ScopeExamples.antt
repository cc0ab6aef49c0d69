-- Where a name is in scope, at nodes just on either side of each rule.
use Rattle.std.proofs.Common.{◌≡◌, inl, inr, true, false, [], ◌∷◌, ◌++◌, Some, None, refl, arith}
use Rattle.std.specs.Prelude.{codes}
use Rattle.c_syntax.specs.declared.operator.Prefix.TheVariants.{SizeExpr}
use Rattle.c_syntax.specs.declared.operator.Measure.TheVariants.{SizeType}
use Rattle.c_syntax.specs.Tree as tree
use Rattle.c_syntax.specs.Tree.{Expr, Specifier, Parameters}
use Rattle.c_syntax.specs.TreeUnit as unit
use Rattle.c_syntax.specs.TreeUnit.{Declaration, Statement, BlockItems, Function}
use Rattle.c_syntax.specs.Scopes.{is_type}
use Rattle.c_syntax.specs.ScopesUnit.{function_adds}
use Rattle.c_syntax.specs.WellFormed.{IsSpecifier, AreParameters}
use Rattle.c_syntax.specs.WellFormedUnit.{IsDeclaration, IsStatement, AreBlockItems, IsFunction}
use Rattle.c_syntax.proofs.Examples.{here, typed, a, t, times, int, named}

-- sizeof(T), of a value and of a type
abbrev size_of_value : Expr
size_of_value = tree.PrefixOp here SizeExpr (tree.Paren t)

abbrev size_of_type : Expr
size_of_type = tree.MeasureOp here SizeType (tree.NamedType named tree.Omitted)

-- int T = value;
abbrev declares : Expr → Declaration
declares value = record {
  specifiers = int;
  declarators = record { declarator = tree.Name here (codes "T"); initializer = Some (unit.Single value) } ∷ [];
}

pub own_initializer : IsDeclaration (declares size_of_value) typed
own_initializer = (inl (omega arith, refl), (tt, tt), (tt, refl, (omega arith, refl), tt))

pub own_initializer_of_type : IsDeclaration (declares size_of_type) typed → ⊥
own_initializer_of_type is = cc (is.2.2.1.1.0)

-- enum {T = sizeof(T)} has the type, enum {T, U = sizeof(T)} the enumerator
pub own_value
    : IsSpecifier
    (tree.Enum here None (tree.MoreEnumerators (tree.Enumerates here (codes "T") (tree.With size_of_type))
    tree.NoEnumerator) false) typed
own_value = (tt, ((omega arith, (inr (refl, refl), (refl, tt), tt, refl)), tt))

abbrev enumeration : Expr → Specifier
enumeration value =
    tree.Enum here None (tree.MoreEnumerators (tree.Enumerates here (codes "T") tree.Without)
    (tree.MoreEnumerators (tree.Enumerates here (codes "U") (tree.With value)) tree.NoEnumerator)) false

pub later_value : IsSpecifier (enumeration size_of_value) typed
later_value = (tt, (tt, ((omega arith, refl), tt)))

pub later_value_of_type : IsSpecifier (enumeration size_of_type) typed → ⊥
later_value_of_type is = cc (is.1.1.0.1.1.0)

-- (int T, int a[sizeof(T)])
abbrev parameters : Expr → Parameters
parameters length =
    tree.MoreParameters (tree.Param int (tree.Name here (codes "T")))
    (tree.MoreParameters (tree.Param int (tree.ArrayOf (tree.Name here (codes "a")) (tree.With length)))
    tree.NoParameter)

pub later_parameter : AreParameters (parameters size_of_value) typed
later_parameter = (
  (inl (omega arith, refl), (tt, tt), tt, tt),
  ((inl (omega arith, refl), (tt, tt), (tt, tt, (omega arith, refl)), tt), tt),
)

pub later_parameter_of_type : AreParameters (parameters size_of_type) typed → ⊥
later_parameter_of_type is = cc (is.1.0.2.2.1.1.0)

-- int f(int T) {T * a;}, and T is a type again behind it
abbrev multiplies : Function
multiplies = record {
  specifiers = int;
  declarator = tree.FunctionOf (tree.Name here (codes "f"))
      (tree.MoreParameters (tree.Param int (tree.Name here (codes "T"))) tree.NoParameter) false;
  body = unit.MoreBlockItems (unit.Executes (unit.ExprStmt (Some (times t a)))) unit.NoBlockItem;
}

pub parameter_in_body : IsFunction multiplies typed
parameter_in_body = (
  inl (omega arith, refl),
  (tt, tt),
  (tt, tt, ((inl (omega arith, refl), (tt, tt), tt, tt), tt), tt),
  refl,
  refl,
  ((omega arith, refl, refl), tt),
)

pub parameter_behind_body : is_type (typed ++ function_adds multiplies) (codes "T") ≡ true
parameter_behind_body = refl

-- for (int T = a; T; ) T * a;
pub for_opens
    : IsStatement
    (unit.For here (unit.WithDeclaration (declares a)) (Some t) None (unit.ExprStmt (Some (times t a)))) typed
for_opens = ((inl (omega arith, refl), (tt, tt), (tt, refl, refl, tt)), refl, tt, (omega arith, refl, refl))

-- {if (sizeof(enum {T})) T * a; T * a;} has a type in its last statement, {sizeof(enum {T}); T * a;} has none
abbrev size_of_enum : Expr
size_of_enum =
    tree.MeasureOp here SizeType
    (tree.NamedType
    (tree.MoreSpecifiers
    (tree.Enum here None (tree.MoreEnumerators (tree.Enumerates here (codes "T") tree.Without)
    tree.NoEnumerator) false) tree.NoSpecifier) tree.Omitted)

abbrev then_multiplies : Statement → BlockItems
then_multiplies first =
    unit.MoreBlockItems (unit.Executes first)
    (unit.MoreBlockItems (unit.Executes (unit.ExprStmt (Some (times t a)))) unit.NoBlockItem)

pub behind_if : AreBlockItems (then_multiplies (unit.If here size_of_enum (unit.ExprStmt (Some (times t a))))) typed → ⊥
behind_if are = cc (are.1.0.1)

pub in_if : IsStatement (unit.If here size_of_enum (unit.ExprStmt (Some (times t a)))) typed
in_if = ((omega arith, (inr (refl, refl), ((tt, (tt, tt)), tt), tt, refl)), (omega arith, refl, refl))

pub behind_expression : AreBlockItems (then_multiplies (unit.ExprStmt (Some size_of_enum))) typed
behind_expression =
    ((omega arith, (inr (refl, refl), ((tt, (tt, tt)), tt), tt, refl)), ((omega arith, refl, refl), tt))
