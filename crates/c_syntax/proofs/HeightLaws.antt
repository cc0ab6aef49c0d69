-- Each node has a height of at least 1.
use Rattle.std.proofs.Common.{◌≡◌, ◌≤◌, ℕ, suc, List, [], ◌∷◌, refl, arith}
use Rattle.c_syntax.specs.Tree as trees
use Rattle.c_syntax.specs.Tree.{Expr, TypeName, Declarator}
use Rattle.c_syntax.specs.TreeUnit as unit
use Rattle.c_syntax.specs.TreeUnit.{Initializer, Statement, External, Tree}
use Rattle.c_syntax.specs.Height.{height, type_name_height, declarator_height}
use Rattle.c_syntax.specs.HeightUnit.{initializer_height, statement_height, external_height, externals_height}
use Rattle.c_syntax.specs.HeightUnit.{tree_height}
use Rattle.c_syntax.specs.WellFormed.{HasToken}
use Rattle.c_syntax.specs.WellFormedUnit.{IsTree}

one_more : (n : ℕ) → 1 ≤ suc n
one_more n = omega arith

pub expr_high : (expr : Expr) → 1 ≤ height expr
expr_high (trees.Const pos constant) = one_more _
expr_high (trees.Id pos x) = one_more _
expr_high (trees.Text pos text) = one_more _
expr_high (trees.Paren inner) = one_more _
expr_high (trees.Index pos array index) = one_more _
expr_high (trees.Call pos function arguments) = one_more _
expr_high (trees.Member pos access whole x) = one_more _
expr_high (trees.PostfixOp pos operator operand) = one_more _
expr_high (trees.PrefixOp pos operator operand) = one_more _
expr_high (trees.MeasureOp pos operator type) = one_more _
expr_high (trees.Cast pos type operand) = one_more _
expr_high (trees.InfixOp pos operator left right) = one_more _
expr_high (trees.Cond pos test then else) = one_more _

pub type_name_high : (type : TypeName) → 1 ≤ type_name_height type
type_name_high (trees.NamedType specifiers declarator) = one_more _

-- an omitted identifier alone has height 0
pub declarator_high : (declarator : Declarator) → HasToken declarator → 1 ≤ declarator_height declarator
declarator_high trees.Omitted has = absurd has
declarator_high (trees.Name pos x) has = one_more _
declarator_high (trees.DParen inner) has = one_more _
declarator_high (trees.PointerTo qualifiers inner) has = one_more _
declarator_high (trees.ArrayOf inner length) has = one_more _
declarator_high (trees.FunctionOf inner parameters variadic) has = one_more _

pub initializer_high : (initializer : Initializer) → 1 ≤ initializer_height initializer
initializer_high (unit.Single expr) = expr_high expr
initializer_high (unit.Braces pos items comma) = one_more _

pub statement_high : (statement : Statement) → 1 ≤ statement_height statement
statement_high (unit.Block items) = one_more _
statement_high (unit.ExprStmt expr) = one_more _
statement_high (unit.If pos test then) = one_more _
statement_high (unit.IfElse pos test then else) = one_more _
statement_high (unit.Switch pos test items) = one_more _
statement_high (unit.While pos test body) = one_more _
statement_high (unit.Do pos body test) = one_more _
statement_high (unit.For pos init test step body) = one_more _
statement_high (unit.Break pos) = one_more _
statement_high (unit.Continue pos) = one_more _
statement_high (unit.Return pos value) = one_more _

pub external_high : (external : External) → 1 ≤ external_height external
external_high (unit.Defines function) = one_more _
external_high (unit.Declaring declaration) = one_more _
external_high (unit.Asserting assert) = one_more _

-- one of its external declarations, and itself
pub tree_high : (tree : Tree) → IsTree tree → 2 ≤ tree_height tree
tree_high tree is = by tree.externals is.0
  where
    by : (externals : List External) → (externals ≡ [] → ⊥) → 2 ≤ suc (externals_height externals)
    by [] some = absurd (some refl)
    by (first ∷ rest) some = omega (arith, external_high first)
