-- No spelling of a well-formed node is empty.
use Rattle.std.proofs.Common.{◌≡◌, Bool, true, false, List, [], ◌∷◌, ◌++◌, refl}
use Rattle.c_syntax.specs.declared.spelled.Spelled.{Spelled}
use Rattle.c_syntax.specs.Tree.{Declarator, Omitted, Name, DParen, PointerTo, ArrayOf, FunctionOf}
use Rattle.c_syntax.specs.TreeUnit as unit
use Rattle.c_syntax.specs.TreeUnit.{Initializer, Item, Statement, BlockItem, SwitchItem, External, Tree}
use Rattle.c_syntax.specs.First.{IsFirst}
use Rattle.c_syntax.specs.Scopes.{Scope, predeclared}
use Rattle.c_syntax.specs.Spelling.{spell_declarator}
use Rattle.c_syntax.specs.SpellingUnit.{spell_initializer, spell_item, spell_statement, spell_block_item}
use Rattle.c_syntax.specs.SpellingUnit.{spell_switch_item, spell_external, spell_tree}
use Rattle.c_syntax.specs.WellFormed.{HasToken}
use Rattle.c_syntax.specs.WellFormedUnit.{IsInitializer, IsItem, IsStatement, IsBlockItem, IsSwitchItem, IsExternal}
use Rattle.c_syntax.specs.WellFormedUnit.{IsTree, AreExternals}
use Rattle.c_syntax.proofs.FirstLaws.{first_expr, first_declaration}

some_first : (begins : Bool) (scope : Scope) (all : List Spelled) → IsFirst begins scope all → all ≡ [] → ⊥
some_first begins scope [] is e = is
some_first begins scope (first ∷ rest) is e = cc (e)

front_some : (front more : List Spelled) → (front ≡ [] → ⊥) → front ++ more ≡ [] → ⊥
front_some [] more some e = some refl
front_some (first ∷ front) more some e = cc (e)

more_some : (front : List Spelled) (first : Spelled) (more : List Spelled) → front ++ first ∷ more ≡ [] → ⊥
more_some [] first more e = cc (e)
more_some (other ∷ front) first more e = cc (e)

-- by class; a declarator needs a token beside an omitted identifier
pub some_declarator : (declarator : Declarator) → HasToken declarator → spell_declarator declarator ≡ [] → ⊥
some_declarator Omitted has e = has
some_declarator (Name pos x) has e = cc (e)
some_declarator (DParen inner) has e = cc (e)
some_declarator (PointerTo qualifiers inner) has e = cc (e)
some_declarator (ArrayOf inner length) has e = more_some _ _ _ e
some_declarator (FunctionOf inner parameters variadic) has e = more_some _ _ _ e

pub some_initializer : (initializer : Initializer) (scope : Scope)
    → IsInitializer initializer scope → spell_initializer initializer ≡ [] → ⊥
some_initializer (unit.Single expr) scope is e = some_first false scope _ (first_expr expr scope _ is) e
some_initializer (unit.Braces pos items comma) scope is e = cc (e)

pub some_item : (item : Item) (scope : Scope) → IsItem item scope → spell_item item ≡ [] → ⊥
some_item (unit.Plain initializer) scope is e = some_initializer initializer scope is e
some_item (unit.ForMember pos x initializer) scope is e = cc (e)
some_item (unit.ForIndex pos index initializer) scope is e = cc (e)

pub some_statement : (statement : Statement) (scope : Scope)
    → IsStatement statement scope → spell_statement statement ≡ [] → ⊥
some_statement (unit.Block items) scope is e = cc (e)
some_statement (unit.ExprStmt expr) scope is e = more_some _ _ _ e
some_statement (unit.If pos test then) scope is e = cc (e)
some_statement (unit.IfElse pos test then else) scope is e = cc (e)
some_statement (unit.Switch pos test items) scope is e = cc (e)
some_statement (unit.While pos test body) scope is e = cc (e)
some_statement (unit.Do pos body test) scope is e = cc (e)
some_statement (unit.For pos init test step body) scope is e = cc (e)
some_statement (unit.Break pos) scope is e = cc (e)
some_statement (unit.Continue pos) scope is e = cc (e)
some_statement (unit.Return pos value) scope is e = cc (e)

pub some_block_item : (item : BlockItem) (scope : Scope) → IsBlockItem item scope → spell_block_item item ≡ [] → ⊥
some_block_item (unit.Declared declaration) scope is e =
    some_first true scope _ (first_declaration declaration scope is) e
some_block_item (unit.Asserted assert) scope is e = cc (e)
some_block_item (unit.Executes statement) scope is e = some_statement statement scope is e

pub some_switch_item : (item : SwitchItem) (scope : Scope) → IsSwitchItem item scope → spell_switch_item item ≡ [] → ⊥
some_switch_item (unit.Case pos value) scope is e = cc (e)
some_switch_item (unit.Default pos) scope is e = cc (e)
some_switch_item (unit.InBlock item) scope is e = some_block_item item scope is e

pub some_external : (external : External) (scope : Scope) → IsExternal external scope → spell_external external ≡ [] → ⊥
some_external (unit.Defines function) scope is e = more_some _ _ _ e
some_external (unit.Declaring declaration) scope is e =
    some_first true scope _ (first_declaration declaration scope is) e
some_external (unit.Asserting assert) scope is e = cc (e)

pub some_tree : (tree : Tree) → IsTree tree → spell_tree tree ≡ [] → ⊥
some_tree tree is e = by tree.externals is.0 is.1 e
  where
    by : (externals : List External) → (externals ≡ [] → ⊥) → AreExternals externals predeclared
        → spell_tree (record { externals = externals; end = tree.end }) ≡ [] → ⊥
    by [] some are e = some refl
    by (first ∷ rest) some are e = front_some _ _ (some_external first predeclared are.0) e
