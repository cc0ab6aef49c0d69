-- Which lists of tokens can begin a node of a class, in a scope, with some height left.
use Rattle.std.specs.Prelude.{◌≡◌, ◌≤◌, ℕ, List, ◌++◌}
use Rattle.c_lexer.specs.declared.token.Token.{Token}
use Rattle.c_syntax.specs.declared.spelled.Spelled.{Spelled}
use Rattle.c_syntax.specs.Tokens.{Match}
use Rattle.c_syntax.specs.Scopes.{Scope}
use Rattle.c_syntax.specs.Spelling.{spell, spell_type_name, spell_specifiers, spell_declarator, spell_parameter}
use Rattle.c_syntax.specs.Spelling.{spell_member}
use Rattle.c_syntax.specs.SpellingUnit.{spell_initializer, spell_item, spell_declaration, spell_assert}
use Rattle.c_syntax.specs.SpellingUnit.{spell_statement, spell_block_item, spell_switch_item, spell_external}
use Rattle.c_syntax.specs.SpellingUnit.{spell_tree}
use Rattle.c_syntax.specs.Height.{height, type_name_height, specifiers_height, declarator_height, parameter_height}
use Rattle.c_syntax.specs.Height.{member_height}
use Rattle.c_syntax.specs.HeightUnit.{initializer_height, item_height, declaration_height, assert_height}
use Rattle.c_syntax.specs.HeightUnit.{statement_height, block_item_height, switch_item_height, external_height}
use Rattle.c_syntax.specs.HeightUnit.{tree_height}
use Rattle.c_syntax.specs.WellFormed.{SpecifyOneType, IsExpr, IsTypeName, AreSpecifiers, IsDeclarator, IsParameter}
use Rattle.c_syntax.specs.WellFormed.{IsMember}
use Rattle.c_syntax.specs.WellFormedUnit.{IsInitializer, IsItem, IsDeclaration, IsAssert, IsStatement, IsBlockItem}
use Rattle.c_syntax.specs.WellFormedUnit.{IsSwitchItem, IsExternal, IsTree}

-- the spelling of some node that fits, of this height at most, begins with these tokens
pub record Begins {A : Type 0} (Fits : A → Type 0) (tall : A → ℕ) (spelled : A
    → List Spelled) (most : ℕ) (tokens : List Token) : Type 0 where
  pub node : A
  pub front : List Spelled
  pub more : List Spelled
  pub fits : Fits node
  pub within : tall node ≤ most
  pub parts : spelled node ≡ front ++ more
  pub match : Match tokens front

abbrev pub BeginsExpr : Scope → ℕ → ℕ → List Token → Type 0
BeginsExpr scope level = Begins (λ expr. IsExpr expr scope level) height spell

abbrev pub BeginsTypeName : Scope → ℕ → List Token → Type 0
BeginsTypeName scope = Begins (λ type. IsTypeName type scope) type_name_height spell_type_name

abbrev pub BeginsSpecifiers : Scope → ℕ → List Token → Type 0
BeginsSpecifiers scope =
    Begins
    (λ specifiers. SpecifyOneType specifiers × AreSpecifiers specifiers scope)
    specifiers_height
    spell_specifiers

abbrev pub BeginsDeclarator : Scope → ℕ → List Token → Type 0
BeginsDeclarator scope = Begins (λ declarator. IsDeclarator declarator scope) declarator_height spell_declarator

abbrev pub BeginsParameter : Scope → ℕ → List Token → Type 0
BeginsParameter scope = Begins (λ parameter. IsParameter parameter scope) parameter_height spell_parameter

abbrev pub BeginsMember : Scope → ℕ → List Token → Type 0
BeginsMember scope = Begins (λ member. IsMember member scope) member_height spell_member

abbrev pub BeginsInitializer : Scope → ℕ → List Token → Type 0
BeginsInitializer scope =
    Begins (λ initializer. IsInitializer initializer scope) initializer_height spell_initializer

abbrev pub BeginsItem : Scope → ℕ → List Token → Type 0
BeginsItem scope = Begins (λ item. IsItem item scope) item_height spell_item

abbrev pub BeginsDeclaration : Scope → ℕ → List Token → Type 0
BeginsDeclaration scope =
    Begins (λ declaration. IsDeclaration declaration scope) declaration_height spell_declaration

abbrev pub BeginsAssert : Scope → ℕ → List Token → Type 0
BeginsAssert scope = Begins (λ assert. IsAssert assert scope) assert_height spell_assert

abbrev pub BeginsStatement : Scope → ℕ → List Token → Type 0
BeginsStatement scope = Begins (λ statement. IsStatement statement scope) statement_height spell_statement

abbrev pub BeginsBlockItem : Scope → ℕ → List Token → Type 0
BeginsBlockItem scope = Begins (λ item. IsBlockItem item scope) block_item_height spell_block_item

abbrev pub BeginsSwitchItem : Scope → ℕ → List Token → Type 0
BeginsSwitchItem scope = Begins (λ item. IsSwitchItem item scope) switch_item_height spell_switch_item

abbrev pub BeginsExternal : Scope → ℕ → List Token → Type 0
BeginsExternal scope = Begins (λ external. IsExternal external scope) external_height spell_external

-- a unit stands in the scope of the predeclared names
abbrev pub BeginsTree : ℕ → List Token → Type 0
BeginsTree = Begins IsTree tree_height spell_tree
