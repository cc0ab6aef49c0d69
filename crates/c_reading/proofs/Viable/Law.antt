-- What it says of parsers that where they stop, some tree of the class begins with what was read; where that was too
-- deep, a higher tree begins with the next token too.
use Rattle.std.proofs.Common.{◌≡◌, ℕ, ◌<◌, ◌≤◌, List, [], ◌∷◌, ◌++◌, true}
use Rattle.c_lexer.specs.declared.punct.Punct.TheVariants as p
use Rattle.c_lexer.specs.declared.token.Token.{Token}
use Rattle.c_lexer.specs.declared.token.Body.TheVariants as lexeme
use Rattle.c_reading.specs.declared.declarator_form.DeclaratorForm.{DeclaratorForm}
use Rattle.c_syntax.specs.Begin.{Begins, BeginsExpr, BeginsTypeName, BeginsSpecifiers, BeginsParameter, BeginsMember}
use Rattle.c_syntax.specs.Height.{declarator_height}
use Rattle.c_syntax.specs.Levels.{unary, postfix}
use Rattle.c_reading.specs.Parser.{Why, TooDeep, Stopped, next_body}
use Rattle.c_reading.specs.ReadDeclarator.{no_declarator}
use Rattle.c_reading.specs.ReadExpr.{Parsers, begins_expr}
use Rattle.c_syntax.specs.Scopes.{Scope}
use Rattle.c_syntax.specs.Spelling.{spell_declarator}
use Rattle.c_syntax.specs.WellFormed.{IsDeclarator}
use Rattle.c_reading.proofs.Sound.Law.{HasForm}

-- what stands before the rest begins a node of the height; with the next token, where it was too deep, a higher one
pub record Holds (B : ℕ → List Token → Type 0) (most : ℕ) (tokens : List Token) (why : Why) (rest : List Token)
    : Type 0 where
  pub before : List Token
  pub parts : tokens ≡ before ++ rest
  pub begins : B most before
  pub deep : why ≡ TooDeep → (token : Token) × (after : List Token) × (rest ≡ token ∷ after)
      × ((j : ℕ) × B j (before ++ token ∷ []))

-- a declarator of the form
abbrev pub BeginsForm : DeclaratorForm → Scope → ℕ → List Token → Type 0
BeginsForm shape scope =
    Begins (λ one. IsDeclarator one scope × HasForm shape scope one) declarator_height spell_declarator

-- Nothing was read, and if that was too deep, the next token begins an expression: behind `sizeof` and a parenthesis,
-- where the height suffices for a type name alone.
pub record AtOnce (scope : Scope) (tokens : List Token) (why : Why) (rest : List Token) : Type 0 where
  pub at_once : tokens ≡ rest
  pub starts : why ≡ TooDeep → begins_expr scope (next_body tokens) ≡ true

-- of each parser of expressions, declarators and specifiers
pub record AllViable (k : ℕ) (r : Parsers) : Type 0 where
  pub expr : (scope : Scope) (level : ℕ) (tokens rest : List Token) (why : Why) → level ≤ unary → 0 < k
      → r.expr scope level tokens ≡ Stopped why rest → Holds (BeginsExpr scope level) k tokens why rest
  pub paren_expr : (scope : Scope) (open_token : Token) (tokens rest : List Token) (why : Why)
      → open_token.body ≡ lexeme.Mark p.OpenParen → 1 < k → r.paren_expr scope tokens ≡ Stopped why rest
      → Holds (BeginsExpr scope postfix) k (open_token ∷ tokens) why rest
  pub paren_expr_low : (scope : Scope) (tokens rest : List Token) (why : Why) → k ≡ 1
      → r.paren_expr scope tokens ≡ Stopped why rest → AtOnce scope tokens why rest
  pub type_name : (scope : Scope) (tokens rest : List Token) (why : Why) → 0 < k
      → r.type_name scope tokens ≡ Stopped why rest → Holds (BeginsTypeName scope) k tokens why rest
  pub specifiers : (scope : Scope) (tokens rest : List Token) (why : Why)
      → r.specifiers scope tokens ≡ Stopped why rest → Holds (BeginsSpecifiers scope) k tokens why rest
  pub declarator : (shape : DeclaratorForm) (scope : Scope) (tokens rest : List Token) (why : Why) → 0 < k
      → r.declarator shape scope tokens ≡ Stopped why rest → Holds (BeginsForm shape scope) k tokens why rest
  -- where no height is left, only an omitted identifier is
  pub lowest : k ≡ 0 → (shape : DeclaratorForm) (scope : Scope) (tokens : List Token)
      → r.declarator shape scope tokens ≡ no_declarator shape tokens
  pub parameter : (scope : Scope) (tokens rest : List Token) (why : Why) → 0 < k
      → r.parameter scope tokens ≡ Stopped why rest → Holds (BeginsParameter scope) k tokens why rest
  pub member : (scope : Scope) (tokens rest : List Token) (why : Why) → 0 < k
      → r.member scope tokens ≡ Stopped why rest → Holds (BeginsMember scope) k tokens why rest
