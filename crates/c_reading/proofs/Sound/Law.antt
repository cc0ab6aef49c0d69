-- What it says of parsers that what they read is spelled so, well-formed, and no higher than they may read.
use Rattle.std.proofs.Common.{◌≡◌, ℕ, ◌≤◌, List, ◌∷◌}
use Rattle.c_lexer.specs.declared.punct.Punct.TheVariants as p
use Rattle.c_lexer.specs.declared.token.Token.{Token}
use Rattle.c_lexer.specs.declared.token.Body.TheVariants as lexeme
use Rattle.c_reading.specs.declared.declarator_form.DeclaratorForm.{DeclaratorForm}
use Rattle.c_reading.specs.declared.declarator_form.DeclaratorForm.TheVariants as form
use Rattle.c_syntax.specs.declared.spelled.Spelled.{Spelled}
use Rattle.c_syntax.specs.Height.{height, type_name_height, specifiers_height, declarator_height, parameter_height}
use Rattle.c_syntax.specs.Height.{member_height}
use Rattle.c_syntax.specs.Levels.{unary, postfix}
use Rattle.c_reading.specs.Parser.{Parser, Found}
use Rattle.c_reading.specs.ReadExpr.{Parsers}
use Rattle.c_syntax.specs.Scopes.{Scope}
use Rattle.c_syntax.specs.Spelling.{spell, spell_type_name, spell_specifiers, spell_declarator, spell_parameter}
use Rattle.c_syntax.specs.Spelling.{spell_member}
use Rattle.c_syntax.specs.Tree.{Expr, Declarator}
use Rattle.c_syntax.specs.WellFormed.{SpecifyOneType, DeclaresName, Omits, TakesTypes, IsExpr, IsTypeName}
use Rattle.c_syntax.specs.WellFormed.{AreSpecifiers, IsDeclarator, IsParameter, IsMember}
use Rattle.c_reading.proofs.Sound.Steps.{Spelt}
use Rattle.c_reading.proofs.Takes.{Takes}

-- what was found is spelled by the tokens that were read, well-formed, and of this height at most
pub record Read {A : Type 0} (Fits : A → Type 0) (tall : A → ℕ) (spelled : A
    → List Spelled) (most : ℕ) (tokens : List Token) (a : A) (rest : List Token) : Type 0 where
  pub spells : Takes tokens (spelled a) rest
  pub fits : Fits a
  pub within : tall a ≤ most

-- the first of these alone
pub spelt : {A : Type 0} {Fits : A → Type 0} {tall : A → ℕ} {spelled : A
    → List Spelled} {most : ℕ} {tokens rest : List Token} {a : A} → Read Fits tall spelled most tokens a rest
    → Spelt tokens (spelled a) rest
spelt read = record { takes = read.spells }

-- a list with commas is read, and its ending
pub record Listed (Fits : Type 0) (tall most : ℕ) (parts ending : List Spelled) (tokens rest : List Token)
    : Type 0 where
  pub mid : List Token
  pub spells : Spelt tokens parts mid
  pub ends : Spelt mid ending rest
  pub fits : Fits
  pub within : tall ≤ most

-- all that the parser finds is read
abbrev pub Sound : {A : Type 0} → (A → Type 0) → (A → ℕ) → (A → List Spelled) → ℕ → Parser A → Type 0
Sound {A} Fits tall spelled most r = (tokens rest : List Token) (a : A) → r tokens ≡ Found a rest
    → Read Fits tall spelled most tokens a rest

-- what a declarator of the form has to be, beside well-formed
abbrev pub HasForm : DeclaratorForm → Scope → Declarator → Type 0
HasForm form.Named scope one = DeclaresName one
HasForm form.Abstract scope one = Omits one
HasForm form.Parameter scope one = TakesTypes scope one

-- of each parser of expressions, declarators and specifiers
pub record AllSound (k : ℕ) (r : Parsers) : Type 0 where
  pub expr : (scope : Scope) (level : ℕ) → level ≤ unary
      → Sound (λ e. IsExpr e scope level) height spell k (r.expr scope level)
  -- with the opening parenthesis before
  pub paren_expr : (scope : Scope) (open_token : Token) (tokens rest : List Token) (e : Expr)
      → open_token.body ≡ lexeme.Mark p.OpenParen → r.paren_expr scope tokens ≡ Found e rest
      → Read (λ e. IsExpr e scope postfix) height spell k (open_token ∷ tokens) e rest
  pub type_name : (scope : Scope)
      → Sound (λ type. IsTypeName type scope) type_name_height spell_type_name k (r.type_name scope)
  pub specifiers : (scope : Scope)
      → Sound (λ all. SpecifyOneType all × AreSpecifiers all scope) specifiers_height spell_specifiers k
      (r.specifiers scope)
  pub declarator : (shape : DeclaratorForm) (scope : Scope)
      → Sound (λ one. IsDeclarator one scope × HasForm shape scope one) declarator_height spell_declarator k
      (r.declarator shape scope)
  pub parameter : (scope : Scope)
      → Sound (λ one. IsParameter one scope) parameter_height spell_parameter k (r.parameter scope)
  pub member : (scope : Scope) → Sound (λ one. IsMember one scope) member_height spell_member k (r.member scope)
