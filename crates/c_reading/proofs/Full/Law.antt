-- What it says of parsers that the spelling of a well-formed tree, followed by what can't go on with it, is read as it.
use Rattle.std.proofs.Common.{◌≡◌, ℕ, ◌≤◌, List, ◌∷◌, Bool, true, false, Option, Some, None, ◌||◌, is_some}
use Rattle.c_lexer.specs.declared.punct.Punct.TheVariants as p
use Rattle.c_lexer.specs.declared.token.Token.{Token}
use Rattle.c_lexer.specs.declared.token.Body.{Body}
use Rattle.c_lexer.specs.declared.token.Body.TheVariants as lexeme
use Rattle.c_reading.specs.declared.declarator_form.DeclaratorForm.{DeclaratorForm}
use Rattle.c_reading.specs.declared.declarator_form.DeclaratorForm.TheVariants as form
use Rattle.c_syntax.specs.Height.{height, type_name_height, specifiers_height, declarator_height, parameter_height}
use Rattle.c_syntax.specs.Height.{member_height}
use Rattle.c_syntax.specs.Levels.{unary, postfix}
use Rattle.c_reading.specs.Parser.{Found, next_body}
use Rattle.c_reading.specs.ReadToken.{is_literal, qualifier_of}
use Rattle.c_reading.specs.ReadExpr.{Parsers, goes_postfix, goes_infix}
use Rattle.c_reading.specs.ReadDeclarator.{begins_declarator}
use Rattle.c_syntax.specs.Scopes.{Scope}
use Rattle.c_syntax.specs.Spelling.{spell, spell_type_name, spell_specifiers, spell_declarator, spell_parameter}
use Rattle.c_syntax.specs.Spelling.{spell_member}
use Rattle.c_syntax.specs.Tree as tree
use Rattle.c_syntax.specs.Tree.{Expr, TypeName, Specifiers, MemberDeclaration, Declarator, Parameter}
use Rattle.c_syntax.specs.WellFormed.{SpecifyOneType, IsExpr, IsTypeName, AreSpecifiers, IsDeclarator, IsParameter}
use Rattle.c_syntax.specs.WellFormed.{IsMember}
use Rattle.c_reading.proofs.Sound.Law.{HasForm}
use Rattle.c_reading.proofs.Takes.{Takes}

-- nothing of this level goes on with an expression
pub record EndsExpr (level : ℕ) (rest : List Token) : Type 0 where
  pub no_literal : (wide : Bool) → is_literal wide (next_body rest) ≡ false
  pub no_postfix : (k : ℕ) (low : Parsers) (left : Expr) → goes_postfix left (next_body rest) ≡ false
  pub no_infix : (k : ℕ) (low : Parsers) (left : Expr) → goes_infix level left (next_body rest) ≡ false

-- no declarator goes on, none begins, and no qualifier of a pointer follows
abbrev pub EndsDeclarator : List Token → Type 0
EndsDeclarator rest = (begins_declarator form.Parameter (next_body rest) || is_some (qualifier_of (next_body rest)))
    ≡ false

-- specifiers are followed by a declarator or a mark, but by no brace and no word
abbrev pub ends_specifiers : Option Body → Bool
ends_specifiers (Some (lexeme.Name x)) = true
ends_specifiers (Some (lexeme.Mark p.OpenBrace)) = false
ends_specifiers (Some (lexeme.Mark mark)) = true
ends_specifiers None = true
ends_specifiers _ = false

-- the leftmost operand is in parentheses
abbrev pub IsGrouped : Expr → Type 0
IsGrouped (tree.Paren inner) = Unit {0}
IsGrouped (tree.Index pos array index) = IsGrouped array
IsGrouped (tree.Call pos function arguments) = IsGrouped function
IsGrouped (tree.Member pos access whole x) = IsGrouped whole
IsGrouped (tree.PostfixOp pos operator operand) = IsGrouped operand
IsGrouped _ = ⊥

-- of each parser of expressions, declarators and specifiers
pub record AllFull (k : ℕ) (r : Parsers) : Type 0 where
  pub expr : (scope : Scope) (level : ℕ) (e : Expr) (tokens rest : List Token) → level ≤ unary
      → IsExpr e scope level → height e ≤ k → EndsExpr level rest → Takes tokens (spell e) rest
      → r.expr scope level tokens ≡ Found e rest
  pub paren_expr : (scope : Scope) (e : Expr) (open_token : Token) (tokens rest : List Token) → IsGrouped e
      → IsExpr e scope postfix → height e ≤ k → EndsExpr unary rest → Takes (open_token ∷ tokens) (spell e) rest
      → r.paren_expr scope tokens ≡ Found e rest
  pub type_name : (scope : Scope) (type : TypeName) (tokens rest : List Token) → IsTypeName type scope
      → type_name_height type ≤ k → EndsDeclarator rest → ends_specifiers (next_body rest) ≡ true
      → Takes tokens (spell_type_name type) rest
      → r.type_name scope tokens ≡ Found type rest
  pub specifiers : (scope : Scope) (all : Specifiers) (tokens rest : List Token) → SpecifyOneType all
      → AreSpecifiers all scope → specifiers_height all ≤ k → ends_specifiers (next_body rest) ≡ true
      → Takes tokens (spell_specifiers all) rest
      → r.specifiers scope tokens ≡ Found all rest
  pub declarator : (shape : DeclaratorForm) (scope : Scope) (one : Declarator) (tokens rest : List Token)
      → IsDeclarator one scope → HasForm shape scope one → declarator_height one ≤ k → EndsDeclarator rest
      → Takes tokens (spell_declarator one) rest
      → r.declarator shape scope tokens ≡ Found one rest
  pub parameter : (scope : Scope) (one : Parameter) (tokens rest : List Token) → IsParameter one scope
      → parameter_height one ≤ k → EndsDeclarator rest → ends_specifiers (next_body rest) ≡ true
      → Takes tokens (spell_parameter one) rest
      → r.parameter scope tokens ≡ Found one rest
  pub member : (scope : Scope) (one : MemberDeclaration) (tokens rest : List Token) → IsMember one scope
      → member_height one ≤ k → Takes tokens (spell_member one) rest
      → r.member scope tokens ≡ Found one rest
