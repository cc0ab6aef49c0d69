-- What it says of parsers that they give the same with more height, or were too deep.
use Rattle.std.proofs.Common.{ℕ}
use Rattle.c_reading.specs.declared.declarator_form.DeclaratorForm.{DeclaratorForm}
use Rattle.c_reading.specs.ReadExpr.{Parsers}
use Rattle.c_syntax.specs.Scopes.{Scope}
use Rattle.c_reading.proofs.Grows.Steps.{Grown}

-- of each parser of expressions, declarators and specifiers, for two heights
pub record AllGrown (r s : Parsers) : Type 0 where
  pub expr : (scope : Scope) (level : ℕ) → Grown (r.expr scope level) (s.expr scope level)
  pub paren_expr : (scope : Scope) → Grown (r.paren_expr scope) (s.paren_expr scope)
  pub type_name : (scope : Scope) → Grown (r.type_name scope) (s.type_name scope)
  pub specifiers : (scope : Scope) → Grown (r.specifiers scope) (s.specifiers scope)
  pub declarator : (shape : DeclaratorForm) (scope : Scope)
      → Grown (r.declarator shape scope) (s.declarator shape scope)
  pub parameter : (scope : Scope) → Grown (r.parameter scope) (s.parameter scope)
  pub member : (scope : Scope) → Grown (r.member scope) (s.member scope)
