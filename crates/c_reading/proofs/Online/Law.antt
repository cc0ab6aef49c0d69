-- What it says of parsers that they are online.
use Rattle.std.proofs.Common.{ℕ}
use Rattle.c_reading.specs.declared.declarator_form.DeclaratorForm.{DeclaratorForm}
use Rattle.c_reading.specs.ReadExpr.{Parsers}
use Rattle.c_syntax.specs.Scopes.{Scope}
use Rattle.c_reading.proofs.Online.Steps.{Online}

-- of each parser of expressions, declarators and specifiers
pub record AllOnline (r : Parsers) : Type 0 where
  pub expr : (scope : Scope) (level : ℕ) → Online (r.expr scope level)
  pub paren_expr : (scope : Scope) → Online (r.paren_expr scope)
  pub type_name : (scope : Scope) → Online (r.type_name scope)
  pub specifiers : (scope : Scope) → Online (r.specifiers scope)
  pub declarator : (shape : DeclaratorForm) (scope : Scope) → Online (r.declarator shape scope)
  pub parameter : (scope : Scope) → Online (r.parameter scope)
  pub member : (scope : Scope) → Online (r.member scope)
