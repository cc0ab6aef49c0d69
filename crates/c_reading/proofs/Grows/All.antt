-- With more height, a parser gives the same, or it was too deep.
use Rattle.std.proofs.Common.{ℕ, zero, suc, ◌≤◌, arith}
use Rattle.c_reading.specs.ReadExpr.{Parsers, paren_expr, expr_at}
use Rattle.c_reading.specs.ReadDeclarator.{type_name_at, parameter_at, member_at}
use Rattle.c_reading.specs.ReadSpecifier.{low_specifier, specifier_at, lowest, parsers}
use Rattle.c_reading.proofs.Grows.Steps.{grown_same, deep_grown}
use Rattle.c_reading.proofs.Grows.Law.{AllGrown}
use Rattle.c_reading.proofs.Grows.Expr.{paren_expr_grown, expr_at_grown}
use Rattle.c_reading.proofs.Grows.Declarator.{no_declarator_grown, declarator_at_grown, type_name_at_grown}
use Rattle.c_reading.proofs.Grows.Declarator.{parameter_at_grown, member_at_grown}
use Rattle.c_reading.proofs.Grows.Specifier.{low_specifier_grown, specifier_at_grown, specifiers_by_grown}

all_same : (r : Parsers) → AllGrown r r
all_same r = record {
  expr = λ scope level. grown_same (r.expr scope level);
  paren_expr = λ scope. grown_same (r.paren_expr scope);
  type_name = λ scope. grown_same (r.type_name scope);
  specifiers = λ scope. grown_same (r.specifiers scope);
  declarator = λ shape scope. grown_same (r.declarator shape scope);
  parameter = λ scope. grown_same (r.parameter scope);
  member = λ scope. grown_same (r.member scope);
}

pub parsers_grown : (k j : ℕ) → k ≤ j → AllGrown (parsers k) (parsers j)
parsers_grown zero zero le = all_same lowest
parsers_grown zero (suc j) le = record {
  expr = λ scope level. deep_grown (expr_at j (parsers j) scope level);
  paren_expr = λ scope. deep_grown (paren_expr j (parsers j) scope);
  type_name = λ scope. deep_grown (type_name_at j (parsers j) scope);
  specifiers = specifiers_by_grown low_specifier (specifier_at j (parsers j)) (low_specifier_grown j (parsers j));
  declarator = no_declarator_grown j (parsers j);
  parameter = λ scope. deep_grown (parameter_at j (parsers j) scope);
  member = λ scope. deep_grown (member_at j (parsers j) scope);
}
parsers_grown (suc k) zero le = absurd (omega arith)
parsers_grown (suc k) (suc j) le =
    let low : k ≤ j = omega arith in
    let on = parsers_grown k j low in
    record {
      expr = expr_at_grown k j low (parsers k) (parsers j) on;
      paren_expr = paren_expr_grown k j low (parsers k) (parsers j) on;
      type_name = type_name_at_grown k j low (parsers k) (parsers j) on;
      specifiers = specifiers_by_grown (specifier_at k (parsers k)) (specifier_at j (parsers j))
          (specifier_at_grown k j low (parsers k) (parsers j) on);
      declarator = declarator_at_grown k j low (parsers k) (parsers j) on;
      parameter = parameter_at_grown k j low (parsers k) (parsers j) on;
      member = member_at_grown k j low (parsers k) (parsers j) on;
    }
