-- What a parser gave depends on what it read and on the next token alone.
use Rattle.std.proofs.Common.{ℕ, zero, suc}
use Rattle.c_reading.specs.Parser.{TooDeep}
use Rattle.c_reading.specs.ReadExpr.{Parsers}
use Rattle.c_reading.specs.ReadSpecifier.{low_specifier, specifier_at, parsers}
use Rattle.c_syntax.specs.Scopes.{Scope}
use Rattle.c_reading.proofs.Online.Steps.{TakesOne, online_fail, takes_fail}
use Rattle.c_reading.proofs.Online.Law.{AllOnline}
use Rattle.c_reading.proofs.Online.Expr.{paren_expr_online, expr_at_online, expr_at_takes}
use Rattle.c_reading.proofs.Online.Declarator.{no_declarator_online, declarator_at_online, type_name_at_online}
use Rattle.c_reading.proofs.Online.Declarator.{parameter_at_online, member_at_online, member_at_takes}
use Rattle.c_reading.proofs.Online.Specifier.{low_specifier_online, low_specifier_takes, specifier_at_online}
use Rattle.c_reading.proofs.Online.Specifier.{specifier_at_takes, specifiers_by_online, specifiers_by_takes}

-- and what they find has a token, so that a list of it ends
pub record AllTake (r : Parsers) : Type 0 where
  pub online : AllOnline r
  pub expr : (scope : Scope) (level : ℕ) → TakesOne (r.expr scope level)
  pub specifiers : (scope : Scope) → TakesOne (r.specifiers scope)
  pub member : (scope : Scope) → TakesOne (r.member scope)

pub parsers_take : (k : ℕ) → AllTake (parsers k)
parsers_take zero = record {
  online = record {
    expr = λ scope level. online_fail TooDeep;
    paren_expr = λ scope. online_fail TooDeep;
    type_name = λ scope. online_fail TooDeep;
    specifiers = specifiers_by_online low_specifier low_specifier_online low_specifier_takes;
    declarator = λ shape scope. no_declarator_online shape;
    parameter = λ scope. online_fail TooDeep;
    member = λ scope. online_fail TooDeep;
  };
  expr = λ scope level. takes_fail TooDeep;
  specifiers = specifiers_by_takes low_specifier low_specifier_online low_specifier_takes;
  member = λ scope. takes_fail TooDeep;
}
parsers_take (suc k) =
    let low = parsers_take k in
    let each = specifier_at_online k (parsers k) low.online low.member in
    let takes = specifier_at_takes k (parsers k) low.online low.member in
    record {
      online = record {
        expr = expr_at_online k (parsers k) low.online;
        paren_expr = paren_expr_online k (parsers k) low.online;
        type_name = type_name_at_online k (parsers k) low.online;
        specifiers = specifiers_by_online (specifier_at k (parsers k)) each takes;
        declarator = declarator_at_online k (parsers k) low.online;
        parameter = parameter_at_online k (parsers k) low.online;
        member = member_at_online k (parsers k) low.online;
      };
      expr = expr_at_takes k (parsers k) low.online;
      specifiers = specifiers_by_takes (specifier_at k (parsers k)) each takes;
      member = member_at_takes k (parsers k) low.online low.specifiers;
    }

pub parsers_online : (k : ℕ) → AllOnline (parsers k)
parsers_online k = (parsers_take k).online
