-- A literal by the count of its units, if a number of the machine holds it.
use Rattle.std.proofs.Common.{refl, subst, ℕ}
use Rattle.c_scopes.specs.Clauses.{Rules}
use Rattle.c_conversions.specs.Parts.{part_of, PartIn}
use Rattle.c_expr_rules.specs.Primary.{literal_rule}
use Rattle.c_expr.proofs.Literals.{too_long}
use Rattle.c_expr.proofs.primary.string_literal.Goals as goal

pub returns-in-None : goal.returns-in-None
returns-in-None c = (too_long c.args.at c.args.text.now.wide _ c.in-None.ensures, refl)

pub returns-in-Some : goal.returns-in-Some
returns-in-Some c =
    subst (λ (units : ℕ). Rules part_of PartIn (literal_rule c.args.at c.args.text.now.wide units) c.args.at
    c.args.types.now c.literal.new.types c.literal.result) c.in-Some.ensures c.literal.ensures
