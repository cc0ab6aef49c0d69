-- The core of the value.
use Rattle.std.proofs.lemmas.Result.{err_from_is_err_and}
use Rattle.c_type_parts.proofs.Steps.{refused_then, then_given}
use Rattle.c_expr.proofs.expression.expression.Goals as goal

pub returns : goal.returns
returns c =
    let given = c.in_ok-made.ensures in
    record {
      is = then_given _ _ _ _ given.is;
      is_in = given.is_in;
      here = given.here;
      grown = given.grown;
    }

pub returns-in_err-made : goal.returns-in_err-made
returns-in_err-made c =
    let p = err_from_is_err_and c.from_residual.result c.from_residual.ensures.1 in
    rw (p.1, p.2) (refused_then _ _ _ c.in_err-made.ensures)
