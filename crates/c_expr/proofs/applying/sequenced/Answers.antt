-- The left operand, and then the right one.
use Rattle.std.proofs.Common.{ap, sym}
use Rattle.c_scopes.specs.Env.{env_of}
use Rattle.c_type_parts.specs.Answers.{Gives}
use Rattle.c_expr.specs.Uses.{joined}
use Rattle.c_expr.proofs.applying.sequenced.Goals as goal

pub returns : goal.returns
unfolding joined
returns c = λ scopes here.
    let made = c.in_ok-made.ensures in
    record {
      is = ap (λ part. Gives part (env_of scopes c.args.types.now)) (sym made.is);
      is_in = made.is_in;
      here = here;
      grown = made.kept.grows;
    }
