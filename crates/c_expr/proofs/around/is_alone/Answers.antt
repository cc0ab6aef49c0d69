-- One parameter, or another number of them.
use Rattle.c_expr.proofs.Alone.{not_one, just_one}
use Rattle.c_expr.proofs.around.is_alone.Goals as goal

pub returns-then-list-ne1 : goal.returns-then-list-ne1
returns-then-list-ne1 c = not_one c.args.list.now c.args.variadic c.if-list-ne1.true

pub returns : goal.returns
returns c = just_one c.args.list.now c.args.variadic c.if-list-ne1.false
