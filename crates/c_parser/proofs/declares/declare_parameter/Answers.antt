-- The goals of `declare_parameter` that are answered by hand.
use Rattle.std.proofs.Common.{rules, append_assoc}
use Rattle.std.proofs.lemmas.Result.{IfOk-equal}
use Rattle.c_parser.proofs.Adding.{specifiers_listed_add}
use Rattle.c_parser.proofs.declares.declare_parameter.Goals as goal

pub returns : goal.returns
returns c = rw (specifiers_listed_add c.args.each.now.specifiers.items) (search (rules, IfOk-equal, append_assoc))
