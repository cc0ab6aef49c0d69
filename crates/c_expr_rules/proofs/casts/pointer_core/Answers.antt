-- The pointer is what it was before the type was made.
use Rattle.c_core.specs.Tree.{At}
use Rattle.c_conversions.specs.Converting.{is_null, pointer_node}
use Rattle.c_conversions.specs.Parts.{Part}
use Rattle.c_conversions.proofs.Keeping.{core_there, part_stays, over}
use Rattle.c_expr_rules.proofs.casts.pointer_core.Goals as goal

pub pointer_at-requires-clause-operand : goal.pointer_at-requires-clause-operand
pointer_at-requires-clause-operand c = core_there c.in_ok-of.ensures c.args.operand.core c.requires.operand

pub returns : goal.returns
returns c =
    over (λ type (x : Part). At type c.args.pos (pointer_node (is_null x) x.core)) c.in_ok-of.ensures
    (part_stays c.in_ok-of.ensures c.args.operand c.requires.operand) c.in_ok-made.ensures
