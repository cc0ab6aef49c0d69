-- The goals of `switch` that are answered by hand.
use Rattle.std.proofs.Common.{◌∙◌, ap, map}
use Rattle.c_syntax.specs.ViewUnit.{switch_items}
use Rattle.c_syntax.specs.TreeUnit.{Switch}
use Rattle.c_syntax.specs.View.{expr_of}
use Rattle.c_syntax.specs.ViewUnit.{statement_of, switch_item_of}
use Rattle.c_parser.proofs.RowsUnit.{switch_tree}
use Rattle.c_parser.proofs.make.statement.switch.Goals as goal

pub returns : goal.returns
returns c =
    ap statement_of c.in_ok-new.ensures.ok ∙ switch_tree c.args.pos c.into_inner.result c.args.items
    ∙ ap (λ e. Switch c.args.pos (expr_of e) (switch_items (map switch_item_of c.args.items.items)))
    c.into_inner.ensures
