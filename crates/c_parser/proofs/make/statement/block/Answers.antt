-- The goals of `block` that are answered by hand.
use Rattle.std.proofs.Common.{◌∙◌, ap}
use Rattle.c_syntax.specs.ViewUnit.{statement_of}
use Rattle.c_parser.proofs.RowsUnit.{block_tree}
use Rattle.c_parser.proofs.make.statement.block.Goals as goal

pub returns : goal.returns
returns c = ap statement_of c.in_ok-new.ensures.ok ∙ block_tree c.args.items
