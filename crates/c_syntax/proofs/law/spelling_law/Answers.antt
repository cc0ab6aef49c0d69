-- Each clause of `spelling_law` is a lemma.
use Rattle.c_syntax.proofs.EmptyLaws.{some_declarator, some_initializer, some_item, some_statement, some_block_item}
use Rattle.c_syntax.proofs.EmptyLaws.{some_switch_item, some_external, some_tree}
use Rattle.c_syntax.proofs.law.spelling_law.Goals as goal

pub returns : goal.returns
returns c = record {
  declarator = some_declarator;
  initializer = some_initializer;
  item = some_item;
  statement = some_statement;
  block_item = some_block_item;
  switch_item = some_switch_item;
  external = some_external;
  tree = some_tree;
}
