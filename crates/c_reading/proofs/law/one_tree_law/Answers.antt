-- Each clause of `one_tree_law` is a lemma.
use Rattle.c_reading.proofs.OneTree.{one_expr, one_type_name, one_tree}
use Rattle.c_reading.proofs.law.one_tree_law.Goals as goal

pub returns : goal.returns
returns c = record { expression = one_expr; type_name = one_type_name; unit = one_tree }
