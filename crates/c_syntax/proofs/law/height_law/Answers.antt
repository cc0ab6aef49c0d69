-- Each clause of `height_law` is a lemma.
use Rattle.c_syntax.proofs.HeightLaws.{expr_high, type_name_high, declarator_high, initializer_high, statement_high}
use Rattle.c_syntax.proofs.HeightLaws.{external_high, tree_high}
use Rattle.c_syntax.proofs.law.height_law.Goals as goal

pub returns : goal.returns
returns c = record {
  expression = expr_high;
  type_name = type_name_high;
  declarator = declarator_high;
  initializer = initializer_high;
  statement = statement_high;
  external = external_high;
  least = tree_high;
  greatest = λ tree is. is.1;
}
