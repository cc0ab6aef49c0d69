-- The numbers of each rule's constraints rise: they are numerals.
use Rattle.std.proofs.Common.{lit<}
use Rattle.c_statement_rules.proofs.law.order_law.Goals as goal

pub returns : goal.returns
returns c = record {
  parameter = λ is_named type. ((lit< tt, tt), (tt, tt));
  name = λ structures here adjusted. ((lit< tt, tt), (tt, tt));
  definition = λ structures definition seen linkage. (
    (lit< tt, (lit< tt, (lit< tt, (lit< tt, tt)))),
    (
      (lit< tt, (lit< tt, (lit< tt, tt))),
      ((lit< tt, (lit< tt, tt)), ((lit< tt, tt), (tt, tt))),
    ),
  );
}
