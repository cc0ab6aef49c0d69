-- The numbers of each rule's constraints rise: they are numerals.
use Rattle.std.proofs.Common.{lit<}
use Rattle.c_decl_rules.proofs.law.order_law.Goals as goal

pub returns : goal.returns
returns c = record {
  typedef = λ name seen. ((lit< tt, tt), (tt, tt));
  function = λ name seen linkage. (
    (lit< tt, (lit< tt, (lit< tt, (lit< tt, tt)))),
    ((lit< tt, (lit< tt, (lit< tt, tt))), ((lit< tt, (lit< tt, tt)), ((lit< tt, tt), (tt, tt)))),
  );
  object = λ structures name seen linkage. (
    (lit< tt, (lit< tt, (lit< tt, (lit< tt, (lit< tt, tt))))),
    (
      (lit< tt, (lit< tt, (lit< tt, (lit< tt, tt)))),
      ((lit< tt, (lit< tt, (lit< tt, tt))), ((lit< tt, (lit< tt, tt)), ((lit< tt, tt), (tt, tt)))),
    ),
  );
}
