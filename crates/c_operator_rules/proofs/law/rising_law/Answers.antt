-- The numbers of each list, one below the next.
use Rattle.std.proofs.Common.{arith}
use Rattle.c_operator_rules.proofs.law.rising_law.Goals as goal

pub returns : goal.returns
returns c = record {
  arithmetic = λ left right. (tt, tt);
  add = λ structures left right. ((omega arith, tt), (tt, tt));
  subtract = λ structures left right. ((omega arith, tt), (tt, tt));
  logical = λ left right. (tt, tt);
  relational = λ left right. (tt, tt);
  equality = λ left right. (tt, tt);
  conditional = λ left right. (tt, tt);
  convert = λ type part. (tt, tt);
  assigned = λ structures target part. (tt, tt);
  assign = λ structures target. (tt, tt);
  compound = λ structures operator target right. ((omega arith, (omega arith, tt)), ((omega arith, tt), (tt, tt)));
  step = λ structures target. ((omega arith, (omega arith, tt)), ((omega arith, tt), (tt, tt)));
}
