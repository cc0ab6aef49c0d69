-- The numbers of each list, one below the next.
use Rattle.std.proofs.Common.{arith}
use Rattle.c_expr_rules.proofs.law.rising_law.Goals as goal

pub returns : goal.returns
returns c = record {
  used = λ structures part. (tt, tt);
  value = λ structures part. ((omega arith, tt), (tt, tt));
  test = λ structures part. ((omega arith, (omega arith, tt)), ((omega arith, tt), (tt, tt)));
  switch = λ structures part. ((omega arith, (omega arith, tt)), ((omega arith, tt), (tt, tt)));
  literal = λ wide units. (tt, tt);
  sign = λ part. (tt, tt);
  not = λ part. (tt, tt);
  measure = λ structures type. (tt, tt);
  size_of = λ structures part. (tt, tt);
  address = λ part. (tt, tt);
  deref = λ structures part. (tt, tt);
  index = λ structures left right. (tt, tt);
  dot = λ structures name part. (tt, tt);
  arrow = λ structures name part. (tt, tt);
  cast = λ type part. (tt, tt);
  pass = λ type part. (tt, tt);
  further = λ part. (tt, tt);
  call = λ structures function arguments. ((omega arith, (omega arith, tt)), ((omega arith, tt), (tt, tt)));
}
