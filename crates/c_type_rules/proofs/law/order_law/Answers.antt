-- The numbers of each rule's constraints rise: they are numerals.
use Rattle.std.proofs.Common.{Bool, true, false, lit<}
use Rattle.c_scopes.specs.Ruled.{Rises}
use Rattle.c_type_rules.specs.Settings.{storage_demands}
use Rattle.c_type_rules.proofs.law.order_law.Goals as goal

storage_rises : (parameter before stands : Bool) → Rises (storage_demands parameter before stands)
storage_rises true before stands = ((lit< tt, tt), (tt, tt))
storage_rises false before stands = (tt, tt)

pub returns : goal.returns
returns c = record {
  array = λ structures of length.
      ((lit< tt, (lit< tt, (lit< tt, tt))), ((lit< tt, (lit< tt, tt)), ((lit< tt, tt), (tt, tt))));
  function = λ gives variadic may_vary. ((lit< tt, tt), (tt, tt));
  storage = storage_rises;
  enumerated = λ type state. ((lit< tt, tt), (tt, tt));
  enumerator = λ here value. ((lit< tt, tt), (tt, tt));
  member = λ structures given type. ((lit< tt, (lit< tt, tt)), ((lit< tt, tt), (tt, tt)));
  no_member = λ declares. ((lit< tt, tt), (tt, tt));
  content = λ is_union names type structures. ((lit< tt, tt), (tt, tt));
}
