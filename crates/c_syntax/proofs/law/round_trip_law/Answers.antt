-- Each clause of `round_trip_law` is a lemma.
use Rattle.std.proofs.Common.{sym, subst}
use Rattle.c_syntax.specs.Tokens.{Match}
use Rattle.c_syntax.proofs.law.round_trip_law.Goals as goal

pub returns : goal.returns
returns c = λ stream tree printed spelled same. subst (Match stream.tokens) (sym same) spelled.spells
