-- The place is what it was before the type was made.
use Rattle.c_core.specs.Tree.{At, AddressOf}
use Rattle.c_conversions.proofs.Keeping.{core_there, core_stays, over}
use Rattle.c_expr_rules.proofs.pointers.place_address.Goals as goal

pub address_at-requires-clause-core : goal.address_at-requires-clause-core
address_at-requires-clause-core c = core_there c.in_ok-of.ensures c.args.core c.requires

pub returns : goal.returns
returns c =
    over (λ type x. At type c.args.pos (AddressOf x)) c.in_ok-of.ensures
    (core_stays c.in_ok-of.ensures c.args.core c.requires) c.in_ok-made.ensures
