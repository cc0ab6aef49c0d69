use Rattle.c_conversions.specs.Parts.{held_value}
use Rattle.c_conversions.proofs.Keeping.{core_there, core_stays, over}
use Rattle.c_conversions.proofs.value.loaded.Goals as goal

pub held_value-requires-clause-core : goal.held_value-requires-clause-core
held_value-requires-clause-core c = core_there c.in_ok-of.ensures c.args.core c.requires

pub returns : goal.returns
returns c =
    over (held_value c.args.held) c.in_ok-of.ensures (core_stays c.in_ok-of.ensures c.args.core c.requires)
    c.in_ok-made.ensures
