-- A new table is sound.
use Rattle.std.proofs.Common.{subst, sym, ◌∙◌}
use Rattle.c_types.specs.Inner.{IsSound}
use Rattle.c_types.proofs.Fresh.{fresh_is, sound-fresh}
use Rattle.c_types.proofs.table.TypeTable.new.Goals as goal

pub invariant_of-result : goal.invariant_of-result
invariant_of-result c =
    subst IsSound
    (sym (fresh_is _ _ _ (c.in_ok-made.ensures.items ∙ c.basics.ensures) c.new.ensures.items
    c.new-2.ensures.items)) sound-fresh
