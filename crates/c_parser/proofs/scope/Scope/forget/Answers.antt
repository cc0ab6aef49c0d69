-- The goals of `forget` that are answered by hand.
use Rattle.c_parser.proofs.Kept.{last_popped, kept_removed, kept_put}
use Rattle.c_parser.proofs.scope.Scope.forget.Goals as goal

pub invariant_of-self-in-None-entry : goal.invariant_of-self-in-None-entry
invariant_of-self-in-None-entry c =
    kept_removed c.pop.new.self.items _ c.in-Some.entry _ c.self.inside.names c.remove.new.self
    (last_popped _ _ _ _ c.pop.ensures.items c.in-Some.is) c.in-None.is c.self.invariant c.remove.ensures.updates

-- whether the insertion is answered by the value before or by a fault
pub invariant_of-self-in-Some-hidden : goal.invariant_of-self-in-Some-hidden
invariant_of-self-in-Some-hidden c =
    kept_put c.pop.new.self.items _ c.in-Some.entry _ c.self.inside.names c.insert.new.self
    (last_popped _ _ _ _ c.pop.ensures.items c.in-Some.is) c.in-Some-hidden.is c.self.invariant
    c.insert.result c.insert.ensures.updates c.insert.ensures.absent

pub invariant_of-self-in-Some-hidden-2 : goal.invariant_of-self-in-Some-hidden-2
invariant_of-self-in-Some-hidden-2 c =
    kept_put c.pop.new.self.items _ c.in-Some.entry _ c.self.inside.names c.insert.new.self
    (last_popped _ _ _ _ c.pop.ensures.items c.in-Some.is) c.in-Some-hidden.is c.self.invariant
    c.insert.result c.insert.ensures.updates c.insert.ensures.absent
