-- The type is made, and the name is bound.
use Rattle.c_predeclared.proofs.AddingUp.{binds_function, binds_over, here_over}
use Rattle.c_predeclared.proofs.functions.bind_function.Goals as goal

pub bind_one-requires-clause-here : goal.bind_one-requires-clause-here
bind_one-requires-clause-here c = here_over _ _ _ c.in_ok-of.ensures.kept c.requires

pub returns : goal.returns
returns c = binds_over c.in_ok-of.ensures.kept c.requires
    (binds_function c.text.ensures c.in_ok-of.ensures.is c.known_function.ensures c.in_ok-bind_one.ensures)
