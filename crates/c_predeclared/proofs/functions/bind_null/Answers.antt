-- A type is made, and its name is bound.
use Rattle.std.proofs.Common.{ap}
use Rattle.c_types.specs.CType.{CType}
use Rattle.c_scopes.specs.Named.{NullPointerOf}
use Rattle.c_predeclared.proofs.AddingUp.{binds_as, binds_over, here_over}
use Rattle.c_predeclared.proofs.functions.bind_null.Goals as goal

pub bind_one-requires-clause-here : goal.bind_one-requires-clause-here
bind_one-requires-clause-here c = here_over _ _ _ c.in_ok-of.ensures.kept c.requires

pub returns : goal.returns
returns c = binds_over c.in_ok-of.ensures.kept c.requires
    (binds_as (ap (λ (type : CType). NullPointerOf type) c.in_ok-of.ensures.is) c.in_ok-bind_one.ensures)
