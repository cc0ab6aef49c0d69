-- A name is bound.
use Rattle.std.proofs.Common.{◌∙◌, ap}
use Rattle.c_scopes.specs.Scopes.{bound, is_tag}
use Rattle.c_predeclared.proofs.AddingUp.{binds_one}
use Rattle.c_predeclared.proofs.binding.bind_one.Goals as goal

pub returns : goal.returns
returns c = binds_one c.args.types.now c.args.scopes.now c.bind.new.self c.args.name.now c.args.binding
    c.requires.here c.requires.binding c.requires.name
    (c.in_ok-bind.ensures
    ∙ ap (λ n. bound c.args.scopes.now (is_tag c.args.binding) n c.args.binding)
    (c.in_ok-name.ensures ∙ c.as_bytes.ensures.value))
