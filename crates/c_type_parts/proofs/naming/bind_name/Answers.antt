-- Behind a binding.
use Rattle.std.proofs.Common.{◌∙◌, ap}
use Rattle.c_scopes.specs.Scopes.{bound, is_tag}
use Rattle.c_type_parts.proofs.Becoming.{becomes_bound}
use Rattle.c_type_parts.proofs.naming.bind_name.Goals as goal

pub returns : goal.returns
returns c =
    becomes_bound c.args.types.now c.args.scopes.now c.bind.new.self c.args.name.now c.args.binding c.requires.here
    c.requires.binding
    (c.in_ok-bind.ensures
    ∙ ap (λ name. bound c.args.scopes.now (is_tag c.args.binding) name c.args.binding)
    (c.in_ok-name.ensures ∙ c.bytes.ensures))
