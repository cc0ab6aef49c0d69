-- The type that is new, and then its tag.
use Rattle.c_scopes.specs.declared.binding.TagState.TheVariants as state
use Rattle.c_type_parts.proofs.Becoming.{becomes_tagged}
use Rattle.c_type_parts.proofs.tagging.begin_enumeration.Goals as goal

pub returns : goal.returns
returns c =
    becomes_tagged c.args.scopes.now c.bind_name.new.scopes c.args.types.now c.new_enumeration.new.types c.in_ok-id.id
    c.args.name.now state.Begun _ _ c.in_ok-id.ensures c.in_ok-bind_name.ensures
