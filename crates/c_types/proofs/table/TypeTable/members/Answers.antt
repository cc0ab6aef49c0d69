-- The members as trees.
use Rattle.std.proofs.Common.{map, ap, sym, ◌∙◌}
use Rattle.std.specs.Prelude.{Option, option_map}
use Rattle.c_types.specs.declared.parts.Body.{Body}
use Rattle.c_types.specs.Types.{CompoundParts}
use Rattle.c_types.specs.CType.{type_of, all_types}
use Rattle.c_types.specs.Structures.{typed_member}
use Rattle.c_types.specs.Compounds.{members_in}
use Rattle.c_types.specs.Inner.{body_of}
use Rattle.c_types.proofs.Members.{typed-members_at}
use Rattle.c_types.proofs.table.TypeTable.members.Goals as goal

pub returns-in-Some-clause-typed : goal.returns-in-Some-clause-typed
returns-in-Some-clause-typed c =
    let now = c.args.self.now in
    ap (map (typed_member (all_types now)))
    (c.as_slice.ensures.value
    ∙ sym (ap (λ (o : Option Body). members_in (option_map body_of o)) c.in-Some.is)
    ∙ ap (λ (p : CompoundParts). members_in p.body) c.compound_parts.ensures.parts)
    ∙ typed-members_at now (type_of now c.args.id)
