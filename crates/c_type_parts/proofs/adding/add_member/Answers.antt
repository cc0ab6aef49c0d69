-- The rule of the member, at the place of its name.
use Rattle.std.proofs.Common.{sym}
use Rattle.c_types.specs.CType.{type_of}
use Rattle.c_scopes.specs.Env.{env_of}
use Rattle.c_type_parts.specs.Declaring.{member_added}
use Rattle.c_type_parts.specs.Seen.{MembersIn, members_of}
use Rattle.c_type_parts.proofs.AddedMembers.{added_answers}
use Rattle.c_type_parts.proofs.Steps.{answers_as}
use Rattle.c_type_parts.proofs.adding.add_member.Goals as goal

pub returns : goal.returns
returns c =
    let types = c.args.types.now in
    let scopes = c.args.scopes.now in
    let more = c.push.new.self in
    let name = c.in-Ok.ensures in
    answers_as (λ t done. members_of t more) (λ t done. MembersIn t more) _ _ _ _ _ _
    (λ i. member_added (sym c.member_place.ensures i) (sym name i) (type_of types c.args.member.of)
    (members_of types c.args.all.now) (env_of scopes types))
    (added_answers c.member_place.result c.in-Ok.name c.args.member.of c.args.all.now more scopes types
    c.requires.here c.requires.of c.requires.all c.push.result c.push.ensures.rule c.push.ensures.pushed)
