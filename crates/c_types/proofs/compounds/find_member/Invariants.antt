-- No member so far has the name.
use Rattle.std.proofs.Common.{◌≡◌, drop}
use Rattle.c_types.specs.Compounds.{member_named}
use Rattle.c_types.proofs.compounds.find_member.Given as goal

abbrev pub invariant-loop-member : goal.invariant-loop-member
invariant-loop-member l = member_named l.members l.name ≡ member_named (drop l.member-index l.members) l.name
