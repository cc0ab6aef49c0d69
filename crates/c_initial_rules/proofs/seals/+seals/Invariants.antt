-- Structures lie ever deeper; the members so far stand there.
use Rattle.std.proofs.Common.{◌≡◌, ◌++◌, ◌+◌, ◌-◌, ◌*◌, drop, map}
use Rattle.c_types.specs.CType.{CType, all_types}
use Rattle.c_types.specs.Structures.{structures_of, typed_member}
use Rattle.c_types.specs.Types.{count_of}
use Rattle.c_initial_rules.specs.Seals.{of_members, type_sealed, structure_sealed}
use Rattle.c_initial_rules.proofs.seals.+seals.Given as goal

abbrev pub decreases-structure_seals : goal.decreases-structure_seals
decreases-structure_seals l = l.depth * (2 * count_of l.types.now + 2)

abbrev pub decreases-type_seals : goal.decreases-type_seals
decreases-type_seals l = l.depth * (2 * count_of l.types.now + 2) + 2 * l.of.0 + 1

abbrev pub invariant-structure_seals-loop-member : goal.invariant-structure_seals-loop-member
invariant-structure_seals-loop-member l =
    let in_type : CType → _ = λ type. type_sealed (structure_sealed (l.depth - 1) (structures_of l.types)) type
    (structures_of l.types) in
    l.all.items ++ of_members in_type (map (typed_member (all_types l.types)) (drop l.member-index l.members))
    ≡ of_members in_type (map (typed_member (all_types l.types)) l.members)
