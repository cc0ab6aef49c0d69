-- None of the types so far is const, so the rest decides.
use Rattle.std.proofs.Common.{◌≡◌, drop, map}
use Rattle.c_types.specs.CType.{type_of}
use Rattle.c_types.specs.Structures.{structures_of, any_const}
use Rattle.c_types.proofs.table.TypeTable.any_const.Given as goal

abbrev pub invariant-loop-id : goal.invariant-loop-id
invariant-loop-id l =
    any_const (map (type_of l.self) (drop l.id-index l.types)) (structures_of l.self)
    ≡ any_const (map (type_of l.self) l.types) (structures_of l.self)
