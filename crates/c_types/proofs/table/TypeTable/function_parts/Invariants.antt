-- The parts so far and those of the rest are all.
use Rattle.std.proofs.Common.{◌≡◌, ◌+◌, ◌≤◌, drop}
use Rattle.c_types.specs.CType.{type_of, types_at, all_types}
use Rattle.c_types.specs.PartCount.{all_counts, function_count}
use Rattle.c_types.proofs.table.TypeTable.function_parts.Given as goal

abbrev pub invariant-loop-parameter : goal.invariant-loop-parameter
invariant-loop-parameter l =
    (l.parts + all_counts (types_at (all_types l.self) (drop l.parameter-index l.parameters))
    ≡ function_count (type_of l.self l.fn.gives) (types_at (all_types l.self) l.parameters))
    × (l.parts ≤ 8192)
