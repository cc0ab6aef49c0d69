-- The types of the members so far are types of the table.
use Rattle.std.proofs.Common.{◌<◌, All}
use Rattle.c_types.specs.declared.shape.TypeId.{TypeId}
use Rattle.c_types.specs.Types.{count_of}
use Rattle.c_type_rules.proofs.tests.calls.fill.Given as goal

abbrev pub invariant-loop-number : goal.invariant-loop-number
invariant-loop-number l = All (λ (m : TypeId). m.0 < count_of l.types) l.members.types
