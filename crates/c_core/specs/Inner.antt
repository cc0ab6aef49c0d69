-- What the fields of a `Core` stand for, and what is always true of them.
use Rattle.c_core.specs.declared.core_unit.Core.TheInside.{Inside}
use Rattle.c_core.specs.Ids.{FunctionsIn}
use Rattle.c_core.specs.TypedUnit.{IsWellTyped}
use Rattle.c_core.specs.ViewUnit.{Parts, program_of}

abbrev pub parts_of : Inside → Parts
parts_of core = record { types = core.types; functions = core.functions.items; statics = core.statics.items }

-- The unit is well-typed, and each id in it is one of its table's.
pub record IsSoundInside (core : Inside) : Type 0 where
  pub typed : IsWellTyped (program_of (parts_of core))
  pub ids : FunctionsIn core.types core.functions.items
