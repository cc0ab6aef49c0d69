-- The machine's run of the code of a unit is what the unit means.
use Rattle.std.specs.Prelude.{◌≡◌, ℕ, ◌-◌}
use Rattle.lib_defs.specs.Library.{Library}
use Rattle.lib_defs.specs.Variants.{KeepsVariants}
use Rattle.lib_defs.specs.World.{Input}
use Rattle.run_defs.specs.Starts.{Budgets}
use Rattle.run_defs.specs.State.{State}
use Rattle.c_core.specs.TreeUnit.{Program}
use Rattle.c_core.specs.TypedUnit.{IsWellTyped}
use Rattle.vm_code.specs.Contents.{Contents}
use Rattle.vm_code.specs.Machine.{RunsTo}
use Rattle.code_gen.specs.Meaning.{Meaning, meaning}
use Rattle.code_gen.specs.UnitCode.{unit_code}

-- The run of code over an input ends so: with this outcome, output, error output and journal, and in so many ticks.
-- `last` is the state behind its last event. A run has one end (`vm_code`), so there is no other.
pub record RunsAs (library : Library) (code : Contents) (budgets : Budgets) (input : Input) (m : Meaning) : Type 0 where
  pub instructions : ℕ
  pub last : State
  pub runs : RunsTo library code budgets input m.outcome last instructions
  pub output : last.world.streams.output ≡ m.output
  pub err : last.world.streams.err ≡ m.err
  pub journal : last.journal ≡ m.journal
  pub ticks : budgets.ticks - last.ticks ≡ m.ticks

-- The code of each well-typed unit runs as the unit means, over every library whose rows answer as their prototypes
-- give, with any input and within all budgets.
abbrev pub EachUnitRuns : Type 0
EachUnitRuns = (library : Library) → KeepsVariants library → (program : Program) → IsWellTyped program
    → (budgets : Budgets) (input : Input)
    → RunsAs library (unit_code program) budgets input (meaning library program input budgets)
