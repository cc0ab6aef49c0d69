-- A program without where its parts lie in memory.
use Rattle.acc_run.specs.declared.program.Program.{Program}
use Rattle.acc_run.specs.Program.{UnitParts}

-- the parts of a program
abbrev pub program_view : Program → UnitParts
program_view program = record { outputs = program.outputs.items; first = program.first; rest = program.rest.items }
