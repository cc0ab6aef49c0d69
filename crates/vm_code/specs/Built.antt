-- What is true of all code that `Code` builds.
use Rattle.std.specs.Prelude.{◌<◌, ◌≤◌, length}
use Rattle.std.specs.List.{All}
use Rattle.vm_code.specs.declared.parts.CodeFunction.{CodeFunction}
use Rattle.vm_code.specs.declared.parts.CodeObject.{CodeObject}
use Rattle.vm_code.specs.Contents.{Contents, function_room, type_room, FunctionFits, ObjectFits}

-- Its parts are so few that each has a number, each function starts at an instruction and has such parameters as may be
-- passed, and each static object has a size that a store makes.
pub record IsBuilt (code : Contents) : Type 0 where
  pub few_functions : length code.functions ≤ function_room
  pub few_objects : length code.objects ≤ function_room
  pub few_texts : length code.texts ≤ type_room
  pub few_types : length code.types ≤ type_room
  pub starts : All (λ (f : CodeFunction). f.start < length code.instrs) code.functions
  pub functions : All (λ (f : CodeFunction). FunctionFits f.parameters f.form f.room) code.functions
  pub objects : All (λ (o : CodeObject). ObjectFits o.bytes o.seals) code.objects
