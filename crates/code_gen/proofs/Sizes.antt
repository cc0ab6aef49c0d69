-- Sizes are lengths, of functions too.
use Rattle.std.proofs.Common.{◌≡◌, ℕ, List, length}
use Rattle.c_core.specs.TreeUnit.{Definition, Program}
use Rattle.code_gen.specs.CalledTypes.{Through}
use Rattle.code_gen.specs.UnitCode.{parameter_seals, end_code, is_main, outermost, function_code, function_size}
use Rattle.code_gen.specs.SizeLaw.{AllSizesAreLengths}
use Rattle.code_gen.proofs.Lengths.{on_long, two_long, code_long}
use Rattle.code_gen.proofs.StatementLengths.{statement_long}
use Rattle.std.proofs.Common.{refl}

function_long : (program : Program) (table : List Through) (at text : ℕ) (definition : Definition)
    → length (function_code program table at text definition) ≡ function_size definition
function_long program table at text definition =
    two_long definition.token (end_code (is_main definition)) _ _ _ _ _
    (on_long definition.token (parameter_seals 0 definition.parameters))
    (statement_long program table _ text (outermost definition.slots) definition.body) refl

pub all_long : AllSizesAreLengths
all_long program table = record {
  expression = code_long program table;
  statement = statement_long program table;
  function = function_long program table;
}
