-- The code of a unit: its functions one behind another, its static objects, texts and called types.
use Rattle.std.specs.Prelude.{ℕ, suc, ◌+◌, Bool, true, false, List, [], ◌∷◌, ◌++◌, length, map, pos as positive}
use Rattle.std.specs.Prelude.{Option, Some}
use Rattle.std.specs.Str.{bytes_eq}
use Rattle.acc_num.specs.declared.kind.IntKind.TheVariants.{I32}
use Rattle.critical_table.specs.declared.pos.Pos.{Pos}
use Rattle.c_core.specs.declared.form.Content.{Content}
use Rattle.c_core.specs.declared.form.Content.TheVariants as content
use Rattle.c_core.specs.declared.function.Range.{Range}
use Rattle.c_core.specs.TreeUnit.{Parameter, Definition, Static, Program}
use Rattle.c_core.specs.Forms.{content_form, given_form}
use Rattle.c_core.specs.Types.{content_size}
use Rattle.c_core.specs.TypedUnit.{main_name}
use Rattle.vm_code.specs.declared.instr.Instr.{Instr}
use Rattle.vm_code.specs.declared.instr.Instr.TheVariants as i
use Rattle.vm_code.specs.declared.parts.Parameter.{Parameter as CodeParameter}
use Rattle.vm_code.specs.declared.parts.CodeFunction.{CodeFunction}
use Rattle.vm_code.specs.declared.parts.CodeObject.{CodeObject}
use Rattle.vm_code.specs.Contents.{Contents}
use Rattle.code_gen.specs.StaticContents.{static_bytes, seal_of}
use Rattle.code_gen.specs.CalledTypes.{Through, all_added, called_types}
use Rattle.code_gen.specs.CallsMade.{calls_in_functions}
use Rattle.code_gen.specs.ExpressionCode.{on}
use Rattle.code_gen.specs.StatementCode.{Around, statement_size, statement_code, texts_in}

-- ---- functions

-- the marks of parameters, in order: the k-th stands in slot k
abbrev pub range_seals : ℕ → List Range → List Instr
range_seals slot [] = []
range_seals slot (range ∷ rest) = i.Seal slot range.at range.len ∷ range_seals slot rest

abbrev pub parameter_seals : ℕ → List Parameter → List Instr
parameter_seals slot [] = []
parameter_seals slot (parameter ∷ rest) = range_seals slot parameter.seals ++ parameter_seals (suc slot) rest

-- the end of a body: that of `main` returns 0 (5.1.2.2.3)
abbrev pub end_code : Bool → List Instr
end_code true = i.Number I32 (positive 0) ∷ i.Give ∷ []
end_code false = i.Leave ∷ []

abbrev pub is_main : Definition → Bool
is_main function = bytes_eq function.name main_name

abbrev pub function_size : Definition → ℕ
function_size function = length (parameter_seals 0 function.parameters)
    + (statement_size 0 0 function.body + length (end_code (is_main function)))

-- No statement is left by a `break` or a `continue` in the outermost block. Value objects have slots above all others.
abbrev pub outermost : ℕ → Around
outermost slots = record { behind = 0; again = 0; left = []; left_again = []; values = slots }

abbrev pub function_code : Program → List Through → ℕ → ℕ → Definition → List (Instr × Pos)
function_code program table at text function = on function.token (parameter_seals 0 function.parameters)
    ++ statement_code program table (at + length (parameter_seals 0 function.parameters)) text
    (outermost function.slots) function.body
    ++ on function.token (end_code (is_main function))

abbrev pub functions_code : Program → List Through → ℕ → ℕ → List Definition → List (Instr × Pos)
functions_code program table at text [] = []
functions_code program table at text (first ∷ rest) = function_code program table at text first
    ++ functions_code program table (at + function_size first) (text + length (texts_in first.body)) rest

abbrev pub parameter_of : Parameter → CodeParameter
parameter_of parameter =
    record { size = content_size parameter.content; form = content_form parameter.content }

-- the bytes of a structure that a function gives
abbrev pub room_of : Option Content → ℕ
room_of (Some (content.Whole size)) = size
room_of other = 0

abbrev pub function_at : ℕ → Definition → CodeFunction
function_at at function = record {
  name = function.name;
  start = at;
  parameters = map parameter_of function.parameters;
  form = given_form function.gives;
  room = room_of function.gives;
}

abbrev pub functions_from : ℕ → List Definition → List CodeFunction
functions_from at [] = []
functions_from at (first ∷ rest) = function_at at first ∷ functions_from (at + function_size first) rest

-- ---- the unit

abbrev pub object_of : Program → Static → CodeObject
object_of program static = record { bytes = static_bytes program static; seals = map seal_of static.seals }

abbrev pub texts_of_functions : List Definition → List (List ℕ)
texts_of_functions [] = []
texts_of_functions (first ∷ rest) = texts_in first.body ++ texts_of_functions rest

abbrev pub call_table : Program → List Through
call_table program = all_added [] (calls_in_functions program.functions)

abbrev pub unit_code : Program → Contents
unit_code program = record {
  instrs = functions_code program (call_table program) 0 0 program.functions;
  functions = functions_from 0 program.functions;
  objects = map (object_of program) program.statics;
  texts = texts_of_functions program.functions;
  types = called_types program (call_table program);
}
