-- Core trees by hand, as the checker makes them: short words for the units of the examples, which stand on one line.
use Rattle.std.specs.Prelude.{ℕ, ◌*◌, Bool, true, false, ℤ, pos, negsuc, List, [], ◌∷◌, Option, Some, None, unwrap_or}
use Rattle.std.specs.Prelude.{codes}
use Rattle.acc_num.specs.Kinds.{bytes_of}
use Rattle.acc_num.specs.declared.kind.IntKind.{IntKind}
use Rattle.acc_num.specs.declared.kind.IntKind.TheVariants as k
use Rattle.critical_table.specs.declared.pos.Pos.{Pos}
use Rattle.c_types.specs.declared.basic.Basic.TheVariants as basic
use Rattle.c_types.specs.CType.{CType, Plain, Array, BasicType, Pointer, Compound, no_quals}
use Rattle.c_types.specs.CType as type
use Rattle.c_types.specs.Types.{Types}
use Rattle.c_core.specs.declared.form.Scalar.{Scalar}
use Rattle.c_core.specs.declared.form.Scalar.TheVariants as scalar
use Rattle.c_core.specs.declared.form.Content.{Content}
use Rattle.c_core.specs.declared.form.Content.TheVariants as content
use Rattle.c_core.specs.declared.named.ObjectName.TheVariants as object
use Rattle.c_core.specs.declared.named.FunctionName.TheVariants as name
use Rattle.c_core.specs.declared.operator.By.TheVariants as by
use Rattle.c_core.specs.declared.operator.Change.TheVariants as change
use Rattle.c_core.specs.declared.operator.Operator.{Operator}
use Rattle.c_core.specs.declared.operator.Operator.TheVariants as o
use Rattle.c_core.specs.declared.operator.Comparison.{Comparison}
use Rattle.c_core.specs.declared.statement.Local.{Local}
use Rattle.c_core.specs.declared.statement.Case.{Case}
use Rattle.c_core.specs.declared.static_object.Mark.TheVariants.{Literal}
use Rattle.c_core.specs.Tree.{Core, At, Node, Cores, NoCore, MoreCores, type_in, pos_in, cores}
use Rattle.c_core.specs.Tree as tree
use Rattle.c_core.specs.TreeUnit.{Statement, Stands, Action, Statements, NoStatement, MoreStatements, statements}
use Rattle.c_core.specs.TreeUnit.{Parameter, Definition, StaticBytes, Static, Program}
use Rattle.c_core.specs.TreeUnit as unit
use Rattle.c_core.specs.Types.{kind_in}
pub use Rattle.library_types.specs.LibraryTypes.{char, int, size_t, to, function}

abbrev pub at : ℕ → Pos
at column = record { line = 1; column = column }

-- ---- types

abbrev pub unsigned_char : CType
unsigned_char = Plain (BasicType basic.UChar) no_quals

abbrev pub short : CType
short = Plain (BasicType basic.Short) no_quals

abbrev pub long : CType
long = Plain (BasicType basic.Long) no_quals

abbrev pub bool : CType
bool = Plain (BasicType basic.Bool) no_quals

-- a structure: two members of type `int`
abbrev pub pair : CType
pair = Plain (Compound 0) no_quals

abbrev pub two : CType
two = Array int (Some 2)

abbrev pub kind_of : CType → IntKind
kind_of type = unwrap_or (kind_in type) k.I32

abbrev pub scalar_by : Option IntKind → Scalar
scalar_by (Some kind) = scalar.Number kind
scalar_by None = scalar.Pointer

abbrev pub scalar_of : CType → Scalar
scalar_of type = scalar_by (kind_in type)

abbrev pub target : CType → CType
target (Plain (Pointer to) quals) = to
target other = other

abbrev pub size_of : CType → ℕ
size_of (Plain (BasicType basic) quals) = bytes_of (kind_of (Plain (BasicType basic) quals))
size_of (Plain (Pointer to) quals) = 16
size_of (Plain bare quals) = 8
size_of (Array of len) = size_of of * unwrap_or len 0

abbrev pub align_of : CType → ℕ
align_of (Plain (BasicType basic) quals) = bytes_of (kind_of (Plain (BasicType basic) quals))
align_of (Plain (Pointer to) quals) = 8
align_of (Plain bare quals) = 4
align_of (Array of len) = align_of of

-- ---- expressions, with the column of their operator

abbrev pub constant : CType → ℕ → Core
constant type n = At type (at 0) (tree.Number (kind_of type) (pos n))

abbrev pub num : ℕ → Core
num n = constant int n

-- -1, as a constant that is folded
abbrev pub minus_one : Core
minus_one = At int (at 0) (tree.Number k.I32 (negsuc 0))

abbrev pub null_of : CType → Core
null_of type = At type (at 0) tree.Null

abbrev pub local : ℕ → CType → (slot : ℕ) → Core
local column type slot = At type (at column) (tree.Object (object.Slot slot))

abbrev pub global : ℕ → CType → (token : ℕ) → Core
global column type token = At type (at column) (tree.Object (object.Static (at token)))

-- an lvalue becomes a value, at its own place
abbrev pub get : Core → Core
get place = At (type_in place) (pos_in place) (tree.Load (scalar_of (type_in place)) place)

abbrev pub set : ℕ → Core → Core → Core
set column place value = At (type_in place) (at column) (tree.Assign (scalar_of (type_in place)) place value)

abbrev pub set_whole : ℕ → Core → Core → Core
set_whole column place value = At (type_in place) (at column) (tree.AssignWhole (size_of (type_in place)) place value)

abbrev pub binary : Operator → ℕ → Core → Core → Core
binary operator column a b = At (type_in a) (at column) (tree.Arithmetic operator (kind_of (type_in a)) a b)

abbrev pub add : ℕ → Core → Core → Core
add column a b = binary o.Add column a b

abbrev pub compare : Comparison → ℕ → Core → Core → Core
compare comparison column a b = At int (at column) (tree.Compare comparison a b)

abbrev pub convert : CType → Core → Core
convert type value = At type (pos_in value) (tree.Convert (kind_of type) value)

abbrev pub retype : CType → Core → Core
retype type pointer = At type (pos_in pointer) (tree.Retype pointer)

abbrev pub address : ℕ → Core → Core
address column place = At (to (type_in place)) (at column) (tree.AddressOf place)

-- `*p`
abbrev pub deref : ℕ → Core → Core
deref column p = At (target (type_in p)) (at column)
    (tree.Reach by.Star (size_of (target (type_in p))) (align_of (target (type_in p))) p)

-- an array becomes a pointer to its first element
abbrev pub decay : CType → Core → Core
decay element place = At (to element) (pos_in place) (tree.Narrow (size_of (type_in place)) place)

-- `p + n`, forwards
abbrev pub step : ℕ → Core → Core → Core
step column p n = At (type_in p) (at column)
    (tree.Step (record { size = size_of (target (type_in p)); back = false }) false p n)

-- `p[n]`
abbrev pub index : ℕ → Core → Core → Core
index column p n = deref column (step column p n)

-- `v.m` and `p->m`, of a member at a byte
abbrev pub member : ℕ → CType → (byte : ℕ) → Core → Core
member column type byte place = At type (at column) (tree.Member byte place)

-- of a structure of a size, aligned to 4
abbrev pub arrow : ℕ → (size : ℕ) → CType → (byte : ℕ) → Core → Core
arrow column size type byte p = At type (at column)
    (tree.Member byte (At (target (type_in p)) (at column) (tree.Reach by.Arrow size 4 p)))

-- `++v`, `v += n` and the like, where the operator works in `int`
abbrev pub update : Operator → ℕ → Core → Core → Core
update operator column place number = At (type_in place) (at column)
    (tree.Update (change.Number operator (kind_of (type_in place)) (kind_of (type_in number))) place number)

-- `v++`, `v--`
abbrev pub postfix : Operator → ℕ → Core → Core
postfix operator column place = At (type_in place) (at column)
    (tree.Postfix (change.Number operator (kind_of (type_in place)) k.I32) place)

-- `p++`, `p--`
abbrev pub pointer_postfix : (back : Bool) → ℕ → Core → Core
pointer_postfix back column place = At (type_in place) (at column)
    (tree.Postfix (change.Pointer (record { size = size_of (target (type_in place)); back = back })) place)

-- `p += n`
abbrev pub pointer_update : (back : Bool) → ℕ → Core → Core → Core
pointer_update back column place number = At (type_in place) (at column)
    (tree.Update (change.Pointer (record { size = size_of (target (type_in place)); back = back })) place number)

abbrev pub discard : Core → Core
discard value = At type.void (pos_in value) (tree.Discard value)

-- ---- calls

abbrev pub unit_function : CType → (token : ℕ) → Core
unit_function type token = At (to type) (at 0) (tree.Function (name.Unit (at token)))

abbrev pub row_function : CType → (row : ℕ) → Core
row_function type row = At (to type) (at 0) (tree.Function (name.Library row))

abbrev pub call_giving : (used : Bool) → ℕ → CType → Option Content → Core → List Core → Core
call_giving used column type gives function arguments =
    At type (at column) (tree.Call used gives function (cores arguments))

-- of a function that gives a scalar
abbrev pub call : ℕ → CType → Core → List Core → Core
call column type function arguments =
    call_giving true column type (Some (content.Scalar (scalar_of type))) function arguments

abbrev pub call_unused : ℕ → CType → Core → List Core → Core
call_unused column type function arguments =
    discard (call_giving false column type (Some (content.Scalar (scalar_of type))) function arguments)

abbrev pub call_void : ℕ → Core → List Core → Core
call_void column function arguments = call_giving false column type.void None function arguments

abbrev pub call_whole : ℕ → CType → Core → List Core → Core
call_whole column type function arguments =
    call_giving true column type (Some (content.Whole (size_of type))) function arguments

-- a structure argument
abbrev pub by_value : Core → Core
by_value value = At (type_in value) (pos_in value) (tree.ValueObject (size_of (type_in value)) value)

-- ---- statements

abbrev pub does : Action → Statement
does action = Stands (at 0) action

abbrev pub eval : Core → Statement
eval value = does (unit.Evaluate (discard value))

abbrev pub eval_void : Core → Statement
eval_void value = does (unit.Evaluate value)

abbrev pub return : Core → Statement
return value = does (unit.ReturnValue value)

abbrev pub slot : CType → ℕ → Local
slot type n = record { slot = n; size = size_of type }

abbrev pub block : List Local → List Statement → Statement
block locals items = does (unit.Block locals (statements items))

abbrev pub nothing : Statement
nothing = block [] []

-- `T x = value`, in a slot
abbrev pub init : ℕ → Core → Statement
init slot value = does (unit.Initialize slot 0 (content.Scalar (scalar_of (type_in value))) value)

abbrev pub init_at : ℕ → (byte : ℕ) → Core → Statement
init_at slot byte value = does (unit.Initialize slot byte (content.Scalar (scalar_of (type_in value))) value)

abbrev pub init_whole : ℕ → Core → Statement
init_whole slot value = does (unit.Initialize slot 0 (content.Whole (size_of (type_in value))) value)

abbrev pub if_then : Core → Statement → Statement
if_then test first = does (unit.If test first nothing)

abbrev pub case : ℤ → ℕ → Case
case value before = record { value = value; at = before }

-- ---- functions, static objects and units

abbrev pub holds : CType → Parameter
holds type = record { content = content.Scalar (scalar_of type); seals = [] }

abbrev pub definition : ℕ → List ℕ → CType → List Parameter → Option Content → Statement → Definition
definition token name type parameters gives body = record {
  token = at token;
  name = name;
  type = type;
  parameters = parameters;
  gives = gives;
  slots = 64;
  body = body;
}

abbrev pub gives_int : Option Content
gives_int = Some (content.Scalar (scalar.Number k.I32))

-- int main(void){..}, its name at a column
abbrev pub main_at : ℕ → List Local → List Statement → Definition
main_at token locals items = definition token (codes "main") (function int []) [] gives_int (block locals items)

abbrev pub main : List Local → List Statement → Definition
main locals items = main_at 5 locals items

-- a string literal, at a column
abbrev pub literal : ℕ → List ℕ → ℕ → Static
literal token bytes size = record {
  token = at token;
  size = size;
  items = record { at = 0; value = StaticBytes bytes } ∷ [];
  seals = record { at = 0; len = size; mark = Literal } ∷ [];
}

abbrev pub no_types : Types
no_types = record { made = []; functions = []; compounds = []; enumerations = 0 }

abbrev pub unit_of : List Definition → List Static → Program
unit_of functions statics = record { types = no_types; functions = functions; statics = statics }
