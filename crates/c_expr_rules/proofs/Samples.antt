-- Short words for examples: types, structures, and parts that have them.
use Rattle.std.proofs.Common.{ℕ, Bool, true, false, List, [], ◌∷◌, Option, Some, None, pos}
use Rattle.critical_table.specs.declared.pos.Pos.{Pos}
use Rattle.c_types.specs.declared.basic.Basic.TheVariants as basic
use Rattle.c_types.specs.declared.shape.Quals.{Quals}
use Rattle.c_types.specs.CType.{CType, Plain, Compound, Nil, Cons, no_quals, void}
use Rattle.c_types.specs.CType as type
use Rattle.c_types.specs.Structures.{Structure}
use Rattle.c_core.specs.declared.named.ObjectName.TheVariants as object_name
use Rattle.c_core.specs.declared.named.FunctionName.TheVariants as name
use Rattle.c_core.specs.Tree.{Core, At}
use Rattle.c_core.specs.Tree as tree
use Rattle.c_scopes.specs.Ruled.{Ruled, Fits, Breaks}
use Rattle.c_conversions.specs.declared.operand.Category.TheVariants as category
use Rattle.c_conversions.specs.Kinds.{basic_type, pointer_to, int_kind}
use Rattle.c_conversions.specs.Parts.{Part, value, lvalue, designator}

abbrev pub here : Pos
here = record { line = 1; column = 1 }

abbrev pub broken : {A : Type 0} → Ruled A → Option ℕ
broken (Fits a) = None
broken (Breaks number) = Some number

abbrev pub given : Ruled Part → Option CType
given (Fits part) = Some (tree.type_in part.core)
given (Breaks number) = None

abbrev pub int : CType
int = basic_type basic.Int

abbrev pub char : CType
char = basic_type basic.Char

abbrev pub unsigned : CType
unsigned = basic_type basic.UInt

abbrev pub long : CType
long = basic_type basic.Long

abbrev pub const : Quals
const = record { constant = true; volatile = false; restricted = false }

abbrev pub const_int : CType
const_int = Plain (type.BasicType basic.Int) const

-- a structure with the member `m`, an `int`; one with a const member; an incomplete one
abbrev pub complete : CType
complete = Plain (Compound 0) no_quals

abbrev pub with_const : CType
with_const = Plain (Compound 1) no_quals

abbrev pub incomplete : CType
incomplete = Plain (Compound 2) no_quals

abbrev pub body_of : CType → Bool → Structure
body_of member constant = record {
  is_union = false;
  body = Some (record {
    members = record { name = 109 ∷ []; of = member; at = 0 } ∷ [];
    layout = record { size = 4; align = 4 };
    has_const = constant;
  });
}

abbrev pub structures : List Structure
structures = body_of int false ∷ body_of const_int true ∷ record { is_union = false; body = None } ∷ []

-- int (int), and void (int, ...)
abbrev pub of_int : CType
of_int = Plain (type.Function int (Cons int Nil) false) no_quals

abbrev pub of_any : CType
of_any = Plain (type.Function void (Cons int Nil) true) no_quals

-- an object of a type, the same with `register`, and what it holds
abbrev pub local : CType → Core
local type = At type here (tree.Object (object_name.Slot 0))

abbrev pub object : CType → Part
object type = lvalue (local type)

abbrev pub register : CType → Part
register type = record { category = category.Lvalue true; null = false; core = local type }

abbrev pub loaded : CType → Part
loaded type = value (local type)

abbrev pub function : CType → Part
function type = designator (At (pointer_to type) here (tree.Function (name.Unit here)))

abbrev pub called : CType → Part
called type = value (function type).core

abbrev pub number : ℕ → Part
number n = value (At int here (tree.Number (int_kind basic.Int) (pos n)))

abbrev pub void_value : Part
void_value = value (At void here (tree.Discard (number 1).core))

-- `(void *)0`
abbrev pub null : Part
null = record { category = category.Value; null = true; core = At (pointer_to void) here tree.Null }
