-- Constants, names and string literals (6.4.4, 6.4.5, 6.5.1).
use Rattle.std.specs.Prelude.{ℕ, ◌+◌, ◌*◌, ℤ, pos, int_le, Bool, true, false, not, ◌&&◌, ◌||◌, nat_le, List, [], ◌∷◌}
use Rattle.std.specs.Prelude.{Option, Some, None, if◌then◌else◌}
use Rattle.acc_num.specs.Numbers.{greatest_of}
use Rattle.acc_num.specs.Kinds.{bytes_of}
use Rattle.critical_table.specs.declared.pos.Pos.{Pos}
use Rattle.c_types.specs.declared.basic.Basic.{Basic}
use Rattle.c_types.specs.declared.basic.Basic.TheVariants as b
use Rattle.c_types.specs.CType.{CType, Array}
use Rattle.c_types.specs.Layouts.{largest}
use Rattle.c_core.specs.declared.named.ObjectName.TheVariants as object
use Rattle.c_core.specs.Tree.{At}
use Rattle.c_core.specs.Tree as tree
use Rattle.c_lexer.specs.declared.number.Number.{Number as Written}
use Rattle.c_scopes.specs.declared.binding.DeclaredFunction.{DeclaredFunction}
use Rattle.c_scopes.specs.Named.{Named, ObjectOf, FunctionOf, TypedefOf, ConstantOf, NullPointerOf, TagOf}
use Rattle.c_scopes.specs.Ruled.{Ruled, Fits, Breaks, Demand, ruled}
use Rattle.c_conversions.specs.declared.operand.Category.TheVariants as c
use Rattle.c_conversions.specs.Kinds.{basic_type, pointer_to, int_kind, is_unsigned, rank}
use Rattle.c_conversions.specs.Parts.{Part, value, lvalue, designator}
use Rattle.c_expr_rules.specs.Targets.{basic_in}

-- ---- 6.4.4.1p5

-- the types of integer constants in the order in which they are tried
abbrev pub number_types : List Basic
number_types = b.Int ∷ b.UInt ∷ b.Long ∷ b.ULong ∷ b.LongLong ∷ b.ULongLong ∷ []

-- how many `l` a suffix has at most where a constant may have the type: `int` none, `long` one, `long long` two
abbrev pub has_longs : Basic → ℕ → Bool
has_longs basic longs = nat_le (longs + 1) (rank basic)

-- A suffix with `u` leaves the unsigned types; without it a decimal constant has signed types alone.
abbrev pub has_sign : Basic → Written → Bool
has_sign basic number = if is_unsigned basic then number.unsigned || not number.decimal else not number.unsigned

-- the type stands in the list of the constant's suffix and base
abbrev pub is_listed : Written → Basic → Bool
is_listed number basic = has_longs basic number.longs && has_sign basic number

abbrev pub holds : Basic → ℕ → Bool
holds basic value = int_le (pos value) (greatest_of (int_kind basic))

abbrev pub may_have : Written → Basic → Bool
may_have number basic = is_listed number basic && holds basic number.value

-- the first of these types that stands in the list and holds the value
abbrev pub first_type : Written → List Basic → Option Basic
first_type number [] = None
first_type number (basic ∷ rest) =
    if may_have number basic then Some basic else first_type number rest

abbrev pub number_of_type : Pos → ℕ → Option Basic → Ruled Part
number_of_type at n None = Breaks 48
number_of_type at n (Some basic) = Fits (value (At (basic_type basic) at (tree.Number (int_kind basic) (pos n))))

abbrev pub number_rule : Pos → Written → Ruled Part
number_rule at number = number_of_type at number.value (first_type number number_types)

-- ---- 6.4.4.4p10, p11: `wchar_t` is `int` too

abbrev pub character_part : Pos → ℤ → Part
character_part at n = value (At (basic_type b.Int) at (tree.Number (int_kind b.Int) n))

-- ---- 6.4.5p6: a literal of so many units is an array with a null at its end, an object of its own

abbrev pub unit_type : Bool → Basic
unit_type wide = if wide then b.Int else b.Char

abbrev pub literal_demands : Bool → ℕ → List Demand
literal_demands wide units = (8, nat_le ((units + 1) * bytes_of (int_kind (unit_type wide))) largest) ∷ []

abbrev pub literal_object : Pos → Basic → ℕ → Part
literal_object at unit len = lvalue (At (Array (basic_type unit) (Some len)) at (tree.Object (object.Static at)))

abbrev pub literal_part : Pos → Bool → ℕ → Part
literal_part at wide units = literal_object at (unit_type wide) (units + 1)

abbrev pub literal_rule : Pos → Bool → ℕ → Ruled Part
literal_rule at wide units = ruled (literal_demands wide units) (literal_part at wide units)

-- ---- 6.5.1p2: an object is an lvalue, a function a designator, a constant a value

abbrev pub function_part : Pos → CType → DeclaredFunction → Part
function_part at type function = designator (At (pointer_to type) at (tree.Function function.name))

abbrev pub name_rule : Pos → Option Named → Ruled Part
name_rule at (Some (ObjectOf type object)) =
    Fits (record { category = c.Lvalue object.register; null = false; core = At type at (tree.Object object.name) })
name_rule at (Some (FunctionOf type function)) = Fits (function_part at type function)
name_rule at (Some (ConstantOf type n)) = Fits (value (At type at (tree.Number (int_kind (basic_in type)) n)))
name_rule at (Some (NullPointerOf type)) =
    Fits (record { category = c.Value; null = true; core = At type at tree.Null })
name_rule at (Some (TypedefOf type)) = Breaks 1
name_rule at (Some (TagOf type state)) = Breaks 1
name_rule at None = Breaks 1
