-- Units, functions and static objects on either side of the rules.
use Rattle.std.proofs.Common.{ℕ, false, List, [], ◌∷◌, Some, None, pos, refl, lit<, lit≤, arith}
use Rattle.acc_num.specs.declared.kind.IntKind.TheVariants as k
use Rattle.critical_table.specs.declared.pos.Pos.{Pos}
use Rattle.c_types.specs.declared.basic.Basic.TheVariants as basic
use Rattle.c_types.specs.CType.{CType, CTypes, Plain, BasicType, Nil, Cons, no_quals}
use Rattle.c_types.specs.CType as type
use Rattle.c_types.specs.Types.{Types}
use Rattle.c_core.specs.declared.form.Content.TheVariants as content
use Rattle.c_core.specs.declared.form.Scalar.TheVariants as scalar
use Rattle.c_core.specs.Tree.{Core, At}
use Rattle.c_core.specs.Tree as tree
use Rattle.c_core.specs.TreeUnit.{Statement, Stands, Parameter, Definition, StaticValue, StaticNumber, StaticAddress}
use Rattle.c_core.specs.TreeUnit.{Static, Program}
use Rattle.c_core.specs.TreeUnit as unit
use Rattle.c_core.specs.TypedUnit.{DefinitionTyped, StaticTyped, IsWellTyped}

abbrev here : ℕ → Pos
here column = record { line = 1; column = column }

abbrev int : CType
int = Plain (BasicType basic.Int) no_quals

abbrev zero_core : Core
zero_core = At int (here 9) (tree.Number k.I32 (pos 0))

-- int NAME(PARAMETERS){return 0;}, its name at a column
abbrev function : ℕ → List ℕ → CTypes → List Parameter → Definition
function column name types parameters = record {
  token = here column;
  name = name;
  type = Plain (type.Function int types false) no_quals;
  parameters = parameters;
  gives = Some (content.Scalar (scalar.Number k.I32));
  slots = 1;
  body = Stands (here 8) (unit.ReturnValue zero_core);
}

abbrev main : Definition
main = function 5 (109 ∷ 97 ∷ 105 ∷ 110 ∷ []) Nil []

-- named `f`
abbrev other : Definition
other = function 6 (102 ∷ []) Nil []

abbrev program : Types → List Definition → List Static → Program
program types functions statics = record { types = types; functions = functions; statics = statics }

-- an object of 8 bytes at a column, with one item at byte 0
abbrev object : ℕ → StaticValue → Static
object column value = record {
  token = here column;
  size = 16;
  items = record { at = 0; value = value } ∷ [];
  seals = [];
}

one : StaticValue
one = StaticNumber k.I32 (pos 1)

defined : (name : List ℕ) (column : ℕ) (functions statics : List Pos)
    → DefinitionTyped functions statics (function column name Nil [])
defined name column functions statics = record {
  type = (refl, tt);
  gives = (lit< tt, lit≤ tt);
  parameters = tt;
  taken = lit≤ tt;
  slots = lit≤ tt;
  body = (refl, (refl, record { least = record { le = tt }; greatest = record { le = tt } }));
}

-- int main(void){return 0;}
least_unit : (types : Types) → IsWellTyped (program types (main ∷ []) [])
least_unit types = record {
  functions = (defined _ 5 _ _, tt);
  statics = tt;
  main = (refl, refl);
  distinct = (refl, tt);
  rising = tt;
  few_functions = lit≤ tt;
  few_statics = lit≤ tt;
  few_calls = lit≤ tt;
}

no_main : (types : Types) → IsWellTyped (program types (other ∷ []) []) → ⊥
no_main types h = h.main

two_mains : (types : Types) → IsWellTyped (program types (main ∷ main ∷ []) []) → ⊥
two_mains types h = h.main

-- int main(int x){return 0;}
main_takes : (types : Types) → IsWellTyped (program types
    (function 5 (109 ∷ 97 ∷ 105 ∷ 110 ∷ []) (Cons int Nil)
    (record { content = content.Scalar (scalar.Number k.I32); seals = [] } ∷ []) ∷ []) []) → ⊥
main_takes types h = let differ = h.main.0 in cc

-- static objects in the order of their tokens, and not in the other
abbrev pair : ℕ → ℕ → List Static
pair first second = object first (StaticNumber k.I32 (pos 1)) ∷ object second (StaticNumber k.I32 (pos 1)) ∷ []

falling : (types : Types) → IsWellTyped (program types (main ∷ []) (pair 8 7)) → ⊥
falling types h = let differ = h.rising.0 in cc

-- the address of an object, one past its end, and beyond that
abbrev address : ℕ → StaticValue
address offset = StaticAddress (record { object = here 7; offset = offset; bounds = None })

past_end : StaticTyped [] (object 7 (address 16) ∷ []) (object 7 (address 16))
past_end = record { size = (lit< tt, lit≤ tt); items = (lit≤ tt, lit≤ tt, tt); seals = tt }

beyond_end : StaticTyped [] (object 7 (address 17) ∷ []) (object 7 (address 17)) → ⊥
beyond_end h = omega (arith, h.items.0)

-- inside the bounds of a row, and not beyond them
abbrev in_row : ℕ → StaticValue
in_row offset =
    StaticAddress (record { object = here 7; offset = offset; bounds = Some (record { low = 4; high = 8 }) })

row : StaticTyped [] (object 7 (in_row 8) ∷ []) (object 7 (in_row 8))
row = record { size = (lit< tt, lit≤ tt); items = ((lit≤ tt, lit≤ tt, lit≤ tt), lit≤ tt, tt); seals = tt }

beyond_row : StaticTyped [] (object 7 (in_row 9) ∷ []) (object 7 (in_row 9)) → ⊥
beyond_row h = omega (arith, h.items.0.1)
