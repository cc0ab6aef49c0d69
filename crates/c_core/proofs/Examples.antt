-- Core expressions and statements on either side of the rules.
use Rattle.std.proofs.Common.{ℕ, ◌≤◌, true, false, List, [], ◌∷◌, Some, None, pos, refl, lit<, lit≤, arith}
use Rattle.std.proofs.lemmas.Int.{ints}
use Rattle.acc_num.specs.Numbers.{InRange}
use Rattle.acc_num.specs.declared.kind.IntKind.TheVariants as k
use Rattle.critical_table.specs.declared.pos.Pos.{Pos}
use Rattle.c_types.specs.declared.basic.Basic.TheVariants as basic
use Rattle.c_types.specs.CType.{CType, CTypes, Plain, BasicType, Pointer, Compound, Nil, Cons, no_quals}
use Rattle.c_types.specs.CType as type
use Rattle.c_core.specs.declared.form.Content.TheVariants as content
use Rattle.c_core.specs.declared.form.Scalar.TheVariants as scalar
use Rattle.c_core.specs.declared.named.ObjectName.TheVariants as object
use Rattle.c_core.specs.declared.named.FunctionName.TheVariants as name
use Rattle.c_core.specs.declared.operator.Operator.TheVariants as operator
use Rattle.c_core.specs.declared.operator.By.TheVariants as by
use Rattle.c_core.specs.declared.operator.Change.TheVariants as change
use Rattle.c_core.specs.declared.statement.Local.{Local}
use Rattle.c_core.specs.Tree.{Core, At, Node, Cores, NoCore, MoreCores}
use Rattle.c_core.specs.Tree as tree
use Rattle.c_core.specs.TreeUnit.{Statement, Stands, Action, Statements, NoStatement, MoreStatements}
use Rattle.c_core.specs.TreeUnit as unit
use Rattle.c_core.specs.Named.{Names}
use Rattle.c_core.specs.Typed.{CoreTyped, ArePassed, IsCalled}
use Rattle.c_core.specs.TypedUnit.{Flow, StatementTyped}

-- ---- short words for the examples

abbrev here : ℕ → Pos
here column = record { line = 1; column = column }

abbrev int : CType
int = Plain (BasicType basic.Int) no_quals

abbrev long : CType
long = Plain (BasicType basic.Long) no_quals

abbrev void : CType
void = Plain (BasicType basic.Void) no_quals

abbrev to : CType → CType
to type = Plain (Pointer type) no_quals

abbrev structure : CType
structure = Plain (Compound 0) no_quals

-- int (int), and void (const char *, ...)
abbrev of_int : CType
of_int = Plain (type.Function int (Cons int Nil) false) no_quals

abbrev of_any : CType
of_any = Plain (type.Function void (Cons int Nil) true) no_quals

abbrev one : ℕ → Core
one value = At int (here 1) (tree.Number k.I32 (pos value))

abbrev one_long : ℕ → Core
one_long value = At long (here 1) (tree.Number k.I64 (pos value))

-- the object in slot 0, an `int`; a structure in slot 1; a pointer in slot 2
abbrev objects : List Local
objects = record { slot = 0; size = 4 } ∷ record { slot = 1; size = 8 } ∷ record { slot = 2; size = 16 } ∷ []

abbrev names : Names
names = record { functions = here 5 ∷ []; statics = here 7 ∷ here 9 ∷ []; objects = objects }

abbrev local : CType → ℕ → Core
local type slot = At type (here 1) (tree.Object (object.Slot slot))

abbrev function : CType → Core
function type = At (to type) (here 1) (tree.Function (name.Unit (here 5)))

-- a number up to 2^31 - 1 is an `int`
small : (value : ℕ) → value ≤ 2147483647 → CoreTyped names (one value)
small value h = (refl, record { least = record { le = tt }; greatest = omega (arith, ints) })

small_long : (value : ℕ) → value ≤ 2147483647 → CoreTyped names (one_long value)
small_long value h = (refl, record { least = record { le = tt }; greatest = omega (arith, ints) })

-- ---- numbers and operators

sum : CoreTyped names (At int (here 2) (tree.Arithmetic operator.Add k.I32 (one 1) (one 2)))
sum = (refl, (refl, small 1 (lit≤ tt), refl, small 2 (lit≤ tt)))

-- a number above the greatest of its kind
too_large : CoreTyped names (one 2147483648) → ⊥
too_large h = omega (arith, h.1.greatest)

-- `1 + 2L` without its conversion, and with it
without_conversion : CoreTyped names (At int (here 2) (tree.Arithmetic operator.Add k.I32 (one 1) (one_long 2))) → ⊥
without_conversion h = let differ = h.1.2 in cc

with_conversion : CoreTyped names (At long (here 2) (tree.Arithmetic operator.Add k.I64
    (At long (here 1) (tree.Convert k.I64 (one 1))) (one_long 2)))
with_conversion = (refl, (refl, (refl, (tt, small 1 (lit≤ tt))), refl, small_long 2 (lit≤ tt)))

-- the count of a shift may have any kind
shift : CoreTyped names (At int (here 2) (tree.Arithmetic operator.ShiftLeft k.I32 (one 1) (one_long 2)))
shift = (refl, (refl, small 1 (lit≤ tt), tt, small_long 2 (lit≤ tt)))

-- a sum of two `int` is no `long`
other_type : CoreTyped names (At long (here 2) (tree.Arithmetic operator.Add k.I32 (one 1) (one 2))) → ⊥
other_type h = let differ = h.0 in cc

-- ---- objects and pointers

load : CoreTyped names (At int (here 1) (tree.Load (scalar.Number k.I32) (local int 0)))
load = (refl, (refl, (tt, refl)))

-- slot 3 holds no object there
unmade_slot : CoreTyped names (local int 3) → ⊥
unmade_slot h = let differ = h.1 in cc

-- a string literal at a token that is none of the unit's
no_static : CoreTyped names (At int (here 1) (tree.Object (object.Static (here 8)))) → ⊥
no_static h = let differ = h.1 in cc

-- `*p` is reached through the value of p, not through its place
star : CoreTyped names
    (At int (here 1) (tree.Reach by.Star 4 4 (At (to int) (here 2) (tree.Load scalar.Pointer (local (to int) 2)))))
star = (tt, ((lit< tt, lit≤ tt), lit< tt, lit≤ tt, refl, (tt, (refl, (tt, refl)))))

place_as_pointer : CoreTyped names (At int (here 1) (tree.Reach by.Star 4 4 (local (to int) 2))) → ⊥
place_as_pointer h = let differ = h.1.3 in cc

-- an element of no bytes
no_size : CoreTyped names (At int (here 1) (tree.Reach by.Star 0 4 (At (to int) (here 2) tree.Null))) → ⊥
no_size h = omega (arith, h.1.0.0)

-- `x += 1L` works in `long`, `x += 1` without a conversion of the 1 doesn't
add_long : CoreTyped names
    (At int (here 2) (tree.Update (change.Number operator.Add k.I32 k.I64) (local int 0) (one_long 1)))
add_long = (refl, (refl, (tt, refl), refl, small_long 1 (lit≤ tt)))

add_int : CoreTyped names
    (At int (here 2) (tree.Update (change.Number operator.Add k.I32 k.I64) (local int 0) (one 1))) → ⊥
add_int h = let differ = h.1.2 in cc

-- ---- calls

-- int f(int): f(1), used
call : CoreTyped names
    (At int (here 3) (tree.Call true (Some (content.Scalar (scalar.Number k.I32))) (function of_int)
    (MoreCores (one 1) NoCore)))
call = (refl, (refl, (tt, refl), (small 1 (lit≤ tt), tt), (refl, (refl, tt, tt)), (lit< tt, lit≤ tt), tt))

-- an argument is missing, or one too many
missing_argument : CoreTyped names
    (At int (here 3) (tree.Call true (Some (content.Scalar (scalar.Number k.I32))) (function of_int)
    NoCore)) → ⊥
missing_argument h = h.1.3.1

too_many : CoreTyped names
    (At int (here 3) (tree.Call true (Some (content.Scalar (scalar.Number k.I32))) (function of_int)
    (MoreCores (one 1) (MoreCores (one 1) NoCore)))) → ⊥
too_many h = h.1.3.1.2

-- the value of a void call is used
use_of_void : CoreTyped names (At void (here 3) (tree.Call true None (function of_any) (MoreCores (one 1) NoCore))) → ⊥
use_of_void h = h.1.5

-- void f(int, ...): numbers and pointers may follow, a structure may not
further : CoreTyped names (At void (here 3) (tree.Call false None (function of_any)
    (MoreCores (one 1) (MoreCores (one_long 2) NoCore))))
further = (tt, (refl, (tt, refl), (small 1 (lit≤ tt), (small_long 2 (lit≤ tt), tt)), further_passed, tt, tt))
  where
    further_passed : IsCalled (to of_any) None (MoreCores (one 1) (MoreCores (one_long 2) NoCore))
    further_passed = (refl, (refl, tt, (tt, tt)))

structure_further : CoreTyped names (At void (here 3) (tree.Call false None (function of_any)
    (MoreCores (one 1) (MoreCores (local structure 1) NoCore)))) → ⊥
structure_further h = h.1.3.1.2.0

-- what leaves nothing is no argument, for a parameter of type `void` neither
no_value_passed : ArePassed (Cons void Nil) false (MoreCores (At void (here 1) (tree.Discard (one 1))) NoCore) → ⊥
no_value_passed h = h.1

-- ---- statements

abbrev flow : Flow
flow = record { gives = Some (content.Scalar (scalar.Number k.I32)); slots = 9; breaks = false; continues = false }

abbrev stands : Action → Statement
stands action = Stands (here 1) action

abbrev loop : Action → Statement
loop action = stands (unit.While (one 1) (stands action))

break_in_loop : StatementTyped names flow (loop unit.Break)
break_in_loop = (tt, small 1 (lit≤ tt), refl)

break_outside : StatementTyped names flow (stands unit.Break) → ⊥
break_outside h = let differ = h in cc

-- a `switch` may be left by `break`, and not gone on with by `continue`; a label may stand at its end and not beyond it
abbrev switch : ℕ → Action → Statement
switch at action =
    stands (unit.Switch (one 1) [] (MoreStatements (stands action) NoStatement)
    (record { value = pos 5; at = at } ∷ []) None)

five : InRange k.I32 (pos 5)
five = record { least = record { le = tt }; greatest = record { le = tt } }

break_in_switch : StatementTyped names flow (switch 1 unit.Break)
break_in_switch = (small 1 (lit≤ tt), ((five, lit≤ tt, tt), tt), tt, (refl, tt))

continue_in_switch : StatementTyped names flow (switch 1 unit.Continue) → ⊥
continue_in_switch h = let differ = h.3.0 in cc

label_beyond : StatementTyped names flow (switch 2 unit.Break) → ⊥
label_beyond h = omega (arith, h.1.0.1)

-- a block with a new object, and one whose slot an object around it has
abbrev block : ℕ → Statement
block slot = stands (unit.Block (record { slot = slot; size = 4 } ∷ []) NoStatement)

new_slot : StatementTyped names flow (block 3)
new_slot = ((lit< tt, (lit< tt, lit≤ tt), refl, tt), tt)

taken_slot : StatementTyped names flow (block 2) → ⊥
taken_slot h = let differ = h.0.2 in cc

-- the last bytes of an object may be marked, those behind it may not
seal : StatementTyped names flow (stands (unit.SealBytes 1 4 4))
seal = (lit< tt, lit≤ tt)

seal_beyond : StatementTyped names flow (stands (unit.SealBytes 1 5 4)) → ⊥
seal_beyond h = omega (arith, h.1)

return_int : StatementTyped names flow (stands (unit.ReturnValue (one 0)))
return_int = (refl, small 0 (lit≤ tt))

return_long : StatementTyped names flow (stands (unit.ReturnValue (one_long 0))) → ⊥
return_long h = let differ = h.0 in cc

return_nothing : StatementTyped names flow (stands unit.Return) → ⊥
return_nothing h = let differ = h in cc
