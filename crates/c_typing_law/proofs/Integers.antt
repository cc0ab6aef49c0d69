-- Integers in the range of their kinds, and nodes of integer types.
use Rattle.std.proofs.Common.{◌≡◌, ℕ, ◌≤◌, ◌<◌, nat_lt, ℤ, pos, true, nat_le, List, Some, refl, sym, ◌∙◌, ap, subst}
use Rattle.std.proofs.Common.{arith}
use Rattle.std.specs.Prelude.{int_le, ◌≤ℤ◌}
use Rattle.std.proofs.lemmas.Bool.Decides.{nat_tests}
use Rattle.std.proofs.lemmas.Int.{ints}
use Rattle.acc_num.specs.Numbers.{InRange, least_of, greatest_of}
use Rattle.acc_num.specs.declared.kind.IntKind.{IntKind}
use Rattle.acc_num.specs.declared.kind.IntKind.TheVariants as k
use Rattle.critical_table.specs.declared.pos.Pos.{Pos}
use Rattle.c_types.specs.declared.basic.Basic.TheVariants as b
use Rattle.c_types.specs.CType.{CType, Plain, Array, BasicType, Pointer, Function, Compound, Enumerated}
use Rattle.c_types.specs.Layouts.{largest}
use Rattle.c_types.specs.Qualified.{without_quals}
use Rattle.c_types.specs.Structures.{Structure}
use Rattle.c_core.specs.declared.form.Form.{Form}
use Rattle.c_core.specs.declared.form.Form.TheVariants as form
use Rattle.c_core.specs.Forms.{node_form}
use Rattle.c_core.specs.Named.{Names}
use Rattle.c_core.specs.Tree.{At, Node}
use Rattle.c_core.specs.Typed.{NodeTyped}
use Rattle.c_core.specs.Types.{HasForm}
use Rattle.c_conversions.specs.Kinds.{is_integer, int_kind}
use Rattle.c_conversions.specs.Parts.{value}
use Rattle.c_expr_rules.specs.Targets.{basic_in}
use Rattle.c_expr_rules.specs.Uses.{has_value}
use Rattle.c_typing_law.specs.TypedParts.{ValueTyped}
use Rattle.c_typing_law.specs.WellFormed.{TypeFormed}
use Rattle.c_typing_law.proofs.Facts.{kind_number, form_number}

pub le_test : (m n : ℕ) → nat_le m n ≡ true → m ≤ n
le_test m n h = grind (arith, nat_tests)

pub lt_test : (m n : ℕ) → nat_lt m n ≡ true → m < n
lt_test m n h = grind (arith, nat_tests)

pub lt_holds : (m n : ℕ) → m < n → nat_lt m n ≡ true
lt_holds m n h = grind (arith, nat_tests)

pub le_holds : (a b : ℤ) → int_le a b ≡ true → a ≤ℤ b
le_holds a b h = grind (arith, ints)

least_below : (kind : IntKind) (n : ℕ) → least_of kind ≤ℤ pos n
least_below k.Bool n = omega (arith, ints)
least_below k.I8 n = omega (arith, ints)
least_below k.U8 n = omega (arith, ints)
least_below k.I16 n = omega (arith, ints)
least_below k.U16 n = omega (arith, ints)
least_below k.I32 n = omega (arith, ints)
least_below k.U32 n = omega (arith, ints)
least_below k.I64 n = omega (arith, ints)
least_below k.U64 n = omega (arith, ints)

pub natural_in_range : (kind : IntKind) (n : ℕ) → pos n ≤ℤ greatest_of kind → InRange kind (pos n)
natural_in_range kind n h = record { least = least_below kind n; greatest = h }

pub small_in_range : (n : ℕ) → n ≤ largest → InRange (int_kind b.ULong) (pos n)
small_in_range n h = natural_in_range k.U64 n (omega (arith, ints))

-- ---- the unqualified version of an integer type

pub unqualified_integer : (type : CType) → is_integer type ≡ true → is_integer (without_quals type) ≡ true
unqualified_integer (Plain (BasicType basic) quals) h = h
unqualified_integer (Plain (Enumerated number) quals) h = h
unqualified_integer (Plain (Pointer to) quals) h = h
unqualified_integer (Plain (Function gives parameters variadic) quals) h = h
unqualified_integer (Plain (Compound number) quals) h = h
unqualified_integer (Array of len) h = cc

pub unqualified_basic : (type : CType) → basic_in (without_quals type) ≡ basic_in type
unqualified_basic (Plain (BasicType basic) quals) = refl
unqualified_basic (Plain (Enumerated number) quals) = refl
unqualified_basic (Plain (Pointer to) quals) = refl
unqualified_basic (Plain (Function gives parameters variadic) quals) = refl
unqualified_basic (Plain (Compound number) quals) = refl
unqualified_basic (Array of len) = refl

-- ---- nodes of integer types

integer_formed : (structures : List Structure) (type : CType) → is_integer type ≡ true → TypeFormed structures type
integer_formed structures (Plain (BasicType basic) quals) h = tt
integer_formed structures (Plain (Enumerated number) quals) h = tt
integer_formed structures (Plain (Pointer to) quals) h = cc
integer_formed structures (Plain (Function gives parameters variadic) quals) h = cc
integer_formed structures (Plain (Compound number) quals) h = cc
integer_formed structures (Array of len) h = cc

integer_whole : (structures : List Structure) (type : CType) (at : Pos) (node : Node) → is_integer type ≡ true
    → has_value structures (value (At type at node)) ≡ true
integer_whole structures (Plain (BasicType basic) quals) at node h = refl
integer_whole structures (Plain (Enumerated number) quals) at node h = refl
integer_whole structures (Plain (Pointer to) quals) at node h = refl
integer_whole structures (Plain (Function gives parameters variadic) quals) at node h = refl
integer_whole structures (Plain (Compound number) quals) at node h = cc
integer_whole structures (Array of len) at node h = refl

pub integer_node : (names : Names) (structures : List Structure) (type : CType) (at : Pos) (node : Node)
    → is_integer type ≡ true → node_form node ≡ form.Number (int_kind (basic_in type)) → NodeTyped names node
    → ValueTyped names structures (At type at node)
integer_node names structures type at node h formed typed = record {
  core = (let P : Form → Type 0 = HasForm type in subst P (sym formed) (kind_number type h), typed);
  type = integer_formed structures type h;
  form = form_number type h ∙ ap Some (sym formed);
  whole = integer_whole structures type at node h;
}
