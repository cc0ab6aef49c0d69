-- The layouts of well-formed types.
use Rattle.std.proofs.Common.{◌≡◌, ℕ, ◌<◌, ◌≤◌, true, List, Option, Some, None, is_some}
use Rattle.std.proofs.Common.{IfSome, option_map, refl, arith}
use Rattle.std.proofs.Math.Nat.{mul-pos}
use Rattle.c_types.specs.declared.basic.Basic.{Basic}
use Rattle.c_types.specs.declared.basic.Basic.TheVariants as b
use Rattle.c_types.specs.declared.layout.Layout.{Layout}
use Rattle.c_types.specs.CType.{CType, Bare, Plain, Array, BasicType, Pointer, Function, Compound, Enumerated}
use Rattle.c_types.specs.Layouts.{layout_of, bare_layout, basic_layout, times}
use Rattle.c_types.specs.Structures.{Structure, StructureBody, structure_at}
use Rattle.c_core.specs.Types.{IsSize}
use Rattle.c_conversions.specs.Contents.{size_in}
use Rattle.c_expr_rules.specs.Targets.{align_in, is_complete}
use Rattle.c_typing_law.specs.WellFormed.{TypeFormed, IsElement, LayoutFormed, StructuresFormed, BodyFormed}

basic_laid : (basic : Basic) → IfSome (basic_layout basic) LayoutFormed
basic_laid b.Void = tt
basic_laid b.Bool = record { size = (omega arith, omega arith); some = omega arith; align = omega arith }
basic_laid b.Char = record { size = (omega arith, omega arith); some = omega arith; align = omega arith }
basic_laid b.SChar = record { size = (omega arith, omega arith); some = omega arith; align = omega arith }
basic_laid b.UChar = record { size = (omega arith, omega arith); some = omega arith; align = omega arith }
basic_laid b.Short = record { size = (omega arith, omega arith); some = omega arith; align = omega arith }
basic_laid b.UShort = record { size = (omega arith, omega arith); some = omega arith; align = omega arith }
basic_laid b.Int = record { size = (omega arith, omega arith); some = omega arith; align = omega arith }
basic_laid b.UInt = record { size = (omega arith, omega arith); some = omega arith; align = omega arith }
basic_laid b.Long = record { size = (omega arith, omega arith); some = omega arith; align = omega arith }
basic_laid b.ULong = record { size = (omega arith, omega arith); some = omega arith; align = omega arith }
basic_laid b.LongLong = record { size = (omega arith, omega arith); some = omega arith; align = omega arith }
basic_laid b.ULongLong = record { size = (omega arith, omega arith); some = omega arith; align = omega arith }

body_laid : (structures : List Structure) (body : Option StructureBody)
    → ((given : StructureBody) → body ≡ Some given → BodyFormed structures given)
    → IfSome (option_map (λ (given : StructureBody). given.layout) body) LayoutFormed
body_laid structures None formed = tt
body_laid structures (Some body) formed = (formed body refl).layout

bare_laid : (structures : List Structure) → StructuresFormed structures → (bare : Bare)
    → IfSome (bare_layout bare structures) LayoutFormed
bare_laid structures formed (BasicType basic) = basic_laid basic
bare_laid structures formed (Pointer to) =
    record { size = (omega arith, omega arith); some = omega arith; align = omega arith }
bare_laid structures formed (Function gives parameters variadic) = tt
bare_laid structures formed (Compound number) =
    body_laid structures (structure_at structures number).body (formed number)
bare_laid structures formed (Enumerated number) =
    record { size = (omega arith, omega arith); some = omega arith; align = omega arith }

elements_laid : (n : ℕ) (element : Option Layout) → IsElement (Some n) element → IfSome element LayoutFormed
    → IfSome (option_map (times n) element) LayoutFormed
elements_laid n None counted laid = tt
elements_laid n (Some element) counted laid = record {
  size = (mul-pos {m = n} {n = element.size} counted.0 laid.size.0, counted.1);
  some = laid.some;
  align = laid.align;
}

pub laid : (structures : List Structure) → StructuresFormed structures → (type : CType)
    → TypeFormed structures type → IfSome (layout_of type structures) LayoutFormed
laid structures formed (Plain bare quals) h = bare_laid structures formed bare
laid structures formed (Array of None) h = tt
laid structures formed (Array of (Some n)) h =
    elements_laid n (layout_of of structures) h.1 (laid structures formed of h.0)

-- a layout that is there
pub record Measured (layout : Option Layout) : Type 0 where
  pub size : IsSize (size_in layout)
  pub some : 0 < align_in layout
  pub align : align_in layout ≤ 8

layout_measured : (layout : Option Layout) → is_some layout ≡ true → IfSome layout LayoutFormed → Measured layout
layout_measured None there laid = cc
layout_measured (Some layout) there laid = record { size = laid.size; some = laid.some; align = laid.align }

pub measured : (structures : List Structure) → StructuresFormed structures → (type : CType)
    → TypeFormed structures type → is_complete type structures ≡ true → Measured (layout_of type structures)
measured structures formed type h there =
    layout_measured (layout_of type structures) there (laid structures formed type h)
