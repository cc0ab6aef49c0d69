-- Arrays and their lengths (6.7.6.2).
use Rattle.std.specs.Prelude.{ℕ, ℤ, pos, ◌^◌, Bool, true, false, not, ◌&&◌, ◌||◌, nat_le, is_some, int_lt}
use Rattle.std.specs.Prelude.{unsigned_abs, List, [], ◌∷◌, Option, Some, None, Result, Ok, Err}
use Rattle.c_types.specs.declared.layout.Layout.{Layout}
use Rattle.c_types.specs.CType.{CType, Array}
use Rattle.c_types.specs.Layouts.{layout_of, array_layout, largest}
use Rattle.c_types.specs.Structures.{Structure}
use Rattle.c_core.specs.declared.fault.ConstFault.{ConstFault}
use Rattle.c_core.specs.declared.fault.ConstFault.TheVariants.{NotConstant, Value}
use Rattle.c_scopes.specs.Ruled.{Ruled, Breaks, Demand, ruled}
use Rattle.c_conversions.specs.Versions.{is_function}

-- above 0, and a `size_t`, as each constant above 0 is (6.7.6.2p1)
abbrev pub is_length : ℤ → Bool
is_length n = int_lt (pos 0) n && int_lt n (pos (2 ^ 64))

abbrev pub length_demands : ℤ → List Demand
length_demands n = (9, is_length n) ∷ []

-- a length by the value of its expression, an integer constant expression (6.6p6)
abbrev pub length_rule : Result ℤ ConstFault → Ruled ℕ
length_rule (Ok n) = ruled (length_demands n) (unsigned_abs n)
length_rule (Err NotConstant) = Breaks 9
length_rule (Err Value) = Breaks 42

-- an array whose length was left out (6.2.5p22)
abbrev pub is_without_length : CType → Bool
is_without_length (Array of None) = true
is_without_length other = false

-- a complete object type (6.2.5p1)
abbrev pub is_complete : CType → List Structure → Bool
is_complete type structures = is_some (layout_of type structures)

abbrev pub is_layout_small : Option Layout → Bool
is_layout_small None = true
is_layout_small (Some layout) = nat_le layout.size largest

-- A type that may stand where a complete object type is needed, as far as no other constraint is on it.
abbrev pub is_no_incomplete : CType → List Structure → Bool
is_no_incomplete type structures = is_complete type structures || is_function type || is_without_length type

-- Elements are objects, and neither functions nor arrays whose lengths were left out.
abbrev pub array_demands : List Structure → CType → Option ℕ → List Demand
array_demands structures of length = (7, is_no_incomplete of structures)
    ∷ (8, is_layout_small (array_layout (layout_of of structures) length))
    ∷ (9, not (is_without_length of))
    ∷ (10, not (is_function of)) ∷ []

-- an array of that many elements, or one whose length is left out
abbrev pub array_rule : List Structure → CType → Option ℕ → Ruled CType
array_rule structures of length = ruled (array_demands structures of length) (Array of length)
