-- Enumerators and their values (6.7.2.2).
use Rattle.std.specs.Prelude.{ℤ, pos, negsuc, ◌+ℤ◌, Bool, false, not, ◌&&◌, int_le, is_some, List, [], ◌∷◌}
use Rattle.std.specs.Prelude.{Option, Some, None, Result, Ok, Err}
use Rattle.c_types.specs.declared.basic.Basic.TheVariants.{Int}
use Rattle.c_core.specs.declared.fault.ConstFault.{ConstFault}
use Rattle.c_core.specs.declared.fault.ConstFault.TheVariants.{NotConstant, Value}
use Rattle.c_scopes.specs.Named.{Named, ConstantOf}
use Rattle.c_scopes.specs.Ruled.{Ruled, Fits, Breaks, Demand, ruled}
use Rattle.c_conversions.specs.Kinds.{basic_type}

-- The expression of a value: in a constant expression no evaluated operation is undefined (6.6p4). What is no integer
-- constant expression is refused at the enumerator's name.
abbrev pub given_value_rule : Result ℤ ConstFault → Ruled (Option ℤ)
given_value_rule (Ok n) = Fits (Some n)
given_value_rule (Err NotConstant) = Fits None
given_value_rule (Err Value) = Breaks 42

-- the first value without an expression, and the one behind another (6.7.2.2p3)
abbrev pub first_value : ℤ
first_value = pos 0

abbrev pub next_value : ℤ → ℤ
next_value n = n +ℤ pos 1

-- a constant that an `int` has (6.7.2.2p2)
abbrev pub is_int : Option ℤ → Bool
is_int None = false
is_int (Some n) = int_le (negsuc 2147483647) n && int_le n (pos 2147483647)

-- `here` is what the name stands for in this scope so far
abbrev pub enumerator_demands : Option Named → Option ℤ → List Demand
enumerator_demands here value = (2, not (is_some here)) ∷ (14, is_int value) ∷ []

abbrev pub value_or_none : Option ℤ → ℤ
value_or_none None = pos 0
value_or_none (Some n) = n

-- an enumerator of that value
abbrev pub enumerator_rule : Option Named → Option ℤ → Ruled ℤ
enumerator_rule here value = ruled (enumerator_demands here value) (value_or_none value)

-- what its name stands for: a constant of type `int` (6.7.2.2p3)
abbrev pub enumerator : ℤ → Named
enumerator n = ConstantOf (basic_type Int) n
