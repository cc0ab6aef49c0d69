-- Journals with a line that does not fit, and the number of that line, from 0: traps, stops and ends.
use Rattle.std.proofs.Common.{◌≡◌, [], ◌∷◌, ◌++◌, refl}
use Rattle.std.specs.Prelude.{codes, pos}
use Rattle.critical_table.specs.declared.case.Case.TheVariants.{L1, L3, L6, L7, L9, L11}
use Rattle.critical_table.specs.declared.code.Code.TheVariants.{U01, U05}
use Rattle.object_store.specs.declared.class.Class.TheVariants.{Allocated}
use Rattle.object_store.specs.Reach.{reach_table}
use Rattle.lib_defs.specs.declared.shown.Shown.TheVariants.{Number, Function, Place, NoValue}
use Rattle.run_defs.specs.declared.event.Event.TheVariants as event
use Rattle.run_defs.specs.declared.outcome.End.TheVariants as end
use Rattle.run_defs.specs.Judge.{Lawful, Unlawful, verdict}
use Rattle.run_defs.proofs.ExampleRuns.{row, at_two}
use Rattle.run_defs.proofs.ExampleLines.{begins, attempt, begins_copy, violates}

-- A reach that fails: one byte too many.
trapped : verdict (begins ++ event.ReachFailed L6 at_two (attempt 6 5) ∷ event.Ended (end.Trapped L6) ∷ [])
    ≡ Lawful
unfolding reach_table
trapped = refl

-- Another case; a reach that does not fail; another end; no end; no trap.
other_case : verdict (begins ++ event.ReachFailed L7 at_two (attempt 6 5) ∷ [])
    ≡ Unlawful 4
unfolding reach_table
other_case = refl

reached : verdict (begins ++ event.ReachFailed L6 at_two (attempt 6 4) ∷ [])
    ≡ Unlawful 4
unfolding reach_table
reached = refl

other_end : verdict (begins ++ event.ReachFailed L6 at_two (attempt 6 5) ∷ event.Ended (end.Trapped L1) ∷ [])
    ≡ Unlawful 5
unfolding reach_table
other_end = refl

goes_on : verdict (begins ++ event.ReachFailed L6 at_two (attempt 6 5) ∷ event.Died 6 ∷ [])
    ≡ Unlawful 5
unfolding reach_table
goes_on = refl

untold : verdict (begins ++ event.Ended (end.Trapped L6) ∷ [])
    ≡ Unlawful 4
unfolding reach_table
untold = refl

-- A reach of a dead object.
dead_reach : verdict (begins ++ event.Died 6 ∷ event.ReachFailed L1 at_two (attempt 6 4)
    ∷ event.Ended (end.Trapped L1) ∷ [])
    ≡ Lawful
unfolding reach_table
dead_reach = refl

-- An undefined operation and its end.
stopped : verdict (begins ++ event.Stopped U05 at_two ∷ event.Ended (end.Undefined U05) ∷ [])
    ≡ Lawful
unfolding reach_table
stopped = refl

other_stop : verdict (begins ++ event.Stopped U05 at_two ∷ event.Ended (end.Undefined U01) ∷ [])
    ≡ Unlawful 5
unfolding reach_table
other_stop = refl

-- A call with 3 names a function, one with 6 none.
called_type : verdict (begins ++ event.ValueFailed L3 at_two (Function (codes "g")) ∷ event.Ended (end.Trapped L3) ∷ [])
    ≡ Lawful
unfolding reach_table
called_type = refl

called_place : verdict (begins ++ event.ValueFailed L3 at_two (Place 6 0) ∷ [])
    ≡ Unlawful 4
unfolding reach_table
called_place = refl

called_function : verdict (begins ++ event.ValueFailed L6 at_two (Function (codes "g")) ∷ [])
    ≡ Unlawful 4
unfolding reach_table
called_function = refl

-- A handler of another type, behind a violation.
handler_type : verdict (begins ++ begins_copy 0 ∷ violates 1 ∷ event.ValueFailed L3 at_two (Function (codes "g"))
    ∷ event.Ended (end.Trapped L3) ∷ [])
    ≡ Lawful
unfolding reach_table
handler_type = refl

handler_null : verdict (begins ++ begins_copy 0 ∷ violates 1 ∷ event.ValueFailed L6 at_two (Place 0 0) ∷ [])
    ≡ Unlawful 6
unfolding reach_table
handler_null = refl

-- free of an automatic object, outside of free, and of null.
released : verdict (begins ++ event.Called (row 46) [] ∷ event.ValueFailed L9 at_two (Place 6 0)
    ∷ event.Ended (end.Trapped L9) ∷ [])
    ≡ Lawful
unfolding reach_table
released = refl

released_outside : verdict (begins ++ event.Called (row 43) [] ∷ event.ValueFailed L9 at_two (Place 6 0) ∷ [])
    ≡ Unlawful 5
unfolding reach_table
released_outside = refl

released_null : verdict (begins ++ event.Called (row 46) [] ∷ event.ValueFailed L9 at_two (Place 0 0) ∷ [])
    ≡ Unlawful 5
unfolding reach_table
released_null = refl

-- free of a function; of a number and of no value, which are no pointers.
released_function : verdict (begins ++ event.Called (row 46) [] ∷ event.ValueFailed L9 at_two (Function (codes "g"))
    ∷ event.Ended (end.Trapped L9) ∷ [])
    ≡ Lawful
unfolding reach_table
released_function = refl

released_number : verdict (begins ++ event.Called (row 46) [] ∷ event.ValueFailed L9 at_two (Number (pos 6)) ∷ [])
    ≡ Unlawful 5
unfolding reach_table
released_number = refl

released_nothing : verdict (begins ++ event.Called (row 46) [] ∷ event.ValueFailed L9 at_two NoValue ∷ [])
    ≡ Unlawful 5
unfolding reach_table
released_nothing = refl

-- free of an allocated object that is dead, or that lives.
released_twice : verdict (begins ++ event.Made 9 1 Allocated ∷ event.Died 9 ∷ event.Called (row 46) []
    ∷ event.ValueFailed L11 at_two (Place 9 0) ∷ event.Ended (end.Trapped L11) ∷ [])
    ≡ Lawful
unfolding reach_table
released_twice = refl

released_once : verdict (begins ++ event.Made 9 1 Allocated ∷ event.Called (row 46) []
    ∷ event.ValueFailed L11 at_two (Place 9 0) ∷ [])
    ≡ Unlawful 6
unfolding reach_table
released_once = refl

-- set_constraint_handler_s with an object, with a function.
set_place : verdict (begins ++ event.Called (row 20) [] ∷ event.ValueFailed L9 at_two (Place 6 0)
    ∷ event.Ended (end.Trapped L9) ∷ [])
    ≡ Lawful
unfolding reach_table
set_place = refl

set_function : verdict (begins ++ event.Called (row 20) [] ∷ event.ValueFailed L9 at_two (Function (codes "g")) ∷ [])
    ≡ Unlawful 5
unfolding reach_table
set_function = refl

-- printf's second argument, its format, and another row's argument.
argument : verdict (begins ++ event.Called (row 52) [] ∷ event.ArgumentFailed at_two 2
    ∷ event.Ended (end.Trapped L9) ∷ [])
    ≡ Lawful
unfolding reach_table
argument = refl

format : verdict (begins ++ event.Called (row 52) [] ∷ event.ArgumentFailed at_two 1 ∷ [])
    ≡ Unlawful 5
unfolding reach_table
format = refl

other_argument : verdict (begins ++ event.Called (row 50) [] ∷ event.ArgumentFailed at_two 2 ∷ [])
    ≡ Unlawful 5
unfolding reach_table
other_argument = refl
