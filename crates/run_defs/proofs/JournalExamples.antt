-- Journals with a line that does not fit, and the number of that line, from 0: objects and library calls.
use Rattle.std.proofs.Common.{◌≡◌, [], ◌∷◌, ◌++◌, refl}
use Rattle.std.specs.Prelude.{codes, pos}
use Rattle.object_store.specs.declared.class.Class.TheVariants.{Automatic, Allocated}
use Rattle.object_store.specs.declared.mark.Mark.TheVariants.{Plain, Const, Clash}
use Rattle.object_store.specs.Reach.{reach_table}
use Rattle.lib_defs.specs.declared.shown.Shown.TheVariants.{Number, Function}
use Rattle.run_defs.specs.declared.event.Event.TheVariants as event
use Rattle.run_defs.specs.Judge.{Lawful, Unlawful, verdict}
use Rattle.run_defs.proofs.ExampleRuns.{row}
use Rattle.run_defs.proofs.ExampleLines.{begins, exits, stores, begins_copy, violates, gives, aborts}

-- The end, after lines that fit.
plain_end : verdict (begins ++ exits ∷ [])
    ≡ Lawful
unfolding reach_table
plain_end = refl

-- The end is missing.
no_end : verdict (begins)
    ≡ Unlawful 4
unfolding reach_table
no_end = refl

-- A line behind the end.
line_behind : verdict (begins ++ exits ∷ event.Died 6 ∷ [])
    ≡ Unlawful 5
unfolding reach_table
line_behind = refl

-- Objects.

-- The number of a dead object is given again.
number_again : verdict (begins ++ event.Died 6 ∷ event.Made 6 4 Automatic ∷ [])
    ≡ Unlawful 5
unfolding reach_table
number_again = refl

-- The next number tells the class: 8 is that of an automatic object, 9 that of an allocated one.
next_number : verdict (begins ++ event.Made 9 4 Automatic ∷ exits ∷ [])
    ≡ Unlawful 4
unfolding reach_table
next_number = refl

allocated_number : verdict (begins ++ event.Made 9 4 Allocated ∷ exits ∷ [])
    ≡ Lawful
unfolding reach_table
allocated_number = refl

-- A size of no bytes, and one above RSIZE_MAX.
no_size : verdict (begins ++ event.Made 8 0 Automatic ∷ [])
    ≡ Unlawful 4
unfolding reach_table
no_size = refl

large_size : verdict (begins ++ event.Made 8 16777217 Automatic ∷ [])
    ≡ Unlawful 4
unfolding reach_table
large_size = refl

-- An object dies twice.
dead_twice : verdict (begins ++ event.Died 6 ∷ event.Died 6 ∷ [])
    ≡ Unlawful 5
unfolding reach_table
dead_twice = refl

-- A store in its range.
stored : verdict (begins ++ stores 6 1 3 ∷ exits ∷ [])
    ≡ Lawful
unfolding reach_table
stored = refl

-- A store of no bytes, one past the end, to a literal, to a dead object, to none.
no_bytes : verdict (begins ++ stores 6 0 0 ∷ [])
    ≡ Unlawful 4
unfolding reach_table
no_bytes = refl

past_end : verdict (begins ++ stores 6 1 4 ∷ [])
    ≡ Unlawful 4
unfolding reach_table
past_end = refl

to_literal : verdict (begins ++ stores 4 0 1 ∷ [])
    ≡ Unlawful 4
unfolding reach_table
to_literal = refl

to_dead : verdict (begins ++ event.Died 6 ∷ stores 6 0 1 ∷ [])
    ≡ Unlawful 5
unfolding reach_table
to_dead = refl

to_none : verdict (begins ++ stores 8 0 1 ∷ [])
    ≡ Unlawful 4
unfolding reach_table
to_none = refl

-- A mark covers its bytes alone.
to_const : verdict (begins ++ event.Sealed 6 (record { at = 1; len = 1; mark = Const }) ∷ stores 6 0 1
    ∷ stores 6 2 2 ∷ stores 6 0 2 ∷ [])
    ≡ Unlawful 7
unfolding reach_table
to_const = refl

-- A seal may change a mark for another, but takes none off.
seal_again : verdict (begins ++ event.Sealed 4 (record { at = 0; len = 1; mark = Clash }) ∷ exits ∷ [])
    ≡ Lawful
unfolding reach_table
seal_again = refl

seal_plain : verdict (begins ++ event.Sealed 4 (record { at = 0; len = 1; mark = Plain }) ∷ exits ∷ [])
    ≡ Unlawful 4
unfolding reach_table
seal_plain = refl

-- A seal past the end.
seal_past_end : verdict (begins ++ event.Sealed 6 (record { at = 1; len = 4; mark = Const }) ∷ [])
    ≡ Unlawful 4
unfolding reach_table
seal_past_end = refl

-- Library calls.

-- A violation with all that belongs to it.
violated : verdict (begins ++ begins_copy 2 ∷ violates 5 ∷ stores 2 0 1 ∷ aborts ∷ event.HandlerReturned ∷ gives 34
    ∷ exits ∷ [])
    ≡ Lawful
unfolding reach_table
violated = refl

-- The action is left out.
no_action : verdict (begins ++ begins_copy 2 ∷ violates 5 ∷ aborts ∷ [])
    ≡ Unlawful 6
unfolding reach_table
no_action = refl

-- The action has another range.
other_action : verdict (begins ++ begins_copy 2 ∷ violates 5 ∷ stores 2 0 2 ∷ [])
    ≡ Unlawful 6
unfolding reach_table
other_action = refl

-- The action comes after the handler.
late_action : verdict (begins ++ begins_copy 0 ∷ violates 1 ∷ aborts ∷ event.HandlerReturned ∷ stores 2 0 1 ∷ [])
    ≡ Unlawful 8
unfolding reach_table
late_action = refl

-- The handler is not the one that was set last.
wrong_handler : verdict (begins ++ begins_copy 2 ∷ violates 5 ∷ stores 2 0 1
    ∷ event.HandlerCalled (codes "ignore_handler_s") ∷ [])
    ≡ Unlawful 7
unfolding reach_table
wrong_handler = refl

-- The one set last is called.
last_handler : verdict (begins ++ event.Called (row 20) [] ∷ event.HandlerSet (codes "h")
    ∷ event.Returned (row 20) (Function (codes "abort_handler_s")) ∷ begins_copy 0 ∷ violates 1
    ∷ event.HandlerCalled (codes "h") ∷ exits ∷ [])
    ≡ Lawful
unfolding reach_table
last_handler = refl

-- A handler is set outside of its row.
set_outside : verdict (begins ++ begins_copy 2 ∷ event.HandlerSet (codes "h") ∷ [])
    ≡ Unlawful 5
unfolding reach_table
set_outside = refl

-- One handler call for each constraint that fails.
handled_twice : verdict (begins ++ begins_copy 0 ∷ violates 1 ∷ aborts ∷ event.HandlerReturned ∷ violates 2 ∷ [])
    ≡ Unlawful 8
unfolding reach_table
handled_twice = refl

-- Behind `handled` only the call's return may stand.
no_return : verdict (begins ++ begins_copy 0 ∷ violates 1 ∷ aborts ∷ event.HandlerReturned ∷ exits ∷ [])
    ≡ Unlawful 8
unfolding reach_table
no_return = refl

-- The failure value.
other_value : verdict (begins ++ begins_copy 0 ∷ violates 1 ∷ aborts ∷ event.HandlerReturned ∷ gives 34 ∷ [])
    ≡ Unlawful 8
unfolding reach_table
other_value = refl

-- An earlier constraint is decided to fail.
not_first : verdict (begins ++ begins_copy 0 ∷ violates 5 ∷ [])
    ≡ Unlawful 5
unfolding reach_table
not_first = refl

-- The constraint is decided to hold.
holds : verdict (begins ++ begins_copy 2 ∷ violates 4 ∷ [])
    ≡ Unlawful 5
unfolding reach_table
holds = refl

-- The row has no such constraint.
no_constraint : verdict (begins ++ begins_copy 2 ∷ violates 7 ∷ [])
    ≡ Unlawful 5
unfolding reach_table
no_constraint = refl

-- The row has stored before.
stored_before : verdict (begins ++ begins_copy 2 ∷ stores 2 0 1 ∷ violates 5 ∷ [])
    ≡ Unlawful 6
unfolding reach_table
stored_before = refl

-- A constraint that the values decide to fail is passed over.
passed_over : verdict (begins ++ begins_copy 0 ∷ gives 0 ∷ [])
    ≡ Unlawful 5
unfolding reach_table
passed_over = refl

-- Another row returns.
other_row : verdict (begins ++ begins_copy 2 ∷ event.Returned (row 6) (Number (pos 0)) ∷ [])
    ≡ Unlawful 5
unfolding reach_table
other_row = refl

-- A call is closed before the one around it.
inner_first : verdict (begins ++ event.Called (row 49) [] ∷ begins_copy 2 ∷ event.Returned (row 49) (Number (pos 0))
    ∷ [])
    ≡ Unlawful 6
unfolding reach_table
inner_first = refl

-- A handler runs in which a call is open: that call returns first.
guest_handler : verdict (begins ++ begins_copy 0 ∷ violates 1 ∷ aborts ∷ event.Called (row 49) []
    ∷ event.HandlerReturned ∷ [])
    ≡ Unlawful 8
unfolding reach_table
guest_handler = refl

-- `handled` where no handler runs.
not_handled : verdict (begins ++ begins_copy 2 ∷ event.HandlerReturned ∷ [])
    ≡ Unlawful 5
unfolding reach_table
not_handled = refl

-- A handler is called where no constraint is violated.
not_violated : verdict (begins ++ begins_copy 2 ∷ aborts ∷ [])
    ≡ Unlawful 5
unfolding reach_table
not_violated = refl
