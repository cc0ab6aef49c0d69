-- Library calls by their lines, each with the verdict on them.
use Rattle.std.proofs.Common.{◌≡◌, ℕ, List, [], ◌∷◌, ◌++◌, refl}
use Rattle.std.specs.Prelude.{codes, pos}
use Rattle.std.specs.Fmt.{digits}
use Rattle.object_store.specs.Messages.{message_bytes}
use Rattle.object_store.specs.Reach.{reach_table}
use Rattle.object_store.specs.Storage.{live_bytes}
use Rattle.lib_defs.specs.declared.value.Value.TheVariants.{Num, Nothing}
use Rattle.lib_defs.specs.declared.value.ArgKind.TheVariants.{Int}
use Rattle.lib_defs.specs.Spans.{span}
use Rattle.lib_defs.specs.Reply.{null}
use Rattle.run_defs.specs.Lines.{event_text}
use Rattle.run_defs.specs.Evaluation.{Gives, bind, whole}
use Rattle.run_defs.specs.Calls.{Enter}
use Rattle.run_defs.proofs.ExampleRuns.{h, g, d, long, to_function, ignore_handler, ptr, size, calls, strcpy}
use Rattle.run_defs.proofs.ExampleRuns.{set_handler, returns, shows, handled_by, done}

-- set_constraint_handler_s(h), and with ignore_handler_s
abbrev set_h : List (List ℕ)
set_h =
    codes "lib set_constraint_handler_s"
    ∷ codes "set h"
    ∷ codes "ret set_constraint_handler_s abort_handler_s" ∷ []

abbrev set_ignore : List (List ℕ)
set_ignore =
    codes "lib set_constraint_handler_s"
    ∷ codes "set ignore_handler_s"
    ∷ codes "ret set_constraint_handler_s abort_handler_s" ∷ []

-- A constraint fails, and the handler returns: strcpy_s(0, 1, "long").
ignored : handled_by 100 ignore_handler (strcpy returns null 1 long) ≡ shows (set_ignore ++
    codes "lib strcpy_s 0:0 1 6:0"
    ∷ codes "violated strcpy_s 1"
    ∷ codes "handler ignore_handler_s"
    ∷ codes "handled"
    ∷ codes "ret strcpy_s 22"
    ∷ codes "end exited 0" ∷ [])
unfolding digits event_text reach_table message_bytes live_bytes span
ignored = refl

-- a handler that sets another one, and violates a constraint again
abbrev again : Enter
again f args at s = bind (set_handler ignore_handler s) (λ v s1. bind (strcpy returns d 2 long s1) (λ v s2.
    Gives Nothing s2))

-- The inner call's handler is the one that was set last.
nested : handled_by 100 h (strcpy again d 2 long) ≡ shows (set_h ++
    codes "lib strcpy_s 4:0 2 6:0"
    ∷ codes "violated strcpy_s 5"
    ∷ codes "store 4 0 1"
    ∷ codes "handler h"
    ∷ codes "lib set_constraint_handler_s"
    ∷ codes "set ignore_handler_s"
    ∷ codes "ret set_constraint_handler_s h"
    ∷ codes "lib strcpy_s 4:0 2 6:0"
    ∷ codes "violated strcpy_s 5"
    ∷ codes "store 4 0 1"
    ∷ codes "handler ignore_handler_s"
    ∷ codes "handled"
    ∷ codes "ret strcpy_s 34"
    ∷ codes "handled"
    ∷ codes "ret strcpy_s 34"
    ∷ codes "end exited 0" ∷ [])
unfolding digits event_text reach_table message_bytes live_bytes span
nested = refl

-- The last tick: three calls take one each, so does the handler's.
last_tick : handled_by 3 ignore_handler (strcpy returns d 2 long) ≡ shows (set_ignore ++
    codes "lib strcpy_s 4:0 2 6:0"
    ∷ codes "violated strcpy_s 5"
    ∷ codes "store 4 0 1"
    ∷ codes "handler ignore_handler_s"
    ∷ codes "handled"
    ∷ codes "ret strcpy_s 34"
    ∷ codes "end exited 0" ∷ [])
unfolding digits event_text reach_table message_bytes live_bytes span
last_tick = refl

-- One less: the action is stored, and no handler is called.
one_less : handled_by 2 ignore_handler (strcpy returns d 2 long) ≡ shows (set_ignore ++
    codes "lib strcpy_s 4:0 2 6:0"
    ∷ codes "violated strcpy_s 5"
    ∷ codes "store 4 0 1"
    ∷ codes "end out of ticks" ∷ [])
unfolding digits event_text reach_table message_bytes live_bytes span
one_less = refl

-- A call needs its tick before its line.
two_less : handled_by 1 ignore_handler (strcpy returns d 2 long) ≡ shows (set_ignore ++
    codes "end out of ticks" ∷ [])
unfolding digits event_text reach_table message_bytes live_bytes span
two_less = refl

-- An action that can't be reached, to a literal: nothing is stored, and no handler is called.
unreached : handled_by 100 ignore_handler (strcpy returns long 2 long) ≡ shows (set_ignore ++
    codes "lib strcpy_s 6:0 2 6:0"
    ∷ codes "trap 5 at 2:7 pointer 6 0 0 5 size 1 align 1 by textwrite"
    ∷ codes "end trapped 5" ∷ [])
unfolding digits event_text reach_table message_bytes live_bytes span
unreached = refl

-- A handler of another type: behind the action and its tick.
other_type : handled_by 100 g (strcpy returns d 2 long) ≡ shows (
    codes "lib set_constraint_handler_s"
    ∷ codes "set g"
    ∷ codes "ret set_constraint_handler_s abort_handler_s"
    ∷ codes "lib strcpy_s 4:0 2 6:0"
    ∷ codes "violated strcpy_s 5"
    ∷ codes "store 4 0 1"
    ∷ codes "trap 3 at 2:7 function g"
    ∷ codes "end trapped 3" ∷ [])
unfolding digits event_text reach_table message_bytes live_bytes span
other_type = refl

-- The library function set_constraint_handler_s has another type, too.
library_type : handled_by 100 (to_function 5) (strcpy returns null 2 long) ≡ shows (
    codes "lib set_constraint_handler_s"
    ∷ codes "set set_constraint_handler_s"
    ∷ codes "ret set_constraint_handler_s abort_handler_s"
    ∷ codes "lib strcpy_s 0:0 2 6:0"
    ∷ codes "violated strcpy_s 1"
    ∷ codes "trap 3 at 2:7 function set_constraint_handler_s"
    ∷ codes "end trapped 3" ∷ [])
unfolding digits event_text reach_table message_bytes live_bytes span
library_type = refl

-- Without a handler set, abort_handler_s is called.
aborts : done 100 (strcpy returns null 1 long) ≡ shows (
    codes "lib strcpy_s 0:0 1 6:0"
    ∷ codes "violated strcpy_s 1"
    ∷ codes "handler abort_handler_s"
    ∷ codes "end aborted" ∷ [])
unfolding digits event_text reach_table message_bytes live_bytes span
aborts = refl

-- A null pointer sets abort_handler_s.
null_handler : handled_by 100 ignore_handler (set_handler null) ≡ shows (set_ignore ++
    codes "lib set_constraint_handler_s"
    ∷ codes "set abort_handler_s"
    ∷ codes "ret set_constraint_handler_s ignore_handler_s"
    ∷ codes "end exited 0" ∷ [])
unfolding digits event_text reach_table message_bytes live_bytes span
null_handler = refl

-- What is no function of the program is no handler: an object, and a number above those of functions.
no_function : done 100 (set_handler d) ≡ shows (
    codes "lib set_constraint_handler_s"
    ∷ codes "trap 9 at 2:7 function 4:0"
    ∷ codes "end trapped 9" ∷ [])
unfolding digits event_text reach_table message_bytes live_bytes span
no_function = refl

-- The same of a number without a function.
unknown_function : done 100 (set_handler (to_function 99)) ≡ shows (
    codes "lib set_constraint_handler_s"
    ∷ codes "trap 9 at 2:7 function 4200000099:0"
    ∷ codes "end trapped 9" ∷ [])
unfolding digits event_text reach_table message_bytes live_bytes span
unknown_function = refl

-- a handler that calls exit(7)
abbrev exits : Enter
exits f args at s = calls returns 47 (record { value = Num (pos 7); kind = Int } ∷ []) s

-- A handler that ends the run leaves the call open.
left_open : handled_by 100 h (strcpy exits null 1 long) ≡ shows (set_h ++
    codes "lib strcpy_s 0:0 1 6:0"
    ∷ codes "violated strcpy_s 1"
    ∷ codes "handler h"
    ∷ codes "lib exit"
    ∷ codes "end exited 7" ∷ [])
unfolding digits event_text reach_table message_bytes live_bytes span
left_open = refl

-- A call that is done: strcpy_s(d, 8, "long").
copied : done 100 (strcpy returns d 8 long) ≡ shows (
    codes "lib strcpy_s 4:0 8 6:0"
    ∷ codes "store 4 0 5"
    ∷ codes "ret strcpy_s 0"
    ∷ codes "end exited 0" ∷ [])
unfolding digits event_text reach_table message_bytes live_bytes span
copied = refl

-- An object of a row takes its tick before its line.
allocated : done 2 (calls returns 43 (size 5 ∷ [])) ≡ shows (
    codes "lib malloc"
    ∷ codes "made 9 5 h"
    ∷ codes "ret malloc 9:0"
    ∷ codes "end exited 0" ∷ [])
unfolding digits event_text reach_table message_bytes live_bytes span
allocated = refl

-- One tick less.
allocated_none : done 1 (calls returns 43 (size 5 ∷ [])) ≡ shows (
    codes "lib malloc"
    ∷ codes "end out of ticks" ∷ [])
unfolding digits event_text reach_table message_bytes live_bytes span
allocated_none = refl

-- The last byte of the budget: 13 bytes are live.
last_byte : done 2 (calls returns 43 (size 987 ∷ [])) ≡ shows (
    codes "lib malloc"
    ∷ codes "made 9 987 h"
    ∷ codes "ret malloc 9:0"
    ∷ codes "end exited 0" ∷ [])
unfolding digits event_text reach_table message_bytes live_bytes span
last_byte = refl

-- One byte more: null, and no tick.
byte_more : done 1 (calls returns 43 (size 988 ∷ [])) ≡ shows (
    codes "lib malloc"
    ∷ codes "ret malloc 0:0"
    ∷ codes "end exited 0" ∷ [])
unfolding digits event_text reach_table message_bytes live_bytes span
byte_more = refl

-- free, and the same again.
released_twice : done 100 (λ s. bind (calls returns 43 (size 5 ∷ []) s) (λ v s1.
    bind (calls returns 46 (ptr (whole 9 5) ∷ []) s1) (λ w s2. calls returns 46 (ptr (whole 9 5) ∷ []) s2))) ≡ shows (
    codes "lib malloc"
    ∷ codes "made 9 5 h"
    ∷ codes "ret malloc 9:0"
    ∷ codes "lib free"
    ∷ codes "dead 9"
    ∷ codes "ret free -"
    ∷ codes "lib free"
    ∷ codes "trap 11 at 2:7 function 9:0"
    ∷ codes "end trapped 11" ∷ [])
unfolding digits event_text reach_table message_bytes live_bytes span
released_twice = refl

-- free of a static object.
released_static : done 100 (calls returns 46 (ptr d ∷ [])) ≡ shows (
    codes "lib free"
    ∷ codes "trap 9 at 2:7 function 4:0"
    ∷ codes "end trapped 9" ∷ [])
unfolding digits event_text reach_table message_bytes live_bytes span
released_static = refl

-- memcpy(d + 1, d, 2)
overlapping : done 100 (calls returns 23 (ptr (record d { offset = 1 }) ∷ ptr d ∷ size 2 ∷ [])) ≡ shows (
    codes "lib memcpy"
    ∷ codes "stop U11 at 2:7"
    ∷ codes "end undefined U11" ∷ [])
unfolding digits event_text reach_table message_bytes live_bytes span
overlapping = refl

-- a comparison that gives 5
abbrev compares : Enter
compares f args at s = Gives (Num (pos 5)) s

-- A row that wants a function of the unit called: its tick is taken behind the test.
asked : done 2 (calls compares 100 (ptr (to_function 4) ∷ ptr d ∷ ptr d ∷ [])) ≡ shows (
    codes "lib "
    ∷ codes "ret  5"
    ∷ codes "end exited 0" ∷ [])
unfolding digits event_text reach_table message_bytes live_bytes span
asked = refl

-- One tick less.
asked_none : done 1 (calls compares 100 (ptr (to_function 4) ∷ ptr d ∷ ptr d ∷ [])) ≡ shows (
    codes "lib "
    ∷ codes "end out of ticks" ∷ [])
unfolding digits event_text reach_table message_bytes live_bytes span
asked_none = refl

-- The null pointer is no function.
asked_null : done 1 (calls compares 100 (ptr null ∷ ptr d ∷ ptr d ∷ [])) ≡ shows (
    codes "lib "
    ∷ codes "trap 6 at 2:7 function 0:0"
    ∷ codes "end trapped 6" ∷ [])
unfolding digits event_text reach_table message_bytes live_bytes span
asked_null = refl

-- A function of another type.
asked_other : done 1 (calls compares 100 (ptr g ∷ ptr d ∷ ptr d ∷ [])) ≡ shows (
    codes "lib "
    ∷ codes "trap 3 at 2:7 function g"
    ∷ codes "end trapped 3" ∷ [])
unfolding digits event_text reach_table message_bytes live_bytes span
asked_other = refl

-- No library function has its type.
asked_library : done 1 (calls compares 100 (ptr ignore_handler ∷ ptr d ∷ ptr d ∷ [])) ≡ shows (
    codes "lib "
    ∷ codes "trap 3 at 2:7 function ignore_handler_s"
    ∷ codes "end trapped 3" ∷ [])
unfolding digits event_text reach_table message_bytes live_bytes span
asked_library = refl
