-- Runs with violated runtime-constraints: handlers of the library and of the unit, which call the library again.
use Rattle.std.proofs.Common.{List, None, Some, [], refl, ℕ, zero, suc, ◌+◌, ◌++◌, ◌∷◌, ◌≡◌}
use Rattle.std.specs.Prelude.{codes, pos}
use Rattle.critical_table.specs.declared.case.Case.TheVariants.{L11, L3, L9}
use Rattle.object_store.specs.declared.by.By.TheVariants.{Star}
use Rattle.c_types.specs.CType.{Array, CType}
use Rattle.c_types.specs.CType as type
use Rattle.c_core.specs.TreeUnit.{Definition, Program, Statement, Static}
use Rattle.c_core.specs.Tree.{Core}
use Rattle.c_core.specs.declared.operator.Operator.TheVariants as o
use Rattle.c_core.specs.declared.operator.Comparison.TheVariants as c
use Rattle.lib_defs.specs.declared.shown.Shown.TheVariants.{Function, NoValue, Number, Place}
use Rattle.lib_defs.specs.declared.row_name.RowName.{RowName}
use Rattle.lib_defs.specs.declared.row_name.RowName.TheVariants as n
use Rattle.run_defs.specs.declared.event.Event.TheVariants.{Died, HandlerCalled, HandlerReturned, HandlerSet}
use Rattle.run_defs.specs.declared.event.Event.TheVariants.{ValueFailed, Violated}
use Rattle.run_defs.specs.declared.outcome.Outcome.TheVariants.{Aborted, Exited, OutOfBytes, OutOfTicks, Trapped}
use Rattle.run_defs.specs.declared.event.Event.{Event}
use Rattle.code_gen.proofs.Trees.{add, at, binary, block, call, call_unused, call_void, char, compare, constant}
use Rattle.code_gen.proofs.Trees.{convert, decay, definition, eval, eval_void, function, get, global, holds, if_then}
use Rattle.code_gen.proofs.Trees.{index, int, literal, local, main_at, nothing, null_of, num, return, retype}
use Rattle.code_gen.proofs.Trees.{row_function, set, size_t, to, unit_function, unit_of}
use Rattle.code_gen.proofs.Runs.{called, gave, heap, literal_marks, made, pointer, runs, says, static}
use Rattle.code_gen.proofs.Runs.{stored, tells, unreached, words}
use Rattle.library_types.specs.LibraryTypes.{handler_type, row_type}

abbrev row : RowName → ℕ → Core
row name number = row_function (row_type name) number

abbrev text : ℕ → ℕ → Core
text token size = decay char (global token (Array char (Some size)) token)

abbrev text_at : ℕ → List ℕ → ℕ → Static
text_at token bytes size = literal token (bytes ++ 0 ∷ []) size

-- ---- words for the units

abbrev set_handler : ℕ → Core → Statement
set_handler column h = eval_void (call_unused column (to handler_type) (row n.SetConstraintHandlerS 20) (h ∷ []))

-- h, whose name stands at a column
abbrev h_at : ℕ → Core
h_at token = unit_function handler_type token

-- void h(const char*m,void*o,errno_t e){..}
abbrev handler_at : ℕ → List Statement → Definition
handler_at token body = definition token (codes "h") handler_type (holds (to char) ∷ holds (to type.void)
    ∷ holds int ∷ [])
    None (block [] body)

-- strcpy_s(0,1,"a"), the call and the literal at columns
abbrev copies : ℕ → ℕ → Core
copies column token =
    call column int (row n.StrcpyS 5) (null_of (to char) ∷ constant size_t 1 ∷ text token 2 ∷ [])

abbrev copies_unused : ℕ → ℕ → Statement
copies_unused column token = eval_void (call_unused column int (row n.StrcpyS 5)
    (null_of (to char) ∷ constant size_t 1 ∷ text token 2 ∷ []))

abbrev a_at : ℕ → Static
a_at token = text_at token (codes "a") 2

-- int main(void){set_constraint_handler_s(h);strcpy_s(0,1,"a");return 0;}, with h in front of it
abbrev violating : (main set copy token : ℕ) → Core → List Definition → Program
violating main_token set_column copy token h functions = unit_of (functions ++ main_at main_token []
    (set_handler set_column h ∷ copies_unused copy token ∷ return (num 0) ∷ []) ∷ []) (a_at token ∷ [])

-- ---- words for their journals

abbrev literal_made : ℕ → List Event
literal_made object = static object 2 ∷ literal_marks object 2 ∷ []

abbrev handler_set : List ℕ → List ℕ → List Event
handler_set name former = called 20 [] ∷ HandlerSet name ∷ gave 20 (Function former) ∷ []

-- the call with the literal of this number, up to its violation
abbrev violated : ℕ → List Event
violated object =
    called 5 (Place 0 0 ∷ Number (pos 1) ∷ Place object 0 ∷ []) ∷ Violated (record { 0 = 5 }) 1 ∷ []

-- the handler is called: its parameters have these numbers
abbrev enters_h : ℕ → ℕ → ℕ → List Event
enters_h m o e = HandlerCalled (codes "h") ∷ made m 16 ∷ stored m 0 16 ∷ made o 16 ∷ stored o 0 16 ∷ made e 4
    ∷ stored e 0 4 ∷ []

abbrev leaves_h : ℕ → ℕ → ℕ → List Event
leaves_h m o e = Died e ∷ Died o ∷ Died m ∷ HandlerReturned ∷ []

abbrev failed : List Event
failed = gave 5 (Number (pos 22)) ∷ []

-- ---- handlers of the library

abbrev abort_name : List ℕ
abort_name = codes "abort_handler_s"

abbrev ignore_name : List ℕ
ignore_name = codes "ignore_handler_s"

-- int main(void){set_constraint_handler_s(ignore_handler_s);strcpy_s(0,1,"a");return 0;}
ignores : runs (violating 5 40 67 72 (row n.IgnoreHandlerS 22) []) 10 1000 ≡ says (Exited 0) []
    (literal_made 4 ++ handler_set ignore_name abort_name ++ violated 4
    ++ HandlerCalled ignore_name ∷ HandlerReturned ∷ failed) 4
unfolding words
ignores = refl

-- set_constraint_handler_s(0) sets the default handler, which aborts
aborts : runs (violating 5 40 46 51 (null_of (to handler_type)) []) 10 1000 ≡ tells Aborted []
    (codes "abort_handler_s: null pointer\n")
    (literal_made 4 ++ handler_set abort_name abort_name ++ violated 4 ++ HandlerCalled abort_name ∷ []) 4
unfolding words
aborts = refl

-- void h(void){}int main(void){set_constraint_handler_s((constraint_handler_t)h);strcpy_s(0,1,"a");return 0;}
abbrev wrong_handler : Definition
wrong_handler = definition 6 (codes "h") (function type.void []) [] None nothing

-- the tick is taken, and the handler is not called
other_type : runs (violating 19 54 88 93 (retype (to handler_type) (unit_function (function type.void []) 6))
    (wrong_handler ∷ [])) 10 1000 ≡ says (Trapped L3 (at 88)) []
    (literal_made 4 ++ handler_set (codes "h") abort_name ++ violated 4
    ++ ValueFailed L3 (at 88) (Function (codes "h")) ∷ []) 4
unfolding words
other_type = refl

-- (constraint_handler_t)puts
other_row : runs (violating 5 40 70 75 (retype (to handler_type) (row n.Puts 50)) []) 10 1000
    ≡ says (Trapped L3 (at 70)) []
    (literal_made 4 ++ handler_set (codes "puts") abort_name ++ violated 4
    ++ ValueFailed L3 (at 70) (Function (codes "puts")) ∷ []) 4
unfolding words
other_row = refl

-- a pointer that is no function's
no_handler : runs (violating 5 40 70 75 (retype (to handler_type) (text 75 2)) []) 10 1000
    ≡ says (Trapped L9 (at 40)) [] (literal_made 4 ++ called 20 [] ∷ ValueFailed L9 (at 40) (Place 4 0) ∷ []) 2
unfolding words
no_handler = refl

-- ---- handlers of the unit

-- void h(const char*m,void*o,errno_t e){}, and the unit without its `return 0`, whose main ends so
abbrev returning : Program
returning = violating 44 72 82 87 (h_at 6) (handler_at 6 [] ∷ [])

abbrev returning_events : List Event
returning_events = literal_made 4 ++ handler_set (codes "h") abort_name ++ violated 4 ++ enters_h 6 8 10
    ++ leaves_h 6 8 10 ++ failed

handler_returns : runs returning 10 1000 ≡ says (Exited 0) [] returning_events 7
unfolding words
handler_returns = refl

-- the tick of the handler's call is the last; its first parameter needs one
handler_short : runs returning 4 1000 ≡ says OutOfTicks []
    (literal_made 4 ++ handler_set (codes "h") abort_name ++ violated 4 ++ HandlerCalled (codes "h") ∷ []) 4
unfolding words
handler_short = refl

-- no tick for its call
call_short : runs returning 3 1000 ≡ says OutOfTicks []
    (literal_made 4 ++ handler_set (codes "h") abort_name ++ violated 4) 3
unfolding words
call_short = refl

-- 2 bytes of the literal, 256 of main and 256 of the handler, and its 36
handler_bytes : runs returning 10 550 ≡ says (Exited 0) [] returning_events 7
unfolding words
handler_bytes = refl

-- the tick of the third parameter is taken
handler_byte_short : runs returning 10 549 ≡ says OutOfBytes []
    (literal_made 4 ++ handler_set (codes "h") abort_name ++ violated 4
    ++ HandlerCalled (codes "h") ∷ made 6 16 ∷ stored 6 0 16 ∷ made 8 16 ∷ stored 8 0 16 ∷ []) 7
unfolding words
handler_byte_short = refl

-- void h(const char*m,void*o,errno_t e){set_constraint_handler_s(0);}
-- int main(void){set_constraint_handler_s(h);strcpy_s(0,1,"a");strcpy_s(0,1,"a");return 0;}, on one line
abbrev resetting : Program
resetting = unit_of (handler_at 6 (set_handler 63 (null_of (to handler_type)) ∷ [])
    ∷ main_at 72 []
    (set_handler 107 (h_at 6) ∷ copies_unused 119 124 ∷ copies_unused 137 142 ∷ return (num 0) ∷ []) ∷ [])
    (a_at 124 ∷ a_at 142 ∷ [])

resetting_aborts : runs resetting 20 1000 ≡ tells Aborted [] (codes "abort_handler_s: null pointer\n")
    (literal_made 4 ++ literal_made 6 ++ handler_set (codes "h") abort_name ++ violated 4 ++ enters_h 8 10 12
    ++ handler_set abort_name (codes "h") ++ leaves_h 8 10 12 ++ failed ++ violated 6 ++ HandlerCalled abort_name
    ∷ []) 10
unfolding words
resetting_aborts = refl

-- void h(const char*m,void*o,errno_t e){puts(m);putchar('0'+e%10);}
-- int main(void){set_constraint_handler_s(h);return strcpy_s(0,1,"a");}, on one line
abbrev telling : Program
telling = unit_of (handler_at 6
    (eval_void (call_unused 43 int (row n.Puts 50) (get (local 44 (to char) 0) ∷ []))
    ∷ eval_void (call_unused 54 int (row n.Putchar 49)
    (add 57 (num 48) (binary o.Remainder 59 (get (local 58 int 2)) (num 10)) ∷ []))
    ∷ [])
    ∷ main_at 70 [] (set_handler 105 (h_at 6) ∷ return (copies 124 129) ∷ []) ∷ []) (a_at 129 ∷ [])

telling_runs : runs telling 20 1000 ≡ says (Exited 22) (codes "null pointer\n2")
    (literal_made 4 ++ handler_set (codes "h") abort_name ++ violated 4 ++ enters_h 6 8 10
    ++ called 50 [] ∷ gave 50 (Number (pos 0)) ∷ called 49 [] ∷ gave 49 (Number (pos 50)) ∷ leaves_h 6 8 10 ++ failed) 9
unfolding words
telling_runs = refl

-- void h(const char*m,void*o,errno_t e){strcpy_s(0,1,"a");}
-- int main(void){set_constraint_handler_s(h);strcpy_s(0,1,"a");return 0;}, on one line: handlers in handlers
abbrev deep : Program
deep = unit_of (handler_at 6 (copies_unused 47 52 ∷ [])
    ∷ main_at 62 [] (set_handler 97 (h_at 6) ∷ copies_unused 109 114 ∷ return (num 0) ∷ []) ∷ [])
    (a_at 52 ∷ a_at 114 ∷ [])

deep_ticks : runs deep 13 5000 ≡ says OutOfTicks []
    (literal_made 4 ++ literal_made 6 ++ handler_set (codes "h") abort_name ++ violated 6 ++ enters_h 8 10 12
    ++ violated 4 ++ enters_h 14 16 18 ++ violated 4) 13
unfolding words
deep_ticks = refl

-- so many handlers, each with the parameters from a number on, and the next violation in it
abbrev depths : ℕ → ℕ → List Event
depths zero first = []
depths (suc n) first = enters_h first (first + 2) (first + 4) ++ violated 4 ++ depths n (first + 6)

-- 2 ticks, and 5 for each of 19 calls; then those of the next call, its handler and the first parameter
deep_ends : runs deep 100 30000 ≡ says OutOfTicks []
    (literal_made 4 ++ literal_made 6 ++ handler_set (codes "h") abort_name ++ violated 6 ++ depths 19 8
    ++ HandlerCalled (codes "h") ∷ made 122 16 ∷ stored 122 0 16 ∷ []) 100
unfolding words
deep_ends = refl

-- char*d;void h(const char*m,void*o,errno_t e){free(d);}
-- int main(void){set_constraint_handler_s(h);d=malloc(2);return strcpy_s(d,2,"ab")+d[0];}, on one line
abbrev d : Core
d = global 6 (to char) 6

abbrev releasing : Program
releasing = unit_of (handler_at 13 (eval_void (call_void 50 (row n.Free 46) (retype (to type.void) (get d) ∷ [])) ∷ [])
    ∷ main_at 59 [] (set_handler 94 (h_at 13)
    ∷ eval (set 99 d (retype (to char) (call 106 (to type.void) (row n.Malloc 43) (constant size_t 2 ∷ []))))
    ∷ return (add 135
    (call 125 int (row n.StrcpyS 5) (get d ∷ constant size_t 2 ∷ text 130 3 ∷ []))
    (convert int (get (index 137 (get d) (num 0))))) ∷ []) ∷ [])
    (record { token = at 6; size = 16; items = []; seals = [] } ∷ text_at 130 (codes "ab") 3 ∷ [])

-- the action is stored, the handler releases its object, and the call returns without touching it
releasing_traps : runs releasing 20 1000 ≡ says (Trapped L11 (at 137)) []
    (static 4 16 ∷ static 6 3 ∷ literal_marks 6 3 ∷ (handler_set (codes "h") abort_name
    ++ called 43 [] ∷ heap 9 2 ∷ gave 43 (Place 9 0) ∷ stored 4 0 16
    ∷ called 5 (Place 9 0 ∷ Number (pos 2) ∷ Place 6 0 ∷ []) ∷ Violated (record { 0 = 5 }) 5 ∷ stored 9 0 1
    ∷ enters_h 10 12 14 ++ called 46 [] ∷ Died 9 ∷ gave 46 NoValue ∷ leaves_h 10 12 14
    ++ gave 5 (Number (pos 34)) ∷ unreached L11 137 (pointer 9 0 0 2) 1 1 Star ∷ [])) 10
unfolding words
releasing_traps = refl

-- void h(const char*m,void*o,errno_t e){exit(e);}
-- int main(void){set_constraint_handler_s(h);strcpy_s(0,1,"a");return 0;}, on one line
exits : runs (violating 52 87 99 104 (h_at 6)
    (handler_at 6 (eval_void (call_void 43 (row n.Exit 47) (get (local 44 int 2) ∷ [])) ∷ []) ∷ [])) 10 1000
    ≡ says (Exited 22) [] (literal_made 4 ++ handler_set (codes "h") abort_name ++ violated 4 ++ enters_h 6 8 10
    ++ called 47 [] ∷ []) 8
unfolding words
exits = refl

-- ---- a violation in the handler of a violation

-- char d[8];int n;void h(const char*m,void*o,errno_t e){printf("in %d [%s]\n",n,d);n=n+1;
-- if(n<3){strcpy_s(d,2,"long");}printf("out %d\n",n);}
-- int main(void){set_constraint_handler_s(h);d[0]='x';strcpy_s(d,2,"long");return 0;}, on one line
abbrev eight : CType
eight = Array char (Some 8)

abbrev place_d : Core
place_d = decay char (global 6 eight 6)

abbrev count : Core
count = global 15 int 15

abbrev copies_long : ℕ → ℕ → Statement
copies_long column token = eval_void (call_unused column int (row n.StrcpyS 5)
    (place_d ∷ constant size_t 2 ∷ text token 5 ∷ []))

abbrev prints : ℕ → List Core → Statement
prints column arguments = eval_void (call_unused column int (row n.Printf 52) arguments)

abbrev nesting : Program
nesting = unit_of (handler_at 22
    (prints 61 (text 62 12 ∷ get count ∷ place_d ∷ [])
    ∷ eval (set 83 count (add 85 (get count) (num 1)))
    ∷ if_then (compare c.Less 92 (get count) (num 3)) (block [] (copies_long 104 109 ∷ []))
    ∷ prints 124 (text 125 8 ∷ get count ∷ []) ∷ [])
    ∷ main_at 144 [] (set_handler 179 (h_at 22) ∷ eval (set 187 (index 184 place_d (num 0)) (constant char 120))
    ∷ copies_long 200 205 ∷ return (num 0) ∷ []) ∷ [])
    (record { token = at 6; size = 8; items = []; seals = [] }
    ∷ record { token = at 15; size = 4; items = []; seals = [] }
    ∷ text_at 62 (codes "in %d [%s]\n") 12 ∷ text_at 109 (codes "long") 5 ∷ text_at 125 (codes "out %d\n") 8
    ∷ text_at 205 (codes "long") 5 ∷ [])

-- one handler's call, and in the first two another call of strcpy_s
abbrev long_violated : ℕ → List Event
long_violated object = called 5 (Place 4 0 ∷ Number (pos 2) ∷ Place object 0 ∷ [])
    ∷ Violated (record { 0 = 5 }) 5 ∷ stored 4 0 1 ∷ []

-- printf writes 8 bytes, and 6
abbrev h_begins : ℕ → ℕ → ℕ → List Event
h_begins m o e = enters_h m o e ++ called 52 [] ∷ gave 52 (Number (pos 8)) ∷ stored 6 0 4 ∷ []

abbrev h_ends : ℕ → ℕ → ℕ → List Event
h_ends m o e = called 52 [] ∷ gave 52 (Number (pos 6)) ∷ leaves_h m o e ++ gave 5 (Number (pos 34)) ∷ []

abbrev long_text : ℕ → ℕ → List Event
long_text object size = static object size ∷ literal_marks object size ∷ []

-- ticks: main 1, calls of the library 10, of the handler 3, its parameters 9
nesting_runs : runs nesting 100 5000 ≡ says (Exited 0) (codes "in 0 []\nin 1 []\nin 2 []\nout 3\nout 3\nout 3\n")
    (static 4 8 ∷ static 6 4 ∷ (long_text 8 12 ++ long_text 10 5 ++ long_text 12 8 ++ long_text 14 5
    ++ handler_set (codes "h") abort_name ++ stored 4 0 1
    ∷ long_violated 14 ++ h_begins 16 18 20
    ++ long_violated 10 ++ h_begins 22 24 26
    ++ long_violated 10 ++ h_begins 28 30 32
    ++ h_ends 28 30 32 ++ h_ends 22 24 26 ++ h_ends 16 18 20)) 23
unfolding words
nesting_runs = refl
