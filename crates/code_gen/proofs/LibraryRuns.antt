-- Runs with library calls: values, traps, violations, allocation, streams.
use Rattle.std.specs.Prelude.{codes, negsuc, pos, suc, zero}
use Rattle.std.proofs.Common.{List, Option, Some, [], refl, true, ℕ, ◌++◌, ◌∷◌, ◌≡◌}
use Rattle.critical_table.specs.declared.code.Code.TheVariants.{U05, U11}
use Rattle.critical_table.specs.declared.case.Case.TheVariants.{L12, L9}
use Rattle.object_store.specs.declared.by.By.TheVariants.{TextRead, TextWrite}
use Rattle.c_types.specs.CType.{Array, CType}
use Rattle.c_types.specs.CType as type
use Rattle.c_core.specs.Tree.{At, Core}
use Rattle.c_core.specs.TreeUnit.{Program, Statement, Static}
use Rattle.c_core.specs.Tree as tree
use Rattle.c_core.specs.TreeUnit as unit
use Rattle.c_core.specs.declared.operator.Operator.TheVariants as o
use Rattle.c_core.specs.declared.operator.Comparison.TheVariants as c
use Rattle.lib_defs.specs.World.{AtEnd, Broken, Input}
use Rattle.lib_defs.specs.declared.row_name.RowName.{RowName}
use Rattle.lib_defs.specs.Reply.{null}
use Rattle.lib_defs.specs.declared.shown.Shown.TheVariants.{Function, Number, Place}
use Rattle.lib_defs.specs.declared.row_name.RowName.TheVariants as n
use Rattle.run_defs.specs.declared.event.Event.TheVariants.{Died, HandlerCalled, HandlerReturned, HandlerSet}
use Rattle.run_defs.specs.declared.event.Event.TheVariants.{ValueFailed, Violated}
use Rattle.run_defs.specs.declared.outcome.Outcome.TheVariants.{Exited, OutOfTicks, ReadFault, Trapped, Undefined}
use Rattle.run_defs.specs.declared.event.Event.{Event}
use Rattle.code_gen.proofs.Runs.{called, const_marks, gave, heap, literal_marks, made, pointer, runs, runs_over, says}
use Rattle.code_gen.proofs.Runs.{static, stored, undefined, unreached, words}
use Rattle.code_gen.proofs.Trees.{add, address, at, binary, call, call_unused, call_void, char, compare, constant}
use Rattle.code_gen.proofs.Trees.{convert, decay, does, eval, eval_void, get, global, index, init, init_at, int}
use Rattle.code_gen.proofs.Trees.{literal, local, main, minus_one, nothing, null_of, num, return, retype}
use Rattle.code_gen.proofs.Trees.{row_function, set, size_t, slot, step, to, unit_of}
use Rattle.code_gen.specs.Meaning.{Meaning}
use Rattle.library_types.specs.LibraryTypes.{handler_type, row_type}

abbrev row : RowName → ℕ → Core
row name number = row_function (row_type name) number

-- a string literal as an argument, of so many bytes with its null
abbrev text : ℕ → ℕ → Core
text token size = decay char (global token (Array char (Some size)) token)

abbrev text_at : ℕ → List ℕ → ℕ → Static
text_at token bytes size = literal token (bytes ++ 0 ∷ []) size

abbrev size : ℕ → Core
size n = constant size_t n

-- set_constraint_handler_s(h);
abbrev set_handler : ℕ → Core → Statement
set_handler column h =
    eval_void (call_unused column (to handler_type) (row n.SetConstraintHandlerS 20) (retype (to handler_type) h ∷ []))

abbrev ignore : Core
ignore = row n.IgnoreHandlerS 22

abbrev ignored : List Event
ignored = called 20 [] ∷ HandlerSet (codes "ignore_handler_s") ∷ gave 20 (Function (codes "abort_handler_s")) ∷ []

-- ---- texts

-- int main(void){char c[3]={'a','b','c'};return strlen(c);}
abbrev chars : CType
chars = Array char (Some 3)

abbrev length_of : ℕ → Core → Statement
length_of column c = return (convert int (call column size_t (row n.Strlen 30) (c ∷ [])))

not_ended : runs (unit_of (main (slot chars 0 ∷ []) (does (unit.Zero 0 3) ∷ init_at 0 0 (constant char 97)
    ∷ init_at 0 1 (constant char 98) ∷ init_at 0 2 (constant char 99)
    ∷ length_of 53 (decay char (local 54 chars 0)) ∷ [])
    ∷ []) []) 10 1000
    ≡ says (Trapped L12 (at 53)) [] (made 4 3 ∷ stored 4 0 3 ∷ stored 4 0 1 ∷ stored 4 1 1 ∷ stored 4 2 1 ∷ called 30 []
    ∷ unreached L12 53 (pointer 4 3 0 3) 1 1 TextRead ∷ []) 3
unfolding words
not_ended = refl

-- int main(void){return strlen(NULL);}
of_null : runs (unit_of (main [] (length_of 29 (null_of (to char)) ∷ []) ∷ []) []) 10 1000
    ≡ says (Trapped L9 (at 29)) [] (called 30 [] ∷ unreached L9 29 null 1 1 TextRead ∷ []) 2
unfolding words
of_null = refl

-- int main(void){char c[3];return strlen(c);}
of_unset : runs (unit_of (main (slot chars 0 ∷ []) (length_of 39 (decay char (local 40 chars 0)) ∷ []) ∷ []) []) 10 1000
    ≡ says (Undefined U05 (at 39)) [] (made 4 3 ∷ called 30 [] ∷ undefined U05 39 ∷ []) 3
unfolding words
of_unset = refl

-- int main(void){char a[4]="abc";memcpy(a+1,a,2);return 0;}
abbrev four : CType
four = Array char (Some 4)

abbrev a : Core
a = decay char (local 39 four 0)

overlapping : runs (unit_of (main (slot four 0 ∷ []) (does (unit.Zero 0 4)
    ∷ does (unit.InitializeBytes 0 0 (codes "abc" ++ 0 ∷ []))
    ∷ eval_void (call_unused 38 (to type.void) (row n.Memcpy 23) (step 40 a (num 1) ∷ a ∷ size 2 ∷ []))
    ∷ return (num 0) ∷ []) ∷ []) []) 10 1000
    ≡ says (Undefined U11 (at 38)) []
    (made 4 4 ∷ stored 4 0 4 ∷ stored 4 0 4 ∷ called 23 [] ∷ undefined U11 38 ∷ []) 3
unfolding words
overlapping = refl

-- ---- violations

-- int main(void){char d[4]={1,1,1,1};const char s[5]={2,2,2,2,2};set_constraint_handler_s(ignore_handler_s);
-- int r=memcpy_s(d,4,s,5);printf("%d %d%d%d%d\n",r,d[0],d[1],d[2],d[3]);return 0;}, on one line
abbrev five : CType
five = Array char (Some 5)

abbrev items : ℕ → ℕ → ℕ → List Statement
items slot zero value = []
items slot (suc n) value = items slot n value ++ init_at slot n (constant char value) ∷ []

abbrev d : Core
d = decay char (local 122 four 0)

abbrev promoted : ℕ → Core
promoted n = convert int (get (index 157 d (num n)))

abbrev too_long : Program
too_long = unit_of (main (slot four 0 ∷ slot five 1 ∷ slot int 2 ∷ [])
    (does (unit.Zero 0 4) ∷ items 0 4 1 ++ does (unit.Zero 1 5) ∷ items 1 5 2 ++ does (unit.SealBytes 1 0 5)
    ∷ set_handler 60 ignore
    ∷ init 2 (call 121 int (row n.MemcpyS 0) (d ∷ size 4 ∷ decay char (local 126 five 1) ∷ size 5 ∷ []))
    ∷ eval_void (call_unused 137 int (row n.Printf 52)
    (text 138 13 ∷ get (local 154 int 2) ∷ promoted 0 ∷ promoted 1 ∷ promoted 2 ∷ promoted 3 ∷ []))
    ∷ return (num 0) ∷ []) ∷ []) (text_at 138 (codes "%d %d%d%d%d\n") 13 ∷ [])

too_long_runs : runs too_long 10 1000 ≡ says (Exited 0) (codes "34 0000\n")
    (static 4 13 ∷ literal_marks 4 13 ∷ made 6 4 ∷ made 8 5 ∷ made 10 4
    ∷ stored 6 0 4 ∷ stored 6 0 1 ∷ stored 6 1 1 ∷ stored 6 2 1 ∷ stored 6 3 1
    ∷ stored 8 0 5 ∷ stored 8 0 1 ∷ stored 8 1 1 ∷ stored 8 2 1 ∷ stored 8 3 1 ∷ stored 8 4 1 ∷ const_marks 8 0 5
    ∷ (ignored ++ called 0 (Place 6 0 ∷ Number (pos 4) ∷ Place 8 0 ∷ Number (pos 5) ∷ [])
    ∷ Violated (record { 0 = 0 }) 5 ∷ stored 6 0 4 ∷ HandlerCalled (codes "ignore_handler_s") ∷ HandlerReturned
    ∷ gave 0 (Number (pos 34)) ∷ stored 10 0 4 ∷ called 52 [] ∷ gave 52 (Number (pos 8))
    ∷ Died 10 ∷ Died 8 ∷ Died 6 ∷ [])) 8
unfolding words
too_long_runs = refl

-- memcpy_s(d,8,"ab",9): the action can't be reached, so nothing is stored and no handler is called
abbrev beyond : Program
beyond = unit_of (main (slot four 0 ∷ []) (set_handler 60 ignore
    ∷ eval_void (call_unused 87 int (row n.MemcpyS 0) (d ∷ size 8 ∷ text 92 3 ∷ size 9 ∷ []))
    ∷ return (num 0) ∷ []) ∷ []) (text_at 92 (codes "ab") 3 ∷ [])

beyond_traps : runs beyond 10 1000 ≡ says (Trapped L12 (at 87)) []
    (static 4 3 ∷ literal_marks 4 3 ∷ made 6 4
    ∷ (ignored ++ called 0 (Place 6 0 ∷ Number (pos 8) ∷ Place 4 0 ∷ Number (pos 9) ∷ [])
    ∷ unreached L12 87 (pointer 6 0 0 4) 8 1 TextWrite ∷ [])) 4
unfolding words
beyond_traps = refl

-- ---- allocation

-- int main(void){return(malloc(84)==0)+2*(malloc(1)==0);}
abbrev is_refused : ℕ → ℕ → ℕ → Core
is_refused column equals bytes = At int (at equals) (tree.Same true
    (call column (to type.void) (row n.Malloc 43) (size bytes ∷ [])) (null_of (to type.void)))

abbrev allocating : Program
allocating = unit_of (main []
    (return (add 37 (is_refused 29 33 84) (binary o.Multiply 39 (num 2) (is_refused 47 50 1))) ∷ []) ∷ []) []

-- 256 bytes for the call and 84
first_fits : runs allocating 10 340 ≡ says (Exited 2) []
    (called 43 [] ∷ heap 5 84 ∷ gave 43 (Place 5 0) ∷ called 43 [] ∷ gave 43 (Place 0 0) ∷ []) 4
unfolding words
first_fits = refl

-- one byte less: the first is refused, and the second fits
second_fits : runs allocating 10 339 ≡ says (Exited 1) []
    (called 43 [] ∷ gave 43 (Place 0 0) ∷ called 43 [] ∷ heap 5 1 ∷ gave 43 (Place 5 0) ∷ []) 4
unfolding words
second_fits = refl

-- an object that is made takes a tick
no_tick_for_it : runs allocating 2 340 ≡ says OutOfTicks [] (called 43 [] ∷ []) 2
unfolding words
no_tick_for_it = refl

-- int main(void){int*p=calloc(2,4);p=realloc(p,12);return p[0]+(p==0);}
abbrev p : Core
p = local 40 (to int) 0

growing_runs : runs (unit_of (main (slot (to int) 0 ∷ [])
    (init 0 (retype (to int) (call 28 (to type.void) (row n.Calloc 44) (size 2 ∷ size 4 ∷ [])))
    ∷ eval (set 35 p (retype (to int) (call 43 (to type.void) (row n.Realloc 45)
    (retype (to type.void) (get p) ∷ size 12 ∷ []))))
    ∷ return (add 61 (get (index 58 (get p) (num 0))) (At int (at 64) (tree.IsNull (get p)))) ∷ []) ∷ []) []) 10 1000
    ≡ says (Exited 0) [] (made 4 16 ∷ called 44 [] ∷ heap 7 8 ∷ stored 7 0 8 ∷ gave 44 (Place 7 0) ∷ stored 4 0 16
    ∷ called 45 [] ∷ heap 9 12 ∷ stored 9 0 8 ∷ Died 7 ∷ gave 45 (Place 9 0) ∷ stored 4 0 16 ∷ Died 4 ∷ []) 6
unfolding words
growing_runs = refl

-- int main(void){int x;free(&x);return 0;}
not_allocated : runs (unit_of (main (slot int 0 ∷ [])
    (eval_void (call_void 26 (row n.Free 46) (retype (to type.void) (address 27 (local 28 int 0)) ∷ []))
    ∷ return (num 0) ∷ [])
    ∷ []) []) 10 1000
    ≡ says (Trapped L9 (at 26)) [] (made 4 4 ∷ called 46 [] ∷ ValueFailed L9 (at 26) (Place 4 0) ∷ []) 3
unfolding words
not_allocated = refl

-- ---- streams and ends

-- int main(void){putchar('x');while(1);}
forever : runs (unit_of (main [] (eval_void (call_unused 23 int (row n.Putchar 49) (num 120 ∷ []))
    ∷ does (unit.While (num 1) nothing) ∷ []) ∷ []) []) 100 1000
    ≡ says OutOfTicks (codes "x") (called 49 [] ∷ gave 49 (Number (pos 120)) ∷ []) 100
unfolding words
forever = refl

-- int main(void){int c;while((c=getchar())!=EOF)putchar(c);return 0;}
abbrev echo : Program
echo = unit_of (main (slot int 0 ∷ []) (does (unit.While
    (compare c.NotEqual 41 (set 30 (local 29 int 0) (call 38 int (row n.Getchar 51) [])) minus_one)
    (eval_void (call_unused 54 int (row n.Putchar 49) (get (local 55 int 0) ∷ []))))
    ∷ return (num 0) ∷ []) ∷ []) []

abbrev over : Input → Meaning × Option Meaning
over input = runs_over echo input 100 1000

abbrev a_byte : ℕ → List Event
a_byte b = called 51 [] ∷ gave 51 (Number (pos b)) ∷ stored 4 0 4 ∷ called 49 [] ∷ gave 49 (Number (pos b)) ∷ []

-- the input ends behind two bytes
echo_ends : over (record { bytes = codes "ab"; ending = AtEnd }) ≡ says (Exited 0) (codes "ab")
    (made 4 4 ∷ (a_byte 97 ++ a_byte 98 ++ called 51 [] ∷ gave 51 (Number (negsuc 0)) ∷ stored 4 0 4 ∷ Died 4 ∷ [])) 10
unfolding words
echo_ends = refl

-- it is broken there
echo_breaks : over (record { bytes = codes "ab"; ending = Broken }) ≡ says ReadFault (codes "ab")
    (made 4 4 ∷ (a_byte 97 ++ a_byte 98 ++ called 51 [] ∷ [])) 10
unfolding words
echo_breaks = refl

-- int main(void){exit(263);}; nothing dies at the end of a run
exiting : runs (unit_of (main (slot int 0 ∷ []) (eval_void (call_void 20 (row n.Exit 47) (num 263 ∷ [])) ∷ [])
    ∷ []) []) 10 1000
    ≡ says (Exited 7) [] (made 4 4 ∷ called 47 [] ∷ []) 3
unfolding words
exiting = refl

-- int main(void){return 263;}, and -1
status_modulo : runs (unit_of (main [] (return (num 263) ∷ []) ∷ []) []) 10 1000 ≡ says (Exited 7) [] [] 1
unfolding words
status_modulo = refl

status_negative : runs (unit_of (main [] (return minus_one ∷ []) ∷ []) []) 10 1000 ≡ says (Exited 255) [] [] 1
unfolding words
status_negative = refl
