-- Runs with calls: order, tests, values that are missing, parameters, ticks and bytes.
use Rattle.std.proofs.Common.{List, Some, [], refl, ℕ, ◌++◌, ◌∷◌, ◌≡◌}
use Rattle.std.specs.Prelude.{codes, pos}
use Rattle.acc_num.specs.declared.kind.IntKind.TheVariants as k
use Rattle.critical_table.specs.declared.code.Code.TheVariants.{U04}
use Rattle.critical_table.specs.declared.case.Case.TheVariants.{L1, L3, L6, L8}
use Rattle.object_store.specs.declared.by.By.TheVariants.{Star, Store}
use Rattle.c_types.specs.CType.{CType}
use Rattle.c_core.specs.TreeUnit.{Definition, Program, Statement}
use Rattle.c_core.specs.Tree.{At, Core}
use Rattle.c_core.specs.Tree as tree
use Rattle.c_core.specs.declared.operator.Operator.TheVariants as o
use Rattle.c_core.specs.declared.operator.Comparison.TheVariants as c
use Rattle.c_core.specs.declared.form.Content.TheVariants as content
use Rattle.c_core.specs.declared.form.Scalar.TheVariants as scalar
use Rattle.lib_defs.specs.declared.shown.Shown.TheVariants.{Function, Number, Place}
use Rattle.lib_defs.specs.declared.row_name.RowName.TheVariants as n
use Rattle.run_defs.specs.declared.event.Event.TheVariants.{Died, ValueFailed}
use Rattle.run_defs.specs.declared.outcome.Outcome.TheVariants.{Exited, OutOfBytes, OutOfTicks, Trapped, Undefined}
use Rattle.run_defs.specs.declared.event.Event.{Event}
use Rattle.code_gen.proofs.Trees.{add, address, at, binary, block, call, call_unused, compare, definition, deref}
use Rattle.code_gen.proofs.Trees.{eval, eval_void, function, get, gives_int, global, holds, if_then, init, int, local}
use Rattle.code_gen.proofs.Trees.{main, main_at, nothing, null_of, num, return, retype, row_function, set, slot, to}
use Rattle.code_gen.proofs.Trees.{unit_function, unit_of}
use Rattle.code_gen.proofs.Runs.{called, const_marks, gave, made, pointer, runs, says, static, stored}
use Rattle.code_gen.proofs.Runs.{undefined, unreached, words}
use Rattle.library_types.specs.LibraryTypes.{row_type}

abbrev of_none : CType
of_none = function int []

abbrev of_int : CType
of_int = function int (int ∷ [])

abbrev status : ℕ → Statement
status n = return (num n)

-- putchar(c), whose value is used
abbrev put : ℕ → ℕ → Core
put column c = call column int (row_function (row_type n.Putchar) 49) (num c ∷ [])

abbrev puts : ℕ → List Event
puts c = called 49 [] ∷ gave 49 (Number (pos c)) ∷ []

-- ---- order and tests

-- int main(void){return putchar(97)-putchar(98);}
left_to_right : runs (unit_of (main [] (return (binary o.Subtract 34 (put 30 98) (put 42 97)) ∷ []) ∷ []) []) 10 1000
    ≡ says (Exited 1) (98 ∷ 97 ∷ []) (puts 98 ++ puts 97) 3
unfolding words
left_to_right = refl

-- int main(void){return((int(*)(int))0)(putchar(97));}: the argument is evaluated before the function is tested
no_function : runs (unit_of (main [] (return (call 37 int (null_of (to of_int)) (put 45 97 ∷ [])) ∷ [])
    ∷ []) []) 10 1000
    ≡ says (Trapped L6 (at 37)) (97 ∷ []) (puts 97 ++ ValueFailed L6 (at 37) (Place 0 0) ∷ []) 2
unfolding words
no_function = refl

-- int f(int x){return x;}int main(void){return((int(*)(void))f)();}: no tick is taken
abbrev identity : Definition
identity = definition 5 (codes "f") of_int (holds int ∷ []) gives_int (block [] (return (get (local 21 int 0)) ∷ []))

other_type : runs (unit_of (identity ∷ main_at 28 []
    (return (call 62 int (retype (to of_none) (unit_function of_int 5)) []) ∷ []) ∷ []) []) 10 1000
    ≡ says (Trapped L3 (at 62)) [] (ValueFailed L3 (at 62) (Function (codes "f")) ∷ []) 1
unfolding words
other_type = refl

-- int main(void){return((int(*)(void))putchar)();}: so it is of a library function
other_library_type : runs (unit_of (main []
    (return (call 43 int (retype (to of_none) (row_function (row_type n.Putchar) 49)) []) ∷ []) ∷ []) []) 10 1000
    ≡ says (Trapped L3 (at 43)) [] (ValueFailed L3 (at 43) (Function (codes "putchar")) ∷ []) 1
unfolding words
other_library_type = refl

-- int main(void){return((int(*)(int))putchar)(97);}
same_library_type : runs (unit_of (main []
    (return (call 43 int (retype (to of_int) (row_function (row_type n.Putchar) 49)) (num 97 ∷ [])) ∷ [])
    ∷ []) []) 10 1000
    ≡ says (Exited 97) (97 ∷ []) (puts 97) 2
unfolding words
same_library_type = refl

-- int f(int x){return x;}int main(void){int(*p)(int)=f;return p(f(3));}
through : runs (unit_of (identity ∷ main_at 28 (slot (to of_int) 0 ∷ [])
    (init 0 (unit_function of_int 5)
    ∷ return (call 62 int (get (local 61 (to of_int) 0)) (call 64 int (unit_function of_int 5) (num 3 ∷ []) ∷ [])) ∷ [])
    ∷ []) []) 10 1000
    ≡ says (Exited 3) [] (made 4 16 ∷ stored 4 0 16 ∷ made 6 4 ∷ stored 6 0 4 ∷ Died 6 ∷ made 8 4 ∷ stored 8 0 4
    ∷ Died 8 ∷ Died 4 ∷ []) 6
unfolding words
through = refl

-- ---- a function that ends without a value

-- int f(void){}
abbrev silent : Definition
silent = definition 5 (codes "f") of_none [] gives_int nothing

-- int main(void){return f();}
unit_silent : Statement → Program
unit_silent statement = unit_of (silent ∷ main_at 18 [] (statement ∷ status 3 ∷ []) ∷ []) []

abbrev silent_call : ℕ → Core
silent_call column = call column int (unit_function of_none 5) []

used : runs (unit_silent (return (silent_call 37))) 10 1000 ≡ says (Undefined U04 (at 37)) [] (undefined U04 37 ∷ []) 2
unfolding words unit_silent
used = refl

-- return f()+putchar(97);: before the other operand
used_first : runs (unit_silent (return (add 40 (silent_call 37) (put 48 97)))) 10 1000
    ≡ says (Undefined U04 (at 37)) [] (undefined U04 37 ∷ []) 2
unfolding words unit_silent
used_first = refl

-- f();
not_used : runs (unit_silent (eval_void (call_unused 31 int (unit_function of_none 5) []))) 10 1000
    ≡ says (Exited 3) [] [] 2
unfolding words unit_silent
not_used = refl

-- the end of main returns 0: int main(void){}
end_of_main : runs (unit_of (main [] [] ∷ []) []) 10 1000 ≡ says (Exited 0) [] [] 1
unfolding words
end_of_main = refl

-- also where the unit calls it: static int n; int main(void){n=n+1;if(n==1)return main()+5;}
again : runs (unit_of (main_at 19 []
    (eval (set 31 (global 30 int 12) (add 34 (get (global 32 int 12)) (num 1)))
    ∷ if_then (compare c.Equal 45 (get (global 44 int 12)) (num 1))
    (return (add 60 (call 58 int (unit_function of_none 19) []) (num 5)))
    ∷ []) ∷ []) (record { token = at 12; size = 4; items = []; seals = [] } ∷ [])) 10 1000
    ≡ says (Exited 5) [] (static 4 4 ∷ stored 4 0 4 ∷ stored 4 0 4 ∷ []) 2
unfolding words
again = refl

-- ---- parameters

-- int f(const int x,int y){*(int*)&x=y;return x;} int main(void){return f(1,2);}
abbrev two_ints : CType
two_ints = function int (int ∷ int ∷ [])

abbrev marked : Definition
marked = definition 5 (codes "f") two_ints
    (record { content = content.Scalar (scalar.Number k.I32); seals = record { at = 0; len = 4 } ∷ [] } ∷ holds int
    ∷ [])
    gives_int (block [] (
    eval (set 35 (deref 26 (retype (to int) (address 33 (local 34 int 0)))) (get (local 36 int 1)))
    ∷ return (get (local 45 int 0)) ∷ []))

-- the mark is set once both are stored
const_parameter : runs (unit_of (marked ∷ main_at 53 []
    (return (call 70 int (unit_function two_ints 5) (num 1 ∷ num 2 ∷ [])) ∷ []) ∷ []) []) 10 1000
    ≡ says (Trapped L8 (at 35)) [] (made 4 4 ∷ stored 4 0 4 ∷ made 6 4 ∷ stored 6 0 4 ∷ const_marks 4 0 4
    ∷ unreached L8 35 (pointer 4 0 0 4) 4 4 Store ∷ []) 4
unfolding words
const_parameter = refl

-- int f(int x,int y){int z=x-y;return z;} int main(void){return f(9,4);}: z dies first, then y, then x
deaths : runs (unit_of (definition 5 (codes "f") two_ints (holds int ∷ holds int ∷ []) gives_int
    (block (slot int 2 ∷ []) (init 2 (binary o.Subtract 27 (get (local 26 int 0)) (get (local 28 int 1)))
    ∷ return (get (local 38 int 2)) ∷ []))
    ∷ main_at 50 [] (return (call 70 int (unit_function two_ints 5) (num 9 ∷ num 4 ∷ [])) ∷ []) ∷ []) []) 10 1000
    ≡ says (Exited 5) [] (made 4 4 ∷ stored 4 0 4 ∷ made 6 4 ∷ stored 6 0 4 ∷ made 8 4 ∷ stored 8 0 4
    ∷ Died 8 ∷ Died 6 ∷ Died 4 ∷ []) 5
unfolding words
deaths = refl

-- a pointer to a parameter of a call that has returned:
-- int*f(int x){return&x;} int main(void){return*f(1);}
dead_parameter : runs (unit_of (definition 5 (codes "f") (function (to int) (int ∷ [])) (holds int ∷ [])
    (Some (content.Scalar scalar.Pointer)) (block [] (return (address 20 (local 21 int 0)) ∷ []))
    ∷ main_at 28 []
    (return (get (deref 45 (call 47 (to int) (unit_function (function (to int) (int ∷ [])) 5) (num 1 ∷ [])))) ∷ [])
    ∷ []) []) 10 1000
    ≡ says (Trapped L1 (at 45)) []
    (made 4 4 ∷ stored 4 0 4 ∷ Died 4 ∷ unreached L1 45 (pointer 4 0 0 4) 4 4 Star ∷ []) 3
unfolding words
dead_parameter = refl

-- ---- recursion

-- int f(int n){return n?n*f(n-1):1;} int main(void){return f(4);}
abbrev factorial : Definition
factorial = definition 5 (codes "f") of_int (holds int ∷ []) gives_int (block []
    (return (At int (at 22) (tree.Cond (get (local 21 int 0))
    (binary o.Multiply 24 (get (local 23 int 0))
    (call 26 int (unit_function of_int 5) (binary o.Subtract 28 (get (local 27 int 0)) (num 1) ∷ [])))
    (num 1))) ∷ []))

-- a parameter for each of 4, 3, 2, 1 and 0; the last dies first
factorial_runs : runs (unit_of (factorial
    ∷ main_at 39 [] (return (call 56 int (unit_function of_int 5) (num 4 ∷ [])) ∷ []) ∷ []) []) 20 2000
    ≡ says (Exited 24) [] (made 4 4 ∷ stored 4 0 4 ∷ made 6 4 ∷ stored 6 0 4 ∷ made 8 4 ∷ stored 8 0 4
    ∷ made 10 4 ∷ stored 10 0 4 ∷ made 12 4 ∷ stored 12 0 4 ∷ Died 12 ∷ Died 10 ∷ Died 8 ∷ Died 6 ∷ Died 4 ∷ []) 11
unfolding words
factorial_runs = refl

-- int f(void){return f();}int main(void){return f();} with 1024 bytes: main and three calls are open, the tick of the
-- fourth is taken
abbrev endless : Program
endless = unit_of (definition 5 (codes "f") of_none [] gives_int
    (block [] (return (call 20 int (unit_function of_none 5) []) ∷ []))
    ∷ main_at 28 [] (return (call 48 int (unit_function of_none 5) []) ∷ []) ∷ []) []

endless_bytes : runs endless 100 1024 ≡ says OutOfBytes [] [] 5
unfolding words
endless_bytes = refl

-- with more bytes than ticks
endless_ticks : runs endless 7 10000 ≡ says OutOfTicks [] [] 7
unfolding words
endless_ticks = refl
