-- Runs with structures: assigned, passing_events, returned; value objects and their deaths.
use Rattle.std.specs.Prelude.{codes}
use Rattle.std.proofs.Common.{List, Some, [], false, refl, ℕ, ◌++◌, ◌∷◌, ◌≡◌}
use Rattle.critical_table.specs.declared.code.Code.TheVariants.{U04, U05, U10}
use Rattle.critical_table.specs.declared.case.Case.TheVariants.{L6}
use Rattle.object_store.specs.declared.by.By.TheVariants.{Star}
use Rattle.c_types.specs.CType.{Array, CType}
use Rattle.c_core.specs.TreeUnit.{Definition, Parameter, Program, Statement}
use Rattle.c_core.specs.Tree.{Core}
use Rattle.c_core.specs.TreeUnit as unit
use Rattle.c_core.specs.declared.operator.Operator.TheVariants as o
use Rattle.c_core.specs.declared.form.Content.TheVariants as content
use Rattle.lib_defs.specs.declared.shown.Shown.TheVariants.{Place}
use Rattle.run_defs.specs.declared.outcome.Outcome.TheVariants.{Exited, OutOfBytes, Trapped, Undefined}
use Rattle.run_defs.specs.declared.event.Event.{Event}
use Rattle.run_defs.specs.declared.event.Event.TheVariants.{Died, ValueFailed}
use Rattle.code_gen.proofs.Trees.{add, at, binary, block, by_value, call, call_giving, call_whole, decay, definition}
use Rattle.code_gen.proofs.Trees.{deref, discard, does, eval, eval_void, function, get, gives_int, holds, init_at}
use Rattle.code_gen.proofs.Trees.{init_whole, int, local, main, main_at, member, nothing, null_of, num, pair, return}
use Rattle.code_gen.proofs.Trees.{retype, set, set_whole, slot, step, to, unit_function, unit_of}
use Rattle.code_gen.proofs.Runs.{made, pointer, runs, says, stored, undefined, unreached, words}

-- struct s{int a,b;}; each unit has `v` in slot 0, with 1 and 2
abbrev v : Core
v = local 40 pair 0

abbrev set_up : List Statement
set_up = does (unit.Zero 0 8) ∷ init_at 0 0 (num 1) ∷ init_at 0 4 (num 2) ∷ []

abbrev member_a : ℕ → Core → Core
member_a column place = get (member column int 0 place)

abbrev member_b : ℕ → Core → Core
member_b column place = get (member column int 4 place)

-- ---- assignment

-- int main(void){struct s v={1,2};struct s w;w=v;return w.a*10+w.b;}
abbrev w : Core
w = local 50 pair 1

abbrev assigning : Program
assigning = unit_of (main (slot pair 0 ∷ slot pair 1 ∷ []) (set_up ++
    eval (set_whole 51 w v) ∷ return (add 60 (binary o.Multiply 57 (member_a 55 w) (num 10)) (member_b 62 w)) ∷ [])
    ∷ []) []

assigning_runs : runs assigning 10 1000 ≡ says (Exited 12) []
    (made 4 8 ∷ made 6 8 ∷ stored 4 0 8 ∷ stored 4 0 4 ∷ stored 4 4 4 ∷ stored 6 0 8 ∷ Died 6 ∷ Died 4 ∷ []) 3
unfolding words
assigning_runs = refl

-- v=v: source and destination are the same place
same_place : runs (unit_of (main (slot pair 0 ∷ []) (set_up ++ eval (set_whole 51 v v) ∷ return (member_b 60 v)
    ∷ []) ∷ []) [])
    10 1000 ≡ says (Exited 2) []
    (made 4 8 ∷ stored 4 0 8 ∷ stored 4 0 4 ∷ stored 4 4 4 ∷ stored 4 0 8 ∷ Died 4 ∷ []) 2
unfolding words
same_place = refl

-- struct s w;w=v; of a v that is not initialized moves bytes that are indeterminate
indeterminate : runs (unit_of (main (slot pair 0 ∷ slot pair 1 ∷ [])
    (eval (set_whole 51 w v) ∷ return (member_a 60 w) ∷ []) ∷ []) []) 10 1000
    ≡ says (Undefined U05 (at 60)) [] (made 4 8 ∷ made 6 8 ∷ stored 6 0 8 ∷ undefined U05 60 ∷ []) 3
unfolding words
indeterminate = refl

-- int main(void){int a[3];*(struct s*)a=*(struct s*)(a+N);return 0;}
abbrev overlapping : ℕ → Program
overlapping n = unit_of (main (record { slot = 0; size = 12 } ∷ [])
    (eval (set_whole 37
    (deref 25 (retype (to pair) (decay int (local 36 (Array int (Some 3)) 0))))
    (deref 38 (retype (to pair) (step 51 (decay int (local 50 (Array int (Some 3)) 0)) (num n)))))
    ∷ return (num 0) ∷ []) ∷ []) []

-- by 4 of 8 bytes
overlap : runs (overlapping 1) 10 1000 ≡ says (Undefined U10 (at 37)) [] (made 4 12 ∷ undefined U10 37 ∷ []) 2
unfolding words
overlap = refl

no_overlap : runs (overlapping 0) 10 1000 ≡ says (Exited 0) [] (made 4 12 ∷ stored 4 0 8 ∷ Died 4 ∷ []) 2
unfolding words
no_overlap = refl

-- beyond the array
source_unreached : runs (overlapping 2) 10 1000 ≡ says (Trapped L6 (at 38)) []
    (made 4 12 ∷ unreached L6 38 (pointer 4 8 0 12) 8 4 Star ∷ []) 2
unfolding words
source_unreached = refl

-- ---- passing_events: int f(struct s p){p.a=p.a+p.b;return p.a;} int main(void){struct s v={1,2};return f(v)*10+v.a;}

abbrev takes_pair : CType
takes_pair = function int (pair ∷ [])

abbrev p : Core
p = local 20 pair 0

abbrev holds_pair : Parameter
holds_pair = record { content = content.Whole 8; seals = [] }

abbrev f : Definition
f = definition 5 (codes "f") takes_pair (holds_pair ∷ []) gives_int (block [] (
    eval (set 21 (member 20 int 0 p) (add 25 (member_a 23 p) (member_b 27 p))) ∷ return (member_a 35 p) ∷ []))

abbrev passing : Program
passing = unit_of (f ∷ main_at 50 (slot pair 0 ∷ []) (set_up ++
    return (add 90 (binary o.Multiply 85
    (call 80 int (unit_function takes_pair 5) (by_value v ∷ [])) (num 10)) (member_a 92 v)) ∷ []) ∷ []) []

-- the value object 6, then the parameter 8; v stays as it was; the value object dies with the full expression
abbrev passing_events : List Event
passing_events = made 4 8 ∷ stored 4 0 8 ∷ stored 4 0 4 ∷ stored 4 4 4
    ∷ made 6 8 ∷ stored 6 0 8 ∷ made 8 8 ∷ stored 8 0 8 ∷ stored 8 0 4 ∷ Died 8 ∷ Died 6 ∷ Died 4 ∷ []

passing_runs : runs passing 10 1000 ≡ says (Exited 31) [] passing_events 5
unfolding words
passing_runs = refl

-- live bytes at the deepest: main and f 512, v, value object and parameter 24
passing_exactly : runs passing 10 536 ≡ says (Exited 31) [] passing_events 5
unfolding words
passing_exactly = refl

passing_short : runs passing 10 535 ≡ says OutOfBytes []
    (made 4 8 ∷ stored 4 0 8 ∷ stored 4 0 4 ∷ stored 4 4 4 ∷ made 6 8 ∷ stored 6 0 8 ∷ []) 5
unfolding words
passing_short = refl

-- ---- returned: struct s g(int n){struct s r={3,4};r.b=n;return r;}

abbrev gives_pair : CType
gives_pair = function pair (int ∷ [])

abbrev r : Core
r = local 30 pair 1

abbrev g : Definition
g = definition 10 (codes "g") gives_pair (holds int ∷ []) (Some (content.Whole 8)) (block (slot pair 1 ∷ []) (
    does (unit.Zero 1 8) ∷ init_at 1 0 (num 3) ∷ init_at 1 4 (num 4)
    ∷ eval (set 32 (member 31 int 4 r) (get (local 33 int 0)))
    ∷ does (unit.ReturnWhole 8 r) ∷ []))

abbrev call_g : ℕ → ℕ → Core
call_g column n = call_whole column pair (unit_function gives_pair 10) (num n ∷ [])

-- what a call of g does, with its value object and its objects at these numbers
abbrev g_runs : (result parameter local : ℕ) → List Event
g_runs result parameter local = made result 8 ∷ made parameter 4 ∷ stored parameter 0 4 ∷ made local 8
    ∷ stored local 0 8 ∷ stored local 0 4 ∷ stored local 4 4 ∷ stored local 4 4 ∷ stored result 0 8
    ∷ Died local ∷ Died parameter ∷ []

-- int main(void){return g(7).b+g(8).a;}: the value objects die behind the whole expression, the last made first
abbrev returning : Program
returning = unit_of (g ∷ main_at 60 [] (return (add 90 (member_b 85 (call_g 82 7)) (member_a 95 (call_g 92 8)))
    ∷ []) ∷ []) []

returning_runs : runs returning 20 2000 ≡ says (Exited 10) []
    (g_runs 4 6 8 ++ g_runs 10 12 14 ++ Died 10 ∷ Died 4 ∷ []) 9
unfolding words
returning_runs = refl

-- int main(void){struct s v=g(7);v=g(8);return v.b;}: copied, and then the value object dies
abbrev taking : Program
taking = unit_of (g ∷ main_at 60 (slot pair 0 ∷ [])
    (init_whole 0 (call_g 82 7) ∷ eval (set_whole 90 v (call_g 92 8)) ∷ return (member_b 99 v) ∷ []) ∷ []) []

taking_runs : runs taking 20 2000 ≡ says (Exited 8) []
    (made 4 8 ∷ (g_runs 6 8 10 ++ stored 4 0 8 ∷ Died 6 ∷ g_runs 12 14 16 ++ stored 4 0 8 ∷ Died 12 ∷ Died 4 ∷ [])) 10
unfolding words
taking_runs = refl

-- int main(void){while(g(0).b);return 1;}: a controlling expression is a full expression
controlling : runs (unit_of (g ∷ main_at 60 []
    (does (unit.While (member_b 85 (call_g 82 0)) nothing) ∷ return (num 1) ∷ []) ∷ []) []) 20 2000
    ≡ says (Exited 1) [] (g_runs 4 6 8 ++ Died 4 ∷ []) 6
unfolding words
controlling = refl

-- int main(void){g(1).a=5;return 0;} stores into a value object
storing : runs (unit_of (g ∷ main_at 60 []
    (eval (set 89 (member 87 int 0 (call_g 84 1)) (num 5)) ∷ return (num 0) ∷ []) ∷ []) []) 20 2000
    ≡ says (Exited 0) [] (g_runs 4 6 8 ++ stored 4 0 4 ∷ Died 4 ∷ []) 5
unfolding words
storing = refl

-- struct s k(void){} int main(void){k();return k().a;}: where its value is used
abbrev k_type : CType
k_type = function pair []

unreturned : runs (unit_of (definition 10 (codes "k") k_type [] (Some (content.Whole 8)) nothing
    ∷ main_at 60 []
    (eval_void (discard (call_giving false 80 pair (Some (content.Whole 8)) (unit_function k_type 10) []))
    ∷ return (member_a 93 (call_whole 91 pair (unit_function k_type 10) [])) ∷ []) ∷ []) []) 20 2000
    ≡ says (Undefined U04 (at 91)) [] (made 4 8 ∷ Died 4 ∷ made 6 8 ∷ undefined U04 91 ∷ []) 5
unfolding words
unreturned = refl

-- int main(void){return((struct s(*)(int))0)(1).a;}: the value object is made before the function is tested
no_function : runs (unit_of (main_at 5 []
    (return (member_a 46 (call_whole 43 pair (null_of (to gives_pair)) (num 1 ∷ []))) ∷ []) ∷ []) []) 20 2000
    ≡ says (Trapped L6 (at 43)) [] (made 4 8 ∷ ValueFailed L6 (at 43) (Place 0 0) ∷ []) 2
unfolding words
no_function = refl
