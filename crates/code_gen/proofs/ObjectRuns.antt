-- Runs with objects: initializers, const objects, static objects, the last byte.
use Rattle.std.proofs.Common.{List, None, Some, [], refl, ℕ, ◌++◌, ◌∷◌, ◌≡◌}
use Rattle.std.specs.Prelude.{codes, pos}
use Rattle.acc_num.specs.declared.kind.IntKind.TheVariants as k
use Rattle.critical_table.specs.declared.case.Case.TheVariants.{L7, L8}
use Rattle.object_store.specs.declared.by.By.TheVariants.{Star, Store}
use Rattle.c_types.specs.CType.{Array, CType}
use Rattle.c_core.specs.TreeUnit.{Program, Static, StaticAddress, StaticFunction, StaticNumber, StaticValue}
use Rattle.c_core.specs.Tree.{Core}
use Rattle.c_core.specs.declared.static_object.Seal.{Seal}
use Rattle.c_core.specs.TreeUnit as unit
use Rattle.c_core.specs.declared.operator.Operator.TheVariants as o
use Rattle.c_core.specs.declared.named.FunctionName.TheVariants as name
use Rattle.c_core.specs.declared.static_object.Mark.TheVariants as mark
use Rattle.run_defs.specs.declared.outcome.Outcome.TheVariants.{Exited, OutOfBytes, OutOfTicks, Trapped}
use Rattle.run_defs.specs.declared.event.Event.TheVariants.{Died}
use Rattle.code_gen.proofs.Trees.{add, address, at, binary, block, call, char, convert, decay, definition, deref}
use Rattle.code_gen.proofs.Trees.{does, eval, function, get, gives_int, global, index, init, init_at, int, local}
use Rattle.code_gen.proofs.Trees.{main, main_at, num, return, retype, set, slot, to, two, unit_of}
use Rattle.code_gen.proofs.Runs.{const_marks, made, pointer, runs, says, static, stored, unreached, words}

-- ---- initializers

-- int main(void){int a[4]={[2]=7,8,[0]=1,2};return a[3]*10+a[1];}
abbrev four : CType
four = Array int (Some 4)

abbrev element : ℕ → Core
element n = get (index 50 (decay int (local 49 four 0)) (num n))

abbrev designated : Program
designated = unit_of (main (slot four 0 ∷ [])
    (does (unit.Zero 0 16) ∷ init_at 0 8 (num 7) ∷ init_at 0 12 (num 8) ∷ init_at 0 0 (num 1) ∷ init_at 0 4 (num 2)
    ∷ return (add 60 (binary o.Multiply 55 (element 3) (num 10)) (element 1)) ∷ []) ∷ []) []

designated_runs : runs designated 10 1000 ≡ says (Exited 82) []
    (made 4 16 ∷ stored 4 0 16 ∷ stored 4 8 4 ∷ stored 4 12 4 ∷ stored 4 0 4 ∷ stored 4 4 4 ∷ Died 4 ∷ []) 2
unfolding words
designated_runs = refl

-- int main(void){int a[4]={1,[0]=3};return a[0]*10+a[2];}: an item that is given again is stored again; the rest is 0
given_again : runs (unit_of (main (slot four 0 ∷ [])
    (does (unit.Zero 0 16) ∷ init_at 0 0 (num 1) ∷ init_at 0 0 (num 3)
    ∷ return (add 60 (binary o.Multiply 55 (element 0) (num 10)) (element 2)) ∷ []) ∷ []) []) 10 1000
    ≡ says (Exited 30) [] (made 4 16 ∷ stored 4 0 16 ∷ stored 4 0 4 ∷ stored 4 0 4 ∷ Died 4 ∷ []) 2
unfolding words
given_again = refl

-- int main(void){char s[4]="ab";return s[1]+s[3];}: a literal for an array makes no object
abbrev chars : CType
chars = Array char (Some 4)

abbrev character : ℕ → Core
character n = convert int (get (index 40 (decay char (local 39 chars 0)) (num n)))

literal_array : runs (unit_of (main (slot chars 0 ∷ [])
    (does (unit.Zero 0 4) ∷ does (unit.InitializeBytes 0 0 (codes "ab" ++ 0 ∷ []))
    ∷ return (add 44 (character 1) (character 3)) ∷ []) ∷ []) []) 10 1000
    ≡ says (Exited 98) [] (made 4 4 ∷ stored 4 0 4 ∷ stored 4 0 3 ∷ Died 4 ∷ []) 2
unfolding words
literal_array = refl

-- ---- the last byte: int main(void){int x=1;return x;} counts 256 bytes for the call and 4 for x

abbrev small : Program
small = unit_of (main (slot int 0 ∷ []) (init 0 (num 1) ∷ return (get (local 31 int 0)) ∷ []) ∷ []) []

last_byte : runs small 10 260 ≡ says (Exited 1) [] (made 4 4 ∷ stored 4 0 4 ∷ Died 4 ∷ []) 2
unfolding words
last_byte = refl

-- the tick of x is taken first
byte_short : runs small 10 259 ≡ says OutOfBytes [] [] 2
unfolding words
byte_short = refl

call_short : runs small 10 255 ≡ says OutOfBytes [] [] 1
unfolding words
call_short = refl

-- the last tick, and one less
last_tick : runs small 2 260 ≡ says (Exited 1) [] (made 4 4 ∷ stored 4 0 4 ∷ Died 4 ∷ []) 2
unfolding words
last_tick = refl

tick_short : runs small 1 260 ≡ says OutOfTicks [] [] 1
unfolding words
tick_short = refl

no_tick : runs small 0 260 ≡ says OutOfTicks [] [] 0
unfolding words
no_tick = refl

-- bytes of a block that was left are free again: int main(void){{int x;}{int y;}return 0;}
given_back : runs (unit_of (main [] (block (slot int 0 ∷ []) [] ∷ block (slot int 0 ∷ []) [] ∷ return (num 0) ∷ [])
    ∷ []) [])
    10 260 ≡ says (Exited 0) [] (made 4 4 ∷ Died 4 ∷ made 6 4 ∷ Died 6 ∷ []) 3
unfolding words
given_back = refl

-- ---- static objects

-- at a column, with an item at byte 0
abbrev object_of : ℕ → (size : ℕ) → StaticValue → List Seal → Static
object_of token size value seals =
    record { token = at token; size = size; items = record { at = 0; value = value } ∷ []; seals = seals }

-- static int n=5; int*p=&n; int main(void){n=n+1;return*p;}
abbrev pointed : Program
pointed = unit_of (main_at 30
    [] (eval (set 42 (global 41 int 12) (add 44 (get (global 43 int 12)) (num 1)))
    ∷ return (get (deref 54 (get (global 55 (to int) 21)))) ∷ []) ∷ [])
    (object_of 12 4 (StaticNumber k.I32 (pos 5)) []
    ∷ object_of 21 16 (StaticAddress (record { object = at 12; offset = 0; bounds = None })) [] ∷ [])

-- they are made without a tick, and their contents are no stores
pointed_runs : runs pointed 10 1000 ≡ says (Exited 6) [] (static 4 4 ∷ static 6 16 ∷ stored 4 0 4 ∷ []) 1
unfolding words
pointed_runs = refl

-- their bytes come before the tick of `main`
static_bytes_short : runs pointed 0 19 ≡ says OutOfBytes [] (static 4 4 ∷ []) 0
unfolding words
static_bytes_short = refl

static_bytes_enough : runs pointed 0 20 ≡ says OutOfTicks [] (static 4 4 ∷ static 6 16 ∷ []) 0
unfolding words
static_bytes_enough = refl

-- int a[2]; int*p=&a[1]; int main(void){p[1]=3;return 0;}: an address keeps the bounds of its array
array_address : runs (unit_of (main_at 30
    [] (eval (set 45 (index 42 (get (global 41 (to int) 16)) (num 1)) (num 3)) ∷ return (num 0) ∷ []) ∷ [])
    (record { token = at 5; size = 8; items = []; seals = [] }
    ∷ object_of 16 16 (StaticAddress (record {
      object = at 5;
      offset = 4;
      bounds = Some (record {
        low = 0;
        high = 8;
      });
    }))
    [] ∷ [])) 10 1000
    ≡ says (Trapped L7 (at 42)) [] (static 4 8 ∷ static 6 16 ∷ unreached L7 42 (pointer 4 8 0 8) 4 4 Star ∷ []) 1
unfolding words
array_address = refl

-- const int n=5; int main(void){*(int*)&n=2;return n;}
static_const : runs (unit_of (main_at 20
    [] (eval (set 40 (deref 31 (retype (to int) (address 38 (global 39 int 11)))) (num 2)) ∷ return (num 0) ∷ []) ∷ [])
    (object_of 11 4 (StaticNumber k.I32 (pos 5)) (record { at = 0; len = 4; mark = mark.Const } ∷ []) ∷ [])) 10 1000
    ≡ says (Trapped L8 (at 40)) [] (static 4 4 ∷ const_marks 4 0 4 ∷ unreached L8 40 (pointer 4 0 0 4) 4 4 Store ∷ []) 1
unfolding words
static_const = refl

-- int f(void){return 9;} int(*p)(void)=f; int main(void){return p();}
abbrev of_none : CType
of_none = function int []

static_function : runs (unit_of (definition 5 (codes "f") of_none [] gives_int (block [] (return (num 9) ∷ []))
    ∷ main_at 45 [] (return (call 64 int (get (global 63 (to of_none) 29)) []) ∷ []) ∷ [])
    (object_of 29 16 (StaticFunction (name.Unit (at 5))) [] ∷ [])) 10 1000
    ≡ says (Exited 9) [] (static 4 16 ∷ []) 2
unfolding words
static_function = refl

-- int a[2]={[1]=7}; int main(void){return a[0]+a[1];}: what has no item is 0
static_rest : runs (unit_of (main_at 23
    [] (return (add 49 (get (index 42 (decay int (global 41 two 5)) (num 0)))
    (get (index 47 (decay int (global 46 two 5)) (num 1)))) ∷ []) ∷ [])
    (record { token = at 5; size = 8; items = record { at = 4; value = StaticNumber k.I32 (pos 7) } ∷ []; seals = [] }
    ∷ [])) 10 1000
    ≡ says (Exited 7) [] (static 4 8 ∷ []) 1
unfolding words
static_rest = refl
