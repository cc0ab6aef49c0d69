-- Runs with pointers: bounds, lifetimes, null pointers, marks.
use Rattle.std.proofs.Common.{Some, [], false, refl, true, ◌++◌, ◌∷◌, ◌≡◌}
use Rattle.std.specs.Prelude.{codes}
use Rattle.critical_table.specs.declared.case.Case.TheVariants.{L1, L11, L4, L5, L6, L7, L8}
use Rattle.critical_table.specs.declared.code.Code.TheVariants.{U06, U07, U08}
use Rattle.object_store.specs.declared.by.By.TheVariants.{Arrow, Star, Store}
use Rattle.c_types.specs.CType.{Array, CType}
use Rattle.c_types.specs.CType as type
use Rattle.c_core.specs.Tree.{At, Core}
use Rattle.c_core.specs.TreeUnit.{Program}
use Rattle.c_core.specs.Tree as tree
use Rattle.c_core.specs.TreeUnit as unit
use Rattle.c_core.specs.declared.operator.Relation.TheVariants as rel
use Rattle.lib_defs.specs.declared.shown.Shown.TheVariants.{NoValue, Place}
use Rattle.lib_defs.specs.Reply.{null}
use Rattle.lib_defs.specs.declared.row_name.RowName.TheVariants as n
use Rattle.run_defs.specs.declared.outcome.Outcome.TheVariants.{Exited, Trapped, Undefined}
use Rattle.run_defs.specs.declared.event.Event.TheVariants.{Died}
use Rattle.code_gen.proofs.Runs.{called, const_marks, gave, heap, literal_marks, made, pointer, runs, says, static}
use Rattle.code_gen.proofs.Runs.{stored, undefined, unreached, words}
use Rattle.code_gen.proofs.Trees.{add, address, arrow, at, block, call, call_void, char, constant, convert, decay}
use Rattle.code_gen.proofs.Trees.{deref, does, eval, eval_void, get, global, index, init, init_at, int, literal}
use Rattle.code_gen.proofs.Trees.{local, long, main, main_at, member, minus_one, null_of, num, pair, pointer_postfix}
use Rattle.code_gen.proofs.Trees.{pointer_update, return, retype, row_function, set, size_t, slot, step, to, two}
use Rattle.code_gen.proofs.Trees.{unit_of, unsigned_char}
use Rattle.library_types.specs.LibraryTypes.{row_type}

-- int main(void){int a[3];a[3]=1;return 0;}
abbrev three : CType
three = Array int (Some 3)

abbrev array_end : Program
array_end = unit_of (main (slot three 0 ∷ [])
    (eval (set 29 (index 26 (decay int (local 25 three 0)) (num 3)) (num 1)) ∷ return (num 0) ∷ []) ∷ []) []

array_end_traps : runs array_end 10 1000 ≡ says (Trapped L7 (at 26)) []
    (made 4 12 ∷ unreached L7 26 (pointer 4 12 0 12) 4 4 Star ∷ []) 2
unfolding words
array_end_traps = refl

-- a[4]=1 instead: the pointer moves out of the array
abbrev array_beyond : Program
array_beyond = unit_of (main (slot three 0 ∷ [])
    (eval (set 29 (index 26 (decay int (local 25 three 0)) (num 4)) (num 1)) ∷ return (num 0) ∷ []) ∷ []) []

array_beyond_stops : runs array_beyond 10 1000 ≡ says (Undefined U06 (at 26)) []
    (made 4 12 ∷ undefined U06 26 ∷ []) 2
unfolding words
array_beyond_stops = refl

-- a[2]=1 instead: the last element
abbrev array_last : Program
array_last = unit_of (main (slot three 0 ∷ [])
    (eval (set 29 (index 26 (decay int (local 25 three 0)) (num 2)) (num 1)) ∷ return (num 0) ∷ []) ∷ []) []

array_last_runs : runs array_last 10 1000 ≡ says (Exited 0) [] (made 4 12 ∷ stored 4 8 4 ∷ Died 4 ∷ []) 2
unfolding words
array_last_runs = refl

-- int main(void){int a[3];int*p=&a[3];return p-a;}
abbrev array_length : Program
array_length = unit_of (main (slot three 0 ∷ slot (to int) 1 ∷ [])
    (init 1 (step 32 (decay int (local 31 three 0)) (num 3))
    ∷ return (convert int (At long (at 45)
    (tree.Difference 4 (get (local 44 (to int) 1)) (decay int (local 46 three 0)))))
    ∷ []) ∷ []) []

array_length_runs : runs array_length 10 1000 ≡ says (Exited 3) []
    (made 4 12 ∷ made 6 16 ∷ stored 6 0 16 ∷ Died 6 ∷ Died 4 ∷ []) 3
unfolding words
array_length_runs = refl

-- int main(void){int*p=0;return*p;}
abbrev null_star : Program
null_star = unit_of (main (slot (to int) 0 ∷ [])
    (init 0 (null_of (to int)) ∷ return (get (deref 30 (get (local 31 (to int) 0)))) ∷ []) ∷ []) []

null_star_traps : runs null_star 10 1000 ≡ says (Trapped L6 (at 30)) []
    (made 4 16 ∷ stored 4 0 16 ∷ unreached L6 30 null 4 4 Star ∷ []) 2
unfolding words
null_star_traps = refl

-- struct s{int m;};int main(void){struct s*p=0;return p->m;}
abbrev null_arrow : Program
null_arrow = unit_of (main_at 22 (slot (to pair) 0 ∷ [])
    (init 0 (null_of (to pair)) ∷ return (get (arrow 54 4 int 0 (get (local 53 (to pair) 0)))) ∷ []) ∷ []) []

null_arrow_traps : runs null_arrow 10 1000 ≡ says (Trapped L4 (at 54)) []
    (made 4 16 ∷ stored 4 0 16 ∷ unreached L4 54 null 4 4 Arrow ∷ []) 2
unfolding words
null_arrow_traps = refl

-- int main(void){int*p;{int x=1;p=&x;}return*p;}
abbrev left_block : Program
left_block = unit_of (main (slot (to int) 0 ∷ [])
    (block (slot int 1 ∷ []) (init 1 (num 1)
    ∷ eval (set 32 (local 31 (to int) 0) (address 33 (local 34 int 1))) ∷ [])
    ∷ return (get (deref 43 (get (local 44 (to int) 0)))) ∷ []) ∷ []) []

left_block_traps : runs left_block 10 1000 ≡ says (Trapped L1 (at 43)) []
    (made 4 16 ∷ made 6 4 ∷ stored 6 0 4 ∷ stored 4 0 16 ∷ Died 6 ∷ unreached L1 43 (pointer 6 0 0 4) 4 4 Star ∷ []) 3
unfolding words
left_block_traps = refl

-- int main(void){int*p=malloc(4);free(p);return*p;}
abbrev freed : Program
freed = unit_of (main (slot (to int) 0 ∷ [])
    (init 0 (retype (to int) (call 28 (to type.void) (row_function (row_type n.Malloc) 43) (constant size_t 4 ∷ [])))
    ∷ eval_void (call_void 36 (row_function (row_type n.Free) 46)
    (retype (to type.void) (get (local 37 (to int) 0)) ∷ []))
    ∷ return (get (deref 46 (get (local 47 (to int) 0)))) ∷ []) ∷ []) []

freed_traps : runs freed 10 1000 ≡ says (Trapped L11 (at 46)) []
    (made 4 16 ∷ called 43 [] ∷ heap 7 4 ∷ gave 43 (Place 7 0) ∷ stored 4 0 16 ∷ called 46 [] ∷ Died 7
    ∷ gave 46 NoValue ∷ unreached L11 46 (pointer 7 0 0 4) 4 4 Star ∷ []) 5
unfolding words
freed_traps = refl

-- int main(void){char*s="ab";s[0]=1;return 0;}
abbrev literal_store : Program
literal_store = unit_of (main (slot (to char) 0 ∷ [])
    (init 0 (decay char (global 23 (Array char (Some 3)) 23))
    ∷ eval (set 32 (index 29 (get (local 28 (to char) 0)) (num 0)) (convert char (num 1)))
    ∷ return (num 0) ∷ []) ∷ [])
    (literal 23 (codes "ab" ++ 0 ∷ []) 3 ∷ [])

literal_store_traps : runs literal_store 10 1000 ≡ says (Trapped L5 (at 32)) []
    (static 4 3 ∷ literal_marks 4 3 ∷ made 6 16 ∷ stored 6 0 16 ∷ unreached L5 32 (pointer 4 0 0 3) 1 1 Store ∷ []) 2
unfolding words
literal_store_traps = refl

-- int main(void){const int x=1;*(int*)&x=2;return 0;}
abbrev const_store : Program
const_store = unit_of (main (slot int 0 ∷ [])
    (init 0 (num 1) ∷ does (unit.SealBytes 0 0 4)
    ∷ eval (set 39 (deref 30 (retype (to int) (address 37 (local 38 int 0)))) (num 2))
    ∷ return (num 0) ∷ []) ∷ []) []

const_store_traps : runs const_store 10 1000 ≡ says (Trapped L8 (at 39)) []
    (made 4 4 ∷ stored 4 0 4 ∷ const_marks 4 0 4 ∷ unreached L8 39 (pointer 4 0 0 4) 4 4 Store ∷ []) 2
unfolding words
const_store_traps = refl

-- struct s{const int m;};int main(void){struct s v={1};*(int*)&v.m=2;return 0;}
abbrev const_member : Program
const_member = unit_of (main_at 28 (record { slot = 0; size = 4 } ∷ [])
    (does (unit.Zero 0 4) ∷ init_at 0 0 (num 1) ∷ does (unit.SealBytes 0 0 4)
    ∷ eval (set 65 (deref 54 (retype (to int) (address 61 (member 63 int 0 (local 62 pair 0))))) (num 2))
    ∷ return (num 0) ∷ []) ∷ []) []

const_member_traps : runs const_member 10 1000 ≡ says (Trapped L8 (at 65)) []
    (made 4 4 ∷ stored 4 0 4 ∷ stored 4 0 4 ∷ const_marks 4 0 4 ∷ unreached L8 65 (pointer 4 0 0 4) 4 4 Store ∷ []) 2
unfolding words
const_member_traps = refl

-- int main(void){int*p=0;unsigned char*b=(unsigned char*)&p;b[0]=90;return*p;}
abbrev forged : Program
forged = unit_of (main (slot (to int) 0 ∷ slot (to unsigned_char) 1 ∷ [])
    (init 0 (null_of (to int))
    ∷ init 1 (retype (to unsigned_char) (address 56 (local 57 (to int) 0)))
    ∷ eval (set 63 (index 60 (get (local 59 (to unsigned_char) 1)) (num 0)) (convert unsigned_char (num 90)))
    ∷ return (get (deref 73 (get (local 74 (to int) 0)))) ∷ []) ∷ []) []

forged_traps : runs forged 10 1000 ≡ says (Trapped L6 (at 73)) []
    (made 4 16 ∷ made 6 16 ∷ stored 4 0 16 ∷ stored 6 0 16 ∷ stored 4 0 1
    ∷ unreached L6 73 (pointer 90 0 0 0) 4 4 Star ∷ []) 3
unfolding words
forged_traps = refl

-- ---- order, equality and difference: int main(void){int a[2];int b[2];return E;}

abbrev a_and_b : Core → Program
a_and_b value = unit_of (main (slot two 0 ∷ slot two 1 ∷ []) (return value ∷ []) ∷ []) []

abbrev a : Core
a = decay int (local 39 two 0)

abbrev b : Core
b = decay int (local 41 two 1)

-- a<b is no order of pointers into one object
unordered : runs (a_and_b (At int (at 40) (tree.Order rel.Less a b))) 10 1000 ≡ says (Undefined U08 (at 40)) []
    (made 4 8 ∷ made 6 8 ∷ undefined U08 40 ∷ []) 3
unfolding words
unordered = refl

-- a<a+1
ordered : runs (a_and_b (At int (at 40) (tree.Order rel.Less a (step 42 a (num 1))))) 10 1000 ≡ says (Exited 1) []
    (made 4 8 ∷ made 6 8 ∷ Died 6 ∷ Died 4 ∷ []) 3
unfolding words
ordered = refl

-- a==b, a!=b
unequal : runs (a_and_b (add 45 (At int (at 40) (tree.Same true a b)) (At int (at 47) (tree.Same false a b)))) 10 1000
    ≡ says (Exited 1) [] (made 4 8 ∷ made 6 8 ∷ Died 6 ∷ Died 4 ∷ []) 3
unfolding words
unequal = refl

-- a-b
unrelated : runs (a_and_b (convert int (At long (at 40) (tree.Difference 4 a b)))) 10 1000
    ≡ says (Undefined U07 (at 40)) [] (made 4 8 ∷ made 6 8 ∷ undefined U07 40 ∷ []) 3
unfolding words
unrelated = refl

-- (int*)((char*)a+1)-a is no number of elements
no_elements : runs (a_and_b (convert int (At long (at 55) (tree.Difference 4
    (retype (to int) (step 52 (retype (to char) a) (num 1))) a)))) 10 1000
    ≡ says (Undefined U07 (at 55)) [] (made 4 8 ∷ made 6 8 ∷ undefined U07 55 ∷ []) 3
unfolding words
no_elements = refl

-- *(int*)((char*)a+1) is not aligned
misaligned : runs (a_and_b (get (deref 39 (retype (to int) (step 50 (retype (to char) a) (num 1)))))) 10 1000
    ≡ says (Trapped L6 (at 39)) []
    (made 4 8 ∷ made 6 8 ∷ unreached L6 39 (pointer 4 1 0 8) 4 4 Star ∷ []) 3
unfolding words
misaligned = refl

-- null pointers move by nothing, are equal, ordered and subtracted
nulls : runs (a_and_b (add 60
    (add 50 (At int (at 45) (tree.Order rel.LessEqual (step 41 (null_of (to int)) (num 0)) (null_of (to int))))
    (At int (at 55) (tree.Same true (null_of (to int)) (null_of (to int)))))
    (convert int (At long (at 65) (tree.Difference 4 (null_of (to int)) (null_of (to int))))))) 10 1000
    ≡ says (Exited 2) [] (made 4 8 ∷ made 6 8 ∷ Died 6 ∷ Died 4 ∷ []) 3
unfolding words
nulls = refl

-- a null pointer plus 1
null_moved : runs (a_and_b (At int (at 45) (tree.IsNull (step 41 (null_of (to int)) (num 1))))) 10 1000
    ≡ says (Undefined U06 (at 41)) [] (made 4 8 ∷ made 6 8 ∷ undefined U06 41 ∷ []) 3
unfolding words
null_moved = refl

-- ---- bounds of members

-- struct s{int a[2];int b;};int main(void){struct s v;v.a[2]=1;return 0;}: the bounds are those of the member array
abbrev member_array : Program
member_array = unit_of (main_at 31 (record { slot = 0; size = 12 } ∷ [])
    (eval (set 59 (index 56 (decay int (member 54 two 0 (local 53 pair 0))) (num 2)) (num 1)) ∷ return (num 0) ∷ [])
    ∷ []) []

member_array_traps : runs member_array 10 1000 ≡ says (Trapped L7 (at 56)) []
    (made 4 12 ∷ unreached L7 56 (pointer 4 8 0 8) 4 4 Star ∷ []) 2
unfolding words
member_array_traps = refl

-- struct s{int m,n;};int main(void){struct s v;int*p=&v.m;p[1]=5;return v.n;}: those of the structure
abbrev member_address : Program
member_address = unit_of (main_at 24 (slot pair 0 ∷ slot (to int) 1 ∷ [])
    (init 1 (address 52 (member 54 int 0 (local 53 pair 0)))
    ∷ eval (set 61 (index 58 (get (local 57 (to int) 1)) (num 1)) (num 5))
    ∷ return (get (member 72 int 4 (local 71 pair 0))) ∷ []) ∷ []) []

member_address_runs : runs member_address 10 1000 ≡ says (Exited 5) []
    (made 4 8 ∷ made 6 16 ∷ stored 6 0 16 ∷ stored 4 4 4 ∷ Died 6 ∷ Died 4 ∷ []) 3
unfolding words
member_address_runs = refl

-- ---- pointers that move

-- int main(void){int a[1];int*p=a;p++;p+=-1;p++;p++;return 0;}: the last step leaves the array
abbrev moving : Program
moving = unit_of (main (slot (Array int (Some 1)) 0 ∷ slot (to int) 1 ∷ [])
    (init 1 (decay int (local 31 (Array int (Some 1)) 0))
    ∷ eval (pointer_postfix false 34 (local 33 (to int) 1))
    ∷ eval (pointer_update false 38 (local 37 (to int) 1) minus_one)
    ∷ eval (pointer_postfix false 44 (local 43 (to int) 1))
    ∷ eval (pointer_postfix false 48 (local 47 (to int) 1))
    ∷ return (num 0) ∷ []) ∷ []) []

moving_stops : runs moving 10 1000 ≡ says (Undefined U06 (at 48)) []
    (made 4 4 ∷ made 6 16 ∷ stored 6 0 16 ∷ stored 6 0 16 ∷ stored 6 0 16 ∷ stored 6 0 16 ∷ undefined U06 48 ∷ []) 3
unfolding words
moving_stops = refl

-- int main(void){int*p;int*q;{int x;p=&x;q=&x;}return p==q;}: pointers to an object that is dead are compared
abbrev stale : Program
stale = unit_of (main (slot (to int) 0 ∷ slot (to int) 1 ∷ [])
    (block (slot int 2 ∷ [])
    (eval (set 36 (local 35 (to int) 0) (address 37 (local 38 int 2)))
    ∷ eval (set 41 (local 40 (to int) 1) (address 42 (local 43 int 2))) ∷ [])
    ∷ return (At int (at 54) (tree.Same true (get (local 53 (to int) 0)) (get (local 56 (to int) 1)))) ∷ []) ∷ []) []

stale_runs : runs stale 10 1000 ≡ says (Exited 1) []
    (made 4 16 ∷ made 6 16 ∷ made 8 4 ∷ stored 4 0 16 ∷ stored 6 0 16 ∷ Died 8 ∷ Died 6 ∷ Died 4 ∷ []) 4
unfolding words
stale_runs = refl
