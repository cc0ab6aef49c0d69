-- Runs with numbers: values out of range, conversions, changes of narrow objects, parts that are not evaluated, order.
use Rattle.std.proofs.Common.{Option, [], refl, ℕ, ◌∷◌, ◌≡◌}
use Rattle.acc_num.specs.declared.kind.IntKind.TheVariants as k
use Rattle.critical_table.specs.declared.code.Code.TheVariants.{U01, U02, U03, U05, U12}
use Rattle.critical_table.specs.declared.code.Code.{Code}
use Rattle.c_types.specs.CType.{CType}
use Rattle.c_core.specs.Tree.{At, Core}
use Rattle.c_core.specs.TreeUnit.{Program}
use Rattle.c_core.specs.Tree as tree
use Rattle.c_core.specs.declared.operator.Operator.TheVariants as o
use Rattle.run_defs.specs.declared.outcome.Outcome.TheVariants.{Exited, Undefined}
use Rattle.run_defs.specs.declared.event.Event.TheVariants.{Died}
use Rattle.code_gen.proofs.Trees.{add, address, at, binary, bool, char, constant, convert, deref, discard, eval, get}
use Rattle.code_gen.proofs.Trees.{init, int, local, main, num, postfix, return, retype, set, short, slot, to, unit_of}
use Rattle.code_gen.proofs.Trees.{unsigned_char, update}
use Rattle.code_gen.proofs.Runs.{made, runs, says, stored, undefined, words}
use Rattle.code_gen.specs.Meaning.{Meaning}

-- int main(void){return 40+2;}
sum : runs (unit_of (main [] (return (add 25 (num 40) (num 2)) ∷ []) ∷ []) []) 10 1000 ≡ says (Exited 42) [] [] 1
unfolding words
sum = refl

-- ---- int main(void){int x=V;return E;}

abbrev with_x : ℕ → Core → Program
with_x value result = unit_of (main (slot int 0 ∷ []) (init 0 (num value) ∷ return result ∷ []) ∷ []) []

abbrev x : Core
x = local 40 int 0

-- the run comes to its end
abbrev fine : ℕ → Meaning × Option Meaning
fine status = says (Exited status) [] (made 4 4 ∷ stored 4 0 4 ∷ Died 4 ∷ []) 2

-- or stops at a column
abbrev stops : Code → ℕ → Meaning × Option Meaning
stops code column = says (Undefined code (at column)) [] (made 4 4 ∷ stored 4 0 4 ∷ undefined code column ∷ []) 2

-- x+1 at the greatest `int`, and one below
above_greatest : runs (with_x 2147483647 (add 41 (get x) (num 1))) 10 1000 ≡ stops U01 41
unfolding words
above_greatest = refl

to_greatest : runs (with_x 2147483646 (add 41 (get x) (num 1))) 10 1000 ≡ fine 255
unfolding words
to_greatest = refl

-- 1/x, 1%x at 0
by_zero : runs (with_x 0 (binary o.Divide 41 (num 1) (get x))) 10 1000 ≡ stops U02 41
unfolding words
by_zero = refl

remainder_by_zero : runs (with_x 0 (binary o.Remainder 41 (num 1) (get x))) 10 1000 ≡ stops U02 41
unfolding words
remainder_by_zero = refl

-- 7/x, 7%x at 2
halves : runs (with_x 2 (add 43 (binary o.Divide 41 (num 7) (get x)) (binary o.Remainder 45 (num 7) (get x)))) 10 1000
    ≡ fine 4
unfolding words
halves = refl

-- x<<31 at 1 has no value; x<<30 does; a count of 32 is none
shifted_out : runs (with_x 1 (binary o.ShiftLeft 41 (get x) (num 31))) 10 1000 ≡ stops U03 41
unfolding words
shifted_out = refl

shifted : runs (with_x 1 (binary o.ShiftRight 45 (binary o.ShiftLeft 41 (get x) (num 30)) (num 28))) 10 1000 ≡ fine 4
unfolding words
shifted = refl

no_count : runs (with_x 1 (binary o.ShiftRight 41 (get x) (num 32))) 10 1000 ≡ stops U03 41
unfolding words
no_count = refl

-- -x at the least `int`, which is -2147483647-1
least_negated : runs (with_x 2147483647 (At int (at 39) (tree.Negate k.I32
    (binary o.Subtract 50 (At int (at 40) (tree.Negate k.I32 (get x))) (num 1))))) 10 1000 ≡ stops U01 39
unfolding words
least_negated = refl

-- ~x&15, (x^5)|32 at 3
bits : runs (with_x 3 (add 45 (binary o.BitAnd 42 (At int (at 39) (tree.Flip k.I32 (get x))) (num 15))
    (binary o.BitOr 50 (binary o.BitXor 48 (get x) (num 5)) (num 32)))) 10 1000 ≡ fine 50
unfolding words
bits = refl

-- (unsigned char)x at 300, (_Bool)x at 2
converted : runs (with_x 300 (convert int (convert unsigned_char (get x)))) 10 1000 ≡ fine 44
unfolding words
converted = refl

converted_to_truth : runs (with_x 2 (convert int (convert bool (get x)))) 10 1000 ≡ fine 1
unfolding words
converted_to_truth = refl

-- ---- parts that are not evaluated

-- x&&1/x at 0
and_decided : runs (with_x 0 (At int (at 41) (tree.AndAlso (get x) (binary o.Divide 44 (num 1) (get x))))) 10 1000
    ≡ fine 0
unfolding words
and_decided = refl

-- x&&7 at 5
and_evaluated : runs (with_x 5 (At int (at 41) (tree.AndAlso (get x) (num 7)))) 10 1000 ≡ fine 1
unfolding words
and_evaluated = refl

-- x||1/0 at 1, and at 0
or_decided : runs (with_x 1 (At int (at 41) (tree.OrElse (get x) (binary o.Divide 44 (num 1) (num 0))))) 10 1000
    ≡ fine 1
unfolding words
or_decided = refl

or_evaluated : runs (with_x 0 (At int (at 41) (tree.OrElse (get x) (binary o.Divide 44 (num 1) (num 0))))) 10 1000
    ≡ stops U02 44
unfolding words
or_evaluated = refl

-- x?2:1/0 at 1, and at 0
chosen : runs (with_x 1 (At int (at 41) (tree.Cond (get x) (num 2) (binary o.Divide 44 (num 1) (num 0))))) 10 1000
    ≡ fine 2
unfolding words
chosen = refl

other_chosen : runs (with_x 0 (At int (at 41) (tree.Cond (get x) (num 2) (binary o.Divide 44 (num 1) (num 0))))) 10 1000
    ≡ stops U02 44
unfolding words
other_chosen = refl

-- ---- order

-- x+(x=5) at 1: the left operand is loaded first
left_first : runs (with_x 1 (add 41 (get x) (set 44 x (num 5)))) 10 1000
    ≡ says (Exited 6) [] (made 4 4 ∷ stored 4 0 4 ∷ stored 4 0 4 ∷ Died 4 ∷ []) 2
unfolding words
left_first = refl

-- x+=(x=5) at 1: the left side is loaded once the right one is evaluated
loaded_behind : runs (with_x 1 (update o.Add 41 x (set 45 x (num 5)))) 10 1000
    ≡ says (Exited 10) [] (made 4 4 ∷ stored 4 0 4 ∷ stored 4 0 4 ∷ stored 4 0 4 ∷ Died 4 ∷ []) 2
unfolding words
loaded_behind = refl

-- x=2,x+1 at 1
comma : runs (with_x 1 (At int (at 43) (tree.Comma (discard (set 41 x (num 2))) (add 45 (get x) (num 1))))) 10 1000
    ≡ says (Exited 3) [] (made 4 4 ∷ stored 4 0 4 ∷ stored 4 0 4 ∷ Died 4 ∷ []) 2
unfolding words
comma = refl

-- ---- changes of narrow objects: int main(void){T v=V;E;return v;}

abbrev changing : CType → ℕ → (Core → Core) → Program
changing type value change = unit_of (main (slot type 0 ∷ [])
    (init 0 (constant type value) ∷ eval (change (local 27 type 0)) ∷ return (convert int (get (local 40 type 0))) ∷ [])
    ∷ []) []

abbrev changed : ℕ → ℕ → Meaning × Option Meaning
changed size status = says (Exited status) []
    (made 4 size ∷ stored 4 0 size ∷ stored 4 0 size ∷ Died 4 ∷ []) 2

-- char v=127;v+=1: -128
char_update : runs (changing char 127 (λ v. update o.Add 28 v (num 1))) 10 1000 ≡ changed 1 128
unfolding words
char_update = refl

-- unsigned char v=255;v++
byte_step : runs (changing unsigned_char 255 (postfix o.Add 28)) 10 1000 ≡ changed 1 0
unfolding words
byte_step = refl

-- _Bool v=0;v--
truth_step : runs (changing bool 0 (postfix o.Subtract 28)) 10 1000 ≡ changed 1 1
unfolding words
truth_step = refl

-- short v=300;v*=300: 90000 modulo 65536
short_update : runs (changing short 300 (λ v. update o.Multiply 28 v (num 300))) 10 1000 ≡ changed 2 144
unfolding words
short_update = refl

-- int v=2147483647;v++
int_step : runs (changing int 2147483647 (postfix o.Add 28)) 10 1000 ≡ stops U01 28
unfolding words
int_step = refl

-- the old content is the value of v++, the new one that of v+=1
old_content : runs (with_x 3 (postfix o.Add 41 x)) 10 1000
    ≡ says (Exited 3) [] (made 4 4 ∷ stored 4 0 4 ∷ stored 4 0 4 ∷ Died 4 ∷ []) 2
unfolding words
old_content = refl

new_content : runs (with_x 3 (update o.Add 41 x (num 1))) 10 1000
    ≡ says (Exited 4) [] (made 4 4 ∷ stored 4 0 4 ∷ stored 4 0 4 ∷ Died 4 ∷ []) 2
unfolding words
new_content = refl

-- ---- loads: int main(void){T v;return v;}

abbrev unset : CType → Program
unset type = unit_of (main (slot type 0 ∷ []) (return (convert int (get (local 25 type 0))) ∷ []) ∷ []) []

unset_int : runs (unset int) 10 1000 ≡ says (Undefined U05 (at 25)) [] (made 4 4 ∷ undefined U05 25 ∷ []) 2
unfolding words
unset_int = refl

-- `unsigned char` loads 0
unset_byte : runs (unset unsigned_char) 10 1000 ≡ says (Exited 0) [] (made 4 1 ∷ Died 4 ∷ []) 2
unfolding words
unset_byte = refl

-- int main(void){_Bool v;*(unsigned char*)&v=2;return v;}
no_truth : runs (unit_of (main (slot bool 0 ∷ [])
    (eval (set 43 (deref 24 (retype (to unsigned_char) (address 41 (local 42 bool 0)))) (constant unsigned_char 2))
    ∷ return (convert int (get (local 54 bool 0))) ∷ []) ∷ []) []) 10 1000
    ≡ says (Undefined U12 (at 54)) [] (made 4 1 ∷ stored 4 0 1 ∷ undefined U12 54 ∷ []) 2
unfolding words
no_truth = refl
