-- Runs with statements: loops, jumps out of blocks, switches, the last tick.
use Rattle.std.specs.Prelude.{negsuc, pos, ℤ}
use Rattle.std.proofs.Common.{List, None, Option, Some, [], refl, ℕ, ◌∷◌, ◌≡◌}
use Rattle.acc_num.specs.declared.kind.IntKind.TheVariants as k
use Rattle.critical_table.specs.declared.code.Code.TheVariants.{U05}
use Rattle.c_core.specs.TreeUnit.{Program, Statement, statements}
use Rattle.c_core.specs.Tree.{At, Core}
use Rattle.c_core.specs.Tree as tree
use Rattle.c_core.specs.TreeUnit as unit
use Rattle.c_core.specs.declared.operator.Comparison.TheVariants as c
use Rattle.run_defs.specs.declared.outcome.Outcome.TheVariants.{Exited, OutOfTicks, Undefined}
use Rattle.run_defs.specs.declared.event.Event.TheVariants.{Died}
use Rattle.run_defs.specs.declared.event.Event.{Event}
use Rattle.code_gen.proofs.Trees.{add, address, at, block, case, compare, deref, discard, does, eval, get, if_then}
use Rattle.code_gen.proofs.Trees.{init, int, local, main, num, return, retype, set, slot, to, unit_of}
use Rattle.code_gen.proofs.Runs.{made, runs, says, stored, undefined, words}

-- ---- int main(void){int i=0;int s=0;STATEMENT return s;}

abbrev i : Core
i = local 30 int 0

abbrev s : Core
s = local 40 int 1

abbrev counting : Statement → Program
counting statement = unit_of (main (slot int 0 ∷ slot int 1 ∷ [])
    (init 0 (num 0) ∷ init 1 (num 0) ∷ statement ∷ return (get s) ∷ []) ∷ []) []

-- the two objects are made and set to 0, stored to in turn, and die
abbrev counted : List Event → List Event
counted events = made 4 4 ∷ made 6 4 ∷ stored 4 0 4 ∷ stored 6 0 4 ∷ events

abbrev to_i : Event
to_i = stored 4 0 4

abbrev to_s : Event
to_s = stored 6 0 4

abbrev gone : List Event
gone = Died 6 ∷ Died 4 ∷ []

-- v=v+n
abbrev raise : Core → Core → Statement
raise v n = eval (set 50 v (add 51 (get v) n))

abbrev below : ℕ → Core
below n = compare c.Less 31 (get i) (num n)

abbrev equals : ℕ → Core
equals n = compare c.Equal 31 (get i) (num n)

-- while(i<5){i=i+1;if(i==2)continue;if(i==4)break;s=s+i;}
abbrev looping : Program
looping = counting (does (unit.While (below 5) (block [] (raise i (num 1)
    ∷ if_then (equals 2) (does unit.Continue) ∷ if_then (equals 4) (does unit.Break) ∷ raise s (get i) ∷ []))))

looping_runs : runs looping 10 1000
    ≡ says (Exited 4) [] (counted (to_i ∷ to_s ∷ to_i ∷ to_i ∷ to_s ∷ to_i ∷ gone)) 7
unfolding words
looping_runs = refl

-- the same with exactly the ticks that it takes, and with one less
looping_exactly : runs looping 7 1000
    ≡ says (Exited 4) [] (counted (to_i ∷ to_s ∷ to_i ∷ to_i ∷ to_s ∷ to_i ∷ gone)) 7
unfolding words
looping_exactly = refl

looping_short : runs looping 6 1000
    ≡ says OutOfTicks [] (counted (to_i ∷ to_s ∷ to_i ∷ to_i ∷ to_s ∷ [])) 6
unfolding words
looping_short = refl

-- while(i<2)i=i+1;: three tests
test_ticks : runs (counting (does (unit.While (below 2) (raise i (num 1))))) 10 1000
    ≡ says (Exited 0) [] (counted (to_i ∷ to_i ∷ gone)) 6
unfolding words
test_ticks = refl

-- for(;i<3;i=i+1){if(i==1)continue;s=s+1;}: `continue` goes on with the step
for_continues : runs (counting (does (unit.For (below 3) (discard (set 50 i (add 51 (get i) (num 1))))
    (block [] (if_then (equals 1) (does unit.Continue) ∷ raise s (num 1) ∷ []))))) 10 1000
    ≡ says (Exited 2) [] (counted (to_s ∷ to_i ∷ to_i ∷ to_s ∷ to_i ∷ gone)) 7
unfolding words
for_continues = refl

-- for(;;i=i+1){if(i==1)break;}: `break` goes on behind it, without the step
for_breaks : runs (counting (does (unit.For (num 1) (discard (set 50 i (add 51 (get i) (num 1))))
    (block [] (if_then (equals 1) (does unit.Break) ∷ []))))) 10 1000
    ≡ says (Exited 0) [] (counted (to_i ∷ gone)) 5
unfolding words
for_breaks = refl

-- do{i=i+1;if(i==1)continue;s=s+i;}while(i<3);: a tick for each turn, none for the test; `continue` goes on with it
do_turns : runs (counting (does (unit.Do (block [] (raise i (num 1) ∷ if_then (equals 1) (does unit.Continue)
    ∷ raise s (get i) ∷ [])) (below 3)))) 10 1000
    ≡ says (Exited 5) [] (counted (to_i ∷ to_i ∷ to_s ∷ to_i ∷ to_s ∷ gone)) 6
unfolding words
do_turns = refl

-- do break;while(1);
do_breaks : runs (counting (does (unit.Do (does unit.Break) (num 1)))) 10 1000
    ≡ says (Exited 0) [] (counted gone) 4
unfolding words
do_breaks = refl

-- while(1){int x=1;{int y=2;break;}}: the objects of the blocks that are left die, the innermost first
break_leaves : runs (counting (does (unit.While (num 1) (block (slot int 2 ∷ [])
    (init 2 (num 1) ∷ block (slot int 3 ∷ []) (init 3 (num 2) ∷ does unit.Break ∷ []) ∷ []))))) 10 1000
    ≡ says (Exited 0) []
    (counted (made 8 4 ∷ stored 8 0 4 ∷ made 10 4 ∷ stored 10 0 4 ∷ Died 10 ∷ Died 8 ∷ gone)) 6
unfolding words
break_leaves = refl

-- {int x=1;return x+1;}: so they do on a return
return_leaves : runs (counting (block (slot int 2 ∷ []) (init 2 (num 1)
    ∷ return (add 60 (get (local 59 int 2)) (num 1)) ∷ []))) 10 1000
    ≡ says (Exited 2) [] (counted (made 8 4 ∷ stored 8 0 4 ∷ Died 8 ∷ gone)) 4
unfolding words
return_leaves = refl

-- if(i)s=s+1;else s=s+2;
branches : runs (counting (does (unit.If (get i) (raise s (num 1)) (raise s (num 2))))) 10 1000
    ≡ says (Exited 2) [] (counted (to_s ∷ gone)) 3
unfolding words
branches = refl

-- i; loads i, and so may stop; (void)0; does nothing
useless : runs (unit_of (main (slot int 0 ∷ []) (eval (num 0) ∷ eval (get (local 30 int 0)) ∷ return (num 0) ∷ [])
    ∷ []) [])
    10 1000 ≡ says (Undefined U05 (at 30)) [] (made 4 4 ∷ undefined U05 30 ∷ []) 2
unfolding words
useless = refl

-- ---- switch(V){case 1:s=s+1;case 2:s=s+10;case 3:s=s+100;break;default:s=5;}

abbrev switching : ℤ → Option ℕ → Program
switching value default = counting (does (unit.Switch (At int (at 30) (tree.Number k.I32 value)) []
    (statements (raise s (num 1) ∷ raise s (num 10) ∷ raise s (num 100) ∷ does unit.Break ∷ eval (set 60 s (num 5))
    ∷ []))
    (case (pos 1) 0 ∷ case (pos 2) 1 ∷ case (pos 3) 2 ∷ []) default))

falls_through : runs (switching (pos 2) (Some 4)) 10 1000
    ≡ says (Exited 110) [] (counted (to_s ∷ to_s ∷ gone)) 3
unfolding words
falls_through = refl

takes_default : runs (switching (negsuc 0) (Some 4)) 10 1000
    ≡ says (Exited 5) [] (counted (to_s ∷ gone)) 3
unfolding words
takes_default = refl

-- without a default
fits_none : runs (switching (pos 4) None) 10 1000 ≡ says (Exited 0) [] (counted gone) 3
unfolding words
fits_none = refl

-- switch(V){const int y=3;case 1:*(int*)&y=4;s=y;}
abbrev jumping : ℕ → Program
jumping value = counting (does (unit.Switch (num value) (slot int 2 ∷ [])
    (statements (init 2 (num 3) ∷ does (unit.SealBytes 2 0 4)
    ∷ eval (set 60 (deref 52 (retype (to int) (address 58 (local 59 int 2)))) (num 4))
    ∷ eval (set 65 s (get (local 66 int 2))) ∷ []))
    (case (pos 1) 2 ∷ []) None))

-- the block is entered behind the declaration, whose initializer and mark are passed over
jumps_over : runs (jumping 1) 10 1000
    ≡ says (Exited 4) [] (counted (made 8 4 ∷ stored 8 0 4 ∷ to_s ∷ Died 8 ∷ gone)) 4
unfolding words
jumps_over = refl

-- no case fits: the block is not entered, and its object is not made
enters_nothing : runs (jumping 2) 10 1000 ≡ says (Exited 0) [] (counted gone) 3
unfolding words
enters_nothing = refl

-- while(i<2){i=i+1;switch(i){case 1:continue;}s=s+i;}: `continue` leaves the switch and goes on with the loop
continues_loop : runs (counting (does (unit.While (below 2) (block [] (raise i (num 1)
    ∷ does (unit.Switch (get i) [] (statements (does unit.Continue ∷ [])) (case (pos 1) 0 ∷ []) None)
    ∷ raise s (get i) ∷ []))))) 10 1000
    ≡ says (Exited 2) [] (counted (to_i ∷ to_i ∷ to_s ∷ gone)) 6
unfolding words
continues_loop = refl
