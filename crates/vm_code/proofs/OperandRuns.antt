-- Runs of codes over operands alone, and where a run is stuck.
use Rattle.std.proofs.Common.{◌≡◌, ℕ, [], ◌∷◌, refl}
use Rattle.std.specs.Prelude.{negsuc, pos}
use Rattle.acc_num.specs.Numbers.{value_of}
use Rattle.acc_num.specs.Operations.{converted_to, power_of_two}
use Rattle.acc_num.specs.declared.kind.IntKind.TheVariants as k
use Rattle.critical_table.specs.declared.code.Code.TheVariants.{U01, U02, U03}
use Rattle.object_store.specs.Messages.{message_bytes}
use Rattle.object_store.specs.Storage.{live_bytes}
use Rattle.run_defs.specs.declared.event.Event.TheVariants as e
use Rattle.run_defs.specs.declared.outcome.Outcome.TheVariants as o
use Rattle.c_core.specs.declared.operator.Comparison.TheVariants.{Equal, Less}
use Rattle.c_core.specs.declared.operator.Operator.TheVariants as op
use Rattle.c_core.specs.Operations.{operator_outcome, negation, complement}
use Rattle.vm_code.specs.declared.instr.Instr.TheVariants as i
use Rattle.vm_code.specs.Contents.{Contents}
use Rattle.vm_code.specs.Frames.{Stuck}
use Rattle.vm_code.proofs.RunWords.{here, int, with, load_int, alone, seen, seen_of, place_of_run, budgets, no_input}
use Rattle.vm_code.proofs.RunWords.{ends}
use Rattle.lib_defs.specs.Sample.{sample}

-- int main(void){return 0;}
abbrev zero_code : Contents
zero_code = alone (int 0 ∷ i.Give ∷ [])

returns_zero : seen_of zero_code ≡ ends (o.Exited 0) [] 9 2
unfolding message_bytes live_bytes
returns_zero = refl

-- the status is taken modulo 256; without a value it is 0
returns_minus_one : seen_of (alone (i.Number k.I32 (negsuc 0) ∷ i.Give ∷ [])) ≡ ends (o.Exited 255) [] 9 2
unfolding message_bytes live_bytes
returns_minus_one = refl

leaves_main : seen_of (alone (i.Leave ∷ [])) ≡ ends (o.Exited 0) [] 9 1
unfolding message_bytes live_bytes
leaves_main = refl

-- the tick and the 256 bytes of the call of main, and one less
no_tick : seen sample zero_code (budgets 0 255) no_input 60 ≡ ends o.OutOfTicks [] 0 0
unfolding message_bytes live_bytes
no_tick = refl

last_byte : seen sample zero_code (budgets 1 256) no_input 60 ≡ ends (o.Exited 0) [] 0 2
unfolding message_bytes live_bytes
last_byte = refl

no_byte : seen sample zero_code (budgets 1 255) no_input 60 ≡ ends o.OutOfBytes [] 0 0
unfolding message_bytes live_bytes
no_byte = refl

-- 5 3, 5 3 5, 5 5 3, 5 2, 5 2 2, 5 4, 1, 1 9, 1
moves_operands : seen_of (alone (int 5 ∷ int 3 ∷ i.Over ∷ i.Swap ∷ with op.Subtract ∷ i.Duplicate ∷ with op.Multiply
    ∷ with op.Subtract ∷ int 9 ∷ i.Drop ∷ i.Give ∷ [])) ≡ ends (o.Exited 1) [] 9 11
unfolding message_bytes live_bytes operator_outcome value_of
moves_operands = refl

-- ((7 / 2 + 4) % 4) >> 1
divides : seen_of (alone (int 7 ∷ int 2 ∷ with op.Divide ∷ int 4 ∷ with op.Add ∷ int 4 ∷ with op.Remainder ∷ int 1
    ∷ with op.ShiftRight ∷ i.Give ∷ [])) ≡ ends (o.Exited 1) [] 9 10
unfolding message_bytes live_bytes operator_outcome value_of power_of_two
divides = refl

-- ~-((((1 << 4) | 5) ^ 4) & 19) is 16; !!(unsigned char)16 == 1
works_on_bits : seen_of (alone (int 1 ∷ int 4 ∷ with op.ShiftLeft ∷ int 5 ∷ with op.BitOr ∷ int 4 ∷ with op.BitXor
    ∷ int 19 ∷ with op.BitAnd ∷ i.Negate k.I32 ∷ i.Flip k.I32 ∷ i.Convert k.U8 ∷ i.Not ∷ i.Not ∷ int 1
    ∷ i.Compare Equal ∷ i.Give ∷ [])) ≡ ends (o.Exited 1) [] 9 17
unfolding message_bytes live_bytes operator_outcome negation complement value_of power_of_two converted_to
works_on_bits = refl

-- the left operand is the lower one
compares_in_order : seen_of (alone (int 1 ∷ int 2 ∷ i.Compare Less ∷ i.Give ∷ [])) ≡ ends (o.Exited 1) [] 9 4
unfolding message_bytes live_bytes
compares_in_order = refl

-- 2147483647 + 1, 1 / 0, 1 << 32
overflows : seen_of (alone (int 2147483647 ∷ int 1 ∷ with op.Add ∷ i.Give ∷ []))
    ≡ ends (o.Undefined U01 (here 2)) (e.Stopped U01 (here 2) ∷ []) 9 3
unfolding message_bytes live_bytes operator_outcome value_of
overflows = refl

divides_by_zero : seen_of (alone (int 1 ∷ int 0 ∷ with op.Divide ∷ i.Give ∷ []))
    ≡ ends (o.Undefined U02 (here 2)) (e.Stopped U02 (here 2) ∷ []) 9 3
unfolding message_bytes live_bytes operator_outcome value_of
divides_by_zero = refl

shifts_too_far : seen_of (alone (int 1 ∷ int 32 ∷ with op.ShiftLeft ∷ i.Give ∷ []))
    ≡ ends (o.Undefined U03 (here 2)) (e.Stopped U03 (here 2) ∷ []) 9 3
unfolding message_bytes live_bytes operator_outcome value_of power_of_two
shifts_too_far = refl

-- an instruction that is jumped over doesn't begin
jumps : seen_of (alone (i.Jump 2 ∷ int 1 ∷ int 7 ∷ i.Give ∷ [])) ≡ ends (o.Exited 7) [] 9 3
unfolding message_bytes live_bytes
jumps = refl

abbrev choice : ℕ → Contents
choice n = alone (int n ∷ i.IfZero 4 ∷ int 1 ∷ i.Give ∷ int 2 ∷ i.Give ∷ [])

jumps_at_zero : seen_of (choice 0) ≡ ends (o.Exited 2) [] 9 4
unfolding message_bytes live_bytes
jumps_at_zero = refl

goes_on_else : seen_of (choice 3) ≡ ends (o.Exited 1) [] 9 4
unfolding message_bytes live_bytes
goes_on_else = refl

-- the pairs behind `cases`, and the default, don't begin
abbrev switch : ℕ → Contents
switch n = alone (int n ∷ i.Cases 2 ∷ i.Pair (pos 1) 5 ∷ i.Pair (pos 2) 7 ∷ i.Default 9 ∷ int 10 ∷ i.Give ∷ int 20
    ∷ i.Give ∷ int 30 ∷ i.Give ∷ [])

first_case : seen_of (switch 1) ≡ ends (o.Exited 10) [] 9 4
unfolding message_bytes live_bytes
first_case = refl

second_case : seen_of (switch 2) ≡ ends (o.Exited 20) [] 9 4
unfolding message_bytes live_bytes
second_case = refl

other_case : seen_of (switch 3) ≡ ends (o.Exited 30) [] 9 4
unfolding message_bytes live_bytes
other_case = refl

-- while(1); the last instruction that begins is the tick that isn't there
turns : seen_of (alone (i.Tick ∷ i.Jump 0 ∷ [])) ≡ ends o.OutOfTicks [] 0 19
unfolding message_bytes live_bytes
turns = refl

-- ---- stuck: an operand that is missing, or is a number; a slot that holds nothing; a place that is no instruction

lacks_operand : place_of_run (alone (i.Drop ∷ [])) ≡ Stuck
unfolding message_bytes live_bytes
lacks_operand = refl

finds_number : place_of_run (alone (int 0 ∷ load_int ∷ [])) ≡ Stuck
unfolding message_bytes live_bytes
finds_number = refl

lacks_object : place_of_run (alone (i.Slot 0 ∷ [])) ≡ Stuck
unfolding message_bytes live_bytes
lacks_object = refl

begins_pair : place_of_run (alone (i.Pair (pos 0) 0 ∷ [])) ≡ Stuck
unfolding message_bytes live_bytes
begins_pair = refl

leaves_the_code : place_of_run (alone (i.Jump 7 ∷ [])) ≡ Stuck
unfolding message_bytes live_bytes
leaves_the_code = refl
