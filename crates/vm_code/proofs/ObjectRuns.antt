-- Runs of codes over objects and pointers.
use Rattle.std.proofs.Common.{◌≡◌, ℕ, [], ◌∷◌, true, false, refl}
use Rattle.std.specs.Prelude.{◌++◌, pos, codes}
use Rattle.acc_num.specs.Numbers.{value_of}
use Rattle.acc_num.specs.Operations.{converted_to}
use Rattle.acc_num.specs.declared.kind.IntKind.TheVariants as k
use Rattle.critical_table.specs.declared.case.Case.TheVariants.{L4, L7, L8}
use Rattle.critical_table.specs.declared.code.Code.TheVariants.{U05, U06, U07, U08, U10}
use Rattle.object_store.specs.declared.by.By.TheVariants.{Star, Arrow, Store}
use Rattle.object_store.specs.declared.mark.Mark.TheVariants.{Const}
use Rattle.object_store.specs.Load.{integer_bytes, pointer_bytes, load_integer, load_pointer}
use Rattle.object_store.specs.Messages.{message_bytes}
use Rattle.object_store.specs.Reach.{reach_table}
use Rattle.object_store.specs.Storage.{live_bytes}
use Rattle.lib_defs.specs.Reply.{null}
use Rattle.run_defs.specs.declared.event.Event.TheVariants as e
use Rattle.run_defs.specs.declared.outcome.Outcome.TheVariants as o
use Rattle.c_core.specs.declared.form.Scalar.TheVariants as scalar
use Rattle.c_core.specs.declared.operator.Operator.TheVariants as op
use Rattle.c_core.specs.declared.operator.Relation.TheVariants.{Less, Greater}
use Rattle.c_core.specs.Operations.{operator_outcome}
use Rattle.vm_code.specs.declared.instr.Instr.{Instr}
use Rattle.vm_code.specs.declared.instr.Instr.TheVariants as i
use Rattle.vm_code.specs.Contents.{Contents}
use Rattle.vm_code.specs.Frames.{Stuck}
use Rattle.vm_code.proofs.RunWords.{here, int, load_int, store_int, with, object, alone, seen_of, place_of_run, ends}
use Rattle.vm_code.proofs.RunWords.{wrote, made, died}

-- a byte
abbrev byte : ℕ → Instr
byte n = i.Number k.U8 (pos n)

abbrev load_byte : Instr
load_byte = i.Load (scalar.Number k.U8)

abbrev store_byte : Instr
store_byte = i.Store (scalar.Number k.U8)

abbrev forwards : ℕ → Instr
forwards size = i.Step (record { size = size; back = false })

abbrev back : ℕ → Instr
back size = i.Step (record { size = size; back = true })

-- ---- objects

-- {int x; x = 3; return x;}
stores_and_loads : seen_of (alone (i.Make 0 4 ∷ i.Slot 0 ∷ int 3 ∷ store_int ∷ i.Drop ∷ i.Slot 0 ∷ load_int ∷ i.Kill 0
    ∷ i.Give ∷ [])) ≡ ends (o.Exited 3) (made 4 4 ∷ wrote 4 0 4 ∷ died 4 ∷ []) 8 9
unfolding message_bytes live_bytes reach_table integer_bytes load_integer
stores_and_loads = refl

-- what the frame holds dies at the return, the last made first
dies_at_return : seen_of (alone (i.Make 0 4 ∷ i.Make 1 1 ∷ int 0 ∷ i.Give ∷ []))
    ≡ ends (o.Exited 0) (made 4 4 ∷ made 6 1 ∷ died 6 ∷ died 4 ∷ []) 7 4
unfolding message_bytes live_bytes
dies_at_return = refl

-- a slot that holds nothing is left
kills_nothing : seen_of (alone (i.Kill 0 ∷ i.Make 0 4 ∷ i.Kill 0 ∷ i.Kill 0 ∷ int 0 ∷ i.Give ∷ []))
    ≡ ends (o.Exited 0) (made 4 4 ∷ died 4 ∷ []) 8 6
unfolding message_bytes live_bytes
kills_nothing = refl

killed_is_gone : place_of_run (alone (i.Make 0 4 ∷ i.Kill 0 ∷ i.Slot 0 ∷ [])) ≡ Stuck
unfolding message_bytes live_bytes
killed_is_gone = refl

-- of two objects in a slot the last made is meant
means_last_made : seen_of (alone (i.Make 0 4 ∷ i.Make 0 2 ∷ i.Kill 0 ∷ int 0 ∷ i.Give ∷ []))
    ≡ ends (o.Exited 0) (made 4 4 ∷ made 6 2 ∷ died 6 ∷ died 4 ∷ []) 7 5
unfolding message_bytes live_bytes
means_last_made = refl

-- {int x; return x;}
loads_indeterminate : seen_of (alone (i.Make 0 4 ∷ i.Slot 0 ∷ load_int ∷ i.Give ∷ []))
    ≡ ends (o.Undefined U05 (here 2)) (made 4 4 ∷ e.Stopped U05 (here 2) ∷ []) 8 3
unfolding message_bytes live_bytes reach_table load_integer
loads_indeterminate = refl

-- {const char a[4] = "ab"; *(char *)a = 7;} with the mark on its first two bytes
abbrev marked : ℕ → Contents
marked offset = record (alone (i.Make 0 4 ∷ i.Slot 0 ∷ i.Zero 4 ∷ i.Slot 0 ∷ i.Pool 0 ∷ i.Seal 0 0 2 ∷ i.Slot 0
    ∷ i.Member offset ∷ byte 7 ∷ store_byte ∷ i.Convert k.I32 ∷ i.Give ∷ [])) { texts = (codes "ab" ++ 0 ∷ []) ∷ [] }

stores_to_const : seen_of (marked 1) ≡ ends (o.Trapped L8 (here 9)) (made 4 4 ∷ wrote 4 0 4 ∷ wrote 4 0 3
    ∷ e.Sealed 4 (record { at = 0; len = 2; mark = Const }) ∷ e.ReachFailed L8 (here 9)
    (record { place = record (object 4 4) { offset = 1 }; len = 1; align = 1; by = Store }) ∷ []) 8 10
unfolding message_bytes live_bytes reach_table integer_bytes
stores_to_const = refl

stores_behind_const : seen_of (marked 2) ≡ ends (o.Exited 7) (made 4 4 ∷ wrote 4 0 4 ∷ wrote 4 0 3
    ∷ e.Sealed 4 (record { at = 0; len = 2; mark = Const }) ∷ wrote 4 2 1 ∷ died 4 ∷ []) 8 12
unfolding message_bytes live_bytes reach_table integer_bytes converted_to
stores_behind_const = refl

seals_beyond : place_of_run (alone (i.Make 0 4 ∷ i.Seal 0 3 2 ∷ [])) ≡ Stuck
unfolding message_bytes live_bytes
seals_beyond = refl

-- a structure of two bytes is copied, and the place that it goes to stays
copies : seen_of (alone (i.Make 0 2 ∷ i.Make 1 2 ∷ i.Slot 0 ∷ i.Zero 2 ∷ i.Slot 1 ∷ i.Slot 0 ∷ i.Copy 2 ∷ load_byte
    ∷ i.Give ∷ [])) ≡ ends (o.Exited 0) (made 4 2 ∷ made 6 2 ∷ wrote 4 0 2 ∷ wrote 6 0 2 ∷ died 6 ∷ died 4 ∷ []) 7 9
unfolding message_bytes live_bytes reach_table load_integer
copies = refl

overlaps : seen_of (alone (i.Make 0 4 ∷ i.Slot 0 ∷ i.Zero 4 ∷ i.Slot 0 ∷ i.Member 1 ∷ i.Slot 0 ∷ i.Copy 2 ∷ i.Give
    ∷ [])) ≡ ends (o.Undefined U10 (here 6)) (made 4 4 ∷ wrote 4 0 4 ∷ e.Stopped U10 (here 6) ∷ []) 8 7
unfolding message_bytes live_bytes reach_table
overlaps = refl

-- ---- pointers

-- {int a[2]; return &a[1] - a;}
counts_elements : seen_of (alone (i.Make 0 8 ∷ i.Slot 0 ∷ int 1 ∷ forwards 4 ∷ i.Slot 0 ∷ i.Difference 4
    ∷ i.Convert k.I32 ∷ i.Give ∷ [])) ≡ ends (o.Exited 1) (made 4 8 ∷ died 4 ∷ []) 8 8
unfolding message_bytes live_bytes converted_to
counts_elements = refl

-- one past the end may be pointed to, no further, and nothing before the object
moves_to_end : seen_of (alone (i.Make 0 8 ∷ i.Slot 0 ∷ int 2 ∷ forwards 4 ∷ i.IsNull ∷ i.Give ∷ []))
    ≡ ends (o.Exited 0) (made 4 8 ∷ died 4 ∷ []) 8 6
unfolding message_bytes live_bytes
moves_to_end = refl

moves_beyond : seen_of (alone (i.Make 0 8 ∷ i.Slot 0 ∷ int 3 ∷ forwards 4 ∷ i.IsNull ∷ i.Give ∷ []))
    ≡ ends (o.Undefined U06 (here 3)) (made 4 8 ∷ e.Stopped U06 (here 3) ∷ []) 8 4
unfolding message_bytes live_bytes
moves_beyond = refl

moves_before : seen_of (alone (i.Make 0 8 ∷ i.Slot 0 ∷ int 1 ∷ back 4 ∷ i.IsNull ∷ i.Give ∷ []))
    ≡ ends (o.Undefined U06 (here 3)) (made 4 8 ∷ e.Stopped U06 (here 3) ∷ []) 8 4
unfolding message_bytes live_bytes
moves_before = refl

-- a member array of four bytes behind the first four has its own bounds
bounds_member : seen_of (alone (i.Make 0 8 ∷ i.Slot 0 ∷ i.Member 4 ∷ i.Narrow 4 ∷ int 1 ∷ back 4 ∷ i.IsNull ∷ i.Give
    ∷ [])) ≡ ends (o.Undefined U06 (here 5)) (made 4 8 ∷ e.Stopped U06 (here 5) ∷ []) 8 6
unfolding message_bytes live_bytes
bounds_member = refl

-- (&a[4] > a) + (a == 0) + (a == a)
compares_pointers : seen_of (alone (i.Make 0 8 ∷ i.Slot 0 ∷ i.Member 4 ∷ i.Slot 0 ∷ i.Order Greater ∷ i.Slot 0
    ∷ i.IsNull ∷ with op.Add ∷ i.Slot 0 ∷ i.Slot 0 ∷ i.Same ∷ with op.Add ∷ i.Give ∷ []))
    ≡ ends (o.Exited 2) (made 4 8 ∷ died 4 ∷ []) 8 13
unfolding message_bytes live_bytes operator_outcome value_of
compares_pointers = refl

orders_unrelated : seen_of (alone (i.Make 0 1 ∷ i.Slot 0 ∷ i.Pointer null ∷ i.Order Less ∷ i.Give ∷ []))
    ≡ ends (o.Undefined U08 (here 3)) (made 4 1 ∷ e.Stopped U08 (here 3) ∷ []) 8 4
unfolding message_bytes live_bytes
orders_unrelated = refl

subtracts_unrelated : seen_of (alone (i.Make 0 1 ∷ i.Slot 0 ∷ i.Pointer null ∷ i.Difference 1 ∷ i.Give ∷ []))
    ≡ ends (o.Undefined U07 (here 3)) (made 4 1 ∷ e.Stopped U07 (here 3) ∷ []) 8 4
unfolding message_bytes live_bytes
subtracts_unrelated = refl

-- {int a[1]; a[1];}
reaches_end : seen_of (alone (i.Make 0 4 ∷ i.Slot 0 ∷ int 1 ∷ forwards 4 ∷ i.Reach 4 4 Star ∷ load_int ∷ i.Give ∷ []))
    ≡ ends (o.Trapped L7 (here 4)) (made 4 4 ∷ e.ReachFailed L7 (here 4)
    (record { place = record (object 4 4) { offset = 4 }; len = 4; align = 4; by = Star }) ∷ []) 8 5
unfolding message_bytes live_bytes reach_table
reaches_end = refl

-- {struct s *p = 0; p->m;}
reaches_null : seen_of (alone (i.Pointer null ∷ i.Reach 4 4 Arrow ∷ load_int ∷ i.Give ∷ []))
    ≡ ends (o.Trapped L4 (here 1))
    (e.ReachFailed L4 (here 1) (record { place = null; len = 4; align = 4; by = Arrow }) ∷ []) 9 2
unfolding message_bytes live_bytes reach_table
reaches_null = refl

-- {void *p; p = &p; return p == 0;}
stores_pointer : seen_of (alone (i.Make 0 16 ∷ i.Slot 0 ∷ i.Slot 0 ∷ i.Store scalar.Pointer ∷ i.Drop ∷ i.Slot 0
    ∷ i.Load scalar.Pointer ∷ i.IsNull ∷ i.Give ∷ [])) ≡ ends (o.Exited 0) (made 4 16 ∷ wrote 4 0 16 ∷ died 4 ∷ []) 8 9
unfolding message_bytes live_bytes reach_table pointer_bytes load_pointer
stores_pointer = refl
