-- Loads and stores of numbers and pointers (6.2.6.1, 6.3.2.1p2): each reaches its range with the alignment of its type.
use Rattle.std.specs.Prelude.{ℕ, ℤ, List, map, Option, Some, Result, Ok, Err}
use Rattle.acc_num.specs.declared.kind.IntKind.{IntKind}
use Rattle.acc_num.specs.Kinds.{bytes_of}
use Rattle.critical_table.specs.declared.code.Code.{Code}
use Rattle.critical_table.specs.declared.pos.Pos.{Pos}
use Rattle.object_store.specs.declared.by.By.TheVariants.{Star}
use Rattle.object_store.specs.declared.pointer.Pointer.{Pointer}
use Rattle.object_store.specs.Steps.{bytes_at}
use Rattle.object_store.specs.Load.{integer_bytes, pointer_bytes, load_integer, load_pointer}
use Rattle.run_defs.specs.declared.attempt.Attempt.{Attempt}
use Rattle.run_defs.specs.State.{State}
use Rattle.run_defs.specs.Evaluation.{Evaluation, Gives, bind, undefined, reached, stored}

-- a pointer has 16 bytes, and is aligned to 8
abbrev pub pointer_size : ℕ
pointer_size = 16

abbrev pub pointer_align : ℕ
pointer_align = 8

abbrev pub read_attempt : Pointer → ℕ → ℕ → Attempt
read_attempt place size align = record { place = place; len = size; align = align; by = Star }

-- what a load finds, or the undefined operation that it is
abbrev pub found : {A : Type 0} → Result A Code → Pos → State → Evaluation A
found (Ok value) pos s = Gives value s
found (Err code) pos s = undefined code pos s

abbrev pub number_loaded : IntKind → Pointer → Pos → State → Evaluation ℤ
number_loaded kind place pos s = bind (reached (read_attempt place (bytes_of kind) (bytes_of kind)) pos s) (λ u s1.
    found (load_integer kind (bytes_at s1.world.store place (bytes_of kind))) pos s1)

abbrev pub pointer_loaded : Pointer → Pos → State → Evaluation Pointer
pointer_loaded place pos s = bind (reached (read_attempt place pointer_size pointer_align) pos s) (λ u s1.
    found (load_pointer (bytes_at s1.world.store place pointer_size)) pos s1)

abbrev pub known : List ℕ → List (Option ℕ)
known bytes = map (λ (b : ℕ). Some b) bytes

abbrev pub number_stored : IntKind → Pointer → ℤ → Pos → State → Evaluation (Unit {0})
number_stored kind place n = stored (bytes_of kind) (record { place = place; bytes = known (integer_bytes kind n) })

abbrev pub pointer_stored : Pointer → Pointer → Pos → State → Evaluation (Unit {0})
pointer_stored place p = stored pointer_align (record { place = place; bytes = known (pointer_bytes p) })
