-- What is stored as one, and how numbers and pointers are asked for.
use Rattle.std.specs.Prelude.{ℕ, ◌+◌, ◌==◌, nat_lt, not, ◌&&◌, Bool, true, false, ℤ, pos}
use Rattle.acc_num.specs.Kinds.{bytes_of}
use Rattle.critical_table.specs.declared.code.Code.TheVariants.{U10}
use Rattle.critical_table.specs.declared.pos.Pos.{Pos}
use Rattle.object_store.specs.declared.by.By.TheVariants.{Store}
use Rattle.object_store.specs.declared.pointer.Pointer.{Pointer}
use Rattle.object_store.specs.Steps.{bytes_at}
use Rattle.lib_defs.specs.declared.value.Value.{Value}
use Rattle.lib_defs.specs.declared.value.Value.TheVariants.{Num, Ptr}
use Rattle.lib_defs.specs.Reply.{null}
use Rattle.run_defs.specs.declared.attempt.Attempt.{Attempt}
use Rattle.run_defs.specs.State.{State, patched}
use Rattle.run_defs.specs.Evaluation.{Evaluation, Gives, bind, undefined, reached}
use Rattle.run_defs.specs.Loads.{pointer_size, pointer_align, read_attempt, number_loaded, pointer_loaded}
use Rattle.run_defs.specs.Loads.{number_stored, pointer_stored}
use Rattle.c_core.specs.declared.form.Scalar.{Scalar}
use Rattle.c_core.specs.declared.form.Scalar.TheVariants as scalar
use Rattle.c_core.specs.declared.form.Content.{Content}
use Rattle.c_core.specs.declared.form.Content.TheVariants as content

-- A value as what it is asked for; in a well-typed tree it is that.
abbrev pub number_in : Value → ℤ
number_in (Num n) = n
number_in _ = pos 0

abbrev pub pointer_in : Value → Pointer
pointer_in (Ptr p) = p
pointer_in _ = null

-- the value of the scalar object at a place (6.3.2.1p2)
abbrev pub loaded : Scalar → Pointer → Pos → State → Evaluation Value
loaded (scalar.Number kind) place here s = bind (number_loaded kind place here s) (λ n s1. Gives (Num n) s1)
loaded scalar.Pointer place here s = bind (pointer_loaded place here s) (λ p s1. Gives (Ptr p) s1)

-- an access that stores a scalar
abbrev pub scalar_attempt : Scalar → Pointer → Attempt
scalar_attempt (scalar.Number kind) place =
    record { place = place; len = bytes_of kind; align = bytes_of kind; by = Store }
scalar_attempt scalar.Pointer place = record { place = place; len = pointer_size; align = pointer_align; by = Store }

-- a scalar goes to a place (6.5.16.1p2)
abbrev pub scalar_stored : Scalar → Pointer → Value → Pos → State → Evaluation (Unit {0})
scalar_stored (scalar.Number kind) place v here s = number_stored kind place (number_in v) here s
scalar_stored scalar.Pointer place v here s = pointer_stored place (pointer_in v) here s

-- the objects at two places share a byte, and are not the same one
abbrev pub overlap_partly : ℕ → Pointer → Pointer → Bool
overlap_partly size p q =
    (p.object == q.object) && (not (p.offset == q.offset)
    && (nat_lt p.offset (q.offset + size) && nat_lt q.offset (p.offset + size)))

abbrev pub apart_if : Bool → Pos → State → Evaluation (Unit {0})
apart_if false here s = Gives tt s
apart_if true here s = undefined U10 here s

-- A structure is copied, with bytes that are indeterminate. The destination is reached to store, an overlap that is not
-- exact is undefined (6.5.16.1p3), and the source is reached.
abbrev pub copied : ℕ → (to from : Pointer) → Pos → State → Evaluation (Unit {0})
copied size to from here s =
    bind (reached (record { place = to; len = size; align = 1; by = Store }) here s) (λ u s1.
    bind (apart_if (overlap_partly size to from) here s1) (λ v s2.
    bind (reached (read_attempt from size 1) here s2) (λ w s3.
    Gives tt (patched (record { place = to; bytes = bytes_at s3.world.store from size }) s3))))

-- a scalar, or the structure at a place, is stored
abbrev pub content_stored : Content → Pointer → Value → Pos → State → Evaluation (Unit {0})
content_stored (content.Scalar scalar) place v here s = scalar_stored scalar place v here s
content_stored (content.Whole size) place v here s = copied size place (pointer_in v) here s
