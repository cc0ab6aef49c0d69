-- What a pointer designates (6.5.3.2), and how a scalar object is changed: compound assignment and steps (6.5.2.4,
-- 6.5.3.1, 6.5.16.2).
use Rattle.std.specs.Prelude.{ℕ, ℤ}
use Rattle.acc_num.specs.Operations.{converted_to}
use Rattle.critical_table.specs.declared.pos.Pos.{Pos}
use Rattle.object_store.specs.declared.by.By as reach
use Rattle.object_store.specs.declared.by.By.TheVariants as reaches
use Rattle.object_store.specs.declared.pointer.Pointer.{Pointer}
use Rattle.lib_defs.specs.declared.value.Value.{Value}
use Rattle.lib_defs.specs.declared.value.Value.TheVariants.{Num, Ptr}
use Rattle.run_defs.specs.State.{State}
use Rattle.run_defs.specs.Evaluation.{Evaluation, Gives, bind, reached}
use Rattle.c_core.specs.declared.form.Scalar.{Scalar}
use Rattle.c_core.specs.declared.form.Scalar.TheVariants as scalar
use Rattle.c_core.specs.declared.operator.By.{By}
use Rattle.c_core.specs.declared.operator.By.TheVariants as by
use Rattle.c_core.specs.declared.operator.Change.{Change}
use Rattle.c_core.specs.declared.operator.Change.TheVariants as change
use Rattle.c_core.specs.Operations.{operator_outcome}
use Rattle.vm_code.specs.Accesses.{number_in, pointer_in, loaded, scalar_attempt, scalar_stored}
use Rattle.vm_code.specs.Pointers.{moved}
use Rattle.vm_code.specs.Operators.{computed, pointer_moved}

abbrev pub kind_of_reach : By → reach.By
kind_of_reach by.Star = reaches.Star
kind_of_reach by.Arrow = reaches.Arrow

-- What a pointer designates, the object of its type: this whole object is reached (6.5.3.2p4, 6.5.2.1p2, 6.5.2.3p4).
abbrev pub designated : By → (size align : ℕ) → Pointer → Pos → State → Evaluation Value
designated by size align p here s =
    bind (reached (record { place = p; len = size; align = align; by = kind_of_reach by }) here s)
    (λ u s1. Gives (Ptr p) s1)

-- what the object that is changed holds
abbrev pub changed_scalar : Change → Scalar
changed_scalar (change.Number operator held at) = scalar.Number held
changed_scalar (change.Pointer stride) = scalar.Pointer

-- The new content. A number is converted to the kind in which the operator works, and the result back (6.5.16.2p3).
abbrev pub new_content : Change → (old : Value) → (number : ℤ) → Pos → State → Evaluation Value
new_content (change.Number operator held at) old number here s =
    bind (computed (operator_outcome operator at (converted_to at (number_in old)) number) here s)
    (λ v s1. Gives (Num (converted_to held (number_in v))) s1)
new_content (change.Pointer stride) old number here s = pointer_moved (moved stride (pointer_in old) number) here s

-- the content before and after
pub record Contents : Type 0 where
  pub old : Value
  pub new : Value

-- The object is reached to store; then its content is loaded, changed and stored.
abbrev pub updated : Change → Pointer → ℤ → Pos → State → Evaluation Contents
updated change place number here s =
    bind (reached (scalar_attempt (changed_scalar change) place) here s) (λ u s1.
    bind (loaded (changed_scalar change) place here s1) (λ old s2.
    bind (new_content change old number here s2) (λ new s3.
    bind (scalar_stored (changed_scalar change) place new here s3) (λ v s4.
    Gives (record { old = old; new = new }) s4))))
