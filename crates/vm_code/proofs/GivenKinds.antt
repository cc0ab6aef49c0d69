-- The kinds of what evaluations give.
use Rattle.std.proofs.Common.{Bool, ℤ}
use Rattle.std.proofs.Common.{Result, Ok, Err}
use Rattle.acc_num.specs.declared.fault.NumFault.{NumFault}
use Rattle.acc_num.specs.declared.kind.IntKind.{IntKind}
use Rattle.acc_num.specs.declared.kind.IntKind.TheVariants.{I32}
use Rattle.critical_table.specs.declared.code.Code.{Code}
use Rattle.critical_table.specs.declared.pos.Pos.{Pos}
use Rattle.object_store.specs.declared.pointer.Pointer.{Pointer}
use Rattle.lib_defs.specs.declared.value.Value.{Value}
use Rattle.lib_defs.specs.declared.value.Value.TheVariants.{Num, Ptr}
use Rattle.run_defs.specs.State.{State}
use Rattle.run_defs.specs.Evaluation.{Evaluation, Gives, Stops, bind}
use Rattle.run_defs.specs.Loads.{number_loaded, pointer_loaded}
use Rattle.c_core.specs.declared.form.Scalar.{Scalar}
use Rattle.c_core.specs.declared.form.Scalar.TheVariants as scalar
use Rattle.vm_code.specs.Accesses.{loaded}
use Rattle.vm_code.specs.Operators.{computed, told_if_found, pointer_moved}
use Rattle.vm_code.specs.Machine.{next}
use Rattle.vm_code.specs.Progress.{IsOfKind}

abbrev pub GivesOnly : (Value → Type 0) → Evaluation Value → Type 0
GivesOnly P (Gives v s) = P v
GivesOnly P (Stops outcome s) = Unit {0}

pub only_bind : {A : Type 0} (P : Value → Type 0) (x : Evaluation A) (next : A → State → Evaluation Value)
    → ((v : A) (s : State) → GivesOnly P (next v s)) → GivesOnly P (bind x next)
only_bind P (Gives v s) next all = all v s
only_bind P (Stops outcome s) next all = tt

pub only_computed : (kind : IntKind) (r : Result ℤ NumFault) (pos : Pos) (s : State)
    → GivesOnly (IsOfKind (scalar.Number kind)) (computed r pos s)
only_computed kind (Ok n) pos s = tt
only_computed kind (Err fault) pos s = tt

pub only_told : (r : Result Bool Code) (pos : Pos) (s : State)
    → GivesOnly (IsOfKind (scalar.Number I32)) (told_if_found r pos s)
only_told (Ok b) pos s = tt
only_told (Err code) pos s = tt

pub only_moved : (r : Result Pointer Code) (pos : Pos) (s : State) → GivesOnly (IsOfKind scalar.Pointer)
    (pointer_moved r pos s)
only_moved (Ok p) pos s = tt
only_moved (Err code) pos s = tt

pub only_loaded : (kind : Scalar) (p : Pointer) (pos : Pos) (s : State)
    → GivesOnly (IsOfKind kind) (loaded kind p pos s)
only_loaded (scalar.Number kind) p pos s =
    only_bind (IsOfKind (scalar.Number kind)) (number_loaded kind p pos s) (λ n s1. Gives (Num n) s1) (λ n s1. tt)
only_loaded scalar.Pointer p pos s =
    only_bind (IsOfKind scalar.Pointer) (pointer_loaded p pos s) (λ q s1. Gives (Ptr q) s1) (λ q s1. tt)
