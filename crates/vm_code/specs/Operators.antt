-- What operators make of values in a state (6.5.3.3, 6.5.5 to 6.5.12), and assignment (6.5.16).
use Rattle.std.specs.Prelude.{ℤ, Bool, not, Result, Ok, Err}
use Rattle.acc_num.specs.declared.fault.NumFault.{NumFault}
use Rattle.acc_num.specs.declared.fault.NumFault.TheVariants.{Overflow, ZeroDivisor, Shift}
use Rattle.acc_num.specs.Operations.{is_zero}
use Rattle.critical_table.specs.declared.code.Code.{Code}
use Rattle.critical_table.specs.declared.code.Code.TheVariants.{U01, U02, U03}
use Rattle.critical_table.specs.declared.pos.Pos.{Pos}
use Rattle.object_store.specs.declared.pointer.Pointer.{Pointer}
use Rattle.lib_defs.specs.declared.value.Value.{Value}
use Rattle.lib_defs.specs.declared.value.Value.TheVariants.{Num, Ptr}
use Rattle.run_defs.specs.State.{State}
use Rattle.run_defs.specs.Evaluation.{Evaluation, Gives, bind, undefined}
use Rattle.c_core.specs.declared.form.Scalar.{Scalar}
use Rattle.c_core.specs.Operations.{truth}
use Rattle.vm_code.specs.Accesses.{number_in, scalar_stored}

-- which undefined operation a fault of arithmetic is (6.5p5, 6.5.5p5, 6.5.7p3, p4)
abbrev pub code_of : NumFault → Code
code_of Overflow = U01
code_of ZeroDivisor = U02
code_of Shift = U03

abbrev pub computed : Result ℤ NumFault → Pos → State → Evaluation Value
computed (Ok n) here s = Gives (Num n) s
computed (Err fault) here s = undefined (code_of fault) here s

-- a truth value, as an `int`
abbrev pub told : Bool → Value
told b = Num (truth b)

abbrev pub told_if_found : Result Bool Code → Pos → State → Evaluation Value
told_if_found (Ok b) here s = Gives (told b) s
told_if_found (Err code) here s = undefined code here s

-- a number as a truth value: whether it is not 0 (6.5.13p3, 6.8.4.1p2)
abbrev pub is_true : Value → Bool
is_true v = not (is_zero (number_in v))

-- a pointer that has moved
abbrev pub pointer_moved : Result Pointer Code → Pos → State → Evaluation Value
pointer_moved (Ok p) here s = Gives (Ptr p) s
pointer_moved (Err code) here s = undefined code here s

-- a scalar is assigned; the value of the assignment is the one that is stored (6.5.16p3)
abbrev pub assigned : Scalar → Pointer → Value → Pos → State → Evaluation Value
assigned scalar place v here s = bind (scalar_stored scalar place v here s) (λ u s1. Gives v s1)
