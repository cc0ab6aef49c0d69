-- What is asked of code beside validity is met by the codes of the examples.
use Rattle.std.proofs.Common.{List, ap, refl, sym}
use Rattle.lib_defs.specs.declared.value.ArgKind.{ArgKind}
use Rattle.c_core.specs.declared.form.Form.{Form}
use Rattle.vm_code.specs.declared.instr.Instr.{Instr}
use Rattle.vm_code.specs.declared.parts.CodeFunction.{CodeFunction}
use Rattle.vm_code.specs.declared.parts.CodeCalled.{CodeCalled}
use Rattle.vm_code.specs.Progress.{HasRowTypes, HasMain}
use Rattle.vm_code.proofs.Fronts.{some_alone}
use Rattle.vm_code.proofs.RunWords.{main, unit, handlers, comparers, types_of}
use Rattle.std.proofs.Common.{ℕ, []}

module _ (own : List CodeFunction) (functions : List ℕ) (arguments : List Form) (kinds : List ArgKind) (gives : Form)
    (instrs : List Instr) where
  has_types : HasRowTypes (unit own (types_of functions arguments kinds gives) instrs)
  has_types = record {
    handlers = λ called is. ap (λ (c : CodeCalled). c.arguments) (sym (some_alone (handlers []) called is));
    comparing = λ called is. ap (λ (c : CodeCalled). c.arguments) (sym (some_alone (comparers []) called is));
  }

  has_main : HasMain (unit own (types_of functions arguments kinds gives) instrs)
  has_main = record { number = 1; named = refl; function = main; stands = refl; takes_none = refl }
