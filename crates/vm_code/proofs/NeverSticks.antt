-- No run of valid code sticks: from a call of any function, and from the start of the program.
use Rattle.std.proofs.Common.{◌≡◌, ℕ, true, [], Some, sym, ap, subst}
use Rattle.lib_defs.specs.Laws.{KeepsLaws}
use Rattle.lib_defs.specs.Library.{Library}
use Rattle.lib_defs.specs.World.{Input}
use Rattle.run_defs.specs.State.{State}
use Rattle.run_defs.specs.Evaluation.{ticked}
use Rattle.run_defs.specs.Starts.{Budgets, start_state, statics_placed}
use Rattle.std.specs.Prelude.{map}
use Rattle.vm_code.specs.declared.parts.CodeFunction.{CodeFunction}
use Rattle.vm_code.specs.Contents.{Contents, function_at}
use Rattle.vm_code.specs.CodeFunctions.{environment, abort_handler, main_function}
use Rattle.vm_code.specs.Calling.{fit_parameters, Entry, entered}
use Rattle.vm_code.specs.Machine.{run, static_of, outer_entry, main_called, started}
use Rattle.vm_code.specs.Valid.{IsValid}
use Rattle.vm_code.specs.Progress.{IsOverOrReady, HasRowTypes, HasMain}
use Rattle.vm_code.proofs.Standing.{PlaceStands, ready_of}
use Rattle.vm_code.proofs.CallsStand.{after_stands, entered_stands}
use Rattle.vm_code.proofs.StepStands.{run_stands}

pub calls_never_stick : (library : Library) (code : Contents) (entry : Entry) (function : CodeFunction) (s : State)
    (n : ℕ) → KeepsLaws library → IsValid code → HasRowTypes code
    → function_at code.functions entry.function ≡ Some function
    → fit_parameters function.parameters entry.arguments ≡ true
    → IsOverOrReady code (run (environment library code) code (entered code entry [] s) n)
calls_never_stick library code entry function s n laws valid types stands fit =
    ready_of code valid laws.variants.waits (run (environment library code) code (entered code entry [] s) n)
    (run_stands library laws.variants code valid types n (entered code entry [] s)
    (entered_stands library laws.variants code valid types entry function [] s stands fit tt))

module _ (library : Library) (laws : KeepsLaws library) (code : Contents) (valid : IsValid code)
    (types : HasRowTypes code) (main : HasMain code) where
  main_fits : fit_parameters main.function.parameters [] ≡ true
  main_fits = ap (λ ps. fit_parameters ps []) main.takes_none

  main_stands : (s : State)
      → PlaceStands code laws.variants.waits (main_called (environment library code) code (main_function code) s)
  main_stands s = subst
      (λ o. PlaceStands code laws.variants.waits (main_called (environment library code) code o s)) (sym main.named)
      (after_stands library laws.variants code valid types (ticked s)
      (λ u s1. entered code (outer_entry main.number) [] s1)
      (λ u s1. entered_stands library laws.variants code valid types (outer_entry main.number) main.function [] s1
      main.stands main_fits tt))

  start_stands : (budgets : Budgets) (input : Input)
      → PlaceStands code laws.variants.waits (started library code budgets input)
  start_stands budgets input = after_stands library laws.variants code valid types
      (statics_placed (map static_of code.objects) (start_state budgets input (abort_handler code)))
      (λ u s. main_called (environment library code) code (main_function code) s) (λ u s. main_stands s)

pub runs_never_stick : (library : Library) (code : Contents) (budgets : Budgets) (input : Input) (n : ℕ)
    → KeepsLaws library → IsValid code → HasRowTypes code → HasMain code
    → IsOverOrReady code (run (environment library code) code (started library code budgets input) n)
runs_never_stick library code budgets input n laws valid types main =
    ready_of code valid laws.variants.waits (run (environment library code) code
    (started library code budgets input) n)
    (run_stands library laws.variants code valid types n (started library code budgets input)
    (start_stands library laws code valid types main budgets input))
