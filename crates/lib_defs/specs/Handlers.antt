-- The row that sets the handler (K.3.6.1.1), without the streams.
use Rattle.std.specs.Prelude.{ℕ, ◌==◌, nat_lt, Some, if◌then◌else◌}
use Rattle.critical_table.specs.declared.case.Case.TheVariants.{L9}
use Rattle.object_store.specs.declared.pointer.Pointer.{Pointer}
use Rattle.lib_defs.specs.declared.handler.Handler.{Handler}
use Rattle.lib_defs.specs.declared.step.LibStep.{LibStep}
use Rattle.lib_defs.specs.declared.value.Value.TheVariants.{Ptr}
use Rattle.lib_defs.specs.Reply.{Did, Done, Fails, FailsValue, no_change, step_of, handler_after}

-- the least number of a function as the object of a pointer
abbrev pub first_function : ℕ
first_function = 4200000000

-- null sets the fallback; a number below those of functions is no handler
abbrev pub set_did : Handler → Pointer → Did
set_did handler new =
    if new.object == 0 then Done no_change (Some handler.fallback) (Ptr handler.current) else
    if nat_lt new.object first_function then Fails (FailsValue L9 new) else
    Done no_change (Some new) (Ptr handler.current)

abbrev pub set_step : Handler → Pointer → LibStep
set_step handler new = step_of (set_did handler new)

abbrev pub set_handler_after : Handler → Pointer → Handler
set_handler_after handler new = handler_after (set_did handler new) handler
