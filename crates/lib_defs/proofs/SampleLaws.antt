-- The sample keeps the laws.
use Rattle.std.proofs.Common.{◌≡◌, true, false, List, [], Option, Some, None, refl}
use Rattle.std.specs.Prelude.{is_none}
use Rattle.std.specs.Option.{option_map_or}
use Rattle.lib_defs.specs.declared.row.Row.{Row}
use Rattle.lib_defs.specs.declared.row_name.RowName.{RowName}
use Rattle.lib_defs.specs.declared.value.Arg.{Arg}
use Rattle.lib_defs.specs.declared.value.Value.{Value}
use Rattle.lib_defs.specs.RowNumbers.{name_at}
use Rattle.lib_defs.specs.Rules.{done_with}
use Rattle.lib_defs.specs.Sample.{sample_reply, sample, waits}
use Rattle.lib_defs.specs.World.{World, Flows}
use Rattle.lib_defs.specs.Laws.{IsWorld, is_handler_name, ResumeFits, HandlerFits, KeepsLaws}
use Rattle.lib_defs.proofs.Flows.{flows_still}
use Rattle.lib_defs.proofs.PlainCalls.{Fits, answer_fits}
use Rattle.lib_defs.proofs.StreamLaws.{handler_fits}
use Rattle.lib_defs.proofs.ProfileLaws.{name_fits, row_flows}
use Rattle.lib_defs.proofs.Variants.{sample_variants}

call_fits : (row : Row) (args : List Arg) (w : World) (o : Option RowName) → name_at row ≡ o → IsWorld w
    → Fits row args w (waits row args) (sample_reply o row args w)
call_fits row args w None e is = rw e refl
call_fits row args w (Some name) e is = name_fits row args w (waits row args) name e is

resume_fits : (row : Row) (args : List Arg) (value : Value) (w : World) (o : Option RowName) → name_at row ≡ o
    → is_none o ≡ true
    → ResumeFits (waits row args) row args w w.streams (done_with [] value)
resume_fits row args value w (Some name) e is = cc
resume_fits row args value w None e is = record {
  done = answer_fits row args w (waits row args) (rw e refl) value (λ fit name named. cc);
  makes_none = refl;
  ends_none = refl;
  sets_none = refl;
}

handles : (row : Row) (args : List Arg) (w : World) (o : Option RowName) → option_map_or is_handler_name o false ≡ true
    → HandlerFits w (sample_reply o row args w).streams (sample_reply o row args w).did
handles row args w None e = cc
handles row args w (Some name) e = handler_fits args w (Some name) e

flows : (row : Row) (args : List Arg) (w : World) (o : Option RowName)
    → Flows w.streams (sample_reply o row args w).streams
flows row args w None = flows_still w.streams
flows row args w (Some name) = row_flows args w (Some name)

pub sample_keeps : KeepsLaws sample
sample_keeps = record {
  waits = waits;
  call = λ row args w is. call_fits row args w (name_at row) refl is;
  resume = λ row args rest value w is waiting. resume_fits row args value w (name_at row) refl waiting;
  handler = λ row args w e. handles row args w (name_at row) e;
  call_flows = λ row args w. flows row args w (name_at row);
  resume_flows = λ rest value w. flows_still w.streams;
  variants = sample_variants;
}
