-- A library with a function that wants one of the guest's, beside those of the profile.
use Rattle.std.specs.Prelude.{[], ◌∷◌, Bool, List, Option, Some, None, is_none}
use Rattle.lib_defs.specs.declared.row.Row.{Row}
use Rattle.lib_defs.specs.declared.row_name.RowName.{RowName}
use Rattle.lib_defs.specs.declared.step.Rest.{Rest}
use Rattle.lib_defs.specs.declared.value.Arg.{Arg}
use Rattle.lib_defs.specs.RowNumbers.{name_at}
use Rattle.lib_defs.specs.Reply.{Asks, null}
use Rattle.lib_defs.specs.Rules.{done_with}
use Rattle.lib_defs.specs.RowTable.{ptr}
use Rattle.lib_defs.specs.StreamRows.{reply_with}
use Rattle.lib_defs.specs.Profile.{reply_of}
use Rattle.lib_defs.specs.World.{World, Reply}
use Rattle.lib_defs.specs.Library.{Library, values_of}

-- A row without a name wants the function that its first argument points to, with its other arguments.
abbrev pub rest_of : Row → Rest
rest_of row = record { row = row; numbers = 0 ∷ 0 ∷ 0 ∷ 0 ∷ []; places = null ∷ null ∷ null ∷ null ∷ [] }

abbrev pub ask_reply : Row → List Arg → World → Reply
ask_reply row args w =
    reply_with w (Asks (ptr (values_of args) 0) (ptr (values_of args) 1) (ptr (values_of args) 2) null (rest_of row))

abbrev pub sample_reply : Option RowName → Row → List Arg → World → Reply
sample_reply None row args w = ask_reply row args w
sample_reply (Some name) row args w = reply_of (Some name) args w

abbrev pub sample : Library
sample = record {
  call = λ row args w. sample_reply (name_at row) row args w;
  resume = λ rest value w. reply_with w (done_with [] value);
}

-- only a row without a name waits
abbrev pub waits : Row → List Arg → Rest → Bool
waits row args rest = is_none (name_at row)
