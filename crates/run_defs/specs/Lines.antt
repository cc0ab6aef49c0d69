-- The text of a journal: the line of each event.
use Rattle.std.specs.Prelude.{ℕ, List, [], ◌∷◌, ◌++◌, codes}
use Rattle.std.specs.Fmt.{decimal, signed_decimal}
use Rattle.critical_table.specs.declared.case.Case.{Case}
use Rattle.critical_table.specs.declared.pos.Pos.{Pos}
use Rattle.critical_table.specs.Texts.{case_row, code_row}
use Rattle.critical_table.specs.Report.{place_text}
use Rattle.object_store.specs.declared.by.By.{By}
use Rattle.object_store.specs.declared.by.By.TheVariants as by
use Rattle.object_store.specs.declared.class.Class.{Class}
use Rattle.object_store.specs.declared.class.Class.TheVariants.{Static, Automatic, Allocated}
use Rattle.object_store.specs.declared.mark.Mark.{Mark}
use Rattle.object_store.specs.declared.mark.Mark.TheVariants as mark
use Rattle.object_store.specs.declared.pointer.Pointer.{Pointer}
use Rattle.lib_defs.specs.declared.shown.Shown.{Shown}
use Rattle.lib_defs.specs.declared.shown.Shown.TheVariants.{Number, Function, Place, NoValue}
use Rattle.run_defs.specs.declared.attempt.Attempt.{Attempt}
use Rattle.run_defs.specs.declared.event.Event.{Event}
use Rattle.run_defs.specs.declared.event.Event.TheVariants as event
use Rattle.run_defs.specs.declared.outcome.End.{End}
use Rattle.run_defs.specs.declared.outcome.End.TheVariants as end
use Rattle.run_defs.specs.Functions.{row_name}

abbrev pub class_text : Class → List ℕ
class_text Static = codes "s"
class_text Automatic = codes "a"
class_text Allocated = codes "h"

abbrev pub mark_text : Mark → List ℕ
mark_text mark.Plain = codes "plain"
mark_text mark.Literal = codes "literal"
mark_text mark.Const = codes "const"
mark_text mark.Clash = codes "clash"

abbrev pub by_text : By → List ℕ
by_text by.Star = codes "star"
by_text by.Arrow = codes "arrow"
by_text by.Store = codes "store"
by_text by.TextRead = codes "textread"
by_text by.TextWrite = codes "textwrite"
by_text by.OtherRead = codes "otherread"
by_text by.OtherWrite = codes "otherwrite"

-- A value is a number; a function's name; an object and an offset; or `-` where there is none.
abbrev pub value_text : Shown → List ℕ
value_text (Number n) = signed_decimal n
value_text (Function name) = name
value_text (Place object offset) = decimal object ++ codes ":" ++ decimal offset
value_text NoValue = codes "-"

abbrev pub values_text : List Shown → List ℕ
values_text [] = []
values_text (v ∷ vs) = codes " " ++ value_text v ++ values_text vs

abbrev pub pointer_text : Pointer → List ℕ
pointer_text p =
    decimal p.object ++ codes " " ++ decimal p.offset ++ codes " " ++ decimal p.low ++ codes " " ++ decimal p.high

abbrev pub attempt_text : Attempt → List ℕ
attempt_text a =
    codes " pointer " ++ pointer_text a.place ++ codes " size " ++ decimal a.len ++ codes " align " ++ decimal a.align
    ++ codes " by " ++ by_text a.by

-- the case of a trap and its place
abbrev pub trap_text : Case → Pos → List ℕ
trap_text case pos = codes "trap " ++ decimal (case_row case).number ++ codes " at " ++ place_text pos

abbrev pub end_text : End → List ℕ
end_text (end.Exited status) = codes "exited " ++ decimal status
end_text end.Aborted = codes "aborted"
end_text (end.Trapped case) = codes "trapped " ++ decimal (case_row case).number
end_text (end.Undefined code) = codes "undefined " ++ (code_row code).name
end_text end.OutOfTicks = codes "out of ticks"
end_text end.OutOfBytes = codes "out of bytes"
end_text end.ReadFault = codes "input failed"

-- The line of an event, without its newline.
unfoldable pub event_text : Event → List ℕ
event_text (event.Made object size class) =
    codes "made " ++ decimal object ++ codes " " ++ decimal size ++ codes " " ++ class_text class
event_text (event.Sealed object seal) =
    codes "seal " ++ decimal object ++ codes " " ++ decimal seal.at ++ codes " " ++ decimal seal.len
    ++ codes " " ++ mark_text seal.mark
event_text (event.Stored write) =
    codes "store " ++ decimal write.object ++ codes " " ++ decimal write.at ++ codes " " ++ decimal write.len
event_text (event.Died object) = codes "dead " ++ decimal object
event_text (event.Called row values) = codes "lib " ++ row_name row ++ values_text values
event_text (event.Returned row value) = codes "ret " ++ row_name row ++ codes " " ++ value_text value
event_text (event.HandlerSet name) = codes "set " ++ name
event_text (event.Violated row constraint) = codes "violated " ++ row_name row ++ codes " " ++ decimal constraint
event_text (event.HandlerCalled name) = codes "handler " ++ name
event_text event.HandlerReturned = codes "handled"
event_text (event.ReachFailed case pos attempt) = trap_text case pos ++ attempt_text attempt
event_text (event.ValueFailed case pos value) = trap_text case pos ++ codes " function " ++ value_text value
event_text (event.ArgumentFailed pos argument) =
    codes "trap 9 at " ++ place_text pos ++ codes " argument " ++ decimal argument
event_text (event.Stopped code pos) = codes "stop " ++ (code_row code).name ++ codes " at " ++ place_text pos
event_text (event.Ended e) = codes "end " ++ end_text e

-- the same with its newline
abbrev pub event_line : Event → List ℕ
event_line e = event_text e ++ codes "\n"
