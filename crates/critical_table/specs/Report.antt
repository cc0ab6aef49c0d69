-- How an end is reported: the status of the process, and the line on the error output.
use Rattle.std.specs.Prelude.{ℕ, ◌+◌, List, [], ◌++◌, codes}
use Rattle.std.specs.Fmt.{decimal}
use Rattle.critical_table.specs.declared.pos.Pos.{Pos}
use Rattle.critical_table.specs.declared.refusal.Refusal.{Refusal}
use Rattle.critical_table.specs.declared.refusal.Refusal.TheVariants as refusal
use Rattle.critical_table.specs.declared.ended.Ended.{Ended}
use Rattle.critical_table.specs.declared.ended.Ended.TheVariants as ended
use Rattle.critical_table.specs.Texts.{case_row, code_row}

-- the status of the process
abbrev pub status_of : Ended → ℕ
status_of (ended.Exited n) = n
status_of ended.Aborted = 134
status_of (ended.Trapped case pos) = 120 + (case_row case).number
status_of (ended.Undefined code pos) = 140
status_of ended.OutOfTicks = 150
status_of ended.OutOfBytes = 155
status_of ended.ReadFault = 152
status_of ended.WriteFault = 153
status_of ended.ShelfFault = 154
status_of (ended.Refused refusal pos) = 160
status_of ended.Usage = 161
status_of ended.Printed = 0
status_of ended.Memory = 151

-- a place as line and column
abbrev pub place_text : Pos → List ℕ
place_text pos = decimal pos.line ++ codes ":" ++ decimal pos.column

-- the reason of a refusal
abbrev pub reason_text : Refusal → List ℕ
reason_text refusal.Size = codes "Size"
reason_text refusal.Char = codes "Char"
reason_text refusal.Unclosed = codes "Unclosed"
reason_text refusal.Literal = codes "Literal"
reason_text refusal.Directive = codes "Directive"
reason_text refusal.Profile = codes "Profile"
reason_text refusal.Syntax = codes "Syntax"
reason_text refusal.Deep = codes "Deep"
reason_text (refusal.Constraint n) = codes "Constraint " ++ decimal n

-- the line on the error output with its newline, or nothing
unfoldable pub report_of : Ended → List ℕ
report_of (ended.Exited n) = []
report_of ended.Aborted = codes "acc: aborted\n"
report_of (ended.Trapped case pos) =
    codes "acc: L.3 case " ++ decimal (case_row case).number ++ codes " at " ++ place_text pos ++ codes ": "
    ++ (case_row case).text ++ codes "\n"
report_of (ended.Undefined code pos) =
    codes "acc: undefined " ++ (code_row code).name ++ codes " at " ++ place_text pos ++ codes ": "
    ++ (code_row code).text ++ codes "\n"
report_of ended.OutOfTicks = codes "acc: out of ticks\n"
report_of ended.OutOfBytes = codes "acc: out of bytes\n"
report_of ended.ReadFault = codes "acc: input failed\n"
report_of ended.WriteFault = []
report_of ended.ShelfFault = codes "acc: file not read\n"
report_of (ended.Refused refusal pos) =
    codes "acc: refused at " ++ place_text pos ++ codes ": " ++ reason_text refusal ++ codes "\n"
report_of ended.Usage = codes "usage: acc run FILE, check FILE, trace FILE, work N, table; --ticks N, --bytes N\n"
report_of ended.Printed = []
report_of ended.Memory = codes "acc: out of memory\n"
