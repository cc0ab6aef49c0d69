-- The table of cases and codes as it is printed.
use Rattle.std.specs.Prelude.{ℕ, List, [], ◌∷◌, ◌++◌, codes}
use Rattle.std.specs.Fmt.{decimal}
use Rattle.critical_table.specs.declared.case.Case.{Case}
use Rattle.critical_table.specs.declared.case.Case.TheVariants.{L1, L2, L3, L4, L5, L6, L7, L8, L9, L10, L11, L12}
use Rattle.critical_table.specs.declared.code.Code.{Code}
use Rattle.critical_table.specs.declared.code.Code.TheVariants as code
use Rattle.critical_table.specs.Texts.{case_row, code_row}

-- the line of a case: its number, its section and its text
unfoldable pub case_line : Case → List ℕ
case_line case =
    codes "L.3 " ++ decimal (case_row case).number ++ codes " " ++ (case_row case).section ++ codes " "
    ++ (case_row case).text ++ codes "\n"

-- the line of a code: its name and its text
unfoldable pub code_line : Code → List ℕ
code_line code = (code_row code).name ++ codes " " ++ (code_row code).text ++ codes "\n"

-- the 24 lines: the critical cases in the order of L.3p2, then the codes
unfoldable pub table_lines : List (List ℕ)
table_lines =
    case_line L1 ∷ case_line L2 ∷ case_line L3 ∷ case_line L4 ∷ case_line L5 ∷ case_line L6
    ∷ case_line L7 ∷ case_line L8 ∷ case_line L9 ∷ case_line L10 ∷ case_line L11 ∷ case_line L12
    ∷ code_line code.U01 ∷ code_line code.U02 ∷ code_line code.U03 ∷ code_line code.U04
    ∷ code_line code.U05 ∷ code_line code.U06 ∷ code_line code.U07 ∷ code_line code.U08
    ∷ code_line code.U09 ∷ code_line code.U10 ∷ code_line code.U11 ∷ code_line code.U12 ∷ []
