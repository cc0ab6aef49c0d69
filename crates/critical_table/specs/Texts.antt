-- The critical cases of L.3p2 with their numbers, sections and texts, and the codes with their names and texts.
use Rattle.std.specs.Prelude.{ℕ, List, codes}
use Rattle.critical_table.specs.declared.case.Case.{Case}
use Rattle.critical_table.specs.declared.case.Case.TheVariants.{L1, L2, L3, L4, L5, L6, L7, L8, L9, L10, L11, L12}
use Rattle.critical_table.specs.declared.code.Code.{Code}
use Rattle.critical_table.specs.declared.code.Code.TheVariants as code

-- a critical case: its place in the list of L.3p2, the section that it names, and what is told of it
pub record CaseRow : Type 0 where
  pub number : ℕ
  pub section : List ℕ
  pub text : List ℕ

-- the row of each case
abbrev pub case_row : Case → CaseRow
case_row L1 = record { number = 1; section = codes "6.2.4"; text = codes "object used outside its lifetime" }
case_row L2 =
    record { number = 2; section = codes "6.2.7"; text = codes "store to an object with two incompatible declarations" }
case_row L3 =
    record { number = 3; section = codes "6.5.2.2"; text = codes "function called through an incompatible type" }
case_row L4 = record { number = 4; section = codes "6.3.2.1"; text = codes "lvalue designates no object" }
case_row L5 = record { number = 5; section = codes "6.4.5"; text = codes "string literal modified" }
case_row L6 = record { number = 6; section = codes "6.5.3.2"; text = codes "invalid operand of unary *" }
case_row L7 = record { number = 7; section = codes "6.5.6"; text = codes "element just beyond the array used" }
case_row L8 = record { number = 8; section = codes "6.7.3"; text = codes "const object modified" }
case_row L9 = record { number = 9; section = codes "7.1.4"; text = codes "invalid library argument" }
case_row L10 = record { number = 10; section = codes "7.13.2.1"; text = codes "invalid longjmp" }
case_row L11 = record { number = 11; section = codes "7.22.3"; text = codes "pointer to released space used" }
case_row L12 = record { number = 12; section = codes "7.24.1"; text = codes "library access beyond the object" }

-- a code: its name, and what is told of it
pub record CodeRow : Type 0 where
  pub name : List ℕ
  pub text : List ℕ

-- the row of each code
abbrev pub code_row : Code → CodeRow
code_row code.U01 = record { name = codes "U01"; text = codes "signed result out of range" }
code_row code.U02 = record { name = codes "U02"; text = codes "division by zero" }
code_row code.U03 = record { name = codes "U03"; text = codes "invalid shift" }
code_row code.U04 = record { name = codes "U04"; text = codes "value of a call that returned none" }
code_row code.U05 = record { name = codes "U05"; text = codes "indeterminate value read" }
code_row code.U06 = record { name = codes "U06"; text = codes "pointer moved outside its array" }
code_row code.U07 = record { name = codes "U07"; text = codes "difference of unrelated pointers" }
code_row code.U08 = record { name = codes "U08"; text = codes "order of unrelated pointers" }
code_row code.U09 = record { name = codes "U09"; text = codes "conversion undefined or outside the profile" }
code_row code.U10 = record { name = codes "U10"; text = codes "overlapping assignment" }
code_row code.U11 = record { name = codes "U11"; text = codes "overlapping copy" }
code_row code.U12 = record { name = codes "U12"; text = codes "invalid truth value read" }
