-- What the machine finds for the value of a `switch`: the label that the meaning finds.
use Rattle.std.proofs.Common.{◌≡◌, ◌∙◌, ℕ, ◌+◌, ◌&&◌, Bool, true, false, List, [], ◌∷◌, ◌++◌, refl, ap, length}
use Rattle.std.proofs.Common.{Option, Some, if◌then◌else◌, arith}
use Rattle.std.proofs.lemmas.Int.{ints}
use Rattle.std.specs.Prelude.{ℤ, int_le, ◌-ℤ◌}
use Rattle.std.specs.List.{slice_get}
use Rattle.acc_num.specs.Operations.{is_zero}
use Rattle.critical_table.specs.declared.pos.Pos.{Pos}
use Rattle.c_core.specs.declared.statement.Case.{Case}
use Rattle.lib_defs.specs.declared.value.Value.{Value}
use Rattle.lib_defs.specs.declared.value.Value.TheVariants.{Num}
use Rattle.run_defs.specs.State.{State}
use Rattle.vm_code.specs.declared.instr.Instr.{Instr}
use Rattle.vm_code.specs.declared.instr.Instr.TheVariants as i
use Rattle.vm_code.specs.declared.parts.CodeFunction.{CodeFunction}
use Rattle.vm_code.specs.Contents.{Contents}
use Rattle.vm_code.specs.Machine.{fetched_if, default_place, pair_place, case_place, to_case}
use Rattle.vm_code.specs.Slots.{Held}
use Rattle.code_gen.specs.ExpressionCode.{on}
use Rattle.code_gen.specs.Flows.{label_at}
use Rattle.code_gen.specs.RunLaw.{Comes, StandAt, Running, stands_at}
use Rattle.code_gen.specs.StatementCode.{pairs_to, pairs_by}
use Rattle.code_gen.proofs.Going.{comes_on, comes_same, one_step, sees}
use Rattle.code_gen.proofs.PlainStretches as stretch

-- two numbers are the same where their difference is 0
same_number : (a b : ℤ) → is_zero (a -ℤ b) ≡ (int_le b a && int_le a b)
same_number a b = grind (arith, ints)

pub pairs_alike : (to : ℕ) (cases : List Case) → pairs_to to cases ≡ pairs_by (λ k. to) cases
pairs_alike to [] = refl
pairs_alike to (label ∷ rest) = ap (λ l. i.Pair label.value to ∷ l) (pairs_alike to rest)

fetched_found : (b : Bool) (code : Contents) (at : ℕ) (instr : Instr × Pos) → fetched_if b code at ≡ Some instr
    → slice_get code.instrs at ≡ Some instr
fetched_found true code at instr is = is
fetched_found false code at instr is = cc

module _ (code : Contents) (function : CodeFunction) (to : Option ℕ → ℕ) (n : ℤ) where
  chosen : (b : Bool) (item : ℕ) (others : Option ℕ) (label : Option ℕ) → others ≡ Some (to label)
      → (if b then Some (to (Some item)) else others) ≡ Some (to (if b then Some item else label))
  chosen true item others label same = refl
  chosen false item others label same = same

  -- pairs that lead where the label with the value does
  pub case_found : (cases : List Case) (default : Option ℕ) (more : List Instr) (position : Pos) (at : ℕ)
      → StandAt code function at (on position (pairs_by (λ k. to (Some k)) cases ++ i.Default (to default) ∷ more))
      → case_place code.instrs at (length cases) n ≡ Some (to (label_at n cases default))
  case_found [] default more position at stands =
      ap default_place (fetched_found _ code at (i.Default (to default), position) stands.0)
  case_found (label ∷ rest) default more position at stands =
      let others : Option ℕ = case_place code.instrs (at + 1) (length rest) n in
      let there : Option ℕ = Some (to (Some label.at)) in
      ap (λ o. pair_place o n others)
      (fetched_found _ code at (i.Pair label.value (to (Some label.at)), position) stands.0)
      ∙ chosen (is_zero (label.value -ℤ n)) label.at others (label_at n rest default)
      (case_found rest default more position (at + 1) stands.1)
      ∙ ap (λ b. Some (to (if b then Some label.at else label_at n rest default))) (same_number label.value n)

module _ (it : Running) where
  -- a number leads where its pair does
  pub cases_come : (objects : List Held) (answered : Bool) (at count there : ℕ) (n : ℤ) (operands : List Value)
      (position : Pos) (s : State) → StandAt it.code it.function at (on position (i.Cases count ∷ []))
      → case_place it.code.instrs (at + 1) count n ≡ Some there
      → Comes it.environment it.code (stands_at it objects answered at (Num n ∷ operands) s)
      (stands_at it objects answered there operands s)
  cases_come objects answered at count there n operands position s stands found =
      let other : Running = stretch.beside it objects answered in
      comes_on it.environment it.code _ _ _
      (one_step other at (Num n ∷ operands) s (i.Cases count) position stands.0)
      (comes_same it.environment it.code _ _
      (ap (λ o. to_case (sees other at (Num n ∷ operands) position s) o operands) found))
