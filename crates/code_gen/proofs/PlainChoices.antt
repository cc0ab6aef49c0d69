-- Short circuits and the conditional: how their runs are put together.
use Rattle.std.proofs.Common.{◌≡◌, ℕ, ◌+◌, true, false, List, [], ◌∷◌, refl}
use Rattle.std.proofs.Common.{arith}
use Rattle.std.specs.Prelude.{pos}
use Rattle.acc_num.specs.declared.kind.IntKind.TheVariants.{I32}
use Rattle.critical_table.specs.declared.pos.Pos.{Pos}
use Rattle.c_core.specs.declared.form.Form.{Form}
use Rattle.c_core.specs.declared.form.Form.TheVariants as form
use Rattle.c_core.specs.Forms.{form_of}
use Rattle.c_core.specs.Tree.{Core}
use Rattle.c_core.specs.TreeUnit.{Program}
use Rattle.c_core.specs.Types.{IsNumber}
use Rattle.run_defs.specs.Evaluation.{Gives}
use Rattle.vm_code.specs.declared.instr.Instr.{Instr}
use Rattle.vm_code.specs.declared.instr.Instr.TheVariants as i
use Rattle.vm_code.specs.declared.parts.CodeFunction.{CodeFunction}
use Rattle.vm_code.specs.Contents.{Contents}
use Rattle.vm_code.specs.Frames.{Activation}
use Rattle.vm_code.specs.Operators.{told, is_true}
use Rattle.code_gen.specs.Evaluating.{Evaluates, yields, by_test, as_truth}
use Rattle.code_gen.specs.ExpressionCode.{on, code_at, code_of, size_of, same_code, same_size, objects_in, object_code}
use Rattle.code_gen.specs.ExpressionCode.{truth_code, false_code, true_code}
use Rattle.code_gen.specs.ExpressionCode as code_sizes
use Rattle.code_gen.specs.Expressions.{Call, value}
use Rattle.code_gen.specs.RunLaw.{StandAt, Running}
use Rattle.code_gen.proofs.PlainStretches as stretch
use Rattle.code_gen.proofs.PlainActs as acts

module _ (it : Running) (low : ℕ) (program : Program) (call : Call) where
  abbrev code : Contents
  code = it.code

  abbrev function : CodeFunction
  function = it.function

  abbrev frame : Activation
  frame = it.frame

  abbrev val : Core → Evaluates
  val core = value program call frame.held core

  abbrev Runs : Evaluates → Form → (from to slot next : ℕ) → Type 0
  Runs x f from to slot next = stretch.Runs it low x f from to slot next

  abbrev StandsAt : ℕ → List (Instr × Pos) → Type 0
  StandsAt at instrs = StandAt code function at instrs

  abbrev size_in : Core → ℕ
  size_in core = code_sizes.size_in core

  -- a truth value by way of a jump to the other end
  pub and_runs : (left right : Core) (at slot : ℕ) (position : Pos) (tail : ℕ) → IsNumber (form_of left)
      → IsNumber (form_of right) → at + (size_in left + (1 + size_in right)) ≡ tail
      → Runs (val left) (form_of left) at (at + size_in left) slot (slot + objects_in left)
      → Runs (val right) (form_of right) (at + (size_in left + 1)) (at + (size_in left + 1) + size_in right)
      (slot + objects_in left) (slot + objects_in left + objects_in right)
      → StandsAt (at + size_in left) (on position (i.IfZero (at + (size_in left + (size_in right + 4))) ∷ []))
      → StandsAt tail (on position (i.Not ∷ i.Not ∷ i.Jump (at + (size_in left + (size_in right + 5))) ∷ false_code ∷
      []))
      → Runs (by_test (val left) (as_truth (val right)) (yields (told false))) (form.Number I32) at
      (at + (size_in left + (size_in right + 5))) slot (slot + objects_in left + objects_in right)
  and_runs left right at slot position tail is_l is_r same runs_l runs_r fork stands =
      let l : ℕ = size_in left in
      let r : ℕ = size_in right in
      let end : ℕ = at + (l + (r + 5)) in
      let no : ℕ = at + (l + (r + 4)) in
      let number : Form = form.Number I32 in
      let between : ℕ = slot + objects_in left in
      let next : ℕ = slot + objects_in left + objects_in right in
      stretch.test_runs it low {slot = slot} {between = between} {next = next} (val left) (as_truth (val right))
      (yields (told false)) (form_of left) number at l no end position is_l runs_l fork
      (stretch.jump_runs it low {slot = between} {next = next} (as_truth (val right)) number (at + l + 1)
      (tail + 1 + 1) end position (stands.1.1.0, tt)
      (stretch.part_then it low {slot = between} {next = next} (val right) (λ v. Gives (told (is_true v)))
      (form_of right) number (at + l + 1) tail (tail + 1 + 1)
      (stretch.to_place it low {slot = between} {next = next} (val right) (form_of right) (at + l + 1)
      (at + (l + 1) + r) tail (omega (arith, same))
      (stretch.from_place it low {slot = between} {next = next} (val right) (form_of right) (at + (l + 1)) (at + l + 1)
      (at + (l + 1) + r) (omega arith) runs_r))
      (λ objects answered operands v s has. acts.truth_acts (stretch.beside it objects answered) (form_of right) tail
      (tail + 1 + 1) position refl is_r operands v s has (stands.0, (stands.1.0, tt)))))
      (stretch.from_place it low {slot = between} {next = next} (yields (told false)) number (tail + 1 + 1 + 1) no end
      (omega (arith, same))
      (stretch.to_place it low {slot = between} {next = next} (yields (told false)) number (tail + 1 + 1 + 1)
      (tail + 1 + 1 + 1 + 1) end (omega (arith, same))
      (stretch.in_slots it low {slot = between} {next = between + 0} (yields (told false)) number (tail + 1 + 1 + 1)
      (tail + 1 + 1 + 1 + 1) between next (omega arith) (omega arith)
      (stretch.leaf_runs it low {slot = between} (told false) number (tail + 1 + 1 + 1) false_code position
      (stands.1.1.1.0, tt) (pos 0, refl) (λ objects answered operands s slots. refl)))))

  pub or_runs : (left right : Core) (at slot : ℕ) (position : Pos) (tail : ℕ) → IsNumber (form_of left)
      → IsNumber (form_of right) → at + (size_in left + (3 + size_in right)) ≡ tail
      → Runs (val left) (form_of left) at (at + size_in left) slot (slot + objects_in left)
      → Runs (val right) (form_of right) (at + (size_in left + 3)) (at + (size_in left + 3) + size_in right)
      (slot + objects_in left) (slot + objects_in left + objects_in right)
      → StandsAt (at + size_in left) (on position (i.IfZero (at + (size_in left + 3)) ∷ true_code
      ∷ i.Jump (at + (size_in left + (size_in right + 5))) ∷ []))
      → StandsAt tail (on position truth_code)
      → Runs (by_test (val left) (yields (told true)) (as_truth (val right))) (form.Number I32) at
      (at + (size_in left + (size_in right + 5))) slot (slot + objects_in left + objects_in right)
  or_runs left right at slot position tail is_l is_r same runs_l runs_r fork stands =
      let l : ℕ = size_in left in
      let r : ℕ = size_in right in
      let end : ℕ = at + (l + (r + 5)) in
      let number : Form = form.Number I32 in
      let between : ℕ = slot + objects_in left in
      let next : ℕ = slot + objects_in left + objects_in right in
      stretch.test_runs it low {slot = slot} {between = between} {next = next} (val left) (yields (told true))
      (as_truth (val right)) (form_of left) number at l (at + (l + 3)) end position is_l runs_l (fork.0, tt)
      (stretch.jump_runs it low {slot = between} {next = next} (yields (told true)) number (at + l + 1)
      (at + l + 1 + 1) end position (fork.1.1.0, tt)
      (stretch.in_slots it low {slot = between} {next = between + 0} (yields (told true)) number (at + l + 1)
      (at + l + 1 + 1) between next (omega arith) (omega arith)
      (stretch.leaf_runs it low {slot = between} (told true) number (at + l + 1) true_code position (fork.1.0, tt)
      (pos 1, refl) (λ objects answered operands s slots. refl))))
      (stretch.to_place it low {slot = between} {next = next} (as_truth (val right)) number (at + (l + 3))
      (tail + 1 + 1) end (omega (arith, same))
      (stretch.part_then it low {slot = between} {next = next} (val right) (λ v. Gives (told (is_true v)))
      (form_of right) number (at + (l + 3)) tail (tail + 1 + 1)
      (stretch.to_place it low {slot = between} {next = next} (val right) (form_of right) (at + (l + 3))
      (at + (l + 3) + r) tail (omega (arith, same)) runs_r)
      (λ objects answered operands v s has. acts.truth_acts (stretch.beside it objects answered) (form_of right) tail
      (tail + 1 + 1) position refl is_r operands v s has stands)))

  pub cond_runs : (test first second : Core) (at slot : ℕ) (position : Pos) (g : Form) → IsNumber (form_of test)
      → form_of first ≡ g → form_of second ≡ g
      → Runs (val test) (form_of test) at (at + size_in test) slot (slot + objects_in test)
      → Runs (val first) (form_of first) (at + (size_in test + 1)) (at + (size_in test + 1) + size_in first)
      (slot + objects_in test) (slot + objects_in test + objects_in first)
      → Runs (val second) (form_of second) (at + (size_in test + (size_in first + 2)))
      (at + (size_in test + (size_in first + 2)) + size_in second) (slot + (objects_in test + objects_in first))
      (slot + (objects_in test + objects_in first) + objects_in second)
      → StandsAt (at + size_in test) (on position (i.IfZero (at + (size_in test + (size_in first + 2))) ∷ []))
      → StandsAt (at + (size_in test + (1 + size_in first)))
      (on position (i.Jump (at + (size_in test + (size_in first + (size_in second + 2)))) ∷ []))
      → Runs (by_test (val test) (val first) (val second)) g at
      (at + (size_in test + (size_in first + (size_in second + 2)))) slot
      (slot + (objects_in test + objects_in first) + objects_in second)
  cond_runs test first second at slot position g is same_f same_s runs_t runs_f runs_s fork jump =
      let l : ℕ = size_in test in
      let m : ℕ = size_in first in
      let r : ℕ = size_in second in
      let end : ℕ = at + (l + (m + (r + 2))) in
      let between : ℕ = slot + objects_in test in
      let middle : ℕ = slot + objects_in test + objects_in first in
      let other : ℕ = slot + (objects_in test + objects_in first) in
      let next : ℕ = slot + (objects_in test + objects_in first) + objects_in second in
      stretch.test_runs it low {slot = slot} {between = between} {next = next} (val test) (val first) (val second)
      (form_of test) g at l (at + (l + (m + 2))) end position is runs_t fork
      (stretch.in_slots it low {slot = between} {next = middle} (val first) g (at + l + 1) end between next (omega
      arith) (omega arith)
      (stretch.jump_runs it low {slot = between} {next = middle} (val first) g (at + l + 1) (at + (l + (1 + m))) end
      position jump
      (stretch.in_form it low {slot = between} {next = middle} (val first) (form_of first) g (at + l + 1)
      (at + (l + (1 + m))) same_f
      (stretch.to_place it low {slot = between} {next = middle} (val first) (form_of first) (at + l + 1)
      (at + (l + 1) + m) (at + (l + (1 + m))) (omega arith)
      (stretch.from_place it low {slot = between} {next = middle} (val first) (form_of first) (at + (l + 1))
      (at + l + 1) (at + (l + 1) + m) (omega arith) runs_f)))))
      (stretch.in_form it low {slot = between} {next = next} (val second) (form_of second) g (at + (l + (m + 2))) end
      same_s
      (stretch.to_place it low {slot = between} {next = next} (val second) (form_of second) (at + (l + (m + 2)))
      (at + (l + (m + 2)) + r) end (omega arith)
      (stretch.in_slots it low {slot = other} {next = next} (val second) (form_of second) (at + (l + (m + 2)))
      (at + (l + (m + 2)) + r) between next (omega arith) (omega arith) runs_s)))
