-- Parts of expressions and instructions behind them: how their runs are put together.
use Rattle.std.proofs.Common.{◌≡◌, ℕ, ◌+◌, ◌≤◌, Bool, true, false, cond, List, [], ◌∷◌, ◌++◌, refl, sym}
use Rattle.std.proofs.Common.{subst, arith, length}
use Rattle.std.proofs.lemmas.List.{length-append}
use Rattle.std.specs.Prelude.{ℤ, not}
use Rattle.acc_num.specs.Operations.{is_zero}
use Rattle.critical_table.specs.declared.pos.Pos.{Pos}
use Rattle.c_core.specs.declared.form.Form.{Form}
use Rattle.c_core.specs.declared.form.Form.TheVariants as form
use Rattle.c_core.specs.Types.{IsNumber}
use Rattle.lib_defs.specs.declared.value.Value.{Value}
use Rattle.lib_defs.specs.declared.value.Value.TheVariants.{Num}
use Rattle.run_defs.specs.State.{State}
use Rattle.run_defs.specs.Evaluation.{Evaluation}
use Rattle.run_defs.specs.Functions.{Environment}
use Rattle.vm_code.specs.declared.instr.Instr.{Instr}
use Rattle.vm_code.specs.declared.instr.Instr.TheVariants as i
use Rattle.vm_code.specs.declared.parts.CodeFunction.{CodeFunction}
use Rattle.vm_code.specs.Contents.{Contents}
use Rattle.vm_code.specs.Frames.{Place}
use Rattle.vm_code.specs.Operators.{is_true}
use Rattle.vm_code.specs.Slots.{Held}
use Rattle.code_gen.specs.Evaluating.{Yield, Evaluates, yields, of_one, of_two, one_then, one_of, by_test}
use Rattle.code_gen.specs.ExpressionCode.{on}
use Rattle.code_gen.specs.RunLaw.{HasKind, pushed, AreValues, Holding, holding, Reaches, StandAt, Left, Running}
use Rattle.code_gen.specs.RunLaw.{stands_at}
use Rattle.code_gen.proofs.Going.{Does, stand_front, stand_back, does_then, does_one, one_step, comes_same}
use Rattle.code_gen.proofs.Going.{reaches_from, reaches_gives, reaches_bind, reaches_on}
use Rattle.code_gen.proofs.PlainParts as part
use Rattle.code_gen.proofs.PlainParts.{IsLeftAs, number_left}

-- the same activation with these value objects
abbrev pub beside : Running → List Held → (answered : Bool) → Running
beside it objects answered = record {
  environment = it.environment;
  code = it.code;
  most = it.most;
  function = it.function;
  frame = holding it.frame objects answered;
  rest = it.rest;
  own = it.own;
}

pub values_widen : (low high more : ℕ) (objects : List Held) → high ≤ more → AreValues low high objects
    → AreValues low more objects
values_widen low high more [] up are = tt
values_widen low high more (h ∷ rest) up are = (are.0, omega (arith, are.1, up), are.2)

abbrev pub holding_more : (low high more : ℕ) (made : List ℕ) → high ≤ more → Holding low high made → Holding low
    more made
holding_more low high more made up now = record {
  objects = now.objects;
  slots = values_widen low high more now.objects up now.slots;
  same = now.same;
  answered = now.answered;
}

module _ (it : Running) (low : ℕ) where
  abbrev e : Environment
  e = it.environment

  abbrev code : Contents
  code = it.code

  abbrev function : CodeFunction
  function = it.function

  abbrev pub here : List Held → Bool → ℕ → List Value → State → Place
  here objects answered at operands s = stands_at it objects answered at operands s

  abbrev pub Leads : (f : Form) (high at : ℕ) (operands : List Value) (x : Yield) → Left f low high x → State → Place
  Leads f high at operands x left s =
      here left.now.objects left.now.answered at (pushed f x.value operands) s

  -- an expression, from one place to another, with the first slot for value objects before it and behind it
  abbrev pub Runs : Evaluates → Form → (from to slot next : ℕ) → Type 0
  Runs part f from to slot next = (operands : List Value) (made : List ℕ) (now : Holding low slot made) (s : State)
      → Reaches e code it.most (here now.objects now.answered from operands s) (part made s) (Left f low next)
      (Leads f next to operands)

  pub to_place : {slot next : ℕ} (part : Evaluates) (f : Form) (from to there : ℕ) → to ≡ there
      → Runs part f from to slot next → Runs part f from there slot next
  to_place {slot} {next} part f from to there same runs = subst (λ place. Runs part f from place slot next) same runs

  pub from_place : {slot next : ℕ} (part : Evaluates) (f : Form) (from there to : ℕ) → from ≡ there
      → Runs part f from to slot next → Runs part f there to slot next
  from_place {slot} {next} part f from there to same runs =
      subst (λ place. Runs part f place to slot next) same runs

  pub in_form : {slot next : ℕ} (part : Evaluates) (f g : Form) (from to : ℕ) → f ≡ g
      → Runs part f from to slot next → Runs part g from to slot next
  in_form {slot} {next} part f g from to same runs = subst (λ h. Runs part h from to slot next) same runs

  -- fewer slots before it, and more behind it
  pub in_slots : {slot next : ℕ} (part : Evaluates) (f : Form) (from to first last : ℕ) → first ≤ slot → next ≤ last
      → Runs part f from to slot next → Runs part f from to first last
  in_slots {slot} {next} part f from to first last down up runs operands made now s =
      reaches_on e code it.most (here now.objects now.answered from operands s) (part made s) (Left f low next)
      (Leads f next to operands) (Left f low last) (Leads f last to operands)
      (runs operands made (holding_more low first slot made down now) s)
      (λ x s1 left. (
        record { kind = left.kind; now = holding_more low next last x.made up left.now },
        comes_same e code (Leads f next to operands x left s1) (Leads f next to operands x left s1) refl,
      ))

  -- a place is a pointer
  pub place_runs : {slot next : ℕ} (part : Evaluates) (from to : ℕ) → Runs part form.Place from to slot next
      → Runs part form.Pointer from to slot next
  place_runs {slot} {next} part from to runs operands made now s =
      reaches_on e code it.most (here now.objects now.answered from operands s) (part made s) (Left form.Place low next)
      (Leads form.Place next to operands) (Left form.Pointer low next) (Leads form.Pointer next to operands)
      (runs operands made now s)
      (λ x s1 left. (
        record { kind = left.kind; now = left.now },
        comes_same e code (Leads form.Place next to operands x left s1) (Leads form.Place next to operands x left s1)
            refl,
      ))

  -- an operand, and one instruction that makes of it what the operator does, whatever value objects are there
  abbrev pub OneActs : Form → Form → ℕ → Instr → Pos → (Value → State → Evaluation Value) → Type 0
  OneActs f g at instr position apply = (objects : List Held) (answered : Bool)
      → part.OneActs (beside it objects answered) f g at instr position apply

  abbrev pub TwoAct : Form → Form → Form → ℕ → Instr → Pos → (Value → Value → State → Evaluation Value) → Type 0
  TwoAct f h g at instr position apply = (objects : List Held) (answered : Bool)
      → part.TwoAct (beside it objects answered) f h g at instr position apply

  -- the same of several instructions
  abbrev pub OneDoes : Form → Form → (at there : ℕ) → (Value → State → Evaluation Value) → Type 0
  OneDoes f g at there apply = (objects : List Held) (answered : Bool) (operands : List Value) (v : Value) (s : State)
      → HasKind f v
      → Does e code (here objects answered at (pushed f v operands) s) (apply v s)
      (λ w s1. here objects answered there (pushed g w operands) s1) (HasKind g)

  abbrev pub TwoDo : Form → Form → Form → (at there : ℕ) → (Value → Value → State → Evaluation Value) → Type 0
  TwoDo f h g at there apply = (objects : List Held) (answered : Bool) (operands : List Value) (v w : Value)
      (s : State) → HasKind f v → HasKind h w
      → Does e code (here objects answered at (pushed h w (pushed f v operands)) s) (apply v w s)
      (λ x s1. here objects answered there (pushed g x operands) s1) (HasKind g)

  -- a part, and what is made of its value
  pub part_then : {slot next : ℕ} (part : Evaluates) (apply : Value → State → Evaluation Value) (f g : Form)
      (from mid there : ℕ) → Runs part f from mid slot next → OneDoes f g mid there apply
      → Runs (of_one part apply) g from there slot next
  part_then {slot} {next} part apply f g from mid there runs acts operands made now s =
      reaches_bind e code it.most (here now.objects now.answered from operands s) (part made s) _ (Left f low next)
      (Leads f next mid operands) (Left g low next) (Leads g next there operands) (runs operands made now s)
      (λ x s1 left.
      does_then e code it.most _ (apply x.value s1) _
      (λ w s2. here left.now.objects left.now.answered there (pushed g w operands) s2) (HasKind g) (Left g low next)
      (Leads g next there operands)
      (acts left.now.objects left.now.answered operands x.value s1 left.kind)
      (λ w s2 has. reaches_gives e code it.most _ (record x { value = w }) s2 (Left g low next)
      (Leads g next there operands)
      (record { kind = has; now = left.now }) refl))

  -- the right operand alone has a value
  pub then_right_runs : {slot between next : ℕ} (left right : Evaluates) (g : Form) (from mid there : ℕ)
      → Runs left form.Nothing from mid slot between → Runs right g mid there between next
      → Runs (one_then left right) g from there slot next
  then_right_runs {slot} {between} {next} left right g from mid there runs_l runs_r operands made now s =
      reaches_bind e code it.most (here now.objects now.answered from operands s) (left made s) _
      (Left form.Nothing low between) (Leads form.Nothing between mid operands) (Left g low next)
      (Leads g next there operands) (runs_l operands made now s)
      (λ x s1 l. runs_r operands x.made l.now s1)

  -- an operand, and the instructions that make of it what the operator does
  pub operand_runs : {slot next : ℕ} (part : Evaluates) (apply : Value → State → Evaluation Value) (f g : Form)
      (at l there : ℕ) (instrs : List Instr) (position : Pos) (a : List (Instr × Pos)) → length a ≡ l
      → StandAt code function at (a ++ on position instrs)
      → (StandAt code function at a → Runs part f at (at + l) slot next)
      → (StandAt code function (at + l) (on position instrs) → OneDoes f g (at + l) there apply)
      → Runs (of_one part apply) g at there slot next
  operand_runs part apply f g at l there instrs position a long stands runs acts =
      part_then part apply f g at (at + l) there (runs (stand_front code function at a (on position instrs) stands))
      (acts (stand_back code function at l a (on position instrs) long stands))

  pub one_runs : {slot next : ℕ} (part : Evaluates) (apply : Value → State → Evaluation Value) (f g : Form) (at l : ℕ)
      (instr : Instr) (position : Pos) (a : List (Instr × Pos)) → length a ≡ l
      → StandAt code function at (a ++ on position (instr ∷ []))
      → (StandAt code function at a → Runs part f at (at + l) slot next) → OneActs f g (at + l) instr position apply
      → Runs (of_one part apply) g at (at + (l + 1)) slot next
  one_runs part apply f g at l instr position a long stands runs acts =
      to_place (of_one part apply) g at (at + l + 1) _ (omega arith)
      (operand_runs part apply f g at l (at + l + 1) (instr ∷ []) position a long stands runs
      (λ after objects answered operands v s has.
      does_one (beside it objects answered) (at + l) (pushed f v operands) s instr position (apply v s) _ (HasKind g)
      after.0 (acts objects answered operands v s has)))

  -- the instructions behind two parts
  pub behind_two : (at l r : ℕ) (a b c : List (Instr × Pos)) → length a ≡ l → length b ≡ r
      → StandAt code function at (a ++ b ++ c) → StandAt code function (at + (l + r)) c
  behind_two at l r a b c long_a long_b stands =
      stand_back code function at (l + r) (a ++ b) c (omega (arith, length-append a b, long_a, long_b)) stands

  pub operands_run : {slot between next : ℕ} (left right : Evaluates)
      (apply : Value → Value → State → Evaluation Value) (f h g : Form)
      (at l r there : ℕ) (instrs : List Instr) (position : Pos) (a b : List (Instr × Pos)) → length a ≡ l
      → length b ≡ r → StandAt code function at (a ++ b ++ on position instrs)
      → (StandAt code function at a → Runs left f at (at + l) slot between)
      → (StandAt code function (at + l) b → Runs right h (at + l) (at + l + r) between next)
      → (StandAt code function (at + (l + r)) (on position instrs) → TwoDo f h g (at + (l + r)) there apply)
      → Runs (of_two left right apply) g at there slot next
  operands_run {slot} {between} {next} left right apply f h g at l r there instrs position a b long_a long_b stands
      runs_a runs_b acts =
      let both : StandAt code function at (a ++ b) =
      stand_front code function at (a ++ b) (on position instrs) stands in
      let right_runs : Runs right h (at + l) (at + (l + r)) between next =
      to_place right h (at + l) (at + l + r) _ (omega arith)
      (runs_b (stand_back code function at l a b long_a both)) in
      λ operands made now s.
      reaches_bind e code it.most (here now.objects now.answered at operands s) (left made s) _ (Left f low between)
      (Leads f between (at + l) operands) (Left g low next) (Leads g next there operands)
      (runs_a (stand_front code function at a b both) operands made now s)
      (λ x s1 one.
      reaches_bind e code it.most _ (right x.made s1) _ (Left h low next) (Leads h next (at + (l + r)) (pushed f x.value
      operands)) (Left g low next) (Leads g next there operands)
      (right_runs (pushed f x.value operands) x.made one.now s1)
      (λ y s2 two.
      does_then e code it.most _ (apply x.value y.value s2) _
      (λ w s3. here two.now.objects two.now.answered there (pushed g w operands) s3) (HasKind g) (Left g low next)
      (Leads g next there operands)
      (acts (behind_two at l r a b (on position instrs) long_a long_b stands) two.now.objects two.now.answered operands
      x.value y.value s2 one.kind two.kind)
      (λ w s3 has. reaches_gives e code it.most _ (record y { value = w }) s3 (Left g low next)
      (Leads g next there operands)
      (record { kind = has; now = two.now }) refl)))

  pub two_run : {slot between next : ℕ} (left right : Evaluates) (apply : Value → Value → State → Evaluation Value)
      (f h g : Form) (at l r : ℕ) (instr : Instr) (position : Pos) (a b : List (Instr × Pos)) → length a ≡ l
      → length b ≡ r → StandAt code function at (a ++ b ++ on position (instr ∷ []))
      → (StandAt code function at a → Runs left f at (at + l) slot between)
      → (StandAt code function (at + l) b → Runs right h (at + l) (at + l + r) between next)
      → TwoAct f h g (at + (l + r)) instr position apply
      → Runs (of_two left right apply) g at (at + (l + (r + 1))) slot next
  two_run left right apply f h g at l r instr position a b long_a long_b stands runs_a runs_b acts =
      to_place (of_two left right apply) g at (at + (l + r) + 1) _ (omega arith)
      (operands_run left right apply f h g at l r (at + (l + r) + 1) (instr ∷ []) position a b long_a long_b stands
      runs_a runs_b (λ after objects answered operands v w s has_v has_w.
      does_one (beside it objects answered) (at + (l + r)) (pushed h w (pushed f v operands)) s instr position
      (apply v w s) _ (HasKind g) after.0 (acts objects answered operands v w s has_v has_w)))

  -- ---- leaves, choices

  pub leaf_runs : {slot : ℕ} (v : Value) (g : Form) (at : ℕ) (instr : Instr) (position : Pos)
      → StandAt code function at (on position (instr ∷ [])) → HasKind g v
      → ((objects : List Held) (answered : Bool) (operands : List Value) (s : State) → AreValues low slot objects
      → part.acting (beside it objects answered) at operands position s instr
      ≡ here objects answered (at + 1) (pushed g v operands) s)
      → Runs (yields v) g at (at + 1) slot (slot + 0)
  leaf_runs {slot} v g at instr position stands has acts operands made now s =
      reaches_from e code it.most _ (part.acting (beside it now.objects now.answered) at operands position s instr)
      (yields v made s) (Left g low (slot + 0)) (Leads g (slot + 0) (at + 1) operands)
      (one_step (beside it now.objects now.answered) at operands s instr position stands.0)
      (reaches_gives e code it.most _ (record { value = v; made = made }) s (Left g low (slot + 0))
      (Leads g (slot + 0) (at + 1) operands)
      (record { kind = has; now = holding_more low slot (slot + 0) made (omega arith) now }) (acts now.objects
      now.answered operands s now.slots))

  -- by a number: to one place where it is 0, and else to the next
  pub fork_does : {slot next : ℕ} (x y : Evaluates) (g : Form) (at to there : ℕ) (position : Pos)
      → StandAt code function at (on position (i.IfZero to ∷ []))
      → Runs x g (at + 1) there slot next → Runs y g to there slot next → (operands : List Value) (made : List ℕ)
      (now : Holding low slot made) (n : ℤ) (s : State)
      → Reaches e code it.most (here now.objects now.answered at (Num n ∷ operands) s)
      (one_of (not (is_zero n)) x y made s)
      (Left g low next) (Leads g next there operands)
  fork_does {slot} {next} x y g at to there position stands runs_x runs_y operands made now n s =
      reaches_from e code it.most _ _ (one_of (not (is_zero n)) x y made s) (Left g low next)
      (Leads g next there operands)
      (one_step (beside it now.objects now.answered) at (Num n ∷ operands) s (i.IfZero to) position stands.0)
      (by_zero (is_zero n))
    where
      by_zero : (b : Bool) → Reaches e code it.most (cond b (here now.objects now.answered to operands s)
          (here now.objects now.answered (at + 1) operands s)) (one_of (not b) x y made s) (Left g low next)
          (Leads g next there operands)
      by_zero true = runs_y operands made now s
      by_zero false = runs_x operands made now s

  pub test_runs : {slot between next : ℕ} (test x y : Evaluates) (f g : Form) (at l to there : ℕ) (position : Pos)
      → IsNumber f → Runs test f at (at + l) slot between
      → StandAt code function (at + l) (on position (i.IfZero to ∷ []))
      → Runs x g (at + l + 1) there between next → Runs y g to there between next
      → Runs (by_test test x y) g at there slot next
  test_runs {slot} {between} {next} test x y f g at l to there position is runs stands runs_x runs_y operands made now
      s =
      reaches_bind e code it.most _ (test made s) _ (Left f low between) (Leads f between (at + l) operands)
      (Left g low next)
      (Leads g next there operands) (runs operands made now s) (λ v s1 left.
      let number : (n : ℤ) × IsLeftAs f v.value (Num n) = number_left f v.value is left.kind in
      let objects : List Held = left.now.objects in
      let answered : Bool = left.now.answered in
      let d : Reaches e code it.most (here objects answered (at + l) (Num number.0 ∷ operands) s1)
      (one_of (not (is_zero number.0)) x y v.made s1) (Left g low next) (Leads g next there operands) =
      fork_does x y g (at + l) to there position stands runs_x runs_y operands v.made left.now number.0 s1 in
      subst (λ ops. Reaches e code it.most (here objects answered (at + l) ops s1)
      (one_of (is_true v.value) x y v.made s1)
      (Left g low next) (Leads g next there operands)) (sym (number.1.on_top operands))
      (subst (λ w. Reaches e code it.most (here objects answered (at + l) (Num number.0 ∷ operands) s1)
      (one_of (is_true w) x y v.made s1) (Left g low next) (Leads g next there operands)) (sym number.1.value_is) d))

  -- ---- jumps

  pub jump_runs : {slot next : ℕ} (part : Evaluates) (f : Form) (from mid to : ℕ) (position : Pos)
      → StandAt code function mid (on position (i.Jump to ∷ [])) → Runs part f from mid slot next
      → Runs part f from to slot next
  jump_runs {slot} {next} part f from mid to position stands runs operands made now s =
      reaches_on e code it.most _ (part made s) (Left f low next) (Leads f next mid operands) (Left f low next)
      (Leads f next to operands) (runs operands made now s)
      (λ x s1 left. (
        left,
        one_step (beside it left.now.objects left.now.answered) mid (pushed f x.value operands) s1
            (i.Jump to) position stands.0,
      ))
