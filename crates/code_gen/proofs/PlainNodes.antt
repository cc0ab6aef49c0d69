-- Nodes with one operand and with two, and names.
use Rattle.std.proofs.Common.{◌≡◌, ℕ, ◌+◌, ◌<◌, ◌==◌, Bool, true, false, cond, List, [], ◌∷◌, ◌++◌, Some, refl, subst}
use Rattle.std.proofs.Common.{arith}
use Rattle.critical_table.specs.declared.pos.Pos.{Pos}
use Rattle.c_core.specs.declared.form.Form.{Form}
use Rattle.c_core.specs.declared.form.Form.TheVariants as form
use Rattle.c_core.specs.declared.named.ObjectName.{ObjectName}
use Rattle.c_core.specs.declared.named.ObjectName.TheVariants as object
use Rattle.c_core.specs.Forms.{form_of}
use Rattle.c_core.specs.Named.{Names, NamesObject, size_in as size_in_slot}
use Rattle.std.specs.Prelude.{IsSome, Option, None}
use Rattle.c_core.specs.Tree.{Core}
use Rattle.c_core.specs.TreeUnit.{Program}
use Rattle.lib_defs.specs.declared.value.Value.{Value}
use Rattle.lib_defs.specs.declared.value.Value.TheVariants.{Ptr}
use Rattle.run_defs.specs.State.{State}
use Rattle.run_defs.specs.Evaluation.{Evaluation}
use Rattle.run_defs.specs.Functions.{Environment}
use Rattle.vm_code.specs.declared.instr.Instr.{Instr}
use Rattle.vm_code.specs.declared.instr.Instr.TheVariants as i
use Rattle.vm_code.specs.declared.parts.CodeFunction.{CodeFunction}
use Rattle.vm_code.specs.Contents.{Contents}
use Rattle.vm_code.specs.Frames.{Activation, Frame}
use Rattle.vm_code.specs.Slots.{Held, held_in}
use Rattle.code_gen.specs.CalledTypes.{Through}
use Rattle.code_gen.specs.Designation.{object_place}
use Rattle.code_gen.specs.Evaluating.{Evaluates, of_one, of_two, yields}
use Rattle.code_gen.specs.ExpressionCode.{on, code_at, code_of, size_of, same_code, same_size, objects_in, object_code}
use Rattle.code_gen.specs.ExpressionCode.{truth_code, false_code, true_code}
use Rattle.code_gen.specs.ExpressionCode as code_sizes
use Rattle.code_gen.specs.Expressions.{Call, value}
use Rattle.code_gen.specs.RunLaw.{StandAt}
use Rattle.code_gen.specs.RunLaw.{AreValues, AreBelow, IsAround}
use Rattle.std.proofs.lemmas.Bool.{eqb-true, ne_eqb}
use Rattle.std.proofs.lemmas.Option.{none-some}
use Rattle.code_gen.proofs.Lengths.{code_long}
use Rattle.code_gen.proofs.PlainStretches as stretch
use Rattle.code_gen.specs.RunLaw.{Running}
use Rattle.code_gen.specs.ExpressionCode.{update_code, postfix_code}

abbrev IsFalse : Bool → Type 0
IsFalse true = ⊥
IsFalse false = Unit {0}

pub some_is : {A : Type 0} (o : Option A) → IsSome o → (x : A) × (o ≡ Some x)
some_is None is = absurd (subst IsFalse is tt)
some_is (Some x) is = (x, refl)

pub held_low : (slot low : ℕ) (held : List Held) (h : Held) → AreBelow low held → held_in slot held ≡ Some h
    → slot < low
held_low slot low [] h below found = absurd (none-some h found)
held_low slot low (o ∷ held) h below found =
    by_slot (o.slot == slot) refl (λ is. held_low slot low held h below.1 is) found
  where
    by_slot : (b : Bool) → (o.slot == slot) ≡ b → (held_in slot held ≡ Some h → slot < low)
        → cond b (Some o) (held_in slot held) ≡ Some h → slot < low
    by_slot true same later is = omega (arith, eqb-true o.slot slot same, below.0)
    by_slot false other later is = later is

module _ (it : Running) (low : ℕ) (program : Program) (table : List Through) (call : Call) where
  abbrev e : Environment
  e = it.environment

  abbrev code : Contents
  code = it.code

  abbrev function : CodeFunction
  function = it.function

  abbrev frame : Activation
  frame = it.frame

  abbrev rest : List Frame
  rest = it.rest

  abbrev val : Core → Evaluates
  val core = value program call frame.held core

  abbrev Runs : Evaluates → Form → (from to slot next : ℕ) → Type 0
  Runs x f from to slot next = stretch.Runs it low x f from to slot next

  abbrev StandsAt : ℕ → List (Instr × Pos) → Type 0
  StandsAt at instrs = StandAt code function at instrs

  abbrev size_in : Core → ℕ
  size_in core = code_sizes.size_in core

  -- an expression where its code stands
  abbrev pub RunsThere : Core → (at slot : ℕ) → Type 0
  RunsThere x at slot = StandsAt at (code_at program table at slot x)
      → Runs (val x) (form_of x) at (at + size_in x) slot (slot + objects_in x)

  -- ---- names

  -- value objects stand in other slots
  pub held_under : (slot high : ℕ) (objects held : List Held) (h : Held) → AreValues low high objects
      → AreBelow low held → held_in slot held ≡ Some h → held_in slot (objects ++ held) ≡ Some h
  held_under slot high [] held h are below found = found
  held_under slot high (o ∷ objects) held h are below found =
      let under : slot < low = held_low slot low held h below found in
      let other : (o.slot == slot) ≡ false = ne_eqb _ _ (λ same. omega (arith, same, under, are.0)) in
      rw other (held_under slot o.slot objects held h are.2 below found)

  pub object_runs : (names : Names) → IsAround names low it.frame.held → (name : ObjectName) → NamesObject names name
      → (at slot : ℕ) (position : Pos) → StandsAt at (on position (object_code program table name ∷ []))
      → Runs (yields (Ptr (object_place program.statics frame.held name))) form.Place at (at + 1) slot (slot + 0)
  object_runs names around (object.Slot named) is at slot position stands =
      let size : (size : ℕ) × (size_in_slot named names.objects ≡ Some size) =
      some_is (size_in_slot named names.objects) is in
      let h : (h : Held) × (held_in named frame.held ≡ Some h) × (h.size ≡ size.0) =
      around.named named size.0 size.1 in
      stretch.leaf_runs it low {slot = slot} (Ptr (object_place program.statics frame.held (object.Slot named)))
      form.Place at (i.Slot named) position stands (_, refl)
      (λ objects answered operands s slots.
      rw (held_under named slot objects frame.held h.0 slots around.below h.1) (rw h.1 refl))
  object_runs names around (object.Static token) is at slot position stands =
      stretch.leaf_runs it low {slot = slot} _ form.Place at _ position stands (_, refl)
      (λ objects answered operands s slots. refl)

  pub as_form : (core : Core) (f : Form) → form_of core ≡ f → (at slot : ℕ)
      → Runs (val core) (form_of core) at (at + size_in core) slot (slot + objects_in core)
      → Runs (val core) f at (at + size_in core) slot (slot + objects_in core)
  as_form core f same at slot runs = stretch.in_form it low {slot = slot} {next = slot + objects_in core} (val core)
      (form_of core) f at (at + size_in core) same runs

  -- nodes with one operand, and with two
  pub one_node : (x : Core) (apply : Value → State → Evaluation Value) (g : Form) (instr : Instr) (at slot : ℕ)
      (position : Pos) → StandsAt at (code_at program table at slot x ++ on position (instr ∷ []))
      → RunsThere x at slot
      → stretch.OneActs it low (form_of x) g (at + size_in x) instr position apply
      → Runs (of_one (val x) apply) g at (at + (size_in x + 1)) slot (slot + objects_in x)
  one_node x apply g instr at slot position stands runs acts =
      stretch.one_runs it low {slot = slot} {next = slot + objects_in x} (val x) apply (form_of x) g at
      (size_in x) instr position (code_at program table at slot x) (code_long program table at slot x) stands runs acts

  abbrev pub code_of_two : Core → Core → ℕ → ℕ → Pos → List Instr → List (Instr × Pos)
  code_of_two x y at slot position instrs = code_at program table at slot x
      ++ code_at program table (at + size_in x) (slot + objects_in x) y ++ on position instrs

  pub slots_together : {part : Evaluates} {f : Form} {from to : ℕ} (slot a b : ℕ)
      → Runs part f from to slot (slot + a + b) → Runs part f from to slot (slot + (a + b))
  slots_together {part} {f} {from} {to} slot a b runs =
      let same : slot + a + b ≡ slot + (a + b) = omega arith in
      subst (λ next. Runs part f from to slot next) same runs

  pub more_nodes : (x y : Core) (apply : Value → Value → State → Evaluation Value) (g : Form) (there : ℕ)
      (instrs : List Instr) (at slot : ℕ) (position : Pos)
      → StandsAt at (code_of_two x y at slot position instrs)
      → RunsThere x at slot → RunsThere y (at + size_in x) (slot + objects_in x)
      → (StandsAt (at + (size_in x + size_in y)) (on position instrs)
      → stretch.TwoDo it low (form_of x) (form_of y) g (at + (size_in x + size_in y)) there apply)
      → Runs (of_two (val x) (val y) apply) g at there slot (slot + (objects_in x + objects_in y))
  more_nodes x y apply g there instrs at slot position stands runs_x runs_y acts =
      slots_together slot (objects_in x) (objects_in y)
      (stretch.operands_run it low {slot = slot} {between = slot + objects_in x}
      {next = slot + objects_in x + objects_in y} (val x) (val y)
      apply (form_of x) (form_of y) g at (size_in x) (size_in y) there instrs position (code_at program table at slot x)
      (code_at program table (at + size_in x) (slot + objects_in x) y) (code_long program table at slot x)
      (code_long program table (at + size_in x) (slot + objects_in x) y) stands runs_x runs_y acts)

  pub two_nodes : (x y : Core) (apply : Value → Value → State → Evaluation Value) (g : Form) (instr : Instr)
      (at slot : ℕ) (position : Pos) → StandsAt at (code_of_two x y at slot position (instr ∷ []))
      → RunsThere x at slot → RunsThere y (at + size_in x) (slot + objects_in x)
      → stretch.TwoAct it low (form_of x) (form_of y) g (at + (size_in x + size_in y)) instr position apply
      → Runs (of_two (val x) (val y) apply) g at (at + (size_in x + (size_in y + 1))) slot
      (slot + (objects_in x + objects_in y))
  two_nodes x y apply g instr at slot position stands runs_x runs_y acts =
      slots_together slot (objects_in x) (objects_in y)
      (stretch.two_run it low {slot = slot} {between = slot + objects_in x}
      {next = slot + objects_in x + objects_in y} (val x) (val y)
      apply (form_of x) (form_of y) g at (size_in x) (size_in y) instr position (code_at program table at slot x)
      (code_at program table (at + size_in x) (slot + objects_in x) y) (code_long program table at slot x)
      (code_long program table (at + size_in x) (slot + objects_in x) y) stands runs_x runs_y acts)
