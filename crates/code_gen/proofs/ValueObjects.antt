-- Value objects: how they are made.
use Rattle.std.proofs.Common.{◌≡◌, ◌∙◌, ℕ, ◌+◌, ◌≤◌, ◌==◌, Bool, true, List, [], ◌∷◌, ◌++◌, refl, ap, sym}
use Rattle.std.proofs.Common.{subst, arith}
use Rattle.std.proofs.lemmas.Bool.{eq-eqb}
use Rattle.critical_table.specs.declared.pos.Pos.{Pos}
use Rattle.object_store.specs.declared.pointer.Pointer.{Pointer}
use Rattle.object_store.specs.declared.class.Class.TheVariants.{Automatic}
use Rattle.c_core.specs.declared.form.Form.TheVariants as form
use Rattle.c_core.specs.Forms.{form_of}
use Rattle.c_core.specs.Tree.{Core}
use Rattle.c_core.specs.TreeUnit.{Program}
use Rattle.lib_defs.specs.declared.value.Value.{Value}
use Rattle.lib_defs.specs.declared.value.Value.TheVariants.{Ptr}
use Rattle.object_store.specs.Steps.{next_number}
use Rattle.run_defs.specs.State.{State, made}
use Rattle.run_defs.specs.Evaluation.{Evaluation, Gives, Stops, bind, whole, automatic_made, ticked, within}
use Rattle.run_defs.specs.Functions.{Environment}
use Rattle.vm_code.specs.declared.instr.Instr.{Instr}
use Rattle.vm_code.specs.declared.instr.Instr.TheVariants as i
use Rattle.vm_code.specs.declared.parts.CodeFunction.{CodeFunction}
use Rattle.vm_code.specs.Accesses.{copied, pointer_in}
use Rattle.vm_code.specs.Contents.{Contents}
use Rattle.vm_code.specs.Machine.{act}
use Rattle.vm_code.specs.Frames.{Place, after}
use Rattle.vm_code.specs.Slots.{Held}
use Rattle.code_gen.specs.CalledTypes.{Through}
use Rattle.code_gen.specs.Evaluating.{Evaluates}
use Rattle.code_gen.specs.ExpressionCode.{on, code_at, objects_in}
use Rattle.code_gen.specs.ExpressionCode as code_sizes
use Rattle.code_gen.specs.Expressions.{Call, value, argument_object}
use Rattle.code_gen.specs.RunLaw.{pushed, Reaches, StandAt, Left, Running}
use Rattle.code_gen.proofs.Going.{Does, IfGives, stand_front, stand_back, comes_on, comes_same, one_step, does_from}
use Rattle.code_gen.proofs.Going.{does_same, does_then, reaches_gives, reaches_bind, sees}
use Rattle.code_gen.proofs.Lengths.{code_long}
use Rattle.code_gen.proofs.PlainParts.{IsLeftAs, pointer_left, a_place}
use Rattle.code_gen.proofs.PlainStretches as stretch

pub bind_behind : {A B C : Type 0} (x : Evaluation A) (f : A → State → Evaluation B) (g : B → State → Evaluation C)
    → bind x (λ v s. bind (f v s) g) ≡ bind (bind x f) g
bind_behind (Gives v s) f g = refl
bind_behind (Stops outcome s) f g = refl

-- an object that is made has bounds from its start to its end
abbrev pub IsWhole : ℕ → Pointer → Type 0
IsWhole size place = whole place.object size ≡ place

abbrev automatic_given : ℕ → State → Evaluation Pointer
automatic_given size s = Gives (whole (next_number s.world.store Automatic) size) (made size Automatic s)

pub made_whole : (size : ℕ) (s : State) → IfGives (IsWhole size) (automatic_made size s)
made_whole size s = from_ticks (ticked s)
  where
    from_bytes : (x : Evaluation (Unit {0})) → IfGives (IsWhole size) (bind x (λ v s2. automatic_given size s2))
    from_bytes (Gives v s2) = refl
    from_bytes (Stops outcome s2) = tt

    from_ticks : (x : Evaluation (Unit {0}))
        → IfGives (IsWhole size) (bind x (λ u s1. bind (within size s1) (λ v s2. automatic_given size s2)))
    from_ticks (Gives u s1) = from_bytes (within size s1)
    from_ticks (Stops outcome s1) = tt

module _ (it : Running) (low : ℕ) where
  abbrev e : Environment
  e = it.environment

  abbrev code : Contents
  code = it.code

  abbrev function : CodeFunction
  function = it.function

  abbrev here : List Held → Bool → ℕ → List Value → State → Place
  here objects answered at operands s = stretch.here it low objects answered at operands s

  abbrev pub held_new : (slot : ℕ) → Pointer → (size : ℕ) → Held
  held_new slot place size = record { slot = slot; number = place.object; size = size }

  pub make_does : (slot size : ℕ) (at : ℕ) (position : Pos) (objects : List Held) (answered : Bool)
      (operands : List Value) (s : State)
      → StandAt code function at (on position (i.Make slot size ∷ []))
      → Does e code (here objects answered at operands s) (automatic_made size s)
      (λ place s1. here (held_new slot place size ∷ objects) answered (at + 1) operands s1) (IsWhole size)
  make_does slot size at position objects answered operands s stands =
      let other : Running = stretch.beside it objects answered in
      does_from e code _ _ (automatic_made size s) _ (IsWhole size)
      (one_step other at operands s (i.Make slot size) position stands.0)
      (does_same e code _ (automatic_made size s) _ (IsWhole size) refl (made_whole size s))

  pub copy_does : (slot size : ℕ) (at there : ℕ) (position : Pos) (objects : List Held) (answered : Bool)
      (operands : List Value) (place p : Pointer) (s : State) → at + 1 + 1 + 1 ≡ there → IsWhole size place
      → StandAt code function at (on position (i.Slot slot ∷ i.Swap ∷ i.Copy size ∷ []))
      → Does e code (here (held_new slot place size ∷ objects) answered at (Ptr p ∷ operands) s)
      (copied size place p position s)
      (λ u s1. here (held_new slot place size ∷ objects) answered there (Ptr place ∷ operands) s1)
      (λ u. Unit {0})
  copy_does slot size at there position objects answered operands place p s same whole_is stands =
      let held : List Held = held_new slot place size ∷ objects in
      let other : Running = stretch.beside it held answered in
      let own : (slot == slot) ≡ true = eq-eqb slot slot refl in
      does_from e code _
      (act (sees other (at + 1 + 1) (Ptr p ∷ Ptr place ∷ operands) position s) (i.Copy size))
      (copied size place p position s) _ (λ u. Unit {0})
      (comes_on e code _ _ _
      (comes_on e code _ _ _
      (one_step other at (Ptr p ∷ operands) s (i.Slot slot) position stands.0)
      (comes_same e code _ (here held answered (at + 1) (Ptr place ∷ Ptr p ∷ operands) s)
      (rw own (ap (λ q. here held answered (at + 1) (Ptr q ∷ Ptr p ∷ operands) s) whole_is))))
      (comes_on e code _ _ _
      (one_step other (at + 1) (Ptr place ∷ Ptr p ∷ operands) s i.Swap position stands.1.0)
      (one_step other (at + 1 + 1) (Ptr p ∷ Ptr place ∷ operands) s (i.Copy size) position stands.1.1.0)))
      (does_same e code _ (copied size place p position s) _ (λ u. Unit {0})
      (after_copy (copied size place p position s)
      ∙ ap (λ k. after (copied size place p position s) (λ u s1. here held answered k (Ptr place ∷ operands) s1)) same)
      (if_any (copied size place p position s)))
    where
      if_any : (x : Evaluation (Unit {0})) → IfGives (λ u. Unit {0}) x
      if_any (Gives u s1) = tt
      if_any (Stops outcome s1) = tt

      after_copy : (x : Evaluation (Unit {0}))
          → after (bind x (λ u s1. Gives (Ptr place) s1)) (λ v s1.
          here (held_new slot place size ∷ objects) answered (at + 1 + 1 + 1) (v ∷ operands) s1)
          ≡ after x (λ u s1.
          here (held_new slot place size ∷ objects) answered (at + 1 + 1 + 1) (Ptr place ∷ operands) s1)
      after_copy (Gives u s1) = refl
      after_copy (Stops outcome s1) = refl

  module _ (program : Program) (table : List Through) (call : Call) where
    abbrev val : Core → Evaluates
    val core = value program call it.frame.held core

    -- the place of the object is left
    pub value_object_runs : (operand : Core) (size at slot : ℕ) (position : Pos) → low ≤ slot
        → StandAt code function at (code_at program table at slot operand
        ++ on position (i.Make (slot + objects_in operand) size ∷ i.Slot (slot + objects_in operand) ∷ i.Swap
        ∷ i.Copy size ∷ [])) → form_of operand ≡ form.Place
        → (StandAt code function at (code_at program table at slot operand)
        → stretch.Runs it low (val operand) (form_of operand) at (at + code_sizes.size_in operand) slot
        (slot + objects_in operand))
        → stretch.Runs it low
        (λ made s. bind (val operand made s) (λ x s1. argument_object size (pointer_in x.value) position x.made s1))
        form.Place at (at + (code_sizes.size_in operand + 4)) slot (slot + (objects_in operand + 1))
    value_object_runs operand size at slot position above stands is_place runs operands made now s =
        let next : ℕ = slot + objects_in operand in
        let k : ℕ = at + code_sizes.size_in operand in
        let last : ℕ = slot + (objects_in operand + 1) in
        let there : ℕ = at + (code_sizes.size_in operand + 4) in
        let a : List (Instr × Pos) = code_at program table at slot operand in
        let b : List (Instr × Pos) = on position (i.Make next size ∷ i.Slot next ∷ i.Swap ∷ i.Copy size ∷ []) in
        let behind : StandAt code function k b =
        stand_back code function at (code_sizes.size_in operand) a b (code_long program table at slot operand) stands in
        reaches_bind e code it.most _ (val operand made s) _ (Left (form_of operand) low next)
        (stretch.Leads it low (form_of operand) next k operands) (Left form.Place low last)
        (stretch.Leads it low form.Place last there operands)
        (runs (stand_front code function at a b stands) operands made now s)
        (λ x s1 left.
        let l : (p : Pointer) × IsLeftAs (form_of operand) x.value (Ptr p) =
        pointer_left (form_of operand) x.value (a_place (form_of operand) is_place) left.kind in
        subst (λ v. Reaches e code it.most (here left.now.objects left.now.answered k (pushed (form_of operand) x.value
        operands)
        s1) (argument_object size (pointer_in v) position x.made s1) (Left form.Place low last)
        (stretch.Leads it low form.Place last there operands)) (sym l.1.value_is)
        (subst (λ ops. Reaches e code it.most (here left.now.objects left.now.answered k ops s1)
        (argument_object size l.0 position x.made s1) (Left form.Place low last)
        (stretch.Leads it low form.Place last there operands)) (sym (l.1.on_top operands))
        (subst (λ ev. Reaches e code it.most (here left.now.objects left.now.answered k (Ptr l.0 ∷ operands) s1) ev
        (Left form.Place low last) (stretch.Leads it low form.Place last there operands))
        (bind_behind (automatic_made size s1) (λ place s2. Gives (record {
          value = Ptr place;
          made = place.object ∷ x.made;
        }) s2) (λ y s2. bind (copied size (pointer_in y.value) l.0 position s2) (λ u s3. Gives y s3)))
        (does_then e code it.most _ (automatic_made size s1) _
        (λ place s2. here (held_new next place size ∷ left.now.objects) left.now.answered (k + 1) (Ptr l.0 ∷ operands)
        s2) (IsWhole size) (Left form.Place low last) (stretch.Leads it low form.Place last there operands)
        (make_does next size k position left.now.objects left.now.answered (Ptr l.0 ∷ operands) s1 (behind.0, tt))
        (λ place s2 is_whole.
        does_then e code it.most _ (copied size place l.0 position s2) _
        (λ u s3. here (held_new next place size ∷ left.now.objects) left.now.answered there (Ptr place ∷ operands) s3)
        (λ u. Unit {0}) (Left form.Place low last) (stretch.Leads it low form.Place last there operands)
        (copy_does next size (k + 1) there position left.now.objects left.now.answered operands place l.0 s2
        (omega arith) is_whole behind.1)
        (λ u s3 any. reaches_gives e code it.most _ (record { value = Ptr place; made = place.object ∷ x.made }) s3
        (Left form.Place low last) (stretch.Leads it low form.Place last there operands)
        (record {
          kind = (place, refl);
          now = record {
            objects = held_new next place size ∷ left.now.objects;
            slots = (omega (arith, above), omega arith, left.now.slots);
            same = ap (λ numbers. place.object ∷ numbers) left.now.same;
            answered = left.now.answered;
          };
        }) refl))))))
