-- Compound assignment and steps: the place is reached to store and loaded, and what is made of its content is stored.
use Rattle.std.proofs.Common.{◌≡◌, ℕ, ◌+◌, List, ◌∷◌, Some, refl, sym}
use Rattle.std.proofs.Common.{subst, arith}
use Rattle.std.specs.Prelude.{ℤ, pos, Result}
use Rattle.acc_num.specs.declared.fault.NumFault.{NumFault}
use Rattle.acc_num.specs.declared.kind.IntKind.{IntKind}
use Rattle.acc_num.specs.declared.kind.IntKind.TheVariants.{I32}
use Rattle.acc_num.specs.Operations.{converted_to}
use Rattle.critical_table.specs.declared.pos.Pos.{Pos}
use Rattle.object_store.specs.declared.pointer.Pointer.{Pointer}
use Rattle.c_core.specs.declared.form.Form.{Form}
use Rattle.c_core.specs.declared.form.Form.TheVariants as form
use Rattle.c_core.specs.declared.form.Scalar.{Scalar}
use Rattle.c_core.specs.declared.form.Scalar.TheVariants as scalar
use Rattle.c_core.specs.declared.operator.Operator.{Operator}
use Rattle.c_core.specs.declared.operator.Stride.{Stride}
use Rattle.c_core.specs.Forms.{scalar_form}
use Rattle.c_core.specs.Operations.{operator_outcome, is_shift}
use Rattle.c_core.specs.Types.{IsNumber}
use Rattle.lib_defs.specs.declared.value.Value.{Value}
use Rattle.lib_defs.specs.declared.value.Value.TheVariants.{Num, Ptr}
use Rattle.run_defs.specs.State.{State}
use Rattle.run_defs.specs.Evaluation.{Evaluation, Gives, Stops, bind, reached}
use Rattle.run_defs.specs.Functions.{Environment}
use Rattle.vm_code.specs.declared.instr.Instr.{Instr}
use Rattle.vm_code.specs.declared.instr.Instr.TheVariants as i
use Rattle.vm_code.specs.declared.parts.CodeFunction.{CodeFunction}
use Rattle.vm_code.specs.Accesses.{number_in, pointer_in, loaded, scalar_stored}
use Rattle.vm_code.specs.Contents.{Contents}
use Rattle.vm_code.specs.Frames.{Activation, Frame, Place, after}
use Rattle.vm_code.specs.Machine.{fetched}
use Rattle.vm_code.specs.Operators.{computed, pointer_moved}
use Rattle.vm_code.specs.Pointers.{moved}
use Rattle.code_gen.specs.ExpressionCode.{on}
use Rattle.code_gen.specs.RunLaw.{HasKind, pushed, StandAt, Running}
use Rattle.code_gen.proofs.Going.{IfGives, Does}
use Rattle.code_gen.specs.RunLaw.{standing}
use Rattle.code_gen.proofs.Going.{does_one, does_same, does_gives}
use Rattle.code_gen.proofs.PlainParts as part
use Rattle.code_gen.proofs.PlainParts.{IsPointer, a_pointer, a_place, a_number, IsLeftAs, number_left, pointer_left}
use Rattle.acc_num.specs.Kinds.{bytes_of}
use Rattle.object_store.specs.declared.by.By.TheVariants.{Store}
use Rattle.run_defs.specs.Loads.{pointer_size, pointer_align}
use Rattle.c_core.specs.declared.operator.Change.{Change}
use Rattle.c_core.specs.declared.operator.Change.TheVariants as change
use Rattle.c_core.specs.Forms.{changed_form}
use Rattle.vm_code.specs.Accesses.{scalar_attempt}
use Rattle.code_gen.specs.ExpressionCode.{update_code, postfix_code, update_size, postfix_size}
use Rattle.c_core.specs.Typed.{FitsChange}
use Rattle.code_gen.specs.Updates.{Contents as Changed, changed_scalar, new_content, updated}
use Rattle.code_gen.proofs.Going.{does_bind}
use Rattle.code_gen.proofs.PlainActs as acts

pub after_bind : {A B : Type 0} (x : Evaluation A) (f : A → State → Evaluation B) (to : B → State → Place)
    → after (bind x f) to ≡ after x (λ v s. after (f v s) to)
after_bind (Gives v s) f to = refl
after_bind (Stops outcome s) f to = refl

module _ (it : Running) where
  abbrev e : Environment
  e = it.environment

  abbrev code : Contents
  code = it.code

  abbrev function : CodeFunction
  function = it.function

  abbrev frame : Activation
  frame = it.frame

  abbrev rest : List Frame
  rest = it.rest

  abbrev StandsAt : ℕ → List (Instr × Pos) → Type 0
  StandsAt at instrs = StandAt code function at instrs

  abbrev now : ℕ → List Value → State → Place
  now at operands s = standing frame rest at operands s

  abbrev pub any : {A : Type 0} → A → Type 0
  any v = Unit {0}

  step : {A : Type 0} (at : ℕ) (operands : List Value) (s : State) (instr : Instr) (position : Pos) (x : Evaluation A)
      (to : A → State → Place) (fits : A → Type 0) → fetched code function at ≡ Some (instr, position)
      → Does e code (part.acting it at operands position s instr) x to fits
      → Does e code (now at operands s) x to fits
  step at operands s instr position x to fits is d =
      does_one it at operands s instr position x to fits is d

  pub if_any : {A : Type 0} (x : Evaluation A) → IfGives any x
  if_any (Gives v s) = tt
  if_any (Stops outcome s) = tt

  -- ---- the place

  abbrev reach_of : Scalar → Instr
  reach_of (scalar.Number kind) = i.Reach (bytes_of kind) (bytes_of kind) Store
  reach_of scalar.Pointer = i.Reach pointer_size pointer_align Store

  reach_does : (of : Scalar) (p : Pointer) (below : List Value) (at : ℕ) (position : Pos) (s : State)
      → fetched code function at ≡ Some (reach_of of, position)
      → Does e code (now at (Ptr p ∷ below) s) (reached (scalar_attempt of p) position s)
      (λ u s1. now (at + 1) (Ptr p ∷ below) s1) any
  reach_does (scalar.Number kind) p below at position s is =
      step at (Ptr p ∷ below) s (reach_of (scalar.Number kind)) position _ _ any is (does_same e code _
      (reached (scalar_attempt (scalar.Number kind) p) position s) _ any
      (after_bind (reached (scalar_attempt (scalar.Number kind) p) position s) (λ u s1. Gives (Ptr p) s1)
      (λ v s1. now (at + 1) (v ∷ below) s1)) (if_any _))
  reach_does scalar.Pointer p below at position s is =
      step at (Ptr p ∷ below) s (reach_of scalar.Pointer) position _ _ any is (does_same e code _
      (reached (scalar_attempt scalar.Pointer p) position s) _ any
      (after_bind (reached (scalar_attempt scalar.Pointer p) position s) (λ u s1. Gives (Ptr p) s1)
      (λ v s1. now (at + 1) (v ∷ below) s1)) (if_any _))

  load_does : (of : Scalar) (p : Pointer) (below : List Value) (at : ℕ) (position : Pos) (s : State)
      → fetched code function at ≡ Some (i.Load of, position)
      → Does e code (now at (Ptr p ∷ below) s) (loaded of p position s) (λ v s1. now (at + 1) (v ∷ below) s1)
      (HasKind (scalar_form of))
  load_does of p below at position s is = step at (Ptr p ∷ below) s (i.Load of) position (loaded of p position s)
      (λ v s1. now (at + 1) (v ∷ below) s1) (HasKind (scalar_form of)) is
      (does_same e code _ (loaded of p position s) _ (HasKind (scalar_form of)) refl
      (acts.loaded_fits it of p position s))

  pub store_does : (of : Scalar) (p : Pointer) (v : Value) (below : List Value) (at : ℕ) (position : Pos) (s : State)
      → HasKind (scalar_form of) v → fetched code function at ≡ Some (i.Store of, position)
      → Does e code (now at (v ∷ Ptr p ∷ below) s) (scalar_stored of p v position s)
      (λ u s1. now (at + 1) (v ∷ below) s1) any
  store_does (scalar.Number kind) p v below at position s has is = subst (λ x. Does e code
      (now at (x ∷ Ptr p ∷ below) s) (scalar_stored (scalar.Number kind) p x position s)
      (λ u s1. now (at + 1) (x ∷ below) s1) any) (sym has.1)
      (step at (Num has.0 ∷ Ptr p ∷ below) s (i.Store (scalar.Number kind)) position _ _ any is (does_same e code _
      (scalar_stored (scalar.Number kind) p (Num has.0) position s) _ any
      (after_bind (scalar_stored (scalar.Number kind) p (Num has.0) position s) (λ u s1. Gives (Num has.0) s1)
      (λ w s1. now (at + 1) (w ∷ below) s1)) (if_any _)))
  store_does scalar.Pointer p v below at position s has is = subst (λ x. Does e code
      (now at (x ∷ Ptr p ∷ below) s) (scalar_stored scalar.Pointer p x position s)
      (λ u s1. now (at + 1) (x ∷ below) s1) any) (sym has.1)
      (step at (Ptr has.0 ∷ Ptr p ∷ below) s (i.Store scalar.Pointer) position _ _ any is (does_same e code _
      (scalar_stored scalar.Pointer p (Ptr has.0) position s) _ any
      (after_bind (scalar_stored scalar.Pointer p (Ptr has.0) position s) (λ u s1. Gives (Ptr has.0) s1)
      (λ w s1. now (at + 1) (w ∷ below) s1)) (if_any _)))

  abbrev both_kinds : Scalar → Changed → Type 0
  both_kinds of c = HasKind (scalar_form of) c.old × HasKind (scalar_form of) c.new

  -- The new content is made of the old one, with the place below it and what stays. Then it is stored.
  updated_does : (by : Change) (p : Pointer) (n : ℤ) (below : List Value) (stays : Value → List Value) (at mid : ℕ)
      (position : Pos) (s : State) → fetched code function at ≡ Some (reach_of (changed_scalar by), position)
      → fetched code function (at + 1) ≡ Some (i.Load (changed_scalar by), position)
      → ((old : Value) (s1 : State) → HasKind (scalar_form (changed_scalar by)) old
      → Does e code (now (at + 1 + 1) (old ∷ below) s1) (new_content by old n position s1)
      (λ new s2. now mid (new ∷ Ptr p ∷ stays old) s2) (HasKind (scalar_form (changed_scalar by))))
      → fetched code function mid ≡ Some (i.Store (changed_scalar by), position)
      → Does e code (now at (Ptr p ∷ below) s) (updated by p n position s)
      (λ (c : Changed) s1. now (mid + 1) (c.new ∷ stays c.old) s1) (both_kinds (changed_scalar by))
  updated_does by p n below stays at mid position s reaches loads makes stores =
      let of : Scalar = changed_scalar by in
      does_bind e code _ (reached (scalar_attempt of p) position s) _ (λ u s1. now (at + 1) (Ptr p ∷ below) s1)
      (λ (c : Changed) s1. now (mid + 1) (c.new ∷ stays c.old) s1) any (both_kinds of)
      (reach_does of p below at position s reaches) (λ u s1 x.
      does_bind e code _ (loaded of p position s1) _ (λ v s2. now (at + 1 + 1) (v ∷ below) s2)
      (λ (c : Changed) s2. now (mid + 1) (c.new ∷ stays c.old) s2) (HasKind (scalar_form of)) (both_kinds of)
      (load_does of p below (at + 1) position s1 loads) (λ old s2 has_old.
      does_bind e code _ (new_content by old n position s2) _ (λ new s3. now mid (new ∷ Ptr p ∷ stays old) s3)
      (λ (c : Changed) s3. now (mid + 1) (c.new ∷ stays c.old) s3) (HasKind (scalar_form of)) (both_kinds of)
      (makes old s2 has_old) (λ new s3 has_new.
      does_bind e code _ (scalar_stored of p new position s3) _ (λ v s4. now (mid + 1) (new ∷ stays old) s4)
      (λ (c : Changed) s4. now (mid + 1) (c.new ∷ stays c.old) s4) any (both_kinds of)
      (store_does of p new (stays old) mid position s3 has_new stores) (λ v s4 y.
      does_gives e code _ (record { old = old; new = new }) s4 _ (both_kinds of) refl (has_old, has_new)))))

  -- ---- the new content

  -- behind the number that is converted and the one that is given: the operation, and the conversion back
  computes : (operator : Operator) (held kind : IntKind) (p : Pointer) (m n : ℤ) (stays : List Value) (at : ℕ)
      (position : Pos) (s : State) → fetched code function at ≡ Some (i.Binary operator kind, position)
      → fetched code function (at + 1) ≡ Some (i.Convert held, position)
      → Does e code (now at (Num n ∷ Num (converted_to kind m) ∷ Ptr p ∷ stays) s)
      (new_content (change.Number operator held kind) (Num m) n position s)
      (λ new s1. now (at + 1 + 1) (new ∷ Ptr p ∷ stays) s1) (HasKind (form.Number held))
  computes operator held kind p m n stays at position s operates converts =
      let r : Result ℤ NumFault = operator_outcome operator kind (converted_to kind m) n in
      does_bind e code _ (computed r position s) _ (λ v s1. now (at + 1) (v ∷ Ptr p ∷ stays) s1)
      (λ new s1. now (at + 1 + 1) (new ∷ Ptr p ∷ stays) s1) (HasKind (form.Number kind)) (HasKind (form.Number held))
      (step at (Num n ∷ Num (converted_to kind m) ∷ Ptr p ∷ stays) s (i.Binary operator kind) position
      (computed r position s) _ (HasKind (form.Number kind)) operates
      (does_same e code _ (computed r position s) _ (HasKind (form.Number kind)) refl
      (acts.computed_fits it kind r position s)))
      (λ v s1 has. subst (λ x. Does e code (now (at + 1) (x ∷ Ptr p ∷ stays) s1)
      (Gives (Num (converted_to held (number_in x))) s1) (λ new s2. now (at + 1 + 1) (new ∷ Ptr p ∷ stays) s2)
      (HasKind (form.Number held))) (sym has.1)
      (step (at + 1) (Num has.0 ∷ Ptr p ∷ stays) s1 (i.Convert held) position
      (Gives (Num (converted_to held has.0)) s1) _ (HasKind (form.Number held)) converts
      (does_gives e code _ (Num (converted_to held has.0)) s1 _ (HasKind (form.Number held)) refl
      (converted_to held has.0, refl))))

  moves : (stride : Stride) (p q : Pointer) (n : ℤ) (stays : List Value) (at : ℕ) (position : Pos) (s : State)
      → fetched code function at ≡ Some (i.Step stride, position)
      → Does e code (now at (Num n ∷ Ptr q ∷ Ptr p ∷ stays) s)
      (new_content (change.Pointer stride) (Ptr q) n position s)
      (λ new s1. now (at + 1) (new ∷ Ptr p ∷ stays) s1) (HasKind form.Pointer)
  moves stride p q n stays at position s is = step at (Num n ∷ Ptr q ∷ Ptr p ∷ stays) s (i.Step stride) position
      (pointer_moved (moved stride q n) position s) _ (HasKind form.Pointer) is
      (does_same e code _ (pointer_moved (moved stride q n) position s) _ (HasKind form.Pointer) refl
      (acts.moved_fits it (moved stride q n) position s))

  -- ---- whole updates

  number_update : (operator : Operator) (held kind : IntKind) (p : Pointer) (n : ℤ) (operands : List Value) (at : ℕ)
      (position : Pos) (s : State) → StandsAt at (on position (update_code (change.Number operator held kind)))
      → Does e code (now at (Num n ∷ Ptr p ∷ operands) s) (updated (change.Number operator held kind) p n position s)
      (λ (c : Changed) s1. now (at + 1 + 1 + 1 + 1 + 1 + 1 + 1 + 1) (c.new ∷ operands) s1) (both_kinds (scalar.Number
      held))
  number_update operator held kind p n operands at position s stands =
      let by : Change = change.Number operator held kind in
      step at (Num n ∷ Ptr p ∷ operands) s i.Over position (updated by p n position s) _ (both_kinds (scalar.Number
      held))
      stands.0
      (updated_does by p n (Num n ∷ Ptr p ∷ operands) (λ old. operands) (at + 1) (at + 1 + 1 + 1 + 1 + 1 + 1 + 1)
      position s
      stands.1.0 stands.1.1.0
      (λ old s1 has. subst (λ x. Does e code (now (at + 1 + 1 + 1) (x ∷ Num n ∷ Ptr p ∷ operands) s1)
      (new_content by x n position s1) (λ new s2. now (at + 1 + 1 + 1 + 1 + 1 + 1 + 1) (new ∷ Ptr p ∷ operands) s2)
      (HasKind (form.Number held))) (sym has.1)
      (step (at + 1 + 1 + 1) (Num has.0 ∷ Num n ∷ Ptr p ∷ operands) s1 (i.Convert kind) position
      (new_content by (Num has.0) n position s1) _ (HasKind (form.Number held)) stands.1.1.1.0
      (step (at + 1 + 1 + 1 + 1) (Num (converted_to kind has.0) ∷ Num n ∷ Ptr p ∷ operands) s1 i.Swap position
      (new_content by (Num has.0) n position s1) _ (HasKind (form.Number held)) stands.1.1.1.1.0
      (computes operator held kind p has.0 n operands (at + 1 + 1 + 1 + 1 + 1) position s1 stands.1.1.1.1.1.0
      stands.1.1.1.1.1.1.0))))
      stands.1.1.1.1.1.1.1.0)

  pointer_update : (stride : Stride) (p : Pointer) (n : ℤ) (operands : List Value) (at : ℕ)
      (position : Pos) (s : State) → StandsAt at (on position (update_code (change.Pointer stride)))
      → Does e code (now at (Num n ∷ Ptr p ∷ operands) s) (updated (change.Pointer stride) p n position s)
      (λ (c : Changed) s1. now (at + 1 + 1 + 1 + 1 + 1 + 1) (c.new ∷ operands) s1) (both_kinds scalar.Pointer)
  pointer_update stride p n operands at position s stands =
      let by : Change = change.Pointer stride in
      step at (Num n ∷ Ptr p ∷ operands) s i.Over position (updated by p n position s) _ (both_kinds scalar.Pointer)
      stands.0
      (updated_does by p n (Num n ∷ Ptr p ∷ operands) (λ old. operands) (at + 1) (at + 1 + 1 + 1 + 1 + 1) position s
      stands.1.0 stands.1.1.0
      (λ old s1 has. subst (λ x. Does e code (now (at + 1 + 1 + 1) (x ∷ Num n ∷ Ptr p ∷ operands) s1)
      (new_content by x n position s1) (λ new s2. now (at + 1 + 1 + 1 + 1 + 1) (new ∷ Ptr p ∷ operands) s2)
      (HasKind form.Pointer)) (sym has.1)
      (step (at + 1 + 1 + 1) (Ptr has.0 ∷ Num n ∷ Ptr p ∷ operands) s1 i.Swap position
      (new_content by (Ptr has.0) n position s1) _ (HasKind form.Pointer) stands.1.1.1.0
      (moves stride p has.0 n operands (at + 1 + 1 + 1 + 1) position s1 stands.1.1.1.1.0)))
      stands.1.1.1.1.1.0)

  number_postfix : (operator : Operator) (held kind : IntKind) (p : Pointer) (operands : List Value) (at : ℕ)
      (position : Pos) (s : State) → StandsAt at (on position (postfix_code (change.Number operator held kind)))
      → Does e code (now at (Ptr p ∷ operands) s) (updated (change.Number operator held kind) p (pos 1) position s)
      (λ (c : Changed) s1. now (at + 1 + 1 + 1 + 1 + 1 + 1 + 1 + 1 + 1 + 1) (c.new ∷ c.old ∷ operands) s1)
      (both_kinds (scalar.Number held))
  number_postfix operator held kind p operands at position s stands =
      let by : Change = change.Number operator held kind in
      let one : ℤ = pos 1 in
      step at (Ptr p ∷ operands) s i.Duplicate position (updated by p one position s) _ (both_kinds (scalar.Number
      held))
      stands.0
      (updated_does by p one (Ptr p ∷ operands) (λ old. old ∷ operands) (at + 1) (at + 1 + 1 + 1 + 1 + 1 + 1 + 1 + 1 +
      1) position s
      stands.1.0 stands.1.1.0
      (λ old s1 has. subst (λ x. Does e code (now (at + 1 + 1 + 1) (x ∷ Ptr p ∷ operands) s1)
      (new_content by x one position s1) (λ new s2. now (at + 1 + 1 + 1 + 1 + 1 + 1 + 1 + 1 + 1) (new ∷ Ptr p ∷ x ∷
      operands) s2)
      (HasKind (form.Number held))) (sym has.1)
      (step (at + 1 + 1 + 1) (Num has.0 ∷ Ptr p ∷ operands) s1 i.Swap position
      (new_content by (Num has.0) one position s1) _ (HasKind (form.Number held)) stands.1.1.1.0
      (step (at + 1 + 1 + 1 + 1) (Ptr p ∷ Num has.0 ∷ operands) s1 i.Over position
      (new_content by (Num has.0) one position s1) _ (HasKind (form.Number held)) stands.1.1.1.1.0
      (step (at + 1 + 1 + 1 + 1 + 1) (Num has.0 ∷ Ptr p ∷ Num has.0 ∷ operands) s1 (i.Convert kind) position
      (new_content by (Num has.0) one position s1) _ (HasKind (form.Number held)) stands.1.1.1.1.1.0
      (step (at + 1 + 1 + 1 + 1 + 1 + 1) (Num (converted_to kind has.0) ∷ Ptr p ∷ Num has.0 ∷ operands) s1 (i.Number
      kind one) position
      (new_content by (Num has.0) one position s1) _ (HasKind (form.Number held)) stands.1.1.1.1.1.1.0
      (computes operator held kind p has.0 one (Num has.0 ∷ operands) (at + 1 + 1 + 1 + 1 + 1 + 1 + 1) position s1
      stands.1.1.1.1.1.1.1.0 stands.1.1.1.1.1.1.1.1.0))))))
      stands.1.1.1.1.1.1.1.1.1.0)

  pointer_postfix : (stride : Stride) (p : Pointer) (operands : List Value) (at : ℕ)
      (position : Pos) (s : State) → StandsAt at (on position (postfix_code (change.Pointer stride)))
      → Does e code (now at (Ptr p ∷ operands) s) (updated (change.Pointer stride) p (pos 1) position s)
      (λ (c : Changed) s1. now (at + 1 + 1 + 1 + 1 + 1 + 1 + 1 + 1) (c.new ∷ c.old ∷ operands) s1) (both_kinds
      scalar.Pointer)
  pointer_postfix stride p operands at position s stands =
      let by : Change = change.Pointer stride in
      let one : ℤ = pos 1 in
      step at (Ptr p ∷ operands) s i.Duplicate position (updated by p one position s) _ (both_kinds scalar.Pointer)
      stands.0
      (updated_does by p one (Ptr p ∷ operands) (λ old. old ∷ operands) (at + 1) (at + 1 + 1 + 1 + 1 + 1 + 1 + 1)
      position s
      stands.1.0 stands.1.1.0
      (λ old s1 has. subst (λ x. Does e code (now (at + 1 + 1 + 1) (x ∷ Ptr p ∷ operands) s1)
      (new_content by x one position s1) (λ new s2. now (at + 1 + 1 + 1 + 1 + 1 + 1 + 1) (new ∷ Ptr p ∷ x ∷ operands)
      s2)
      (HasKind form.Pointer)) (sym has.1)
      (step (at + 1 + 1 + 1) (Ptr has.0 ∷ Ptr p ∷ operands) s1 i.Swap position
      (new_content by (Ptr has.0) one position s1) _ (HasKind form.Pointer) stands.1.1.1.0
      (step (at + 1 + 1 + 1 + 1) (Ptr p ∷ Ptr has.0 ∷ operands) s1 i.Over position
      (new_content by (Ptr has.0) one position s1) _ (HasKind form.Pointer) stands.1.1.1.1.0
      (step (at + 1 + 1 + 1 + 1 + 1) (Ptr has.0 ∷ Ptr p ∷ Ptr has.0 ∷ operands) s1 (i.Number I32 one) position
      (new_content by (Ptr has.0) one position s1) _ (HasKind form.Pointer) stands.1.1.1.1.1.0
      (moves stride p has.0 one (Ptr has.0 ∷ operands) (at + 1 + 1 + 1 + 1 + 1 + 1) position s1
      stands.1.1.1.1.1.1.0)))))
      stands.1.1.1.1.1.1.1.0)

  -- ---- with operands of their forms

  abbrev pub gives_new : Change → Pos → Value → Value → State → Evaluation Value
  gives_new by position p n s =
      bind (updated by (pointer_in p) (number_in n) position s) (λ (c : Changed) s1. Gives c.new s1)

  abbrev pub gives_old : Change → Pos → Value → State → Evaluation Value
  gives_old by position p s = bind (updated by (pointer_in p) (pos 1) position s) (λ (c : Changed) s1. Gives c.old s1)

  abbrev pub end_of_update : Change → ℕ → ℕ
  end_of_update (change.Number operator held kind) at = at + 1 + 1 + 1 + 1 + 1 + 1 + 1 + 1
  end_of_update (change.Pointer stride) at = at + 1 + 1 + 1 + 1 + 1 + 1

  abbrev pub end_of_postfix : Change → ℕ → ℕ
  end_of_postfix (change.Number operator held kind) at = at + 1 + 1 + 1 + 1 + 1 + 1 + 1 + 1 + 1 + 1 + 1
  end_of_postfix (change.Pointer stride) at = at + 1 + 1 + 1 + 1 + 1 + 1 + 1 + 1 + 1

  pub update_acts : (by : Change) (f h : Form) (at : ℕ) (position : Pos) → IsPointer f → IsNumber h
      → (operands : List Value) (v w : Value) (s : State) → HasKind f v → HasKind h w
      → StandsAt at (on position (update_code by))
      → Does e code (now at (pushed h w (pushed f v operands)) s) (gives_new by position v w s)
      (λ x s1. now (end_of_update by at) (pushed (changed_form by) x operands) s1) (HasKind (changed_form by))
  update_acts (change.Number operator held kind) f h at position is_f is_h operands v w s has_v has_w stands =
      let by : Change = change.Number operator held kind in
      let l : (p : Pointer) × IsLeftAs f v (Ptr p) = pointer_left f v is_f has_v in
      let r : (n : ℤ) × IsLeftAs h w (Num n) = number_left h w is_h has_w in
      part.as_two it f h (form.Number held) at (at + 1 + 1 + 1 + 1 + 1 + 1 + 1 + 1) (gives_new by position)
      operands v w (Ptr l.0) (Num r.0) s l.1 r.1
      (does_bind e code _ (updated by l.0 r.0 position s) _
      (λ (c : Changed) s1. now (at + 1 + 1 + 1 + 1 + 1 + 1 + 1 + 1) (c.new ∷ operands) s1)
      (λ x s1. now (at + 1 + 1 + 1 + 1 + 1 + 1 + 1 + 1) (x ∷ operands) s1) (both_kinds (scalar.Number held))
      (HasKind (form.Number held)) (number_update operator held kind l.0 r.0 operands at position s stands)
      (λ c s1 has. does_gives e code _ c.new s1 _ (HasKind (form.Number held)) refl has.1))
  update_acts (change.Pointer stride) f h at position is_f is_h operands v w s has_v has_w stands =
      let by : Change = change.Pointer stride in
      let l : (p : Pointer) × IsLeftAs f v (Ptr p) = pointer_left f v is_f has_v in
      let r : (n : ℤ) × IsLeftAs h w (Num n) = number_left h w is_h has_w in
      part.as_two it f h form.Pointer at (at + 1 + 1 + 1 + 1 + 1 + 1) (gives_new by position)
      operands v w (Ptr l.0) (Num r.0) s l.1 r.1
      (does_bind e code _ (updated by l.0 r.0 position s) _
      (λ (c : Changed) s1. now (at + 1 + 1 + 1 + 1 + 1 + 1) (c.new ∷ operands) s1)
      (λ x s1. now (at + 1 + 1 + 1 + 1 + 1 + 1) (x ∷ operands) s1) (both_kinds scalar.Pointer)
      (HasKind form.Pointer) (pointer_update stride l.0 r.0 operands at position s stands)
      (λ c s1 has. does_gives e code _ c.new s1 _ (HasKind form.Pointer) refl has.1))

  pub postfix_acts : (by : Change) (f : Form) (at : ℕ) (position : Pos) → IsPointer f
      → (operands : List Value) (v : Value) (s : State) → HasKind f v
      → StandsAt at (on position (postfix_code by))
      → Does e code (now at (pushed f v operands) s) (gives_old by position v s)
      (λ x s1. now (end_of_postfix by at) (pushed (changed_form by) x operands) s1) (HasKind (changed_form by))
  postfix_acts (change.Number operator held kind) f at position is operands v s has stands =
      let by : Change = change.Number operator held kind in
      let l : (p : Pointer) × IsLeftAs f v (Ptr p) = pointer_left f v is has in
      part.as_left it f (form.Number held) at (at + 1 + 1 + 1 + 1 + 1 + 1 + 1 + 1 + 1 + 1 + 1)
      (gives_old by position) operands v (Ptr l.0) s l.1
      (does_bind e code _ (updated by l.0 (pos 1) position s) _
      (λ (c : Changed) s1. now (at + 1 + 1 + 1 + 1 + 1 + 1 + 1 + 1 + 1 + 1) (c.new ∷ c.old ∷ operands) s1)
      (λ x s1. now (at + 1 + 1 + 1 + 1 + 1 + 1 + 1 + 1 + 1 + 1 + 1) (x ∷ operands) s1) (both_kinds (scalar.Number held))
      (HasKind (form.Number held)) (number_postfix operator held kind l.0 operands at position s stands)
      (λ c s1 fit. step (at + 1 + 1 + 1 + 1 + 1 + 1 + 1 + 1 + 1 + 1) (c.new ∷ c.old ∷ operands) s1 i.Drop position
      (Gives c.old s1) _
      (HasKind (form.Number held)) stands.1.1.1.1.1.1.1.1.1.1.0
      (does_gives e code _ c.old s1 _ (HasKind (form.Number held)) refl fit.0)))
  postfix_acts (change.Pointer stride) f at position is operands v s has stands =
      let by : Change = change.Pointer stride in
      let l : (p : Pointer) × IsLeftAs f v (Ptr p) = pointer_left f v is has in
      part.as_left it f form.Pointer at (at + 1 + 1 + 1 + 1 + 1 + 1 + 1 + 1 + 1)
      (gives_old by position) operands v (Ptr l.0) s l.1
      (does_bind e code _ (updated by l.0 (pos 1) position s) _
      (λ (c : Changed) s1. now (at + 1 + 1 + 1 + 1 + 1 + 1 + 1 + 1) (c.new ∷ c.old ∷ operands) s1)
      (λ x s1. now (at + 1 + 1 + 1 + 1 + 1 + 1 + 1 + 1 + 1) (x ∷ operands) s1) (both_kinds scalar.Pointer)
      (HasKind form.Pointer) (pointer_postfix stride l.0 operands at position s stands)
      (λ c s1 fit. step (at + 1 + 1 + 1 + 1 + 1 + 1 + 1 + 1) (c.new ∷ c.old ∷ operands) s1 i.Drop position (Gives
      c.old s1) _
      (HasKind form.Pointer) stands.1.1.1.1.1.1.1.1.0 (does_gives e code _ c.old s1 _ (HasKind form.Pointer) refl
      fit.0)))

  pub update_ends : (by : Change) (at l r : ℕ) → end_of_update by (at + (l + r)) ≡ at + (l + (r + update_size by))
  update_ends (change.Number operator held kind) at l r = omega arith
  update_ends (change.Pointer stride) at l r = omega arith

  pub postfix_ends : (by : Change) (at l : ℕ) → end_of_postfix by (at + l) ≡ at + (l + postfix_size by)
  postfix_ends (change.Number operator held kind) at l = omega arith
  postfix_ends (change.Pointer stride) at l = omega arith

  pub fits_number : (by : Change) (f : Form) → FitsChange by f → IsNumber f
  fits_number (change.Number operator held kind) f is = acts.right_number (is_shift operator) kind f is
  fits_number (change.Pointer stride) f is = is.1
