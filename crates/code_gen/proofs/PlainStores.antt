-- What initializers do, and the `return` of a structure.
use Rattle.std.proofs.Common.{◌≡◌, ◌∙◌, ℕ, zero, suc, ◌+◌, ◌≤◌, Bool, List, [], ◌∷◌, ◌++◌, refl, ap, sym, subst, arith}
use Rattle.std.proofs.Common.{replicate, length, Option, Some, None, true, false, cond, ◌*◌, ◌==◌}
use Rattle.std.proofs.lemmas.Bool.{le-leb}
use Rattle.std.proofs.lemmas.List.{length-map}
use Rattle.std.specs.Prelude.{IsSomeAnd, nat_le}
use Rattle.std.specs.List.{slice_get}
use Rattle.critical_table.specs.declared.pos.Pos.{Pos}
use Rattle.object_store.specs.declared.by.By.TheVariants.{Store}
use Rattle.object_store.specs.declared.pointer.Pointer.{Pointer}
use Rattle.c_core.specs.declared.form.Form.{Form}
use Rattle.c_core.specs.declared.form.Form.TheVariants as form
use Rattle.c_core.specs.declared.form.Scalar.TheVariants as scalar
use Rattle.c_core.specs.declared.form.Content.{Content}
use Rattle.c_core.specs.declared.form.Content.TheVariants as content
use Rattle.c_core.specs.declared.statement.Local.{Local}
use Rattle.c_core.specs.Forms.{form_of, given_form, content_form}
use Rattle.c_core.specs.Named.{Names, size_in, LieIn}
use Rattle.c_core.specs.Tree.{Core, pos_in}
use Rattle.c_core.specs.TreeUnit.{Program}
use Rattle.c_core.specs.Typed.{CoreTyped}
use Rattle.c_core.specs.Types.{content_size}
use Rattle.c_core.specs.TypedUnit.{Flow as FlowTyped}
use Rattle.lib_defs.specs.declared.value.Value.{Value}
use Rattle.lib_defs.specs.declared.value.Value.TheVariants.{Ptr}
use Rattle.lib_defs.specs.Units.{size, rsize_max}
use Rattle.run_defs.specs.State.{State, call_left, patched}
use Rattle.run_defs.specs.Evaluation.{Evaluation, Gives, bind, stored, reached}
use Rattle.run_defs.specs.Functions.{Environment}
use Rattle.run_defs.specs.Loads.{known}
use Rattle.vm_code.specs.declared.instr.Instr.{Instr}
use Rattle.vm_code.specs.declared.instr.Instr.TheVariants as i
use Rattle.vm_code.specs.Accesses.{pointer_in, copied, content_stored}
use Rattle.vm_code.specs.Calling.{returned, left_by, leaves}
use Rattle.vm_code.specs.Contents.{Contents}
use Rattle.vm_code.specs.Frames.{Place, after}
use Rattle.vm_code.specs.Machine.{on_form, pools, text_stored}
use Rattle.vm_code.specs.Pointers.{member_place}
use Rattle.vm_code.specs.Slots.{Held, held_in, numbers, all_died}
use Rattle.code_gen.specs.CalledTypes.{Through}
use Rattle.code_gen.specs.Designation.{place_in}
use Rattle.code_gen.specs.Evaluating.{Evaluates}
use Rattle.code_gen.specs.ExpressionCode.{on, code_at, objects_in}
use Rattle.code_gen.specs.ExpressionCode as code_sizes
use Rattle.code_gen.specs.Expressions.{Call, value}
use Rattle.code_gen.specs.Flows.{Flow, Next, Returned}
use Rattle.code_gen.specs.RunLaw.{HasKind, pushed, CallsRunIn, Left, Comes, Reaches, StandAt, Running, stands_at}
use Rattle.code_gen.specs.StatementCode.{Around, content_code, kills, slots_down, full_size}
use Rattle.code_gen.specs.StatementRunLaw.{Inside, AreSizes, leads}
use Rattle.code_gen.specs.Statements.{evaluated, then_next}
use Rattle.code_gen.proofs.Going.{Does, comes_on, comes_same, one_step, stand_front, stand_back, reaches_from}
use Rattle.code_gen.proofs.Going.{reaches_gives, reaches_bind, does_from, does_same, does_on}
use Rattle.code_gen.proofs.Going.{does_then, does_reaches, sees}
use Rattle.code_gen.proofs.FullExpressions as whole
use Rattle.code_gen.proofs.Lengths.{code_long}
use Rattle.code_gen.proofs.PlainActions as actions
use Rattle.code_gen.proofs.PlainStatements as parts
use Rattle.code_gen.proofs.PlainStretches as stretch
use Rattle.code_gen.proofs.PlainUpdates as updates

-- bytes that are 0
zeros_known : (n : ℕ) → known (replicate n 0) ≡ replicate n (Some 0)
zeros_known zero = refl
zeros_known (suc n) = ap (λ l. Some 0 ∷ l) (zeros_known n)

-- what lies in an object is no longer than the greatest one
room_in : (objects : List Local) (slot byte len : ℕ) → AreSizes objects → LieIn objects slot byte len → len ≤ rsize_max
room_in [] slot byte len sizes lies = absurd lies
room_in (local ∷ objects) slot byte len sizes lies =
    by_slot (local.slot == slot) (room_in objects slot byte len sizes.1) lies
  where
    by_slot : (b : Bool) → (LieIn objects slot byte len → len ≤ rsize_max)
        → IsSomeAnd (cond b (Some local.size) (size_in slot objects)) (λ size. byte + len ≤ size) → len ≤ rsize_max
    by_slot true later within = let most : local.size ≤ rsize_max = sizes.0.1 in omega (arith, within, most)
    by_slot false later within = later within

-- the length of a text that lies in an object isn't cut
text_long : (bytes : List ℕ) → length bytes ≤ rsize_max → size 1 (length bytes) ≡ length (known bytes)
text_long bytes most =
    let one : 1 * length bytes ≡ length bytes = omega arith in
    let fits : nat_le (1 * length bytes) rsize_max ≡ true = le-leb _ _ (omega (arith, one, most)) in
    rw fits (one ∙ sym (length-map bytes (λ (b : ℕ). Some b)))

module _ (it : Running) where
  abbrev now : List Held → Bool → ℕ → List Value → State → Place
  now objects answered at operands s = stands_at it objects answered at operands s

  -- a structure is copied
  copy_does : (size : ℕ) (p q : Pointer) (below : List Value) (objects : List Held) (answered : Bool) (at : ℕ)
      (position : Pos) (s : State) → StandAt it.code it.function at (on position (i.Copy size ∷ []))
      → Does it.environment it.code (now objects answered at (Ptr p ∷ Ptr q ∷ below) s) (copied size q p position s)
      (λ u s1. now objects answered (at + 1) (Ptr q ∷ below) s1) (λ u. Unit {0})
  copy_does size p q below objects answered at position s stands =
      let other : Running = stretch.beside it objects answered in
      does_from it.environment it.code _ _ (copied size q p position s) _ (λ u. Unit {0})
      (one_step other at (Ptr p ∷ Ptr q ∷ below) s (i.Copy size) position stands.0)
      (does_same it.environment it.code _ (copied size q p position s) _ (λ u. Unit {0})
      (updates.after_bind (copied size q p position s) (λ u s1. Gives (Ptr q) s1)
      (λ v s1. now objects answered (at + 1) (v ∷ below) s1)) (updates.if_any other (copied size q p position s)))

  -- a value is stored where a pointer below it leads, and both are taken off
  content_does : (of : Content) (q : Pointer) (v : Value) (below : List Value) (objects : List Held) (answered : Bool)
      (at : ℕ) (position : Pos) (s : State) → HasKind (content_form of) v
      → StandAt it.code it.function at (on position (content_code of ∷ i.Drop ∷ []))
      → Does it.environment it.code (now objects answered at (pushed (content_form of) v (Ptr q ∷ below)) s)
      (content_stored of q v position s) (λ u s1. now objects answered (at + 1 + 1) below s1) (λ u. Unit {0})
  content_does (content.Scalar (scalar.Number kind)) q v below objects answered at position s has stands =
      let other : Running = stretch.beside it objects answered in
      does_on it.environment it.code _ _ (λ u s1. now objects answered (at + 1) (v ∷ below) s1) _ (λ u. Unit {0})
      (updates.store_does other (scalar.Number kind) q v below at position s has stands.0)
      (λ u s1. one_step other (at + 1) (v ∷ below) s1 i.Drop position stands.1.0)
  content_does (content.Scalar scalar.Pointer) q v below objects answered at position s has stands =
      let other : Running = stretch.beside it objects answered in
      does_on it.environment it.code _ _ (λ u s1. now objects answered (at + 1) (v ∷ below) s1) _ (λ u. Unit {0})
      (updates.store_does other scalar.Pointer q v below at position s has stands.0)
      (λ u s1. one_step other (at + 1) (v ∷ below) s1 i.Drop position stands.1.0)
  content_does (content.Whole size) q v below objects answered at position s has stands =
      let other : Running = stretch.beside it objects answered in
      subst (λ w. Does it.environment it.code (now objects answered at (w ∷ Ptr q ∷ below) s)
      (content_stored (content.Whole size) q w position s) (λ u s1. now objects answered (at + 1 + 1) below s1)
      (λ u. Unit {0})) (sym has.1)
      (does_on it.environment it.code _ (copied size q has.0 position s)
      (λ u s1. now objects answered (at + 1) (Ptr q ∷ below) s1) _ (λ u. Unit {0})
      (copy_does size has.0 q below objects answered at position s (stands.0, tt))
      (λ u s1. one_step other (at + 1) (Ptr q ∷ below) s1 i.Drop position stands.1.0))

module _ (program : Program) (table : List Through) (call : Call) (it : Running) (names : Names) (flow : FlowTyped)
    (around : Around) (inside : Inside it names flow around) where
  abbrev e : Environment
  e = it.environment

  abbrev code : Contents
  code = it.code

  abbrev StandsAt : ℕ → List (Instr × Pos) → Type 0
  StandsAt at instrs = StandAt it.code it.function at instrs

  abbrev here : List Held → Bool → ℕ → List Value → State → Place
  here objects answered at operands s = stands_at it objects answered at operands s

  abbrev val : Core → Evaluates
  val core = value program call it.frame.held core

  abbrev Goes : Place → Evaluation Flow → ℕ → Type 0
  Goes from x next = Reaches it.environment it.code it.most from x (λ f. Bool) (leads it inside next)

  abbrev place : ℕ → Pointer
  place slot = place_in slot it.frame.held

  -- what a statement does, and then the next one
  next_runs : (from : Place) (x : Evaluation (Unit {0})) (mid next : ℕ) (answered : Bool) → mid ≡ next
      → Does e code from x (λ u s1. here [] answered mid [] s1) (λ u. Unit {0}) → Goes from (then_next x) next
  next_runs from x mid next answered same does = does_then e code it.most from x (λ u s1. Gives Next s1)
      (λ u s1. here [] answered mid [] s1) (λ u. Unit {0}) (λ f. Bool) (leads it inside next) does
      (λ u s1 any. reaches_gives e code it.most _ Next s1 (λ f. Bool) (leads it inside next) answered
      (ap (λ k. here [] answered k [] s1) same))

  -- ---- the place of an object

  -- a named object is held
  held_named : (slot : ℕ) (P : ℕ → Type 0) → IsSomeAnd (size_in slot names.objects) P
      → (h : Held) × (held_in slot it.frame.held ≡ Some h)
  held_named slot P is = by_size (size_in slot names.objects) refl is
    where
      by_size : (o : Option ℕ) → size_in slot names.objects ≡ o → IsSomeAnd o P
          → (h : Held) × (held_in slot it.frame.held ≡ Some h)
      by_size None same is = absurd is
      by_size (Some size) same is =
          let h : (h : Held) × (held_in slot it.frame.held ≡ Some h) × (h.size ≡ size) =
          inside.named.named slot size same in
          (h.0, h.1)

  place_comes : (slot at : ℕ) (h : Held) (position : Pos) (answered : Bool) (s : State)
      → held_in slot it.frame.held ≡ Some h → StandsAt at (on position (i.Slot slot ∷ []))
      → Comes e code (here [] answered at [] s) (here [] answered (at + 1) (Ptr (place slot) ∷ []) s)
  place_comes slot at h position answered s found stands =
      comes_on e code _ _ _ (one_step (stretch.beside it [] answered) at [] s (i.Slot slot) position stands.0)
      (comes_same e code _ _ (rw found refl))

  -- the place of a part of it
  part_comes : (slot byte len at : ℕ) (position : Pos) (answered : Bool) (s : State)
      → LieIn names.objects slot byte len → StandsAt at (on position (i.Slot slot ∷ i.Member byte ∷ []))
      → Comes e code (here [] answered at [] s)
      (here [] answered (at + 1 + 1) (Ptr (member_place byte (place slot)) ∷ []) s)
  part_comes slot byte len at position answered s lies stands =
      let h : (h : Held) × (held_in slot it.frame.held ≡ Some h) =
      held_named slot (λ size. byte + len ≤ size) lies in
      comes_on e code _ _ _ (place_comes slot at h.0 position answered s h.1 (stands.0, tt))
      (one_step (stretch.beside it [] answered) (at + 1) (Ptr (place slot) ∷ []) s (i.Member byte) position stands.1.0)

  -- ---- initializers

  -- an object is filled with zeros
  pub zero_runs : (slot size at : ℕ) (position : Pos) (answered : Bool) (s : State)
      → size_in slot names.objects ≡ Some size
      → StandsAt at (on position (i.Slot slot ∷ i.Zero size ∷ []))
      → Goes (here [] answered at [] s)
      (then_next (stored 1 (record { place = place slot; bytes = known (replicate size 0) }) position s)) (at + 2)
  zero_runs slot size at position answered s is stands =
      let h : (h : Held) × (held_in slot it.frame.held ≡ Some h) × (h.size ≡ size) =
      inside.named.named slot size is in
      let x : Evaluation (Unit {0}) = stored 1 (record { place = place slot; bytes = known (replicate size 0) })
      position s in
      let to : Unit {0} → State → Place = λ u s1. here [] answered (at + 1 + 1) [] s1 in
      next_runs _ x (at + 1 + 1) (at + 2) answered (omega arith)
      (does_from e code _ _ x to (λ u. Unit {0})
      (comes_on e code _ _ _ (place_comes slot at h.0 position answered s h.1 (stands.0, tt))
      (one_step (stretch.beside it [] answered) (at + 1) (Ptr (place slot) ∷ []) s (i.Zero size) position stands.1.0))
      (does_same e code _ x to (λ u. Unit {0})
      (ap (λ bytes. after (stored 1 (record { place = place slot; bytes = bytes }) position s) to)
      (sym (zeros_known size))) (updates.if_any it x)))

  -- a literal is stored in a part of it
  pub bytes_runs : (slot byte text at : ℕ) (bytes : List ℕ) (position : Pos) (answered : Bool) (s : State)
      → LieIn names.objects slot byte (length bytes) → slice_get it.code.texts text ≡ Some bytes
      → StandsAt at (on position (i.Slot slot ∷ i.Member byte ∷ i.Pool text ∷ []))
      → Goes (here [] answered at [] s)
      (then_next (stored 1 (record { place = member_place byte (place slot); bytes = known bytes }) position s))
      (at + 3)
  bytes_runs slot byte text at bytes position answered s lies is stands =
      let q : Pointer = member_place byte (place slot) in
      let x : Evaluation (Unit {0}) = stored 1 (record { place = q; bytes = known bytes }) position s in
      let y : Evaluation (Unit {0}) = text_stored q bytes position s in
      let other : Running = stretch.beside it [] answered in
      let to : Unit {0} → State → Place = λ u s1. here [] answered (at + 1 + 1 + 1) [] s1 in
      let long : size 1 (length bytes) ≡ length (known bytes) = text_long bytes
      (room_in names.objects slot byte (length bytes) inside.sizes lies) in
      let same : y ≡ x = ap (λ n. bind (reached (record { place = q; len = n; align = 1; by = Store }) position s)
      (λ u s1. Gives tt (patched (record { place = q; bytes = known bytes }) s1))) long in
      next_runs _ x (at + 1 + 1 + 1) (at + 3) answered (omega arith)
      (does_from e code _ (after y to) x to (λ u. Unit {0})
      (comes_on e code _ _ _ (part_comes slot byte (length bytes) at position answered s lies
      (stands.0, (stands.1.0, tt)))
      (comes_on e code _ _ _ (one_step other (at + 1 + 1) (Ptr q ∷ []) s (i.Pool text) position stands.1.1.0)
      (comes_same e code _ (after y to) (ap (λ o. pools (sees other (at + 1 + 1) (Ptr q ∷ []) position s) o q []) is))))
      (does_same e code (after y to) x to (λ u. Unit {0}) (ap (λ ev. after ev to) same) (updates.if_any it x)))

  -- a scalar, or a structure, is stored in a part of it
  pub initialize_runs : (slot byte : ℕ) (of : Content) (core : Core) (position : Pos) (at : ℕ) (answered : Bool)
      (s : State) → LieIn names.objects slot byte (content_size of) → form_of core ≡ content_form of
      → CoreTyped names core → CallsRunIn it table call core
      → StandsAt at (on position (i.Slot slot ∷ i.Member byte ∷ []) ++ code_at program table (at + 2) around.values core
      ++ on (pos_in core) (content_code of ∷ i.Drop ∷ kills (slots_down around.values (objects_in core))))
      → Goes (here [] answered at [] s) (then_next (evaluated program call core it.frame.held
      (λ v. content_stored of (member_place byte (place slot)) v (pos_in core)) s)) (at + (full_size core + 4))
  initialize_runs slot byte of core position at answered s lies is t plain stands =
      let l : ℕ = code_sizes.size_in core in
      let n : ℕ = objects_in core in
      let low : ℕ = around.values in
      let q : Pointer = member_place byte (place slot) in
      let f : Form = content_form of in
      let front : List (Instr × Pos) = on position (i.Slot slot ∷ i.Member byte ∷ []) in
      let a : List (Instr × Pos) = code_at program table (at + 2) low core in
      let b : List (Instr × Pos) = on (pos_in core) (content_code of ∷ i.Drop ∷ kills (slots_down low n)) in
      let inner : StandsAt (at + 2) (a ++ b) = stand_back it.code it.function at 2 front (a ++ b) refl stands in
      let mid : ℕ = at + 2 + l in
      let behind : StandsAt mid b =
      stand_back it.code it.function (at + 2) l a b (code_long program table (at + 2) low core) inner in
      let two : at + 1 + 1 ≡ at + 2 = omega arith in
      let end : mid + 1 + 1 + n ≡ at + (full_size core + 4) = omega arith in
      reaches_from e code it.most _ (here [] answered (at + 2) (Ptr q ∷ []) s) _ (λ f. Bool) (leads it inside _)
      (comes_on e code _ _ _ (part_comes slot byte (content_size of) at position answered s lies
      (stands.0, (stands.1.0, tt))) (comes_same e code _ _ (ap (λ k. here [] answered k (Ptr q ∷ []) s) two)))
      (reaches_bind e code it.most _
      (evaluated program call core it.frame.held (λ v. content_stored of q v (pos_in core)) s) _
      (λ u. Bool × Unit {0}) (whole.Leads it (mid + 1 + 1 + n) (λ u last. [])) (λ f. Bool) (leads it inside _)
      (whole.full_runs it (val core) f (λ v. content_stored of q v (pos_in core)) (λ u. Unit {0}) (Ptr q ∷ [])
      (λ u last. []) (at + 2) mid (mid + 1 + 1) low n (pos_in core) inside.named.below
      (actions.core_runs program table call it names flow around inside core f is t plain (at + 2)
      (stand_front it.code it.function (at + 2) a b inner))
      (λ objects answered1 v s1 has.
      stored_reaches of q v objects answered1 mid (pos_in core) s1 has (behind.0, (behind.1.0, tt)))
      behind.1.1 answered s)
      (λ u s1 left. reaches_gives e code it.most _ Next s1 (λ f. Bool) (leads it inside (at + (full_size core + 4)))
      left.0
      (ap (λ k. here [] left.0 k [] s1) end)))
    where
      stored_reaches : (of : Content) (q : Pointer) (v : Value) (objects : List Held) (answered1 : Bool) (mid : ℕ)
          (position1 : Pos) (s1 : State) → HasKind (content_form of) v
          → StandsAt mid (on position1 (content_code of ∷ i.Drop ∷ []))
          → Reaches e code it.most (here objects answered1 mid (pushed (content_form of) v (Ptr q ∷ [])) s1)
          (content_stored of q v position1 s1) (λ u. Unit {0}) (λ u last s2. here objects answered1 (mid + 1 + 1) [] s2)
      stored_reaches of q v objects answered1 mid position1 s1 has there =
          does_reaches e code it.most _ (content_stored of q v position1 s1)
          (λ u s2. here objects answered1 (mid + 1 + 1) [] s2) (λ u. Unit {0})
          (content_does it of q v [] objects answered1 mid position1 s1 has there)

  -- ---- the `return` of a structure

  -- It is copied to the place of the call.
  pub return_whole_runs : (size : ℕ) (core : Core) (position : Pos) (at next : ℕ) (answered : Bool) (s : State)
      → flow.gives ≡ Some (content.Whole size) → form_of core ≡ form.Place → CoreTyped names core → CallsRunIn it
      table call core
      → StandsAt at (on position (i.Result ∷ []) ++ code_at program table (at + 1) around.values core
      ++ on (pos_in core) (i.Copy size ∷ i.Give ∷ []))
      → Goes (here [] answered at [] s) (evaluated program call core it.frame.held (λ v s1.
      bind (copied size it.frame.result (pointer_in v) (pos_in core) s1)
      (λ u s2. Gives (Returned (Some (Ptr it.frame.result))) s2)) s) next
  return_whole_runs size core position at next answered s gives is t plain stands =
      let l : ℕ = code_sizes.size_in core in
      let low : ℕ = around.values in
      let high : ℕ = low + objects_in core in
      let p : Pointer = it.frame.result in
      let a : List (Instr × Pos) = code_at program table (at + 1) low core in
      let b : List (Instr × Pos) = on (pos_in core) (i.Copy size ∷ i.Give ∷ []) in
      let mid : ℕ = at + 1 + l in
      let behind : StandsAt mid b =
      stand_back it.code it.function (at + 1) l a b (code_long program table (at + 1) low core) stands.1 in
      let own : it.function.form ≡ form.Place = inside.form_is ∙ ap given_form gives in
      let back : Flow = Returned (Some (Ptr p)) in
      reaches_from e code it.most _ (here [] answered (at + 1) (Ptr p ∷ []) s) _ (λ f. Bool) (leads it inside next)
      (one_step (stretch.beside it [] answered) at [] s i.Result position stands.0)
      (reaches_bind e code it.most _ (val core [] s) _ (Left form.Place low high)
      (stretch.Leads it low form.Place high mid (Ptr p ∷ [])) (λ f. Bool) (leads it inside next)
      (actions.core_runs program table call it names flow around inside core form.Place is t plain (at + 1)
      (stand_front it.code it.function (at + 1) a b stands.1) (Ptr p ∷ []) []
      (record { objects = []; slots = tt; same = refl; answered = answered }) s)
      (λ x s1 left.
      let objects : List Held = left.now.objects in
      let answered1 : Bool = left.now.answered in
      let other : Running = stretch.beside it objects answered1 in
      let gone : State → Value → List Value → Place = λ s2 v below.
      leaves e code it.function.form other.frame v it.rest s2 in
      subst (λ v. Goes (here objects answered1 mid (v ∷ Ptr p ∷ []) s1)
      (bind (bind (copied size p (pointer_in v) (pos_in core) s1) (λ u s2. Gives back s2))
      (λ f s2. Gives f (all_died x.made s2))) next) (sym left.kind.1)
      (reaches_bind e code it.most _ (bind (copied size p left.kind.0 (pos_in core) s1) (λ u s2. Gives back s2)) _
      (λ f. f ≡ back) (λ f same s2. here objects answered1 (mid + 1) (Ptr p ∷ []) s2) (λ f. Bool)
      (leads it inside next)
      (does_then e code it.most _ (copied size p left.kind.0 (pos_in core) s1) _
      (λ u s2. here objects answered1 (mid + 1) (Ptr p ∷ []) s2) (λ u. Unit {0}) (λ f. f ≡ back)
      (λ f same s2. here objects answered1 (mid + 1) (Ptr p ∷ []) s2)
      (copy_does it size left.kind.0 p [] objects answered1 mid (pos_in core) s1 (behind.0, tt))
      (λ u s2 any. reaches_gives e code it.most _ back s2 (λ f. f ≡ back)
      (λ f same s3. here objects answered1 (mid + 1) (Ptr p ∷ []) s3) refl refl))
      (λ f s2 same.
      let dead : all_died (numbers (objects ++ it.frame.held)) s2
      ≡ all_died (numbers it.frame.held) (all_died x.made s2) =
      parts.died_both objects it.frame.held s2
      ∙ ap (λ made. all_died (numbers it.frame.held) (all_died made s2)) left.now.same in
      subst (λ g. Goes (here objects answered1 (mid + 1) (Ptr p ∷ []) s2) (Gives g (all_died x.made s2)) next)
      (sym same)
      (reaches_from e code it.most _ (gone s2 (Ptr p) []) (Gives back (all_died x.made s2)) (λ f. Bool)
      (leads it inside next)
      (comes_on e code _ _ _
      (one_step other (mid + 1) (Ptr p ∷ []) s2 i.Give (pos_in core) behind.1.0)
      (comes_same e code _ _ (ap (λ f. on_form f (Ptr p ∷ []) (gone s2)) own)))
      (reaches_gives e code it.most _ back (all_died x.made s2) (λ f. Bool) (leads it inside next) answered1
      (ap (λ s3. returned e code (left_by it.function.form p (Ptr p)) (Ptr p) it.rest (call_left s3)) dead)))))))
