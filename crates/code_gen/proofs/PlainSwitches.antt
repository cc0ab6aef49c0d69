-- What a `switch` does, where its items do what they mean.
use Rattle.std.proofs.Common.{◌≡◌, ◌∙◌, ℕ, ◌+◌, Bool, List, [], ◌∷◌, ◌++◌, refl, ap, sym, subst, arith, length}
use Rattle.std.proofs.Common.{Option, Some, None, append_assoc}
use Rattle.std.proofs.lemmas.List.{length-append}
use Rattle.std.specs.Prelude.{ℤ, unwrap_or}
use Rattle.critical_table.specs.declared.pos.Pos.{Pos}
use Rattle.c_core.specs.declared.form.Form.{Form}
use Rattle.c_core.specs.declared.form.Form.TheVariants as form
use Rattle.c_core.specs.declared.statement.Case.{Case}
use Rattle.c_core.specs.declared.statement.Local.{Local}
use Rattle.c_core.specs.Forms.{form_of}
use Rattle.c_core.specs.Named.{Names}
use Rattle.c_core.specs.Tree.{Core}
use Rattle.c_core.specs.TreeUnit.{Statements, Program}
use Rattle.c_core.specs.TreeUnit as unit
use Rattle.c_core.specs.Typed.{CoreTyped}
use Rattle.c_core.specs.Types.{IsNumber}
use Rattle.c_core.specs.TypedUnit.{AreFresh, AreLabels, Flow as FlowTyped}
use Rattle.c_core.specs.TypedUnit as typed
use Rattle.lib_defs.specs.declared.value.Value.{Value}
use Rattle.lib_defs.specs.declared.value.Value.TheVariants.{Num}
use Rattle.run_defs.specs.State.{State}
use Rattle.run_defs.specs.Evaluation.{Evaluation, Gives}
use Rattle.run_defs.specs.Functions.{Environment}
use Rattle.vm_code.specs.declared.instr.Instr.{Instr}
use Rattle.vm_code.specs.declared.instr.Instr.TheVariants as i
use Rattle.vm_code.specs.Accesses.{number_in}
use Rattle.vm_code.specs.Contents.{Contents}
use Rattle.vm_code.specs.Frames.{Place}
use Rattle.vm_code.specs.Machine.{case_place}
use Rattle.vm_code.specs.Slots.{Held}
use Rattle.code_gen.specs.Blocks.{in_block}
use Rattle.code_gen.specs.CalledTypes.{Through}
use Rattle.code_gen.specs.ExpressionCode.{on}
use Rattle.code_gen.specs.Expressions.{Call}
use Rattle.code_gen.specs.Flows.{Flow, Next, Broke, Continued, Returned, label_at, behind_switch}
use Rattle.code_gen.specs.RunLaw.{CallsRunIn, Reaches, StandAt, Running, stands_at}
use Rattle.code_gen.specs.StatementCode.{Around, in_switch, within_block, full_size, full_code, items_size, item_place}
use Rattle.code_gen.specs.StatementCode.{items_code, action_size, action_code, makes, kills_of, pairs_to, pairs_by}
use Rattle.code_gen.specs.StatementCode.{default_to, switch_code}
use Rattle.code_gen.specs.StatementRunLaw.{Inside, leads}
use Rattle.code_gen.specs.Statements.{action_done, evaluated, entered_at, items_from}
use Rattle.code_gen.proofs.Going.{comes_on, one_step, stand_front, stand_back, reaches_from, reaches_gives}
use Rattle.code_gen.proofs.Going.{reaches_bind}
use Rattle.code_gen.proofs.Lengths.{on_long}
use Rattle.code_gen.proofs.PlainActions as actions
use Rattle.code_gen.proofs.PlainBlocks as blocks
use Rattle.code_gen.proofs.PlainLoops.{leaves_none}
use Rattle.code_gen.proofs.PlainPieces as pieces_of
use Rattle.code_gen.proofs.PlainStatements as parts
use Rattle.code_gen.proofs.PlainStretches as stretch
use Rattle.code_gen.proofs.StatementLengths.{full_long, items_long, makes_long, kills_of_long, switch_code_long}
use Rattle.code_gen.proofs.StatementLengths.{pairs_to_long, left_long, left_again_long, items_size_at}
use Rattle.code_gen.proofs.SwitchCases.{case_found, cases_come, pairs_alike}

-- a value with labels is a number
labels_number : (f : Form) (items : Statements) (cases : List Case) (default : Option ℕ)
    → AreLabels f items cases default → IsNumber f
labels_number (form.Number kind) items cases default labels = tt
labels_number form.Pointer items cases default labels = absurd labels
labels_number form.Place items cases default labels = absurd labels
labels_number form.Nothing items cases default labels = absurd labels

item_place_at : (at : ℕ) (items : Statements) (l l2 a a2 k : ℕ) → l ≡ l2 → a ≡ a2
    → item_place at l a items k ≡ item_place at l2 a2 items k
item_place_at at items l l2 a a2 k e f =
    ap (λ n. item_place at n a items k) e ∙ ap (λ n. item_place at l2 n items k) f

module _ (program : Program) (table : List Through) (call : Call) (it : Running) (names : Names) (flow : FlowTyped)
    (around : Around) (inside : Inside it names flow around) where
  abbrev e : Environment
  e = it.environment

  abbrev code : Contents
  code = it.code

  abbrev StandsOn : ℕ → Pos → List Instr → Type 0
  StandsOn at position instrs = StandAt it.code it.function at (on position instrs)

  abbrev here : Bool → ℕ → List Value → State → Place
  here answered at operands s = stands_at it [] answered at operands s

  abbrev Goes : Place → Evaluation Flow → ℕ → Type 0
  Goes from x next = Reaches it.environment it.code it.most from x (λ f. Bool) (leads it inside next)

  -- the items of a switch, outside of its block
  abbrev pub inside_switch : (end : ℕ) → Inside it names (typed.in_switch flow) (in_switch end around)
  inside_switch end = record {
    form_is = inside.form_is;
    above = inside.above;
    named = inside.named;
    sizes = inside.sizes;
    breaks = leaves_none it.frame.held;
    continues = inside.continues;
  }

  -- where the items lead, the switch leads
  switch_left : (end : ℕ) (f : Flow) (answered : Bool) (s : State)
      → Goes (leads it (inside_switch end) end f answered s) (Gives (behind_switch f) s) end
  switch_left end Next answered s = reaches_gives e code it.most _ Next s (λ f. Bool) (leads it inside end) answered
      refl
  switch_left end Broke answered s = reaches_gives e code it.most _ Next s (λ f. Bool) (leads it inside end) answered
      refl
  switch_left end Continued answered s =
      reaches_gives e code it.most _ Continued s (λ f. Bool) (leads it inside end) answered refl
  switch_left end (Returned v) answered s =
      reaches_gives e code it.most _ (Returned v) s (λ f. Bool) (leads it inside end) answered refl

  -- ---- the code

  -- what stands behind the value of a switch: where it is asked whether a label fits, where the objects are made, and
  -- where it is asked which label fits
  record Asks (at : ℕ) (position : Pos) (entered passed : ℕ) (item : ℕ → ℕ) (locals : List Local) (cases : List Case)
      (default : Option ℕ) : Type 0 where
    twice : StandsOn at position (i.Duplicate ∷ i.Cases (length cases) ∷ [])
    fits : StandsOn (at + 1 + 1) position (pairs_to entered cases
        ++ i.Default (default_to default entered passed) ∷ makes locals)
    made : StandsOn entered position (makes locals)
    again : StandsOn (entered + length locals) position (i.Cases (length cases) ∷ [])
    which : StandsOn (entered + length locals + 1) position (pairs_by item cases
        ++ i.Default (item (unwrap_or default 0)) ∷ [])

  on_front : (at : ℕ) (position : Pos) (a b : List Instr) → StandsOn at position (a ++ b) → StandsOn at position a
  on_front at position a b stands = stand_front code it.function at (on position a) (on position b)
      (subst (λ l. StandAt code it.function at l) (parts.on_both position a b) stands)

  on_back : (at n : ℕ) (position : Pos) (a b : List Instr) → length a ≡ n → StandsOn at position (a ++ b)
      → StandsOn (at + n) position b
  on_back at n position a b long stands = stand_back code it.function at n (on position a) (on position b)
      (on_long position a ∙ long) (subst (λ l. StandAt code it.function at l) (parts.on_both position a b) stands)

  asks_stand : (at entered passed : ℕ) (item : ℕ → ℕ) (position : Pos) (locals : List Local) (cases : List Case)
      (default : Option ℕ) → entered ≡ at + (length cases + 3)
      → StandsOn at position (switch_code entered passed item locals cases default)
      → Asks at position entered passed item locals cases default
  asks_stand at entered passed item position locals cases default same stands =
      let c : ℕ = length cases in
      let k : ℕ = length locals in
      let asks : List Instr = i.Duplicate ∷ i.Cases c ∷ pairs_to entered cases in
      let enters : List Instr = i.Default (default_to default entered passed) ∷ makes locals in
      let finds : List Instr = i.Cases c ∷ pairs_by item cases in
      let last : List Instr = i.Default (item (unwrap_or default 0)) ∷ [] in
      let long_asks : length asks ≡ c + 2 = omega (arith, pairs_to_long entered cases) in
      let long_front : length (asks ++ enters) ≡ c + (k + 3) =
      omega (arith, length-append asks enters, long_asks, makes_long locals) in
      let parted : StandsOn at position ((asks ++ enters) ++ (finds ++ last)) =
      subst (λ l. StandsOn at position l) (append_assoc (asks ++ enters) finds last) stands in
      let front : StandsOn at position (asks ++ enters) =
      on_front at position (asks ++ enters) (finds ++ last) parted in
      let makes_at : at + (c + 2) + 1 ≡ entered = omega (arith, same) in
      let finds_at : at + (c + (k + 3)) ≡ entered + k = omega (arith, same) in
      let back : StandsOn (entered + k) position (finds ++ last) = subst (λ p. StandsOn p position (finds ++ last))
      finds_at (on_back at (c + (k + 3)) position (asks ++ enters) (finds ++ last) long_front parted) in
      record {
        twice = (front.0, (front.1.0, tt));
        fits = front.1.1;
        made = subst (λ p. StandsOn p position (makes locals)) makes_at
            (on_back at (c + 2) position asks enters long_asks front).1;
        again = (back.0, tt);
        which = back.1;
      }

  -- ---- the run

  module _ (locals : List Local) (items : Statements) (cases : List Case) (default : Option ℕ) (position : Pos)
      (fresh : AreFresh flow.slots locals names.objects) where
    -- the items, from one of them on, where the objects of the block are made
    abbrev pub ItemsRun : (end first : ℕ) → Type 0
    ItemsRun end first = (made : List Held) (answered : Bool)
        (are : parts.AreMade it locals [] names around.values made) (skipped : ℕ) (s : State)
        → let inner : Around = within_block locals (in_switch end around) in
        Reaches e code it.most (stands_at it made answered
        (item_place first (length inner.left) (length inner.left_again) items
        skipped) [] s) (items_from program call it.frame.result items skipped (made ++ it.frame.held) s) (λ f. Bool)
        (leads (blocks.block_of it names (typed.in_switch flow) (in_switch end around) (inside_switch end) locals made
        answered are fresh)
        (blocks.inside_block it names (typed.in_switch flow) (in_switch end around) (inside_switch end) locals made
        answered are fresh) (first + items_size (length inner.left) (length inner.left_again) items))

    entered_runs : (at entered first passed : ℕ)
        → let l : ℕ = length locals in
        let again : ℕ = length around.left_again + l in
        first ≡ entered + (l + (length cases + 2)) → passed ≡ first + (items_size l again items + (l + 1))
        → Asks at position entered passed (item_place first l again items) locals cases default
        → StandsOn (first + items_size l again items) position (kills_of locals ++ i.Jump (passed + 1) ∷ i.Drop ∷ [])
        → ItemsRun (passed + 1) first
        → (n : ℤ) (o : Option ℕ) → label_at n cases default ≡ o → (answered : Bool) (s : State)
        → Goes (here answered (default_to o entered passed) (Num n ∷ []) s)
        (entered_at o (λ k. in_block locals (items_from program call it.frame.result items k) it.frame.held) s)
        (passed + 1)
    entered_runs at entered first passed first_is passed_is asks behind runs n None is answered s =
        let l : ℕ = length locals in
        let m : ℕ = items_size l (length around.left_again + l) items in
        let jumps : List Instr = i.Jump (passed + 1) ∷ i.Drop ∷ [] in
        let long : length (kills_of locals) ≡ l = kills_of_long locals in
        let back : StandsOn (first + m + l) position jumps =
        on_back (first + m) l position (kills_of locals) jumps long behind in
        let again_at : first + m + l + 1 ≡ passed = omega (arith, passed_is) in
        let drops : StandsOn passed position (i.Drop ∷ []) =
        subst (λ p. StandsOn p position (i.Drop ∷ [])) again_at back.1 in
        reaches_from e code it.most _ (here answered (passed + 1) [] s) (Gives Next s) (λ f. Bool)
        (leads it inside (passed + 1))
        (one_step (stretch.beside it [] answered) passed (Num n ∷ []) s i.Drop position drops.0)
        (reaches_gives e code it.most _ Next s (λ f. Bool) (leads it inside (passed + 1)) answered refl)
    entered_runs at entered first passed first_is passed_is asks behind runs n (Some k) is answered s =
        let l : ℕ = length locals in
        let a : ℕ = length around.left_again + l in
        let m : ℕ = items_size l a items in
        let end : ℕ = passed + 1 in
        let size : ℕ = length cases + 2 + m in
        let inner : Around = within_block locals (in_switch end around) in
        let item : ℕ → ℕ = item_place first l a items in
        let left_is : length inner.left ≡ l =
        omega (arith, left_long locals (in_switch end around)) in
        let again_is : length inner.left_again ≡ a = left_again_long locals (in_switch end around) in
        let kills_at : first + m ≡ entered + l + size = omega (arith, first_is) in
        let jump_at : first + m + l ≡ entered + l + size + l = omega (arith, first_is) in
        let jumps : List Instr = i.Jump end ∷ i.Drop ∷ [] in
        let kills_stand : StandsOn (entered + l + size) position (kills_of locals) =
        subst (λ p. StandsOn p position (kills_of locals)) kills_at
        (on_front (first + m) position (kills_of locals) jumps behind) in
        let jump_stands : StandsOn (entered + l + size + l) position jumps =
        subst (λ p. StandsOn p position jumps) jump_at
        (on_back (first + m) l position (kills_of locals) jumps (kills_of_long locals) behind) in
        let block : State → Evaluation Flow =
        in_block locals (items_from program call it.frame.result items k) it.frame.held in
        reaches_bind e code it.most _ (block s) _ (λ f. Bool) (leads it (inside_switch end) end) (λ f. Bool)
        (leads it inside end)
        (actions.goes_on program table call it names (typed.in_switch flow) (in_switch end around) (inside_switch end)
        (here answered entered (Num n ∷ []) s) (block s) (entered + l + size + l) end
        (blocks.block_runs program table call it names (typed.in_switch flow) (in_switch end around) (inside_switch end)
        locals (items_from program call it.frame.result items k) position entered size answered (Num n ∷ []) s fresh
        asks.made kills_stand
        (λ made s1 are.
        let found : case_place code.instrs (entered + l + 1) (length cases) n ≡ Some (item k) =
        case_found code it.function (λ o. item (unwrap_or o 0)) n cases default [] position (entered + l + 1) asks.which
        ∙ ap (λ o. Some (item (unwrap_or o 0))) is in
        let item_is : item k ≡ item_place first (length inner.left) (length inner.left_again) items k =
        sym (item_place_at first items _ _ _ _ k left_is again_is) in
        let end_is : first + items_size (length inner.left) (length inner.left_again) items ≡ entered + l + size =
        ap (λ w. first + w) (items_size_at items _ _ _ _ left_is again_is) ∙ kills_at in
        reaches_from e code it.most _ (stands_at it made answered (item k) [] s1)
        (items_from program call it.frame.result items k (made ++ it.frame.held) s1) (λ f. Bool) _
        (cases_come it made answered (entered + l) (length cases) (item k) n [] position s1 asks.again found)
        (subst (λ w. Reaches e code it.most (stands_at it made answered (item k) [] s1)
        (items_from program call it.frame.result items k (made ++ it.frame.held) s1) (λ f. Bool)
        (leads (blocks.block_of it names (typed.in_switch flow) (in_switch end around) (inside_switch end) locals made
        answered are fresh)
        (blocks.inside_block it names (typed.in_switch flow) (in_switch end around) (inside_switch end) locals made
        answered are fresh) w)) end_is
        (subst (λ p. Reaches e code it.most (stands_at it made answered p [] s1)
        (items_from program call it.frame.result items k (made ++ it.frame.held) s1) (λ f. Bool)
        (leads (blocks.block_of it names (typed.in_switch flow) (in_switch end around) (inside_switch end) locals made
        answered are fresh)
        (blocks.inside_block it names (typed.in_switch flow) (in_switch end around) (inside_switch end) locals made
        answered are fresh) (first + items_size (length inner.left) (length inner.left_again) items)))
        (sym item_is) (runs made answered are k s1)))))
        (λ answered1 s1.
        one_step (stretch.beside it [] answered1) (entered + l + size + l) [] s1 (i.Jump end) position jump_stands.0))
        (λ f s1 answered1. switch_left end f answered1 s1)

    pub switch_runs : (core : Core) (at text : ℕ) → CoreTyped names core → CallsRunIn it table call core
        → AreLabels (form_of core) items cases default
        → StandAt it.code it.function at
        (action_code program table position at text around (unit.Switch core locals items cases default))
        → ((end first : ℕ) → StandAt it.code it.function first
        (items_code program table first text (within_block locals (in_switch end around)) items) → ItemsRun end first)
        → (answered : Bool) (s : State)
        → Goes (here answered at [] s) (action_done program call it.frame.result position
        (unit.Switch core locals items cases default) it.frame.held s)
        (at + action_size (length around.left) (length around.left_again)
        (unit.Switch core locals items cases default))
    switch_runs core at text t plain labels stands runs answered s =
        let v : ℕ = full_size core in
        let c : ℕ = length cases in
        let l : ℕ = length locals in
        let a : ℕ = length around.left_again + l in
        let m : ℕ = items_size l a items in
        let entered : ℕ = at + (v + (c + 3)) in
        let first : ℕ = entered + (l + (c + 2)) in
        let passed : ℕ = first + (m + (l + 1)) in
        let inner : Around = within_block locals (in_switch (passed + 1) around) in
        let item : ℕ → ℕ = item_place first l a items in
        let w : List (Instr × Pos) = full_code program table position at around core in
        let z : List (Instr × Pos) = on position (switch_code entered passed item locals cases default) in
        let b : List (Instr × Pos) = items_code program table first text inner items in
        let j : List (Instr × Pos) = on position (kills_of locals ++ i.Jump (passed + 1) ∷ i.Drop ∷ []) in
        let long_z : length z ≡ c + (l + (c + 5)) =
        on_long position (switch_code entered passed item locals cases default)
        ∙ switch_code_long entered passed item locals cases default in
        let left_is : length inner.left ≡ l = omega (arith, left_long locals (in_switch (passed + 1) around)) in
        let again_is : length inner.left_again ≡ a = left_again_long locals (in_switch (passed + 1) around) in
        let long_b : length b ≡ m =
        items_long program table first text inner items ∙ items_size_at items _ _ _ _ left_is again_is in
        let pieces = pieces_of.in_pieces it at v (c + (l + (c + 5))) m w z b j
        (full_long program table position at around core) long_z long_b stands in
        let first_at : at + (v + (c + (l + (c + 5)))) ≡ first = omega arith in
        let behind_at : at + (v + (c + (l + (c + 5)) + m)) ≡ first + m = omega arith in
        let asks : Asks (at + v) position entered passed item locals cases default =
        asks_stand (at + v) entered passed item position locals cases default (omega arith) pieces.second in
        let next : ℕ = at + (v + (c + (l + (c + (m + (l + 7)))))) in
        let next_is : passed + 1 ≡ next = omega arith in
        reaches_bind e code it.most _ (evaluated program call core it.frame.held Gives s) _
        (λ x. Bool × actions.IsNumeric x)
        (λ x left s1. here left.0 (at + v) (Num left.1.0 ∷ []) s1) (λ f. Bool) (leads it inside next)
        (actions.number_runs program table call it names flow around inside core position at answered s
        (labels_number (form_of core) items cases default labels) t plain pieces.first)
        (λ x s1 left.
        let n : ℤ = left.1.0 in
        let label : Option ℕ = label_at n cases default in
        let fits : StandsOn (at + v + 1 + 1) position (pairs_by (λ k. entered) cases
        ++ i.Default (default_to default entered passed) ∷ makes locals) =
        subst (λ pairs. StandsOn (at + v + 1 + 1) position (pairs ++ i.Default (default_to default entered passed)
        ∷ makes locals)) (pairs_alike entered cases) asks.fits in
        let found : case_place code.instrs (at + v + 1 + 1) c n ≡ Some (default_to label entered passed) =
        case_found code it.function (λ o. default_to o entered passed) n cases default (makes locals) position
        (at + v + 1 + 1) fits in
        subst (λ y. Goes (here left.0 (at + v) (Num n ∷ []) s1) (entered_at (label_at (number_in y) cases default)
        (λ k. in_block locals (items_from program call it.frame.result items k) it.frame.held) s1) next) (sym left.1.1)
        (reaches_from e code it.most _ (here left.0 (default_to label entered passed) (Num n ∷ []) s1) _ (λ f. Bool)
        (leads it inside next)
        (comes_on e code _ _ _
        (one_step (stretch.beside it [] left.0) (at + v) (Num n ∷ []) s1 i.Duplicate position asks.twice.0)
        (cases_come it [] left.0 (at + v + 1) c (default_to label entered passed) n (Num n ∷ []) position s1
        (asks.twice.1.0, tt) found))
        (actions.to_there program table call it names flow around inside _ _ (passed + 1) next next_is
        (entered_runs (at + v) entered first passed refl refl asks
        (subst (λ p. StandAt it.code it.function p j) behind_at pieces.last)
        (runs (passed + 1) first (subst (λ p. StandAt it.code it.function p b) first_at pieces.third)) n label refl
        left.0 s1))))
