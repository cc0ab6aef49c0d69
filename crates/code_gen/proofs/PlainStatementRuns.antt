-- The machine does what statements mean, where their calls run as they are meant.
use Rattle.std.proofs.Common.{◌≡◌, ◌∙◌, ℕ, zero, suc, ◌+◌, Bool, List, [], ◌∷◌, ◌++◌, refl, ap, sym, subst, arith}
use Rattle.std.proofs.Common.{length}
use Rattle.std.proofs.lemmas.List.{length-append}
use Rattle.critical_table.specs.declared.pos.Pos.{Pos}
use Rattle.c_core.specs.Named.{Names, names_in_block}
use Rattle.c_core.specs.TreeUnit.{Statement, Stands, Action, Statements, NoStatement, MoreStatements, Program}
use Rattle.c_core.specs.TreeUnit as unit
use Rattle.c_core.specs.TypedUnit.{Flow as FlowTyped, StatementTyped, ActionTyped, StatementsTyped}
use Rattle.c_core.specs.TypedUnit as typed
use Rattle.run_defs.specs.State.{State}
use Rattle.run_defs.specs.Evaluation.{Evaluation}
use Rattle.vm_code.specs.declared.instr.Instr.{Instr}
use Rattle.vm_code.specs.declared.instr.Instr.TheVariants as i
use Rattle.code_gen.specs.CalledTypes.{Through}
use Rattle.code_gen.specs.ExpressionCode.{on}
use Rattle.code_gen.specs.Expressions.{Call}
use Rattle.code_gen.specs.Flows.{Flow, Next}
use Rattle.code_gen.specs.RunLaw.{Comes, Reaches, StandAt, Running, stands_at}
use Rattle.code_gen.specs.StatementCode.{Around, makes, kills_of, within_block, in_loop, in_switch, full_size}
use Rattle.code_gen.specs.StatementCode.{full_code, item_place}
use Rattle.code_gen.specs.StatementCode.{statement_size}
use Rattle.code_gen.specs.StatementCode.{items_size, action_size, statement_code, action_code, items_code, texts_in}
use Rattle.code_gen.specs.StatementCode.{texts_of, texts_among}
use Rattle.code_gen.specs.StatementRunLaw.{Inside, leads, StatementCallsRunIn, ActionCallsRunIn, ItemsCallsRunIn}
use Rattle.code_gen.specs.StatementRunLaw.{TextsStandAt}
use Rattle.code_gen.specs.StatementRunLaw.{EachStatementRuns}
use Rattle.code_gen.specs.Statements.{statement, action_done, items_from}
use Rattle.code_gen.proofs.Going.{one_step, stand_front, stand_back, reaches_gives, reaches_bind}
use Rattle.code_gen.proofs.Lengths.{on_long}
use Rattle.code_gen.proofs.PlainActions as actions
use Rattle.code_gen.proofs.PlainBlocks as blocks
use Rattle.code_gen.proofs.PlainLoops as loops
use Rattle.code_gen.proofs.PlainPieces as pieces_of
use Rattle.code_gen.proofs.PlainStores as stores
use Rattle.code_gen.proofs.PlainStretches as stretch
use Rattle.code_gen.proofs.PlainSwitches as switches
use Rattle.code_gen.proofs.StatementLengths.{full_long, statement_long, items_long, makes_long, items_size_at}
use Rattle.code_gen.proofs.StatementLengths.{left_long}
use Rattle.code_gen.proofs.StatementLengths.{left_again_long}

module _ (program : Program) (table : List Through) (call : Call) where
  abbrev size_of : Around → Statement → ℕ
  size_of around st = statement_size (length around.left) (length around.left_again) st

  abbrev Runs : {names : Names} {flow : FlowTyped} {around : Around} (it : Running) → Inside it names flow around
      → (State → Evaluation Flow) → (from next : ℕ) → Type 0
  Runs it inside x from next = (answered : Bool) (s : State)
      → Reaches it.environment it.code it.most (stands_at it [] answered from [] s) (x s) (λ f. Bool)
      (leads it inside next)

  mutual
    statement_runs : (it : Running) (names : Names) (flow : FlowTyped) (around : Around)
        (inside : Inside it names flow around) (st : Statement) → StatementTyped names flow st → StatementCallsRunIn
        it table call st
        → (at text : ℕ) → StandAt it.code it.function at (statement_code program table at text around st)
        → TextsStandAt it.code text (texts_in st)
        → Runs it inside (statement program call it.frame.result st it.frame.held) at (at + size_of around st)
    statement_runs it names flow around inside (Stands here action) t plain at text stands literals =
        action_runs it names flow around inside here action t plain at text stands literals

    action_runs : (it : Running) (names : Names) (flow : FlowTyped) (around : Around)
        (inside : Inside it names flow around) (here : Pos) (action : Action) → ActionTyped names flow action
        → ActionCallsRunIn it table call action → (at text : ℕ)
        → StandAt it.code it.function at (action_code program table here at text around action)
        → TextsStandAt it.code text (texts_of action)
        → Runs it inside (action_done program call it.frame.result here action it.frame.held) at
        (at + action_size (length around.left) (length around.left_again) action)
    action_runs it names flow around inside here (unit.Block locals items) t plain at text stands literals answered s =
        let inner : Around = within_block locals around in
        let n : ℕ = length locals in
        let size : ℕ = items_size (length inner.left) (length inner.left_again) items in
        let a : List (Instr × Pos) = on here (makes locals) in
        let b : List (Instr × Pos) = items_code program table (at + n) text inner items in
        let long_a : length a ≡ n = on_long here (makes locals) ∙ makes_long locals in
        let long_b : length b ≡ size = items_long program table (at + n) text inner items in
        let both : StandAt it.code it.function at (a ++ b) =
        stand_front it.code it.function at (a ++ b) (on here (kills_of locals)) stands in
        let behind : StandAt it.code it.function (at + n + size) (on here (kills_of locals)) =
        subst (λ k. StandAt it.code it.function k (on here (kills_of locals))) (omega arith)
        (stand_back it.code it.function at (n + size) (a ++ b) (on here (kills_of locals))
        (omega (arith, length-append a b, long_a, long_b)) stands) in
        let same : at + n + size + n ≡ at + (n + (items_size (length around.left + n) (length around.left_again + n)
        items + n)) = omega (
          arith,
          items_size_at items _ _ _ _ (left_long locals around) (left_again_long locals around),
        ) in
        actions.to_there program table call it names flow around inside _ _ (at + n + size + n) _ same
        (blocks.block_runs program table call it names flow around inside locals
        (items_from program call it.frame.result items 0) here at size answered [] s t.0
        (stand_front it.code it.function at a b both) behind
        (λ made s1 are.
        items_runs (blocks.block_of it names flow around inside locals made answered are t.0) (names_in_block
        locals names)
        flow inner (blocks.inside_block it names flow around inside locals made answered are t.0) items t.1 plain
        (at + n)
        text (stand_back it.code it.function at n a b long_a both) literals zero answered s1))
    action_runs it names flow around inside here (unit.Zero slot size) t plain at text stands literals answered s =
        stores.zero_runs program table call it names flow around inside slot size at here answered s t stands
    action_runs it names flow around inside here (unit.Initialize slot byte content core) t plain at text stands
        literals answered s =
        stores.initialize_runs program table call it names flow around inside slot byte content core here at answered s
        t.1 t.2 t.3 plain stands
    action_runs it names flow around inside here (unit.InitializeBytes slot byte bytes) t plain at text stands
        literals answered s =
        stores.bytes_runs program table call it names flow around inside slot byte text at bytes here answered s t.2
        literals.0 stands
    action_runs it names flow around inside here (unit.SealBytes slot byte len)
        t plain at text stands literals answered s =
        actions.seal_runs program table call it names flow around inside slot byte len here at answered s t.1 stands
    action_runs it names flow around inside here (unit.Evaluate core) t plain at text stands literals answered s =
        actions.done_runs program table call it names flow around inside core here at answered s t.0 t.1 plain stands
    action_runs it names flow around inside here (unit.If test first second)
        t plain at text stands literals answered s =
        let l : ℕ = full_size test in
        let m : ℕ = size_of around first in
        let r : ℕ = size_of around second in
        let next : ℕ = at + (l + (m + (r + 2))) in
        let to : ℕ = at + (l + (m + 2)) in
        let a : List (Instr × Pos) = full_code program table here at around test in
        let z : List (Instr × Pos) = on here (i.IfZero to ∷ []) in
        let b : List (Instr × Pos) = statement_code program table (at + (l + 1)) text around first in
        let j : List (Instr × Pos) = on here (i.Jump next ∷ []) in
        let c : List (Instr × Pos) = statement_code program table to (text + length (texts_in first)) around second in
        let long_a : length a ≡ l = full_long program table here at around test in
        let long_b : length b ≡ m = statement_long program table (at + (l + 1)) text around first in
        let long_z : length z ≡ 1 = refl in
        let long_j : length j ≡ 1 = refl in
        let pieces = pieces_of.in_pieces it at l 1 m a z b j long_a refl long_b
        (stand_front it.code it.function at (a ++ z ++ b ++ j) c stands) in
        let last : StandAt it.code it.function to c =
        stand_back it.code it.function at (l + (m + 2)) (a ++ z ++ b ++ j) c (omega (
          arith,
          length-append (a ++ z ++ b) j,
          length-append (a ++ z) b,
          length-append a z,
          long_a,
          long_b,
          long_z,
          long_j,
        )) stands in
        let first_end : at + (l + 1) + m ≡ at + (l + (1 + m)) = omega arith in
        let first_start : at + (l + 1) ≡ at + l + 1 = omega arith in
        let second_end : to + r ≡ next = omega arith in
        actions.if_runs program table call it names flow around inside test here at to next answered s
        (statement program call it.frame.result first it.frame.held)
        (statement program call it.frame.result second it.frame.held) t.0 t.1 plain.0 pieces.first pieces.second
        (λ answered1 s1 fewer.
        actions.from_there program table call it names flow around inside _ (at + (l + 1)) _ next answered1 s1
        first_start
        (actions.goes_on program table call it names flow around inside _ _ (at + (l + 1) + m) next
        (statement_runs it names flow around inside first t.2 plain.1 (at + (l + 1)) text pieces.third
        (pieces_of.texts_front it.code text (texts_in first) (texts_in second) literals) answered1 s1)
        (λ answered2 s2.
        subst (λ k. Comes it.environment it.code (stands_at it [] answered2 k [] s2)
        (stands_at it [] answered2 next [] s2)) (sym first_end)
        (one_step (stretch.beside it [] answered2) (at + (l + (1 + m))) [] s2 (i.Jump next) here pieces.last.0))))
        (λ answered1 s1.
        actions.to_there program table call it names flow around inside _ _ (to + r) next second_end
        (statement_runs it names flow around inside second t.3 plain.2 to (text + length (texts_in first)) last
        (pieces_of.texts_back it.code text (texts_in first) (texts_in second) literals) answered1 s1))
    action_runs it names flow around inside here (unit.While test body)
        t plain at text stands literals answered s =
        loops.while_runs program table call it names flow around inside test body here at text t.0 t.1 plain.0 stands
        (λ end again from there. statement_runs it names (typed.in_loop flow) (in_loop end again around)
        (loops.inside_loop program table call it names flow around inside end again) body t.2 plain.1 from text there
        literals) answered s
    action_runs it names flow around inside here (unit.Do body test)
        t plain at text stands literals answered s =
        loops.do_runs program table call it names flow around inside body test here at text t.1 t.2 plain.1 stands
        (λ end again from there. statement_runs it names (typed.in_loop flow) (in_loop end again around)
        (loops.inside_loop program table call it names flow around inside end again) body t.0 plain.0 from text there
        literals) answered s
    action_runs it names flow around inside here (unit.For test step body)
        t plain at text stands literals answered s =
        loops.for_runs program table call it names flow around inside test step body here at text t.0 t.1 plain.0 t.2
        t.3 plain.1 stands
        (λ end again from there. statement_runs it names (typed.in_loop flow) (in_loop end again around)
        (loops.inside_loop program table call it names flow around inside end again) body t.4 plain.2 from text there
        literals) answered s
    action_runs it names flow around inside here (unit.Switch core locals items cases default) t plain at text stands
        literals answered s =
        switches.switch_runs program table call it names flow around inside locals items cases default here t.2 core at
        text t.0 plain.0 t.1 stands
        (λ end first there made answered1 are skipped s1.
        let outer : Inside it names (typed.in_switch flow) (in_switch end around) =
        switches.inside_switch program table call it names flow around inside end in
        items_runs
        (blocks.block_of it names (typed.in_switch flow) (in_switch end around) outer locals made answered1 are t.2)
        (names_in_block locals names) (typed.in_switch flow) (within_block locals (in_switch end around))
        (blocks.inside_block it names (typed.in_switch flow) (in_switch end around) outer locals made answered1 are t.2)
        items t.3 plain.1 first text there literals skipped answered1 s1) answered s
    action_runs it names flow around inside here unit.Break t plain at text stands literals answered s =
        actions.break_runs program table call it names flow around inside here at _ answered s stands
    action_runs it names flow around inside here unit.Continue t plain at text stands literals answered s =
        actions.continue_runs program table call it names flow around inside here at _ answered s stands
    action_runs it names flow around inside here unit.Return t plain at text stands literals answered s =
        actions.return_runs program table call it names flow around inside here at _ answered s stands
    action_runs it names flow around inside here (unit.ReturnValue core) t plain at text stands literals answered s =
        actions.return_value_runs program table call it names flow around inside core here at _ answered s t.0 t.1 plain
        stands
    action_runs it names flow around inside here (unit.ReturnWhole size core)
        t plain at text stands literals answered s =
        stores.return_whole_runs program table call it names flow around inside size core here at _ answered s t.1 t.2
        t.3 plain stands

    -- the items of a block, from one of them on
    items_runs : (it : Running) (names : Names) (flow : FlowTyped) (around : Around)
        (inside : Inside it names flow around) (items : Statements) → StatementsTyped names flow items →
        ItemsCallsRunIn it table call items
        → (at text : ℕ) → StandAt it.code it.function at (items_code program table at text around items)
        → TextsStandAt it.code text (texts_among items) → (skipped : ℕ)
        → Runs it inside (items_from program call it.frame.result items skipped it.frame.held)
        (item_place at (length around.left) (length around.left_again) items skipped)
        (at + items_size (length around.left) (length around.left_again) items)
    items_runs it names flow around inside NoStatement t plain at text stands literals zero answered s =
        let same : at ≡ at + 0 = omega arith in
        reaches_gives it.environment it.code it.most _ Next s (λ f. Bool) (leads it inside (at + 0)) answered
        (ap (λ k. stands_at it [] answered k [] s) same)
    items_runs it names flow around inside NoStatement t plain at text stands literals (suc skipped) answered s =
        let same : at ≡ at + 0 = omega arith in
        reaches_gives it.environment it.code it.most _ Next s (λ f. Bool) (leads it inside (at + 0)) answered
        (ap (λ k. stands_at it [] answered k [] s) same)
    items_runs it names flow around inside (MoreStatements first rest) t plain at text stands literals (suc skipped)
        answered s =
        let m : ℕ = size_of around first in
        let r : ℕ = items_size (length around.left) (length around.left_again) rest in
        let a : List (Instr × Pos) = statement_code program table at text around first in
        let b : List (Instr × Pos) = items_code program table (at + m) (text + length (texts_in first)) around rest in
        let same : at + m + r ≡ at + (m + r) = omega arith in
        actions.to_there program table call it names flow around inside _ _ (at + m + r) _ same
        (items_runs it names flow around inside rest t.1 plain.1 (at + m) (text + length (texts_in first))
        (stand_back it.code it.function at m a b (statement_long program table at text around first) stands)
        (pieces_of.texts_back it.code text (texts_in first) (texts_among rest) literals) skipped answered s)
    items_runs it names flow around inside (MoreStatements first rest) t plain at text stands literals zero answered s =
        let m : ℕ = size_of around first in
        let r : ℕ = items_size (length around.left) (length around.left_again) rest in
        let a : List (Instr × Pos) = statement_code program table at text around first in
        let b : List (Instr × Pos) = items_code program table (at + m) (text + length (texts_in first)) around rest in
        let same : at + m + r ≡ at + (m + r) = omega arith in
        reaches_bind it.environment it.code it.most _ (statement program call it.frame.result first it.frame.held s) _
        (λ f. Bool) (leads it inside (at + m)) (λ f. Bool) (leads it inside (at + (m + r)))
        (statement_runs it names flow around inside first t.0 plain.0 at text
        (stand_front it.code it.function at a b stands)
        (pieces_of.texts_front it.code text (texts_in first) (texts_among rest) literals) answered s)
        (λ f s1 answered1.
        actions.after_runs program table call it names flow around inside f
        (items_from program call it.frame.result rest 0 it.frame.held) (at + m) (at + (m + r)) answered1 s1
        (λ answered2 s2.
        actions.to_there program table call it names flow around inside _ _ (at + m + r) _ same
        (items_runs it names flow around inside rest t.1 plain.1 (at + m) (text + length (texts_in first))
        (stand_back it.code it.function at m a b (statement_long program table at text around first) stands)
        (pieces_of.texts_back it.code text (texts_in first) (texts_among rest) literals) zero answered2 s2)))

-- as the statement has it
pub statements_run : EachStatementRuns
statements_run it program table call names flow around inside st t plain at text stands literals =
    statement_runs program table call it names flow around inside st t plain at text stands literals
