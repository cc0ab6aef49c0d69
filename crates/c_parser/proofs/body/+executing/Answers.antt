-- What the goals of the cycle are left with.
use Rattle.std.proofs.Common.{[], ◌∷◌, ◌++◌, sym, ◌∙◌, ap, subst}
use Rattle.std.specs.Option.{option_map}
use Rattle.std.proofs.lemmas.Result.{err_from_is_err_and}
use Rattle.c_lexer.specs.declared.punct.Punct.TheVariants as punct
use Rattle.c_parser.specs.Agree.{Gives}
use Rattle.c_reading.specs.Parser.{Found}
use Rattle.c_reading.specs.ReadBody.{statements, optional}
use Rattle.c_reading.specs.ReadToken.{is_mark}
use Rattle.c_syntax.specs.View.{expr_of}
use Rattle.c_syntax.specs.ViewUnit.{for_init_of, statement_of, block_item_of, switch_item_of}
use Rattle.c_parser.proofs.ForParts.{step_refused, turn_refused, for_read}
use Rattle.c_parser.proofs.InScope.{longer_still, kept_still}
use Rattle.c_parser.proofs.LowerStatements.{statements_at}
use Rattle.c_parser.proofs.Pushed.{pushed}
use Rattle.c_parser.proofs.Refused.{refused}
use Rattle.c_parser.proofs.ItemTurns.{block_items_run, switch_items_run}
use Rattle.c_parser.proofs.ManyTurns.{run_over, run_stopped, run_shorter, run_on}
use Rattle.c_parser.proofs.body.+executing.Goals as goal

-- ---- the parsers of each height

pub statement::statement-returns-clause-reads : goal.statement::statement-returns-clause-reads
statement::statement-returns-clause-reads t c =
    subst (λ r. Gives (λ x. statement_of x.value) (r.statement c.args.scope.now c.args.tokens.now)
    c.statement_at.result) (sym (statements_at c.args.h c.if-h-eq0.false)) c.statement_at.ensures.reads

pub block::block_item-returns-clause-reads : goal.block::block_item-returns-clause-reads
block::block_item-returns-clause-reads t c =
    subst (λ r. Gives (λ x. block_item_of x.value) (r.block_item c.args.scope.now c.args.tokens.now)
    c.block_item_at.result) (sym (statements_at c.args.h c.if-h-eq0.false)) c.block_item_at.ensures.reads

pub block::switch_item-returns-clause-reads : goal.block::switch_item-returns-clause-reads
block::switch_item-returns-clause-reads t c =
    subst (λ r. Gives (λ x. switch_item_of x.value) (r.switch_item c.args.scope.now c.args.tokens.now)
    c.switch_item_at.result) (sym (statements_at c.args.h c.if-h-eq0.false)) c.switch_item_at.ensures.reads

-- ---- the items of a block

pub block::block_run-returns-clause-reads : goal.block::block_run-returns-clause-reads
block::block_run-returns-clause-reads t c =
    run_over (block_items_run c.args.k) _ c.each.scope c.each.rest.now c.each.invariant.reads
    (sym (c.goes_item.ensures c.each.scope) ∙ c.each-test.false)

pub block::block_run-returns-in_err-item-clause-reads : goal.block::block_run-returns-in_err-item-clause-reads
block::block_run-returns-in_err-item-clause-reads t c =
    let p = err_from_is_err_and c.from_residual.result c.from_residual.ensures.1 in
    rw (p.1, p.2) (run_stopped (block_items_run c.args.k) _ c.each.scope c.each.rest.now c.each.invariant.reads
    (sym (c.goes_item.ensures c.each.scope) ∙ c.each-test.true) c.in_err-item.field-0.0 c.in_err-item.ensures.reads)

pub block::block_run-each-smaller : goal.block::block_run-each-smaller
block::block_run-each-smaller t c =
    run_shorter (block_items_run c.args.k) _ c.each.scope c.each.rest.now c.each.invariant.reads
    (sym (c.goes_item.ensures c.each.scope) ∙ c.each-test.true) c.in_ok-item.ensures.reads

pub block::block_run-each-preserved : goal.block::block_run-each-preserved
block::block_run-each-preserved t c =
    let more = pushed block_item_of c.each.items.items c.in_ok-item.item.value c.push.new.self.items
    (c.in_ok-push.ensures.items ∙ ap (λ one. c.each.items.items ++ one ∷ []) c.into_inner.ensures) in
    record {
      reads = run_on (block_items_run c.args.k) _ c.each.scope c.each.rest.now c.each.invariant.reads
          (sym (c.goes_item.ensures c.each.scope) ∙ c.each-test.true) c.in_ok-item.ensures.reads more
          c.in_ok-item.ensures.scope;
      longer = longer_still _ c.each.scope _ _ c.each.invariant.longer c.in_ok-item.ensures.scope;
      kept = kept_still _ _ c.each.scope _ _ c.each.invariant.longer c.each.invariant.kept c.in_ok-item.ensures.scope;
    }

-- ---- the items of the block of a `switch`

pub block::switch_run-returns-clause-reads : goal.block::switch_run-returns-clause-reads
block::switch_run-returns-clause-reads t c =
    run_over (switch_items_run c.args.k) _ c.each.scope c.each.rest.now c.each.invariant.reads
    (sym (c.goes_item.ensures c.each.scope) ∙ c.each-test.false)

pub block::switch_run-returns-in_err-item-clause-reads : goal.block::switch_run-returns-in_err-item-clause-reads
block::switch_run-returns-in_err-item-clause-reads t c =
    let p = err_from_is_err_and c.from_residual.result c.from_residual.ensures.1 in
    rw (p.1, p.2) (run_stopped (switch_items_run c.args.k) _ c.each.scope c.each.rest.now c.each.invariant.reads
    (sym (c.goes_item.ensures c.each.scope) ∙ c.each-test.true) c.in_err-item.field-0.0 c.in_err-item.ensures.reads)

pub block::switch_run-each-smaller : goal.block::switch_run-each-smaller
block::switch_run-each-smaller t c =
    run_shorter (switch_items_run c.args.k) _ c.each.scope c.each.rest.now c.each.invariant.reads
    (sym (c.goes_item.ensures c.each.scope) ∙ c.each-test.true) c.in_ok-item.ensures.reads

pub block::switch_run-each-preserved : goal.block::switch_run-each-preserved
block::switch_run-each-preserved t c =
    let more = pushed switch_item_of c.each.items.items c.in_ok-item.item.value c.push.new.self.items
    (c.in_ok-push.ensures.items ∙ ap (λ one. c.each.items.items ++ one ∷ []) c.into_inner.ensures) in
    record {
      reads = run_on (switch_items_run c.args.k) _ c.each.scope c.each.rest.now c.each.invariant.reads
          (sym (c.goes_item.ensures c.each.scope) ∙ c.each-test.true) c.in_ok-item.ensures.reads more
          c.in_ok-item.ensures.scope;
      longer = longer_still _ c.each.scope _ _ c.each.invariant.longer c.in_ok-item.ensures.scope;
      kept = kept_still _ _ c.each.scope _ _ c.each.invariant.longer c.each.invariant.kept c.in_ok-item.ensures.scope;
    }

-- ---- what is left of a `for` statement

pub iteration::for_begun-returns-in_err-step-clause-reads : goal.iteration::for_begun-returns-in_err-step-clause-reads
iteration::for_begun-returns-in_err-step-clause-reads t c =
    let low = statements c.args.k in
    let test = option_map expr_of c.in_ok-test.test.value in
    let p = err_from_is_err_and c.from_residual-in_err-step.result c.from_residual-in_err-step.ensures.1 in
    rw (p.1, p.2)
    (refused _ (optional c.args.k low (is_mark punct.CloseParen) c.optional.new.scope c.in_ok-test.rest.now)
    c.in_err-step.field-0.0
    (step_refused c.args.k low c.args.scope.now c.optional.new.scope c.optional.new.scope c.args.pos
    (for_init_of c.args.init.value) c.args.tokens.now test c.in_ok-test.rest.now c.in_ok-test.ensures.reads
    c.in_ok-test.ensures.scope)
    c.in_err-step.ensures.reads)

pub iteration::for_begun-returns-in_err-body-clause-reads : goal.iteration::for_begun-returns-in_err-body-clause-reads
iteration::for_begun-returns-in_err-body-clause-reads t c =
    let low = statements c.args.k in
    let test = option_map expr_of c.in_ok-test.test.value in
    let step = option_map expr_of c.in_ok-step.step.value in
    let p = err_from_is_err_and c.from_residual-in_err-body.result c.from_residual-in_err-body.ensures.1 in
    rw (p.1, p.2) (refused _ (low.statement c.optional-2.new.scope c.in_ok-step.rest.now) c.in_err-body.field-0.0
    (turn_refused c.args.k low c.args.scope.now c.optional.new.scope c.optional-2.new.scope c.args.pos
    (for_init_of c.args.init.value) c.args.tokens.now test c.in_ok-test.rest.now c.in_ok-test.ensures.reads
    c.in_ok-test.ensures.scope
    step c.in_ok-step.rest.now c.in_ok-step.ensures.reads c.in_ok-step.ensures.scope)
    c.in_err-body.ensures.reads)

pub iteration::for_begun-returns-clause-reads : goal.iteration::for_begun-returns-clause-reads
iteration::for_begun-returns-clause-reads t c =
    let low = statements c.args.k in
    let test = option_map expr_of c.in_ok-test.test.value in
    let step = option_map expr_of c.in_ok-step.step.value in
    for_read c.args.k low c.args.scope.now c.optional.new.scope c.optional-2.new.scope c.args.pos
    (for_init_of c.args.init.value) c.args.tokens.now test c.in_ok-test.rest.now c.in_ok-test.ensures.reads
    c.in_ok-test.ensures.scope
    step c.in_ok-step.rest.now c.in_ok-step.ensures.reads c.in_ok-step.ensures.scope
    (statement_of c.in_ok-body.body.value) c.in_ok-body.rest.now c.in_ok-body.ensures.reads
    ∙ ap (λ node. Found node c.in_ok-body.rest.now) (sym c.in_ok-node.ensures)
