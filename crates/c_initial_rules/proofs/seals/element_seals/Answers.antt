-- No ranges, one more element, and the last one.
use Rattle.std.proofs.Common.{◌≡◌, ◌∙◌, ◌++◌, ◌-◌, ap, sym, append-nil, arith}
use Rattle.c_initial_rules.specs.Seals.{of_elements}
use Rattle.c_initial_rules.proofs.Elements.{elements_of_none, elements_end, elements_step}
use Rattle.c_initial_rules.proofs.seals.element_seals.Goals as goal

pub returns-then-is_empty : goal.returns-then-is_empty
returns-then-is_empty c = c.new-all.ensures.items
    ∙ sym (elements_of_none c.args.ranges.now c.args.count 0 c.args.size c.if-is_empty.ensures)

pub loop-left-preserved : goal.loop-left-preserved
loop-left-preserved c =
    ap (λ at. c.push_later.new.all.items ++ of_elements (c.loop-left.left - 1) at c.args.size c.args.ranges.now)
    c.in-Some.ensures.1
    ∙ elements_step c.loop-left.left c.loop-left.at c.args.size c.args.ranges.now c.loop-left.all.items
    c.push_later.new.all.items _ c.loop-left-test.true c.loop-left.invariant c.in_ok-push_later.ensures

pub returns : goal.returns
returns c =
    let none : 0 ≡ c.loop-left.left = omega (arith, c.loop-left-test.false) in
    sym (append-nil c.loop-left.all.items)
    ∙ ap (λ r. c.loop-left.all.items ++ r) (sym (elements_end c.loop-left.at c.args.size c.args.ranges.now))
    ∙ ap (λ n. c.loop-left.all.items ++ of_elements n c.loop-left.at c.args.size c.args.ranges.now) none
    ∙ c.loop-left.invariant
