-- Lists of parameters agree.
use Rattle.std.proofs.Common.{◌≡◌, ◌<◌, ◌≤◌, length, arith, rules, ap, sym, ◌∙◌}
use Rattle.c_types.specs.CType.{all_types, type_of}
use Rattle.c_types.specs.declared.shape.TypeId.{TypeId}
use Rattle.c_types.specs.Compatible.{agree}
use Rattle.c_types.proofs.CompatibleLaws.{agree-own}
use Rattle.c_types.proofs.Parameters.{lengths_differ, next_agree, next_differ, none_left}
use Rattle.c_types.proofs.table.TypeTable.+agree.Goals as goal

pub agree-returns-then-eq : goal.agree-returns-then-eq
agree-returns-then-eq t c =
    let same : c.args.a ≡ c.args.b = search rules in
    sym (agree-own (type_of c.args.self.now c.args.a) c.args.strict)
    ∙ ap (λ (b : TypeId). agree (type_of c.args.self.now c.args.a) (type_of c.args.self.now b) c.args.strict) same

pub parameters_agree-returns-then-left-right : goal.parameters_agree-returns-then-left-right
parameters_agree-returns-then-left-right t c =
    let differ = lengths_differ (all_types c.args.self.now) c.parameters-left.result.now
    c.parameters-right.result.now c.if-left-right.true in
    cc (differ, c.parameters-left.ensures.types, c.parameters-right.ensures.types)

pub parameters_agree-returns-then-not-agree : goal.parameters_agree-returns-then-not-agree
parameters_agree-returns-then-not-agree t c =
    let xs = c.parameters-left.result.now in
    let ys = c.parameters-right.result.now in
    let i : c.loop-i.i < length ys = omega (arith, c.loop-i-test.true, c.if-left-right.false) in
    let differ = next_differ (all_types c.args.self.now) xs ys c.loop-i.i _ _ c.agree.result c.loop-i-test.true i
    c.agree.ensures c.if-not-agree.true in
    cc (differ, c.loop-i.invariant, c.parameters-left.ensures.types, c.parameters-right.ensures.types)

pub parameters_agree-loop-i-preserved : goal.parameters_agree-loop-i-preserved
parameters_agree-loop-i-preserved t c =
    let xs = c.parameters-left.result.now in
    let ys = c.parameters-right.result.now in
    let i : c.loop-i.i < length ys = omega (arith, c.loop-i-test.true, c.if-left-right.false) in
    let same = next_agree (all_types c.args.self.now) xs ys c.loop-i.i _ _ c.agree.result c.loop-i-test.true i
    c.agree.ensures c.if-not-agree.false in
    cc (same, c.loop-i.invariant)

pub parameters_agree-returns : goal.parameters_agree-returns
parameters_agree-returns t c =
    let xs = c.parameters-left.result.now in
    let ys = c.parameters-right.result.now in
    let i : length ys ≤ c.loop-i.i = omega (arith, c.loop-i-test.false, c.if-left-right.false) in
    let end = none_left (all_types c.args.self.now) xs ys c.loop-i.i c.loop-i-test.false i in
    cc (end, c.loop-i.invariant, c.parameters-left.ensures.types, c.parameters-right.ensures.types)
