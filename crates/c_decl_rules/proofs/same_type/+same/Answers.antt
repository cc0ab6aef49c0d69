-- Lists of parameters are the same.
use Rattle.std.proofs.Common.{◌<◌, ◌≤◌, length, arith}
use Rattle.c_types.specs.CType.{all_types}
use Rattle.c_decl_rules.proofs.Parameters.{lengths_differ, next_same, next_differs, none_left}
use Rattle.c_decl_rules.proofs.same_type.+same.Goals as goal

pub same_parameters-returns-then-left-right : goal.same_parameters-returns-then-left-right
same_parameters-returns-then-left-right t c =
    let differ = lengths_differ (all_types c.args.types.now) c.parameters-left.result.now
    c.parameters-right.result.now c.if-left-right.true in
    cc (differ, c.parameters-left.ensures.types, c.parameters-right.ensures.types)

pub same_parameters-returns-then-not-same : goal.same_parameters-returns-then-not-same
same_parameters-returns-then-not-same t c =
    let xs = c.parameters-left.result.now in
    let ys = c.parameters-right.result.now in
    let i : c.loop-i.i < length ys = omega (arith, c.loop-i-test.true, c.if-left-right.false) in
    let differ = next_differs (all_types c.args.types.now) xs ys c.loop-i.i _ _ c.same.result c.loop-i-test.true i
    c.same.ensures c.if-not-same.true in
    cc (differ, c.loop-i.invariant, c.parameters-left.ensures.types, c.parameters-right.ensures.types)

pub same_parameters-loop-i-preserved : goal.same_parameters-loop-i-preserved
same_parameters-loop-i-preserved t c =
    let xs = c.parameters-left.result.now in
    let ys = c.parameters-right.result.now in
    let i : c.loop-i.i < length ys = omega (arith, c.loop-i-test.true, c.if-left-right.false) in
    let same = next_same (all_types c.args.types.now) xs ys c.loop-i.i _ _ c.same.result c.loop-i-test.true i
    c.same.ensures c.if-not-same.false in
    cc (same, c.loop-i.invariant)

pub same_parameters-returns : goal.same_parameters-returns
same_parameters-returns t c =
    let xs = c.parameters-left.result.now in
    let ys = c.parameters-right.result.now in
    let i : length ys ≤ c.loop-i.i = omega (arith, c.loop-i-test.false, c.if-left-right.false) in
    let end = none_left (all_types c.args.types.now) xs ys c.loop-i.i c.loop-i-test.false i in
    cc (end, c.loop-i.invariant, c.parameters-left.ensures.types, c.parameters-right.ensures.types)
