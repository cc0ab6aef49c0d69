-- The composite of two types, step by step.
use Rattle.std.proofs.Common.{◌<◌, ◌≤◌, length, rules, arith, ap, ◌∙◌}
use Rattle.std.proofs.lemmas.Result.{IfOk-weaker}
use Rattle.c_types.specs.Types.{count_of}
use Rattle.c_types.specs.CType.{type_of, all_types}
use Rattle.c_types.specs.Structures.{structures_of}
use Rattle.c_types.proofs.Composites.{keeps-first, keeps-second, same_lengths, agree_at}
use Rattle.c_types.proofs.Composing.{adds-none, adds-then, agree_as, pointers_agree, functions_agree, array_shown}
use Rattle.c_types.proofs.Composing.{elements_agree, kept_array, composes_function, makes-none, makes-next, makes-all}
use Rattle.c_types.proofs.Composing.{lists_agree, below_at}
use Rattle.c_types.proofs.table.TypeTable.+compose.Goals as goal

pub compose-compose-requires : goal.compose-compose-requires
compose-compose-requires t c =
    let agrees = pointers_agree c.args.self.now c.args.a c.args.b _ _ c.in-Pointer.to c.in-Pointer-shape.other
    c.entry-left.ensures.shows c.entry-right.ensures.shows c.in-Pointer.is c.in-Pointer-shape.is
    c.requires.compatible in
    (search rules, (search rules, (search rules, agrees)))

pub compose-push_array-requires-clause-layout : goal.compose-push_array-requires-clause-layout
compose-push_array-requires-clause-layout t c =
    let now = c.args.self.now in
    let type = array_shown now c.args.a c.in-Array.of c.in-Array.length _ c.entry-left.ensures.shows c.in-Array.is in
    let kept = kept_array now c.args.a c.in-Array.of c.in-Array.length _ _ c.entry-left.ensures.layout c.in-Array.is
    type in
    let made = c.in_ok-of-in-Array-shape.ensures.made in
    keeps-first _ _ c.in-Array.length _ _ (type_of now c.in-Array.of) (type_of now c.in-Array-shape.other) _
    (structures_of now) _ c.in-Some.is kept
    made.stands_for made.structures

pub compose-push_array-requires-in-None-clause-layout : goal.compose-push_array-requires-in-None-clause-layout
compose-push_array-requires-in-None-clause-layout t c =
    let now = c.args.self.now in
    let type = array_shown now c.args.a c.in-Array.of c.in-Array.length _ c.entry-left.ensures.shows c.in-Array.is in
    let type2 = array_shown now c.args.b c.in-Array-shape.other c.in-Array-shape.other_length _
    c.entry-right.ensures.shows c.in-Array-shape.is in
    let kept = kept_array now c.args.b c.in-Array-shape.other c.in-Array-shape.other_length _ _
    c.entry-right.ensures.layout c.in-Array-shape.is type2 in
    let agrees = elements_agree _ _ _ _ _ _ type type2 c.requires.compatible in
    let made = c.in_ok-of-in-Array-shape.ensures.made in
    keeps-second _ _ c.in-Array-shape.other_length _ (type_of now c.in-Array.of)
    (type_of now c.in-Array-shape.other) _ (structures_of now) _ agrees kept
    made.stands_for made.structures

pub compose-returns-in-Basic-clause-more : goal.compose-returns-in-Basic-clause-more
compose-returns-in-Basic-clause-more t c = adds-none _

pub compose_functions-compose_parameters-requires : goal.compose_functions-compose_parameters-requires
compose_functions-compose_parameters-requires t c =
    let agrees = functions_agree _ _ c.requires.a_function c.requires.b_function c.requires.compatible in
    (search rules, (c.requires.a, (c.requires.b, (c.requires.a_function, (c.requires.b_function, agrees.1)))))

pub compose_functions-compose-requires : goal.compose_functions-compose-requires
compose_functions-compose-requires t c =
    let old = c.args.self.now in
    let kept = c.in_ok-parameters.ensures.made.grows.types in
    let p : c.gives-given.result.0 < count_of old = omega (arith, c.gives-given.ensures.below, c.requires.a) in
    let q : c.gives-other.result.0 < count_of old = omega (arith, c.gives-other.ensures.below, c.requires.b) in
    let agrees = functions_agree _ _ c.requires.a_function c.requires.b_function c.requires.compatible in
    let first = kept.same c.gives-given.result p ∙ c.gives-given.ensures.stands_for in
    let second = kept.same c.gives-other.result q ∙ c.gives-other.ensures.stands_for in (
      search rules,
      (omega (arith, p, kept.count), (omega (arith, q, kept.count), agree_as _ _ _ _ first second agrees.0)),
    )

pub compose_functions-returns-clause-made : goal.compose_functions-returns-clause-made
compose_functions-returns-clause-made t c =
    let old = c.args.self.now in
    let p : c.gives-given.result.0 < count_of old = omega (arith, c.gives-given.ensures.below, c.requires.a) in
    let q : c.gives-other.result.0 < count_of old = omega (arith, c.gives-other.ensures.below, c.requires.b) in
    IfOk-weaker c.qualify.result _ _
    (λ id made. composes_function old c.compose_parameters.new.self c.compose.new.self c.function.new.self
    c.qualify.new.self _ _ _ _ c.gives-given.result c.gives-other.result c.in_ok-gives.gives c.in_ok-bare.bare
    id _ _ c.requires.a_function c.requires.b_function p q c.gives-given.ensures.stands_for
    c.gives-other.ensures.stands_for c.is_variadic-variadic.ensures c.quals-quals.ensures
    c.in_ok-parameters.ensures.made c.in_ok-gives.ensures.made
    c.in_ok-bare.ensures.made c.deref.ensures.value made)
    c.qualify.ensures.made

pub compose_parameters-returns-in_err-left-clause-more :
    goal.compose_parameters-returns-in_err-left-clause-more
compose_parameters-returns-in_err-left-clause-more t c = adds-none _

pub compose_parameters-returns-in_err-right-clause-more :
    goal.compose_parameters-returns-in_err-right-clause-more
compose_parameters-returns-in_err-right-clause-more t c = adds-none _

pub compose_parameters-loop-i-init : goal.compose_parameters-loop-i-init
compose_parameters-loop-i-init t c = (makes-none _ _ c.new-made.ensures.items, adds-none _)

pub compose_parameters-index-requires-in-loop-i : goal.compose_parameters-index-requires-in-loop-i
compose_parameters-index-requires-in-loop-i t c =
    let agrees = lists_agree c.args.self.now c.in_ok-left.left.items _ c.in_ok-right.right.items _ _ _
    c.in_ok-left.ensures.items c.in_ok-right.ensures.items c.parameters.ensures.types
    c.parameters-2.ensures.types c.requires.compatible in
    let lengths = same_lengths (all_types c.args.self.now) _ _ agrees in
    omega (arith, lengths, c.loop-i-test.true, c.len-i-end.ensures)

pub compose_parameters-compose-requires : goal.compose_parameters-compose-requires
compose_parameters-compose-requires t c =
    let old = c.args.self.now in
    let xs = c.in_ok-left.left.items in
    let ys = c.in_ok-right.right.items in
    let agrees = lists_agree old xs _ ys _ _ _ c.in_ok-left.ensures.items c.in_ok-right.ensures.items
    c.parameters.ensures.types c.parameters-2.ensures.types c.requires.compatible in
    let lengths = same_lengths (all_types old) xs ys agrees in
    let i : c.loop-i.i < length xs = omega (arith, c.loop-i-test.true, c.len-i-end.ensures) in
    let j : c.loop-i.i < length ys = omega (arith, i, lengths) in
    let x = below_at c.args.a.0 xs _ c.loop-i.i c.index.result.now c.in_ok-left.ensures.items
    c.parameters.ensures.below i c.index.ensures in
    let y = below_at c.args.b.0 ys _ c.loop-i.i c.index-in-loop-i.result.now c.in_ok-right.ensures.items
    c.parameters-2.ensures.below j c.index-in-loop-i.ensures in
    let kept = c.loop-i.invariant.0.grows.types in
    let p : c.index.result.now.0 < count_of old = omega (arith, x, c.requires.a) in
    let q : c.index-in-loop-i.result.now.0 < count_of old = omega (arith, y, c.requires.b) in
    let here = agree_at (all_types old) xs ys c.loop-i.i c.index.result.now c.index-in-loop-i.result.now agrees i in
    let first = kept.same c.index.result.now p ∙ ap (type_of old) c.index.ensures in
    let second = kept.same c.index-in-loop-i.result.now q ∙ ap (type_of old) c.index-in-loop-i.ensures in
    (search rules, (omega (arith, p, kept.count), (omega (arith, q, kept.count), agree_as _ _ _ _ first second here)))

pub compose_parameters-loop-i-preserved : goal.compose_parameters-loop-i-preserved
compose_parameters-loop-i-preserved t c =
    let old = c.args.self.now in
    let xs = c.in_ok-left.left.items in
    let ys = c.in_ok-right.right.items in
    let agrees = lists_agree old xs _ ys _ _ _ c.in_ok-left.ensures.items c.in_ok-right.ensures.items
    c.parameters.ensures.types c.parameters-2.ensures.types c.requires.compatible in
    let lengths = same_lengths (all_types old) xs ys agrees in
    let i : c.loop-i.i < length xs = omega (arith, c.loop-i-test.true, c.len-i-end.ensures) in
    let j : c.loop-i.i < length ys = omega (arith, i, lengths) in
    let x = below_at c.args.a.0 xs _ c.loop-i.i c.index.result.now c.in_ok-left.ensures.items
    c.parameters.ensures.below i c.index.ensures in
    let y = below_at c.args.b.0 ys _ c.loop-i.i c.index-in-loop-i.result.now c.in_ok-right.ensures.items
    c.parameters-2.ensures.below j c.index-in-loop-i.ensures in
    let p : c.index.result.now.0 < count_of old = omega (arith, x, c.requires.a) in
    let q : c.index-in-loop-i.result.now.0 < count_of old = omega (arith, y, c.requires.b) in
    let next = makes-next old c.loop-i.self c.compose.new.self c.unqualified.new.self c.loop-i.made.items
    c.push.new.self.items xs ys
    c.loop-i.i _ _ c.in_ok-id.id c.in_ok-bare.bare i j c.index.ensures c.index-in-loop-i.ensures p q
    c.loop-i.invariant.0
    c.in_ok-id.ensures.made c.in_ok-bare.ensures.made c.in_ok-push.ensures.items in (
      next,
      adds-then old c.loop-i.self c.unqualified.new.self c.loop-i.invariant.1
          (adds-then c.loop-i.self c.compose.new.self c.unqualified.new.self c.compose.ensures.more
          c.in_ok-bare.ensures.more),
    )

pub compose_parameters-returns-clause-made : goal.compose_parameters-returns-clause-made
compose_parameters-returns-clause-made t c =
    let old = c.args.self.now in
    let xs = c.in_ok-left.left.items in
    let ys = c.in_ok-right.right.items in
    let agrees = lists_agree old xs _ ys _ _ _ c.in_ok-left.ensures.items c.in_ok-right.ensures.items
    c.parameters.ensures.types c.parameters-2.ensures.types c.requires.compatible in
    let lengths = same_lengths (all_types old) xs ys agrees in
    let i : length xs ≤ c.loop-i.i = omega (arith, c.loop-i-test.false, c.len-i-end.ensures) in
    let j : length ys ≤ c.loop-i.i = omega (arith, i, lengths) in
    makes-all old c.loop-i.self _ xs _ ys _ c.loop-i.i _ _ c.loop-i.invariant.0 i j c.in_ok-left.ensures.items
    c.in_ok-right.ensures.items c.parameters.ensures.types c.parameters-2.ensures.types
