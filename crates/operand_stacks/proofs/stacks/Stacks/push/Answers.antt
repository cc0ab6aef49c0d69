-- A stack more, where it isn't there.
use Rattle.std.proofs.Common.{◌≡◌, ℕ, ◌+◌, ◌*◌, ◌<◌, [], ◌∷◌, List, length, length-append, slice_get, get_or, Some, refl}
use Rattle.std.proofs.Common.{arith, sym, ap, ◌∙◌}
use Rattle.std.proofs.lemmas.Option.{slice_get_read}
use Rattle.c_core.specs.declared.form.Scalar.{Scalar}
use Rattle.operand_stacks.specs.Stacks.{kind_number, stack_at}
use Rattle.operand_stacks.proofs.StackNumbers.{count_is}
use Rattle.operand_stacks.proofs.MoreStacks.{kind_below, known_there, new_there, new_is, still_are, are_more, ten}
use Rattle.operand_stacks.proofs.stacks.Stacks.push.Goals as goal

-- what is read at a place
found : (above : List ℕ) (kind : Scalar) (stack number known : ℕ) → number ≡ kind_number kind
    → 10 * stack + number < length above → known ≡ get_or above (10 * stack + number) known
    → slice_get above (10 * stack + kind_number kind) ≡ Some known
found above kind stack number known same within read =
    ap (λ n. slice_get above (10 * stack + n)) (sym same)
    ∙ slice_get_read above (length above) (10 * stack + number) known refl within read

pub overflow_mul-place : goal.overflow_mul-place
overflow_mul-place c =
    let count = count_is c.self.inside.nodes.items c.args.self.now c.self.view_is in
    omega (arith, count, c.requires, c.self.invariant.long, c.self.inside.above.ok.0)

pub overflow_add-place : goal.overflow_add-place
overflow_add-place c =
    let count = count_is c.self.inside.nodes.items c.args.self.now c.self.view_is in
    let kind = kind_below c.args.kind in
    omega (arith, count, c.requires, c.self.invariant.long, c.self.inside.above.ok.0, kind, c.number_of.ensures)

pub index-known-requires : goal.index-known-requires
index-known-requires c =
    let count = count_is c.self.inside.nodes.items c.args.self.now c.self.view_is in
    let kind = kind_below c.args.kind in
    omega (arith, count, c.requires, c.self.invariant.long, kind, c.number_of.ensures)

pub returns-then-known-ne0-clause-is : goal.returns-then-known-ne0-clause-is
returns-then-known-ne0-clause-is c =
    let count = count_is c.self.inside.nodes.items c.args.self.now c.self.view_is in
    let kind = kind_below c.args.kind in
    (known_there c.self.inside.nodes.items c.self.inside.above.items c.self.invariant c.args.self.now c.self.view_is
    c.args.kind c.args.stack c.index-known.result.now
    (found c.self.inside.above.items c.args.kind c.args.stack c.number_of.result c.index-known.result.now
    c.number_of.ensures (omega (arith, count, c.requires, c.self.invariant.long, kind, c.number_of.ensures))
    c.index-known.ensures) c.if-known-ne0.true).0

pub returns-then-known-ne0-clause-within : goal.returns-then-known-ne0-clause-within
returns-then-known-ne0-clause-within c =
    let count = count_is c.self.inside.nodes.items c.args.self.now c.self.view_is in
    let kind = kind_below c.args.kind in
    (known_there c.self.inside.nodes.items c.self.inside.above.items c.self.invariant c.args.self.now c.self.view_is
    c.args.kind c.args.stack c.index-known.result.now
    (found c.self.inside.above.items c.args.kind c.args.stack c.number_of.result c.index-known.result.now
    c.number_of.ensures (omega (arith, count, c.requires, c.self.invariant.long, kind, c.number_of.ensures))
    c.index-known.ensures) c.if-known-ne0.true).1

pub invariant_of-self-in_err-push : goal.invariant_of-self-in_err-push
invariant_of-self-in_err-push c = still_are c.self.inside.nodes.items c.self.inside.above.items c.self.invariant _ _
    c.in_err-push.ensures.items c.in_ok-extend_from_slice.ensures.items

pub index_mut-requires : goal.index_mut-requires
index_mut-requires c =
    let count = count_is c.self.inside.nodes.items c.args.self.now c.self.view_is in
    let kind = kind_below c.args.kind in
    let more = ap length c.in_ok-extend_from_slice.ensures.items in
    let both = length-append c.self.inside.above.items ten in
    omega (
      arith,
      count,
      c.requires,
      c.self.invariant.long,
      kind,
      c.number_of.ensures,
      more,
      both,
      c.extend_from_slice.new.self.ok.0,
    )

pub invariant_of-self-2 : goal.invariant_of-self-2
invariant_of-self-2 c =
    let count = count_is c.self.inside.nodes.items c.args.self.now c.self.view_is in
    let kind = kind_below c.args.kind in
    let none : c.index-known.result.now ≡ 0 = omega (arith, c.if-known-ne0.false) in
    let there = found c.self.inside.above.items c.args.kind c.args.stack c.number_of.result c.index-known.result.now
    c.number_of.ensures (omega (arith, count, c.requires, c.self.invariant.long, kind, c.number_of.ensures))
    c.index-known.ensures in
    are_more c.self.inside.nodes.items c.self.inside.above.items c.self.invariant c.args.kind c.args.stack
    (omega (arith, count, c.requires)) (there ∙ ap (λ n. Some n) none) _ _ _ _ c.in_ok-push.ensures.items
    c.in_ok-extend_from_slice.ensures.items (ap (λ n. 10 * c.args.stack + n) c.number_of.ensures)
    (omega (arith, c.len-number.ensures, c.self.inside.nodes.ok.0))

pub returns-clause-is : goal.returns-clause-is
returns-clause-is c = (new_is c.self.inside.nodes.items c.self.inside.above.items c.self.invariant c.args.self.now
    c.self.view_is c.args.kind c.args.stack c.push.new.self.items c.len-number.result c.requires
    c.in_ok-push.ensures.items (omega (arith, c.len-number.ensures, c.self.inside.nodes.ok.0))).0

pub returns-clause-within : goal.returns-clause-within
returns-clause-within c = (new_is c.self.inside.nodes.items c.self.inside.above.items c.self.invariant c.args.self.now
    c.self.view_is c.args.kind c.args.stack c.push.new.self.items c.len-number.result c.requires
    c.in_ok-push.ensures.items (omega (arith, c.len-number.ensures, c.self.inside.nodes.ok.0))).1

pub returns-clause-more : goal.returns-clause-more
returns-clause-more c = (
  (c.args.kind ∷ stack_at c.args.self.now c.args.stack) ∷ [],
  new_there c.self.inside.nodes.items c.self.inside.above.items c.self.invariant c.args.self.now c.self.view_is
      c.args.kind c.args.stack c.push.new.self.items c.requires c.in_ok-push.ensures.items,
)
