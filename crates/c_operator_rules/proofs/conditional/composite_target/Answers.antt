-- Both types are what they were before others were made.
use Rattle.std.proofs.Common.{◌∙◌, ap}
use Rattle.c_types.specs.Compatible.{compatible}
use Rattle.c_types.specs.Composite.{composite_of}
use Rattle.c_conversions.specs.Versions.{own_unqualified}
use Rattle.c_conversions.proofs.Keeping.{id_there, type_stays, over}
use Rattle.c_conversions.proofs.Agreeing.{compatible-own_unqualified}
use Rattle.c_operator_rules.proofs.conditional.composite_target.Goals as goal

pub own_unqualified-requires-2 : goal.own_unqualified-requires-2
own_unqualified-requires-2 c = id_there c.in_ok-a.ensures c.args.right c.requires.right

pub composite-requires-clause-a : goal.composite-requires-clause-a
composite-requires-clause-a c = id_there c.in_ok-b.ensures c.in_ok-a.a c.in_ok-a.ensures.is_in

pub composite-requires-clause-compatible : goal.composite-requires-clause-compatible
composite-requires-clause-compatible c =
    let first = c.in_ok-a.ensures in
    let second = c.in_ok-b.ensures in
    let left = type_stays second c.in_ok-a.a first.is_in ∙ first.is in
    let right = second.is ∙ ap own_unqualified (type_stays first c.args.right c.requires.right) in
    (λ i. compatible (left i) (right i)) ∙ compatible-own_unqualified _ _ c.requires.versions

pub returns : goal.returns
returns c =
    let first = c.in_ok-a.ensures in
    let second = c.in_ok-b.ensures in
    over (λ left right. composite_of left (own_unqualified right)) first
    (type_stays first c.args.right c.requires.right)
    (over (λ right left. composite_of left right) second (type_stays second c.in_ok-a.a first.is_in)
    c.in_ok-made.ensures)
