-- One more type: the table stays sound, and has made it.
use Rattle.std.proofs.Common.{◌≡◌, ◌∷◌, [], ap, subst, sym, rules, arith}
use Rattle.c_types.specs.declared.shape.TypeId.{TypeId}
use Rattle.c_types.specs.Types.{Types, count_of}
use Rattle.c_types.specs.CType.{type_with, all_types}
use Rattle.c_types.specs.Structures.{structures_of}
use Rattle.c_types.specs.PartCount.{part_count}
use Rattle.c_types.specs.Qualified.{MakesMore}
use Rattle.c_types.specs.Inner.{types_of, IsSound, KeepsLayout}
use Rattle.c_types.specs.Shapes.{RefersBelow}
use Rattle.c_types.specs.Making.{MakesType, at_made, with_made}
use Rattle.c_types.proofs.Grows.{makes-with_made}
use Rattle.c_types.proofs.Sound.{sound-with_made}
use Rattle.c_types.proofs.table.TypeTable.push.Goals as goal

pub invariant_of-self-2 : goal.invariant_of-self-2
invariant_of-self-2 c =
    let old = types_of c.self.inside in
    let next = c.args.next in
    let grows : at_made old c.push.new.self.items ≡ with_made old next = ap (at_made old) c.in_ok-push.ensures.items in
    let below : RefersBelow old (count_of old) next.shape =
    subst (λ (t : Types). RefersBelow t (count_of t) next.shape) (sym c.self.view_is) c.requires.refers in
    let kept : KeepsLayout next.shape next.layout (type_with old.functions (all_types old) next.shape next.quals)
    (structures_of old) =
    subst (λ (t : Types). KeepsLayout next.shape next.layout
    (type_with t.functions (all_types t) next.shape next.quals) (structures_of t))
    (sym c.self.view_is) c.requires.layout in
    let parts : next.parts ≡ part_count (type_with old.functions (all_types old) next.shape next.quals) =
    subst (λ (t : Types). next.parts ≡ part_count (type_with t.functions (all_types t) next.shape next.quals))
    (sym c.self.view_is) c.requires.parts in
    subst IsSound (sym grows)
    (sound-with_made old next c.self.invariant below kept (record { count = parts; bound = omega arith }))

pub returns-clause-made : goal.returns-clause-made
returns-clause-made c =
    let old = types_of c.self.inside in
    let new = at_made old c.push.new.self.items in
    let id : TypeId = record { 0 = c.len.result } in
    let next = c.args.next in
    let grows : new ≡ with_made old next = ap (at_made old) c.in_ok-push.ensures.items in
    subst (λ (old : Types).
    MakesType old new id (type_with old.functions (all_types old) c.args.next.shape c.args.next.quals))
    c.self.view_is (makes-with_made old new id next c.self.invariant grows (search rules))

pub returns-clause-more : goal.returns-clause-more
returns-clause-more c =
    let old = types_of c.self.inside in
    let next = c.args.next in
    let grows : at_made old c.push.new.self.items ≡ with_made old next = ap (at_made old) c.in_ok-push.ensures.items in
    let more : MakesMore old (at_made old c.push.new.self.items) = record { more = next ∷ []; is = grows } in
    subst (λ (t : Types). MakesMore t (at_made old c.push.new.self.items)) c.self.view_is more
