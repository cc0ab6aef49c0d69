-- A const type whole; the members of a structure, if it has any.
use Rattle.std.proofs.Common.{◌≡◌, ◌∙◌, ℕ, ◌-◌, ◌<◌, List, refl, ap, sym, subst, map, arith}
use Rattle.std.specs.Prelude.{IfOk}
use Rattle.c_types.specs.CType.{CType, all_types, type_at, type_of}
use Rattle.c_types.specs.Compounds.{number_in}
use Rattle.c_types.specs.Layouts.{layout_of}
use Rattle.c_types.specs.declared.member.Member.{Member}
use Rattle.c_types.specs.Structures.{structures_of, typed_member}
use Rattle.c_types.specs.Types.{Types}
use Rattle.c_core.specs.declared.function.Range.{Range}
use Rattle.c_conversions.specs.Contents.{size_in}
use Rattle.c_initial_rules.specs.Seals.{all_later, of_members, type_sealed, structure_sealed, whole_range}
use Rattle.c_initial_rules.proofs.Elements.{opened_structure}
use Rattle.c_initial_rules.proofs.Flat.{flat_end}
use Rattle.c_initial_rules.proofs.Sealed.{const_sealed, members_by_number, no_members_of}
use Rattle.c_initial_rules.proofs.seals.+seals.Goals as goal

-- what the members of a structure are sealed by
abbrev below : Types → ℕ → CType → List Range
below types depth type =
    type_sealed (structure_sealed (depth - 1) (structures_of types)) type (structures_of types)

pub type_seals-returns-then-quals : goal.type_seals-returns-then-quals
type_seals-returns-then-quals t c =
    let types = c.args.types.now in
    let type = type_of types c.args.of in
    let inside = structure_sealed c.args.depth (structures_of types) in
    let const = const_sealed inside type (structures_of types)
    (ap (λ q. q.constant) (sym c.quals.ensures) ∙ c.if-quals.true) in
    let size : c.size.result ≡ size_in (layout_of type (structures_of types)) =
    c.size.ensures ∙ ap size_in c.layout.ensures in
    subst (λ w. IfOk c.whole_range.result (λ all. all.items ≡ w)) (ap whole_range size ∙ sym const)
    c.whole_range.ensures

pub structure_seals-returns-in_default : goal.structure_seals-returns-in_default
structure_seals-returns-in_default t c =
    let types = c.args.types.now in
    let type = type_of types c.args.of in
    let in_type = below types c.args.depth in
    let some : 0 < c.args.depth = omega (arith, c.if-depth-eq0.false) in
    let none = no_members_of types type c.in_default.ensures.members in
    c.new-all.ensures.items ∙ ap (of_members in_type) (sym none)
    ∙ ap (of_members in_type) (sym (members_by_number type (structures_of types) c.requires.compound))
    ∙ sym (opened_structure c.args.depth (structures_of types) (number_in type) some)

pub structure_seals-returns : goal.structure_seals-returns
structure_seals-returns t c =
    let types = c.args.types.now in
    let type = type_of types c.args.of in
    let in_type = below types c.args.depth in
    let some : 0 < c.args.depth = omega (arith, c.if-depth-eq0.false) in
    let end = flat_end (λ (m : Member). all_later m.at (in_type (type_at (all_types types) m.of)))
    (λ members. of_members in_type (map (typed_member (all_types types)) members)) (λ x xs. refl) refl
    c.in-Some.members.now c.loop-member.member-index c.loop-member.all.items _ c.loop-member-test.false
    c.loop-member.invariant in
    end ∙ ap (of_members in_type) c.in-Some.ensures.typed
    ∙ ap (of_members in_type) (sym (members_by_number type (structures_of types) c.requires.compound))
    ∙ sym (opened_structure c.args.depth (structures_of types) (number_in type) some)
