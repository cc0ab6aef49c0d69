-- The layout and the parts of a type with other qualifiers.
use Rattle.std.proofs.Common.{◌≡◌, ap, subst, ◌∙◌}
use Rattle.c_types.specs.declared.shape.Shape.{Shape}
use Rattle.c_types.specs.declared.shape.Shape.TheVariants as s
use Rattle.c_types.specs.CType.{CType, Array, type_of, all_types, type_with}
use Rattle.c_types.specs.Shapes.{entry_at}
use Rattle.c_types.specs.Structures.{structures_of}
use Rattle.c_types.specs.Layouts.{layout_of}
use Rattle.c_types.specs.Qualified.{with_quals}
use Rattle.c_types.specs.Inner.{KeepsLayout}
use Rattle.c_types.proofs.Qualifying.{keeps-array, layout_of-with_quals}
use Rattle.c_types.proofs.table.TypeTable.+qualify.Goals as goal

pub push_array-requires-clause-layout : goal.push_array-requires-clause-layout
push_array-requires-clause-layout t c =
    let now = c.args.self.now in
    let e = c.entry-entry.result in
    let len = c.in-Array.length in
    let type : type_of now c.args.id ≡ Array (type_of now c.in-Array.of) len =
    subst (λ (x : Shape). type_of now c.args.id
    ≡ type_with now.functions (all_types now) x (entry_at now c.args.id.0).quals)
    c.in-Array.is c.entry-entry.ensures.shows.stands_for in
    let kept : KeepsLayout (s.Array c.in-Array.of len) e.layout (Array (type_of now c.in-Array.of) len)
    (structures_of now) =
    subst (λ (x : CType). KeepsLayout (s.Array c.in-Array.of len) e.layout x (structures_of now)) type
    (subst (λ (x : Shape). KeepsLayout x e.layout (type_of now c.args.id) (structures_of now)) c.in-Array.is
    c.entry-entry.ensures.layout) in
    let made = c.in_ok-of-in-Array.ensures.made in
    keeps-array _ _ len e.layout _ _ (structures_of now) _ kept
    (ap (λ (x : CType). layout_of x (structures_of c.qualify.new.self)) made.stands_for
    ∙ ap (layout_of (with_quals c.args.quals (type_of now c.in-Array.of))) made.structures
    ∙ layout_of-with_quals (type_of now c.in-Array.of) c.args.quals (structures_of now))
