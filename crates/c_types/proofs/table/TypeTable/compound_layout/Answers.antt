-- What is kept under the number of a structure or union.
use Rattle.std.proofs.Common.{◌≡◌, ◌<◌, ap, subst, sym, arith, length, ◌∙◌}
use Rattle.std.specs.Prelude.{Option, Some, None, option_map}
use Rattle.std.proofs.lemmas.List.{length-map}
use Rattle.c_types.specs.declared.parts.Body.{Body}
use Rattle.c_types.specs.Types.{Types}
use Rattle.c_types.specs.CType.{all_types}
use Rattle.c_types.specs.Structures.{Structure, structure_at, StructureBody, structures_of, typed_body}
use Rattle.c_types.specs.declared.layout.Layout.{Layout}
use Rattle.c_types.specs.Layouts.{structure_layout}
use Rattle.c_types.specs.Inner.{types_of, compound_of, body_of}
use Rattle.c_types.proofs.Members.{structure-kept}
use Rattle.c_types.proofs.table.TypeTable.compound_layout.Goals as goal

-- the layout of a body
abbrev layout : Option StructureBody → Option Layout
layout = option_map (λ (b : StructureBody). b.layout)

pub returns-in-Some : goal.returns-in-Some
returns-in-Some c =
    let t = c.self.inside in
    let n = c.args.number in
    let there : n < length (types_of t).compounds =
    subst (λ (x : Types). n < length x.compounds) (sym c.self.view_is) c.requires in
    let below : n < length t.compounds.items = omega (arith, there, length-map t.compounds.items compound_of) in
    let kept = structure-kept t n c.index.result.now below c.index.ensures in
    subst (λ (x : Types). Some c.in-Some.body.layout ≡ structure_layout (structure_at (structures_of x) n))
    c.self.view_is
    (sym (ap (λ (s : Structure). structure_layout s) kept
    ∙ ap (λ (b : Option Body). layout (option_map (typed_body (all_types (types_of t))) (option_map body_of b)))
    c.in-Some.is))

pub returns-in-None : goal.returns-in-None
returns-in-None c =
    let t = c.self.inside in
    let n = c.args.number in
    let there : n < length (types_of t).compounds =
    subst (λ (x : Types). n < length x.compounds) (sym c.self.view_is) c.requires in
    let below : n < length t.compounds.items = omega (arith, there, length-map t.compounds.items compound_of) in
    let kept = structure-kept t n c.index.result.now below c.index.ensures in
    subst (λ (x : Types). layout None ≡ structure_layout (structure_at (structures_of x) n))
    c.self.view_is
    (sym (ap (λ (s : Structure). structure_layout s) kept
    ∙ ap (λ (b : Option Body). layout (option_map (typed_body (all_types (types_of t))) (option_map body_of b)))
    c.in-None.is))
