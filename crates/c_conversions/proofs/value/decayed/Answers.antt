use Rattle.c_types.specs.CType.{type_of}
use Rattle.c_core.specs.Tree.{At, pos_in}
use Rattle.c_core.specs.View.{core_of}
use Rattle.c_conversions.specs.Kinds.{pointer_to}
use Rattle.c_conversions.specs.Parts.{first_element}
use Rattle.c_conversions.proofs.Keeping.{core_there, core_stays, over, made_as}
use Rattle.c_conversions.proofs.value.decayed.Goals as goal

pub first_element-requires-clause-core : goal.first_element-requires-clause-core
first_element-requires-clause-core c = core_there c.in_ok-of.ensures c.args.core c.requires.core

pub returns : goal.returns
returns c =
    let there = core_of c.args.types.now c.args.core in
    made_as
    (over (λ type x. At type (pos_in x) (first_element c.layout-layout.result x)) c.in_ok-of.ensures
    (core_stays c.in_ok-of.ensures c.args.core c.requires.core) c.in_ok-made.ensures)
    (λ i. At (pointer_to (type_of c.args.types.now c.args.element)) (pos_in there)
    (first_element (c.layout-layout.ensures i) there))
