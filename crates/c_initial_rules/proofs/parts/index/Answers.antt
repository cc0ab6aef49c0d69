-- The element of an array by its length, whatever the elements are.
use Rattle.std.proofs.Common.{subst, sym}
use Rattle.c_scopes.specs.Clauses.{Settles}
use Rattle.c_types.specs.CType.{CType, void}
use Rattle.c_initial_rules.specs.Parts.{index_rule}
use Rattle.c_initial_rules.proofs.parts.index.Goals as goal

pub returns-in-Array : goal.returns-in-Array
returns-in-Array c =
    subst (λ (type : CType). Settles (index_rule type c.args.value) c.args.pos c.element_index.result)
    (sym c.in-Array.ensures.stands_for) (c.element_index.ensures void)
