-- A structure or union that is incomplete as a tree has no body in the table.
use Rattle.std.proofs.Common.{◌≡◌, subst}
use Rattle.c_types.specs.declared.shape.Shape.{Shape}
use Rattle.c_types.specs.CType.{CType, Plain, Compound, type_of, type_with, all_types}
use Rattle.c_types.specs.Shapes.{entry_at}
use Rattle.c_types.specs.Structures.{IsIncomplete, structures_of}
use Rattle.c_types.proofs.Members.{none-kept}
use Rattle.c_types.proofs.table.TypeTable.incomplete_number.Goals as goal

pub returns-clause-none : goal.returns-clause-none
returns-clause-none c =
    let now = c.args.self.now in
    let n = c.in-Compound.number in
    let type : type_of now c.args.id ≡ Plain (Compound n) (entry_at now c.args.id.0).quals =
    subst (λ (x : Shape).
    type_of now c.args.id ≡ type_with now.functions (all_types now) x (entry_at now c.args.id.0).quals)
    c.in-Compound.is c.shape.ensures.stands_for in
    none-kept now n (subst (λ (t : CType). IsIncomplete t (structures_of now)) type c.requires.incomplete)
