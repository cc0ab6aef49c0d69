-- The basic types stand in the first places.
use Rattle.std.proofs.Common.{◌≡◌, ◌<◌, subst}
use Rattle.c_types.specs.declared.shape.TypeId.{TypeId}
use Rattle.c_types.specs.Types.{Types, count_of}
use Rattle.c_types.specs.CType.{Plain, BasicType, type_of, no_quals}
use Rattle.c_types.specs.Inner.{types_of}
use Rattle.c_types.proofs.Fresh.{basic_there}
use Rattle.c_types.proofs.table.TypeTable.basic.Goals as goal

pub returns : goal.returns
returns c =
    let id : TypeId = record { 0 = c.place.result } in
    let there = subst (λ (t : Types). (id.0 < count_of t)
    × (type_of t id ≡ Plain (BasicType c.args.basic) no_quals)) c.self.view_is
    (basic_there (types_of c.self.inside) c.args.basic id c.self.invariant c.place.ensures) in
    record { is_there = there.0; stands_for = there.1 }
