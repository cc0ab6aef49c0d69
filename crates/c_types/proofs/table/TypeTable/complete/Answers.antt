-- A structure or union is complete.
use Rattle.std.proofs.Common.{subst}
use Rattle.c_types.specs.Compounds.{IsBodyOf}
use Rattle.c_types.specs.Inner.{body_of}
use Rattle.c_types.proofs.Completing.{completes}
use Rattle.c_types.proofs.table.TypeTable.complete.Goals as goal

pub returns-clause-ok : goal.returns-clause-ok
returns-clause-ok c =
    let old = c.args.self.now in
    let body = body_of c.in_ok-body.body in
    let laid_out = subst (λ u. IsBodyOf old u c.args.names.now c.args.types.now body) c.is_union.ensures
    c.in_ok-body.ensures.body in
    completes old c.set_body.new.self c.args.id c.args.names.now c.args.types.now c.incomplete_number-number.result body
    c.incomplete_number-number.ensures.number c.incomplete_number-number.ensures.parts laid_out
    c.set_body.ensures.changed c.set_body.ensures.grows
