-- The name and then the seals are written.
use Rattle.std.proofs.lemmas.Result.{err_from_is_err_and}
use Rattle.vm_code.specs.Listing.{seal_part, parts}
use Rattle.vm_code.proofs.Telling.{told_both, told_part}
use Rattle.vm_code.proofs.line_parts.put_members.Goals as goal

pub returns-in_err-put : goal.returns-in_err-put
returns-in_err-put g c =
    let p = err_from_is_err_and c.from_residual.result c.from_residual.ensures.1 in
    told_part c.from_residual.result p.0 (parts seal_part c.args.seals.now) p.1 c.in_err-put.ensures

pub returns : goal.returns
returns g c = told_both c.in_ok-put.ensures c.put_parts.ensures
