-- A space and then the bytes are written.
use Rattle.std.proofs.Common.{sym, ◌∙◌}
use Rattle.std.proofs.lemmas.Result.{err_from_is_err_and}
use Rattle.vm_code.specs.Listing.{byte_part, bytes_text, parts}
use Rattle.vm_code.proofs.Telling.{told_both, told_part, told_same}
use Rattle.vm_code.proofs.ListedParts.{some_bytes}
use Rattle.vm_code.proofs.line_parts.put_bytes.Goals as goal

pub returns-in_err-put : goal.returns-in_err-put
returns-in_err-put g c =
    let p = err_from_is_err_and c.from_residual.result c.from_residual.ensures.1 in
    told_same (bytes_text c.args.bytes.now)
    (some_bytes c.args.bytes.now (sym c.is_empty.ensures ∙ c.if-is_empty.false))
    (told_part c.from_residual.result p.0 (parts byte_part c.args.bytes.now) p.1 c.in_err-put.ensures)

pub returns : goal.returns
returns g c = told_same (bytes_text c.args.bytes.now)
    (some_bytes c.args.bytes.now (sym c.is_empty.ensures ∙ c.if-is_empty.false))
    (told_both c.in_ok-put.ensures c.put_parts.ensures)
