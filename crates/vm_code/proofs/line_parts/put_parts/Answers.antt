-- Each part adds itself to those that are written.
use Rattle.std.proofs.Common.{◌∙◌}
use Rattle.std.proofs.lemmas.Result.{err_from_is_err_and}
use Rattle.vm_code.specs.Listing.{parts}
use Rattle.vm_code.proofs.Telling.{told_both, told_part, told_same}
use Rattle.vm_code.proofs.ListedParts.{next_part}
use Rattle.vm_code.proofs.line_parts.put_parts.Goals as goal

pub returns-in_err-put : goal.returns-in_err-put
returns-in_err-put g c =
    let p = err_from_is_err_and c.from_residual.result c.from_residual.ensures.1 in
    let all = next_part g.T.Part.text c.loop-left.left.now c.item-item.result c.loop-left.invariant.0 c.bytes.result.now
    (parts g.T.Part.text c.args.items.now) c.in-len1-up.len_at_least c.item-item.is
    (c.bytes.ensures.value ∙ c.push.ensures) c.loop-left.invariant.2 in
    told_same (parts g.T.Part.text c.args.items.now) all
    (told_part c.from_residual.result p.0 _ p.1 (told_both c.loop-left.invariant.1 c.in_err-put.ensures))

pub loop-left-preserved : goal.loop-left-preserved
loop-left-preserved g c = (
  _,
  told_both c.loop-left.invariant.1 c.in_ok-put.ensures,
  next_part g.T.Part.text c.loop-left.left.now c.item-item.result c.loop-left.invariant.0 c.bytes.result.now
      (parts g.T.Part.text c.args.items.now) c.in-len1-up.len_at_least c.item-item.is
      (c.bytes.ensures.value ∙ c.push.ensures) c.loop-left.invariant.2,
)
