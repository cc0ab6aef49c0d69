-- Each line adds itself to those that are written.
use Rattle.std.proofs.Common.{arith}
use Rattle.std.proofs.lemmas.Result.{err_from_is_err_and}
use Rattle.vm_code.specs.Listing.{lines}
use Rattle.vm_code.proofs.Telling.{told_both, told_part, told_same}
use Rattle.vm_code.proofs.ListedParts.{next_line, length_behind}
use Rattle.vm_code.proofs.code_listing.list_all.Goals as goal

pub returns-in_err-list : goal.returns-in_err-list
returns-in_err-list g c =
    let p = err_from_is_err_and c.from_residual.result c.from_residual.ensures.1 in
    let all = next_line g.T.Listed.line c.loop-left.number c.loop-left.left.now c.item-item.result
    c.loop-left.invariant.written.0 (lines g.T.Listed.line c.args.first c.args.items.now) c.in-len1-up.len_at_least
    c.item-item.is c.loop-left.invariant.written.2 in
    told_same (lines g.T.Listed.line c.args.first c.args.items.now) all
    (told_part c.from_residual.result p.0 _ p.1 (told_both c.loop-left.invariant.written.1 c.in_err-list.ensures))

pub loop-left-preserved : goal.loop-left-preserved
loop-left-preserved g c = record {
  bound = let shorter = length_behind c.loop-left.left.now c.in-len1-up.len_at_least in
      omega (arith, shorter, c.loop-left.invariant.bound);
  written = (
    _,
    told_both c.loop-left.invariant.written.1 c.in_ok-list.ensures,
    next_line g.T.Listed.line c.loop-left.number c.loop-left.left.now c.item-item.result
        c.loop-left.invariant.written.0 (lines g.T.Listed.line c.args.first c.args.items.now)
        c.in-len1-up.len_at_least c.item-item.is c.loop-left.invariant.written.2,
  );
}
