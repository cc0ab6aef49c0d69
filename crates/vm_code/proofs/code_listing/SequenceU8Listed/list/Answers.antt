-- A text's line is written part by part.
use Rattle.std.proofs.Common.{codes}
use Rattle.std.proofs.lemmas.Result.{err_from_is_err_and}
use Rattle.vm_code.specs.Listing.{number_text, bytes_text}
use Rattle.vm_code.proofs.Telling.{told_both, told_part, told_on}
use Rattle.vm_code.proofs.code_listing.SequenceU8Listed.list.Goals as goal

pub returns-in_err-put : goal.returns-in_err-put
returns-in_err-put g c =
    let r = c.from_residual in
    let p = err_from_is_err_and r.result r.ensures.1 in
    told_on r.result p.0 (codes "\n") p.1
    (told_on r.result p.0 (bytes_text c.args.self.now) p.1
    (told_part r.result p.0 (number_text c.args.number) p.1 c.in_err-put.ensures))

pub returns-in_err-put_number : goal.returns-in_err-put_number
returns-in_err-put_number g c =
    let r = c.from_residual-in_err-put_number in
    let p = err_from_is_err_and r.result r.ensures.1 in
    let two = told_both c.in_ok-put.ensures c.in_err-put_number.ensures in
    told_on r.result p.0 (codes "\n") p.1
    (told_part r.result p.0 (bytes_text c.args.self.now) p.1 two)

pub returns-in_err-put_contents : goal.returns-in_err-put_contents
returns-in_err-put_contents g c =
    let r = c.from_residual-in_err-put_contents in
    let p = err_from_is_err_and r.result r.ensures.1 in
    let two = told_both c.in_ok-put.ensures c.in_ok-put_number.ensures in
    let three = told_both two c.in_err-put_contents.ensures in
    told_part r.result p.0 (codes "\n") p.1 three

pub returns : goal.returns
returns g c =
    let two = told_both c.in_ok-put.ensures c.in_ok-put_number.ensures in
    let three = told_both two c.in_ok-put_contents.ensures in
    told_both three c.put-2.ensures
