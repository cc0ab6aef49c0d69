-- A function's line is written part by part.
use Rattle.std.proofs.Common.{codes}
use Rattle.std.proofs.lemmas.Result.{err_from_is_err_and}
use Rattle.vm_code.specs.Listing.{number_text, parts, parameter_part}
use Rattle.vm_code.proofs.Telling.{told_both, told_part, told_on}
use Rattle.vm_code.proofs.code_listing.CodeFunctionListed.list.Goals as goal

pub returns-in_err-put : goal.returns-in_err-put
returns-in_err-put g c =
    let r = c.from_residual in
    let p = err_from_is_err_and r.result r.ensures.1 in
    told_on r.result p.0 (codes "\n") p.1
    (told_on r.result p.0 (parts parameter_part c.args.self.now.parameters) p.1
    (told_on r.result p.0 (number_text c.args.self.now.start) p.1
    (told_on r.result p.0 (c.args.self.now.name) p.1
    (told_on r.result p.0 (codes " ") p.1
    (told_part r.result p.0 (number_text c.args.number) p.1 c.in_err-put.ensures)))))

pub returns-in_err-put_number : goal.returns-in_err-put_number
returns-in_err-put_number g c =
    let r = c.from_residual-in_err-put_number in
    let p = err_from_is_err_and r.result r.ensures.1 in
    let two = told_both c.in_ok-put.ensures c.in_err-put_number.ensures in
    told_on r.result p.0 (codes "\n") p.1
    (told_on r.result p.0 (parts parameter_part c.args.self.now.parameters) p.1
    (told_on r.result p.0 (number_text c.args.self.now.start) p.1
    (told_on r.result p.0 (c.args.self.now.name) p.1
    (told_part r.result p.0 (codes " ") p.1 two))))

pub returns-in_err-put-2 : goal.returns-in_err-put-2
returns-in_err-put-2 g c =
    let r = c.from_residual-in_err-put-2 in
    let p = err_from_is_err_and r.result r.ensures.1 in
    let two = told_both c.in_ok-put.ensures c.in_ok-put_number.ensures in
    let three = told_both two c.in_err-put-2.ensures in
    told_on r.result p.0 (codes "\n") p.1
    (told_on r.result p.0 (parts parameter_part c.args.self.now.parameters) p.1
    (told_on r.result p.0 (number_text c.args.self.now.start) p.1
    (told_part r.result p.0 (c.args.self.now.name) p.1 three)))

pub returns-in_err-put_name : goal.returns-in_err-put_name
returns-in_err-put_name g c =
    let r = c.from_residual-in_err-put_name in
    let p = err_from_is_err_and r.result r.ensures.1 in
    let two = told_both c.in_ok-put.ensures c.in_ok-put_number.ensures in
    let three = told_both two c.in_ok-put-2.ensures in
    let four = told_both three c.in_err-put_name.ensures in
    told_on r.result p.0 (codes "\n") p.1
    (told_on r.result p.0 (parts parameter_part c.args.self.now.parameters) p.1
    (told_part r.result p.0 (number_text c.args.self.now.start) p.1 four))

pub returns-in_err-put_number-2 : goal.returns-in_err-put_number-2
returns-in_err-put_number-2 g c =
    let r = c.from_residual-in_err-put_number-2 in
    let p = err_from_is_err_and r.result r.ensures.1 in
    let two = told_both c.in_ok-put.ensures c.in_ok-put_number.ensures in
    let three = told_both two c.in_ok-put-2.ensures in
    let four = told_both three c.in_ok-put_name.ensures in
    let five = told_both four c.in_err-put_number-2.ensures in
    told_on r.result p.0 (codes "\n") p.1
    (told_part r.result p.0 (parts parameter_part c.args.self.now.parameters) p.1 five)

pub returns-in_err-put_list : goal.returns-in_err-put_list
returns-in_err-put_list g c =
    let r = c.from_residual-in_err-put_list in
    let p = err_from_is_err_and r.result r.ensures.1 in
    let two = told_both c.in_ok-put.ensures c.in_ok-put_number.ensures in
    let three = told_both two c.in_ok-put-2.ensures in
    let four = told_both three c.in_ok-put_name.ensures in
    let five = told_both four c.in_ok-put_number-2.ensures in
    let six = told_both five c.in_err-put_list.ensures in
    told_part r.result p.0 (codes "\n") p.1 six

pub returns : goal.returns
returns g c =
    let two = told_both c.in_ok-put.ensures c.in_ok-put_number.ensures in
    let three = told_both two c.in_ok-put-2.ensures in
    let four = told_both three c.in_ok-put_name.ensures in
    let five = told_both four c.in_ok-put_number-2.ensures in
    let six = told_both five c.in_ok-put_list.ensures in
    told_both six c.put-3.ensures
