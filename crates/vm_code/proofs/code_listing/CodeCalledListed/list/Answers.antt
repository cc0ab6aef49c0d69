-- A called type's line is written part by part.
use Rattle.std.proofs.Common.{codes, length}
use Rattle.std.proofs.lemmas.Result.{err_from_is_err_and}
use Rattle.vm_code.specs.Listing.{number_text, parts, form_part, arg_part}
use Rattle.vm_code.proofs.Telling.{told_both, told_part, told_on}
use Rattle.vm_code.proofs.code_listing.CodeCalledListed.list.Goals as goal

pub returns-in_err-put : goal.returns-in_err-put
returns-in_err-put g c =
    let r = c.from_residual in
    let p = err_from_is_err_and r.result r.ensures.1 in
    told_on r.result p.0 (codes "\n") p.1
    (told_on r.result p.0 (parts number_text c.args.self.now.functions) p.1
    (told_on r.result p.0 (parts arg_part c.args.self.now.kinds) p.1
    (told_on r.result p.0 (number_text (length c.args.self.now.kinds)) p.1
    (told_on r.result p.0 (parts form_part c.args.self.now.arguments) p.1
    (told_on r.result p.0 (number_text (length c.args.self.now.arguments)) p.1
    (told_on r.result p.0 (form_part c.args.self.now.form) p.1
    (told_part r.result p.0 (number_text c.args.number) p.1 c.in_err-put.ensures)))))))

pub returns-in_err-put_number : goal.returns-in_err-put_number
returns-in_err-put_number g c =
    let r = c.from_residual-in_err-put_number in
    let p = err_from_is_err_and r.result r.ensures.1 in
    let two = told_both c.in_ok-put.ensures c.in_err-put_number.ensures in
    told_on r.result p.0 (codes "\n") p.1
    (told_on r.result p.0 (parts number_text c.args.self.now.functions) p.1
    (told_on r.result p.0 (parts arg_part c.args.self.now.kinds) p.1
    (told_on r.result p.0 (number_text (length c.args.self.now.kinds)) p.1
    (told_on r.result p.0 (parts form_part c.args.self.now.arguments) p.1
    (told_on r.result p.0 (number_text (length c.args.self.now.arguments)) p.1
    (told_part r.result p.0 (form_part c.args.self.now.form) p.1 two))))))

pub returns-in_err-put_part : goal.returns-in_err-put_part
returns-in_err-put_part g c =
    let r = c.from_residual-in_err-put_part in
    let p = err_from_is_err_and r.result r.ensures.1 in
    let two = told_both c.in_ok-put.ensures c.in_ok-put_number.ensures in
    let three = told_both two c.in_err-put_part.ensures in
    told_on r.result p.0 (codes "\n") p.1
    (told_on r.result p.0 (parts number_text c.args.self.now.functions) p.1
    (told_on r.result p.0 (parts arg_part c.args.self.now.kinds) p.1
    (told_on r.result p.0 (number_text (length c.args.self.now.kinds)) p.1
    (told_on r.result p.0 (parts form_part c.args.self.now.arguments) p.1
    (told_part r.result p.0 (number_text (length c.args.self.now.arguments)) p.1 three)))))

pub returns-in_err-put_length : goal.returns-in_err-put_length
returns-in_err-put_length g c =
    let r = c.from_residual-in_err-put_length in
    let p = err_from_is_err_and r.result r.ensures.1 in
    let two = told_both c.in_ok-put.ensures c.in_ok-put_number.ensures in
    let three = told_both two c.in_ok-put_part.ensures in
    let four = told_both three c.in_err-put_length.ensures in
    told_on r.result p.0 (codes "\n") p.1
    (told_on r.result p.0 (parts number_text c.args.self.now.functions) p.1
    (told_on r.result p.0 (parts arg_part c.args.self.now.kinds) p.1
    (told_on r.result p.0 (number_text (length c.args.self.now.kinds)) p.1
    (told_part r.result p.0 (parts form_part c.args.self.now.arguments) p.1 four))))

pub returns-in_err-put_list : goal.returns-in_err-put_list
returns-in_err-put_list g c =
    let r = c.from_residual-in_err-put_list in
    let p = err_from_is_err_and r.result r.ensures.1 in
    let two = told_both c.in_ok-put.ensures c.in_ok-put_number.ensures in
    let three = told_both two c.in_ok-put_part.ensures in
    let four = told_both three c.in_ok-put_length.ensures in
    let five = told_both four c.in_err-put_list.ensures in
    told_on r.result p.0 (codes "\n") p.1
    (told_on r.result p.0 (parts number_text c.args.self.now.functions) p.1
    (told_on r.result p.0 (parts arg_part c.args.self.now.kinds) p.1
    (told_part r.result p.0 (number_text (length c.args.self.now.kinds)) p.1 five)))

pub returns-in_err-put_length-2 : goal.returns-in_err-put_length-2
returns-in_err-put_length-2 g c =
    let r = c.from_residual-in_err-put_length-2 in
    let p = err_from_is_err_and r.result r.ensures.1 in
    let two = told_both c.in_ok-put.ensures c.in_ok-put_number.ensures in
    let three = told_both two c.in_ok-put_part.ensures in
    let four = told_both three c.in_ok-put_length.ensures in
    let five = told_both four c.in_ok-put_list.ensures in
    let six = told_both five c.in_err-put_length-2.ensures in
    told_on r.result p.0 (codes "\n") p.1
    (told_on r.result p.0 (parts number_text c.args.self.now.functions) p.1
    (told_part r.result p.0 (parts arg_part c.args.self.now.kinds) p.1 six))

pub returns-in_err-put_list-2 : goal.returns-in_err-put_list-2
returns-in_err-put_list-2 g c =
    let r = c.from_residual-in_err-put_list-2 in
    let p = err_from_is_err_and r.result r.ensures.1 in
    let two = told_both c.in_ok-put.ensures c.in_ok-put_number.ensures in
    let three = told_both two c.in_ok-put_part.ensures in
    let four = told_both three c.in_ok-put_length.ensures in
    let five = told_both four c.in_ok-put_list.ensures in
    let six = told_both five c.in_ok-put_length-2.ensures in
    let seven = told_both six c.in_err-put_list-2.ensures in
    told_on r.result p.0 (codes "\n") p.1
    (told_part r.result p.0 (parts number_text c.args.self.now.functions) p.1 seven)

pub returns-in_err-put_list-3 : goal.returns-in_err-put_list-3
returns-in_err-put_list-3 g c =
    let r = c.from_residual-in_err-put_list-3 in
    let p = err_from_is_err_and r.result r.ensures.1 in
    let two = told_both c.in_ok-put.ensures c.in_ok-put_number.ensures in
    let three = told_both two c.in_ok-put_part.ensures in
    let four = told_both three c.in_ok-put_length.ensures in
    let five = told_both four c.in_ok-put_list.ensures in
    let six = told_both five c.in_ok-put_length-2.ensures in
    let seven = told_both six c.in_ok-put_list-2.ensures in
    let eight = told_both seven c.in_err-put_list-3.ensures in
    told_part r.result p.0 (codes "\n") p.1 eight

pub returns : goal.returns
returns g c =
    let two = told_both c.in_ok-put.ensures c.in_ok-put_number.ensures in
    let three = told_both two c.in_ok-put_part.ensures in
    let four = told_both three c.in_ok-put_length.ensures in
    let five = told_both four c.in_ok-put_list.ensures in
    let six = told_both five c.in_ok-put_length-2.ensures in
    let seven = told_both six c.in_ok-put_list-2.ensures in
    let eight = told_both seven c.in_ok-put_list-3.ensures in
    told_both eight c.put-2.ensures
