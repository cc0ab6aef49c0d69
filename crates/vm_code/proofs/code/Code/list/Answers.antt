-- The listing is written list by list.
use Rattle.std.proofs.lemmas.Result.{err_from_is_err_and}
use Rattle.vm_code.specs.Listing.{lines, instr_line, function_line, object_line, text_line, called_line}
use Rattle.vm_code.proofs.Telling.{told_both, told_part, told_on}
use Rattle.vm_code.proofs.ListedParts.{told_lines}
use Rattle.vm_code.proofs.code.Code.list.Goals as goal

pub returns-in_err-put : goal.returns-in_err-put
returns-in_err-put g c =
    let r = c.from_residual in
    let p = err_from_is_err_and r.result r.ensures.1 in
    told_on r.result p.0 (lines called_line 0 c.args.self.now.types) p.1
    (told_on r.result p.0 (lines text_line 0 c.args.self.now.texts) p.1
    (told_on r.result p.0 (lines object_line 0 c.args.self.now.objects) p.1
    (told_on r.result p.0 (lines function_line 1 c.args.self.now.functions) p.1
    (told_part r.result p.0 (lines instr_line 0 c.args.self.now.instrs) p.1 c.in_err-put.ensures))))

pub returns-in_err-list_all : goal.returns-in_err-list_all
returns-in_err-list_all g c =
    let r = c.from_residual-in_err-list_all in
    let p = err_from_is_err_and r.result r.ensures.1 in
    let two = told_both c.in_ok-put.ensures (told_lines instr_line 0 c.instr_list.ensures c.in_err-list_all.ensures) in
    told_on r.result p.0 (lines called_line 0 c.args.self.now.types) p.1
    (told_on r.result p.0 (lines text_line 0 c.args.self.now.texts) p.1
    (told_on r.result p.0 (lines object_line 0 c.args.self.now.objects) p.1
    (told_part r.result p.0 (lines function_line 1 c.args.self.now.functions) p.1 two)))

pub returns-in_err-list_all-2 : goal.returns-in_err-list_all-2
returns-in_err-list_all-2 g c =
    let r = c.from_residual-in_err-list_all-2 in
    let p = err_from_is_err_and r.result r.ensures.1 in
    let two = told_both c.in_ok-put.ensures (told_lines instr_line 0 c.instr_list.ensures c.in_ok-list_all.ensures) in
    let three = told_both two (told_lines function_line 1 c.function_list.ensures c.in_err-list_all-2.ensures) in
    told_on r.result p.0 (lines called_line 0 c.args.self.now.types) p.1
    (told_on r.result p.0 (lines text_line 0 c.args.self.now.texts) p.1
    (told_part r.result p.0 (lines object_line 0 c.args.self.now.objects) p.1 three))

pub returns-in_err-list_all-3 : goal.returns-in_err-list_all-3
returns-in_err-list_all-3 g c =
    let r = c.from_residual-in_err-list_all-3 in
    let p = err_from_is_err_and r.result r.ensures.1 in
    let two = told_both c.in_ok-put.ensures (told_lines instr_line 0 c.instr_list.ensures c.in_ok-list_all.ensures) in
    let three = told_both two (told_lines function_line 1 c.function_list.ensures c.in_ok-list_all-2.ensures) in
    let four = told_both three (told_lines object_line 0 c.object_list.ensures c.in_err-list_all-3.ensures) in
    told_on r.result p.0 (lines called_line 0 c.args.self.now.types) p.1
    (told_part r.result p.0 (lines text_line 0 c.args.self.now.texts) p.1 four)

pub returns-in_err-list_all-4 : goal.returns-in_err-list_all-4
returns-in_err-list_all-4 g c =
    let r = c.from_residual-in_err-list_all-4 in
    let p = err_from_is_err_and r.result r.ensures.1 in
    let two = told_both c.in_ok-put.ensures (told_lines instr_line 0 c.instr_list.ensures c.in_ok-list_all.ensures) in
    let three = told_both two (told_lines function_line 1 c.function_list.ensures c.in_ok-list_all-2.ensures) in
    let four = told_both three (told_lines object_line 0 c.object_list.ensures c.in_ok-list_all-3.ensures) in
    let five = told_both four (told_lines text_line 0 c.text_list.ensures c.in_err-list_all-4.ensures) in
    told_part r.result p.0 (lines called_line 0 c.args.self.now.types) p.1 five

pub returns : goal.returns
returns g c =
    let two = told_both c.in_ok-put.ensures (told_lines instr_line 0 c.instr_list.ensures c.in_ok-list_all.ensures) in
    let three = told_both two (told_lines function_line 1 c.function_list.ensures c.in_ok-list_all-2.ensures) in
    let four = told_both three (told_lines object_line 0 c.object_list.ensures c.in_ok-list_all-3.ensures) in
    let five = told_both four (told_lines text_line 0 c.text_list.ensures c.in_ok-list_all-4.ensures) in
    told_both five (told_lines called_line 0 c.called_list.ensures c.list_all-5.ensures)
