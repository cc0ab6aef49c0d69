-- Each refusal: the parts that were read are those of any unit that the bytes would spell.
use Rattle.std.proofs.Common.{◌≡◌, codes, sym, ◌∙◌, refl}
use Rattle.std.proofs.lemmas.Bool.{false≢true}
use Rattle.std.proofs.lemmas.List.{append_cancel_left}
use Rattle.acc_run.proofs.Whole.{has_head, behind_calls, behind_first, behind_terms, term_ends, unit_of_pieces}
use Rattle.acc_run.proofs.Whole.{sum_text, terms_text}
use Rattle.acc_run.proofs.read_program.program_of.Goals as goal

pub returns-in_default-clause-none : goal.returns-in_default-clause-none
returns-in_default-clause-none c parts unit = has_head parts c.args.bytes.now unit c.in_default.ensures.none

pub returns-in_default-strip-clause-none : goal.returns-in_default-strip-clause-none
returns-in_default-strip-clause-none c parts unit =
    c.in_default-strip.ensures.none (sum_text parts)
    (behind_calls parts c.args.bytes.now unit c.in-Some.rest.now c.in_ok-outputs.rest.now
    c.in_ok-outputs.outputs.items
    c.in-Some.ensures.found c.in_ok-outputs.ensures.spelled c.in_ok-outputs.ensures.fit c.in_ok-outputs.ensures.all).1

pub returns-in_default-constant-clause-none : goal.returns-in_default-constant-clause-none
returns-in_default-constant-clause-none c parts unit =
    let calls = behind_calls parts c.args.bytes.now unit c.in-Some.rest.now c.in_ok-outputs.rest.now
    c.in_ok-outputs.outputs.items
    c.in-Some.ensures.found c.in_ok-outputs.ensures.spelled c.in_ok-outputs.ensures.fit c.in_ok-outputs.ensures.all in
    let sum : c.in-Some-strip.rest.now ≡ sum_text parts =
    append_cancel_left (codes "return ") _ _ (sym c.in-Some-strip.ensures.found ∙ calls.1) in
    c.in_default-constant.ensures.none parts.first (terms_text parts) unit.fits.first
    (term_ends parts.rest (codes ";}") refl) sum

pub returns-then-not-is_end-clause-none : goal.returns-then-not-is_end-clause-none
returns-then-not-is_end-clause-none c parts unit =
    let calls = behind_calls parts c.args.bytes.now unit c.in-Some.rest.now c.in_ok-outputs.rest.now
    c.in_ok-outputs.outputs.items
    c.in-Some.ensures.found c.in_ok-outputs.ensures.spelled c.in_ok-outputs.ensures.fit c.in_ok-outputs.ensures.all in
    let sum : c.in-Some-strip.rest.now ≡ sum_text parts =
    append_cancel_left (codes "return ") _ _ (sym c.in-Some-strip.ensures.found ∙ calls.1) in
    let first = behind_first parts c.args.bytes.now unit c.in-Some-strip.rest.now c.in-Some-constant.rest.now
    c.in-Some-constant.first sum
    c.in-Some-constant.ensures.found.0 c.in-Some-constant.ensures.found.1 c.in-Some-constant.ensures.found.2 in
    let terms = behind_terms parts c.args.bytes.now unit c.in-Some-constant.rest.now c.in_ok-summands.rest.now
    c.in_ok-summands.summands.items first.1
    c.in_ok-summands.ensures.spelled c.in_ok-summands.ensures.fit c.in_ok-summands.ensures.all.0
    c.in_ok-summands.ensures.all.1 in
    false≢true (c.if-not-is_end.ensures.1 terms.1)

pub returns-clause-found : goal.returns-clause-found
returns-clause-found c =
    unit_of_pieces _ c.args.bytes.now c.in-Some.rest.now c.in_ok-outputs.rest.now c.in-Some-strip.rest.now
    c.in-Some-constant.rest.now c.in_ok-summands.rest.now
    c.in-Some.ensures.found c.in_ok-outputs.ensures.spelled c.in-Some-strip.ensures.found
    c.in-Some-constant.ensures.found.0 c.in_ok-summands.ensures.spelled (c.if-not-is_end.ensures.0 refl)
    c.if-bytes-gt-LONGEST_UNIT.false c.in_ok-outputs.ensures.fit c.in-Some-constant.ensures.found.1
    c.in_ok-summands.ensures.fit
