-- A constant at the front is the longest front of digits.
use Rattle.std.proofs.Common.{◌≡◌, ◌++◌, true, sym}
use Rattle.std.proofs.lemmas.List.{take-append-drop}
use Rattle.std.specs.Str.{all_ascii_digits}
use Rattle.acc_run.specs.PartEnds.{EndsNumeral}
use Rattle.acc_run.proofs.Fronts.{longest_front}
use Rattle.acc_run.proofs.read_program.constant.Goals as goal

pub returns-in-None-clause-none : goal.returns-in-None-clause-none
returns-in-None-clause-none c constant rest small ends e =
    let parts : c.args.bytes.now ≡ c.split_at.result.0.now ++ c.split_at.result.1.now =
    rw (c.split_at.ensures.front, c.split_at.ensures.back)
    (sym (take-append-drop c.digits_len.result c.args.bytes.now)) in
    let digits : all_ascii_digits c.split_at.result.0.now ≡ true =
    rw c.split_at.ensures.front c.digits_len.ensures.digits in
    let stops : EndsNumeral c.split_at.result.1.now = rw c.split_at.ensures.back c.digits_len.ensures.ends in
    c.in-None.ensures.none constant small
    (longest_front c.args.bytes.now c.split_at.result.0.now c.split_at.result.1.now rest constant parts digits
    stops small ends e)
