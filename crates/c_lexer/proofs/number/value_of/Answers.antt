-- A value without room stays so with more digits.
use Rattle.std.proofs.Common.{◌≡◌, arith, sym, ◌∙◌, ap}
use Rattle.std.specs.Prelude.{Some}
use Rattle.std.specs.Str.Parse.{digits_value, digits_value_after}
use Rattle.std.proofs.lemmas.List.{drop_all}
use Rattle.c_lexer.proofs.DigitValues.{step_too_large, small_enough}
use Rattle.c_lexer.proofs.number.value_of.Goals as goal

pub returns-in_default : goal.returns-in_default
returns-in_default c =
    sym (step_too_large c.args.radix c.loop-digit.value c.loop-digit.digit-index c.args.digits.now c.requires
    c.loop-digit-test.true c.loop-digit.invariant.0 (omega (arith, c.in_default.ensures)))

pub returns-in_default-checked_add : goal.returns-in_default-checked_add
returns-in_default-checked_add c =
    sym (step_too_large c.args.radix c.loop-digit.value c.loop-digit.digit-index c.args.digits.now c.requires
    c.loop-digit-test.true c.loop-digit.invariant.0
    (omega (arith, c.in_default-checked_add.ensures, c.in-Some.ensures, c.digit_value.ensures.value)))

pub returns : goal.returns
returns c =
    let is : c.loop-digit.value ≡ digits_value c.args.radix c.args.digits.now =
    sym (ap (digits_value_after c.args.radix c.loop-digit.value)
    (drop_all c.loop-digit.digit-index c.args.digits.now c.loop-digit-test.false)) ∙ c.loop-digit.invariant.0 in
    ap Some is ∙ sym (small_enough c.args.radix c.args.digits.now (omega (arith, is, c.loop-digit.invariant.1)))
