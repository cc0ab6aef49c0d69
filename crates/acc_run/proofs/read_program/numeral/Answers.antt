-- A numeral that is refused is none that a number prints.
use Rattle.std.proofs.Common.{◌≡◌, ◌<◌, ◌∙◌, subst, length, get_or, arith}
use Rattle.std.proofs.lemmas.Fmt.{parse-decimal}
use Rattle.acc_run.proofs.Fronts.{no_leading_zero, digits_are_text, parsed_prints}
use Rattle.acc_run.proofs.read_program.numeral.Goals as goal
use Rattle.acc_run.proofs.read_program.numeral.Goals.{else-digits-gt1-via-then-digits-gt1+else-digits-eq48}
use Rattle.acc_run.proofs.read_program.numeral.Goals.{else-digits-gt1-via-else-digits-gt1}

pub returns-then-digits-eq48-clause-none : goal.returns-then-digits-eq48-clause-none
returns-then-digits-eq48-clause-none c value small e =
    no_leading_zero value small (subst (λ ds. 1 < length ds) e c.if-digits-gt1.true)
    (subst (λ ds. get_or ds 0 0 ≡ 48) e c.if-digits-eq48.true)

pub returns-in_default-clause-none : goal.returns-in_default-clause-none
returns-in_default-clause-none c value small e =
    c.in_default.ensures.cases.0 (digits_are_text c.args.digits.now c.requires)

pub returns-in_default-parse-clause-none : goal.returns-in_default-parse-clause-none
returns-in_default-parse-clause-none c value small e =
    c.in_default-parse.not-Ok value (parse-decimal 32 value c.in-Ok.text.now c.parse.result (omega arith)
    (omega arith) (c.in-Ok.ensures.cases.0 ∙ e) c.parse.ensures.value.0)

pub returns-then-value-gt-GREATEST_CONSTANT-clause-none : goal.returns-then-value-gt-GREATEST_CONSTANT-clause-none
returns-then-value-gt-GREATEST_CONSTANT-clause-none c value small e =
    let parsed = parse-decimal 32 value c.in-Ok.text.now c.parse.result (omega arith) (omega arith)
    (c.in-Ok.ensures.cases.0 ∙ e) c.parse.ensures.value.0 in
    let same : value ≡ c.in-Ok-parse.value = cc in
    omega arith

pub returns-clause-found : goal.returns-clause-found
returns-clause-found c =
    let canonical : 1 < length c.args.digits.now → get_or c.args.digits.now 0 0 ≡ 48 → ⊥ =
    λ long zero_first. elim c.else-digits-gt1.branch [
      | else-digits-gt1-via-then-digits-gt1+else-digits-eq48 w
          ↦ absurd (w.if-digits-eq48.false zero_first)
      | else-digits-gt1-via-else-digits-gt1 w ↦ absurd (omega arith)
    ] in (
      parsed_prints c.args.digits.now c.in-Ok.text.now c.in-Ok-parse.value c.parse.result c.requires canonical
          c.in-Ok.ensures.cases.0 c.parse.ensures.value.0 c.in-Ok-parse.is,
      c.if-value-gt-GREATEST_CONSTANT.false,
    )
