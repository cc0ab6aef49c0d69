-- A command and its report make the answer.
use Rattle.std.proofs.Common.{◌≡◌, ◌≢◌, ℕ, ◌≤◌, List, inl, inr, refl, sym, ◌∙◌, ap, subst, arith, append-nil}
use Rattle.std.specs.Prelude.{◌⊎◌, Option, Some, None}
use Rattle.acc_io.specs.Cause.{FaultCounted}
use Rattle.acc_io.specs.Bytes.{Gains, GainsPart}
use Rattle.acc_io.specs.Held.{Held}
use Rattle.critical_table.specs.declared.ended.Ended.{Ended}
use Rattle.critical_table.specs.declared.ended.Ended.TheVariants.{Exited, Aborted, Trapped, Undefined, OutOfTicks}
use Rattle.critical_table.specs.declared.ended.Ended.TheVariants.{OutOfBytes, ReadFault, WriteFault, ShelfFault}
use Rattle.critical_table.specs.declared.ended.Ended.TheVariants.{Refused, Usage, Printed, Memory}
use Rattle.critical_table.specs.Report.{report_of}
use Rattle.acc_run.specs.Job.{Table, job_of}
use Rattle.acc_run.specs.Answer.{Observed, HasFailed, KeepsCount, IsCause, Answers, table_text}
use Rattle.acc_run.specs.Steps.{Performs, PerformsTable, Reports}
use Rattle.acc_run.proofs.PartialWrites.{all_written}

-- a count that rose has risen still
still_counted : (a b c : ℕ) → FaultCounted a b → b ≤ c → FaultCounted a c
still_counted a b c (inl rose) le = inl (omega arith)
still_counted a b c (inr last) le = inr (omega arith)

-- nothing was written
nothing_written : (before : Option (List ℕ)) (bytes : List ℕ) → GainsPart before before bytes
nothing_written None bytes = (0, omega arith, refl)
nothing_written (Some written) bytes = (0, omega arith, ap Some (sym (append-nil written)))

-- the table is what the words asked for
pub performs_table : (words : List (List ℕ)) (shelf : Observed Held) (out : Observed (List ℕ)) (answer : Ended)
    → job_of words ≡ Some Table → PerformsTable out answer → Performs words shelf out answer
performs_table words shelf out answer job (inl written) =
    subst (Performs words shelf out) (sym written.0) (written.1, (table_text, (job, refl), written.2))
performs_table words shelf out answer job (inr failed) =
    subst (Performs words shelf out) (sym failed.0) (failed.1, (Printed, table_text, (job, refl), failed.2))

module _ (words : List (List ℕ)) (shelf : Observed Held) where
  -- all the output that is due
  abbrev Done : Observed (List ℕ) → Ended → Type 0
  Done out ended = KeepsCount out
      × ((output : List ℕ) × IsCause words shelf ended output × Gains out.before out.after output)

  -- unless a write failed, all the output is written
  full_output : (out : Observed (List ℕ)) (ended : Ended) → ended ≢ WriteFault → Performs words shelf out ended
      → Done out ended
  full_output out WriteFault not_fault performs = absurd (not_fault refl)
  full_output out (Exited n) not_fault performs = performs
  full_output out Aborted not_fault performs = performs
  full_output out (Trapped case place) not_fault performs = performs
  full_output out (Undefined code place) not_fault performs = performs
  full_output out OutOfTicks not_fault performs = performs
  full_output out OutOfBytes not_fault performs = performs
  full_output out ReadFault not_fault performs = performs
  full_output out ShelfFault not_fault performs = performs
  full_output out (Refused reason place) not_fault performs = performs
  full_output out Usage not_fault performs = performs
  full_output out Printed not_fault performs = performs
  full_output out Memory not_fault performs = performs

  -- with its report, the end is answered
  answer_of : (out err : Observed (List ℕ)) (ended : Ended) → ended ≢ WriteFault → Done out ended → KeepsCount err
      → Gains err.before err.after (report_of ended) → Answers words shelf out err ended
  answer_of out err WriteFault not_fault done sound gains = absurd (not_fault refl)
  answer_of out err (Exited n) not_fault done sound gains = (done.0, sound, (done.1.0, done.1.1, done.1.2, gains))
  answer_of out err Aborted not_fault done sound gains = (done.0, sound, (done.1.0, done.1.1, done.1.2, gains))
  answer_of out err (Trapped case place) not_fault done sound gains =
      (done.0, sound, (done.1.0, done.1.1, done.1.2, gains))
  answer_of out err (Undefined code place) not_fault done sound gains =
      (done.0, sound, (done.1.0, done.1.1, done.1.2, gains))
  answer_of out err OutOfTicks not_fault done sound gains = (done.0, sound, (done.1.0, done.1.1, done.1.2, gains))
  answer_of out err OutOfBytes not_fault done sound gains = (done.0, sound, (done.1.0, done.1.1, done.1.2, gains))
  answer_of out err ReadFault not_fault done sound gains = (done.0, sound, (done.1.0, done.1.1, done.1.2, gains))
  answer_of out err ShelfFault not_fault done sound gains = (done.0, sound, (done.1.0, done.1.1, done.1.2, gains))
  answer_of out err (Refused reason place) not_fault done sound gains =
      (done.0, sound, (done.1.0, done.1.1, done.1.2, gains))
  answer_of out err Usage not_fault done sound gains = (done.0, sound, (done.1.0, done.1.1, done.1.2, gains))
  answer_of out err Printed not_fault done sound gains = (done.0, sound, (done.1.0, done.1.1, done.1.2, gains))
  answer_of out err Memory not_fault done sound gains = (done.0, sound, (done.1.0, done.1.1, done.1.2, gains))

-- an output before the command, after it and after the report; an error output before the report and after it
pub record Course : Type 0 where
  pub out_0 : ℕ
  pub out_1 : ℕ
  pub out_2 : ℕ
  pub err_0 : ℕ
  pub err_1 : ℕ
  pub output_0 : Option (List ℕ)
  pub output_1 : Option (List ℕ)
  pub output_2 : Option (List ℕ)
  pub text_0 : Option (List ℕ)
  pub text_1 : Option (List ℕ)

module _ (words : List (List ℕ)) (shelf : Observed Held) (c : Course) where
  -- the output before and after the command
  abbrev command : Observed (List ℕ)
  command = record { faults_before = c.out_0; faults_after = c.out_1; before = c.output_0; after = c.output_1 }

  -- the output before and after the report
  abbrev flush : Observed (List ℕ)
  flush = record { faults_before = c.out_1; faults_after = c.out_2; before = c.output_1; after = c.output_2 }

  -- the output before the command and after the report
  abbrev whole : Observed (List ℕ)
  whole = record { faults_before = c.out_0; faults_after = c.out_2; before = c.output_0; after = c.output_2 }

  -- the error output before and after the report
  abbrev report : Observed (List ℕ)
  report = record { faults_before = c.err_0; faults_after = c.err_1; before = c.text_0; after = c.text_1 }

  pub answers : (ended answer : Ended) → c.out_1 ≤ c.out_2 → Performs words shelf command ended
      → Reports flush report ended answer → Answers words shelf whole report answer
  answers ended answer later performs (same, inl stopped) =
      let fault = subst (Performs words shelf command) stopped.0 performs in
      subst (Answers words shelf whole report) (sym stopped.1) (
        inl (still_counted c.out_0 c.out_1 c.out_2 fault.0 later),
        (
          fault.1.0,
          fault.1.1,
          fault.1.2,
          subst (λ now. GainsPart c.output_0 now fault.1.1) (sym same) fault.1.3,
          subst (λ now. GainsPart c.text_0 now (report_of fault.1.0)) (sym stopped.4)
              (nothing_written c.text_0 (report_of fault.1.0)),
        ),
      )
  answers ended answer later performs (same, inr (inl success)) =
      let done = full_output words shelf command ended success.0 performs in
      subst (Answers words shelf whole report) (sym success.1)
      (answer_of words shelf whole report ended success.0 (
        success.2
            ∙ done.0,
        (done.1.0, done.1.1, subst (λ now. Gains c.output_0 now done.1.0) (sym same) done.1.2),
      )
      success.3 success.4)
  answers ended answer later performs (same, inr (inr failed)) =
      let done = full_output words shelf command ended failed.0 performs in
      let cause : HasFailed whole ⊎ HasFailed report =
      elim failed.2 [ inl rose ↦ inl (subst (λ n. FaultCounted n c.out_2) done.0 rose) | inr rose ↦ inr rose ] in
      subst (Answers words shelf whole report) (sym failed.1) (
        cause,
        (
          ended,
          done.1.0,
          done.1.1,
          all_written c.output_0 c.output_2 done.1.0
              (subst (λ now. Gains c.output_0 now done.1.0) (sym same) done.1.2),
          failed.3,
        ),
      )
