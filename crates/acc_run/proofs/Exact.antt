-- Where no count rose, an answer is what is due, or memory ran out.
use Rattle.std.proofs.Common.{◌≡◌, ℕ, List, inl, inr, refl, sym, ◌∙◌, ap, subst}
use Rattle.std.specs.Prelude.{◌⊎◌, Some}
use Rattle.acc_io.specs.Bytes.{Gains}
use Rattle.acc_io.specs.Held.{Held, file_of}
use Rattle.critical_table.specs.declared.ended.Ended.{Ended}
use Rattle.critical_table.specs.declared.ended.Ended.TheVariants.{Exited, Aborted, Trapped, Undefined, OutOfTicks}
use Rattle.critical_table.specs.declared.ended.Ended.TheVariants.{OutOfBytes, ReadFault, WriteFault, ShelfFault}
use Rattle.critical_table.specs.declared.ended.Ended.TheVariants.{Refused, Usage, Printed, Memory}
use Rattle.critical_table.specs.Report.{report_of}
use Rattle.acc_run.specs.Job.{Run, job_of}
use Rattle.acc_run.specs.Meaning.{Outcome}
use Rattle.acc_run.specs.Answer.{Observed, HasFailed, HasUnit, IsOutcomeOf, Answers, IsDue, IsReported}
use Rattle.acc_run.proofs.Ends.{one_outcome, some_injective}

module _ (words : List (List ℕ)) (shelf : Observed Held) (out err : Observed (List ℕ)) (outcome : Outcome)
    (due : IsDue (job_of words) shelf.before outcome) where
  -- the end that is due, with its output and its report, is what is due
  is_reported : (ended : Ended) (output : List ℕ) → ended ≡ outcome.ended → output ≡ outcome.output
      → Gains out.before out.after output → Gains err.before err.after (report_of ended) →
      (ended ≡ Memory) ⊎ IsReported outcome out err ended
  is_reported ended output e o written reported =
      inr (record {
        end = e;
        output = subst (Gains out.before out.after) o written;
        report = subst (λ end. Gains err.before err.after (report_of end)) e reported;
      })

  -- what becomes of the unit that the shelf gave is what is due
  of_unit : (file unit output : List ℕ) (ended : Ended) → job_of words ≡ Some (Run file)
      → HasUnit shelf.before file unit → IsOutcomeOf unit (record { ended = ended; output = output }) →
      (ended ≡ outcome.ended) × (output ≡ outcome.output)
  of_unit file unit output ended job has is_outcome =
      let held = subst (λ j. IsDue j shelf.before outcome) job due in
      let named : file_of held.0.files file ≡ Some unit = subst (λ t. HasUnit t file unit) held.2 has in
      let same : unit ≡ held.1 = some_injective (sym named ∙ held.3) in
      let whole = one_outcome held.1 (record { ended = ended; output = output }) outcome
      (subst (λ u. IsOutcomeOf u (record { ended = ended; output = output })) same is_outcome) held.4 in
      (ap (λ (o : Outcome). o.ended) whole, ap (λ (o : Outcome). o.output) whole)

  -- an end that comes of a unit, with its output and its report
  abbrev UnitAnswer : Ended → Type 0
  UnitAnswer ended =
      (output : List ℕ)
      × ((file unit : List ℕ) × (job_of words ≡ Some (Run file)) × HasUnit shelf.before file unit
      × IsOutcomeOf unit (record { ended = ended; output = output }))
      × Gains out.before out.after output × Gains err.before err.after (report_of ended)

  -- it is the one that is due
  of_unit_answer : (ended : Ended) → UnitAnswer ended → (ended ≡ Memory) ⊎ IsReported outcome out err ended
  of_unit_answer ended answer =
      let found = of_unit answer.1.0 answer.1.1 answer.0 ended answer.1.2 answer.1.3 answer.1.4 in
      is_reported ended answer.0 found.0 found.1 answer.2 answer.3

  -- by cases on the answer
  pub exactly_due : (ended : Ended) → (HasFailed shelf → ⊥) → (HasFailed out → ⊥) → (HasFailed err → ⊥)
      → Answers words shelf out err ended → (ended ≡ Memory) ⊎ IsReported outcome out err ended
  exactly_due WriteFault no_shelf no_out no_err answers =
      absurd (elim answers.0 [ inl rose ↦ no_out rose | inr rose ↦ no_err rose ])
  exactly_due ShelfFault no_shelf no_out no_err answers = absurd (no_shelf answers.2.1.2)
  exactly_due Memory no_shelf no_out no_err answers = inl refl
  exactly_due Usage no_shelf no_out no_err answers =
      let is = subst (λ j. IsDue j shelf.before outcome) answers.2.1.0 due in
      let output = answers.2.1.1 ∙ sym (ap (λ (o : Outcome). o.output) is) in
      is_reported Usage answers.2.0 (sym (ap (λ (o : Outcome). o.ended) is)) output answers.2.2 answers.2.3
  exactly_due Printed no_shelf no_out no_err answers =
      let is = subst (λ j. IsDue j shelf.before outcome) answers.2.1.0 due in
      let output = answers.2.1.1 ∙ sym (ap (λ (o : Outcome). o.output) is) in
      is_reported Printed answers.2.0 (sym (ap (λ (o : Outcome). o.ended) is)) output answers.2.2 answers.2.3
  exactly_due (Exited n) no_shelf no_out no_err answers = of_unit_answer (Exited n) answers.2
  exactly_due Aborted no_shelf no_out no_err answers = of_unit_answer Aborted answers.2
  exactly_due (Trapped case place) no_shelf no_out no_err answers = of_unit_answer (Trapped case place) answers.2
  exactly_due (Undefined code place) no_shelf no_out no_err answers = of_unit_answer (Undefined code place) answers.2
  exactly_due OutOfTicks no_shelf no_out no_err answers = of_unit_answer OutOfTicks answers.2
  exactly_due OutOfBytes no_shelf no_out no_err answers = of_unit_answer OutOfBytes answers.2
  exactly_due ReadFault no_shelf no_out no_err answers = of_unit_answer ReadFault answers.2
  exactly_due (Refused reason place) no_shelf no_out no_err answers = of_unit_answer (Refused reason place) answers.2
