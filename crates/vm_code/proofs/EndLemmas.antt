-- A run that is over stays so, and has one end.
use Rattle.std.proofs.Common.{◌≡◌, ℕ, zero, suc, ◌+◌, ◌≤◌, inl, inr, refl, sym, ◌∙◌, ap, arith}
use Rattle.std.proofs.lemmas.Bool.{cases_lt}
use Rattle.lib_defs.specs.Library.{Library}
use Rattle.lib_defs.specs.World.{Input}
use Rattle.run_defs.specs.declared.outcome.Outcome.{Outcome}
use Rattle.run_defs.specs.State.{State}
use Rattle.run_defs.specs.Evaluation.{finished}
use Rattle.run_defs.specs.Functions.{Environment}
use Rattle.run_defs.specs.Starts.{Budgets}
use Rattle.vm_code.specs.Contents.{Contents}
use Rattle.vm_code.specs.CodeFunctions.{environment}
use Rattle.vm_code.specs.Frames.{Place, Goes, Ends, Stuck}
use Rattle.vm_code.specs.Machine.{step, run, begun_count, started, RunsTo}
use Rattle.vm_code.specs.OneEnd.{IsSameEnd}
use Rattle.vm_code.proofs.Counted.{ends_state, stuck_ends, goes_ends}

outcome_of : Outcome → Place → Outcome
outcome_of other (Goes frames s) = other
outcome_of other (Ends outcome s) = outcome
outcome_of other Stuck = other

ends_outcome : (reached : Outcome) (there : State) (outcome : Outcome) (s : State)
    → Ends reached there ≡ Ends outcome s → reached ≡ outcome
unfolding outcome_of
ends_outcome reached there outcome s same = ap (outcome_of reached) same

module _ (e : Environment) (code : Contents) where
  -- more steps change nothing of a run that is over
  lasting : (n k : ℕ) (place : Place) (outcome : Outcome) (s : State) → n ≤ k → run e code place n ≡ Ends outcome s
      → (run e code place k ≡ Ends outcome s) × (begun_count e code place k ≡ begun_count e code place n)
  lasting n k (Ends reached there) outcome s le is = (is, refl)
  lasting n k Stuck outcome s le is = absurd (stuck_ends outcome s is)
  lasting zero k (Goes frames there) outcome s le is = absurd (goes_ends frames there outcome s is)
  lasting (suc n) zero (Goes frames there) outcome s le is = absurd (let none : ⊥ = omega (arith, le) in none)
  lasting (suc n) (suc k) (Goes frames there) outcome s le is =
      let rest : (run e code (step e code frames there) k ≡ Ends outcome s)
      × (begun_count e code (step e code frames there) k ≡ begun_count e code (step e code frames there) n) =
      lasting n k (step e code frames there) outcome s (omega (arith, le)) is in
      (rest.0, ap (λ m. m + 1) rest.1)

same_if : (library : Library) (code : Contents) (budgets : Budgets) (input : Input) (outcome : Outcome) (s : State)
    (n : ℕ) (other : Outcome) (t : State) (k : ℕ) → RunsTo library code budgets input outcome s n
    → RunsTo library code budgets input other t k → n ≤ k → IsSameEnd outcome s n other t k
same_if library code budgets input outcome s n other t k first second le =
    let still : (run (environment library code) code (started library code budgets input) k ≡ Ends outcome first.before)
    × (begun_count (environment library code) code (started library code budgets input) k
    ≡ begun_count (environment library code) code (started library code budgets input) n) =
    lasting (environment library code) code n k (started library code budgets input) outcome first.before le
    first.ends in
    let ends : Ends outcome first.before ≡ Ends other second.before = sym still.0 ∙ second.ends in
    let outcomes : outcome ≡ other = ends_outcome outcome first.before other second.before ends in
    let befores : first.before ≡ second.before = ends_state outcome first.before other second.before ends in
    record {
      outcomes = outcomes;
      states = first.last ∙ ap (λ o. finished o first.before) outcomes ∙ ap (finished other) befores ∙ sym second.last;
      instructions = sym first.all_begin ∙ sym still.1 ∙ second.all_begin;
    }

pub one_end : (library : Library) (code : Contents) (budgets : Budgets) (input : Input) (outcome : Outcome) (s : State)
    (n : ℕ) (other : Outcome) (t : State) (k : ℕ) → RunsTo library code budgets input outcome s n
    → RunsTo library code budgets input other t k → IsSameEnd outcome s n other t k
one_end library code budgets input outcome s n other t k first second = elim (cases_lt n k) [
  | inl less ↦ same_if library code budgets input outcome s n other t k first second (omega (arith, less))
  | inr more ↦ let back : IsSameEnd other t k outcome s n =
      same_if library code budgets input other t k outcome s n second first more in
      record { outcomes = sym back.outcomes; states = sym back.states; instructions = sym back.instructions }
]
