-- Which ends come of a unit, and that one comes.
use Rattle.std.proofs.Common.{◌≡◌, ◌≢◌, ℕ, ◌+◌, ◌≤◌, List, [], ◌∷◌, ◌++◌, length, inl, inr, refl, sym, ◌∙◌, ap, subst}
use Rattle.std.proofs.Common.{arith, length-append}
use Rattle.std.specs.Prelude.{◌⊎◌, ℤ, pos, Option, Some, None, IfSome, Result, Ok, Err}
use Rattle.acc_num.specs.declared.kind.IntKind.TheVariants.{I32}
use Rattle.acc_num.specs.declared.fault.NumFault.{NumFault}
use Rattle.acc_num.specs.Operations.{outcome_of, Add}
use Rattle.acc_io.specs.Held.{Held, file_of}
use Rattle.critical_table.specs.declared.pos.Pos.{Pos}
use Rattle.critical_table.specs.declared.ended.Ended.{Ended}
use Rattle.critical_table.specs.declared.ended.Ended.TheVariants.{Exited, Aborted, Trapped, Undefined, OutOfTicks}
use Rattle.critical_table.specs.declared.ended.Ended.TheVariants.{OutOfBytes, ReadFault, WriteFault, ShelfFault}
use Rattle.critical_table.specs.declared.ended.Ended.TheVariants.{Refused, Usage, Printed, Memory}
use Rattle.acc_run.specs.Program.{UnitParts, IsUnit, plus_term, longest_unit}
use Rattle.acc_run.specs.Meaning.{Outcome, sum_from, with_sum, place_behind, meaning_of}
use Rattle.acc_run.specs.Job.{Run, job_of}
use Rattle.acc_run.specs.Loading.{ReadsFile}
use Rattle.acc_run.specs.Answer.{Observed, HasUnit, IsOutcomeOf, IsCause, IsDue}
use Rattle.acc_run.proofs.Whole.{unique_parts}

-- an end that comes of a unit, accepted or not
abbrev pub OfUnit : Ended → Type 0
OfUnit (Exited status) = Unit {0}
OfUnit (Undefined code place) = Unit {0}
OfUnit (Refused reason place) = Unit {0}
OfUnit ended = ⊥

-- so does a sum, where what goes on with it does
with_sum_ends : (sum : Result ℤ NumFault) (plus : Pos) (go_on : ℤ → Ended) → ((z : ℤ) → OfUnit (go_on z))
    → OfUnit (with_sum sum plus go_on)
with_sum_ends (Ok z) plus go_on h = h z
with_sum_ends (Err fault) plus go_on h = tt

-- a run ends with a status or at an overflow
pub sum_ends : (before : List ℕ) (total : ℤ) (rest : List ℕ) → OfUnit (sum_from before total rest)
sum_ends before total [] = tt
sum_ends before total (n ∷ rest) =
    with_sum_ends (outcome_of I32 Add total (pos n)) (place_behind before)
    (λ sum. sum_from (before ++ plus_term n) sum rest) (λ sum. sum_ends (before ++ plus_term n) sum rest)

-- what becomes of a unit is such an end
pub outcome_ends : (unit : List ℕ) (outcome : Outcome) → IsOutcomeOf unit outcome → OfUnit outcome.ended
outcome_ends unit outcome (inl accepted) =
    subst OfUnit (sym (ap (λ (o : Outcome). o.ended) accepted.2)) (sum_ends _ _ accepted.0.rest)
outcome_ends unit outcome (inr refused) = subst OfUnit (sym (ap (λ (o : Outcome). o.ended) refused.1)) tt

-- one outcome comes of a unit
pub one_outcome : (unit : List ℕ) (a b : Outcome) → IsOutcomeOf unit a → IsOutcomeOf unit b → a ≡ b
one_outcome unit a b (inl p) (inl q) = p.2 ∙ (ap meaning_of (unique_parts p.0 q.0 unit p.1 q.1) ∙ sym q.2)
one_outcome unit a b (inl p) (inr q) = absurd (q.0 p.0 p.1)
one_outcome unit a b (inr p) (inl q) = absurd (p.0 q.0 q.1)
one_outcome unit a b (inr p) (inr q) = p.1 ∙ sym q.1

-- a unit is no longer than the longest
unit_is_short : (parts : UnitParts) (unit : List ℕ) → IsUnit parts unit → length unit ≤ longest_unit
unit_is_short parts unit is = subst (λ text. length text ≤ longest_unit) (sym is.spelled) is.fits.short

-- what comes of the bytes that were read comes of the file
pub outcome_of_file : (file bytes : List ℕ) (outcome : Outcome) → ReadsFile file bytes → IsOutcomeOf bytes outcome
    → IsOutcomeOf file outcome
outcome_of_file file bytes outcome (inl same) is_outcome = subst (λ b. IsOutcomeOf b outcome) (sym same) is_outcome
outcome_of_file file bytes outcome (inr long) (inl accepted) =
    let short = unit_is_short accepted.0 bytes accepted.1 in absurd (omega arith)
outcome_of_file file bytes outcome (inr long) (inr refused) =
    inr (
      (λ parts is. let short = unit_is_short parts file is in
          let lengths : length file ≡ length bytes + length long.0 = ap length long.1 ∙ length-append bytes long.0 in
          omega arith),
      refused.1,
    )

-- what is found is one list
pub some_injective : {x y : List ℕ} → Some x ≡ Some y → x ≡ y
some_injective e = cc

-- the unit that the shelf gave: the file where it tells its files, else what was read
pub given_unit : (contents : Option Held) (file bytes : List ℕ)
    → IfSome contents (λ held. (unit : List ℕ) × (file_of held.files file ≡ Some unit) × ReadsFile unit bytes)
    → (unit : List ℕ) × HasUnit contents file unit × ReadsFile unit bytes
given_unit None file bytes read = (bytes, tt, inl refl)
given_unit (Some held) file bytes read = read

module _ (words : List (List ℕ)) (shelf : Observed Held) (file unit : List ℕ) (job : job_of words ≡ Some (Run file))
    (has : HasUnit shelf.before file unit) (output : List ℕ) where
  pub cause_of_unit : (ended : Ended)
      → (ended ≢ Memory → IsOutcomeOf unit (record { ended = ended; output = output }))
      → (ended ≡ Memory → output ≡ []) → IsCause words shelf ended output
  cause_of_unit Usage is_outcome memory = absurd (outcome_ends unit _ (is_outcome (λ e. cc)))
  cause_of_unit ShelfFault is_outcome memory = absurd (outcome_ends unit _ (is_outcome (λ e. cc)))
  cause_of_unit WriteFault is_outcome memory = outcome_ends unit _ (is_outcome (λ e. cc))
  cause_of_unit Memory is_outcome memory = memory refl
  cause_of_unit (Exited n) is_outcome memory = (file, unit, job, has, is_outcome (λ e. cc))
  cause_of_unit Aborted is_outcome memory = (file, unit, job, has, is_outcome (λ e. cc))
  cause_of_unit (Trapped case place) is_outcome memory = (file, unit, job, has, is_outcome (λ e. cc))
  cause_of_unit (Undefined code place) is_outcome memory = (file, unit, job, has, is_outcome (λ e. cc))
  cause_of_unit OutOfTicks is_outcome memory = (file, unit, job, has, is_outcome (λ e. cc))
  cause_of_unit OutOfBytes is_outcome memory = (file, unit, job, has, is_outcome (λ e. cc))
  cause_of_unit ReadFault is_outcome memory = (file, unit, job, has, is_outcome (λ e. cc))
  cause_of_unit (Refused reason place) is_outcome memory = (file, unit, job, has, is_outcome (λ e. cc))
  cause_of_unit Printed is_outcome memory = absurd (outcome_ends unit _ (is_outcome (λ e. cc)))

-- each end is want of memory or another
memory_or_not : (ended : Ended) → (ended ≡ Memory) ⊎ (ended ≢ Memory)
memory_or_not Memory = inl refl
memory_or_not Usage = inr (λ e. cc)
memory_or_not ShelfFault = inr (λ e. cc)
memory_or_not WriteFault = inr (λ e. cc)
memory_or_not (Exited n) = inr (λ e. cc)
memory_or_not Aborted = inr (λ e. cc)
memory_or_not (Trapped case place) = inr (λ e. cc)
memory_or_not (Undefined code place) = inr (λ e. cc)
memory_or_not OutOfTicks = inr (λ e. cc)
memory_or_not OutOfBytes = inr (λ e. cc)
memory_or_not ReadFault = inr (λ e. cc)
memory_or_not (Refused reason place) = inr (λ e. cc)
memory_or_not Printed = inr (λ e. cc)

-- where the shelf tells the file, what was found is what is due
pub found_is_due : (contents : Option Held) (file bytes : List ℕ) (outcome found : Outcome)
    → IsDue (Some (Run file)) contents outcome →
    IfSome contents (λ held. (unit : List ℕ) × (file_of held.files file ≡ Some unit) × ReadsFile unit bytes) →
    (found.ended ≢ Memory → IsOutcomeOf bytes found) → (found.ended ≡ Memory → found.output ≡ []) →
    (found.ended ≡ outcome.ended) × (found.output ≡ outcome.output) ⊎ (found.ended ≡ Memory) × (found.output ≡ [])
found_is_due contents file bytes outcome found due read finds empty =
    elim (memory_or_not found.ended) [
      | inl memory ↦ inr (memory, empty memory)
      | inr not_memory ↦ inl (same_outcome not_memory)
    ]
  where
    given : (unit : List ℕ) × (file_of due.0.files file ≡ Some unit) × ReadsFile unit bytes
    given = subst (λ t. IfSome t (λ held. (unit : List ℕ) × (file_of held.files file ≡ Some unit)
        × ReadsFile unit bytes)) due.2 read

    same_outcome : found.ended ≢ Memory → (found.ended ≡ outcome.ended) × (found.output ≡ outcome.output)
    same_outcome not_memory =
        let same : given.0 ≡ due.1 = some_injective (sym given.1 ∙ due.3) in
        let whole = one_outcome due.1 found outcome
        (subst (λ u. IsOutcomeOf u found) same (outcome_of_file given.0 bytes found given.2 (finds not_memory)))
        due.4 in
        (ap (λ (o : Outcome). o.ended) whole, ap (λ (o : Outcome). o.output) whole)
