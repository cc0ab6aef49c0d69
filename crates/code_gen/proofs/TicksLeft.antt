-- Where a stretch of a run comes, no more ticks are left than before it.
use Rattle.std.proofs.Common.{ℕ}
use Rattle.run_defs.specs.State.{State}
use Rattle.run_defs.specs.Evaluation.{Evaluation, Gives, Stops, bind}
use Rattle.run_defs.specs.Functions.{Environment}
use Rattle.vm_code.specs.Contents.{Contents}
use Rattle.vm_code.specs.Frames.{Place}
use Rattle.code_gen.specs.RunLaw.{LeavesAt, Reaches}
use Rattle.code_gen.proofs.Going.{comes_ticks, reaches_from, reaches_known}

module _ (e : Environment) (code : Contents) (most : ℕ) where
  -- one thing after another, which begins with no more ticks
  pub reaches_within : {A B : Type 0} (t : ℕ) (p : Place) (x : Evaluation A) (next : A → State → Evaluation B)
      (Left : A → Type 0) (to : (v : A) → Left v → State → Place) (Last : B → Type 0)
      (then : (v : B) → Last v → State → Place) → LeavesAt t p → Reaches e code most p x Left to
      → ((v : A) (s : State) (left : Left v) → LeavesAt t (to v left s)
      → Reaches e code most (to v left s) (next v s) Last then)
      → Reaches e code most p (bind x next) Last then
  reaches_within t p (Gives v s) next Left to Last then few r go = reaches_known e code most p (next v s) Last then
      (λ le. let a = r.arrives le in
      reaches_from e code most p (to v a.0 s) (next v s) Last then a.1
      (go v s a.0 (comes_ticks e code t p (to v a.0 s) a.1 few)))
  reaches_within t p (Stops outcome s) next Left to Last then few r go = record { arrives = r.arrives }
