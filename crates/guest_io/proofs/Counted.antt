-- Which counts rose.
use Rattle.std.proofs.Common.{◌≡◌, ℕ, ◌≤◌, Bool, true, false, inl, inr, Result, Ok, Err, refl, arith}
use Rattle.std.specs.Prelude.{is_err}
use Rattle.acc_io.specs.Cause.{FaultCounted, HasCause}
use Rattle.lib_defs.specs.Answers.{Counts}
use Rattle.guest_io.specs.Counting.{SinkCounts}
use Rattle.guest_io.specs.Views.{GuestView, faults_of}

pub source_kept : (b : Bool) (n : ℕ) → b ≡ false → Counts b n n
source_kept b n no_fault = record {
  never_falls = omega arith;
  cause = λ e. cc;
  kept = λ e. refl;
}

module _ {I O E : Type 0} (out : O → ℕ) (err : E → ℕ) (old new : GuestView I O E) where
  pub sinks_kept : (b : Bool) → b ≡ false → out new.out.sink ≡ out old.out.sink → err new.err.sink ≡ err old.err.sink
      → SinkCounts b (faults_of out err old) (faults_of out err new)
  sinks_kept b no_fault o e = record {
    output_never_falls = omega (arith, o);
    err_never_falls = omega (arith, e);
    cause = λ fault. cc;
    output_kept = λ f. o;
    err_kept = λ f. e;
  }

  pub output_failed : (b : Bool) → b ≡ true → out old.out.sink ≤ out new.out.sink
      → FaultCounted (out old.out.sink) (out new.out.sink) → err new.err.sink ≡ err old.err.sink
      → SinkCounts b (faults_of out err old) (faults_of out err new)
  output_failed b fault le rose e = record {
    output_never_falls = le;
    err_never_falls = omega (arith, e);
    cause = λ f. inl rose;
    output_kept = λ f. cc;
    err_kept = λ f. e;
  }

  pub err_failed : (b : Bool) → b ≡ true → out new.out.sink ≡ out old.out.sink → err old.err.sink ≤ err new.err.sink
      → FaultCounted (err old.err.sink) (err new.err.sink)
      → SinkCounts b (faults_of out err old) (faults_of out err new)
  err_failed b fault o le rose = record {
    output_never_falls = omega (arith, o);
    err_never_falls = le;
    cause = λ f. inr rose;
    output_kept = λ f. o;
    err_kept = λ f. cc;
  }

  pub err_counted : {T X : Type 0} (r : Result T X) → out new.out.sink ≡ out old.out.sink
      → HasCause (err old.err.sink) (err new.err.sink) r
      → SinkCounts (is_err r) (faults_of out err old) (faults_of out err new)
  err_counted (Ok t) o h = sinks_kept false refl o h.cause
  err_counted (Err e) o h = err_failed true refl o h.never_falls h.cause
