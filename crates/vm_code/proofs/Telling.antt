-- Texts that are written one after the other.
use Rattle.std.proofs.Common.{◌≡◌, ℕ, ◌+◌, List, ◌++◌, length, take, Option, Some, None, refl, sym, ◌∙◌, ap, subst}
use Rattle.std.proofs.Common.{[], arith, append_assoc, append-nil, length-append, option_map}
use Rattle.std.specs.Prelude.{Result, Ok, Err}
use Rattle.std.proofs.Math.Seq.{take-append-add}
use Rattle.std.proofs.lemmas.List.{take-append-le}
use Rattle.std.proofs.lemmas.Bool.{false≢true}
use Rattle.acc_io.specs.Bytes.{Gains, GainsPart}
use Rattle.acc_io.specs.Cause.{HasCause, FaultCounted}
use Rattle.acc_io.specs.declared.failed.Failed.{Failed}
use Rattle.vm_code.specs.Writing.{Writes, all_written, Told}

-- one text behind another
gains_both : (a b c : Option (List ℕ)) (x y : List ℕ) → Gains a b x → Gains b c y → Gains a c (x ++ y)
gains_both None b c x y first second = second ∙ ap (option_map (λ w. w ++ y)) first
gains_both (Some w) b c x y first second =
    second ∙ ap (option_map (λ w. w ++ y)) first ∙ ap (λ t. Some t) (append_assoc w x y)

-- a front of one text behind another
part_both : (a b c : Option (List ℕ)) (x y : List ℕ) → Gains a b x → GainsPart b c y → GainsPart a c (x ++ y)
part_both a b c x y first part =
    let P : List ℕ → Type 0 = λ t. Gains a c t in (
      length x + part.0,
      omega (arith, part.1, length-append x y),
      subst P (sym (take-append-add x y part.0)) (gains_both a b c x (take part.0 y) first part.2),
    )

-- a front of a text is one of a longer text
part_longer : (a b : Option (List ℕ)) (x y : List ℕ) → GainsPart a b x → GainsPart a b (x ++ y)
part_longer a b x y part =
    let P : List ℕ → Type 0 = λ t. Gains a b t in (
      part.0,
      omega (arith, part.1, length-append x y),
      subst P (sym (take-append-le part.0 x y part.1)) part.2,
    )

cause_both : {a b c : ℕ} (result : Result (Unit {0}) Failed) → HasCause a b all_written
    → HasCause b c result → HasCause a c result
cause_both (Ok done) first second = record {
  never_falls = omega (arith, first.never_falls, second.never_falls);
  cause = second.cause ∙ first.cause;
}
cause_both {c = c} (Err failed) first second = record {
  never_falls = omega (arith, first.never_falls, second.never_falls);
  cause = let P : ℕ → Type 0 = λ k. FaultCounted k c in subst P first.cause second.cause;
}

writes_both : (a b c : Option (List ℕ)) (result : Result (Unit {0}) Failed) (x y : List ℕ) → Gains a b x
    → Writes b c result y → Writes a c result (x ++ y)
writes_both a b c (Ok done) x y first second = gains_both a b c x y first second
writes_both a b c (Err failed) x y first second = part_both a b c x y first second

-- one text behind another, of which the first was written
pub told_both : {f0 f1 f2 : ℕ} {w0 w1 w2 : Option (List ℕ)} {r0 r1 r2 : ℕ → Type 0} {result : Result (Unit {0}) Failed}
    {x y : List ℕ} → Told f0 f1 w0 w1 r0 r1 all_written x → Told f1 f2 w1 w2 r1 r2 result y
    → Told f0 f2 w0 w2 r0 r2 result (x ++ y)
told_both {w0 = w0} {w1 = w1} {w2 = w2} {r0 = r0} {result = result} {x = x} {y = y} first second = record {
  cause = cause_both result first.cause second.cause;
  gained = writes_both w0 w1 w2 result x y first.gained second.gained;
  room_left = λ more room. second.room_left more
      (first.room_left (length y + more) (subst r0 (omega (arith, length-append x y)) room)).1;
}

-- a text that wasn't written, and more behind it
pub told_part : {f0 f1 : ℕ} {w0 w1 : Option (List ℕ)} {r0 r1 : ℕ → Type 0} {failed : Failed} {x : List ℕ}
    (result : Result (Unit {0}) Failed) (other : Failed) (y : List ℕ) → result ≡ Err other
    → Told f0 f1 w0 w1 r0 r1 (Err failed) x → Told f0 f1 w0 w1 r0 r1 result (x ++ y)
told_part {f0 = f0} {f1 = f1} {w0 = w0} {w1 = w1} {r0 = r0} {r1 = r1} {x = x} result other y is told =
    let P : Result (Unit {0}) Failed → Type 0 = λ r. Told f0 f1 w0 w1 r0 r1 r (x ++ y) in
    subst P (sym is) (record {
      cause = record { never_falls = told.cause.never_falls; cause = told.cause.cause };
      gained = part_longer w0 w1 x y told.gained;
      room_left = λ more room. absurd (false≢true
          (told.room_left (length y + more) (subst r0 (omega (arith, length-append x y)) room)).0);
    })

pub told_on : {f0 f1 : ℕ} {w0 w1 : Option (List ℕ)} {r0 r1 : ℕ → Type 0} {x : List ℕ}
    (result : Result (Unit {0}) Failed) (other : Failed) (y : List ℕ) → result ≡ Err other
    → Told f0 f1 w0 w1 r0 r1 result x → Told f0 f1 w0 w1 r0 r1 result (x ++ y)
told_on {f0 = f0} {f1 = f1} {w0 = w0} {w1 = w1} {r0 = r0} {r1 = r1} {x = x} result other y is told =
    let P : Result (Unit {0}) Failed → Type 0 = λ r. Told f0 f1 w0 w1 r0 r1 r x in
    told_part result other y is (subst P is told)

-- the same text
pub told_same : {f0 f1 : ℕ} {w0 w1 : Option (List ℕ)} {r0 r1 : ℕ → Type 0} {result : Result (Unit {0}) Failed}
    {x : List ℕ} (y : List ℕ) → x ≡ y → Told f0 f1 w0 w1 r0 r1 result x → Told f0 f1 w0 w1 r0 r1 result y
told_same {f0 = f0} {f1 = f1} {w0 = w0} {w1 = w1} {r0 = r0} {r1 = r1} {result = result} y same told =
    let P : List ℕ → Type 0 = λ t. Told f0 f1 w0 w1 r0 r1 result t in subst P same told

-- nothing is written
pub told_nothing : (f0 : ℕ) (w0 : Option (List ℕ)) (r0 : ℕ → Type 0) → Told f0 f0 w0 w0 r0 r0 all_written []
told_nothing f0 w0 r0 = record {
  cause = record { never_falls = omega arith; cause = refl };
  gained = gains_none w0;
  room_left = λ more room. (refl, subst r0 (omega arith) room);
}
  where
    gains_none : (w : Option (List ℕ)) → Gains w w []
    gains_none None = refl
    gains_none (Some w) = ap (λ t. Some t) (sym (append-nil w))
