-- What is written one piece after another, or in part.
use Rattle.std.proofs.Common.{◌≡◌, ℕ, ◌+◌, ◌≤◌, List, ◌++◌, length, take, sym, ◌∙◌, ap, arith, append_assoc}
use Rattle.std.proofs.Common.{length-append}
use Rattle.std.specs.Prelude.{Option, Some, None, Result, Ok, Err, OnErr}
use Rattle.std.specs.Option.{option_map}
use Rattle.std.proofs.Math.Seq.{take-length, take-append-add}
use Rattle.std.proofs.lemmas.List.{take-append-le}
use Rattle.acc_io.specs.Bytes.{Gains, GainsPart}

-- all was written
pub all_written : (before now : Option (List ℕ)) (bytes : List ℕ) → Gains before now bytes → GainsPart before now bytes
all_written before now bytes gains = (
  length bytes,
  omega arith,
  gains
      ∙ ap (λ text. option_map (λ written. written ++ text) before) (sym (take-length bytes)),
)

-- one piece more
pub written_more : (before mid now : Option (List ℕ)) (bytes more : List ℕ) → Gains before mid bytes
    → Gains mid now more → Gains before now (bytes ++ more)
written_more None mid now bytes more first second = second ∙ ap (option_map (λ written. written ++ more)) first
written_more (Some written) mid now bytes more first second =
    second ∙ (ap (option_map (λ written. written ++ more)) first ∙ ap Some (append_assoc written bytes more))

-- of one piece more a part
pub part_more : (before mid now : Option (List ℕ)) (bytes more rest all : List ℕ) → Gains before mid bytes
    → GainsPart mid now more → bytes ++ (more ++ rest) ≡ all → GainsPart before now all
part_more before mid now bytes more rest all first part whole =
    let n = part.0 in
    let fits : length bytes + n ≤ length all =
    omega (arith, ap length whole, length-append bytes (more ++ rest), length-append more rest) in
    let front : bytes ++ take n more ≡ take (length bytes + n) all =
    ap (λ text. bytes ++ text) (sym (take-append-le n more rest part.1))
    ∙ (sym (take-append-add bytes (more ++ rest) n) ∙ ap (take (length bytes + n)) whole) in (
      length bytes + n,
      fits,
      written_more before mid now bytes (take n more) first part.2
          ∙ ap (λ text. option_map (λ written. written ++ text) before) front,
    )

-- what holds anyway holds of a failure
pub on_err : {T E : Type 0} {P : Type 0} (r : Result T E) → P → OnErr r P
on_err (Ok x) p = tt
on_err (Err e) p = p
