-- What a sink gains by one call after another.
use Rattle.std.proofs.Common.{◌≡◌, ℕ, ◌+◌, ◌-◌, List, [], ◌∷◌, ◌++◌, length, take, drop, Option, Some, None, refl, ap}
use Rattle.std.proofs.Common.{append_assoc, length-drop, arith}
use Rattle.std.proofs.Math.Seq.{take-add}
use Rattle.std.proofs.lemmas.List.{take_rest}
use Rattle.std.proofs.lemmas.Grind.{common_steps}
use Rattle.acc_io.specs.Bytes.{Gains}

-- after these bytes, and then those, the sink gained both
Gains-append : (before between now : Option (List ℕ)) (xs ys : List ℕ) → Gains before between xs
    → Gains between now ys → Gains before now (xs ++ ys)
Gains-append None between now xs ys first second = rw (second, first) refl
Gains-append (Some written) between now xs ys first second =
    rw (second, first) (ap (λ (all : List ℕ). Some all) (append_assoc written xs ys))

-- a front of the bytes is written, and then the next piece of the rest
pub Gains-front : (before between now : Option (List ℕ)) (bytes : List ℕ) (done n : ℕ)
    → Gains before between (take done bytes)
    → Gains between now (take n (take (length bytes - done) (drop done bytes)))
    → Gains before now (take (done + n) bytes)
Gains-front before between now bytes done n first second =
    rw (take-add done n bytes)
    (Gains-append before between now (take done bytes) (take n (drop done bytes)) first
    (rw (take_rest bytes done) at second))

-- nothing is the front of no bytes
pub Gains-nothing : (before : Option (List ℕ)) (bytes : List ℕ) → Gains before before (take 0 bytes)
Gains-nothing None bytes = refl
Gains-nothing (Some written) [] = grind (arith, common_steps)
Gains-nothing (Some written) (b ∷ bytes) = grind (arith, common_steps)

-- how long the rest of the bytes is
pub length-rest : (bytes : List ℕ) (done : ℕ) → length (take (length bytes - done) (drop done bytes))
    ≡ length bytes - done
length-rest bytes done = rw (take_rest bytes done) (length-drop done bytes)
