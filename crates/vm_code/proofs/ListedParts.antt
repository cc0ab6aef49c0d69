-- The parts and the lines of a list, from its first element on.
use Rattle.std.proofs.Common.{◌≡◌, ℕ, ◌+◌, ◌-◌, ◌≤◌, ◌==◌, false, List, [], ◌∷◌, ◌++◌, length, take, drop, get_or}
use Rattle.std.proofs.Common.{codes, Option, refl, sym, ◌∙◌, ap, arith, append_assoc}
use Rattle.std.specs.Prelude.{Result}
use Rattle.std.proofs.lemmas.Bool.{false≢true}
use Rattle.std.proofs.lemmas.List.{take_rest}
use Rattle.acc_io.specs.declared.failed.Failed.{Failed}
use Rattle.vm_code.specs.Listing.{parts, lines, byte_part, bytes_text}
use Rattle.vm_code.specs.Writing.{Told}
use Rattle.vm_code.proofs.Telling.{told_same}

-- what is left behind the first
abbrev behind : {A : Type 0} → List A → List A
behind xs = take (length xs - 1) (drop 1 xs)

pub length_behind : {A : Type 0} (xs : List A) → 1 ≤ length xs → length (behind xs) + 1 ≡ length xs
length_behind [] some = absurd (let none : ⊥ = omega (arith, some) in none)
length_behind (y ∷ ys) some = let rest : behind (y ∷ ys) ≡ ys = take_rest (y ∷ ys) 1 in
    let same : length (behind (y ∷ ys)) ≡ length ys = ap length rest in omega (arith, same)

-- bytes stand behind a space
pub some_bytes : (bytes : List ℕ) → (length bytes == 0) ≡ false → codes " " ++ parts byte_part bytes ≡ bytes_text bytes
some_bytes [] none = absurd (false≢true (sym none))
some_bytes (b ∷ bytes) some = refl

first_part : {A : Type 0} (text : A → List ℕ) (xs : List A) (x : A) → 1 ≤ length xs → x ≡ get_or xs 0 x
    → parts text xs ≡ text x ++ parts text (behind xs)
first_part text [] x some is = absurd (let none : ⊥ = omega (arith, some) in none)
first_part text (y ∷ ys) x some is = ap (λ z. text z ++ parts text ys) (sym is)
    ∙ ap (λ zs. text x ++ parts text zs) (sym (take_rest (y ∷ ys) 1))

pub next_part : {A : Type 0} (text : A → List ℕ) (xs : List A) (x : A) (done bytes whole : List ℕ)
    → 1 ≤ length xs → x ≡ get_or xs 0 x → bytes ≡ text x → done ++ parts text xs ≡ whole
    → (done ++ bytes) ++ parts text (behind xs) ≡ whole
next_part text xs x done bytes whole some is same all =
    append_assoc done bytes (parts text (behind xs))
    ∙ ap (λ t. done ++ (t ++ parts text (behind xs))) same
    ∙ ap (λ t. done ++ t) (sym (first_part text xs x some is)) ∙ all

first_line : {A : Type 0} (line : ℕ → A → List ℕ) (k : ℕ) (xs : List A) (x : A) → 1 ≤ length xs → x ≡ get_or xs 0 x
    → lines line k xs ≡ line k x ++ lines line (k + 1) (behind xs)
first_line line k [] x some is = absurd (let none : ⊥ = omega (arith, some) in none)
first_line line k (y ∷ ys) x some is = ap (λ z. line k z ++ lines line (k + 1) ys) (sym is)
    ∙ ap (λ zs. line k x ++ lines line (k + 1) zs) (sym (take_rest (y ∷ ys) 1))

pub next_line : {A : Type 0} (line : ℕ → A → List ℕ) (k : ℕ) (xs : List A) (x : A) (done whole : List ℕ)
    → 1 ≤ length xs → x ≡ get_or xs 0 x → done ++ lines line k xs ≡ whole
    → (done ++ line k x) ++ lines line (k + 1) (behind xs) ≡ whole
next_line line k xs x done whole some is all =
    append_assoc done (line k x) (lines line (k + 1) (behind xs))
    ∙ ap (λ t. done ++ t) (sym (first_line line k xs x some is)) ∙ all

-- the lines of the same list
pub told_lines : {A : Type 0} {f0 f1 : ℕ} {w0 w1 : Option (List ℕ)} {r0 r1 : ℕ → Type 0}
    {result : Result (Unit {0}) Failed} {xs ys : List A} (line : ℕ → A → List ℕ) (k : ℕ) → xs ≡ ys
    → Told f0 f1 w0 w1 r0 r1 result (lines line k xs) → Told f0 f1 w0 w1 r0 r1 result (lines line k ys)
told_lines {ys = ys} line k same told = told_same (lines line k ys) (ap (lines line k) same) told
