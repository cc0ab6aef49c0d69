-- Whether two lists are the same is decided where it is decided of what they hold, as of kinds.
use Rattle.std.proofs.Common.{◌≡◌, ◌≢◌, ◌⊎◌, inl, inr, ℕ, ◌==◌, Bool, true, false, List, [], ◌∷◌, refl, sym}
use Rattle.std.proofs.Common.{◌∙◌, ap, eqb-true, eq-eqb, if◌then◌else◌}
use Rattle.std.proofs.lemmas.Bool.{false≢true}
use Rattle.acc_num.specs.declared.kind.IntKind.TheVariants as k
use Rattle.c_core.specs.declared.form.Scalar.{Scalar}
use Rattle.c_core.specs.declared.form.Scalar.TheVariants.{Number, Pointer}
use Rattle.vm_code.specs.OperandKinds.{Kinds}

-- kinds of operands by number
abbrev number_of : Scalar → ℕ
number_of Pointer = 0
number_of (Number k.Bool) = 1
number_of (Number k.I8) = 2
number_of (Number k.U8) = 3
number_of (Number k.I16) = 4
number_of (Number k.U16) = 5
number_of (Number k.I32) = 6
number_of (Number k.U32) = 7
number_of (Number k.I64) = 8
number_of (Number k.U64) = 9

abbrev numbered : ℕ → Scalar
numbered n =
    if n == 1 then Number k.Bool else
    if n == 2 then Number k.I8 else
    if n == 3 then Number k.U8 else
    if n == 4 then Number k.I16 else
    if n == 5 then Number k.U16 else
    if n == 6 then Number k.I32 else
    if n == 7 then Number k.U32 else
    if n == 8 then Number k.I64 else
    if n == 9 then Number k.U64 else
    Pointer

numbered_back : (s : Scalar) → numbered (number_of s) ≡ s
numbered_back Pointer = refl
numbered_back (Number k.Bool) = refl
numbered_back (Number k.I8) = refl
numbered_back (Number k.U8) = refl
numbered_back (Number k.I16) = refl
numbered_back (Number k.U16) = refl
numbered_back (Number k.I32) = refl
numbered_back (Number k.U32) = refl
numbered_back (Number k.I64) = refl
numbered_back (Number k.U64) = refl

-- what has a number of its own is decided by it
pub alike_by_number : {A : Type 0} (number : A → ℕ) (back : ℕ → A) → ((x : A) → back (number x) ≡ x) → (a b : A)
    → (a ≡ b) ⊎ (a ≢ b)
alike_by_number number back is a b = by_test (number a == number b) refl
  where
    by_test : (same : Bool) → (number a == number b) ≡ same → (a ≡ b) ⊎ (a ≢ b)
    by_test true same = inl (sym (is a) ∙ ap back (eqb-true (number a) (number b) same) ∙ is b)
    by_test false other = inr (λ same. false≢true (sym other ∙ eq-eqb (number a) (number b) (ap number same)))

abbrev rest_of : {A : Type 0} → List A → List A
rest_of [] = []
rest_of (x ∷ xs) = xs

abbrev first_of : {A : Type 0} → A → List A → A
first_of x [] = x
first_of x (y ∷ ys) = y

pub lists_alike : {A : Type 0} → ((a b : A) → (a ≡ b) ⊎ (a ≢ b)) → (xs ys : List A) → (xs ≡ ys) ⊎ (xs ≢ ys)
lists_alike alike [] [] = inl refl
lists_alike alike [] (y ∷ ys) = inr (λ same. cc)
lists_alike alike (x ∷ xs) [] = inr (λ same. cc)
lists_alike alike (x ∷ xs) (y ∷ ys) = elim (alike x y) [
  | inl first ↦ elim (lists_alike alike xs ys) [
    | inl rest ↦ inl (ap (λ z. z ∷ xs) first ∙ ap (λ zs. y ∷ zs) rest)
    | inr differ ↦ inr (λ same. differ (ap rest_of same))
  ]
  | inr differ ↦ inr (λ same. differ (ap (first_of x) same))
]

pub kinds_alike : (a b : Kinds) → (a ≡ b) ⊎ (a ≢ b)
kinds_alike = lists_alike (alike_by_number number_of numbered numbered_back)
