-- A front of the bytes is read in one way: numerals, calls and summands.
use Rattle.std.proofs.Common.{inl, inr, ◌≡◌, ℕ, zero, suc, ◌+◌, ◌^◌, ◌<◌, ◌≤◌, List, [], ◌∷◌, ◌++◌, true, false}
use Rattle.std.proofs.Common.{length, get_or, take, drop, refl, sym, ◌∙◌, ap, subst, arith, append_assoc, drop-cons}
use Rattle.std.proofs.lemmas.Bool.{and_parts, and_from, both_ways, cases_lt}
use Rattle.std.proofs.lemmas.List.{take_more, append_cancel_left}
use Rattle.std.proofs.lemmas.Str.Parse.{IsNumeralModel, numerals_by_value, tells_all_ascii_digits, parse_digits}
use Rattle.std.proofs.lemmas.Str.{IsUtf8-from_ascii}
use Rattle.std.proofs.lemmas.Fmt.{digits_decimal, decimal_injective, decimal_digit, first_decimal}
use Rattle.std.proofs.lemmas.Fmt.{IsAscii-from_digits, decimal-digits_value}
use Rattle.std.specs.Char.{is_ascii_digit}
use Rattle.std.specs.Str.{all_ascii_digits, IsUtf8}
use Rattle.std.specs.Str.Parse.{digits_value, ParsesUnsigned}
use Rattle.std.specs.Prelude.{Result, Ok, OkIff, Option, Some, None, MatchOption, IfSome, IfNone, nat_eq}
use Rattle.std.specs.Fmt.{decimal}
use Rattle.std.specs.Prelude.{codes}
use Rattle.std.proofs.lemmas.Bool.Decides.{Decides-eqb}
use Rattle.std.proofs.lemmas.Slice.Eq.{strip_prefix_is}
use Rattle.std.specs.Borrow.{Bor}
use lib.Pointwise.{pointwise}
use Rattle.acc_run.specs.Program.{greatest_constant, putchar_call, plus_term}
use Rattle.acc_run.specs.PartEnds.{EndsNumeral, EndsCalls}

-- the texts of digits, and their values
pub own : IsNumeralModel (λ ds. all_ascii_digits ds ≡ true) (digits_value 10)
own = numerals_by_value _ tells_all_ascii_digits

-- two texts of digits are one
pub all_digits-append : (ds es : List ℕ) → all_ascii_digits ds ≡ true → all_ascii_digits es ≡ true
    → all_ascii_digits (ds ++ es) ≡ true
all_digits-append [] es p q = q
all_digits-append (d ∷ ds) es p q = let parts = and_parts (is_ascii_digit d) (all_ascii_digits ds) p in
    and_from _ _ parts.0 (all_digits-append ds es parts.1 q)

-- one digit more
pub all_digits_more : (xs : List ℕ) (i : ℕ) → i < length xs → all_ascii_digits (take i xs) ≡ true
    → is_ascii_digit (get_or xs i 0) ≡ true → all_ascii_digits (take (i + 1) xs) ≡ true
all_digits_more xs i lt p q =
    subst (λ ds. all_ascii_digits ds ≡ true) (sym (take_more xs i 0 lt))
    (all_digits-append (take i xs) (get_or xs i 0 ∷ []) p (and_from _ _ q refl))

-- the first byte that is no digit ends the numeral
pub ends_at : (xs : List ℕ) (i : ℕ) → i < length xs → is_ascii_digit (get_or xs i 0) ≡ false → EndsNumeral (drop i xs)
ends_at xs i lt p = subst EndsNumeral (sym (drop-cons xs i 0 lt)) p

-- the digits at the front are one text
pub digits_front : (ds xs es ys : List ℕ) → all_ascii_digits ds ≡ true → all_ascii_digits es ≡ true → EndsNumeral xs
    → EndsNumeral ys → ds ++ xs ≡ es ++ ys → (ds ≡ es) × (xs ≡ ys)
digits_front [] xs [] ys p q ends others h = (refl, h)
digits_front [] xs (e ∷ es) ys p q ends others h =
    absurd (both_ways _ (subst EndsNumeral h ends) (and_parts (is_ascii_digit e) (all_ascii_digits es) q).0)
digits_front (d ∷ ds) xs [] ys p q ends others h =
    absurd (both_ways _ (subst EndsNumeral (sym h) others) (and_parts (is_ascii_digit d) (all_ascii_digits ds) p).0)
digits_front (d ∷ ds) xs (e ∷ es) ys p q ends others h =
    let same : d ≡ e = cc in
    let tails : ds ++ xs ≡ es ++ ys = cc in
    let rest = digits_front ds xs es ys (and_parts (is_ascii_digit d) (all_ascii_digits ds) p).1
    (and_parts (is_ascii_digit e) (all_ascii_digits es) q).1 ends others tails in
    let fronts : ds ≡ es = rest.0 in
    ((cc), rest.1)

-- the constant at the front is one number
pub number_front : (m n : ℕ) (x y : List ℕ) → m ≤ greatest_constant → n ≤ greatest_constant → EndsNumeral x
    → EndsNumeral y → decimal m ++ x ≡ decimal n ++ y → (m ≡ n) × (x ≡ y)
number_front m n x y small less ends others h =
    let m_fits : m < 2 ^ 64 = omega arith in
    let n_fits : n < 2 ^ 64 = omega arith in
    let parts = digits_front (decimal m) x (decimal n) y (digits_decimal own m m_fits) (digits_decimal own n n_fits)
    ends others h in
    (decimal_injective m n m_fits n_fits parts.0, parts.1)

-- the call at the front has one argument
pub call_front : (m n : ℕ) (x y : List ℕ) → m ≤ greatest_constant → n ≤ greatest_constant
    → putchar_call m ++ x ≡ putchar_call n ++ y → (m ≡ n) × (x ≡ y)
call_front m n x y small less h =
    let tails : (decimal m ++ codes ");") ++ x ≡ (decimal n ++ codes ");") ++ y =
    append_cancel_left (codes "putchar(") _ _ h in
    let parts = number_front m n (codes ");" ++ x) (codes ");" ++ y) small less refl refl
    (sym (append_assoc (decimal m) _ x) ∙ (tails ∙ append_assoc (decimal n) _ y)) in
    (parts.0, append_cancel_left (codes ");") _ _ parts.1)

-- the summand at the front is one number
pub term_front : (m n : ℕ) (x y : List ℕ) → m ≤ greatest_constant → n ≤ greatest_constant → EndsNumeral x
    → EndsNumeral y → plus_term m ++ x ≡ plus_term n ++ y → (m ≡ n) × (x ≡ y)
term_front m n x y small less ends others h =
    number_front m n x y small less ends others (append_cancel_left (codes "+") _ _ h)

-- a numeral of more than one digit begins with none that is 0
pub no_leading_zero : (n : ℕ) → n ≤ greatest_constant → 1 < length (decimal n) → get_or (decimal n) 0 0 ≡ 48 → ⊥
no_leading_zero zero small long begins = let one : length (decimal 0) ≡ 1 =
    ap length (decimal_digit 0 (omega arith)) in omega arith
no_leading_zero (suc n) small long begins = let above = first_decimal (suc n) (omega arith) (omega arith) in omega arith

-- digits are text
pub digits_are_text : (ds : List ℕ) → all_ascii_digits ds ≡ true → IsUtf8 ds
digits_are_text ds p = IsUtf8-from_ascii ds (IsAscii-from_digits ds (own.to ds p))

-- what a text of digits is parsed as, where it has no leading zero, prints as that text
pub parsed_prints : {E : Type 0} (ds text : List ℕ) (n : ℕ) (r : Result ℕ E) → all_ascii_digits ds ≡ true
    → (1 < length ds → get_or ds 0 0 ≡ 48 → ⊥) → text ≡ ds → ParsesUnsigned 32 10 text r → r ≡ Ok n → ds ≡ decimal n
parsed_prints ds text n r p canonical same parses is =
    let whole = subst (λ s. OkIff s ((0 < length ds) × (digits_value 10 ds < 2 ^ 32)) (digits_value 10 ds)) is
    (parse_digits own 32 ds r (subst (λ t. ParsesUnsigned 32 10 t r) same parses) p) in
    let one : get_or ds 0 0 ≡ 48 → length ds ≡ 1 =
    λ zero_first. elim (cases_lt 1 (length ds)) [
      | inl long ↦ absurd (canonical long zero_first)
      | inr short ↦ omega arith
    ] in
    sym (decimal-digits_value own ds p whole.0.0 one (omega arith)) ∙ ap decimal (sym whole.1)

-- the digits at the front are the numeral that stands there
pub longest_front : (bytes digits after rest : List ℕ) (n : ℕ) → bytes ≡ digits ++ after
    → all_ascii_digits digits ≡ true → EndsNumeral after → n ≤ greatest_constant → EndsNumeral rest
    → bytes ≡ decimal n ++ rest → digits ≡ decimal n
longest_front bytes digits after rest n parts p ends small others e =
    (digits_front digits after (decimal n) rest p (digits_decimal own n (omega arith)) ends others (sym parts ∙ e)).0

-- what follows a text, where it stands at the front
pub strip_cases : (s p : List ℕ) (r : Option (Bor (List ℕ))) →
    MatchOption r (pointwise nat_eq (take (length p) s) p ≡ false)
    (λ x. (pointwise nat_eq (take (length p) s) p ≡ true) × (x.now ≡ drop (length p) s)
    × (length x.now + length p ≡ length s)) →
    IfSome r (λ rest. s ≡ p ++ rest.now) × IfNone r ((rest : List ℕ) → s ≡ p ++ rest → ⊥)
strip_cases s p None h = (tt, strip_prefix_is Decides-eqb s p None h)
strip_cases s p (Some x) h = (strip_prefix_is Decides-eqb s p (Some x) h, tt)

-- no call of putchar stands where its closing parenthesis and semicolon don't follow the constant
pub no_call : (bytes rest after : List ℕ) (n : ℕ) → bytes ≡ codes "putchar(" ++ rest → rest ≡ decimal n ++ after
    → n ≤ greatest_constant → EndsNumeral after →
    ((more : List ℕ) → after ≡ codes ");" ++ more → ⊥) → EndsCalls bytes
no_call bytes rest after n front is small ends not_closed m more less e =
    let tails : rest ≡ (decimal m ++ codes ");") ++ more = append_cancel_left (codes "putchar(") _ _ (sym front ∙ e) in
    not_closed more (number_front n m after (codes ");" ++ more) small less ends refl (sym is
    ∙ (tails ∙ append_assoc (decimal m) _ more))).1
