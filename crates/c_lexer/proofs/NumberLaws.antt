-- What is read as a number is one, and each number is read.
use Rattle.std.proofs.Common.{◌≡◌, ◌⊎◌, inl, inr, ℕ, ◌^◌, ◌<◌, List, [], ◌∷◌, ◌++◌, Bool, true, false, ◌==◌, ◌||◌}
use Rattle.std.proofs.Common.{cond, length, take, drop, refl, sym, ◌∙◌, ap, subst, arith}
use Rattle.std.proofs.lemmas.Bool.{ltb-true, eqb-true, eqb-false, eq-eqb, ne_eqb, or_cases}
use Rattle.std.proofs.lemmas.Option.{none-some}
use Rattle.std.proofs.lemmas.List.{take-append-drop}
use Rattle.std.proofs.lemmas.List.Folds.{length-prefix_len}
use Rattle.std.proofs.Math.Seq.{take-append_seam, drop-append_seam}
use Rattle.std.specs.Prelude.{Option, Some, None, nat_lt, slice_index, codes, IfSome, IfNone, ◌≢◌}
use Rattle.std.specs.List.{prefix_len}
use Rattle.std.specs.Str.Parse.{digits_value}
use Rattle.c_lexer.specs.declared.number.Base.{Base}
use Rattle.c_lexer.specs.declared.number.Base.TheVariants.{Decimal, Octal, Hexadecimal}
use Rattle.c_lexer.specs.declared.number.Number.{Number}
use Rattle.c_lexer.specs.Classes.{is_in}
use Rattle.c_lexer.specs.Lookup.{lookup}
use Rattle.c_lexer.specs.Numbers.{radix, digits_of, is_decimal, suffixes, IsPrefix, IsFirst, IsConstant, IsNumber}
use Rattle.c_lexer.specs.ReadNumber.{value_of, with_suffix, with_value, constant, number_of}
use Rattle.c_lexer.proofs.Tables.{lookup_true}
use Rattle.c_lexer.proofs.DigitValues.{small_enough}
use Rattle.c_lexer.proofs.Cases.{cond_cases}
use Rattle.c_lexer.proofs.Runs.{run_all, run_whole}

-- a value that is found is that of the digits, below 2 ^ 64
pub value_sound : (base value : ℕ) (digits : List ℕ) → value_of base digits ≡ Some value
    → (digits_value base digits < 2 ^ 64) × (value ≡ digits_value base digits)
value_sound base value digits h =
    elim (cond_cases (nat_lt (digits_value base digits) (2 ^ 64)) (Some (digits_value base digits)) None (Some value) h)
    [ inl a ↦ (ltb-true _ _ a.0, (let e = a.1 in cc)) | inr a ↦ absurd (none-some _ a.1) ]

-- what the parts of a number are, from what was read of them
pub record Read (base : Base) (digits suffix : List ℕ) (number : Number) : Type 0 where
  pub ending : lookup suffixes suffix ≡ Some (number.unsigned, number.longs)
  pub value : number.value ≡ digits_value (radix base) digits
  pub fits : digits_value (radix base) digits < 2 ^ 64
  pub notation : number.decimal ≡ is_decimal base

-- a suffix that is found makes the number
suffix_sound : (base : Base) (value : ℕ) (digits suffix : List ℕ) (found : Option (Bool × ℕ)) (number : Number)
    → lookup suffixes suffix ≡ found → digits_value (radix base) digits < 2 ^ 64
    → value ≡ digits_value (radix base) digits
    → with_suffix base value found ≡ Some number → Read base digits suffix number
suffix_sound base value digits suffix None number at fits is h = absurd (none-some _ h)
suffix_sound base value digits suffix (Some s) number at fits is h =
    let same : record { value = value; decimal = is_decimal base; unsigned = s.0; longs = s.1 } ≡ number = cc in
    subst (Read base digits suffix) same (record { ending = at; value = is; fits = fits; notation = refl })

-- a value and a suffix that are found make the number
value_read : (base : Base) (digits suffix : List ℕ) (found : Option ℕ) (number : Number)
    → value_of (radix base) digits ≡ found → with_value base found suffix ≡ Some number → Read base digits suffix number
value_read base digits suffix None number at h = absurd (none-some _ h)
value_read base digits suffix (Some value) number at h =
    let v = value_sound (radix base) value digits at in
    suffix_sound base value digits suffix (lookup suffixes suffix) number refl v.0 v.1 h

-- what is read as a constant of this base is one
pub constant_sound : (base : Base) (text : List ℕ) (number : Number) → constant base text ≡ Some number
    → IsConstant base text number
unfolding constant
constant_sound base text number h =
    let p = is_in (digits_of base) in
    let count = prefix_len (is_in (digits_of base)) text in
    elim (cond_cases (count == 0) None (with_value base (value_of (radix base) (take count text)) (drop count text))
    (Some number) h) [
      | inl a ↦ absurd (none-some _ a.1)
      | inr a ↦
          let r = value_read base (take count text) (drop count text) (value_of (radix base) (take count text))
          number refl a.1 in
          record {
            digits = take count text;
            suffix = drop count text;
            parts = sym (take-append-drop count text);
            some = (let some : count ≡ 0 → ⊥ = eqb-false count 0 a.0 in
                omega (arith, some, length-prefix_len (is_in (digits_of base)) text));
            each = run_all (is_in (digits_of base)) text;
            ending = r.ending;
            value = r.value;
            fits = r.fits;
            notation = r.notation;
          }
    ]

-- no suffix begins with a digit
suffix_ends : (base : Base) (suffix : List ℕ) (s : Bool × ℕ) → lookup suffixes suffix ≡ Some s
    → prefix_len (is_in (digits_of base)) suffix ≡ 0
suffix_ends Decimal suffix s h =
    eqb-true _ 0 (lookup_true (λ t. prefix_len (is_in (digits_of Decimal)) t == 0) suffixes suffix s refl h)
suffix_ends Octal suffix s h =
    eqb-true _ 0 (lookup_true (λ t. prefix_len (is_in (digits_of Octal)) t == 0) suffixes suffix s refl h)
suffix_ends Hexadecimal suffix s h =
    eqb-true _ 0 (lookup_true (λ t. prefix_len (is_in (digits_of Hexadecimal)) t == 0) suffixes suffix s refl h)

-- the parts of a number make it again
rebuild : (base : Base) (n : ℕ) (digits suffix : List ℕ) (number : Number) → (n == 0) ≡ false
    → Read base digits suffix number → cond (n == 0) None (with_value base (value_of (radix base) digits) suffix)
    ≡ Some number
rebuild base n digits suffix number some r =
    rw (some, small_enough (radix base) digits r.fits, r.ending, ← r.value, ← r.notation) refl

-- each constant of this base is read
pub constant_full : (base : Base) (text : List ℕ) (number : Number) → IsConstant base text number
    → constant base text ≡ Some number
unfolding constant
constant_full base text number c =
    let p : ℕ → Bool = is_in (digits_of base) in
    let ends : prefix_len p c.suffix ≡ 0 = suffix_ends base c.suffix (number.unsigned, number.longs) c.ending in
    let count : prefix_len p text ≡ length c.digits = ap (prefix_len p) c.parts
    ∙ run_whole p c.digits c.suffix c.each ends in
    let front : take (prefix_len p text) text ≡ c.digits = ap (λ n. take n text) count
    ∙ (ap (take (length c.digits)) c.parts ∙ take-append_seam c.digits c.suffix) in
    let back : drop (prefix_len p text) text ≡ c.suffix = ap (λ n. drop n text) count
    ∙ (ap (drop (length c.digits)) c.parts ∙ drop-append_seam c.digits c.suffix) in
    let some : (prefix_len p text == 0) ≡ false =
    ne_eqb _ _ (λ (zero : prefix_len p text ≡ 0). let lt = c.some in omega (arith, zero, count, lt)) in
    let r : Read base c.digits c.suffix number =
    record { ending = c.ending; value = c.value; fits = c.fits; notation = c.notation } in
    subst (λ t. cond (prefix_len p text == 0) None
    (with_value base (value_of (radix base) t) (drop (prefix_len p text) text)) ≡ Some number) (sym front)
    (subst (λ t. cond (prefix_len p text == 0) None (with_value base (value_of (radix base) c.digits) t)
    ≡ Some number) (sym back)
    (rebuild base (prefix_len p text) c.digits c.suffix number some r))

-- a constant without a prefix is a number
plain_sound : (base : Base) (text : List ℕ) (number : Number) → IsPrefix base [] → IsFirst base (slice_index text 0)
    → constant base text ≡ Some number → IsNumber text number
plain_sound base text number prefix first h =
    record {
      base = base;
      before = [];
      after = text;
      parts = refl;
      prefix = prefix;
      first = first;
      constant =
          constant_sound base text number h;
    }

-- 0x and 0X are the prefixes of hexadecimal constants
x_prefix : (b : ℕ) → (b == 120 || b == 88) ≡ true → (48 ∷ b ∷ [] ≡ codes "0x") ⊎ (48 ∷ b ∷ [] ≡ codes "0X")
x_prefix b h =
    elim (or_cases (b == 120) (b == 88) h)
    [ inl e ↦ inl (ap (λ x. 48 ∷ x ∷ []) (eqb-true b 120 e)) | inr e ↦ inr (ap (λ x. 48 ∷ x ∷ []) (eqb-true b 88 e)) ]

-- a constant behind 0x is a number
hex_sound : (text : List ℕ) (number : Number) → (slice_index text 0 == 48) ≡ true
    → (slice_index text 1 == 120 || slice_index text 1 == 88) ≡ true → constant Hexadecimal (drop 2 text)
    ≡ Some number → IsNumber text number
hex_sound [] number zero x h = absurd (cc)
hex_sound (a ∷ []) number zero x h = absurd (cc)
hex_sound (a ∷ b ∷ rest) number zero x h =
    record {
      base = Hexadecimal;
      before = a ∷ b ∷ [];
      after = rest;
      parts = refl;
      prefix =
          subst (λ t. IsPrefix Hexadecimal (t ∷ b ∷ [])) (sym (eqb-true a 48 zero)) (x_prefix b x);
      first =
          tt;
      constant = constant_sound Hexadecimal rest number h;
    }

-- what is read as a number is one
pub number_sound : (text : List ℕ) (number : Number) → number_of text ≡ Some number → IsNumber text number
unfolding number_of
number_sound text number h =
    elim (cond_cases (slice_index text 0 == 48)
    (cond (slice_index text 1 == 120 || slice_index text 1 == 88) (constant Hexadecimal (drop 2 text))
    (constant Octal text)) (constant Decimal text) (Some number) h) [
      | inl a ↦ elim (cond_cases (slice_index text 1 == 120 || slice_index text 1 == 88)
          (constant Hexadecimal (drop 2 text)) (constant Octal text) (Some number) a.1) [
            | inl b ↦ hex_sound text number a.0 b.0 b.1
            | inr b ↦ plain_sound Octal text number refl (eqb-true _ _ a.0) b.1
          ]
      | inr a ↦ plain_sound Decimal text number refl (eqb-false _ _ a.0) a.1
    ]

-- 0x and 0X begin no octal constant
octal_x : (rest : List ℕ) → constant Octal (48 ∷ 120 ∷ rest) ≡ None
unfolding constant
octal_x rest = refl

-- the same of 0X
octal_X : (rest : List ℕ) → constant Octal (48 ∷ 88 ∷ rest) ≡ None
unfolding constant
octal_X rest = refl

-- an octal constant has no x
no_x : (b : ℕ) (rest : List ℕ) (number : Number) → constant Octal (48 ∷ b ∷ rest) ≡ Some number → (t : Bool)
    → (b == 120 || b == 88) ≡ t → t ≡ false
no_x b rest number h false is = refl
no_x b rest number h true is =
    elim (or_cases (b == 120) (b == 88) is) [
      | inl e ↦ absurd
          (none-some _ (sym (octal_x rest) ∙ (ap (λ x. constant Octal (48 ∷ x ∷ rest)) (sym (eqb-true b 120 e)) ∙ h)))
      | inr e ↦ absurd
          (none-some _ (sym (octal_X rest) ∙ (ap (λ x. constant Octal (48 ∷ x ∷ rest)) (sym (eqb-true b 88 e)) ∙ h)))
    ]

-- each octal constant is read
octal_full : (text : List ℕ) (number : Number) → slice_index text 0 ≡ 48 → constant Octal text ≡ Some number
    → number_of text ≡ Some number
unfolding number_of
octal_full [] number first h = absurd (cc)
octal_full (a ∷ []) number first h = rw (eq-eqb a 48 first) h
octal_full (a ∷ b ∷ rest) number first h =
    let at : constant Octal (48 ∷ b ∷ rest) ≡ Some number =
    subst (λ x. constant Octal (x ∷ b ∷ rest) ≡ Some number) first h in
    rw (eq-eqb a 48 first, no_x b rest number at (b == 120 || b == 88) refl) h

-- each decimal constant is read
decimal_full : (text : List ℕ) (number : Number) → slice_index text 0 ≢ 48 → constant Decimal text ≡ Some number
    → number_of text ≡ Some number
unfolding number_of
decimal_full text number first h = rw (ne_eqb (slice_index text 0) 48 first) h

-- each hexadecimal constant is read
hex_full : (before after : List ℕ) (number : Number) → (before ≡ codes "0x") ⊎ (before ≡ codes "0X")
    → constant Hexadecimal after ≡ Some number → number_of (before ++ after) ≡ Some number
unfolding number_of
hex_full before after number (inl e) h = subst (λ b. number_of (b ++ after) ≡ Some number) (sym e) h
hex_full before after number (inr e) h = subst (λ b. number_of (b ++ after) ≡ Some number) (sym e) h

-- a constant of each base is read behind its prefix
full_at : (base : Base) (before after text : List ℕ) (number : Number) → text ≡ before ++ after
    → IsPrefix base before → IsFirst base (slice_index after 0) → constant base after ≡ Some number
    → number_of text ≡ Some number
full_at Decimal before after text number parts prefix first h =
    subst (λ t. number_of t ≡ Some number) (sym (parts ∙ ap (λ b. b ++ after) prefix))
    (decimal_full after number first h)
full_at Octal before after text number parts prefix first h =
    subst (λ t. number_of t ≡ Some number) (sym (parts ∙ ap (λ b. b ++ after) prefix)) (octal_full after number first h)
full_at Hexadecimal before after text number parts prefix first h =
    subst (λ t. number_of t ≡ Some number) (sym parts) (hex_full before after number prefix h)

-- each number is read
pub number_full : (text : List ℕ) (number : Number) → IsNumber text number → number_of text ≡ Some number
number_full text number n =
    full_at n.base n.before n.after text number n.parts n.prefix n.first
    (constant_full n.base n.after number n.constant)

-- what is read, and what is not
pub number_found : (text : List ℕ) (r : Option Number) → r ≡ number_of text → IfSome r (λ number. IsNumber text number)
number_found text None h = tt
number_found text (Some number) h = number_sound text number (sym h)

-- and where none is found there is none
pub number_none : (text : List ℕ) (r : Option Number) → r ≡ number_of text
    → IfNone r ((number : Number) → IsNumber text number → ⊥)
number_none text (Some number) h = tt
number_none text None h = λ number is. none-some _ (h ∙ number_full text number is)
