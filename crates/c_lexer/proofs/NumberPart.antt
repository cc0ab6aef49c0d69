-- What begins as a number stands where it spells one, and is refused where it spells none.
use Rattle.std.proofs.Common.{◌≡◌, inl, inr, ℕ, ◌≤◌, List, [], ◌∷◌, ◌++◌, Bool, true, false, ◌==◌, ◌&&◌, length, take}
use Rattle.std.proofs.Common.{refl, sym, ◌∙◌, ap, subst, arith}
use Rattle.std.proofs.lemmas.Bool.{and_parts, or_right, eqb-true, false≢true, or_cases}
use Rattle.std.specs.Prelude.{slice_index}
use Rattle.std.specs.List.{list_all}
use Rattle.std.specs.Char.{is_ascii_digit}
use Rattle.critical_table.specs.declared.refusal.Refusal.TheVariants.{Profile, Literal, Unclosed, Directive}
use Rattle.c_lexer.specs.declared.number.Base.{Base}
use Rattle.c_lexer.specs.declared.number.Base.TheVariants.{Decimal, Octal, Hexadecimal}
use Rattle.c_lexer.specs.declared.number.Number.{Number}
use Rattle.c_lexer.specs.declared.token.Body.{Body}
use Rattle.c_lexer.specs.declared.token.Body.TheVariants as body
use Rattle.c_lexer.specs.Bytes.{is_letter, is_word_byte}
use Rattle.c_lexer.specs.Classes.{is_in}
use Rattle.c_lexer.specs.Numbers.{digits_of, suffixes, IsPrefix, IsConstant, IsNumber}
use Rattle.c_lexer.specs.LexicalParts.{Part, White, Spelled, part_text, IsPart, IsToken}
use Rattle.c_lexer.specs.Refusals.{is_exponent, number_len, begins_number, Fits, IsReason}
use Rattle.c_lexer.specs.Lexing.{Stands}
use Rattle.c_lexer.proofs.Runs.{all_weaker, all_joined, front_taken}
use Rattle.c_lexer.proofs.Tables.{lookup_true}
use Rattle.c_lexer.proofs.TokenLaws.{octal_digit, digit_token}
use Rattle.c_lexer.proofs.Leads.{Digit, Admits, number_lead, admitted_at}
use Rattle.c_lexer.proofs.LeadRefusals.{character_lead, literal_lead, no_fit, no_refusal}

-- the text is all that goes on as a number
pub record IsNumberRun (text rest : List ℕ) : Type 0 where
  pub begins : begins_number (text ++ rest) ≡ true
  pub ends : number_len false (text ++ rest) ≡ length text

-- a digit of any base is a letter or a digit
pub digit_word : (base : Base) (byte : ℕ) → is_in (digits_of base) byte ≡ true → is_word_byte byte ≡ true
digit_word Decimal byte digit = or_right (is_letter byte) (is_ascii_digit byte) digit
digit_word Octal byte digit = or_right (is_letter byte) (is_ascii_digit byte) (octal_digit byte digit)
digit_word Hexadecimal byte digit = grind (arith, digit)

-- digits and suffix are letters and digits
constant_word : (base : Base) (text : List ℕ) (number : Number) → IsConstant base text number
    → list_all is_word_byte text ≡ true
constant_word base text number is =
    let digits = all_weaker (is_in (digits_of base)) is_word_byte is.digits (digit_word base) is.each in
    let suffix = lookup_true (list_all is_word_byte) suffixes is.suffix (number.unsigned, number.longs) refl
    is.ending in
    ap (list_all is_word_byte) is.parts ∙ all_joined is_word_byte is.digits is.suffix digits suffix

-- and so is a prefix
prefix_word : (base : Base) (text : List ℕ) → IsPrefix base text → list_all is_word_byte text ≡ true
prefix_word Decimal text is = ap (list_all is_word_byte) is
prefix_word Octal text is = ap (list_all is_word_byte) is
prefix_word Hexadecimal text (inl is) = ap (list_all is_word_byte) is
prefix_word Hexadecimal text (inr is) = ap (list_all is_word_byte) is

-- a number is letters and digits
number_word : (text : List ℕ) (number : Number) → IsNumber text number → list_all is_word_byte text ≡ true
number_word text number is =
    ap (list_all is_word_byte) is.parts
    ∙ all_joined is_word_byte is.before is.after (prefix_word is.base is.before is.prefix)
    (constant_word is.base is.after number is.constant)

-- letters and digits all go on
number_least : (sign : Bool) (ds rest : List ℕ) → list_all is_word_byte ds ≡ true
    → length ds ≤ number_len sign (ds ++ rest)
number_least sign [] rest all = omega arith
number_least sign (d ∷ ds) rest all =
    let parts = and_parts (is_word_byte d) (list_all is_word_byte ds) all in
    let more = number_least (is_exponent d) ds rest parts.1 in
    rw parts.0 (omega (arith, more))

-- a digit goes on, and so does what follows a point
digit_some : (sign : Bool) (bytes : List ℕ) → is_ascii_digit (slice_index bytes 0) ≡ true → 1 ≤ number_len sign bytes
digit_some sign [] digit = absurd (false≢true digit)
digit_some sign (a ∷ bytes) digit = rw (digit_word Decimal a digit) (omega arith)

-- a point and a digit go on
point_more : (bytes : List ℕ) → slice_index bytes 0 ≡ 46 → is_ascii_digit (slice_index bytes 1) ≡ true
    → 2 ≤ number_len false bytes
point_more [] point digit = absurd (omega (arith, point))
point_more (a ∷ bytes) point digit =
    rw point (let more = digit_some (is_exponent 46) bytes digit in omega (arith, more))

-- what begins as a number has a byte that goes on
begins_some : (bytes : List ℕ) → begins_number bytes ≡ true → 1 ≤ number_len false bytes
begins_some bytes begins =
    elim (or_cases (is_ascii_digit (slice_index bytes 0)) (slice_index bytes 0 == 46
    && is_ascii_digit (slice_index bytes 1)) begins) [
      | inl digit ↦ digit_some false bytes digit
      | inr both ↦ (let parts = and_parts (slice_index bytes 0 == 46) (is_ascii_digit (slice_index bytes 1)) both in
          let more = point_more bytes (eqb-true _ _ parts.0) parts.1 in omega (arith, more))
    ]

-- no part goes on further than what begins as a number
longest_number : (bytes : List ℕ) (other : Part) (after : List ℕ) (at_line_start : Bool)
    → begins_number bytes ≡ true → Admits Digit other → bytes ≡ part_text other ++ after
    → IsPart at_line_start other after → length (part_text other) ≤ number_len false bytes
longest_number bytes (White text) after at_line_start begins admits parts is = absurd admits
longest_number bytes (Spelled text token) after at_line_start begins (inl one) parts is =
    (let some = begins_some bytes begins in omega (arith, one, some))
longest_number bytes (Spelled text token) after at_line_start begins (inr number) parts is =
    let all = number_word text number.0 (subst (IsToken text) number.1 is) in
    subst (λ b. length text ≤ number_len false b) (sym parts) (number_least false text after all)

-- all that goes on is the text
run_taken : (text rest : List ℕ) → IsNumberRun text rest → take (number_len false (text ++ rest)) (text ++ rest) ≡ text
run_taken text rest run = front_taken _ text rest run.ends

-- a text that spells a number token spells a number
spelled_number : (text : List ℕ) (token : Body) → (number : Number) × (token ≡ body.Number number)
    → IsToken text token → (number : Number) × IsNumber text number
spelled_number text token number is = (number.0, subst (IsToken text) number.1 is)

-- what is all that goes on as a number spells a number or nothing
run_number : (text rest : List ℕ) (token : Body) → IsNumberRun text rest → IsToken text token
    → (number : Number) × IsNumber text number
run_number [] rest token run is =
    (let some = begins_some rest run.begins in let ends = run.ends in absurd (omega (arith, some, ends)))
run_number (a ∷ text) rest token run is =
    elim (or_cases (is_ascii_digit a) (a == 46 && is_ascii_digit (slice_index (text ++ rest) 0)) run.begins) [
      | inl digit ↦ spelled_number (a ∷ text) token (digit_token (a ∷ text) token digit is) is
      | inr both ↦
          let parts = and_parts (a == 46) (is_ascii_digit (slice_index (text ++ rest) 0)) both in
          let more = point_more (a ∷ (text ++ rest)) (eqb-true a 46 parts.0) parts.1 in
          let ends = run.ends in
          elim (admitted_at false (a ∷ (text ++ rest)) Digit (Spelled (a ∷ text) token) rest
          (number_lead (a ∷ (text ++ rest)) run.begins) refl is)
          [ inl one ↦ absurd (omega (arith, one, more, ends)) | inr number ↦ spelled_number (a ∷ text) token number is ]
    ]

-- where a number stands, no literal is wrong
no_literal : (at_line_start : Bool) (text rest : List ℕ) (number : Number) → IsNumberRun text rest
    → IsNumber text number → Fits at_line_start (text ++ rest) Literal → ⊥
no_literal at_line_start text rest number run is (inl none) =
    none.1 number (subst (λ t. IsNumber t number) (sym (run_taken text rest run)) is)
no_literal at_line_start text rest number run is (inr (inl fault)) =
    (let digit = number_lead (text ++ rest) run.begins in let quoted = character_lead (text ++ rest) fault in cc)
no_literal at_line_start text rest number run is (inr (inr fault)) =
    (let digit = number_lead (text ++ rest) run.begins in let quoted = literal_lead (text ++ rest) fault in cc)

-- what spells a number stands
pub number_stands : (at_line_start : Bool) (text rest : List ℕ) (token : Body) → IsNumberRun text rest
    → IsToken text token → Stands at_line_start (text ++ rest) (Spelled text token) rest
number_stands at_line_start text rest token run is =
    let at = number_lead (text ++ rest) run.begins in
    let number = run_number text rest token run is in record {
      parts = refl;
      is = is;
      longest = λ other after parts part.
          let longest =
          longest_number (text ++ rest) other after at_line_start run.begins
          (admitted_at at_line_start (text ++ rest) Digit other after at parts part) parts part in
          let ends = run.ends in omega (arith, longest, ends);
      no_refusal = no_refusal at_line_start (text ++ rest) (
        no_fit at_line_start (text ++ rest) Profile at refl,
        no_literal at_line_start text rest number.0 run number.1,
        no_fit at_line_start (text ++ rest) Unclosed at refl,
        no_fit at_line_start (text ++ rest) Directive at refl,
      );
    }

-- what begins as a number and spells none is refused
pub number_refused : (at_line_start : Bool) (text rest : List ℕ) → IsNumberRun text rest
    → ((token : Body) → IsToken text token → ⊥) → IsReason at_line_start (text ++ rest) Literal
number_refused at_line_start text rest run none = (
  inl (
    run.begins,
    λ number is. none (body.Number number) (subst (λ t. IsNumber t number) (run_taken text rest run) is),
  ),
  no_fit at_line_start (text ++ rest) Profile (number_lead (text ++ rest) run.begins) refl,
)
