-- What is read as an item of a constant or literal is one, and each item is read.
use Rattle.std.proofs.Common.{◌≡◌, inl, inr, ℕ, ◌^◌, ◌<◌, ◌≤◌, List, [], ◌∷◌, ◌++◌, Bool, true, false, ◌==◌, ◌||◌}
use Rattle.std.proofs.Common.{◌&&◌, cond, length, take, drop, min, refl, sym, ◌∙◌, ap, subst, arith, lit<}
use Rattle.std.proofs.lemmas.Bool.{eqb-true, eqb-false, or_parts, and_parts, cases_lt, cond-true, leb-true, leb-false}
use Rattle.std.proofs.lemmas.Bool.{le-leb, lt-leb, false≢true, ne_eqb, not-true}
use Rattle.std.proofs.lemmas.Option.{none-some}
use Rattle.std.proofs.lemmas.List.{take-append-drop, length-take-le}
use Rattle.std.proofs.lemmas.List.Sums.{prefix_len-le-length}
use Rattle.std.specs.Prelude.{Option, Some, None, nat_le}
use Rattle.std.specs.Option.{option_map}
use Rattle.std.specs.List.{prefix_len, list_all, AllByRecursion}
use Rattle.std.specs.Str.Parse.{digits_value}
use Rattle.std.specs.Char.{is_ascii_hexdigit}
use Rattle.c_lexer.specs.Bytes.{is_octal}
use Rattle.c_lexer.specs.Characters.{Item, Plain, Letter, Octal, Hexadecimal, item_text, escapes, value_at, greatest}
use Rattle.c_lexer.specs.Characters.{IsItem, IsLongest}
use Rattle.c_lexer.specs.ReadNumber.{value_of}
use Rattle.c_lexer.specs.ReadCharacters.{in_range, digits_escape, escape_at, is_plain, item_at}
use Rattle.c_lexer.proofs.Cases.{cond_cases}
use Rattle.c_lexer.proofs.DigitValues.{small_enough}
use Rattle.c_lexer.proofs.NumberLaws.{value_sound}
use Rattle.c_lexer.proofs.Runs.{front_taken, front_dropped, run_part, run_ends, run_whole, run_least}

-- what so many digits were read as
pub record Digits (wide : Bool) (radix : ℕ) (count : ℕ) (bytes : List ℕ) (found : ℕ × List ℕ) : Type 0 where
  pub some : 0 < count
  pub value : found.0 ≡ digits_value radix (take count bytes)
  pub fits : found.0 ≤ greatest wide
  pub after : found.1 ≡ drop count bytes

-- a value that is found in range is that of the digits
in_range_sound : (wide : Bool) (radix count : ℕ) (bytes : List ℕ) (value : Option ℕ) (found : ℕ × List ℕ)
    → 0 < count → value_of radix (take count bytes) ≡ value → in_range wide value (drop count bytes) ≡ Some found
    → Digits wide radix count bytes found
in_range_sound wide radix count bytes None found some at h = absurd (none-some _ h)
in_range_sound wide radix count bytes (Some value) found some at h =
    elim (cond_cases (nat_le value (greatest wide)) (Some (value, drop count bytes)) None (Some found) h) [
      | inl a ↦
          let same : (value, drop count bytes) ≡ found = (let e = a.1 in cc) in
          subst (Digits wide radix count bytes) same
          (record {
            some = some;
            value = (value_sound radix value (take count bytes) at).1;
            fits =
                leb-true _ _ a.0;
            after = refl;
          })
      | inr a ↦ absurd (none-some _ a.1)
    ]

-- an escape of digits that is read has these digits and their value
pub digits_escape_sound : (wide : Bool) (radix count : ℕ) (bytes : List ℕ) (found : ℕ × List ℕ)
    → digits_escape wide radix count bytes ≡ Some found → Digits wide radix count bytes found
unfolding digits_escape
digits_escape_sound wide radix count bytes found h =
    elim (cond_cases (count == 0) None (in_range wide (value_of radix (take count bytes)) (drop count bytes))
    (Some found) h) [
      | inl a ↦ absurd (none-some _ a.1)
      | inr a ↦
          let no : count ≡ 0 → ⊥ = eqb-false count 0 a.0 in
          in_range_sound wide radix count bytes (value_of radix (take count bytes)) found (omega (arith, no)) refl a.1
    ]

-- the greatest value of a unit is below 2 ^ 64
greatest_small : (wide : Bool) → greatest wide < 2 ^ 64
greatest_small true = lit< tt
greatest_small false = lit< tt

-- an escape of digits whose value is in range is read
pub digits_escape_full : (wide : Bool) (radix count : ℕ) (digits after : List ℕ) (value : ℕ) → count ≡ length digits
    → 0 < length digits → value ≡ digits_value radix digits → value ≤ greatest wide
    → digits_escape wide radix count (digits ++ after) ≡ Some (value, after)
unfolding digits_escape
digits_escape_full wide radix count digits after value is some same fits =
    let front : take count (digits ++ after) ≡ digits = front_taken count digits after is in
    let back : drop count (digits ++ after) ≡ after = front_dropped count digits after is in
    let no : (count == 0) ≡ false = ne_eqb count 0 (λ (e : count ≡ 0). omega (arith, e, is, some)) in
    let small : digits_value radix digits < 2 ^ 64 = (let g = greatest_small wide in omega (arith, g, same, fits)) in
    let least : nat_le (digits_value radix digits) (greatest wide) ≡ true =
    le-leb _ _ (subst (λ n. n ≤ greatest wide) same fits) in
    rw (no, front, back, small_enough radix digits small, least, ← same) refl

-- an item at the front, and what follows it
pub record HasItem (wide : Bool) (quote : ℕ) (bytes : List ℕ) (found : ℕ × List ℕ) : Type 0 where
  pub item : Item
  pub parts : bytes ≡ item_text item ++ found.1
  pub fits : IsItem wide quote item found.0
  pub ends : IsLongest item found.1

-- an octal escape that is read is an item
octal_sound : (wide : Bool) (quote : ℕ) (bytes : List ℕ) (found : ℕ × List ℕ)
    → digits_escape wide 8 (min 3 (prefix_len is_octal bytes)) bytes ≡ Some found
    → HasItem wide quote (92 ∷ bytes) found
octal_sound wide quote bytes found h =
    let n : ℕ = min 3 (prefix_len is_octal bytes) in
    let d = digits_escape_sound wide 8 (min 3 (prefix_len is_octal bytes)) bytes found h in
    let long : length (take n bytes) ≡ n =
    length-take-le n bytes (omega (arith, prefix_len-le-length is_octal bytes)) in
    record {
      item = Octal (take n bytes);
      parts = ap (λ t. 92 ∷ t) (sym (take-append-drop n bytes) ∙ ap (λ t. take n bytes ++ t) (sym d.after));
      fits = (
        omega (arith, long, d.some),
        omega (arith, long),
        run_part is_octal bytes n (omega arith),
        d.value,
        d.fits,
      );
      ends = λ (lt : length (take n bytes) < 3). (let e : n ≡ prefix_len is_octal bytes = omega (arith, long, lt) in
          ap (prefix_len is_octal) (d.after ∙ ap (λ k. drop k bytes) e) ∙ run_ends is_octal bytes);
    }

-- a hexadecimal escape that is read is an item
hex_sound : (wide : Bool) (quote : ℕ) (bytes : List ℕ) (found : ℕ × List ℕ)
    → digits_escape wide 16 (prefix_len is_ascii_hexdigit bytes) bytes ≡ Some found
    → HasItem wide quote (92 ∷ 120 ∷ bytes) found
hex_sound wide quote bytes found h =
    let n : ℕ = prefix_len is_ascii_hexdigit bytes in
    let d = digits_escape_sound wide 16 (prefix_len is_ascii_hexdigit bytes) bytes found h in
    let long : length (take n bytes) ≡ n = length-take-le n bytes (prefix_len-le-length is_ascii_hexdigit bytes) in
    record {
      item = Hexadecimal (take n bytes);
      parts = ap (λ t. 92 ∷ 120 ∷ t) (sym (take-append-drop n bytes) ∙ ap (λ t. take n bytes ++ t) (sym d.after));
      fits = (omega (arith, long, d.some), run_part is_ascii_hexdigit bytes n (omega arith), d.value, d.fits);
      ends = ap (prefix_len is_ascii_hexdigit) d.after ∙ run_ends is_ascii_hexdigit bytes;
    }

-- an escape of one letter that is read is an item
letter_sound : (wide : Bool) (quote byte : ℕ) (bytes : List ℕ) (value : Option ℕ) (found : ℕ × List ℕ)
    → value_at escapes byte ≡ value → option_map {U = ℕ × List ℕ} (λ x. (x, bytes)) value ≡ Some found
    → HasItem wide quote (92 ∷ byte ∷ bytes) found
letter_sound wide quote byte bytes None found at h = absurd (none-some _ h)
letter_sound wide quote byte bytes (Some value) found at h =
    let same : (value, bytes) ≡ found = cc in
    subst (HasItem wide quote (92 ∷ byte ∷ bytes)) same (record {
      item = Letter byte;
      parts = refl;
      fits =
          at;
      ends = tt;
    })

-- each escape that is read is an item
escape_sound : (wide : Bool) (quote : ℕ) (bytes : List ℕ) (found : ℕ × List ℕ) → escape_at wide bytes ≡ Some found
    → HasItem wide quote (92 ∷ bytes) found
unfolding escape_at
escape_sound wide quote [] found h = absurd (none-some _ h)
escape_sound wide quote (byte ∷ bytes) found h =
    elim (cond_cases (is_octal byte)
    (digits_escape wide 8 (min 3 (prefix_len is_octal (byte ∷ bytes))) (byte ∷ bytes))
    (cond (byte == 120) (digits_escape wide 16 (prefix_len is_ascii_hexdigit bytes) bytes)
    (option_map {U = ℕ × List ℕ} (λ x. (x, bytes)) (value_at escapes byte))) (Some found) h) [
      | inl a ↦ octal_sound wide quote (byte ∷ bytes) found a.1
      | inr a ↦ elim (cond_cases (byte == 120) (digits_escape wide 16 (prefix_len is_ascii_hexdigit bytes) bytes)
          (option_map {U = ℕ × List ℕ} (λ x. (x, bytes)) (value_at escapes byte)) (Some found) a.1) [
            | inl b ↦ subst (λ x. HasItem wide quote (92 ∷ x ∷ bytes) found) (sym (eqb-true byte 120 b.0))
                (hex_sound wide quote bytes found b.1)
            | inr b ↦ letter_sound wide quote byte bytes (value_at escapes byte) found refl b.1
          ]
    ]

-- in a wide form a byte that stands for itself is below 128
wide_small : (wide : Bool) (byte : ℕ) → (wide && nat_le 128 byte) ≡ false → wide ≡ true → byte < 128
wide_small true byte h is = (let no = leb-false 128 byte h in omega (arith, no))
wide_small false byte h is = absurd (false≢true is)

-- a byte that is read as itself is an item
plain_sound : (wide : Bool) (quote byte : ℕ) (bytes : List ℕ) (found : ℕ × List ℕ) → (byte == 92) ≡ false
    → is_plain wide quote byte ≡ true → (byte, bytes) ≡ found → HasItem wide quote (byte ∷ bytes) found
plain_sound wide quote byte bytes found other is same =
    let parts = or_parts (byte == quote || byte == 10) (wide && nat_le 128 byte)
    (not-true (byte == quote || byte == 10 || (wide && nat_le 128 byte)) is) in
    let two = or_parts (byte == quote) (byte == 10) parts.0 in
    subst (HasItem wide quote (byte ∷ bytes)) same
    (record {
      item = Plain byte;
      parts = refl;
      fits = (
        eqb-false byte quote two.0,
        eqb-false byte 92 other,
        eqb-false byte 10 two.1,
        wide_small wide byte parts.1,
        refl,
      );
      ends = tt;
    })

-- what is read at the front is an item, and ends there
pub item_sound : (wide : Bool) (quote : ℕ) (bytes : List ℕ) (found : ℕ × List ℕ)
    → item_at wide quote bytes ≡ Some found → HasItem wide quote bytes found
unfolding item_at
item_sound wide quote [] found h = absurd (none-some _ h)
item_sound wide quote (byte ∷ bytes) found h =
    elim (cond_cases (byte == 92) (escape_at wide bytes) (cond (is_plain wide quote byte) (Some (byte, bytes)) None)
    (Some found) h) [
      | inl a ↦ subst (λ x. HasItem wide quote (x ∷ bytes) found) (sym (eqb-true byte 92 a.0))
          (escape_sound wide quote bytes found a.1)
      | inr a ↦ elim (cond_cases (is_plain wide quote byte) (Some (byte, bytes)) None (Some found) a.1) [
        | inl b ↦ plain_sound wide quote byte bytes found a.0 b.0 (let e = b.1 in cc)
        | inr b ↦ absurd (none-some _ b.1)
      ]
    ]

-- one row of a table of bytes
at_row : (P : ℕ → ℕ → Type 0) (key byte value found : ℕ) (rest : Option ℕ) (b : Bool) → (key == byte) ≡ b
    → P key value → (rest ≡ Some found → P byte found) → cond b (Some value) rest ≡ Some found → P byte found
at_row P key byte value found rest true same p more h =
    let is : value ≡ found = cc in
    subst (P byte) is (subst (λ k. P k value) (eqb-true key byte same) p)
at_row P key byte value found rest false same p more h = more h

-- what holds of each row holds of what the table has
value_at_sound : (P : ℕ → ℕ → Type 0) (rows : List (ℕ × ℕ)) (byte found : ℕ)
    → AllByRecursion (λ row. P row.0 row.1) rows → value_at rows byte ≡ Some found → P byte found
value_at_sound P [] byte found all h = absurd (none-some _ h)
value_at_sound P (row ∷ rows) byte found all h =
    at_row P row.0 byte row.1 found (value_at rows byte) (row.0 == byte) refl all.0
    (value_at_sound P rows byte found all.1) h

-- no letter of an escape is an octal digit or an x
letter_apart : (byte value : ℕ) → value_at escapes byte ≡ Some value → (is_octal byte ≡ false) × ((byte == 120) ≡ false)
letter_apart byte value h =
    value_at_sound (λ b v. (is_octal b ≡ false) × ((b == 120) ≡ false)) escapes byte value (
      (refl, refl),
      (
        (refl, refl),
        (
          (refl, refl),
          (
            (refl, refl),
            (
              (refl, refl),
              ((refl, refl), ((refl, refl), ((refl, refl), ((refl, refl), ((refl, refl), ((refl, refl), tt)))))),
            ),
          ),
        ),
      ),
    ) h

-- the test of a byte that stands for itself
wide_false : (wide : Bool) (byte : ℕ) → (wide ≡ true → byte < 128) → (wide && nat_le 128 byte) ≡ false
wide_false true byte h = lt-leb 128 byte (h refl)
wide_false false byte h = refl

-- an octal escape has all the octal digits there, up to three
octal_count : (digits after : List ℕ) → length digits ≤ 3 → list_all is_octal digits ≡ true
    → (length digits < 3 → prefix_len is_octal after ≡ 0) → min 3 (prefix_len is_octal (digits ++ after))
    ≡ length digits
octal_count digits after few all ends =
    let least = run_least is_octal digits after all in
    elim (cases_lt (length digits) 3) [
      | inl short ↦ (let whole = run_whole is_octal digits after all (ends short) in omega (arith, whole, short))
      | inr long ↦ omega (arith, least, long, few)
    ]

-- each octal escape is read
octal_full : (wide : Bool) (digits after : List ℕ) (value : ℕ) → 0 < length digits → length digits ≤ 3
    → list_all is_octal digits ≡ true → value ≡ digits_value 8 digits → value ≤ greatest wide
    → (length digits < 3 → prefix_len is_octal after ≡ 0) → escape_at wide (digits ++ after) ≡ Some (value, after)
unfolding escape_at
octal_full wide [] after value some few all same fits ends = absurd (omega (arith, some))
octal_full wide (d ∷ ds) after value some few all same fits ends =
    let first : is_octal d ≡ true = (and_parts (is_octal d) (list_all is_octal ds) all).0 in
    cond-true (is_octal d) _ _ first
    ∙ digits_escape_full wide 8 (min 3 (prefix_len is_octal (d ∷ (ds ++ after)))) (d ∷ ds) after value
    (octal_count (d ∷ ds) after few all ends) some same fits

-- each hexadecimal escape is read
hex_full : (wide : Bool) (digits after : List ℕ) (value : ℕ) → 0 < length digits
    → list_all is_ascii_hexdigit digits ≡ true → value ≡ digits_value 16 digits → value ≤ greatest wide
    → prefix_len is_ascii_hexdigit after ≡ 0 → escape_at wide (120 ∷ (digits ++ after)) ≡ Some (value, after)
unfolding escape_at
hex_full wide digits after value some all same fits ends =
    digits_escape_full wide 16 (prefix_len is_ascii_hexdigit (digits ++ after)) digits after value
    (run_whole is_ascii_hexdigit digits after all ends) some same fits

-- each escape of one letter is read
letter_full : (wide : Bool) (byte value : ℕ) (after : List ℕ) → value_at escapes byte ≡ Some value
    → escape_at wide (byte ∷ after) ≡ Some (value, after)
unfolding escape_at
letter_full wide byte value after h =
    let apart = letter_apart byte value h in
    rw (apart.0, apart.1, h) refl

-- each byte that stands for itself is read
plain_full : (wide : Bool) (quote byte : ℕ) (after : List ℕ) → (byte ≡ quote → ⊥) → (byte ≡ 92 → ⊥)
    → (byte ≡ 10 → ⊥) → (wide ≡ true → byte < 128) → item_at wide quote (byte ∷ after) ≡ Some (byte, after)
unfolding item_at
plain_full wide quote byte after not_quote not_backslash not_feed small =
    rw (
      ne_eqb byte 92 not_backslash,
      ne_eqb byte quote not_quote,
      ne_eqb byte 10 not_feed,
      wide_false wide byte small,
    ) refl

-- each item is read, where it ends
pub item_full : (wide : Bool) (quote : ℕ) (item : Item) (value : ℕ) (after : List ℕ) → IsItem wide quote item value
    → IsLongest item after → item_at wide quote (item_text item ++ after) ≡ Some (value, after)
unfolding item_at
item_full wide quote (Plain byte) value after fits ends =
    plain_full wide quote byte after fits.0 fits.1 fits.2 fits.3 ∙ ap (λ v. Some (v, after)) (sym fits.4)
item_full wide quote (Letter byte) value after fits ends = letter_full wide byte value after fits
item_full wide quote (Octal digits) value after fits ends =
    octal_full wide digits after value fits.0 fits.1 fits.2 fits.3 fits.4 ends
item_full wide quote (Hexadecimal digits) value after fits ends =
    hex_full wide digits after value fits.0 fits.1 fits.2 fits.3 ends
