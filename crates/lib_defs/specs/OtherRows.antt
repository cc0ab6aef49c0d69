-- The rows of error texts and of wide characters (K.3.7.4.2, K.3.7.4.3, K.3.6.4.1).
use Rattle.std.specs.Prelude.{ℕ, ◌-◌, ◌==◌, ◌&&◌, nat_lt, Bool, false, not, List, [], ◌∷◌, ◌++◌, length, map}
use Rattle.std.specs.Prelude.{take, Some, None, ℤ, pos, negsuc, codes, if◌then◌else◌}
use Rattle.object_store.specs.declared.by.By.TheVariants.{TextWrite, OtherWrite}
use Rattle.object_store.specs.declared.pointer.Pointer.{Pointer}
use Rattle.object_store.specs.Load.{number_bytes}
use Rattle.lib_defs.specs.declared.value.Value.TheVariants.{Num}
use Rattle.lib_defs.specs.Units.{byte_number, wide_number}
use Rattle.lib_defs.specs.Reply.{Patch}
use Rattle.lib_defs.specs.Constraints.{Sure, N, M, Z, L, W}
use Rattle.lib_defs.specs.Columns.{is_null, above}
use Rattle.lib_defs.specs.Rules.{Rule, done_with, reach_then, errno_value}

-- the text of an error number
abbrev pub number_text : ℕ → List ℕ
number_text n =
    if n == 0 then codes "No error" else
    if n == 22 then codes "Invalid argument" else
    if n == 34 then codes "Result out of range" else
    if n == 84 then codes "Invalid wide character" else codes "Unknown error"

abbrev pub error_text : ℤ → List ℕ
error_text (pos n) = number_text n
error_text (negsuc n) = codes "Unknown error"

-- the first characters of a text, one less than max, the last three as dots where max is above 3
abbrev pub shorten : List ℕ → ℕ → List ℕ
shorten text max = if nat_lt 3 max then take (max - 4) text ++ codes "..." else take (max - 1) text

abbrev pub fits_within : List ℕ → ℕ → Bool
fits_within text max = nat_lt (length text) max

abbrev pub text_within : List ℕ → ℕ → List ℕ
text_within text max = (if fits_within text max then text else shorten text max) ++ 0 ∷ []

-- strerror_s: the text with its null is one store
abbrev pub error_text_row : Pointer → ℕ → ℤ → Rule
error_text_row p max errnum = record {
  width = 1;
  constraints =
      N (Sure (is_null p))
      ∷ M (Sure (above max))
      ∷ Z (Sure (max == 0))
      ∷ [];
  action = None;
  failure = errno_value;
  success = λ s.
      reach_then s p (length (text_within (error_text errnum) max)) 1 TextWrite
      (done_with
      (record { place = p; bytes = map Some (text_within (error_text errnum) max) } ∷ [])
      (Num (if fits_within (error_text errnum) max then pos 0 else pos 34)));
}

-- strerrorlen_s
abbrev pub error_length_row : ℤ → Rule
error_length_row errnum = record {
  width = 1;
  constraints = [];
  action = None;
  failure = errno_value;
  success = λ s. done_with [] (Num (pos (length (error_text errnum))));
}

-- the wide characters that have a multibyte character: one byte
abbrev pub has_byte : ℤ → Bool
has_byte (pos n) = nat_lt n 256
has_byte (negsuc n) = false

-- an int at a place
abbrev pub int_patch : Pointer → ℤ → Patch
int_patch p n = record { place = p; bytes = map Some (number_bytes 4 (wide_number n)) }

-- wctomb_s
abbrev pub wide_char_row : (status p : Pointer) → ℕ → ℤ → Rule
wide_char_row status p max wc = record {
  width = 1;
  constraints =
      L (Sure (not (is_null p) && (has_byte wc && nat_lt max 1)))
      ∷ M (Sure (not (is_null p) && above max))
      ∷ W (Sure (is_null p && not (max == 0)))
      ∷ [];
  action = None;
  failure = errno_value;
  success = λ s.
      if is_null p then
      reach_then s status 4 4 OtherWrite (done_with (int_patch status (pos 0) ∷ []) (Num (pos 0))) else
      if not (has_byte wc) then
      reach_then s status 4 4 OtherWrite (done_with (int_patch status (negsuc 0) ∷ []) (Num (pos 84))) else
      reach_then s p 1 1 OtherWrite
      (reach_then s status 4 4 OtherWrite
      (done_with
      (record { place = p; bytes = Some (byte_number wc) ∷ [] } ∷ int_patch status (pos 1) ∷ [])
      (Num (pos 0))));
}
