-- The directive lines that are taken, from their `#` on (6.10). None has an effect.
use Rattle.std.specs.Prelude.{◌≡◌, ◌≢◌, ◌⊎◌, ℕ, ◌<◌, ◌||◌, Bool, true, false, List, [], ◌∷◌, ◌++◌, codes, length}
use Rattle.std.specs.Prelude.{slice_index}
use Rattle.std.specs.List.{list_all, list_any, prefix_len, flat_map}
use Rattle.std.specs.Str.{bytes_eq}
use Rattle.std.specs.Char.{is_ascii_digit}
use Rattle.c_lexer.specs.declared.bytes.Class.TheVariants.{Line}
use Rattle.c_lexer.specs.Bytes.{is_blank, is_word_byte}
use Rattle.c_lexer.specs.Classes.{is_in}
use Rattle.c_lexer.specs.Comments.{IsBlockComment, IsQuoted, IsInner, NoClose}

-- spaces and tabs
abbrev pub IsBlank : List ℕ → Type 0
IsBlank text = list_all is_blank text ≡ true

-- the headers whose names may be included (7.1.2)
abbrev pub headers : List (List ℕ)
headers =
    codes "<stddef.h>" ∷ codes "<stdint.h>" ∷ codes "<stdbool.h>" ∷ codes "<limits.h>"
    ∷ codes "<stdlib.h>" ∷ codes "<string.h>"
    ∷ codes "<wchar.h>" ∷ codes "<stdio.h>" ∷ codes "<errno.h>" ∷ []

-- one of them
unfoldable pub is_header : List ℕ → Bool
is_header text = list_any (λ header. bytes_eq header text) headers

-- `include <stddef.h>` and its like
pub record IsInclude (text : List ℕ) : Type 0 where
  pub before : List ℕ
  pub header : List ℕ
  pub last : List ℕ
  pub parts : text ≡ codes "include" ++ (before ++ (header ++ last))
  pub known : is_header header ≡ true
  pub blanks : IsBlank before × IsBlank last

-- `define __STDC_WANT_LIB_EXT1__ 1`
pub record IsDefine (text : List ℕ) : Type 0 where
  pub before : List ℕ
  pub between : List ℕ
  pub last : List ℕ
  pub parts : text ≡ codes "define" ++ (before ++ (codes "__STDC_WANT_LIB_EXT1__" ++ (between ++ (codes "1" ++ last))))
  pub blanks : IsBlank before × IsBlank between × IsBlank last
  pub apart : (0 < length before) × (0 < length between)

-- `12 "file"`, and decimal numbers behind that
pub record IsMarker (text : List ℕ) : Type 0 where
  pub number : List ℕ
  pub between : List ℕ
  pub file : List ℕ
  pub last : List ℕ
  pub parts : text ≡ number ++ (between ++ (34 ∷ (file ++ (34 ∷ last))))
  pub blank : IsBlank between
  pub some : 0 < length number
  pub digits : list_all is_ascii_digit number ≡ true
  pub name : IsInner 34 false file
  pub numbers : list_all (λ byte. is_blank byte || is_ascii_digit byte) last ≡ true

-- one byte that begins no comment and no text between quotes
pub record IsSingle (text after : List ℕ) : Type 0 where
  pub byte : ℕ
  pub parts : text ≡ byte ∷ []
  pub no_quote : (byte ≢ 34) × (byte ≢ 39)
  pub no_comment : byte ≡ 47 → (slice_index after 0 ≢ 47) × (slice_index after 0 ≢ 42)

-- each piece is a comment, a text between quotes, or a byte that begins neither
abbrev pub ArePieces : List (List ℕ) → List ℕ → Type 0
ArePieces [] after = Unit {0}
ArePieces (piece ∷ pieces) after =
    (IsBlockComment piece ⊎ IsQuoted piece ⊎ IsSingle piece (flat_map (λ p. p) pieces ++ after))
    × ArePieces pieces after

-- a comment begins in the bytes and goes on behind them
pub record GoesOn (bytes : List ℕ) : Type 0 where
  pub pieces : List (List ℕ)
  pub after : List ℕ
  pub parts : bytes ≡ flat_map (λ p. p) pieces ++ (codes "/*" ++ after)
  pub each : ArePieces pieces (codes "/*" ++ after)
  pub open_end : NoClose after

-- `pragma` and anything
pub record IsPragma (text : List ℕ) : Type 0 where
  pub rest : List ℕ
  pub parts : text ≡ codes "pragma" ++ rest
  pub word : prefix_len is_word_byte rest ≡ 0
  pub line_only : list_all (is_in Line) rest ≡ true
  pub within : GoesOn rest → ⊥

-- what may follow `#` and blanks
abbrev pub IsShape : List ℕ → Type 0
IsShape text = IsInclude text ⊎ IsDefine text ⊎ IsMarker text ⊎ IsPragma text

-- `#`, spaces and tabs, and one of the four shapes
pub record IsDirective (line : List ℕ) : Type 0 where
  pub before : List ℕ
  pub text : List ℕ
  pub parts : line ≡ codes "#" ++ (before ++ text)
  pub blank : IsBlank before
  pub shape : IsShape text
