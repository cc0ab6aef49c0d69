-- Comments (6.4.9), and texts between quotes.
use Rattle.std.specs.Prelude.{◌≡◌, ◌≢◌, ◌⊎◌, ℕ, ◌==◌, Bool, true, false, List, [], ◌∷◌, ◌++◌, codes}
use Rattle.std.specs.List.{list_all}
use Rattle.c_lexer.specs.declared.bytes.Class.TheVariants.{Line}
use Rattle.c_lexer.specs.Classes.{is_in}

-- no comment is closed in these bytes: 42 and 47 are `*` and `/`
abbrev pub NoClose : List ℕ → Type 0
NoClose bytes = (before after : List ℕ) → bytes ≡ before ++ (42 ∷ 47 ∷ after) → ⊥

-- a comment up to the first `*/`, which may share no byte with the `/*`
pub record IsBlockComment (text : List ℕ) : Type 0 where
  pub body : List ℕ
  pub parts : text ≡ codes "/*" ++ (body ++ codes "*/")
  pub first : NoClose (body ++ codes "*")

-- a comment that its line ends
pub record IsLineComment (text : List ℕ) : Type 0 where
  pub body : List ℕ
  pub parts : text ≡ codes "//" ++ body
  pub line : list_all (is_in Line) body ≡ true

-- what may stand between two of these quotes: a backslash (92) hides the byte behind it, and the line doesn't end
abbrev pub IsInner : ℕ → Bool → List ℕ → Type 0
IsInner quote hidden [] = hidden ≡ false
IsInner quote true (byte ∷ bytes) = (byte ≢ 10) × IsInner quote false bytes
IsInner quote false (byte ∷ bytes) = (byte ≢ 10) × (byte ≢ quote) × IsInner quote (byte == 92) bytes

-- bytes between quotes: 34 and 39 are the double and the single quote
pub record IsQuoted (text : List ℕ) : Type 0 where
  pub quote : ℕ
  pub inner : List ℕ
  pub kind : (quote ≡ 34) ⊎ (quote ≡ 39)
  pub parts : text ≡ quote ∷ (inner ++ (quote ∷ []))
  pub inside : IsInner quote false inner
