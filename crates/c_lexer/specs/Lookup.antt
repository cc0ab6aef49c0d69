-- A table of texts.
use Rattle.std.specs.Prelude.{ℕ, List, [], ◌∷◌, Option, Some, None, if◌then◌else◌}
use Rattle.std.specs.Str.{bytes_eq}

-- what the table has for this text, in the first row for it
abbrev pub lookup : {A : Type 0} → List (List ℕ × A) → List ℕ → Option A
lookup [] text = None
lookup (row ∷ rows) text = if bytes_eq row.0 text then Some row.1 else lookup rows text
