-- What a shelf tells: the files that it holds, and what is left of the selected one.
use Rattle.std.specs.Prelude.{◌≡◌, ℕ, List, [], ◌∷◌, ◌++◌, Option, Some, None, if◌then◌else◌}
use Rattle.std.specs.Option.{option_map}
use Rattle.std.specs.Str.{bytes_eq}

pub record File : Type 0 where
  pub name : List ℕ
  pub bytes : List ℕ

-- left: the bytes of the selected file that were not read yet; none where no file is selected
pub record Held : Type 0 where
  pub files : List File
  pub left : List ℕ

-- the first file of a name
abbrev pub file_of : List File → List ℕ → Option (List ℕ)
file_of [] name = None
file_of (file ∷ files) name = if bytes_eq file.name name then Some file.bytes else file_of files name

-- The file of that name is held, and is selected from its first byte.
abbrev pub Selects : Option Held → Option Held → List ℕ → Type 0
Selects None now name = now ≡ None
Selects (Some held) now name =
    (bytes : List ℕ) × (file_of held.files name ≡ Some bytes)
    × (now ≡ Some (record { files = held.files; left = bytes }))

-- no file is selected
abbrev pub deselect : Held → Held
deselect held = record { files = held.files; left = [] }

-- What was left of the selected file before is these bytes and what is left now. The files stay.
abbrev pub Reads : Option Held → Option Held → List ℕ → Type 0
Reads before now bytes = before ≡ option_map (λ held. record { files = held.files; left = bytes ++ held.left }) now
