-- Files by name as the code holds them, as contracts see them, and the place in the selected one.
use Rattle.std.specs.Prelude.{ℕ, ◌≤◌, List, [], ◌∷◌, length, drop, Option, Some, None, slice_get, string_bytes}
use Rattle.std.specs.Prelude.{String, Vec, IsSomeAnd}
use Rattle.std.specs.Option.{option_map_or}
use Rattle.acc_io.specs.Held.{File}
use Rattle.acc_io.specs.declared.place.Place.{Place}

-- the files as contracts see them
abbrev pub files_of : {Y Z : Type 0} → List (String Y × Vec ℕ Z) → List File
files_of [] = []
files_of (file ∷ files) = record { name = string_bytes file.0; bytes = file.1.items } ∷ files_of files

-- what is left of the selected file
abbrev pub left_of : {Y Z : Type 0} → List (String Y × Vec ℕ Z) → Option Place → List ℕ
left_of files None = []
left_of files (Some place) = option_map_or (λ file. drop place.at file.1.items) (slice_get files place.file) []

-- The place lies in a file, or at its end.
abbrev pub IsPlaceIn : {Y Z : Type 0} → List (String Y × Vec ℕ Z) → Option Place → Type 0
IsPlaceIn files None = Unit {0}
IsPlaceIn files (Some place) = IsSomeAnd (slice_get files place.file) (λ file. place.at ≤ length file.1.items)
