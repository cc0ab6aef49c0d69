-- How the first file of a name is found.
use Rattle.std.proofs.Common.{◌≡◌, ℕ, ◌+◌, ◌<◌, ◌≤◌, List, length, drop, get_or, Bool, true, false, Some, None, refl}
use Rattle.std.proofs.Common.{String, Vec, string_bytes, if◌then◌else◌, sym, ◌∙◌, ap}
use Rattle.std.proofs.lemmas.List.{drop_more, drop_all}
use Rattle.std.proofs.lemmas.Option.{slice_get_read}
use Rattle.std.specs.Str.{bytes_eq}
use Rattle.acc_io.specs.declared.place.Place.{Place}
use Rattle.acc_io.specs.Held.{file_of}
use Rattle.acc_io.specs.Files.{files_of, left_of}

-- the first file of a name from index i on: the one at i, or else one behind it
file_of-drop : {Y Z : Type 0} (files : List (String Y × Vec ℕ Z)) (name : List ℕ) (i : ℕ) (item : String Y × Vec ℕ Z)
    → i < length files → item ≡ get_or files i item
    → file_of (files_of (drop i files)) name
    ≡ (if bytes_eq (string_bytes item.0) name then Some item.1.items
    else file_of (files_of (drop (i + 1) files)) name)
file_of-drop {Y} {Z} files name i item below is =
    rw (drop_more files i item below)
    (ap (λ (it : String Y × Vec ℕ Z). if bytes_eq (string_bytes it.0) name then Some it.1.items
    else file_of (files_of (drop (i + 1) files)) name) (sym is))

-- a file of another name is passed by
pub file_of-pass : {Y Z : Type 0} (files : List (String Y × Vec ℕ Z)) (name : List ℕ) (i : ℕ)
    (item : String Y × Vec ℕ Z)
    → i < length files → item ≡ get_or files i item → bytes_eq (string_bytes item.0) name ≡ false
    → file_of (files_of (drop i files)) name ≡ file_of (files_of (drop (i + 1) files)) name
file_of-pass files name i item below is other =
    file_of-drop files name i item below is
    ∙ ap (λ (b : Bool). if b then Some item.1.items else file_of (files_of (drop (i + 1) files)) name) other

-- a file of this name is the one
pub file_of-here : {Y Z : Type 0} (files : List (String Y × Vec ℕ Z)) (name : List ℕ) (i : ℕ)
    (item : String Y × Vec ℕ Z) (place : Place)
    → i < length files → item ≡ get_or files i item → bytes_eq (string_bytes item.0) name ≡ true
    → place ≡ record { file = i; at = 0 }
    → file_of (files_of (drop i files)) name ≡ Some (left_of files (Some place))
file_of-here files name i item place below is same at =
    rw (at, slice_get_read files (length files) i item refl below is)
    (file_of-drop files name i item below is
    ∙ ap (λ (b : Bool). if b then Some item.1.items else file_of (files_of (drop (i + 1) files)) name) same)

-- behind the last file there is none
pub file_of-end : {Y Z : Type 0} (files : List (String Y × Vec ℕ Z)) (name : List ℕ) (i : ℕ) → length files ≤ i
    → file_of (files_of (drop i files)) name ≡ None
file_of-end files name i past = rw (drop_all i files past) refl
