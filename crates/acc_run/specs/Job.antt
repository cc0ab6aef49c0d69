-- What the words of a command line ask for.
use Rattle.std.specs.Prelude.{ℕ, ◌==◌, ◌&&◌, not, nat_lt, Bool, List, [], ◌∷◌, length, slice_index, Option, Some}
use Rattle.std.specs.Prelude.{None, codes, if◌then◌else◌}
use Rattle.std.specs.Str.{bytes_eq}

-- a command with what it needs
pub data Job : Type 0 where
  -- runs the unit in this file
  Run : (file : List ℕ) → Job
  -- writes the table of cases and codes
  Table : Job

-- a word that is no file's name: it begins with `-`, and is longer than that
abbrev pub is_option : List ℕ → Bool
is_option word = slice_index word 0 == 45 && nat_lt 1 (length word)

-- The job of the words, the program's name among them, if they make one.
abbrev pub job_of : List (List ℕ) → Option Job
job_of (program ∷ command ∷ []) = if bytes_eq command (codes "table") then Some Table else None
job_of (program ∷ command ∷ file ∷ []) = if bytes_eq command (codes "run") && not (is_option file)
    then Some (Run file) else None
job_of words = None
