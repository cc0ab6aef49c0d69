-- How the program keeps a scope: what it knows of each name, and what each declaration hid.
use Rattle.std.specs.Prelude.{◌≡◌, ℕ, Bool, cond, List, [], ◌∷◌, Option, Some, None}
use Rattle.std.specs.BTreeMap.{BTreeMap, get}
use Rattle.std.specs.Cmp.Lexicographic.{slice_cmp}
use Rattle.std.specs.Ordering.{nat_cmp}
use Rattle.std.specs.Str.{bytes_eq}
use Rattle.c_parser.specs.declared.scope.Entry.{Entry}

-- of a declared name, whether its innermost declaration makes it a type
abbrev pub Known : Type 0
Known = List ℕ → Option Bool

abbrev pub none_known : Known
none_known x = None

abbrev pub known_behind : Known → Entry → Known
known_behind before entry x = cond (bytes_eq entry.name x) (Some entry.names_type) (before x)

abbrev pub known_from : Known → List Entry → Known
known_from before [] = before
known_from before (first ∷ rest) = known_from (known_behind before first) rest

-- each entry has what was known of its name before it
abbrev pub Hides : Known → List Entry → Type 0
Hides before [] = Unit {0}
Hides before (first ∷ rest) = (first.hidden ≡ before first.name) × Hides (known_behind before first) rest

-- the map has what is known behind all the entries
pub record IsKept (entries : List Entry) (names : BTreeMap (List ℕ) Bool) : Type 0 where
  pub known : (x : List ℕ) → get (slice_cmp nat_cmp) names x ≡ known_from none_known entries x
  pub hidden : Hides none_known entries
