-- Scopes as lists of bindings, the innermost first (6.2.1p4), with two name spaces: tags, and all other names (6.2.3).
use Rattle.std.specs.Prelude.{ℕ, Bool, true, false, cond, List, [], ◌∷◌, Option, Some, None}
use Rattle.std.specs.BTreeMap.{insert_entry}
use Rattle.std.specs.Cmp.Lexicographic.{slice_cmp}
use Rattle.std.specs.Map.{lookup}
use Rattle.std.specs.Ordering.{nat_cmp}
use Rattle.std.specs.Str.{bytes_eq}
use Rattle.c_scopes.specs.declared.binding.Binding.{Binding}
use Rattle.c_scopes.specs.declared.binding.Binding.TheVariants as b

abbrev pub is_tag : Binding → Bool
is_tag (b.Tag of state) = true
is_tag other = false

-- one scope: what its names stand for, and its tags, each by the order of the names' bytes
pub record Names (B : Type 0) : Type 0 where
  pub names : List (List ℕ × B)
  pub tags : List (List ℕ × B)

-- a scope of the program
abbrev pub Scope : Type 0
Scope = Names Binding

module _ {B : Type 0} where
  abbrev pub no_names : Names B
  no_names = record { names = []; tags = [] }

  -- the binding of a name in a name space of one scope
  abbrev pub here_in : Names B → Bool → List ℕ → Option B
  here_in scope tag name = lookup (bytes_eq name) (cond tag scope.tags scope.names)

  -- the bindings with one of a name, in place of one that the name has there
  abbrev pub entry_in : List (List ℕ × B) → List ℕ → B → List (List ℕ × B)
  entry_in entries name binding = insert_entry (slice_cmp nat_cmp) entries name binding

  -- a scope with a binding of a name
  abbrev pub bound_in : Names B → Bool → List ℕ → B → Names B
  bound_in scope true name binding = record { names = scope.names; tags = entry_in scope.tags name binding }
  bound_in scope false name binding = record { names = entry_in scope.names name binding; tags = scope.tags }

  abbrev pub or_else : Option B → Option B → Option B
  or_else (Some x) other = Some x
  or_else None other = other

  -- the innermost binding of a name
  abbrev pub found : List (Names B) → Bool → List ℕ → Option B
  found [] tag name = None
  found (scope ∷ outer) tag name = or_else (here_in scope tag name) (found outer tag name)

  -- the binding in the innermost scope alone
  abbrev pub found_here : List (Names B) → Bool → List ℕ → Option B
  found_here [] tag name = None
  found_here (scope ∷ outer) tag name = here_in scope tag name

  -- the scopes with a binding in the innermost one
  abbrev pub bound : List (Names B) → Bool → List ℕ → B → List (Names B)
  bound [] tag name binding = []
  bound (scope ∷ outer) tag name binding = bound_in scope tag name binding ∷ outer
