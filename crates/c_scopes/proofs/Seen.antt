-- Scopes of ids and of the types that they stand for: looking up, binding and leaving are the same of both.
use Rattle.std.proofs.Common.{◌≡◌, ◌∙◌, ℕ, Bool, true, false, cond, List, [], ◌∷◌, map, drop, Option, Some, None, refl}
use Rattle.std.proofs.Common.{ap}
use Rattle.std.specs.Prelude.{option_map}
use Rattle.std.specs.Cmp.Lexicographic.{slice_cmp}
use Rattle.std.specs.Map.{lookup}
use Rattle.std.specs.Ordering.{nat_cmp, match_ordering}
use Rattle.std.specs.declared.cmp.Ordering.{Ordering}
use Rattle.std.specs.declared.cmp.Ordering.TheVariants.{Less, Equal, Greater}
use Rattle.std.specs.Str.{bytes_eq}
use Rattle.c_types.specs.Types.{Types}
use Rattle.c_scopes.specs.declared.binding.Binding.{Binding}
use Rattle.c_scopes.specs.Scopes.{Names, Scope, here_in, entry_in, bound_in, or_else, found, found_here, bound}
use Rattle.c_scopes.specs.Named.{Named, named_of}
use Rattle.c_scopes.specs.Env.{entries_of, names_of, BindingIn, EntriesIn, ScopesIn}

module _ (types : Types) where
  lookup_seen : (test : List ℕ → Bool) (entries : List (List ℕ × Binding))
      → lookup test (entries_of types entries) ≡ option_map (named_of types) (lookup test entries)
  lookup_seen test [] = refl
  lookup_seen test (entry ∷ entries) = at (test entry.0) (lookup_seen test entries)
    where
      at : (here : Bool) → lookup test (entries_of types entries) ≡ option_map (named_of types) (lookup test entries)
          → cond here (Some (named_of types entry.1)) (lookup test (entries_of types entries))
          ≡ option_map (named_of types) (cond here (Some entry.1) (lookup test entries))
      at true rest = refl
      at false rest = rest

  here_seen : (scope : Scope) (tag : Bool) (name : List ℕ)
      → here_in (names_of types scope) tag name ≡ option_map (named_of types) (here_in scope tag name)
  here_seen scope true name = lookup_seen (bytes_eq name) scope.tags
  here_seen scope false name = lookup_seen (bytes_eq name) scope.names

  or_else_seen : (first other : Option Binding) → or_else (option_map (named_of types) first)
      (option_map (named_of types) other) ≡ option_map (named_of types) (or_else first other)
  or_else_seen (Some x) other = refl
  or_else_seen None other = refl

  pub found_seen : (scopes : List Scope) (tag : Bool) (name : List ℕ)
      → found (map (names_of types) scopes) tag name ≡ option_map (named_of types) (found scopes tag name)
  found_seen [] tag name = refl
  found_seen (scope ∷ scopes) tag name =
      (λ i. or_else (here_seen scope tag name i) (found_seen scopes tag name i)) ∙ or_else_seen _ _

  pub found_here_seen : (scopes : List Scope) (tag : Bool) (name : List ℕ)
      → found_here (map (names_of types) scopes) tag name ≡ option_map (named_of types) (found_here scopes tag name)
  found_here_seen [] tag name = refl
  found_here_seen (scope ∷ scopes) tag name = here_seen scope tag name

  entry_seen : (entries : List (List ℕ × Binding)) (name : List ℕ) (binding : Binding)
      → entries_of types (entry_in entries name binding)
      ≡ entry_in (entries_of types entries) name (named_of types binding)
  entry_seen [] name binding = refl
  entry_seen (entry ∷ entries) name binding =
      at (slice_cmp nat_cmp name entry.0) (entry_seen entries name binding)
    where
      at : (order : Ordering) → entries_of types (entry_in entries name binding)
          ≡ entry_in (entries_of types entries) name (named_of types binding)
          → entries_of types (match_ordering order ((name, binding) ∷ entry ∷ entries) ((entry.0, binding) ∷ entries)
          (entry ∷ entry_in entries name binding))
          ≡ match_ordering order ((name, named_of types binding) ∷ entries_of types (entry ∷ entries))
          ((entry.0, named_of types binding) ∷ entries_of types entries)
          ((entry.0, named_of types entry.1) ∷ entry_in (entries_of types entries) name (named_of types binding))
      at Less rest = refl
      at Equal rest = refl
      at Greater rest = ap (λ more. (entry.0, named_of types entry.1) ∷ more) rest

  pub bound_seen : (scopes : List Scope) (tag : Bool) (name : List ℕ) (binding : Binding)
      → map (names_of types) (bound scopes tag name binding)
      ≡ bound (map (names_of types) scopes) tag name (named_of types binding)
  bound_seen [] tag name binding = refl
  bound_seen (scope ∷ scopes) true name binding = λ i.
      record { names = entries_of types scope.names; tags = entry_seen scope.tags name binding i }
      ∷ map (names_of types) scopes
  bound_seen (scope ∷ scopes) false name binding = λ i.
      record { names = entry_seen scope.names name binding i; tags = entries_of types scope.tags }
      ∷ map (names_of types) scopes

  pub left_seen : (scopes : List Scope) → map (names_of types) (drop 1 scopes) ≡ drop 1 (map (names_of types) scopes)
  left_seen [] = refl
  left_seen (scope ∷ scopes) = refl

  -- ---- that ids are the table's

  abbrev OptionIn : Option Binding → Type 0
  OptionIn (Some binding) = BindingIn types binding
  OptionIn None = Unit {0}

  lookup_in : (test : List ℕ → Bool) (entries : List (List ℕ × Binding)) → EntriesIn types entries
      → OptionIn (lookup test entries)
  lookup_in test [] h = tt
  lookup_in test (entry ∷ entries) h = at (test entry.0) (lookup_in test entries h.1)
    where
      at : (here : Bool) → OptionIn (lookup test entries) → OptionIn (cond here (Some entry.1) (lookup test entries))
      at true rest = h.0
      at false rest = rest

  in_scope : (scope : Scope) (tag : Bool) (name : List ℕ) → EntriesIn types scope.names → EntriesIn types scope.tags
      → OptionIn (here_in scope tag name)
  in_scope scope true name h g = lookup_in (bytes_eq name) scope.tags g
  in_scope scope false name h g = lookup_in (bytes_eq name) scope.names h

  either_in : (first other : Option Binding) → OptionIn first → OptionIn other → OptionIn (or_else first other)
  either_in (Some x) other h g = h
  either_in None other h g = g

  in_scopes : (scopes : List Scope) (tag : Bool) (name : List ℕ) → ScopesIn types scopes
      → OptionIn (found scopes tag name)
  in_scopes [] tag name h = tt
  in_scopes (scope ∷ scopes) tag name h =
      either_in _ _ (in_scope scope tag name h.0 h.1) (in_scopes scopes tag name h.2)

  in_inner : (scopes : List Scope) (tag : Bool) (name : List ℕ) → ScopesIn types scopes
      → OptionIn (found_here scopes tag name)
  in_inner [] tag name h = tt
  in_inner (scope ∷ scopes) tag name h = in_scope scope tag name h.0 h.1

  pub found_in : (scopes : List Scope) (tag : Bool) (name : List ℕ) (binding : Binding) → ScopesIn types scopes
      → found scopes tag name ≡ Some binding → BindingIn types binding
  found_in scopes tag name binding h e = rw e at (in_scopes scopes tag name h)

  pub found_in_here : (scopes : List Scope) (tag : Bool) (name : List ℕ) (binding : Binding) → ScopesIn types scopes
      → found_here scopes tag name ≡ Some binding → BindingIn types binding
  found_in_here scopes tag name binding h e = rw e at (in_inner scopes tag name h)

  entry_stays_in : (entries : List (List ℕ × Binding)) (name : List ℕ) (binding : Binding) → EntriesIn types entries
      → BindingIn types binding → EntriesIn types (entry_in entries name binding)
  entry_stays_in [] name binding h g = (g, tt)
  entry_stays_in (entry ∷ entries) name binding h g =
      at (slice_cmp nat_cmp name entry.0) (entry_stays_in entries name binding h.1 g)
    where
      at : (order : Ordering) → EntriesIn types (entry_in entries name binding)
          → EntriesIn types (match_ordering order ((name, binding) ∷ entry ∷ entries) ((entry.0, binding) ∷ entries)
          (entry ∷ entry_in entries name binding))
      at Less rest = (g, h)
      at Equal rest = (g, h.1)
      at Greater rest = (h.0, rest)

  pub bound_in_table : (scopes : List Scope) (tag : Bool) (name : List ℕ) (binding : Binding) → ScopesIn types scopes
      → BindingIn types binding → ScopesIn types (bound scopes tag name binding)
  bound_in_table [] tag name binding h g = tt
  bound_in_table (scope ∷ scopes) true name binding h g = (h.0, entry_stays_in scope.tags name binding h.1 g, h.2)
  bound_in_table (scope ∷ scopes) false name binding h g = (entry_stays_in scope.names name binding h.0 g, h.1, h.2)

  pub left_in : (scopes : List Scope) → ScopesIn types scopes → ScopesIn types (drop 1 scopes)
  left_in [] h = tt
  left_in (scope ∷ scopes) h = h.2
