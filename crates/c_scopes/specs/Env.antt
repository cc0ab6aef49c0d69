-- What the typing rules see of scopes and of a table of types: types are trees, and nothing is an id.
use Rattle.std.specs.Prelude.{ℕ, ◌<◌, List, [], ◌∷◌, map}
use Rattle.c_types.specs.declared.shape.TypeId.{TypeId}
use Rattle.c_types.specs.Structures.{Structure, structures_of}
use Rattle.c_types.specs.Types.{Types, count_of}
use Rattle.c_scopes.specs.declared.binding.Binding.{Binding}
use Rattle.c_scopes.specs.declared.binding.Binding.TheVariants as b
use Rattle.c_scopes.specs.Scopes.{Names, Scope}
use Rattle.c_scopes.specs.Named.{Named, named_of}

-- the scopes, the innermost first; the structures and unions by number; and how many enumerated types there are
pub record Env : Type 0 where
  pub scopes : List (Names Named)
  pub structures : List Structure
  pub enumerations : ℕ

-- ---- what the program holds

abbrev pub entries_of : Types → List (List ℕ × Binding) → List (List ℕ × Named)
entries_of types [] = []
entries_of types (entry ∷ entries) = (entry.0, named_of types entry.1) ∷ entries_of types entries

abbrev pub names_of : Types → Scope → Names Named
names_of types scope = record { names = entries_of types scope.names; tags = entries_of types scope.tags }

abbrev pub env_of : List Scope → Types → Env
env_of scopes types = record {
  scopes = map (names_of types) scopes;
  structures = structures_of types;
  enumerations = types.enumerations;
}

-- ---- each id in a binding is one of the table's

abbrev pub id_in : Binding → TypeId
id_in (b.Object of object) = of
id_in (b.Function of function) = of
id_in (b.Typedef of) = of
id_in (b.Constant of value) = of
id_in (b.NullPointer of) = of
id_in (b.Tag of state) = of

abbrev pub BindingIn : Types → Binding → Type 0
BindingIn types binding = (id_in binding).0 < count_of types

abbrev pub EntriesIn : Types → List (List ℕ × Binding) → Type 0
EntriesIn types [] = Unit {0}
EntriesIn types (entry ∷ entries) = BindingIn types entry.1 × EntriesIn types entries

-- The scopes speak of types of this table. Each call that is lent both needs it.
abbrev pub ScopesIn : Types → List Scope → Type 0
ScopesIn types [] = Unit {0}
ScopesIn types (scope ∷ scopes) = EntriesIn types scope.names × EntriesIn types scope.tags × ScopesIn types scopes
