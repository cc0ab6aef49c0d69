-- How the environment changes: scopes are entered and left, names bound, structures and enumerations made.
use Rattle.std.specs.Prelude.{ℕ, ◌+◌, Bool, List, [], ◌∷◌, ◌++◌, slice_set}
use Rattle.c_types.specs.Structures.{Structure, no_members}
use Rattle.c_scopes.specs.Env.{Env}
use Rattle.c_scopes.specs.Named.{Named, names_tag}
use Rattle.c_scopes.specs.Scopes.{Names, no_names, bound}

-- ---- scopes (6.2.1)

abbrev pub scope_entered : Env → Env
scope_entered env = record env { scopes = no_names ∷ env.scopes }

abbrev pub outer_of : {A : Type 0} → List A → List A
outer_of [] = []
outer_of (inner ∷ outer) = outer

abbrev pub scope_left : Env → Env
scope_left env = record env { scopes = outer_of env.scopes }

abbrev pub innermost_of : List (Names Named) → Names Named
innermost_of [] = no_names
innermost_of (inner ∷ outer) = inner

-- the name is in scope from here on
abbrev pub with_name : List ℕ → Named → Env → Env
with_name name named env = record env { scopes = bound env.scopes (names_tag named) name named }

-- ---- structures, unions and enumerations (6.7.2.1 to 6.7.2.3)

-- one more structure or union, which is incomplete
abbrev pub with_compound : Bool → Env → Env
with_compound is_union env = record env { structures = env.structures ++ no_members is_union ∷ [] }

-- the one with this number has got its members
abbrev pub with_structure : ℕ → Structure → Env → Env
with_structure number structure env = record env { structures = slice_set env.structures number structure }

-- one more enumeration
abbrev pub with_enumeration : Env → Env
with_enumeration env = record env { enumerations = env.enumerations + 1 }
