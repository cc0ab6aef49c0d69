-- The laws of the crate: the first failing constraint is the least, and what is in scope stays as a table grows.
use Rattle.std.specs.Prelude.{◌≡◌, ℕ, ◌≤◌, ◌∷◌, Bool, List, drop, map, Option, Some, option_map}
use Rattle.c_types.specs.Making.{Grows}
use Rattle.c_types.specs.Types.{Types}
use Rattle.c_scopes.specs.declared.binding.Binding.{Binding}
use Rattle.c_scopes.specs.Scopes.{Scope, found, found_here, bound, no_names}
use Rattle.c_scopes.specs.Named.{named_of}
use Rattle.c_scopes.specs.Env.{BindingIn, ScopesIn, names_of}
use Rattle.c_scopes.specs.Ruled.{Fits, Breaks, Demand, verdict, Rises, Fails}

-- where the numbers rise, a rule that breaks tells a constraint that fails, and none that fails has a smaller number
abbrev pub TellsTheLeast : Type 0
TellsTheLeast = (demands : List Demand) (number : ℕ) → Rises demands → verdict demands ≡ Breaks number
    → Fails number demands × ((other : ℕ) → Fails other demands → number ≤ other)

-- a rule fits where no constraint fails
abbrev pub FitsWhereNoneFails : Type 0
FitsWhereNoneFails = (demands : List Demand) → ((number : ℕ) → Fails number demands → ⊥) → verdict demands ≡ Fits tt

-- ---- as a table grows

-- each name stands for what it stood for
abbrev pub StayInScope : Type 0
StayInScope = (scopes : List Scope) (old new : Types) → Grows old new → ScopesIn old scopes
    → map (names_of new) scopes ≡ map (names_of old) scopes

abbrev pub StayIn : Type 0
StayIn = (scopes : List Scope) (old new : Types) → Grows old new → ScopesIn old scopes → ScopesIn new scopes

-- ---- what the calls of `Scopes` do, as the typing rules see it

abbrev pub FindsNamed : Type 0
FindsNamed = (scopes : List Scope) (types : Types) (tag : Bool) (name : List ℕ)
    → found (map (names_of types) scopes) tag name ≡ option_map (named_of types) (found scopes tag name)

abbrev pub FindsNamedHere : Type 0
FindsNamedHere = (scopes : List Scope) (types : Types) (tag : Bool) (name : List ℕ)
    → found_here (map (names_of types) scopes) tag name ≡ option_map (named_of types) (found_here scopes tag name)

abbrev pub BindsNamed : Type 0
BindsNamed = (scopes : List Scope) (types : Types) (tag : Bool) (name : List ℕ) (binding : Binding)
    → map (names_of types) (bound scopes tag name binding)
    ≡ bound (map (names_of types) scopes) tag name (named_of types binding)

abbrev pub LeavesNamed : Type 0
LeavesNamed = (scopes : List Scope) (types : Types) → map (names_of types) (drop 1 scopes)
    ≡ drop 1 (map (names_of types) scopes)

-- ---- that ids are the table's

abbrev pub FindsIn : Type 0
FindsIn = (scopes : List Scope) (types : Types) (tag : Bool) (name : List ℕ) (binding : Binding) → ScopesIn types scopes
    → found scopes tag name ≡ Some binding → BindingIn types binding

abbrev pub FindsInHere : Type 0
FindsInHere = (scopes : List Scope) (types : Types) (tag : Bool) (name : List ℕ) (binding : Binding)
    → ScopesIn types scopes → found_here scopes tag name ≡ Some binding → BindingIn types binding

abbrev pub BindsIn : Type 0
BindsIn = (scopes : List Scope) (types : Types) (tag : Bool) (name : List ℕ) (binding : Binding) → ScopesIn types scopes
    → BindingIn types binding → ScopesIn types (bound scopes tag name binding)

abbrev pub LeavesIn : Type 0
LeavesIn = (scopes : List Scope) (types : Types) → ScopesIn types scopes → ScopesIn types (drop 1 scopes)
