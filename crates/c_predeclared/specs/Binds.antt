-- What binding a list of names does to scopes and a table of types.
use Rattle.std.specs.Prelude.{◌≡◌, List, map}
use Rattle.c_types.specs.Types.{Types}
use Rattle.c_scopes.specs.Clauses.{KeepsTable}
use Rattle.c_scopes.specs.Env.{names_of, ScopesIn}
use Rattle.c_scopes.specs.Scopes.{Scope}
use Rattle.c_predeclared.specs.Predeclared.{NamedList, all_bound, predeclared_scopes}

-- The names have been bound, and nothing but types was made.
pub record Binds (names : NamedList) (before : List Scope) (old : Types) (after : List Scope) (new : Types) : Type 0
  where
    pub is : map (names_of new) after ≡ all_bound names (map (names_of old) before)
    pub here : ScopesIn new after
    pub kept : KeepsTable old new

-- Scopes with the predeclared names alone, and a table that has made nothing but types.
pub record IsPredeclared (scopes : List Scope) (old new : Types) : Type 0 where
  pub is : map (names_of new) scopes ≡ predeclared_scopes
  pub here : ScopesIn new scopes
  pub kept : KeepsTable old new
