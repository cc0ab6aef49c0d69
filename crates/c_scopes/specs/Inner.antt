-- What the fields of the scopes stand for.
use Rattle.std.specs.Prelude.{List, ◌∷◌, map, reverse}
use Rattle.c_scopes.specs.declared.scopes.Scope as code
use Rattle.c_scopes.specs.declared.scopes.Scopes.TheInside.{Inside}
use Rattle.c_scopes.specs.Scopes.{Scope}

abbrev pub scope_of : code.Scope → Scope
scope_of scope = record { names = scope.names.entries; tags = scope.tags.entries }

-- scopes that were entered one in another, the innermost first
abbrev pub outwards : List code.Scope → List Scope
outwards scopes = reverse (map scope_of scopes)

abbrev pub scopes_of : Inside → List Scope
scopes_of scopes = scope_of scopes.inner ∷ outwards scopes.outer.items
