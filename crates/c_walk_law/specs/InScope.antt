-- What is in scope is typed (6.2.1), and stays so behind a part of a unit.
use Rattle.std.specs.Prelude.{ℕ, List, [], ◌∷◌}
use Rattle.c_types.specs.Making.{KeepsStructures}
use Rattle.c_types.specs.Structures.{Structure}
use Rattle.c_core.specs.Named.{Names}
use Rattle.c_scopes.specs.Env.{Env}
use Rattle.c_scopes.specs.Named.{Named}
use Rattle.c_scopes.specs.Scopes.{Names as Scope}
use Rattle.c_type_parts.specs.Answers.{Answer, Gives, Refuses}
use Rattle.c_typing_law.specs.TypedParts.{NamedTyped}
use Rattle.c_typing_law.specs.WellFormed.{StructuresFormed}

-- each of these names stands for what is typed
abbrev pub EntriesTyped : Names → List Structure → List (List ℕ × Named) → Type 0
EntriesTyped names structures [] = Unit {0}
EntriesTyped names structures (entry ∷ rest) =
    NamedTyped names structures entry.1 × EntriesTyped names structures rest

-- so does each name and each tag in each of these scopes
abbrev pub ScopesTyped : Names → List Structure → List (Scope Named) → Type 0
ScopesTyped names structures [] = Unit {0}
ScopesTyped names structures (inner ∷ outer) =
    EntriesTyped names structures inner.names × EntriesTyped names structures inner.tags
    × ScopesTyped names structures outer

-- Structures and unions are well-formed, and each name in scope stands for what is typed.
pub record EnvTyped (names : Names) (env : Env) : Type 0 where
  pub structures : StructuresFormed env.structures
  pub scopes : ScopesTyped names env.structures env.scopes

-- From one environment to a later one: what is in scope is typed, and the structures and unions that were there stay.
pub record Reaches (names : Names) (env after : Env) : Type 0 where
  pub typed : EnvTyped names after
  pub kept : KeepsStructures env.structures after.structures

abbrev pub IfGives : {A : Type 0} → Answer A → (A → Env → Type 0) → Type 0
IfGives (Gives a after) P = P a after
IfGives (Refuses number at) P = Unit {0}

-- What is given, if the part is not refused, is so among the structures and unions behind it.
pub record GivesTyped {A : Type 0} (names : Names) (env : Env) (Is : List Structure → A → Type 0) (answer : Answer A)
    : Type 0 where
  pub given : IfGives answer (λ a after. Is after.structures a × Reaches names env after)
