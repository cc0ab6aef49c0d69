-- What a call does to the table: what it keeps, and what it makes.
use Rattle.std.specs.Prelude.{◌≡◌, ◌≢◌, ℕ, ◌+◌, ◌<◌, ◌≤◌, List, [], ◌∷◌, ◌++◌, length, Some}
use Rattle.c_types.specs.declared.shape.TypeId.{TypeId}
use Rattle.c_types.specs.declared.parts.Made.{Made}
use Rattle.c_types.specs.Types.{Types, count_of}
use Rattle.c_types.specs.CType.{CType, Bare, Plain, Enumerated, bare_of, type_of, no_quals}
use Rattle.c_types.specs.Structures.{Structure, StructureBody, structure_at, structures_of}

-- Types are only added: each id stands for what it stood for.
pub record KeepsTypes (old new : Types) : Type 0 where
  pub count : count_of old ≤ count_of new
  pub same : (id : TypeId) → id.0 < count_of old → type_of new id ≡ type_of old id

-- Structures and unions are only added and completed: each stays what it is, and keeps the body that it has.
pub record KeepsStructures (old new : List Structure) : Type 0 where
  pub count : length old ≤ length new
  pub kind : (number : ℕ) → number < length old → (structure_at new number).is_union
      ≡ (structure_at old number).is_union
  pub body : (number : ℕ) (body : StructureBody) → (structure_at old number).body ≡ Some body
      → (structure_at new number).body ≡ Some body

-- A table only grows. Each call that changes a table keeps this.
pub record Grows (old new : Types) : Type 0 where
  pub types : KeepsTypes old new
  pub structures : KeepsStructures (structures_of old) (structures_of new)
  pub enumerations : old.enumerations ≤ new.enumerations

-- no type that is there is this one, whatever its qualifiers are
abbrev pub IsNew : Types → Bare → Type 0
IsNew types bare = (id : TypeId) → id.0 < count_of types → bare_of (type_of types id) ≢ bare

-- The table has this type, and made nothing but types: structures, unions and enumerations are as they were.
pub record MakesType (old new : Types) (id : TypeId) (made : CType) : Type 0 where
  pub is_there : id.0 < count_of new
  pub stands_for : type_of new id ≡ made
  pub grows : Grows old new
  pub compounds : new.compounds ≡ old.compounds
  pub structures : structures_of new ≡ structures_of old
  pub enumerations : new.enumerations ≡ old.enumerations

-- The table has made an enumerated type, which is none of those that were there.
pub record MakesEnumerated (old new : Types) (id : TypeId) : Type 0 where
  pub is_there : id.0 < count_of new
  pub stands_for : type_of new id ≡ Plain (Enumerated old.enumerations) no_quals
  pub is_new : IsNew old (Enumerated old.enumerations)
  pub grows : Grows old new
  pub compounds : new.compounds ≡ old.compounds
  pub structures : structures_of new ≡ structures_of old
  pub enumerations : new.enumerations ≡ old.enumerations + 1

-- the table with this list of what it made
abbrev pub at_made : Types → List Made → Types
at_made types made = record {
  made = made;
  functions = types.functions;
  compounds = types.compounds;
  enumerations = types.enumerations;
}

-- the table with one more type
abbrev pub with_made : Types → Made → Types
with_made types next = at_made types (types.made ++ next ∷ [])

-- the table with one more number of an enumerated type
abbrev pub with_enumeration : Types → Types
with_enumeration types = record {
  made = types.made;
  functions = types.functions;
  compounds = types.compounds;
  enumerations = types.enumerations + 1;
}
