-- What the shape at an id says of the type that it stands for.
use Rattle.std.specs.Prelude.{◌≡◌, ℕ, ◌<◌, length, All, None, IsSomeAnd, slice_get, slice_index_or}
use Rattle.c_types.specs.declared.basic.Basic.TheVariants.{Void}
use Rattle.c_types.specs.declared.shape.Shape.{Shape}
use Rattle.c_types.specs.declared.shape.Shape.TheVariants as s
use Rattle.c_types.specs.declared.shape.TypeId.{TypeId}
use Rattle.c_types.specs.declared.parts.Made.{Made}
use Rattle.c_types.specs.Types.{Types, FunctionParts}
use Rattle.c_types.specs.CType.{type_of, type_with, all_types, no_quals}

abbrev pub no_entry : Made
no_entry = record { shape = s.Basic Void; quals = no_quals; layout = None; parts = 1 }

-- what the table keeps for an id
abbrev pub entry_at : Types → ℕ → Made
entry_at types id = slice_index_or types.made id no_entry

-- A shape speaks only of types with ids below this one, and of functions, structures, unions and enumerations that are
-- there.
abbrev pub RefersBelow : Types → ℕ → Shape → Type 0
RefersBelow types id (s.Basic basic) = Unit {0}
RefersBelow types id (s.Pointer to) = to.0 < id
RefersBelow types id (s.Array of len) = of.0 < id
RefersBelow types id (s.Function number) =
    IsSomeAnd (slice_get types.functions number) (λ (parts : FunctionParts). (parts.gives.0 < id)
    × All (λ (p : TypeId). p.0 < id) parts.parameters)
RefersBelow types id (s.Compound number) = number < length types.compounds
RefersBelow types id (s.Enumerated number) = number < types.enumerations

-- The id stands for a type of this shape, and the types in it have lower ids, so that a walk through them ends.
pub record ShowsType (types : Types) (id : TypeId) (shape : Shape) : Type 0 where
  pub stands_for : type_of types id ≡ type_with types.functions (all_types types) shape (entry_at types id.0).quals
  pub refers : RefersBelow types id.0 shape
