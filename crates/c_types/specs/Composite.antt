-- The composite of two compatible types (6.2.7p3).
use Rattle.std.specs.Prelude.{◌≡◌, ℕ, ◌<◌, List, ◌++◌, All, Option, Some, None}
use Rattle.c_types.specs.declared.shape.TypeId.{TypeId}
use Rattle.c_types.specs.declared.parts.Made.{Made}
use Rattle.c_types.specs.Types.{Types, FunctionParts, count_of}
use Rattle.c_types.specs.CType.{CType, CTypes, Bare, Plain, Array, Pointer, Function, Nil, Cons, types_at, all_types}
use Rattle.c_types.specs.Structures.{structures_of}
use Rattle.c_types.specs.Making.{Grows}
use Rattle.c_types.specs.Qualified.{without_quals}

-- the length of the first array, or else that of the second, where either is known
abbrev pub known_length : Option ℕ → Option ℕ → Option ℕ
known_length None n = n
known_length (Some m) n = Some m

-- The composite of two types, of which only the compatible ones are asked. Its qualifiers are those of the first at
-- each
-- place, and compatible types have the same; but a parameter has the unqualified version of its type (6.7.6.3p15). Of
-- `int` and an enumerated type it is the first.
unfoldable mutual
  pub composite_of : CType → CType → CType
  composite_of (Plain bare quals) (Plain other quals2) = Plain (bare_composite bare other) quals
  composite_of (Array of len) (Array of2 len2) = Array (composite_of of of2) (known_length len len2)
  composite_of (Plain bare quals) (Array of2 len2) = Plain bare quals
  composite_of (Array of len) (Plain other quals2) = Array of len

  pub bare_composite : Bare → Bare → Bare
  bare_composite (Pointer to) (Pointer to2) = Pointer (composite_of to to2)
  bare_composite (Function gives parameters variadic) (Function gives2 parameters2 variadic2) =
      Function (composite_of gives gives2) (all_composites parameters parameters2) variadic
  bare_composite bare other = bare

  pub all_composites : CTypes → CTypes → CTypes
  all_composites (Cons first rest) (Cons first2 rest2) =
      Cons (without_quals (composite_of first first2)) (all_composites rest rest2)
  all_composites Nil parameters = Nil
  all_composites (Cons first rest) Nil = Cons first rest

-- The table has made more types, of functions too, and changed nothing of what was there.
pub record AddsTypes (old new : Types) : Type 0 where
  pub more : List Made
  pub functions : List FunctionParts
  pub is : new ≡ record {
    made = old.made ++ more;
    functions = old.functions ++ functions;
    compounds = old.compounds;
    enumerations = old.enumerations;
  }

-- The table has made the types of a list, and changed nothing of what was there.
pub record MakesTypes (old new : Types) (ids : List TypeId) (made : CTypes) : Type 0 where
  pub are_there : All (λ (id : TypeId). id.0 < count_of new) ids
  pub stand_for : types_at (all_types new) ids ≡ made
  pub grows : Grows old new
  pub compounds : new.compounds ≡ old.compounds
  pub structures : structures_of new ≡ structures_of old
  pub enumerations : new.enumerations ≡ old.enumerations
