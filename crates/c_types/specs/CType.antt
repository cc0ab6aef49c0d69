-- Types as trees: what an id stands for, whatever its number.
use Rattle.std.specs.Prelude.{ℕ, Bool, false, List, [], ◌∷◌, ◌++◌, Option, Some, None, slice_get, slice_index_or}
use Rattle.c_types.specs.declared.basic.Basic.{Basic}
use Rattle.c_types.specs.declared.basic.Basic.TheVariants.{Void}
use Rattle.c_types.specs.declared.basic.Basic.TheVariants as b
use Rattle.c_types.specs.declared.shape.Shape.{Shape}
use Rattle.c_types.specs.declared.shape.Shape.TheVariants as s
use Rattle.c_types.specs.declared.shape.Quals.{Quals}
use Rattle.c_types.specs.declared.shape.TypeId.{TypeId}
use Rattle.c_types.specs.declared.parts.Made.{Made}
use Rattle.c_types.specs.Types.{FunctionParts, Types}

-- A type with its qualifiers, or an array, whose qualifiers are those of its elements (6.7.3p9).
mutual
  pub data CType : Type 0 where
    Plain : (bare : Bare) (quals : Quals) → CType
    Array : (of : CType) (len : Option ℕ) → CType

  pub data Bare : Type 0 where
    BasicType : (basic : Basic) → Bare
    Pointer : (to : CType) → Bare
    Function : (gives : CType) (parameters : CTypes) (variadic : Bool) → Bare
    Compound : (number : ℕ) → Bare
    Enumerated : (number : ℕ) → Bare

  pub data CTypes : Type 0 where
    Nil : CTypes
    Cons : (first : CType) (rest : CTypes) → CTypes

abbrev pub no_quals : Quals
no_quals = record { constant = false; volatile = false; restricted = false }

abbrev pub void : CType
void = Plain (BasicType Void) no_quals

-- the type at an id, among the types that were made
abbrev pub type_at : List CType → TypeId → CType
type_at types id = slice_index_or types id.0 void

abbrev pub types_at : List CType → List TypeId → CTypes
types_at types [] = Nil
types_at types (id ∷ ids) = Cons (type_at types id) (types_at types ids)

-- a function type of these parts
abbrev pub function_at : List CType → Option FunctionParts → Bare
function_at types None = BasicType Void
function_at types (Some parts) = Function (type_at types parts.gives) (types_at types parts.parameters) parts.variadic

-- what a shape with qualifiers stands for, over the types that were made before
abbrev pub type_with : List FunctionParts → List CType → Shape → Quals → CType
type_with functions types (s.Basic basic) quals = Plain (BasicType basic) quals
type_with functions types (s.Pointer to) quals = Plain (Pointer (type_at types to)) quals
type_with functions types (s.Array of len) quals = Array (type_at types of) len
type_with functions types (s.Function number) quals = Plain (function_at types (slice_get functions number)) quals
type_with functions types (s.Compound number) quals = Plain (Compound number) quals
type_with functions types (s.Enumerated number) quals = Plain (Enumerated number) quals

-- the types that were made, after these
unfoldable pub types_from : List FunctionParts → List CType → List Made → List CType
types_from functions types [] = types
types_from functions types (next ∷ rest) =
    types_from functions (types ++ type_with functions types next.shape next.quals ∷ []) rest

-- all types of a table, by their ids
abbrev pub all_types : Types → List CType
all_types types = types_from types.functions [] types.made

-- the type that an id stands for
abbrev pub type_of : Types → TypeId → CType
type_of types id = type_at (all_types types) id

-- the qualifiers of a type; those of an array are its elements' (6.7.3p9)
abbrev pub quals_of : CType → Quals
quals_of (Plain bare quals) = quals
quals_of (Array of len) = quals_of of

-- what a type is without its qualifiers; an array counts as none
abbrev pub bare_of : CType → Bare
bare_of (Plain bare quals) = bare
bare_of (Array of len) = BasicType Void

-- the number of a basic type in the order of 6.2.5
abbrev pub number_of : Basic → ℕ
number_of b.Void = 0
number_of b.Bool = 1
number_of b.Char = 2
number_of b.SChar = 3
number_of b.UChar = 4
number_of b.Short = 5
number_of b.UShort = 6
number_of b.Int = 7
number_of b.UInt = 8
number_of b.Long = 9
number_of b.ULong = 10
number_of b.LongLong = 11
number_of b.ULongLong = 12
