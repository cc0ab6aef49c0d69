-- What the fields of a table stand for, and what is always true of them.
use Rattle.std.specs.Prelude.{◌≡◌, ℕ, ◌<◌, ◌≤◌, List, [], ◌∷◌, take, map, All, Option, Some, option_map, IsSome, IfSome}
use Rattle.c_types.specs.declared.basic.Basic.{Basic}
use Rattle.c_types.specs.declared.basic.Basic.TheVariants as b
use Rattle.c_types.specs.declared.shape.Shape.{Shape}
use Rattle.c_types.specs.declared.shape.Shape.TheVariants as s
use Rattle.c_types.specs.declared.shape.TypeId.{TypeId}
use Rattle.c_types.specs.declared.layout.Layout.{Layout}
use Rattle.c_types.specs.declared.parts.Made.{Made}
use Rattle.c_types.specs.declared.parts.Signature.{Signature}
use Rattle.c_types.specs.declared.parts.CompoundType.{CompoundType}
use Rattle.c_types.specs.declared.parts.Body.{Body}
use Rattle.c_types.specs.declared.table.TypeTable.TheInside.{Inside}
use Rattle.c_types.specs.Types.{FunctionParts, CompoundBody, CompoundParts, Types, count_of}
use Rattle.c_types.specs.CType.{CType, no_quals, type_of}
use Rattle.c_types.specs.Shapes.{RefersBelow, entry_at}
use Rattle.c_types.specs.PartCount.{part_count, most_parts}
use Rattle.c_types.specs.Structures.{Structure, structure_at, structures_of}
use Rattle.c_types.specs.Layouts.{layout_of, basic_layout, structure_layout}

abbrev pub parts_of : Signature → FunctionParts
parts_of s = record { gives = s.gives; parameters = s.parameters.items; variadic = s.variadic }

abbrev pub body_of : Body → CompoundBody
body_of b = record { members = b.members.items; layout = b.layout; has_const = b.has_const }

abbrev pub compound_of : CompoundType → CompoundParts
compound_of c = record { is_union = c.is_union; body = option_map body_of c.body }

abbrev pub types_of : Inside → Types
types_of t = record {
  made = t.made.items;
  functions = map parts_of t.functions.items;
  compounds = map compound_of t.compounds.items;
  enumerations = t.enumerations;
}

-- an unqualified basic type as a table keeps it
abbrev pub entry_of : Basic → Made
entry_of basic = record { shape = s.Basic basic; quals = no_quals; layout = basic_layout basic; parts = 1 }

-- the types that each table begins with
abbrev pub basics : List Made
basics = entry_of b.Void ∷ entry_of b.Bool ∷ entry_of b.Char ∷ entry_of b.SChar ∷ entry_of b.UChar ∷ entry_of
    b.Short ∷ entry_of b.UShort ∷ entry_of b.Int ∷ entry_of b.UInt ∷ entry_of b.Long ∷ entry_of b.ULong ∷ entry_of
    b.LongLong ∷ entry_of b.ULongLong ∷ []

-- the members of a compound type are types of the table
abbrev pub HasMembersIn : Types → CompoundParts → Type 0
HasMembersIn types parts = IfSome parts.body (λ (body : CompoundBody). All (λ m. m.of.0 < count_of types) body.members)

-- the layout of a type, from the one that is kept with it; that of a compound type stands with its body
abbrev pub kept_layout : Shape → Option Layout → List Structure → Option Layout
kept_layout (s.Compound number) kept structures = structure_layout (structure_at structures number)
kept_layout shape kept structures = kept

-- an array with a length was made of a complete type, so completing a compound type does not change its layout
abbrev pub HasOwnLayout : Shape → Option Layout → Type 0
HasOwnLayout (s.Array of (Some n)) kept = IsSome kept
HasOwnLayout shape kept = Unit {0}

-- what is kept for a type gives its layout
pub record KeepsLayout (shape : Shape) (kept : Option Layout) (type : CType) (structures : List Structure)
    : Type 0 where
  pub layout : kept_layout shape kept structures ≡ layout_of type structures
  pub own : HasOwnLayout shape kept

-- what is kept for a type counts its parts, of which it has no more than a type of a table may have
pub record CountsParts (kept : ℕ) (type : CType) : Type 0 where
  pub count : kept ≡ part_count type
  pub bound : kept ≤ most_parts

-- what is always true of a table: since ids go down from a type to its parts, a walk through them ends
pub record IsSound (types : Types) : Type 0 where
  pub begins : take 13 types.made ≡ basics
  pub refers : (id : ℕ) → id < count_of types → RefersBelow types id (entry_at types id).shape
  pub layouts : (id : TypeId) → id.0 < count_of types
      → KeepsLayout (entry_at types id.0).shape (entry_at types id.0).layout (type_of types id) (structures_of types)
  pub parts : (id : TypeId) → id.0 < count_of types → CountsParts (entry_at types id.0).parts (type_of types id)
  pub members : All (HasMembersIn types) types.compounds

abbrev pub IsSoundInside : Inside → Type 0
IsSoundInside t = IsSound (types_of t)
