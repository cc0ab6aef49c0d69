-- A table of types as contracts see it: what it has made, in order.
use Rattle.std.specs.Prelude.{ℕ, Bool, List, length, Option}
use Rattle.c_types.specs.declared.shape.TypeId.{TypeId}
use Rattle.c_types.specs.declared.member.Member.{Member}
use Rattle.c_types.specs.declared.layout.Layout.{Layout}
use Rattle.c_types.specs.declared.parts.Made.{Made}

-- the result and the parameters of a function type
pub record FunctionParts : Type 0 where
  pub gives : TypeId
  pub parameters : List TypeId
  pub variadic : Bool

-- the members of a complete structure or union, its layout, and whether it has a const member at any depth
pub record CompoundBody : Type 0 where
  pub members : List Member
  pub layout : Layout
  pub has_const : Bool

-- a structure or union; it has no body while it is incomplete (6.2.5p22)
pub record CompoundParts : Type 0 where
  pub is_union : Bool
  pub body : Option CompoundBody

-- For each id its shape and qualifiers, for each number of a function type its parts, for each number of a compound
-- type its parts, and how many enumerated types there are.
pub record Types : Type 0 where
  pub made : List Made
  pub functions : List FunctionParts
  pub compounds : List CompoundParts
  pub enumerations : ℕ

-- how many types the table has made
abbrev pub count_of : Types → ℕ
count_of types = length types.made
