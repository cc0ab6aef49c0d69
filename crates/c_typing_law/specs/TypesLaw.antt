-- The law of types: the rules of types make well-formed types and structures, and these stay so as a table grows.
use Rattle.std.specs.Prelude.{ℕ, ◌<◌, ℤ, Bool, List, [], ◌∷◌, ◌++◌, Option, Result, IfSome, length, slice_set}
use Rattle.c_types.specs.declared.shape.Quals.{Quals}
use Rattle.c_types.specs.CType.{CType, CTypes}
use Rattle.c_types.specs.Making.{KeepsStructures}
use Rattle.c_types.specs.Qualified.{with_quals}
use Rattle.c_types.specs.Structures.{Structure, no_members}
use Rattle.c_core.specs.declared.fault.ConstFault.{ConstFault}
use Rattle.c_core.specs.Named.{Names, Widens}
use Rattle.c_core.specs.Types.{IsObject}
use Rattle.c_scopes.specs.Named.{Named}
use Rattle.c_scopes.specs.Ruled.{Ruled}
use Rattle.c_syntax.specs.declared.specifier.BasicWord.{BasicWord}
use Rattle.c_conversions.specs.Parts.{Part}
use Rattle.c_type_rules.specs.Arrays.{length_rule, array_rule}
use Rattle.c_type_rules.specs.Enumerators.{enumerator_rule, enumerator}
use Rattle.c_type_rules.specs.Functions.{parameter_rule, function_rule}
use Rattle.c_type_rules.specs.Members.{member_rule, body_rule}
use Rattle.c_type_rules.specs.Qualified.{pointer_rule}
use Rattle.c_type_rules.specs.Words.{basic_rule}
use Rattle.c_typing_law.specs.TypedParts.{PartTyped, NamedTyped, IfFits}
use Rattle.c_typing_law.specs.WellFormed.{TypeFormed, TypesFormed, BodyFormed, StructuresFormed}

-- each of these types is well-formed, and an object type
abbrev pub AreMembers : List Structure → List CType → Type 0
AreMembers structures [] = Unit {0}
AreMembers structures (first ∷ rest) = (TypeFormed structures first × IsObject first) × AreMembers structures rest

module _ (structures : List Structure) where
  abbrev pub GivesType : Ruled CType → Type 0
  GivesType rule = IfFits rule (TypeFormed structures)

  -- 6.7.2, 6.7.3, 6.7.6
  pub record TypesMade : Type 0 where
    pub basic : (words : List BasicWord) → GivesType (basic_rule words)
    pub qualified : (quals : Quals) (type : CType) → TypeFormed structures type
        → TypeFormed structures (with_quals quals type)
    pub pointer : (quals : Quals) (to : CType) → TypeFormed structures to → GivesType (pointer_rule quals to)
    pub length : (value : Result ℤ ConstFault) → IfFits (length_rule value) (λ n. 0 < n)
    pub array : (of : CType) (length : Option ℕ) → TypeFormed structures of → IfSome length (λ n. 0 < n)
        → GivesType (array_rule structures of length)
    pub parameter : (type : CType) → TypeFormed structures type → GivesType (parameter_rule type)
    pub function : (gives : CType) (parameters : CTypes) (variadic may_vary : Bool) → TypeFormed structures gives
        → TypesFormed structures parameters → GivesType (function_rule gives parameters variadic may_vary)

  -- 6.7.2.1, 6.7.2.2
  pub record MembersMade : Type 0 where
    pub member : (earlier : List (List ℕ)) (name : List ℕ) (type : CType)
        → IfFits (member_rule structures earlier name type) (λ done. IsObject type)
    pub body : (is_union : Bool) (names : List (List ℕ)) (first : CType) (rest : List CType)
        → AreMembers structures (first ∷ rest)
        → IfFits (body_rule is_union names (first ∷ rest) structures)
        (λ (made : Structure). IfSome made.body (BodyFormed structures))
    pub enumerator : (names : Names) (here : Option Named) (value : Option ℤ)
        → IfFits (enumerator_rule here value) (λ n. NamedTyped names structures (enumerator n))

-- ---- as structures and unions are added and completed, and more can be named

pub record StaysTyped (old new : List Structure) : Type 0 where
  pub type : (type : CType) → TypeFormed old type → TypeFormed new type
  pub part : (less more : Names) (part : Part) → Widens less more → PartTyped less old part → PartTyped more new part
  pub named : (less more : Names) (named : Named) → Widens less more → NamedTyped less old named
      → NamedTyped more new named

pub record TypesStay : Type 0 where
  pub makes : (structures : List Structure) → TypesMade structures
  pub members : (structures : List Structure) → StructuresFormed structures → MembersMade structures
  pub stays : (old new : List Structure) → KeepsStructures old new → StaysTyped old new
  pub declared : (structures : List Structure) (is_union : Bool) → StructuresFormed structures
      → StructuresFormed (structures ++ no_members is_union ∷ [])
  pub completed : (structures : List Structure) (number : ℕ) (made : Structure) → StructuresFormed structures
      → number < length structures → IfSome made.body (BodyFormed structures)
      → KeepsStructures structures (slice_set structures number made)
      → StructuresFormed (slice_set structures number made)
