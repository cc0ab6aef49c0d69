-- What the program holds while it walks, by the types of its table.
use Rattle.std.specs.Prelude.{◌<◌, All, IfSome, List, [], ◌∷◌, map, Result}
use Rattle.c_types.specs.declared.shape.TypeId.{TypeId}
use Rattle.c_types.specs.CType.{all_types, type_of, types_at}
use Rattle.c_types.specs.Types.{Types}
use Rattle.c_core.specs.declared.fault.TypeFault.{TypeFault}
use Rattle.c_core.specs.Ids.{IdIn}
use Rattle.c_scopes.specs.Clauses.{type_or_none}
use Rattle.c_scopes.specs.Scopes.{Scope, no_names}
use Rattle.c_type_rules.specs.Completing.{MembersSoFar}
use Rattle.c_type_parts.specs.declared.outlines.Before as b
use Rattle.c_type_parts.specs.declared.derivations.Derivation.{Derivation as Code}
use Rattle.c_type_parts.specs.declared.derivations.Derivation.TheVariants as d
use Rattle.c_type_parts.specs.declared.derivations.Derived as e
use Rattle.c_type_parts.specs.declared.outlines.Outline as o
use Rattle.c_type_parts.specs.Answers.{Answer}
use Rattle.c_type_parts.specs.Clauses.{Answers}
use Rattle.c_type_parts.specs.Declaring.{Derivation, ToPointer, ToArray, ToFunction, Derived, TypedMembers}
use Rattle.c_type_parts.specs.Outlines.{Outline, Before}

abbrev pub outline_of : Types → o.Outline → Outline
outline_of types outline = record {
  words = outline.words.items;
  typedef = type_or_none types outline.typedef;
  static = outline.is_static;
}

abbrev pub before_of : Types → b.Before → Before
before_of types before =
    record { storage = before.storage; basic = before.basic; type = type_of types before.of }

abbrev pub BeforeIn : Types → b.Before → Type 0
BeforeIn types before = IdIn types before.of

abbrev pub AnswersBefore : Answer Before → Types → List Scope → Types → Result b.Before TypeFault → Type 0
AnswersBefore = Answers before_of BeforeIn

-- ---- declarators

abbrev pub derivation_of : Types → Code → Derivation
derivation_of types (d.Pointer quals) = ToPointer quals
derivation_of types (d.Array length) = ToArray length
derivation_of types (d.Function list) =
    ToFunction (types_at (all_types types) list.types.items) list.variadic list.may_vary

-- the names of parameters are let go
abbrev pub derived_of : Types → e.Derived → Derived
derived_of types derived = record {
  derivation = derivation_of types derived.derivation;
  length_at = derived.length_at;
  parameters = no_names;
}

abbrev pub DerivationIn : Types → Code → Type 0
DerivationIn types (d.Pointer quals) = Unit {0}
DerivationIn types (d.Array length) = IfSome length (λ n. 0 < n)
DerivationIn types (d.Function list) = All (λ (id : TypeId). IdIn types id) list.types.items

abbrev pub DerivedIn : Types → List e.Derived → Type 0
DerivedIn types [] = Unit {0}
DerivedIn types (first ∷ rest) = DerivationIn types first.derivation × DerivedIn types rest

abbrev pub derived_list : Types → List e.Derived → List Derived
derived_list types all = map (derived_of types) all

-- ---- members

abbrev pub members_of : Types → MembersSoFar → TypedMembers
members_of types members = record { names = members.names; types = map (type_of types) members.types }

abbrev pub MembersIn : Types → MembersSoFar → Type 0
MembersIn types members = All (λ (id : TypeId). IdIn types id) members.types

abbrev pub AnswersMembers : Answer TypedMembers → Types → List Scope → Types → Result MembersSoFar TypeFault → Type 0
AnswersMembers = Answers members_of MembersIn

-- members that others have joined
abbrev pub AnswersMore : Answer TypedMembers → MembersSoFar → Types → List Scope → Types
    → Result (Unit {0}) TypeFault → Type 0
AnswersMore answer members =
    Answers (λ types done. members_of types members) (λ types done. MembersIn types members) answer
