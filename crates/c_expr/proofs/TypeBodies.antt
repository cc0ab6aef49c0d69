-- A structure, union or enumeration with its body, part by part.
use Rattle.std.proofs.Common.{ap, sym, List}
use Rattle.std.specs.Prelude.{Bool, Option}
use Rattle.critical_table.specs.declared.pos.Pos.{Pos}
use Rattle.c_types.specs.declared.shape.TypeId.{TypeId}
use Rattle.c_types.specs.CType.{CType, type_of}
use Rattle.c_types.specs.Making.{Grows}
use Rattle.c_types.specs.Types.{Types}
use Rattle.c_core.specs.declared.fault.TypeFault.{TypeFault}
use Rattle.c_core.specs.Ids.{IdIn}
use Rattle.c_core.proofs.Kept.{id_in_kept, type_kept}
use Rattle.c_syntax.specs.declared.specifier.Tag.{Tag}
use Rattle.c_scopes.specs.Env.{Env, ScopesIn, env_of}
use Rattle.c_scopes.specs.Scopes.{Scope}
use Rattle.c_type_rules.specs.Completing.{MembersSoFar}
use Rattle.c_type_parts.specs.Answers.{Answer, Gives, and_then}
use Rattle.c_type_parts.specs.Clauses.{Becomes, Given, Refused}
use Rattle.c_type_parts.specs.Declaring.{TypedMembers}
use Rattle.c_type_parts.specs.Seen.{MembersIn, members_of}
use Rattle.c_type_parts.specs.Tagging.{body_ended, compound_begun, compound_completed, compound_place, compound_with}
use Rattle.c_type_parts.specs.Tagging.{enumeration_begun, enumeration_with, tag_completed}
use Rattle.c_type_parts.proofs.Onward.{Onward, becomes_given, onward, onward_as, part_given, part_refused}

-- an id of a type, in a table that has grown
module _ {A : Type 0} (whole : Answer A) (left : CType → Answer A) (old mid now : Types) (scopes : List Scope)
    (of : TypeId) where
  by_type : Grows mid now → IdIn mid of → Onward whole (left (type_of mid of)) old scopes now
      → Onward whole (left (type_of now of)) old scopes now
  by_type grown is_in on =
      onward_as whole (left (type_of mid of)) (left (type_of now of)) old scopes now
      (ap left (sym (type_kept mid now grown of is_in))) on

-- ---- structures and unions

module _ (union : Bool) (at : Pos) (tag : Option Tag) (members : Env → Answer TypedMembers) (old : Types)
    (scopes : List Scope) (here : ScopesIn old scopes) where
  abbrev compound : Answer CType
  compound = compound_with union at tag members (env_of scopes old)

  abbrev behind_begin : CType → Env → Answer CType
  behind_begin type env = and_then (members env) (λ all env. compound_completed union tag at type all env)

  pub begin_refused : (fault : TypeFault) → Refused (compound_begun union tag (env_of scopes old)) fault
      → Refused compound fault
  begin_refused fault refused =
      part_refused (compound_begun union tag (env_of scopes old)) behind_begin compound old old scopes fault
      (onward compound scopes old here) refused

  module _ (of : TypeId) (first : Types) (before : List Scope)
      (begun : Given (compound_begun union tag (env_of scopes old)) (type_of first of) (λ t. IdIn t of) old before
      first)
    where
      abbrev behind_members : TypedMembers → Env → Answer CType
      behind_members all env = compound_completed union tag at (type_of first of) all env

      members_left : Onward compound (behind_begin (type_of first of) (env_of before first)) old before first
      members_left =
          part_given (compound_begun union tag (env_of scopes old)) behind_begin compound old old scopes
          (type_of first of) (λ t. IdIn t of) before first (onward compound scopes old here) begun

      pub members_refused : (fault : TypeFault) → Refused (members (env_of before first)) fault
          → Refused compound fault
      members_refused fault refused =
          part_refused (members (env_of before first)) behind_members compound old first before fault members_left
          refused

      module _ (all : MembersSoFar) (mid : Types) (inner : List Scope)
          (typed : Given (members (env_of before first)) (members_of mid all) (λ t. MembersIn t all) first inner mid)
        where
          abbrev ended : Answer (Unit {0})
          ended = body_ended union (compound_place at tag) (type_of mid of) (members_of mid all) (env_of inner mid)

          abbrev behind_body : Unit {0} → Env → Answer CType
          behind_body done env = Gives (type_of mid of) (tag_completed tag (type_of mid of) env)

          pub of_inside : IdIn mid of
          of_inside = id_in_kept first mid typed.grown of begun.is_in

          body_left : Onward compound (compound_completed union tag at (type_of mid of) (members_of mid all)
              (env_of inner mid)) old inner mid
          body_left =
              by_type compound
              (λ type. compound_completed union tag at type (members_of mid all) (env_of inner mid)) old first mid
              inner of typed.grown begun.is_in
              (part_given (members (env_of before first)) behind_members compound old first before (members_of mid all)
              (λ t. MembersIn t all) inner mid members_left typed)

          pub body_refused : (fault : TypeFault) → Refused ended fault → Refused compound fault
          body_refused fault refused =
              part_refused ended behind_body compound old mid inner fault body_left refused

          pub compound_given : (new : Types) (after : List Scope)
              → Given ended tt (λ t. Unit {0}) mid inner new
              → Becomes (tag_completed tag (type_of new of) (env_of inner new)) new after new
              → Given compound (type_of new of) (λ t. IdIn t of) old after new
          compound_given new after body becomes =
              becomes_given compound (type_of new of) (λ t. IdIn t of)
              (tag_completed tag (type_of new of) (env_of inner new)) old new new inner after
              (by_type compound (λ type. Gives type (tag_completed tag type (env_of inner new))) old mid new inner of
              body.grown of_inside
              (part_given ended behind_body compound old mid inner tt (λ t. Unit {0}) inner new body_left body))
              becomes (id_in_kept mid new body.grown of of_inside)

-- ---- enumerations

module _ (tag : Option Tag) (enumerators : Env → Answer (Unit {0})) (old : Types) (scopes : List Scope)
    (here : ScopesIn old scopes) where
  abbrev enumeration : Answer CType
  enumeration = enumeration_with tag enumerators (env_of scopes old)

  abbrev behind_tag : CType → Env → Answer CType
  behind_tag type env = and_then (enumerators env) (λ last env. Gives type (tag_completed tag type env))

  pub tag_refused : (fault : TypeFault) → Refused (enumeration_begun tag (env_of scopes old)) fault
      → Refused enumeration fault
  tag_refused fault refused =
      part_refused (enumeration_begun tag (env_of scopes old)) behind_tag enumeration old old scopes fault
      (onward enumeration scopes old here) refused

  module _ (of : TypeId) (first : Types) (before : List Scope)
      (begun : Given (enumeration_begun tag (env_of scopes old)) (type_of first of) (λ t. IdIn t of) old before first)
    where
      abbrev behind_list : Unit {0} → Env → Answer CType
      behind_list last env = Gives (type_of first of) (tag_completed tag (type_of first of) env)

      list_left : Onward enumeration (behind_tag (type_of first of) (env_of before first)) old before first
      list_left =
          part_given (enumeration_begun tag (env_of scopes old)) behind_tag enumeration old old scopes
          (type_of first of) (λ t. IdIn t of) before first (onward enumeration scopes old here) begun

      pub list_refused : (fault : TypeFault) → Refused (enumerators (env_of before first)) fault
          → Refused enumeration fault
      list_refused fault refused =
          part_refused (enumerators (env_of before first)) behind_list enumeration old first before fault list_left
          refused

      pub enumeration_given : (new : Types) (inner after : List Scope)
          → Given (enumerators (env_of before first)) tt (λ t. Unit {0}) first inner new
          → Becomes (tag_completed tag (type_of new of) (env_of inner new)) new after new
          → Given enumeration (type_of new of) (λ t. IdIn t of) old after new
      enumeration_given new inner after list becomes =
          becomes_given enumeration (type_of new of) (λ t. IdIn t of)
          (tag_completed tag (type_of new of) (env_of inner new)) old new new inner after
          (by_type enumeration (λ type. Gives type (tag_completed tag type (env_of inner new))) old first new inner of
          list.grown begun.is_in
          (part_given (enumerators (env_of before first)) behind_list enumeration old first before tt (λ t. Unit {0})
          inner new list_left list))
          becomes (id_in_kept first new list.grown of begun.is_in)
