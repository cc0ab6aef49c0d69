-- A member that joins others, where its rule fits.
use Rattle.std.proofs.Common.{◌≡◌, ◌∙◌, ◌++◌, ℕ, List, [], ◌∷◌, map, refl, ap, sym, subst}
use Rattle.std.specs.Prelude.{OnOk, Result, Ok, Err}
use Rattle.std.proofs.lemmas.List.Elements.{All-push}
use Rattle.critical_table.specs.declared.pos.Pos.{Pos}
use Rattle.c_types.specs.declared.shape.TypeId.{TypeId}
use Rattle.c_types.specs.CType.{type_of}
use Rattle.c_types.specs.Structures.{structures_of}
use Rattle.c_types.specs.Types.{Types}
use Rattle.c_types.proofs.Kept.{grows_own}
use Rattle.c_core.specs.declared.fault.TypeFault.{TypeFault}
use Rattle.c_core.specs.Ids.{IdIn}
use Rattle.c_scopes.specs.Clauses.{Settles}
use Rattle.c_scopes.specs.Env.{Env, ScopesIn, env_of}
use Rattle.c_scopes.specs.Ruled.{Ruled}
use Rattle.c_scopes.specs.Scopes.{Scope}
use Rattle.c_type_rules.specs.Completing.{MembersSoFar}
use Rattle.c_type_rules.specs.Members.{member_rule}
use Rattle.c_type_parts.specs.Answers.{Answer, Gives, settle}
use Rattle.c_type_parts.specs.Declaring.{TypedMembers, member_added, with_member}
use Rattle.c_type_parts.specs.Seen.{AnswersMore, MembersIn, members_of}
use Rattle.c_type_parts.proofs.Steps.{breaks_refused, fits_given, refused_then, then_given}

-- the types of members and of one more
types_more : (types : Types) (all : List TypeId) (of : TypeId)
    → map (type_of types) (all ++ of ∷ []) ≡ map (type_of types) all ++ type_of types of ∷ []
types_more types [] of = refl
types_more types (first ∷ rest) of = ap (λ more. type_of types first ∷ more) (types_more types rest of)

abbrev joined : MembersSoFar → List ℕ → TypeId → MembersSoFar
joined found name of = record { names = found.names ++ name ∷ []; types = found.types ++ of ∷ [] }

module _ (at : Pos) (name : List ℕ) (of : TypeId) (found more : MembersSoFar) (scopes : List Scope) (types : Types)
    (here : ScopesIn types scopes) (is_in : IdIn types of) (found_in : MembersIn types found) where
  abbrev rule : Ruled (Unit {0})
  rule = member_rule (structures_of types) found.names name (type_of types of)

  abbrev behind : Unit {0} → Env → Answer TypedMembers
  behind stands env = Gives (with_member (members_of types found) name (type_of types of)) env

  -- what its rule says
  pub added_answers : (result : Result (Unit {0}) TypeFault) → Settles rule at result
      → OnOk result (more ≡ joined found name of)
      → AnswersMore (member_added at name (type_of types of) (members_of types found) (env_of scopes types)) more types
      scopes types result
  added_answers (Ok done) fits pushed = record {
    is = then_given (settle at (env_of scopes types) rule) tt (env_of scopes types) behind
        (fits_given at (env_of scopes types) rule tt fits)
        ∙ (λ i. Gives (record {
          names = found.names ++ name ∷ [];
          types = sym (types_more types found.types of) i;
        }) (env_of scopes types))
        ∙ ap (λ (all : MembersSoFar). Gives (members_of types all) (env_of scopes types)) (sym pushed);
    is_in = subst (λ (all : MembersSoFar). MembersIn types all) (sym pushed)
        (All-push (λ (id : TypeId). IdIn types id) found.types of found_in is_in);
    here = here;
    grown = grows_own types;
  }
  added_answers (Err fault) breaks pushed =
      refused_then (settle at (env_of scopes types) rule) behind fault
      (breaks_refused at (env_of scopes types) rule fault breaks)
