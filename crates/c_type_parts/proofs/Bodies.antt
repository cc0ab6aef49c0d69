-- Structures and unions where their bodies begin and end.
use Rattle.std.proofs.Common.{◌≡◌, ◌∙◌, ap, refl, sym, subst, ℕ, ◌<◌, List, [], ◌∷◌, Bool, true, false, length, map}
use Rattle.std.proofs.Common.{arith}
use Rattle.std.specs.Prelude.{Option, Some, None, Result, Ok, Err, cond, not, ◌&&◌, is_some, option_map}
use Rattle.critical_table.specs.declared.pos.Pos.{Pos}
use Rattle.c_types.specs.declared.shape.TypeId.{TypeId}
use Rattle.c_types.specs.CType.{CType, Plain, Array, BasicType, Pointer, Function, Compound, Enumerated, type_of}
use Rattle.c_types.specs.Compounds.{number_in}
use Rattle.c_types.specs.Structures.{Structure, StructureBody, IsIncomplete, structure_at, structures_of}
use Rattle.c_types.specs.Types.{Types}
use Rattle.c_core.specs.declared.fault.TypeFault.{TypeFault}
use Rattle.c_scopes.specs.Clauses.{BreaksAt}
use Rattle.c_scopes.specs.Env.{Env, ScopesIn, env_of}
use Rattle.c_scopes.specs.Ruled.{Ruled, Fits, Breaks}
use Rattle.c_scopes.specs.Scopes.{Scope}
use Rattle.c_scopes.proofs.Growth.{scopes_stay, scopes_stay_in}
use Rattle.c_type_rules.specs.Arrays.{is_complete}
use Rattle.c_type_rules.specs.Completing.{MembersSoFar, Completed, RulesBody, body_in}
use Rattle.c_type_rules.specs.Members.{body_rule, content_rule}
use Rattle.c_type_rules.specs.Tags.{is_compound, same_truth}
use Rattle.c_type_parts.specs.Answers.{Answer, Gives, and_then, settle}
use Rattle.c_type_parts.specs.Clauses.{AnswersUnit, Refused}
use Rattle.c_type_parts.specs.Environments.{with_structure}
use Rattle.c_type_parts.specs.Seen.{members_of}
use Rattle.c_type_parts.specs.Tagging.{body_ended}
use Rattle.c_type_parts.proofs.Onward.{Onward, onward, rule_fits, rule_breaks}

same : (a b : Bool) → same_truth a b ≡ true → b ≡ a
same true b e = e
same false true e = sym e
same false false e = refl

-- a union is one, and a structure none
pub kind_of : (union : Bool) (type : CType) (structures : List Structure) → is_compound union type structures ≡ true
    → (structure_at structures (number_in type)).is_union ≡ union
kind_of union (Plain (Compound number) quals) structures e = same union (structure_at structures number).is_union e
kind_of union (Plain (BasicType basic) quals) structures e = absurd (cc)
kind_of union (Plain (Pointer to) quals) structures e = absurd (cc)
kind_of union (Plain (Function gives parameters variadic) quals) structures e = absurd (cc)
kind_of union (Plain (Enumerated number) quals) structures e = absurd (cc)
kind_of union (Array of len) structures e = absurd (cc)

-- where the rule of a body fits, there is a member
pub content_some : (union : Bool) (names : List (List ℕ)) (type : CType) (structures : List Structure)
    → content_rule union names type structures ≡ Fits tt → 0 < length names
content_some union [] type structures e = absurd (cc)
content_some union (name ∷ names) type structures e = omega arith

abbrev sixth : Ruled (Unit {0})
sixth = Breaks 6

fits_so : (a : Bool) → cond a (Fits tt) sixth ≡ Fits tt → a ≡ true
fits_so true e = refl
fits_so false e = absurd (cc)

both : (a b : Bool) → a && b ≡ true → (a ≡ true) × (b ≡ true)
both true true e = (refl, refl)
both true false e = absurd (cc)
both false b e = absurd (cc)

-- the type is of its kind, and incomplete
content_so : (union : Bool) (names : List (List ℕ)) (type : CType) (structures : List Structure)
    → content_rule union names type structures ≡ Fits tt
    → (is_compound union type structures ≡ true) × (not (is_complete type structures) ≡ true)
content_so union [] type structures e = absurd (cc)
content_so union (name ∷ names) type structures e = both _ _ (fits_so _ e)

without : (body : Option StructureBody)
    → not (is_some (option_map (λ (b : StructureBody). b.layout) body)) ≡ true → body ≡ None
without None e = refl
without (Some body) e = absurd (cc)

incomplete : (union : Bool) (type : CType) (structures : List Structure) → is_compound union type structures ≡ true
    → not (is_complete type structures) ≡ true → IsIncomplete type structures
incomplete union (Plain (Compound number) quals) structures h e = without (structure_at structures number).body e
incomplete union (Plain (BasicType basic) quals) structures h e = absurd (cc)
incomplete union (Plain (Pointer to) quals) structures h e = absurd (cc)
incomplete union (Plain (Function gives parameters variadic) quals) structures h e = absurd (cc)
incomplete union (Plain (Enumerated number) quals) structures h e = absurd (cc)
incomplete union (Array of len) structures h e = absurd (cc)

-- and it has no content yet
pub content_incomplete : (union : Bool) (names : List (List ℕ)) (type : CType) (structures : List Structure)
    → content_rule union names type structures ≡ Fits tt → IsIncomplete type structures
content_incomplete union names type structures e =
    let so = content_so union names type structures e in incomplete union type structures so.0 so.1

module _ (union : Bool) (at : Pos) (of : TypeId) (members : MembersSoFar) (scopes : List Scope) (old new : Types)
    (here : ScopesIn old scopes) where
  abbrev pub content : Ruled (Unit {0})
  content = content_rule union members.names (type_of old of) (structures_of old)

  abbrev pub body : Ruled Structure
  body = body_rule union members.names (map (type_of old) members.types) (structures_of old)

  abbrev pub ended : Structure → Env → Answer (Unit {0})
  ended structure env = Gives tt (with_structure (number_in (type_of old of)) structure env)

  abbrev pub behind : Unit {0} → Env → Answer (Unit {0})
  behind new env =
      and_then (settle at env (body_rule union members.names (map (type_of old) members.types) env.structures)) ended

  in_kind : content ≡ Fits tt → body_in old (type_of old of) members ≡ body
  in_kind e = ap (λ (u : Bool). body_rule u members.names (map (type_of old) members.types) (structures_of old))
      (kind_of union (type_of old of) (structures_of old) (content_so union members.names (type_of old of)
      (structures_of old) e).0)

  abbrev pub whole : Answer (Unit {0})
  whole = body_ended union at (type_of old of) (members_of old members) (env_of scopes old)

  fits : content ≡ Fits tt → Onward whole (behind tt (env_of scopes old)) old scopes old
  fits e = rule_fits content at behind whole old old scopes tt (onward whole scopes old here) e

  pub content_breaks : (fault : TypeFault)
      → BreaksAt content at fault
      → Refused whole fault
  content_breaks fault breaks = rule_breaks content at behind whole old old scopes fault
      (onward whole scopes old here) breaks

  changed : (completed : Completed (type_of old of) members old new)
      → env_of scopes new ≡ with_structure (number_in (type_of old of)) completed.structure (env_of scopes old)
  changed completed = λ i. record {
    scopes = scopes_stay old new completed.grows scopes here i;
    structures = completed.structures i;
    enumerations = completed.enumerations i;
  }

  pub body_answers : (result : Result (Unit {0}) TypeFault) → content ≡ Fits tt
      → RulesBody (type_of old of) members at old new result → AnswersUnit whole old scopes new result
  body_answers (Ok done) e completed =
      let on = rule_fits body at ended whole old old scopes completed.structure (fits e)
      (sym (in_kind e) ∙ completed.is) in
      record {
        is = on.is ∙ ap (Gives tt) (sym (changed completed));
        is_in = tt;
        here = scopes_stay_in old new completed.grows scopes here;
        grown = completed.grows;
      }
  body_answers (Err fault) e breaks =
      rule_breaks body at ended whole old old scopes fault (fits e)
      (subst (λ (rule : Ruled Structure). BreaksAt rule at fault) (in_kind e) breaks)
