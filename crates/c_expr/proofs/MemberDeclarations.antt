-- One declaration of members: without a declarator, and with some.
use Rattle.std.proofs.Common.{◌≡◌, ◌∙◌, ◌==◌, List, [], ◌∷◌, true, false, length, map, ap, sym, refl, arith}
use Rattle.std.proofs.lemmas.Bool.{false≢true}
use Rattle.std.proofs.lemmas.Bool.Decides.{nat_tests}
use Rattle.std.specs.Prelude.{Result, Ok, Err}
use Rattle.critical_table.specs.declared.pos.Pos.{Pos}
use Rattle.c_types.specs.declared.shape.TypeId.{TypeId}
use Rattle.c_types.specs.CType.{CType, type_of}
use Rattle.c_types.specs.Types.{Types}
use Rattle.c_types.proofs.Kept.{grows_own}
use Rattle.c_core.specs.declared.fault.TypeFault.{TypeFault}
use Rattle.c_core.specs.Ids.{IdIn}
use Rattle.c_syntax.specs.declared.declarator.Declarator as d
use Rattle.c_syntax.specs.Tree.{Declarator, Declares, Specifiers}
use Rattle.c_syntax.specs.View.{declarator_of, declarators}
use Rattle.c_scopes.specs.Clauses.{BreaksAt, Settles}
use Rattle.c_scopes.specs.Env.{Env, ScopesIn, env_of}
use Rattle.c_scopes.specs.Ruled.{Ruled}
use Rattle.c_scopes.specs.Scopes.{Scope}
use Rattle.c_type_rules.specs.Completing.{MembersSoFar}
use Rattle.c_type_rules.specs.Members.{no_member_rule}
use Rattle.c_type_rules.specs.declared.context.Context.{Context}
use Rattle.c_type_rules.specs.declared.context.Setting.TheVariants as setting
use Rattle.c_type_parts.specs.Answers.{Answer, Gives, and_then, settle}
use Rattle.c_type_parts.specs.Clauses.{Given, Refused}
use Rattle.c_type_parts.specs.Declaring.{TypedMembers, member_added, name_or_none, no_ellipsis}
use Rattle.c_type_parts.specs.Outlines.{bare_context}
use Rattle.c_type_parts.specs.Seen.{AnswersMore, MembersIn, members_of}
use Rattle.c_type_parts.specs.Shapes.{first_place, name_in, names_something, own_place, start}
use Rattle.c_type_parts.proofs.Onward.{Onward, onward, onward_as, part_given, part_refused, rest_answers}
use Rattle.c_type_parts.proofs.Steps.{breaks_refused, fits_given, refused_as, refused_then, then_given}
use Rattle.c_expr.specs.Typing.{declared, each_member, member_typed, one_member, specified}
use Rattle.c_expr.proofs.MemberWalk.{each_left, members_kept}

module _ (specifiers : Specifiers) (list : List d.Declarator) (found : MembersSoFar) (scopes : List Scope)
    (types : Types) (here : ScopesIn types scopes) where
  abbrev whole : Answer TypedMembers
  whole = member_typed (Declares specifiers (declarators (map declarator_of list))) (members_of types found)
      (env_of scopes types)

  abbrev rule : Ruled (Unit {0})
  rule = no_member_rule (names_something specifiers)

  without : (none : List d.Declarator) → true ≡ (length none == 0)
      → member_typed (Declares specifiers (declarators (map declarator_of none))) (members_of types found)
      (env_of scopes types)
      ≡ and_then (settle (first_place specifiers) (env_of scopes types) rule)
      (λ none env. Gives (members_of types found) env)
  unfolding member_typed
  without [] e = refl
  without (first ∷ rest) e = absurd (grind (arith, nat_tests))

  -- what the rule of a declaration without a declarator says
  pub no_member_answers : (result : Result (Unit {0}) TypeFault) → true ≡ (length list == 0)
      → MembersIn types found
      → Settles rule (first_place specifiers) result
      → AnswersMore whole found types scopes types result
  no_member_answers (Ok done) e is_in fits = record {
    is = without list e
        ∙ then_given (settle (first_place specifiers) (env_of scopes types) rule) tt (env_of scopes types)
        (λ none env. Gives (members_of types found) env)
        (fits_given (first_place specifiers) (env_of scopes types) rule tt fits);
    is_in = is_in;
    here = here;
    grown = grows_own types;
  }
  no_member_answers (Err fault) e is_in breaks =
      refused_as whole (and_then (settle (first_place specifiers) (env_of scopes types) rule)
      (λ none env. Gives (members_of types found) env)) fault (without list e)
      (refused_then (settle (first_place specifiers) (env_of scopes types) rule)
      (λ none env. Gives (members_of types found) env) fault
      (breaks_refused (first_place specifiers) (env_of scopes types) rule fault breaks))

  abbrev typed : Answer CType
  typed = specified (bare_context setting.Member) specifiers (env_of scopes types)

  abbrev behind : CType → Env → Answer TypedMembers
  behind base env = each_left list base (members_of types found) env

  with_some : (some : List d.Declarator) → false ≡ (length some == 0)
      → member_typed (Declares specifiers (declarators (map declarator_of some))) (members_of types found)
      (env_of scopes types)
      ≡ and_then typed (λ base env. each_left some base (members_of types found) env)
  unfolding member_typed
  with_some [] h = absurd (false≢true h)
  with_some (first ∷ rest) h = refl

  some_left : false ≡ (length list == 0) → Onward whole (and_then typed behind) types scopes types
  some_left some =
      onward_as whole whole (and_then typed behind) types scopes types (with_some list some)
      (onward whole scopes types here)

  -- its specifiers are refused
  pub base_refused : (fault : TypeFault) → false ≡ (length list == 0) → Refused typed fault → Refused whole fault
  base_refused fault some refused =
      part_refused typed behind whole types types scopes fault (some_left some) refused

  -- the declarators answer for the whole
  pub declarators_answer : (base : TypeId) (more : MembersSoFar) (mid new : Types) (before after : List Scope)
      (result : Result (Unit {0}) TypeFault) → false ≡ (length list == 0) → MembersIn types found
      → Given typed (type_of mid base) (λ t. IdIn t base) types before mid
      → AnswersMore (each_left list (type_of mid base) (members_of mid found) (env_of before mid)) more mid after new
      result
      → AnswersMore whole more types after new result
  declarators_answer base more mid new before after result some is_in given answers =
      rest_answers whole
      (each_left list (type_of mid base) (members_of mid found) (env_of before mid)) types mid before
      (λ t done. members_of t more) (λ t done. MembersIn t more) after new result
      (onward_as whole (behind (type_of mid base) (env_of before mid))
      (each_left list (type_of mid base) (members_of mid found) (env_of before mid)) types before mid
      (ap (λ (earlier : TypedMembers). each_left list (type_of mid base) earlier (env_of before mid))
      (sym (members_kept types mid given.grown found is_in)))
      (part_given typed behind whole types types scopes (type_of mid base) (λ t. IdIn t base) before mid
      (some_left some) given))
      answers

-- ---- one member: the type that its declarator makes, and then its rule

module _ (declarator : Declarator) (base : CType) (found : MembersSoFar) (scopes : List Scope) (types : Types)
    (here : ScopesIn types scopes) where
  abbrev member : Answer TypedMembers
  member = one_member declarator base (members_of types found) (env_of scopes types)

  abbrev made : Answer CType
  made = declared (no_ellipsis start) declarator base (env_of scopes types)

  abbrev added : TypedMembers → CType → Env → Answer TypedMembers
  added earlier type env =
      member_added (own_place declarator start) (name_or_none (name_in declarator)) type earlier env

  pub type_refused : (fault : TypeFault) → Refused made fault → Refused member fault
  type_refused fault refused = refused_then made (added (members_of types found)) fault refused

  pub rule_answers : (of : TypeId) (more : MembersSoFar) (mid : Types) (after : List Scope)
      (result : Result (Unit {0}) TypeFault) → MembersIn types found
      → Given made (type_of mid of) (λ t. IdIn t of) types after mid
      → AnswersMore (added (members_of mid found) (type_of mid of) (env_of after mid)) more mid after mid result
      → AnswersMore member more types after mid result
  rule_answers of more mid after result is_in given answers =
      rest_answers member (added (members_of mid found) (type_of mid of) (env_of after mid)) types mid after
      (λ t done. members_of t more) (λ t done. MembersIn t more) after mid result
      (onward_as member (added (members_of types found) (type_of mid of) (env_of after mid))
      (added (members_of mid found) (type_of mid of) (env_of after mid)) types after mid
      (ap (λ (earlier : TypedMembers). added earlier (type_of mid of) (env_of after mid))
      (sym (members_kept types mid given.grown found is_in)))
      (part_given made (added (members_of types found)) member types types scopes (type_of mid of) (λ t. IdIn t of)
      after mid (onward member scopes types here) given))
      answers
