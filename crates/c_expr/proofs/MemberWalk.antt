-- Members one by one: what is left of the walk over them, by the lists that the program goes through.
use Rattle.std.proofs.Common.{◌≡◌, ◌∙◌, ◌+◌, ◌<◌, ◌≤◌, ℕ, List, [], ◌∷◌, length, get_or, drop, map, ap, sym, refl}
use Rattle.std.proofs.Common.{arith, subst}
use Rattle.std.specs.Prelude.{All}
use Rattle.std.proofs.lemmas.List.Elements.{All-head, All-nil, All-tail, All-weaker}
use Rattle.critical_table.specs.declared.pos.Pos.{Pos}
use Rattle.c_types.specs.declared.shape.TypeId.{TypeId}
use Rattle.c_types.specs.CType.{CType, type_of}
use Rattle.c_types.specs.Making.{Grows}
use Rattle.c_types.specs.Types.{Types}
use Rattle.c_types.proofs.Kept.{grows_own}
use Rattle.c_core.specs.declared.fault.TypeFault.{TypeFault}
use Rattle.c_core.specs.Ids.{IdIn}
use Rattle.c_core.proofs.Kept.{id_in_kept, type_kept}
use Rattle.c_syntax.specs.declared.declarator.Declarator as d
use Rattle.c_syntax.specs.declared.specifier.MemberDeclaration as m
use Rattle.c_syntax.specs.Tree.{Declarator, Declares, MemberDeclaration, Members, Specifiers}
use Rattle.c_syntax.specs.View.{declarator_of, declarators, member_of, members}
use Rattle.c_scopes.specs.Clauses.{Settles}
use Rattle.c_scopes.specs.Env.{Env, ScopesIn, env_of}
use Rattle.c_scopes.specs.Ruled.{Ruled}
use Rattle.c_scopes.specs.Scopes.{Scope}
use Rattle.c_type_rules.specs.Completing.{MembersSoFar}
use Rattle.c_type_rules.specs.declared.context.Setting.TheVariants as setting
use Rattle.c_type_parts.specs.Answers.{Answer, Gives, and_then, settle}
use Rattle.c_type_parts.specs.Clauses.{Given, Refused}
use Rattle.c_type_parts.specs.Declaring.{TypedMembers, no_members}
use Rattle.c_type_parts.specs.Outlines.{bare_context}
use Rattle.c_type_parts.specs.Seen.{AnswersMore, MembersIn, members_of}
use Rattle.c_type_parts.proofs.Onward.{Onward, onward, onward_as, part_given, part_refused, rest_answers}
use Rattle.c_type_parts.proofs.Steps.{breaks_refused, fits_given, given_as, refused_as, refused_then, then_given}
use Rattle.c_expr.specs.Typing.{each_member, member_typed, members_typed, one_member, specified}
use Rattle.c_expr.proofs.ListWalk.{walk_next, walk_stopped}
use Rattle.c_expr.proofs.Rows.{left_none}

-- Members were found, and this is left of the walk over all.
pub record Gathering (whole : Answer TypedMembers) (left : TypedMembers → Env → Answer TypedMembers) (old : Types)
    (scopes : List Scope) (types : Types) (found : MembersSoFar) : Type 0 where
  pub on : Onward whole (left (members_of types found) (env_of scopes types)) old scopes types
  pub is_in : MembersIn types found

-- ---- members in a table that has grown

module _ (old new : Types) (grown : Grows old new) where
  types_kept : (all : List TypeId) → All (λ (id : TypeId). IdIn old id) all
      → map (type_of new) all ≡ map (type_of old) all
  types_kept [] h = refl
  types_kept (id ∷ rest) h =
      let first = All-head (λ (id : TypeId). IdIn old id) id rest h in
      let others = All-tail (λ (id : TypeId). IdIn old id) id rest h in
      λ i. type_kept old new grown id first i ∷ types_kept rest others i

  pub members_kept : (found : MembersSoFar) → MembersIn old found → members_of new found ≡ members_of old found
  members_kept found h = λ i. record { names = found.names; types = types_kept found.types h i }

  pub members_in_kept : (found : MembersSoFar) → MembersIn old found → MembersIn new found
  members_in_kept found h =
      All-weaker (λ (id : TypeId). IdIn old id) (λ (id : TypeId). IdIn new id) (id_in_kept old new grown) found.types h

-- ---- the declarations of a body

goes_on : (first : MemberDeclaration) (rest : List MemberDeclaration) (earlier : TypedMembers) (env : Env)
    → members_typed (members (first ∷ rest)) earlier env
    ≡ and_then (member_typed first earlier env) (λ more env. members_typed (members rest) more env)
unfolding members_typed
goes_on first rest earlier env = refl

ends : (earlier : TypedMembers) (env : Env) → members_typed (members []) earlier env ≡ Gives earlier env
unfolding members_typed
ends earlier env = refl

-- none yet
pub gathering_none : (all : Members) (scopes : List Scope) (types : Types) (found : MembersSoFar)
    → ScopesIn types scopes → found ≡ record { names = []; types = [] }
    → Gathering (members_typed all no_members (env_of scopes types)) (members_typed all) types scopes types found
gathering_none all scopes types found here e =
    subst (λ (none : MembersSoFar). Gathering (members_typed all no_members (env_of scopes types)) (members_typed all)
    types scopes types none) (sym e)
    (record {
      on = onward (members_typed all no_members (env_of scopes types)) scopes types here;
      is_in = All-nil (λ (id : TypeId). IdIn types id);
    })

module _ (whole : Answer TypedMembers) (list : List m.MemberDeclaration) (i : ℕ) (x : m.MemberDeclaration)
    (within : i < length list) (at : x ≡ get_or list i x) (old mid : Types) (scopes : List Scope)
    (found : MembersSoFar)
    (left : Gathering whole (members_typed (members (map member_of (drop i list)))) old scopes mid found) where
  -- behind the declaration at this index
  pub gathering_next : (new : Types) (after : List Scope) (more : MembersSoFar)
      → Given (member_typed (member_of x) (members_of mid found) (env_of scopes mid)) (members_of new more)
      (λ t. MembersIn t more) mid after new
      → Gathering whole (members_typed (members (map member_of (drop (i + 1) list)))) old after new more
  gathering_next new after more given = record {
    on = walk_next members member_of members_typed member_typed goes_on whole list i x within at (members_of mid found)
        old mid scopes left.on (members_of new more) (λ t. MembersIn t more) after new given;
    is_in = given.is_in;
  }

  -- it is refused
  pub gathering_stopped : (fault : TypeFault)
      → Refused (member_typed (member_of x) (members_of mid found) (env_of scopes mid)) fault → Refused whole fault
  gathering_stopped fault refused =
      walk_stopped members member_of members_typed member_typed goes_on whole list i x within at (members_of mid found)
      old mid scopes left.on fault refused

-- all of them
pub gathering_all : (whole : Answer TypedMembers) (list : List m.MemberDeclaration) (i : ℕ) → length list ≤ i
    → (old types : Types) (scopes : List Scope) (found : MembersSoFar)
    → Gathering whole (members_typed (members (map member_of (drop i list)))) old scopes types found
    → Given whole (members_of types found) (λ t. MembersIn t found) old scopes types
gathering_all whole list i h old types scopes found left = record {
  is = left.on.is
      ∙ ap (λ (rest : Members). members_typed rest (members_of types found) (env_of scopes types))
      (left_none members member_of list i h)
      ∙ ends (members_of types found) (env_of scopes types);
  is_in = left.is_in;
  here = left.on.here;
  grown = left.on.grown;
}

-- ---- the declarators of a declaration

each_goes_on : (base : CType) (first : Declarator) (rest : List Declarator) (earlier : TypedMembers) (env : Env)
    → each_member (declarators (first ∷ rest)) base earlier env
    ≡ and_then (one_member first base earlier env) (λ more env. each_member (declarators rest) base more env)
unfolding each_member
each_goes_on base first rest earlier env = refl

each_ends : (base : CType) (earlier : TypedMembers) (env : Env)
    → each_member (declarators []) base earlier env ≡ Gives earlier env
unfolding each_member
each_ends base earlier env = refl

-- what is left, behind the type of their specifiers
abbrev pub each_left : List d.Declarator → CType → TypedMembers → Env → Answer TypedMembers
each_left rest base earlier env = each_member (declarators (map declarator_of rest)) base earlier env

-- none yet
pub each_none : (list : List d.Declarator) (base : CType) (scopes : List Scope) (types : Types) (found : MembersSoFar)
    → ScopesIn types scopes → MembersIn types found
    → Gathering (each_left list base (members_of types found) (env_of scopes types)) (each_left list base) types scopes
    types found
each_none list base scopes types found here is_in = record {
  on = onward (each_left list base (members_of types found) (env_of scopes types)) scopes types here;
  is_in = is_in;
}

module _ (whole : Answer TypedMembers) (list : List d.Declarator) (i : ℕ) (x : d.Declarator)
    (within : i < length list) (at : x ≡ get_or list i x) (old mid : Types) (scopes : List Scope)
    (found : MembersSoFar) (base : TypeId) (base_in : IdIn old base)
    (left : Gathering whole (each_left (drop i list) (type_of old base)) old scopes mid found) where
  abbrev one : CType → Answer TypedMembers
  one type = one_member (declarator_of x) type (members_of mid found) (env_of scopes mid)

  same : one (type_of old base) ≡ one (type_of mid base)
  same = ap one (sym (type_kept old mid left.on.grown base base_in))

  -- behind the declarator at this index
  pub each_next : (new : Types) (after : List Scope) (more : MembersSoFar)
      → Given (one (type_of mid base)) (members_of new more) (λ t. MembersIn t more) mid after new
      → Gathering whole (each_left (drop (i + 1) list) (type_of old base)) old after new more
  each_next new after more given = record {
    on = walk_next declarators declarator_of (λ rest earlier env. each_member rest (type_of old base) earlier env)
        (λ first earlier env. one_member first (type_of old base) earlier env) (each_goes_on (type_of old base)) whole
        list i x within at (members_of mid found) old mid scopes left.on (members_of new more) (λ t. MembersIn t more)
        after new
        (given_as (one (type_of old base)) (one (type_of mid base)) (members_of new more) (λ t. MembersIn t more) mid
        after new same given);
    is_in = given.is_in;
  }

  -- it is refused
  pub each_stopped : (fault : TypeFault) → Refused (one (type_of mid base)) fault → Refused whole fault
  each_stopped fault refused =
      walk_stopped declarators declarator_of (λ rest earlier env. each_member rest (type_of old base) earlier env)
      (λ first earlier env. one_member first (type_of old base) earlier env) (each_goes_on (type_of old base)) whole
      list i x within at (members_of mid found) old mid scopes left.on fault
      (refused_as (one (type_of old base)) (one (type_of mid base)) fault same refused)

-- all of them
pub each_all : (whole : Answer TypedMembers) (list : List d.Declarator) (base : CType) (i : ℕ) → length list ≤ i
    → (old types : Types) (scopes : List Scope) (found : MembersSoFar)
    → Gathering whole (each_left (drop i list) base) old scopes types found
    → Given whole (members_of types found) (λ t. MembersIn t found) old scopes types
each_all whole list base i h old types scopes found left = record {
  is = left.on.is
      ∙ ap (λ rest. each_member rest base (members_of types found) (env_of scopes types))
      (left_none declarators declarator_of list i h)
      ∙ each_ends base (members_of types found) (env_of scopes types);
  is_in = left.is_in;
  here = left.on.here;
  grown = left.on.grown;
}
