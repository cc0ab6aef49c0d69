-- Arguments one by one: those that were passed, and those that are left.
use Rattle.std.proofs.Common.{◌≡◌, ◌∙◌, ◌+◌, ◌<◌, ◌≤◌, ◌++◌, ℕ, Bool, List, [], ◌∷◌, length, get_or, drop, map}
use Rattle.std.proofs.Common.{refl, ap, sym, subst, true}
use Rattle.std.specs.Prelude.{Option}
use Rattle.std.proofs.Math.ListN.{drop_of_length-le}
use Rattle.std.proofs.Math.Numerals.{add-one}
use Rattle.std.proofs.Math.Seq.{drop-cons}
use Rattle.c_types.specs.CType.{CType, CTypes}
use Rattle.c_types.specs.Making.{Grows}
use Rattle.c_types.specs.Types.{Types}
use Rattle.c_types.proofs.Kept.{grows_own, grows_then}
use Rattle.c_core.specs.declared.expression.CoreExpr.{CoreExpr}
use Rattle.c_core.specs.declared.fault.TypeFault.{TypeFault}
use Rattle.c_core.specs.Ids.{CoreIn, CoresIn}
use Rattle.c_core.specs.Tree.{Core, Cores, NoCore, MoreCores, cores}
use Rattle.c_core.specs.View.{core_of}
use Rattle.c_syntax.specs.declared.expression.Expr as e
use Rattle.c_syntax.specs.Tree.{Expr, Exprs, MoreExprs}
use Rattle.c_syntax.specs.View.{expr_of, exprs}
use Rattle.c_scopes.specs.Env.{Env, ScopesIn, env_of}
use Rattle.c_scopes.specs.Scopes.{Scope}
use Rattle.c_type_parts.specs.Answers.{Answer, Gives, Refuses, and_then}
use Rattle.c_type_parts.specs.Clauses.{Given, Refused}
use Rattle.c_expr.specs.Operands.{behind_first, first_of, types_behind}
use Rattle.c_type_parts.specs.Shapes.{place_of}
use Rattle.c_expr.specs.Typing.{passed, typed}
use Rattle.c_expr.specs.Uses.{as_argument}
use Rattle.c_expr.proofs.Parts.{cores_kept, cores_in_kept}
use Rattle.c_type_parts.proofs.Steps.{given_as, refused_then, refused_as, then_given}

-- these in front of others
abbrev pub in_front : List Core → Cores → Cores
in_front [] more = more
in_front (first ∷ rest) more = MoreCores first (in_front rest more)

in_front_of_none : (all : List Core) → in_front all NoCore ≡ cores all
in_front_of_none [] = refl
in_front_of_none (first ∷ rest) = ap (MoreCores first) (in_front_of_none rest)

in_front_of_one : (all : List Core) (core : Core) (more : Cores)
    → in_front all (MoreCores core more) ≡ in_front (all ++ core ∷ []) more
in_front_of_one [] core more = refl
in_front_of_one (first ∷ rest) core more = ap (MoreCores first) (in_front_of_one rest core more)

-- the answer for all arguments, of which these were passed
abbrev pub onto : List Core → Answer Cores → Answer Cores
onto all rest = and_then rest (λ more env. Gives (in_front all more) env)

onto_none : (rest : Answer Cores) → rest ≡ onto [] rest
unfolding and_then
onto_none (Gives more env) = refl
onto_none (Refuses number at) = refl

onto_one : (all : List Core) (core : Core) (rest : Answer Cores)
    → onto all (and_then rest (λ more env. Gives (MoreCores core more) env)) ≡ onto (all ++ core ∷ []) rest
unfolding and_then
onto_one all core (Gives more env) = ap (λ x. Gives x env) (in_front_of_one all core more)
onto_one all core (Refuses number at) = refl

-- Of a call's arguments some were passed, and these are left.
pub record Passing (whole : Answer Cores) (parameters : CTypes) (variadic : Bool) (left : Exprs) (count : ℕ)
    (old : Types)
    (scopes : List Scope) (types : Types) (done : List CoreExpr) : Type 0 where
  pub is : whole ≡ onto (map (core_of types) done)
      (passed left (types_behind count parameters) variadic (env_of scopes types))
  pub is_in : CoresIn types done
  pub here : ScopesIn types scopes
  pub grown : Grows old types

-- none yet
pub passing_none : (left : Exprs) (parameters : CTypes) (variadic : Bool) (scopes : List Scope) (types : Types)
    → ScopesIn types scopes
    → (done : List CoreExpr) → done ≡ []
    → Passing (passed left parameters variadic (env_of scopes types)) parameters variadic left 0 types scopes types done
passing_none left parameters variadic scopes types here done e =
    subst (λ (all : List CoreExpr). Passing (passed left parameters variadic (env_of scopes types)) parameters variadic
    left 0 types scopes types all) (sym e) (record {
      is = onto_none (passed left parameters variadic (env_of scopes types));
      is_in = tt;
      here = here;
      grown = grows_own types;
    })

map_one : {A B : Type 0} (f : A → B) (all : List A) (x : A) → map f (all ++ x ∷ []) ≡ map f all ++ f x ∷ []
map_one f [] x = refl
map_one f (first ∷ rest) x = ap (λ more. f first ∷ more) (map_one f rest x)

all_in : (types : Types) (all : List CoreExpr) (x : CoreExpr) → CoresIn types all → CoreIn types x
    → CoresIn types (all ++ x ∷ [])
all_in types [] x h g = (g, tt)
all_in types (first ∷ rest) x h g = (h.0, all_in types rest x h.1 g)

passed_first : (first : Expr) (rest : Exprs) (parameters : CTypes) (variadic : Bool) (env : Env)
    → passed (MoreExprs first rest) parameters variadic env
    ≡ and_then (as_argument (first_of parameters) variadic (place_of first) (typed true first env)) (λ a env.
    and_then (passed rest (behind_first parameters) variadic env) (λ more env. Gives (MoreCores a more) env))
unfolding typed passed
passed_first first rest parameters variadic env = refl

passing_as : (whole : Answer Cores) (parameters : CTypes) (variadic : Bool) (left other : Exprs) (count : ℕ)
    (old types : Types) (scopes : List Scope) (done : List CoreExpr) → left ≡ other
    → Passing whole parameters variadic left count old scopes types done
    → Passing whole parameters variadic other count old scopes types done
passing_as whole parameters variadic left other count old types scopes done e before = record {
  is = before.is ∙ ap (λ all. onto (map (core_of types) done)
      (passed all (types_behind count parameters) variadic (env_of scopes types))) e;
  is_in = before.is_in;
  here = before.here;
  grown = before.grown;
}

module _ (whole : Answer Cores) (parameters : CTypes) (variadic : Bool) (first : Expr) (rest : Exprs) (count : ℕ)
    (old mid : Types) (scopes : List Scope) (done : List CoreExpr)
    (before : Passing whole parameters variadic (MoreExprs first rest) count old scopes mid done) where
  -- one more
  pub passing_one : (new : Types) (after : List Scope) (core : CoreExpr)
      → Given (as_argument (first_of (types_behind count parameters)) variadic (place_of first)
      (typed true first (env_of scopes mid))) (core_of new core) (λ t. CoreIn t core) mid after new
      → Passing whole parameters variadic rest (count + 1) old after new (done ++ core ∷ [])
  passing_one new after core given = record {
    is = before.is
        ∙ ap (onto (map (core_of mid) done)) (passed_first first rest (types_behind count parameters) variadic
        (env_of scopes mid)
        ∙ then_given (as_argument (first_of (types_behind count parameters)) variadic (place_of first)
        (typed true first (env_of scopes mid))) (core_of new core) (env_of after new) (λ a env.
        and_then (passed rest (behind_first (types_behind count parameters)) variadic env)
        (λ more env. Gives (MoreCores a more) env)) given.is)
        ∙ onto_one (map (core_of mid) done) (core_of new core)
        (passed rest (behind_first (types_behind count parameters)) variadic (env_of after new))
        ∙ ap (λ all. onto (all ++ core_of new core ∷ [])
        (passed rest (behind_first (types_behind count parameters)) variadic (env_of after new)))
        (sym (cores_kept mid new given.grown done before.is_in))
        ∙ ap (λ all. onto all
        (passed rest (behind_first (types_behind count parameters)) variadic (env_of after new)))
        (sym (map_one (core_of new) done core))
        ∙ ap (λ n. onto (map (core_of new) (done ++ core ∷ []))
        (passed rest (types_behind n parameters) variadic (env_of after new))) (sym (add-one count));
    is_in = all_in new done core (cores_in_kept mid new given.grown done before.is_in) given.is_in;
    here = given.here;
    grown = grows_then old mid new before.grown given.grown;
  }

  pub passing_refused : (fault : TypeFault)
      → Refused (as_argument (first_of (types_behind count parameters)) variadic (place_of first)
      (typed true first (env_of scopes mid))) fault
      → Refused whole fault
  passing_refused fault refused =
      refused_as whole (onto (map (core_of mid) done)
      (passed (MoreExprs first rest) (types_behind count parameters) variadic (env_of scopes mid))) fault before.is
      (refused_then (passed (MoreExprs first rest) (types_behind count parameters) variadic (env_of scopes mid))
      (λ more env. Gives (in_front (map (core_of mid) done) more) env) fault
      (refused_as (passed (MoreExprs first rest) (types_behind count parameters) variadic (env_of scopes mid))
      (and_then (as_argument (first_of (types_behind count parameters)) variadic (place_of first)
      (typed true first (env_of scopes mid))) (λ a env.
      and_then (passed rest (behind_first (types_behind count parameters)) variadic env)
      (λ more env. Gives (MoreCores a more) env))) fault
      (passed_first first rest (types_behind count parameters) variadic (env_of scopes mid))
      (refused_then (as_argument (first_of (types_behind count parameters)) variadic (place_of first)
      (typed true first (env_of scopes mid))) (λ a env.
      and_then (passed rest (behind_first (types_behind count parameters)) variadic env)
      (λ more env. Gives (MoreCores a more) env)) fault refused)))

-- all
pub passing_all : (whole : Answer Cores) (parameters : CTypes) (variadic : Bool) (count : ℕ) (old types : Types)
    (scopes : List Scope) (done : List CoreExpr)
    → Passing whole parameters variadic (exprs []) count old scopes types done
    → Given whole (cores (map (core_of types) done)) (λ t. CoresIn t done) old scopes types
unfolding and_then passed
passing_all whole parameters variadic count old types scopes done before = record {
  is = before.is ∙ ap (λ x. Gives x (env_of scopes types)) (in_front_of_none (map (core_of types) done));
  is_in = before.is_in;
  here = before.here;
  grown = before.grown;
}

-- ---- the same by the list that the program goes through

left_at : (list : List e.Expr) (i : ℕ) (x : e.Expr) → i < length list → x ≡ get_or list i x
    → exprs (map expr_of (drop i list)) ≡ MoreExprs (expr_of x) (exprs (map expr_of (drop (i + 1) list)))
left_at list i x h e =
    ap (λ xs. exprs (map expr_of xs)) (drop-cons list i x h)
    ∙ (λ k. MoreExprs (expr_of (sym e k)) (exprs (map expr_of (drop (sym (add-one i) k) list))))

module _ (whole : Answer Cores) (parameters : CTypes) (variadic : Bool) (list : List e.Expr) (i : ℕ) (x : e.Expr)
    (old mid : Types) (scopes : List Scope) (done : List CoreExpr) (parameter : Option CType) (varies : Bool)
    (within : i < length list) (at : x ≡ get_or list i x)
    (before : Passing whole parameters variadic (exprs (map expr_of (drop i list))) i old scopes mid done)
    (same : parameter ≡ first_of (types_behind i parameters)) (alike : varies ≡ variadic) where
  named : as_argument (first_of (types_behind i parameters)) variadic (place_of (expr_of x))
      (typed true (expr_of x) (env_of scopes mid))
      ≡ as_argument parameter varies (place_of (expr_of x)) (typed true (expr_of x) (env_of scopes mid))
  named = λ k. as_argument (sym same k) (sym alike k) (place_of (expr_of x))
      (typed true (expr_of x) (env_of scopes mid))

  again : Passing whole parameters variadic (MoreExprs (expr_of x) (exprs (map expr_of (drop (i + 1) list)))) i old
      scopes mid done
  again = passing_as whole parameters variadic (exprs (map expr_of (drop i list)))
      (MoreExprs (expr_of x) (exprs (map expr_of (drop (i + 1) list)))) i old mid scopes done
      (left_at list i x within at)
      before

  pub passing_next : (new : Types) (after : List Scope) (core : CoreExpr)
      → Given (as_argument parameter varies (place_of (expr_of x)) (typed true (expr_of x) (env_of scopes mid)))
      (core_of new core) (λ t. CoreIn t core) mid after new
      → Passing whole parameters variadic (exprs (map expr_of (drop (i + 1) list))) (i + 1) old after new
      (done ++ core ∷ [])
  passing_next new after core given =
      passing_one whole parameters variadic (expr_of x) (exprs (map expr_of (drop (i + 1) list))) i old mid scopes done
      again new after core
      (given_as (as_argument (first_of (types_behind i parameters)) variadic (place_of (expr_of x))
      (typed true (expr_of x) (env_of scopes mid)))
      (as_argument parameter varies (place_of (expr_of x)) (typed true (expr_of x) (env_of scopes mid)))
      (core_of new core) (λ t. CoreIn t core) mid after new named given)

  pub passing_stopped : (fault : TypeFault)
      → Refused (as_argument parameter varies (place_of (expr_of x)) (typed true (expr_of x) (env_of scopes mid))) fault
      → Refused whole fault
  passing_stopped fault refused =
      passing_refused whole parameters variadic (expr_of x) (exprs (map expr_of (drop (i + 1) list))) i old mid scopes
      done again fault
      (refused_as (as_argument (first_of (types_behind i parameters)) variadic (place_of (expr_of x))
      (typed true (expr_of x) (env_of scopes mid)))
      (as_argument parameter varies (place_of (expr_of x)) (typed true (expr_of x) (env_of scopes mid))) fault named
      refused)

pub passing_end : (whole : Answer Cores) (parameters : CTypes) (variadic : Bool) (list : List e.Expr) (i : ℕ)
    (old types : Types) (scopes : List Scope) (done : List CoreExpr) → length list ≤ i
    → Passing whole parameters variadic (exprs (map expr_of (drop i list))) i old scopes types done
    → Given whole (cores (map (core_of types) done)) (λ t. CoresIn t done) old scopes types
passing_end whole parameters variadic list i old types scopes done h before =
    passing_all whole parameters variadic i old types scopes done
    (passing_as whole parameters variadic (exprs (map expr_of (drop i list))) (exprs []) i old types scopes done
    (ap (λ xs. exprs (map expr_of xs)) (drop_of_length-le list h)) before)

pub passing_items : (whole : Answer Cores) (parameters : CTypes) (variadic : Bool) (left : Exprs) (count : ℕ)
    (old types : Types) (scopes : List Scope) (items all : List CoreExpr) → items ≡ all
    → Passing whole parameters variadic left count old scopes types all
    → Passing whole parameters variadic left count old scopes types items
passing_items whole parameters variadic left count old types scopes items all e before =
    subst (λ (xs : List CoreExpr). Passing whole parameters variadic left count old scopes types xs) (sym e) before
