-- Specifiers one by one: what is left of the walk over them, by the list that the program goes through.
use Rattle.std.proofs.Common.{◌≡◌, ◌∙◌, ◌+◌, ◌<◌, ◌≤◌, ℕ, List, [], ◌∷◌, length, get_or, drop, ap, sym, refl}
use Rattle.std.specs.Prelude.{false}
use Rattle.c_types.specs.declared.shape.TypeId.{TypeId}
use Rattle.c_types.specs.CType.{CType, type_of, void}
use Rattle.c_types.specs.Making.{Grows}
use Rattle.c_types.specs.Qualified.{with_quals}
use Rattle.c_types.specs.Types.{Types}
use Rattle.c_types.proofs.Kept.{grows_then}
use Rattle.c_core.specs.declared.fault.TypeFault.{TypeFault}
use Rattle.c_core.specs.Ids.{IdIn}
use Rattle.c_syntax.specs.declared.specifier.Specifier as s
use Rattle.c_syntax.specs.Tree.{Specifier, Specifiers}
use Rattle.c_syntax.specs.View.{specifier_of, specifiers, specifiers_of}
use Rattle.c_scopes.specs.Clauses.{Makes, OptionIn}
use Rattle.c_scopes.specs.Env.{Env, ScopesIn, env_of}
use Rattle.c_scopes.specs.Scopes.{Scope}
use Rattle.c_scopes.proofs.Growth.{env_kept, scopes_stay_in}
use Rattle.c_type_rules.specs.Qualified.{quals_of_words}
use Rattle.c_type_rules.specs.declared.context.Context.{Context}
use Rattle.c_type_parts.specs.declared.outlines.Before as b
use Rattle.c_type_parts.specs.declared.outlines.Outline as o
use Rattle.c_type_parts.specs.Answers.{Answer, Gives, and_then}
use Rattle.c_type_parts.specs.Clauses.{Given, Refused}
use Rattle.c_type_parts.specs.Outlines.{Before, Outline, nothing, of_specifiers, outline}
use Rattle.c_type_parts.specs.Seen.{BeforeIn, before_of, outline_of}
use Rattle.c_type_parts.specs.Shapes.{qualifier_words}
use Rattle.c_type_parts.proofs.Onward.{Onward, onward, onward_as}
use Rattle.c_type_parts.proofs.Steps.{given_as, refused_as, refused_then, then_given}
use Rattle.c_expr.specs.Typing.{each_specified, one_specified, specified}
use Rattle.c_expr.proofs.ListWalk.{walk_next, walk_stopped}
use Rattle.c_expr.proofs.Parts.{option_kept}
use Rattle.c_expr.proofs.Rows.{left_none}

-- Of specifiers some were walked, and these are left.
pub record Specifying (context : Context) (all left : Specifiers) (env : Env) (old : Types) (scopes : List Scope)
    (types : Types) (before : b.Before) : Type 0 where
  pub on : Onward (each_specified context (outline all env) all nothing env)
      (each_specified context (outline all env) left (before_of types before) (env_of scopes types)) old scopes types
  pub is_in : IdIn types before.of

goes_on : (context : Context) (whole : Outline) (first : Specifier) (rest : List Specifier) (before : Before)
    (env : Env) → each_specified context whole (specifiers (first ∷ rest)) before env
    ≡ and_then (one_specified context whole first before env)
    (λ next env. each_specified context whole (specifiers rest) next env)
unfolding each_specified
goes_on context whole first rest before env = refl

ends : (context : Context) (whole : Outline) (before : Before) (env : Env)
    → each_specified context whole (specifiers []) before env ≡ Gives before env
unfolding each_specified
ends context whole before env = refl

-- none yet
pub specifying_none : (context : Context) (all : Specifiers) (scopes : List Scope) (types : Types) (of : TypeId)
    → ScopesIn types scopes → IdIn types of → type_of types of ≡ void
    → Specifying context all all (env_of scopes types) types scopes types
    (record { storage = false; basic = false; of = of })
specifying_none context all scopes types of here is_in e = record {
  on = onward_as whole whole (left (type_of types of)) types scopes types (ap left (sym e))
      (onward whole scopes types here);
  is_in = is_in;
}
  where
    left : CType → Answer Before
    left type = each_specified context (outline all (env_of scopes types)) all
        (record { storage = false; basic = false; type = type }) (env_of scopes types)

    whole : Answer Before
    whole = left void

outline_kept : (old new : Types) → Grows old new → (code : o.Outline) → OptionIn old code.typedef
    → outline_of new code ≡ outline_of old code
outline_kept old new grown code h = λ i. record {
  words = code.words.items;
  typedef = option_kept old new grown code.typedef h i;
  static = code.is_static;
}

-- the one that stands at this index
module _ (context : Context) (list : List s.Specifier) (env : Env) (old mid : Types) (scopes : List Scope)
    (before : b.Before) (code : o.Outline) (seen : outline_of old code ≡ outline (specifiers_of list) env)
    (typedef : OptionIn old code.typedef) (i : ℕ) (x : s.Specifier) (within : i < length list)
    (at : x ≡ get_or list i x)
    (left : Specifying context (specifiers_of list) (specifiers_of (drop i list)) env old scopes mid before) where
  abbrev all : Outline
  all = outline (specifiers_of list) env

  abbrev whole : Answer Before
  whole = each_specified context all (specifiers_of list) nothing env

  abbrev one : Outline → Answer Before
  one known = one_specified context known (specifier_of x) (before_of mid before) (env_of scopes mid)

  known : one all ≡ one (outline_of mid code)
  known = ap one (sym (outline_kept old mid left.on.grown code typedef ∙ seen))

  pub specifying_next : (new : Types) (after : List Scope) (next : b.Before)
      → Given (one (outline_of mid code)) (before_of new next) (λ t. BeforeIn t next) mid after new
      → Specifying context (specifiers_of list) (specifiers_of (drop (i + 1) list)) env old after new next
  specifying_next new after next given = record {
    on = walk_next specifiers specifier_of (each_specified context all) (one_specified context all)
        (goes_on context all) whole list i x within at (before_of mid before) old mid scopes left.on
        (before_of new next) (λ t. BeforeIn t next) after new
        (given_as (one all) (one (outline_of mid code)) (before_of new next) (λ t. BeforeIn t next) mid after new known
        given);
    is_in = given.is_in;
  }

  pub specifying_stopped : (fault : TypeFault) → Refused (one (outline_of mid code)) fault
      → Refused (specified context (specifiers_of list) env) fault
  unfolding of_specifiers
  specifying_stopped fault refused =
      refused_then whole _ fault
      (walk_stopped specifiers specifier_of (each_specified context all) (one_specified context all)
      (goes_on context all) whole list i x within at (before_of mid before) old mid scopes left.on fault
      (refused_as (one all) (one (outline_of mid code)) fault known refused))

-- all of them: the type is made with the qualifiers among them
pub specifying_all : (context : Context) (list : List s.Specifier) (env : Env) (old mid new : Types)
    (scopes : List Scope) (before : b.Before) (i : ℕ) (made : TypeId) → length list ≤ i
    → Specifying context (specifiers_of list) (specifiers_of (drop i list)) env old scopes mid before
    → Makes type_of IdIn (with_quals (quals_of_words (qualifier_words (specifiers_of list))) (type_of mid before.of))
    mid
    new made
    → Given (specified context (specifiers_of list) env) (type_of new made) (λ t. IdIn t made) old scopes new
unfolding of_specifiers
specifying_all context list env old mid new scopes before i made h left makes = record {
  is = then_given whole (before_of mid before) (env_of scopes mid)
      (λ last env. Gives (with_quals (quals_of_words (qualifier_words (specifiers_of list))) last.type) env)
      (left.on.is
      ∙ ap (λ (rest : Specifiers). each_specified context (outline (specifiers_of list) env) rest (before_of mid before)
      (env_of scopes mid)) (left_none specifiers specifier_of list i h)
      ∙ ends context (outline (specifiers_of list) env) (before_of mid before) (env_of scopes mid))
      ∙ (λ k. Gives (sym makes.is k) (sym (env_kept scopes mid new makes.kept left.on.here) k));
  is_in = makes.is_in;
  here = scopes_stay_in mid new makes.kept.grows scopes left.on.here;
  grown = grows_then old mid new left.on.grown makes.kept.grows;
}
  where
    whole : Answer Before
    whole = each_specified context (outline (specifiers_of list) env) (specifiers_of list) nothing env
