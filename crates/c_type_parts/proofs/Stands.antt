-- A specifier that is a word: its rule fits, and the specifiers so far say so, or it is refused.
use Rattle.std.proofs.Common.{◌≡◌, ◌∙◌, ap, refl, sym, subst, List, Bool, true}
use Rattle.std.specs.Prelude.{Option, Some, None}
use Rattle.critical_table.specs.declared.pos.Pos.{Pos}
use Rattle.c_types.specs.declared.shape.TypeId.{TypeId}
use Rattle.c_types.specs.CType.{CType, type_of}
use Rattle.c_types.specs.Types.{Types}
use Rattle.c_types.proofs.Kept.{grows_own}
use Rattle.c_core.specs.declared.fault.TypeFault.{TypeFault}
use Rattle.c_core.specs.declared.fault.TypeFault.TheVariants as fault
use Rattle.c_core.specs.Ids.{IdIn}
use Rattle.c_scopes.specs.Clauses.{BreaksAt, Follows, OptionIn, type_or_none}
use Rattle.c_scopes.specs.Env.{Env, ScopesIn, env_of}
use Rattle.c_scopes.specs.Ruled.{Ruled, Fits}
use Rattle.c_scopes.specs.Scopes.{Scope}
use Rattle.c_type_parts.specs.declared.outlines.Before.{Before as Code}
use Rattle.c_type_parts.specs.Answers.{Answer, Gives, Refuses, and_then, settle}
use Rattle.c_type_parts.specs.Clauses.{Given, Refused}
use Rattle.c_type_parts.specs.Outlines.{Before, type_on, typedef_rule}
use Rattle.c_type_parts.specs.Seen.{BeforeIn, before_of}
use Rattle.c_type_parts.proofs.Steps.{then_given, fits_given, refused_then, breaks_refused}

module _ {A : Type 0} (rule : Ruled A) (at : Pos) (scopes : List Scope) (types : Types) where
  -- a rule that breaks
  pub stands_refused : {B : Type 0} (next : A → Env → Answer B) (fault : TypeFault) → BreaksAt rule at fault
      → Refused (and_then (settle at (env_of scopes types) rule) next) fault
  stands_refused next fault breaks =
      refused_then (settle at (env_of scopes types) rule) next fault
      (breaks_refused at (env_of scopes types) rule fault breaks)

  -- a rule that fits, behind which all is as it was
  pub stands_given : (a : A) (before : Before) (code : Code) → rule ≡ Fits a → before_of types code ≡ before
      → ScopesIn types scopes → IdIn types code.of
      → Given (and_then (settle at (env_of scopes types) rule) (λ stands env. Gives before env))
      (before_of types code) (λ t. BeforeIn t code) types scopes types
  stands_given a before code fits same here is_in = record {
    is = then_given (settle at (env_of scopes types) rule) a (env_of scopes types) (λ stands env. Gives before env)
        (fits_given at (env_of scopes types) rule a fits)
        ∙ ap (λ (b : Before). Gives b (env_of scopes types)) (sym same);
    is_in = is_in;
    here = here;
    grown = grows_own types;
  }

-- the words of a basic type
abbrev pub basic_next : Bool → CType → Env → Answer Before
basic_next storage type env = Gives (record { storage = storage; basic = true; type = type }) env

pub basic_given : (rule : Ruled CType) (at : Pos) (scopes : List Scope) (types : Types) (storage : Bool) (of : TypeId)
    → ScopesIn types scopes → Follows rule (type_of types of) (λ t. IdIn t of) types types
    → Given (and_then (settle at (env_of scopes types) rule) (basic_next storage))
    (record { storage = storage; basic = true; type = type_of types of }) (λ t. IdIn t of) types scopes types
basic_given rule at scopes types storage of here follows = record {
  is = then_given (settle at (env_of scopes types) rule) (type_of types of) (env_of scopes types)
      (basic_next storage) (fits_given at (env_of scopes types) rule (type_of types of) follows.is);
  is_in = follows.is_in;
  here = here;
  grown = grows_own types;
}

-- the type of a typedef name
pub no_typedef : (at : Pos) (scopes : List Scope) (types : Types) (typedef : Option TypeId) → typedef ≡ None
    → settle at (env_of scopes types) (typedef_rule (type_or_none types typedef)) ≡ Refuses 1 at
no_typedef at scopes types typedef e =
    breaks_refused at (env_of scopes types) (typedef_rule (type_or_none types typedef)) (fault.Constraint 1 at)
    (ap (λ (typedef : Option TypeId). typedef_rule (type_or_none types typedef)) e, refl)

pub some_typedef : (at : Pos) (scopes : List Scope) (types : Types) (typedef : Option TypeId) (of : TypeId)
    → typedef ≡ Some of → ScopesIn types scopes → OptionIn types typedef
    → Given (settle at (env_of scopes types) (typedef_rule (type_or_none types typedef))) (type_of types of)
    (λ t. IdIn t of) types scopes types
some_typedef at scopes types typedef of e here is_in = record {
  is = fits_given at (env_of scopes types) (typedef_rule (type_or_none types typedef)) (type_of types of)
      (ap (λ (typedef : Option TypeId). typedef_rule (type_or_none types typedef)) e);
  is_in = subst (λ (typedef : Option TypeId). OptionIn types typedef) e is_in;
  here = here;
  grown = grows_own types;
}

pub type_refused : (before : Before) (answer : Answer CType) (fault : TypeFault) → Refused answer fault
    → Refused (type_on before answer) fault
unfolding type_on
type_refused before answer fault refused = refused_then answer _ fault refused

pub type_given : (now old types : Types) (before : Code) (of : TypeId) (answer : Answer CType) (scopes : List Scope)
    → Given answer (type_of types of) (λ t. IdIn t of) old scopes types
    → Given (type_on (before_of now before) answer)
    (before_of types (record { storage = before.storage; basic = before.basic; of = of }))
    (λ t. IdIn t of) old scopes types
unfolding type_on
type_given now old types before of answer scopes given = record {
  is = then_given answer (type_of types of) (env_of scopes types) _ given.is;
  is_in = given.is_in;
  here = given.here;
  grown = given.grown;
}
