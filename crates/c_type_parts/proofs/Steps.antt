-- How the answers of parts and of rules make the answer of a node.
use Rattle.std.proofs.Common.{◌≡◌, ◌∙◌, ap, sym, refl, subst, ℕ, List}
use Rattle.std.specs.Prelude.{Result, Ok, Err}
use Rattle.critical_table.specs.declared.pos.Pos.{Pos}
use Rattle.c_types.specs.Types.{Types}
use Rattle.c_types.proofs.Kept.{grows_then}
use Rattle.c_core.specs.declared.fault.TypeFault.{TypeFault}
use Rattle.c_core.specs.declared.fault.TypeFault.TheVariants as fault
use Rattle.c_scopes.specs.Clauses.{BreaksAt, Rules}
use Rattle.c_scopes.specs.Env.{Env, ScopesIn, env_of}
use Rattle.c_scopes.specs.Ruled.{Ruled, Fits, Breaks}
use Rattle.c_scopes.specs.Scopes.{Scope}
use Rattle.c_scopes.proofs.Growth.{env_kept, scopes_stay_in}
use Rattle.c_type_parts.specs.Answers.{Answer, Gives, Refuses, and_then, settle}
use Rattle.c_type_parts.specs.Clauses.{Answers, Given, Refused}

-- a rule that fits or breaks
settles_fit : {A : Type 0} (at : Pos) (env : Env) (a : A) → settle at env (Fits a) ≡ Gives a env
unfolding settle
settles_fit at env a = refl

settles_break : {A : Type 0} (at : Pos) (env : Env) (rule : Ruled A) (number : ℕ) (place : Pos)
    → rule ≡ Breaks number → place ≡ at → settle at env rule ≡ Refuses number place
unfolding settle
settles_break at env rule number place e p = ap (settle at env) e ∙ ap (Refuses number) (sym p)

module _ {A B : Type 0} (view : Types → B → A) (In : Types → B → Type 0) where
  -- the answer of a node is what its rule says, where nothing but types was made
  pub settled : (rule : Ruled A) (at : Pos) (scopes : List Scope) (old new : Types) (result : Result B TypeFault)
      → ScopesIn old scopes → Rules view In rule at old new result
      → Answers view In (settle at (env_of scopes old) rule) old scopes new result
  settled rule at scopes old new (Ok x) here says = record {
    is = ap (settle at (env_of scopes old)) says.is ∙ settles_fit at (env_of scopes old) (view new x)
        ∙ ap (Gives (view new x)) (sym (env_kept scopes old new says.kept here));
    is_in = says.is_in;
    here = scopes_stay_in old new says.kept.grows scopes here;
    grown = says.kept.grows;
  }
  settled rule at scopes old new (Err (fault.Constraint number place)) here says =
      settles_break at (env_of scopes old) rule number place says.0 says.1
  settled rule at scopes old new (Err (fault.Memory cause)) here says = tt

-- behind a part that gives a value
pub then_given : {A B : Type 0} (answer : Answer A) (a : A) (env : Env) (next : A → Env → Answer B)
    → answer ≡ Gives a env → and_then answer next ≡ next a env
unfolding and_then
then_given answer a env next e = ap (λ x. and_then x next) e

-- behind a part that is refused
pub then_refused : {A B : Type 0} (answer : Answer A) (number : ℕ) (at : Pos) (next : A → Env → Answer B)
    → answer ≡ Refuses number at → and_then answer next ≡ Refuses number at
unfolding and_then
then_refused answer number at next e = ap (λ x. and_then x next) e

pub refused_then : {A B : Type 0} (answer : Answer A) (next : A → Env → Answer B) (fault : TypeFault)
    → Refused answer fault → Refused (and_then answer next) fault
refused_then answer next (fault.Constraint number at) refused = then_refused answer number at next refused
refused_then answer next (fault.Memory cause) refused = tt

-- a node without types: its rule fits or breaks
pub fits_given : {A : Type 0} (at : Pos) (env : Env) (rule : Ruled A) (a : A) → rule ≡ Fits a
    → settle at env rule ≡ Gives a env
fits_given at env rule a e = ap (settle at env) e ∙ settles_fit at env a

pub breaks_refused : {A : Type 0} (at : Pos) (env : Env) (rule : Ruled A) (fault : TypeFault)
    → BreaksAt rule at fault → Refused (settle at env rule) fault
breaks_refused at env rule (fault.Constraint number place) says =
    settles_break at env rule number place says.0 says.1
breaks_refused at env rule (fault.Memory cause) says = tt

-- a part that is refused behind one that is not
pub refused_later : {A B : Type 0} (answer : Answer A) (next : A → Env → Answer B) (a : A) (In : Types → Type 0)
    (old mid : Types) (scopes : List Scope) (fault : TypeFault) → Given answer a In old scopes mid
    → Refused (next a (env_of scopes mid)) fault → Refused (and_then answer next) fault
refused_later answer next a In old mid scopes fault part refused =
    subst (λ whole. Refused whole fault) (sym (then_given answer a (env_of scopes mid) next part.is)) refused

-- the same answer by another name
pub given_as : {A : Type 0} (answer other : Answer A) (a : A) (In : Types → Type 0) (old : Types)
    (scopes : List Scope) (types : Types) → answer ≡ other → Given other a In old scopes types
    → Given answer a In old scopes types
given_as answer other a In old scopes types e given = record {
  is = e ∙ given.is;
  is_in = given.is_in;
  here = given.here;
  grown = given.grown;
}

pub refused_as : {A : Type 0} (answer other : Answer A) (fault : TypeFault) → answer ≡ other → Refused other fault
    → Refused answer fault
refused_as answer other (fault.Constraint number at) e refused = e ∙ refused
refused_as answer other (fault.Memory cause) e refused = tt

-- a rule that breaks at a place that is known by another name
pub breaks_refused_at : {A : Type 0} (at place : Pos) (env : Env) (rule : Ruled A) (fault : TypeFault) → place ≡ at
    → BreaksAt rule place fault → Refused (settle at env rule) fault
breaks_refused_at at place env rule fault e says =
    refused_as (settle at env rule) (settle place env rule) fault (ap (λ p. settle p env rule) (sym e))
    (breaks_refused place env rule fault says)

module _ {A B : Type 0} (view : Types → B → A) (In : Types → B → Type 0) where
  -- a part, and then what is behind it
  pub then_part : {C : Type 0} (answer : Answer C) (next : C → Env → Answer A) (part : C) (Inside : Types → Type 0)
      (old mid new : Types) (scopes after : List Scope) (result : Result B TypeFault)
      → Given answer part Inside old scopes mid
      → Answers view In (next part (env_of scopes mid)) mid after new result
      → Answers view In (and_then answer next) old after new result
  then_part answer next part Inside old mid new scopes after (Ok x) given rest = record {
    is = then_given answer part (env_of scopes mid) next given.is ∙ rest.is;
    is_in = rest.is_in;
    here = rest.here;
    grown = grows_then old mid new given.grown rest.grown;
  }
  then_part answer next part Inside old mid new scopes after (Err e) given rest =
      refused_later answer next part Inside old mid scopes e given rest

  pub answers_as : (answer other : Answer A) (old new : Types) (scopes : List Scope) (result : Result B TypeFault)
      → answer ≡ other → Answers view In other old scopes new result → Answers view In answer old scopes new result
  answers_as answer other old new scopes (Ok x) e given =
      given_as answer other (view new x) (λ t. In t x) old scopes new e given
  answers_as answer other old new scopes (Err fault) e refused = refused_as answer other fault e refused

  -- what a rule says at a place that is known by another name
  pub settled_at : (rule : Ruled A) (at place : Pos) (scopes : List Scope) (old new : Types)
      (result : Result B TypeFault) → place ≡ at → ScopesIn old scopes → Rules view In rule place old new result
      → Answers view In (settle at (env_of scopes old) rule) old scopes new result
  settled_at rule at place scopes old new result e here says =
      answers_as (settle at (env_of scopes old) rule) (settle place (env_of scopes old) rule) old new scopes result
      (ap (λ p. settle p (env_of scopes old) rule) (sym e)) (settled view In rule place scopes old new result here says)
