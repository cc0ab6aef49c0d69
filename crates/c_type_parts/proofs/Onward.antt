-- A walk that has come some way: what is left of its answer, from what is in scope now.
use Rattle.std.proofs.Common.{◌≡◌, ◌∙◌, ap, refl, sym, subst, List}
use Rattle.std.specs.Prelude.{Result, Ok, Err}
use Rattle.critical_table.specs.declared.pos.Pos.{Pos}
use Rattle.c_types.specs.Types.{Types}
use Rattle.c_types.specs.Making.{Grows}
use Rattle.c_types.proofs.Kept.{grows_own, grows_then}
use Rattle.c_core.specs.declared.fault.TypeFault.{TypeFault}
use Rattle.c_scopes.specs.Env.{Env, ScopesIn, env_of}
use Rattle.c_scopes.specs.Clauses.{BreaksAt, Follows}
use Rattle.c_scopes.specs.Ruled.{Ruled, Fits}
use Rattle.c_scopes.specs.Scopes.{Scope}
use Rattle.c_scopes.proofs.Growth.{env_kept, scopes_stay_in}
use Rattle.c_type_parts.specs.Answers.{Answer, Gives, and_then, settle}
use Rattle.c_type_parts.specs.Clauses.{Becomes, Given, Refused, Answers}
use Rattle.c_type_parts.proofs.Steps.{then_given, refused_then, fits_given, breaks_refused}

-- The answer is what is left of the walk in these scopes and this table, which have grown from the old one.
pub record Onward {A : Type 0} (whole left : Answer A) (old : Types) (scopes : List Scope) (types : Types)
    : Type 0 where
  pub is : whole ≡ left
  pub here : ScopesIn types scopes
  pub grown : Grows old types

module _ {A B : Type 0} (part : Answer A) (next : A → Env → Answer B) (whole : Answer B) (old now : Types)
    (before : List Scope) where
  -- a part that gives a value
  pub part_given : (a : A) (In : Types → Type 0) (after : List Scope) (new : Types)
      → Onward whole (and_then part next) old before now → Given part a In now after new
      → Onward whole (next a (env_of after new)) old after new
  part_given a In after new on given = record {
    is = on.is ∙ then_given part a (env_of after new) next given.is;
    here = given.here;
    grown = grows_then old now new on.grown given.grown;
  }

  -- a part that is refused
  pub part_refused : (fault : TypeFault) → Onward whole (and_then part next) old before now → Refused part fault
      → Refused whole fault
  part_refused fault on refused =
      subst (λ (answer : Answer B). Refused answer fault) (sym on.is) (refused_then part next fault refused)

module _ {A : Type 0} (whole left : Answer A) (old now : Types) (before : List Scope) where
  -- the rest answers for the whole
  pub rest_answers : {B : Type 0} (view : Types → B → A) (In : Types → B → Type 0) (after : List Scope) (new : Types)
      (result : Result B TypeFault) → Onward whole left old before now
      → Answers view In left now after new result → Answers view In whole old after new result
  rest_answers view In after new (Ok x) on given = record {
    is = on.is ∙ given.is;
    is_in = given.is_in;
    here = given.here;
    grown = grows_then old now new on.grown given.grown;
  }
  rest_answers view In after new (Err e) on refused =
      subst (λ (answer : Answer A). Refused answer e) (sym on.is) refused

-- the beginning
pub onward : {A : Type 0} (whole : Answer A) (scopes : List Scope) (types : Types) → ScopesIn types scopes
    → Onward whole whole types scopes types
onward whole scopes types here = record { is = refl; here = here; grown = grows_own types }

-- behind a rule that fits, and nothing else
module _ {A B : Type 0} (rule : Ruled A) (at : Pos) (next : A → Env → Answer B) (whole : Answer B) (old now : Types)
    (scopes : List Scope) where
  pub rule_fits : (a : A) → Onward whole (and_then (settle at (env_of scopes now) rule) next) old scopes now
      → rule ≡ Fits a → Onward whole (next a (env_of scopes now)) old scopes now
  rule_fits a on fits = record {
    is = on.is
        ∙ then_given (settle at (env_of scopes now) rule) a (env_of scopes now) next
        (fits_given at (env_of scopes now) rule a fits);
    here = on.here;
    grown = on.grown;
  }

  pub rule_breaks : (fault : TypeFault)
      → Onward whole (and_then (settle at (env_of scopes now) rule) next) old scopes now → BreaksAt rule at fault
      → Refused whole fault
  rule_breaks fault on breaks =
      part_refused (settle at (env_of scopes now) rule) next whole old now scopes fault on
      (breaks_refused at (env_of scopes now) rule fault breaks)

  -- behind a rule that makes types
  pub rule_makes : (a : A) (In : Types → Type 0) (new : Types)
      → Onward whole (and_then (settle at (env_of scopes now) rule) next) old scopes now → Follows rule a In now new
      → Onward whole (next a (env_of scopes new)) old scopes new
  rule_makes a In new on follows = record {
    is = on.is
        ∙ then_given (settle at (env_of scopes now) rule) a (env_of scopes now) next
        (fits_given at (env_of scopes now) rule a follows.is)
        ∙ ap (next a) (sym (env_kept scopes now new follows.kept on.here));
    here = scopes_stay_in now new follows.kept.grows scopes on.here;
    grown = grows_then old now new on.grown follows.kept.grows;
  }

-- what is left, by another name
pub onward_as : {A : Type 0} (whole left other : Answer A) (old : Types) (scopes : List Scope) (types : Types)
    → left ≡ other → Onward whole left old scopes types → Onward whole other old scopes types
onward_as whole left other old scopes types e on = record { is = on.is ∙ e; here = on.here; grown = on.grown }

-- the end, behind a change of what is in scope
pub becomes_given : {A : Type 0} (whole : Answer A) (a : A) (In : Types → Type 0) (env : Env) (old now new : Types)
    (before after : List Scope) → Onward whole (Gives a env) old before now → Becomes env now after new → In new
    → Given whole a In old after new
becomes_given whole a In env old now new before after on becomes is_in = record {
  is = on.is ∙ ap (Gives a) (sym becomes.is);
  is_in = is_in;
  here = becomes.here;
  grown = grows_then old now new on.grown becomes.grown;
}
