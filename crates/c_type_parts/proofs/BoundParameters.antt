-- A parameter: none, one without a name, and one whose name is new.
use Rattle.std.proofs.Common.{◌≡◌, ◌∙◌, ap, refl, sym, subst, ℕ, List, Bool, true, false, cond}
use Rattle.std.specs.Prelude.{Option, Some, None, option_map, is_some, not}
use Rattle.critical_table.specs.declared.pos.Pos.{Pos}
use Rattle.c_types.specs.declared.shape.TypeId.{TypeId}
use Rattle.c_types.specs.CType.{CType, type_of}
use Rattle.c_types.specs.Types.{Types}
use Rattle.c_core.specs.declared.fault.TypeFault.{TypeFault}
use Rattle.c_core.specs.declared.fault.TypeFault.TheVariants as fault
use Rattle.c_core.specs.Ids.{IdIn}
use Rattle.c_syntax.specs.Tree.{Declarator, Specifiers}
use Rattle.c_scopes.specs.declared.binding.Binding.{Binding}
use Rattle.c_scopes.specs.Clauses.{BreaksAt, Follows}
use Rattle.c_scopes.specs.Env.{Env, ScopesIn, env_of}
use Rattle.c_scopes.specs.Named.{Named, named_of}
use Rattle.c_scopes.specs.Ruled.{Ruled, Fits, Breaks}
use Rattle.c_scopes.specs.Scopes.{Scope, found_here}
use Rattle.c_types.proofs.Kept.{grows_own}
use Rattle.c_type_rules.specs.Functions.{parameter_rule}
use Rattle.c_type_parts.specs.Answers.{Answer, Gives, Refuses, and_then, settle}
use Rattle.c_type_parts.specs.Clauses.{Becomes, Given, Refused}
use Rattle.c_type_parts.specs.Declaring.{fresh_rule, with_parameter, is_none, parameter_object, parameter_of}
use Rattle.c_type_parts.specs.Environments.{with_name}
use Rattle.c_type_parts.specs.Shapes.{first_place, holds_register, name_in}
use Rattle.c_type_parts.proofs.Looking.{here_looked_up}
use Rattle.c_type_parts.proofs.Onward.{Onward, part_given, part_refused, rule_breaks, rule_makes}
use Rattle.c_type_parts.proofs.Steps.{breaks_refused, fits_given, refused_then, then_given}

module _ (at : Pos) (x : List ℕ) (object : Named) (scopes : List Scope) (types : Types) (here : Option Binding)
    (seen : here ≡ found_here scopes false x) (named : Option (Pos × List ℕ)) (is_named : named ≡ Some (at, x)) where
  abbrev rule : Ruled (Unit {0})
  rule = fresh_rule (found_here (env_of scopes types).scopes false x)

  abbrev behind : Unit {0} → Env → Answer (Unit {0})
  behind fresh env = Gives tt (with_name x object env)

  some_seen : (known : Option Binding) (to : Binding → Named) → is_some known ≡ is_some (option_map to known)
  some_seen None to = refl
  some_seen (Some x) to = refl

  fresh : (given : Bool) → is_some here ≡ given → rule ≡ cond (not given) (Fits tt) (Breaks 2)
  fresh given e =
      ap (λ (known : Option Named). fresh_rule known) (sym (here_looked_up types scopes false x here seen))
      ∙ ap (λ (b : Bool). cond (not b) (Fits tt) (Breaks 2)) (sym (some_seen here (named_of types)) ∙ e)

  to_name : with_parameter named object (env_of scopes types)
      ≡ with_parameter (Some (at, x)) object (env_of scopes types)
  to_name = ap (λ (named : Option (Pos × List ℕ)). with_parameter named object (env_of scopes types)) is_named

  pub twice_refused : is_some here ≡ true → with_parameter named object (env_of scopes types) ≡ Refuses 2 at
  twice_refused e =
      to_name
      ∙ refused_then (settle at (env_of scopes types) rule) behind (fault.Constraint 2 at)
      (breaks_refused at (env_of scopes types) rule (fault.Constraint 2 at)
      (fresh true e, refl))

  pub new_given : (after : List Scope) → is_some here ≡ false
      → Becomes (with_name x object (env_of scopes types)) types after types
      → Given (with_parameter named object (env_of scopes types)) tt (λ t. Unit {0}) types after types
  new_given after e becomes = record {
    is = to_name
        ∙ then_given (settle at (env_of scopes types) rule) tt (env_of scopes types) behind
        (fits_given at (env_of scopes types) rule tt (fresh false e))
        ∙ ap (Gives tt) (sym becomes.is);
    is_in = tt;
    here = becomes.here;
    grown = becomes.grown;
  }

-- a parameter that is one: its type is adjusted, and then its name bound
module _ (alone : Bool) (specifiers : Specifiers) (declarator : Declarator) (number : ℕ) (type : CType)
    (scopes : List Scope) (old : Types) (inside : ScopesIn old scopes)
    (is : is_none alone specifiers declarator type ≡ false) where
  abbrev pub whole : Answer (Option CType)
  whole = parameter_of alone specifiers declarator number type (env_of scopes old)

  abbrev named_on : CType → Env → Answer (Option CType)
  named_on adjusted env =
      and_then (with_parameter (name_in declarator) (parameter_object adjusted (holds_register specifiers) number) env)
      (λ done env. Gives (Some adjusted) env)

  begun : Onward whole (and_then (settle (first_place specifiers) (env_of scopes old) (parameter_rule type)) named_on)
      old scopes old
  begun = record {
    is = ap (λ (b : Bool). cond b (Gives None (env_of scopes old))
        (and_then (settle (first_place specifiers) (env_of scopes old) (parameter_rule type)) named_on)) is;
    here = inside;
    grown = grows_own old;
  }

  pub type_breaks : (at : Pos) (fault : TypeFault) → at ≡ first_place specifiers
      → BreaksAt (parameter_rule type) at fault → Refused whole fault
  type_breaks at fault placed breaks =
      rule_breaks (parameter_rule type) (first_place specifiers) named_on whole old old scopes fault begun
      (subst (λ (place : Pos). BreaksAt (parameter_rule type) place fault) placed breaks)

  module _ (mid : Types) (of : TypeId) (follows : Follows (parameter_rule type) (type_of mid of) (λ t. IdIn t of) old
      mid)
      (object : Named)
      (same : object ≡ parameter_object (type_of mid of) (holds_register specifiers) number) where
    adjusted_on : Onward whole (named_on (type_of mid of) (env_of scopes mid)) old scopes mid
    adjusted_on =
        rule_makes (parameter_rule type) (first_place specifiers) named_on whole old old scopes (type_of mid of)
        (λ t. IdIn t of) mid begun follows

    object_on : Onward whole (and_then (with_parameter (name_in declarator) object (env_of scopes mid))
        (λ done env. Gives (Some (type_of mid of)) env)) old scopes mid
    object_on = record {
      is = adjusted_on.is
          ∙ ap (λ (object : Named). and_then (with_parameter (name_in declarator) object (env_of scopes mid))
          (λ done env. Gives (Some (type_of mid of)) env)) (sym same);
      here = adjusted_on.here;
      grown = adjusted_on.grown;
    }

    pub name_refused : (fault : TypeFault)
        → Refused (with_parameter (name_in declarator) object (env_of scopes mid)) fault → Refused whole fault
    name_refused fault refused =
        part_refused (with_parameter (name_in declarator) object (env_of scopes mid))
        (λ done env. Gives (Some (type_of mid of)) env) whole old mid scopes fault object_on refused

    pub name_given : (after : List Scope)
        → Given (with_parameter (name_in declarator) object (env_of scopes mid)) tt (λ t. Unit {0}) mid after mid
        → Given whole (Some (type_of mid of)) (λ t. IdIn t of) old after mid
    name_given after given =
        let on = part_given (with_parameter (name_in declarator) object (env_of scopes mid))
        (λ done env. Gives (Some (type_of mid of)) env) whole old mid scopes tt (λ t. Unit {0}) after mid object_on
        given
        in record { is = on.is; is_in = follows.is_in; here = on.here; grown = on.grown }
