-- An enumerator whose name is new, and whose value an `int` has.
use Rattle.std.proofs.Common.{◌≡◌, ◌∙◌, ap, sym, subst, ℕ, List, false}
use Rattle.std.specs.Prelude.{ℤ, Option, option_map}
use Rattle.critical_table.specs.declared.pos.Pos.{Pos}
use Rattle.c_types.specs.declared.basic.Basic.TheVariants.{Int}
use Rattle.c_types.specs.declared.shape.TypeId.{TypeId}
use Rattle.c_types.specs.CType.{CType, type_of}
use Rattle.c_types.specs.Types.{Types}
use Rattle.c_core.specs.declared.fault.TypeFault.{TypeFault}
use Rattle.c_scopes.specs.declared.binding.Binding.{Binding}
use Rattle.c_scopes.specs.Clauses.{BreaksAt}
use Rattle.c_scopes.specs.Env.{Env, env_of}
use Rattle.c_scopes.specs.Named.{Named, ConstantOf, named_of}
use Rattle.c_scopes.specs.Ruled.{Ruled, Fits}
use Rattle.c_scopes.specs.Scopes.{Scope, found_here}
use Rattle.c_conversions.specs.Kinds.{basic_type}
use Rattle.c_type_rules.specs.Enumerators.{enumerator_rule, enumerator}
use Rattle.c_type_parts.specs.Answers.{Answer, Gives, settle}
use Rattle.c_type_parts.specs.Clauses.{Becomes, Given, Refused}
use Rattle.c_type_parts.specs.Declaring.{enumerator_bound}
use Rattle.c_type_parts.specs.Environments.{with_name}
use Rattle.c_type_parts.proofs.Looking.{here_looked_up}
use Rattle.c_type_parts.proofs.Steps.{breaks_refused, fits_given, refused_then, then_given}

module _ (at : Pos) (x : List ℕ) (value : Option ℤ) (scopes : List Scope) (types : Types) (here : Option Binding)
    (seen : here ≡ found_here scopes false x) where
  abbrev rule : Ruled ℤ
  rule = enumerator_rule (found_here (env_of scopes types).scopes false x) value

  abbrev behind : ℤ → Env → Answer ℤ
  behind n env = Gives n (with_name x (enumerator n) env)

  pub bound_refused : (fault : TypeFault)
      → BreaksAt (enumerator_rule (option_map (named_of types) here) value) at fault
      → Refused (enumerator_bound at x value (env_of scopes types)) fault
  bound_refused fault breaks =
      refused_then (settle at (env_of scopes types) rule) behind fault
      (breaks_refused at (env_of scopes types) rule fault
      (subst (λ (known : Option Named). BreaksAt (enumerator_rule known value) at fault)
      (here_looked_up types scopes false x here seen) breaks))

  pub bound_given : (n : ℤ) (of : TypeId) (after : List Scope)
      → enumerator_rule (option_map (named_of types) here) value ≡ Fits n → type_of types of ≡ basic_type Int
      → Becomes (with_name x (ConstantOf (type_of types of) n) (env_of scopes types)) types after types
      → Given (enumerator_bound at x value (env_of scopes types)) n (λ t. Unit {0}) types after types
  bound_given n of after fits int becomes = record {
    is = then_given (settle at (env_of scopes types) rule) n (env_of scopes types) behind
        (fits_given at (env_of scopes types) rule n
        (subst (λ (known : Option Named). enumerator_rule known value ≡ Fits n)
        (here_looked_up types scopes false x here seen) fits))
        ∙ ap (Gives n)
        (ap (λ (type : CType). with_name x (ConstantOf type n) (env_of scopes types)) (sym int) ∙ sym becomes.is);
    is_in = tt;
    here = becomes.here;
    grown = becomes.grown;
  }
