-- What the rules see behind a binding, a structure or an enumeration that is new.
use Rattle.std.proofs.Common.{◌≡◌, ◌∙◌, ap, refl, List, map, sym, subst, ℕ}
use Rattle.std.specs.Prelude.{Bool}
use Rattle.c_types.specs.declared.shape.TypeId.{TypeId}
use Rattle.c_types.specs.Compounds.{MakesCompound}
use Rattle.c_types.specs.Making.{MakesEnumerated}
use Rattle.c_types.specs.Structures.{structures_of}
use Rattle.c_types.specs.CType.{CType}
use Rattle.c_types.specs.Types.{Types}
use Rattle.c_types.proofs.Kept.{grows_own}
use Rattle.c_scopes.specs.declared.binding.Binding.{Binding}
use Rattle.c_scopes.specs.declared.binding.Binding.TheVariants as b
use Rattle.c_scopes.specs.Scopes.{Scope, bound, is_tag}
use Rattle.c_scopes.specs.declared.binding.TagState.{TagState}
use Rattle.c_scopes.specs.Named.{TagOf, named_of, names_tag}
use Rattle.c_scopes.specs.Env.{Env, BindingIn, ScopesIn, env_of, names_of}
use Rattle.c_scopes.proofs.Growth.{scopes_stay, scopes_stay_in}
use Rattle.c_scopes.proofs.Seen.{bound_seen, bound_in_table}
use Rattle.c_type_rules.specs.Tags.{next_compound, next_enumerated}
use Rattle.c_type_parts.specs.Clauses.{Becomes, BecomesWith}
use Rattle.c_type_parts.specs.Environments.{with_name, with_compound, with_enumeration}

tag_seen : (types : Types) (binding : Binding) → is_tag binding ≡ names_tag (named_of types binding)
tag_seen types (b.Object of object) = refl
tag_seen types (b.Function of function) = refl
tag_seen types (b.Typedef of) = refl
tag_seen types (b.Constant of value) = refl
tag_seen types (b.NullPointer of) = refl
tag_seen types (b.Tag of state) = refl

-- where nothing has changed
pub becomes_own : (scopes : List Scope) (types : Types) → ScopesIn types scopes
    → Becomes (env_of scopes types) types scopes types
becomes_own scopes types here = record { is = refl; here = here; grown = grows_own types }

-- behind a binding
pub becomes_bound : (types : Types) (old new : List Scope) (name : List ℕ) (binding : Binding) → ScopesIn types old
    → BindingIn types binding → new ≡ bound old (is_tag binding) name binding
    → Becomes (with_name name (named_of types binding) (env_of old types)) types new types
becomes_bound types old new name binding here is_in e = record {
  is = λ i. record {
    scopes = seen i;
    structures = structures_of types;
    enumerations = types.enumerations;
  };
  here = subst (λ scopes. ScopesIn types scopes) (sym e)
      (bound_in_table types old (is_tag binding) name binding here is_in);
  grown = grows_own types;
}
  where
    seen : map (names_of types) new ≡ bound (map (names_of types) old) (names_tag (named_of types binding)) name
        (named_of types binding)
    seen = ap (map (names_of types)) e ∙ bound_seen types old (is_tag binding) name binding
        ∙ ap (λ tag. bound (map (names_of types) old) tag name (named_of types binding)) (tag_seen types binding)

-- behind one more structure or union
pub becomes_compound : (scopes : List Scope) (old new : Types) (id : TypeId) (is_union : Bool) → ScopesIn old scopes
    → MakesCompound old new id is_union
    → BecomesWith (next_compound (structures_of old)) (with_compound is_union (env_of scopes old)) old scopes new id
becomes_compound scopes old new id is_union here made = record {
  stands_for = made.stands_for;
  is_in = made.is_there;
  becomes = record {
    is = λ i. record {
      scopes = scopes_stay old new made.grows scopes here i;
      structures = made.structures i;
      enumerations = made.enumerations i;
    };
    here = scopes_stay_in old new made.grows scopes here;
    grown = made.grows;
  };
}

-- behind one more enumerated type
pub becomes_enumeration : (scopes : List Scope) (old new : Types) (id : TypeId) → ScopesIn old scopes
    → MakesEnumerated old new id
    → BecomesWith (next_enumerated old.enumerations) (with_enumeration (env_of scopes old)) old scopes new id
becomes_enumeration scopes old new id here made = record {
  stands_for = made.stands_for;
  is_in = made.is_there;
  becomes = record {
    is = λ i. record {
      scopes = scopes_stay old new made.grows scopes here i;
      structures = made.structures i;
      enumerations = made.enumerations i;
    };
    here = scopes_stay_in old new made.grows scopes here;
    grown = made.grows;
  };
}

-- a type that is new, and then its tag
pub becomes_tagged : (before after : List Scope) (old types : Types) (id : TypeId) (name : List ℕ) (state : TagState)
    (type : CType) (env : Env) → BecomesWith type env old before types id
    → Becomes (with_name name (named_of types (b.Tag id state)) (env_of before types)) types after types
    → BecomesWith type (with_name name (TagOf type state) env) old after types id
becomes_tagged before after old types id name state type env made bound = record {
  stands_for = made.stands_for;
  is_in = made.is_in;
  becomes = record {
    is = bound.is ∙ (λ i. with_name name (TagOf (made.stands_for i) state) (made.becomes.is i));
    here = bound.here;
    grown = made.becomes.grown;
  };
}
