-- As a table of types grows, what names stand for stays.
use Rattle.std.proofs.Common.{◌≡◌, ℕ, List, [], ◌∷◌, map, refl, ap, arith}
use Rattle.c_types.specs.declared.shape.TypeId.{TypeId}
use Rattle.c_types.specs.CType.{type_of}
use Rattle.c_types.specs.Making.{Grows}
use Rattle.c_types.specs.Types.{Types, count_of}
use Rattle.c_scopes.specs.declared.binding.Binding.{Binding}
use Rattle.c_scopes.specs.declared.binding.Binding.TheVariants as b
use Rattle.c_scopes.specs.Scopes.{Scope}
use Rattle.c_scopes.specs.Named.{Named, ObjectOf, FunctionOf, TypedefOf, ConstantOf, NullPointerOf, TagOf, named_of}
use Rattle.c_scopes.specs.Env.{Env, env_of, entries_of, names_of, id_in, BindingIn, EntriesIn, ScopesIn}
use Rattle.c_scopes.specs.Clauses.{KeepsTable}

module _ (old new : Types) (grown : Grows old new) where
  named_stays : (binding : Binding) → BindingIn old binding → named_of new binding ≡ named_of old binding
  named_stays (b.Object of object) h = λ i. ObjectOf (grown.types.same of h i) object
  named_stays (b.Function of function) h = λ i. FunctionOf (grown.types.same of h i) function
  named_stays (b.Typedef of) h = λ i. TypedefOf (grown.types.same of h i)
  named_stays (b.Constant of value) h = λ i. ConstantOf (grown.types.same of h i) value
  named_stays (b.NullPointer of) h = λ i. NullPointerOf (grown.types.same of h i)
  named_stays (b.Tag of state) h = λ i. TagOf (grown.types.same of h i) state

  pub binding_stays_in : (binding : Binding) → BindingIn old binding → BindingIn new binding
  binding_stays_in binding h = let count = grown.types.count in omega arith

  entries_stay : (entries : List (List ℕ × Binding)) → EntriesIn old entries
      → entries_of new entries ≡ entries_of old entries
  entries_stay [] h = refl
  entries_stay (entry ∷ entries) h = λ i. (entry.0, named_stays entry.1 h.0 i) ∷ entries_stay entries h.1 i

  entries_stay_in : (entries : List (List ℕ × Binding)) → EntriesIn old entries → EntriesIn new entries
  entries_stay_in [] h = tt
  entries_stay_in (entry ∷ entries) h = (binding_stays_in entry.1 h.0, entries_stay_in entries h.1)

  pub scopes_stay : (scopes : List Scope) → ScopesIn old scopes
      → map (names_of new) scopes ≡ map (names_of old) scopes
  scopes_stay [] h = refl
  scopes_stay (scope ∷ scopes) h = λ i.
      record { names = entries_stay scope.names h.0 i; tags = entries_stay scope.tags h.1 i } ∷ scopes_stay scopes h.2 i

  pub scopes_stay_in : (scopes : List Scope) → ScopesIn old scopes → ScopesIn new scopes
  scopes_stay_in [] h = tt
  scopes_stay_in (scope ∷ scopes) h =
      (entries_stay_in scope.names h.0, entries_stay_in scope.tags h.1, scopes_stay_in scopes h.2)

-- where nothing but types was made, the rules see what they saw
pub env_kept : (scopes : List Scope) (old new : Types) → KeepsTable old new → ScopesIn old scopes
    → env_of scopes new ≡ env_of scopes old
env_kept scopes old new kept h = λ i. record {
  scopes = scopes_stay old new kept.grows scopes h i;
  structures = kept.structures i;
  enumerations = kept.enumerations i;
}
