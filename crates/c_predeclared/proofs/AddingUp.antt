-- How names that are bound one behind the other add up.
use Rattle.std.proofs.Common.{◌≡◌, ◌∙◌, List, [], ◌∷◌, ◌++◌, map, refl, ap, sym, subst}
use Rattle.std.proofs.Common.{ℕ, ◌+◌, ◌<◌, length, take, get_or}
use Rattle.std.proofs.lemmas.List.{take_more, map-append}
use Rattle.std.specs.Prelude.{ℤ, false}
use Rattle.c_types.specs.CType.{CType}
use Rattle.c_types.specs.Types.{Types}
use Rattle.c_scopes.specs.declared.binding.Binding.{Binding}
use Rattle.c_scopes.specs.declared.binding.DeclaredFunction.{DeclaredFunction}
use Rattle.c_scopes.specs.Clauses.{KeepsTable}
use Rattle.c_scopes.specs.Env.{names_of, ScopesIn, BindingIn}
use Rattle.c_scopes.specs.Named.{Named, ConstantOf, FunctionOf, named_of}
use Rattle.c_scopes.specs.Scopes.{Names, Scope, bound, is_tag}
use Rattle.c_scopes.proofs.Growth.{scopes_stay, scopes_stay_in}
use Rattle.c_scopes.proofs.Keeps.{keeps_own, keeps_then}
use Rattle.c_scopes.proofs.Seen.{bound_seen, bound_in_table}
use Rattle.c_predeclared.specs.Binds.{Binds}
use Rattle.c_predeclared.specs.Predeclared.{NamedList, all_bound}

all_bound-append : (xs ys : NamedList) (scopes : List (Names Named))
    → all_bound (xs ++ ys) scopes ≡ all_bound ys (all_bound xs scopes)
unfolding all_bound
all_bound-append [] ys scopes = refl
all_bound-append (x ∷ xs) ys scopes = all_bound-append xs ys (bound scopes false x.0 x.1)

-- none are bound
pub binds_none : (before : List Scope) (types : Types) → ScopesIn types before → Binds [] before types before types
unfolding all_bound
binds_none before types here = record { is = refl; here = here; kept = keeps_own types }

-- some, and then others
pub binds_then : {xs ys : NamedList} {before mid after : List Scope} {old there new : Types}
    → Binds xs before old mid there → Binds ys mid there after new → Binds (xs ++ ys) before old after new
binds_then {xs = xs} {ys = ys} {before = before} {old = old} {there = there} {new = new} first second = record {
  is = second.is ∙ ap (all_bound ys) first.is ∙ sym (all_bound-append xs ys (map (names_of old) before));
  here = second.here;
  kept = keeps_then old there new first.kept second.kept;
}

-- types are made, and then names bound
pub binds_over : {names : NamedList} {before after : List Scope} {old there new : Types} → KeepsTable old there
    → ScopesIn old before → Binds names before there after new → Binds names before old after new
binds_over {names = names} {before = before} {old = old} {there = there} {new = new} kept here binds = record {
  is = binds.is ∙ ap (all_bound names) (scopes_stay old there kept.grows before here);
  here = binds.here;
  kept = keeps_then old there new kept binds.kept;
}

-- the scopes stay those of the table
pub here_over : (before : List Scope) (old there : Types) → KeepsTable old there → ScopesIn old before
    → ScopesIn there before
here_over before old there kept here = scopes_stay_in old there kept.grows before here

-- a name that is no tag is bound
pub binds_one : (types : Types) (old new : List Scope) (name : List ℕ) (binding : Binding) → ScopesIn types old
    → BindingIn types binding → is_tag binding ≡ false → new ≡ bound old (is_tag binding) name binding
    → Binds ((name, named_of types binding) ∷ []) old types new types
unfolding all_bound
binds_one types old new name binding here is_in no_tag e = record {
  is = ap (map (names_of types)) e ∙ bound_seen types old (is_tag binding) name binding
      ∙ ap (λ tag. bound (map (names_of types) old) tag name (named_of types binding)) no_tag;
  here = subst (λ scopes. ScopesIn types scopes) (sym e)
      (bound_in_table types old (is_tag binding) name binding here is_in);
  kept = keeps_own types;
}

-- the name of one more entry of a table
pub binds_more : {A : Type 0} (f : A → List ℕ × Named) (table : List A) (i : ℕ) (entry : A)
    {before mid after : List Scope} {old there new : Types} → i < length table
    → Binds (map f (take i table)) before old mid there → Binds (f (get_or table i entry) ∷ []) mid there after new
    → Binds (map f (take (i + 1) table)) before old after new
binds_more f table i entry {before = before} {after = after} {old = old} {new = new} below first second =
    let more : map f (take (i + 1) table) ≡ map f (take i table) ++ f (get_or table i entry) ∷ [] =
    ap (map f) (take_more table i entry below) ∙ map-append f (take i table) (get_or table i entry ∷ []) in
    subst (λ (names : NamedList). Binds names before old after new) (sym more) (binds_then first second)

-- a name stands for what is the same
pub binds_as : {name : List ℕ} {one other : Named} {before after : List Scope} {old new : Types} → one ≡ other
    → Binds ((name, one) ∷ []) before old after new → Binds ((name, other) ∷ []) before old after new
binds_as {name = name} {before = before} {after = after} {old = old} {new = new} same binds =
    subst (λ (named : Named). Binds ((name, named) ∷ []) before old after new) same binds

-- a constant of what is the same type, with what is the same value
pub binds_constant : {name : List ℕ} {type other : CType} {value number : ℤ} {before after : List Scope}
    {old new : Types} → type ≡ other → value ≡ number → Binds ((name, ConstantOf type value) ∷ []) before old after new
    → Binds ((name, ConstantOf other number) ∷ []) before old after new
binds_constant types values binds = binds_as (λ i. ConstantOf (types i) (values i)) binds

-- a function by the same name, of the same type, and of which the same is known
pub binds_function : {name other : List ℕ} {type made : CType} {function known : DeclaredFunction}
    {before after : List Scope} {old new : Types} → name ≡ other → type ≡ made → function ≡ known
    → Binds ((name, FunctionOf type function) ∷ []) before old after new
    → Binds ((other, FunctionOf made known) ∷ []) before old after new
binds_function {name = name} {other = other} {type = type} {made = made} {function = function} {known = known}
    {before = before} {after = after} {old = old} {new = new} names types functions binds =
    let same : (name, FunctionOf type function) ≡ (other, FunctionOf made known) =
    λ i. (names i, FunctionOf (types i) (functions i)) in
    subst (λ (entry : List ℕ × Named). Binds (entry ∷ []) before old after new) same binds
