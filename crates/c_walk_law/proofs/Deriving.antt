-- Specifiers, declarators, parameters and enumerators make well-formed types (6.7.2, 6.7.2.2, 6.7.3, 6.7.6).
use Rattle.std.proofs.Common.{◌≡◌, ℕ, ◌<◌, ℤ, Bool, true, false, not, ◌&&◌, cond, List, [], ◌∷◌, ◌++◌}
use Rattle.std.proofs.Common.{Option, Some, None, IfSome}
use Rattle.critical_table.specs.declared.pos.Pos.{Pos}
use Rattle.c_types.specs.declared.basic.Basic.TheVariants as b
use Rattle.c_types.specs.CType.{CType, CTypes, Plain, Array, BasicType, Pointer, Function, Compound, Enumerated, Nil}
use Rattle.c_types.specs.CType.{Cons}
use Rattle.c_types.specs.Making.{KeepsStructures}
use Rattle.c_types.specs.Qualified.{with_quals}
use Rattle.c_types.specs.Structures.{Structure}
use Rattle.c_core.specs.declared.named.ObjectName.TheVariants as object
use Rattle.c_core.specs.Named.{Names, NamesObject}
use Rattle.c_core.specs.Types.{IsObject}
use Rattle.c_syntax.specs.declared.specifier.Qualifier.{Qualifier}
use Rattle.c_syntax.specs.declared.specifier.Storage.{Storage}
use Rattle.c_syntax.specs.Tree.{Specifiers, Declarator, Parameters}
use Rattle.c_scopes.specs.Env.{Env}
use Rattle.c_scopes.specs.Named.{Named, ObjectOf, FunctionOf, TypedefOf, ConstantOf, NullPointerOf, TagOf}
use Rattle.c_scopes.specs.Ruled.{Ruled}
use Rattle.c_scopes.specs.Scopes.{found, found_here}
use Rattle.c_conversions.specs.Versions.{is_void}
use Rattle.c_type_rules.specs.declared.context.Context.{Context}
use Rattle.c_type_rules.specs.declared.context.Setting.{Setting}
use Rattle.c_type_rules.specs.Enumerators.{enumerator_rule, enumerator}
use Rattle.c_type_rules.specs.Functions.{adjusted, parameter_demands, parameter_rule}
use Rattle.c_type_rules.specs.Qualified.{quals_of_words, restrict_rule}
use Rattle.c_type_rules.specs.Settings.{storage_rule, inline_rule}
use Rattle.c_type_rules.specs.Words.{basic_rule}
use Rattle.c_type_parts.specs.Answers.{Answer, Gives, and_then, settle}
use Rattle.c_type_parts.specs.declared.derivations.Around.{Around}
use Rattle.c_type_parts.specs.Declaring.{Derivation, ToPointer, ToArray, ToFunction, Derived, derivation_rule}
use Rattle.c_type_parts.specs.Declaring.{derivation_place, derived_type, of_derivations, fresh_rule, parameter_object}
use Rattle.c_type_parts.specs.Declaring.{with_parameter, is_none, parameter_of, enumerator_bound}
use Rattle.c_type_parts.specs.Declaring.{function_derived, is_first, is_alone}
use Rattle.c_type_parts.specs.Environments.{with_name, scope_entered, scope_left}
use Rattle.c_type_parts.specs.Outlines.{Outline, Before, outline, of_type, typedef_type, typedef_seen, typedef_rule}
use Rattle.c_type_parts.specs.Outlines.{storage_on, qualifier_on, inline_on, type_on, basic_on, of_specifiers}
use Rattle.c_type_parts.specs.Shapes.{name_in, first_place, holds_register, typedef_in, qualifier_words}
use Rattle.c_expr.specs.Typing as walk
use Rattle.c_expr.proofs.Levels.{parameters_keep}
use Rattle.c_typing_law.specs.TypedParts.{NamedTyped, IfFits}
use Rattle.c_typing_law.specs.WellFormed.{TypeFormed, TypesFormed}
use Rattle.c_typing_law.proofs.Facts.{fits_if}
use Rattle.c_typing_law.proofs.Made.{types_made, members_made}
use Rattle.c_typing_law.proofs.Stays.{stays_typed}
use Rattle.c_walk_law.specs.InScope.{EnvTyped, GivesTyped}
use Rattle.c_walk_law.proofs.Reaching.{gives, gives_here, then_gives, settled, settled_then, fits_then}
use Rattle.c_walk_law.proofs.Reaching.{fits_both, fits_always}
use Rattle.c_walk_law.proofs.Scopes.{found_typed, with_name_reaches, with_slots, scope_gives}
use Rattle.c_walk_law.proofs.Tags.{IsNamed, MayBeType, Anything}

-- ---- specifiers

-- the type so far
abbrev pub BeforeFormed : List Structure → Before → Type 0
BeforeFormed structures before = TypeFormed structures before.type

-- what the typedef name of a list of specifiers stands for
abbrev pub OutlineFormed : List Structure → Outline → Type 0
OutlineFormed structures whole = IfSome whole.typedef (TypeFormed structures)

typedef_formed : (names : Names) (structures : List Structure) (named : Option Named) → IsNamed names structures named
    → MayBeType structures (typedef_type named)
typedef_formed names structures None h = tt
typedef_formed names structures (Some (TypedefOf type)) h = h
typedef_formed names structures (Some (TagOf type state)) h = tt
typedef_formed names structures (Some (ObjectOf type object)) h = tt
typedef_formed names structures (Some (FunctionOf type function)) h = tt
typedef_formed names structures (Some (ConstantOf type n)) h = tt
typedef_formed names structures (Some (NullPointerOf type)) h = tt

seen_formed : (names : Names) (x : Option (List ℕ)) (env : Env) → EnvTyped names env
    → MayBeType env.structures (typedef_seen x env)
seen_formed names None env t = tt
seen_formed names (Some x) env t =
    typedef_formed names env.structures (found env.scopes false x)
    (found_typed names env.structures env.scopes false x t.scopes)

pub outline_formed : (names : Names) (all : Specifiers) (env : Env) → EnvTyped names env
    → OutlineFormed env.structures (outline all env)
outline_formed names all env t = seen_formed names (typedef_in all) env t

pub may_be_stays : (old new : List Structure) (type : Option CType) → KeepsStructures old new → MayBeType old type
    → MayBeType new type
may_be_stays old new None kept h = tt
may_be_stays old new (Some type) kept h = (stays_typed old new kept).type type h

pub storage_gives : (names : Names) (setting : Setting) (before : Before) (at : Pos) (word : Storage) (env : Env)
    → EnvTyped names env → BeforeFormed env.structures before
    → GivesTyped names env BeforeFormed (storage_on setting before at word env)
storage_gives names setting before at word env t h =
    settled_then names env BeforeFormed at (storage_rule setting before.storage word) _
    (fits_always (λ stands. GivesTyped names env BeforeFormed
    (Gives (record { storage = true; basic = before.basic; type = before.type }) env))
    (storage_rule setting before.storage word) (λ stands.
    gives_here names env BeforeFormed (record { storage = true; basic = before.basic; type = before.type }) h t))

pub qualifier_gives : (names : Names) (whole : Outline) (before : Before) (at : Pos) (word : Qualifier) (env : Env)
    → EnvTyped names env → BeforeFormed env.structures before
    → GivesTyped names env BeforeFormed (qualifier_on whole before at word env)
qualifier_gives names whole before at word env t h =
    settled_then names env BeforeFormed at (restrict_rule whole.typedef word) _
    (fits_always (λ stands. GivesTyped names env BeforeFormed (Gives before env)) (restrict_rule whole.typedef word)
    (λ stands. gives_here names env BeforeFormed before h t))

pub inline_gives : (names : Names) (context : Context) (whole : Outline) (before : Before) (at : Pos) (env : Env)
    → EnvTyped names env → BeforeFormed env.structures before
    → GivesTyped names env BeforeFormed (inline_on context whole before at env)
inline_gives names context whole before at env t h =
    settled_then names env BeforeFormed at (inline_rule context whole.static) _
    (fits_always (λ stands. GivesTyped names env BeforeFormed (Gives before env)) (inline_rule context whole.static)
    (λ stands. gives_here names env BeforeFormed before h t))

pub basic_gives : (names : Names) (at : Pos) (whole : Outline) (known : Bool) (before : Before) (env : Env)
    → EnvTyped names env → BeforeFormed env.structures before
    → GivesTyped names env BeforeFormed (basic_on at whole known before env)
basic_gives names at whole true before env t h = gives_here names env BeforeFormed before h t
basic_gives names at whole false before env t h =
    settled_then names env BeforeFormed at (basic_rule whole.words) _
    (fits_then (TypeFormed env.structures)
    (λ type. GivesTyped names env BeforeFormed
    (Gives (record { storage = before.storage; basic = true; type = type }) env)) (basic_rule whole.words)
    (λ type formed. gives_here names env BeforeFormed
    (record { storage = before.storage; basic = true; type = type }) formed t)
    ((types_made env.structures).basic whole.words))

pub type_gives : (names : Names) (before : Before) (type : Answer CType) (env : Env)
    → GivesTyped names env TypeFormed type → GivesTyped names env BeforeFormed (type_on before type)
unfolding type_on
type_gives names before type env h =
    then_gives names env TypeFormed BeforeFormed type _ h
    (λ of after formed reaches. gives_here names after BeforeFormed (of_type before of) formed reaches.typed)

pub typedef_gives : (names : Names) (at : Pos) (typedef : Option CType) (env : Env) → EnvTyped names env
    → MayBeType env.structures typedef → GivesTyped names env TypeFormed (settle at env (typedef_rule typedef))
typedef_gives names at typedef env t h =
    settled names env TypeFormed at (typedef_rule typedef) t (by typedef h)
  where
    by : (typedef : Option CType) → MayBeType env.structures typedef
        → IfFits (typedef_rule typedef) (TypeFormed env.structures)
    by None h = tt
    by (Some type) h = h

pub specifiers_give : (names : Names) (all : Specifiers) (answer : Answer Before) (env : Env)
    → GivesTyped names env BeforeFormed answer → GivesTyped names env TypeFormed (of_specifiers all answer)
unfolding of_specifiers
specifiers_give names all answer env h =
    then_gives names env BeforeFormed TypeFormed answer _ h (λ last after formed reaches.
    gives_here names after TypeFormed (with_quals (quals_of_words (qualifier_words all)) last.type)
    ((types_made after.structures).qualified (quals_of_words (qualifier_words all)) last.type formed) reaches.typed)

-- ---- declarators

abbrev pub DerivationFormed : List Structure → Derivation → Type 0
DerivationFormed structures (ToPointer quals) = Unit {0}
DerivationFormed structures (ToArray length) = IfSome length (λ n. 0 < n)
DerivationFormed structures (ToFunction parameters variadic may_vary) = TypesFormed structures parameters

-- each derivation of a declarator makes a well-formed type of a well-formed one
abbrev pub AllDerived : List Structure → List Derived → Type 0
AllDerived structures [] = Unit {0}
AllDerived structures (first ∷ rest) = DerivationFormed structures first.derivation × AllDerived structures rest

pub derived_with : (structures : List Structure) (all : List Derived) (last : Derived) → AllDerived structures all
    → DerivationFormed structures last.derivation → AllDerived structures (all ++ last ∷ [])
derived_with structures [] last h g = (g, tt)
derived_with structures (first ∷ rest) last h g = (h.0, derived_with structures rest last h.1 g)

pub types_stay : (old new : List Structure) (types : CTypes) → KeepsStructures old new → TypesFormed old types
    → TypesFormed new types
types_stay old new Nil kept h = tt
types_stay old new (Cons first rest) kept h =
    ((stays_typed old new kept).type first h.0, types_stay old new rest kept h.1)

derivation_stays : (old new : List Structure) (derivation : Derivation) → KeepsStructures old new
    → DerivationFormed old derivation → DerivationFormed new derivation
derivation_stays old new (ToPointer quals) kept h = tt
derivation_stays old new (ToArray length) kept h = h
derivation_stays old new (ToFunction parameters variadic may_vary) kept h = types_stay old new parameters kept h

pub derived_stay : (old new : List Structure) (all : List Derived) → KeepsStructures old new → AllDerived old all
    → AllDerived new all
derived_stay old new [] kept h = tt
derived_stay old new (first ∷ rest) kept h =
    (derivation_stays old new first.derivation kept h.0, derived_stay old new rest kept h.1)

derivation_fits : (structures : List Structure) (type : CType) (derivation : Derivation) → TypeFormed structures type
    → DerivationFormed structures derivation
    → IfFits (derivation_rule structures type derivation) (TypeFormed structures)
derivation_fits structures type (ToPointer quals) h g = (types_made structures).pointer quals type h
derivation_fits structures type (ToArray length) h g = (types_made structures).array type length h g
derivation_fits structures type (ToFunction parameters variadic may_vary) h g =
    (types_made structures).function type parameters variadic may_vary h g

derived_type_gives : (names : Names) (name_at : Option Pos) (around : Pos) (base : CType) (all : List Derived)
    (env : Env) → EnvTyped names env → TypeFormed env.structures base → AllDerived env.structures all
    → GivesTyped names env TypeFormed (derived_type name_at around base all env)
unfolding derived_type
derived_type_gives names name_at around base [] env t h all = gives_here names env TypeFormed base h t
derived_type_gives names name_at around base (first ∷ outer) env t h all =
    then_gives names env TypeFormed TypeFormed (derived_type name_at around base outer env) _
    (derived_type_gives names name_at around base outer env t h all.1) (λ type after formed reaches.
    settled names after TypeFormed (derivation_place name_at around first.length_at)
    (derivation_rule after.structures type first.derivation) reaches.typed
    (derivation_fits after.structures type first.derivation formed
    (derivation_stays env.structures after.structures first.derivation reaches.kept all.0)))

pub derivations_give : (names : Names) (name_at : Option Pos) (around : Pos) (base : CType)
    (answer : Answer (List Derived)) (env : Env) → TypeFormed env.structures base
    → GivesTyped names env AllDerived answer
    → GivesTyped names env TypeFormed (of_derivations name_at around base answer)
unfolding of_derivations
derivations_give names name_at around base answer env h all =
    then_gives names env AllDerived TypeFormed answer _ all (λ every after formed reaches.
    derived_type_gives names name_at around base every after reaches.typed
    ((stays_typed env.structures after.structures reaches.kept).type base h) formed)

-- ---- parameters

-- an adjusted parameter that is not `void` is an object
adjusted_object : (type : CType) → not (is_void type) ≡ true → IsObject (adjusted type)
adjusted_object (Array of len) h = tt
adjusted_object (Plain (BasicType b.Void) quals) h = cc
adjusted_object (Plain (BasicType basic) quals) h = tt
adjusted_object (Plain (Pointer to) quals) h = tt
adjusted_object (Plain (Function result parameters variadic) quals) h = tt
adjusted_object (Plain (Compound number) quals) h = tt
adjusted_object (Plain (Enumerated number) quals) h = tt

-- what a parameter is declared with
abbrev IsParameter : List Structure → CType → Type 0
IsParameter structures type = TypeFormed structures type × IsObject type

parameter_fits : (structures : List Structure) (type : CType) → TypeFormed structures type
    → IfFits (parameter_rule type) (IsParameter structures)
parameter_fits structures type h =
    fits_both (TypeFormed structures) IsObject (parameter_rule type) ((types_made structures).parameter type h)
    (fits_if IsObject (parameter_demands type) (adjusted type) (λ hold. adjusted_object type hold.0))

with_parameter_gives : (names : Names) (name : Option (Pos × List ℕ)) (named : Named) (env : Env)
    → EnvTyped names env → NamedTyped names env.structures named
    → GivesTyped names env Anything (with_parameter name named env)
with_parameter_gives names None named env t h = gives_here names env Anything tt tt t
with_parameter_gives names (Some name) named env t h =
    settled_then names env Anything name.0 (fresh_rule (found_here env.scopes false name.1)) _
    (fits_always (λ fresh. GivesTyped names env Anything (Gives tt (with_name name.1 named env)))
    (fresh_rule (found_here env.scopes false name.1)) (λ fresh.
    gives names env (with_name name.1 named env) Anything tt tt (with_name_reaches names env name.1 named t h)))

either_gives : {A : Type 0} (names : Names) (env : Env) (Is : List Structure → A → Type 0) (b : Bool)
    (first second : Answer A) → GivesTyped names env Is first → GivesTyped names env Is second
    → GivesTyped names env Is (cond b first second)
either_gives names env Is true first second h g = h
either_gives names env Is false first second h g = g

pub parameter_gives : (names : Names) (alone : Bool) (specifiers : Specifiers) (declarator : Declarator) (number : ℕ)
    (type : CType) (env : Env) → EnvTyped names env → NamesObject names (object.Slot number)
    → TypeFormed env.structures type
    → GivesTyped names env MayBeType (parameter_of alone specifiers declarator number type env)
parameter_gives names alone specifiers declarator number type env t slot h =
    either_gives names env MayBeType (is_none alone specifiers declarator type) _ _
    (gives_here names env MayBeType None tt t)
    (settled_then names env MayBeType (first_place specifiers) (parameter_rule type) _
    (fits_then (IsParameter env.structures) _ (parameter_rule type) (λ adjusted is.
    let named : Named = parameter_object adjusted (holds_register specifiers) number in
    then_gives names env Anything MayBeType (with_parameter (name_in declarator) named env) _
    (with_parameter_gives names (name_in declarator) named env t (is.0, is.1, slot)) (λ done after any reaches.
    gives_here names after MayBeType (Some adjusted)
    ((stays_typed env.structures after.structures reaches.kept).type adjusted is.0) reaches.typed))
    (parameter_fits env.structures type h)))

-- a function behind the derivations before it, by what its parameters give in their scope
pub function_gives : (names : Names) (around : Around) (parameters : Parameters) (variadic : Bool) (all : List Derived)
    (env : Env) → AllDerived env.structures all → EnvTyped names env
    → GivesTyped (with_slots names parameters) (scope_entered env) TypesFormed
    (walk.parameters_typed around.at (is_alone parameters variadic) parameters 0 (scope_entered env))
    → GivesTyped names env AllDerived
    (and_then (walk.parameters_typed around.at (is_alone parameters variadic) parameters 0 (scope_entered env))
    (λ types env.
    Gives (all ++ function_derived types variadic (around.may_vary && is_first all) env ∷ []) (scope_left env)))
function_gives names around parameters variadic all env are t h =
    scope_gives names (with_slots names parameters) env TypesFormed AllDerived
    (walk.parameters_typed around.at (is_alone parameters variadic) parameters 0 (scope_entered env))
    (λ types env. all ++ function_derived types variadic (around.may_vary && is_first all) env ∷ []) t
    (parameters_keep around.at (is_alone parameters variadic) parameters 0 (scope_entered env)) h
    (λ types after is kept. derived_with after.structures all
    (function_derived types variadic (around.may_vary && is_first all) after)
    (derived_stay env.structures after.structures all kept are) is)

-- ---- enumerators

pub enumerator_gives : (names : Names) (at : Pos) (x : List ℕ) (value : Option ℤ) (env : Env) → EnvTyped names env
    → GivesTyped names env Anything (enumerator_bound at x value env)
enumerator_gives names at x value env t =
    let rule : Ruled ℤ = enumerator_rule (found_here env.scopes false x) value in
    settled_then names env Anything at rule _
    (fits_then (λ n. NamedTyped names env.structures (enumerator n))
    (λ n. GivesTyped names env Anything (Gives n (with_name x (enumerator n) env))) rule
    (λ n typed. gives names env (with_name x (enumerator n) env) Anything n tt
    (with_name_reaches names env x (enumerator n) t typed))
    ((members_made env.structures t.structures).enumerator names (found_here env.scopes false x) value))
