-- Tags, structures, unions and enumerations keep what is in scope typed (6.7.2.1 to 6.7.2.3).
use Rattle.std.proofs.Common.{◌≡◌, ◌∙◌, ◌⊎◌, inl, inr, ℕ, zero, suc, ◌<◌, ◌≤◌, Bool, true, false, not, ◌&&◌}
use Rattle.std.proofs.Common.{List, [], ◌∷◌, ◌++◌, length, slice_set, Option, Some, None, IfSome, refl, sym, ap, subst}
use Rattle.std.proofs.Common.{arith, is_some}
use Rattle.std.specs.Prelude.{option_map}
use Rattle.std.proofs.lemmas.List.{length-append}
use Rattle.critical_table.specs.declared.pos.Pos.{Pos}
use Rattle.c_types.specs.declared.layout.Layout.{Layout}
use Rattle.c_types.specs.Compounds.{number_in, structure_with}
use Rattle.c_types.specs.CType.{CType, Plain, Array, BasicType, Pointer, Function, Compound, Enumerated}
use Rattle.c_types.specs.Layouts.{layouts_in}
use Rattle.c_types.specs.Making.{KeepsStructures}
use Rattle.c_types.specs.Structures.{Structure, StructureBody, structure_at}
use Rattle.c_types.proofs.Kept.{structures_own, structures_set}
use Rattle.c_core.specs.Named.{Names}
use Rattle.c_core.specs.Types.{IsObject}
use Rattle.c_syntax.specs.declared.specifier.Tag.{Tag}
use Rattle.c_scopes.specs.declared.binding.TagState.{TagState}
use Rattle.c_scopes.specs.declared.binding.TagState.TheVariants as state
use Rattle.c_scopes.specs.Env.{Env}
use Rattle.c_scopes.specs.Named.{Named, ObjectOf, FunctionOf, TypedefOf, ConstantOf, NullPointerOf, TagOf}
use Rattle.c_scopes.specs.Ruled.{Ruled}
use Rattle.c_scopes.specs.Scopes.{found, found_here}
use Rattle.c_type_rules.specs.Arrays.{is_complete}
use Rattle.c_type_rules.specs.Members.{member_rule, has_some, content_rule, content_demands, body_rule}
use Rattle.c_type_rules.specs.Members.{body_demands, laid_out}
use Rattle.c_type_rules.specs.Tags.{same_truth, is_compound, compound_tag_rule, compound_body_rule}
use Rattle.c_type_rules.specs.Tags.{is_without_body, enumerated_demands, enumerated_tag_rule, enumerated_body_rule}
use Rattle.c_type_rules.specs.Tags.{next_compound, next_enumerated}
use Rattle.c_type_parts.specs.Answers.{Answer, Gives, and_then, settle}
use Rattle.c_type_parts.specs.Declaring.{TypedMembers, no_members, with_member, member_added}
use Rattle.c_type_parts.specs.Environments.{with_compound, with_enumeration, with_structure}
use Rattle.c_type_parts.specs.Tagging as tagging
use Rattle.c_typing_law.specs.TypedParts.{NamedTyped, IfFits}
use Rattle.c_typing_law.specs.TypesLaw.{AreMembers}
use Rattle.c_typing_law.specs.WellFormed.{TypeFormed, BodyFormed, StructuresFormed}
use Rattle.c_typing_law.proofs.Facts.{fits_if, both_hold, not_holds}
use Rattle.c_typing_law.proofs.Made.{members_made}
use Rattle.c_typing_law.proofs.Stays.{stays_typed, completed_formed}
use Rattle.c_walk_law.specs.InScope.{EnvTyped, Reaches, GivesTyped}
use Rattle.c_walk_law.proofs.Reaching.{widens_own, reaches_own, reaches_then, gives, gives_here, then_gives}
use Rattle.c_walk_law.proofs.Reaching.{settled, settled_then, fits_then, fits_both, fits_always}
use Rattle.c_walk_law.proofs.Scopes.{found_typed, found_here_typed, with_name_reaches, scopes_stay, declared_reaches}
use Rattle.c_walk_law.proofs.Scopes.{enumeration_reaches}

abbrev pub IsNamed : Names → List Structure → Option Named → Type 0
IsNamed names structures named = IfSome named (NamedTyped names structures)

abbrev pub MayBeType : List Structure → Option CType → Type 0
MayBeType structures type = IfSome type (TypeFormed structures)

-- nothing is said of what is given
abbrev pub Anything : {A : Type 0} → List Structure → A → Type 0
Anything structures a = Unit {0}

-- a tag of a type that is formed is in scope
tag_gives : (names : Names) (env mid : Env) (tag : Tag) (type : CType) (state : TagState)
    → TypeFormed mid.structures type → Reaches names env mid
    → GivesTyped names env TypeFormed (Gives type (tagging.with_tag tag type state mid))
tag_gives names env mid tag type state h reaches =
    gives names env (tagging.with_tag tag type state mid) TypeFormed type h
    (reaches_then names env mid (tagging.with_tag tag type state mid) reaches
    (with_name_reaches names mid tag.name (TagOf type state) reaches.typed h))

-- ---- the type that a tag stands for

known_tag : (names : Names) (structures : List Structure) (union : Bool) (seen : Option Named)
    → IsNamed names structures seen → IfFits (compound_tag_rule structures union seen) (MayBeType structures)
known_tag names structures union None h = tt
known_tag names structures union (Some (TagOf type state)) h =
    fits_if (MayBeType structures) ((6, is_compound union type structures) ∷ []) (Some type) (λ hold. h)
known_tag names structures union (Some (ObjectOf type object)) h = tt
known_tag names structures union (Some (FunctionOf type function)) h = tt
known_tag names structures union (Some (TypedefOf type)) h = tt
known_tag names structures union (Some (ConstantOf type n)) h = tt
known_tag names structures union (Some (NullPointerOf type)) h = tt

known_body_tag : (names : Names) (structures : List Structure) (union : Bool) (seen : Option Named)
    → IsNamed names structures seen → IfFits (compound_body_rule structures union seen) (MayBeType structures)
known_body_tag names structures union None h = tt
known_body_tag names structures union (Some (TagOf type state)) h =
    fits_if (MayBeType structures) ((6, is_compound union type structures && is_without_body state) ∷ []) (Some type)
    (λ hold. h)
known_body_tag names structures union (Some (ObjectOf type object)) h = tt
known_body_tag names structures union (Some (FunctionOf type function)) h = tt
known_body_tag names structures union (Some (TypedefOf type)) h = tt
known_body_tag names structures union (Some (ConstantOf type n)) h = tt
known_body_tag names structures union (Some (NullPointerOf type)) h = tt

known_enumeration : (names : Names) (structures : List Structure) (seen : Option Named)
    → IsNamed names structures seen → IfFits (enumerated_tag_rule seen) (TypeFormed structures)
known_enumeration names structures None h = tt
known_enumeration names structures (Some (TagOf type state)) h =
    fits_if (TypeFormed structures) (enumerated_demands type state) type (λ hold. h)
known_enumeration names structures (Some (ObjectOf type object)) h = tt
known_enumeration names structures (Some (FunctionOf type function)) h = tt
known_enumeration names structures (Some (TypedefOf type)) h = tt
known_enumeration names structures (Some (ConstantOf type n)) h = tt
known_enumeration names structures (Some (NullPointerOf type)) h = tt

-- ---- without a body

seen_typed : (names : Names) (alone : Bool) (name : List ℕ) (env : Env) → EnvTyped names env
    → IsNamed names env.structures (tagging.tag_seen alone name env)
seen_typed names true name env t = found_here_typed names env.structures env.scopes true name t.scopes
seen_typed names false name env t = found_typed names env.structures env.scopes true name t.scopes

known_gives : (names : Names) (union : Bool) (tag : Tag) (known : Option CType) (env : Env) → EnvTyped names env
    → MayBeType env.structures known
    → GivesTyped names env TypeFormed (tagging.known_or_declared union tag known env)
known_gives names union tag (Some type) env t h = gives_here names env TypeFormed type h t
known_gives names union tag None env t h =
    tag_gives names env (with_compound union env) tag (next_compound env.structures) state.Declared tt
    (declared_reaches names env union t)

pub tagged_gives : (names : Names) (union : Bool) (tag : Tag) (alone : Bool) (env : Env) → EnvTyped names env
    → GivesTyped names env TypeFormed (tagging.tagged_compound union tag alone env)
tagged_gives names union tag alone env t =
    settled_then names env TypeFormed tag.pos
    (compound_tag_rule env.structures union (tagging.tag_seen alone tag.name env))
    (λ known env. tagging.known_or_declared union tag known env)
    (fits_then (MayBeType env.structures)
    (λ known. GivesTyped names env TypeFormed (tagging.known_or_declared union tag known env))
    (compound_tag_rule env.structures union (tagging.tag_seen alone tag.name env))
    (λ known h. known_gives names union tag known env t h)
    (known_tag names env.structures union (tagging.tag_seen alone tag.name env)
    (seen_typed names alone tag.name env t)))

pub tagged_enumeration_gives : (names : Names) (tag : Tag) (env : Env) → EnvTyped names env
    → GivesTyped names env TypeFormed (tagging.tagged_enumeration tag env)
tagged_enumeration_gives names tag env t =
    settled names env TypeFormed tag.pos (enumerated_tag_rule (found env.scopes true tag.name)) t
    (known_enumeration names env.structures (found env.scopes true tag.name)
    (found_typed names env.structures env.scopes true tag.name t.scopes))

-- ---- where a body begins

begun_gives : (names : Names) (union : Bool) (tag : Tag) (known : Option CType) (env : Env) → EnvTyped names env
    → MayBeType env.structures known
    → GivesTyped names env TypeFormed (tagging.completed_or_begun union tag known env)
begun_gives names union tag (Some type) env t h =
    tag_gives names env env tag type state.Begun h (reaches_own names env t)
begun_gives names union tag None env t h =
    tag_gives names env (with_compound union env) tag (next_compound env.structures) state.Begun tt
    (declared_reaches names env union t)

compound_begun_gives : (names : Names) (union : Bool) (tag : Option Tag) (env : Env) → EnvTyped names env
    → GivesTyped names env TypeFormed (tagging.compound_begun union tag env)
compound_begun_gives names union None env t =
    gives names env (with_compound union env) TypeFormed (next_compound env.structures) tt
    (declared_reaches names env union t)
compound_begun_gives names union (Some tag) env t =
    let rule : Ruled (Option CType) = compound_body_rule env.structures union (found_here env.scopes true tag.name) in
    settled_then names env TypeFormed tag.pos rule (λ known env. tagging.completed_or_begun union tag known env)
    (fits_then (MayBeType env.structures)
    (λ known. GivesTyped names env TypeFormed (tagging.completed_or_begun union tag known env)) rule
    (λ known h. begun_gives names union tag known env t h)
    (known_body_tag names env.structures union (found_here env.scopes true tag.name)
    (found_here_typed names env.structures env.scopes true tag.name t.scopes)))

enumeration_begun_gives : (names : Names) (tag : Option Tag) (env : Env) → EnvTyped names env
    → GivesTyped names env TypeFormed (tagging.enumeration_begun tag env)
enumeration_begun_gives names None env t =
    gives names env (with_enumeration env) TypeFormed (next_enumerated env.enumerations) tt
    (enumeration_reaches names env t)
enumeration_begun_gives names (Some tag) env t =
    let rule : Ruled (Unit {0}) = enumerated_body_rule (found_here env.scopes true tag.name) in
    settled_then names env TypeFormed tag.pos rule
    (λ new env. Gives (next_enumerated env.enumerations)
    (tagging.with_tag tag (next_enumerated env.enumerations) state.Begun (with_enumeration env)))
    (fits_always (λ new. GivesTyped names env TypeFormed (Gives (next_enumerated env.enumerations)
    (tagging.with_tag tag (next_enumerated env.enumerations) state.Begun (with_enumeration env)))) rule
    (λ new. tag_gives names env (with_enumeration env) tag (next_enumerated env.enumerations) state.Begun tt
    (enumeration_reaches names env t)))

-- ---- members

-- as many names as types, of which each is that of a member
pub record MembersTyped (structures : List Structure) (members : TypedMembers) : Type 0 where
  pub count : length members.names ≡ length members.types
  pub are : AreMembers structures members.types

pub no_members_typed : (structures : List Structure) → MembersTyped structures no_members
no_members_typed structures = record { count = refl; are = tt }

are_with : (structures : List Structure) (types : List CType) (type : CType) → AreMembers structures types
    → TypeFormed structures type → IsObject type → AreMembers structures (types ++ type ∷ [])
are_with structures [] type are h object = ((h, object), tt)
are_with structures (first ∷ rest) type are h object = (are.0, are_with structures rest type are.1 h object)

with_member_typed : (structures : List Structure) (earlier : TypedMembers) (name : List ℕ) (type : CType)
    → MembersTyped structures earlier → TypeFormed structures type → IsObject type
    → MembersTyped structures (with_member earlier name type)
with_member_typed structures earlier name type members h object = record {
  count =
      omega (arith, members.count, length-append earlier.names (name ∷ []), length-append earlier.types (type ∷ []));
  are = are_with structures earlier.types type members.are h object;
}

pub members_stay : (old new : List Structure) (members : TypedMembers) → KeepsStructures old new
    → MembersTyped old members → MembersTyped new members
members_stay old new members kept h = record { count = h.count; are = each members.types h.are }
  where
    each : (types : List CType) → AreMembers old types → AreMembers new types
    each [] are = tt
    each (first ∷ rest) are = (((stays_typed old new kept).type first are.0.0, are.0.1), each rest are.1)

-- a member that joins others
pub member_added_gives : (names : Names) (at : Pos) (name : List ℕ) (type : CType) (earlier : TypedMembers) (env : Env)
    → EnvTyped names env → MembersTyped env.structures earlier → TypeFormed env.structures type
    → GivesTyped names env MembersTyped (member_added at name type earlier env)
member_added_gives names at name type earlier env t are h =
    let rule : Ruled (Unit {0}) = member_rule env.structures earlier.names name type in
    settled_then names env MembersTyped at rule (λ stands env. Gives (with_member earlier name type) env)
    (fits_then (λ (done : Unit {0}). IsObject type)
    (λ stands. GivesTyped names env MembersTyped (Gives (with_member earlier name type) env)) rule
    (λ stands object. gives_here names env MembersTyped (with_member earlier name type)
    (with_member_typed env.structures earlier name type are h object) t)
    ((members_made env.structures t.structures).member earlier.names name type))

-- ---- where a body ends

-- what a body makes
abbrev IsMade : Bool → List Structure → Structure → Type 0
IsMade union structures made = IfSome made.body (BodyFormed structures) × (made.is_union ≡ union)

body_kind : (union : Bool) (names : List (List ℕ)) (types : List CType) (structures : List Structure)
    (layouts : Option (List Layout))
    → IfFits (laid_out union names types structures layouts) (λ (made : Structure). made.is_union ≡ union)
body_kind union names types structures None = tt
body_kind union names types structures (Some layouts) =
    fits_if (λ (made : Structure). made.is_union ≡ union) (body_demands union layouts)
    (structure_with union names types layouts structures) (λ hold. refl)

body_formed : (structures : List Structure) → StructuresFormed structures → (union : Bool) (names : List (List ℕ))
    (types : List CType) → has_some names ≡ true → length names ≡ length types → AreMembers structures types
    → IfFits (body_rule union names types structures) (λ (made : Structure). IfSome made.body (BodyFormed structures))
body_formed structures formed union [] types some count are = cc
body_formed structures formed union (name ∷ names) [] some count are = absurd (omega (arith, count))
body_formed structures formed union (name ∷ names) (first ∷ rest) some count are =
    (members_made structures formed).body union (name ∷ names) first rest are

-- a number that no structure has changes nothing
set_beyond : {A : Type 0} (all : List A) (number : ℕ) (a : A) → length all ≤ number → slice_set all number a ≡ all
set_beyond [] number a h = refl
set_beyond (first ∷ rest) zero a h = absurd (omega (arith, h))
set_beyond (first ∷ rest) (suc number) a h =
    ap (λ more. first ∷ more) (set_beyond rest number a (omega (arith, h)))

same_kind : (union kind : Bool) → same_truth union kind ≡ true → union ≡ kind
same_kind true true h = refl
same_kind true false h = cc
same_kind false true h = cc
same_kind false false h = refl

no_body : (body : Option StructureBody) → is_some (option_map (λ (b : StructureBody). b.layout) body) ≡ false
    → body ≡ None
no_body None h = refl
no_body (Some body) h = cc

either_side : (a b : ℕ) → (a < b) ⊎ (b ≤ a)
either_side a zero = inr (omega arith)
either_side zero (suc b) = inl (omega arith)
either_side (suc a) (suc b) =
    elim (either_side a b) [ inl h ↦ inl (omega (arith, h)) | inr h ↦ inr (omega (arith, h)) ]

set_reaches : (names : Names) (env : Env) (number : ℕ) (made : Structure) → EnvTyped names env
    → number < length env.structures → IfSome made.body (BodyFormed env.structures)
    → KeepsStructures env.structures (slice_set env.structures number made)
    → Reaches names env (with_structure number made env)
set_reaches names env number made t there body kept = record {
  typed = record {
    structures = completed_formed env.structures number made t.structures there body kept;
    scopes =
        scopes_stay names names env.structures (slice_set env.structures number made) (widens_own names) kept
        env.scopes t.scopes;
  };
  kept = kept;
}

beyond_reaches : (names : Names) (env : Env) (number : ℕ) (made : Structure) → EnvTyped names env
    → length env.structures ≤ number → Reaches names env (with_structure number made env)
beyond_reaches names env number made t far =
    let P : List Structure → Type 0 = λ structures. Reaches names env (record env { structures = structures }) in
    subst P (sym (set_beyond env.structures number made far)) (record {
      typed = record { structures = t.structures; scopes = t.scopes };
      kept = structures_own env.structures;
    })

completed_reaches : (names : Names) (union : Bool) (type : CType) (env : Env) (made : Structure) → EnvTyped names env
    → is_compound union type env.structures ≡ true → is_complete type env.structures ≡ false
    → IsMade union env.structures made → Reaches names env (with_structure (number_in type) made env)
completed_reaches names union (Plain (Compound number) quals) env made t is none body =
    by (either_side number (length env.structures))
  where
    by : (number < length env.structures) ⊎ (length env.structures ≤ number)
        → Reaches names env (with_structure number made env)
    by (inl there) =
        set_reaches names env number made t there body.0
        (structures_set env.structures number made there (no_body (structure_at env.structures number).body none)
        (body.1 ∙ same_kind union (structure_at env.structures number).is_union is))
    by (inr far) = beyond_reaches names env number made t far
completed_reaches names union (Plain (BasicType basic) quals) env made t is none body = cc
completed_reaches names union (Plain (Pointer to) quals) env made t is none body = cc
completed_reaches names union (Plain (Function result parameters variadic) quals) env made t is none body = cc
completed_reaches names union (Plain (Enumerated number) quals) env made t is none body = cc
completed_reaches names union (Array of len) env made t is none body = cc

body_gives : (names : Names) (union : Bool) (at : Pos) (type : CType) (members : TypedMembers) (env : Env)
    → EnvTyped names env → MembersTyped env.structures members
    → GivesTyped names env Anything (tagging.body_ended union at type members env)
body_gives names union at type members env t h =
    let made : Ruled Structure = body_rule union members.names members.types env.structures in
    let Ends : Unit {0} → Type 0 = λ new. GivesTyped names env Anything (and_then (settle at env made)
    (λ structure env. Gives tt (with_structure (number_in type) structure env))) in
    settled_then names env Anything at (content_rule union members.names type env.structures) _
    (fits_if Ends (content_demands union members.names type env.structures) tt (λ hold.
    let known : (is_compound union type env.structures ≡ true) × (not (is_complete type env.structures) ≡ true) =
    both_hold (is_compound union type env.structures) (not (is_complete type env.structures)) hold.1.0 in
    settled_then names env Anything at made _
    (fits_then (IsMade union env.structures)
    (λ structure. GivesTyped names env Anything (Gives tt (with_structure (number_in type) structure env))) made
    (λ structure is. gives names env (with_structure (number_in type) structure env) Anything tt tt
    (completed_reaches names union type env structure t known.0 (not_holds (is_complete type env.structures) known.1)
    is))
    (fits_both (λ (s : Structure). IfSome s.body (BodyFormed env.structures))
    (λ (s : Structure). s.is_union ≡ union) made
    (body_formed env.structures t.structures union members.names members.types hold.0 h.count h.are)
    (body_kind union members.names members.types env.structures (layouts_in members.types env.structures))))))

completed_tag : (names : Names) (tag : Option Tag) (type : CType) (env : Env) → EnvTyped names env
    → TypeFormed env.structures type → GivesTyped names env TypeFormed (Gives type (tagging.tag_completed tag type env))
completed_tag names None type env t h = gives_here names env TypeFormed type h t
completed_tag names (Some tag) type env t h =
    tag_gives names env env tag type state.Complete h (reaches_own names env t)

-- ---- with a body

pub compound_gives : (names : Names) (union : Bool) (at : Pos) (tag : Option Tag) (members : Env → Answer TypedMembers)
    (env : Env) → ((env : Env) → EnvTyped names env → GivesTyped names env MembersTyped (members env))
    → EnvTyped names env → GivesTyped names env TypeFormed (tagging.compound_with union at tag members env)
compound_gives names union at tag members env each t =
    then_gives names env TypeFormed TypeFormed (tagging.compound_begun union tag env) _
    (compound_begun_gives names union tag env t) (λ type inside formed begun.
    then_gives names inside MembersTyped TypeFormed (members inside) _ (each inside begun.typed)
    (λ all behind are walked.
    then_gives names behind Anything TypeFormed
    (tagging.body_ended union (tagging.compound_place at tag) type all behind) _
    (body_gives names union (tagging.compound_place at tag) type all behind walked.typed are) (λ done last any ended.
    completed_tag names tag type last ended.typed
    ((stays_typed behind.structures last.structures ended.kept).type type
    ((stays_typed inside.structures behind.structures walked.kept).type type formed)))))

pub enumeration_gives : (names : Names) (tag : Option Tag) (enumerators : Env → Answer (Unit {0})) (env : Env)
    → ((env : Env) → EnvTyped names env → GivesTyped names env Anything (enumerators env)) → EnvTyped names env
    → GivesTyped names env TypeFormed (tagging.enumeration_with tag enumerators env)
enumeration_gives names tag enumerators env each t =
    then_gives names env TypeFormed TypeFormed (tagging.enumeration_begun tag env) _
    (enumeration_begun_gives names tag env t) (λ type inside formed begun.
    then_gives names inside Anything TypeFormed (enumerators inside) _ (each inside begun.typed)
    (λ done last any walked.
    completed_tag names tag type last walked.typed
    ((stays_typed inside.structures last.structures walked.kept).type type formed)))
