-- Tags, structures, unions and enumerations as the environment gets them (6.7.2.1 to 6.7.2.3).
use Rattle.std.specs.Prelude.{ℕ, Bool, true, false, cond, List, Option, Some, None}
use Rattle.critical_table.specs.declared.pos.Pos.{Pos}
use Rattle.c_types.specs.Compounds.{number_in}
use Rattle.c_types.specs.CType.{CType}
use Rattle.c_syntax.specs.declared.specifier.CompoundWord.{CompoundWord}
use Rattle.c_syntax.specs.declared.specifier.CompoundWord.TheVariants.{Struct, Union}
use Rattle.c_syntax.specs.declared.specifier.Tag.{Tag}
use Rattle.c_scopes.specs.declared.binding.TagState.{TagState}
use Rattle.c_scopes.specs.declared.binding.TagState.TheVariants as state
use Rattle.c_scopes.specs.Env.{Env}
use Rattle.c_scopes.specs.Named.{Named, TagOf}
use Rattle.c_scopes.specs.Scopes.{found, found_here}
use Rattle.c_type_rules.specs.Members.{body_rule, content_rule}
use Rattle.c_type_rules.specs.Tags.{compound_tag_rule, compound_body_rule, enumerated_tag_rule, enumerated_body_rule}
use Rattle.c_type_rules.specs.Tags.{next_compound, next_enumerated}
use Rattle.c_type_parts.specs.Answers.{Answer, Gives, and_then, settle}
use Rattle.c_type_parts.specs.Declaring.{TypedMembers}
use Rattle.c_type_parts.specs.Environments.{with_name, with_compound, with_enumeration, with_structure}

abbrev pub is_union : CompoundWord → Bool
is_union Struct = false
is_union Union = true

-- `struct s;` means the tag of this scope, any other `struct s` the innermost one (6.7.2.3p7, p8)
abbrev pub tag_seen : Bool → List ℕ → Env → Option Named
tag_seen alone name env = cond alone (found_here env.scopes true name) (found env.scopes true name)

-- the tag stands for this type, in the innermost scope
abbrev pub with_tag : Tag → CType → TagState → Env → Env
with_tag tag type state env = with_name tag.name (TagOf type state) env

-- ---- without a body

abbrev pub known_or_declared : Bool → Tag → Option CType → Env → Answer CType
known_or_declared union tag (Some type) env = Gives type env
known_or_declared union tag None env =
    Gives (next_compound env.structures)
    (with_tag tag (next_compound env.structures) state.Declared (with_compound union env))

abbrev pub known_compound : Bool → Tag → Bool → Env → Answer (Option CType)
known_compound union tag alone env =
    settle tag.pos env (compound_tag_rule env.structures union (tag_seen alone tag.name env))

-- `struct tag`: a tag that is in scope, or a new one (6.7.2.3p8)
abbrev pub tagged_compound : Bool → Tag → Bool → Env → Answer CType
tagged_compound union tag alone env =
    and_then (known_compound union tag alone env) (λ known env. known_or_declared union tag known env)

-- `enum tag`: a tag that is in scope
abbrev pub tagged_enumeration : Tag → Env → Answer CType
tagged_enumeration tag env = settle tag.pos env (enumerated_tag_rule (found env.scopes true tag.name))

-- ---- with a body: the tag is in scope from its place on, and its type complete behind the body (6.2.1p7, 6.7.2.3p4)

abbrev pub known_body : Bool → Tag → Env → Answer (Option CType)
known_body union tag env =
    settle tag.pos env (compound_body_rule env.structures union (found_here env.scopes true tag.name))

abbrev pub completed_or_begun : Bool → Tag → Option CType → Env → Answer CType
completed_or_begun union tag (Some type) env = Gives type (with_tag tag type state.Begun env)
completed_or_begun union tag None env =
    Gives (next_compound env.structures)
    (with_tag tag (next_compound env.structures) state.Begun (with_compound union env))

abbrev pub compound_begun : Bool → Option Tag → Env → Answer CType
compound_begun union None env = Gives (next_compound env.structures) (with_compound union env)
compound_begun union (Some tag) env =
    and_then (known_body union tag env) (λ known env. completed_or_begun union tag known env)

abbrev pub enumeration_begun : Option Tag → Env → Answer CType
enumeration_begun None env = Gives (next_enumerated env.enumerations) (with_enumeration env)
enumeration_begun (Some tag) env =
    and_then (settle tag.pos env (enumerated_body_rule (found_here env.scopes true tag.name)))
    (λ new env. Gives (next_enumerated env.enumerations)
    (with_tag tag (next_enumerated env.enumerations) state.Begun (with_enumeration env)))

abbrev pub tag_completed : Option Tag → CType → Env → Env
tag_completed None type env = env
tag_completed (Some tag) type env = with_tag tag type state.Complete env

-- the place of a structure: its tag, or its word where it has none
abbrev pub compound_place : Pos → Option Tag → Pos
compound_place at None = at
compound_place at (Some tag) = tag.pos

-- behind the body, at this place
abbrev pub body_ended : Bool → Pos → CType → TypedMembers → Env → Answer (Unit {0})
body_ended union at type members env =
    and_then (settle at env (content_rule union members.names type env.structures)) (λ new env.
    and_then (settle at env (body_rule union members.names members.types env.structures))
    (λ structure env. Gives tt (with_structure (number_in type) structure env)))

-- the type with these members
abbrev pub compound_completed : Bool → Option Tag → Pos → CType → TypedMembers → Env → Answer CType
compound_completed union tag at type members env =
    and_then (body_ended union (compound_place at tag) type members env)
    (λ done env. Gives type (tag_completed tag type env))

-- ---- a structure or union, and an enumeration, with a body: `members` and `enumerators` are what its parts answer

abbrev pub compound_with : Bool → Pos → Option Tag → (Env → Answer TypedMembers) → Env → Answer CType
compound_with union at tag members env =
    and_then (compound_begun union tag env) (λ type env.
    and_then (members env) (λ all env. compound_completed union tag at type all env))

abbrev pub enumeration_with : Option Tag → (Env → Answer (Unit {0})) → Env → Answer CType
enumeration_with tag enumerators env =
    and_then (enumeration_begun tag env) (λ type env.
    and_then (enumerators env) (λ last env. Gives type (tag_completed tag type env)))
