-- A structure or union by its tag: one that is known, and one that is declared.
use Rattle.std.proofs.Common.{◌≡◌, ◌∙◌, sym, List, Bool, true}
use Rattle.std.specs.Prelude.{Option, Some, None}
use Rattle.c_types.specs.declared.shape.TypeId.{TypeId}
use Rattle.c_types.specs.CType.{CType, type_of}
use Rattle.c_types.specs.Structures.{structures_of}
use Rattle.c_types.specs.Types.{Types}
use Rattle.c_core.specs.Ids.{IdIn}
use Rattle.c_syntax.specs.declared.specifier.Tag.{Tag}
use Rattle.c_scopes.specs.declared.binding.Binding.TheVariants as b
use Rattle.c_scopes.specs.declared.binding.TagState.TheVariants as state
use Rattle.c_scopes.specs.Clauses.{OptionIn, type_or_none}
use Rattle.c_scopes.specs.Env.{Env, env_of}
use Rattle.c_scopes.specs.Named.{TagOf, named_of}
use Rattle.c_scopes.specs.Ruled.{Fits}
use Rattle.c_scopes.specs.Scopes.{Scope, found_here}
use Rattle.c_type_rules.specs.Tags.{next_compound, next_enumerated, enumerated_body_rule}
use Rattle.c_type_parts.specs.Answers.{Gives, settle}
use Rattle.c_type_parts.specs.Clauses.{Becomes, BecomesWith, Given}
use Rattle.c_type_parts.specs.Environments.{with_name, with_compound, with_enumeration}
use Rattle.c_type_parts.specs.Tagging.{known_compound, known_or_declared, tagged_compound}
use Rattle.c_type_parts.specs.Tagging.{known_body, completed_or_begun, compound_begun, enumeration_begun, with_tag}
use Rattle.c_type_parts.proofs.Steps.{fits_given, then_given}

pub known_given : (union alone : Bool) (tag : Tag) (scopes : List Scope) (types : Types) (known : Option TypeId)
    (id : TypeId) → known ≡ Some id
    → Given (known_compound union tag alone (env_of scopes types)) (type_or_none types known)
    (λ t. OptionIn t known) types scopes types
    → Given (tagged_compound union tag alone (env_of scopes types)) (type_of types id) (λ t. IdIn t id) types scopes
    types
known_given union alone tag scopes types known id e given =
    let found = rw e at given in
    record {
      is = then_given (known_compound union tag alone (env_of scopes types)) (Some (type_of types id))
          (env_of scopes types) (λ known env. known_or_declared union tag known env) found.is;
      is_in = found.is_in;
      here = found.here;
      grown = found.grown;
    }

pub declared_given : (union alone : Bool) (tag : Tag) (before after : List Scope) (old new : Types)
    (known : Option TypeId) (id : TypeId) → known ≡ None
    → Given (known_compound union tag alone (env_of before old)) (type_or_none old known) (λ t. OptionIn t known) old
    before old
    → BecomesWith (next_compound (structures_of old)) (with_name tag.name
    (TagOf (next_compound (structures_of old)) state.Declared) (with_compound union (env_of before old))) old after
    new id
    → Given (tagged_compound union tag alone (env_of before old)) (type_of new id) (λ t. IdIn t id) old after new
declared_given union alone tag before after old new known id e given made =
    let none = rw e at given in
    record {
      is = then_given (known_compound union tag alone (env_of before old)) None (env_of before old)
          (λ known env. known_or_declared union tag known env) none.is
          ∙ (λ i. Gives (sym made.stands_for i) (sym made.becomes.is i));
      is_in = made.is_in;
      here = made.becomes.here;
      grown = made.becomes.grown;
    }

pub body_of_known : (union : Bool) (tag : Tag) (before after : List Scope) (types : Types) (known : Option TypeId)
    (id : TypeId) → known ≡ Some id
    → Given (known_body union tag (env_of before types)) (type_or_none types known) (λ t. OptionIn t known) types before
    types
    → Becomes (with_name tag.name (named_of types (b.Tag id state.Begun)) (env_of before types)) types after types
    → Given (compound_begun union (Some tag) (env_of before types)) (type_of types id) (λ t. IdIn t id) types after
    types
body_of_known union tag before after types known id e given bound =
    let found = rw e at given in
    record {
      is = then_given (known_body union tag (env_of before types)) (Some (type_of types id)) (env_of before types)
          (λ known env. completed_or_begun union tag known env) found.is
          ∙ (λ i. Gives (type_of types id) (sym bound.is i));
      is_in = found.is_in;
      here = bound.here;
      grown = bound.grown;
    }

pub body_of_new : (union : Bool) (tag : Tag) (before after : List Scope) (old new : Types) (known : Option TypeId)
    (id : TypeId) → known ≡ None
    → Given (known_body union tag (env_of before old)) (type_or_none old known) (λ t. OptionIn t known) old before old
    → BecomesWith (next_compound (structures_of old)) (with_name tag.name
    (TagOf (next_compound (structures_of old)) state.Begun) (with_compound union (env_of before old))) old after new id
    → Given (compound_begun union (Some tag) (env_of before old)) (type_of new id) (λ t. IdIn t id) old after new
body_of_new union tag before after old new known id e given made =
    let none = rw e at given in
    record {
      is = then_given (known_body union tag (env_of before old)) None (env_of before old)
          (λ known env. completed_or_begun union tag known env) none.is
          ∙ (λ i. Gives (sym made.stands_for i) (sym made.becomes.is i));
      is_in = made.is_in;
      here = made.becomes.here;
      grown = made.becomes.grown;
    }

pub enumerators_of_new : (tag : Tag) (before after : List Scope) (old new : Types) (id : TypeId)
    → enumerated_body_rule (found_here (env_of before old).scopes true tag.name) ≡ Fits tt
    → BecomesWith (next_enumerated old.enumerations) (with_name tag.name
    (TagOf (next_enumerated old.enumerations) state.Begun) (with_enumeration (env_of before old))) old after new id
    → Given (enumeration_begun (Some tag) (env_of before old)) (type_of new id) (λ t. IdIn t id) old after new
enumerators_of_new tag before after old new id fits made = record {
  is = then_given
      (settle tag.pos (env_of before old) (enumerated_body_rule (found_here (env_of before old).scopes true tag.name)))
      tt (env_of before old) (λ new env. Gives (next_enumerated env.enumerations)
      (with_tag tag (next_enumerated env.enumerations) state.Begun (with_enumeration env)))
      (fits_given tag.pos (env_of before old)
      (enumerated_body_rule (found_here (env_of before old).scopes true tag.name)) tt fits)
      ∙ (λ i. Gives (sym made.stands_for i) (sym made.becomes.is i));
  is_in = made.is_in;
  here = made.becomes.here;
  grown = made.becomes.grown;
}

-- what is made without a tag
pub made_given : (type : CType) (after : Env) (scopes : List Scope) (old new : Types) (id : TypeId)
    → BecomesWith type after old scopes new id → Given (Gives type after) (type_of new id) (λ t. IdIn t id) old
    scopes new
made_given type after scopes old new id made = record {
  is = λ i. Gives (sym made.stands_for i) (sym made.becomes.is i);
  is_in = made.is_in;
  here = made.becomes.here;
  grown = made.becomes.grown;
}
