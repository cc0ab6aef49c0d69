-- What an initializer stores, item by item (6.7.9).
use Rattle.std.specs.Prelude.{ℕ, Bool, true, false}
use Rattle.std.specs.Prelude.{not, ◌&&◌, ◌||◌, List, [], ◌∷◌, Option, Some, None}
use Rattle.c_types.specs.CType.{CType}
use Rattle.c_types.specs.Structures.{Structure}
use Rattle.c_core.specs.declared.form.Content.{Content}
use Rattle.c_core.specs.declared.form.Content.TheVariants as content
use Rattle.c_core.specs.Tree.{Core, type_in}
use Rattle.c_core.specs.TreeUnit.{StaticValue}
use Rattle.c_scopes.specs.Ruled.{Ruled, Demand, ruled}
use Rattle.c_conversions.specs.Contents.{content_in}
use Rattle.c_conversions.specs.Parts.{Part}
use Rattle.c_conversions.specs.Converting.{converts, assigned}
use Rattle.c_conversions.specs.Versions.{are_versions, is_array, is_compound}
use Rattle.c_initial_rules.specs.declared.constants.Constancy.{Constancy}
use Rattle.c_initial_rules.specs.Constants.{as_constant, is_constant, is_defined, static_value}

-- what an item stores: a value of an automatic object, a constant of a static one, or the bytes of a literal
pub data Initial : Type 0 where
  Valued : (content : Content) (core : Core) → Initial
  Fixed : (value : StaticValue) → Initial
  Spelled : (bytes : List ℕ) → Initial

-- an item and the byte where it is stored
pub record Placed : Type 0 where
  pub at : ℕ
  pub initial : Initial

-- ---- an expression for an object of a type, or for none where there are too many items

-- In a list an expression initializes a structure only where it is one; anything else would leave braces out, which the
-- profile has not. No expression initializes an array (6.7.9p13, p20).
abbrev pub takes : (nested : Bool) → Option CType → Part → Bool
takes nested None part = false
takes nested (Some type) part = not (is_array type)
    && (not nested || not (is_compound type) || are_versions type (type_in part.core))

abbrev pub converts_to : Option CType → Part → Bool
converts_to None part = true
converts_to (Some type) part = converts type part

-- All expressions in the initializer of a static object are constants (6.7.9p4).
abbrev pub item_demands : (static nested : Bool) → Constancy → Option CType → Part → List Demand
item_demands static nested constancy target part = (16, not static || is_constant constancy)
    ∷ (17, takes nested target part)
    ∷ (30, converts_to target part)
    ∷ (42, not static || is_defined constancy) ∷ []

-- what an object of the type holds; a value that converts to it has one
abbrev pub content_or_none : Option Content → Content
content_or_none None = content.Whole 0
content_or_none (Some content) = content

abbrev pub value_stored : List Structure → CType → Part → Initial
value_stored structures type part = Valued (content_or_none (content_in type structures)) (assigned type part)

abbrev pub item_stored : List Structure → (static : Bool) → Constancy → CType → Part → Initial
item_stored structures true constancy type part = Fixed (static_value type constancy)
item_stored structures false constancy type part = value_stored structures type part

abbrev pub stored_in : List Structure → (static : Bool) → Constancy → Option CType → Part → Initial
stored_in structures static constancy None part = Spelled []
stored_in structures static constancy (Some type) part = item_stored structures static constancy type part

abbrev pub item_rule : List Structure → (static nested : Bool) → Option CType → Part → Ruled Initial
item_rule structures static nested target part = let c = as_constant structures part in
    ruled (item_demands static nested c target part) (stored_in structures static c target part)
