-- Well-typed parts: of an expression before and after it is used as a value (6.3.2.1).
use Rattle.std.specs.Prelude.{◌≡◌, Bool, true, List, Some}
use Rattle.acc_num.specs.Numbers.{InRange}
use Rattle.c_types.specs.CType.{CType, CTypes, Nil, Cons}
use Rattle.c_types.specs.Structures.{Structure}
use Rattle.c_core.specs.declared.form.Form.TheVariants as form
use Rattle.c_core.specs.Forms.{form_of}
use Rattle.c_core.specs.Named.{Names, NamesObject, NamesFunction}
use Rattle.c_core.specs.Tree.{Core, Cores, NoCore, MoreCores, type_in, node_in}
use Rattle.c_core.specs.Typed.{CoreTyped}
use Rattle.c_core.specs.Types.{value_form, IsObject, IsScalar, IsLeft}
use Rattle.c_scopes.specs.Named.{Named, ObjectOf, FunctionOf, TypedefOf, ConstantOf, NullPointerOf, TagOf}
use Rattle.c_scopes.specs.Ruled.{Ruled, Fits, Breaks}
use Rattle.c_conversions.specs.declared.operand.Category.{Category}
use Rattle.c_conversions.specs.declared.operand.Category.TheVariants as c
use Rattle.c_conversions.specs.Kinds.{is_integer, int_kind}
use Rattle.c_conversions.specs.Parts.{Part, value}
use Rattle.c_conversions.specs.Versions.{is_pointer, is_function}
use Rattle.c_expr_rules.specs.Pointers.{pointer_below}
use Rattle.c_expr_rules.specs.Targets.{basic_in}
use Rattle.c_expr_rules.specs.Uses.{has_value}
use Rattle.c_typing_law.specs.WellFormed.{TypeFormed}

-- A value, or a void expression: it leaves what its type says, and a structure or union is complete.
pub record ValueTyped (names : Names) (structures : List Structure) (held : Core) : Type 0 where
  pub core : CoreTyped names held
  pub type : TypeFormed structures (type_in held)
  pub form : value_form (type_in held) ≡ Some (form_of held)
  pub whole : has_value structures (value held) ≡ true

-- The place of an object. What `&` makes of it has a well-formed type too (6.5.3.2p3).
pub record PlaceTyped (names : Names) (structures : List Structure) (place : Core) : Type 0 where
  pub core : CoreTyped names place
  pub type : TypeFormed structures (type_in place)
  pub form : form_of place ≡ form.Place
  pub below : TypeFormed structures (type_in (pointer_below (node_in place) place))

-- A designator is told by the pointer to its function (6.3.2.1p4).
abbrev pub CategoryTyped : Names → List Structure → Category → Core → Type 0
CategoryTyped names structures (c.Lvalue register) core = PlaceTyped names structures core
CategoryTyped names structures c.Temporary core = PlaceTyped names structures core
CategoryTyped names structures c.Value core = ValueTyped names structures core
CategoryTyped names structures c.Designator core = ValueTyped names structures core

abbrev pub PartTyped : Names → List Structure → Part → Type 0
PartTyped names structures part = CategoryTyped names structures part.category part.core

-- A core leaves a value as this type has them.
pub record Leaves (names : Names) (type : CType) (held : Core) : Type 0 where
  pub core : CoreTyped names held
  pub form : value_form type ≡ Some (form_of held)
  pub value : IsLeft (form_of held)

-- The arguments that have a parameter are what values of its type are, and any further one is a scalar where the
-- function takes it (6.5.2.2p2, p6).
abbrev pub ArgumentsTyped : Names → CTypes → Bool → Cores → Type 0
ArgumentsTyped names types variadic NoCore = Unit {0}
ArgumentsTyped names (Cons type types) variadic (MoreCores first rest) =
    Leaves names type first × ArgumentsTyped names types variadic rest
ArgumentsTyped names Nil true (MoreCores first rest) =
    CoreTyped names first × IsScalar (form_of first) × ArgumentsTyped names Nil true rest
ArgumentsTyped names Nil variadic (MoreCores first rest) = Unit {0}

-- What a name stands for is there, and has a well-formed type that suits it.
abbrev pub NamedTyped : Names → List Structure → Named → Type 0
NamedTyped names structures (ObjectOf type object) =
    TypeFormed structures type × IsObject type × NamesObject names object.name
NamedTyped names structures (FunctionOf type function) =
    TypeFormed structures type × (is_function type ≡ true) × NamesFunction names.functions function.name
NamedTyped names structures (ConstantOf type n) =
    (is_integer type ≡ true) × InRange (int_kind (basic_in type)) n
NamedTyped names structures (NullPointerOf type) = TypeFormed structures type × (is_pointer type ≡ true)
NamedTyped names structures (TypedefOf type) = TypeFormed structures type
NamedTyped names structures (TagOf type state) = TypeFormed structures type

-- What a rule gives, if it fits, is so.
abbrev pub IfFits : {A : Type 0} → Ruled A → (A → Type 0) → Type 0
IfFits (Fits a) P = P a
IfFits (Breaks number) P = Unit {0}
