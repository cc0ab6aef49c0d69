-- The objects and functions that names in a core tree stand for.
use Rattle.std.specs.Prelude.{◌≡◌, ℕ, suc, ◌+◌, ◌<◌, ◌≤◌, ◌==◌, nat_lt, Bool, true, ◌&&◌, List, [], ◌∷◌, Option, Some}
use Rattle.std.specs.Prelude.{None, IsSome, IsSomeAnd, if◌then◌else◌}
use Rattle.std.specs.Option.{option_map}
use Rattle.critical_table.specs.declared.pos.Pos.{Pos}
use Rattle.c_core.specs.declared.named.TheConstants.{LIBRARY_FUNCTIONS}
use Rattle.c_core.specs.declared.named.ObjectName.{ObjectName}
use Rattle.c_core.specs.declared.named.ObjectName.TheVariants as object
use Rattle.c_core.specs.declared.named.FunctionName.{FunctionName}
use Rattle.c_core.specs.declared.named.FunctionName.TheVariants as function
use Rattle.c_core.specs.declared.statement.Local.{Local}

abbrev pub same_place : Pos → Pos → Bool
same_place a b = a.line == b.line && a.column == b.column

-- the number of the first of these tokens that stands at a place
abbrev pub number_at : Pos → List Pos → Option ℕ
number_at token [] = None
number_at token (first ∷ rest) = if same_place first token then Some 0 else option_map suc (number_at token rest)

-- No two of these tokens stand at one place.
abbrev pub AreDistinct : List Pos → Type 0
AreDistinct [] = Unit {0}
AreDistinct (first ∷ rest) = (number_at first rest ≡ None) × AreDistinct rest

-- the first place stands before the second
abbrev pub is_before : Pos → Pos → Bool
is_before a b = if a.line == b.line then nat_lt a.column b.column else nat_lt a.line b.line

-- Each token stands before the next.
abbrev pub AreRising : List Pos → Type 0
AreRising [] = Unit {0}
AreRising (first ∷ []) = Unit {0}
AreRising (first ∷ second ∷ rest) = (is_before first second ≡ true) × AreRising (second ∷ rest)

-- the size of the object in a slot, where one is made
abbrev pub size_in : ℕ → List Local → Option ℕ
size_in slot [] = None
size_in slot (local ∷ rest) = if local.slot == slot then Some local.size else size_in slot rest

-- the objects that are made, after these
abbrev pub objects_with : List Local → List Local → List Local
objects_with [] objects = objects
objects_with (local ∷ rest) objects = objects_with rest (local ∷ objects)

-- so many bytes from a byte on lie in the object of a slot, which is made
abbrev pub LieIn : List Local → ℕ → ℕ → ℕ → Type 0
LieIn objects slot at len = IsSomeAnd (size_in slot objects) (λ size. at + len ≤ size)

-- What an expression may name: the tokens of the unit's functions and static objects, and the objects that are made
-- where it stands.
pub record Names : Type 0 where
  pub functions : List Pos
  pub statics : List Pos
  pub objects : List Local

abbrev pub NamesObject : Names → ObjectName → Type 0
NamesObject names (object.Slot slot) = IsSome (size_in slot names.objects)
NamesObject names (object.Static token) = IsSome (number_at token names.statics)

abbrev pub NamesFunction : List Pos → FunctionName → Type 0
NamesFunction functions (function.Unit token) = IsSome (number_at token functions)
NamesFunction functions (function.Library number) = number < LIBRARY_FUNCTIONS

abbrev pub names_in_block : List Local → Names → Names
names_in_block locals names = record names { objects = objects_with locals names.objects }

-- What could be named still can.
pub record Widens (old new : Names) : Type 0 where
  pub functions : (token : Pos) → IsSome (number_at token old.functions) → IsSome (number_at token new.functions)
  pub statics : (token : Pos) → IsSome (number_at token old.statics) → IsSome (number_at token new.statics)
  pub objects : (slot : ℕ) → IsSome (size_in slot old.objects) → IsSome (size_in slot new.objects)
