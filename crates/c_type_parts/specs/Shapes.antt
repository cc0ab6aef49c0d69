-- What is seen of a node before its parts are walked: its place, and which words stand in specifiers.
use Rattle.std.specs.Prelude.{ℕ, Bool, true, false, ◌||◌, List, [], ◌∷◌, Option, Some, None}
use Rattle.critical_table.specs.declared.pos.Pos.{Pos}
use Rattle.c_syntax.specs.declared.specifier.BasicWord.{BasicWord}
use Rattle.c_syntax.specs.declared.specifier.Qualifier.{Qualifier}
use Rattle.c_syntax.specs.declared.specifier.Storage.{Storage}
use Rattle.c_syntax.specs.declared.specifier.Storage.TheVariants as storage
use Rattle.c_syntax.specs.Tree.{Expr, Specifier, Specifiers, Declarator}
use Rattle.c_syntax.specs.Tree as tree

-- the first byte of the operator; parentheses have no place
abbrev pub place_of : Expr → Pos
place_of (tree.Const pos constant) = pos
place_of (tree.Id pos x) = pos
place_of (tree.Text pos text) = pos
place_of (tree.Paren inner) = place_of inner
place_of (tree.Index pos array index) = pos
place_of (tree.Call pos function arguments) = pos
place_of (tree.Member pos access whole x) = pos
place_of (tree.PostfixOp pos operator operand) = pos
place_of (tree.PrefixOp pos operator operand) = pos
place_of (tree.MeasureOp pos operator type) = pos
place_of (tree.Cast pos type operand) = pos
place_of (tree.InfixOp pos operator left right) = pos
place_of (tree.Cond pos test then else) = pos

-- ---- declarators

-- the declared name with its place
abbrev pub name_in : Declarator → Option (Pos × List ℕ)
name_in tree.Omitted = None
name_in (tree.Name pos x) = Some (pos, x)
name_in (tree.DParen inner) = name_in inner
name_in (tree.PointerTo qualifiers inner) = name_in inner
name_in (tree.ArrayOf inner length) = name_in inner
name_in (tree.FunctionOf inner parameters variadic) = name_in inner

abbrev pub place_in : Option (Pos × List ℕ) → Option Pos
place_in None = None
place_in (Some name) = Some name.0

abbrev pub or_place : Option Pos → Pos → Pos
or_place None around = around
or_place (Some at) around = at

-- the place of the declared name, or that of the next node around
abbrev pub own_place : Declarator → Pos → Pos
own_place declarator around = or_place (place_in (name_in declarator)) around

-- ---- specifiers

abbrev pub specifier_place : Specifier → Pos
specifier_place (tree.StorageClass pos word) = pos
specifier_place (tree.TypeQualifier pos word) = pos
specifier_place (tree.Inline pos) = pos
specifier_place (tree.BasicType pos word) = pos
specifier_place (tree.CompoundTag pos word tag) = pos
specifier_place (tree.Compound pos word tag members) = pos
specifier_place (tree.EnumTag pos tag) = pos
specifier_place (tree.Enum pos tag enumerators comma) = pos
specifier_place (tree.TypedefName pos x) = pos

abbrev pub start : Pos
start = record { line = 1; column = 1 }

-- the place of the first token; no specifiers are none
abbrev pub first_place : Specifiers → Pos
first_place tree.NoSpecifier = start
first_place (tree.MoreSpecifiers first rest) = specifier_place first

-- ---- which words stand in specifiers

abbrev pub basic_word_in : Specifier → Option BasicWord
basic_word_in (tree.BasicType pos word) = Some word
basic_word_in other = None

abbrev pub qualifier_in : Specifier → Option Qualifier
qualifier_in (tree.TypeQualifier pos word) = Some word
qualifier_in other = None

abbrev pub storage_in : Specifier → Option Storage
storage_in (tree.StorageClass pos word) = Some word
storage_in other = None

abbrev pub is_static_word : Option Storage → Bool
is_static_word (Some storage.Static) = true
is_static_word other = false

abbrev pub is_register_word : Option Storage → Bool
is_register_word (Some storage.Register) = true
is_register_word other = false

abbrev pub is_static : Specifier → Bool
is_static specifier = is_static_word (storage_in specifier)

abbrev pub is_register : Specifier → Bool
is_register specifier = is_register_word (storage_in specifier)

-- a tag, or enumerators
abbrev pub is_naming : Specifier → Bool
is_naming (tree.CompoundTag pos word tag) = true
is_naming (tree.Compound pos word (Some tag) members) = true
is_naming (tree.EnumTag pos tag) = true
is_naming (tree.Enum pos tag enumerators comma) = true
is_naming other = false

abbrev pub typedef_name : Specifier → Option (List ℕ)
typedef_name (tree.TypedefName pos x) = Some x
typedef_name other = None

abbrev pub with_some : {A : Type 0} → Option A → List A → List A
with_some None rest = rest
with_some (Some first) rest = first ∷ rest

-- the words of a basic type, in order
abbrev pub basic_words : Specifiers → List BasicWord
basic_words tree.NoSpecifier = []
basic_words (tree.MoreSpecifiers first rest) = with_some (basic_word_in first) (basic_words rest)

abbrev pub qualifier_words : Specifiers → List Qualifier
qualifier_words tree.NoSpecifier = []
qualifier_words (tree.MoreSpecifiers first rest) = with_some (qualifier_in first) (qualifier_words rest)

abbrev pub holds_static : Specifiers → Bool
holds_static tree.NoSpecifier = false
holds_static (tree.MoreSpecifiers first rest) = is_static first || holds_static rest

abbrev pub holds_register : Specifiers → Bool
holds_register tree.NoSpecifier = false
holds_register (tree.MoreSpecifiers first rest) = is_register first || holds_register rest

-- a tag or an enumerator stands in them
abbrev pub names_something : Specifiers → Bool
names_something tree.NoSpecifier = false
names_something (tree.MoreSpecifiers first rest) = is_naming first || names_something rest

abbrev pub or_name : Option (List ℕ) → Option (List ℕ) → Option (List ℕ)
or_name (Some name) other = Some name
or_name None other = other

-- the first typedef name, of which the grammar has at most one
abbrev pub typedef_in : Specifiers → Option (List ℕ)
typedef_in tree.NoSpecifier = None
typedef_in (tree.MoreSpecifiers first rest) = or_name (typedef_name first) (typedef_in rest)

-- nothing else stands beside the first
abbrev pub is_end : Specifiers → Bool
is_end tree.NoSpecifier = true
is_end (tree.MoreSpecifiers first rest) = false

abbrev pub is_single : Specifiers → Bool
is_single tree.NoSpecifier = false
is_single (tree.MoreSpecifiers first rest) = is_end rest
