-- What a declared name stands for, by how it is declared and what it stands for so far (6.2.2, 6.7, 6.9.2).
use Rattle.std.specs.Prelude.{ℕ, Bool, true, false, not, ◌&&◌, ◌||◌, List, [], ◌∷◌, Option, Some, None}
use Rattle.std.specs.Prelude.{if◌then◌else◌}
use Rattle.critical_table.specs.declared.pos.Pos.{Pos}
use Rattle.c_types.specs.CType.{CType}
use Rattle.c_types.specs.Compatible.{compatible}
use Rattle.c_types.specs.Composite.{composite_of}
use Rattle.c_types.specs.Structures.{Structure}
use Rattle.c_core.specs.declared.named.FunctionName.{FunctionName}
use Rattle.c_core.specs.declared.named.FunctionName.TheVariants as function
use Rattle.c_core.specs.declared.named.ObjectName.{ObjectName}
use Rattle.c_core.specs.declared.named.ObjectName.TheVariants as object
use Rattle.c_syntax.specs.declared.specifier.Storage.{Storage}
use Rattle.c_syntax.specs.declared.specifier.Storage.TheVariants as storage
use Rattle.c_scopes.specs.declared.binding.DeclaredFunction.{DeclaredFunction}
use Rattle.c_scopes.specs.declared.binding.DeclaredObject.{DeclaredObject}
use Rattle.c_scopes.specs.declared.binding.Linkage.{Linkage}
use Rattle.c_scopes.specs.declared.binding.Linkage.TheVariants as linkage
use Rattle.c_scopes.specs.declared.binding.Standing.{Standing}
use Rattle.c_scopes.specs.declared.binding.Standing.TheVariants as standing
use Rattle.c_scopes.specs.Named.{Named, ObjectOf, FunctionOf, TypedefOf}
use Rattle.c_scopes.specs.Ruled.{Ruled, Demand, ruled}
use Rattle.c_conversions.specs.Versions.{is_function, is_void}
use Rattle.c_type_rules.specs.declared.context.Setting.{Setting}
use Rattle.c_type_rules.specs.declared.context.Setting.TheVariants as s
use Rattle.c_type_rules.specs.Arrays.{is_no_incomplete, is_without_length}
use Rattle.c_decl_rules.specs.declared.declaring.Manner.{Manner}
use Rattle.c_decl_rules.specs.Linkage.{linkage_of}
use Rattle.c_decl_rules.specs.SameType.{same_type}

-- how a name is declared: its type, its place, and the next slot of the function
pub record Declares : Type 0 where
  pub manner : Manner
  pub type : CType
  pub at : Pos
  pub slot : ℕ

-- what a name stands for where it is declared, and whether it does so by a declaration of the same scope
pub record Seen : Type 0 where
  pub named : Option Named
  pub here : Bool

-- ---- the words around

abbrev pub is_at_file : Setting → Bool
is_at_file s.File = true
is_at_file s.Definition = true
is_at_file other = false

abbrev pub is_definition : Setting → Bool
is_definition s.Definition = true
is_definition other = false

abbrev pub is_typedef : Option Storage → Bool
is_typedef (Some storage.Typedef) = true
is_typedef other = false

abbrev pub is_extern : Option Storage → Bool
is_extern (Some storage.Extern) = true
is_extern other = false

abbrev pub is_static : Option Storage → Bool
is_static (Some storage.Static) = true
is_static other = false

abbrev pub is_register : Option Storage → Bool
is_register (Some storage.Register) = true
is_register other = false

-- ---- the declaration before, of the same object or function

abbrev pub linkage_in : Option Named → Linkage
linkage_in (Some (ObjectOf type object)) = object.linkage
linkage_in (Some (FunctionOf type function)) = function.linkage
linkage_in other = linkage.None

-- declarations with these linkages stand for the same object or function (6.2.2p2)
abbrev pub denote_one : Linkage → Linkage → Bool
denote_one linkage.Internal linkage.Internal = true
denote_one linkage.External linkage.External = true
denote_one one other = false

pub record ObjectBefore : Type 0 where
  pub type : CType
  pub object : DeclaredObject

abbrev pub object_before : Linkage → Option Named → Option ObjectBefore
object_before linkage (Some (ObjectOf type object)) =
    if denote_one linkage object.linkage then Some (record { type = type; object = object }) else None
object_before linkage other = None

pub record FunctionBefore : Type 0 where
  pub type : CType
  pub function : DeclaredFunction

abbrev pub function_before : Linkage → Option Named → Option FunctionBefore
function_before linkage (Some (FunctionOf type function)) =
    if denote_one linkage function.linkage then Some (record { type = type; function = function }) else None
function_before linkage other = None

abbrev pub object_type : Option ObjectBefore → Option CType
object_type None = None
object_type (Some before) = Some before.type

abbrev pub function_type : Option FunctionBefore → Option CType
function_type None = None
function_type (Some before) = Some before.type

-- there is an earlier declaration of this kind, with a compatible type (6.7p4)
abbrev pub agrees : Option CType → CType → Bool
agrees None type = false
agrees (Some before) type = compatible before type

-- the type that a name has behind two declarations (6.2.7p4)
abbrev pub type_behind : Option CType → CType → CType
type_behind None type = type
type_behind (Some before) type = if compatible before type then composite_of before type else type

-- ---- typedef names (6.7.8)

-- A typedef name may be declared again with the same type (6.7p3).
abbrev pub is_renamed : Option Named → CType → Bool
is_renamed (Some (TypedefOf before)) type = same_type before type
is_renamed other type = false

abbrev pub typedef_demands : Declares → Seen → List Demand
typedef_demands name seen = (2, not seen.here || is_renamed seen.named name.type)
    ∷ (17, not name.manner.initialized) ∷ []

abbrev pub typedef_rule : Declares → Seen → Ruled Named
typedef_rule name seen = ruled (typedef_demands name seen) (TypedefOf name.type)

-- ---- functions

abbrev pub function_linkage : Manner → Seen → Linkage
function_linkage manner seen = linkage_of (is_at_file manner.setting) manner.storage true (linkage_in seen.named)

abbrev pub is_library_name : FunctionName → Bool
is_library_name (function.Library number) = true
is_library_name (function.Unit at) = false

-- the declaration before is that of a library function, which has external linkage
abbrev pub is_library : Option FunctionBefore → Bool
is_library None = false
is_library (Some before) = is_library_name before.function.name

abbrev pub was_defined : Option FunctionBefore → Bool
was_defined None = false
was_defined (Some before) = before.function.is_defined

-- A library function may be declared with its type, and not defined (7.1.4p2).
abbrev pub keeps_library : Declares → Option FunctionBefore → Bool
keeps_library name before = not (is_library before)
    || (agrees (function_type before) name.type && not (is_definition name.manner.setting))

-- A function has no initializer and one definition (6.7p7, 6.9p3). In a block none is declared.
abbrev pub function_demands : Declares → Seen → Linkage → List Demand
function_demands name seen linkage = let before = function_before linkage seen.named in
    (2, not seen.here || agrees (function_type before) name.type)
    ∷ (7, not name.manner.initialized)
    ∷ (18, keeps_library name before)
    ∷ (20, not (is_definition name.manner.setting && was_defined before))
    ∷ (47, is_at_file name.manner.setting) ∷ []

-- a function is named by its first declaration
abbrev pub function_name : Option FunctionBefore → Pos → FunctionName
function_name None at = function.Unit at
function_name (Some before) at = before.function.name

abbrev pub function_declared : Declares → Linkage → Option FunctionBefore → Named
function_declared name linkage before = FunctionOf (type_behind (function_type before) name.type) (record {
  name = function_name before name.at;
  linkage = linkage;
  is_defined = was_defined before || is_definition name.manner.setting;
})

abbrev pub linked_function : Declares → Seen → Linkage → Ruled Named
linked_function name seen linkage = ruled (function_demands name seen linkage)
    (function_declared name linkage (function_before linkage seen.named))

abbrev pub function_rule : Declares → Seen → Ruled Named
function_rule name seen = linked_function name seen (function_linkage name.manner seen)

-- ---- objects

abbrev pub object_linkage : Manner → Seen → Linkage
object_linkage manner seen = linkage_of (is_at_file manner.setting) manner.storage false (linkage_in seen.named)

-- the declaration makes an object, tentatively or not (6.9.2p1, p2)
abbrev pub makes_object : Manner → Bool
makes_object manner = not (is_extern manner.storage) || manner.initialized

-- An object that is made is complete at the end of its declarator, but for the length of an array (6.7p7, 6.9.2p3). No
-- object is `void`.
abbrev pub may_be_object : List Structure → Declares → Bool
may_be_object structures name =
    if makes_object name.manner then is_no_incomplete name.type structures else not (is_void name.type)

-- An array that is made has a length, or an initializer, which gives it (6.7.6.2p4, 6.7.9p22).
abbrev pub has_length : Declares → Bool
has_length name = not (is_without_length name.type && makes_object name.manner && not name.manner.initialized)

abbrev pub is_defined_standing : Standing → Bool
is_defined_standing standing.Defined = true
is_defined_standing other = false

abbrev pub was_initialized : Option ObjectBefore → Bool
was_initialized None = false
was_initialized (Some before) = is_defined_standing before.object.standing

-- An object has one definition with an initializer (6.9p3), and is no library function. In a block none is `extern`.
abbrev pub object_demands : List Structure → Declares → Seen → Linkage → List Demand
object_demands structures name seen linkage = let before = object_before linkage seen.named in
    (2, not seen.here || agrees (object_type before) name.type)
    ∷ (7, may_be_object structures name)
    ∷ (9, has_length name)
    ∷ (18, not (is_library (function_before linkage seen.named)))
    ∷ (20, not (name.manner.initialized && was_initialized before))
    ∷ (47, is_at_file name.manner.setting || not (is_extern name.manner.storage)) ∷ []

-- An object of a block without `static` is automatic (6.2.4p5).
abbrev pub is_automatic : Manner → Bool
is_automatic manner = not (is_at_file manner.setting) && not (is_static manner.storage)
    && not (is_extern manner.storage)

-- an object is named by its slot, or by its first declaration
abbrev pub object_name : Declares → Option ObjectBefore → ObjectName
object_name name None = if is_automatic name.manner then object.Slot name.slot else object.Static name.at
object_name name (Some before) = before.object.name

-- how far this declaration defines the object (6.9.2p2)
abbrev pub standing_now : Manner → Standing
standing_now manner = if not (makes_object manner) then standing.Declared
    else (if is_at_file manner.setting && not manner.initialized then standing.Tentative else standing.Defined)

-- the further of two
abbrev pub further : Standing → Standing → Standing
further standing.Defined other = standing.Defined
further standing.Declared other = other
further standing.Tentative standing.Defined = standing.Defined
further standing.Tentative other = standing.Tentative

abbrev pub standing_behind : Option ObjectBefore → Standing → Standing
standing_behind None now = now
standing_behind (Some before) now = further before.object.standing now

abbrev pub object_declared : Declares → Linkage → Option ObjectBefore → Named
object_declared name linkage before = ObjectOf (type_behind (object_type before) name.type) (record {
  name = object_name name before;
  register = is_register name.manner.storage;
  linkage = linkage;
  standing = standing_behind before (standing_now name.manner);
})

abbrev pub linked_object : List Structure → Declares → Seen → Linkage → Ruled Named
linked_object structures name seen linkage = ruled (object_demands structures name seen linkage)
    (object_declared name linkage (object_before linkage seen.named))

abbrev pub object_rule : List Structure → Declares → Seen → Ruled Named
object_rule structures name seen = linked_object structures name seen (object_linkage name.manner seen)

-- ---- any name

abbrev pub name_rule : List Structure → Declares → Seen → Ruled Named
name_rule structures name seen = if is_typedef name.manner.storage then typedef_rule name seen
    else (if is_function name.type then function_rule name seen else object_rule structures name seen)
