-- The types of the library functions agree with what calls of them pass and give.
use Rattle.std.specs.Prelude.{◌≡◌, List, [], ◌∷◌, Option, Some, None}
use Rattle.acc_num.specs.declared.kind.IntKind.{IntKind}
use Rattle.c_types.specs.CType.{CType, CTypes, Plain, BasicType, Pointer, Function, Nil, Cons}
use Rattle.c_types.specs.Layouts.{kind_of}
use Rattle.lib_defs.specs.declared.value.ArgKind.{ArgKind}
use Rattle.lib_defs.specs.declared.row_name.RowName.{RowName}
use Rattle.lib_defs.specs.Prototypes.{Gives, GivesNumber, GivesPointer, GivesNothing, Prototype, prototype}
use Rattle.library_types.specs.ArgumentKinds.{argument_kind}
use Rattle.library_types.specs.LibraryTypes.{row_type}

abbrev pub argument_kinds : CTypes → List ArgKind
argument_kinds Nil = []
argument_kinds (Cons first rest) = argument_kind first ∷ argument_kinds rest

-- what a value of a type is
abbrev pub given_number : Option IntKind → Gives
given_number (Some kind) = GivesNumber kind
given_number None = GivesNothing

abbrev pub given_of : CType → Gives
given_of (Plain (BasicType basic) quals) = given_number (kind_of basic)
given_of (Plain (Pointer to) quals) = GivesPointer
given_of other = GivesNothing

-- what a type says of the calls of its functions
abbrev pub prototype_of : CType → Option Prototype
prototype_of (Plain (Function gives parameters variadic) quals) =
    Some (record { takes = argument_kinds parameters; variadic = variadic; gives = given_of gives })
prototype_of other = None

abbrev pub TypesAgree : Type 0
TypesAgree = (name : RowName) → prototype_of (row_type name) ≡ Some (prototype name)
