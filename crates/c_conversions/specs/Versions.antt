-- What types are and what they point to, without regard to qualifiers, and versions of compatible types (6.2.5, 6.7.3).
use Rattle.std.specs.Prelude.{Bool, true, false, not, ◌&&◌, ◌||◌, Option, Some, None}
use Rattle.c_types.specs.declared.basic.Basic.{Basic}
use Rattle.c_types.specs.declared.basic.Basic.TheVariants.{Void}
use Rattle.c_types.specs.declared.shape.Quals.{Quals}
use Rattle.c_types.specs.CType.{CType, Plain, Array, BasicType, Pointer, Function, Compound, no_quals}
use Rattle.c_types.specs.Compatible.{agree, compatible}
use Rattle.c_conversions.specs.Kinds.{is_integer}

-- what a pointer type points to (6.2.5p20)
abbrev pub pointee : CType → Option CType
pointee (Plain (Pointer to) quals) = Some to
pointee other = None

abbrev pub is_pointer : CType → Bool
is_pointer (Plain (Pointer to) quals) = true
is_pointer other = false

abbrev pub is_array : CType → Bool
is_array (Array of len) = true
is_array (Plain bare quals) = false

abbrev pub is_function : CType → Bool
is_function (Plain (Function gives parameters variadic) quals) = true
is_function other = false

abbrev pub is_compound : CType → Bool
is_compound (Plain (Compound number) quals) = true
is_compound other = false

abbrev pub is_void_basic : Basic → Bool
is_void_basic Void = true
is_void_basic other = false

abbrev pub is_void : CType → Bool
is_void (Plain (BasicType basic) quals) = is_void_basic basic
is_void other = false

abbrev pub are_none : Quals → Bool
are_none quals = not quals.constant && not quals.volatile && not quals.restricted

-- an arithmetic or pointer type; the profile has no other arithmetic types than integer types (6.2.5p21)
abbrev pub is_scalar : CType → Bool
is_scalar type = is_integer type || is_pointer type

-- The qualifiers that a type has itself. An array has none; its elements may (6.7.3p9).
abbrev pub own_quals : CType → Quals
own_quals (Plain bare quals) = quals
own_quals (Array of len) = no_quals

-- the type without the qualifiers that it has itself
abbrev pub own_unqualified : CType → CType
own_unqualified (Plain bare quals) = Plain bare no_quals
own_unqualified (Array of len) = Array of len

-- a pointer to `void` without qualifiers (6.3.2.3p3)
abbrev pub is_plain_void : Option CType → Bool
is_plain_void None = false
is_plain_void (Some to) = is_void to && are_none (own_quals to)

abbrev pub is_plain_void_pointer : CType → Bool
is_plain_void_pointer type = is_plain_void (pointee type)

abbrev pub implies : Bool → Bool → Bool
implies a b = not a || b

-- the second type has all the qualifiers of the first
abbrev pub has_quals_of : CType → CType → Bool
has_quals_of from to = implies (own_quals from).constant (own_quals to).constant
    && implies (own_quals from).volatile (own_quals to).volatile
    && implies (own_quals from).restricted (own_quals to).restricted

-- qualified or unqualified versions of compatible types
abbrev pub are_versions : CType → CType → Bool
are_versions (Plain bare quals) b = agree (Plain bare quals) b false
are_versions (Array of len) b = compatible (Array of len) b
