-- What a declarator makes of a type, and what a parameter or member list has of each of its parts (6.7.2.1, 6.7.6).
use Rattle.std.specs.Prelude.{ℕ, ℤ, Bool, true, false, not, ◌&&◌, cond, is_some, List, [], ◌∷◌, ◌++◌, codes, Option}
use Rattle.std.specs.Prelude.{Some, None}
use Rattle.std.specs.Str.{bytes_eq}
use Rattle.critical_table.specs.declared.pos.Pos.{Pos}
use Rattle.c_types.specs.declared.shape.Quals.{Quals}
use Rattle.c_types.specs.CType.{CType, CTypes, Cons, quals_of}
use Rattle.c_types.specs.Structures.{Structure}
use Rattle.c_core.specs.declared.named.ObjectName.TheVariants.{Slot}
use Rattle.c_syntax.specs.Tree.{Maybe, Without, With, Specifiers, Declarator, Omitted, Parameters, NoParameter}
use Rattle.c_syntax.specs.Tree.{MoreParameters}
use Rattle.c_scopes.specs.declared.binding.Linkage.TheVariants as linkage
use Rattle.c_scopes.specs.declared.binding.Standing.TheVariants as standing
use Rattle.c_scopes.specs.Env.{Env}
use Rattle.c_scopes.specs.Named.{Named, ObjectOf}
use Rattle.c_scopes.specs.Ruled.{Ruled, ruled}
use Rattle.c_scopes.specs.Scopes.{Names, no_names, found_here}
use Rattle.c_conversions.specs.Versions.{is_void, are_none}
use Rattle.c_type_rules.specs.Arrays.{array_rule}
use Rattle.c_type_rules.specs.Enumerators.{enumerator_rule, enumerator}
use Rattle.c_type_rules.specs.Functions.{function_rule, parameter_rule}
use Rattle.c_type_rules.specs.Members.{member_rule}
use Rattle.c_type_rules.specs.Qualified.{pointer_rule}
use Rattle.c_type_parts.specs.declared.derivations.Around.{Around}
use Rattle.c_type_parts.specs.Answers.{Answer, Gives, and_then, settle}
use Rattle.c_type_parts.specs.Environments.{innermost_of, with_name}
use Rattle.c_type_parts.specs.Shapes.{place_of, name_in, or_place, own_place, first_place, holds_register}
use Rattle.c_type_parts.specs.Shapes.{is_single}

-- How a declarator goes on from a type to another (6.2.5p20). `may_vary` tells that the function may have `...`.
pub data Derivation : Type 0 where
  ToPointer : (quals : Quals) → Derivation
  ToArray : (length : Option ℕ) → Derivation
  ToFunction : (parameters : CTypes) (variadic may_vary : Bool) → Derivation

-- a derivation with the place of an array's length, and what the parameters of a function are in their scope
pub record Derived : Type 0 where
  pub derivation : Derivation
  pub length_at : Option Pos
  pub parameters : Names Named

abbrev pub derivation_rule : List Structure → CType → Derivation → Ruled CType
derivation_rule structures type (ToPointer quals) = pointer_rule quals type
derivation_rule structures type (ToArray length) = array_rule structures type length
derivation_rule structures type (ToFunction parameters variadic may_vary) =
    function_rule type parameters variadic may_vary

-- A derivation is placed at the declared name; without a name an array's at its length, and any other at the next node
-- around.
abbrev pub derivation_place : Option Pos → Pos → Option Pos → Pos
derivation_place (Some name_at) around length_at = name_at
derivation_place None around length_at = or_place length_at around

-- The type that the derivations of a declarator make of the type of its specifiers. They are listed from the name
-- outwards, as a declarator is read: `int *f[3]` is an array of 3 pointers. The type is made from the other end
-- (6.7.6p4 and on).
unfoldable pub derived_type : Option Pos → Pos → CType → List Derived → Env → Answer CType
derived_type name_at around base [] env = Gives base env
derived_type name_at around base (first ∷ outer) env =
    and_then (derived_type name_at around base outer env) (λ type env.
    settle (derivation_place name_at around first.length_at) env (derivation_rule env.structures type first.derivation))

-- the type of a declarator whose derivations were walked
unfoldable pub of_derivations : Option Pos → Pos → CType → Answer (List Derived) → Answer CType
of_derivations name_at around base answer = and_then answer (λ all env. derived_type name_at around base all env)

abbrev pub is_printf : Option (Pos × List ℕ) → Bool
is_printf None = false
is_printf (Some name) = bytes_eq name.1 (codes "printf")

-- what a declarator's parts see around them: the place of its name, and whether that is of a function with `...`
abbrev pub own_around : Declarator → Around → Around
own_around declarator around = record {
  at = own_place declarator around.at;
  may_vary = around.may_vary && is_printf (name_in declarator);
}

abbrev pub no_ellipsis : Pos → Around
no_ellipsis at = record { at = at; may_vary = false }

-- ---- parameters (6.7.6.3)

abbrev pub is_omitted : Declarator → Bool
is_omitted Omitted = true
is_omitted other = false

-- the only parameter of a list without `...`
abbrev pub is_alone : Parameters → Bool → Bool
is_alone (MoreParameters first NoParameter) false = true
is_alone other variadic = false

-- a name that its scope doesn't have yet (6.7p3)
abbrev pub fresh_rule : Option Named → Ruled (Unit {0})
fresh_rule here = ruled ((2, not (is_some here)) ∷ []) tt

-- The object of a parameter: its slot in the frame is its number. It has no linkage (6.2.2p6).
abbrev pub parameter_object : CType → Bool → ℕ → Named
parameter_object type register number = ObjectOf type (record {
  name = Slot number;
  register = register;
  linkage = linkage.None;
  standing = standing.Defined;
})

abbrev pub with_parameter : Option (Pos × List ℕ) → Named → Env → Answer (Unit {0})
with_parameter None object env = Gives tt env
with_parameter (Some name) object env =
    and_then (settle name.0 env (fresh_rule (found_here env.scopes false name.1)))
    (λ fresh env. Gives tt (with_name name.1 object env))

-- an unnamed parameter of type `void` that stands alone, without any other word (6.7.6.3p10)
abbrev pub is_plain_void : CType → Bool
is_plain_void type = is_void type && are_none (quals_of type)

abbrev pub is_none : Bool → Specifiers → Declarator → CType → Bool
is_none alone specifiers declarator type =
    alone && is_single specifiers && is_omitted declarator && is_plain_void type

-- what is declared with this type as a parameter: none, or one with its adjusted type, by its number
abbrev pub parameter_of : Bool → Specifiers → Declarator → ℕ → CType → Env → Answer (Option CType)
parameter_of alone specifiers declarator number type env = cond (is_none alone specifiers declarator type)
    (Gives None env)
    (and_then (settle (first_place specifiers) env (parameter_rule type)) (λ adjusted env.
    and_then (with_parameter (name_in declarator) (parameter_object adjusted (holds_register specifiers) number) env)
    (λ done env. Gives (Some adjusted) env)))

abbrev pub and_type : Option CType → CTypes → CTypes
and_type None types = types
and_type (Some type) types = Cons type types

-- ---- what a declarator's parts are

abbrev pub plain_derived : Derivation → Derived
plain_derived derivation = record { derivation = derivation; length_at = None; parameters = no_names }

abbrev pub length_place : Maybe → Option Pos
length_place Without = None
length_place (With length) = Some (place_of length)

abbrev pub array_derived : Maybe → Option ℕ → Derived
array_derived length n = record { derivation = ToArray n; length_at = length_place length; parameters = no_names }

-- the derivations between a name and the next one are none
abbrev pub is_first : List Derived → Bool
is_first [] = true
is_first (first ∷ rest) = false

-- a function, in whose parameters' scope the environment is
abbrev pub function_derived : CTypes → Bool → Bool → Env → Derived
function_derived types variadic may_vary env = record {
  derivation = ToFunction types variadic may_vary;
  length_at = None;
  parameters = innermost_of env.scopes;
}

-- ---- members (6.7.2.1)

-- the names and the types of some members, in order
pub record TypedMembers : Type 0 where
  pub names : List (List ℕ)
  pub types : List CType

abbrev pub no_members : TypedMembers
no_members = record { names = []; types = [] }

abbrev pub with_member : TypedMembers → List ℕ → CType → TypedMembers
with_member earlier name type = record { names = earlier.names ++ name ∷ []; types = earlier.types ++ type ∷ [] }

abbrev pub name_or_none : Option (Pos × List ℕ) → List ℕ
name_or_none None = []
name_or_none (Some name) = name.1

-- a member of that name and type behind others
abbrev pub member_added : Pos → List ℕ → CType → TypedMembers → Env → Answer TypedMembers
member_added at name type earlier env =
    and_then (settle at env (member_rule env.structures earlier.names name type))
    (λ stands env. Gives (with_member earlier name type) env)

-- ---- enumerators (6.7.2.2)

-- an enumerator of that value is in scope behind its value (6.2.1p7)
abbrev pub enumerator_bound : Pos → List ℕ → Option ℤ → Env → Answer ℤ
enumerator_bound at x value env =
    and_then (settle at env (enumerator_rule (found_here env.scopes false x) value)) (λ n env.
    Gives n (with_name x (enumerator n) env))
