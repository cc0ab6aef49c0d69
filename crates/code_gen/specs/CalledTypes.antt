-- The table of called types: each call is made through one of them (6.5.2.2).
use Rattle.std.specs.Prelude.{ℕ, suc, ◌+◌, ◌==◌, nat_lt, ◌&&◌, Bool, true, false, List, [], ◌∷◌, ◌++◌, length, map}
use Rattle.std.specs.Prelude.{Option, Some, None, unwrap_or, if◌then◌else◌}
use Rattle.std.specs.List.{list_any}
use Rattle.c_types.specs.CType.{CType, CTypes, Bare, Plain, Array, BasicType, Pointer, Function, Compound, Enumerated}
use Rattle.c_types.specs.CType.{Nil, Cons, number_of}
use Rattle.c_types.specs.Compatible.{compatible, same_bool, same_quals}
use Rattle.lib_defs.specs.declared.value.ArgKind.{ArgKind}
use Rattle.lib_defs.specs.Names.{row_names}
use Rattle.library_types.specs.LibraryTypes.{handler_type, comparing_type, row_type}
use Rattle.library_types.specs.ArgumentKinds.{argument_kind}
use Rattle.c_core.specs.declared.form.Form.{Form}
use Rattle.c_core.specs.declared.form.Form.TheVariants as form
use Rattle.c_core.specs.Tree.{Core, Cores, NoCore, MoreCores, type_in}
use Rattle.c_core.specs.TreeUnit.{Definition, Program}
use Rattle.c_core.specs.Types.{value_form}
use Rattle.vm_code.specs.declared.parts.CodeCalled.{CodeCalled}
use Rattle.code_gen.specs.Calls.{called_type}

-- what a call is made through: the type of the function, and those of the arguments
pub record Through : Type 0 where
  pub type : CType
  pub arguments : CTypes

abbrev pub types_of : Cores → CTypes
types_of NoCore = Nil
types_of (MoreCores first rest) = Cons (type_in first) (types_of rest)

abbrev pub through : Core → Cores → Through
through function operands = record { type = called_type (type_in function); arguments = types_of operands }

-- ---- which are the same

abbrev pub same_length : Option ℕ → Option ℕ → Bool
same_length None None = true
same_length (Some m) (Some n) = m == n
same_length length other = false

-- two types are one tree
abbrev mutual
  pub same_type : CType → CType → Bool
  same_type (Plain bare quals) (Plain other quals2) = same_quals quals quals2 && same_bare bare other
  same_type (Array of len) (Array of2 len2) = same_length len len2 && same_type of of2
  same_type type other = false

  pub same_bare : Bare → Bare → Bool
  same_bare (BasicType basic) (BasicType other) = number_of basic == number_of other
  same_bare (Pointer to) (Pointer other) = same_type to other
  same_bare (Function gives parameters variadic) (Function gives2 parameters2 variadic2) =
      same_type gives gives2 && same_bool variadic variadic2 && same_types parameters parameters2
  same_bare (Compound number) (Compound other) = number == other
  same_bare (Enumerated number) (Enumerated other) = number == other
  same_bare bare other = false

  pub same_types : CTypes → CTypes → Bool
  same_types Nil Nil = true
  same_types (Cons first rest) (Cons other others) = same_type first other && same_types rest others
  same_types types others = false

abbrev pub same_through : Through → Through → Bool
same_through a b = same_type a.type b.type && same_types a.arguments b.arguments

-- each once, in the order in which they come first
abbrev pub added : List Through → Through → List Through
added table call = if list_any (same_through call) table then table else table ++ call ∷ []

abbrev pub all_added : List Through → List Through → List Through
all_added table [] = table
all_added table (call ∷ calls) = all_added (added table call) calls

-- where one stands among these
abbrev pub index_of : Through → List Through → ℕ
index_of call [] = 0
index_of call (first ∷ rest) = if same_through call first then 0 else suc (index_of call rest)

-- the number of the called type: 0 and 1 are those of handlers and of the functions that library functions want
abbrev pub type_number : List Through → Through → ℕ
type_number table call = index_of call table + 2

-- ---- what stands in the table

-- a value of a type, which has one in a well-typed call
abbrev pub form_of_type : CType → Form
form_of_type type = unwrap_or (value_form type) form.Nothing

abbrev pub result_type : CType → CType
result_type (Plain (Function gives parameters variadic) quals) = gives
result_type other = other

abbrev pub forms_of : CTypes → List Form
forms_of Nil = []
forms_of (Cons first rest) = form_of_type first ∷ forms_of rest

abbrev pub kinds_of : CTypes → List ArgKind
kinds_of Nil = []
kinds_of (Cons first rest) = argument_kind first ∷ kinds_of rest

-- the types of all functions by number: those of the unit, then those of the library
abbrev pub function_types : Program → List CType
function_types program = map (λ (f : Definition). f.type) program.functions ++ map row_type row_names

-- the numbers, from this one on, of those that are compatible with a type
abbrev pub compatible_from : ℕ → CType → List CType → List ℕ
compatible_from f type [] = []
compatible_from f type (first ∷ rest) =
    if compatible type first then f ∷ compatible_from (f + 1) type rest else compatible_from (f + 1) type rest

-- arguments have kinds where a library function may be called
abbrev pub kinds_if : Bool → CTypes → List ArgKind
kinds_if true arguments = kinds_of arguments
kinds_if false arguments = []

abbrev pub entry_with : List ℕ → ℕ → Through → CodeCalled
entry_with functions unit_functions call = record {
  functions = functions;
  arguments = forms_of call.arguments;
  kinds = kinds_if (list_any (λ f. nat_lt unit_functions f) functions) call.arguments;
  form = form_of_type (result_type call.type);
}

abbrev pub entry : Program → Through → CodeCalled
entry program call =
    entry_with (compatible_from 1 call.type (function_types program)) (length program.functions) call

-- a call of a function of a type, with its parameters' types
abbrev pub through_type : CType → Through
through_type (Plain (Function gives parameters variadic) quals) =
    record { type = Plain (Function gives parameters variadic) quals; arguments = parameters }
through_type other = record { type = other; arguments = Nil }

abbrev pub called_types : Program → List Through → List CodeCalled
called_types program table =
    entry program (through_type handler_type) ∷ entry program (through_type comparing_type) ∷ map (entry program) table
