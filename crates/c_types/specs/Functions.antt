-- Function types and their parts (6.2.5p20, 6.7.6.3).
use Rattle.std.specs.Prelude.{Bool, false, [], ◌∷◌, ◌++◌}
use Rattle.c_types.specs.Types.{FunctionParts, Types}
use Rattle.c_types.specs.CType.{CType, CTypes, Plain, Function, Nil, void}

-- a function type
abbrev pub IsFunction : CType → Type 0
IsFunction (Plain (Function gives parameters variadic) quals) = Unit {0}
IsFunction other = ⊥

-- the type of what a function gives
abbrev pub gives_of : CType → CType
gives_of (Plain (Function gives parameters variadic) quals) = gives
gives_of other = void

-- the types of its parameters
abbrev pub parameters_of : CType → CTypes
parameters_of (Plain (Function gives parameters variadic) quals) = parameters
parameters_of other = Nil

-- it takes more arguments than its parameters
abbrev pub variadic_of : CType → Bool
variadic_of (Plain (Function gives parameters variadic) quals) = variadic
variadic_of other = false

-- the table with the parts of one more function type
abbrev pub with_function : Types → FunctionParts → Types
with_function types parts = record {
  made = types.made;
  functions = types.functions ++ parts ∷ [];
  compounds = types.compounds;
  enumerations = types.enumerations;
}
