-- What the calls on declarators and on the parameters of functions ensure: they answer what the walk does. The program
-- keeps no names of parameters.
use Rattle.std.specs.Prelude.{ℕ, ◌<◌, All, List, map, Option, IfSome, Result, Vec}
use Rattle.std.specs.Global.{Global}
use Rattle.c_types.specs.declared.shape.TypeId.{TypeId}
use Rattle.c_types.specs.CType.{CTypes, all_types, types_at}
use Rattle.c_types.specs.Types.{Types}
use Rattle.c_core.specs.declared.fault.TypeFault.{TypeFault}
use Rattle.c_core.specs.Ids.{IdIn}
use Rattle.c_scopes.specs.Scopes.{Scope, no_names}
use Rattle.c_type_parts.specs.declared.derivations.Derived as e
use Rattle.c_type_parts.specs.Answers.{Answer, Gives, and_then}
use Rattle.c_type_parts.specs.Clauses.{Answers}
use Rattle.c_type_parts.specs.Declaring.{Derived}
use Rattle.c_type_parts.specs.Environments.{scope_left}
use Rattle.c_type_parts.specs.Seen.{DerivedIn, derived_list}

-- the names of parameters are let go
abbrev pub without_name : Derived → Derived
without_name derived =
    record { derivation = derived.derivation; length_at = derived.length_at; parameters = no_names }

abbrev pub without_names : Answer (List Derived) → Answer (List Derived)
without_names answer = and_then answer (λ all env. Gives (map without_name all) env)

-- the scope of the parameters is left behind them
abbrev pub left_behind : Answer CTypes → Answer CTypes
left_behind answer = and_then answer (λ types env. Gives types (scope_left env))

-- derivations, from the declared name outwards
abbrev pub derivations_of : Types → Vec e.Derived Global → List Derived
derivations_of types all = derived_list types all.items

abbrev pub DerivationsIn : Types → Vec e.Derived Global → Type 0
DerivationsIn types all = DerivedIn types all.items

abbrev pub AnswersDerived : Answer (List Derived) → Types → List Scope → Types → Result (Vec e.Derived Global) TypeFault
    → Type 0
AnswersDerived = Answers derivations_of DerivationsIn

-- the length of an array, which is none of 0
abbrev pub AnswersLength : Answer (Option ℕ) → Types → List Scope → Types → Result (Option ℕ) TypeFault → Type 0
AnswersLength = Answers (λ types length. length) (λ types length. IfSome length (λ n. 0 < n))

-- the types of parameters
abbrev pub ids_of : Types → Vec TypeId Global → CTypes
ids_of types all = types_at (all_types types) all.items

abbrev pub IdsIn : Types → Vec TypeId Global → Type 0
IdsIn types all = All (λ (id : TypeId). IdIn types id) all.items

abbrev pub AnswersIds : Answer CTypes → Types → List Scope → Types → Result (Vec TypeId Global) TypeFault → Type 0
AnswersIds = Answers ids_of IdsIn
