-- What the program holds of declared names, as the rules see it.
use Rattle.std.specs.Prelude.{Option, Result, IfSome, option_map}
use Rattle.critical_table.specs.declared.pos.Pos.{Pos}
use Rattle.c_types.specs.CType.{type_of}
use Rattle.c_types.specs.Types.{Types}
use Rattle.c_core.specs.declared.fault.TypeFault.{TypeFault}
use Rattle.c_core.specs.Ids.{IdIn}
use Rattle.c_scopes.specs.declared.binding.Binding.{Binding}
use Rattle.c_scopes.specs.Clauses.{Rules}
use Rattle.c_scopes.specs.Env.{BindingIn}
use Rattle.c_scopes.specs.Named.{Named, named_of}
use Rattle.c_scopes.specs.Ruled.{Ruled}
use Rattle.c_decl_rules.specs.declared.declaring.Declaring.{Declaring}
use Rattle.c_decl_rules.specs.declared.declaring.Visible.{Visible}
use Rattle.c_decl_rules.specs.declared.functions.KnownFunction.{KnownFunction}
use Rattle.c_decl_rules.specs.declared.objects.KnownObject.{KnownObject}
use Rattle.c_decl_rules.specs.DeclaredNames.{Declares, Seen, ObjectBefore, FunctionBefore}

abbrev pub declares_of : Types → Declaring → Declares
declares_of types name =
    record { manner = name.manner; type = type_of types name.of; at = name.at; slot = name.slot }

abbrev pub seen_of : Types → Visible → Seen
seen_of types visible = record { named = option_map (named_of types) visible.binding; here = visible.here }

abbrev pub VisibleIn : Types → Visible → Type 0
VisibleIn types visible = IfSome visible.binding (λ binding. BindingIn types binding)

abbrev pub function_of : Types → KnownFunction → FunctionBefore
function_of types known = record { type = type_of types known.of; function = known.function }

abbrev pub object_of : Types → KnownObject → ObjectBefore
object_of types known = record { type = type_of types known.of; object = known.object }

abbrev pub KnownFunctionIn : Types → Option KnownFunction → Type 0
KnownFunctionIn types known = IfSome known (λ (k : KnownFunction). IdIn types k.of)

abbrev pub KnownObjectIn : Types → Option KnownObject → Type 0
KnownObjectIn types known = IfSome known (λ (k : KnownObject). IdIn types k.of)

-- a rule that gives what a name stands for
abbrev pub RulesName : Ruled Named → Pos → Types → Types → Result Binding TypeFault → Type 0
RulesName = Rules named_of BindingIn
