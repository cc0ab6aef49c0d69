-- What the functions of expressions ensure: they answer what the walk does, unless memory runs out.
use Rattle.std.specs.Prelude.{List, map, Result, Vec}
use Rattle.std.specs.Global.{Global}
use Rattle.c_types.specs.Types.{Types}
use Rattle.c_core.specs.declared.fault.TypeFault.{TypeFault}
use Rattle.c_core.specs.declared.expression.CoreExpr.{CoreExpr}
use Rattle.c_core.specs.Ids.{CoreIn, CoresIn}
use Rattle.c_core.specs.Tree.{Core, Cores, cores}
use Rattle.c_core.specs.View.{core_of}
use Rattle.c_scopes.specs.Scopes.{Scope}
use Rattle.c_conversions.specs.declared.operand.Operand.{Operand}
use Rattle.c_conversions.specs.Parts.{Part, part_of, PartIn}
use Rattle.c_expr_rules.specs.declared.operand.Operands.{Operands}
use Rattle.c_type_parts.specs.Answers.{Answer}
use Rattle.c_type_parts.specs.Clauses.{Answers}

abbrev pub AnswersPart : Answer Part → Types → List Scope → Types → Result Operand TypeFault → Type 0
AnswersPart = Answers part_of PartIn

abbrev pub AnswersCore : Answer Core → Types → List Scope → Types → Result CoreExpr TypeFault → Type 0
AnswersCore = Answers core_of CoreIn

-- arguments
abbrev pub cores_of : Types → Vec CoreExpr Global → Cores
cores_of types all = cores (map (core_of types) all.items)

abbrev pub AllIn : Types → Vec CoreExpr Global → Type 0
AllIn types all = CoresIn types all.items

abbrev pub AnswersCores : Answer Cores → Types → List Scope → Types → Result (Vec CoreExpr Global) TypeFault → Type 0
AnswersCores = Answers cores_of AllIn

-- the two operands of an operator
abbrev pub parts_of : Types → Operands → Part × Part
parts_of types both = (part_of types both.left, part_of types both.right)

abbrev pub PartsIn : Types → Operands → Type 0
PartsIn types both = PartIn types both.left × PartIn types both.right

abbrev pub AnswersParts : Answer (Part × Part) → Types → List Scope → Types → Result Operands TypeFault → Type 0
AnswersParts = Answers parts_of PartsIn
