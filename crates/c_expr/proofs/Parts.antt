-- Operands that were typed before stay what they are as a table grows.
use Rattle.std.proofs.Common.{◌≡◌, ◌∙◌, List, [], ◌∷◌, map, refl, ap, sym}
use Rattle.std.specs.Prelude.{Option, Some, None}
use Rattle.c_types.specs.declared.shape.TypeId.{TypeId}
use Rattle.c_types.specs.Making.{Grows}
use Rattle.c_types.specs.Types.{Types}
use Rattle.c_types.proofs.Kept.{grows_then}
use Rattle.c_scopes.specs.Clauses.{OptionIn, type_or_none}
use Rattle.c_scopes.specs.Env.{Env, env_of}
use Rattle.c_scopes.specs.Scopes.{Scope}
use Rattle.c_core.specs.declared.expression.CoreExpr.{CoreExpr}
use Rattle.c_core.specs.Ids.{CoresIn}
use Rattle.c_core.specs.View.{core_of}
use Rattle.c_core.proofs.Kept.{core_kept, core_in_kept, id_in_kept, type_kept}
use Rattle.c_conversions.specs.declared.operand.Operand.{Operand}
use Rattle.c_conversions.specs.Parts.{Part, part_of, PartIn}
use Rattle.c_type_parts.specs.Answers.{Answer, Gives, and_then}
use Rattle.c_type_parts.specs.Clauses.{Given}
use Rattle.c_expr.specs.declared.usage.Usage.{Usage}
use Rattle.c_expr.specs.declared.usage.Usages.{Usages}
use Rattle.c_expr.specs.Uses.{Side, side_as, both}
use Rattle.c_type_parts.proofs.Steps.{then_given}

module _ (old new : Types) (grown : Grows old new) where
  pub part_kept : (operand : Operand) → PartIn old operand → part_of new operand ≡ part_of old operand
  part_kept operand h = λ i. record {
    category = operand.category;
    null = operand.null;
    core = core_kept old new grown operand.core h i;
  }

  pub part_in_kept : (operand : Operand) → PartIn old operand → PartIn new operand
  part_in_kept operand h = core_in_kept old new grown operand.core h

  pub cores_kept : (all : List CoreExpr) → CoresIn old all → map (core_of new) all ≡ map (core_of old) all
  cores_kept [] h = refl
  cores_kept (first ∷ rest) h = λ i. core_kept old new grown first h.0 i ∷ cores_kept rest h.1 i

  pub cores_in_kept : (all : List CoreExpr) → CoresIn old all → CoresIn new all
  cores_in_kept [] h = tt
  cores_in_kept (first ∷ rest) h = (core_in_kept old new grown first h.0, cores_in_kept rest h.1)

  pub option_kept : (id : Option TypeId) → OptionIn old id → type_or_none new id ≡ type_or_none old id
  option_kept None h = refl
  option_kept (Some id) h = ap Some (type_kept old new grown id h)

  pub option_in_kept : (id : Option TypeId) → OptionIn old id → OptionIn new id
  option_in_kept None h = tt
  option_in_kept (Some id) h = id_in_kept old new grown id h

-- two operands, of which the left one was typed before the right one
pub both_given : (first : Answer Part) (second : Env → Answer Part) (l r : Operand) (old mid new : Types)
    (scopes after : List Scope) → Given first (part_of mid l) (λ t. PartIn t l) old scopes mid
    → Given (second (env_of scopes mid)) (part_of new r) (λ t. PartIn t r) mid after new
    → Given {A = Part × Part} (and_then first (λ a env. and_then (second env) (λ b env. Gives (a, b) env)))
    (part_of new l, part_of new r) (λ t. PartIn t l × PartIn t r) old after new
both_given first second l r old mid new scopes after left right = record {
  is = then_given first (part_of mid l) (env_of scopes mid)
      (λ a env. and_then (second env) (λ b env. Gives (a, b) env)) left.is
      ∙ then_given (second (env_of scopes mid)) (part_of new r) (env_of after new)
      (λ b env. Gives (part_of mid l, b) env) right.is
      ∙ ap (λ (a : Part). Gives (a, part_of new r) (env_of after new))
      (sym (part_kept mid new right.grown l left.is_in));
  is_in = (part_in_kept mid new right.grown l left.is_in, right.is_in);
  here = right.here;
  grown = grows_then old mid new left.grown right.grown;
}

-- what operands are to an operator, by another name
pub side_named : (usage other : Usage) (side : Side) (env : Env) → other ≡ usage
    → side_as usage side env ≡ side_as other side env
side_named usage other side env e = ap (λ u. side_as u side env) (sym e)

pub both_named : (usages other : Usages) (left right : Side) (env : Env) → other ≡ usages
    → both usages left right env ≡ both other left right env
both_named usages other left right env e = ap (λ u. both u left right env) (sym e)
