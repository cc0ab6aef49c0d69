-- What a table keeps as types are made: what is made of a type and an expression that were there before.
use Rattle.std.proofs.Common.{◌≡◌, ◌∙◌, ap}
use Rattle.c_types.specs.declared.shape.TypeId.{TypeId}
use Rattle.c_types.specs.CType.{type_of}
use Rattle.c_types.specs.Types.{Types}
use Rattle.c_core.specs.declared.expression.CoreExpr.{CoreExpr}
use Rattle.c_core.specs.View.{core_of}
use Rattle.c_core.specs.Ids.{IdIn, CoreIn}
use Rattle.c_core.proofs.Kept.{core_kept, core_in_kept, id_in_kept, type_kept}
use Rattle.c_scopes.specs.Clauses.{Makes}
use Rattle.c_scopes.proofs.Keeps.{keeps_then}
use Rattle.c_conversions.specs.declared.operand.Operand.{Operand}
use Rattle.c_conversions.specs.Parts.{part_of, PartIn}

-- what was there is there once something is made, and stays what it is
module _ {A B : Type 0} {view : Types → B → A} {In : Types → B → Type 0} {a : A} {x : B} {old new : Types}
    (made : Makes view In a old new x) where
  pub id_there : (id : TypeId) → IdIn old id → IdIn new id
  id_there id h = id_in_kept old new made.kept.grows id h

  pub core_there : (core : CoreExpr) → CoreIn old core → CoreIn new core
  core_there core h = core_in_kept old new made.kept.grows core h

  pub type_stays : (id : TypeId) → IdIn old id → type_of new id ≡ type_of old id
  type_stays id h = type_kept old new made.kept.grows id h

  pub core_stays : (core : CoreExpr) → CoreIn old core → core_of new core ≡ core_of old core
  core_stays core h = core_kept old new made.kept.grows core h

  pub part_stays : (operand : Operand) → PartIn old operand → part_of new operand ≡ part_of old operand
  part_stays operand h = λ i. record {
    category = operand.category;
    null = operand.null;
    core = core_kept old new made.kept.grows operand.core h i;
  }

-- What is made of something that was just made, and of something that stays what it was.
pub over : {A B C D X : Type 0} {view : Types → B → A} {In : Types → B → Type 0} {view2 : Types → D → C}
    {In2 : Types → D → Type 0} {a : A} {b : B} {d : D} {x y : X} {old mid new : Types} (build : A → X → C)
    → Makes view In a old mid b → y ≡ x → Makes view2 In2 (build (view mid b) y) mid new d
    → Makes view2 In2 (build a x) old new d
over {old = old} {mid = mid} {new = new} build first same second = record {
  is = second.is ∙ (λ i. build (first.is i) (same i));
  is_in = second.is_in;
  kept = keeps_then old mid new first.kept second.kept;
}

-- the same where nothing else is needed
pub over_made : {A B C D : Type 0} {view : Types → B → A} {In : Types → B → Type 0} {view2 : Types → D → C}
    {In2 : Types → D → Type 0} {a : A} {b : B} {d : D} {old mid new : Types} (build : A → C)
    → Makes view In a old mid b → Makes view2 In2 (build (view mid b)) mid new d
    → Makes view2 In2 (build a) old new d
over_made {old = old} {mid = mid} {new = new} build first second = record {
  is = second.is ∙ ap build first.is;
  is_in = second.is_in;
  kept = keeps_then old mid new first.kept second.kept;
}

-- the same by another name
pub made_as : {A B : Type 0} {view : Types → B → A} {In : Types → B → Type 0} {a b : A} {x : B} {old new : Types}
    → Makes view In a old new x → a ≡ b → Makes view In b old new x
made_as made e = record { is = made.is ∙ e; is_in = made.is_in; kept = made.kept }
