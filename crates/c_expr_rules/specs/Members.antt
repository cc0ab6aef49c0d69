-- Members of structures and unions (6.5.2.3).
use Rattle.std.specs.Prelude.{ℕ, false, List, [], ◌∷◌, Option, Some, None, is_some}
use Rattle.critical_table.specs.declared.pos.Pos.{Pos}
use Rattle.c_types.specs.CType.{CType, void, quals_of}
use Rattle.c_types.specs.Qualified.{with_quals}
use Rattle.c_types.specs.Structures.{Structure, members_of, typed_member_named}
use Rattle.c_core.specs.declared.operator.By.TheVariants as by
use Rattle.c_core.specs.Tree.{Core, At, type_in}
use Rattle.c_core.specs.Tree as tree
use Rattle.c_scopes.specs.Ruled.{Ruled, Demand, ruled}
use Rattle.c_conversions.specs.declared.operand.Category.{Category}
use Rattle.c_conversions.specs.declared.operand.Category.TheVariants as c
use Rattle.c_conversions.specs.Parts.{Part, lvalue}
use Rattle.c_expr_rules.specs.Targets.{type_of_part, target_of}
use Rattle.c_expr_rules.specs.Pointers.{reached}

-- the type and the place of the member of a name in a complete structure or union
abbrev pub member_in : CType → List Structure → List ℕ → Option (CType × ℕ)
member_in type structures name = typed_member_named (members_of type structures) name

abbrev pub member_or_none : Option (CType × ℕ) → CType × ℕ
member_or_none None = (void, 0)
member_or_none (Some member) = member

-- a member has the qualifiers of the whole beside its own (6.5.2.3p3, p4)
abbrev pub member_core : Pos → CType × ℕ → Core → Core
member_core at member whole =
    At (with_quals (quals_of (type_in whole)) member.0) at (tree.Member member.1 whole)

-- A member of an lvalue is an lvalue, also of an object declared with `register`; of a value it is none (6.5.2.3p3).
abbrev pub member_category : Category → Category
member_category (c.Lvalue register) = c.Lvalue register
member_category c.Temporary = c.Temporary
member_category c.Value = c.Temporary
member_category c.Designator = c.Temporary

-- ---- `E.name` (6.5.2.3p1, p3)

abbrev pub dot_demands : List Structure → List ℕ → Part → List Demand
dot_demands structures name part = (34, is_some (member_in (type_of_part part) structures name)) ∷ []

abbrev pub dot_part : List Structure → Pos → List ℕ → Part → Part
dot_part structures at name part = record {
  category = member_category part.category;
  null = false;
  core = member_core at (member_or_none (member_in (type_of_part part) structures name)) part.core;
}

abbrev pub dot_rule : List Structure → Pos → List ℕ → Part → Ruled Part
dot_rule structures at name part =
    ruled (dot_demands structures name part) (dot_part structures at name part)

-- ---- `E->name` (6.5.2.3p2, p4): the whole structure is reached

abbrev pub arrow_demands : List Structure → List ℕ → Part → List Demand
arrow_demands structures name part =
    (34, is_some (member_in (target_of (type_of_part part)) structures name)) ∷ []

abbrev pub arrow_part : List Structure → Pos → List ℕ → Part → Part
arrow_part structures at name part =
    lvalue (member_core at (member_or_none (member_in (target_of (type_of_part part)) structures name))
    (reached structures by.Arrow at part.core))

abbrev pub arrow_rule : List Structure → Pos → List ℕ → Part → Ruled Part
arrow_rule structures at name part =
    ruled (arrow_demands structures name part) (arrow_part structures at name part)
