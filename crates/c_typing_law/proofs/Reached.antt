-- Places that a pointer or a member gives keep to types (6.5.2.1, 6.5.2.3, 6.5.3.2).
use Rattle.std.proofs.Common.{◌≡◌, ℕ, Bool, true, false, ◌||◌, List, inl, inr, refl}
use Rattle.critical_table.specs.declared.pos.Pos.{Pos}
use Rattle.c_types.specs.CType.{CType, quals_of}
use Rattle.c_types.specs.Layouts.{layout_of}
use Rattle.c_types.specs.Structures.{Structure}
use Rattle.c_core.specs.declared.form.Form.TheVariants as form
use Rattle.c_core.specs.declared.operator.By.{By}
use Rattle.c_core.specs.declared.operator.By.TheVariants as by
use Rattle.c_core.specs.Forms.{form_of}
use Rattle.c_core.specs.Named.{Names}
use Rattle.c_core.specs.Tree.{Core, type_in, node_in}
use Rattle.c_core.specs.Tree as tree
use Rattle.c_core.specs.Typed.{CoreTyped}
use Rattle.c_conversions.specs.declared.operand.Category.{Category}
use Rattle.c_conversions.specs.declared.operand.Category.TheVariants as c
use Rattle.c_conversions.specs.Kinds.{is_integer}
use Rattle.c_conversions.specs.Parts.{Part}
use Rattle.c_conversions.specs.Versions.{is_pointer, is_compound}
use Rattle.c_expr_rules.specs.Members.{member_in, member_or_none, member_core, member_category, dot_demands, dot_part}
use Rattle.c_expr_rules.specs.Members.{dot_rule, arrow_demands, arrow_part, arrow_rule}
use Rattle.c_expr_rules.specs.Pointers.{reached, moved, element, may_index, index_demands, index_part, index_rule}
use Rattle.c_expr_rules.specs.Pointers.{pointer_below}
use Rattle.c_expr_rules.specs.Targets.{type_of_part, target_of, is_complete, stride}
use Rattle.c_typing_law.specs.Law.{GivesPart}
use Rattle.c_typing_law.specs.TypedParts.{ValueTyped, PlaceTyped, CategoryTyped, PartTyped}
use Rattle.c_typing_law.specs.WellFormed.{TypeFormed, StructuresFormed}
use Rattle.c_typing_law.proofs.Converted.{pointer_left, compound_left, pointer_value, integer_number}
use Rattle.c_typing_law.proofs.Facts.{fits_if, three_hold, either_holds, if_either, no_pointer}
use Rattle.c_typing_law.proofs.Formed.{target_formed, complete_object, with_quals_formed, with_quals_object}
use Rattle.c_typing_law.proofs.Formed.{FoundFormed}
use Rattle.c_typing_law.proofs.Formed.{member_formed, member_compound, member_complete, member_pointer}
use Rattle.c_typing_law.proofs.Laid.{measured, Measured}

module _ (names : Names) (structures : List Structure) (formed : StructuresFormed structures) where
  abbrev Value : Core → Type 0
  Value core = ValueTyped names structures core

  below_reached : (how : By) (at : Pos) (pointer : Core) → TypeFormed structures (type_in pointer)
      → TypeFormed structures (target_of (type_in pointer))
      → TypeFormed structures (type_in (pointer_below (node_in (reached structures how at pointer))
      (reached structures how at pointer)))
  below_reached by.Star at pointer of target = of
  below_reached by.Arrow at pointer of target = target

  -- what a pointer to a complete type designates
  pub reached_typed : (how : By) (at : Pos) (pointer : Core) → Value pointer → is_pointer (type_in pointer) ≡ true
      → is_complete (target_of (type_in pointer)) structures ≡ true
      → PlaceTyped names structures (reached structures how at pointer)
  reached_typed how at pointer v is_one complete =
      let target : TypeFormed structures (target_of (type_in pointer)) =
      target_formed structures (type_in pointer) v.type in
      let m : Measured (layout_of (target_of (type_in pointer)) structures) =
      measured structures formed (target_of (type_in pointer)) target complete in
      record {
        core = (
          complete_object structures (target_of (type_in pointer)) complete,
          (m.size, m.some, m.align, pointer_left names structures pointer v is_one, v.core),
        );
        type = target;
        form = refl;
        below = below_reached how at pointer v.type target;
      }

  -- a pointer to a complete type that moves
  pub moved_typed : (at : Pos) (back number_first : Bool) (pointer number : Core) → Value pointer
      → is_pointer (type_in pointer) ≡ true → is_complete (target_of (type_in pointer)) structures ≡ true
      → Value number → is_integer (type_in number) ≡ true
      → Value (moved structures at back number_first pointer number)
  moved_typed at back number_first pointer number v is_one complete n is_number =
      let m : Measured (layout_of (target_of (type_in pointer)) structures) =
      measured structures formed (target_of (type_in pointer)) (target_formed structures (type_in pointer) v.type)
      complete in
      pointer_value names structures (type_in pointer) at
      (tree.Step (stride structures (type_in pointer) back) number_first pointer number) is_one v.type refl (
        m.size,
        pointer_left names structures pointer v is_one,
        v.core,
        integer_number names structures number n is_number,
        n.core,
      )

  element_typed : (at : Pos) (number_first : Bool) (pointer number : Core) → Value pointer → Value number
      → may_index structures (type_in pointer) (type_in number) ≡ true
      → PartTyped names structures (element structures at false number_first pointer number)
  element_typed at number_first pointer number v n may =
      let all : (is_pointer (type_in pointer) ≡ true)
      × (is_complete (target_of (type_in pointer)) structures ≡ true) × (is_integer (type_in number) ≡ true) =
      three_hold _ _ _ may in
      reached_typed by.Star at (moved structures at false number_first pointer number)
      (moved_typed at false number_first pointer number v all.0 all.1 n all.2) all.0 all.1

  index_by : (at : Pos) (left right : Part) → Value left.core → Value right.core
      → (may_index structures (type_of_part left) (type_of_part right)
      || may_index structures (type_of_part right) (type_of_part left)) ≡ true
      → PartTyped names structures (index_part structures at left right)
  index_by at left right l r may =
      if_either (PartTyped names structures) (is_pointer (type_of_part left)) _ _
      (λ is_one. elim (either_holds (may_index structures (type_of_part left) (type_of_part right))
      (may_index structures (type_of_part right) (type_of_part left)) may) [
        | inl first ↦ element_typed at false left.core right.core l r first
        | inr second ↦ (let all : (is_pointer (type_of_part right) ≡ true)
            × (is_complete (target_of (type_of_part right)) structures ≡ true)
            × (is_integer (type_of_part left) ≡ true) = three_hold _ _ _ second in
            let none : is_pointer (type_of_part left) ≡ false = no_pointer (type_of_part left) all.2 in cc)
      ])
      (λ none. elim (either_holds (may_index structures (type_of_part left) (type_of_part right))
      (may_index structures (type_of_part right) (type_of_part left)) may) [
        | inl first ↦ (let all : (is_pointer (type_of_part left) ≡ true)
            × (is_complete (target_of (type_of_part left)) structures ≡ true)
            × (is_integer (type_of_part right) ≡ true) = three_hold _ _ _ first in
            let is_one : is_pointer (type_of_part left) ≡ true = all.0 in cc)
        | inr second ↦ element_typed at true right.core left.core r l second
      ])

  pub index_typed : (at : Pos) (left right : Part) → Value left.core → Value right.core
      → GivesPart names structures (index_rule structures at left right)
  index_typed at left right l r =
      fits_if (PartTyped names structures) (index_demands structures left right) (index_part structures at left right)
      (λ hold. index_by at left right l r hold.0)

  -- ---- members

  member_typed : (at : Pos) (found : CType × ℕ) (whole : Core) → FoundFormed structures found
      → CoreTyped names whole → form_of whole ≡ form.Place
      → PlaceTyped names structures (member_core at found whole)
  member_typed at found whole h typed is = record {
    core = (with_quals_object (quals_of (type_in whole)) found.0 h.is_object, (h.at, is, typed));
    type = with_quals_formed structures (quals_of (type_in whole)) found.0 h.type;
    form = refl;
    below = with_quals_formed structures (quals_of (type_in whole)) found.0 h.type;
  }

  member_place : (category : Category) (core : Core) → PlaceTyped names structures core
      → CategoryTyped names structures (member_category category) core
  member_place c.Value core p = p
  member_place c.Designator core p = p
  member_place c.Temporary core p = p
  member_place (c.Lvalue register) core p = p

  whole_core : (category : Category) (core : Core) → CategoryTyped names structures category core
      → CoreTyped names core
  whole_core c.Value core p = p.core
  whole_core c.Designator core p = p.core
  whole_core c.Temporary core p = p.core
  whole_core (c.Lvalue register) core p = p.core

  whole_place : (category : Category) (core : Core) → CategoryTyped names structures category core
      → is_compound (type_in core) ≡ true → form_of core ≡ form.Place
  whole_place c.Value core p h = compound_left names structures core p h
  whole_place c.Designator core p h = compound_left names structures core p h
  whole_place c.Temporary core p h = p.form
  whole_place (c.Lvalue register) core p h = p.form

  pub dot_typed : (at : Pos) (name : List ℕ) (part : Part) → PartTyped names structures part
      → GivesPart names structures (dot_rule structures at name part)
  dot_typed at name part p =
      fits_if (PartTyped names structures) (dot_demands structures name part) (dot_part structures at name part)
      (λ hold. member_place part.category (dot_part structures at name part).core
      (member_typed at (member_or_none (member_in (type_of_part part) structures name)) part.core
      (member_formed structures formed (type_of_part part) name hold.0) (whole_core part.category part.core p)
      (whole_place part.category part.core p (member_compound structures (type_of_part part) name hold.0))))

  pub arrow_typed : (at : Pos) (name : List ℕ) (part : Part) → Value part.core
      → GivesPart names structures (arrow_rule structures at name part)
  arrow_typed at name part v =
      fits_if (PartTyped names structures) (arrow_demands structures name part) (arrow_part structures at name part)
      (λ hold. let whole : PlaceTyped names structures (reached structures by.Arrow at part.core) =
      reached_typed by.Arrow at part.core v (member_pointer structures (type_of_part part) name hold.0)
      (member_complete structures (target_of (type_of_part part)) name hold.0) in
      member_typed at (member_or_none (member_in (target_of (type_of_part part)) structures name))
      (reached structures by.Arrow at part.core)
      (member_formed structures formed (target_of (type_of_part part)) name hold.0) whole.core whole.form)
