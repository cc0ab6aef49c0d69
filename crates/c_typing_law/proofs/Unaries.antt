-- Unary operators, sizes and casts keep to types (6.5.3, 6.5.4).
use Rattle.std.proofs.Common.{◌≡◌, Bool, true, false, not, ◌||◌, List, Option, Some, None, is_some, refl}
use Rattle.std.proofs.Common.{sym}
use Rattle.std.proofs.Common.{ap, subst, pos, ◌∙◌, arith}
use Rattle.critical_table.specs.declared.pos.Pos.{Pos}
use Rattle.c_types.specs.declared.basic.Basic.TheVariants as b
use Rattle.c_types.specs.CType.{CType, Plain, Array, BasicType, Pointer, Function, Compound, Enumerated, no_quals}
use Rattle.c_types.specs.Layouts.{layout_of}
use Rattle.c_types.specs.Structures.{Structure}
use Rattle.c_core.specs.declared.form.Form.{Form}
use Rattle.c_core.specs.declared.form.Form.TheVariants as form
use Rattle.c_core.specs.declared.operator.By.TheVariants as by
use Rattle.c_core.specs.Forms.{form_of}
use Rattle.c_core.specs.Named.{Names}
use Rattle.c_core.specs.Tree.{Core, At, Node, type_in}
use Rattle.c_core.specs.Tree as tree
use Rattle.c_core.specs.Typed.{CoreTyped}
use Rattle.c_core.specs.Types.{value_form, IsPointer, IsNumber, HasForm}
use Rattle.c_conversions.specs.declared.operand.Category.{Category}
use Rattle.c_conversions.specs.declared.operand.Category.TheVariants as c
use Rattle.c_conversions.specs.Contents.{size_in}
use Rattle.c_conversions.specs.Converting.{is_null, promoted_value, truth_value}
use Rattle.c_conversions.specs.Kinds.{basic_type, pointer_to, is_integer, int_kind, promoted}
use Rattle.c_conversions.specs.Parts.{Part, value}
use Rattle.c_conversions.specs.Versions.{pointee, is_pointer, is_function, is_compound, is_scalar}
use Rattle.c_expr_rules.specs.Casts.{may_cast, are_of_one_sort, cast_demands, cast_part}
use Rattle.c_expr_rules.specs.Pointers.{has_address, address_demands, address_part, address_core, address_rule}
use Rattle.c_expr_rules.specs.Pointers.{is_reached}
use Rattle.c_expr_rules.specs.Pointers.{pointer_below, place_address, deref_demands, deref_part, deref_rule}
use Rattle.c_expr_rules.specs.Targets.{type_of_part, target_of, basic_in, align_in, is_complete}
use Rattle.c_expr_rules.specs.Unary.{sign_demands, negated, flipped, not_demands}
use Rattle.c_expr_rules.specs.Unary.{not_node, not_part, not_rule, size_number, measure_demands}
use Rattle.c_expr_rules.specs.Unary.{is_designator, size_of_demands}
use Rattle.c_expr_rules.specs.Uses.{has_value}
use Rattle.c_typing_law.specs.Law.{GivesPart, UnaryTyped}
use Rattle.c_typing_law.specs.TypedParts.{ValueTyped, PlaceTyped, CategoryTyped, PartTyped}
use Rattle.c_typing_law.specs.WellFormed.{TypeFormed, StructuresFormed}
use Rattle.c_typing_law.proofs.Converted.{has_form, number_node, pointer_value, pointer_left, integer_number}
use Rattle.c_typing_law.proofs.Converted.{promoted_typed, NumberTyped, truth_typed, TruthTyped, pointer_node_typed}
use Rattle.c_typing_law.proofs.Converted.{pointee_pointer, truth_of}
use Rattle.c_typing_law.proofs.Facts.{fits_if, both_hold, if_either, second_true, not_second, promoted_real}
use Rattle.c_typing_law.proofs.Integers.{small_in_range, integer_node}
use Rattle.c_typing_law.proofs.Laid.{measured, Measured}
use Rattle.c_typing_law.proofs.Reached.{reached_typed}

pointer_leaves : (type : CType) → IsPointer type → value_form type ≡ Some form.Pointer
pointer_leaves (Plain (Pointer to) quals) h = refl
pointer_leaves (Plain (BasicType basic) quals) h = absurd h
pointer_leaves (Plain (Enumerated number) quals) h = absurd h
pointer_leaves (Plain (Function gives parameters variadic) quals) h = absurd h
pointer_leaves (Plain (Compound number) quals) h = absurd h
pointer_leaves (Array of len) h = absurd h

pointer_plain : (type : CType) → IsPointer type → is_compound type ≡ false
pointer_plain (Plain (Pointer to) quals) h = refl
pointer_plain (Plain (BasicType basic) quals) h = refl
pointer_plain (Plain (Enumerated number) quals) h = refl
pointer_plain (Plain (Function gives parameters variadic) quals) h = refl
pointer_plain (Plain (Compound number) quals) h = absurd h
pointer_plain (Array of len) h = refl

plain_whole : (structures : List Structure) (core : Core) → is_compound (type_in core) ≡ false
    → has_value structures (value core) ≡ true
plain_whole structures core h =
    let P : Bool → Type 0 = λ is_one. (not is_one || is_complete (type_in core) structures) ≡ true in
    subst P (sym h) refl

sort_known : (to : CType) (from : Option CType) → are_of_one_sort to from ≡ true → is_some from ≡ true
sort_known to None h = cc
sort_known to (Some from) h = refl

module _ (names : Names) (structures : List Structure) (formed : StructuresFormed structures) where
  abbrev Value : Core → Type 0
  Value core = ValueTyped names structures core

  abbrev Typed : Part → Type 0
  Typed part = PartTyped names structures part

  pub part_formed : (category : Category) (core : Core) → CategoryTyped names structures category core
      → TypeFormed structures (type_in core)
  part_formed c.Value core p = p.type
  part_formed c.Designator core p = p.type
  part_formed c.Temporary core p = p.type
  part_formed (c.Lvalue register) core p = p.type

  -- ---- `&`

  below_typed : (at : Pos) (of : CType) (node : Node) → is_reached node ≡ true
      → CoreTyped names (At of at node) → TypeFormed structures (type_in (pointer_below node (At of at node)))
      → Value (pointer_below node (At of at node))
  below_typed at of (tree.Reach by.Star size align pointer) h typed below =
      let P : Form → Type 0 = HasForm (type_in pointer) in
      let is_one : IsPointer (type_in pointer) = subst P typed.1.3 (has_form names pointer typed.1.4) in
      record {
        core = typed.1.4;
        type = below;
        form = pointer_leaves (type_in pointer) is_one ∙ ap Some (sym typed.1.3);
        whole = plain_whole structures pointer (pointer_plain (type_in pointer) is_one);
      }
  below_typed at of other h typed below = cc

  address_core_typed : (at : Pos) (core : Core) → PlaceTyped names structures core → Value (address_core at core)
  address_core_typed at (At of place node) p =
      if_either Value (is_reached node) (pointer_below node (At of place node)) (place_address at (At of place node))
      (λ reached. below_typed place of node reached p.core p.below)
      (λ other. pointer_value names structures (pointer_to of) at (tree.AddressOf (At of place node)) refl p.type refl
      (p.form, p.core))

  address_by : (at : Pos) (category : Category) (null : Bool) (core : Core)
      → CategoryTyped names structures category core → has_address category ≡ true
      → Typed (address_part at (record { category = category; null = null; core = core }))
  address_by at c.Value null core p h = cc
  address_by at c.Temporary null core p h = cc
  address_by at c.Designator null core p h = p
  address_by at (c.Lvalue register) null core p h = address_core_typed at core p

  address_typed : (at : Pos) (part : Part) → Typed part → GivesPart names structures (address_rule at part)
  address_typed at part p =
      fits_if Typed (address_demands part) (address_part at part)
      (λ hold. address_by at part.category part.null part.core p hold.0)

  -- ---- `*`

  deref_typed : (at : Pos) (part : Part) → Value part.core → GivesPart names structures (deref_rule structures at part)
  deref_typed at part v =
      fits_if Typed (deref_demands structures part) (deref_part structures at part)
      (λ hold. let both : (is_pointer (type_of_part part) ≡ true) × ((is_function (target_of (type_of_part part))
      || is_complete (target_of (type_of_part part)) structures) ≡ true) = both_hold _ _ hold.0 in
      if_either Typed (is_function (target_of (type_of_part part))) _ _ (λ function. v)
      (λ other. reached_typed names structures formed by.Star at part.core v both.0
      (second_true (is_function (target_of (type_of_part part)))
      (is_complete (target_of (type_of_part part)) structures) both.1 other)))

  -- ---- signs

  promoted_part : (part : Part) → Value part.core → is_integer (type_of_part part) ≡ true
      → NumberTyped names structures (promoted (basic_in (type_of_part part))) (promoted_value part.core)
  promoted_part part v h = promoted_typed names structures part.core v h

  negated_typed : (at : Pos) (part : Part) → Value part.core → is_integer (type_of_part part) ≡ true
      → Typed (negated at part)
  negated_typed at part v h =
      let made : NumberTyped names structures (promoted (basic_in (type_of_part part))) (promoted_value part.core) =
      promoted_part part v h in
      number_node names structures (promoted (basic_in (type_of_part part))) at
      (tree.Negate (int_kind (promoted (basic_in (type_of_part part)))) (promoted_value part.core))
      (promoted_real (basic_in (type_of_part part))) refl (made.left, made.is.core)

  flipped_typed : (at : Pos) (part : Part) → Value part.core → is_integer (type_of_part part) ≡ true
      → Typed (flipped at part)
  flipped_typed at part v h =
      let made : NumberTyped names structures (promoted (basic_in (type_of_part part))) (promoted_value part.core) =
      promoted_part part v h in
      number_node names structures (promoted (basic_in (type_of_part part))) at
      (tree.Flip (int_kind (promoted (basic_in (type_of_part part)))) (promoted_value part.core))
      (promoted_real (basic_in (type_of_part part))) refl (made.left, made.is.core)

  not_by : (at : Pos) (core : Core) → Value core → (is_one : Bool) → (is_one ≡ true → form_of core ≡ form.Pointer)
      → (is_one ≡ false → IsNumber (form_of core)) → Value (At (basic_type b.Int) at (not_node core is_one))
  not_by at core v true pointer number =
      number_node names structures b.Int at (tree.IsNull core) refl refl (pointer refl, v.core)
  not_by at core v false pointer number =
      number_node names structures b.Int at (tree.Not core) refl refl (number refl, v.core)

  not_typed : (at : Pos) (part : Part) → Value part.core → GivesPart names structures (not_rule at part)
  not_typed at part v =
      fits_if Typed (not_demands part) (not_part at part)
      (λ hold. not_by at part.core v (is_pointer (type_of_part part)) (pointer_left names structures part.core v)
      (λ none. integer_number names structures part.core v (not_second (is_integer (type_of_part part)) (is_pointer
      (type_of_part part)) hold.0 none)))

  -- ---- sizes

  size_typed : (at : Pos) (type : CType) → TypeFormed structures type → is_complete type structures ≡ true
      → Typed (size_number at (size_in (layout_of type structures)))
  size_typed at type h there =
      let m : Measured (layout_of type structures) = measured structures formed type h there in
      number_node names structures b.ULong at
      (tree.Number (int_kind b.ULong) (pos (size_in (layout_of type structures)))) refl refl
      (small_in_range (size_in (layout_of type structures)) m.size.1)

  align_typed : (at : Pos) (type : CType) → TypeFormed structures type → is_complete type structures ≡ true
      → Typed (size_number at (align_in (layout_of type structures)))
  align_typed at type h there =
      let m : Measured (layout_of type structures) = measured structures formed type h there in
      number_node names structures b.ULong at
      (tree.Number (int_kind b.ULong) (pos (align_in (layout_of type structures)))) refl refl
      (small_in_range (align_in (layout_of type structures)) (omega (arith, m.align)))

  -- ---- casts

  cast_by : (at : Pos) (type : CType) (part : Part) → TypeFormed structures type → Value part.core
      → may_cast type part ≡ true → Typed (cast_part at type part)
  cast_by at (Plain (Pointer to) quals) part h v may =
      (pointer_node_typed names structures (Plain (Pointer to) no_quals) at part.core refl h v.core (is_null part)
      (λ none. pointer_left names structures part.core v
      (pointee_pointer (type_of_part part)
      (sort_known to (pointee (type_of_part part)) (second_true (is_null part) (are_of_one_sort to (pointee
      (type_of_part part))) may none))))).is
  cast_by at (Plain (BasicType basic) quals) part h v may =
      let both : (is_integer (Plain (BasicType basic) quals) ≡ true) × (is_scalar (type_of_part part) ≡ true) =
      truth_of names structures (Plain (BasicType basic) quals) (type_of_part part) may in
      let made : TruthTyped names structures (truth_value part.core) =
      truth_typed names structures part.core v both.1 in
      integer_node names structures (Plain (BasicType basic) no_quals) at
      (tree.Convert (int_kind (basic_in (Plain (BasicType basic) quals))) (truth_value part.core)) both.0 refl
      (made.number, made.is.core)
  cast_by at (Plain (Enumerated number) quals) part h v may =
      let both : (is_integer (Plain (Enumerated number) quals) ≡ true) × (is_scalar (type_of_part part) ≡ true) =
      truth_of names structures (Plain (Enumerated number) quals) (type_of_part part) may in
      let made : TruthTyped names structures (truth_value part.core) =
      truth_typed names structures part.core v both.1 in
      integer_node names structures (Plain (Enumerated number) no_quals) at
      (tree.Convert (int_kind b.Int) (truth_value part.core)) both.0 refl (made.number, made.is.core)
  cast_by at (Plain (Function gives parameters variadic) quals) part h v may = cc
  cast_by at (Plain (Compound number) quals) part h v may = cc
  cast_by at (Array of len) part h v may = cc

  pub unary_typed : UnaryTyped names structures
  unary_typed = record {
    address = address_typed;
    deref = deref_typed;
    plus = λ part v.
        fits_if Typed (sign_demands part) (value (promoted_value part.core))
        (λ hold. (promoted_part part v hold.0).is);
    minus = λ at part v.
        fits_if Typed (sign_demands part) (negated at part) (λ hold. negated_typed at part v hold.0);
    flip = λ at part v.
        fits_if Typed (sign_demands part) (flipped at part) (λ hold. flipped_typed at part v hold.0);
    not = not_typed;
    size = λ at type h.
        fits_if Typed (measure_demands structures type) (size_number at (size_in (layout_of type structures)))
        (λ hold. size_typed at type h hold.0);
    align = λ at type h.
        fits_if Typed (measure_demands structures type) (size_number at (align_in (layout_of type structures)))
        (λ hold. align_typed at type h hold.0);
    size_of = λ at part p.
        fits_if Typed (size_of_demands structures part)
        (size_number at (size_in (layout_of (type_of_part part) structures)))
        (λ hold. size_typed at (type_of_part part) (part_formed part.category part.core p)
        (both_hold (not (is_designator part.category)) (is_complete (type_of_part part) structures) hold.0).1);
    cast = λ at type part h v.
        fits_if Typed (cast_demands type part) (cast_part at type part) (λ hold. cast_by at type part h v hold.0);
  }
