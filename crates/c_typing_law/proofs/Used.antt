-- Expressions that are used as values, as conditions, or for nothing, keep to types.
use Rattle.std.proofs.Common.{◌≡◌, true, false, List, Option, Some, None, IfSome, refl, sym, ap, subst}
use Rattle.c_types.specs.declared.basic.Basic.TheVariants as b
use Rattle.c_types.specs.declared.layout.Layout.{Layout}
use Rattle.c_types.specs.CType.{Plain, Array, BasicType, Pointer, Function, Compound, Enumerated, no_quals}
use Rattle.c_types.specs.Layouts.{layout_of}
use Rattle.c_types.specs.Structures.{Structure}
use Rattle.c_core.specs.declared.form.Form.{Form}
use Rattle.c_core.specs.declared.form.Form.TheVariants as form
use Rattle.c_core.specs.declared.form.Scalar.TheVariants as scalar
use Rattle.c_core.specs.Forms.{form_of, node_form}
use Rattle.c_core.specs.Named.{Names}
use Rattle.c_core.specs.Tree.{Core, At, type_in}
use Rattle.c_core.specs.Tree as tree
use Rattle.c_core.specs.Typed.{CoreTyped, NodeTyped}
use Rattle.c_core.specs.Types.{IsNumber, IsObject, HasForm}
use Rattle.c_conversions.specs.declared.operand.Category.{Category}
use Rattle.c_conversions.specs.declared.operand.Category.TheVariants as c
use Rattle.c_conversions.specs.Kinds.{int_kind, pointer_to}
use Rattle.c_conversions.specs.Converting.{promoted_value, truth_value, discarded}
use Rattle.c_conversions.specs.Parts.{Part, value, as_value, value_core, object_value, first_element}
use Rattle.c_conversions.specs.Versions.{is_void}
use Rattle.c_expr_rules.specs.Targets.{type_of_part}
use Rattle.c_expr_rules.specs.Uses.{has_value, used_demands, value_demands, test_demands, switch_demands}
use Rattle.c_typing_law.specs.Law.{UsesTyped}
use Rattle.c_typing_law.specs.TypedParts.{ValueTyped, PlaceTyped, CategoryTyped, PartTyped}
use Rattle.c_typing_law.specs.WellFormed.{StructuresFormed, LayoutFormed}
use Rattle.c_typing_law.proofs.Facts.{fits_if, not_holds}
use Rattle.c_typing_law.proofs.Laid.{laid}
use Rattle.c_typing_law.proofs.Converted.{has_form, is_number, number_node, pointer_value, promoted_typed, truth_typed}
use Rattle.c_typing_law.proofs.Converted.{discarded_typed, TruthTyped}

-- a place is that of an object
pub place_object : (names : Names) (core : Core) → CoreTyped names core → form_of core ≡ form.Place
    → IsObject (type_in core)
place_object names core typed is =
    let P : Form → Type 0 = HasForm (type_in core) in subst P is (has_form names core typed)

-- what an object that is not void holds is not void
holds_something : (structures : List Structure) (core : Core) → is_void (type_in core) ≡ false
    → is_void (type_in (object_value structures core)) ≡ false
holds_something structures (At (Array of len) at node) h = refl
holds_something structures (At (Plain (BasicType b.Void) quals) at node) h = cc
holds_something structures (At (Plain (BasicType basic) quals) at node) h = refl
holds_something structures (At (Plain (Pointer to) quals) at node) h = refl
holds_something structures (At (Plain (Enumerated number) quals) at node) h = refl
holds_something structures (At (Plain (Function gives parameters variadic) quals) at node) h = refl
holds_something structures (At (Plain (Compound number) quals) at node) h = refl

pub value_something : (structures : List Structure) (category : Category) (core : Core)
    → is_void (type_in core) ≡ false → is_void (type_in (value_core structures category core)) ≡ false
value_something structures c.Value core h = h
value_something structures c.Designator core h = h
value_something structures c.Temporary core h = holds_something structures core h
value_something structures (c.Lvalue register) core h = holds_something structures core h

module _ (names : Names) (structures : List Structure) (formed : StructuresFormed structures) where
  first_element_typed : (layout : Option Layout) (core : Core) → IfSome layout LayoutFormed
      → PlaceTyped names structures core
      → (node_form (first_element layout core) ≡ form.Pointer) × NodeTyped names (first_element layout core)
  first_element_typed None core h p = (refl, (p.form, p.core))
  first_element_typed (Some layout) core h p = (refl, (h.size, p.form, p.core))

  object_value_typed : (core : Core) → PlaceTyped names structures core → has_value structures (value core) ≡ true
      → ValueTyped names structures (object_value structures core)
  object_value_typed (At (Array of len) at node) p h =
      let first = first_element_typed (layout_of (Array of len) structures) (At (Array of len) at node)
      (laid structures formed (Array of len) p.type) p in
      pointer_value names structures (pointer_to of) at
      (first_element (layout_of (Array of len) structures) (At (Array of len) at node)) refl p.type.0 first.0 first.1
  object_value_typed (At (Plain (BasicType b.Void) quals) at node) p h =
      absurd (place_object names (At (Plain (BasicType b.Void) quals) at node) p.core p.form)
  object_value_typed (At (Plain (BasicType basic) quals) at node) p h =
      number_node names structures basic at
      (tree.Load (scalar.Number (int_kind basic)) (At (Plain (BasicType basic) quals) at node)) refl refl
      (p.form, p.core)
  object_value_typed (At (Plain (Pointer to) quals) at node) p h =
      pointer_value names structures (Plain (Pointer to) no_quals) at
      (tree.Load scalar.Pointer (At (Plain (Pointer to) quals) at node)) refl p.type refl (p.form, p.core)
  object_value_typed (At (Plain (Enumerated number) quals) at node) p h =
      record { core = (refl, (p.form, p.core)); type = tt; form = refl; whole = refl }
  object_value_typed (At (Plain (Function gives parameters variadic) quals) at node) p h =
      absurd (place_object names (At (Plain (Function gives parameters variadic) quals) at node) p.core p.form)
  object_value_typed (At (Plain (Compound number) quals) at node) p h = record {
    core = (
      (let P : Form → Type 0 = HasForm (Plain (Compound number) no_quals) in subst P (sym p.form) tt),
      p.core.1,
    );
    type = tt;
    form = ap Some (sym p.form);
    whole = h;
  }

  value_core_typed : (category : Category) (core : Core) → CategoryTyped names structures category core
      → has_value structures (value core) ≡ true → ValueTyped names structures (value_core structures category core)
  value_core_typed c.Value core typed h = typed
  value_core_typed c.Designator core typed h = typed
  value_core_typed c.Temporary core typed h = object_value_typed core typed h
  value_core_typed (c.Lvalue register) core typed h = object_value_typed core typed h

  pub as_value_typed : (part : Part) → PartTyped names structures part → has_value structures part ≡ true
      → ValueTyped names structures (as_value structures part).core
  as_value_typed part typed h = value_core_typed part.category part.core typed h

  pub uses_typed : UsesTyped names structures
  uses_typed = record {
    used = λ part typed.
        fits_if (λ (v : Part). ValueTyped names structures v.core) (used_demands structures part)
        (as_value structures part) (λ hold. as_value_typed part typed hold.0);
    value = λ part typed.
        fits_if
        (λ (v : Part). ValueTyped names structures v.core × (is_void (type_of_part v) ≡ false))
        (value_demands structures part) (as_value structures part)
        (λ hold. (
          as_value_typed part typed hold.0,
          value_something structures part.category part.core (not_holds (is_void (type_of_part part)) hold.1.0),
        ));
    test = λ part typed.
        fits_if (λ core. CoreTyped names core × IsNumber (form_of core)) (test_demands structures part)
        (truth_value (as_value structures part).core)
        (λ hold. let made : TruthTyped names structures (truth_value (as_value structures part).core) =
        truth_typed names structures (as_value structures part).core (as_value_typed part typed hold.0)
        hold.1.1.0 in
        (made.is.core, made.number));
    switch = λ part typed.
        fits_if (λ core. CoreTyped names core × IsNumber (form_of core)) (switch_demands structures part)
        (promoted_value (as_value structures part).core)
        (λ hold. let made = promoted_typed names structures (as_value structures part).core
        (as_value_typed part typed hold.0) hold.1.1.0 in
        (made.is.core, is_number _ _ made.left));
    discard = λ part typed.
        fits_if (λ core. CoreTyped names core × (form_of core ≡ form.Nothing)) (used_demands structures part)
        (discarded (as_value structures part).core)
        (λ hold. discarded_typed names structures (as_value structures part).core
        (as_value_typed part typed hold.0));
  }
