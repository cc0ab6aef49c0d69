-- What is well-formed and well-typed stays so as structures and unions are added and completed (6.2.5p22).
use Rattle.std.proofs.Common.{◌≡◌, ℕ, ◌<◌, Bool, true, false, not, ◌||◌, ◌⊎◌, List, [], ◌∷◌, ◌++◌, length, Option, Some}
use Rattle.std.proofs.Common.{None, zero, suc, is_some, IfSome, slice_set, inl, inr, refl, sym, ◌∙◌, ap, subst}
use Rattle.std.proofs.lemmas.Bool.{cases_eq}
use Rattle.std.proofs.lemmas.List.{get_or-set_same, get_or-set_other}
use Rattle.c_types.specs.declared.layout.Layout.{Layout}
use Rattle.c_types.specs.CType.{CType, CTypes, Bare, Plain, Array, BasicType, Pointer, Function, Compound, Enumerated}
use Rattle.c_types.specs.CType.{Nil, Cons}
use Rattle.c_types.specs.Layouts.{layout_of}
use Rattle.c_types.specs.Making.{KeepsStructures}
use Rattle.c_types.specs.Structures.{Structure, StructureBody, TypedMember, structure_at, no_members}
use Rattle.c_types.proofs.Kept.{layout_stays, structures_pushed}
use Rattle.c_core.specs.declared.named.FunctionName.{FunctionName}
use Rattle.c_core.specs.declared.named.FunctionName.TheVariants as function
use Rattle.c_core.specs.declared.named.ObjectName.{ObjectName}
use Rattle.c_core.specs.declared.named.ObjectName.TheVariants as object
use Rattle.c_core.specs.Named.{Names, NamesObject, NamesFunction, Widens}
use Rattle.c_core.specs.Tree.{Core, type_in, node_in}
use Rattle.c_core.proofs.Wider.{core_wider}
use Rattle.c_scopes.specs.Named.{Named, ObjectOf, FunctionOf, TypedefOf, ConstantOf, NullPointerOf, TagOf}
use Rattle.c_conversions.specs.declared.operand.Category.{Category}
use Rattle.c_conversions.specs.declared.operand.Category.TheVariants as c
use Rattle.c_conversions.specs.Versions.{is_compound}
use Rattle.c_expr_rules.specs.Pointers.{pointer_below}
use Rattle.c_expr_rules.specs.Targets.{is_complete}
use Rattle.c_typing_law.specs.TypedParts.{ValueTyped, PlaceTyped, CategoryTyped, NamedTyped}
use Rattle.c_typing_law.specs.TypesLaw.{StaysTyped}
use Rattle.c_typing_law.specs.WellFormed.{TypeFormed, BareFormed, TypesFormed, IsElement, MembersFormed, BodyFormed}
use Rattle.c_typing_law.specs.WellFormed.{StructuresFormed}

there_is : (layout : Option Layout) → is_some layout ≡ true → (l : Layout) × (layout ≡ Some l)
there_is None h = cc
there_is (Some l) h = (l, refl)

element_is : (len : Option ℕ) (element : Option Layout) → IsElement len element → (l : Layout) × (element ≡ Some l)
element_is len None h = absurd h
element_is len (Some l) h = (l, refl)

module _ (old new : List Structure) (keeps : KeepsStructures old new) where
  element_stays : (of : CType) (len : Option ℕ) → IsElement len (layout_of of old)
      → IsElement len (layout_of of new)
  element_stays of len h =
      let there : (l : Layout) × (layout_of of old ≡ Some l) = element_is len (layout_of of old) h in
      let P : Option Layout → Type 0 = IsElement len in
      subst P (there.1 ∙ sym (layout_stays of old new there.0 keeps there.1)) h

  mutual
    type_stays : (type : CType) → TypeFormed old type → TypeFormed new type
    type_stays (Plain bare quals) h = bare_stays bare h
    type_stays (Array of len) h = (type_stays of h.0, element_stays of len h.1)

    bare_stays : (bare : Bare) → BareFormed old bare → BareFormed new bare
    bare_stays (BasicType basic) h = tt
    bare_stays (Pointer to) h = type_stays to h
    bare_stays (Function gives parameters variadic) h = (type_stays gives h.0, parameters_stay parameters h.1)
    bare_stays (Compound number) h = tt
    bare_stays (Enumerated number) h = tt

    parameters_stay : (types : CTypes) → TypesFormed old types → TypesFormed new types
    parameters_stay Nil h = tt
    parameters_stay (Cons first rest) h = (type_stays first h.0, parameters_stay rest h.1)

  complete_stays : (type : CType) → is_complete type old ≡ true → is_complete type new ≡ true
  complete_stays type h =
      let there : (l : Layout) × (layout_of type old ≡ Some l) = there_is (layout_of type old) h in
      ap (λ (l : Option Layout). is_some l) (layout_stays type old new there.0 keeps there.1)

  whole_by : (one : Bool) (type : CType) → (not one || is_complete type old) ≡ true
      → (not one || is_complete type new) ≡ true
  whole_by true type h = complete_stays type h
  whole_by false type h = refl

  members_stay : (members : List TypedMember) → MembersFormed old members → MembersFormed new members
  members_stay [] h = tt
  members_stay (member ∷ members) h = (
    record { type = type_stays member.of h.0.type; is_object = h.0.is_object; at = h.0.at },
    members_stay members h.1,
  )

  pub body_stays : (body : StructureBody) → BodyFormed old body → BodyFormed new body
  body_stays body h = record { members = members_stay body.members h.members; layout = h.layout }

  -- ---- parts, where more can be named too

  module _ (less more : Names) (widens : Widens less more) where
    value_stays : (core : Core) → ValueTyped less old core → ValueTyped more new core
    value_stays core v = record {
      core = core_wider less more widens core v.core;
      type = type_stays (type_in core) v.type;
      form = v.form;
      whole = whole_by (is_compound (type_in core)) (type_in core) v.whole;
    }

    place_stays : (core : Core) → PlaceTyped less old core → PlaceTyped more new core
    place_stays core p = record {
      core = core_wider less more widens core p.core;
      type = type_stays (type_in core) p.type;
      form = p.form;
      below = type_stays (type_in (pointer_below (node_in core) core)) p.below;
    }

    category_stays : (category : Category) (core : Core) → CategoryTyped less old category core
        → CategoryTyped more new category core
    category_stays (c.Lvalue register) core p = place_stays core p
    category_stays c.Temporary core p = place_stays core p
    category_stays c.Value core p = value_stays core p
    category_stays c.Designator core p = value_stays core p

    object_stays : (name : ObjectName) → NamesObject less name → NamesObject more name
    object_stays (object.Slot slot) h = widens.objects slot h
    object_stays (object.Static token) h = widens.statics token h

    function_stays : (name : FunctionName) → NamesFunction less.functions name → NamesFunction more.functions name
    function_stays (function.Unit token) h = widens.functions token h
    function_stays (function.Library number) h = h

    named_stays : (named : Named) → NamedTyped less old named → NamedTyped more new named
    named_stays (ObjectOf type object) h = (type_stays type h.0, h.1, object_stays object.name h.2)
    named_stays (FunctionOf type function) h = (type_stays type h.0, h.1, function_stays function.name h.2)
    named_stays (ConstantOf type n) h = h
    named_stays (NullPointerOf type) h = (type_stays type h.0, h.1)
    named_stays (TypedefOf type) h = type_stays type h
    named_stays (TagOf type state) h = type_stays type h

  pub stays_typed : StaysTyped old new
  stays_typed = record {
    type = type_stays;
    part = λ less more part widens h. category_stays less more widens part.category part.core h;
    named = λ less more named widens h. named_stays less more widens named h;
  }

-- ---- structures

none_stays : (structures : List Structure) (is_union : Bool) (number : ℕ) (body : StructureBody)
    → (structure_at (structures ++ no_members is_union ∷ []) number).body ≡ Some body
    → (structure_at structures number).body ≡ Some body
none_stays [] is_union zero body h = cc
none_stays [] is_union (suc number) body h = cc
none_stays (first ∷ rest) is_union zero body h = h
none_stays (first ∷ rest) is_union (suc number) body h = none_stays rest is_union number body h

pub declared_formed : (structures : List Structure) (is_union : Bool) → StructuresFormed structures
    → StructuresFormed (structures ++ no_members is_union ∷ [])
declared_formed structures is_union formed number body h =
    body_stays structures (structures ++ no_members is_union ∷ []) (structures_pushed structures is_union) body
    (formed number body (none_stays structures is_union number body h))

pub completed_formed : (structures : List Structure) (number : ℕ) (made : Structure) → StructuresFormed structures
    → number < length structures → IfSome made.body (BodyFormed structures)
    → KeepsStructures structures (slice_set structures number made)
    → StructuresFormed (slice_set structures number made)
completed_formed structures number made formed there h keeps n body is =
    body_stays structures (slice_set structures number made) keeps body (by_number (cases_eq n number))
  where
    own : n ≡ number → IfSome (structure_at (slice_set structures number made) n).body (BodyFormed structures)
    own e =
        let P : Structure → Type 0 = λ s. IfSome s.body (BodyFormed structures) in
        subst P (sym (ap (structure_at (slice_set structures number made)) e
        ∙ get_or-set_same structures number made (no_members false) there)) h

    given : (b : Option StructureBody) → b ≡ Some body → IfSome b (BodyFormed structures)
        → BodyFormed structures body
    given b e f = let P : Option StructureBody → Type 0 = λ o. IfSome o (BodyFormed structures) in subst P e f

    by_number : (n ≡ number) ⊎ (n ≡ number → ⊥) → BodyFormed structures body
    by_number (inl e) = given (structure_at (slice_set structures number made) n).body is (own e)
    by_number (inr e) =
        formed n body
        (ap (λ (s : Structure). s.body)
        (sym (get_or-set_other structures number n made (no_members false) e)) ∙ is)
