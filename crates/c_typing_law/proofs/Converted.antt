-- Conversions keep to types (6.3).
use Rattle.std.proofs.Common.{◌≡◌, ℕ, ◌==◌, [], ◌∷◌, slice_index_or, Bool, true, false, ◌&&◌, ◌||◌, cond}
use Rattle.std.proofs.Common.{List, Option, Some, None, is_some}
use Rattle.std.proofs.Common.{refl, inl, inr, sym, ◌∙◌, ap, subst}
use Rattle.std.proofs.lemmas.Bool.Decides.{Decides-eqb}
use Rattle.acc_num.specs.declared.kind.IntKind.{IntKind}
use Rattle.acc_num.specs.declared.kind.IntKind.TheVariants as k
use Rattle.critical_table.specs.declared.pos.Pos.{Pos}
use Rattle.c_types.specs.declared.basic.Basic.{Basic}
use Rattle.c_types.specs.declared.basic.Basic.TheVariants as b
use Rattle.c_types.specs.CType.{CType, Plain, Array, BasicType, Pointer, Function, Compound, Enumerated, number_of}
use Rattle.c_types.specs.CType.{void}
use Rattle.c_types.specs.declared.shape.Quals.{Quals}
use Rattle.c_types.specs.Compatible.{agree, bare_agree}
use Rattle.c_types.specs.Layouts.{kind_of, layout_of}
use Rattle.c_types.specs.Structures.{Structure}
use Rattle.c_core.specs.declared.form.Form.{Form}
use Rattle.c_core.specs.declared.form.Form.TheVariants as form
use Rattle.c_core.specs.Forms.{form_of, node_form}
use Rattle.c_core.specs.Named.{Names}
use Rattle.c_core.specs.Tree.{Core, At, Node, type_in, pos_in}
use Rattle.c_core.specs.Tree as tree
use Rattle.c_core.specs.Typed.{CoreTyped, NodeTyped}
use Rattle.c_core.specs.Types.{value_form, basic_form, IsNumber, IsPointer, IsLeft, HasForm}
use Rattle.c_conversions.specs.Contents.{size_in}
use Rattle.c_conversions.specs.Converting.{number_as, promoted_as, promoted_value, truth_value, is_null, pointer_node}
use Rattle.c_conversions.specs.Converting.{pointer_as, converts, pointer_converts, is_integer_or_truth, number_or_same}
use Rattle.c_conversions.specs.Converting.{assigned, argument, discarded}
use Rattle.c_conversions.specs.Kinds.{basic_type, pointer_to, integer_in, is_integer, int_kind, promoted}
use Rattle.c_conversions.specs.Kinds.{is_basic}
use Rattle.c_conversions.specs.Parts.{Part, value}
use Rattle.c_conversions.specs.Versions.{pointee, is_pointer, is_compound, is_void, is_scalar, are_versions}
use Rattle.c_expr_rules.specs.Targets.{type_of_part, or_int, basic_in, is_complete}
use Rattle.c_expr_rules.specs.Uses.{has_value}
use Rattle.c_typing_law.specs.TypedParts.{ValueTyped, Leaves}
use Rattle.c_typing_law.specs.WellFormed.{TypeFormed, StructuresFormed}
use Rattle.c_typing_law.proofs.Facts.{both_hold, either_holds, first_holds, second_holds, second_true, not_second}
use Rattle.c_typing_law.proofs.Facts.{unless_not, IsReal, real_in, promoted_real}
use Rattle.c_typing_law.proofs.Facts.{form_number, pointer_form, compound_form, void_form}
use Rattle.c_typing_law.proofs.Laid.{measured}

pub some_same : {A : Type 0} (a c : A) → Some a ≡ Some c → a ≡ c
some_same a c h = cc

-- an expression has the form that its type has
pub has_form : (names : Names) (core : Core) → CoreTyped names core → HasForm (type_in core) (form_of core)
has_form names (At of pos node) typed = typed.0

pub is_number : (f : Form) (kind : _) → f ≡ form.Number kind → IsNumber f
is_number f kind h = let P : Form → Type 0 = IsNumber in subst P (sym h) tt

kinds : List (Option IntKind)
kinds = None ∷ Some k.Bool ∷ Some k.I8 ∷ Some k.I8 ∷ Some k.U8 ∷ Some k.I16 ∷ Some k.U16 ∷ Some k.I32 ∷ Some k.U32
    ∷ Some k.I64 ∷ Some k.U64 ∷ Some k.I64 ∷ Some k.U64 ∷ []

kind_numbered : (basic : Basic) → kind_of basic ≡ slice_index_or kinds (number_of basic) None
unfolding kinds
kind_numbered b.Void = refl
kind_numbered other = refl

pub same_kind : (basic to : Basic) → (number_of basic == number_of to) ≡ true → kind_of basic ≡ kind_of to
same_kind basic to h =
    let e : number_of basic ≡ number_of to = (Decides-eqb (number_of basic) (number_of to)).0 h in
    kind_numbered basic ∙ ap (λ n. slice_index_or kinds n None) e ∙ sym (kind_numbered to)

basic_form_as : (type : CType) (to : Basic) → is_basic type to ≡ true → value_form type ≡ Some (basic_form (kind_of to))
basic_form_as (Plain (BasicType basic) quals) to h = ap (λ kind. Some (basic_form kind)) (same_kind basic to h)
basic_form_as (Plain (Pointer of) quals) to h = cc
basic_form_as (Plain (Enumerated number) quals) to h = cc
basic_form_as (Plain (Function gives parameters variadic) quals) to h = cc
basic_form_as (Plain (Compound number) quals) to h = cc
basic_form_as (Array of len) to h = cc

truth_integer : (type : CType) → is_basic type b.Bool ≡ true → is_integer type ≡ true
truth_integer (Plain (BasicType b.Void) quals) h = cc
truth_integer (Plain (BasicType basic) quals) h = refl
truth_integer (Plain (Enumerated number) quals) h = refl
truth_integer (Plain (Pointer of) quals) h = cc
truth_integer (Plain (Function gives parameters variadic) quals) h = cc
truth_integer (Plain (Compound number) quals) h = cc
truth_integer (Array of len) h = cc

pub pointee_pointer : (type : CType) → is_some (pointee type) ≡ true → is_pointer type ≡ true
pointee_pointer (Plain (Pointer of) quals) h = refl
pointee_pointer (Plain (BasicType basic) quals) h = cc
pointee_pointer (Plain (Enumerated number) quals) h = cc
pointee_pointer (Plain (Function gives parameters variadic) quals) h = cc
pointee_pointer (Plain (Compound number) quals) h = cc
pointee_pointer (Array of len) h = cc

left_form : (f : Form) → (f ≡ form.Nothing → ⊥) → IsLeft f
left_form (form.Number kind) h = tt
left_form form.Pointer h = tt
left_form form.Place h = tt
left_form form.Nothing h = h refl

left_unless_void : (type : CType) (f : Form) → is_void type ≡ false → value_form type ≡ Some f → IsLeft f
left_unless_void (Plain (BasicType b.Void) quals) f h e = cc
left_unless_void (Plain (BasicType basic) quals) f h e = left_form f (λ n. cc)
left_unless_void (Plain (Pointer of) quals) f h e = left_form f (λ n. cc)
left_unless_void (Plain (Enumerated number) quals) f h e = left_form f (λ n. cc)
left_unless_void (Plain (Function gives parameters variadic) quals) f h e = cc
left_unless_void (Plain (Compound number) quals) f h e = left_form f (λ n. cc)
left_unless_void (Array of len) f h e = cc

-- nothing is converted to `void` as if by assignment
converts_unless_void : (type : CType) (part : Part) → converts type part ≡ true → is_void type ≡ false
converts_unless_void (Plain (BasicType b.Void) quals) part h = cc
converts_unless_void (Plain (BasicType basic) quals) part h = refl
converts_unless_void (Plain (Pointer of) quals) part h = refl
converts_unless_void (Plain (Enumerated number) quals) part h = refl
converts_unless_void (Plain (Function gives parameters variadic) quals) part h = refl
converts_unless_void (Plain (Compound number) quals) part h = refl
converts_unless_void (Array of len) part h = refl

pub converted_value : (type : CType) (part : Part) (f : Form) → converts type part ≡ true → value_form type ≡ Some f
    → IsLeft f
converted_value type part f h e = left_unless_void type f (converts_unless_void type part h) e

-- what is a version of a structure or union is one itself
pub compound_version : (number : ℕ) (quals : Quals) (from : CType)
    → are_versions (Plain (Compound number) quals) from ≡ true → value_form from ≡ Some form.Place
unfolding agree bare_agree
compound_version number quals (Plain (Compound other) quals2) h = refl
compound_version number quals (Plain (Pointer of) quals2) h = cc
compound_version number quals (Plain (BasicType basic) quals2) h = cc
compound_version number quals (Plain (Enumerated other) quals2) h = cc
compound_version number quals (Plain (Function gives parameters variadic) quals2) h = cc
compound_version number quals (Array of len) h = cc

module _ (names : Names) (structures : List Structure) where
  abbrev Value : Core → Type 0
  Value core = ValueTyped names structures core

  -- ---- nodes that are values of a type without parts

  -- a number of a basic type
  pub number_node : (basic : Basic) (at : Pos) (node : Node) → IsReal basic
      → node_form node ≡ form.Number (int_kind basic) → NodeTyped names node → Value (At (basic_type basic) at node)
  number_node basic at node real formed typed = record {
    core = (let P : Form → Type 0 = HasForm (basic_type basic) in subst P (sym formed) real, typed);
    type = tt;
    form = ap (λ kind. Some (basic_form kind)) real ∙ ap Some (sym formed);
    whole = refl;
  }

  pointer_has_form : (type : CType) → is_pointer type ≡ true → IsPointer type
  pointer_has_form (Plain (Pointer to) quals) h = tt
  pointer_has_form (Plain (BasicType basic) quals) h = cc
  pointer_has_form (Plain (Enumerated number) quals) h = cc
  pointer_has_form (Plain (Function gives parameters variadic) quals) h = cc
  pointer_has_form (Plain (Compound number) quals) h = cc
  pointer_has_form (Array of len) h = cc

  pointer_whole : (type : CType) (at : Pos) (node : Node) → is_pointer type ≡ true
      → has_value structures (value (At type at node)) ≡ true
  pointer_whole (Plain (Pointer to) quals) at node h = refl
  pointer_whole (Plain (BasicType basic) quals) at node h = cc
  pointer_whole (Plain (Enumerated number) quals) at node h = cc
  pointer_whole (Plain (Function gives parameters variadic) quals) at node h = cc
  pointer_whole (Plain (Compound number) quals) at node h = cc
  pointer_whole (Array of len) at node h = cc

  -- a pointer of a type
  pub pointer_value : (type : CType) (at : Pos) (node : Node) → is_pointer type ≡ true → TypeFormed structures type
      → node_form node ≡ form.Pointer → NodeTyped names node → Value (At type at node)
  pointer_value type at node h formed is typed = record {
    core = (let P : Form → Type 0 = HasForm type in subst P (sym is) (pointer_has_form type h), typed);
    type = formed;
    form = pointer_form type h ∙ ap Some (sym is);
    whole = pointer_whole type at node h;
  }

  -- a structure or union that is a value is complete
  pub whole_complete : (core : Core) → Value core → is_compound (type_in core) ≡ true
      → is_complete (type_in core) structures ≡ true
  whole_complete core v h =
      unless_not (is_compound (type_in core)) (is_complete (type_in core) structures) v.whole h

  -- ---- what a value leaves, by its type

  pub integer_left : (core : Core) → Value core → is_integer (type_in core) ≡ true
      → form_of core ≡ form.Number (int_kind (basic_in (type_in core)))
  integer_left core v h = some_same _ _ (sym v.form ∙ form_number (type_in core) h)

  pub pointer_left : (core : Core) → Value core → is_pointer (type_in core) ≡ true → form_of core ≡ form.Pointer
  pointer_left core v h = some_same _ _ (sym v.form ∙ pointer_form (type_in core) h)

  pub compound_left : (core : Core) → Value core → is_compound (type_in core) ≡ true → form_of core ≡ form.Place
  compound_left core v h = some_same _ _ (sym v.form ∙ compound_form (type_in core) h)

  pub void_left : (core : Core) → Value core → is_void (type_in core) ≡ true → form_of core ≡ form.Nothing
  void_left core v h = some_same _ _ (sym v.form ∙ void_form (type_in core) h)

  -- ---- numbers

  pub record NumberTyped (basic : Basic) (core : Core) : Type 0 where
    pub is : Value core
    pub left : form_of core ≡ form.Number (int_kind basic)

  number_as_by : (to : Basic) (core : Core) → IsReal to → Value core → IsNumber (form_of core) → (is : Bool)
      → (is ≡ true → form_of core ≡ form.Number (int_kind to))
      → NumberTyped to (cond is core (At (basic_type to) (pos_in core) (tree.Convert (int_kind to) core)))
  number_as_by to core real v number true left = record { is = v; left = left refl }
  number_as_by to core real v number false left = record {
    is = number_node to (pos_in core) (tree.Convert (int_kind to) core) real refl (number, v.core);
    left = refl;
  }

  -- an integer in another integer type
  pub number_as_typed : (to : Basic) (core : Core) → IsReal to → Value core → IsNumber (form_of core)
      → NumberTyped to (number_as to core)
  number_as_typed to core real v number =
      number_as_by to core real v number (is_basic (type_in core) to)
      (λ h. some_same _ _ (sym v.form ∙ basic_form_as (type_in core) to h ∙ ap (λ kind. Some (basic_form kind)) real))

  pub integer_number : (core : Core) → Value core → is_integer (type_in core) ≡ true → IsNumber (form_of core)
  integer_number core v h = is_number (form_of core) (int_kind (basic_in (type_in core))) (integer_left core v h)

  promoted_by : (core : Core) (basic : Option Basic) → is_some basic ≡ true
      → promoted_as basic core ≡ number_as (promoted (or_int basic)) core
  promoted_by core None h = cc
  promoted_by core (Some basic) h = refl

  -- the integer promotions
  pub promoted_typed : (core : Core) → Value core → is_integer (type_in core) ≡ true
      → NumberTyped (promoted (basic_in (type_in core))) (promoted_value core)
  promoted_typed core v h =
      let P : Core → Type 0 = NumberTyped (promoted (basic_in (type_in core))) in
      subst P (sym (promoted_by core (integer_in (type_in core)) h))
      (number_as_typed (promoted (basic_in (type_in core))) core (promoted_real (basic_in (type_in core))) v
      (integer_number core v h))

  not_promoted : (core : Core) (basic : Option Basic) → is_some basic ≡ false → promoted_as basic core ≡ core
  not_promoted core None h = refl
  not_promoted core (Some basic) h = cc

  -- what is no integer is not promoted
  pub stays : (core : Core) → is_integer (type_in core) ≡ false → promoted_value core ≡ core
  stays core h = not_promoted core (integer_in (type_in core)) h

  -- ---- truth values

  pub record TruthTyped (core : Core) : Type 0 where
    pub is : Value core
    pub number : IsNumber (form_of core)

  truth_by : (core : Core) → Value core → (is_one : Bool) → (is_one ≡ true → form_of core ≡ form.Pointer)
      → (is_one ≡ false → IsNumber (form_of core))
      → TruthTyped (cond is_one (At (basic_type b.Int) (pos_in core) (tree.NotNull core)) core)
  truth_by core v true pointer number = record {
    is = number_node b.Int (pos_in core) (tree.NotNull core) refl refl (pointer refl, v.core);
    number = tt;
  }
  truth_by core v false pointer number = record { is = v; number = number refl }

  pub truth_typed : (core : Core) → Value core → is_scalar (type_in core) ≡ true → TruthTyped (truth_value core)
  truth_typed core v h =
      truth_by core v (is_pointer (type_in core)) (pointer_left core v)
      (λ none. integer_number core v (not_second (is_integer (type_in core)) (is_pointer (type_in core)) h none))

  -- ---- pointers

  pub record PointerTyped (core : Core) : Type 0 where
    pub is : Value core
    pub left : form_of core ≡ form.Pointer

  pub pointer_node_typed : (type : CType) (at : Pos) (core : Core) → is_pointer type ≡ true
      → TypeFormed structures type → CoreTyped names core → (is_none : Bool)
      → (is_none ≡ false → form_of core ≡ form.Pointer) → PointerTyped (At type at (pointer_node is_none core))
  pointer_node_typed type at core h formed typed true left =
      record { is = pointer_value type at tree.Null h formed refl tt; left = refl }
  pointer_node_typed type at core h formed typed false left =
      record { is = pointer_value type at (tree.Retype core) h formed refl (left refl, typed); left = refl }

  -- a null pointer constant or a pointer as a pointer of a type
  pub pointer_as_typed : (type : CType) (part : Part) → is_pointer type ≡ true → TypeFormed structures type
      → Value part.core → (is_null part ≡ false → is_pointer (type_of_part part) ≡ true)
      → PointerTyped (pointer_as type part)
  pointer_as_typed type part h formed v pointer =
      pointer_node_typed type (pos_in part.core) part.core h formed v.core (is_null part)
      (λ none. pointer_left part.core v (pointer none))

  -- ---- as if by assignment

  pub record AssignedTyped (type : CType) (core : Core) : Type 0 where
    pub is : Value core
    pub left : value_form type ≡ Some (form_of core)

  number_or_same_by : (basic : Option Basic) (core : Core) → is_some basic ≡ true → IsReal (or_int basic)
      → TruthTyped (truth_value core) → NumberTyped (or_int basic) (number_or_same basic core)
  number_or_same_by None core h real v = cc
  number_or_same_by (Some basic) core h real v = number_as_typed basic (truth_value core) real v.is v.number

  pub assigned_number : (type : CType) (core : Core) → is_integer type ≡ true → is_scalar (type_in core) ≡ true
      → Value core → AssignedTyped type (number_or_same (integer_in type) core)
  assigned_number type core h from v =
      let made : NumberTyped (basic_in type) (number_or_same (integer_in type) core) =
      number_or_same_by (integer_in type) core h (real_in type) (truth_typed core v from) in
      record { is = made.is; left = form_number type h ∙ ap Some (sym made.left) }

  pub truth_of : (type from : CType) → is_integer_or_truth type from ≡ true
      → (is_integer type ≡ true) × (is_scalar from ≡ true)
  truth_of type from h = elim (either_holds (is_integer type && is_integer from)
      (is_basic type b.Bool && is_pointer from) h) [
        | inl both ↦ (let parts : (is_integer type ≡ true) × (is_integer from ≡ true) = both_hold _ _ both in
            (parts.0, first_holds (is_integer from) (is_pointer from) parts.1))
        | inr both ↦ (let parts : (is_basic type b.Bool ≡ true) × (is_pointer from ≡ true) = both_hold _ _ both in
            (truth_integer type parts.0, second_holds (is_integer from) (is_pointer from) parts.1))
      ]

  pointer_or_null : (to : CType) (from : Option CType) → pointer_converts to from ≡ true → is_some from ≡ true
  pointer_or_null to None h = cc
  pointer_or_null to (Some from) h = refl

  converted_pointer : (to : CType) (part : Part)
      → (is_null part || pointer_converts to (pointee (type_in part.core))) ≡ true → is_null part ≡ false
      → is_pointer (type_of_part part) ≡ true
  converted_pointer to part h none =
      pointee_pointer (type_in part.core)
      (pointer_or_null to (pointee (type_in part.core))
      (second_true (is_null part) (pointer_converts to (pointee (type_in part.core))) h none))

  -- a null pointer constant or a pointer that is assigned to an object of a pointer type
  pub assigned_pointer_typed : (type : CType) (part : Part) → is_pointer type ≡ true → TypeFormed structures type
      → Value part.core → (is_null part ≡ false → is_pointer (type_of_part part) ≡ true)
      → AssignedTyped type (assigned type part)
  assigned_pointer_typed (Plain (Pointer to) quals) part h formed v pointer =
      let made : PointerTyped (pointer_as (pointer_to to) part) =
      pointer_as_typed (pointer_to to) part refl formed v pointer in
      record { is = made.is; left = ap Some (sym made.left) }
  assigned_pointer_typed (Plain (BasicType basic) quals) part h formed v pointer = cc
  assigned_pointer_typed (Plain (Enumerated number) quals) part h formed v pointer = cc
  assigned_pointer_typed (Plain (Function gives parameters variadic) quals) part h formed v pointer = cc
  assigned_pointer_typed (Plain (Compound number) quals) part h formed v pointer = cc
  assigned_pointer_typed (Array of len) part h formed v pointer = cc

  pub assigned_typed : (type : CType) (part : Part) → TypeFormed structures type → Value part.core
      → converts type part ≡ true → AssignedTyped type (assigned type part)
  assigned_typed (Plain (Pointer to) quals) part formed v h =
      assigned_pointer_typed (Plain (Pointer to) quals) part refl formed v (converted_pointer to part h)
  assigned_typed (Plain (Compound number) quals) part formed v h =
      record { is = v; left = sym (compound_version number quals (type_in part.core) h) ∙ v.form }
  assigned_typed (Plain (BasicType basic) quals) part formed v h =
      let both : (is_integer (Plain (BasicType basic) quals) ≡ true) × (is_scalar (type_in part.core) ≡ true) =
      truth_of (Plain (BasicType basic) quals) (type_in part.core) h in
      assigned_number (Plain (BasicType basic) quals) part.core both.0 both.1 v
  assigned_typed (Plain (Enumerated number) quals) part formed v h =
      let both : (is_integer (Plain (Enumerated number) quals) ≡ true) × (is_scalar (type_in part.core) ≡ true) =
      truth_of (Plain (Enumerated number) quals) (type_in part.core) h in
      assigned_number (Plain (Enumerated number) quals) part.core both.0 both.1 v
  assigned_typed (Plain (Function gives parameters variadic) quals) part formed v h = cc
  assigned_typed (Array of len) part formed v h = cc

  -- ---- arguments

  module _ (formed : StructuresFormed structures) where
    argument_by : (core : Core) (type : CType) → Value core → value_form type ≡ Some (form_of core)
        → IsLeft (form_of core) → (is_one : Bool) → is_compound (type_in core) ≡ is_one
        → Leaves names type (cond is_one
        (At (type_in core) (pos_in core) (tree.ValueObject (size_in (layout_of (type_in core) structures)) core)) core)
    argument_by core type v left is_value true h = record {
      core = (
        (let P : Form → Type 0 = HasForm (type_in core) in
            subst P (compound_left core v h) (has_form names core v.core)),
        (
          (measured structures formed (type_in core) v.type
              (whole_complete core v h)).size,
          compound_left core v h,
          v.core,
        ),
      );
      form = left ∙ ap Some (compound_left core v h);
      value = tt;
    }
    argument_by core type v left is_value false h = record { core = v.core; form = left; value = is_value }

    pub argument_typed : (core : Core) (type : CType) → Value core → value_form type ≡ Some (form_of core)
        → IsLeft (form_of core) → Leaves names type (argument structures core)
    argument_typed core type v left is_value =
        argument_by core type v left is_value (is_compound (type_in core)) refl

  -- ---- values that are not used

  discarded_by : (core : Core) → Value core → (is_one : Bool) → is_void (type_in core) ≡ is_one
      → CoreTyped names (cond is_one core (At void (pos_in core) (tree.Discard core)))
      × (form_of (cond is_one core (At void (pos_in core) (tree.Discard core))) ≡ form.Nothing)
  discarded_by core v true h = (v.core, void_left core v h)
  discarded_by core v false h =
      ((tt, (left_unless_void (type_in core) (form_of core) h v.form, v.core)), refl)

  pub discarded_typed : (core : Core) → Value core
      → CoreTyped names (discarded core) × (form_of (discarded core) ≡ form.Nothing)
  discarded_typed core v = discarded_by core v (is_void (type_in core)) refl
