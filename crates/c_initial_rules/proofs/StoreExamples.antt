-- Constants, literals and parts of objects on either side of each constraint.
use Rattle.std.proofs.Common.{◌≡◌, ℕ, List, [], ◌∷◌, true, false, refl}
use Rattle.std.specs.Prelude.{pos, negsuc, Bool, Option, Some, None, codes}
use Rattle.acc_num.specs.declared.kind.IntKind.TheVariants as kind
use Rattle.acc_num.specs.Operations.{converted_to}
use Rattle.critical_table.specs.declared.pos.Pos.{Pos}
use Rattle.c_types.specs.declared.basic.Basic.TheVariants as b
use Rattle.c_types.specs.CType.{CType, Array, Plain, Compound, no_quals}
use Rattle.c_types.specs.Compatible.{agree, bare_agree}
use Rattle.c_types.specs.Structures.{Structure, TypedMember}
use Rattle.c_core.specs.declared.named.ObjectName.TheVariants as object
use Rattle.c_core.specs.declared.form.Scalar.TheVariants as scalar
use Rattle.c_core.specs.Tree.{Core, At}
use Rattle.c_core.specs.Tree as tree
use Rattle.c_core.specs.TreeUnit.{StaticNumber}
use Rattle.c_scopes.specs.Ruled.{Fits, Breaks}
use Rattle.c_conversions.specs.Kinds.{basic_type, pointer_to}
use Rattle.c_conversions.specs.Parts.{value}
use Rattle.c_initial_rules.specs.declared.addresses.PointerConstant.{PointerConstant}
use Rattle.c_initial_rules.specs.declared.addresses.PointerConstant.TheVariants as p
use Rattle.c_initial_rules.specs.Addresses.{pointer_constant}
use Rattle.c_initial_rules.specs.Initials.{Fixed, item_rule}
use Rattle.c_initial_rules.specs.Literals.{literal_fit_rule, literal_bytes, suits_array}
use Rattle.c_initial_rules.specs.Parts.{part_of, next_part, index_rule, member_rule}

abbrev at : ℕ → Pos
at column = record { line = 1; column = column }

abbrev int : CType
int = basic_type b.Int

abbrev ints : ℕ → CType
ints count = Array int (Some count)

-- the static object x of column 5
abbrev static_x : CType → Core
static_x type = At type (at 9) (tree.Object (object.Static (at 5)))

abbrev number : Core
number = At int (at 11) (tree.Number kind.I32 (pos 3))

-- x as a pointer to its first element, where x is an array of ints with that many bytes
abbrev first : ℕ → CType → Core
first bytes type = At (pointer_to int) (at 9) (tree.Narrow bytes (static_x type))

abbrev further : Core → Core
further pointer = At (pointer_to int) (at 10) (tree.Step (record { size = 4; back = false }) false pointer number)

abbrev constant_in : Core → Option PointerConstant
constant_in core = pointer_constant [] core

-- ---- addresses

-- x + 3 of int x[3]: its end
end_of_array : constant_in (further (first 12 (ints 3))) ≡ Some (p.Address (record {
  object = at 5;
  offset = 12;
  bounds = Some (record { low = 0; high = 12 });
}))
end_of_array = refl

-- x + 3 of int x[2]
beyond_array : constant_in (further (first 8 (ints 2))) ≡ None
beyond_array = refl

-- &x of an object of the unit
whole_object : constant_in (At (pointer_to int) (at 8) (tree.AddressOf (static_x int)))
    ≡ Some (p.Address (record { object = at 5; offset = 0; bounds = None }))
whole_object = refl

-- x + 3 of extern int x[]
unknown_length : constant_in (further (At (pointer_to int) (at 9) (tree.AddressOf (static_x (Array int None))))) ≡ None
unknown_length = refl

-- &x of an object of a block
automatic : constant_in (At (pointer_to int) (at 8) (tree.AddressOf (At int (at 9) (tree.Object (object.Slot 0)))))
    ≡ None
automatic = refl

-- the value of x
loaded : constant_in (At (pointer_to int) (at 9) (tree.Load scalar.Pointer (static_x (pointer_to int)))) ≡ None
loaded = refl

-- ---- items

-- static int x = 3;
fixed_number : item_rule [] true false (Some int) (value number) ≡ Fits (Fixed (StaticNumber kind.I32 (pos 3)))
unfolding converted_to
fixed_number = refl

-- static int *x = 3; and an item too many
no_conversion : item_rule [] true false (Some (pointer_to int)) (value number) ≡ Breaks 30
no_conversion = refl

too_many : item_rule [] false true None (value number) ≡ Breaks 17
too_many = refl

-- int x[3] = 3;
array_by_number : item_rule [] false false (Some (ints 3)) (value number) ≡ Breaks 17
array_by_number = refl

-- struct s x = 3; and the same for a member of a list, where braces are left out
structure_by_number : item_rule [] false false (Some (Plain (Compound 0) no_quals)) (value number) ≡ Breaks 30
unfolding agree
structure_by_number = refl

braces_left_out : item_rule [] false true (Some (Plain (Compound 0) no_quals)) (value number) ≡ Breaks 17
unfolding agree
braces_left_out = refl

-- ---- literals

null_left_off : literal_fit_rule (Some 2) 2 ≡ Fits false
null_left_off = refl

null_stored : literal_fit_rule (Some 3) 2 ≡ Fits true
null_stored = refl

too_long : literal_fit_rule (Some 1) 2 ≡ Breaks 17
too_long = refl

narrow_bytes : literal_bytes false ((pos 97 ∷ negsuc 0 ∷ []) ∷ (pos 98 ∷ []) ∷ []) true ≡ 97 ∷ 255 ∷ 98 ∷ 0 ∷ []
narrow_bytes = refl

wide_bytes : literal_bytes true ((negsuc 1 ∷ []) ∷ []) false ≡ 254 ∷ 255 ∷ 255 ∷ 255 ∷ []
wide_bytes = refl

-- int x[] = L"a"; but not unsigned x[] = L"a"
wide_for_int : suits_array true (ints 2) ≡ true
unfolding agree bare_agree
wide_for_int = refl

wide_for_unsigned : suits_array true (Array (basic_type b.UInt) None) ≡ false
unfolding agree bare_agree
wide_for_unsigned = refl

-- ---- parts

abbrev member : List ℕ → ℕ → TypedMember
member name place = record { name = name; of = int; at = place }

abbrev two : List TypedMember
two = member (codes "a") 0 ∷ member (codes "b") 4 ∷ []

abbrev whole : Bool → List Structure
whole is_union = record {
  is_union = is_union;
  body = Some (record { members = two; layout = record { size = 8; align = 4 }; has_const = false });
} ∷ []

abbrev compound : CType
compound = Plain (Compound 0) no_quals

second_element : part_of [] (ints 2) 8 1 ≡ Some (record { type = int; at = 12 })
second_element = refl

no_third_element : part_of [] (ints 2) 8 2 ≡ None
no_third_element = refl

second_member : part_of (whole false) compound 8 (next_part (whole false) compound 0)
    ≡ Some (record { type = int; at = 12 })
second_member = refl

no_second_of_union : part_of (whole true) compound 8 (next_part (whole true) compound 0) ≡ None
no_second_of_union = refl

named_member : member_rule (whole false) compound (codes "b") ≡ Fits 1
named_member = refl

no_member : member_rule (whole false) compound (codes "c") ≡ Breaks 17
no_member = refl

no_member_of_array : member_rule (whole false) (ints 2) (codes "a") ≡ Breaks 17
no_member_of_array = refl

index_inside : index_rule (ints 2) (Some (pos 1)) ≡ Fits 1
index_inside = refl

index_beyond : index_rule (ints 2) (Some (pos 2)) ≡ Breaks 17
index_beyond = refl

index_below : index_rule (Array int None) (Some (negsuc 0)) ≡ Breaks 17
index_below = refl

no_element_of_structure : index_rule compound (Some (pos 0)) ≡ Breaks 17
no_element_of_structure = refl
