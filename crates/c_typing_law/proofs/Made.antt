-- The rules of types make well-formed types, members and structures (6.7.2, 6.7.3, 6.7.6).
use Rattle.std.proofs.Common.{◌≡◌, ℕ, ◌+◌, ◌*◌, ◌^◌, ◌<◌, ◌≤◌, max, ℤ, pos, Bool, true, false, not, ◌||◌, List, []}
use Rattle.std.proofs.Common.{◌∷◌, map, Option, Some, None, is_some, IfSome, Result, Ok, Err, refl, arith}
use Rattle.std.specs.Prelude.{int_lt, int_le, negsuc, unsigned_abs}
use Rattle.std.proofs.lemmas.Int.{ints}
use Rattle.acc_num.specs.Numbers.{InRange}
use Rattle.acc_num.specs.declared.kind.IntKind.TheVariants.{I32}
use Rattle.c_types.specs.declared.basic.Basic.{Basic}
use Rattle.c_types.specs.declared.layout.Layout.{Layout}
use Rattle.c_types.specs.Compounds.{typed_members, structure_with}
use Rattle.c_types.specs.CType.{CType, Plain, Array, BasicType, Pointer, Function, Compound, Enumerated, no_quals}
use Rattle.c_types.specs.Layouts.{layout_of, layout_and, layouts_in, array_layout, largest, round_up, end_from}
use Rattle.c_types.specs.Layouts.{end_with, largest_from, places_from, places_with, size_with, strictest, strictest_from}
use Rattle.c_types.specs.Qualified.{with_quals}
use Rattle.c_types.specs.Structures.{Structure}
use Rattle.c_core.specs.declared.fault.ConstFault.{ConstFault}
use Rattle.c_core.specs.declared.fault.ConstFault.TheVariants.{NotConstant, Value}
use Rattle.c_core.specs.Types.{IsObject}
use Rattle.c_conversions.specs.Kinds.{pointer_to}
use Rattle.c_conversions.specs.Versions.{is_function}
use Rattle.c_type_rules.specs.Arrays.{length_demands, length_rule, is_without_length, is_complete}
use Rattle.c_type_rules.specs.Arrays.{is_layout_small, is_no_incomplete, array_demands}
use Rattle.c_type_rules.specs.Enumerators.{is_int, enumerator_demands, value_or_none, enumerator}
use Rattle.c_type_rules.specs.Functions.{adjusted, parameter_demands, function_demands}
use Rattle.c_type_rules.specs.Members.{is_among, member_demands, body_demands, laid_out}
use Rattle.c_type_rules.specs.Words.{basic_in, basic_named}
use Rattle.c_typing_law.specs.TypedParts.{NamedTyped, IfFits}
use Rattle.c_typing_law.specs.TypesLaw.{AreMembers, GivesType, TypesMade, MembersMade}
use Rattle.c_typing_law.specs.WellFormed.{TypeFormed, IsElement, LayoutFormed, MembersFormed, BodyFormed}
use Rattle.c_typing_law.specs.WellFormed.{StructuresFormed}
use Rattle.c_typing_law.proofs.Facts.{fits_if, both_hold, not_holds, first_of_three_ways}
use Rattle.c_typing_law.proofs.Formed.{with_quals_formed, complete_object}
use Rattle.c_typing_law.proofs.Integers.{le_test, le_holds}
use Rattle.c_typing_law.proofs.Laid.{laid}

-- ---- types

basic_formed : (structures : List Structure) (basic : Option Basic) → GivesType structures (basic_named basic)
basic_formed structures None = tt
basic_formed structures (Some basic) = tt

positive : (n : ℤ) → int_lt (pos 0) n ≡ true → 0 < unsigned_abs n
positive (pos n) h = grind (arith, ints)
positive (negsuc n) h = cc

length_some : (value : Result ℤ ConstFault) → IfFits (length_rule value) (λ n. 0 < n)
length_some (Ok n) =
    fits_if (λ m. 0 < m) (length_demands n) (unsigned_abs n) (λ hold. positive n (both_hold (int_lt (pos 0) n) (int_lt n (pos (2 ^ 64))) hold.0).0)
length_some (Err NotConstant) = tt
length_some (Err Value) = tt

-- what may be an element is complete
element_complete : (structures : List Structure) (of : CType) → is_no_incomplete of structures ≡ true
    → is_without_length of ≡ false → is_function of ≡ false → is_some (layout_of of structures) ≡ true
element_complete structures of h known object =
    first_of_three_ways (is_complete of structures) (is_function of) (is_without_length of) h object known

small_array : (element : Option Layout) (len : Option ℕ) → is_some element ≡ true
    → is_layout_small (array_layout element len) ≡ true → IfSome len (λ n. 0 < n) → IsElement len element
small_array None len there small some = cc
small_array (Some element) None there small some = tt
small_array (Some element) (Some n) there small some = (some, le_test (n * element.size) largest small)

adjusted_formed : (structures : List Structure) (type : CType) → TypeFormed structures type
    → TypeFormed structures (adjusted type)
adjusted_formed structures (Array of len) h = h.0
adjusted_formed structures (Plain (Function gives parameters variadic) quals) h = h
adjusted_formed structures (Plain (BasicType basic) quals) h = h
adjusted_formed structures (Plain (Pointer to) quals) h = h
adjusted_formed structures (Plain (Compound number) quals) h = h
adjusted_formed structures (Plain (Enumerated number) quals) h = h

pub types_made : (structures : List Structure) → TypesMade structures
types_made structures = record {
  basic = λ words. basic_formed structures (basic_in words);
  qualified = with_quals_formed structures;
  pointer = λ quals to h.
      fits_if (TypeFormed structures) ((12, not quals.restricted || not (is_function to)) ∷ [])
      (with_quals quals (pointer_to to))
      (λ hold. with_quals_formed structures quals (pointer_to to) h);
  length = length_some;
  array = λ of length h some.
      fits_if (TypeFormed structures) (array_demands structures of length) (Array of length)
      (λ hold. (
        h,
        small_array (layout_of of structures) length
            (element_complete structures of hold.0 (not_holds (is_without_length of) hold.1.1.0)
            (not_holds (is_function of) hold.1.1.1.0)) hold.1.0 some,
      ));
  parameter = λ type h.
      fits_if (TypeFormed structures) (parameter_demands type) (adjusted type)
      (λ hold. adjusted_formed structures type h);
  function = λ gives parameters variadic may_vary h all.
      fits_if (TypeFormed structures) (function_demands gives variadic may_vary)
      (Plain (Function gives parameters variadic) no_quals) (λ hold. (h, all));
}

-- ---- members and their places

abbrev LayoutsFormed : List Layout → Type 0
LayoutsFormed [] = Unit {0}
LayoutsFormed (first ∷ rest) = LayoutFormed first × LayoutsFormed rest

abbrev PlacesBelow : List ℕ → Type 0
PlacesBelow [] = Unit {0}
PlacesBelow (first ∷ rest) = (first < largest) × PlacesBelow rest

layouts_and : (one : Option Layout) (more : Option (List Layout)) → IfSome one LayoutFormed
    → IfSome more LayoutsFormed → IfSome (layout_and one more) LayoutsFormed
layouts_and None more h hs = tt
layouts_and (Some one) None h hs = tt
layouts_and (Some one) (Some more) h hs = (h, hs)

layouts_laid : (structures : List Structure) → StructuresFormed structures → (types : List CType)
    → AreMembers structures types → IfSome (layouts_in types structures) LayoutsFormed
layouts_laid structures formed [] are = tt
layouts_laid structures formed (type ∷ types) are =
    layouts_and (layout_of type structures) (layouts_in types structures) (laid structures formed type are.0.0)
    (layouts_laid structures formed types are.1)

end_above : (from : ℕ) (ls : List Layout) → from ≤ end_from from ls
end_above from [] = omega arith
end_above from (l ∷ ls) = omega (arith, end_above (round_up from l.align + l.size) ls)

below_end : (place size end : ℕ) → 0 < size → place + size ≤ end → end ≤ largest → place < largest
below_end place size end some within small = omega arith

places_below : (from : ℕ) (ls : List Layout) → LayoutsFormed ls → end_from from ls ≤ largest
    → PlacesBelow (places_from from ls)
places_below from [] h small = tt
places_below from (l ∷ ls) h small = (
  below_end (round_up from l.align) l.size (end_from (round_up from l.align + l.size) ls) h.0.size.0
      (end_above (round_up from l.align + l.size) ls) small,
  places_below (round_up from l.align + l.size) ls h.1 small,
)

none_below : (ls : List Layout) → PlacesBelow (map (λ l. 0) ls)
none_below [] = tt
none_below (l ∷ ls) = (omega arith, none_below ls)

end_within : (is_union : Bool) (ls : List Layout) → end_with is_union ls ≤ size_with is_union ls
end_within is_union ls = omega arith

all_below : (is_union : Bool) (ls : List Layout) → LayoutsFormed ls → size_with is_union ls ≤ largest
    → PlacesBelow (places_with is_union ls)
all_below true ls h small = none_below ls
all_below false ls h small = places_below 0 ls h (omega (arith, end_within false ls))

members_placed : (structures : List Structure) (names : List (List ℕ)) (types : List CType) (places : List ℕ)
    → AreMembers structures types → PlacesBelow places → MembersFormed structures (typed_members names types places)
members_placed structures (name ∷ names) (type ∷ types) (at ∷ places) are below = (
  record { type = are.0.0; is_object = are.0.1; at = below.0 },
  members_placed structures names types places are.1 below.1,
)
members_placed structures (name ∷ names) (type ∷ types) [] are below = tt
members_placed structures (name ∷ names) [] places are below = tt
members_placed structures [] types places are below = tt

largest_above : (size : ℕ) (ls : List Layout) → size ≤ largest_from size ls
largest_above size [] = omega arith
largest_above size (l ∷ ls) = omega (arith, largest_above (max size l.size) ls)

some_end : (is_union : Bool) (l : Layout) (ls : List Layout) → 0 < l.size → 0 < end_with is_union (l ∷ ls)
some_end true l ls some = omega (arith, largest_above (max 0 l.size) ls)
some_end false l ls some = omega (arith, end_above (round_up 0 l.align + l.size) ls)

record Aligned (align : ℕ) : Type 0 where
  pub some : 0 < align
  pub most : align ≤ 8

strictest_aligned : (align : ℕ) (ls : List Layout) → Aligned align → LayoutsFormed ls
    → Aligned (strictest_from align ls)
strictest_aligned align [] a h = a
strictest_aligned align (l ∷ ls) a h =
    strictest_aligned (max align l.align) ls (record { some = omega (arith, a.some); most = omega (arith, a.most, h.0.align) })
    h.1

-- ---- bodies

body_made : (structures : List Structure) (is_union : Bool) (names : List (List ℕ)) (types : List CType) (one : Layout)
    (more : List Layout) → AreMembers structures types → LayoutsFormed (one ∷ more)
    → size_with is_union (one ∷ more) ≤ largest
    → IfSome (structure_with is_union names types (one ∷ more) structures).body (BodyFormed structures)
body_made structures is_union names types one more are h small =
    let a : Aligned (strictest (one ∷ more)) =
    strictest_aligned 1 (one ∷ more) (record { some = omega arith; most = omega arith }) h in
    record {
      members =
          members_placed structures names types (places_with is_union (one ∷ more)) are
          (all_below is_union (one ∷ more) h small);
      layout = record {
        size = (
          omega (arith, some_end is_union one more h.0.size.0, end_within is_union (one ∷ more)),
          small,
        );
        some = a.some;
        align = a.most;
      };
    }

abbrev BodyIn : List Structure → Structure → Type 0
BodyIn structures made = IfSome made.body (BodyFormed structures)

body_by : (structures : List Structure) (is_union : Bool) (names : List (List ℕ)) (types : List CType)
    (one : Option Layout) (more : Option (List Layout)) → AreMembers structures types → IfSome one LayoutFormed
    → IfSome more LayoutsFormed
    → IfFits (laid_out is_union names types structures (layout_and one more)) (BodyIn structures)
body_by structures is_union names types None more are h hs = tt
body_by structures is_union names types (Some one) None are h hs = tt
body_by structures is_union names types (Some one) (Some more) are h hs =
    fits_if (BodyIn structures) (body_demands is_union (one ∷ more))
    (structure_with is_union names types (one ∷ more) structures)
    (λ hold. body_made structures is_union names types one more are (h, hs)
    (le_test (size_with is_union (one ∷ more)) largest hold.0))

in_int : (value : Option ℤ) → is_int value ≡ true → InRange I32 (value_or_none value)
in_int None h = cc
in_int (Some n) h =
    let both : (int_le (negsuc 2147483647) n ≡ true) × (int_le n (pos 2147483647) ≡ true) = both_hold _ _ h in
    record { least = le_holds (negsuc 2147483647) n both.0; greatest = le_holds n (pos 2147483647) both.1 }

pub members_made : (structures : List Structure) → StructuresFormed structures → MembersMade structures
members_made structures formed = record {
  member = λ earlier name type.
      fits_if (λ (done : Unit {0}). IsObject type) (member_demands structures (is_among name earlier) type) tt
      (λ hold. complete_object structures type
      (element_complete structures type hold.0 (not_holds (is_without_length type) hold.1.0)
      (not_holds (is_function type)
      (both_hold (not (is_function type)) (not (is_among name earlier)) hold.1.1.0).0)));
  body = λ is_union names first rest are.
      body_by structures is_union names (first ∷ rest) (layout_of first structures) (layouts_in rest structures) are
      (laid structures formed first are.0.0) (layouts_laid structures formed rest are.1);
  enumerator = λ names here value.
      fits_if (λ n. NamedTyped names structures (enumerator n)) (enumerator_demands here value) (value_or_none value)
      (λ hold. (refl, in_int value hold.1.0));
}
