-- Structures whose members are placed one after the other.
use Rattle.std.proofs.Common.{◌≡◌, ℕ, ◌+◌, ◌<◌, ◌≤◌, List, [], ◌∷◌, ◌++◌, length, drop, append_assoc, refl, ap, sym}
use Rattle.std.proofs.Common.{◌∙◌, arith, slice_index_or}
use Rattle.std.specs.Prelude.{Bool, true, false, Option, Some, None}
use Rattle.std.proofs.lemmas.List.{drop_more, length-map}
use Rattle.c_types.specs.declared.layout.Layout.{Layout}
use Rattle.c_types.specs.declared.shape.TypeId.{TypeId}
use Rattle.c_types.specs.Types.{Types}
use Rattle.c_types.specs.CType.{type_of}
use Rattle.c_types.specs.Structures.{structures_of}
use Rattle.c_types.specs.Layouts.{layouts_after, end_from, round_up, places_from, places_with, layout_of, layout_and}
use Rattle.c_types.specs.Layouts.{layouts_of}

-- the end is not before any byte on the way to it
pub end_from_ge : (from : ℕ) (layouts : List Layout) → from ≤ end_from from layouts
end_from_ge from [] = omega arith
end_from_ge from (l ∷ ls) = omega (arith, end_from_ge (round_up from l.align + l.size) ls)

-- one more member: the end from the byte behind it is the end
pub end_step : (from : ℕ) (xs : List Layout) (i : ℕ) (d e : Layout) (at size : ℕ) → i < length xs
    → at ≡ round_up from (slice_index_or xs i d).align → size ≡ (slice_index_or xs i d).size
    → end_from from (drop i xs) ≡ end_from (at + size) (drop (i + 1) xs)
end_step from xs i d e at size below a s =
    ap (end_from from) (drop_more xs i d below) ∙ sym (cc (a, s))

-- one more member: its place, and those of the rest
pub places_step : (from : ℕ) (xs : List Layout) (i : ℕ) (d e : Layout) (at size : ℕ) → i < length xs
    → at ≡ round_up from (slice_index_or xs i d).align → size ≡ (slice_index_or xs i d).size
    → places_from from (drop i xs) ≡ at ∷ places_from (at + size) (drop (i + 1) xs)
places_step from xs i d e at size below a s =
    ap (places_from from) (drop_more xs i d below) ∙ sym (cc (a, s))

-- each member has a place
length-places_from : (from : ℕ) (layouts : List Layout) → length (places_from from layouts) ≡ length layouts
length-places_from from [] = refl
length-places_from from (l ∷ ls) = let rest = length-places_from (round_up from l.align + l.size) ls in cc

-- of a structure or union
pub length_places_with : (is_union : Bool) (layouts : List Layout) → length (places_with is_union layouts)
    ≡ length layouts
length_places_with true layouts = length-map layouts (λ l. 0)
length_places_with false layouts = length-places_from 0 layouts

-- each type has a layout
pub length_layouts_of : (types : Types) (ids : List TypeId) (ls : List Layout) → layouts_of types ids ≡ Some ls
    → length ls ≡ length ids
length_layouts_of types [] ls h = grind arith
length_layouts_of types (id ∷ ids) ls h =
    both (layout_of (type_of types id) (structures_of types)) (layouts_of types ids) (length_layouts_of types ids) ls h
  where
    both : (o : Option Layout) (os : Option (List Layout))
        → ((ms : List Layout) → os ≡ Some ms → length ms ≡ length ids) → (ls : List Layout)
        → layout_and o os ≡ Some ls → length ls ≡ length (id ∷ ids)
    both (Some l) (Some ms) rec ls h = let m = rec ms refl in cc
    both (Some l) None rec ls h = cc
    both None os rec ls h = cc

-- the layouts from an index on, where the next type has one
pub layouts_step : (types : Types) (ids : List TypeId) (i : ℕ) (d : TypeId) (l : Layout) → i < length ids →
    layout_of (type_of types (slice_index_or ids i d)) (structures_of types) ≡ Some l →
    layouts_of types (drop i ids) ≡ layout_and (Some l) (layouts_of types (drop (i + 1) ids))
layouts_step types ids i d l below has =
    ap (layouts_of types) (drop_more ids i d below)
    ∙ ap (λ (o : Option Layout). layout_and o (layouts_of types (drop (i + 1) ids))) has

-- a layout before the rest is the last one of those that are found
pub layouts_after-step : (found : List Layout) (l : Layout) (rest : Option (List Layout)) →
    layouts_after found (layout_and (Some l) rest) ≡ layouts_after (found ++ l ∷ []) rest
layouts_after-step found l (Some ls) = ap (λ (x : List Layout). Some x) (sym (append_assoc found (l ∷ []) ls))
layouts_after-step found l None = refl
