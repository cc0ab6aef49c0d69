-- How many parts types have.
use Rattle.std.proofs.Common.{◌≡◌, ℕ, ◌+◌, ◌<◌, ◌≤◌, List, length, drop, refl, ap, arith}
use Rattle.std.proofs.Common.{slice_index_or}
use Rattle.std.proofs.lemmas.List.{drop_more, drop_all}
use Rattle.c_types.specs.declared.shape.Shape.{Shape}
use Rattle.c_types.specs.declared.shape.Shape.TheVariants as s
use Rattle.c_types.specs.declared.shape.Quals.{Quals}
use Rattle.c_types.specs.declared.shape.TypeId.{TypeId}
use Rattle.c_types.specs.Types.{FunctionParts}
use Rattle.c_types.specs.CType.{CType, CTypes, Bare, Plain, Array, BasicType, Pointer, Function, Compound, Enumerated}
use Rattle.c_types.specs.CType.{Nil, Cons, type_at, types_at, type_with}
use Rattle.c_types.specs.PartCount.{part_count, bare_count, all_counts, height, bare_height}
use Rattle.c_types.specs.PartCount.{greatest_height, comparisons, bare_comparisons, all_comparisons}

-- qualifiers are no part
pub same_count : (fs : List FunctionParts) (all : List CType) (shape : Shape) (q r : Quals) →
    part_count (type_with fs all shape q) ≡ part_count (type_with fs all shape r)
same_count fs all (s.Basic basic) q r = refl
same_count fs all (s.Pointer to) q r = refl
same_count fs all (s.Array of len) q r = refl
same_count fs all (s.Function n) q r = refl
same_count fs all (s.Compound n) q r = refl
same_count fs all (s.Enumerated n) q r = refl

-- the parameters from an index on have the parts of the next one, and those of the rest
pub next_counts : (all : List CType) (ids : List TypeId) (i : ℕ) (d : TypeId) → i < length ids →
    all_counts (types_at all (drop i ids))
    ≡ part_count (type_at all (slice_index_or ids i d)) + all_counts (types_at all (drop (i + 1) ids))
next_counts all ids i d below = ap (λ (xs : List TypeId). all_counts (types_at all xs)) (drop_more ids i d below)

-- at the end no parameters are left
pub no_counts : (all : List CType) (ids : List TypeId) (i : ℕ) → length ids ≤ i →
    all_counts (types_at all (drop i ids)) ≡ 0
no_counts all ids i end = ap (λ (xs : List TypeId). all_counts (types_at all xs)) (drop_all i ids end)

-- a type nests no deeper than it has parts
mutual
  pub height_below : (type : CType) → height type ≤ part_count type
  height_below (Plain bare quals) = bare_height_below bare
  height_below (Array of len) = omega (arith, height_below of)

  bare_height_below : (bare : Bare) → bare_height bare ≤ bare_count bare
  bare_height_below (BasicType basic) = omega arith
  bare_height_below (Pointer to) = omega (arith, height_below to)
  bare_height_below (Function gives parameters variadic) =
      omega (arith, height_below gives, greatest_height_below parameters)
  bare_height_below (Compound number) = omega arith
  bare_height_below (Enumerated number) = omega arith

  greatest_height_below : (types : CTypes) → greatest_height types ≤ all_counts types
  greatest_height_below Nil = omega arith
  greatest_height_below (Cons first rest) = omega (arith, height_below first, greatest_height_below rest)

-- a type has a part: itself
bare_some : (bare : Bare) → 1 ≤ bare_count bare
bare_some (BasicType basic) = omega arith
bare_some (Pointer to) = omega arith
bare_some (Function gives parameters variadic) = omega arith
bare_some (Compound number) = omega arith
bare_some (Enumerated number) = omega arith

-- a comparison looks at no more pairs than the first type has parts
mutual
  pub comparisons_below : (a b : CType) → comparisons a b ≤ part_count a
  comparisons_below (Plain x q) (Plain y r) = bare_comparisons_below x y
  comparisons_below (Array t m) (Array u n) = omega (arith, comparisons_below t u)
  comparisons_below (Plain x q) (Array u n) = bare_some x
  comparisons_below (Array t m) (Plain y r) = omega arith

  bare_comparisons_below : (x y : Bare) → bare_comparisons x y + 1 ≤ bare_count x
  bare_comparisons_below (Pointer t) (Pointer u) = omega (arith, comparisons_below t u)
  bare_comparisons_below (Function g ps v) (Function g2 qs w) =
      omega (arith, comparisons_below g g2, all_comparisons_below ps qs)
  bare_comparisons_below x y = omega (arith, bare_some x)

  all_comparisons_below : (ps qs : CTypes) → all_comparisons ps qs ≤ all_counts ps
  all_comparisons_below (Cons p ps) (Cons q qs) = omega (arith, comparisons_below p q, all_comparisons_below ps qs)
  all_comparisons_below Nil qs = omega arith
  all_comparisons_below (Cons p ps) Nil = omega arith
