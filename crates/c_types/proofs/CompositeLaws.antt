-- A composite type is compatible with both types.
use Rattle.std.proofs.Common.{◌≡◌, refl, ap, ◌∙◌}
use Rattle.std.specs.Prelude.{ℕ, Bool, true, false, not, ◌&&◌, ◌||◌, Option, Some, None}
use Rattle.c_types.specs.CType.{CType, CTypes, Bare, Plain, Array, Pointer, Function, Nil, Cons}
use Rattle.c_types.specs.Compatible.{agree, bare_agree, all_agree, same_bool, same_quals, lengths_agree}
use Rattle.c_types.specs.Qualified.{without_quals}
use Rattle.c_types.specs.Composite.{composite_of, bare_composite, all_composites, known_length}
use Rattle.c_types.proofs.Composites.{left_true, right_true, both_true}
use Rattle.c_types.proofs.CompatibleLaws.{own_number, same_bool-own, same_quals-own, lengths-own, either_way}
use Rattle.c_types.proofs.CompatibleLaws.{bare_agree-own}

-- the length that is known agrees with the first
first_length : (m n : Option ℕ) → lengths_agree (known_length m n) m ≡ true
first_length None None = refl
first_length None (Some n) = refl
first_length (Some m) n = own_number m

-- and with the second, where the two agree
second_length : (m n : Option ℕ) → lengths_agree m n ≡ true → lengths_agree (known_length m n) n ≡ true
second_length None n h = lengths-own n
second_length (Some m) n h = h

-- without its outermost qualifiers a type is compatible, where these do not count, with what it was compatible with
agree-without : (a b : CType) → agree (without_quals a) b false ≡ agree a b false
unfolding agree
agree-without (Plain x q) (Plain y r) = refl
agree-without (Array t m) (Array u n) = ap (λ x. lengths_agree m n && x) (agree-without t u)
agree-without (Plain x q) (Array u n) = refl
agree-without (Array t m) (Plain y r) = refl

-- the composite is compatible with the first type
mutual
  unfolding agree bare_agree all_agree composite_of bare_composite all_composites

  pub composite-first : (a b : CType) (strict : Bool) → agree a b strict ≡ true
      → agree (composite_of a b) a strict ≡ true
  composite-first (Plain x q) (Plain y r) strict h =
      both_true _ _ (either_way strict _ (same_quals-own q))
      (bare-first x y (right_true (not strict || same_quals q r) (bare_agree x y) h))
  composite-first (Array t m) (Array u n) strict h =
      both_true _ _ (first_length m n)
      (composite-first t u strict (right_true (lengths_agree m n) (agree t u strict) h))
  composite-first (Plain x q) (Array u n) strict h = cc
  composite-first (Array t m) (Plain y r) strict h = cc

  bare-first : (x y : Bare) → bare_agree x y ≡ true → bare_agree (bare_composite x y) x ≡ true
  bare-first (Pointer t) (Pointer u) h = composite-first t u true h
  bare-first (Function g ps v) (Function g2 qs w) h =
      let front = left_true (agree g g2 true && same_bool v w) (all_agree ps qs) h in
      both_true _ _ (both_true _ _ (composite-first g g2 true (left_true (agree g g2 true) (same_bool v w) front))
      (same_bool-own v)) (all-first ps qs (right_true (agree g g2 true && same_bool v w) (all_agree ps qs) h))
  bare-first x y h = bare_agree-own x

  all-first : (ps qs : CTypes) → all_agree ps qs ≡ true → all_agree (all_composites ps qs) ps ≡ true
  all-first Nil qs h = refl
  all-first (Cons p ps) (Cons q qs) h =
      both_true _ _ (agree-without (composite_of p q) p
      ∙ composite-first p q false (left_true (agree p q false) (all_agree ps qs) h))
      (all-first ps qs (right_true (agree p q false) (all_agree ps qs) h))
  all-first (Cons p ps) Nil h = cc

-- and with the second
mutual
  unfolding agree bare_agree all_agree composite_of bare_composite all_composites

  pub composite-second : (a b : CType) (strict : Bool) → agree a b strict ≡ true
      → agree (composite_of a b) b strict ≡ true
  composite-second (Plain x q) (Plain y r) strict h =
      both_true _ _ (left_true (not strict || same_quals q r) (bare_agree x y) h)
      (bare-second x y (right_true (not strict || same_quals q r) (bare_agree x y) h))
  composite-second (Array t m) (Array u n) strict h =
      both_true _ _ (second_length m n (left_true (lengths_agree m n) (agree t u strict) h))
      (composite-second t u strict (right_true (lengths_agree m n) (agree t u strict) h))
  composite-second (Plain x q) (Array u n) strict h = cc
  composite-second (Array t m) (Plain y r) strict h = cc

  bare-second : (x y : Bare) → bare_agree x y ≡ true → bare_agree (bare_composite x y) y ≡ true
  bare-second (Pointer t) (Pointer u) h = composite-second t u true h
  bare-second (Function g ps v) (Function g2 qs w) h =
      let front = left_true (agree g g2 true && same_bool v w) (all_agree ps qs) h in
      both_true _ _ (both_true _ _ (composite-second g g2 true (left_true (agree g g2 true) (same_bool v w) front))
      (right_true (agree g g2 true) (same_bool v w) front))
      (all-second ps qs (right_true (agree g g2 true && same_bool v w) (all_agree ps qs) h))
  bare-second x y h = h

  all-second : (ps qs : CTypes) → all_agree ps qs ≡ true → all_agree (all_composites ps qs) qs ≡ true
  all-second Nil qs h = h
  all-second (Cons p ps) (Cons q qs) h =
      both_true _ _ (agree-without (composite_of p q) q
      ∙ composite-second p q false (left_true (agree p q false) (all_agree ps qs) h))
      (all-second ps qs (right_true (agree p q false) (all_agree ps qs) h))
  all-second (Cons p ps) Nil h = cc
