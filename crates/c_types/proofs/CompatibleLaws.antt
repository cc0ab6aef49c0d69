-- Compatibility is symmetric and reflexive.
use Rattle.std.proofs.Common.{◌≡◌, ℕ, refl, ap, ◌∙◌, arith}
use Rattle.std.specs.Prelude.{Bool, true, false, not, ◌&&◌, ◌||◌, ◌==◌, Option, Some, None}
use Rattle.c_types.specs.declared.shape.Quals.{Quals}
use Rattle.c_types.specs.CType.{CType, CTypes, Bare, Plain, Array, BasicType, Pointer, Function, Compound, Enumerated}
use Rattle.c_types.specs.CType.{Nil, Cons, number_of}
use Rattle.c_types.specs.Compatible.{agree, bare_agree, all_agree, same_bool, same_quals, lengths_agree}

-- equality of numbers doesn't see which comes first
same_number : (m n : ℕ) → (m == n) ≡ (n == m)
same_number m n = grind arith

-- a number is equal to itself
pub own_number : (n : ℕ) → (n == n) ≡ true
own_number n = grind arith

-- nor does equality of truth values
same_bool-sym : (a b : Bool) → same_bool a b ≡ same_bool b a
same_bool-sym true true = refl
same_bool-sym true false = refl
same_bool-sym false true = refl
same_bool-sym false false = refl

-- a truth value is equal to itself
pub same_bool-own : (a : Bool) → same_bool a a ≡ true
same_bool-own true = refl
same_bool-own false = refl

-- two conditions that are equal to two others
both : (a b c d : Bool) → a ≡ c → b ≡ d → (a && b) ≡ (c && d)
both a b c d p q = ap (λ x. x && b) p ∙ ap (λ y. c && y) q

-- the same qualifiers, whichever type comes first
same_quals-sym : (q r : Quals) → same_quals q r ≡ same_quals r q
same_quals-sym q r =
    both _ _ _ _ (both _ _ _ _ (same_bool-sym q.constant r.constant) (same_bool-sym q.volatile r.volatile))
    (same_bool-sym q.restricted r.restricted)

-- a type has its own qualifiers
pub same_quals-own : (q : Quals) → same_quals q q ≡ true
same_quals-own q =
    both _ _ true true (both _ _ true true (same_bool-own q.constant) (same_bool-own q.volatile))
    (same_bool-own q.restricted)

-- lengths that agree, whichever comes first
lengths-sym : (m n : Option ℕ) → lengths_agree m n ≡ lengths_agree n m
lengths-sym None None = refl
lengths-sym None (Some n) = refl
lengths-sym (Some m) None = refl
lengths-sym (Some m) (Some n) = same_number m n

-- a length agrees with itself
pub lengths-own : (m : Option ℕ) → lengths_agree m m ≡ true
lengths-own None = refl
lengths-own (Some m) = own_number m

-- compatible types, whichever comes first
mutual
  unfolding agree bare_agree all_agree

  pub agree-sym : (a b : CType) (strict : Bool) → agree a b strict ≡ agree b a strict
  agree-sym (Plain x q) (Plain y r) strict =
      both _ _ _ _ (ap (λ s. not strict || s) (same_quals-sym q r)) (bare_agree-sym x y)
  agree-sym (Array t m) (Array u n) strict = both _ _ _ _ (lengths-sym m n) (agree-sym t u strict)
  agree-sym (Plain x q) (Array u n) strict = refl
  agree-sym (Array t m) (Plain y r) strict = refl

  bare_agree-sym : (x y : Bare) → bare_agree x y ≡ bare_agree y x
  bare_agree-sym (BasicType a) (BasicType b) = same_number (number_of a) (number_of b)
  bare_agree-sym (Compound m) (Compound n) = same_number m n
  bare_agree-sym (Enumerated m) (Enumerated n) = same_number m n
  bare_agree-sym (Pointer t) (Pointer u) = agree-sym t u true
  bare_agree-sym (Function g ps v) (Function h qs w) =
      both _ _ _ _ (both _ _ _ _ (agree-sym g h true) (same_bool-sym v w)) (all_agree-sym ps qs)
  bare_agree-sym x y = refl

  all_agree-sym : (ps qs : CTypes) → all_agree ps qs ≡ all_agree qs ps
  all_agree-sym Nil Nil = refl
  all_agree-sym (Cons p ps) (Cons q qs) = both _ _ _ _ (agree-sym p q false) (all_agree-sym ps qs)
  all_agree-sym Nil (Cons q qs) = refl
  all_agree-sym (Cons p ps) Nil = refl

-- what holds, holds whether it counts or not
pub either_way : (strict s : Bool) → s ≡ true → (not strict || s) ≡ true
either_way true s e = e
either_way false s e = refl

-- a type is compatible with itself
mutual
  unfolding agree bare_agree all_agree

  pub agree-own : (a : CType) (strict : Bool) → agree a a strict ≡ true
  agree-own (Plain x q) strict = both _ _ true true (either_way strict _ (same_quals-own q)) (bare_agree-own x)
  agree-own (Array t m) strict = both _ _ true true (lengths-own m) (agree-own t strict)

  pub bare_agree-own : (x : Bare) → bare_agree x x ≡ true
  bare_agree-own (BasicType a) = own_number (number_of a)
  bare_agree-own (Compound m) = own_number m
  bare_agree-own (Enumerated m) = own_number m
  bare_agree-own (Pointer t) = agree-own t true
  bare_agree-own (Function g ps v) =
      both _ _ true true (both _ _ true true (agree-own g true) (same_bool-own v)) (all_agree-own ps)

  all_agree-own : (ps : CTypes) → all_agree ps ps ≡ true
  all_agree-own Nil = refl
  all_agree-own (Cons p ps) = both _ _ true true (agree-own p false) (all_agree-own ps)
