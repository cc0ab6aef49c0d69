-- The composite of compatible types: its layout, and its parameters from the front.
use Rattle.std.proofs.Common.{◌≡◌, ℕ, zero, suc, ◌+◌, ◌<◌, List, [], ◌∷◌, ◌++◌, length, take, refl, ap, sym, subst}
use Rattle.std.proofs.Common.{◌∙◌, arith, slice_index_or}
use Rattle.std.specs.Prelude.{Bool, true, false, ◌&&◌, ◌==◌, Option, Some, None, IsSome, option_map}
use Rattle.c_types.specs.declared.layout.Layout.{Layout}
use Rattle.c_types.specs.declared.basic.Basic.{Basic}
use Rattle.c_types.specs.declared.basic.Basic.TheVariants as b
use Rattle.c_types.specs.declared.parts.Made.{Made}
use Rattle.c_types.specs.declared.shape.Shape.TheVariants as s
use Rattle.c_types.specs.declared.shape.TypeId.{TypeId}
use Rattle.c_types.specs.Structures.{Structure, structure_at}
use Rattle.c_types.specs.CType.{CType, CTypes, Bare, Plain, Array, BasicType, Pointer, Function, Compound, Enumerated}
use Rattle.c_types.specs.CType.{Nil, Cons, type_at, types_at, number_of, void}
use Rattle.c_types.specs.Layouts.{layout_of, bare_layout, basic_layout, structure_layout, scalar, times}
use Rattle.c_types.specs.Compatible.{agree, bare_agree, all_agree, lengths_agree}
use Rattle.c_types.specs.Qualified.{without_quals}
use Rattle.c_types.specs.Composite.{composite_of, bare_composite, all_composites}
use Rattle.c_types.specs.Inner.{KeepsLayout, basics}
use Rattle.c_types.specs.Shapes.{no_entry}
use Rattle.c_types.proofs.Fresh.{first_entry}

-- of two conditions that hold, the first
pub left_true : (a b : Bool) → (a && b) ≡ true → a ≡ true
left_true true b h = refl
left_true false b h = h

-- and the second
pub right_true : (a b : Bool) → (a && b) ≡ true → b ≡ true
right_true true b h = h
right_true false b h = cc

-- two conditions that hold
pub both_true : (a b : Bool) → a ≡ true → b ≡ true → (a && b) ≡ true
both_true a b p q = ap (λ x. x && b) p ∙ q

-- types that are compatible are so without their outermost qualifiers
pub agree-loose : (a b : CType) → agree a b true ≡ true → agree a b false ≡ true
unfolding agree
agree-loose (Plain x q) (Plain y r) h = right_true _ _ h
agree-loose (Array t m) (Array u n) h =
    both_true _ _ (left_true _ _ h) (agree-loose t u (right_true _ _ h))
agree-loose (Plain x q) (Array u n) h = h
agree-loose (Array t m) (Plain y r) h = h

-- an array of elements that have the layout of others has the layout of an array of those
repeated_layout : (n : ℕ) (o p : Option Layout) (l : Layout) → ((k : Layout) → o ≡ Some k → p ≡ Some k)
    → option_map (times n) o ≡ Some l → option_map (times n) p ≡ Some l
repeated_layout n None p l h e = cc
repeated_layout n (Some k) p l h e = ap (option_map (times n)) (h k refl) ∙ e

-- the composite has the layout of the first type, where that has one
layout-first : (a b : CType) (cs : List Structure) (l : Layout) → layout_of a cs ≡ Some l
    → layout_of (composite_of a b) cs ≡ Some l
unfolding composite_of bare_composite
layout-first (Plain (Pointer t) q) (Plain (Pointer u) r) cs l h = h
layout-first (Plain (Function g ps v) q) (Plain (Function g2 qs w) r) cs l h = h
layout-first (Plain x q) (Plain y r) cs l h = h
layout-first (Array t None) (Array u n) cs l h = cc
layout-first (Array t (Some m)) (Array u n) cs l h =
    repeated_layout m (layout_of t cs) _ l (λ k e. layout-first t u cs k e) h
layout-first (Plain x q) (Array u n) cs l h = h
layout-first (Array t m) (Plain y r) cs l h = h

-- numbers that are found equal
equal : (m n : ℕ) → (m == n) ≡ true → m ≡ n
equal m n h = grind (arith, h)

-- a basic type has the layout that is kept in its place
basic_layout-number : (a : Basic) → basic_layout a ≡ (slice_index_or basics (number_of a) no_entry).layout
basic_layout-number a = sym (ap (λ (m : Made). m.layout) (first_entry a))

-- basic types of one number have one layout
same_basic_layout : (a b : Basic) → number_of a ≡ number_of b → basic_layout a ≡ basic_layout b
same_basic_layout a b h =
    basic_layout-number a ∙ ap (λ n. (slice_index_or basics n no_entry).layout) h ∙ sym (basic_layout-number b)

-- `int` has the layout of an enumerated type
int_layout : (a : Basic) → number_of a ≡ 7 → basic_layout a ≡ Some (scalar 4)
int_layout a h = same_basic_layout a b.Int h

-- compatible types without their qualifiers: the composite has the layout of the second
bare_second : (x y : Bare) (cs : List Structure) → bare_agree x y ≡ true
    → bare_layout (bare_composite x y) cs ≡ bare_layout y cs
unfolding bare_agree bare_composite
bare_second (BasicType a) (BasicType b) cs h = same_basic_layout a b (equal _ _ h)
bare_second (BasicType a) (Enumerated n) cs h = int_layout a (equal _ _ h)
bare_second (Enumerated n) (BasicType a) cs h = sym (int_layout a (equal _ _ h))
bare_second (Enumerated m) (Enumerated n) cs h = refl
bare_second (Compound m) (Compound n) cs h = ap (λ k. structure_layout (structure_at cs k)) (equal _ _ h)
bare_second (Pointer t) (Pointer u) cs h = refl
bare_second (Function g ps v) (Function g2 qs w) cs h = refl
bare_second x y cs h = cc

-- the composite has the layout of the second type, where that has one
layout-second : (a b : CType) (cs : List Structure) (l : Layout) → agree a b false ≡ true → layout_of b cs ≡ Some l
    → layout_of (composite_of a b) cs ≡ Some l
unfolding agree composite_of
layout-second (Plain x q) (Plain y r) cs l g h = bare_second x y cs g ∙ h
layout-second (Array t m) (Array u None) cs l g h = cc
layout-second (Array t None) (Array u (Some n)) cs l g h =
    repeated_layout n (layout_of u cs) _ l
    (λ k e. layout-second t u cs k (right_true (lengths_agree None (Some n)) _ g) e) h
layout-second (Array t (Some m)) (Array u (Some n)) cs l g h =
    ap (λ i. option_map (times i) (layout_of (composite_of t u) cs))
    (equal m n (left_true (m == n) (agree t u false) g))
    ∙ repeated_layout n (layout_of u cs) _ l
    (λ k e. layout-second t u cs k (right_true (m == n) (agree t u false) g) e) h
layout-second (Plain x q) (Array u n) cs l g h = cc
layout-second (Array t m) (Plain y r) cs l g h = cc

-- an array that has a layout has elements that have one
some_layout : (n : ℕ) (o : Option Layout) → IsSome (option_map (times n) o) → (l : Layout) × (o ≡ Some l)
some_layout n None h = absurd (cc)
some_layout n (Some l) h = (l, refl)

-- an array with the length of the first has its layout
keeps-some : (of of2 : TypeId) (n : ℕ) (kept : Option Layout) (t u v : CType) (cs cs2 : List Structure)
    → KeepsLayout (s.Array of (Some n)) kept (Array t (Some n)) cs → v ≡ composite_of t u → cs2 ≡ cs
    → KeepsLayout (s.Array of2 (Some n)) kept (Array v (Some n)) cs2
keeps-some of of2 n kept t u v cs cs2 k e same =
    let l = some_layout n (layout_of t cs) (subst IsSome k.layout k.own) in
    let first : layout_of v cs2 ≡ layout_of t cs =
    ap (λ (x : CType). layout_of x cs2) e ∙ ap (layout_of (composite_of t u)) same ∙ layout-first t u cs l.0 l.1
    ∙ sym l.1 in
    record { layout = k.layout ∙ sym (ap (option_map (times n)) first); own = k.own }

-- the same, by the length that is given
pub keeps-first : (of of2 : TypeId) (len : Option ℕ) (n : ℕ) (kept : Option Layout) (t u v : CType)
    (cs cs2 : List Structure) → len ≡ Some n → KeepsLayout (s.Array of len) kept (Array t len) cs
    → v ≡ composite_of t u → cs2 ≡ cs → KeepsLayout (s.Array of2 len) kept (Array v len) cs2
keeps-first of of2 None n kept t u v cs cs2 is k e same = record { layout = k.layout; own = tt }
keeps-first of of2 (Some m) n kept t u v cs cs2 is k e same = keeps-some of of2 m kept t u v cs cs2 k e same

-- an array that has the length of the second, where the first has none, has the layout of the second
pub keeps-second : (of of2 : TypeId) (n : Option ℕ) (kept : Option Layout) (t u v : CType) (cs cs2 : List Structure)
    → agree t u false ≡ true → KeepsLayout (s.Array of n) kept (Array u n) cs → v ≡ composite_of t u → cs2 ≡ cs
    → KeepsLayout (s.Array of2 n) kept (Array v n) cs2
keeps-second of of2 None kept t u v cs cs2 g k e same = record { layout = k.layout; own = tt }
keeps-second of of2 (Some n) kept t u v cs cs2 g k e same =
    let l = some_layout n (layout_of u cs) (subst IsSome k.layout k.own) in
    let second : layout_of v cs2 ≡ layout_of u cs =
    ap (λ (x : CType). layout_of x cs2) e ∙ ap (layout_of (composite_of t u)) same ∙ layout-second t u cs l.0 g l.1
    ∙ sym l.1 in
    record { layout = k.layout ∙ sym (ap (option_map (times n)) second); own = k.own }

-- lists of parameters that agree have one length
pub same_lengths : (all : List CType) (xs ys : List TypeId) → all_agree (types_at all xs) (types_at all ys) ≡ true
    → length xs ≡ length ys
unfolding all_agree
same_lengths all [] [] h = refl
same_lengths all [] (y ∷ ys) h = cc
same_lengths all (x ∷ xs) [] h = cc
same_lengths all (x ∷ xs) (y ∷ ys) h = ap (λ n. suc n) (same_lengths all xs ys (right_true _ _ h))

-- at each index the parameters agree
pub agree_at : (all : List CType) (xs ys : List TypeId) (i : ℕ) (d e : TypeId)
    → all_agree (types_at all xs) (types_at all ys) ≡ true → i < length xs
    → agree (type_at all (slice_index_or xs i d)) (type_at all (slice_index_or ys i e)) false ≡ true
unfolding all_agree
agree_at all [] ys i d e h p = absurd (omega (arith, p))
agree_at all (x ∷ xs) [] i d e h p = cc
agree_at all (x ∷ xs) (y ∷ ys) zero d e h p = left_true _ _ h
agree_at all (x ∷ xs) (y ∷ ys) (suc i) d e h p = agree_at all xs ys i d e (right_true _ _ h) (omega (arith, p))

abbrev first_type : CTypes → CType
first_type Nil = void
first_type (Cons first rest) = first

abbrev rest_of : CTypes → CTypes
rest_of Nil = Nil
rest_of (Cons first rest) = rest

-- the next parameter has its composite
next_after : (all new : List CType) (made xs ys : List TypeId) (i : ℕ) (d e m : TypeId) → i < length xs
    → i < length ys → types_at new made ≡ all_composites (types_at all (take i xs)) (types_at all (take i ys))
    → type_at new m
    ≡ without_quals (composite_of (type_at all (slice_index_or xs i d)) (type_at all (slice_index_or ys i e)))
    → types_at new (made ++ m ∷ []) ≡ all_composites (types_at all (take (suc i) xs)) (types_at all (take (suc i) ys))
unfolding all_composites
next_after all new made [] ys i d e m p q given next = absurd (omega (arith, p))
next_after all new made (x ∷ xs) [] i d e m p q given next = absurd (omega (arith, q))
next_after all new [] (x ∷ xs) (y ∷ ys) zero d e m p q given next = ap (λ t. Cons t Nil) next
next_after all new (z ∷ made) (x ∷ xs) (y ∷ ys) zero d e m p q given next = cc
next_after all new [] (x ∷ xs) (y ∷ ys) (suc i) d e m p q given next = cc
next_after all new (z ∷ made) (x ∷ xs) (y ∷ ys) (suc i) d e m p q given next =
    ap (λ t. Cons t (types_at new (made ++ m ∷ []))) (ap first_type given)
    ∙ ap (Cons (without_quals (composite_of (type_at all x) (type_at all y))))
    (next_after all new made xs ys i d e m (omega (arith, p)) (omega (arith, q)) (ap rest_of given) next)

-- the same, as the loop counts
pub next_composite : (all new : List CType) (made xs ys : List TypeId) (i : ℕ) (d e m : TypeId) → i < length xs
    → i < length ys → types_at new made ≡ all_composites (types_at all (take i xs)) (types_at all (take i ys))
    → type_at new m
    ≡ without_quals (composite_of (type_at all (slice_index_or xs i d)) (type_at all (slice_index_or ys i e)))
    → types_at new (made ++ m ∷ []) ≡ all_composites (types_at all (take (i + 1) xs)) (types_at all (take (i + 1) ys))
next_composite all new made xs ys i d e m p q given next =
    let more : suc i ≡ i + 1 = omega arith in
    subst (λ k. types_at new (made ++ m ∷ [])
    ≡ all_composites (types_at all (take k xs)) (types_at all (take k ys))) more
    (next_after all new made xs ys i d e m p q given next)
