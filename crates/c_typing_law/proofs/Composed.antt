-- The composite of two well-formed compatible types is well-formed (6.2.7p3).
use Rattle.std.proofs.Common.{◌≡◌, ℕ, ◌==◌, Bool, true, false, not, ◌||◌, Option, Some, None, is_some, List}
use Rattle.std.proofs.Common.{option_map, refl, sym, ◌∙◌, ap, subst}
use Rattle.std.proofs.lemmas.Bool.Decides.{Decides-eqb}
use Rattle.acc_num.specs.Kinds.{bytes_of}
use Rattle.c_types.specs.declared.basic.Basic.TheVariants as b
use Rattle.c_types.specs.declared.layout.Layout.{Layout}
use Rattle.c_types.specs.CType.{CType, CTypes, Bare, Plain, Array, BasicType, Pointer, Function, Compound, Enumerated}
use Rattle.c_types.specs.CType.{Nil, Cons}
use Rattle.c_types.specs.Compatible.{agree, bare_agree, all_agree, lengths_agree, same_bool, same_quals}
use Rattle.c_types.specs.Composite.{composite_of, bare_composite, all_composites, known_length}
use Rattle.c_types.specs.Layouts.{layout_of, bare_layout, structure_layout, times, scalar}
use Rattle.c_types.specs.Structures.{Structure, structure_at}
use Rattle.c_typing_law.specs.WellFormed.{TypeFormed, BareFormed, TypesFormed, IsElement}
use Rattle.c_typing_law.proofs.Converted.{same_kind}
use Rattle.c_typing_law.proofs.Facts.{both_hold, three_hold}
use Rattle.c_typing_law.proofs.Formed.{without_quals_formed}

element_there : (len : Option ℕ) (element : Option Layout) → IsElement len element → is_some element ≡ true
element_there len None h = absurd h
element_there len (Some element) h = refl

mapped_there : (n : ℕ) (element : Option Layout) → is_some (option_map (times n) element) ≡ true
    → is_some element ≡ true
mapped_there n None h = cc
mapped_there n (Some element) h = refl

same_layout : (structures : List Structure) (bare other : Bare) → bare_agree bare other ≡ true
    → bare_layout bare structures ≡ bare_layout other structures
unfolding bare_agree
same_layout structures (BasicType basic) (BasicType basic2) h =
    ap (option_map (λ kind. scalar (bytes_of kind))) (same_kind basic basic2 h)
same_layout structures (BasicType basic) (Enumerated number) h =
    ap (option_map (λ kind. scalar (bytes_of kind))) (same_kind basic b.Int h)
same_layout structures (Enumerated number) (BasicType basic) h =
    sym (ap (option_map (λ kind. scalar (bytes_of kind))) (same_kind basic b.Int h))
same_layout structures (Enumerated number) (Enumerated number2) h = refl
same_layout structures (Compound number) (Compound number2) h =
    ap (λ n. structure_layout (structure_at structures n)) ((Decides-eqb number number2).0 h)
same_layout structures (Pointer to) (Pointer to2) h = refl
same_layout structures (Function gives parameters variadic) (Function gives2 parameters2 variadic2) h = refl
same_layout structures bare other h = cc

-- two complete types that are compatible have one layout
agreed_layout : (structures : List Structure) (a c : CType) (strict : Bool) → agree a c strict ≡ true
    → is_some (layout_of a structures) ≡ true → is_some (layout_of c structures) ≡ true
    → layout_of a structures ≡ layout_of c structures
unfolding agree
agreed_layout structures (Plain bare quals) (Plain other quals2) strict h a c =
    same_layout structures bare other (both_hold (not strict || same_quals quals quals2) _ h).1
agreed_layout structures (Array of (Some n)) (Array of2 (Some n2)) strict h a c =
    let both : ((n == n2) ≡ true) × (agree of of2 strict ≡ true) = both_hold (n == n2) (agree of of2 strict) h in
    let same : n ≡ n2 = (Decides-eqb n n2).0 both.0 in
    ap (λ len. option_map (times len) (layout_of of structures)) same
    ∙ ap (option_map (times n2))
    (agreed_layout structures of of2 strict both.1 (mapped_there n (layout_of of structures) a)
    (mapped_there n2 (layout_of of2 structures) c))
agreed_layout structures (Array of None) (Array of2 len2) strict h a c = cc
agreed_layout structures (Array of (Some n)) (Array of2 None) strict h a c = cc
agreed_layout structures (Plain bare quals) (Array of2 len2) strict h a c = cc
agreed_layout structures (Array of len) (Plain other quals2) strict h a c = cc

composite_bare_layout : (structures : List Structure) (bare other : Bare)
    → bare_layout (bare_composite bare other) structures ≡ bare_layout bare structures
unfolding bare_composite
composite_bare_layout structures (Pointer to) (Pointer to2) = refl
composite_bare_layout structures (Function gives parameters variadic) (Function gives2 parameters2 variadic2) = refl
composite_bare_layout structures bare other = refl

-- the composite with a complete type has its layout
composite_layout : (structures : List Structure) (a c : CType) → is_some (layout_of a structures) ≡ true
    → layout_of (composite_of a c) structures ≡ layout_of a structures
unfolding composite_of
composite_layout structures (Plain bare quals) (Plain other quals2) h = composite_bare_layout structures bare other
composite_layout structures (Array of (Some n)) (Array of2 len2) h =
    ap (option_map (times n))
    (composite_layout structures of of2 (mapped_there n (layout_of of structures) h))
composite_layout structures (Array of None) (Array of2 len2) h = cc
composite_layout structures (Plain bare quals) (Array of2 len2) h = refl
composite_layout structures (Array of len) (Plain other quals2) h = refl

composite_element : (structures : List Structure) (of of2 : CType) (len len2 : Option ℕ) (strict : Bool)
    → agree of of2 strict ≡ true → IsElement len (layout_of of structures) → IsElement len2 (layout_of of2 structures)
    → IsElement (known_length len len2) (layout_of (composite_of of of2) structures)
composite_element structures of of2 (Some n) len2 strict h a c =
    let P : Option Layout → Type 0 = IsElement (Some n) in
    subst P (sym (composite_layout structures of of2 (element_there (Some n) (layout_of of structures) a))) a
composite_element structures of of2 None len2 strict h a c =
    let there : is_some (layout_of of structures) ≡ true = element_there None (layout_of of structures) a in
    let there2 : is_some (layout_of of2 structures) ≡ true = element_there len2 (layout_of of2 structures) c in
    let P : Option Layout → Type 0 = IsElement len2 in
    subst P (sym (composite_layout structures of of2 there ∙ agreed_layout structures of of2 strict h there there2)) c

module _ (structures : List Structure) where
  mutual
    unfolding agree composite_of

    pub composite_formed : (a c : CType) (strict : Bool) → agree a c strict ≡ true → TypeFormed structures a
        → TypeFormed structures c → TypeFormed structures (composite_of a c)
    composite_formed (Plain bare quals) (Plain other quals2) strict h a c =
        bare_formed bare other (both_hold (not strict || same_quals quals quals2) _ h).1 a c
    composite_formed (Array of len) (Array of2 len2) strict h a c =
        let both : (lengths_agree len len2 ≡ true) × (agree of of2 strict ≡ true) =
        both_hold (lengths_agree len len2) (agree of of2 strict) h in (
          composite_formed of of2 strict both.1 a.0 c.0,
          composite_element structures of of2 len len2 strict both.1 a.1 c.1,
        )
    composite_formed (Plain bare quals) (Array of2 len2) strict h a c = a
    composite_formed (Array of len) (Plain other quals2) strict h a c = a

    bare_formed : (bare other : Bare) → bare_agree bare other ≡ true → BareFormed structures bare
        → BareFormed structures other → BareFormed structures (bare_composite bare other)
    bare_formed (Pointer to) (Pointer to2) h a c = composite_formed to to2 true h a c
    bare_formed (Function gives parameters variadic) (Function gives2 parameters2 variadic2) h a c =
        let all : (agree gives gives2 true ≡ true) × (same_bool variadic variadic2 ≡ true)
        × (all_agree parameters parameters2 ≡ true) = three_hold _ _ _ h in
        (composite_formed gives gives2 true all.0 a.0 c.0, parameters_formed parameters parameters2 all.2 a.1 c.1)
    bare_formed bare other h a c = a

    parameters_formed : (types others : CTypes) → all_agree types others ≡ true → TypesFormed structures types
        → TypesFormed structures others → TypesFormed structures (all_composites types others)
    parameters_formed Nil others h a c = tt
    parameters_formed (Cons first rest) (Cons first2 rest2) h a c =
        let both : (agree first first2 false ≡ true) × (all_agree rest rest2 ≡ true) = both_hold _ _ h in (
          without_quals_formed structures (composite_of first first2)
              (composite_formed first first2 false both.0 a.0 c.0),
          parameters_formed rest rest2 both.1 a.1 c.1,
        )
    parameters_formed (Cons first rest) Nil h a c = a
