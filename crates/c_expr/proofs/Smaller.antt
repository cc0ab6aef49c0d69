-- A part of a list of trees is smaller than the list.
use Rattle.std.proofs.Common.{◌≡◌, ℕ, zero, suc, ◌+◌, ◌<◌, List, [], ◌∷◌, length, get_or, map, refl, sym, subst, arith}
use Rattle.c_syntax.specs.declared.declarator.Declarator as d
use Rattle.c_syntax.specs.declared.specifier.Enumerator as n
use Rattle.c_syntax.specs.declared.specifier.MemberDeclaration as m
use Rattle.c_syntax.specs.declared.specifier.Specifier as s
use Rattle.c_syntax.specs.View.{declarator_of, declarators, enumerator_of, enumerators, member_of, members}
use Rattle.c_syntax.specs.View.{specifier_of}
use Rattle.c_syntax.specs.View.{specifiers, specifiers_of}
use Rattle.c_expr.proofs.Size.{declarator_size, declarators_size, enumerator_size, enumerators_size, member_size}
use Rattle.c_expr.proofs.Size.{members_size, specifier_size, specifiers_size}

module _ {A B C : Type 0} (row : List B → C) (f : A → B) (size : B → ℕ) (row_size : C → ℕ)
    (adds : (first : B) (rest : List B) → row_size (row (first ∷ rest)) ≡ size first + row_size (row rest) + 1) where
  within : (list : List A) (i : ℕ) (d : A) → i < length list → size (f (get_or list i d)) < row_size (row (map f list))
  within [] i d h = absurd (omega (arith, h))
  within (first ∷ rest) zero d h = let e = adds (f first) (map f rest) in omega (arith, e)
  within (first ∷ rest) (suc i) d h =
      let e = adds (f first) (map f rest) in
      let below : i < length rest = omega (arith, h) in
      let inner = within rest i d below in
      omega (arith, e, inner)

  smaller : (list : List A) (i : ℕ) (x : A) → i < length list → x ≡ get_or list i x
      → size (f x) < row_size (row (map f list))
  smaller list i x h e = subst (λ (y : A). size (f y) < row_size (row (map f list))) (sym e) (within list i x h)

-- of each kind, the part at an index
pub specifier_smaller : (list : List s.Specifier) (i : ℕ) (x : s.Specifier) → i < length list → x ≡ get_or list i x
    → specifier_size (specifier_of x) < specifiers_size (specifiers_of list)
specifier_smaller = smaller specifiers specifier_of specifier_size specifiers_size (λ first rest. refl)

pub member_smaller : (list : List m.MemberDeclaration) (i : ℕ) (x : m.MemberDeclaration) → i < length list
    → x ≡ get_or list i x → member_size (member_of x) < members_size (members (map member_of list))
member_smaller = smaller members member_of member_size members_size (λ first rest. refl)

pub declarator_smaller : (list : List d.Declarator) (i : ℕ) (x : d.Declarator) → i < length list
    → x ≡ get_or list i x
    → declarator_size (declarator_of x) < declarators_size (declarators (map declarator_of list))
declarator_smaller = smaller declarators declarator_of declarator_size declarators_size (λ first rest. refl)

pub enumerator_smaller : (list : List n.Enumerator) (i : ℕ) (x : n.Enumerator) → i < length list
    → x ≡ get_or list i x
    → enumerator_size (enumerator_of x) < enumerators_size (enumerators (map enumerator_of list))
enumerator_smaller = smaller enumerators enumerator_of enumerator_size enumerators_size (λ first rest. refl)
