-- A stack more.
use Rattle.std.proofs.Common.{◌≡◌, ◌≢◌, ◌⊎◌, inl, inr, ℕ, zero, suc, ◌+◌, ◌*◌, ◌<◌, List, [], ◌∷◌, ◌++◌, length}
use Rattle.std.proofs.Common.{◌==◌, if◌then◌else◌, Bool, true, false, slice_get, slice_set, Option, Some, None, refl}
use Rattle.std.proofs.Common.{sym, ap, ◌∙◌, subst}
use Rattle.std.proofs.Common.{arith, unwrap_or, length-append, length-set}
use Rattle.acc_num.specs.declared.kind.IntKind.TheVariants as k
use Rattle.c_core.specs.declared.form.Scalar.{Scalar}
use Rattle.c_core.specs.declared.form.Scalar.TheVariants.{Number, Pointer}
use Rattle.vm_code.specs.OperandKinds.{Kinds}
use Rattle.operand_stacks.specs.declared.stacks.Node.{Node}
use Rattle.operand_stacks.specs.Stacks.{stack_at, stacks_behind, kind_number, AreStacks}
use Rattle.operand_stacks.proofs.ListPlaces.{is_within, from_both, stands_on, stands_behind, set_other, set_same}
use Rattle.operand_stacks.proofs.StackNumbers.{Nodes, Are, one_behind, count_is, number_there}
use Rattle.operand_stacks.proofs.StackNumbers.{get_last, length_last}

pub kind_below : (kind : Scalar) → kind_number kind < 10
kind_below Pointer = omega arith
kind_below (Number k.Bool) = omega arith
kind_below (Number k.I8) = omega arith
kind_below (Number k.U8) = omega arith
kind_below (Number k.I16) = omega arith
kind_below (Number k.U16) = omega arith
kind_below (Number k.I32) = omega arith
kind_below (Number k.U32) = omega arith
kind_below (Number k.I64) = omega arith
kind_below (Number k.U64) = omega arith

abbrev kind_numbered : ℕ → Scalar
kind_numbered n =
    if n == 0 then Pointer else
    if n == 1 then Number k.Bool else
    if n == 2 then Number k.I8 else
    if n == 3 then Number k.U8 else
    if n == 4 then Number k.I16 else
    if n == 5 then Number k.U16 else
    if n == 6 then Number k.I32 else
    if n == 7 then Number k.U32 else
    if n == 8 then Number k.I64 else
    Number k.U64

numbered_back : (kind : Scalar) → kind_numbered (kind_number kind) ≡ kind
numbered_back Pointer = refl
numbered_back (Number k.Bool) = refl
numbered_back (Number k.I8) = refl
numbered_back (Number k.U8) = refl
numbered_back (Number k.I16) = refl
numbered_back (Number k.U16) = refl
numbered_back (Number k.I32) = refl
numbered_back (Number k.U32) = refl
numbered_back (Number k.I64) = refl
numbered_back (Number k.U64) = refl

same_kind : (a b : Scalar) → kind_number a ≡ kind_number b → a ≡ b
same_kind a b same = sym (numbered_back a) ∙ ap kind_numbered same ∙ numbered_back b

-- a place among those above the stacks is one kind above one stack
same_place : (a b m n : ℕ) → m < 10 → n < 10 → 10 * a + m ≡ 10 * b + n → (a ≡ b) × (m ≡ n)
same_place a b m n lt less same = (omega (arith, lt, less, same), omega (arith, lt, less, same))

abbrev pub ten : List ℕ
ten = 0 ∷ 0 ∷ 0 ∷ 0 ∷ 0 ∷ 0 ∷ 0 ∷ 0 ∷ 0 ∷ 0 ∷ []

ten_long : length ten ≡ 10
ten_long = refl

abbrev zeros_only : List ℕ → Bool
zeros_only [] = true
zeros_only (zero ∷ xs) = zeros_only xs
zeros_only (suc x ∷ xs) = false

none_but_zero : (xs : List ℕ) → zeros_only xs ≡ true → (n number : ℕ) → slice_get xs n ≡ Some (suc number) → ⊥
none_but_zero [] all n number is = cc
none_but_zero (zero ∷ xs) all zero number is = cc
none_but_zero (zero ∷ xs) all (suc n) number is = none_but_zero xs all n number is
none_but_zero (suc x ∷ xs) all n number is = cc

last_there : {A : Type 0} (x y : A) (k : ℕ) → slice_get (x ∷ []) k ≡ Some y → (k ≡ 0) × (x ≡ y)
last_there x y zero is = (refl, ap (λ o. unwrap_or o x) is)
last_there x y (suc k) is = let none : ⊥ = cc in absurd none

module _ (nodes : Nodes) (above : List ℕ) (are : AreStacks nodes above) where
  -- room above one more stack that isn't there yet
  pub with_room : AreStacks nodes (above ++ ten)
  with_room = record {
    first = are.first;
    others = are.others;
    before = are.before;
    long = omega (arith, are.long, length-append above ten, ten_long);
    noted = λ number node is.
        stands_on above ten (10 * node.below + kind_number node.kind) number (are.noted number node is);
    right = λ below kind number is. elim (from_both above ten (10 * below + kind_number kind) (suc number) is) [
      | inl before ↦ are.right below kind number before
      | inr behind ↦ absurd (none_but_zero ten refl behind.0 number behind.2)
    ];
  }

  module _ (kind : Scalar) (stack : ℕ) (within : stack < length nodes)
      (fresh : slice_get above (10 * stack + kind_number kind) ≡ Some 0) where
    abbrev node : Node
    node = record { kind = kind; below = stack }

    abbrev place : ℕ
    place = 10 * stack + kind_number kind

    abbrev longer : List ℕ
    longer = slice_set (above ++ ten) place (length nodes)

    from_nodes : (number : ℕ) (x : Option Node) → slice_get (nodes ++ Some node ∷ []) number ≡ Some x
        → (slice_get nodes number ≡ Some x) ⊎ ((number ≡ length nodes) × (Some node ≡ x))
    from_nodes number x is = elim (from_both nodes (Some node ∷ []) number x is) [
      | inl before ↦ inl before
      | inr behind ↦
          let last : (behind.0 ≡ 0) × (Some node ≡ x) = last_there (Some node) x behind.0 behind.2 in
          inr (omega (arith, behind.1, last.0), last.1)
    ]

    there : slice_get longer place ≡ Some (length nodes)
    there = set_same (above ++ ten) place (length nodes)
        (omega (arith, length-append above ten, ten_long, is_within above place 0 fresh))

    elsewhere : (n : ℕ) → (n ≡ place) ⊎ (slice_get longer n ≡ slice_get (above ++ ten) n)
    elsewhere n = set_other (above ++ ten) place n (length nodes)

    still_noted : (number : ℕ) (old : Node) → slice_get nodes number ≡ Some (Some old)
        → slice_get longer (10 * old.below + kind_number old.kind) ≡ Some number
    still_noted number old is = elim (elsewhere (10 * old.below + kind_number old.kind)) [
      | inl same ↦
          let zero_there : Some number ≡ Some 0 =
          sym (are.noted number old is) ∙ ap (λ n. slice_get above n) same ∙ fresh in
          let is_zero : number ≡ 0 = ap (λ o. unwrap_or o number) zero_there in
          let none : Some (Some old) ≡ Some None =
          sym is ∙ ap (λ n. slice_get nodes n) is_zero ∙ are.first in
          let nowhere : ⊥ = cc in absurd nowhere
      | inr other ↦
          other ∙ stands_on above ten (10 * old.below + kind_number old.kind) number (are.noted number old is)
    ]

    pub one_more : AreStacks (nodes ++ Some node ∷ []) longer
    one_more = record {
      first = stands_on nodes (Some node ∷ []) 0 None are.first;
      others = λ number is. elim (from_nodes (suc number) None is) [
        | inl before ↦ are.others number before
        | inr last ↦ let is_none : Some node ≡ None = last.1 in cc
      ];
      before = λ number x is. elim (from_nodes number (Some x) is) [
        | inl before ↦ are.before number x before
        | inr last ↦
            let same : node ≡ x = ap (λ o. unwrap_or o node) last.1 in
            let P : Node → Type 0 = λ y. y.below < number in
            subst P same (omega (arith, within, last.0))
      ];
      long = omega (
        arith,
        are.long,
        ten_long,
        length-append above ten,
        length-append nodes (Some node ∷ []),
        length-set (above ++ ten) place (length nodes),
      );
      noted = λ number x is. elim (from_nodes number (Some x) is) [
        | inl before ↦ still_noted number x before
        | inr last ↦
            let same : node ≡ x = ap (λ o. unwrap_or o node) last.1 in
            let P : Node → Type 0 = λ y. slice_get longer (10 * y.below + kind_number y.kind) ≡ Some number in
            subst P same (there ∙ ap (λ n. Some n) (sym last.0))
      ];
      right = λ below other number is. elim (elsewhere (10 * below + kind_number other)) [
        | inl same ↦
            let both : (below ≡ stack) × (kind_number other ≡ kind_number kind) =
            same_place below stack (kind_number other) (kind_number kind) (kind_below other) (kind_below kind) same in
            let number_is : suc number ≡ length nodes =
            ap (λ o. unwrap_or o 0) (sym is ∙ ap (λ n. slice_get longer n) same ∙ there) in
            let P : ℕ → Type 0 = λ n. slice_get (nodes ++ Some node ∷ []) n
            ≡ Some (Some (record { kind = other; below = below })) in
            let Q : ℕ → Type 0 = λ b. slice_get (nodes ++ Some node ∷ []) (length nodes)
            ≡ Some (Some (record { kind = other; below = b })) in
            let R : Scalar → Type 0 = λ y. slice_get (nodes ++ Some node ∷ []) (length nodes)
            ≡ Some (Some (record { kind = y; below = stack })) in
            subst P (sym number_is) (subst Q (sym both.0)
            (subst R (sym (same_kind other kind both.1)) (stands_behind nodes (Some node))))
        | inr changed ↦
            stands_on nodes (Some node ∷ []) (suc number) (Some (record { kind = other; below = below }))
            (with_room.right below other number (sym changed ∙ is))
      ];
    }

module _ (nodes : Nodes) (above : List ℕ) (are : AreStacks nodes above) where
  pub still_are : (others : Nodes) (more : List ℕ) → others ≡ nodes → more ≡ above ++ ten → AreStacks others more
  still_are others more same longer =
      let P : Nodes → Type 0 = λ ns. AreStacks ns more in
      let Q : List ℕ → Type 0 = λ xs. AreStacks nodes xs in
      subst P (sym same) (subst Q (sym longer) (with_room nodes above are))

  pub are_more : (kind : Scalar) (stack : ℕ) → stack < length nodes
      → slice_get above (10 * stack + kind_number kind) ≡ Some 0
      → (others : Nodes) (more : List ℕ) (at number : ℕ)
      → others ≡ nodes ++ Some (record { kind = kind; below = stack }) ∷ [] → more ≡ above ++ ten
      → at ≡ 10 * stack + kind_number kind → number ≡ length nodes → AreStacks others (slice_set more at number)
  are_more kind stack within fresh others more at number same longer place last =
      let P : Nodes → Type 0 = λ ns. AreStacks ns (slice_set more at number) in
      let Q : List ℕ → Type 0 = λ xs. AreStacks (nodes ++ Some (record { kind = kind; below = stack }) ∷ [])
      (slice_set xs at number) in
      let R : ℕ → Type 0 = λ n. AreStacks (nodes ++ Some (record { kind = kind; below = stack }) ∷ [])
      (slice_set (above ++ ten) n number) in
      let S : ℕ → Type 0 = λ n. AreStacks (nodes ++ Some (record { kind = kind; below = stack }) ∷ [])
      (slice_set (above ++ ten) (10 * stack + kind_number kind) n) in
      subst P (sym same) (subst Q (sym longer) (subst R (sym place) (subst S (sym last)
      (one_more nodes above are kind stack within fresh))))

-- ---- what a push answers

module _ (nodes : Nodes) (above : List ℕ) (are : AreStacks nodes above) (stacks : List Kinds) (same : Are nodes stacks)
    (kind : Scalar) (stack : ℕ) where
  -- a stack that is found above another has the kind on top
  pub known_there : (known : ℕ) → slice_get above (10 * stack + kind_number kind) ≡ Some known → known ≢ 0
      → (stack_at stacks known ≡ kind ∷ stack_at stacks stack) × (known < length stacks)
  known_there zero is not_zero = absurd (not_zero refl)
  known_there (suc known) is not_zero =
      let there : slice_get nodes (suc known) ≡ Some (Some (record { kind = kind; below = stack })) =
      are.right stack kind known is in
      let P : List Kinds → Type 0 = λ xs. stack_at xs (suc known) ≡ kind ∷ stack_at xs stack in (
        subst P same (number_there nodes above are (suc known) (record { kind = kind; below = stack }) there),
        omega (
          arith,
          is_within nodes (suc known) (Some (record { kind = kind; below = stack })) there,
          count_is nodes stacks same,
        ),
      )

  -- the new stack is the last
  pub new_there : (others : Nodes) → stack < length stacks
      → others ≡ nodes ++ Some (record { kind = kind; below = stack }) ∷ []
      → stacks_behind [] others ≡ stacks ++ (kind ∷ stack_at stacks stack) ∷ []
  new_there others within is =
      ap (λ ns. stacks_behind [] ns) is ∙ one_behind [] nodes (Some (record { kind = kind; below = stack }))
      ∙ ap (λ xs. xs ++ (kind ∷ stack_at xs stack) ∷ []) same

  pub new_is : (others : Nodes) (number : ℕ) → stack < length stacks
      → others ≡ nodes ++ Some (record { kind = kind; below = stack }) ∷ [] → number ≡ length nodes
      → (stack_at (stacks_behind [] others) number ≡ kind ∷ stack_at stacks stack)
      × (number < length (stacks_behind [] others))
  new_is others number within is last =
      let there : stacks_behind [] others ≡ stacks ++ (kind ∷ stack_at stacks stack) ∷ [] =
      new_there others within is in
      let count : number ≡ length stacks = omega (arith, last, count_is nodes stacks same) in (
        ap (λ xs. stack_at xs number) there ∙ ap (λ n. stack_at (stacks ++ (kind ∷ stack_at stacks stack) ∷ []) n) count
            ∙ get_last stacks (kind ∷ stack_at stacks stack),
        omega (arith, ap length there, length_last stacks (kind ∷ stack_at stacks stack), count),
      )
