-- Each stack has one number.
use Rattle.std.proofs.Common.{◌≡◌, ◌⊎◌, inl, inr, ℕ, zero, suc, ◌+◌, ◌*◌, ◌<◌, ◌≤◌, List, [], ◌∷◌, ◌++◌, length}
use Rattle.std.proofs.Common.{slice_get, get_or, Option, Some, None, MatchOption, IfSome, refl, sym, ap}
use Rattle.std.proofs.Common.{◌∙◌, subst}
use Rattle.std.proofs.Common.{arith, unwrap_or}
use Rattle.std.specs.Option.{option_map_or}
use Rattle.c_core.specs.declared.form.Scalar.{Scalar}
use Rattle.vm_code.specs.OperandKinds.{Kinds}
use Rattle.operand_stacks.specs.declared.stacks.Node.{Node}
use Rattle.operand_stacks.specs.Stacks.{stack_at, stack_of, stacks_behind, node_at, kind_number, AreStacks}
use Rattle.operand_stacks.proofs.ListPlaces.{is_within}

abbrev pub Nodes : Type 0
Nodes = List (Option Node)

-- ---- the list of the stacks

pub one_behind : (stacks : List Kinds) (nodes : Nodes) (node : Option Node)
    → stacks_behind stacks (nodes ++ node ∷ [])
    ≡ stacks_behind stacks nodes ++ stack_of (stacks_behind stacks nodes) node ∷ []
one_behind stacks [] node = refl
one_behind stacks (x ∷ nodes) node = one_behind (stacks ++ stack_of stacks x ∷ []) nodes node

pub length_last : (xs : List Kinds) (x : Kinds) → length (xs ++ x ∷ []) ≡ length xs + 1
length_last [] x = refl
length_last (y ∷ xs) x = omega (arith, length_last xs x)

pub as_many : (stacks : List Kinds) (nodes : Nodes) → length (stacks_behind stacks nodes) ≡ length stacks + length nodes
as_many stacks [] = omega arith
as_many stacks (x ∷ nodes) =
    omega (arith, as_many (stacks ++ stack_of stacks x ∷ []) nodes, length_last stacks (stack_of stacks x))

get_first : (xs ys : List Kinds) (k : ℕ) → k < length xs → get_or (xs ++ ys) k [] ≡ get_or xs k []
get_first [] ys k lt = let none : ⊥ = omega (arith, lt) in absurd none
get_first (x ∷ xs) ys zero lt = refl
get_first (x ∷ xs) ys (suc k) lt = get_first xs ys k (omega (arith, lt))

pub get_last : (xs : List Kinds) (x : Kinds) → get_or (xs ++ x ∷ []) (length xs) [] ≡ x
get_last [] x = refl
get_last (y ∷ xs) x = get_last xs x

stays : (stacks : List Kinds) (nodes : Nodes) (k : ℕ) → k < length stacks
    → stack_at (stacks_behind stacks nodes) k ≡ stack_at stacks k
stays stacks [] k lt = refl
stays stacks (x ∷ nodes) k lt =
    stays (stacks ++ stack_of stacks x ∷ []) nodes k (omega (arith, length_last stacks (stack_of stacks x)))
    ∙ get_first stacks (stack_of stacks x ∷ []) k lt

stack_there : (stacks : List Kinds) (nodes : Nodes) (k : ℕ) (node : Node) → slice_get nodes k ≡ Some (Some node)
    → node.below < length stacks + k
    → stack_at (stacks_behind stacks nodes) (length stacks + k)
    ≡ node.kind ∷ stack_at (stacks_behind stacks nodes) node.below
stack_there stacks [] k node is lt = let none : ⊥ = cc in absurd none
stack_there stacks (x ∷ nodes) zero node is lt =
    let here : x ≡ Some node = ap (λ o. unwrap_or o None) is in
    let longer : List Kinds = stacks ++ stack_of stacks x ∷ [] in
    let long : length longer ≡ length stacks + 1 = length_last stacks (stack_of stacks x) in
    let below : stack_at (stacks_behind longer nodes) node.below ≡ stack_at stacks node.below =
    stays longer nodes node.below (omega (arith, long, lt))
    ∙ get_first stacks (stack_of stacks x ∷ []) node.below (omega (arith, lt)) in
    let top : stack_at (stacks_behind longer nodes) (length stacks) ≡ stack_of stacks x =
    stays longer nodes (length stacks) (omega (arith, long)) ∙ get_last stacks (stack_of stacks x) in
    let P : ℕ → Type 0 = λ n. stack_at (stacks_behind longer nodes) n
    ≡ node.kind ∷ stack_at (stacks_behind longer nodes) node.below in
    let sum : length stacks ≡ length stacks + 0 = omega arith in
    subst P sum (top ∙ ap (stack_of stacks) here ∙ ap (λ xs. node.kind ∷ xs) (sym below))
stack_there stacks (x ∷ nodes) (suc k) node is lt =
    let longer : List Kinds = stacks ++ stack_of stacks x ∷ [] in
    let long : length longer + k ≡ length stacks + suc k = omega (arith, length_last stacks (stack_of stacks x)) in
    let P : ℕ → Type 0 = λ n. stack_at (stacks_behind longer nodes) n
    ≡ node.kind ∷ stack_at (stacks_behind longer nodes) node.below in
    subst P long (stack_there longer nodes k node is (omega (arith, long, lt)))

none_on_top : (stacks : List Kinds) (nodes : Nodes) (k : ℕ) → slice_get nodes k ≡ Some None
    → stack_at (stacks_behind stacks nodes) (length stacks + k) ≡ []
none_on_top stacks [] k is = let none : ⊥ = cc in absurd none
none_on_top stacks (x ∷ nodes) zero is =
    let here : x ≡ None = ap (λ o. unwrap_or o None) is in
    let longer : List Kinds = stacks ++ stack_of stacks x ∷ [] in
    let long : length longer ≡ length stacks + 1 = length_last stacks (stack_of stacks x) in
    let P : ℕ → Type 0 = λ n. stack_at (stacks_behind longer nodes) n ≡ [] in
    let sum : length stacks ≡ length stacks + 0 = omega arith in
    subst P sum (stays longer nodes (length stacks) (omega (arith, long)) ∙ get_last stacks (stack_of stacks x)
    ∙ ap (stack_of stacks) here)
none_on_top stacks (x ∷ nodes) (suc k) is =
    let longer : List Kinds = stacks ++ stack_of stacks x ∷ [] in
    let long : length longer + k ≡ length stacks + suc k = omega (arith, length_last stacks (stack_of stacks x)) in
    let P : ℕ → Type 0 = λ n. stack_at (stacks_behind longer nodes) n ≡ [] in
    subst P long (none_on_top longer nodes k is)

get_past : (xs : List Kinds) (k : ℕ) → length xs ≤ k → get_or xs k [] ≡ []
get_past [] k le = refl
get_past (x ∷ xs) zero le = let none : ⊥ = omega (arith, le) in absurd none
get_past (x ∷ xs) (suc k) le = get_past xs k (omega (arith, le))

none_past : (nodes : Nodes) (k : ℕ) → slice_get nodes k ≡ None → length nodes ≤ k
none_past [] k is = omega arith
none_past (x ∷ nodes) zero is = let none : ⊥ = cc in absurd none
none_past (x ∷ nodes) (suc k) is = omega (arith, none_past nodes k is)

past : (nodes : Nodes) (k : ℕ) → slice_get nodes k ≡ None → length (stacks_behind [] nodes) ≤ k
past nodes k is = omega (arith, as_many [] nodes, none_past nodes k is)

abbrev rest_of : Kinds → Kinds
rest_of [] = []
rest_of (x ∷ xs) = xs

abbrev top_of : Scalar → Kinds → Scalar
top_of kind [] = kind
top_of kind (x ∷ xs) = x

module _ (nodes : Nodes) (above : List ℕ) (are : AreStacks nodes above) where
  pub number_there : (number : ℕ) (node : Node) → slice_get nodes number ≡ Some (Some node)
      → stack_at (stacks_behind [] nodes) number ≡ node.kind ∷ stack_at (stacks_behind [] nodes) node.below
  number_there number node is =
      let sum : 0 + number ≡ number = omega arith in
      let P : ℕ → Type 0 = λ n. stack_at (stacks_behind [] nodes) n
      ≡ node.kind ∷ stack_at (stacks_behind [] nodes) node.below in
      subst P sum (stack_there [] nodes number node is (omega (arith, are.before number node is)))

  empty_there : (number : ℕ) → slice_get nodes number ≡ Some None → stack_at (stacks_behind [] nodes) number ≡ []
  empty_there number is =
      let sum : 0 + number ≡ number = omega arith in
      let P : ℕ → Type 0 = λ n. stack_at (stacks_behind [] nodes) n ≡ [] in
      subst P sum (none_on_top [] nodes number is)

  pub top_is : (number : ℕ) → MatchOption (node_at nodes number) (stack_at (stacks_behind [] nodes) number ≡ [])
      (λ top. stack_at (stacks_behind [] nodes) number ≡ top.kind ∷ stack_at (stacks_behind [] nodes) top.below)
  top_is number = by_node (slice_get nodes number) refl
    where
      by_node : (o : Option (Option Node)) → slice_get nodes number ≡ o
          → MatchOption (option_map_or (λ node. node) o None) (stack_at (stacks_behind [] nodes) number ≡ [])
          (λ top. stack_at (stacks_behind [] nodes) number ≡ top.kind ∷ stack_at (stacks_behind [] nodes) top.below)
      by_node None is = get_past (stacks_behind [] nodes) number (past nodes number is)
      by_node (Some None) is = empty_there number is
      by_node (Some (Some node)) is = number_there number node is

  -- ---- equal stacks have equal numbers

  -- number 0 alone has no top
  is_empty : (number : ℕ) → slice_get nodes number ≡ Some None → number ≡ 0
  is_empty zero is = refl
  is_empty (suc number) is = absurd (are.others number is)

  is_above : (number : ℕ) (node : Node) → slice_get nodes number ≡ Some (Some node)
      → stack_at (stacks_behind [] nodes) number ≡ [] → ⊥
  is_above number node is none =
      let both : node.kind ∷ stack_at (stacks_behind [] nodes) node.below ≡ [] =
      sym (number_there number node is) ∙ none in cc

  some_node : (number : ℕ) → number < length nodes → (o : Option (Option Node)) → slice_get nodes number ≡ o
      → (slice_get nodes number ≡ Some None) ⊎ ((node : Node) × (slice_get nodes number ≡ Some (Some node)))
  some_node number lt None is = let none : ⊥ = omega (arith, none_past nodes number is, lt) in absurd none
  some_node number lt (Some None) is = inl is
  some_node number lt (Some (Some node)) is = inr (node, is)

  one_number : (one other : ℕ) (a b : Node) → slice_get nodes one ≡ Some (Some a)
      → slice_get nodes other ≡ Some (Some b)
      → a.kind ≡ b.kind → a.below ≡ b.below → one ≡ other
  one_number one other a b is there kinds below =
      let first : slice_get above (10 * a.below + kind_number a.kind) ≡ Some one = are.noted one a is in
      let second : slice_get above (10 * b.below + kind_number b.kind) ≡ Some other = are.noted other b there in
      let same : 10 * a.below + kind_number a.kind ≡ 10 * b.below + kind_number b.kind =
      ap (λ n. 10 * n + kind_number a.kind) below ∙ ap (λ k. 10 * b.below + kind_number k) kinds in
      ap (λ o. unwrap_or o one) (sym first ∙ ap (λ n. slice_get above n) same ∙ second)

  same_below : (n one other : ℕ) → one < n → one < length nodes → other < length nodes
      → stack_at (stacks_behind [] nodes) one ≡ stack_at (stacks_behind [] nodes) other → one ≡ other
  same_below zero one other lt within there same = let none : ⊥ = omega (arith, lt) in absurd none
  same_below (suc n) one other lt within there same =
      elim (some_node one within (slice_get nodes one) refl) [
        | inl empty ↦ elim (some_node other there (slice_get nodes other) refl) [
          | inl none ↦ is_empty one empty ∙ sym (is_empty other none)
          | inr top ↦ absurd (is_above other top.0 top.1 (sym same ∙ empty_there one empty))
        ]
        | inr top ↦ elim (some_node other there (slice_get nodes other) refl) [
          | inl none ↦ absurd (is_above one top.0 top.1 (same ∙ empty_there other none))
          | inr next ↦
              let stacks : List Kinds = stacks_behind [] nodes in
              let both : top.0.kind ∷ stack_at stacks top.0.below ≡ next.0.kind ∷ stack_at stacks next.0.below =
              sym (number_there one top.0 top.1) ∙ same ∙ number_there other next.0 next.1 in
              let less : top.0.below < one = are.before one top.0 top.1 in
              let more : next.0.below < other = are.before other next.0 next.1 in
              one_number one other top.0 next.0 top.1 next.1 (ap (top_of top.0.kind) both)
              (same_below n top.0.below next.0.below (omega (arith, less, lt)) (omega (arith, less, within))
              (omega (arith, more, there)) (ap rest_of both))
        ]
      ]

  pub one_stack : (one other : ℕ) → one < length nodes → other < length nodes
      → stack_at (stacks_behind [] nodes) one ≡ stack_at (stacks_behind [] nodes) other → one ≡ other
  one_stack one other within there same = same_below (suc one) one other (omega arith) within there same

-- ---- by the list that they are

abbrev pub Are : Nodes → List Kinds → Type 0
Are nodes stacks = stacks_behind [] nodes ≡ stacks

pub count_is : (nodes : Nodes) (stacks : List Kinds) → Are nodes stacks → length stacks ≡ length nodes
count_is nodes stacks same = omega (arith, as_many [] nodes, ap length same)

module _ (nodes : Nodes) (above : List ℕ) (are : AreStacks nodes above) (stacks : List Kinds) (same : Are nodes stacks)
  where
    pub one_stack_in : (one other : ℕ) → one < length stacks → other < length stacks
        → stack_at stacks one ≡ stack_at stacks other → one ≡ other
    one_stack_in one other within there equal =
        let count : length stacks ≡ length nodes = count_is nodes stacks same in
        let at : (n : ℕ) → stack_at (stacks_behind [] nodes) n ≡ stack_at stacks n =
        λ n. ap (λ xs. stack_at xs n) same in
        one_stack nodes above are one other (omega (arith, within, count)) (omega (arith, there, count))
        (at one ∙ equal ∙ sym (at other))

    pub top_in : (number : ℕ) (top : Option Node) → top ≡ node_at nodes number
        → MatchOption top (stack_at stacks number ≡ [])
        (λ top. stack_at stacks number ≡ top.kind ∷ stack_at stacks top.below)
    top_in number top is =
        let P : List Kinds → Type 0 = λ xs. MatchOption (node_at nodes number) (stack_at xs number ≡ [])
        (λ top. stack_at xs number ≡ top.kind ∷ stack_at xs top.below) in
        let Q : Option Node → Type 0 = λ o. MatchOption o (stack_at stacks number ≡ [])
        (λ top. stack_at stacks number ≡ top.kind ∷ stack_at stacks top.below) in
        subst Q (sym is) (subst P same (top_is nodes above are number))

    pub below_in : (number : ℕ) (top : Option Node) → top ≡ node_at nodes number
        → IfSome top (λ top. top.below < length stacks)
    below_in number top is = let Q : Option Node → Type 0 = λ o. IfSome o (λ top. top.below < length stacks) in
        subst Q (sym is) (by_node (slice_get nodes number) refl)
      where
        by_node : (o : Option (Option Node)) → slice_get nodes number ≡ o
            → IfSome (option_map_or (λ node. node) o None) (λ top. top.below < length stacks)
        by_node None there = tt
        by_node (Some None) there = tt
        by_node (Some (Some node)) there =
            let before : node.below < number = are.before number node there in
            omega (arith, before, is_within nodes number (Some node) there, count_is nodes stacks same)
