-- What is known of a function's instructions as they are passed.
use Rattle.std.proofs.Common.{◌≡◌, ◌⊎◌, inl, inr, ℕ, zero, suc, ◌==◌, Bool, true, false, List, []}
use Rattle.std.proofs.Common.{◌∷◌, ◌++◌, length, Contains, Option, Some, None, refl, sym, ◌∙◌, ap, subst, arith}
use Rattle.std.proofs.Common.{if◌then◌else◌, eqb-true, eq-eqb}
use Rattle.std.specs.List.{slice_get}
use Rattle.vm_code.specs.Contents.{Contents}
use Rattle.vm_code.specs.OperandKinds.{Kinds}
use Rattle.vm_code.specs.Sound.{Stretch, is_place}
use Rattle.vm_code.specs.Passing.{Passing, arrive_new, arrive, arrive_all}
use Rattle.vm_code.proofs.Fronts.{some_alone}
use Rattle.vm_code.proofs.ActingOn.{none_is_some, later}

-- an element of a list is the first or one of the others
pub of_first : {A : Type 0} (y : A) (xs : List A) (x : A) → Contains (y ∷ xs) x → (x ≡ y) ⊎ Contains xs x
of_first y xs x (zero, within, is) = inl (sym is)
of_first y xs x (suc k, within, is) = inr (k, omega (arith, within), is)

-- what stands in a list stands there when more stands behind it
pub stands_still : {A : Type 0} (xs ys : List A) (k : ℕ) (x : A) → slice_get xs k ≡ Some x
    → slice_get (xs ++ ys) k ≡ Some x
stands_still [] ys k x is = absurd (none_is_some x is)
stands_still (y ∷ xs) ys zero x is = is
stands_still (y ∷ xs) ys (suc k) x is = stands_still xs ys k x is

pub stands_last : {A : Type 0} (xs : List A) (x : A) → slice_get (xs ++ x ∷ []) (length xs) ≡ Some x
stands_last [] x = refl
stands_last (y ∷ xs) x = stands_last xs x

-- Kinds that came to places of a stretch: what was known or due stays, and what is new is these, and due.
pub record Fresh (code : Contents) (stretch : Stretch) (left : Kinds) (places due : List ℕ) (t : ℕ) (kinds : Kinds)
    : Type 0 where
  pub same : kinds ≡ left
  pub led : Contains places t
  pub within : is_place code stretch t ≡ true
  pub turn : ℕ
  pub is_due : slice_get due turn ≡ Some t

pub record Arrived (code : Contents) (stretch : Stretch) (left : Kinds) (places : List ℕ) (p q : Passing) : Type 0 where
  pub stays : (t : ℕ) (kinds : Kinds) → p.kinds t ≡ Some kinds → q.kinds t ≡ Some kinds
  pub due_stays : (k t : ℕ) → slice_get p.due k ≡ Some t → slice_get q.due k ≡ Some t
  pub fresh : (t : ℕ) (kinds : Kinds) → q.kinds t ≡ Some kinds
      → (p.kinds t ≡ Some kinds) ⊎ Fresh code stretch left places q.due t kinds
  pub reached : (t : ℕ) → Contains places t → is_place code stretch t ≡ true
      → (kinds : Kinds) × (q.kinds t ≡ Some kinds)

pub no_element : (t : ℕ) → Contains [] t → ⊥
no_element t found = let none : ⊥ = omega (arith, found.1) in none

module _ (code : Contents) (stretch : Stretch) (left : Kinds) where
  nothing_new : (p : Passing) (to : ℕ) → (is_place code stretch to ≡ true → (kinds : Kinds) × (p.kinds to ≡ Some kinds))
      → Arrived code stretch left (to ∷ []) p p
  nothing_new p to there = record {
    stays = λ t kinds is. is;
    due_stays = λ k t is. is;
    fresh = λ t kinds is. inl is;
    reached = λ t led within. elim (of_first to [] t led) [
      | inl same ↦
          let P : ℕ → Type 0 = λ n. (kinds : Kinds) × (p.kinds n ≡ Some kinds) in
          let Q : ℕ → Type 0 = λ n. is_place code stretch n ≡ true in
          subst P (sym same) (there (subst Q same within))
      | inr none ↦ absurd (no_element t none)
    ];
  }

  new_there : (p : Passing) (to : ℕ) → is_place code stretch to ≡ true → (o : Option Kinds) → p.kinds to ≡ o
      → Arrived code stretch left (to ∷ []) p (arrive_new o left to p)
  new_there p to within (Some others) is = nothing_new p to (λ inside. (others, is))
  new_there p to within None is = record {
    stays = λ t kinds known. stays_at t kinds known (t == to) refl;
    due_stays = λ k t due. stands_still p.due (to ∷ []) k t due;
    fresh = λ t kinds known. fresh_at t kinds (t == to) refl known;
    reached = λ t led inside. reached_at t (of_first to [] t led);
  }
    where
      stays_at : (t : ℕ) (kinds : Kinds) → p.kinds t ≡ Some kinds → (b : Bool) → (t == to) ≡ b
          → (if b then Some left else p.kinds t) ≡ Some kinds
      stays_at t kinds known true same =
          absurd (none_is_some kinds (sym is ∙ ap p.kinds (sym (eqb-true t to same)) ∙ known))
      stays_at t kinds known false other = known

      fresh_at : (t : ℕ) (kinds : Kinds) (b : Bool) → (t == to) ≡ b → (if b then Some left else p.kinds t) ≡ Some kinds
          → (p.kinds t ≡ Some kinds) ⊎ Fresh code stretch left (to ∷ []) (p.due ++ to ∷ []) t kinds
      fresh_at t kinds true same known =
          let here : to ≡ t = sym (eqb-true t to same) in
          let P : ℕ → Type 0 = λ n. Fresh code stretch left (to ∷ []) (p.due ++ to ∷ []) n kinds in
          inr (subst P here (record {
            same = some_alone kinds left (sym known);
            led = (0, omega arith, refl);
            within = within;
            turn = length p.due;
            is_due = stands_last p.due to;
          }))
      fresh_at t kinds false other known = inl known

      known_here : (if to == to then Some left else p.kinds to) ≡ Some left
      known_here = ap (λ b. if b then Some left else p.kinds to) (eq-eqb to to refl)

      reached_at : (t : ℕ) → (t ≡ to) ⊎ Contains [] t
          → (kinds : Kinds) × ((if t == to then Some left else p.kinds t) ≡ Some kinds)
      reached_at t (inl same) =
          let P : ℕ → Type 0 = λ n. (kinds : Kinds) × ((if n == to then Some left else p.kinds n) ≡ Some kinds) in
          subst P (sym same) (left, known_here)
      reached_at t (inr none) = absurd (no_element t none)

  arrived : (p : Passing) (to : ℕ) → Arrived code stretch left (to ∷ []) p (arrive code stretch left to p)
  arrived p to = at_place (is_place code stretch to) refl
    where
      at_place : (b : Bool) → is_place code stretch to ≡ b
          → Arrived code stretch left (to ∷ []) p (if b then arrive_new (p.kinds to) left to p else p)
      at_place true within = new_there p to within (p.kinds to) refl
      at_place false outside = nothing_new p to (λ inside. absurd (other inside outside))
        where
          other : is_place code stretch to ≡ true → is_place code stretch to ≡ false → ⊥
          other inside outside = cc

  both_arrived : (to : ℕ) (rest : List ℕ) (p q r : Passing) → Arrived code stretch left (to ∷ []) p q
      → Arrived code stretch left rest q r → Arrived code stretch left (to ∷ rest) p r
  both_arrived to rest p q r first second = record {
    stays = λ t kinds is. second.stays t kinds (first.stays t kinds is);
    due_stays = λ k t is. second.due_stays k t (first.due_stays k t is);
    fresh = λ t kinds is. elim (second.fresh t kinds is) [
      | inl known ↦ elim (first.fresh t kinds known) [
        | inl before ↦ inl before
        | inr new ↦ inr (record {
          same = new.same;
          led = elim (of_first to [] t new.led) [
            | inl here ↦ let P : ℕ → Type 0 = λ n. Contains (to ∷ rest) n in subst P (sym here) (0, omega arith, refl)
            | inr none ↦ absurd (no_element t none)
          ];
          within = new.within;
          turn = new.turn;
          is_due = second.due_stays new.turn t new.is_due;
        })
      ]
      | inr new ↦ inr (record {
        same = new.same;
        led = later to rest t new.led;
        within = new.within;
        turn = new.turn;
        is_due = new.is_due;
      })
    ];
    reached = λ t led within. elim (of_first to rest t led) [
      | inl here ↦
          let P : ℕ → Type 0 = λ n. Contains (to ∷ []) n in
          let there : (kinds : Kinds) × (q.kinds t ≡ Some kinds) =
          first.reached t (subst P (sym here) (0, omega arith, refl)) within in
          (there.0, second.stays t there.0 there.1)
      | inr more ↦ second.reached t more within
    ];
  }

  pub all_arrived : (places : List ℕ) (p : Passing)
      → Arrived code stretch left places p (arrive_all code stretch left places p)
  all_arrived [] p = record {
    stays = λ t kinds is. is;
    due_stays = λ k t is. is;
    fresh = λ t kinds is. inl is;
    reached = λ t led within. absurd (no_element t led);
  }
  all_arrived (to ∷ rest) p = both_arrived to rest p (arrive code stretch left to p)
      (arrive_all code stretch left rest (arrive code stretch left to p)) (arrived p to)
      (all_arrived rest (arrive code stretch left to p))
