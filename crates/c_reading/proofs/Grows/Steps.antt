-- What parsers are made of gives the same with more height, or was too deep.
use Rattle.std.proofs.Common.{◌≡◌, ℕ, zero, suc, ◌≤◌, Bool, true, false, List, [], ◌∷◌, length, Option, Some, None}
use Rattle.std.proofs.Common.{refl, sym, subst, arith, nat_le}
use borrow.Author.Tests.{le-leb, leb-true}
use Rattle.critical_table.specs.declared.pos.Pos.{Pos}
use Rattle.c_lexer.specs.declared.token.Token.{Token}
use Rattle.c_lexer.specs.declared.token.Body.{Body}
use Rattle.c_reading.specs.Parser.{Outcome, Found, Stopped, Unfit, TooDeep, Parser, and_then, ◌>>=◌, pure, fail}
use Rattle.c_reading.specs.Parser.{next_body, place, tail, peek, here, skip, choose, deeper, expect, go, many, climb}
use Rattle.c_reading.specs.Parser.{Listing, goes_listing, behind_comma, next_listing, more_listed, comma_list, ones}
use Rattle.c_reading.specs.Parser.{has_ending}

-- the second outcome is the first, unless that was too deep
abbrev pub Refines : {A : Type 0} → Outcome A → Outcome A → Type 0
Refines (Found a rest) g = Found a rest ≡ g
Refines (Stopped Unfit rest) g = Stopped Unfit rest ≡ g
Refines (Stopped TooDeep rest) g = Unit {0}

-- of two parsers, of which the second has more height
abbrev pub Grows : {A : Type 0} → Parser A → Parser A → Type 0
Grows p q = (tokens : List Token) → Refines (p tokens) (q tokens)

-- the same as a record, of which the two parsers can be seen
pub record Grown {A : Type 0} (p q : Parser A) : Type 0 where
  pub grows : Grows p q

refines_same : {A : Type 0} (g : Outcome A) → Refines g g
refines_same (Found a rest) = refl
refines_same (Stopped Unfit rest) = refl
refines_same (Stopped TooDeep rest) = tt

-- each step of a parser grows where its parts do, and what was too deep to anything
pub grown_same : {A : Type 0} (p : Parser A) → Grown p p
grown_same p = record { grows = λ tokens. refines_same (p tokens) }

pub deep_grown : {A : Type 0} (p : Parser A) → Grown (fail TooDeep) p
deep_grown p = record { grows = λ tokens. tt }

bound : {A B : Type 0} (g g' : Outcome A) (f f' : A → Parser B) → Refines g g' → ((a : A) → Grown (f a) (f' a))
    → Refines (and_then g f) (and_then g' f')
bound (Found a rest) g' f f' h on = subst (λ g'. Refines (f a rest) (and_then g' f')) h ((on a).grows rest)
bound (Stopped Unfit rest) g' f f' h on = subst (λ g'. Stopped Unfit rest ≡ and_then g' f') h refl
bound (Stopped TooDeep rest) g' f f' h on = tt

pub grown_bind : {A B : Type 0} (p p' : Parser A) (f f' : A → Parser B) → Grown p p'
    → ((a : A) → Grown (f a) (f' a)) → Grown (p >>= f) (p' >>= f')
grown_bind p p' f f' h on = record { grows = λ tokens. bound (p tokens) (p' tokens) f f' (h.grows tokens) on }

-- the same follows
pub grown_then : {A B : Type 0} (p p' : Parser A) (f : A → Parser B) → Grown p p' → Grown (p >>= f) (p' >>= f)
grown_then p p' f h = grown_bind p p' f f h (λ a. grown_same (f a))

-- with a mark behind
pub grown_before : {A B : Type 0} (p p' : Parser A) (test : Option Body → Bool) (f f' : A → Parser B) → Grown p p'
    → ((a : A) → Grown (f a) (f' a))
    → Grown (p >>= λ a. expect test >>= λ _. f a) (p' >>= λ a. expect test >>= λ _. f' a)
grown_before p p' test f f' h on =
    grown_bind p p' _ _ h (λ a. grown_bind (expect test) (expect test) _ _ (grown_same (expect test)) (λ _. on a))

pub grown_skip : {A : Type 0} (p p' : Parser A) → Grown p p' → Grown (skip p) (skip p')
grown_skip p p' h = record { grows = λ tokens. h.grows (tail tokens) }

pub grown_peek : {A : Type 0} (f f' : Option Body → Parser A) → ((o : Option Body) → Grown (f o) (f' o))
    → Grown (peek f) (peek f')
grown_peek f f' h = record { grows = λ tokens. (h (next_body tokens)).grows tokens }

pub grown_here : {A : Type 0} (f f' : Pos → Parser A) → ((pos : Pos) → Grown (f pos) (f' pos))
    → Grown (here f) (here f')
grown_here f f' h = record { grows = λ tokens. (h (place tokens)).grows tokens }

pub grown_choose : {A : Type 0} (b : Bool) (p p' q q' : Parser A) → Grown p p' → Grown q q'
    → Grown (choose b p q) (choose b p' q')
grown_choose true p p' q q' h h' = h
grown_choose false p p' q q' h h' = h'

pub grown_deeper : {A : Type 0} (k k' : ℕ) (p p' : Parser A) → k ≤ k' → Grown p p' → Grown (deeper k p) (deeper k' p')
grown_deeper zero k' p p' le h = deep_grown (deeper k' p')
grown_deeper (suc k) zero p p' le h = absurd (omega arith)
grown_deeper (suc k) (suc k') p p' le h = h

-- what fits in less height fits in more
pub grown_within : {A : Type 0} (b b' : Bool) (p p' : Parser A) → (b ≡ true → b' ≡ true) → Grown p p'
    → Grown (choose b p (fail TooDeep)) (choose b' p' (fail TooDeep))
grown_within true b' p p' more h = subst (λ b. Grown p (choose b p' (fail TooDeep))) (sym (more refl)) h
grown_within false b' p p' more h = deep_grown (choose b' p' (fail TooDeep))

pub still_fits : (n k k' : ℕ) → k ≤ k' → nat_le n k ≡ true → nat_le n k' ≡ true
still_fits n k k' le h = let low = leb-true n k h in le-leb n k' (omega arith)

-- ---- lists

module _ {S A : Type 0} (goes : S → Option Body → Bool) (step step' : S → Parser A) (next : S → A
    → S) (each : (s : S) → Grown (step s) (step' s)) where
  go_grown : (n : ℕ) (s : S) → Grown (go goes step next n s) (go goes step' next n s)
  go_grown zero s = grown_same (pure [])
  go_grown (suc n) s = grown_peek _ _ (λ o. grown_choose (goes s o) _ _ _ _
      (grown_bind (step s) (step' s) _ _ (each s)
      (λ a. grown_then _ _ (λ more. pure (a ∷ more)) (go_grown n (next s a)))) (grown_same (pure [])))

  -- lists grow where each of their parts does
  pub many_grown : (s : S) → Grown (many goes step next s) (many goes step' next s)
  unfolding many
  many_grown s = record { grows = λ tokens. (go_grown (suc (length tokens)) s).grows tokens }

module _ {S A : Type 0} (is_comma ends : Option Body → Bool) (ending : Parser (Unit {0})) (one one' : S
    → Parser A) (next : S → A → S)
    (each : (s : S) → Grown (one s) (one' s)) where
  behind_grown : (l : Listing S)
      → Grown (behind_comma is_comma ends ending one next l) (behind_comma is_comma ends ending one' next l)
  unfolding behind_comma
  behind_grown l =
      grown_skip _ _
      (grown_peek _ _ (λ o. grown_choose (ends o) _ _ _ _ (grown_same (ending >>= λ _. pure {A = Option A} None))
      (grown_then _ _ (λ a. pure (Some a)) (each l.state))))

  pub more_listed_grown : (s : S)
      → Grown (more_listed is_comma ends ending one next s) (more_listed is_comma ends ending one' next s)
  unfolding more_listed
  more_listed_grown s =
      many_grown (goes_listing is_comma ends ending one next) (behind_comma is_comma ends ending one next)
      (behind_comma is_comma ends ending one' next)
      (next_listing is_comma ends ending one next) behind_grown (record { state = s; over = false })

  pub listed_grown : (s : S)
      → Grown (comma_list is_comma ends ending one next s) (comma_list is_comma ends ending one' next s)
  unfolding comma_list
  listed_grown s =
      grown_bind (one s) (one' s) _ _ (each s)
      (λ first. grown_then _ _ (λ rest. pure (first ∷ ones rest, has_ending rest)) (more_listed_grown (next s first)))

-- ---- one node around another

module _ {A : Type 0} (goes : A → Option Body → Bool) (fits fits' : A → Bool) (wrap wrap' : A → Parser A)
    (more : (a : A) → fits a ≡ true → fits' a ≡ true) (each : (a : A) → Grown (wrap a) (wrap' a)) where
  -- also by more nodes that may be put around
  pub climb_grown : (n n' : ℕ) (left : A) → n ≤ n'
      → Grown (climb goes fits wrap n left) (climb goes fits' wrap' n' left)
  unfolding climb
  climb_grown zero zero left le = grown_same _
  climb_grown zero (suc n') left le =
      grown_peek _ _
      (λ o. grown_choose (goes left o) _ _ _ _
      (deep_grown (choose (fits' left) (wrap' left >>= climb goes fits' wrap' n') (fail TooDeep)))
      (grown_same (pure left)))
  climb_grown (suc n) zero left le = absurd (omega arith)
  climb_grown (suc n) (suc n') left le = grown_peek _ _ (λ o. grown_choose (goes left o) _ _ _ _
      (grown_within (fits left) (fits' left) _ _ (more left)
      (grown_bind (wrap left) (wrap' left) _ _ (each left) (λ a. climb_grown n n' a (omega arith))))
      (grown_same (pure left)))
