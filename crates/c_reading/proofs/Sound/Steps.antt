-- What the steps of a parser gave, where it found something.
use Rattle.std.proofs.Common.{◌≡◌, ◌⊎◌, inl, inr, ℕ, zero, suc, Bool, true, false, ◌&&◌, not, List, [], ◌∷◌, ◌++◌}
use Rattle.std.proofs.Common.{length, Option, Some, None, refl, sym, subst, append_assoc}
use Rattle.c_lexer.specs.declared.punct.Punct.{Punct}
use Rattle.c_lexer.specs.declared.token.Body.{Body}
use Rattle.c_lexer.specs.declared.token.Body.TheVariants as lexeme
use Rattle.c_lexer.specs.declared.token.Token.{Token}
use Rattle.c_syntax.specs.declared.spelled.Spelled.{Spelled}
use Rattle.c_reading.specs.Parser.{Outcome, Found, Stopped, Parser, and_then, ◌>>=◌, pure, choose, deeper, expect}
use Rattle.c_reading.specs.Parser.{next_body, place, tail, go, many, climb, Listing, goes_listing, behind_comma}
use Rattle.c_reading.specs.Parser.{next_listing, more_listed, comma_list, ones, has_ending}
use Rattle.c_reading.specs.ReadToken.{is_mark}
use Rattle.c_syntax.specs.Tokens.{token_at, bare, mark}
use Rattle.c_reading.proofs.TokenTests.{is_mark_is}
use Rattle.c_reading.proofs.Takes.{Takes, takes_append}

abbrev pub OnFound : {A : Type 0} → (A → List Token → Type 0) → Outcome A → Type 0
OnFound P (Found a rest) = P a rest
OnFound P (Stopped why rest) = Unit {0}

-- what holds of the value and the rest of one finding holds of those of an equal one
pub moved : {A : Type 0} (P : A → List Token → Type 0) {a b : A} {tokens rest : List Token}
    → Found a tokens ≡ Found b rest → P a tokens → P b rest
moved P h x = subst (OnFound P) h x

-- ---- one parser after another

pub record Bound {A B : Type 0} (g : Outcome A) (f : A → Parser B) (b : B) (rest : List Token) : Type 0 where
  pub value : A
  pub mid : List Token
  pub one : g ≡ Found value mid
  pub two : f value mid ≡ Found b rest

pub bind_found : {A B : Type 0} (g : Outcome A) (f : A → Parser B) (b : B) (rest : List Token)
    → and_then g f ≡ Found b rest → Bound g f b rest
bind_found (Found a mid) f b rest h = record { value = a; mid = mid; one = refl; two = h }
bind_found (Stopped why r) f b rest h = absurd (cc (h))

pub chosen : {A : Type 0} (b : Bool) (p q : Parser A) (tokens : List Token) (g : Outcome A) → choose b p q tokens ≡ g
    → ((b ≡ true) × (p tokens ≡ g)) ⊎ ((b ≡ false) × (q tokens ≡ g))
chosen true p q tokens g h = inl (refl, h)
chosen false p q tokens g h = inr (refl, h)

pub deeper_found : {A : Type 0} (k : ℕ) (p : Parser A) (tokens rest : List Token) (a : A)
    → deeper k p tokens ≡ Found a rest → p tokens ≡ Found a rest
deeper_found zero p tokens rest a h = absurd (cc (h))
deeper_found (suc k) p tokens rest a h = h

pub expect_found : (test : Option Body → Bool) (tokens rest : List Token) (u : Unit {0})
    → expect test tokens ≡ Found u rest
    → (test (next_body tokens) ≡ true) × (tail tokens ≡ rest)
expect_found test tokens rest u h =
    elim (chosen (test (next_body tokens)) _ _ tokens (Found u rest) h) [
      | inl x ↦ (x.0, cc (x.1))
      | inr x ↦ absurd (cc (x.1))
    ]

-- ---- tokens that are spelled so

pub record Spelt (tokens : List Token) (spelled : List Spelled) (rest : List Token) : Type 0 where
  pub takes : Takes tokens spelled rest

pub joined : {tokens mid rest : List Token} {first second : List Spelled} → Spelt tokens first mid
    → Spelt mid second rest → Spelt tokens (first ++ second) rest
joined {tokens = tokens} {mid = mid} {rest = rest} {first = first} {second = second} one two =
    record { takes = takes_append tokens mid rest first second one.takes two.takes }

pub regrouped : {tokens rest : List Token} (first second third : List Spelled)
    → Spelt tokens (first ++ (second ++ third)) rest → Spelt tokens (first ++ second ++ third) rest
regrouped {tokens = tokens} {rest = rest} first second third all =
    subst (λ spelled. Spelt tokens spelled rest) (sym (append_assoc first second third)) all

pub nothing_spelt : (tokens : List Token) → Spelt tokens [] tokens
nothing_spelt tokens = record { takes = refl }

-- the next token, and its place
pub spelt_at : (tokens : List Token) (next : Body) → next_body tokens ≡ Some next
    → Spelt tokens (token_at (place tokens) next ∷ []) (tail tokens)
spelt_at [] next h = absurd (cc (h))
spelt_at (token ∷ tokens) next h = record { takes = (cc (h), refl, refl) }

pub spelt_bare : (tokens : List Token) (next : Body) → next_body tokens ≡ Some next
    → Spelt tokens (bare next ∷ []) (tail tokens)
spelt_bare [] next h = absurd (cc (h))
spelt_bare (token ∷ tokens) next h = record { takes = (cc (h), tt, refl) }

pub spelt_mark : (m : Punct) (tokens : List Token) → is_mark m (next_body tokens) ≡ true
    → Spelt tokens (mark m ∷ []) (tail tokens)
spelt_mark m tokens h = spelt_bare tokens (lexeme.Mark m) (is_mark_is m (next_body tokens) h)

pub mark_found : (m : Punct) (tokens rest : List Token) (u : Unit {0}) → expect (is_mark m) tokens ≡ Found u rest
    → Spelt tokens (mark m ∷ []) rest
mark_found m tokens rest u h =
    let x = expect_found (is_mark m) tokens rest u h in
    subst (λ rest. Spelt tokens (mark m ∷ []) rest) x.1 (spelt_mark m tokens x.0)

-- a mark, and then more
pub record Marked {B : Type 0} (m : Punct) (more : Parser B) (tokens : List Token) (b : B) (rest : List Token)
    : Type 0 where
  pub mid : List Token
  pub spelt : Spelt tokens (mark m ∷ []) mid
  pub two : more mid ≡ Found b rest

pub mark_then : {B : Type 0} (m : Punct) (more : Parser B) (tokens rest : List Token) (b : B)
    → and_then (expect (is_mark m) tokens) (λ _. more) ≡ Found b rest
    → Marked m more tokens b rest
mark_then m more tokens rest b h =
    let x = bind_found (expect (is_mark m) tokens) (λ _. more) b rest h in
    record { mid = x.mid; spelt = mark_found m tokens x.mid x.value x.one; two = x.two }

-- ---- lists

-- what holds of no element, and of one more by what holds of the state after it, holds of all that is read
module _ {S A : Type 0} (goes : S → Option Body → Bool) (step : S → Parser A) (next : S → A → S)
    (P : S → List Token → List A → List Token → Type 0)
    (none : (s : S) (tokens : List Token) → P s tokens [] tokens)
    (some : (s : S) (tokens mid rest : List Token) (a : A) (more : List A) → goes s (next_body tokens) ≡ true
    → step s tokens ≡ Found a mid → P (next s a) mid more rest → P s tokens (a ∷ more) rest) where
  go_found : (n : ℕ) (s : S) (tokens rest : List Token) (all : List A)
      → go goes step next n s tokens ≡ Found all rest → P s tokens all rest
  go_found zero s tokens rest all h = moved (P s tokens) h (none s tokens)
  go_found (suc n) s tokens rest all h =
      elim (chosen (goes s (next_body tokens)) _ _ tokens (Found all rest) h) [
        | inl y ↦
            (let x = bind_found (step s tokens) (λ a. go goes step next n (next s a) >>= λ more. pure (a ∷ more))
            all rest y.1 in
            let z = bind_found (go goes step next n (next s x.value) x.mid) (λ more. pure (x.value ∷ more)) all rest
            x.two in
            moved (P s tokens) z.two
            (some s tokens x.mid z.mid x.value z.value y.0 x.one
            (go_found n (next s x.value) x.mid z.mid z.value z.one)))
        | inr y ↦ moved (P s tokens) y.1 (none s tokens)
      ]

  pub many_found : (s : S) (tokens rest : List Token) (all : List A) → many goes step next s tokens ≡ Found all rest
      → P s tokens all rest
  unfolding many
  many_found s tokens rest all h = go_found (suc (length tokens)) s tokens rest all h

-- likewise of what stands behind the first of a list with commas, and its ending
module _ {S A : Type 0} (is_comma : Option Body → Bool) (ends : Option Body
    → Bool) (ending : Parser (Unit {0})) (one : S → Parser A) (next : S → A → S)
    (P : S → List Token → List A → Bool → List Token → Type 0)
    (none : (s : S) (tokens : List Token) → P s tokens [] false tokens)
    (ended : (s : S) (tokens rest : List Token) (u : Unit {0}) → is_comma (next_body tokens) ≡ true
    → ends (next_body (tail tokens)) ≡ true → ending (tail tokens) ≡ Found u rest → P s tokens [] true rest)
    (some : (s : S) (tokens mid rest : List Token) (a : A) (more : List A) (b : Bool)
    → is_comma (next_body tokens) ≡ true → one s (tail tokens) ≡ Found a mid → P (next s a) mid more b rest
    → P s tokens (a ∷ more) b rest) where
  -- once it is over, nothing follows
  abbrev OnListing : Bool → S → List Token → List (Option A) → List Token → Type 0
  OnListing true s tokens all rest = (all ≡ []) × (tokens ≡ rest)
  OnListing false s tokens all rest = P s tokens (ones all) (has_ending all) rest

  abbrev OnList : Listing S → List Token → List (Option A) → List Token → Type 0
  OnList l = OnListing l.over l.state

  begins_none : (over : Bool) (s : S) (tokens : List Token) → OnListing over s tokens [] tokens
  begins_none true s tokens = (refl, refl)
  begins_none false s tokens = none s tokens

  goes_some : (over : Bool) (s : S) (tokens mid rest : List Token) (a : Option A) (more : List (Option A))
      → not over && is_comma (next_body tokens) ≡ true
      → behind_comma is_comma ends ending one next (record { state = s; over = over }) tokens ≡ Found a mid
      → OnList (next_listing is_comma ends ending one next (record { state = s; over = over }) a) mid more rest
      → OnListing over s tokens (a ∷ more) rest
  unfolding behind_comma
  goes_some true s tokens mid rest a more comma h then = absurd (cc (comma))
  goes_some false s tokens mid rest a more comma h then =
      elim (chosen (ends (next_body (tail tokens))) _ _ (tail tokens) (Found a mid) h) [
        | inl y ↦
            (let x = bind_found (ending (tail tokens)) (λ _. pure None) a mid y.1 in
            let all = moved
            (λ a mid. OnList (next_listing is_comma ends ending one next (record { state = s; over = false }) a)
            mid more rest → OnListing false s tokens (a ∷ more) rest) x.two
            (λ over. let u : [] ≡ more = sym over.0 in
            subst (λ more. P s tokens (ones more) true rest) u
            (subst (λ rest. P s tokens [] true rest) over.1 (ended s tokens x.mid x.value comma y.0 x.one))) in
            all then)
        | inr y ↦
            (let x = bind_found (one s (tail tokens)) (λ a. pure (Some a)) a mid y.1 in
            let all = moved
            (λ a mid. OnList (next_listing is_comma ends ending one next (record { state = s; over = false }) a)
            mid more rest → OnListing false s tokens (a ∷ more) rest) x.two
            (λ rest_is. some s tokens x.mid rest x.value (ones more) (has_ending more) comma x.one rest_is) in
            all then)
      ]

  pub more_found : (s : S) (tokens rest : List Token) (all : List (Option A))
      → more_listed is_comma ends ending one next s tokens ≡ Found all rest
      → P s tokens (ones all) (has_ending all) rest
  unfolding more_listed
  more_found s tokens rest all h =
      many_found (goes_listing is_comma ends ending one next) (behind_comma is_comma ends ending one next)
      (next_listing is_comma ends ending one next) OnList
      (λ l tokens. begins_none l.over l.state tokens) (λ l tokens mid rest a more goes h then.
      goes_some l.over l.state tokens mid rest a more goes h then)
      (record { state = s; over = false }) tokens rest all h

  pub record FoundList (s : S) (tokens : List Token) (all : List A × Bool) (rest : List Token) : Type 0 where
    pub first : A
    pub more : List A
    pub mid : List Token
    pub all_is : (first ∷ more, all.1) ≡ all
    pub first_found : one s tokens ≡ Found first mid
    pub more_found : P (next s first) mid more all.1 rest

  found_list : (s : S) (tokens mid rest : List Token) (first : A) (more : List (Option A))
      → one s tokens ≡ Found first mid → P (next s first) mid (ones more) (has_ending more) rest
      → FoundList s tokens (first ∷ ones more, has_ending more) rest
  found_list s tokens mid rest first more h then =
      record { first = first; more = ones more; mid = mid; all_is = refl; first_found = h; more_found = then }

  pub listed_found : (s : S) (tokens rest : List Token) (all : List A × Bool)
      → comma_list is_comma ends ending one next s tokens ≡ Found all rest → FoundList s tokens all rest
  unfolding comma_list
  listed_found s tokens rest all h =
      let x = bind_found (one s tokens) (λ first. more_listed is_comma ends ending one next (next s first)
      >>= λ more. pure (first ∷ ones more, has_ending more)) all rest h in
      let y = bind_found (more_listed is_comma ends ending one next (next s x.value) x.mid)
      (λ more. pure (x.value ∷ ones more, has_ending more)) all rest x.two in
      let z = more_found (next s x.value) x.mid y.mid y.value y.one in
      moved (FoundList s tokens) {a = (x.value ∷ ones y.value, has_ending y.value)} y.two
      (found_list s tokens x.mid y.mid x.value y.value x.one z)

-- ---- one node around another

-- what holds of the first tree, and of each that is made around one of which it holds, holds of the last
pub climb_found : {A : Type 0} (goes : A → Option Body → Bool) (fits : A → Bool) (wrap : A → Parser A) (P : A
    → List Token → Type 0)
    → ((left a : A) (tokens mid : List Token) → goes left (next_body tokens) ≡ true → fits left ≡ true
    → wrap left tokens ≡ Found a mid → P left tokens → P a mid)
    → (n : ℕ) (left a : A) (tokens rest : List Token) → P left tokens → climb goes fits wrap n left tokens
    ≡ Found a rest → P a rest
unfolding climb
climb_found goes fits wrap P turn zero left a tokens rest holds h =
    elim (chosen (goes left (next_body tokens)) _ _ tokens (Found a rest) h) [
      | inl y ↦ absurd (cc (y.1))
      | inr y ↦ moved P y.1 holds
    ]
climb_found goes fits wrap P turn (suc n) left a tokens rest holds h =
    elim (chosen (goes left (next_body tokens)) _ _ tokens (Found a rest) h) [
      | inl y ↦ elim (chosen (fits left) _ _ tokens (Found a rest) y.1) [
        | inl z ↦
            (let x = bind_found (wrap left tokens) (climb goes fits wrap n) a rest z.1 in
            climb_found goes fits wrap P turn n x.value a x.mid rest
            (turn left x.value tokens x.mid y.0 z.0 x.one holds) x.two)
        | inr z ↦ absurd (cc (z.1))
      ]
      | inr y ↦ moved P y.1 holds
    ]
