-- What it means that the steps of a parser stopped, and how what begins a part begins the whole.
use Rattle.std.proofs.Common.{◌≡◌, ◌⊎◌, inl, inr, ℕ, zero, suc, ◌≤◌, ◌<◌, max, Bool, true, false, ◌&&◌, not, List, []}
use Rattle.std.proofs.Common.{◌∷◌, ◌++◌, length, Option, Some, None, refl, sym, ◌∙◌, ap, subst, append_assoc, arith}
use Rattle.c_lexer.specs.declared.punct.Punct.{Punct}
use Rattle.c_lexer.specs.declared.token.Body.{Body}
use Rattle.c_lexer.specs.declared.token.Token.{Token}
use Rattle.c_syntax.specs.declared.spelled.Spelled.{Spelled}
use Rattle.c_syntax.specs.Begin.{Begins}
use Rattle.c_reading.specs.Parser.{Why, Unfit, TooDeep, Outcome, Found, Stopped, Parser, and_then, ◌>>=◌, pure, fail}
use Rattle.c_reading.specs.Parser.{skip, deeper, expect, next_body, tail, go, many, climb, goes_listing, behind_comma}
use Rattle.c_reading.specs.Parser.{next_listing, more_listed, comma_list, ones, has_ending}
use Rattle.c_reading.specs.ReadExpr.{expr_lower, begins_expr}
use Rattle.c_reading.specs.ReadToken.{is_mark}
use Rattle.c_syntax.specs.Scopes.{Scope}
use Rattle.c_syntax.specs.Tokens.{Match, mark}
use Rattle.c_syntax.specs.Tree.{Expr}
use Rattle.c_reading.proofs.Sound.Steps.{chosen, bind_found, Spelt, mark_found}
use Rattle.c_reading.proofs.Takes.{Takes}
use Rattle.c_reading.proofs.Viable.Law.{Holds}

-- ---- where the steps of a parser stopped

abbrev OnStopped : {A : Type 0} → (Why → List Token → Type 0) → Outcome A → Type 0
OnStopped P (Found a rest) = Unit {0}
OnStopped P (Stopped why rest) = P why rest

-- what holds of one stop holds of an equal one
pub stopped : {A : Type 0} (P : Why → List Token → Type 0) {why other : Why} {tokens rest : List Token}
    → ◌≡◌ {A = Outcome A} (Stopped why tokens) (Stopped other rest) → P why tokens → P other rest
stopped P h x = subst (OnStopped P) h x

-- the first of two parsers found something, and the second stopped
pub record Reached {A B : Type 0} (g : Outcome A) (f : A → Parser B) (why : Why) (rest : List Token) : Type 0 where
  pub value : A
  pub mid : List Token
  pub one : g ≡ Found value mid
  pub two : f value mid ≡ Stopped why rest

-- two parsers one behind the other: the first stopped, or it found something and the second did
pub bind_stopped : {A B : Type 0} (g : Outcome A) (f : A → Parser B) (why : Why) (rest : List Token)
    → and_then g f ≡ Stopped why rest → (g ≡ Stopped why rest) ⊎ Reached g f why rest
bind_stopped (Found a mid) f why rest h = inr (record { value = a; mid = mid; one = refl; two = h })
bind_stopped (Stopped other_why r) f why rest h = inl (cc (h))

-- a parser that is followed by one that gives: the first stopped
pub given_stopped : {A B : Type 0} (g : Outcome A) (f : A → B) (why : Why) (rest : List Token)
    → and_then g (λ a. pure (f a)) ≡ Stopped why rest → g ≡ Stopped why rest
given_stopped (Found a mid) f why rest h = absurd (cc (h))
given_stopped (Stopped other_why r) f why rest h = cc (h)

-- a mark or word that had to come stops before another token
pub expect_stopped : (test : Option Body → Bool) (P : Why → List Token
    → Type 0) (tokens : List Token) (why : Why) (rest : List Token) → expect test tokens ≡ Stopped why rest
    → P Unfit tokens → P why rest
expect_stopped test P tokens why rest h unfit =
    elim (chosen (test (next_body tokens)) (skip (pure tt)) (fail Unfit) tokens (Stopped why rest) h) [
      | inl x ↦ absurd (cc (x.1))
      | inr x ↦ stopped P x.1 unfit
    ]

-- a mark, and then more
pub mark_stopped : {B : Type 0} (m : Punct) (more : Parser B) (P : Why → List Token
    → Type 0) (tokens : List Token) (why : Why) (rest : List Token)
    → and_then (expect (is_mark m) tokens) (λ _. more) ≡ Stopped why rest
    → P Unfit tokens
    → ((mid : List Token) → Spelt tokens (mark m ∷ []) mid → more mid ≡ Stopped why rest → P why rest)
    → P why rest
mark_stopped m more P tokens why rest h unfit next =
    elim (bind_stopped (expect (is_mark m) tokens) (λ _. more) why rest h) [
      | inl x ↦ expect_stopped (is_mark m) P tokens why rest x unfit
      | inr x ↦ next x.mid (mark_found m tokens x.mid x.value x.one) x.two
    ]

-- the last mark of a node
pub close_stopped : {B : Type 0} (m : Punct) (b : B) (P : Why → List Token
    → Type 0) (tokens : List Token) (why : Why) (rest : List Token)
    → and_then (expect (is_mark m) tokens) (λ _. pure b) ≡ Stopped why rest → P Unfit tokens → P why rest
close_stopped m b P tokens why rest h unfit =
    expect_stopped (is_mark m) P tokens why rest (given_stopped (expect (is_mark m) tokens) (λ _. b) why rest h) unfit

-- no height was left, or there was some and the parser stopped
pub deeper_stopped : {A : Type 0} (P : Why → List Token → Type 0) (k : ℕ) (r : Parser A) (tokens : List Token)
    (why : Why) (rest : List Token) → deeper k r tokens ≡ Stopped why rest
    → P TooDeep tokens
    → (0 < k → r tokens ≡ Stopped why rest → P why rest)
    → P why rest
deeper_stopped P zero r tokens why rest h deep next = stopped P h deep
deeper_stopped P (suc k) r tokens why rest h deep next = next (omega arith) h

-- no expression begins, there is no height for it, or it stopped
pub expr_lower_stopped : (P : Why → List Token → Type 0) (scope : Scope) (k : ℕ) (r : Parser Expr)
    (tokens : List Token) (why : Why) (rest : List Token) → expr_lower scope k r tokens ≡ Stopped why rest
    → P Unfit tokens
    → (begins_expr scope (next_body tokens) ≡ true → P TooDeep tokens)
    → (0 < k → r tokens ≡ Stopped why rest → P why rest)
    → P why rest
unfolding expr_lower
expr_lower_stopped P scope k r tokens why rest h unfit deep next =
    elim (chosen (begins_expr scope (next_body tokens)) (deeper k r) (fail Unfit) tokens (Stopped why rest) h) [
      | inl x ↦ deeper_stopped P k r tokens why rest x.1 (deep x.0) next
      | inr x ↦ stopped P x.1 unfit
    ]

-- ---- where a list stopped

-- what holds where an element stops, and before an element that is found, by the state after it, holds where the list
-- stops
module _ {S A : Type 0} (goes : S → Option Body → Bool) (step : S → Parser A) (next : S → A → S)
    (P : S → List Token → Why → List Token → Type 0)
    (fails : (s : S) (tokens rest : List Token) (why : Why) → goes s (next_body tokens) ≡ true
    → step s tokens ≡ Stopped why rest → P s tokens why rest)
    (some : (s : S) (tokens mid rest : List Token) (a : A) (why : Why) → goes s (next_body tokens) ≡ true
    → step s tokens ≡ Found a mid → P (next s a) mid why rest → P s tokens why rest) where
  go_stopped : (n : ℕ) (s : S) (tokens rest : List Token) (why : Why)
      → go goes step next n s tokens ≡ Stopped why rest → P s tokens why rest
  go_stopped zero s tokens rest why h = absurd (cc (h))
  go_stopped (suc n) s tokens rest why h =
      elim (chosen (goes s (next_body tokens)) _ _ tokens (Stopped why rest) h) [
        | inl y ↦ elim (bind_stopped (step s tokens) (λ a. go goes step next n (next s a)
            >>= λ more. pure (a ∷ more)) why rest y.1) [
              | inl x ↦ fails s tokens rest why y.0 x
              | inr x ↦ some s tokens x.mid rest x.value why y.0 x.one
                  (go_stopped n (next s x.value) x.mid rest why
                  (given_stopped (go goes step next n (next s x.value) x.mid) (λ more. x.value ∷ more) why rest x.two))
            ]
        | inr y ↦ absurd (cc (y.1))
      ]

  -- so where one of a list stops
  pub many_stopped : (s : S) (tokens rest : List Token) (why : Why)
      → many goes step next s tokens ≡ Stopped why rest → P s tokens why rest
  unfolding many
  many_stopped s tokens rest why h = go_stopped (suc (length tokens)) s tokens rest why h

-- likewise of what stands behind the first of a list with commas, where the ending never stops
module _ {S A : Type 0} (is_comma : Option Body → Bool) (ends : Option Body
    → Bool) (ending : Parser (Unit {0})) (one : S → Parser A) (next : S → A → S)
    (P : S → List Token → Why → List Token → Type 0)
    (never : (tokens rest : List Token) (why : Why) → ending tokens ≡ Stopped why rest → ⊥)
    (fails : (s : S) (tokens rest : List Token) (why : Why) → is_comma (next_body tokens) ≡ true
    → one s (tail tokens) ≡ Stopped why rest → P s tokens why rest)
    (some : (s : S) (tokens mid rest : List Token) (a : A) (why : Why) → is_comma (next_body tokens) ≡ true
    → one s (tail tokens) ≡ Found a mid → P (next s a) mid why rest → P s tokens why rest) where
  -- once it is over, nothing stops
  abbrev OnListing : Bool → S → List Token → Why → List Token → Type 0
  OnListing true s tokens why rest = ⊥
  OnListing false s tokens why rest = P s tokens why rest

  listing_fails : (over : Bool) (s : S) (tokens rest : List Token) (why : Why)
      → not over && is_comma (next_body tokens) ≡ true
      → behind_comma is_comma ends ending one next (record { state = s; over = over }) tokens ≡ Stopped why rest
      → OnListing over s tokens why rest
  unfolding behind_comma
  listing_fails true s tokens rest why comma h = absurd (cc (comma))
  listing_fails false s tokens rest why comma h =
      elim (chosen (ends (next_body (tail tokens))) _ _ (tail tokens) (Stopped why rest) h) [
        | inl y ↦ absurd (never (tail tokens) rest why (given_stopped (ending (tail tokens)) (λ _. None) why rest y.1))
        | inr y ↦ fails s tokens rest why comma (given_stopped (one s (tail tokens)) (λ a. Some a) why rest y.1)
      ]

  listing_some : (over : Bool) (s : S) (tokens mid rest : List Token) (a : Option A) (why : Why)
      → not over && is_comma (next_body tokens) ≡ true
      → behind_comma is_comma ends ending one next (record { state = s; over = over }) tokens ≡ Found a mid
      → OnListing (next_listing is_comma ends ending one next (record { state = s; over = over }) a).over
      (next_listing is_comma ends ending one next (record { state = s; over = over }) a).state mid why rest
      → OnListing over s tokens why rest
  unfolding behind_comma
  listing_some true s tokens mid rest a why comma h then = absurd (cc (comma))
  listing_some false s tokens mid rest None why comma h then = absurd then
  listing_some false s tokens mid rest (Some a) why comma h then =
      elim (chosen (ends (next_body (tail tokens))) _ _ (tail tokens) (Found (Some a) mid) h) [
        | inl y ↦ let x = bind_found (ending (tail tokens)) (λ _. pure None) (Some a) mid y.1 in absurd (cc (x.two))
        | inr y ↦
            (let x = bind_found (one s (tail tokens)) (λ a. pure (Some a)) (Some a) mid y.1 in
            some s tokens mid rest a why comma (x.one ∙ cc (x.two)) then)
      ]

  -- where the first stops, or what stands behind the first
  pub listed_stopped : (Q : Why → List Token → Type 0) (s : S) (tokens rest : List Token) (why : Why)
      → comma_list is_comma ends ending one next s tokens ≡ Stopped why rest
      → (one s tokens ≡ Stopped why rest → Q why rest)
      → ((a : A) (mid : List Token) → one s tokens ≡ Found a mid → P (next s a) mid why rest → Q why rest)
      → Q why rest
  unfolding comma_list more_listed
  listed_stopped Q s tokens rest why h first behind =
      elim (bind_stopped (one s tokens) (λ first. more_listed is_comma ends ending one next (next s first)
      >>= λ rest. pure (first ∷ ones rest, has_ending rest)) why rest h) [
        | inl x ↦ first x
        | inr x ↦ behind x.value x.mid x.one
            (many_stopped (goes_listing is_comma ends ending one next) (behind_comma is_comma ends ending one next)
            (next_listing is_comma ends ending one next) (λ l. OnListing l.over l.state)
            (λ l tokens rest why goes h. listing_fails l.over l.state tokens rest why goes h)
            (λ l tokens mid rest a why goes h then. listing_some l.over l.state tokens mid rest a why goes h then)
            (record { state = next s x.value; over = false }) x.mid rest why
            (given_stopped (more_listed is_comma ends ending one next (next s x.value) x.mid)
            (λ rest. (x.value ∷ ones rest, has_ending rest)) why rest x.two))
      ]

-- ---- where one node around another stopped

-- what is asked at an operator behind a tree of which P holds: where it stops, and that no height may be left
pub climb_stopped : {A : Type 0} (goes : A → Option Body → Bool) (fits : A → Bool) (wrap : A → Parser A) (P : A
    → List Token → Type 0) (Q : Why → List Token → Type 0)
    → ((left a : A) (tokens mid : List Token) → goes left (next_body tokens) ≡ true → fits left ≡ true
    → wrap left tokens ≡ Found a mid → P left tokens → P a mid)
    → ((left : A) (tokens rest : List Token) (why : Why) → goes left (next_body tokens) ≡ true → fits left ≡ true
    → wrap left tokens ≡ Stopped why rest → P left tokens → Q why rest)
    → ((left : A) (tokens : List Token) → goes left (next_body tokens) ≡ true → P left tokens → Q TooDeep tokens)
    → (n : ℕ) (left : A) (tokens rest : List Token) (why : Why) → P left tokens
    → climb goes fits wrap n left tokens ≡ Stopped why rest → Q why rest
unfolding climb
climb_stopped goes fits wrap P Q turn fails deep zero left tokens rest why holds h =
    elim (chosen (goes left (next_body tokens)) _ _ tokens (Stopped why rest) h) [
      | inl y ↦ stopped Q y.1 (deep left tokens y.0 holds)
      | inr y ↦ absurd (cc (y.1))
    ]
climb_stopped goes fits wrap P Q turn fails deep (suc n) left tokens rest why holds h =
    elim (chosen (goes left (next_body tokens)) _ _ tokens (Stopped why rest) h) [
      | inl y ↦ elim (chosen (fits left) _ _ tokens (Stopped why rest) y.1) [
        | inl z ↦ elim (bind_stopped (wrap left tokens) (climb goes fits wrap n) why rest z.1) [
          | inl x ↦ fails left tokens rest why y.0 z.0 x holds
          | inr x ↦ climb_stopped goes fits wrap P Q turn fails deep n x.value x.mid rest why
              (turn left x.value tokens x.mid y.0 z.0 x.one holds) x.two
        ]
        | inr z ↦ stopped Q z.1 (deep left tokens y.0 holds)
      ]
      | inr y ↦ absurd (cc (y.1))
    ]

-- ---- tokens that a spelling is matched by

-- one spelling behind another
pub match_append : (tokens more : List Token) (front behind : List Spelled) → Match tokens front → Match more behind
    → Match (tokens ++ more) (front ++ behind)
match_append [] more [] behind one two = two
match_append [] more (s ∷ front) behind one two = absurd one
match_append (t ∷ tokens) more [] behind one two = absurd one
match_append (t ∷ tokens) more (s ∷ front) behind one two =
    (one.0, one.1, match_append tokens more front behind one.2 two)

-- the tokens before the rest, which are spelled so
pub record Before (tokens : List Token) (front : List Spelled) (rest : List Token) : Type 0 where
  pub before : List Token
  pub parts : tokens ≡ before ++ rest
  pub match : Match before front

takes_before : (tokens rest : List Token) (front : List Spelled) → Takes tokens front rest → Before tokens front rest
takes_before tokens rest [] all = record { before = []; parts = all; match = tt }
takes_before [] rest (s ∷ front) all = absurd all
takes_before (t ∷ tokens) rest (s ∷ front) all =
    let x = takes_before tokens rest front all.2 in
    record { before = t ∷ x.before; parts = ap (λ z. t ∷ z) x.parts; match = (all.0, all.1, x.match) }

pub before_of : {tokens rest : List Token} {front : List Spelled} → Spelt tokens front rest → Before tokens front rest
before_of {tokens = tokens} {rest = rest} {front = front} spelt = takes_before tokens rest front spelt.takes

-- ---- completions

-- the spelling of some node that fits, of this height at most, begins so
pub record Completed {A : Type 0} (Fits : A → Type 0) (tall : A → ℕ) (spelled : A
    → List Spelled) (most : ℕ) (front : List Spelled) : Type 0 where
  pub node : A
  pub more : List Spelled
  pub fits : Fits node
  pub within : tall node ≤ most
  pub parts : spelled node ≡ front ++ more

module _ {A : Type 0} {Fits : A → Type 0} {tall : A → ℕ} {spelled : A → List Spelled} where
  -- what begins a node of a height begins one of more
  pub begins_higher : (low high : ℕ) (tokens : List Token) → low ≤ high → Begins Fits tall spelled low tokens
      → Begins Fits tall spelled high tokens
  begins_higher low high tokens le b =
      record {
        node = b.node;
        front = b.front;
        more = b.more;
        fits = b.fits;
        within =
            omega (arith, b.within);
        parts = b.parts;
        match = b.match;
      }

  begun : (most : ℕ) (tokens : List Token) (front : List Spelled) → Match tokens front
      → Completed Fits tall spelled most front → Begins Fits tall spelled most tokens
  begun most tokens front match c = record {
    node = c.node;
    front = front;
    more = c.more;
    fits = c.fits;
    within =
        c.within;
    parts = c.parts;
    match = match;
  }

  -- a rest that is refused for its token, whatever the height
  pub refused : {most : ℕ} {tokens rest : List Token} {front : List Spelled} → Spelt tokens front rest
      → Completed Fits tall spelled most front → Holds (Begins Fits tall spelled) most tokens Unfit rest
  refused {most = most} {tokens = tokens} {rest = rest} {front = front} spelt c =
      let x = before_of spelt in
      record {
        before = x.before;
        parts = x.parts;
        begins = begun most x.before front x.match c;
        deep =
            λ e. absurd (cc (e));
      }

  -- a rest whose token only a higher node has here
  pub too_deep : {most high : ℕ} {tokens rest behind : List Token} {front : List Spelled} {next : Spelled}
      → Spelt tokens front rest → Spelt rest (next ∷ []) behind → Completed Fits tall spelled most front
      → Completed Fits tall spelled high (front ++ next ∷ [])
      → Holds (Begins Fits tall spelled) most tokens TooDeep rest
  too_deep {most = most} {high = high} {tokens = tokens} {rest = rest} {behind = behind} {front = front} {next =
      next} spelt one c d =
      let x = before_of spelt in by x.before x.match rest x.parts one.takes
    where
      by : (before : List Token) → Match before front → (rest : List Token) → tokens ≡ before ++ rest
          → Takes rest (next ∷ []) behind → Holds (Begins Fits tall spelled) most tokens TooDeep rest
      by before match [] parts one = absurd one
      by before match (token ∷ after) parts one = record {
        before = before;
        parts = parts;
        begins = begun most before front match c;
        deep = λ e. (
          token,
          after,
          refl,
          (
            high,
            begun high (before ++ token ∷ []) (front ++ next ∷ [])
                (match_append before (token ∷ []) front (next ∷ []) match (one.0, one.1, tt)) d,
          ),
        );
      }

-- what fits in one way fits in another
pub weaker : {A : Type 0} {Fits Fits' : A → Type 0} {tall : A → ℕ} {spelled : A
    → List Spelled} {most : ℕ} {tokens rest : List Token} {why : Why} → ((a : A) → Fits a → Fits' a)
    → Holds (Begins Fits tall spelled) most tokens why rest → Holds (Begins Fits' tall spelled) most tokens why rest
weaker {A = A} {Fits = Fits} {Fits' = Fits'} {tall = tall} {spelled = spelled} {most = most} {rest = rest} {why =
    why} fit x = record {
      before = x.before;
      parts = x.parts;
      begins = refit most x.before x.begins;
      deep = λ e. let d = x.deep e in (d.0, d.1, d.2, (d.3.0, refit d.3.0 (x.before ++ d.0 ∷ []) d.3.1));
    }
  where
    refit : (most : ℕ) (tokens : List Token) → Begins Fits tall spelled most tokens
        → Begins Fits' tall spelled most tokens
    refit most tokens b = record {
      node = b.node;
      front = b.front;
      more = b.more;
      fits = fit b.node b.fits;
      within =
          b.within;
      parts = b.parts;
      match = b.match;
    }

-- A whole made of a part, with these tokens before the part and others behind it. The whole's other parts have at most
-- the least height, and the whole rises above a part that has it.
pub record Context {A B : Type 0} (Fits : A → Type 0) (tall : A → ℕ) (spelled : A → List Spelled) (Fits' : B
    → Type 0) (tall' : B → ℕ) (spelled' : B → List Spelled) (rise : ℕ → ℕ) (least : ℕ) (front : List Spelled)
    : Type 0 where
  pub make : A → B
  pub behind : List Spelled
  pub fits : (a : A) → Fits a → Fits' (make a)
  pub within : (a : A) (j : ℕ) → least ≤ j → tall a ≤ j → tall' (make a) ≤ rise j
  pub spells : (a : A) → spelled' (make a) ≡ front ++ (spelled a ++ behind)

module _ {A B : Type 0} {Fits : A → Type 0} {tall : A → ℕ} {spelled : A → List Spelled} {Fits' : B
    → Type 0} {tall' : B → ℕ} {spelled' : B → List Spelled} {rise : ℕ → ℕ} {least : ℕ} {front : List Spelled} where
  in_context : Context Fits tall spelled Fits' tall' spelled' rise least front
      → (j : ℕ) (before tokens : List Token) → Match before front → least ≤ j → Begins Fits tall spelled j tokens
      → Begins Fits' tall' spelled' (rise j) (before ++ tokens)
  in_context context j before tokens match low b = record {
    node = context.make b.node;
    front = front ++ b.front;
    more = b.more ++ context.behind;
    fits = context.fits b.node b.fits;
    within = context.within b.node j low b.within;
    parts = context.spells b.node ∙ ap (λ z. front ++ (z ++ context.behind)) b.parts ∙ simp append_assoc;
    match = match_append before tokens front b.front match b.match;
  }

  -- a part that stopped, and so the whole
  pub into : {k : ℕ} {tokens mid rest : List Token} {why : Why}
      → Context Fits tall spelled Fits' tall' spelled' rise least front → least ≤ k → Spelt tokens front mid
      → Holds (Begins Fits tall spelled) k mid why rest
      → Holds (Begins Fits' tall' spelled') (rise k) tokens why rest
  into {k = k} {tokens = tokens} {mid = mid} {rest = rest} {why = why} context low spelt x =
      let b = before_of spelt in
      record {
        before = b.before ++ x.before;
        parts = b.parts ∙ ap (λ z. b.before ++ z) x.parts ∙ sym (append_assoc b.before x.before rest);
        begins = in_context context k b.before x.before b.match low x.begins;
        deep = λ e.
            let d = x.deep e in
            let high : ℕ = max least d.3.0 in (
              d.0,
              d.1,
              d.2,
              (
                rise high,
                subst (Begins Fits' tall' spelled' (rise high)) (sym (append_assoc b.before x.before (d.0 ∷ [])))
                    (in_context context high b.before (x.before ++ d.0 ∷ []) b.match (omega arith)
                    (begins_higher d.3.0 high (x.before ++ d.0 ∷ []) (omega arith) d.3.1)),
              ),
            );
      }
