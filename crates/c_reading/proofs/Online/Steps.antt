-- What parsers are made of gives what depends on the tokens read and on the next token alone.
use Rattle.std.proofs.Common.{◌≡◌, inl, inr, ℕ, zero, suc, ◌≤◌, ◌<◌, max, Bool, true, false, List, [], ◌∷◌, ◌++◌}
use Rattle.std.proofs.Common.{length, Option, Some, None, refl, sym, ◌∙◌, ap, subst, append_assoc, arith}
use Rattle.std.proofs.Common.{length-append}
use Rattle.std.proofs.lemmas.List.{append_cancel_right}
use Rattle.critical_table.specs.declared.pos.Pos.{Pos}
use Rattle.c_lexer.specs.declared.token.Token.{Token}
use Rattle.c_lexer.specs.declared.token.Body.{Body}
use Rattle.c_reading.specs.Parser.{Why, Unfit, TooDeep, Outcome, Found, Stopped, Parser, and_then, ◌>>=◌, pure, fail}
use Rattle.c_reading.specs.Parser.{next_body, place, tail, peek, here, skip, choose, deeper, expect, go, many, climb}
use Rattle.c_reading.specs.Parser.{Listing, goes_listing, behind_comma, next_listing, more_listed, comma_list, ones}
use Rattle.c_reading.specs.Parser.{has_ending}
use Rattle.c_reading.proofs.Sound.Steps.{moved, bind_found, chosen}

-- the token that stands next
abbrev pub head : List Token → Option Token
head [] = None
head (token ∷ tokens) = Some token

-- with other tokens after what was read
abbrev pub moved_to : {A : Type 0} → Outcome A → List Token → Outcome A
moved_to (Found a rest) other = Found a other
moved_to (Stopped why rest) other = Stopped why other

-- the tokens from which on a parser has read nothing
abbrev pub rest_of : {A : Type 0} → Outcome A → List Token
rest_of (Found a rest) = rest
rest_of (Stopped why rest) = rest

-- what was read decides, with the next token: with others behind that begin alike, the outcome is the same
pub record Local {A : Type 0} (p : Parser A) (tokens : List Token) (g : Outcome A) : Type 0 where
  pub before : List Token
  pub parts : tokens ≡ before ++ rest_of g
  pub same : (other : List Token) → head other ≡ head (rest_of g) → p (before ++ other) ≡ moved_to g other

-- the parser is local to what it read and the next token, on all tokens
abbrev pub Online : {A : Type 0} → Parser A → Type 0
Online p = (tokens : List Token) → Local p tokens (p tokens)

-- ---- one token

same_head : (before rest other : List Token) → head other ≡ head rest → head (before ++ other) ≡ head (before ++ rest)
same_head [] rest other h = h
same_head (token ∷ before) rest other h = refl

no_parts : (before rest : List Token) → [] ≡ before ++ rest → (before ≡ []) × ([] ≡ rest)
no_parts [] rest h = (refl, h)
no_parts (token ∷ before) rest h = absurd (cc (h))

-- each step of a parser is online, where its parts are
pub online_pure : {A : Type 0} (a : A) → Online (pure a)
online_pure a tokens = record { before = []; parts = refl; same = λ other h. refl }

pub online_fail : {A : Type 0} (why : Why) → Online (fail {A = A} why)
online_fail why tokens = record { before = []; parts = refl; same = λ other h. refl }

pub online_skip : {A : Type 0} (p : Parser A) → Online p → Online (skip p)
online_skip p on [] =
    record { before = []; parts = (no_parts (on []).before (rest_of (p [])) (on []).parts).1; same = at_end }
  where
    at_end : (other : List Token) → head other ≡ head (rest_of (p [])) → p (tail other) ≡ moved_to (p []) other
    at_end [] h = let x = on [] in let y = no_parts x.before (rest_of (p [])) x.parts in
        let z : p (x.before ++ []) ≡ moved_to (p []) [] = x.same [] h in
        subst (λ b. p (b ++ []) ≡ moved_to (p []) []) y.0 z
    at_end (token ∷ other) h = let x = on [] in let y = no_parts x.before (rest_of (p [])) x.parts in
        absurd (cc (h, ap head (sym y.1)))
online_skip p on (token ∷ tokens) =
    let x = on tokens in record { before = token ∷ x.before; parts = ap (λ z. token ∷ z) x.parts; same = x.same }

-- a parser by what the next token shows
by_view : {A B : Type 0} (view : List Token → B) → ((x y : List Token) → head x ≡ head y → view x ≡ view y)
    → (f : B → Parser A)
    → ((b : B) → Online (f b)) → Online (λ tokens. f (view tokens) tokens)
by_view view alike f on tokens =
    let x = on (view tokens) tokens in
    record {
      before = x.before;
      parts = x.parts;
      same = λ other h.
          let e : head (x.before ++ other) ≡ head tokens =
          same_head x.before (rest_of (f (view tokens) tokens)) other h ∙ ap head (sym x.parts) in
          subst (λ b. f b (x.before ++ other) ≡ moved_to (f (view tokens) tokens) other)
          (sym (alike (x.before ++ other) tokens e)) (x.same other h);
    }

same_seen : (x y : List Token) → head x ≡ head y → next_body x ≡ next_body y
same_seen [] [] h = refl
same_seen [] (token ∷ y) h = absurd (cc)
same_seen (token ∷ x) [] h = absurd (cc)
same_seen (token ∷ x) (token' ∷ y) h = let e : token ≡ token' = cc in ap (λ t. Some t.body) e

same_place : (x y : List Token) → head x ≡ head y → place x ≡ place y
same_place [] [] h = refl
same_place [] (token ∷ y) h = absurd (cc)
same_place (token ∷ x) [] h = absurd (cc)
same_place (token ∷ x) (token' ∷ y) h = let e : token ≡ token' = cc in ap (λ t. t.pos) e

pub online_peek : {A : Type 0} (f : Option Body → Parser A) → ((o : Option Body) → Online (f o)) → Online (peek f)
online_peek f on = by_view next_body same_seen f on

pub online_here : {A : Type 0} (f : Pos → Parser A) → ((pos : Pos) → Online (f pos)) → Online (here f)
online_here f on = by_view place same_place f on

pub online_choose : {A : Type 0} (b : Bool) (p q : Parser A) → Online p → Online q → Online (choose b p q)
online_choose true p q on on' = on
online_choose false p q on on' = on'

pub online_deeper : {A : Type 0} (k : ℕ) (p : Parser A) → Online p → Online (deeper k p)
online_deeper zero p on = online_fail TooDeep
online_deeper (suc k) p on = on

pub online_expect : (test : Option Body → Bool) → Online (expect test)
online_expect test =
    online_peek _ (λ o. online_choose (test o) _ _ (online_skip _ (online_pure tt)) (online_fail Unfit))

-- ---- one after another

bound : {A B : Type 0} (p : Parser A) (f : A → Parser B) (tokens : List Token) (g : Outcome A) → Local p tokens g
    → ((a : A) → Online (f a))
    → Local (p >>= f) tokens (and_then g f)
bound p f tokens (Stopped why rest) x on =
    record { before = x.before; parts = x.parts; same = λ other h. ap (λ g. and_then g f) (x.same other h) }
bound p f tokens (Found a rest) x on =
    let y = on a rest in
    record {
      before = x.before ++ y.before;
      parts = x.parts ∙ ap (λ z. x.before ++ z) y.parts ∙ sym (append_assoc x.before y.before (rest_of (f a rest)));
      same = λ other h.
          let e : head (y.before ++ other) ≡ head rest = same_head y.before (rest_of (f a rest)) other h
          ∙ ap head (sym y.parts) in
          ap (λ z. and_then (p z) f) (append_assoc x.before y.before other)
          ∙ ap (λ g. and_then g f) (x.same (y.before ++ other) e) ∙ y.same other h;
    }

pub online_bind : {A B : Type 0} (p : Parser A) (f : A → Parser B) → Online p → ((a : A) → Online (f a))
    → Online (p >>= f)
online_bind p f on on' tokens = bound p f tokens (p tokens) (on tokens) on'

-- with a mark behind
pub online_before : {A B : Type 0} (p : Parser A) (test : Option Body → Bool) (f : A → Parser B) → Online p
    → ((a : A) → Online (f a))
    → Online (p >>= λ a. expect test >>= λ _. f a)
online_before p test f on on' = online_bind p _ on (λ a. online_bind (expect test) _ (online_expect test) (λ _. on' a))

-- ---- at least one token

-- what it finds has a token, where there is one
abbrev pub TakesOne : {A : Type 0} → Parser A → Type 0
TakesOne {A} p = (token : Token) (tokens rest : List Token) (a : A) → p (token ∷ tokens) ≡ Found a rest
    → length rest ≤ length tokens

-- what an online parser finds has no more tokens behind it than before
pub no_longer : {A : Type 0} (p : Parser A) → Online p → (tokens rest : List Token) (a : A)
    → p tokens ≡ Found a rest → length rest ≤ length tokens
no_longer p on tokens rest a h =
    let x = on tokens in
    let e : length tokens ≡ length (x.before ++ rest_of (p tokens)) = ap length x.parts in
    let l : length (rest_of (p tokens)) ≡ length rest = ap (λ g. length (rest_of g)) h in
    omega (arith, length-append x.before (rest_of (p tokens)))

-- each step that skips a token, or has a part that finds one, does
pub takes_fail : {A : Type 0} (why : Why) → TakesOne (fail {A = A} why)
takes_fail why token tokens rest a h = absurd (cc)

pub takes_skip : {A : Type 0} (p : Parser A) → Online p → TakesOne (skip p)
takes_skip p on token tokens rest a h = no_longer p on tokens rest a h

pub takes_peek : {A : Type 0} (f : Option Body → Parser A) → ((next : Body) → TakesOne (f (Some next)))
    → TakesOne (peek f)
takes_peek f takes token tokens rest a h = takes token.body token tokens rest a h

pub takes_here : {A : Type 0} (f : Pos → Parser A) → ((pos : Pos) → TakesOne (f pos)) → TakesOne (here f)
takes_here f takes token tokens rest a h = takes token.pos token tokens rest a h

pub takes_choose : {A : Type 0} (b : Bool) (p q : Parser A) → TakesOne p → TakesOne q → TakesOne (choose b p q)
takes_choose true p q takes takes' = takes
takes_choose false p q takes takes' = takes'

pub takes_deeper : {A : Type 0} (k : ℕ) (p : Parser A) → TakesOne p → TakesOne (deeper k p)
takes_deeper zero p takes = takes_fail TooDeep
takes_deeper (suc k) p takes = takes

taken : {A B : Type 0} (g : Outcome A) (f : A → Parser B) (tokens rest : List Token) (b : B)
    → ((mid : List Token) (a : A) → g ≡ Found a mid → length mid ≤ length tokens) → ((a : A) → Online (f a))
    → and_then g f ≡ Found b rest → length rest ≤ length tokens
taken (Found a mid) f tokens rest b low on h = let first = low mid a refl in let second =
    no_longer (f a) (on a) mid rest b h in omega arith
taken (Stopped why mid) f tokens rest b low on h = absurd (cc)

pub takes_bind : {A B : Type 0} (p : Parser A) (f : A → Parser B) → TakesOne p → ((a : A) → Online (f a))
    → TakesOne (p >>= f)
takes_bind p f takes on token tokens rest b h =
    taken (p (token ∷ tokens)) f tokens rest b (λ mid a e. takes token tokens mid a e) on h

-- ---- lists

module _ {S A : Type 0} (goes : S → Option Body → Bool) (step : S → Parser A) (next : S → A → S) where
  abbrev turn : ℕ → S → Outcome A → Outcome (List A)
  turn n s g = and_then g (λ a. go goes step next n (next s a) >>= λ more. pure (a ∷ more))

  module _ (on : (s : S) → Online (step s)) where
    -- what follows one more
    pub turn_online : (n : ℕ) (s : S) (each : (s : S) → Online (go goes step next n s)) (a : A)
        → Online (go goes step next n (next s a) >>= λ more. pure (a ∷ more))
    turn_online n s each a =
        online_bind (go goes step next n (next s a)) _ (each (next s a)) (λ more. online_pure (a ∷ more))

    pub go_online : (n : ℕ) (s : S) → Online (go goes step next n s)
    go_online zero s = online_pure []
    go_online (suc n) s =
        online_peek _
        (λ o. online_choose (goes s o) _ _ (online_bind (step s) _ (on s) (turn_online n s (go_online n)))
        (online_pure []))

    module _ (ends : (s : S) → goes s None ≡ false) (takes : (s : S) → TakesOne (step s)) where
      -- one number is as good as another, if there are no more tokens
      go_same : (n m : ℕ) (s : S) (tokens : List Token) → length tokens < n → length tokens < m
          → go goes step next n s tokens ≡ go goes step next m s tokens
      go_same zero m s tokens low low' = absurd (omega arith)
      go_same (suc n) zero s tokens low low' = absurd (omega arith)
      go_same (suc n) (suc m) s [] low low' = rw (ends s) refl
      go_same (suc n) (suc m) s (token ∷ tokens) low low' =
          by (goes s (Some token.body))
          (turns (step s (token ∷ tokens)) refl (λ s' rest less less'. go_same n m s' rest less less'))
        where
          turns : (g : Outcome A) → step s (token ∷ tokens) ≡ g
              → ((s' : S) (rest : List Token) → length rest < n → length rest < m
              → go goes step next n s' rest ≡ go goes step next m s' rest) → turn n s g ≡ turn m s g
          turns (Found a rest) e again =
              let less = takes s token tokens rest a e in
              ap (λ g. and_then g (λ more. pure (a ∷ more)))
              (again (next s a) rest (omega (arith, less)) (omega (arith, less)))
          turns (Stopped why rest) e again = refl

          by : (b : Bool) → turn n s (step s (token ∷ tokens)) ≡ turn m s (step s (token ∷ tokens))
              → choose b (step s >>= λ a. go goes step next n (next s a) >>= λ more. pure (a ∷ more)) (pure [])
              (token ∷ tokens)
              ≡ choose b (step s >>= λ a. go goes step next m (next s a) >>= λ more. pure (a ∷ more)) (pure [])
              (token ∷ tokens)
          by true same = same
          by false same = refl

      pub many_is : (n : ℕ) (s : S) (tokens : List Token) → length tokens < n
          → many goes step next s tokens ≡ go goes step next n s tokens
      unfolding many
      many_is n s tokens low = go_same (suc (length tokens)) n s tokens (omega arith) low

      -- and so a list is online, where each of its parts is and has a token
      pub many_online : (s : S) → Online (many goes step next s)
      many_online s tokens =
          let at = λ (n : ℕ) (low : length tokens < n). subst (Local (go goes step next n s) tokens)
          (sym (many_is n s tokens low)) (go_online n s tokens) in
          let x = at (suc (length tokens)) (omega arith) in
          record {
            before = x.before;
            parts = x.parts;
            same = λ other h.
                let y = at (suc (max (length tokens) (length (x.before ++ other)))) (omega arith) in
                let e : y.before ≡ x.before =
                append_cancel_right y.before x.before (rest_of (many goes step next s tokens)) (sym y.parts
                ∙ x.parts) in
                many_is (suc (max (length tokens) (length (x.before ++ other)))) s (x.before ++ other) (omega arith)
                ∙ ap (λ b. go goes step next (suc (max (length tokens) (length (x.before ++ other)))) s
                (b ++ other)) (sym e) ∙ y.same other h;
          }

-- Whatever a list is of, where it ends no token goes on.
module _ {S A : Type 0} (goes : S → Option Body → Bool) (step : S → Parser A) (next : S → A → S) (ends : (s : S)
    → goes s None ≡ false) (takes : (s : S) → TakesOne (step s)) where
  pub record Over (rest : List Token) : Type 0 where
    pub last : S
    pub stops : goes last (next_body rest) ≡ false

  shorter : (n : ℕ) (s : S) (tokens mid : List Token) (a : A) → goes s (next_body tokens) ≡ true
      → step s tokens ≡ Found a mid → length tokens < suc n → length mid < n
  shorter n s [] mid a more h low = absurd (cc (more, ends s))
  shorter n s (token ∷ tokens) mid a more h low = let less = takes s token tokens mid a h in omega arith

  go_over : (n : ℕ) (s : S) (tokens rest : List Token) (all : List A) → length tokens < n
      → go goes step next n s tokens ≡ Found all rest → Over rest
  go_over zero s tokens rest all low h = absurd (omega arith)
  go_over (suc n) s tokens rest all low h =
      elim (chosen (goes s (next_body tokens)) _ _ tokens (Found all rest) h) [
        | inl y ↦
            (let x = bind_found (step s tokens) (λ a. go goes step next n (next s a) >>= λ more. pure (a ∷ more))
            all rest y.1 in
            let z = bind_found (go goes step next n (next s x.value) x.mid) (λ more. pure (x.value ∷ more)) all rest
            x.two in
            moved (λ all rest. Over rest) z.two
            (go_over n (next s x.value) x.mid z.mid z.value (shorter n s tokens x.mid x.value y.0 x.one low) z.one))
        | inr y ↦ moved (λ all rest. Over rest) y.1 (record { last = s; stops = y.0 })
      ]

  pub many_over : (s : S) (tokens rest : List Token) (all : List A) → many goes step next s tokens ≡ Found all rest
      → Over rest
  unfolding many
  many_over s tokens rest all h = go_over (suc (length tokens)) s tokens rest all (omega arith) h

module _ {S A : Type 0} (is_comma ends : Option Body → Bool) (ending : Parser (Unit {0})) (one : S
    → Parser A) (next : S → A → S)
    (none : is_comma None ≡ false) (ending_on : Online ending) (on : (s : S) → Online (one s)) where
  one_more_online : (l : Listing S) (o : Option Body)
      → Online (choose (ends o) (ending >>= λ _. pure {A = Option A} None) (one l.state >>= λ a. pure (Some a)))
  one_more_online l o =
      online_choose (ends o) _ _ (online_bind ending _ ending_on (λ _. online_pure None))
      (online_bind (one l.state) _ (on l.state) (λ a. online_pure (Some a)))

  -- lists with commas: what stands behind a comma, and all of them
  pub behind_online : (l : Listing S) → Online (behind_comma is_comma ends ending one next l)
  unfolding behind_comma
  behind_online l = online_skip _ (online_peek _ (one_more_online l))

  pub behind_takes : (l : Listing S) → TakesOne (behind_comma is_comma ends ending one next l)
  unfolding behind_comma
  behind_takes l = takes_skip _ (online_peek _ (one_more_online l))

  pub no_comma : (l : Listing S) → goes_listing is_comma ends ending one next l None ≡ false
  no_comma l = by l.over
    where
      by : (over : Bool) → goes_listing is_comma ends ending one next (record { state = l.state; over = over }) None
          ≡ false
      by true = refl
      by false = none

  pub more_listed_online : (s : S) → Online (more_listed is_comma ends ending one next s)
  unfolding more_listed
  more_listed_online s =
      many_online (goes_listing is_comma ends ending one next) (behind_comma is_comma ends ending one next)
      (next_listing is_comma ends ending one next)
      behind_online no_comma behind_takes (record { state = s; over = false })

  pub listed_online : (s : S) → Online (comma_list is_comma ends ending one next s)
  unfolding comma_list
  listed_online s =
      online_bind (one s) _ (on s)
      (λ first. online_bind _ _ (more_listed_online (next s first))
      (λ rest. online_pure (first ∷ ones rest, has_ending rest)))

-- ---- one node around another

module _ {A : Type 0} (goes : A → Option Body → Bool) (fits : A → Bool) (wrap : A → Parser A) (on : (a : A)
    → Online (wrap a)) where
  -- by the number of nodes that may still be put around
  pub climb_online : (n : ℕ) (left : A) → Online (climb goes fits wrap n left)
  unfolding climb
  climb_online zero left = online_peek _ (λ o. online_choose (goes left o) _ _ (online_fail TooDeep) (online_pure left))
  climb_online (suc n) left = online_peek _ (λ o. online_choose (goes left o) _ _
      (online_choose (fits left) _ _ (online_bind (wrap left) _ (on left) (climb_online n)) (online_fail TooDeep))
      (online_pure left))
