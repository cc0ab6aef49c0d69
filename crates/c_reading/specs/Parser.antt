-- What every parser is made of: a parser takes the tokens that are left, and finds a value and the tokens after it, or
-- stops before a token.
--
-- The endings of parsers and of functions on tokens, here and in the files Read*:
--   _at     a node of the class, one higher at most than those that the parsers of the height below read
--   _by     the same by the next token, which has been looked at, or by what it was found to be
--   _on     what goes on behind tokens that have been read: behind a word, an opening mark or a left operand
--   _in     the same in the scope that what was read has left
--   _lower  a node one lower, where the token that may begin it is told from one that may not before any height is left
--   _of     what a token is, as an operator, a specifier or a name, if it is one
--   _with   by a given parser of the parts, or a state with one part more
-- begins_ and goes_ are tests of a next token: that it begins a node of the class, or goes on with a list.
use Rattle.std.specs.Prelude.{ℕ, zero, suc, length, Bool, true, false, ◌&&◌, not, List, [], ◌∷◌, Option, Some, None}
use Rattle.critical_table.specs.declared.pos.Pos.{Pos}
use Rattle.c_lexer.specs.declared.token.Token.{Token}
use Rattle.c_lexer.specs.declared.token.Body.{Body}

pub data Why : Type 0 where
  Unfit : Why
  TooDeep : Why

-- a value and the tokens after it, or why and where reading stopped: before the first of these tokens
pub data Outcome (A : Type 0) : Type 0 where
  Found : (a : A) (rest : List Token) → Outcome A
  Stopped : (why : Why) (rest : List Token) → Outcome A

abbrev pub Parser : Type 0 → Type 0
Parser A = List Token → Outcome A

abbrev pub and_then : {A B : Type 0} → Outcome A → (A → Parser B) → Outcome B
and_then (Found a rest) f = f a rest
and_then (Stopped why rest) f = Stopped why rest

infixl 10 ◌>>=◌
abbrev pub ◌>>=◌ : {A B : Type 0} → Parser A → (A → Parser B) → Parser B
p >>= f = λ ts. and_then (p ts) f

abbrev pub pure : {A : Type 0} → A → Parser A
pure a = λ ts. Found a ts

abbrev pub fail : {A : Type 0} → Why → Parser A
fail why = λ ts. Stopped why ts

abbrev pub next_body : List Token → Option Body
next_body [] = None
next_body (token ∷ tokens) = Some token.body

abbrev pub place : List Token → Pos
place [] = record { line = 1; column = 1 }
place (token ∷ tokens) = token.pos

abbrev pub tail : List Token → List Token
tail [] = []
tail (token ∷ tokens) = tokens

-- by the next token
abbrev pub peek : {A : Type 0} → (Option Body → Parser A) → Parser A
peek f = λ ts. f (next_body ts) ts

-- by the place of the next token
abbrev pub here : {A : Type 0} → (Pos → Parser A) → Parser A
here f = λ ts. f (place ts) ts

-- past the next token
abbrev pub skip : {A : Type 0} → Parser A → Parser A
skip p = λ ts. p (tail ts)

abbrev pub choose : {A : Type 0} → Bool → Parser A → Parser A → Parser A
choose true p q = p
choose false p q = q

-- only where some height is left
abbrev pub deeper : {A : Type 0} → ℕ → Parser A → Parser A
deeper zero p = fail TooDeep
deeper (suc k) p = p

-- the token that passes this test
abbrev pub expect : (Option Body → Bool) → Parser (Unit {0})
expect test = peek (λ o. choose (test o) (skip (pure tt)) (fail Unfit))

-- One after another, each by the state that the ones before it left, as long as the next token goes on.
module _ {S A : Type 0} (goes : S → Option Body → Bool) (step : S → Parser A) (next : S → A → S) where
  -- the number is more than there are tokens, so that it never runs out
  abbrev pub go : ℕ → S → Parser (List A)
  go zero s = pure []
  go (suc n) s = peek (λ o. choose (goes s o) (step s >>= λ a. go n (next s a) >>= λ more. pure (a ∷ more)) (pure []))

  unfoldable pub many : S → Parser (List A)
  many s = λ ts. go (suc (length ts)) s ts

-- One node around another, as long as the next token goes on; each adds to the height, so the number is the height
-- left.
module _ {A : Type 0} (goes : A → Option Body → Bool) (fits : A → Bool) (wrap : A → Parser A) where
  unfoldable pub climb : ℕ → A → Parser A
  climb zero left = peek (λ o. choose (goes left o) (fail TooDeep) (pure left))
  climb (suc n) left =
      peek (λ o. choose (goes left o) (choose (fits left) (wrap left >>= climb n) (fail TooDeep)) (pure left))

-- what stands behind the first of a list: one more, or that the list has its ending
abbrev pub ones : {A : Type 0} → List (Option A) → List A
ones [] = []
ones (None ∷ rest) = ones rest
ones (Some a ∷ rest) = a ∷ ones rest

abbrev pub has_ending : {A : Type 0} → List (Option A) → Bool
has_ending [] = false
has_ending (None ∷ rest) = true
has_ending (Some a ∷ rest) = has_ending rest

-- the state that the ones before left, and whether the list is over
pub record Listing (S : Type 0) : Type 0 where
  pub state : S
  pub over : Bool

-- One or more, with a comma between each two, each by the state that the ones before it left. Behind a comma the list
-- may have an ending in place of one more.
module _ {S A : Type 0} (is_comma : Option Body → Bool) (ends : Option Body
    → Bool) (ending : Parser (Unit {0})) (one : S → Parser A) (next : S → A → S) where
  abbrev pub goes_listing : Listing S → Option Body → Bool
  goes_listing l o = not l.over && is_comma o

  unfoldable pub behind_comma : Listing S → Parser (Option A)
  behind_comma l = skip (peek (λ o. choose (ends o) (ending >>= λ _. pure None) (one l.state >>= λ a. pure (Some a))))

  abbrev pub next_listing : Listing S → Option A → Listing S
  next_listing l None = record { state = l.state; over = true }
  next_listing l (Some a) = record { state = next l.state a; over = false }

  unfoldable pub more_listed : S → Parser (List (Option A))
  more_listed s = many goes_listing behind_comma next_listing (record { state = s; over = false })

  unfoldable pub comma_list : S → Parser (List A × Bool)
  comma_list s = one s >>= λ first. more_listed (next s first) >>= λ rest. pure (first ∷ ones rest, has_ending rest)
