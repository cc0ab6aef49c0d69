-- What each combinator of parsers gives where the tokens are spelled as is wanted.
use Rattle.std.proofs.Common.{◌≡◌, ◌⊎◌, inl, inr, ℕ, zero, suc, ◌<◌, Bool, true, false, List, [], ◌∷◌, length, Option}
use Rattle.std.proofs.Common.{Some, None, refl, sym, ◌∙◌, ap, subst, arith}
use Rattle.std.specs.List.{flat_map}
use Rattle.critical_table.specs.declared.pos.Pos.{Pos}
use Rattle.c_lexer.specs.declared.token.Token.{Token}
use Rattle.c_lexer.specs.declared.punct.Punct.TheVariants as p
use Rattle.c_lexer.specs.declared.token.Body.{Body}
use Rattle.c_lexer.specs.declared.token.Body.TheVariants as lexeme
use Rattle.c_syntax.specs.declared.spelled.Spelled.{Spelled}
use Rattle.c_reading.specs.Parser.{Outcome, Found, Parser, and_then, next_body, place, tail, choose, deeper, expect}
use Rattle.c_reading.specs.Parser.{go, many, climb, ones, has_ending, goes_listing, behind_comma, next_listing}
use Rattle.c_reading.specs.Parser.{more_listed, comma_list}
use Rattle.c_reading.specs.ReadExpr.{begins_expr, expr_lower}
use Rattle.c_syntax.specs.Scopes.{Scope}
use Rattle.c_syntax.specs.Tokens.{StandsAt, mark}
use Rattle.c_syntax.specs.Tree.{Expr}
use Rattle.c_reading.proofs.Takes.{Takes}

-- ---- the first token

takes_no_longer : (tokens rest : List Token) (all : List Spelled) → Takes tokens all rest
    → length rest < suc (length tokens)
takes_no_longer tokens rest [] all = subst (λ ts. length ts < suc (length tokens)) all (omega arith)
takes_no_longer [] rest (s ∷ more) all = absurd all
takes_no_longer (t ∷ tokens) rest (s ∷ more) all = let h = takes_no_longer tokens rest more all.2 in omega arith

-- the token that the spelling begins with, its place, the tokens behind it, and that there are fewer of them
abbrev pub Front : List Token → List Token → List Spelled → Type 0
Front tokens rest [] = Unit {0}
Front tokens rest (s ∷ more) =
    (next_body tokens ≡ Some s.body) × StandsAt s.place (place tokens) × Takes (tail tokens) more rest
    × (length rest < length tokens)

-- what a spelling that is not empty tells of the tokens
pub front : (tokens rest : List Token) (all : List Spelled) → Takes tokens all rest → Front tokens rest all
front tokens rest [] all = tt
front [] rest (s ∷ more) all = absurd all
front (t ∷ tokens) rest (s ∷ more) all = (ap (λ b. Some b) all.0, all.1, all.2, takes_no_longer tokens rest more all.2)

pub tail_shorter : (tokens : List Token) (b : Body) → next_body tokens ≡ Some b → length (tail tokens) < length tokens
tail_shorter [] b e = absurd (cc)
tail_shorter (t ∷ tokens) b e = omega arith

-- ---- one parser after another

-- where the first of two parsers finds this, the second decides; likewise of each further combinator
pub then_read : {A B : Type 0} (g : Outcome A) (f : A → Parser B) (a : A) (mid : List Token) (h : Outcome B)
    → g ≡ Found a mid → f a mid ≡ h → and_then g f ≡ h
then_read g f a mid h e more = ap (λ g. and_then g f) e ∙ more

pub peek_at : {A : Type 0} (f : Option Body → Parser A) (tokens : List Token) (o : Option Body) (h : Outcome A)
    → next_body tokens ≡ o → f o tokens ≡ h → f (next_body tokens) tokens ≡ h
peek_at f tokens o h e more = ap (λ o. f o tokens) e ∙ more

-- by the place and the body of the first token
pub read_at : {A : Type 0} (f : Pos → Option Body → Parser A) (tokens : List Token) (pos : Pos) (o : Option Body)
    (h : Outcome A) → place tokens ≡ pos → next_body tokens ≡ o → f pos o tokens ≡ h
    → f (place tokens) (next_body tokens) tokens ≡ h
read_at f tokens pos o h there e more = ap (λ at. f at (next_body tokens) tokens) there ∙ ap (λ o. f pos o tokens) e
    ∙ more

pub chosen_first : {A : Type 0} (b : Bool) (p q : Parser A) (tokens : List Token) (h : Outcome A) → b ≡ true
    → p tokens ≡ h → choose b p q tokens ≡ h
chosen_first true p q tokens h e more = more
chosen_first false p q tokens h e more = absurd (cc)

pub chosen_second : {A : Type 0} (b : Bool) (p q : Parser A) (tokens : List Token) (h : Outcome A) → b ≡ false
    → q tokens ≡ h → choose b p q tokens ≡ h
chosen_second true p q tokens h e more = absurd (cc)
chosen_second false p q tokens h e more = more

pub deeper_again : {A : Type 0} (k : ℕ) (p : Parser A) (tokens : List Token) (h : Outcome A) → 0 < k → p tokens ≡ h
    → deeper k p tokens ≡ h
deeper_again zero p tokens h low e = absurd (omega arith)
deeper_again (suc k) p tokens h low e = e

pub expect_again : {B : Type 0} (test : Option Body → Bool) (f : Unit {0}
    → Parser B) (tokens : List Token) (o : Option Body) (h : Outcome B) → test o ≡ true → next_body tokens ≡ o
    → f tt (tail tokens) ≡ h → and_then (expect test tokens) f ≡ h
expect_again test f tokens o h passes e more =
    then_read _ f tt (tail tokens) h (chosen_first (test (next_body tokens)) _ _ tokens (Found tt (tail tokens))
    (ap test e ∙ passes) refl) more

pub expr_lower_again : (scope : Scope) (k : ℕ) (p : Parser Expr) (tokens : List Token) (h : Outcome Expr)
    → begins_expr scope (next_body tokens) ≡ true → 0 < k → p tokens ≡ h → expr_lower scope k p tokens ≡ h
unfolding expr_lower
expr_lower_again scope k p tokens h begins low e =
    chosen_first (begins_expr scope (next_body tokens)) _ _ tokens h begins (deeper_again k p tokens h low e)

-- ---- many

module _ {S A : Type 0} (goes : S → Option Body → Bool) (step : S → Parser A) (next : S → A → S) where
  -- each is read where it begins, and none goes on behind the last
  abbrev pub Each : List A → S → List Token → List Token → Type 0
  Each [] s tokens rest = (tokens ≡ rest) × (goes s (next_body rest) ≡ false)
  Each (a ∷ more) s tokens rest =
      (mid : List Token) × (goes s (next_body tokens) ≡ true) × (step s tokens ≡ Found a mid)
      × (length mid < length tokens) × Each more (next s a) mid rest

  go_again : (n : ℕ) (all : List A) (s : S) (tokens rest : List Token) → length tokens < n → Each all s tokens rest
      → go goes step next n s tokens ≡ Found all rest
  go_again zero all s tokens rest low each = absurd (omega arith)
  go_again (suc n) [] s tokens rest low each =
      subst (λ ts. go goes step next (suc n) s ts ≡ Found [] rest) (sym each.0)
      (chosen_second (goes s (next_body rest)) _ _ rest (Found [] rest) each.1 refl)
  go_again (suc n) (a ∷ more) s tokens rest low each =
      let behind = go_again n more (next s a) each.0 rest (omega (arith, each.3)) each.4 in
      chosen_first (goes s (next_body tokens)) _ _ tokens (Found (a ∷ more) rest) each.1
      (then_read _ _ a each.0 _ each.2 (then_read _ _ more rest _ behind refl))

  -- the parts that are read one by one are read as the list
  pub many_again : (all : List A) (s : S) (tokens rest : List Token) → Each all s tokens rest
      → many goes step next s tokens ≡ Found all rest
  unfolding many
  many_again all s tokens rest each = go_again (suc (length tokens)) all s tokens rest (omega arith) each

-- ---- climb

module _ {A : Type 0} (goes : A → Option Body → Bool) (fits : A → Bool) (wrap : A → Parser A) where
  -- no node is put around where no operator comes; one more is where it comes
  pub climb_over : (n : ℕ) (left : A) (tokens : List Token) → goes left (next_body tokens) ≡ false
      → climb goes fits wrap n left tokens ≡ Found left tokens
  unfolding climb
  climb_over zero left tokens over = chosen_second (goes left (next_body tokens)) _ _ tokens _ over refl
  climb_over (suc n) left tokens over = chosen_second (goes left (next_body tokens)) _ _ tokens _ over refl

  pub climb_step : (n : ℕ) (left all : A) (tokens rest : List Token) → goes left (next_body tokens) ≡ true
      → fits left ≡ true → wrap left tokens ≡ Found all rest
      → climb goes fits wrap (suc n) left tokens ≡ climb goes fits wrap n all rest
  unfolding climb
  climb_step n left all tokens rest on low e =
      chosen_first (goes left (next_body tokens)) _ _ tokens _ on
      (chosen_first (fits left) _ _ tokens _ low (then_read _ _ all rest _ e refl))

-- ---- lists with commas

abbrev options : {A : Type 0} → List A → Bool → List (Option A)
options [] false = []
options [] true = None ∷ []
options (a ∷ more) ending = Some a ∷ options more ending

ones_again : {A : Type 0} (all : List A) (ending : Bool) → ones (options all ending) ≡ all
ones_again [] false = refl
ones_again [] true = refl
ones_again (a ∷ more) ending = ap (λ more. a ∷ more) (ones_again more ending)

ending_again : {A : Type 0} (all : List A) (ending : Bool) → has_ending (options all ending) ≡ ending
ending_again [] false = refl
ending_again [] true = refl
ending_again (a ∷ more) ending = ending_again more ending

module _ {S A : Type 0} (is_comma : Option Body → Bool) (ends : Option Body
    → Bool) (ending : Parser (Unit {0})) (one : S → Parser A) (next : S → A → S) where
  -- what stands behind the first of the list, and whether the list has its ending
  abbrev pub Behind : List A → Bool → S → List Token → List Token → Type 0
  Behind [] false s tokens rest = (tokens ≡ rest) × (is_comma (next_body rest) ≡ false)
  Behind [] true s tokens rest =
      (is_comma (next_body tokens) ≡ true) × (ends (next_body (tail tokens)) ≡ true)
      × (ending (tail tokens) ≡ Found tt rest) × (length rest < length tokens)
  Behind (a ∷ more) has s tokens rest =
      (mid : List Token) × (is_comma (next_body tokens) ≡ true) × (ends (next_body (tail tokens)) ≡ false)
      × (one s (tail tokens) ≡ Found a mid) × (length mid < length tokens)
      × Behind more has (next s a) mid rest

  each_behind : (all : List A) (has : Bool) (s : S) (tokens rest : List Token) → Behind all has s tokens rest
      → Each (goes_listing is_comma ends ending one next) (behind_comma is_comma ends ending one next)
      (next_listing is_comma ends ending one next) (options all has) (record { state = s; over = false }) tokens rest
  unfolding behind_comma
  each_behind [] false s tokens rest b = b
  each_behind [] true s tokens rest b = (
    rest,
    b.0,
    chosen_first (ends (next_body (tail tokens))) _ _ (tail tokens) _ b.1
        (then_read _ _ tt rest _ b.2 refl),
    b.3,
    (refl, refl),
  )
  each_behind (a ∷ more) has s tokens rest b = (
    b.0,
    b.1,
    chosen_second (ends (next_body (tail tokens))) _ _ (tail tokens) _ b.2
        (then_read _ _ a b.0 _ b.3 refl),
    b.4,
    each_behind more has (next s a) b.0 rest b.5,
  )

  -- the parts of a list with commas that are read one by one are read as the list
  pub listed_again : (first : A) (more : List A) (has : Bool) (s : S) (tokens mid rest : List Token)
      → one s tokens ≡ Found first mid → Behind more has (next s first) mid rest
      → comma_list is_comma ends ending one next s tokens ≡ Found (first ∷ more, has) rest
  unfolding comma_list more_listed
  listed_again first more has s tokens mid rest e behind =
      let others = many_again _ _ _ (options more has) _ mid rest
      (each_behind more has (next s first) mid rest behind) in
      then_read _ _ first mid _ e (then_read _ _ (options more has) rest _ others
      (ap (λ all. Found (first ∷ all, has_ending (options more has)) rest) (ones_again more has)
      ∙ ap (λ b. Found (first ∷ more, b) rest) (ending_again more has)))

-- the spelling of what stands behind the first
abbrev pub behind_commas : List (List Spelled) → List Spelled
behind_commas parts = flat_map (λ part. mark p.Comma ∷ part) parts

-- a comma, or what is behind the list
pub behind_seen : (parts : List (List Spelled)) (tokens rest : List Token) → Takes tokens (behind_commas parts) rest
    → (next_body tokens ≡ Some (lexeme.Mark p.Comma)) ⊎ (tokens ≡ rest)
behind_seen [] tokens rest all = inr all
behind_seen (part ∷ more) tokens rest all = inl (front tokens rest (behind_commas (part ∷ more)) all).0
