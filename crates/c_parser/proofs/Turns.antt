-- How loops read: one more of a list, one more node around another.
use Rattle.std.proofs.Common.{◌≡◌, ℕ, zero, suc, ◌-◌, ◌<◌, Bool, true, false, List, [], ◌∷◌, ◌++◌, length, Option}
use Rattle.std.proofs.Common.{Some, None, refl, sym, ◌∙◌, ap, append_assoc, arith}
use Rattle.std.proofs.lemmas.List.{append-nil}
use Rattle.c_lexer.specs.declared.punct.Punct.{Punct}
use Rattle.c_lexer.specs.declared.token.Body.TheVariants as lexeme
use Rattle.c_lexer.specs.declared.token.Token.{Token}
use Rattle.c_lexer.specs.declared.token.Body.{Body}
use Rattle.c_reading.specs.Parser.{Outcome, Found, Stopped, Why, TooDeep, Parser, and_then, ◌>>=◌, pure, next_body}
use Rattle.c_reading.specs.Parser.{tail, many, climb, ones, has_ending, behind_comma, more_listed, comma_list}
use Rattle.c_reading.proofs.Full.Steps.{then_read, chosen_first, chosen_second, climb_step, tail_shorter}
use Rattle.c_reading.specs.ReadToken.{is_mark}
use Rattle.c_reading.proofs.TokenTests.{is_mark_is}
use Rattle.c_reading.proofs.Online.Steps.{Online, TakesOne, no_longer, many_is, behind_online, behind_takes, no_comma}

pub then_stopped : {A B : Type 0} (g : Outcome A) (f : A → Parser B) (why : Why) (rest : List Token)
    → g ≡ Stopped why rest → and_then g f ≡ Stopped why rest
then_stopped g f why rest e = ap (λ g. and_then g f) e

-- one parser after two others
pub and_then_both : {A B C : Type 0} (g : Outcome A) (f : A → Parser B) (h : B → Parser C)
    → and_then (and_then g f) h ≡ and_then g (λ a. f a >>= h)
and_then_both (Found a rest) f h = refl
and_then_both (Stopped why rest) f h = refl

-- ---- many

module _ {S A : Type 0} (goes : S → Option Body → Bool) (step : S → Parser A) (next : S → A → S)
    (on : (s : S) → Online (step s)) (ends : (s : S) → goes s None ≡ false) (takes : (s : S) → TakesOne (step s)) where
  pub many_over : (s : S) (tokens : List Token) → goes s (next_body tokens) ≡ false
      → many goes step next s tokens ≡ Found [] tokens
  unfolding many
  many_over s tokens over = chosen_second (goes s (next_body tokens)) _ _ tokens _ over refl

  pub many_refused : (s : S) (tokens rest : List Token) (why : Why) → goes s (next_body tokens) ≡ true
      → step s tokens ≡ Stopped why rest → many goes step next s tokens ≡ Stopped why rest
  unfolding many
  many_refused s tokens rest why more e =
      chosen_first (goes s (next_body tokens)) _ _ tokens _ more (then_stopped (step s tokens) _ why rest e)

  shorter : (s : S) (tokens mid : List Token) (a : A) → goes s (next_body tokens) ≡ true
      → step s tokens ≡ Found a mid → length mid < length tokens
  shorter s [] mid a more e = absurd (cc (more, ends s))
  shorter s (token ∷ tokens) mid a more e = let less = takes s token tokens mid a e in omega arith

  pub many_turn : (s : S) (tokens mid : List Token) (a : A) → goes s (next_body tokens) ≡ true
      → step s tokens ≡ Found a mid
      → many goes step next s tokens ≡ and_then (many goes step next (next s a) mid) (λ more. pure (a ∷ more))
  many_turn s tokens mid a more e =
      let less = shorter s tokens mid a more e in
      many_is goes step next on ends takes (suc (length tokens)) s tokens (omega arith)
      ∙ chosen_first (goes s (next_body tokens)) _ _ tokens _ more (then_read (step s tokens) _ a mid _ e refl)
      ∙ ap (λ g. and_then g (λ more. pure (a ∷ more)))
      (sym (many_is goes step next on ends takes (length tokens) (next s a) mid less))

  -- the same of a list of which these were found before
  module _ (whole : Outcome (List A)) (found : List A) (s : S) (tokens : List Token)
      (before : whole ≡ and_then (many goes step next s tokens) (λ more. pure (found ++ more))) where
    pub all_over : goes s (next_body tokens) ≡ false → whole ≡ Found found tokens
    all_over over =
        before ∙ then_read _ _ [] tokens _ (many_over s tokens over) (ap (λ all. Found all tokens) (append-nil found))

    pub all_refused : (rest : List Token) (why : Why) → goes s (next_body tokens) ≡ true
        → step s tokens ≡ Stopped why rest → whole ≡ Stopped why rest
    all_refused rest why more e = before ∙ then_stopped _ _ why rest (many_refused s tokens rest why more e)

    regrouped-all : (a : A) (g : Outcome (List A))
        → and_then (and_then g (λ more. pure (a ∷ more))) (λ more. pure (found ++ more))
        ≡ and_then g (λ more. pure ((found ++ a ∷ []) ++ more))
    regrouped-all a (Found all rest) = ap (λ all. Found all rest) (sym (append_assoc found (a ∷ []) all))
    regrouped-all a (Stopped why rest) = refl

    pub all_turn : (mid : List Token) (a : A) (all : List A) (after : S) → all ≡ found ++ a ∷ [] → after ≡ next s a
        → goes s (next_body tokens) ≡ true → step s tokens ≡ Found a mid
        → whole ≡ and_then (many goes step next after mid) (λ more. pure (all ++ more))
    all_turn mid a all after more then again e =
        before ∙ ap (λ g. and_then g (λ more. pure (found ++ more))) (many_turn s tokens mid a again e)
        ∙ regrouped-all a (many goes step next (next s a) mid)
        ∙ (λ i. and_then (many goes step next (sym then i) mid) (λ rest. pure (sym more i ++ rest)))

    pub all_shorter : (mid : List Token) (a : A) → goes s (next_body tokens) ≡ true → step s tokens ≡ Found a mid
        → length mid < length tokens
    all_shorter mid a more e = shorter s tokens mid a more e

-- ---- lists with commas

module _ {S A : Type 0} (is_comma : Option Body → Bool) (ends : Option Body
    → Bool) (ending : Parser (Unit {0})) (one : S → Parser A) (next : S → A → S)
    (none : is_comma None ≡ false) (ending_on : Online ending) (on : (s : S) → Online (one s)) where
  pub listed_refused : (s : S) (tokens rest : List Token) (why : Why) → one s tokens ≡ Stopped why rest
      → comma_list is_comma ends ending one next s tokens ≡ Stopped why rest
  unfolding comma_list
  listed_refused s tokens rest why e = then_stopped (one s tokens) _ why rest e

  more_over : (s : S) (tokens : List Token) → is_comma (next_body tokens) ≡ false
      → more_listed is_comma ends ending one next s tokens ≡ Found [] tokens
  unfolding more_listed
  more_over s tokens last =
      many_over _ _ _ (behind_online is_comma ends ending one next none ending_on on)
      (no_comma is_comma ends ending one next none ending_on on)
      (behind_takes is_comma ends ending one next none ending_on on) (record { state = s; over = false }) tokens
      last

  more_refused : (s : S) (tokens rest : List Token) (why : Why) → is_comma (next_body tokens) ≡ true
      → behind_comma is_comma ends ending one next (record { state = s; over = false }) tokens ≡ Stopped why rest
      → more_listed is_comma ends ending one next s tokens ≡ Stopped why rest
  unfolding more_listed
  more_refused s tokens rest why comma e =
      many_refused _ _ _ (behind_online is_comma ends ending one next none ending_on on)
      (no_comma is_comma ends ending one next none ending_on on)
      (behind_takes is_comma ends ending one next none ending_on on) (record { state = s; over = false }) tokens
      rest why comma e

  more_turn : (s : S) (tokens mid : List Token) (a : A) → is_comma (next_body tokens) ≡ true
      → behind_comma is_comma ends ending one next (record { state = s; over = false }) tokens ≡ Found (Some a) mid
      → more_listed is_comma ends ending one next s tokens
      ≡ and_then (more_listed is_comma ends ending one next (next s a) mid) (λ rest. pure (Some a ∷ rest))
  unfolding more_listed
  more_turn s tokens mid a comma e =
      many_turn _ _ _ (behind_online is_comma ends ending one next none ending_on on)
      (no_comma is_comma ends ending one next none ending_on on)
      (behind_takes is_comma ends ending one next none ending_on on) (record { state = s; over = false }) tokens
      mid (Some a) comma e

  more_ended : (s : S) (tokens mid : List Token) → is_comma (next_body tokens) ≡ true
      → behind_comma is_comma ends ending one next (record { state = s; over = false }) tokens ≡ Found None mid
      → more_listed is_comma ends ending one next s tokens ≡ Found (None ∷ []) mid
  unfolding more_listed
  more_ended s tokens mid comma e =
      many_turn _ _ _ (behind_online is_comma ends ending one next none ending_on on)
      (no_comma is_comma ends ending one next none ending_on on)
      (behind_takes is_comma ends ending one next none ending_on on) (record { state = s; over = false }) tokens
      mid None comma e
      ∙ then_read _ _ [] mid _ (many_over _ _ _ (behind_online is_comma ends ending one next none ending_on on)
      (no_comma is_comma ends ending one next none ending_on on)
      (behind_takes is_comma ends ending one next none ending_on on) (record { state = s; over = true }) mid refl) refl

  pub listed_last : (s : S) (tokens mid : List Token) (a : A) → one s tokens ≡ Found a mid
      → is_comma (next_body mid) ≡ false
      → comma_list is_comma ends ending one next s tokens ≡ Found (a ∷ [], false) mid
  unfolding comma_list
  listed_last s tokens mid a e last =
      then_read (one s tokens) _ a mid _ e (then_read _ _ [] mid _ (more_over (next s a) mid last) refl)

  pub listed_ended : (s : S) (tokens mid rest : List Token) (a : A) → one s tokens ≡ Found a mid
      → is_comma (next_body mid) ≡ true → ends (next_body (tail mid)) ≡ true → ending (tail mid) ≡ Found tt rest
      → comma_list is_comma ends ending one next s tokens ≡ Found (a ∷ [], true) rest
  unfolding comma_list behind_comma
  listed_ended s tokens mid rest a e comma over ended =
      then_read (one s tokens) _ a mid _ e (then_read _ _ (None ∷ []) rest _
      (more_ended (next s a) mid rest comma
      (chosen_first (ends (next_body (tail mid))) _ _ (tail mid) _ over
      (then_read (ending (tail mid)) _ tt rest _ ended refl))) refl)

  joined : (a b : A) (g : Outcome (List (Option A)))
      → and_then (and_then g (λ rest. pure (Some b ∷ rest)))
      (λ rest. pure {A = List A × Bool} (a ∷ ones rest, has_ending rest))
      ≡ and_then (and_then g (λ rest. pure {A = List A × Bool} (b ∷ ones rest, has_ending rest)))
      (λ rest. pure {A = List A × Bool} (a ∷ rest.0, rest.1))
  joined a b (Found all rest) = refl
  joined a b (Stopped why rest) = refl

  -- behind a comma that no ending follows
  pub listed_turn : (s : S) (tokens mid : List Token) (a : A) → one s tokens ≡ Found a mid
      → is_comma (next_body mid) ≡ true → ends (next_body (tail mid)) ≡ false
      → comma_list is_comma ends ending one next s tokens
      ≡ and_then (comma_list is_comma ends ending one next (next s a) (tail mid))
      (λ rest. pure {A = List A × Bool} (a ∷ rest.0, rest.1))
  unfolding comma_list behind_comma
  listed_turn s tokens mid a e comma another =
      then_read (one s tokens) _ a mid _ e (by (one (next s a) (tail mid)) refl)
    where
      by : (g : Outcome A) → one (next s a) (tail mid) ≡ g
          → and_then (more_listed is_comma ends ending one next (next s a) mid)
          (λ rest. pure {A = List A × Bool} (a ∷ ones rest, has_ending rest))
          ≡ and_then (and_then g (λ first. more_listed is_comma ends ending one next (next (next s a) first)
          >>= λ rest. pure {A = List A × Bool} (first ∷ ones rest, has_ending rest)))
          (λ rest. pure {A = List A × Bool} (a ∷ rest.0, rest.1))
      by (Found b rest) f =
          ap (λ g. and_then g (λ rest. pure {A = List A × Bool} (a ∷ ones rest, has_ending rest)))
          (more_turn (next s a) mid rest b comma
          (chosen_second (ends (next_body (tail mid))) _ _ (tail mid) _ another
          (then_read (one (next s a) (tail mid)) _ b rest _ f refl)))
          ∙ joined a b (more_listed is_comma ends ending one next (next (next s a) b) rest)
      by (Stopped why rest) f =
          then_stopped _ _ why rest
          (more_refused (next s a) mid rest why comma
          (chosen_second (ends (next_body (tail mid))) _ _ (tail mid) _ another
          (then_stopped (one (next s a) (tail mid)) _ why rest f)))

  -- the same of a list of which these were found before
  module _ (whole : Outcome (List A × Bool)) (found : List A) (s : S) (tokens : List Token)
      (before : whole
      ≡ and_then (comma_list is_comma ends ending one next s tokens)
      (λ more. pure {A = List A × Bool} (found ++ more.0, more.1))) where
    pub list_refused : (rest : List Token) (why : Why) → one s tokens ≡ Stopped why rest → whole ≡ Stopped why rest
    list_refused rest why e = before ∙ then_stopped _ _ why rest (listed_refused s tokens rest why e)

    pub list_last : (mid : List Token) (a : A) (all : List A) → all ≡ found ++ a ∷ [] → one s tokens ≡ Found a mid
        → is_comma (next_body mid) ≡ false → whole ≡ Found (all, false) mid
    list_last mid a all more e last =
        before ∙ then_read _ _ (a ∷ [], false) mid _ (listed_last s tokens mid a e last) refl
        ∙ (λ i. Found (sym more i, false) mid)

    pub list_ended : (mid rest : List Token) (a : A) (all : List A) → all ≡ found ++ a ∷ []
        → one s tokens ≡ Found a mid → is_comma (next_body mid) ≡ true → ends (next_body (tail mid)) ≡ true
        → ending (tail mid) ≡ Found tt rest
        → whole ≡ Found (all, true) rest
    list_ended mid rest a all more e comma over ended =
        before ∙ then_read _ _ (a ∷ [], true) rest _ (listed_ended s tokens mid rest a e comma over ended) refl
        ∙ (λ i. Found (sym more i, true) rest)

    regrouped : (a : A) (g : Outcome (List A × Bool))
        → and_then (and_then g (λ more. pure {A = List A × Bool} (a ∷ more.0, more.1)))
        (λ more. pure {A = List A × Bool} (found ++ more.0, more.1))
        ≡ and_then g (λ more. pure {A = List A × Bool} ((found ++ a ∷ []) ++ more.0, more.1))
    regrouped a (Found all rest) = λ i. Found (sym (append_assoc found (a ∷ []) all.0) i, all.1) rest
    regrouped a (Stopped why rest) = refl

    pub list_turn : (mid behind : List Token) (a : A) (all : List A) (after : S) → all ≡ found ++ a ∷ []
        → after ≡ next s a → behind ≡ tail mid → one s tokens ≡ Found a mid → is_comma (next_body mid) ≡ true
        → ends (next_body (tail mid)) ≡ false
        → whole ≡ and_then (comma_list is_comma ends ending one next after behind)
        (λ more. pure {A = List A × Bool} (all ++ more.0, more.1))
    list_turn mid behind a all after more then past e comma another =
        before ∙ ap (λ g. and_then g (λ more. pure {A = List A × Bool} (found ++ more.0, more.1)))
        (listed_turn s tokens mid a e comma another)
        ∙ regrouped a (comma_list is_comma ends ending one next (next s a) (tail mid))
        ∙ (λ i. and_then (comma_list is_comma ends ending one next (sym then i) (sym past i))
        (λ rest. pure {A = List A × Bool} (sym more i ++ rest.0, rest.1)))

  -- the same of a list behind a first one, of which these were found before
  module _ (whole : Outcome (List A)) (found : List A) (s : S) (tokens : List Token)
      (before : whole
      ≡ and_then (more_listed is_comma ends ending one next s tokens) (λ more. pure (found ++ ones more))) where
    pub rest_over : is_comma (next_body tokens) ≡ false → whole ≡ Found found tokens
    rest_over last =
        before ∙ then_read _ _ [] tokens _ (more_over s tokens last) (ap (λ all. Found all tokens) (append-nil found))

    pub rest_refused : (rest : List Token) (why : Why) → is_comma (next_body tokens) ≡ true
        → ends (next_body (tail tokens)) ≡ false → one s (tail tokens) ≡ Stopped why rest → whole ≡ Stopped why rest
    unfolding behind_comma
    rest_refused rest why comma another e =
        before ∙ then_stopped _ _ why rest
        (more_refused s tokens rest why comma
        (chosen_second (ends (next_body (tail tokens))) _ _ (tail tokens) _ another
        (then_stopped (one s (tail tokens)) _ why rest e)))

    regrouped-rest : (a : A) (g : Outcome (List (Option A)))
        → and_then (and_then g (λ more. pure (Some a ∷ more))) (λ more. pure (found ++ ones more))
        ≡ and_then g (λ more. pure ((found ++ a ∷ []) ++ ones more))
    regrouped-rest a (Found all rest) = ap (λ all. Found all rest) (sym (append_assoc found (a ∷ []) (ones all)))
    regrouped-rest a (Stopped why rest) = refl

    pub rest_turn : (mid : List Token) (a : A) (all : List A) (after : S) → all ≡ found ++ a ∷ [] → after ≡ next s a
        → is_comma (next_body tokens) ≡ true → ends (next_body (tail tokens)) ≡ false
        → one s (tail tokens) ≡ Found a mid
        → whole ≡ and_then (more_listed is_comma ends ending one next after mid) (λ more. pure (all ++ ones more))
    unfolding behind_comma
    rest_turn mid a all after more then comma another e =
        before ∙ ap (λ g. and_then g (λ more. pure (found ++ ones more)))
        (more_turn s tokens mid a comma (chosen_second (ends (next_body (tail tokens))) _ _ (tail tokens) _ another
        (then_read (one s (tail tokens)) _ a mid _ e refl)))
        ∙ regrouped-rest a (more_listed is_comma ends ending one next (next s a) mid)
        ∙ (λ i. and_then (more_listed is_comma ends ending one next (sym then i) mid)
        (λ rest. pure (sym more i ++ ones rest)))

-- a mark behind what was read was taken too
pub mark_shorter : {A : Type 0} (p : Parser A) → Online p → (mark : Punct) (tokens mid rest : List Token) (a : A)
    → p tokens ≡ Found a mid → is_mark mark (next_body mid) ≡ true → rest ≡ tail mid → length rest < length tokens
mark_shorter p on mark tokens mid rest a e h past =
    let less = no_longer p on tokens mid a e in
    let one = tail_shorter mid (lexeme.Mark mark) (is_mark_is mark (next_body mid) h) in
    let same : length rest ≡ length (tail mid) = ap length past in
    omega arith

-- and a mark before it
pub behind_shorter : {A : Type 0} (p : Parser A) → Online p → (mark : Punct) (tokens rest : List Token) (a : A)
    → is_mark mark (next_body tokens) ≡ true → p (tail tokens) ≡ Found a rest → length rest < length tokens
behind_shorter p on mark tokens rest a h e =
    let less = no_longer p on (tail tokens) rest a e in
    let one = tail_shorter tokens (lexeme.Mark mark) (is_mark_is mark (next_body tokens) h) in
    omega arith

-- ---- one node around another

module _ {A : Type 0} (goes : A → Option Body → Bool) (fits : A → Bool) (wrap : A → Parser A) where
  pub climb_turn : (n : ℕ) (left whole : A) (tokens rest : List Token) → 0 < n → goes left (next_body tokens) ≡ true
      → fits left ≡ true → wrap left tokens ≡ Found whole rest
      → climb goes fits wrap n left tokens ≡ climb goes fits wrap (n - 1) whole rest
  climb_turn zero left whole tokens rest some on low e = absurd (omega arith)
  climb_turn (suc n) left whole tokens rest some on low e =
      let below : n ≡ suc n - 1 = omega arith in
      climb_step goes fits wrap n left whole tokens rest on low e ∙ ap (λ m. climb goes fits wrap m whole rest) below

  pub climb_refused : (n : ℕ) (left : A) (tokens rest : List Token) (why : Why) → 0 < n
      → goes left (next_body tokens) ≡ true → fits left ≡ true → wrap left tokens ≡ Stopped why rest
      → climb goes fits wrap n left tokens ≡ Stopped why rest
  unfolding climb
  climb_refused zero left tokens rest why some on low e = absurd (omega arith)
  climb_refused (suc n) left tokens rest why some on low e =
      chosen_first (goes left (next_body tokens)) _ _ tokens _ on
      (chosen_first (fits left) _ _ tokens _ low (then_stopped (wrap left tokens) _ why rest e))

  pub climb_deep : (n : ℕ) (left : A) (tokens : List Token) → goes left (next_body tokens) ≡ true
      → fits left ≡ false → climb goes fits wrap n left tokens ≡ Stopped TooDeep tokens
  unfolding climb
  climb_deep zero left tokens on high = chosen_first (goes left (next_body tokens)) _ _ tokens _ on refl
  climb_deep (suc n) left tokens on high =
      chosen_first (goes left (next_body tokens)) _ _ tokens _ on (chosen_second (fits left) _ _ tokens _ high refl)
