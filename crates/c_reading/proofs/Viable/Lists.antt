-- Where the reading of a list with commas stops, some list of the class begins with what was read.
use Rattle.std.proofs.Common.{◌≡◌, ℕ, max, List, [], ◌∷◌, ◌++◌, Bool, true, Option, sym, ◌∙◌, ap, arith}
use Rattle.std.proofs.lemmas.List.{append-nil}
use Rattle.c_lexer.specs.declared.punct.Punct.TheVariants as p
use Rattle.c_lexer.specs.declared.token.Body.{Body}
use Rattle.c_lexer.specs.declared.token.Token.{Token}
use Rattle.c_syntax.specs.declared.spelled.Spelled.{Spelled}
use Rattle.c_syntax.specs.Begin.{Begins}
use Rattle.c_reading.specs.Parser.{Why, Stopped, Found, Parser, comma_list, next_body, tail}
use Rattle.c_reading.specs.ReadToken.{is_mark}
use Rattle.c_syntax.specs.Tokens.{mark, commas}
use Rattle.c_reading.proofs.Full.Steps.{behind_commas}
use Rattle.c_reading.proofs.Viable.Contexts.{Context, into, listed_stopped}
use Rattle.c_reading.proofs.Sound.Steps.{joined, nothing_spelt, spelt_mark}
use Rattle.c_reading.proofs.Sound.Law.{Sound, spelt}
use Rattle.c_reading.proofs.Viable.Law.{Holds}

-- a context that nothing stands behind
pub nothing_behind : (front spelled : List Spelled) → front ++ spelled ≡ front ++ (spelled ++ [])
nothing_behind front spelled = ap (λ z. front ++ z) (sym (append-nil spelled))

module _ {S A L : Type 0} (k : ℕ) (Fits : S → A → Type 0) (tall : A → ℕ) (spelled : A → List Spelled) (next : S → A → S)
    (FitFirst FitAll : S → L → Type 0) (tall_all : L → ℕ) (parts : L → List (List Spelled)) (none : L) (more : A → L
    → L)
    (fits_none : (s : S) → FitAll s none) (fits_more : (s : S) (a : A) (all : L) → Fits s a → FitAll (next s a) all
    → FitAll s (more a all))
    (fits_first : (s : S) (a : A) (all : L) → Fits s a → FitAll (next s a) all → FitFirst s (more a all))
    (tall_none : tall_all none ≡ 0) (tall_more : (a : A) (all : L)
    → tall_all (more a all) ≡ max (tall a) (tall_all all))
    (parts_none : parts none ≡ []) (parts_more : (a : A) (all : L) → parts (more a all) ≡ spelled a ∷ parts all)
    (ends : Option Body → Bool) (ending : Parser (Unit {0})) (never : (tokens rest : List Token) (why : Why)
    → ending tokens ≡ Stopped why rest → ⊥)
    (one : S → Parser A)
    (sound : (s : S) → Sound (Fits s) tall spelled k (one s))
    (viable : (s : S) (tokens rest : List Token) (why : Why) → one s tokens ≡ Stopped why rest
    → Holds (Begins (Fits s) tall spelled) k tokens why rest) where
  abbrev First : S → ℕ → List Token → Type 0
  First s = Begins (FitFirst s) tall_all (λ all. commas (parts all))

  abbrev Behind : S → ℕ → List Token → Type 0
  Behind s = Begins (FitAll s) tall_all (λ all. behind_commas (parts all))

  alone : (a : A) → parts (more a none) ≡ spelled a ∷ []
  alone a = parts_more a none ∙ ap (λ z. spelled a ∷ z) parts_none

  first_alone : (s : S) → Context (Fits s) tall spelled (FitFirst s) tall_all (λ all. commas (parts all)) (λ j. j) 0 []
  first_alone s = record {
    make = λ a. more a none;
    behind = [];
    fits = λ a is. fits_first s a none is (fits_none (next s a));
    within = λ a j low le. omega (arith, tall_more a none, tall_none);
    spells = λ a. ap commas (alone a);
  }

  behind_alone : (s : S)
      → Context (Fits s) tall spelled (FitAll s) tall_all (λ all. behind_commas (parts all)) (λ j. j) 0
      (mark p.Comma ∷ [])
  behind_alone s = record {
    make = λ a. more a none;
    behind = [];
    fits = λ a is. fits_more s a none is (fits_none (next s a));
    within = λ a j low le. omega (arith, tall_more a none, tall_none);
    spells = λ a. ap behind_commas (alone a);
  }

  first_others : (s : S) (a : A) → Fits s a
      → Context (FitAll (next s a)) tall_all (λ all. behind_commas (parts all)) (FitFirst s) tall_all
      (λ all. commas (parts all)) (λ j. j) (tall a) (spelled a)
  first_others s a is = record {
    make = λ all. more a all;
    behind = [];
    fits = λ all are. fits_first s a all is are;
    within = λ all j low le. omega (arith, tall_more a all);
    spells = λ all. ap commas (parts_more a all) ∙ nothing_behind (spelled a) (behind_commas (parts all));
  }

  behind_others : (s : S) (a : A) → Fits s a
      → Context (FitAll (next s a)) tall_all (λ all. behind_commas (parts all)) (FitAll s) tall_all
      (λ all. behind_commas (parts all)) (λ j. j) (tall a) (mark p.Comma ∷ spelled a)
  behind_others s a is = record {
    make = λ all. more a all;
    behind = [];
    fits = λ all are. fits_more s a all is are;
    within = λ all j low le. omega (arith, tall_more a all);
    spells = λ all. ap behind_commas (parts_more a all)
        ∙ nothing_behind (mark p.Comma ∷ spelled a) (behind_commas (parts all));
  }

  behind_fails : (s : S) (tokens rest : List Token) (why : Why) → is_mark p.Comma (next_body tokens) ≡ true
      → one s (tail tokens) ≡ Stopped why rest → Holds (Behind s) k tokens why rest
  behind_fails s tokens rest why comma h =
      into (behind_alone s) (omega arith) (spelt_mark p.Comma tokens comma) (viable s (tail tokens) rest why h)

  behind_some : (s : S) (tokens mid rest : List Token) (a : A) (why : Why)
      → is_mark p.Comma (next_body tokens) ≡ true → one s (tail tokens) ≡ Found a mid
      → Holds (Behind (next s a)) k mid why rest → Holds (Behind s) k tokens why rest
  behind_some s tokens mid rest a why comma h then =
      let x = sound s (tail tokens) mid a h in
      into (behind_others s a x.fits) x.within (joined (spelt_mark p.Comma tokens comma) (spelt x)) then

  pub listed_viable : (s : S) (tokens rest : List Token) (why : Why)
      → comma_list (is_mark p.Comma) ends ending one next s tokens ≡ Stopped why rest
      → Holds (First s) k tokens why rest
  listed_viable s tokens rest why h =
      listed_stopped (is_mark p.Comma) ends ending one next
      (λ s tokens why rest. Holds (Behind s) k tokens why rest) never behind_fails behind_some
      (λ why rest. Holds (First s) k tokens why rest) s tokens rest why h
      (λ h. into (first_alone s) (omega arith) (nothing_spelt tokens) (viable s tokens rest why h))
      (λ a mid h then. let x = sound s tokens mid a h in into (first_others s a x.fits) x.within (spelt x) then)
