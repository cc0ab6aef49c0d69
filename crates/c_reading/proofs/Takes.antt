-- Tokens that are spelled so, and those behind them.
use Rattle.std.proofs.Common.{◌≡◌, List, [], ◌∷◌, ◌++◌, refl, sym, subst}
use Rattle.c_lexer.specs.declared.token.Token.{Token}
use Rattle.c_syntax.specs.declared.spelled.Spelled.{Spelled}
use Rattle.c_syntax.specs.Tokens.{StandsAt, Match}

-- the tokens begin with this spelling, and these follow
abbrev pub Takes : List Token → List Spelled → List Token → Type 0
Takes tokens [] rest = tokens ≡ rest
Takes [] (spelled ∷ more) rest = ⊥
Takes (token ∷ tokens) (spelled ∷ more) rest = (token.body ≡ spelled.body) × StandsAt spelled.place token.pos
    × Takes tokens more rest

-- one spelling behind another, joined and split again
pub takes_append : (tokens mid rest : List Token) (first second : List Spelled) → Takes tokens first mid
    → Takes mid second rest → Takes tokens (first ++ second) rest
takes_append tokens mid rest [] second one two = subst (λ ts. Takes ts second rest) (sym one) two
takes_append [] mid rest (s ∷ first) second one two = absurd one
takes_append (t ∷ tokens) mid rest (s ∷ first) second one two =
    (one.0, one.1, takes_append tokens mid rest first second one.2 two)

pub record Parted (tokens : List Token) (first second : List Spelled) (rest : List Token) : Type 0 where
  pub mid : List Token
  pub one : Takes tokens first mid
  pub two : Takes mid second rest

pub takes_parted : (tokens rest : List Token) (first second : List Spelled) → Takes tokens (first ++ second) rest
    → Parted tokens first second rest
takes_parted tokens rest [] second all = record { mid = tokens; one = refl; two = all }
takes_parted [] rest (s ∷ first) second all = absurd all
takes_parted (t ∷ tokens) rest (s ∷ first) second all =
    let more = takes_parted tokens rest first second all.2 in
    record { mid = more.mid; one = (all.0, all.1, more.one); two = more.two }

-- all of the tokens are spelled so
pub takes_match : (tokens : List Token) (spelled : List Spelled) → Takes tokens spelled [] → Match tokens spelled
takes_match [] [] all = tt
takes_match (t ∷ tokens) [] all = absurd (cc)
takes_match [] (s ∷ more) all = absurd all
takes_match (t ∷ tokens) (s ∷ more) all = (all.0, all.1, takes_match tokens more all.2)

-- and the other way
pub match_takes : (tokens : List Token) (spelled : List Spelled) → Match tokens spelled → Takes tokens spelled []
match_takes [] [] all = refl
match_takes (t ∷ tokens) [] all = absurd all
match_takes [] (s ∷ more) all = absurd all
match_takes (t ∷ tokens) (s ∷ more) all = (all.0, all.1, match_takes tokens more all.2)
