-- What the reading of a whole unit says of its trees, and of the token where it stops.
use Rattle.std.proofs.Common.{◌≡◌, ℕ, suc, max, List, [], ◌∷◌, ◌++◌, Option, Some, None, refl, sym, ◌∙◌, ap, subst}
use Rattle.std.proofs.Common.{arith, append_assoc}
use Rattle.std.proofs.lemmas.List.{append_cancel_right}
use Rattle.critical_table.specs.declared.pos.Pos.{Pos}
use Rattle.c_lexer.specs.declared.token.Token.{Token}
use Rattle.c_lexer.specs.Stream.{Stream}
use Rattle.c_syntax.specs.declared.spelled.Spelled.{Spelled}
use Rattle.c_syntax.specs.Begin.{BeginsTree}
use Rattle.c_syntax.specs.Parsing.{SpelledBy}
use Rattle.c_reading.specs.Parser.{Found, Stopped, Why, Unfit}
use Rattle.c_reading.specs.ReadBody.{externals}
use Rattle.c_syntax.specs.SpellingUnit.{spell_tree}
use Rattle.c_syntax.specs.Tokens.{Match, StandsAt}
use Rattle.c_syntax.specs.TreeUnit.{External, Tree}
use Rattle.c_syntax.specs.WellFormedUnit.{IsWellFormed}
use Rattle.c_reading.proofs.Full.Unit.{externals_full}
use Rattle.c_reading.proofs.Grows.Statement.{externals_grow}
use Rattle.c_reading.proofs.Grows.Steps.{Refines}
use Rattle.c_reading.proofs.OneTree.{one_tree}
use Rattle.c_reading.proofs.Online.Steps.{head, moved_to, rest_of}
use Rattle.c_reading.proofs.Online.Statement.{externals_online}
use Rattle.c_reading.proofs.Sound.Unit.{externals_sound}
use Rattle.c_reading.proofs.Takes.{takes_match, match_takes}

-- the unit's external declarations are of this height at most: with the unit itself, 256
pub spelled_by : (stream : Stream) (all : List External) (rest : List Token)
    → externals 254 stream.tokens ≡ Found all rest → SpelledBy stream (record { externals = all; end = stream.end })
spelled_by stream all rest h =
    let tree : Tree = record { externals = all; end = stream.end } in
    let r = externals_sound 254 stream.tokens rest all h in
    let spells : Match stream.tokens (spell_tree tree) = takes_match stream.tokens (spell_tree tree) r.spells in
    record {
      spells = spells;
      ends = refl;
      fits = ((r.some, r.fits), omega (arith, r.within));
      only = λ other fits matches ends. one_tree other tree stream.tokens fits (r.some, r.fits) matches spells ends;
    }

found_stopped : {A : Type 0} (a : A) (why : Why) (rest more : List Token) → Found a rest ≡ Stopped why more → ⊥
found_stopped a why rest more h = cc

-- where reading stops, the tokens spell no unit
pub none_spelled : (tokens rest : List Token) (why : Why) (tree : Tree) → externals 254 tokens ≡ Stopped why rest
    → IsWellFormed tree → Match tokens (spell_tree tree) → ⊥
none_spelled tokens rest why tree h fits matches =
    found_stopped tree.externals why [] rest
    (sym (externals_full 254 tree.externals tokens fits.0.0 fits.0.1 (omega (arith, fits.1))
    (match_takes tokens (spell_tree tree) matches)) ∙ h)

-- ---- the token where reading stops

place_of : Option Pos → Pos
place_of None = record { line = 1; column = 1 }
place_of (Some pos) = pos

-- tokens that are spelled so
tokens_for : List Spelled → List Token
tokens_for [] = []
tokens_for (s ∷ more) = record { body = s.body; from = 0; to = 0; pos = place_of s.place } ∷ tokens_for more

at_place : (place : Option Pos) → StandsAt place (place_of place)
unfolding place_of
at_place None = tt
at_place (Some pos) = refl

spelled_for : (more : List Spelled) → Match (tokens_for more) more
unfolding tokens_for
spelled_for [] = tt
spelled_for (s ∷ more) = (refl, at_place s.place, spelled_for more)

match_append : (tokens others : List Token) (first second : List Spelled) → Match tokens first → Match others second
    → Match (tokens ++ others) (first ++ second)
match_append [] others [] second one two = two
match_append [] others (s ∷ first) second one two = absurd one
match_append (t ∷ tokens) others [] second one two = absurd one
match_append (t ∷ tokens) others (s ∷ first) second one two =
    (one.0, one.1, match_append tokens others first second one.2 two)

-- no unit of the height begins with the tokens up to and with the one where reading stops
pub not_begun : (k : ℕ) (tokens before after : List Token) (token : Token) (why : Why)
    → externals k tokens ≡ Stopped why (token ∷ after) → tokens ≡ before ++ token ∷ after
    → BeginsTree (suc (suc k)) (before ++ token ∷ []) → ⊥
not_begun k tokens before after token why h parts b =
    let local = externals_online k tokens in
    let here : tokens ≡ local.before ++ token ∷ after = local.parts ∙ ap (λ g. local.before ++ rest_of g) h in
    let same : local.before ≡ before = append_cancel_right local.before before (token ∷ after) (sym here ∙ parts) in
    let other : List Token = token ∷ tokens_for b.more in
    let stops : externals k (local.before ++ other) ≡ Stopped why other =
    local.same other (ap (λ g. head (rest_of g)) (sym h)) ∙ ap (λ g. moved_to g other) h in
    let matches : Match ((before ++ token ∷ []) ++ tokens_for b.more) (b.front ++ b.more) =
    match_append (before ++ token ∷ []) (tokens_for b.more) b.front b.more b.match (spelled_for b.more) in
    let all : List Token = before ++ other in
    let spelled : Match all (spell_tree b.node) =
    subst (λ ts. Match ts (spell_tree b.node)) (append_assoc before (token ∷ []) (tokens_for b.more))
    (subst (Match ((before ++ token ∷ []) ++ tokens_for b.more)) (sym b.parts) matches) in
    let found = externals_full k b.node.externals all b.fits.0 b.fits.1 (omega (arith, b.within))
    (match_takes all (spell_tree b.node) spelled) in
    found_stopped b.node.externals why [] other (sym found
    ∙ subst (λ x. externals k (x ++ other) ≡ Stopped why other) same stops)

-- and where no height would help, no unit of any height does
pub never_begun : (k most : ℕ) (tokens before after : List Token) (token : Token)
    → externals k tokens ≡ Stopped Unfit (token ∷ after) → tokens ≡ before ++ token ∷ after
    → BeginsTree most (before ++ token ∷ []) → ⊥
never_begun k most tokens before after token h parts b =
    let j = max k most in
    let refines : Refines (externals k tokens) (externals j tokens) = externals_grow k j (omega arith) tokens in
    let stays : Stopped Unfit (token ∷ after) ≡ externals j tokens =
    subst (λ g. Refines g (externals j tokens)) h refines in
    not_begun j tokens before after token Unfit (sym stays) parts (record {
      node = b.node;
      front = b.front;
      more =
          b.more;
      fits = b.fits;
      within = omega (arith, b.within);
      parts = b.parts;
      match = b.match;
    })
