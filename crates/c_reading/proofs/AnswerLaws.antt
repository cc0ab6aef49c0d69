-- A unit's tokens have one tree or one refused place, and not both.
use Rattle.std.proofs.Common.{◌≡◌, ◌⊎◌, inl, inr, ℕ, List, [], ◌∷◌, ◌++◌, refl, sym, ◌∙◌, ap, subst, append_assoc}
use Rattle.std.proofs.Common.{append-nil}
use Rattle.critical_table.specs.declared.pos.Pos.{Pos}
use Rattle.critical_table.specs.declared.refusal.Refusal.{Refusal}
use Rattle.critical_table.specs.declared.refusal.Refusal.TheVariants.{Syntax, Deep}
use Rattle.c_lexer.specs.declared.token.Token.{Token}
use Rattle.c_lexer.specs.Stream.{Stream}
use Rattle.c_syntax.specs.declared.spelled.Spelled.{Spelled}
use Rattle.c_syntax.specs.TreeUnit.{Tree}
use Rattle.c_syntax.specs.Tokens.{Match}
use Rattle.c_syntax.specs.SpellingUnit.{spell_tree}
use Rattle.c_syntax.specs.HeightUnit.{greatest_height}
use Rattle.c_syntax.specs.Begin.{BeginsTree}
use Rattle.c_syntax.specs.Parsing.{IsReason, SpelledBy, RefusedAt, RefusedAtToken}

-- ---- what begins with more tokens begins with fewer

match_front : (xs ys : List Token) (spelled : List Spelled) → Match (xs ++ ys) spelled
    → (front : List Spelled) × (more : List Spelled) × (spelled ≡ front ++ more) × Match xs front
match_front [] ys spelled match = ([], spelled, refl, tt)
match_front (x ∷ xs) ys [] match = absurd match
match_front (x ∷ xs) ys (first ∷ spelled) match =
    let rest = match_front xs ys spelled match.2 in
    (first ∷ rest.0, rest.1, ap (λ all. first ∷ all) rest.2, (match.0, match.1, rest.3))

begins_front : (most : ℕ) (xs ys : List Token) → BeginsTree most (xs ++ ys) → BeginsTree most xs
begins_front most xs ys begins =
    let front = match_front xs ys begins.front begins.match in
    record {
      node = begins.node;
      front = front.0;
      more = front.1 ++ begins.more;
      fits = begins.fits;
      within = begins.within;
      parts = begins.parts ∙ ap (λ all. all ++ begins.more) front.2 ∙ append_assoc front.0 front.1 begins.more;
      match = front.3;
    }

begins_before : (most : ℕ) (xs more : List Token) (token : Token)
    → BeginsTree most (xs ++ token ∷ more) → BeginsTree most (xs ++ token ∷ [])
begins_before most xs more token begins =
    begins_front most (xs ++ token ∷ []) more (subst (BeginsTree most) (sym (append_assoc xs (token ∷ []) more)) begins)

-- ---- two places in one list

-- the list is split at one place, or at one behind the other
seams : (xs ys : List Token) (x y : Token) (xs' ys' : List Token) → xs ++ x ∷ xs' ≡ ys ++ y ∷ ys'
    → ((xs ≡ ys) × (x ≡ y))
    ⊎ ((more : List Token) × (ys ≡ xs ++ x ∷ more))
    ⊎ ((more : List Token) × (xs ≡ ys ++ y ∷ more))
seams [] [] x y xs' ys' e = inl (refl, cc (e))
seams [] (z ∷ ys) x y xs' ys' e = inr (inl (ys, cc (e)))
seams (z ∷ xs) [] x y xs' ys' e = inr (inr (xs, cc (e)))
seams (z ∷ xs) (z' ∷ ys) x y xs' ys' e =
    let same : z ≡ z' = cc (e) in
    let rest : xs ++ x ∷ xs' ≡ ys ++ y ∷ ys' = cc (e) in
    elim (seams xs ys x y xs' ys' rest) [
      | inl one ↦ inl (cc (same, one.0), one.1)
      | inr (inl later) ↦ inr (inl (later.0, cc (same, later.1)))
      | inr (inr later) ↦ inr (inr (later.0, cc (same, later.1)))
    ]

-- ---- answers

pub one_tree : (stream : Stream) (a b : Tree) → SpelledBy stream a → SpelledBy stream b → a ≡ b
one_tree stream a b is is' = is'.only a is.fits.0 is.spells is.ends

begins_whole : (stream : Stream) (tree : Tree) → SpelledBy stream tree → BeginsTree greatest_height stream.tokens
begins_whole stream tree is = record {
  node = tree;
  front = spell_tree tree;
  more = [];
  fits = is.fits.0;
  within = is.fits.1;
  parts = sym (append-nil (spell_tree tree));
  match = is.spells;
}

none_whole : (stream : Stream) (why : Refusal) (pos : Pos)
    → RefusedAtToken stream why pos → BeginsTree greatest_height stream.tokens → ⊥
none_whole stream why pos at begins =
    at.first (begins_before greatest_height at.before at.after at.token
    (subst (BeginsTree greatest_height) at.parts begins))

-- a tree begins with all of its tokens, also with those up to the refused place
pub not_both : (stream : Stream) (tree : Tree) (why : Refusal) (pos : Pos)
    → SpelledBy stream tree → RefusedAt stream why pos → ⊥
not_both stream tree why pos is (inl at) = none_whole stream why pos at (begins_whole stream tree is)
not_both stream tree why pos is (inr at) = at.none (tree, is.fits, is.spells)

one_reason : (why other_why : Refusal) (tokens : List Token) → IsReason why tokens → IsReason other_why tokens
    → why ≡ other_why
one_reason Deep Deep tokens is is' = refl
one_reason Deep Syntax tokens is is' = absurd (is' is.0 is.1)
one_reason Syntax Deep tokens is is' = absurd (is is'.0 is'.1)
one_reason Syntax Syntax tokens is is' = refl
one_reason Deep _ tokens is is' = absurd is'
one_reason Syntax _ tokens is is' = absurd is'
one_reason _ _ tokens is is' = absurd is

at_one_token : (stream : Stream) (why other_why : Refusal) (pos other_pos : Pos)
    → RefusedAtToken stream why pos → RefusedAtToken stream other_why other_pos → (why ≡ other_why) × (pos ≡ other_pos)
at_one_token stream why other_why pos other_pos at at' =
    elim (seams at.before at'.before at.token at'.token at.after at'.after (sym at.parts ∙ at'.parts)) [
      | inl same ↦ (
        let tokens : at'.before ++ at'.token ∷ [] ≡ at.before ++ at.token ∷ [] = cc (same.0, same.1) in
            one_reason why other_why _ at.reason (subst (IsReason other_why) tokens at'.reason),
        at.place ∙ ap (λ token. token.pos) same.1 ∙ sym at'.place,
      )
      | inr (inl later) ↦ absurd (
          at.first (begins_before greatest_height at.before later.0 at.token
          (subst (BeginsTree greatest_height) later.1 at'.begins))
          )
      | inr (inr later) ↦ absurd (
          at'.first (begins_before greatest_height at'.before later.0 at'.token
          (subst (BeginsTree greatest_height) later.1 at.begins))
          )
    ]

-- of two places the later one has the earlier one before it, with which some unit begins
pub one_refusal : (stream : Stream) (why other_why : Refusal) (pos other_pos : Pos)
    → RefusedAt stream why pos → RefusedAt stream other_why other_pos → (why ≡ other_why) × (pos ≡ other_pos)
one_refusal stream why other_why pos other_pos (inl at) (inl at') =
    at_one_token stream why other_why pos other_pos at at'
one_refusal stream why other_why pos other_pos (inl at) (inr at') = absurd (none_whole stream why pos at at'.begins)
one_refusal stream why other_why pos other_pos (inr at) (inl at') =
    absurd (none_whole stream other_why other_pos at' at.begins)
one_refusal stream why other_why pos other_pos (inr at) (inr at') =
    (at.reason ∙ sym at'.reason, at.place ∙ sym at'.place)
