-- How the loops over specifiers, members and enumerators read, and what one more of them adds.
use Rattle.std.proofs.Common.{◌≡◌, ℕ, zero, suc, max, true, false, List, [], ◌∷◌, ◌++◌, map, refl, sym, ◌∙◌, ap}
use Rattle.std.proofs.Common.{append_assoc, arith, Option}
use Rattle.std.proofs.lemmas.List.{append-nil}
use Rattle.critical_table.specs.declared.pos.Pos.{Pos}
use Rattle.c_lexer.specs.declared.punct.Punct.TheVariants as p
use Rattle.c_lexer.specs.declared.token.Token.{Token}
use Rattle.c_reading.specs.declared.type_seen.TypeSeen.{TypeSeen}
use Rattle.c_reading.specs.declared.type_seen.TypeSeen.TheVariants.{Nothing, Basic, Other}
use Rattle.c_syntax.specs.declared.specifier.CompoundWord.{CompoundWord}
use Rattle.c_syntax.specs.declared.specifier.Enumerator as n
use Rattle.c_syntax.specs.declared.specifier.MemberDeclaration as m
use Rattle.c_syntax.specs.declared.specifier.Specifier as s
use Rattle.c_syntax.specs.declared.specifier.Tag.{Tag}
use Rattle.c_syntax.specs.Height.{enumerator_height, enumerators_height, member_height, members_height}
use Rattle.c_syntax.specs.Height.{specifier_height, specifiers_height}
use Rattle.c_reading.specs.Parser.{Outcome, Found, Stopped, Why, Unfit, Parser, and_then, ◌>>=◌, pure, peek, here}
use Rattle.c_reading.specs.Parser.{expect, many}
use Rattle.c_reading.specs.ReadToken.{is_mark, begins_type}
use Rattle.c_reading.specs.ReadExpr.{Parsers}
use Rattle.c_reading.specs.ReadSpecifier.{Specified, is_nothing, goes_specifier, type_seen_with, specified_with}
use Rattle.c_reading.specs.ReadSpecifier.{types_seen, all_members, more_members, compound_body, low_specifier}
use Rattle.c_reading.specs.ReadSpecifier.{specifier_at, specifier_within, with_type, specifiers_by, parsers}
use Rattle.c_syntax.specs.Scopes.{Scope, enumerator_adds, enumerators_add, member_adds, members_add, specifier_adds}
use Rattle.c_syntax.specs.Scopes.{specifiers_add}
use Rattle.c_syntax.specs.Tree.{Specifier, Compound, MemberDeclaration}
use Rattle.c_syntax.specs.View.{enumerator_of, enumerators, member_of, members, specifier_of, specifiers_of, specifiers}
use Rattle.c_reading.proofs.Online.All.{parsers_online, parsers_take}
use Rattle.c_reading.proofs.Online.Specifier.{low_specifier_online, low_specifier_takes, specifier_at_online}
use Rattle.c_reading.proofs.Online.Specifier.{specifier_at_takes}
use Rattle.c_reading.proofs.Online.Steps.{Online, TakesOne}
use Rattle.c_parser.proofs.Pushed.{Row}
use Rattle.c_parser.proofs.ManyTurns.{Runs}
use Rattle.c_parser.proofs.Turns.{and_then_both}

-- ---- one more: the height, and the names

enumerators_higher : (all : List n.Enumerator) (one : n.Enumerator)
    → enumerators_height (enumerators (map enumerator_of (all ++ one ∷ [])))
    ≡ max (enumerators_height (enumerators (map enumerator_of all))) (enumerator_height (enumerator_of one))
enumerators_higher [] one = omega arith
enumerators_higher (first ∷ rest) one = let h = enumerators_higher rest one in omega arith

enumerators_add_more : (all : List n.Enumerator) (one : n.Enumerator)
    → enumerators_add (enumerators (map enumerator_of (all ++ one ∷ [])))
    ≡ enumerators_add (enumerators (map enumerator_of all)) ++ enumerator_adds (enumerator_of one)
enumerators_add_more [] one = append-nil (enumerator_adds (enumerator_of one))
enumerators_add_more (first ∷ rest) one =
    ap (λ more. enumerator_adds (enumerator_of first) ++ more) (enumerators_add_more rest one)
    ∙ sym (append_assoc (enumerator_adds (enumerator_of first))
    (enumerators_add (enumerators (map enumerator_of rest))) (enumerator_adds (enumerator_of one)))

pub enumerator_row
    : Row enumerator_of enumerator_height enumerator_adds
    (λ all. enumerators_height (enumerators (map enumerator_of all)))
    (λ all. enumerators_add (enumerators (map enumerator_of all)))
enumerator_row = record { higher = enumerators_higher; add_more = enumerators_add_more }

members_higher : (all : List m.MemberDeclaration) (one : m.MemberDeclaration)
    → members_height (members (map member_of (all ++ one ∷ [])))
    ≡ max (members_height (members (map member_of all))) (member_height (member_of one))
members_higher [] one = omega arith
members_higher (first ∷ rest) one = let h = members_higher rest one in omega arith

members_add_more : (all : List m.MemberDeclaration) (one : m.MemberDeclaration)
    → members_add (members (map member_of (all ++ one ∷ []))) ≡ members_add (members (map member_of all))
    ++ member_adds (member_of one)
members_add_more [] one = append-nil (member_adds (member_of one))
members_add_more (first ∷ rest) one =
    ap (λ more. member_adds (member_of first) ++ more) (members_add_more rest one)
    ∙ sym (append_assoc (member_adds (member_of first)) (members_add (members (map member_of rest)))
    (member_adds (member_of one)))

pub member_row : Row member_of member_height member_adds (λ all. members_height (members (map member_of all)))
    (λ all. members_add (members (map member_of all)))
member_row = record { higher = members_higher; add_more = members_add_more }

specifiers_higher : (all : List s.Specifier) (one : s.Specifier)
    → specifiers_height (specifiers_of (all ++ one ∷ []))
    ≡ max (specifiers_height (specifiers_of all)) (specifier_height (specifier_of one))
specifiers_higher [] one = omega arith
specifiers_higher (first ∷ rest) one = let h = specifiers_higher rest one in omega arith

specifiers_add_more : (all : List s.Specifier) (one : s.Specifier)
    → specifiers_add (specifiers_of (all ++ one ∷ [])) ≡ specifiers_add (specifiers_of all)
    ++ specifier_adds (specifier_of one)
specifiers_add_more [] one = append-nil (specifier_adds (specifier_of one))
specifiers_add_more (first ∷ rest) one =
    ap (λ more. specifier_adds (specifier_of first) ++ more) (specifiers_add_more rest one)
    ∙ sym (append_assoc (specifier_adds (specifier_of first)) (specifiers_add (specifiers_of rest))
    (specifier_adds (specifier_of one)))

pub specifier_row : Row specifier_of specifier_height specifier_adds (λ all. specifiers_height (specifiers_of all))
    (λ all. specifiers_add (specifiers_of all))
specifier_row = record { higher = specifiers_higher; add_more = specifiers_add_more }

-- ---- members

pub body_all : (k : ℕ) (low : Parsers) (scope : Scope) (pos : Pos) (word : CompoundWord) (tag : Option Tag)
    (tokens : List Token)
    → compound_body k low scope pos word tag tokens
    ≡ and_then (all_members k low scope tokens) (λ all. expect (is_mark p.CloseBrace)
    >>= λ _. pure (Compound pos word tag (members all)))
unfolding compound_body
body_all k low scope pos word tag tokens = by (low.member scope tokens)
  where
    by : (g : Outcome MemberDeclaration)
        → and_then g (λ first. more_members k low (scope ++ member_adds first)
        >>= λ rest. expect (is_mark p.CloseBrace) >>= λ _. pure (Compound pos word tag (members (first ∷ rest))))
        ≡ and_then (and_then g (λ first. more_members k low (scope ++ member_adds first)
        >>= λ rest. pure (first ∷ rest))) (λ all. expect (is_mark p.CloseBrace)
        >>= λ _. pure (Compound pos word tag (members all)))
    by (Found first mid) =
        sym (and_then_both (more_members k low (scope ++ member_adds first) mid) (λ rest. pure (first ∷ rest))
        (λ all. expect (is_mark p.CloseBrace) >>= λ _. pure (Compound pos word tag (members all))))
    by (Stopped why rest) = refl

pub body_refused : (k : ℕ) (low : Parsers) (scope : Scope) (pos : Pos) (word : CompoundWord) (tag : Option Tag)
    (tokens rest : List Token) (why : Why)
    → all_members k low scope tokens ≡ Stopped why rest → compound_body k low scope pos word tag tokens
    ≡ Stopped why rest
body_refused k low scope pos word tag tokens rest why e =
    body_all k low scope pos word tag tokens
    ∙ ap (λ g. and_then g (λ all. expect (is_mark p.CloseBrace)
    >>= λ _. pure (Compound pos word tag (members all)))) e

pub body_unclosed : (k : ℕ) (low : Parsers) (scope : Scope) (pos : Pos) (word : CompoundWord) (tag : Option Tag)
    (tokens mid rest : List Token) (why : Why) (all : List MemberDeclaration)
    → all_members k low scope tokens ≡ Found all mid → expect (is_mark p.CloseBrace) mid ≡ Stopped why rest
    → compound_body k low scope pos word tag tokens ≡ Stopped why rest
body_unclosed k low scope pos word tag tokens mid rest why all e f =
    body_all k low scope pos word tag tokens
    ∙ ap (λ g. and_then g (λ all. expect (is_mark p.CloseBrace)
    >>= λ _. pure (Compound pos word tag (members all)))) e
    ∙ ap (λ g. and_then g (λ _. pure (Compound pos word tag (members all)))) f

pub members_run : (k : ℕ)
    → Runs (more_members k (parsers k)) begins_type (parsers k).member (λ s one. s ++ member_adds one)
unfolding more_members
members_run k = record {
  is = λ s tokens. refl;
  on = (parsers_online k).member;
  ends = λ s. refl;
  takes =
      (parsers_take k).member;
}

-- ---- specifiers

abbrev pub step : ℕ → Specified → Parser Specifier
step h s = here (λ pos. peek (specifier_within h s.scope pos))

step_online : (h : ℕ) (s : Specified) → Online (step h s)
unfolding low_specifier specifier_at
step_online zero s = low_specifier_online s
step_online (suc k) s = specifier_at_online k (parsers k) (parsers_take k).online (parsers_take k).member s

step_takes : (h : ℕ) (s : Specified) → TakesOne (step h s)
unfolding low_specifier specifier_at
step_takes zero s = low_specifier_takes s
step_takes (suc k) s = specifier_at_takes k (parsers k) (parsers_take k).online (parsers_take k).member s

pub specifiers_run : (h : ℕ) → Runs (many goes_specifier (step h) specified_with) goes_specifier (step h) specified_with
specifiers_run h = record { is = λ s tokens. refl; on = step_online h; ends = λ s. refl; takes = step_takes h }

abbrev pub start : Scope → Specified
start scope = record { scope = scope; type_seen = Nothing }

pub of_many : (h : ℕ) (scope : Scope) (tokens : List Token)
    → (parsers h).specifiers scope tokens
    ≡ and_then (many goes_specifier (step h) specified_with (start scope) tokens)
    (λ all. with_type (types_seen Nothing all) all)
unfolding low_specifier specifier_at specifiers_by
of_many zero scope tokens = refl
of_many (suc k) scope tokens = refl

pub many_stopped : (h : ℕ) (scope : Scope) (tokens : List Token) (why : Why) (rest : List Token)
    → many goes_specifier (step h) specified_with (start scope) tokens ≡ Stopped why rest
    → (parsers h).specifiers scope tokens ≡ Stopped why rest
many_stopped h scope tokens why rest e = of_many h scope tokens
    ∙ ap (λ g. and_then g (λ all. with_type (types_seen Nothing all) all)) e

pub types_seen_more : (type_seen : TypeSeen) (all : List Specifier) (one : Specifier)
    → types_seen type_seen (all ++ one ∷ []) ≡ type_seen_with (types_seen type_seen all) one
types_seen_more type_seen [] one = refl
types_seen_more type_seen (first ∷ rest) one = types_seen_more (type_seen_with type_seen first) rest one

with_none : (type_seen : TypeSeen) (all : List Specifier) (rest : List Token) → is_nothing type_seen ≡ true
    → with_type type_seen all rest ≡ Stopped Unfit rest
with_none Nothing all rest none = refl
with_none Basic all rest none = absurd (cc (none))
with_none Other all rest none = absurd (cc (none))

with_some : (type_seen : TypeSeen) (all : List Specifier) (rest : List Token) → is_nothing type_seen ≡ false
    → with_type type_seen all rest ≡ Found (specifiers all) rest
with_some Nothing all rest some = absurd (cc (some))
with_some Basic all rest some = refl
with_some Other all rest some = refl

-- behind the last one
module _ (h : ℕ) (scope : Scope) (tokens rest : List Token) (all : List Specifier) (type_seen : TypeSeen)
    (is : type_seen ≡ types_seen Nothing all)
    (found : many goes_specifier (step h) specified_with (start scope) tokens ≡ Found all rest) where
  ended : (parsers h).specifiers scope tokens ≡ with_type type_seen all rest
  ended =
      of_many h scope tokens ∙ ap (λ g. and_then g (λ all. with_type (types_seen Nothing all) all)) found
      ∙ ap (λ type_seen. with_type type_seen all rest) (sym is)

  pub no_type : is_nothing type_seen ≡ true → (parsers h).specifiers scope tokens ≡ Stopped Unfit rest
  no_type none = ended ∙ with_none type_seen all rest none

  pub some_types : is_nothing type_seen ≡ false → (parsers h).specifiers scope tokens ≡ Found (specifiers all) rest
  some_types some = ended ∙ with_some type_seen all rest some
