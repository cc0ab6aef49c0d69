-- What ends a declarator, and what a declarator begins with.
use Rattle.std.proofs.Common.{◌≡◌, ℕ, inl, inr, Bool, true, false, ◌||◌, is_some, List, [], ◌∷◌, ◌++◌, Option, Some}
use Rattle.std.proofs.Common.{None, refl, sym, ◌∙◌, ap, subst}
use Rattle.std.specs.Option.{IsSome}
use Rattle.c_lexer.specs.declared.punct.Punct.{Punct}
use Rattle.c_lexer.specs.declared.punct.Punct.TheVariants as p
use Rattle.c_lexer.specs.declared.token.Token.{Token}
use Rattle.c_lexer.specs.declared.token.Body.{Body}
use Rattle.c_lexer.specs.declared.token.Body.TheVariants as lexeme
use Rattle.c_reading.specs.declared.declarator_form.DeclaratorForm.{DeclaratorForm}
use Rattle.c_reading.specs.declared.declarator_form.DeclaratorForm.TheVariants as form
use Rattle.c_reading.specs.Parser.{next_body}
use Rattle.c_reading.specs.ReadToken.{is_mark, begins_type, qualifier_of}
use Rattle.c_reading.specs.ReadDeclarator.{begins_declarator}
use Rattle.c_syntax.specs.Scopes.{Scope, own_name}
use Rattle.c_syntax.specs.Spelling.{spell_maybe, spell_declarator, spelled_parameters}
use Rattle.c_syntax.specs.Tokens.{mark, commas, ellipsis_if}
use Rattle.c_syntax.specs.Tree.{Declarator, Omitted, Name, DParen, PointerTo, ArrayOf, FunctionOf}
use Rattle.c_syntax.specs.WellFormed.{HasToken, Omits, IsNoType, first_name}
use Rattle.c_reading.proofs.Full.Steps.{front, behind_commas, behind_seen}
use Rattle.c_reading.proofs.Full.Law.{EndsDeclarator, ends_specifiers}
use Rattle.c_reading.proofs.Sound.Law.{HasForm}
use Rattle.c_reading.proofs.Takes.{Takes, takes_parted}

neither : (a b : Bool) → (a || b) ≡ false → (a ≡ false) × (b ≡ false)
neither true b h = absurd (cc)
neither false b h = (refl, h)

-- what ends a declarator begins none, and no qualifier of a pointer
pub ends_begins : (rest : List Token) → EndsDeclarator rest → begins_declarator form.Parameter (next_body rest) ≡ false
ends_begins rest ends = (neither _ _ ends).0

pub ends_qualifiers : (rest : List Token) → EndsDeclarator rest → is_some (qualifier_of (next_body rest)) ≡ false
ends_qualifiers rest ends = (neither (begins_declarator form.Parameter (next_body rest)) _ ends).1

-- a token that begins no declarator of a parameter begins none of another form
pub ends_form : (shape : DeclaratorForm) (o : Option Body) → begins_declarator form.Parameter o ≡ false
    → begins_declarator shape o ≡ false
ends_form form.Parameter o h = h
ends_form shape (Some (lexeme.Mark p.Star)) h = absurd (cc)
ends_form shape (Some (lexeme.Mark p.OpenParen)) h = absurd (cc)
ends_form shape (Some (lexeme.Mark p.OpenBracket)) h = absurd (cc)
ends_form shape (Some (lexeme.Name x)) h = absurd (cc)
ends_form form.Named o h = refl
ends_form form.Abstract o h = refl

-- ---- behind a part of a list

-- a declarator ends here, and specifiers may
abbrev pub EndsPart : List Token → Type 0
EndsPart rest = EndsDeclarator rest × (ends_specifiers (next_body rest) ≡ true)

-- the test of what ends both, for a token that is known
abbrev pub ends_part : Option Body → Type 0
ends_part o = ((begins_declarator form.Parameter o || is_some (qualifier_of o)) ≡ false) × (ends_specifiers o ≡ true)

-- behind a declarator or parameter a known token, a comma of the list, or an ellipsis ends it
pub ends_at : (tokens : List Token) (o : Option Body) → next_body tokens ≡ o → ends_part o → EndsPart tokens
ends_at tokens o e ends = subst ends_part (sym e) ends

pub ends_behind : (parts : List _) (tokens rest : List Token) → EndsPart rest
    → Takes tokens (behind_commas parts) rest → EndsPart tokens
ends_behind parts tokens rest ends all = elim (behind_seen parts tokens rest all) [
  | inl e ↦ ends_at tokens _ e (refl, refl)
  | inr e ↦ subst EndsPart (sym e) ends
]

pub ends_ellipsis : (variadic : Bool) (tokens rest : List Token) → next_body rest ≡ Some (lexeme.Mark p.CloseParen)
    → Takes tokens (ellipsis_if variadic) rest → EndsPart tokens
ends_ellipsis true tokens rest close all =
    ends_at tokens _ (front tokens rest (mark p.Comma ∷ mark p.Ellipsis ∷ []) all).0 (refl, refl)
ends_ellipsis false tokens rest close all = ends_at tokens _ (ap next_body all ∙ close) (refl, refl)

-- ---- the first token of a declarator

-- the tokens that a declarator begins with
pub data Opening (one : Declarator) (o : Option Body) : Type 0 where
  Starred : (e : o ≡ Some (lexeme.Mark p.Star)) → Opening one o
  Parenthesised : (e : o ≡ Some (lexeme.Mark p.OpenParen)) → Opening one o
  Bracketed : (omits : own_name one ≡ None) (e : o ≡ Some (lexeme.Mark p.OpenBracket)) → Opening one o
  Named : (x : List ℕ) (declares : own_name one ≡ Some x) (first : first_name one ≡ Some x) (e : o
      ≡ Some (lexeme.Name x)) → Opening one o

inside : (whole part : Declarator) (o : Option Body) → own_name whole ≡ own_name part
    → first_name whole ≡ first_name part → Opening part o → Opening whole o
inside whole part o own first (Starred e) = Starred e
inside whole part o own first (Parenthesised e) = Parenthesised e
inside whole part o own first (Bracketed omits e) = Bracketed (own ∙ omits) e
inside whole part o own first (Named x declares is e) = Named x (own ∙ declares) (first ∙ is) e

-- each declarator that has a token begins with one of them
pub opening : (one : Declarator) (tokens rest : List Token) → HasToken one
    → Takes tokens (spell_declarator one) rest → Opening one (next_body tokens)
opening Omitted tokens rest has all = absurd has
opening (Name pos x) tokens rest has all = Named x refl refl (front tokens rest (spell_declarator (Name pos x)) all).0
opening (DParen inner) tokens rest has all = Parenthesised (front tokens rest (spell_declarator (DParen inner)) all).0
opening (PointerTo qualifiers inner) tokens rest has all =
    Starred (front tokens rest (spell_declarator (PointerTo qualifiers inner)) all).0
opening (ArrayOf Omitted length) tokens rest has all =
    Bracketed refl (front tokens rest (spell_declarator (ArrayOf Omitted length)) all).0
opening (ArrayOf inner length) tokens rest has all =
    let length_of = mark p.OpenBracket ∷ spell_maybe length in
    let both = takes_parted tokens rest (spell_declarator inner ++ length_of) (mark p.CloseBracket ∷ []) all in
    let start = takes_parted tokens both.mid (spell_declarator inner) length_of both.one in
    inside (ArrayOf inner length) inner (next_body tokens) refl refl (opening inner tokens start.mid tt start.one)
opening (FunctionOf Omitted parameters variadic) tokens rest has all =
    Parenthesised (front tokens rest (spell_declarator (FunctionOf Omitted parameters variadic)) all).0
opening (FunctionOf inner parameters variadic) tokens rest has all =
    let list = mark p.OpenParen ∷ commas (spelled_parameters parameters) in
    let close = takes_parted tokens rest (spell_declarator inner ++ list ++ ellipsis_if variadic)
    (mark p.CloseParen ∷ []) all in
    let both = takes_parted tokens close.mid (spell_declarator inner ++ list) (ellipsis_if variadic) close.one in
    let start = takes_parted tokens both.mid (spell_declarator inner) list both.one in
    inside (FunctionOf inner parameters variadic) inner (next_body tokens) refl refl
    (opening inner tokens start.mid tt start.one)

-- it begins a declarator of the form, and ends specifiers and qualifiers
abbrev pub Begins : DeclaratorForm → Option Body → Type 0
Begins shape o = (begins_declarator shape o ≡ true) × (ends_specifiers o ≡ true) × (is_some (qualifier_of o) ≡ false)

begins_at : (shape : DeclaratorForm) (o known : Option Body) → o ≡ known → Begins shape known → Begins shape o
begins_at shape o known e is = subst (Begins shape) (sym e) is

pub opening_begins : (shape : DeclaratorForm) (scope : Scope) (one : Declarator) (o : Option Body)
    → HasForm shape scope one → Opening one o → Begins shape o
opening_begins shape scope one o has (Starred e) = begins_at shape o _ e (refl, refl, refl)
opening_begins shape scope one o has (Parenthesised e) = begins_at shape o _ e (refl, refl, refl)
opening_begins form.Named scope one o has (Bracketed omits e) =
    absurd (let h : false ≡ true = subst IsSome omits has in cc)
opening_begins form.Abstract scope one o has (Bracketed omits e) = begins_at form.Abstract o _ e (refl, refl, refl)
opening_begins form.Parameter scope one o has (Bracketed omits e) = begins_at form.Parameter o _ e (refl, refl, refl)
opening_begins form.Named scope one o has (Named x declares first e) = begins_at form.Named o _ e (refl, refl, refl)
opening_begins form.Abstract scope one o has (Named x declares first e) =
    absurd (let h : Some x ≡ None = sym declares ∙ has in cc)
opening_begins form.Parameter scope one o has (Named x declares first e) =
    begins_at form.Parameter o _ e (refl, refl, refl)

-- and so the token begins a declarator of its form
pub declarator_begins : (shape : DeclaratorForm) (scope : Scope) (one : Declarator) (tokens rest : List Token)
    → HasToken one → HasForm shape scope one → Takes tokens (spell_declarator one) rest
    → Begins shape (next_body tokens)
declarator_begins shape scope one tokens rest has is all =
    opening_begins shape scope one (next_body tokens) is (opening one tokens rest has all)

-- behind a parenthesis a name that is a type begins no declarator
abbrev pub NamesNoType : DeclaratorForm → Scope → Declarator → Type 0
NamesNoType form.Named scope one = ⊥
NamesNoType form.Abstract scope one = Omits one
NamesNoType form.Parameter scope one = IsNoType scope (first_name one)

-- so it begins with no name of a type, and no word of one
pub opening_no_type : (shape : DeclaratorForm) (scope : Scope) (one : Declarator) (o : Option Body)
    → NamesNoType shape scope one → Opening one o → begins_type scope o ≡ false
opening_no_type shape scope one o none (Starred e) = ap (begins_type scope) e
opening_no_type shape scope one o none (Parenthesised e) = ap (begins_type scope) e
opening_no_type shape scope one o none (Bracketed omits e) = ap (begins_type scope) e
opening_no_type form.Named scope one o none (Named x declares first e) = absurd none
opening_no_type form.Abstract scope one o none (Named x declares first e) =
    absurd (let h : Some x ≡ None = sym declares ∙ none in cc)
opening_no_type form.Parameter scope one o none (Named x declares first e) = ap (begins_type scope) e
    ∙ subst (IsNoType scope) first none

-- it closes nothing
pub opening_no_mark : (mark : Punct) (one : Declarator) (o : Option Body)
    → is_mark mark (Some (lexeme.Mark p.Star)) ≡ false → is_mark mark (Some (lexeme.Mark p.OpenParen)) ≡ false
    → is_mark mark (Some (lexeme.Mark p.OpenBracket)) ≡ false
    → Opening one o → is_mark mark o ≡ false
opening_no_mark mark one o star paren bracket (Starred e) = ap (is_mark mark) e ∙ star
opening_no_mark mark one o star paren bracket (Parenthesised e) = ap (is_mark mark) e ∙ paren
opening_no_mark mark one o star paren bracket (Bracketed omits e) = ap (is_mark mark) e ∙ bracket
opening_no_mark mark one o star paren bracket (Named x declares first e) = ap (is_mark mark) e
