-- The definitions at texts whose answer is known: the refusal that fits at the front, and the tokens of nothing.
use Rattle.std.proofs.Common.{◌≡◌, inl, inr, [], true, false, refl, sym, ◌∙◌, ap, arith}
use Rattle.std.proofs.lemmas.Bool.{false≢true}
use Rattle.std.proofs.lemmas.Option.{none-some}
use Rattle.std.specs.Prelude.{codes, None}
use Rattle.critical_table.specs.declared.refusal.Refusal.TheVariants.{Unclosed, Literal, Directive, Profile}
use Rattle.c_lexer.specs.Words.{is_outside}
use Rattle.c_lexer.specs.Directives.{IsShape}
use Rattle.c_lexer.specs.ReadNumber.{number_of, constant}
use Rattle.c_lexer.specs.ReadCharacters.{character_of, item_at}
use Rattle.c_lexer.specs.ReadComment.{past_quote}
use Rattle.c_lexer.specs.ReadDirective.{is_include, is_define, is_marker, is_pragma}
use Rattle.c_lexer.specs.Refusals.{Fits}
use Rattle.c_lexer.specs.Lexing.{AreTokens}
use Rattle.c_lexer.proofs.NumberLaws.{number_full}
use Rattle.c_lexer.proofs.CharacterLaws.{character_full}
use Rattle.c_lexer.proofs.CommentLaws.{close_none, quote_full}
use Rattle.c_lexer.proofs.DirectiveLaws.{include_full, define_full, marker_full}
use Rattle.c_lexer.proofs.PragmaLaws.{pragma_full}
use Rattle.c_lexer.proofs.ShapeLaws.{from_line}

-- a word that is not taken
pub double_is_outside : Fits true (codes "double x") Profile
unfolding is_outside
double_is_outside = refl

-- an octal constant has no 9
octal_nine : number_of (codes "09") ≡ None
unfolding number_of constant
octal_nine = refl

-- so a number begins there and is none
pub octal_nine_is_no_number : Fits true (codes "09;") Literal
octal_nine_is_no_number = inl (refl, λ number is. none-some _ (sym octal_nine ∙ number_full (codes "09") number is))

-- a fraction is no integer constant
fraction : number_of (codes "1.5") ≡ None
unfolding number_of constant
fraction = refl

-- so a number begins there and is none
pub fraction_is_no_number : Fits true (codes "1.5") Literal
fraction_is_no_number = inl (refl, λ number is. none-some _ (sym fraction ∙ number_full (codes "1.5") number is))

-- a character constant has one item
two_characters : character_of (codes "'ab'") ≡ None
unfolding character_of item_at
two_characters = refl

-- so a constant ends there and is none
pub two_characters_are_none : Fits true (codes "'ab'") Literal
two_characters_are_none = inr (inl (record {
  wide = false;
  inner = codes "ab";
  after = [];
  parts = refl;
  inside = (
    (λ (e : 97 ≡ 10). omega (arith, e)),
    (λ (e : 97 ≡ 39). omega (arith, e)),
    ((λ (e : 98 ≡ 10). omega (arith, e)), (λ (e : 98 ≡ 39). omega (arith, e)), refl),
  );
  none = λ value is. none-some _ (sym two_characters ∙ character_full (codes "'ab'") value false is);
}))

-- a comment without an end
pub comment_never_ends : Fits true (codes "/* a") Unclosed
comment_never_ends = inl (record { rest = codes " a"; parts = refl; never = close_none (codes " a") refl })

-- a literal without an end
pub literal_never_ends : Fits true (codes "\"a") Unclosed
literal_never_ends = inr (inr (record {
  wide = false;
  rest = codes "a";
  parts = refl;
  never = λ inner after is inside. none-some _ (ap (past_quote 34 false) is
      ∙ quote_full 34 false inner after (λ (e : 34 ≡ 10). omega (arith, e)) inside);
}))

-- `if 1` is none of the four shapes
no_shape : IsShape (codes "if 1") → ⊥
unfolding is_include is_define is_marker is_pragma
no_shape (inl i) = false≢true (include_full (codes "if 1") i)
no_shape (inr (inl d)) = false≢true (define_full (codes "if 1") d)
no_shape (inr (inr (inl m))) = false≢true (marker_full (codes "if 1") m)
no_shape (inr (inr (inr p))) = false≢true (pragma_full (codes "if 1") p)

-- so the line is a directive that is not taken
pub other_directive : Fits true (codes "#if 1") Directive
other_directive =
    (refl, record { rest = codes "if 1"; parts = refl; none = λ d. no_shape (from_line 35 (codes "if 1") d) })

-- no bytes are no tokens
pub nothing : AreTokens [] (record { tokens = []; end = record { line = 1; column = 1 } })
nothing = record { parts = []; split = refl; tokens = refl; end = refl }
