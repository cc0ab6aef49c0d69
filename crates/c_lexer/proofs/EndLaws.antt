-- What an open part is where it ends.
use Rattle.std.proofs.Common.{◌≡◌, ◌⊎◌, inl, inr, ℕ, List, [], ◌∷◌, ◌++◌, Bool, true, false, ◌==◌, ◌||◌}
use Rattle.std.proofs.Common.{◌&&◌, cond, refl, sym, ◌∙◌, ap, subst, append_assoc}
use Rattle.std.proofs.lemmas.Bool.{eqb-true, not-false}
use Rattle.std.proofs.lemmas.Option.{none-some}
use Rattle.std.proofs.lemmas.List.{append-nil}
use Rattle.std.specs.Prelude.{Some, None, not, codes, slice_index}
use Rattle.std.specs.List.{list_all}
use Rattle.std.specs.Char.{is_ascii_digit}
use Rattle.critical_table.specs.declared.refusal.Refusal.TheVariants.{Char, Unclosed, Literal, Directive}
use Rattle.c_lexer.specs.declared.bytes.Class.TheVariants.{Line}
use Rattle.c_lexer.specs.declared.ending.Ending.{Ending}
use Rattle.c_lexer.specs.declared.ending.Ending.TheVariants as ending
use Rattle.c_lexer.specs.declared.mode.Mode.{Mode}
use Rattle.c_lexer.specs.declared.mode.Mode.TheVariants as mode
use Rattle.c_lexer.specs.declared.mode.Quote.{Quote}
use Rattle.c_lexer.specs.declared.mode.Quote.TheVariants.{Single, Double}
use Rattle.c_lexer.specs.declared.punct.Punct.TheVariants as p
use Rattle.c_lexer.specs.declared.token.Body.TheVariants as body
use Rattle.c_lexer.specs.Bytes.{is_letter, is_white}
use Rattle.c_lexer.specs.Characters.{encoding_prefix}
use Rattle.c_lexer.specs.Classes.{is_in}
use Rattle.c_lexer.specs.Comments.{IsLineComment}
use Rattle.c_lexer.specs.Lexing.{Stands}
use Rattle.c_lexer.specs.Open.{IsOpenQuote, IsClosedQuote, past_star}
use Rattle.c_lexer.specs.Open.{IsOpenComment, IsOpenLine, IsSpace, IsAlone, IsOpen}
use Rattle.c_lexer.specs.LexicalParts.{White, Spelled, EndsLine}
use Rattle.c_lexer.specs.ReadComment.{past_close, past_quote}
use Rattle.c_lexer.specs.ReadPart.{byte_of, extends, first_of_class, first, mode_if, next}
use Rattle.c_lexer.specs.ReaderState.{EndsTokenAs, EndsDirectiveAs, EndsAs}
use Rattle.c_lexer.specs.Refusals.{IsReason}
use Rattle.c_lexer.proofs.CommentLaws.{close_none}
use Rattle.c_lexer.proofs.Leads.{Lead, Hash, Other, lead}
use Rattle.c_lexer.proofs.QuotePart.{IsQuotation, quotation_stands, quotation_refused, open_quotation_refused}
use Rattle.c_lexer.proofs.CommentPart.{line_comment_stands, block_comment_stands, open_comment_refused}
use Rattle.c_lexer.proofs.LinePart.{white_stands, directive_stands, directive_refused}
use Rattle.c_lexer.proofs.MarkPart.{IsAlien, mark_stands, alien_stands_not, alien_refused}
use Rattle.c_lexer.proofs.MarkFronts.{points_alone, point_lead, plain_lead, no_mark_at}
use Rattle.c_lexer.proofs.TokenEnds.{Stops, IsNone, IsEnding, refuse, mode_if_false, word_end, wide_end, number_end}
use Rattle.c_lexer.proofs.TokenEnds.{mark_end, dot_end, slash_end}

-- a quote is double or single
kind_of : (quote : Quote) → (byte_of quote ≡ 34) ⊎ (byte_of quote ≡ 39)
kind_of Single = inr refl
kind_of Double = inl refl

-- a text between quotes stops only where its line does
quoted_tests : (feed hidden end : Bool) (here there : Mode)
    → cond feed None (cond hidden (Some here) (cond end (Some mode.Quotation) (Some there))) ≡ None → feed ≡ true
quoted_tests true hidden end here there stops = refl
quoted_tests false true end here there stops = absurd (none-some _ (sym stops))
quoted_tests false false true here there stops = absurd (none-some _ (sym stops))
quoted_tests false false false here there stops = absurd (none-some _ (sym stops))

-- an open quotation stops where nothing ends it on its line
quoted_ends : (quote : Quote) (hidden : Bool) (text rest : List ℕ) → Stops (mode.Quoted quote hidden) text rest
    → past_quote (byte_of quote) hidden rest ≡ None
unfolding next
quoted_ends quote hidden text [] stops = refl
quoted_ends quote true text (byte ∷ after) stops =
    rw (quoted_tests (byte == 10) true (byte == byte_of quote) (mode.Quoted quote false)
    (mode.Quoted quote (byte == 92)) stops) refl
quoted_ends quote false text (byte ∷ after) stops =
    rw (quoted_tests (byte == 10) false (byte == byte_of quote) (mode.Quoted quote false)
    (mode.Quoted quote (byte == 92)) stops) refl

-- an open quotation is refused as unclosed
quoted_end : (at_line_start : Bool) (quote : Quote) (hidden : Bool) (text rest : List ℕ) (end : Ending)
    → IsOpenQuote quote hidden text → Stops (mode.Quoted quote hidden) text rest → end ≡ ending.Refused Unclosed
    → IsEnding at_line_start text rest end
quoted_end at_line_start quote hidden text rest end is stops what =
    let is_reason = open_quotation_refused at_line_start (text ++ rest) (record {
      wide = is.wide;
      quote = byte_of quote;
      after = is.inner ++ rest;
      kind = kind_of quote;
      parts = ap (λ t. t ++ rest) is.parts ∙ append_assoc (encoding_prefix is.wide) (byte_of quote ∷ is.inner) rest;
      never = is.goes_on rest ∙ quoted_ends quote hidden text rest stops;
    }) in
    subst (IsEnding at_line_start text rest) (sym what)
    (refuse at_line_start (text ++ rest) Unclosed Unclosed refl (λ e. cc) is_reason.0 is_reason)

-- a text up to its closing quote is a quotation
quotation_of : (text : List ℕ) → IsClosedQuote text → IsQuotation text
quotation_of text is = record {
  wide = is.wide;
  quote = byte_of is.quote;
  inner = is.inner;
  kind =
      kind_of is.quote;
  parts = is.parts;
  inside = is.inside;
}

-- a quotation ends as a token or is refused
quotation_end : (at_line_start : Bool) (text rest : List ℕ) (end : Ending) → IsClosedQuote text
    → EndsTokenAs Literal text end → IsEnding at_line_start text rest end
quotation_end at_line_start text rest ending.White is what = absurd what
quotation_end at_line_start text rest (ending.Token token) is what =
    quotation_stands at_line_start text rest token (quotation_of text is) what
quotation_end at_line_start text rest (ending.Refused why) is what =
    let is_reason = quotation_refused at_line_start text rest (quotation_of text is) what.1 in
    refuse at_line_start (text ++ rest) Literal why what.0 (λ e. cc) is_reason.0 is_reason

-- a line stops at a line feed alone
feed_next : (byte : ℕ) (here : Mode) → mode_if (not (byte == 10)) here ≡ None → byte ≡ 10
feed_next byte here stops = eqb-true byte 10 (not-false (byte == 10) (mode_if_false (not (byte == 10)) here stops))

-- a comment that its line ends stops at the end of the line
comment_ends : (text rest : List ℕ) → Stops mode.LineComment text rest → EndsLine rest
unfolding next
comment_ends text [] stops = tt
comment_ends text (byte ∷ after) stops = feed_next byte mode.LineComment stops

-- a comment that its line ends is white space there
line_comment_end : (at_line_start : Bool) (text rest : List ℕ) (end : Ending) → IsLineComment text
    → Stops mode.LineComment text rest → end ≡ ending.White → IsEnding at_line_start text rest end
line_comment_end at_line_start text rest end is stops what =
    subst (IsEnding at_line_start text rest) (sym what)
    (line_comment_stands at_line_start text rest is (comment_ends text rest stops))

-- nothing ends a comment but its end
open_end : (star : Bool) (text rest : List ℕ) → Stops (mode.BlockComment star) text rest → rest ≡ []
unfolding next
open_end star text [] stops = refl
open_end star text (byte ∷ after) stops = absurd (none-some _ (sym stops))

-- nothing closes a comment in no bytes
never_closed : (star : Bool) → past_star star [] ≡ None
never_closed true = refl
never_closed false = refl

-- a comment that is open at the end is refused as unclosed
comment_end : (at_line_start star : Bool) (text rest : List ℕ) (end : Ending) → IsOpenComment star text
    → Stops (mode.BlockComment star) text rest → end ≡ ending.Refused Unclosed → IsEnding at_line_start text rest end
comment_end at_line_start star text rest end is stops what =
    let never = close_none is.body (ap past_close (sym (append-nil is.body)) ∙ (is.goes_on [] ∙ never_closed star)) in
    let whole : codes "/*" ++ is.body ≡ text ++ rest =
    sym (ap (λ t. text ++ t) (open_end star text rest stops) ∙ (append-nil text ∙ is.parts)) in
    let is_reason =
    subst (λ t. IsReason at_line_start t Unclosed) whole (open_comment_refused at_line_start is.body never) in
    subst (IsEnding at_line_start text rest) (sym what)
    (refuse at_line_start (text ++ rest) Unclosed Unclosed refl (λ e. cc) is_reason.0 is_reason)

-- a white byte and a closed comment are white space
space_stands : (at_line_start : Bool) (text rest : List ℕ) → IsSpace text
    → Stands at_line_start (text ++ rest) (White text) rest
space_stands at_line_start text rest (inl white) =
    subst (λ t. Stands at_line_start (t ++ rest) (White t) rest) (sym white.1)
    (white_stands at_line_start white.0 rest white.2)
space_stands at_line_start text rest (inr block) = block_comment_stands at_line_start text rest block

-- a directive line stops at the end of the line
line_ends : (text rest : List ℕ) → Stops mode.Directive text rest → EndsLine rest
unfolding next
line_ends text [] stops = tt
line_ends text (byte ∷ after) stops = feed_next byte mode.Directive stops

-- a line from `#` on ends as white space or is refused as a directive
directive_end : (body rest : List ℕ) (end : Ending) → list_all (is_in Line) body ≡ true → EndsLine rest
    → EndsDirectiveAs (35 ∷ body) end → IsEnding true (35 ∷ body) rest end
directive_end body rest ending.White line ends what = directive_stands body rest line ends what
directive_end body rest (ending.Token token) line ends what = absurd what
directive_end body rest (ending.Refused why) line ends what =
    let is_reason = directive_refused body rest line ends what.1 in
    refuse true ((35 ∷ body) ++ rest) Directive why what.0 (λ e. cc) is_reason.0 is_reason

-- the same of the open part
line_end : (at_line_start : Bool) (text rest : List ℕ) (end : Ending) → IsOpenLine at_line_start text
    → Stops mode.Directive text rest → EndsDirectiveAs text end → IsEnding at_line_start text rest end
line_end at_line_start text rest end is stops what =
    subst (λ f. IsEnding f text rest end) (sym is.is_first)
    (subst (λ t. IsEnding true t rest end) (sym is.parts)
    (directive_end is.body rest end is.line (line_ends text rest stops)
    (subst (λ t. EndsDirectiveAs t end) is.parts what)))

-- where a first byte leads nowhere, each test of it fails
class_tests : (white letter digit mark : Bool)
    → cond white mode.Space
    (cond letter mode.Word (cond digit (mode.Number false) (cond mark mode.Mark mode.Alien))) ≡ mode.Alien
    → (white ≡ false) × (letter ≡ false) × (digit ≡ false) × (mark ≡ false)
class_tests true letter digit mark alien = absurd (cc)
class_tests false true digit mark alien = absurd (cc)
class_tests false false true mark alien = absurd (cc)
class_tests false false false true alien = absurd (cc)
class_tests false false false false alien = (refl, refl, refl, refl)

-- where a first byte leads nowhere, it begins nothing that is told by one byte
first_tests : (wide double single point slash hash : Bool) (other : Mode)
    → cond wide mode.Wide
    (cond double (mode.Quoted Double false)
    (cond single (mode.Quoted Single false)
    (cond point mode.Dot (cond slash mode.Slash (cond hash mode.Directive other))))) ≡ mode.Alien
    → ((double || single) ≡ false) × (point ≡ false) × (slash ≡ false) × (hash ≡ false) × (other ≡ mode.Alien)
first_tests true double single point slash hash other alien = absurd (cc)
first_tests false true single point slash hash other alien = absurd (cc)
first_tests false false true point slash hash other alien = absurd (cc)
first_tests false false false true slash hash other alien = absurd (cc)
first_tests false false false false true hash other alien = absurd (cc)
first_tests false false false false false true other alien = absurd (cc)
first_tests false false false false false false other alien = (refl, refl, refl, refl, alien)

-- a byte that begins nothing is of no lead, or a `#` behind a token
alien_at : (hash at_line_start : Bool) (at : Lead) → at ≡ cond hash Hash Other → (hash && at_line_start) ≡ false
    → (at ≡ Other) ⊎ ((at ≡ Hash) × (at_line_start ≡ false))
alien_at true at_line_start at is no_line = inr (is, no_line)
alien_at false at_line_start at is no_line = inl is

-- a first byte that leads nowhere begins no part
alien_of : (at_line_start : Bool) (byte : ℕ) (rest : List ℕ) → first at_line_start byte ≡ mode.Alien
    → IsAlien at_line_start (byte ∷ rest)
unfolding first first_of_class extends
alien_of at_line_start byte rest alien =
    let tests = first_tests (byte == 76) (byte == 34) (byte == 39) (byte == 46) (byte == 47) (byte == 35
    && at_line_start) (first_of_class byte) alien in
    let class = class_tests (is_white byte) (is_letter byte) (is_ascii_digit byte) (extends [] byte) tests.4 in
    record {
      at = alien_at (byte == 35) at_line_start (lead (byte ∷ rest))
          (plain_lead byte rest tests.0 tests.1 tests.2 class.0 class.1 class.2) tests.3;
      no_mark = λ mark after same. no_mark_at byte rest mark after class.3 same;
    }

-- a byte that begins nothing is refused as Char
alien_end : (at_line_start : Bool) (text rest : List ℕ) (end : Ending) → IsAlone at_line_start text
    → end ≡ ending.Refused Char → IsEnding at_line_start text rest end
alien_end at_line_start text rest end is what =
    let alien = alien_of at_line_start is.0 rest is.2 in
    subst (IsEnding at_line_start text rest) (sym what)
    (subst (λ t. IsNone at_line_start (t ++ rest) Char) (sym is.1)
    (record {
      none = alien_stands_not at_line_start (is.0 ∷ rest) alien;
      is_reason =
          alien_refused at_line_start (is.0 ∷ rest) alien;
    }))

-- two points before another byte are not one mark, so this holds of all modes but that one
pub ends : (at_line_start : Bool) (here : Mode) (text rest : List ℕ) (end : Ending) → (here ≡ mode.Dots → ⊥)
    → IsOpen at_line_start here text → Stops here text rest → EndsAs here text end
    → IsEnding at_line_start text rest end
ends at_line_start mode.Word text rest end other is stops what = word_end at_line_start text rest end is stops what
ends at_line_start mode.Wide text rest end other is stops what = wide_end at_line_start text rest end is stops what
ends at_line_start (mode.Number sign) text rest end other is stops what =
    number_end at_line_start sign text rest end is stops what
ends at_line_start mode.Dot text rest end other is stops what = dot_end at_line_start text rest end is stops what
ends at_line_start mode.Dots text rest end other is stops what = absurd (other refl)
ends at_line_start mode.Slash text rest end other is stops what = slash_end at_line_start text rest end is stops what
ends at_line_start mode.Mark text rest end other is stops what = mark_end at_line_start text rest end is stops what
ends at_line_start (mode.Quoted quote hidden) text rest end other is stops what =
    quoted_end at_line_start quote hidden text rest end is stops what
ends at_line_start mode.Quotation text rest end other is stops what = quotation_end at_line_start text rest end is what
ends at_line_start mode.LineComment text rest end other is stops what =
    line_comment_end at_line_start text rest end is stops what
ends at_line_start (mode.BlockComment star) text rest end other is stops what =
    comment_end at_line_start star text rest end is stops what
ends at_line_start mode.Space text rest end other is stops what =
    subst (IsEnding at_line_start text rest) (sym what) (space_stands at_line_start text rest is)
ends at_line_start mode.Directive text rest end other is stops what = line_end at_line_start text rest end is stops what
ends at_line_start mode.Alien text rest end other is stops what = alien_end at_line_start text rest end is what

-- two points stop where no third follows
third_point : (text rest : List ℕ) → Stops mode.Dots text rest → (slice_index rest 0 == 46) ≡ false
unfolding next
third_point text [] stops = refl
third_point text (byte ∷ after) stops = mode_if_false (byte == 46) mode.Mark stops

-- the first of two points stands, where no third follows
pub point_stands : (at_line_start : Bool) (rest : List ℕ) → Stops mode.Dots (46 ∷ 46 ∷ []) rest
    → Stands at_line_start (46 ∷ 46 ∷ rest) (Spelled (46 ∷ []) (body.Mark p.Dot)) (46 ∷ rest)
point_stands at_line_start rest stops =
    let third = third_point (46 ∷ 46 ∷ []) rest stops in
    mark_stands at_line_start p.Dot (46 ∷ rest) (point_lead (46 ∷ rest) refl)
    (λ other after same. points_alone (46 ∷ rest) other after third same)
