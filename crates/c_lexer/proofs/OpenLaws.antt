-- A first byte opens a part, and a byte that goes on with a part leaves it open.
use Rattle.std.proofs.Common.{◌≡◌, inl, inr, ℕ, ◌+◌, ◌<◌, List, [], ◌∷◌, ◌++◌, Bool, true, false, ◌==◌, ◌&&◌, cond}
use Rattle.std.proofs.Common.{length, refl, sym, ◌∙◌, ap, subst, arith, append_assoc, length-append}
use Rattle.std.proofs.lemmas.Bool.{and_parts, and_from, or_left, eqb-true, eqb-false, cond-true, cond-false}
use Rattle.std.proofs.lemmas.Bool.{cond_both, false≢true, false_from_ne_true}
use Rattle.std.proofs.lemmas.List.Folds.{list_all-append}
use Rattle.std.specs.Prelude.{Option, Some, None, is_some, IfSome, codes, not}
use Rattle.std.specs.List.{list_all}
use Rattle.std.specs.Option.{option_map}
use Rattle.std.specs.Char.{is_ascii_digit}
use Rattle.c_lexer.specs.declared.bytes.Class.TheVariants.{Line}
use Rattle.c_lexer.specs.declared.mode.Mode.{Mode}
use Rattle.c_lexer.specs.declared.mode.Mode.TheVariants as mode
use Rattle.c_lexer.specs.declared.mode.Quote.{Quote}
use Rattle.c_lexer.specs.declared.mode.Quote.TheVariants.{Single, Double}
use Rattle.c_lexer.specs.declared.number.Base.TheVariants.{Decimal}
use Rattle.c_lexer.specs.declared.punct.Punct.{Punct}
use Rattle.c_lexer.specs.declared.punct.Punct.TheVariants as p
use Rattle.c_lexer.specs.Bytes.{is_letter, is_word_byte, is_white}
use Rattle.c_lexer.specs.Characters.{encoding_prefix}
use Rattle.c_lexer.specs.Classes.{is_in}
use Rattle.c_lexer.specs.Comments.{IsLineComment, IsBlockComment}
use Rattle.c_lexer.specs.Lookup.{lookup}
use Rattle.c_lexer.specs.Marks.{mark_text, marks, all_marks}
use Rattle.c_lexer.specs.Open.{IsOpenWord, IsOpenNumber, IsOpenMark, IsOpenQuote, IsClosedQuote, IsOpenComment}
use Rattle.c_lexer.specs.Open.{IsOpenLine, IsOpen}
use Rattle.c_lexer.specs.ReadComment.{past_close, past_quote}
use Rattle.c_lexer.specs.ReadPart.{byte_of, quote_of, extends, first_of_class, first, next_wide, next_dot, next_slash}
use Rattle.c_lexer.specs.ReadPart.{next_quoted, next_comment, mode_if, next}
use Rattle.c_lexer.specs.Refusals.{goes_on_number, is_exponent, number_len, begins_number}
use Rattle.c_lexer.proofs.CommentLaws.{quote_sound, close_sound}
use Rattle.c_lexer.proofs.Leads.{may_be_mark, mark_may}
use Rattle.c_lexer.proofs.NumberPart.{digit_word}
use Rattle.c_lexer.proofs.SplitLaws.{mark_some}
use Rattle.c_lexer.proofs.Tables.{spelled_so}

-- where a byte leads, if it leads on, is what the text is with it
abbrev IsOpenAt : Bool → List ℕ → Option Mode → Type 0
IsOpenAt at_line_start text o = IfSome o (λ there. IsOpen at_line_start there text)

-- the same, where the byte leads to one mode or nowhere
mode_if_open : (at_line_start : Bool) (text : List ℕ) (leads : Bool) (there : Mode)
    → (leads ≡ true → IsOpen at_line_start there text) → IsOpenAt at_line_start text (mode_if leads there)
mode_if_open at_line_start text leads there more =
    cond_both leads (Some there) None (IsOpenAt at_line_start text) more (λ no. tt)

-- one byte more of a class
all_more : (p : ℕ → Bool) (text : List ℕ) (byte : ℕ) → list_all p text ≡ true → p byte ≡ true
    → list_all p (text ++ (byte ∷ [])) ≡ true
all_more p text byte all one = list_all-append p text (byte ∷ []) ∙ and_from _ _ all (and_from _ _ one refl)

-- another byte is another text
other_text : (byte value : ℕ) → (byte == value) ≡ false → byte ∷ [] ≡ value ∷ [] → ⊥
other_text byte value other same = eqb-false byte value other (cc)

-- words
word_more : (text : List ℕ) (byte : ℕ) → IsOpenWord text → is_word_byte byte ≡ true → IsOpenWord (text ++ (byte ∷ []))
word_more [] byte is word = absurd (false≢true is.first)
word_more (a ∷ text) byte is word =
    record {
      first = is.first;
      each = all_more is_word_byte (a ∷ text) byte is.each word;
      not_wide =
          λ h. omega (arith, ap length h, length-append text (byte ∷ []));
    }

-- a letter other than L opens a word
letter_opens : (byte : ℕ) → is_letter byte ≡ true → (byte == 76) ≡ false → IsOpenWord (byte ∷ [])
letter_opens byte letter other = record {
  first = letter;
  each = and_from _ _ (or_left (is_letter byte) (is_ascii_digit byte) letter) refl;
  not_wide = other_text byte 76 other;
}

-- quotes
quote_opens : (wide : Bool) (quote : Quote) (byte : ℕ) → byte ≡ byte_of quote
    → IsOpenQuote quote false (encoding_prefix wide ++ (byte ∷ []))
quote_opens wide quote byte is =
    record { wide = wide; inner = []; parts = ap (λ b. encoding_prefix wide ++ (b ∷ [])) is; goes_on = λ rest. refl }

-- L and a word byte are a word, L and a quote an open quotation
wide_leads : (at_line_start : Bool) (byte : ℕ) → IsOpenAt at_line_start (76 ∷ byte ∷ []) (next_wide byte)
wide_leads at_line_start byte =
    let Leads : Option Quote → Type 0 =
    λ o. IsOpenAt at_line_start (76 ∷ byte ∷ []) (option_map (λ quote. mode.Quoted quote false) o) in
    cond_both (is_word_byte byte) (Some mode.Word) (option_map (λ quote. mode.Quoted quote false) (quote_of byte))
    (IsOpenAt at_line_start (76 ∷ byte ∷ []))
    (λ word. record { first = refl; each = and_from _ _ word refl; not_wide = λ h. omega (arith, ap length h) })
    (λ no_word.
    cond_both (byte == 34) (Some Double) (cond (byte == 39) (Some Single) None) Leads
    (λ is. quote_opens true Double byte (eqb-true byte 34 is))
    (λ no_double. cond_both (byte == 39) (Some Single) None Leads
    (λ is. quote_opens true Single byte (eqb-true byte 39 is)) (λ no_single. tt)))

-- a byte that ends no quotation leaves it open
quote_more : (quote : Quote) (hidden hides : Bool) (text : List ℕ) (byte : ℕ) → IsOpenQuote quote hidden text
    → ((rest : List ℕ) → past_quote (byte_of quote) hidden (byte ∷ rest) ≡ past_quote (byte_of quote) hides rest)
    → IsOpenQuote quote hides (text ++ (byte ∷ []))
quote_more quote hidden hides text byte is step = record {
  wide = is.wide;
  inner = is.inner ++ (byte ∷ []);
  parts = ap (λ t. t ++ (byte ∷ [])) is.parts
      ∙ append_assoc (encoding_prefix is.wide) (byte_of quote ∷ is.inner) (byte ∷ []);
  goes_on = λ rest. ap (past_quote (byte_of quote) false) (append_assoc is.inner (byte ∷ []) rest)
      ∙ (is.goes_on (byte ∷ rest) ∙ step rest);
}

-- a quote ends what it began
end_quote : (quote : Quote) → past_quote (byte_of quote) false (byte_of quote ∷ []) ≡ Some []
end_quote Single = refl
end_quote Double = refl

-- the closing quote makes the quotation whole
quote_closes : (quote : Quote) (text : List ℕ) (byte : ℕ) → IsOpenQuote quote false text → byte ≡ byte_of quote
    → IsClosedQuote (text ++ (byte ∷ []))
quote_closes quote text byte is same =
    let ended = quote_sound (byte_of quote) false (is.inner ++ (byte_of quote ∷ [])) []
    (is.goes_on (byte_of quote ∷ []) ∙ end_quote quote) in record {
      wide = is.wide;
      quote = quote;
      inner = ended.inner;
      parts = ap (λ t. t ++ (byte ∷ [])) is.parts
          ∙ (append_assoc (encoding_prefix is.wide) (byte_of quote ∷ is.inner) (byte ∷ [])
          ∙ ap (λ t. encoding_prefix is.wide ++ (byte_of quote ∷ t)) (ap (λ b. is.inner ++ (b ∷ [])) same
          ∙ ended.parts));
      inside = ended.inside;
    }

-- a byte between quotes that ends no line
inner_leads : (at_line_start : Bool) (quote : Quote) (hidden : Bool) (text : List ℕ) (byte : ℕ)
    → IsOpenQuote quote hidden text → (byte == 10) ≡ false
    → IsOpenAt at_line_start (text ++ (byte ∷ []))
    (cond hidden (Some (mode.Quoted quote false))
    (cond (byte == byte_of quote) (Some mode.Quotation) (Some (mode.Quoted quote (byte == 92)))))
inner_leads at_line_start quote true text byte is line =
    quote_more quote true false text byte is
    (λ rest. cond-false (byte == 10) None (past_quote (byte_of quote) false rest) line)
inner_leads at_line_start quote false text byte is line =
    cond_both (byte == byte_of quote) (Some mode.Quotation) (Some (mode.Quoted quote (byte == 92)))
    (IsOpenAt at_line_start (text ++ (byte ∷ [])))
    (λ end. quote_closes quote text byte is (eqb-true byte (byte_of quote) end))
    (λ no_end. quote_more quote false (byte == 92) text byte is (λ rest. rw (line, no_end) refl))

-- any byte between quotes
quoted_leads : (at_line_start : Bool) (quote : Quote) (hidden : Bool) (text : List ℕ) (byte : ℕ)
    → IsOpenQuote quote hidden text → IsOpenAt at_line_start (text ++ (byte ∷ [])) (next_quoted quote hidden byte)
quoted_leads at_line_start quote hidden text byte is =
    cond_both (byte == 10) None _ (IsOpenAt at_line_start (text ++ (byte ∷ []))) (λ feed. tt)
    (inner_leads at_line_start quote hidden text byte is)

-- numbers
number_more : (sign : Bool) (text : List ℕ) (byte : ℕ) → IsOpenNumber sign text → goes_on_number sign byte ≡ true
    → IsOpenNumber (is_exponent byte) (text ++ (byte ∷ []))
number_more sign text byte is on = record {
  begins = λ rest. ap begins_number (append_assoc text (byte ∷ []) rest) ∙ is.begins (byte ∷ rest);
  goes_on = λ rest.
      let step : number_len sign (byte ∷ rest) ≡ 1 + number_len (is_exponent byte) rest =
      cond-true (goes_on_number sign byte) (1 + number_len (is_exponent byte) rest) 0 on in
      let whole : number_len false ((text ++ (byte ∷ [])) ++ rest) ≡ length text + number_len sign (byte ∷ rest) =
      ap (number_len false) (append_assoc text (byte ∷ []) rest) ∙ is.goes_on (byte ∷ rest) in
      omega (arith, step, whole, length-append text (byte ∷ []));
}

-- behind a digit no sign goes on
digit_no_exponent : (byte : ℕ) → is_ascii_digit byte ≡ true → is_exponent byte ≡ false
digit_no_exponent byte digit = false_from_ne_true (is_exponent byte) (λ exponent. grind (arith, digit, exponent))

-- a digit opens a number
digit_opens : (byte : ℕ) → is_ascii_digit byte ≡ true → IsOpenNumber false (byte ∷ [])
digit_opens byte digit =
    record {
      begins = λ rest. or_left _ _ digit;
      goes_on =
          λ rest. rw (digit_word Decimal byte digit, digit_no_exponent byte digit) refl;
    }

-- a point and a digit open a number
point_more : (byte : ℕ) → is_ascii_digit byte ≡ true → IsOpenNumber false (46 ∷ byte ∷ [])
point_more byte digit =
    record {
      begins = λ rest. digit;
      goes_on =
          λ rest. (let more = (digit_opens byte digit).goes_on rest in omega (arith, more));
    }

-- what may follow a point
dot_leads : (at_line_start : Bool) (byte : ℕ) → IsOpenAt at_line_start (46 ∷ byte ∷ []) (next_dot byte)
dot_leads at_line_start byte =
    cond_both (is_ascii_digit byte) (Some (mode.Number false)) (cond (byte == 46) (Some mode.Dots) None)
    (IsOpenAt at_line_start (46 ∷ byte ∷ [])) (point_more byte)
    (λ no_digit. cond_both (byte == 46) (Some mode.Dots) None (IsOpenAt at_line_start (46 ∷ byte ∷ []))
    (λ is. ap (λ b. 46 ∷ b ∷ []) (eqb-true byte 46 is)) (λ no_point. tt))

-- marks
mark_open : (text : List ℕ) (mark : Punct) → text ≡ mark_text mark → (text ≡ codes "." → ⊥) → (text ≡ codes "/" → ⊥)
    → IsOpenMark text
mark_open text mark is dot slash =
    record { mark = mark; spelled = is; other = (λ e. dot (is ∙ ap mark_text e), λ e. slash (is ∙ ap mark_text e)) }

-- what is something has a value
found_value : {A : Type 0} (o : Option A) → is_some o ≡ true → (a : A) × (o ≡ Some a)
found_value None some = absurd (false≢true some)
found_value (Some a) some = (a, refl)

-- a byte that the table joins to a text makes a mark
extends_mark : (text : List ℕ) (byte : ℕ) → extends text byte ≡ true → (mark : Punct)
    × (text ++ (byte ∷ []) ≡ mark_text mark)
unfolding extends
extends_mark text byte more =
    let found = found_value (lookup marks (text ++ (byte ∷ []))) more in
    (found.0, spelled_so mark_text all_marks (text ++ (byte ∷ [])) found.0 found.1)

-- a byte more of a mark
mark_more : (text : List ℕ) (byte : ℕ) → IsOpenMark text → extends text byte ≡ true → IsOpenMark (text ++ (byte ∷ []))
mark_more [] byte is more = absurd (false≢true (ap may_be_mark is.spelled ∙ mark_may is.mark))
mark_more (a ∷ text) byte is more =
    let mark = extends_mark (a ∷ text) byte more in
    let long = length-append text (byte ∷ []) in
    mark_open ((a ∷ text) ++ (byte ∷ [])) mark.0 mark.1 (λ h. omega (arith, ap length h, long))
    (λ h. omega (arith, ap length h, long))

-- a byte that is a mark opens one
mark_opens : (byte : ℕ) → extends [] byte ≡ true → (byte == 46) ≡ false → (byte == 47) ≡ false → IsOpenMark (byte ∷ [])
mark_opens byte more dot slash =
    let mark = extends_mark [] byte more in
    mark_open (byte ∷ []) mark.0 mark.1 (other_text byte 46 dot) (other_text byte 47 slash)

-- three points are a mark
dots_more : (byte : ℕ) → (byte == 46) ≡ true → IsOpenMark (46 ∷ 46 ∷ byte ∷ [])
dots_more byte is =
    mark_open (46 ∷ 46 ∷ byte ∷ []) p.Ellipsis (ap (λ b. 46 ∷ 46 ∷ b ∷ []) (eqb-true byte 46 is))
    (λ h. omega (arith, ap length h)) (λ h. omega (arith, ap length h))

-- `/=` is a mark
slash_equal : (byte : ℕ) → (byte == 61) ≡ true → IsOpenMark (47 ∷ byte ∷ [])
slash_equal byte is =
    mark_open (47 ∷ byte ∷ []) p.SlashAssign (ap (λ b. 47 ∷ b ∷ []) (eqb-true byte 61 is))
    (λ h. omega (arith, ap length h)) (λ h. omega (arith, ap length h))

-- comments and lines
slash_leads : (at_line_start : Bool) (byte : ℕ) → IsOpenAt at_line_start (47 ∷ byte ∷ []) (next_slash byte)
slash_leads at_line_start byte =
    cond_both (byte == 47) (Some mode.LineComment)
    (cond (byte == 42) (Some (mode.BlockComment false)) (cond (byte == 61) (Some mode.Mark) None))
    (IsOpenAt at_line_start (47 ∷ byte ∷ []))
    (λ is. record { body = []; parts = ap (λ b. 47 ∷ b ∷ []) (eqb-true byte 47 is); line = refl })
    (λ no_slash.
    cond_both (byte == 42) (Some (mode.BlockComment false)) (cond (byte == 61) (Some mode.Mark) None)
    (IsOpenAt at_line_start (47 ∷ byte ∷ []))
    (λ is. record { body = []; parts = ap (λ b. 47 ∷ b ∷ []) (eqb-true byte 42 is); goes_on = λ rest. refl })
    (λ no_star. cond_both (byte == 61) (Some mode.Mark) None (IsOpenAt at_line_start (47 ∷ byte ∷ []))
    (slash_equal byte) (λ no_equal. tt)))

-- a byte more of a comment that its line ends
line_more : (text : List ℕ) (byte : ℕ) → IsLineComment text → not (byte == 10) ≡ true
    → IsLineComment (text ++ (byte ∷ []))
line_more text byte is on =
    record {
      body = is.body ++ (byte ∷ []);
      parts = ap (λ t. t ++ (byte ∷ [])) is.parts;
      line =
          all_more (is_in Line) is.body byte is.line on;
    }

-- a byte more of a directive line
directive_more : (at_line_start : Bool) (text : List ℕ) (byte : ℕ) → IsOpenLine at_line_start text
    → not (byte == 10) ≡ true → IsOpenLine at_line_start (text ++ (byte ∷ []))
directive_more at_line_start text byte is on =
    record {
      is_first = is.is_first;
      body = is.body ++ (byte ∷ []);
      parts =
          ap (λ t. t ++ (byte ∷ [])) is.parts;
      line = all_more (is_in Line) is.body byte is.line on;
    }

-- a byte that closes no comment leaves it open
comment_more : (star : Bool) (text : List ℕ) (byte : ℕ) → IsOpenComment star text → (star && byte == 47) ≡ false
    → IsOpenComment (byte == 42) (text ++ (byte ∷ []))
comment_more star text byte is no_end = record {
  body = is.body ++ (byte ∷ []);
  parts = ap (λ t. t ++ (byte ∷ [])) is.parts;
  goes_on = λ rest. ap past_close (append_assoc is.body (byte ∷ []) rest)
      ∙ (is.goes_on (byte ∷ rest) ∙ cond-false (star && byte == 47) (Some rest) (past_close (byte ∷ rest)) no_end);
}

-- a `/` behind a `*` closes it
comment_closes : (star : Bool) (text : List ℕ) (byte : ℕ) → IsOpenComment star text → (star && byte == 47) ≡ true
    → IsBlockComment (text ++ (byte ∷ []))
comment_closes star text byte is end =
    let closed = close_sound (is.body ++ (byte ∷ [])) [] (is.goes_on (byte ∷ [])
    ∙ cond-true (star && byte == 47) (Some []) (past_close (byte ∷ [])) end) in
    record {
      body = closed.body;
      parts = ap (λ t. t ++ (byte ∷ [])) is.parts
          ∙ ap (λ t. codes "/*" ++ t) closed.parts;
      first = closed.first;
    }

-- any byte of a comment
comment_leads : (at_line_start star : Bool) (text : List ℕ) (byte : ℕ) → IsOpenComment star text
    → IsOpen at_line_start (next_comment star byte) (text ++ (byte ∷ []))
comment_leads at_line_start star text byte is =
    cond_both (star && byte == 47) mode.Space (mode.BlockComment (byte == 42))
    (λ there. IsOpen at_line_start there (text ++ (byte ∷ [])))
    (λ end. inr (comment_closes star text byte is end)) (comment_more star text byte is)

-- the first byte
hash_opens : (at_line_start : Bool) (byte : ℕ) → (byte == 35 && at_line_start) ≡ true
    → IsOpenLine at_line_start (byte ∷ [])
hash_opens at_line_start byte both =
    let parts = and_parts (byte == 35) at_line_start both in
    record { is_first = parts.1; body = []; parts = ap (λ b. b ∷ []) (eqb-true byte 35 parts.0); line = refl }

-- a first byte that its class decides
class_opens : (at_line_start : Bool) (byte : ℕ) → (byte == 76) ≡ false → (byte == 46) ≡ false → (byte == 47) ≡ false
    → first at_line_start byte ≡ first_of_class byte → IsOpen at_line_start (first_of_class byte) (byte ∷ [])
unfolding first_of_class
class_opens at_line_start byte wide dot slash at =
    let Opens : Mode → Type 0 = λ there. first at_line_start byte ≡ there → IsOpen at_line_start there (byte ∷ []) in
    cond_both (is_white byte) mode.Space _ Opens (λ white same. inl (byte, refl, white))
    (λ no_white. cond_both (is_letter byte) mode.Word _ Opens (λ letter same. letter_opens byte letter wide)
    (λ no_letter. cond_both (is_ascii_digit byte) (mode.Number false) _ Opens (λ digit same. digit_opens byte digit)
    (λ no_digit. cond_both (extends [] byte) mode.Mark mode.Alien Opens
    (λ mark same. mark_opens byte mark dot slash) (λ no_mark same. (byte, refl, same))))) at

-- a first byte opens the part that its mode says
pub opens : (at_line_start : Bool) (byte : ℕ) → IsOpen at_line_start (first at_line_start byte) (byte ∷ [])
unfolding first
opens at_line_start byte =
    let Opens : Mode → Type 0 = λ there. first at_line_start byte ≡ there → IsOpen at_line_start there (byte ∷ []) in
    cond_both (byte == 76) mode.Wide _ Opens (λ is same. ap (λ b. b ∷ []) (eqb-true byte 76 is))
    (λ wide. cond_both (byte == 34) (mode.Quoted Double false) _ Opens
    (λ is same. quote_opens false Double byte (eqb-true byte 34 is))
    (λ double. cond_both (byte == 39) (mode.Quoted Single false) _ Opens
    (λ is same. quote_opens false Single byte (eqb-true byte 39 is))
    (λ single. cond_both (byte == 46) mode.Dot _ Opens (λ is same. ap (λ b. b ∷ []) (eqb-true byte 46 is))
    (λ dot. cond_both (byte == 47) mode.Slash _ Opens (λ is same. ap (λ b. b ∷ []) (eqb-true byte 47 is))
    (λ slash. cond_both (byte == 35 && at_line_start) mode.Directive (first_of_class byte) Opens
    (λ is same. hash_opens at_line_start byte is) (λ hash. class_opens at_line_start byte wide dot slash)))))) refl

-- the text and the byte are what the byte leads to
leads_on : (at_line_start : Bool) (here : Mode) (text : List ℕ) (byte : ℕ) → IsOpen at_line_start here text
    → IsOpenAt at_line_start (text ++ (byte ∷ [])) (next here text byte)
unfolding next
leads_on at_line_start mode.Word text byte is =
    mode_if_open at_line_start (text ++ (byte ∷ [])) (is_word_byte byte) mode.Word (word_more text byte is)
leads_on at_line_start mode.Wide text byte is =
    subst (λ t. IsOpenAt at_line_start (t ++ (byte ∷ [])) (next_wide byte)) (sym is) (wide_leads at_line_start byte)
leads_on at_line_start (mode.Number sign) text byte is =
    mode_if_open at_line_start (text ++ (byte ∷ [])) (goes_on_number sign byte) (mode.Number (is_exponent byte))
    (number_more sign text byte is)
leads_on at_line_start mode.Dot text byte is =
    subst (λ t. IsOpenAt at_line_start (t ++ (byte ∷ [])) (next_dot byte)) (sym is) (dot_leads at_line_start byte)
leads_on at_line_start mode.Dots text byte is =
    subst (λ t. IsOpenAt at_line_start (t ++ (byte ∷ [])) (mode_if (byte == 46) mode.Mark)) (sym is)
    (mode_if_open at_line_start (46 ∷ 46 ∷ byte ∷ []) (byte == 46) mode.Mark (dots_more byte))
leads_on at_line_start mode.Slash text byte is =
    subst (λ t. IsOpenAt at_line_start (t ++ (byte ∷ [])) (next_slash byte)) (sym is) (slash_leads at_line_start byte)
leads_on at_line_start mode.Mark text byte is =
    mode_if_open at_line_start (text ++ (byte ∷ [])) (extends text byte) mode.Mark (mark_more text byte is)
leads_on at_line_start (mode.Quoted quote hidden) text byte is = quoted_leads at_line_start quote hidden text byte is
leads_on at_line_start mode.Quotation text byte is = tt
leads_on at_line_start mode.LineComment text byte is =
    mode_if_open at_line_start (text ++ (byte ∷ [])) (not (byte == 10)) mode.LineComment (line_more text byte is)
leads_on at_line_start (mode.BlockComment star) text byte is = comment_leads at_line_start star text byte is
leads_on at_line_start mode.Space text byte is = tt
leads_on at_line_start mode.Directive text byte is =
    mode_if_open at_line_start (text ++ (byte ∷ [])) (not (byte == 10)) mode.Directive
    (directive_more at_line_start text byte is)
leads_on at_line_start mode.Alien text byte is = tt

-- the same, where the byte leads on
pub goes_on : (at_line_start : Bool) (here then : Mode) (text : List ℕ) (byte : ℕ) → IsOpen at_line_start here text
    → next here text byte ≡ Some then → IsOpen at_line_start then (text ++ (byte ∷ []))
goes_on at_line_start here then text byte is leads =
    subst (IsOpenAt at_line_start (text ++ (byte ∷ []))) leads (leads_on at_line_start here text byte is)

-- what begins with a quote is not empty
some_prefix : (wide : Bool) (byte : ℕ) (text : List ℕ) → [] ≡ encoding_prefix wide ++ (byte ∷ text) → ⊥
some_prefix true byte text is = cc
some_prefix false byte text is = cc

-- no open part is empty
none_open : (at_line_start : Bool) (here : Mode) → IsOpen at_line_start here [] → ⊥
none_open at_line_start mode.Word is = false≢true is.first
none_open at_line_start mode.Wide is = cc
none_open at_line_start (mode.Number sign) is = false≢true (is.begins [])
none_open at_line_start mode.Dot is = cc
none_open at_line_start mode.Dots is = cc
none_open at_line_start mode.Slash is = cc
none_open at_line_start mode.Mark is = mark_some is.mark (sym is.spelled)
none_open at_line_start (mode.Quoted quote hidden) is = some_prefix is.wide _ _ is.parts
none_open at_line_start mode.Quotation is = some_prefix is.wide _ _ is.parts
none_open at_line_start mode.LineComment is = (let e = is.parts in cc)
none_open at_line_start (mode.BlockComment star) is = (let e = is.parts in cc)
none_open at_line_start mode.Space (inl is) = (let e = is.1 in cc)
none_open at_line_start mode.Space (inr is) = (let e = is.parts in cc)
none_open at_line_start mode.Directive is = (let e = is.parts in cc)
none_open at_line_start mode.Alien is = (let e = is.1 in cc)

-- an open part has bytes
pub some_open : (at_line_start : Bool) (here : Mode) (text : List ℕ) → IsOpen at_line_start here text → 0 < length text
some_open at_line_start here [] is = absurd (none_open at_line_start here is)
some_open at_line_start here (byte ∷ text) is = omega arith
