-- What may stand at a place, by the two bytes at the front.
use Rattle.std.proofs.Common.{◌≡◌, ◌⊎◌, inl, inr, ℕ, List, ◌∷◌, ◌++◌, Bool, true, false, ◌==◌, ◌||◌, ◌&&◌, cond}
use Rattle.std.proofs.Common.{length, refl, sym, ◌∙◌, ap, subst, [], arith, append_assoc}
use Rattle.std.proofs.lemmas.Bool.{or_from, and_parts, and_from, and_right, or_parts, eqb-true, false≢true}
use Rattle.std.proofs.lemmas.Bool.{false_from_ne_true, not-true, or_cases}
use Rattle.std.specs.Prelude.{slice_index, not}
use Rattle.std.specs.List.{list_all, flat_map}
use Rattle.c_lexer.specs.declared.number.Number.{Number}
use Rattle.c_lexer.specs.declared.punct.Punct.{Punct}
use Rattle.c_lexer.specs.declared.token.Body.{Body}
use Rattle.c_lexer.specs.declared.token.Body.TheVariants as body
use Rattle.c_lexer.specs.Bytes.{is_letter, is_word_byte, is_white, is_quote}
use Rattle.c_lexer.specs.Characters.{encoding_prefix, item_text}
use Rattle.c_lexer.specs.Comments.{IsBlockComment, IsLineComment}
use Rattle.c_lexer.specs.Directives.{IsDirective}
use Rattle.c_lexer.specs.LexicalParts.{Part, White, Spelled, part_text, IsPart, IsWhite}
use Rattle.c_lexer.specs.Refusals.{begins_number}
use Rattle.c_lexer.proofs.Cases.{other_byte}
use Rattle.std.specs.Char.{is_ascii_digit}
use Rattle.c_lexer.specs.declared.word.Word.{Word}
use Rattle.c_lexer.specs.Words.{word_text, words, word_of}
use Rattle.c_lexer.specs.Marks.{mark_text, marks}
use Rattle.c_lexer.specs.Numbers.{IsNumber}
use Rattle.c_lexer.proofs.MarkLaws.{mark_full}
use Rattle.c_lexer.proofs.Tables.{lookup_true}
use Rattle.c_lexer.proofs.WordLaws.{word_full}
use Rattle.c_lexer.proofs.TokenLaws.{letter_no_digit, number_first}

-- a quote, or L and a quote; a letter; a digit, or a point and a digit; what begins a comment; a #; one of the six
-- bytes; none of these
pub data Lead : Type 0 where
  Quoted : Lead
  Letter : Lead
  Digit : Lead
  Comment : Lead
  Hash : Lead
  Space : Lead
  Other : Lead

-- what is at the front, by its first two bytes
unfoldable pub lead : List ℕ → Lead
lead bytes =
    let first = slice_index bytes 0 in
    let second = slice_index bytes 1 in
    cond (is_quote first || (first == 76 && is_quote second)) Quoted
    (cond (is_letter first) Letter
    (cond (begins_number bytes) Digit
    (cond (first == 47 && (second == 47 || second == 42)) Comment
    (cond (first == 35) Hash (cond (is_white first) Space Other)))))

-- the token is a character constant or a string literal
abbrev pub IsQuotedToken : Body → Type 0
IsQuotedToken (body.Character value wide) = Unit {0}
IsQuotedToken (body.Literal units wide) = Unit {0}
IsQuotedToken token = ⊥

-- what may stand where this is at the front
abbrev pub Admits : Lead → Part → Type 0
Admits Quoted (White text) = ⊥
Admits Quoted (Spelled text token) = (length text ≡ 1) ⊎ IsQuotedToken token
Admits Letter (White text) = ⊥
Admits Letter (Spelled text token) = list_all is_word_byte text ≡ true
Admits Digit (White text) = ⊥
Admits Digit (Spelled text token) = (length text ≡ 1) ⊎ ((number : Number) × (token ≡ body.Number number))
Admits Comment (White text) = IsLineComment text ⊎ IsBlockComment text
Admits Comment (Spelled text token) = length text ≡ 1
Admits Hash (White text) = IsDirective text
Admits Hash (Spelled text token) = ⊥
Admits Space (White text) = length text ≡ 1
Admits Space (Spelled text token) = ⊥
Admits Other (White text) = ⊥
Admits Other (Spelled text token) = (mark : Punct) × (token ≡ body.Mark mark)

-- a byte of a class without quotes is none
no_quote_in : (class : ℕ → Bool) (byte : ℕ) → class 34 ≡ false → class 39 ≡ false → class byte ≡ true
    → is_quote byte ≡ false
no_quote_in class byte double single inside =
    or_from _ _ (other_byte class 34 byte double inside) (other_byte class 39 byte single inside)

-- 34 and 39 are the double and the single quote
abbrev pub IsQuote : ℕ → Type 0
IsQuote quote = (quote ≡ 34) ⊎ (quote ≡ 39)

-- what holds of both quotes
pub each_quote : (P : ℕ → Type 0) (quote : ℕ) → IsQuote quote → P 34 → P 39 → P quote
each_quote P quote (inl is) double single = subst P (sym is) double
each_quote P quote (inr is) double single = subst P (sym is) single

-- a quote, or L and a quote, are at the front
pub quoted_lead : (wide : Bool) (quote : ℕ) (bytes rest : List ℕ) → IsQuote quote
    → bytes ≡ encoding_prefix wide ++ (quote ∷ rest) → lead bytes ≡ Quoted
unfolding lead
quoted_lead false quote bytes rest is parts = ap lead parts
    ∙ each_quote (λ q. lead (q ∷ rest) ≡ Quoted) quote is refl refl
quoted_lead true quote bytes rest is parts = ap lead parts
    ∙ each_quote (λ q. lead (76 ∷ q ∷ rest) ≡ Quoted) quote is refl refl

-- a letter is at the front: L before a quote, or a word
run_lead : (bytes : List ℕ) → is_letter (slice_index bytes 0) ≡ true
    → lead bytes ≡ cond (slice_index bytes 0 == 76 && is_quote (slice_index bytes 1)) Quoted Letter
unfolding lead
run_lead bytes letter = rw (no_quote_in is_letter (slice_index bytes 0) refl refl letter, letter) refl

-- a letter that is no L before a quote
pub letter_lead : (bytes : List ℕ) → is_letter (slice_index bytes 0) ≡ true
    → (slice_index bytes 0 == 76 && is_quote (slice_index bytes 1)) ≡ false → lead bytes ≡ Letter
letter_lead bytes letter unquoted = run_lead bytes letter ∙ ap (λ t. cond t Quoted Letter) unquoted

-- a letter and a word byte
pub longer_lead : (a b : ℕ) (bytes : List ℕ) → is_letter a ≡ true → is_word_byte b ≡ true
    → lead (a ∷ b ∷ bytes) ≡ Letter
longer_lead a b bytes letter word =
    letter_lead (a ∷ b ∷ bytes) letter (and_right (a == 76) (is_quote b) (no_quote_in is_word_byte b refl refl word))

-- a digit is no letter
digit_no_letter : (byte : ℕ) → is_ascii_digit byte ≡ true → is_letter byte ≡ false
digit_no_letter byte digit =
    false_from_ne_true (is_letter byte) (λ letter. false≢true (sym (letter_no_digit byte true letter digit)))

-- a digit is at the front
digit_lead : (bytes : List ℕ) → is_ascii_digit (slice_index bytes 0) ≡ true → lead bytes ≡ Digit
unfolding lead
digit_lead bytes digit =
    rw (
      no_quote_in is_ascii_digit (slice_index bytes 0) refl refl digit,
      other_byte is_ascii_digit 76 (slice_index bytes 0) refl digit,
      digit_no_letter (slice_index bytes 0) digit,
      digit,
    ) refl

-- a point and a digit are at the front
point_lead : (bytes : List ℕ) → slice_index bytes 0 ≡ 46 → is_ascii_digit (slice_index bytes 1) ≡ true
    → lead bytes ≡ Digit
unfolding lead
point_lead bytes point digit = rw (point, digit) refl

-- what begins as a number is at the front
pub number_lead : (bytes : List ℕ) → begins_number bytes ≡ true → lead bytes ≡ Digit
number_lead bytes begins =
    elim (or_cases (is_ascii_digit (slice_index bytes 0)) (slice_index bytes 0 == 46
    && is_ascii_digit (slice_index bytes 1)) begins) [
      | inl digit ↦ digit_lead bytes digit
      | inr both ↦ (let parts = and_parts _ _ both in point_lead bytes (eqb-true _ _ parts.0) parts.1)
    ]

-- a white byte is no word byte
white_no_word : (byte : ℕ) → is_white byte ≡ true → is_word_byte byte ≡ false
white_no_word byte white = false_from_ne_true (is_word_byte byte) (λ word. grind (arith, word, white))

-- a white byte is at the front
pub white_lead : (byte : ℕ) (after : List ℕ) → is_white byte ≡ true → lead (byte ∷ after) ≡ Space
unfolding lead
white_lead byte after white =
    let no_word = or_parts (is_letter byte) (is_ascii_digit byte) (white_no_word byte white) in
    rw (
      no_quote_in is_white byte refl refl white,
      other_byte is_white 76 byte refl white,
      no_word.0,
      no_word.1,
      other_byte is_white 46 byte refl white,
      other_byte is_white 47 byte refl white,
      other_byte is_white 35 byte refl white,
      white,
    ) refl

-- a word of one byte may stand where a word or L and a quote begin
single_admits : (t : Bool) (byte : ℕ) (token : Body) → is_word_byte byte ≡ true
    → Admits (cond t Quoted Letter) (Spelled (byte ∷ []) token)
single_admits true byte token is = inl refl
single_admits false byte token is = and_from _ _ is refl

-- what one lead admits, an equal one admits
admits_there : {at l : Lead} (part : Part) → at ≡ l → Admits l part → Admits at part
admits_there part is = subst (λ l. Admits l part) (sym is)

-- a run of letters and digits may stand where it begins
run_admitted : (text after : List ℕ) (token : Body) → is_letter (slice_index text 0) ≡ true
    → list_all is_word_byte text ≡ true → Admits (lead (text ++ after)) (Spelled text token)
run_admitted [] after token letter each = absurd (false≢true letter)
run_admitted (a ∷ []) after token letter each =
    admits_there (Spelled (a ∷ []) token) (run_lead (a ∷ after) letter)
    (single_admits (a == 76 && is_quote (slice_index after 0)) a token (and_parts _ _ each).0)
run_admitted (a ∷ b ∷ text) after token letter each =
    let second = and_parts (is_word_byte b) (list_all is_word_byte text)
    (and_parts (is_word_byte a) (list_all is_word_byte (b ∷ text)) each).1 in
    admits_there (Spelled (a ∷ b ∷ text) token) (longer_lead a b (text ++ after) letter second.0) each

-- a letter, then letters and digits
abbrev is_run : List ℕ → Bool
is_run text = is_letter (slice_index text 0) && list_all is_word_byte text

-- each word of the language is such a run
word_run : (word : Word) → is_run (word_text word) ≡ true
unfolding word_of
word_run word = lookup_true is_run words (word_text word) word refl (word_full word)

-- a word of the language may stand where it begins
word_admitted : (text after : List ℕ) (word : Word) → text ≡ word_text word
    → Admits (lead (text ++ after)) (Spelled text (body.Word word))
word_admitted text after word is =
    let run = and_parts (is_letter (slice_index text 0)) (list_all is_word_byte text) (ap is_run is ∙ word_run word) in
    run_admitted text after (body.Word word) run.0 run.1

-- a text that begins with a digit has it at the front
digit_front : (text after : List ℕ) → is_ascii_digit (slice_index text 0) ≡ true → lead (text ++ after) ≡ Digit
digit_front [] after digit = absurd (false≢true digit)
digit_front (a ∷ text) after digit = digit_lead (a ∷ (text ++ after)) digit

-- a number may stand where it begins
number_admitted : (text after : List ℕ) (number : Number) → IsNumber text number
    → Admits (lead (text ++ after)) (Spelled text (body.Number number))
number_admitted text after number is =
    admits_there (Spelled text (body.Number number))
    (digit_front text after (number_first is.base is.before is.after text number is.parts is.prefix
    is.constant)) (inr (number, refl))

-- a text that begins with a quote has it at the front
quoted_front : (wide : Bool) (quote : ℕ) (text after rest : List ℕ) → IsQuote quote
    → text ≡ encoding_prefix wide ++ (quote ∷ rest) → lead (text ++ after) ≡ Quoted
quoted_front wide quote text after rest is parts =
    quoted_lead wide quote (text ++ after) (rest ++ after) is (ap (λ t. t ++ after) parts
    ∙ append_assoc (encoding_prefix wide) (quote ∷ rest) after)

-- where marks stand: none of one byte is a letter, white or a #
abbrev is_other : Lead → Bool
is_other Other = true
is_other l = false

-- the first byte is that of a mark: of one byte it is no letter, white or `#`
abbrev pub may_be_mark : List ℕ → Bool
may_be_mark [] = false
may_be_mark (a ∷ []) = not (is_letter a || a == 35 || is_white a)
may_be_mark (a ∷ b ∷ text) = is_other (lead (a ∷ b ∷ []))

-- each mark begins so
pub mark_may : (mark : Punct) → may_be_mark (mark_text mark) ≡ true
unfolding lead
mark_may mark = lookup_true may_be_mark marks (mark_text mark) mark refl (mark_full mark)

-- where none of the other leads is, a mark may stand
other_admits : (l : Lead) (text : List ℕ) (mark : Punct) → is_other l ≡ true → Admits l (Spelled text (body.Mark mark))
other_admits Other text mark is = (mark, refl)
other_admits l text mark is = absurd (false≢true is)

-- a mark of one byte may stand before a digit, a quote or a comment
byte_admits : (quoted digit comment : Bool) (byte : ℕ) (mark : Punct)
    → Admits (cond quoted Quoted (cond digit Digit (cond comment Comment Other))) (Spelled (byte ∷ []) (body.Mark mark))
byte_admits true digit comment byte mark = inl refl
byte_admits false true comment byte mark = inl refl
byte_admits false false true byte mark = refl
byte_admits false false false byte mark = (mark, refl)

-- the lead of a byte that is no letter, no `#` and not white
byte_lead : (bytes : List ℕ)
    → (is_letter (slice_index bytes 0) || slice_index bytes 0 == 35 || is_white (slice_index bytes 0)) ≡ false
    → lead bytes ≡ cond (is_quote (slice_index bytes 0)
    || (slice_index bytes 0 == 76 && is_quote (slice_index bytes 1))) Quoted
    (cond (begins_number bytes) Digit
    (cond (slice_index bytes 0 == 47 && (slice_index bytes 1 == 47 || slice_index bytes 1 == 42)) Comment Other))
unfolding lead
byte_lead bytes plain =
    let white = or_parts (is_letter (slice_index bytes 0) || slice_index bytes 0 == 35)
    (is_white (slice_index bytes 0)) plain in
    let others = or_parts (is_letter (slice_index bytes 0)) (slice_index bytes 0 == 35) white.0 in
    rw (others.0, others.1, white.1) refl

-- a mark may stand where it begins
mark_front : (text after : List ℕ) (mark : Punct) → may_be_mark text ≡ true
    → Admits (lead (text ++ after)) (Spelled text (body.Mark mark))
unfolding lead
mark_front [] after mark may = absurd (false≢true may)
mark_front (a ∷ []) after mark may =
    admits_there (Spelled (a ∷ []) (body.Mark mark)) (byte_lead (a ∷ after) (not-true _ may)) (byte_admits _ _ _ a mark)
mark_front (a ∷ b ∷ text) after mark may = other_admits (lead (a ∷ b ∷ (text ++ after))) (a ∷ b ∷ text) mark may

-- a comment is at the front
pub comment_lead : {second : ℕ} {rest : List ℕ} (bytes : List ℕ) → bytes ≡ 47 ∷ second ∷ rest
    → (second == 47 || second == 42) ≡ true → lead bytes ≡ Comment
unfolding lead
comment_lead bytes parts is = rw (parts, is) refl

-- a `#` is at the front
pub hash_lead : {rest : List ℕ} (bytes : List ℕ) → bytes ≡ 35 ∷ rest → lead bytes ≡ Hash
unfolding lead
hash_lead bytes parts = ap lead parts

-- a white space may stand where it begins
white_admitted : (at_line_start : Bool) (text after : List ℕ) → IsWhite at_line_start text after
    → Admits (lead (text ++ after)) (White text)
white_admitted at_line_start text after (inl white) =
    admits_there (White text) (ap (λ t. lead (t ++ after)) white.1 ∙ white_lead white.0 after white.2)
    (ap length white.1)
white_admitted at_line_start text after (inr (inl line)) =
    admits_there (White text) (comment_lead (text ++ after) (ap (λ t. t ++ after) line.parts) refl) (inl line)
white_admitted at_line_start text after (inr (inr (inl block))) =
    admits_there (White text) (comment_lead (text ++ after) (ap (λ t. t ++ after) block.parts) refl) (inr block)
white_admitted at_line_start text after (inr (inr (inr directive))) =
    admits_there (White text) (hash_lead (text ++ after) (ap (λ t. t ++ after) directive.1.parts)) directive.1

-- each part may stand where it begins
pub part_admitted : (at_line_start : Bool) (part : Part) (after : List ℕ) → IsPart at_line_start part after
    → Admits (lead (part_text part ++ after)) part
part_admitted at_line_start (White text) after is = white_admitted at_line_start text after is
part_admitted at_line_start (Spelled text (body.Word word)) after is = word_admitted text after word is
part_admitted at_line_start (Spelled text (body.Name name)) after is =
    run_admitted text after (body.Name name) is.1.first is.1.each
part_admitted at_line_start (Spelled text (body.Number number)) after is = number_admitted text after number is
part_admitted at_line_start (Spelled text (body.Character value wide)) after is =
    admits_there (Spelled text (body.Character value wide))
    (quoted_front wide 39 text after (item_text is.item ++ (39 ∷ [])) (inr refl) is.parts) (inr tt)
part_admitted at_line_start (Spelled text (body.Literal units wide)) after is =
    admits_there (Spelled text (body.Literal units wide))
    (quoted_front wide 34 text after (flat_map item_text is.items ++ (34 ∷ [])) (inl refl) is.parts) (inr tt)
part_admitted at_line_start (Spelled text (body.Mark mark)) after is =
    mark_front text after mark (ap may_be_mark is ∙ mark_may mark)

-- the same of the front of the bytes
pub admitted_at : (at_line_start : Bool) (bytes : List ℕ) (l : Lead) (other : Part) (after : List ℕ)
    → lead bytes ≡ l → bytes ≡ part_text other ++ after → IsPart at_line_start other after → Admits l other
admitted_at at_line_start bytes l other after at parts is =
    subst (λ k. Admits k other) (sym (ap lead parts) ∙ at) (part_admitted at_line_start other after is)
