-- A text spells at most one token.
use Rattle.std.proofs.Common.{◌≡◌, inl, inr, ℕ, ◌<◌, List, [], ◌∷◌, ◌++◌, Bool, true, false, ◌==◌, ◌||◌, ◌&&◌, cond}
use Rattle.std.proofs.Common.{length, refl, sym, ◌∙◌, ap, arith}
use Rattle.std.proofs.lemmas.Bool.{and_parts, and_from, and_right, leb-true, le-leb, eqb-true, false≢true, ne_eqb}
use Rattle.std.specs.Prelude.{Result, Ok, Err, IfOk, IfSome, ℤ, Option, Some, None, is_some, slice_index, nat_le}
use Rattle.std.specs.List.{list_all}
use Rattle.std.specs.Char.{is_ascii_digit}
use Rattle.c_lexer.specs.declared.word.Word.{Word}
use Rattle.c_lexer.specs.declared.punct.Punct.{Punct}
use Rattle.c_lexer.specs.declared.number.Base.{Base}
use Rattle.c_lexer.specs.declared.number.Base.TheVariants.{Decimal, Octal, Hexadecimal}
use Rattle.c_lexer.specs.declared.number.Number.{Number}
use Rattle.c_lexer.specs.declared.token.Body.{Body}
use Rattle.c_lexer.specs.declared.token.Body.TheVariants as body
use Rattle.c_lexer.specs.Bytes.{is_letter, is_word_byte, is_octal}
use Rattle.c_lexer.specs.Lookup.{lookup}
use Rattle.c_lexer.specs.Words.{word_text, words, word_of, outside_words, is_outside}
use Rattle.c_lexer.specs.Marks.{mark_text, marks}
use Rattle.c_lexer.specs.Numbers.{IsPrefix, IsConstant}
use Rattle.c_lexer.specs.Characters.{IsCharacter, IsLiteral}
use Rattle.c_lexer.specs.ReadNumber.{number_of}
use Rattle.c_lexer.specs.ReadCharacters.{character_of, literal_of}
use Rattle.c_lexer.specs.LexicalParts.{IsName, IsToken}
use Rattle.c_lexer.proofs.Cases.{other_byte}
use Rattle.c_lexer.proofs.Tables.{lookup_true, listed_true}
use Rattle.c_lexer.proofs.MarkLaws.{mark_full}
use Rattle.c_lexer.proofs.WordLaws.{word_sound, word_full}
use Rattle.c_lexer.proofs.NumberLaws.{number_full}
use Rattle.c_lexer.proofs.CharacterLaws.{character_full, literal_full}

-- the class of a token, by the first bytes of its text, and by the token
is_quoted : ℕ → List ℕ → Bool
is_quoted quote text = slice_index text 0 == quote || (slice_index text 0 == 76 && slice_index text 1 == quote)

-- a number for the class that the first bytes tell: a word, a name, a number, a character, a literal, a mark
tag : List ℕ → ℕ
tag text =
    cond (is_ascii_digit (slice_index text 0)) 2
    (cond (is_quoted 39 text) 3
    (cond (is_quoted 34 text) 4 (cond (is_letter (slice_index text 0)) (cond (is_some (word_of text)) 0 1) 5)))

-- the same of a token
abbrev tag_of : Body → ℕ
tag_of (body.Word word) = 0
tag_of (body.Name name) = 1
tag_of (body.Number number) = 2
tag_of (body.Character value wide) = 3
tag_of (body.Literal units wide) = 4
tag_of (body.Mark mark) = 5

-- a word of the language tells its class
word_tag : (word : Word) → tag (word_text word) ≡ 0
unfolding tag is_quoted word_of
word_tag word =
    eqb-true (tag (word_text word)) 0 (lookup_true (λ t. tag t == 0) words (word_text word) word refl (word_full word))

-- a mark tells its class
mark_tag : (mark : Punct) → tag (mark_text mark) ≡ 5
unfolding tag is_quoted word_of
mark_tag mark =
    eqb-true (tag (mark_text mark)) 5 (lookup_true (λ t. tag t == 5) marks (mark_text mark) mark refl (mark_full mark))

-- a letter is no digit
pub letter_no_digit : (b : ℕ) (t : Bool) → is_letter b ≡ true → is_ascii_digit b ≡ t → t ≡ false
letter_no_digit b false letter is = refl
letter_no_digit b true letter is = grind (arith, letter, is)

-- a text that is no word is not found among them
no_word : (text : List ℕ) (o : Option Word) → word_of text ≡ o → ((word : Word) → text ≡ word_text word → ⊥)
    → is_some o ≡ false
no_word text None at none = refl
no_word text (Some word) at none = absurd (none word (word_sound text word at))

-- a quote is not the 0 of an empty text
not_same : (quote : ℕ) → (quote ≡ 0 → ⊥) → (0 == quote) ≡ false
not_same quote some = ne_eqb 0 quote (λ (e : 0 ≡ quote). some (sym e))

-- a name begins with no quote, nor with L and a quote
name_unquoted : (quote : ℕ) (text : List ℕ) → is_word_byte quote ≡ false → is_word_byte 0 ≡ false
    → is_letter (slice_index text 0) ≡ true → list_all is_word_byte text ≡ true → (quote ≡ 0 → ⊥)
    → is_quoted quote text ≡ false
unfolding is_quoted
name_unquoted quote [] mark zero letter all some = absurd (false≢true letter)
name_unquoted quote (a ∷ []) mark zero letter all some =
    rw (other_byte is_word_byte quote a mark (and_parts (is_word_byte a) true all).0)
    (and_right (a == 76) (0 == quote) (not_same quote some))
name_unquoted quote (a ∷ b ∷ text) mark zero letter all some =
    let first = and_parts (is_word_byte a) (list_all is_word_byte (b ∷ text)) all in
    let second = and_parts (is_word_byte b) (list_all is_word_byte text) first.1 in
    rw (other_byte is_word_byte quote a mark first.0)
    (and_right (a == 76) (b == quote) (other_byte is_word_byte quote b mark second.0))

-- a name tells its class
name_tag : (text : List ℕ) → IsName text → tag text ≡ 1
unfolding tag
name_tag text n =
    rw (
      letter_no_digit (slice_index text 0) (is_ascii_digit (slice_index text 0)) n.first refl,
      name_unquoted 39 text refl refl n.first n.each (λ (e : 39 ≡ 0). omega (arith, e)),
      name_unquoted 34 text refl refl n.first n.each (λ (e : 34 ≡ 0). omega (arith, e)),
      n.first,
      no_word text (word_of text) refl n.no_word,
    ) refl

-- what begins with a digit tells that
digit_tag : (text : List ℕ) → is_ascii_digit (slice_index text 0) ≡ true → tag text ≡ 2
unfolding tag
digit_tag text h = rw h refl

-- decimal digits begin with a digit
decimal_first : (digits suffix : List ℕ) → 0 < length digits → list_all is_ascii_digit digits ≡ true
    → is_ascii_digit (slice_index (digits ++ suffix) 0) ≡ true
decimal_first [] suffix some all = absurd (omega (arith, some))
decimal_first (b ∷ digits) suffix some all = (and_parts (is_ascii_digit b) (list_all is_ascii_digit digits) all).0

-- an octal digit is a decimal one
pub octal_digit : (b : ℕ) → is_octal b ≡ true → is_ascii_digit b ≡ true
octal_digit b h =
    and_from _ _ (and_parts (nat_le 48 b) (nat_le b 55) h).0
    (le-leb b 57 (let le = leb-true b 55 (and_parts (nat_le 48 b) (nat_le b 55) h).1 in omega (arith, le)))

-- octal digits begin with a digit
octal_first : (digits suffix : List ℕ) → 0 < length digits → list_all is_octal digits ≡ true
    → is_ascii_digit (slice_index (digits ++ suffix) 0) ≡ true
octal_first [] suffix some all = absurd (omega (arith, some))
octal_first (b ∷ digits) suffix some all = octal_digit b (and_parts (is_octal b) (list_all is_octal digits) all).0

-- a constant without a prefix begins with a digit
first_digit : (base : Base) (text : List ℕ) (number : Number) → (IsConstant base text number)
    → (base ≡ Hexadecimal → ⊥) → is_ascii_digit (slice_index text 0) ≡ true
first_digit Hexadecimal text number c no_hex = absurd (no_hex refl)
first_digit Decimal text number c no_hex = ap (λ t. is_ascii_digit (slice_index t 0)) c.parts
    ∙ decimal_first c.digits c.suffix c.some c.each
first_digit Octal text number c no_hex = ap (λ t. is_ascii_digit (slice_index t 0)) c.parts
    ∙ octal_first c.digits c.suffix c.some c.each

-- a number begins with a digit
pub number_first : (base : Base) (before after text : List ℕ) (number : Number) → text ≡ before ++ after
    → IsPrefix base before → IsConstant base after number → is_ascii_digit (slice_index text 0) ≡ true
number_first Decimal before after text number parts prefix c =
    ap (λ t. is_ascii_digit (slice_index t 0)) (parts ∙ ap (λ b. b ++ after) prefix)
    ∙ first_digit Decimal after number c (λ e. cc)
number_first Octal before after text number parts prefix c =
    ap (λ t. is_ascii_digit (slice_index t 0)) (parts ∙ ap (λ b. b ++ after) prefix)
    ∙ first_digit Octal after number c (λ e. cc)
number_first Hexadecimal before after text number parts (inl e) c =
    ap (λ t. is_ascii_digit (slice_index t 0)) (parts ∙ ap (λ b. b ++ after) e)
number_first Hexadecimal before after text number parts (inr e) c =
    ap (λ t. is_ascii_digit (slice_index t 0)) (parts ∙ ap (λ b. b ++ after) e)

-- a character constant tells its class
character_tag : (text : List ℕ) (value : ℤ) (wide : Bool) → IsCharacter text value wide → tag text ≡ 3
unfolding tag is_quoted
character_tag text value true c = ap tag c.parts
character_tag text value false c = ap tag c.parts

-- a string literal tells its class
literal_tag : (text : List ℕ) (units : List ℤ) (wide : Bool) → IsLiteral text units wide → tag text ≡ 4
unfolding tag is_quoted
literal_tag text units true l = ap tag l.parts
literal_tag text units false l = ap tag l.parts

-- each token tells its class
tag_is : (text : List ℕ) (token : Body) → IsToken text token → tag text ≡ tag_of token
tag_is text (body.Word word) is = ap tag is ∙ word_tag word
tag_is text (body.Name name) is = name_tag text is.1
tag_is text (body.Number number) is =
    digit_tag text (number_first is.base is.before is.after text number is.parts is.prefix is.constant)
tag_is text (body.Character value wide) is = character_tag text value wide is
tag_is text (body.Literal units wide) is = literal_tag text units wide is
tag_is text (body.Mark mark) is = ap tag is ∙ mark_tag mark

-- one answer is one value
same_found : {A : Type 0} (o : Option A) (a b : A) → o ≡ Some a → o ≡ Some b → a ≡ b
same_found o a b h k = cc

-- equal pairs have equal parts
same_pair : {A : Type 0} (x y : A × Bool) → x ≡ y → (x.0 ≡ y.0) × (x.1 ≡ y.1)
same_pair x y h = (ap (λ z. z.0) h, ap (λ z. z.1) h)

-- two tokens of one text are of one class
apart_tags : (text : List ℕ) (a b : Body) → IsToken text a → IsToken text b → tag_of a ≡ tag_of b
apart_tags text a b is also = sym (tag_is text a is) ∙ tag_is text b also

-- a text spells at most one token
pub one_token : (text : List ℕ) (a b : Body) → IsToken text a → IsToken text b → a ≡ b
one_token text (body.Word a) (body.Word b) is also =
    ap body.Word (same_found (word_of text) a b (ap word_of is ∙ word_full a) (ap word_of also ∙ word_full b))
one_token text (body.Name a) (body.Name b) is also = ap body.Name (is.0 ∙ sym also.0)
one_token text (body.Number a) (body.Number b) is also =
    ap body.Number (same_found (number_of text) a b (number_full text a is) (number_full text b also))
one_token text (body.Character a m) (body.Character b n) is also =
    (let same = same_pair (a, m) (
      b,
      n,
    ) (same_found (character_of text) (a, m) (b, n) (character_full text a m is) (character_full text b n also)) in
    ap (λ v. body.Character v m) same.0 ∙ ap (body.Character b) same.1)
one_token text (body.Literal a m) (body.Literal b n) is also =
    (let same = same_pair (a, m) (
      b,
      n,
    ) (same_found (literal_of text) (a, m) (b, n) (literal_full text a m is) (literal_full text b n also)) in
    ap (λ v. body.Literal v m) same.0 ∙ ap (body.Literal b) same.1)
one_token text (body.Mark a) (body.Mark b) is also =
    ap body.Mark (same_found (lookup marks text) a b (ap (lookup marks) is ∙ mark_full a) (ap (lookup marks) also
    ∙ mark_full b))
one_token text a b is also = absurd (omega (arith, apart_tags text a b is also))

-- the clause `only` of `token_of`
pub only_one : {E : Type 0} (text : List ℕ) (r : Result (Option Body) E)
    → IfOk r (λ o. IfSome o (λ token. IsToken text token))
    → IfOk r (λ o. IfSome o (λ token. (other : Body) → IsToken text other → other ≡ token))
only_one text (Err e) h = tt
only_one text (Ok None) h = tt
only_one text (Ok (Some token)) h = λ other is. one_token text other token is h

-- a word that is not taken looks like a name
outside_tag : (text : List ℕ) → is_outside text ≡ true → tag text ≡ 1
unfolding tag is_quoted word_of is_outside
outside_tag text outside = eqb-true (tag text) 1 (listed_true (λ t. tag t == 1) outside_words text refl outside)

-- a word that is not taken spells no token
pub outside_token : (text : List ℕ) (token : Body) → is_outside text ≡ true → IsToken text token → ⊥
outside_token text (body.Name name) outside is = false≢true (sym is.1.inside ∙ outside)
outside_token text token outside is = omega (arith, outside_tag text outside, tag_is text token is)

-- a token that tells a number is one
tag_number : (token : Body) → tag_of token ≡ 2 → (number : Number) × (token ≡ body.Number number)
tag_number (body.Number number) h = (number, refl)
tag_number token h = absurd (omega (arith, h))

-- what begins with a digit spells a number or nothing
pub digit_token : (text : List ℕ) (token : Body) → is_ascii_digit (slice_index text 0) ≡ true → IsToken text token
    → (number : Number) × (token ≡ body.Number number)
digit_token text token digit is = tag_number token (sym (tag_is text token is) ∙ digit_tag text digit)
