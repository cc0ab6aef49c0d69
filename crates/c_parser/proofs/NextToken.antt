-- What the tests of the program say of the next token.
use Rattle.std.proofs.Common.{◌≡◌, Bool, true, false, Some, refl, sym, ap, rules}
use Rattle.std.proofs.lemmas.Slice.Eq.{bytes_eq-Decides}
use denote.Enum.Bare.{sameb, same_true, same_false}
use Rattle.c_lexer.specs.contracts.punct.Punct as punct
use Rattle.c_lexer.specs.contracts.word.Word as words
use Rattle.c_lexer.specs.Marks.{mark_text}
use Rattle.c_lexer.specs.Words.{word_text}
use Rattle.c_lexer.specs.declared.punct.Punct.{Punct}
use Rattle.c_lexer.specs.declared.token.Body.TheVariants as lexeme
use Rattle.c_lexer.specs.declared.word.Word.{Word}
use Rattle.c_reading.specs.ReadToken.{is_mark, is_word}
use Rattle.c_reading.proofs.TokenTests.{one_mark, one_word}

is_false : (x : Bool) → (x ≡ true → ⊥) → false ≡ x
is_false true h = absurd (h refl)
is_false false h = refl

by_mark : (one other : Punct) (same : Bool) → (same ≡ true → one ≡ other) → (same ≡ false → one ≡ other → ⊥)
    → same ≡ is_mark other (Some (lexeme.Mark one))
by_mark one other true given denied =
    sym ((bytes_eq-Decides (mark_text one) (mark_text other)).1 (ap mark_text (given refl)))
by_mark one other false given denied =
    is_false (is_mark other (Some (lexeme.Mark one)))
    (λ h. denied refl (one_mark one other ((bytes_eq-Decides (mark_text one) (mark_text other)).0 h)))

pub mark_tested : (one other : Punct) → sameb punct.the_type one other ≡ is_mark other (Some (lexeme.Mark one))
mark_tested one other =
    by_mark one other (sameb punct.the_type one other) (λ h. same_true punct.the_type (search rules) one other h)
    (λ h e. same_false punct.the_type one other h e)

by_word : (one other : Word) (same : Bool) → (same ≡ true → one ≡ other) → (same ≡ false → one ≡ other → ⊥)
    → same ≡ is_word other (Some (lexeme.Word one))
by_word one other true given denied =
    sym ((bytes_eq-Decides (word_text one) (word_text other)).1 (ap word_text (given refl)))
by_word one other false given denied =
    is_false (is_word other (Some (lexeme.Word one)))
    (λ h. denied refl (one_word one other ((bytes_eq-Decides (word_text one) (word_text other)).0 h)))

pub word_tested : (one other : Word) → sameb words.the_type one other ≡ is_word other (Some (lexeme.Word one))
word_tested one other =
    by_word one other (sameb words.the_type one other) (λ h. same_true words.the_type (search rules) one other h)
    (λ h e. same_false words.the_type one other h e)
