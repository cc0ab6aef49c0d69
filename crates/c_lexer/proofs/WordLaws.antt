-- The table of words has each word of the language that is taken, and nothing else.
use Rattle.std.proofs.Common.{◌≡◌, ℕ, List, refl, sym, ap, ◌∙◌}
use Rattle.std.proofs.lemmas.Option.{none-some}
use Rattle.std.specs.Prelude.{Option, Some, None, IfSome, IfNone}
use Rattle.c_lexer.specs.declared.word.Word.{Word}
use Rattle.c_lexer.specs.declared.word.Word.TheVariants as w
use Rattle.c_lexer.specs.Words.{word_text, all_words, word_of}
use Rattle.c_lexer.proofs.Tables.{spelled_so}

-- what the table has for a text is the word that it spells
pub word_sound : (text : List ℕ) (word : Word) → word_of text ≡ Some word → text ≡ word_text word
unfolding word_of
word_sound = spelled_so word_text all_words

-- the table has each word
pub word_full : (word : Word) → word_of (word_text word) ≡ Some word
unfolding word_of
word_full w.Auto = refl
word_full w.Break = refl
word_full w.Case = refl
word_full w.Char = refl
word_full w.Const = refl
word_full w.Continue = refl
word_full w.Default = refl
word_full w.Do = refl
word_full w.Else = refl
word_full w.Enum = refl
word_full w.Extern = refl
word_full w.For = refl
word_full w.If = refl
word_full w.Inline = refl
word_full w.Int = refl
word_full w.Long = refl
word_full w.Register = refl
word_full w.Restrict = refl
word_full w.Return = refl
word_full w.Short = refl
word_full w.Signed = refl
word_full w.Sizeof = refl
word_full w.Static = refl
word_full w.Struct = refl
word_full w.Switch = refl
word_full w.Typedef = refl
word_full w.Union = refl
word_full w.Unsigned = refl
word_full w.Void = refl
word_full w.Volatile = refl
word_full w.While = refl
word_full w.Alignof = refl
word_full w.Bool = refl
word_full w.StaticAssert = refl

-- the clauses of `word_of`: what is found is the word that the text spells
pub word_found : (text : List ℕ) (r : Option Word) → r ≡ word_of text → IfSome r (λ word. text ≡ word_text word)
word_found text None h = tt
word_found text (Some word) h = word_sound text word (sym h)

-- and where none is found the text spells none
pub word_none : (text : List ℕ) (r : Option Word) → r ≡ word_of text
    → IfNone r ((word : Word) → text ≡ word_text word → ⊥)
word_none text (Some word) h = tt
word_none text None h = λ word is. let found = word_full word in absurd (none-some _ (h ∙ (ap word_of is ∙ found)))
