-- The words of the language (6.4.1): the spellings of those that are taken, and those that are not taken.
use Rattle.std.specs.Prelude.{ℕ, Bool, List, [], ◌∷◌, codes, map, Option}
use Rattle.std.specs.List.{list_any}
use Rattle.std.specs.Str.{bytes_eq}
use Rattle.c_lexer.specs.declared.word.Word.{Word}
use Rattle.c_lexer.specs.declared.word.Word.TheVariants as w
use Rattle.c_lexer.specs.Lookup.{lookup}

-- the spelling of a word that is taken
abbrev pub word_text : Word → List ℕ
word_text w.Auto = codes "auto"
word_text w.Break = codes "break"
word_text w.Case = codes "case"
word_text w.Char = codes "char"
word_text w.Const = codes "const"
word_text w.Continue = codes "continue"
word_text w.Default = codes "default"
word_text w.Do = codes "do"
word_text w.Else = codes "else"
word_text w.Enum = codes "enum"
word_text w.Extern = codes "extern"
word_text w.For = codes "for"
word_text w.If = codes "if"
word_text w.Inline = codes "inline"
word_text w.Int = codes "int"
word_text w.Long = codes "long"
word_text w.Register = codes "register"
word_text w.Restrict = codes "restrict"
word_text w.Return = codes "return"
word_text w.Short = codes "short"
word_text w.Signed = codes "signed"
word_text w.Sizeof = codes "sizeof"
word_text w.Static = codes "static"
word_text w.Struct = codes "struct"
word_text w.Switch = codes "switch"
word_text w.Typedef = codes "typedef"
word_text w.Union = codes "union"
word_text w.Unsigned = codes "unsigned"
word_text w.Void = codes "void"
word_text w.Volatile = codes "volatile"
word_text w.While = codes "while"
word_text w.Alignof = codes "_Alignof"
word_text w.Bool = codes "_Bool"
word_text w.StaticAssert = codes "_Static_assert"

-- all of them
abbrev pub all_words : List Word
all_words =
    w.Auto ∷ w.Break ∷ w.Case ∷ w.Char ∷ w.Const ∷ w.Continue ∷ w.Default ∷ w.Do ∷ w.Else ∷ w.Enum ∷ w.Extern
    ∷ w.For ∷ w.If ∷ w.Inline ∷ w.Int ∷ w.Long ∷ w.Register ∷ w.Restrict ∷ w.Return ∷ w.Short ∷ w.Signed
    ∷ w.Sizeof ∷ w.Static ∷ w.Struct ∷ w.Switch ∷ w.Typedef ∷ w.Union ∷ w.Unsigned ∷ w.Void ∷ w.Volatile
    ∷ w.While ∷ w.Alignof ∷ w.Bool ∷ w.StaticAssert ∷ []

-- each of them behind its spelling
abbrev pub words : List (List ℕ × Word)
words = map (λ word. (word_text word, word)) all_words

-- the words that are not taken
abbrev pub outside_words : List (List ℕ)
outside_words =
    codes "double"
    ∷ codes "float"
    ∷ codes "goto"
    ∷ codes "_Alignas"
    ∷ codes "_Atomic"
    ∷ codes "_Complex"
    ∷ codes "_Generic"
    ∷ codes "_Imaginary"
    ∷ codes "_Noreturn"
    ∷ codes "_Thread_local" ∷ []

-- the word that the text spells
unfoldable pub word_of : List ℕ → Option Word
word_of = lookup words

-- one of the words that are not taken
unfoldable pub is_outside : List ℕ → Bool
is_outside text = list_any (λ word. bytes_eq word text) outside_words
