-- What the next token is, by what a parser's test says of it.
use Rattle.std.proofs.Common.{◌≡◌, Bool, true, false, List, ℤ, Option, Some, None, refl, ap, subst}
use Rattle.std.proofs.lemmas.Slice.Eq.{bytes_eq-Decides}
use Rattle.c_lexer.specs.Lookup.{lookup}
use Rattle.c_lexer.specs.Marks.{mark_text, marks}
use Rattle.c_lexer.specs.Words.{word_text, words}
use Rattle.c_lexer.specs.declared.punct.Punct.{Punct}
use Rattle.c_lexer.specs.declared.punct.Punct.TheVariants as p
use Rattle.c_lexer.specs.declared.token.Body.{Body}
use Rattle.c_lexer.specs.declared.token.Body.TheVariants as lexeme
use Rattle.c_lexer.specs.declared.word.Word.{Word}
use Rattle.c_lexer.specs.declared.word.Word.TheVariants as w
use Rattle.c_syntax.specs.Operators.{prefix_token, infix_token, storage_word, qualifier_word, basic_word}
use Rattle.c_reading.specs.ReadToken.{is_mark, is_word, is_literal, name_of, prefix_of, infix_of, storage_of}
use Rattle.c_reading.specs.ReadToken.{qualifier_of, basic_of}

-- the table of marks has each under its text, so no two have one text
pub mark_again : (mark : Punct) → lookup marks (mark_text mark) ≡ Some mark
mark_again p.OpenBracket = refl
mark_again p.CloseBracket = refl
mark_again p.OpenParen = refl
mark_again p.CloseParen = refl
mark_again p.OpenBrace = refl
mark_again p.CloseBrace = refl
mark_again p.Dot = refl
mark_again p.Arrow = refl
mark_again p.Increment = refl
mark_again p.Decrement = refl
mark_again p.Ampersand = refl
mark_again p.Star = refl
mark_again p.Plus = refl
mark_again p.Minus = refl
mark_again p.Tilde = refl
mark_again p.Exclamation = refl
mark_again p.Slash = refl
mark_again p.Percent = refl
mark_again p.ShiftLeft = refl
mark_again p.ShiftRight = refl
mark_again p.Less = refl
mark_again p.Greater = refl
mark_again p.LessEqual = refl
mark_again p.GreaterEqual = refl
mark_again p.Equal = refl
mark_again p.NotEqual = refl
mark_again p.Caret = refl
mark_again p.Bar = refl
mark_again p.AndAnd = refl
mark_again p.OrOr = refl
mark_again p.Question = refl
mark_again p.Colon = refl
mark_again p.Semicolon = refl
mark_again p.Ellipsis = refl
mark_again p.Assign = refl
mark_again p.StarAssign = refl
mark_again p.SlashAssign = refl
mark_again p.PercentAssign = refl
mark_again p.PlusAssign = refl
mark_again p.MinusAssign = refl
mark_again p.ShiftLeftAssign = refl
mark_again p.ShiftRightAssign = refl
mark_again p.AmpersandAssign = refl
mark_again p.CaretAssign = refl
mark_again p.BarAssign = refl
mark_again p.Comma = refl

pub one_mark : (one other : Punct) → mark_text one ≡ mark_text other → one ≡ other
one_mark one other same = cc (mark_again one, mark_again other, ap (lookup marks) same)

-- a token that passes the test of a mark, of a word or of a literal is that one
pub is_mark_is : (mark : Punct) (o : Option Body) → is_mark mark o ≡ true → o ≡ Some (lexeme.Mark mark)
is_mark_is mark (Some (lexeme.Mark next)) h =
    ap (λ m. Some (lexeme.Mark m)) (one_mark next mark ((bytes_eq-Decides (mark_text next) (mark_text mark)).0 h))
is_mark_is mark _ h = absurd (cc (h))

word_again : (word : Word) → lookup words (word_text word) ≡ Some word
word_again w.Auto = refl
word_again w.Break = refl
word_again w.Case = refl
word_again w.Char = refl
word_again w.Const = refl
word_again w.Continue = refl
word_again w.Default = refl
word_again w.Do = refl
word_again w.Else = refl
word_again w.Enum = refl
word_again w.Extern = refl
word_again w.For = refl
word_again w.If = refl
word_again w.Inline = refl
word_again w.Int = refl
word_again w.Long = refl
word_again w.Register = refl
word_again w.Restrict = refl
word_again w.Return = refl
word_again w.Short = refl
word_again w.Signed = refl
word_again w.Sizeof = refl
word_again w.Static = refl
word_again w.Struct = refl
word_again w.Switch = refl
word_again w.Typedef = refl
word_again w.Union = refl
word_again w.Unsigned = refl
word_again w.Void = refl
word_again w.Volatile = refl
word_again w.While = refl
word_again w.Alignof = refl
word_again w.Bool = refl
word_again w.StaticAssert = refl

pub one_word : (one other : Word) → word_text one ≡ word_text other → one ≡ other
one_word one other same = cc (word_again one, word_again other, ap (lookup words) same)

pub is_word_is : (word : Word) (o : Option Body) → is_word word o ≡ true → o ≡ Some (lexeme.Word word)
is_word_is word (Some (lexeme.Word next)) h =
    ap (λ w. Some (lexeme.Word w)) (one_word next word ((bytes_eq-Decides (word_text next) (word_text word)).0 h))
is_word_is word _ h = absurd (cc (h))

pub is_literal_width : (wide : Bool) (units : List ℤ) (other : Bool)
    → is_literal wide (Some (lexeme.Literal units other)) ≡ true → other ≡ wide
is_literal_width true units other h = h
is_literal_width false units true h = absurd (cc (h))
is_literal_width false units false h = refl

-- ---- what a token is the token of

-- where there is a value, the token is the token of it
abbrev pub IsToken : {A : Type 0} → (A → Body) → Option Body → Option A → Type 0
IsToken token o None = Unit {0}
IsToken token o (Some a) = o ≡ Some (token a)

-- what a test of this kind found is what the token is the token of
pub token_is : {A : Type 0} (token : A → Body) (o : Option Body) (found : Option A) (a : A) → IsToken token o found
    → found ≡ Some a → o ≡ Some (token a)
token_is token o found a is same = subst (IsToken token o) same is

-- the tests of names, operators and words of specifiers are of this kind
pub name_is : (o : Option Body) → IsToken lexeme.Name o (name_of o)
name_is (Some (lexeme.Name x)) = refl
name_is _ = tt

pub prefix_is : (o : Option Body) → IsToken prefix_token o (prefix_of o)
prefix_is (Some (lexeme.Mark p.Increment)) = refl
prefix_is (Some (lexeme.Mark p.Decrement)) = refl
prefix_is (Some (lexeme.Mark p.Ampersand)) = refl
prefix_is (Some (lexeme.Mark p.Star)) = refl
prefix_is (Some (lexeme.Mark p.Plus)) = refl
prefix_is (Some (lexeme.Mark p.Minus)) = refl
prefix_is (Some (lexeme.Mark p.Tilde)) = refl
prefix_is (Some (lexeme.Mark p.Exclamation)) = refl
prefix_is _ = tt

pub infix_is : (o : Option Body) → IsToken (λ operator. lexeme.Mark (infix_token operator)) o (infix_of o)
infix_is (Some (lexeme.Mark p.Star)) = refl
infix_is (Some (lexeme.Mark p.Slash)) = refl
infix_is (Some (lexeme.Mark p.Percent)) = refl
infix_is (Some (lexeme.Mark p.Plus)) = refl
infix_is (Some (lexeme.Mark p.Minus)) = refl
infix_is (Some (lexeme.Mark p.ShiftLeft)) = refl
infix_is (Some (lexeme.Mark p.ShiftRight)) = refl
infix_is (Some (lexeme.Mark p.Ampersand)) = refl
infix_is (Some (lexeme.Mark p.Caret)) = refl
infix_is (Some (lexeme.Mark p.Bar)) = refl
infix_is (Some (lexeme.Mark p.Less)) = refl
infix_is (Some (lexeme.Mark p.Greater)) = refl
infix_is (Some (lexeme.Mark p.LessEqual)) = refl
infix_is (Some (lexeme.Mark p.GreaterEqual)) = refl
infix_is (Some (lexeme.Mark p.Equal)) = refl
infix_is (Some (lexeme.Mark p.NotEqual)) = refl
infix_is (Some (lexeme.Mark p.AndAnd)) = refl
infix_is (Some (lexeme.Mark p.OrOr)) = refl
infix_is (Some (lexeme.Mark p.Assign)) = refl
infix_is (Some (lexeme.Mark p.StarAssign)) = refl
infix_is (Some (lexeme.Mark p.SlashAssign)) = refl
infix_is (Some (lexeme.Mark p.PercentAssign)) = refl
infix_is (Some (lexeme.Mark p.PlusAssign)) = refl
infix_is (Some (lexeme.Mark p.MinusAssign)) = refl
infix_is (Some (lexeme.Mark p.ShiftLeftAssign)) = refl
infix_is (Some (lexeme.Mark p.ShiftRightAssign)) = refl
infix_is (Some (lexeme.Mark p.AmpersandAssign)) = refl
infix_is (Some (lexeme.Mark p.CaretAssign)) = refl
infix_is (Some (lexeme.Mark p.BarAssign)) = refl
infix_is (Some (lexeme.Mark p.Comma)) = refl
infix_is _ = tt

pub storage_is : (o : Option Body) → IsToken (λ word. lexeme.Word (storage_word word)) o (storage_of o)
storage_is (Some (lexeme.Word w.Typedef)) = refl
storage_is (Some (lexeme.Word w.Extern)) = refl
storage_is (Some (lexeme.Word w.Static)) = refl
storage_is (Some (lexeme.Word w.Auto)) = refl
storage_is (Some (lexeme.Word w.Register)) = refl
storage_is _ = tt

pub qualifier_is : (o : Option Body) → IsToken (λ word. lexeme.Word (qualifier_word word)) o (qualifier_of o)
qualifier_is (Some (lexeme.Word w.Const)) = refl
qualifier_is (Some (lexeme.Word w.Restrict)) = refl
qualifier_is (Some (lexeme.Word w.Volatile)) = refl
qualifier_is _ = tt

pub basic_is : (o : Option Body) → IsToken (λ word. lexeme.Word (basic_word word)) o (basic_of o)
basic_is (Some (lexeme.Word w.Void)) = refl
basic_is (Some (lexeme.Word w.Char)) = refl
basic_is (Some (lexeme.Word w.Short)) = refl
basic_is (Some (lexeme.Word w.Int)) = refl
basic_is (Some (lexeme.Word w.Long)) = refl
basic_is (Some (lexeme.Word w.Signed)) = refl
basic_is (Some (lexeme.Word w.Unsigned)) = refl
basic_is (Some (lexeme.Word w.Bool)) = refl
basic_is _ = tt
