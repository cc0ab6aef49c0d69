-- What a next token is, for a parser.
use Rattle.std.specs.Prelude.{ℕ, Bool, true, false, List, Option, Some, None}
use Rattle.std.specs.Str.{bytes_eq}
use Rattle.c_lexer.specs.Marks.{mark_text}
use Rattle.c_lexer.specs.Words.{word_text}
use Rattle.c_lexer.specs.declared.punct.Punct.{Punct}
use Rattle.c_lexer.specs.declared.punct.Punct.TheVariants as p
use Rattle.c_lexer.specs.declared.token.Body.{Body}
use Rattle.c_lexer.specs.declared.token.Body.TheVariants as lexeme
use Rattle.c_lexer.specs.declared.word.Word.{Word}
use Rattle.c_lexer.specs.declared.word.Word.TheVariants as w
use Rattle.c_syntax.specs.declared.operator.Arithmetic.TheVariants as a
use Rattle.c_syntax.specs.declared.operator.Comparison.TheVariants as c
use Rattle.c_syntax.specs.declared.operator.Infix.{Infix}
use Rattle.c_syntax.specs.declared.operator.Infix.TheVariants as between
use Rattle.c_syntax.specs.declared.operator.Prefix.{Prefix}
use Rattle.c_syntax.specs.declared.operator.Prefix.TheVariants as prefix
use Rattle.c_syntax.specs.declared.specifier.BasicWord.{BasicWord}
use Rattle.c_syntax.specs.declared.specifier.BasicWord.TheVariants as basic
use Rattle.c_syntax.specs.declared.specifier.Qualifier.{Qualifier}
use Rattle.c_syntax.specs.declared.specifier.Qualifier.TheVariants as qualifier
use Rattle.c_syntax.specs.declared.specifier.Storage.{Storage}
use Rattle.c_syntax.specs.declared.specifier.Storage.TheVariants as storage
use Rattle.c_syntax.specs.First.{begins_specifier}
use Rattle.c_syntax.specs.Scopes.{Scope}

-- the next token is this mark
abbrev pub is_mark : Punct → Option Body → Bool
is_mark mark (Some (lexeme.Mark next)) = bytes_eq (mark_text next) (mark_text mark)
is_mark mark _ = false

-- or this word
abbrev pub is_word : Word → Option Body → Bool
is_word word (Some (lexeme.Word next)) = bytes_eq (word_text next) (word_text word)
is_word word _ = false

abbrev pub name_of : Option Body → Option (List ℕ)
name_of (Some (lexeme.Name x)) = Some x
name_of _ = None

-- the token begins a declaration specifier
abbrev pub begins_type : Scope → Option Body → Bool
begins_type scope None = false
begins_type scope (Some next) = begins_specifier scope next

-- a literal of this width
abbrev pub is_literal : Bool → Option Body → Bool
is_literal true (Some (lexeme.Literal units wide)) = wide
is_literal false (Some (lexeme.Literal units true)) = false
is_literal false (Some (lexeme.Literal units false)) = true
is_literal _ _ = false

abbrev pub prefix_of : Option Body → Option Prefix
prefix_of (Some (lexeme.Mark p.Increment)) = Some prefix.PreInc
prefix_of (Some (lexeme.Mark p.Decrement)) = Some prefix.PreDec
prefix_of (Some (lexeme.Mark p.Ampersand)) = Some prefix.AddressOf
prefix_of (Some (lexeme.Mark p.Star)) = Some prefix.Deref
prefix_of (Some (lexeme.Mark p.Plus)) = Some prefix.Plus
prefix_of (Some (lexeme.Mark p.Minus)) = Some prefix.Minus
prefix_of (Some (lexeme.Mark p.Tilde)) = Some prefix.Flip
prefix_of (Some (lexeme.Mark p.Exclamation)) = Some prefix.Not
prefix_of _ = None

abbrev pub infix_of : Option Body → Option Infix
infix_of (Some (lexeme.Mark p.Star)) = Some (between.Arithmetic a.Multiply)
infix_of (Some (lexeme.Mark p.Slash)) = Some (between.Arithmetic a.Divide)
infix_of (Some (lexeme.Mark p.Percent)) = Some (between.Arithmetic a.Remainder)
infix_of (Some (lexeme.Mark p.Plus)) = Some (between.Arithmetic a.Add)
infix_of (Some (lexeme.Mark p.Minus)) = Some (between.Arithmetic a.Subtract)
infix_of (Some (lexeme.Mark p.ShiftLeft)) = Some (between.Arithmetic a.ShiftLeft)
infix_of (Some (lexeme.Mark p.ShiftRight)) = Some (between.Arithmetic a.ShiftRight)
infix_of (Some (lexeme.Mark p.Ampersand)) = Some (between.Arithmetic a.BitAnd)
infix_of (Some (lexeme.Mark p.Caret)) = Some (between.Arithmetic a.BitXor)
infix_of (Some (lexeme.Mark p.Bar)) = Some (between.Arithmetic a.BitOr)
infix_of (Some (lexeme.Mark p.Less)) = Some (between.Comparison c.Less)
infix_of (Some (lexeme.Mark p.Greater)) = Some (between.Comparison c.Greater)
infix_of (Some (lexeme.Mark p.LessEqual)) = Some (between.Comparison c.LessEqual)
infix_of (Some (lexeme.Mark p.GreaterEqual)) = Some (between.Comparison c.GreaterEqual)
infix_of (Some (lexeme.Mark p.Equal)) = Some (between.Comparison c.Equal)
infix_of (Some (lexeme.Mark p.NotEqual)) = Some (between.Comparison c.NotEqual)
infix_of (Some (lexeme.Mark p.AndAnd)) = Some between.AndAlso
infix_of (Some (lexeme.Mark p.OrOr)) = Some between.OrElse
infix_of (Some (lexeme.Mark p.Assign)) = Some between.Assign
infix_of (Some (lexeme.Mark p.StarAssign)) = Some (between.AssignOp a.Multiply)
infix_of (Some (lexeme.Mark p.SlashAssign)) = Some (between.AssignOp a.Divide)
infix_of (Some (lexeme.Mark p.PercentAssign)) = Some (between.AssignOp a.Remainder)
infix_of (Some (lexeme.Mark p.PlusAssign)) = Some (between.AssignOp a.Add)
infix_of (Some (lexeme.Mark p.MinusAssign)) = Some (between.AssignOp a.Subtract)
infix_of (Some (lexeme.Mark p.ShiftLeftAssign)) = Some (between.AssignOp a.ShiftLeft)
infix_of (Some (lexeme.Mark p.ShiftRightAssign)) = Some (between.AssignOp a.ShiftRight)
infix_of (Some (lexeme.Mark p.AmpersandAssign)) = Some (between.AssignOp a.BitAnd)
infix_of (Some (lexeme.Mark p.CaretAssign)) = Some (between.AssignOp a.BitXor)
infix_of (Some (lexeme.Mark p.BarAssign)) = Some (between.AssignOp a.BitOr)
infix_of (Some (lexeme.Mark p.Comma)) = Some between.Comma
infix_of _ = None

abbrev pub storage_of : Option Body → Option Storage
storage_of (Some (lexeme.Word w.Typedef)) = Some storage.Typedef
storage_of (Some (lexeme.Word w.Extern)) = Some storage.Extern
storage_of (Some (lexeme.Word w.Static)) = Some storage.Static
storage_of (Some (lexeme.Word w.Auto)) = Some storage.Auto
storage_of (Some (lexeme.Word w.Register)) = Some storage.Register
storage_of _ = None

abbrev pub qualifier_of : Option Body → Option Qualifier
qualifier_of (Some (lexeme.Word w.Const)) = Some qualifier.Const
qualifier_of (Some (lexeme.Word w.Restrict)) = Some qualifier.Restrict
qualifier_of (Some (lexeme.Word w.Volatile)) = Some qualifier.Volatile
qualifier_of _ = None

abbrev pub basic_of : Option Body → Option BasicWord
basic_of (Some (lexeme.Word w.Void)) = Some basic.Void
basic_of (Some (lexeme.Word w.Char)) = Some basic.Char
basic_of (Some (lexeme.Word w.Short)) = Some basic.Short
basic_of (Some (lexeme.Word w.Int)) = Some basic.Int
basic_of (Some (lexeme.Word w.Long)) = Some basic.Long
basic_of (Some (lexeme.Word w.Signed)) = Some basic.Signed
basic_of (Some (lexeme.Word w.Unsigned)) = Some basic.Unsigned
basic_of (Some (lexeme.Word w.Bool)) = Some basic.Bool
basic_of _ = None
