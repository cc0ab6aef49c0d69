-- The tokens of operators and words.
use Rattle.c_lexer.specs.declared.punct.Punct.{Punct}
use Rattle.c_lexer.specs.declared.punct.Punct.TheVariants as p
use Rattle.c_lexer.specs.declared.token.Body.{Body}
use Rattle.c_lexer.specs.declared.token.Body.TheVariants as lexeme
use Rattle.c_lexer.specs.declared.word.Word.{Word}
use Rattle.c_lexer.specs.declared.word.Word.TheVariants as w
use Rattle.c_syntax.specs.declared.expression.Constant.{Constant}
use Rattle.c_syntax.specs.declared.expression.Constant.TheVariants as constant
use Rattle.c_syntax.specs.declared.operator.Access.{Access}
use Rattle.c_syntax.specs.declared.operator.Access.TheVariants as access
use Rattle.c_syntax.specs.declared.operator.Arithmetic.{Arithmetic}
use Rattle.c_syntax.specs.declared.operator.Arithmetic.TheVariants as a
use Rattle.c_syntax.specs.declared.operator.Comparison.{Comparison}
use Rattle.c_syntax.specs.declared.operator.Comparison.TheVariants as c
use Rattle.c_syntax.specs.declared.operator.Infix.{Infix}
use Rattle.c_syntax.specs.declared.operator.Infix.TheVariants as between
use Rattle.c_syntax.specs.declared.operator.Measure.{Measure}
use Rattle.c_syntax.specs.declared.operator.Measure.TheVariants as measure
use Rattle.c_syntax.specs.declared.operator.Postfix.{Postfix}
use Rattle.c_syntax.specs.declared.operator.Postfix.TheVariants as postfix
use Rattle.c_syntax.specs.declared.operator.Prefix.{Prefix}
use Rattle.c_syntax.specs.declared.operator.Prefix.TheVariants as prefix
use Rattle.c_syntax.specs.declared.specifier.BasicWord.{BasicWord}
use Rattle.c_syntax.specs.declared.specifier.BasicWord.TheVariants as basic
use Rattle.c_syntax.specs.declared.specifier.CompoundWord.{CompoundWord}
use Rattle.c_syntax.specs.declared.specifier.CompoundWord.TheVariants as compound
use Rattle.c_syntax.specs.declared.specifier.Qualifier.{Qualifier}
use Rattle.c_syntax.specs.declared.specifier.Qualifier.TheVariants as qualifier
use Rattle.c_syntax.specs.declared.specifier.Storage.{Storage}
use Rattle.c_syntax.specs.declared.specifier.Storage.TheVariants as storage

-- 6.4.4
abbrev pub constant_token : Constant → Body
constant_token (constant.Number number) = lexeme.Number number
constant_token (constant.Character value wide) = lexeme.Character value wide

-- 6.5.2.3
abbrev pub access_token : Access → Punct
access_token access.Dot = p.Dot
access_token access.Arrow = p.Arrow

-- 6.5.2.4
abbrev pub postfix_token : Postfix → Punct
postfix_token postfix.PostInc = p.Increment
postfix_token postfix.PostDec = p.Decrement

-- 6.5.3
abbrev pub prefix_token : Prefix → Body
prefix_token prefix.PreInc = lexeme.Mark p.Increment
prefix_token prefix.PreDec = lexeme.Mark p.Decrement
prefix_token prefix.AddressOf = lexeme.Mark p.Ampersand
prefix_token prefix.Deref = lexeme.Mark p.Star
prefix_token prefix.Plus = lexeme.Mark p.Plus
prefix_token prefix.Minus = lexeme.Mark p.Minus
prefix_token prefix.Flip = lexeme.Mark p.Tilde
prefix_token prefix.Not = lexeme.Mark p.Exclamation
prefix_token prefix.SizeExpr = lexeme.Word w.Sizeof

-- 6.5.3.4
abbrev pub measure_word : Measure → Word
measure_word measure.SizeType = w.Sizeof
measure_word measure.AlignType = w.Alignof

-- 6.5.5 to 6.5.7, 6.5.10 to 6.5.12
abbrev pub arithmetic_token : Arithmetic → Punct
arithmetic_token a.Multiply = p.Star
arithmetic_token a.Divide = p.Slash
arithmetic_token a.Remainder = p.Percent
arithmetic_token a.Add = p.Plus
arithmetic_token a.Subtract = p.Minus
arithmetic_token a.ShiftLeft = p.ShiftLeft
arithmetic_token a.ShiftRight = p.ShiftRight
arithmetic_token a.BitAnd = p.Ampersand
arithmetic_token a.BitXor = p.Caret
arithmetic_token a.BitOr = p.Bar

-- 6.5.16.2
abbrev pub assignment_token : Arithmetic → Punct
assignment_token a.Multiply = p.StarAssign
assignment_token a.Divide = p.SlashAssign
assignment_token a.Remainder = p.PercentAssign
assignment_token a.Add = p.PlusAssign
assignment_token a.Subtract = p.MinusAssign
assignment_token a.ShiftLeft = p.ShiftLeftAssign
assignment_token a.ShiftRight = p.ShiftRightAssign
assignment_token a.BitAnd = p.AmpersandAssign
assignment_token a.BitXor = p.CaretAssign
assignment_token a.BitOr = p.BarAssign

-- 6.5.8, 6.5.9
abbrev pub comparison_token : Comparison → Punct
comparison_token c.Less = p.Less
comparison_token c.Greater = p.Greater
comparison_token c.LessEqual = p.LessEqual
comparison_token c.GreaterEqual = p.GreaterEqual
comparison_token c.Equal = p.Equal
comparison_token c.NotEqual = p.NotEqual

abbrev pub infix_token : Infix → Punct
infix_token (between.Arithmetic operator) = arithmetic_token operator
infix_token (between.Comparison operator) = comparison_token operator
infix_token between.AndAlso = p.AndAnd
infix_token between.OrElse = p.OrOr
infix_token between.Assign = p.Assign
infix_token (between.AssignOp operator) = assignment_token operator
infix_token between.Comma = p.Comma

-- 6.7.1
abbrev pub storage_word : Storage → Word
storage_word storage.Typedef = w.Typedef
storage_word storage.Extern = w.Extern
storage_word storage.Static = w.Static
storage_word storage.Auto = w.Auto
storage_word storage.Register = w.Register

-- 6.7.3
abbrev pub qualifier_word : Qualifier → Word
qualifier_word qualifier.Const = w.Const
qualifier_word qualifier.Restrict = w.Restrict
qualifier_word qualifier.Volatile = w.Volatile

-- 6.7.2
abbrev pub basic_word : BasicWord → Word
basic_word basic.Void = w.Void
basic_word basic.Char = w.Char
basic_word basic.Short = w.Short
basic_word basic.Int = w.Int
basic_word basic.Long = w.Long
basic_word basic.Signed = w.Signed
basic_word basic.Unsigned = w.Unsigned
basic_word basic.Bool = w.Bool

-- 6.7.2.1
abbrev pub compound_word : CompoundWord → Word
compound_word compound.Struct = w.Struct
compound_word compound.Union = w.Union
