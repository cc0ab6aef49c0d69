-- Which type the words of basic types name (6.7.2p2).
use Rattle.std.specs.Prelude.{List, [], ◌∷◌, Option, Some, None}
use Rattle.c_types.specs.declared.basic.Basic.{Basic}
use Rattle.c_types.specs.declared.basic.Basic.TheVariants as b
use Rattle.c_types.specs.CType.{CType}
use Rattle.c_syntax.specs.declared.specifier.BasicWord.{BasicWord}
use Rattle.c_syntax.specs.declared.specifier.BasicWord.TheVariants as word
use Rattle.c_scopes.specs.Ruled.{Ruled, Fits, Breaks}
use Rattle.c_conversions.specs.Kinds.{basic_type}
use Rattle.c_type_rules.specs.declared.words.Sign.{Sign}
use Rattle.c_type_rules.specs.declared.words.Sign.TheVariants.{Signed, Unsigned}
use Rattle.c_type_rules.specs.declared.words.Width.{Width}
use Rattle.c_type_rules.specs.declared.words.Width.TheVariants.{Short, Long, LongLong}
use Rattle.c_type_rules.specs.declared.words.Base.{Base}
use Rattle.c_type_rules.specs.declared.words.Base.TheVariants as base
use Rattle.c_type_rules.specs.declared.words.TypeWords.{TypeWords}

abbrev pub no_words : TypeWords
no_words = record { sign = None; width = None; base = None }

-- one more word, in any order: a sign and a base stand once, and a width once, but `long` twice
abbrev pub with_sign : Option Sign → Sign → TypeWords → Option TypeWords
with_sign None sign words = Some (record words { sign = Some sign })
with_sign (Some other) sign words = None

abbrev pub with_base : Option Base → Base → TypeWords → Option TypeWords
with_base None base words = Some (record words { base = Some base })
with_base (Some other) base words = None

abbrev pub with_short : Option Width → TypeWords → Option TypeWords
with_short None words = Some (record words { width = Some Short })
with_short (Some other) words = None

abbrev pub with_long : Option Width → TypeWords → Option TypeWords
with_long None words = Some (record words { width = Some Long })
with_long (Some Long) words = Some (record words { width = Some LongLong })
with_long (Some other) words = None

abbrev pub with_word : TypeWords → BasicWord → Option TypeWords
with_word words word.Void = with_base words.base base.Void words
with_word words word.Char = with_base words.base base.Char words
with_word words word.Short = with_short words.width words
with_word words word.Int = with_base words.base base.Int words
with_word words word.Long = with_long words.width words
with_word words word.Signed = with_sign words.sign Signed words
with_word words word.Unsigned = with_sign words.sign Unsigned words
with_word words word.Bool = with_base words.base base.Bool words

abbrev pub and_word : Option TypeWords → BasicWord → Option TypeWords
and_word None word = None
and_word (Some words) word = with_word words word

abbrev pub words_from : Option TypeWords → List BasicWord → Option TypeWords
words_from words [] = words
words_from words (first ∷ more) = words_from (and_word words first) more

-- the integer type of a width, which may stand with `int` or without
abbrev pub integer_of : Option Sign → Option Width → Basic
integer_of (Some Unsigned) None = b.UInt
integer_of (Some Unsigned) (Some Short) = b.UShort
integer_of (Some Unsigned) (Some Long) = b.ULong
integer_of (Some Unsigned) (Some LongLong) = b.ULongLong
integer_of other None = b.Int
integer_of other (Some Short) = b.Short
integer_of other (Some Long) = b.Long
integer_of other (Some LongLong) = b.LongLong

-- a `char` has no width, and its sign makes it another type (6.2.5p15)
abbrev pub character_of : Option Sign → Option Width → Option Basic
character_of None None = Some b.Char
character_of (Some Signed) None = Some b.SChar
character_of (Some Unsigned) None = Some b.UChar
character_of sign (Some width) = None

-- `void` and `_Bool` stand alone
abbrev pub alone : Basic → Option Sign → Option Width → Option Basic
alone basic None None = Some basic
alone basic (Some sign) width = None
alone basic None (Some width) = None

-- a sign or a width may stand without a base, but not nothing
abbrev pub without_base : Option Sign → Option Width → Option Basic
without_base None None = None
without_base (Some sign) width = Some (integer_of (Some sign) width)
without_base None (Some width) = Some (integer_of None (Some width))

abbrev pub basic_of : TypeWords → Option Base → Option Basic
basic_of words None = without_base words.sign words.width
basic_of words (Some base.Int) = Some (integer_of words.sign words.width)
basic_of words (Some base.Char) = character_of words.sign words.width
basic_of words (Some base.Void) = alone b.Void words.sign words.width
basic_of words (Some base.Bool) = alone b.Bool words.sign words.width

abbrev pub named_by : Option TypeWords → Option Basic
named_by None = None
named_by (Some words) = basic_of words words.base

abbrev pub basic_in : List BasicWord → Option Basic
basic_in words = named_by (words_from (Some no_words) words)

abbrev pub basic_named : Option Basic → Ruled CType
basic_named None = Breaks 4
basic_named (Some basic) = Fits (basic_type basic)

-- the type of a list of words of basic types
abbrev pub basic_rule : List BasicWord → Ruled CType
basic_rule words = basic_named (basic_in words)
