-- The list of 6.7.2p2, row by row, and some that are none.
use Rattle.std.proofs.Common.{◌≡◌, [], ◌∷◌, refl}
use Rattle.c_types.specs.declared.basic.Basic.TheVariants as b
use Rattle.c_syntax.specs.declared.specifier.BasicWord.TheVariants.{Void, Char, Short, Int, Long, Signed, Unsigned}
use Rattle.c_syntax.specs.declared.specifier.BasicWord.TheVariants.{Bool}
use Rattle.c_scopes.specs.Ruled.{Fits, Breaks}
use Rattle.c_conversions.specs.Kinds.{basic_type}
use Rattle.c_type_rules.specs.Words.{basic_rule}

void : basic_rule (Void ∷ []) ≡ Fits (basic_type b.Void)
void = refl

char : basic_rule (Char ∷ []) ≡ Fits (basic_type b.Char)
char = refl

signed_char : basic_rule (Signed ∷ Char ∷ []) ≡ Fits (basic_type b.SChar)
signed_char = refl

unsigned_char : basic_rule (Char ∷ Unsigned ∷ []) ≡ Fits (basic_type b.UChar)
unsigned_char = refl

short : basic_rule (Short ∷ []) ≡ Fits (basic_type b.Short)
short = refl

signed_short_int : basic_rule (Int ∷ Signed ∷ Short ∷ []) ≡ Fits (basic_type b.Short)
signed_short_int = refl

unsigned_short_int : basic_rule (Unsigned ∷ Short ∷ Int ∷ []) ≡ Fits (basic_type b.UShort)
unsigned_short_int = refl

signed : basic_rule (Signed ∷ []) ≡ Fits (basic_type b.Int)
signed = refl

unsigned_int : basic_rule (Unsigned ∷ Int ∷ []) ≡ Fits (basic_type b.UInt)
unsigned_int = refl

long_int : basic_rule (Long ∷ Int ∷ []) ≡ Fits (basic_type b.Long)
long_int = refl

unsigned_long : basic_rule (Unsigned ∷ Long ∷ []) ≡ Fits (basic_type b.ULong)
unsigned_long = refl

long_long : basic_rule (Long ∷ Signed ∷ Long ∷ []) ≡ Fits (basic_type b.LongLong)
long_long = refl

unsigned_long_long_int : basic_rule (Long ∷ Unsigned ∷ Int ∷ Long ∷ []) ≡ Fits (basic_type b.ULongLong)
unsigned_long_long_int = refl

bool : basic_rule (Bool ∷ []) ≡ Fits (basic_type b.Bool)
bool = refl

no_words : basic_rule [] ≡ Breaks 4
no_words = refl

three_longs : basic_rule (Long ∷ Long ∷ Long ∷ []) ≡ Breaks 4
three_longs = refl

long_char : basic_rule (Long ∷ Char ∷ []) ≡ Breaks 4
long_char = refl

short_long : basic_rule (Short ∷ Long ∷ Int ∷ []) ≡ Breaks 4
short_long = refl

signed_unsigned : basic_rule (Signed ∷ Unsigned ∷ []) ≡ Breaks 4
signed_unsigned = refl

two_ints : basic_rule (Int ∷ Int ∷ []) ≡ Breaks 4
two_ints = refl

unsigned_bool : basic_rule (Unsigned ∷ Bool ∷ []) ≡ Breaks 4
unsigned_bool = refl

signed_void : basic_rule (Signed ∷ Void ∷ []) ≡ Breaks 4
signed_void = refl
