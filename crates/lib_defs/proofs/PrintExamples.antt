-- What formats print, on either side of each rule.
use Rattle.std.proofs.Common.{◌≡◌, ◌++◌, List, [], ◌∷◌, Some, None, refl}
use Rattle.std.specs.Prelude.{ℕ, ℤ, pos, negsuc, codes}
use Rattle.std.specs.Fmt.{digits}
use Rattle.acc_num.specs.Operations.{converted_to}
use Rattle.critical_table.specs.declared.case.Case.TheVariants.{L9}
use Rattle.critical_table.specs.declared.code.Code.TheVariants.{U05, U09}
use Rattle.object_store.specs.declared.by.By.TheVariants.{OtherRead}
use Rattle.object_store.specs.declared.mark.Mark.TheVariants.{Plain}
use Rattle.object_store.specs.declared.pointer.Pointer.{Pointer}
use Rattle.object_store.specs.Storage.{Storage}
use Rattle.object_store.specs.Reach.{reach_table}
use Rattle.lib_defs.specs.declared.value.Arg.{Arg}
use Rattle.lib_defs.specs.declared.value.ArgKind.{ArgKind}
use Rattle.lib_defs.specs.declared.value.ArgKind.TheVariants as kind
use Rattle.lib_defs.specs.declared.value.Value.TheVariants.{Num, Ptr}
use Rattle.lib_defs.specs.Reply.{Stop, FailsReach, FailsArgument, IsUndefined, null}
use Rattle.lib_defs.specs.Characters.{Characters, string_at}
use Rattle.lib_defs.specs.Printed.{printed}
use Rattle.lib_defs.proofs.ExampleStore.{object, store, at, known, text_bytes, unset}

-- char s[] = "abc"; char c[3] = {'a', 'b', 'c'}; char u[4];
abbrev three : Storage
three = store
    (object Plain (text_bytes (codes "abc")) ∷ object Plain (known (codes "abc")) ∷ object Plain (unset 4) ∷ [])

abbrev s : Pointer
s = at 4 0 4

abbrev c : Pointer
c = at 6 0 3

abbrev u : Pointer
u = at 8 0 4

abbrev text : List ℕ → Characters
text list = record { list = list; stop = None }

abbrev stops : List ℕ → Stop → Characters
stops list stop = record { list = list; stop = Some stop }

abbrev number : ArgKind → ℤ → Arg
number kind n = record { value = Num n; kind = kind }

abbrev int : ℤ → Arg
int n = number kind.Int n

abbrev uint : ℕ → Arg
uint n = number kind.UInt (pos n)

abbrev string : Pointer → Arg
string p = record { value = Ptr p; kind = kind.CharPointer }

abbrev print : List ℕ → List Arg → Characters
print format args = printed three (text format) args

-- one conversion of each kind
print_each : print (codes "%-4d|%04x|%+d|%.2s|%c%%")
    (int (pos 5) ∷ int (pos 255) ∷ int (pos 3) ∷ string s ∷ int (pos 65) ∷ [])
    ≡ text (codes "5   |00ff|+3|ab|A%")
unfolding reach_table digits
print_each = refl

-- signs: `+` acts on d and i
print_signs : print (codes "%d %i %+d %+i %+u")
    (int (negsuc 41) ∷ int (pos 0) ∷ int (pos 0) ∷ int (negsuc 0) ∷ uint 7 ∷ [])
    ≡ text (codes "-42 0 +0 -1 7")
unfolding digits
print_signs = refl

-- bases and their cases
print_bases : print (codes "%u %x %X %o") (uint 4294967295 ∷ uint 43981 ∷ uint 43981 ∷ uint 8 ∷ [])
    ≡ text (codes "4294967295 abcd ABCD 10")
unfolding digits
print_bases = refl

-- widths: spaces on the left, zeros behind the sign, spaces on the right; `-` overrules `0`; a wide text is not cut
print_widths : print (codes "%5d|%05d|%-5d|%-05d|%2d")
    (int (negsuc 41) ∷ int (negsuc 41) ∷ int (negsuc 41) ∷ int (negsuc 41) ∷ int (pos 12345) ∷ [])
    ≡ text (codes "  -42|-0042|-42  |-42  |12345")
unfolding digits
print_widths = refl

print_plus : print (codes "%+05d|%+5d|%-+5d|%5c|") (int (pos 7) ∷ int (pos 7) ∷ int (pos 7) ∷ int (pos 120) ∷ [])
    ≡ text (codes "+0007|   +7|+7   |    x|")
unfolding digits
print_plus = refl

print_columns : print (codes "%3d numbers, sum %d\n") (int (pos 3) ∷ int (pos 6) ∷ [])
    ≡ text (codes "  3 numbers, sum 6\n")
unfolding digits
print_columns = refl

-- strings: precision and width
print_strings : print (codes "%s|%.s|%.0s|%.5s|%5.1s|%-3.2s|")
    (string s ∷ string s ∷ string s ∷ string s ∷ string s ∷ string s ∷ [])
    ≡ text (codes "abc|||abc|    a|ab |")
unfolding reach_table
print_strings = refl

-- a precision reads no more
print_part : print (codes "%.3s") (string c ∷ []) ≡ text (codes "abc")
unfolding reach_table
print_part = refl

print_past : print (codes "a%.4s") (string c ∷ [])
    ≡ stops (codes "a") (FailsReach L9 (record c { offset = 3 }) 1 1 OtherRead)
unfolding reach_table
print_past = refl

print_unknown : print (codes "a%s") (string u ∷ []) ≡ stops (codes "a") (IsUndefined U05)
unfolding reach_table
print_unknown = refl

-- a precision of 0 reads nothing
print_none : print (codes "%.s") (string null ∷ []) ≡ text []
print_none = refl

-- hh and h convert the value first; the kind stays that of int
print_short : print (codes "%hhd %hhu %hd %hu %hx")
    (int (pos 200) ∷ int (pos 511) ∷ int (pos 32768) ∷ uint 65537 ∷ int (pos 65535) ∷ [])
    ≡ text (codes "-56 255 -32768 1 ffff")
unfolding digits converted_to
print_short = refl

-- l, ll and z take their types
print_long : print (codes "%ld %lu %lld %llx %zd %zu")
    (number kind.Long (negsuc 9223372036854775807) ∷ number kind.ULong (pos 18446744073709551615)
    ∷ number kind.LongLong (negsuc 0) ∷ number kind.ULongLong (pos 255) ∷ number kind.Long (negsuc 2)
    ∷ number kind.ULong (pos 9) ∷ [])
    ≡ text (codes "-9223372036854775808 18446744073709551615 -1 ff -3 9")
unfolding digits
print_long = refl

-- the other sign is taken where the value fits both
print_fits : print (codes "%d %u") (uint 2147483647 ∷ int (pos 0) ∷ []) ≡ text (codes "2147483647 0")
unfolding digits
print_fits = refl

print_too_great : print (codes "a%d") (uint 2147483648 ∷ []) ≡ stops (codes "a") (FailsArgument 2)
print_too_great = refl

print_negative : print (codes "%d%u") (int (pos 1) ∷ int (negsuc 0) ∷ []) ≡ stops (codes "1") (FailsArgument 3)
unfolding digits
print_negative = refl

-- another kind; none at all; further ones are ignored
print_other : print (codes "%ld") (number kind.LongLong (pos 1) ∷ []) ≡ stops [] (FailsArgument 2)
print_other = refl

print_pointer : print (codes "%d") (string s ∷ []) ≡ stops [] (FailsArgument 2)
print_pointer = refl

print_other_pointer : print (codes "%s") (record { value = Ptr s; kind = kind.OtherPointer } ∷ [])
    ≡ stops [] (FailsArgument 2)
print_other_pointer = refl

print_missing : print (codes "a%d") [] ≡ stops (codes "a") (FailsArgument 2)
print_missing = refl

print_further : print (codes "a") (int (pos 1) ∷ []) ≡ text (codes "a")
print_further = refl

-- %c: one byte, of an unsigned int that fits too
print_characters : print (codes "%c%3c%-3c|") (int (pos 321) ∷ uint 66 ∷ int (negsuc 0) ∷ [])
    ≡ text (codes "A  B" ++ 255 ∷ codes "  |")
print_characters = refl

print_no_character : print (codes "%c") (uint 2147483648 ∷ []) ≡ stops [] (FailsArgument 2)
print_no_character = refl

-- what is undefined, before its argument is looked at: another letter, a flag twice, 0 with c or s, a precision of a
-- number, a length modifier of c or s, a width or precision above 4,095, a conversion that the null ends, %% with more
print_letter : print (codes "a%q") [] ≡ stops (codes "a") (IsUndefined U09)
print_letter = refl

print_twice : print (codes "%++d") [] ≡ stops [] (IsUndefined U09)
print_twice = refl

print_zero_twice : print (codes "%-00d") [] ≡ stops [] (IsUndefined U09)
print_zero_twice = refl

print_zero_string : print (codes "%05s") [] ≡ stops [] (IsUndefined U09)
print_zero_string = refl

print_zero_character : print (codes "%-05c") [] ≡ stops [] (IsUndefined U09)
print_zero_character = refl

print_precise : print (codes "%.2d") [] ≡ stops [] (IsUndefined U09)
print_precise = refl

print_precise_character : print (codes "%.1c") [] ≡ stops [] (IsUndefined U09)
print_precise_character = refl

print_long_string : print (codes "%ls") [] ≡ stops [] (IsUndefined U09)
print_long_string = refl

print_width : print (codes "%4096d") [] ≡ stops [] (IsUndefined U09)
print_width = refl

print_widest : print (codes "%4095d") [] ≡ stops [] (FailsArgument 2)
print_widest = refl

print_precision : print (codes "%.4096s") [] ≡ stops [] (IsUndefined U09)
print_precision = refl

print_ended : print (codes "ab%-5l") [] ≡ stops (codes "ab") (IsUndefined U09)
print_ended = refl

print_percents : print (codes "%%%%") [] ≡ text (codes "%%")
print_percents = refl

print_percent : print (codes "%5%") [] ≡ stops [] (IsUndefined U09)
print_percent = refl

-- a format that has no null: what stands before its end comes out, and inside a conversion what stands before it
print_open : printed three (string_at three c) []
    ≡ stops (codes "abc") (FailsReach L9 (record c { offset = 3 }) 1 1 OtherRead)
unfolding reach_table
print_open = refl

print_inside : printed three (stops (codes "a%+5") (FailsReach L9 c 1 1 OtherRead)) []
    ≡ stops (codes "a") (FailsReach L9 c 1 1 OtherRead)
print_inside = refl

-- `+` has no effect on the others
print_plus_others : print (codes "%+x %+o %+c %+s") (uint 10 ∷ uint 8 ∷ int (pos 65) ∷ string s ∷ [])
    ≡ text (codes "a 10 A abc")
unfolding reach_table digits
print_plus_others = refl

-- a 0 behind another digit is one of the width
print_ten : print (codes "%010d|%-10d|") (int (pos 7) ∷ int (pos 7) ∷ []) ≡ text (codes "0000000007|7         |")
unfolding digits
print_ten = refl

-- the greatest precision
print_most : print (codes "%.4095s") (string s ∷ []) ≡ text (codes "abc")
unfolding reach_table
print_most = refl

-- the kind has to be that of the modifier
print_int_long : print (codes "%d") (number kind.Long (pos 1) ∷ []) ≡ stops [] (FailsArgument 2)
print_int_long = refl

print_size_long_long : print (codes "%zd") (number kind.LongLong (pos 1) ∷ []) ≡ stops [] (FailsArgument 2)
print_size_long_long = refl

print_long_negative : print (codes "%lu") (number kind.Long (negsuc 0) ∷ []) ≡ stops [] (FailsArgument 2)
print_long_negative = refl

print_short_great : print (codes "%hhd") (uint 2147483648 ∷ []) ≡ stops [] (FailsArgument 2)
print_short_great = refl

-- flags, a width by an argument, modifiers and conversions outside the profile
print_alternative : print (codes "%#x") (uint 1 ∷ []) ≡ stops [] (IsUndefined U09)
print_alternative = refl

print_blank : print (codes "% d") (int (pos 1) ∷ []) ≡ stops [] (IsUndefined U09)
print_blank = refl

print_star : print (codes "%*d") (int (pos 1) ∷ int (pos 1) ∷ []) ≡ stops [] (IsUndefined U09)
print_star = refl

print_count : print (codes "%n") (string s ∷ []) ≡ stops [] (IsUndefined U09)
print_count = refl

print_maximum : print (codes "%jd") (number kind.Long (pos 1) ∷ []) ≡ stops [] (IsUndefined U09)
print_maximum = refl

print_long_character : print (codes "%lc") (int (pos 65) ∷ []) ≡ stops [] (IsUndefined U09)
print_long_character = refl

print_alone : print (codes "%-%") [] ≡ stops [] (IsUndefined U09)
print_alone = refl

-- the null behind a last `%`
print_last : print (codes "ab%") [] ≡ stops (codes "ab") (IsUndefined U09)
print_last = refl
