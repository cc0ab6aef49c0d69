-- The value so far with the digits that are left is the value of all.
use Rattle.std.proofs.Common.{◌≡◌, ◌<◌, ◌^◌, drop}
use Rattle.std.specs.Str.Parse.{digits_value_after}
use Rattle.c_lexer.proofs.number.value_of.Given as goal

abbrev pub invariant-loop-digit : goal.invariant-loop-digit
invariant-loop-digit l =
    (digits_value_after l.radix l.value (drop l.digit-index l.digits) ≡ digits_value_after l.radix 0 l.digits)
    × (l.value < 2 ^ 64)
