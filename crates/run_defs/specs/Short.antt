-- Values that the line of a call shows.
use Rattle.std.specs.Prelude.{◌<◌, ◌^◌, pos, negsuc}
use Rattle.lib_defs.specs.declared.shown.Shown.{Shown}
use Rattle.lib_defs.specs.declared.shown.Shown.TheVariants.{Number, Function, Place, NoValue}

-- a number of 64 bits, signed or unsigned; or no function's name
abbrev pub IsShort : Shown → Type 0
IsShort (Number (pos n)) = n < 2 ^ 64
IsShort (Number (negsuc n)) = n < 2 ^ 63
IsShort (Function name) = ⊥
IsShort (Place object offset) = Unit {0}
IsShort NoValue = Unit {0}
