-- How many bytes a buffer of input or output holds.
use Rattle.std.specs.Prelude.{ℕ}

abbrev pub room : ℕ
room = 4096
