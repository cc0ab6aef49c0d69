-- The arguments of a call, and the room for them.
use Rattle.std.specs.Prelude.{ℕ, List}
use Rattle.lib_defs.specs.declared.value.Arg.{Arg}

pub record Arguments : Type 0 where
  pub list : List Arg
  pub room : ℕ
