-- The laws of composite types.
use Rattle.std.specs.Prelude.{true}
use Rattle.c_types.proofs.CompositeLaws.{composite-first, composite-second}
use Rattle.c_types.proofs.composite.composite_law.Goals as goal

pub returns : goal.returns
returns c = record { first = λ a b h. composite-first a b true h; second = λ a b h. composite-second a b true h }
