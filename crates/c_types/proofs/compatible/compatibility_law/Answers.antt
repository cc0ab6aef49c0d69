-- The laws of compatible types.
use Rattle.std.specs.Prelude.{true}
use Rattle.c_types.proofs.CompatibleLaws.{agree-sym, agree-own}
use Rattle.c_types.proofs.compatible.compatibility_law.Goals as goal

pub returns : goal.returns
returns c = record { reflexive = λ a. agree-own a true; symmetric = λ a b. agree-sym a b true }
