-- What is written are the bytes of the integer, and a load of them gives it back.
use Rattle.std.proofs.Common.{◌≡◌, FitsSigned}
use Rattle.std.specs.Int.{w128}
use Rattle.std.proofs.lemmas.Int.{to_z-of_z}
use Rattle.object_store.specs.Load.{integer_bytes}
use Rattle.object_store.proofs.NumberBytes.{load_integer-integer_bytes}
use Rattle.object_store.proofs.integers.write_integer.Goals as goal

pub returns-clause-loads : goal.returns-clause-loads
unfolding integer_bytes
returns-clause-loads c =
    let fits : FitsSigned w128 c.args.value = c.ranges.value in
    let is : c.write_number.new.bytes ≡ integer_bytes c.args.kind c.args.value =
    simp to_z-of_z at (rw (c.requires.length, c.representation_of.ensures) at c.write_number.ensures) in
    rw is (load_integer-integer_bytes c.args.kind c.args.value c.requires.in_range)
