-- Each step writes the least byte of the rest.
use Rattle.std.proofs.Common.{length, arith}
use Rattle.std.proofs.lemmas.List.{length-set}
use Rattle.object_store.specs.Load.{number_bytes}
use Rattle.object_store.proofs.NumberBytes.{write_more}
use Rattle.object_store.proofs.numbers.write_number.Goals as goal

pub loop-byte-preserved : goal.loop-byte-preserved
loop-byte-preserved c =
    simp length-set (write_more c.loop-byte.bytes c.loop-byte.byte-index c.loop-byte.rest
    (number_bytes (length c.loop-byte.bytes) c.args.number) (omega arith) c.loop-byte.invariant)
