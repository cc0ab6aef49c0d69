-- The bytes that are written, with those of the rest, are those of the number.
use Rattle.std.proofs.Common.{◌≡◌, ◌-◌, ◌++◌, length, take}
use Rattle.object_store.specs.Load.{number_bytes}
use Rattle.object_store.proofs.numbers.write_number.Given as goal

abbrev pub invariant-loop-byte : goal.invariant-loop-byte
invariant-loop-byte l =
    take l.byte-index l.bytes ++ number_bytes (length l.bytes - l.byte-index) l.rest
    ≡ number_bytes (length l.bytes) l.number
