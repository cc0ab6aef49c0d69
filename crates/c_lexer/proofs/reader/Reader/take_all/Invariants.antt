-- The bytes so far were read.
use Rattle.std.proofs.Common.{◌+◌, ℕ, List, ◌++◌, take}
use Rattle.c_lexer.specs.ReaderState.{state_of, IsWithin, reach}
use Rattle.c_lexer.specs.ReadSoFar.{IsRead, Anything}
use Rattle.c_lexer.proofs.reader.Reader.take_all.Given as goal

abbrev pub invariant-loop-byte : goal.invariant-loop-byte
invariant-loop-byte l = record {
  read : (bytes : List ℕ) → IsRead Anything (state_of l.fn.self) bytes
      → IsRead Anything (state_of l.self) (bytes ++ take l.byte-index l.piece);
  within : IsWithin (state_of l.self) (reach (state_of l.fn.self) + l.byte-index);
}
