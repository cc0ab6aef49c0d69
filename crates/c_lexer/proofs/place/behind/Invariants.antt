-- The place so far, and what is left.
use Rattle.std.proofs.Common.{◌≡◌, ◌+◌, ◌≤◌, drop}
use Rattle.c_lexer.specs.Lexing.{behind}
use Rattle.c_lexer.proofs.place.behind.Given as goal

abbrev pub invariant-loop-byte : goal.invariant-loop-byte
invariant-loop-byte l = record {
  rest : behind l.place (drop l.byte-index l.bytes) ≡ behind l.fn.pos l.bytes;
  line : l.place.line ≤ l.fn.pos.line + l.byte-index;
  column : l.place.column ≤ l.fn.pos.column + 1 + l.byte-index;
}
