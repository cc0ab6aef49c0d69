-- How far on a place may be behind some bytes.
use Rattle.std.proofs.Common.{ℕ, ◌+◌, ◌≤◌, List, [], ◌∷◌, Bool, true, false, ◌==◌, cond, length, arith}
use Rattle.critical_table.specs.declared.pos.Pos.{Pos}
use Rattle.c_lexer.specs.Lexing.{behind_byte, behind}

-- a byte adds at most one line
byte_line : (pos : Pos) (t : Bool)
    → (cond {A = Pos} t (record { line = pos.line + 1; column = 1 }) (record {
      line = pos.line;
      column =
          pos.column + 1;
    })).line ≤ pos.line + 1
byte_line pos true = omega arith
byte_line pos false = omega arith

-- a byte adds at most one column
byte_column : (pos : Pos) (t : Bool)
    → (cond {A = Pos} t (record { line = pos.line + 1; column = 1 }) (record {
      line = pos.line;
      column =
          pos.column + 1;
    })).column ≤ pos.column + 1
byte_column pos true = omega arith
byte_column pos false = omega arith

-- so many bytes add at most so many lines
pub behind_line : (pos : Pos) (bytes : List ℕ) → (behind pos bytes).line ≤ pos.line + length bytes
behind_line pos [] = omega arith
behind_line pos (byte ∷ bytes) = omega (arith, behind_line (behind_byte pos byte) bytes, byte_line pos (byte == 10))

-- and at most so many columns
pub behind_column : (pos : Pos) (bytes : List ℕ) → (behind pos bytes).column ≤ pos.column + length bytes
behind_column pos [] = omega arith
behind_column pos (byte ∷ bytes) =
    omega (arith, behind_column (behind_byte pos byte) bytes, byte_column pos (byte == 10))
