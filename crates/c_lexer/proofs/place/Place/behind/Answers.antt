-- The new place is no further on than its bytes.
use Rattle.std.proofs.Common.{◌≡◌, ap, arith}
use Rattle.critical_table.specs.declared.pos.Pos.{Pos}
use Rattle.c_lexer.specs.Lexing.{behind}
use Rattle.c_lexer.proofs.PlaceLaws.{behind_line, behind_column}
use Rattle.c_lexer.proofs.place.Place.behind.Goals as goal

pub returns-clause-placed : goal.returns-clause-placed
returns-clause-placed c =
    let is : c.behind.result ≡ behind c.args.self.pos c.args.text.now = c.behind.ensures in
    record {
      line = omega (
        arith,
        behind_line c.args.self.pos c.args.text.now,
        ap (λ (p : Pos). p.line) is,
        c.requires.placed.line,
      );
      column = omega (
        arith,
        behind_column c.args.self.pos c.args.text.now,
        ap (λ (p : Pos). p.column) is,
        c.requires.placed.column,
      );
    }
