-- What a unit's bytes were read as: its tokens, and the place behind its last byte.
use Rattle.std.specs.Prelude.{List}
use Rattle.critical_table.specs.declared.pos.Pos.{Pos}
use Rattle.c_lexer.specs.declared.token.Token.{Token}

-- as contracts see `Tokens`
pub record Stream : Type 0 where
  pub tokens : List Token
  pub end : Pos
