-- How far on a place may be.
use Rattle.std.specs.Prelude.{◌+◌, ◌≤◌}
use Rattle.c_lexer.specs.declared.place.Place.{Place}

-- a place is no further on than its bytes
pub record IsPlaced (place : Place) : Type 0 where
  pub line : place.pos.line ≤ place.at + 1
  pub column : place.pos.column ≤ place.at + 1
