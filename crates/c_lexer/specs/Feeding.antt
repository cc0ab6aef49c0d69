-- What a lexer was fed, and what it answers.
use Rattle.std.specs.Prelude.{◌≡◌, ◌⊎◌, ℕ, ◌<◌, ◌≤◌, List, [], ◌∷◌, length, Option, Some, None}
use Rattle.critical_table.specs.declared.pos.Pos.{Pos}
use Rattle.critical_table.specs.declared.refusal.Refusal.{Refusal}
use Rattle.critical_table.specs.declared.refusal.Refusal.TheVariants.{Size}
use Rattle.c_lexer.specs.declared.fault.LexFault.{LexFault}
use Rattle.c_lexer.specs.declared.fault.LexFault.TheVariants.{Refused, Memory}
use Rattle.c_lexer.specs.declared.lexer.Stop.{Stop}
use Rattle.c_lexer.specs.declared.lexer.Stop.TheVariants as stop
use Rattle.c_lexer.specs.declared.token.Token.{Token}
use Rattle.c_lexer.specs.Lexing.{start, greatest_size, AreTokens, IsRefused}
use Rattle.c_lexer.specs.ReaderState.{ReaderState}
use Rattle.c_lexer.specs.ReadSoFar.{Anything, IsRead}
use Rattle.c_lexer.specs.Stream.{Stream}

-- spans one behind another, none of them empty, up to the end
abbrev pub AreInOrder : ℕ → List Token → ℕ → Type 0
AreInOrder at [] end = at ≤ end
AreInOrder at (token ∷ tokens) end = (at ≤ token.from) × (token.from < token.to) × AreInOrder token.to tokens end

-- the bytes are no more than are taken, and they are these tokens and no others
pub record AreOnlyTokens (bytes : List ℕ) (stream : Stream) : Type 0 where
  pub few : length bytes ≤ greatest_size
  pub tokens : AreTokens bytes stream
  pub only : (other : Stream) → AreTokens bytes other → other ≡ stream
  pub in_order : AreInOrder 0 stream.tokens (length bytes)
  pub no_more : length stream.tokens ≤ length bytes

-- the bytes are no tokens, for this reason at this place and no other
pub record IsOnlyRefused (bytes : List ℕ) (why : Refusal) (pos : Pos) : Type 0 where
  pub few : length bytes ≤ greatest_size
  pub refused : IsRefused bytes why pos
  pub only : (other : Refusal) (place : Pos) → IsRefused bytes other place → (other ≡ why) × (place ≡ pos)
  pub no_tokens : (stream : Stream) → AreTokens bytes stream → ⊥

-- there are more bytes than are taken; that is told at the first of them
pub record IsTooLarge (size : ℕ) (why : Refusal) (pos : Pos) : Type 0 where
  pub many : greatest_size < size
  pub reason : why ≡ Size
  pub place : pos ≡ start.pos

-- a fault that the bytes of a unit have, but for want of memory
abbrev pub IsFault : List ℕ → LexFault → Type 0
IsFault bytes (Refused why pos) = IsTooLarge (length bytes) why pos ⊎ IsOnlyRefused bytes why pos
IsFault bytes (Memory cause) = Unit {0}

-- the bytes are refused, or memory was wanting
abbrev pub IsReadFault : List ℕ → LexFault → Type 0
IsReadFault bytes (Refused why pos) = IsRefused bytes why pos
IsReadFault bytes (Memory cause) = Unit {0}

-- a fault that feeding may have: that there are more bytes than are taken, or want of memory
abbrev pub IsFeedFault : ℕ → LexFault → Type 0
IsFeedFault size (Refused why pos) = IsTooLarge size why pos
IsFeedFault size (Memory cause) = Unit {0}

-- how far a lexer is
pub record Progress : Type 0 where
  pub reader : ReaderState
  pub size : ℕ
  pub fault : Option LexFault

-- these bytes were fed, in some pieces, and no call answered a fault
pub record IsFed (progress : Progress) (bytes : List ℕ) : Type 0 where
  pub running : progress.fault ≡ None
  pub size : progress.size ≡ length bytes
  pub few : length bytes ≤ greatest_size
  pub read : IsRead Anything progress.reader bytes

-- a call answered this fault
abbrev pub IsStopped : Progress → LexFault → Type 0
IsStopped progress fault = progress.fault ≡ Some fault

-- the fault that each call answers once a lexer takes no more
abbrev pub fault_of : Stop → LexFault
fault_of stop.Size = Refused Size start.pos
fault_of (stop.Memory cause) = Memory cause
