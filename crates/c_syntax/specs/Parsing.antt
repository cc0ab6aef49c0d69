-- What a parser has to answer: the one tree of a unit's tokens, or the place where they are refused.
use Rattle.std.specs.Prelude.{◌≡◌, ◌⊎◌, ℕ, List, [], ◌∷◌, ◌++◌}
use Rattle.critical_table.specs.declared.pos.Pos.{Pos}
use Rattle.critical_table.specs.declared.refusal.Refusal.{Refusal}
use Rattle.critical_table.specs.declared.refusal.Refusal.TheVariants.{Syntax, Deep}
use Rattle.c_lexer.specs.declared.token.Token.{Token}
use Rattle.c_lexer.specs.Stream.{Stream}
use Rattle.c_syntax.specs.Tokens.{Match}
use Rattle.c_syntax.specs.TreeUnit.{Tree}
use Rattle.c_syntax.specs.SpellingUnit.{spell_tree}
use Rattle.c_syntax.specs.HeightUnit.{greatest_height}
use Rattle.c_syntax.specs.WellFormedUnit.{IsTree, IsWellFormed}
use Rattle.c_syntax.specs.Begin.{BeginsTree}

-- the tokens are the spelling of a well-formed tree
abbrev pub IsSyntactic : List Token → Type 0
IsSyntactic tokens = (tree : Tree) × IsWellFormed tree × Match tokens (spell_tree tree)

-- the tree of a unit's tokens
pub record SpelledBy (stream : Stream) (tree : Tree) : Type 0 where
  pub spells : Match stream.tokens (spell_tree tree)
  pub ends : tree.end ≡ stream.end
  pub fits : IsWellFormed tree
  -- no other tree has these tokens, of whatever height
  pub only : (other : Tree) → IsTree other → Match stream.tokens (spell_tree other) → other.end ≡ stream.end
      → other ≡ tree

-- a refused list of tokens is too deep where, without the greatest height, some unit would begin with it
abbrev pub IsReason : Refusal → List Token → Type 0
IsReason Deep tokens = (most : ℕ) × BeginsTree most tokens
IsReason Syntax tokens = (most : ℕ) → BeginsTree most tokens → ⊥
IsReason _ tokens = ⊥

-- The unit is refused at a token: the first with which no syntactic unit begins,
pub record RefusedAtToken (stream : Stream) (why : Refusal) (pos : Pos) : Type 0 where
  pub before : List Token
  pub token : Token
  pub after : List Token
  pub parts : stream.tokens ≡ before ++ token ∷ after
  pub place : pos ≡ token.pos
  pub begins : BeginsTree greatest_height before
  pub first : BeginsTree greatest_height (before ++ token ∷ []) → ⊥
  pub reason : IsReason why (before ++ token ∷ [])

-- or at the place behind its last byte: all tokens begin a syntactic unit, and are none.
pub record RefusedAtEnd (stream : Stream) (why : Refusal) (pos : Pos) : Type 0 where
  pub place : pos ≡ stream.end
  pub begins : BeginsTree greatest_height stream.tokens
  pub none : IsSyntactic stream.tokens → ⊥
  pub reason : why ≡ Syntax

abbrev pub RefusedAt : Stream → Refusal → Pos → Type 0
RefusedAt stream why pos = RefusedAtToken stream why pos ⊎ RefusedAtEnd stream why pos

-- the place of the first of the tokens that are left, or behind the last byte
abbrev pub stopped_at : Stream → List Token → Pos
stopped_at stream [] = stream.end
stopped_at stream (token ∷ after) = token.pos
