-- Lists of spelled tokens, and which tokens of a unit they are.
use Rattle.std.specs.Prelude.{◌≡◌, ℕ, ℤ, Bool, true, false, List, [], ◌∷◌, ◌++◌, map, Option, Some, None}
use Rattle.std.specs.List.{flat_map}
use Rattle.critical_table.specs.declared.pos.Pos.{Pos}
use Rattle.c_lexer.specs.declared.token.Token.{Token}
use Rattle.c_lexer.specs.declared.token.Body.{Body}
use Rattle.c_lexer.specs.declared.token.Body.TheVariants as lexeme
use Rattle.c_lexer.specs.declared.word.Word.{Word}
use Rattle.c_lexer.specs.declared.punct.Punct.{Punct}
use Rattle.c_lexer.specs.declared.punct.Punct.TheVariants as p
use Rattle.c_syntax.specs.declared.spelled.Spelled.{Spelled}

-- ---- one token, and one whose place is a node's

abbrev pub bare : Body → Spelled
bare token = record { body = token; place = None }

abbrev pub token_at : Pos → Body → Spelled
token_at pos token = record { body = token; place = Some pos }

abbrev pub word : Word → Spelled
word w = bare (lexeme.Word w)

abbrev pub word_at : Pos → Word → Spelled
word_at pos w = token_at pos (lexeme.Word w)

abbrev pub mark : Punct → Spelled
mark m = bare (lexeme.Mark m)

abbrev pub mark_at : Pos → Punct → Spelled
mark_at pos m = token_at pos (lexeme.Mark m)

abbrev pub name : List ℕ → Spelled
name x = bare (lexeme.Name x)

abbrev pub name_at : Pos → List ℕ → Spelled
name_at pos x = token_at pos (lexeme.Name x)

-- ---- lists

-- with a comma between each two parts
abbrev pub commas : List (List Spelled) → List Spelled
commas [] = []
commas (first ∷ rest) = first ++ flat_map (λ part. mark p.Comma ∷ part) rest

-- a comma behind the last part of a list in braces (6.7.2.2, 6.7.9)
abbrev pub comma_if : Bool → List Spelled
comma_if true = mark p.Comma ∷ []
comma_if false = []

-- the end of a parameter list with further parameters (6.7.6.3p9)
abbrev pub ellipsis_if : Bool → List Spelled
ellipsis_if true = mark p.Comma ∷ mark p.Ellipsis ∷ []
ellipsis_if false = []

-- adjacent string literals of one width, the first at a place where one is given (6.4.5p5)
abbrev pub spell_pieces : Option Pos → Bool → List (List ℤ) → List Spelled
spell_pieces place wide [] = []
spell_pieces place wide (units ∷ rest) =
    record { body = lexeme.Literal units wide; place = place } ∷ map (λ more. bare (lexeme.Literal more wide)) rest

-- ---- tokens of a unit

-- the token stands there, where a place is asked for
abbrev pub StandsAt : Option Pos → Pos → Type 0
StandsAt None pos = Unit {0}
StandsAt (Some place) pos = pos ≡ place

-- these tokens are spelled so
abbrev pub Match : List Token → List Spelled → Type 0
Match [] [] = Unit {0}
Match [] (spelled ∷ more) = ⊥
Match (token ∷ tokens) [] = ⊥
Match (token ∷ tokens) (spelled ∷ more) =
    (token.body ≡ spelled.body) × StandsAt spelled.place token.pos × Match tokens more
