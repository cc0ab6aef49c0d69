-- By how a character constant is read.
use Rattle.c_lexer.proofs.CharacterLaws.{character_found, character_none}
use Rattle.c_lexer.proofs.characters.character_of.Goals as goal

pub returns-clause-found : goal.returns-clause-found
returns-clause-found c = character_found c.args.text.now c.read_character.result c.read_character.ensures

pub returns-clause-none : goal.returns-clause-none
returns-clause-none c = character_none c.args.text.now c.read_character.result c.read_character.ensures
