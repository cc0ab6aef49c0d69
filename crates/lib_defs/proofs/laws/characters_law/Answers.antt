-- Character by character.
use Rattle.lib_defs.proofs.CharacterLemmas.{characters_read, characters_alone}
use Rattle.lib_defs.proofs.laws.characters_law.Goals as goal

pub returns : goal.returns
returns c = record {
  is = λ s p k most. characters_read s p most k;
  alone = λ s p k most c h. characters_alone s p k most c h;
}
