-- The words so far, and those that follow.
use Rattle.std.proofs.Common.{◌≡◌, drop}
use Rattle.std.specs.Prelude.{Some}
use Rattle.c_type_rules.specs.Words.{no_words, words_from}
use Rattle.c_type_rules.proofs.words.words_of.Given as goal

abbrev pub invariant-loop-word : goal.invariant-loop-word
invariant-loop-word l = words_from l.words (drop l.word-index l.list) ≡ words_from (Some no_words) l.list
