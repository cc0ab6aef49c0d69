-- The qualifiers so far, and those that follow.
use Rattle.std.proofs.Common.{◌≡◌, drop}
use Rattle.c_type_rules.specs.Qualified.{quals_from, quals_of_words}
use Rattle.c_type_rules.proofs.qualified.qualifiers.Given as goal

abbrev pub invariant-loop-word : goal.invariant-loop-word
invariant-loop-word l = quals_from l.quals (drop l.word-index l.words) ≡ quals_of_words l.words
