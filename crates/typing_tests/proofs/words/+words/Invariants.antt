-- The parts of a type have lower ids.
use Rattle.std.proofs.Common.{◌+◌, ◌*◌}
use Rattle.typing_tests.proofs.words.+words.Given as goal

abbrev pub decreases-describe : goal.decreases-describe
decreases-describe l = 3 * l.id.0 + 2

abbrev pub decreases-function_words : goal.decreases-function_words
decreases-function_words l = 3 * l.id.0 + 1

abbrev pub decreases-parameter_words : goal.decreases-parameter_words
decreases-parameter_words l = 3 * l.id.0
