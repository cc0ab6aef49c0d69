-- The words so far, and those of the rest, are all.
use Rattle.std.proofs.Common.{◌≡◌, ◌++◌, drop}
use Rattle.c_syntax.specs.View.{specifiers_of}
use Rattle.c_type_parts.specs.Shapes.{basic_words}
use Rattle.c_type_parts.proofs.outlines.basic_words.Given as goal

abbrev pub invariant-loop-specifier : goal.invariant-loop-specifier
invariant-loop-specifier l =
    l.words.items ++ basic_words (specifiers_of (drop l.specifier-index l.specifiers))
    ≡ basic_words (specifiers_of l.specifiers)
