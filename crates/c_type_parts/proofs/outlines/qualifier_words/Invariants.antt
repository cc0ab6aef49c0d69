-- The words so far, and those of the rest, are all.
use Rattle.std.proofs.Common.{◌≡◌, ◌++◌, drop}
use Rattle.c_syntax.specs.View.{specifiers_of}
use Rattle.c_type_parts.specs.Shapes.{qualifier_words}
use Rattle.c_type_parts.proofs.outlines.qualifier_words.Given as goal

abbrev pub invariant-loop-specifier : goal.invariant-loop-specifier
invariant-loop-specifier l =
    l.words.items ++ qualifier_words (specifiers_of (drop l.specifier-index l.specifiers))
    ≡ qualifier_words (specifiers_of l.specifiers)
