-- None of the specifiers so far is so.
use Rattle.std.proofs.Common.{◌≡◌, drop}
use Rattle.c_syntax.specs.View.{specifiers_of}
use Rattle.c_type_parts.specs.Shapes.{names_something}
use Rattle.c_type_parts.proofs.outlines.names_something.Given as goal

abbrev pub invariant-loop-specifier : goal.invariant-loop-specifier
invariant-loop-specifier l =
    names_something (specifiers_of l.specifiers) ≡ names_something (specifiers_of (drop l.specifier-index l.specifiers))
