-- None of the specifiers so far is so.
use Rattle.std.proofs.Common.{◌≡◌, drop}
use Rattle.c_syntax.specs.View.{specifiers_of}
use Rattle.c_type_parts.specs.Shapes.{holds_register}
use Rattle.c_type_parts.proofs.outlines.holds_register.Given as goal

abbrev pub invariant-loop-specifier : goal.invariant-loop-specifier
invariant-loop-specifier l =
    holds_register (specifiers_of l.specifiers) ≡ holds_register (specifiers_of (drop l.specifier-index l.specifiers))
