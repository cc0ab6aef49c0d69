-- None of the specifiers so far is a typedef name.
use Rattle.std.proofs.Common.{◌≡◌, drop}
use Rattle.c_syntax.specs.View.{specifiers_of}
use Rattle.c_type_parts.specs.Shapes.{typedef_in}
use Rattle.c_type_parts.proofs.outlines.typedef_in.Given as goal

abbrev pub invariant-loop-specifier : goal.invariant-loop-specifier
invariant-loop-specifier l =
    typedef_in (specifiers_of l.specifiers) ≡ typedef_in (specifiers_of (drop l.specifier-index l.specifiers))
