-- What the loop of `names_types` keeps.
use Rattle.std.proofs.Common.{◌≡◌, drop}
use Rattle.c_syntax.specs.Scopes.{names_types}
use Rattle.c_syntax.specs.View.{specifiers_of}
use Rattle.c_parser.proofs.declared.names_types.Given as goal

abbrev pub invariant-loop-specifier : goal.invariant-loop-specifier
invariant-loop-specifier l =
    names_types (specifiers_of l.specifiers) ≡ names_types (specifiers_of (drop l.specifier-index l.specifiers))
