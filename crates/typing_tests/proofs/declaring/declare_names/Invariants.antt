-- The scopes speak of the table's types, and so do the type of the specifiers and that of the last declarator.
use Rattle.c_core.specs.Ids.{IdIn}
use Rattle.c_scopes.specs.Env.{ScopesIn}
use Rattle.typing_tests.proofs.declaring.declare_names.Given as goal

abbrev pub invariant-loop-each : goal.invariant-loop-each
invariant-loop-each l = ScopesIn l.types l.scopes × IdIn l.types l.words.of × IdIn l.types l.last
