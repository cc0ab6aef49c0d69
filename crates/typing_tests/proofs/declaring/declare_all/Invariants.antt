-- The scopes speak of the table's types.
use Rattle.c_scopes.specs.Env.{ScopesIn}
use Rattle.typing_tests.proofs.declaring.declare_all.Given as goal

abbrev pub invariant-loop-external : goal.invariant-loop-external
invariant-loop-external l = ScopesIn l.types l.scopes
