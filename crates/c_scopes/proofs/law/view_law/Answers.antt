-- The law of views.
use Rattle.c_scopes.proofs.Seen.{found_seen, found_here_seen, bound_seen, left_seen}
use Rattle.c_scopes.proofs.Seen.{found_in, found_in_here, bound_in_table, left_in}
use Rattle.c_scopes.proofs.law.view_law.Goals as goal

pub returns : goal.returns
returns c = record {
  finds = λ scopes types. found_seen types scopes;
  finds_here = λ scopes types. found_here_seen types scopes;
  binds = λ scopes types. bound_seen types scopes;
  leaves = λ scopes types. left_seen types scopes;
  finds_in = λ scopes types. found_in types scopes;
  finds_in_here = λ scopes types. found_in_here types scopes;
  binds_in = λ scopes types. bound_in_table types scopes;
  leaves_in = λ scopes types. left_in types scopes;
}
