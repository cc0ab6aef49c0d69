-- All names in a scope that had none.
use Rattle.std.proofs.Common.{List, map, ap, ◌∙◌}
use Rattle.c_scopes.specs.Env.{names_of}
use Rattle.c_scopes.specs.Scopes.{Scope}
use Rattle.c_predeclared.specs.Predeclared.{all_bound, predeclared_names}
use Rattle.c_predeclared.proofs.AddingUp.{binds_then}
use Rattle.c_predeclared.proofs.predeclared_scope.predeclared.Goals as goal

pub returns : goal.returns
returns c =
    let all = binds_then c.in_ok-bind_basic_names.ensures c.in_ok-bind_derived_names.ensures in
    record {
      is = all.is
          ∙ ap (λ (scopes : List Scope). all_bound predeclared_names (map (names_of c.args.types.now) scopes))
          c.in_ok-scopes.ensures;
      here = all.here;
      kept = all.kept;
    }
