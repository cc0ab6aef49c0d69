-- The declarators so far, and those behind them.
use Rattle.std.proofs.Common.{◌≡◌, List, ◌++◌, length, map}
use Rattle.c_reading.specs.Parser.{and_then, pure, ones}
use Rattle.c_reading.specs.ReadBody.{more_declarators, all_declarators, init_declarator_adds}
use Rattle.c_syntax.specs.Scopes.{Scope}
use Rattle.c_syntax.specs.ScopesUnit.{init_declarators_add}
use Rattle.c_syntax.specs.TreeUnit.{InitDeclarator}
use Rattle.c_syntax.specs.ViewUnit.{init_declarator_of}
use Rattle.c_parser.proofs.body.declaration.all_declarators.Given as goal

abbrev pub invariant-each : goal.invariant-each
invariant-each l = record {
  reads : all_declarators l.k l.names_type l.fn.scope (init_declarator_of l.fn.first.value) l.tokens
      ≡ and_then (more_declarators l.k l.names_type l.scope l.rest)
      (λ more. pure {A = List InitDeclarator} (map init_declarator_of l.all.items ++ ones more));
  scope : (outer : Scope)
      → l.fn.scope ≡ outer ++ init_declarator_adds l.k l.names_type (init_declarator_of l.fn.first.value)
      → l.scope ≡ outer ++ init_declarators_add l.names_type (map init_declarator_of l.all.items);
}

abbrev pub decreases-each : goal.decreases-each
decreases-each l = length l.rest
