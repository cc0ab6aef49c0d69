-- The linkage is that of the definition.
use Rattle.std.proofs.Common.{subst}
use Rattle.c_scopes.specs.declared.binding.Linkage.{Linkage}
use Rattle.c_decl_rules.specs.Clauses.{RulesName, declares_of, seen_of}
use Rattle.c_decl_rules.specs.DeclaredNames.{linked_function}
use Rattle.c_decl_rules.proofs.functions.declare_function.Goals as goal

pub returns : goal.returns
returns c =
    let old = c.args.types.now in
    subst (λ (linkage : Linkage). RulesName (linked_function (declares_of old c.args.name.now)
    (seen_of old c.args.visible.now) linkage) c.args.name.now.at old c.declare_linked.new.types
    c.declare_linked.result) c.function_linkage-linkage.ensures c.declare_linked.ensures
