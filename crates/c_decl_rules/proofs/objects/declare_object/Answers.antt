-- The linkage is that of the definition.
use Rattle.std.proofs.Common.{subst}
use Rattle.c_types.specs.Structures.{structures_of}
use Rattle.c_scopes.specs.declared.binding.Linkage.{Linkage}
use Rattle.c_decl_rules.specs.Clauses.{RulesName, declares_of, seen_of}
use Rattle.c_decl_rules.specs.DeclaredNames.{linked_object}
use Rattle.c_decl_rules.proofs.objects.declare_object.Goals as goal

pub returns : goal.returns
returns c =
    let old = c.args.types.now in
    subst (λ (linkage : Linkage). RulesName (linked_object (structures_of old) (declares_of old c.args.name.now)
    (seen_of old c.args.visible.now) linkage) c.args.name.now.at old c.declare_linked.new.types
    c.declare_linked.result) c.object_linkage-linkage.ensures c.declare_linked.ensures
