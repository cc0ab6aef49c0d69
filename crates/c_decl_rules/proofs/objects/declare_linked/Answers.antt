-- What the constraints say is what the rule says.
use Rattle.std.proofs.Common.{subst}
use Rattle.std.specs.Prelude.{Option}
use Rattle.std.proofs.lemmas.Result.{err_from_is_err_and}
use Rattle.c_types.specs.Structures.{structures_of}
use Rattle.c_scopes.specs.Clauses.{Makes}
use Rattle.c_scopes.specs.Env.{BindingIn}
use Rattle.c_scopes.specs.Named.{named_of}
use Rattle.c_decl_rules.specs.Clauses.{declares_of, seen_of}
use Rattle.c_decl_rules.specs.DeclaredNames.{ObjectBefore, object_before, object_declared, object_demands}
use Rattle.c_decl_rules.proofs.Verdicts.{follows, told}
use Rattle.c_decl_rules.proofs.objects.declare_linked.Goals as goal

pub returns : goal.returns
returns c =
    let old = c.args.types.now in
    let new = c.object_declared.new.types in
    let name = declares_of old c.args.name.now in
    let seen = seen_of old c.args.visible.now in
    let linkage = c.args.linkage in
    follows (object_demands (structures_of old) name seen linkage)
    (object_declared name linkage (object_before linkage seen.named))
    c.in_ok-declared.declared old new c.in_ok-may_declare.ensures
    (subst (λ (before : Option ObjectBefore). Makes named_of BindingIn (object_declared name linkage before)
    old new c.in_ok-declared.declared) c.object_before-before.ensures.is c.in_ok-declared.ensures)

pub returns-in_err-may_declare : goal.returns-in_err-may_declare
returns-in_err-may_declare c =
    let old = c.args.types.now in
    let name = declares_of old c.args.name.now in
    let seen = seen_of old c.args.visible.now in
    let linkage = c.args.linkage in
    let p = err_from_is_err_and c.from_residual.result c.from_residual.ensures.1 in
    rw (p.1, p.2) (told (object_demands (structures_of old) name seen linkage)
    (object_declared name linkage (object_before linkage seen.named)) c.args.name.now.at _
    c.in_err-may_declare.ensures)
