-- What the constraints say is what the rule says.
use Rattle.std.proofs.Common.{subst}
use Rattle.std.specs.Prelude.{Option}
use Rattle.std.proofs.lemmas.Result.{err_from_is_err_and}
use Rattle.c_scopes.specs.Clauses.{Makes}
use Rattle.c_scopes.specs.Env.{BindingIn}
use Rattle.c_scopes.specs.Named.{named_of}
use Rattle.c_decl_rules.specs.Clauses.{declares_of, seen_of}
use Rattle.c_decl_rules.specs.DeclaredNames.{FunctionBefore, function_before, function_declared, function_demands}
use Rattle.c_decl_rules.proofs.Verdicts.{follows, told}
use Rattle.c_decl_rules.proofs.functions.declare_linked.Goals as goal

pub returns : goal.returns
returns c =
    let old = c.args.types.now in
    let new = c.function_declared.new.types in
    let name = declares_of old c.args.name.now in
    let seen = seen_of old c.args.visible.now in
    let linkage = c.args.linkage in
    follows (function_demands name seen linkage) (function_declared name linkage (function_before linkage seen.named))
    c.in_ok-declared.declared old new c.in_ok-may_declare.ensures
    (subst (λ (before : Option FunctionBefore). Makes named_of BindingIn (function_declared name linkage before)
    old new c.in_ok-declared.declared) c.function_before-before.ensures.is c.in_ok-declared.ensures)

pub returns-in_err-may_declare : goal.returns-in_err-may_declare
returns-in_err-may_declare c =
    let old = c.args.types.now in
    let name = declares_of old c.args.name.now in
    let seen = seen_of old c.args.visible.now in
    let linkage = c.args.linkage in
    let p = err_from_is_err_and c.from_residual.result c.from_residual.ensures.1 in
    rw (p.1, p.2) (told (function_demands name seen linkage)
    (function_declared name linkage (function_before linkage seen.named)) c.args.name.now.at _
    c.in_err-may_declare.ensures)
