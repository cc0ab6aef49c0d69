-- The scopes that are left, where the last has no such binding.
use Rattle.std.proofs.Common.{sym, ◌∙◌}
use Rattle.c_scopes.specs.Scopes.{found}
use Rattle.c_scopes.specs.Inner.{outwards}
use Rattle.c_scopes.proofs.Found.{found_last, or_else_some, or_else_none, found_empty}
use Rattle.c_scopes.proofs.scopes.find_in.Goals as goal

pub loop-scope-preserved : goal.loop-scope-preserved
loop-scope-preserved c =
    c.loop-scope.invariant ∙ found_last _ _ _ _ _ c.in-Some.ensures.cases.0
    ∙ sym (or_else_none _ _ _ c.in_default-get.ensures
    (λ i. found (outwards c.in-Some.outer.now) c.args.tag c.args.name.now))

pub returns-in-Some-get : goal.returns-in-Some-get
returns-in-Some-get c =
    or_else_some _ _ _ c.in-Some-get.ensures
    ∙ sym (c.loop-scope.invariant ∙ found_last _ _ _ _ _ c.in-Some.ensures.cases.0)

pub returns : goal.returns
returns c = found_empty _ _ _ c.in_default.ensures.cases ∙ sym c.loop-scope.invariant
