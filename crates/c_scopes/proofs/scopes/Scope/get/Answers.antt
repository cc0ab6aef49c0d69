-- A name is looked up by the order of names, and is found where its bytes are the same.
use Rattle.std.proofs.Common.{◌∙◌}
use Rattle.c_scopes.proofs.Found.{lookup_by_order}
use Rattle.c_scopes.proofs.scopes.Scope.get.Goals as goal

pub returns-then-tag : goal.returns-then-tag
returns-then-tag c =
    rw c.if-tag.true (c.get.ensures.value ∙ lookup_by_order c.args.name.now c.args.self.now.tags.entries)

pub returns-else-tag : goal.returns-else-tag
returns-else-tag c =
    rw c.if-tag.false (c.get-else-tag.ensures.value ∙ lookup_by_order c.args.name.now c.args.self.now.names.entries)
