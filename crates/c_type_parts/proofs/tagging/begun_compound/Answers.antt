-- What is made without a tag.
use Rattle.std.proofs.Common.{sym, subst}
use Rattle.std.specs.Prelude.{Option}
use Rattle.c_types.specs.CType.{type_of}
use Rattle.c_core.specs.Ids.{IdIn}
use Rattle.c_scopes.specs.Env.{env_of}
use Rattle.c_syntax.specs.declared.specifier.Tag.{Tag}
use Rattle.c_type_parts.specs.Clauses.{Given}
use Rattle.c_type_parts.specs.Tagging.{compound_begun}
use Rattle.c_type_parts.proofs.KnownTags.{made_given}
use Rattle.c_type_parts.proofs.tagging.begun_compound.Goals as goal

pub returns-in-Ok : goal.returns-in-Ok
returns-in-Ok c =
    subst (λ (tag : Option Tag). Given (compound_begun c.args.is_union tag (env_of c.args.scopes.now c.args.types.now))
    (type_of c.new_compound.new.types c.in-Ok.of) (λ t. IdIn t c.in-Ok.of) c.args.types.now c.args.scopes.now
    c.new_compound.new.types) (sym c.in-None.is)
    (made_given _ _ c.args.scopes.now c.args.types.now c.new_compound.new.types c.in-Ok.of c.in-Ok.ensures)
