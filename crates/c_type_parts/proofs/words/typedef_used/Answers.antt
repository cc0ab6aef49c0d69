-- The typedef name is not in scope, or stands for a type.
use Rattle.c_type_parts.proofs.Stands.{no_typedef, some_typedef}
use Rattle.c_type_parts.proofs.words.typedef_used.Goals as goal

pub returns-in-None : goal.returns-in-None
returns-in-None c = λ scopes here. no_typedef c.args.pos scopes c.args.types.now _ c.in-None.is

pub returns-in-Some : goal.returns-in-Some
returns-in-Some c = λ scopes here.
    some_typedef c.args.pos scopes c.args.types.now _ c.in-Some.of c.in-Some.is here c.requires.typedef
