-- The rule of the word fits, or it is refused.
use Rattle.std.proofs.Common.{refl}
use Rattle.c_type_parts.proofs.Stands.{stands_refused, stands_given}
use Rattle.c_type_parts.proofs.words.storage_seen.Goals as goal

pub returns-in-Err : goal.returns-in-Err
returns-in-Err c = λ scopes types here is_in. stands_refused _ c.args.pos scopes types _ c.in-Err.fault c.in-Err.ensures

pub returns-in-Ok : goal.returns-in-Ok
returns-in-Ok c = λ scopes types here is_in.
    stands_given _ c.args.pos scopes types tt _ _ c.in-Ok.ensures refl here is_in
