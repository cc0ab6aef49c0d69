-- The law of types.
use Rattle.c_typing_law.proofs.Made.{types_made, members_made}
use Rattle.c_typing_law.proofs.Stays.{stays_typed, declared_formed, completed_formed}
use Rattle.c_typing_law.proofs.types_law.Goals as goal

pub returns : goal.returns
returns c = record {
  makes = types_made;
  members = members_made;
  stays = stays_typed;
  declared = declared_formed;
  completed = completed_formed;
}
