-- The law of growth.
use Rattle.c_scopes.proofs.Growth.{scopes_stay, scopes_stay_in}
use Rattle.c_scopes.proofs.law.growth_law.Goals as goal

pub returns : goal.returns
returns c = record {
  names = λ scopes old new grown h. scopes_stay old new grown scopes h;
  ids = λ scopes old new grown h. scopes_stay_in old new grown scopes h;
}
