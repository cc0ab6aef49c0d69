-- How tables that have made nothing but types compose.
use Rattle.std.proofs.Common.{◌≡◌, ◌∙◌, refl}
use Rattle.c_types.specs.Types.{Types}
use Rattle.c_types.proofs.Kept.{grows_own, grows_then}
use Rattle.c_scopes.specs.Clauses.{KeepsTable}

pub keeps_own : (types : Types) → KeepsTable types types
keeps_own types = record { grows = grows_own types; structures = refl; enumerations = refl }

pub keeps_then : (old mid new : Types) → KeepsTable old mid → KeepsTable mid new → KeepsTable old new
keeps_then old mid new before after = record {
  grows = grows_then old mid new before.grows after.grows;
  structures = after.structures ∙ before.structures;
  enumerations = after.enumerations ∙ before.enumerations;
}
