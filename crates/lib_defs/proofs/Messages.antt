-- The messages in the message object.
use Rattle.std.proofs.Common.{refl}
use Rattle.object_store.specs.Messages.{message_bytes}
use Rattle.lib_defs.specs.declared.violation.Violation.{Violation}
use Rattle.lib_defs.specs.declared.violation.Violation.TheVariants.{NullPointer, SizeAbove, SizeZero, DoesNotFit}
use Rattle.lib_defs.specs.declared.violation.Violation.TheVariants.{NotEnded, Overlap, TokenNotEnded, SizeNotZero}
use Rattle.lib_defs.specs.Violations.{StandsThere}

pub stands_there : (class : Violation) → StandsThere class
unfolding message_bytes
stands_there NullPointer budget = refl
stands_there SizeAbove budget = refl
stands_there SizeZero budget = refl
stands_there DoesNotFit budget = refl
stands_there NotEnded budget = refl
stands_there Overlap budget = refl
stands_there TokenNotEnded budget = refl
stands_there SizeNotZero budget = refl
