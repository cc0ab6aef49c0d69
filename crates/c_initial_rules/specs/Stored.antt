-- What the program holds of what an initializer stores.
use Rattle.c_types.specs.Types.{Types}
use Rattle.c_core.specs.Ids.{CoreIn}
use Rattle.c_core.specs.View.{core_of}
use Rattle.c_core.specs.ViewUnit.{value_of}
use Rattle.c_initial_rules.specs.declared.items.Initial as code
use Rattle.c_initial_rules.specs.declared.items.Initial.TheVariants as i
use Rattle.c_initial_rules.specs.Initials.{Initial, Valued, Fixed, Spelled}

abbrev pub initial_of : Types → code.Initial → Initial
initial_of types (i.Valued content core) = Valued content (core_of types core)
initial_of types (i.Fixed value) = Fixed (value_of value)
initial_of types (i.Spelled bytes) = Spelled bytes.items

abbrev pub InitialIn : Types → code.Initial → Type 0
InitialIn types (i.Valued content core) = CoreIn types core
InitialIn types (i.Fixed value) = Unit {0}
InitialIn types (i.Spelled bytes) = Unit {0}
