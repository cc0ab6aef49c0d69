-- What a library row sees of a run.
use Rattle.std.specs.Prelude.{◌≡◌, ℕ, List, ◌++◌}
use Rattle.object_store.specs.Storage.{Storage}
use Rattle.lib_defs.specs.declared.handler.Handler.{Handler}
use Rattle.lib_defs.specs.Reply.{Did}

-- how an input ends: nothing is left, or a read fails
pub data Ending : Type 0 where
  AtEnd : Ending
  Broken : Ending

-- The input still to come. Of a run that does not ask past the bytes that it was given, what is said holds for all
-- that may stand behind them.
pub record Input : Type 0 where
  pub bytes : List ℕ
  pub ending : Ending

-- the output and the error output hold all that was written so far
pub record Streams : Type 0 where
  pub input : Input
  pub output : List ℕ
  pub err : List ℕ

pub record World : Type 0 where
  pub store : Storage
  pub handler : Handler
  pub streams : Streams

abbrev pub world : Storage → Handler → Streams → World
world store handler streams = record { store = store; handler = handler; streams = streams }

-- what a row answers: what it did, and the streams then
pub record Reply : Type 0 where
  pub did : Did
  pub streams : Streams

-- Input is taken from its front; output and error output only grow.
pub record Flows (before after : Streams) : Type 0 where
  pub taken : List ℕ
  pub bytes : before.input.bytes ≡ taken ++ after.input.bytes
  pub ending : after.input.ending ≡ before.input.ending
  pub printed : List ℕ
  pub output : after.output ≡ before.output ++ printed
  pub reported : List ℕ
  pub err : after.err ≡ before.err ++ reported
