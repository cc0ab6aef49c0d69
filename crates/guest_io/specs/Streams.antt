-- What one write adds to a stream, and what one read takes of the input.
use Rattle.std.specs.Prelude.{◌≡◌, ℕ, List, ◌++◌, Option, Some, None}
use Rattle.lib_defs.specs.declared.step.LibStep.{LibStep}
use Rattle.lib_defs.specs.Reply.{step_of, store_after, handler_after}
use Rattle.lib_defs.specs.World.{Input, World, Reply}
use Rattle.lib_defs.specs.StreamRows.{get_reply}
use Rattle.lib_defs.specs.Answers.{Written, IsFront}

-- All that was written is what was written before and these bytes. What the sink was handed stays.
pub record WrittenMore (before now : Written) (bytes : List ℕ) : Type 0 where
  pub all : now.handed ++ now.held ≡ (before.handed ++ before.held) ++ bytes
  pub stays : IsFront before.handed now.handed

abbrev pub Adds : (before now : Option Written) → List ℕ → Type 0
Adds None None bytes = Unit {0}
Adds (Some before) (Some now) bytes = WrittenMore before now bytes
Adds _ _ bytes = ⊥

-- A write failed: what the sink was handed is a front of what was written before and these bytes.
pub record WrittenInPart (before now : Written) (bytes : List ℕ) : Type 0 where
  pub front : IsFront now.handed ((before.handed ++ before.held) ++ bytes)
  pub stays : IsFront before.handed now.handed

abbrev pub Cuts : (before now : Option Written) → List ℕ → Type 0
Cuts None None bytes = Unit {0}
Cuts (Some before) (Some now) bytes = WrittenInPart before now bytes
Cuts _ _ bytes = ⊥

-- The answer is the step of the reply, which changes neither the store nor the handler.
pub record IsStepOf (reply : Reply) (w : World) (answer : LibStep) : Type 0 where
  pub step : answer ≡ step_of reply.did
  pub store : store_after reply.did w.store ≡ w.store
  pub handler : handler_after reply.did w.handler ≡ w.handler

-- The reply writes these bytes to the output and those to the error output.
pub record Writes (reply : Reply) (w : World) (printed told : List ℕ) : Type 0 where
  pub output : reply.streams.output ≡ w.streams.output ++ printed
  pub err : reply.streams.err ≡ w.streams.err ++ told

-- With this input before, getchar gives this answer and leaves that input, and writes nothing.
pub record Got (w : World) (before now : Input) (answer : LibStep) : Type 0 where
  pub step : IsStepOf (get_reply w before.bytes before.ending) w answer
  pub output : (get_reply w before.bytes before.ending).streams.output ≡ w.streams.output
  pub err : (get_reply w before.bytes before.ending).streams.err ≡ w.streams.err
  pub input : (get_reply w before.bytes before.ending).streams.input ≡ now

abbrev pub IsGot : (before now : Input) → LibStep → Type 0
IsGot before now answer = (w : World) → w.streams.input ≡ before → Got w before now answer

-- Whatever input may come now, one may have come before of which getchar gives this answer.
abbrev pub Gets : (old new : Input → Type 0) → LibStep → Type 0
Gets old new answer = (now : Input) → new now → (before : Input) × old before × IsGot before now answer
