-- How a run starts: the message object, and then the static objects in turn (5.1.2, 6.2.4p3).
use Rattle.std.specs.Prelude.{ℕ, List, [], ◌∷◌, length}
use Rattle.object_store.specs.declared.class.Class.TheVariants.{Static}
use Rattle.object_store.specs.declared.mark.Mark.TheVariants.{Literal}
use Rattle.object_store.specs.declared.pointer.Pointer.{Pointer}
use Rattle.object_store.specs.Steps.{next_number}
use Rattle.object_store.specs.Messages.{message_bytes}
use Rattle.lib_defs.specs.World.{Input}
use Rattle.run_defs.specs.declared.seal.Seal.{Seal}
use Rattle.run_defs.specs.State.{State, static_made, sealed}
use Rattle.run_defs.specs.Evaluation.{Evaluation, Gives, bind, within}

-- ticks and bytes: those that a run may take
pub record Budgets : Type 0 where
  pub ticks : ℕ
  pub bytes : ℕ

-- a static object: its contents, and its marks in order
pub record StaticObject : Type 0 where
  pub bytes : List ℕ
  pub seals : List Seal

-- no object is made yet; the handler is abort_handler_s (K.3.6.1.2)
abbrev pub empty_state : Budgets → Input → Pointer → State
empty_state budgets input handler = record {
  world = record {
    store = record { objects = []; budget = budgets.bytes; open_calls = 0; writes = [] };
    handler = record { current = handler; fallback = handler };
    streams = record { input = input; output = []; err = [] };
  };
  journal = [];
  ticks = budgets.ticks;
}

abbrev pub all_sealed : ℕ → List Seal → State → State
all_sealed number [] s = s
all_sealed number (seal ∷ seals) s = all_sealed number seals (sealed number seal s)

-- An object with its contents, and its marks behind it.
abbrev pub placed : StaticObject → State → State
placed object s = all_sealed (next_number s.world.store Static) object.seals (static_made object.bytes s)

-- The messages of runtime-constraints are a string literal's bytes, and are not counted.
abbrev pub messages : StaticObject
messages = record {
  bytes = message_bytes;
  seals = record { at = 0; len = length message_bytes; mark = Literal } ∷ [];
}

abbrev pub start_state : Budgets → Input → Pointer → State
start_state budgets input handler = placed messages (empty_state budgets input handler)

-- The static objects of a unit. They take no tick; their bytes are counted.
abbrev pub statics_placed : List StaticObject → State → Evaluation (Unit {0})
statics_placed [] s = Gives tt s
statics_placed (object ∷ objects) s = bind (within (length object.bytes) s) (λ u s1.
    statics_placed objects (placed object s1))
