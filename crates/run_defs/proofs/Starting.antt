-- Loads, and the start of a run.
use Rattle.std.proofs.Common.{◌≡◌, ℕ, ◌≤◌, ◌<◌, ◌+◌, false, List, [], ◌∷◌, length, refl, arith, ◌∙◌, length-append}
use Rattle.std.proofs.lemmas.Bool.{cond_both}
use Rattle.std.specs.Prelude.{codes, Result, Ok, Err}
use Rattle.std.specs.List.{All}
use Rattle.std.proofs.lemmas.List.Elements.{All-nil, All-cons, All-head, All-tail}
use Rattle.acc_num.specs.declared.kind.IntKind.{IntKind}
use Rattle.acc_num.specs.Kinds.{bytes_of}
use Rattle.critical_table.specs.declared.code.Code.{Code}
use Rattle.critical_table.specs.declared.pos.Pos.{Pos}
use Rattle.object_store.specs.declared.class.Class.TheVariants.{Static}
use Rattle.object_store.specs.declared.pointer.Pointer.{Pointer}
use Rattle.object_store.specs.Messages.{message_bytes}
use Rattle.object_store.specs.Steps.{next_number, bytes_at}
use Rattle.object_store.specs.Load.{load_integer, load_pointer}
use Rattle.lib_defs.specs.World.{Input}
use Rattle.run_defs.specs.declared.seal.Seal.{Seal}
use Rattle.run_defs.specs.State.{State, static_made, has_range, sealed}
use Rattle.run_defs.specs.Loads.{pointer_size, pointer_align, read_attempt, found, number_loaded, pointer_loaded}
use Rattle.run_defs.specs.Functions.{Environment, handler_name}
use Rattle.run_defs.specs.Starts.{Budgets, StaticObject, empty_state, all_sealed, placed, messages, start_state}
use Rattle.run_defs.specs.Starts.{statics_placed}
use Rattle.run_defs.specs.Replay.{OpenCall}
use Rattle.run_defs.specs.KeptSteps.{SetsMark, IsStatic, RunsKeep}
use Rattle.run_defs.specs.Kept.{most_objects, At, Keeps}
use Rattle.run_defs.proofs.Following.{at_died, stored_keeps, automatic_keeps, entered_keeps, at_left}
use Rattle.run_defs.proofs.Following.{at_static_made, at_sealed, undefined_closes, keeps_within, keeps_reach}
use Rattle.run_defs.proofs.Worlds.{Sized, length-mark}

module _ (e : Environment) where
  found_keeps : {A : Type 0} (result : Result A Code) (pos : Pos) (s : State) (calls : List OpenCall) → At e s calls
      → Keeps e calls (found result pos s)
  found_keeps (Ok value) pos s calls a = a
  found_keeps (Err code) pos s calls a = undefined_closes e s calls code pos a

  pub number_keeps : (kind : IntKind) (place : Pointer) (pos : Pos) (s : State) (calls : List OpenCall) → At e s calls
      → Keeps e calls (number_loaded kind place pos s)
  number_keeps kind place pos s calls a =
      keeps_reach e calls calls (read_attempt place (bytes_of kind) (bytes_of kind)) pos s _ a (λ is.
      found_keeps (load_integer kind (bytes_at s.world.store place (bytes_of kind))) pos s calls a)

  pub pointer_keeps : (place : Pointer) (pos : Pos) (s : State) (calls : List OpenCall) → At e s calls
      → Keeps e calls (pointer_loaded place pos s)
  pointer_keeps place pos s calls a = keeps_reach e calls calls
      (read_attempt place pointer_size pointer_align) pos s _ a
      (λ is. found_keeps (load_pointer (bytes_at s.world.store place pointer_size)) pos s calls a)

  at_all_sealed : (number : ℕ) (seals : List Seal) → All SetsMark seals → (s : State) (calls : List OpenCall)
      → At e s calls → At e (all_sealed number seals s) calls
  at_all_sealed number [] each s calls a = a
  at_all_sealed number (seal ∷ seals) each s calls a =
      at_all_sealed number seals (All-tail SetsMark seal seals each) (sealed number seal s) calls
      (at_sealed e s calls number seal (All-head SetsMark seal seals each) a)

  at_placed : (object : StaticObject) (s : State) (calls : List OpenCall) → IsStatic object
      → length s.world.store.objects + 1 + s.ticks ≤ most_objects → At e s calls → At e (placed object s) calls
  at_placed object s calls static room a =
      at_all_sealed (next_number s.world.store Static) object.seals static.seals (static_made object.bytes s) calls
      (at_static_made e s calls object.bytes static.some static.within room a)

  -- an object is placed, and no tick is taken
  sealed_size : (number : ℕ) (seals : List Seal) (s : State)
      → length (all_sealed number seals s).world.store.objects + (all_sealed number seals s).ticks
      ≡ length s.world.store.objects + s.ticks
  sealed_size number [] s = refl
  sealed_size number (seal ∷ seals) s = sealed_size number seals (sealed number seal s)
      ∙ cond_both (has_range s.world.store number seal.at seal.len) _ _
      (λ (s1 : State). length s1.world.store.objects + s1.ticks ≡ length s.world.store.objects + s.ticks)
      (λ has. rw (length-mark s.world.store number seal.at seal.len seal.mark) refl) (λ no. refl)

  placed_size : (object : StaticObject) (s : State)
      → length (placed object s).world.store.objects + (placed object s).ticks
      ≡ length s.world.store.objects + 1 + s.ticks
  placed_size object s =
      sealed_size (next_number s.world.store Static) object.seals (static_made object.bytes s) ∙ rw length-append refl

  pub statics_keep : (objects : List StaticObject) (s : State) (calls : List OpenCall) → All IsStatic objects
      → length objects + (length s.world.store.objects + s.ticks) ≤ most_objects → At e s calls
      → Keeps e calls (statics_placed objects s)
  statics_keep [] s calls static room a = a
  statics_keep (object ∷ objects) s calls static room a = keeps_within e calls calls (length object.bytes) s _ a
      (statics_keep objects (placed object s) calls (All-tail IsStatic object objects static)
      (rw (placed_size object s) (omega (arith, room)))
      (at_placed object s calls (All-head IsStatic object objects static) (omega (arith, room)) a))

  -- Before the first line, and behind the message object: the handler is abort_handler_s.
  pub at_begin : (budgets : Budgets) (input : Input) (handler : Pointer)
      → handler_name e handler ≡ codes "abort_handler_s"
      → All (λ (b : ℕ). b < 256) input.bytes → budgets.ticks < most_objects
      → At e (start_state budgets input handler) []
  unfolding message_bytes
  at_begin budgets input handler name bytes room = at_placed messages (empty_state budgets input handler) []
      (record {
        some = omega arith;
        within = omega arith;
        seals = All-cons SetsMark _ [] refl (All-nil SetsMark);
      })
      (omega (arith, room))
      (record {
        flag = false;
        reads = rw name refl;
        world = record { sized = All-nil Sized; bytes = bytes };
        few = omega (arith, room);
      })

  -- how many objects and ticks there are then
  pub start_size : (budgets : Budgets) (input : Input) (handler : Pointer)
      → length (start_state budgets input handler).world.store.objects + (start_state budgets input handler).ticks
      ≡ 1 + budgets.ticks
  start_size budgets input handler = placed_size messages (empty_state budgets input handler)

pub runs_keep : (e : Environment) → RunsKeep e
runs_keep e = record {
  start = record { start = at_begin e; size = start_size e; statics = statics_keep e };
  steps = record {
    number = number_keeps e;
    pointer = pointer_keeps e;
    store = stored_keeps e;
    make = automatic_keeps e;
    seal = at_sealed e;
    die = at_died e;
    enter = entered_keeps e;
    leave = at_left e;
    stop = λ code pos s calls a. undefined_closes e s calls code pos a;
  };
}
