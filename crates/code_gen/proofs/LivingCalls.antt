-- Each library call, over a library that keeps its laws, leaves the automatic objects that live as they are, where the
-- functions of the unit do.
use Rattle.std.proofs.Common.{◌≡◌, ℕ, zero, suc, Bool, true, false, List, [], ◌∷◌, Option, Some, None, refl, ap, ◌∙◌}
use Rattle.std.proofs.Common.{length, subst, sym}
use Rattle.std.proofs.lemmas.List.{length-replicate}
use Rattle.critical_table.specs.declared.pos.Pos.{Pos}
use Rattle.object_store.specs.declared.class.Class.TheVariants.{Allocated}
use Rattle.object_store.specs.declared.pointer.Pointer.{Pointer}
use Rattle.object_store.specs.Reach.{IsReachedToStore}
use Rattle.object_store.specs.Storage.{Storage}
use Rattle.lib_defs.specs.declared.handler.Handler.{Handler}
use Rattle.lib_defs.specs.declared.row.Row.{Row}
use Rattle.lib_defs.specs.declared.step.Rest.{Rest}
use Rattle.lib_defs.specs.declared.value.Arg.{Arg}
use Rattle.lib_defs.specs.declared.value.Value.{Value}
use Rattle.lib_defs.specs.Laws.{first_pointer}
use Rattle.lib_defs.specs.Reply.{Patch, Fill, Change, Stop, FailsReach, FailsValue, FailsArgument, IsUndefined, Ends}
use Rattle.lib_defs.specs.Reply.{Did, Done, Broken, Asks, Fails, with_made, patch_of}
use Rattle.lib_defs.specs.Shown.{line_values}
use Rattle.lib_defs.specs.World.{Streams, Reply, Flows, world}
use Rattle.lib_defs.specs.Library.{values_of}
use Rattle.lib_defs.specs.Laws.{IfMade, IfReleased, AreReached, IfReached, CallFits, ResumeFits, KeepsLaws, IsWorld}
use Rattle.run_defs.specs.declared.event.Event.TheVariants as event
use Rattle.run_defs.specs.declared.library_call.LibraryCall.{LibraryCall}
use Rattle.run_defs.specs.declared.library_call.Waits.{Waits}
use Rattle.run_defs.specs.declared.library_call.Waits.TheVariants.{ForHandler, ForFunction}
use Rattle.run_defs.specs.State.{State, logged, with_streams, made, patched, all_patched}
use Rattle.run_defs.specs.Evaluation.{Evaluation, Gives, Stops, bind, ticked_at, ticked}
use Rattle.run_defs.specs.Functions.{Function, OfLibrary, OfUnit, Environment, function_at}
use Rattle.run_defs.specs.Functions.{Handles, ByUnit, ByLibrary, OfOtherType, handles}
use Rattle.run_defs.specs.Served.{Served, Answers, Wants, stopped, row_made, row_released, row_set, changed, returned}
use Rattle.run_defs.specs.Served.{acted, told, handler_returned, row_handled, Failure, handled, Wish, asked, served}
use Rattle.run_defs.specs.Served.{sets_no_function, begun_if, begun, gone_on, continued, violated}
use Rattle.run_defs.specs.Calls.{Enter, completed, library_call}
use Rattle.run_defs.proofs.RowLines.{all_reached, outlines-patched}
use Rattle.run_defs.proofs.Worlds.{sized_new, bytes_left}
use Rattle.code_gen.specs.Lifetimes.{OnGives, Rests}
use Rattle.code_gen.proofs.Living.{made_allocated, released_lives, world_died}
use Rattle.code_gen.proofs.LivingSteps.{StepRests, rests_here, rests_on, rests_then, gives_then, gives_from, ticks_rest}
use Rattle.code_gen.proofs.LivingSteps.{patch_rests}

-- what is kept of a call that waits for a function of the unit
abbrev pub WaitsFit : (Row → List Arg → Rest → Bool) → Row → Waits → Type 0
WaitsFit waits row (ForHandler k value) = Unit {0}
WaitsFit waits row (ForFunction rest) = (args : List Arg) × (waits row args rest ≡ true)

abbrev pub ServedFits : (Row → List Arg → Rest → Bool) → Served → Type 0
ServedFits waits (Answers value) = Unit {0}
ServedFits waits (Wants function arguments suspended) = WaitsFit waits suspended.call.row suspended.waits

pub record Serves (waits : Row → List Arg → Rest → Bool) (s : State) (served : Served) (s1 : State) : Type 0 where
  pub rests : Rests s s1
  pub fits : ServedFits waits served

pub made_rests : (size : Option ℕ) (value : Value) (s : State) → IfMade s.world.store size value → IsWorld s.world
    → OnGives (λ (u : Unit {0}) s1. Rests s s1 × (s1.world.store ≡ with_made size s.world.store)) (row_made size s)
made_rests None value s fits w = (rests_here s w, refl)
made_rests (Some size) value s fits w =
    gives_then (λ (u : Unit {0}) s1. Rests s s1 × (s1.world.store ≡ s.world.store))
    (λ (u : Unit {0}) s1. Rests s s1 × (s1.world.store ≡ with_made (Some size) s.world.store)) (ticked s) _
    (by_tick s.ticks) (λ u s1 r. (
      record {
        world = record {
          sized = sized_new s1.world.store size Allocated fits.within r.0.world.sized;
          bytes = r.0.world.bytes;
        };
        same = made_allocated size s1 ∙ r.0.same;
      },
      ap (with_made (Some size)) r.1,
    ))
  where
    by_tick : (ticks : ℕ) → OnGives (λ (u : Unit {0}) s1. Rests s s1 × (s1.world.store ≡ s.world.store))
        (ticked_at ticks s)
    by_tick zero = tt
    by_tick (suc left) = (record { world = w; same = refl }, refl)

module _ (e : Environment) (laws : KeepsLaws e.library) (call : LibraryCall) (args : List Arg) where
  abbrev RowRests : State → Evaluation Served → Type 0
  RowRests s x = OnGives (Serves laws.waits s) x

  -- behind a step
  behind_step : (s s1 : State) (x : Evaluation Served) → Rests s s1 → RowRests s1 x → RowRests s x
  behind_step s s1 x r served = gives_from (Serves laws.waits s1) (Serves laws.waits s) x served
      (λ v s2 q. record { rests = rests_on s s1 s2 r q.rests; fits = q.fits })

  step_then : {A : Type 0} (s : State) (x : Evaluation A) (next : A → State → Evaluation Served)
      → OnGives (λ v s1. Rests s s1) x → ((v : A) (s1 : State) → IsWorld s1.world → RowRests s1 (next v s1))
      → RowRests s (bind x next)
  step_then s x next rests go = gives_then (λ v s1. Rests s s1) (Serves laws.waits s) x next rests
      (λ v s1 r. behind_step s s1 (next v s1) r (go v s1 r.world))

  stop_rests : (stop : Stop) (here : Pos) (s : State) → RowRests s (stopped e stop here s)
  stop_rests (FailsReach case place len align by) here s = tt
  stop_rests (FailsValue case p) here s = tt
  stop_rests (FailsArgument number) here s = tt
  stop_rests (IsUndefined code) here s = tt
  stop_rests (Ends ended) here s = tt

  returned_rests : (value : Value) (s : State) → IsWorld s.world → RowRests s (returned e call value s)
  returned_rests value s w = record { rests = record { world = w; same = refl }; fits = tt }

  handler_rests : (value : Value) (s : State) → IsWorld s.world → RowRests s (handler_returned e call value s)
  handler_rests value s w = record { rests = record { world = w; same = refl }; fits = tt }

  -- ---- a row that is done

  patches_rest : (ps : List Patch) (s : State) → AreReached s.world.store ps → IsWorld s.world
      → Rests s (all_patched ps s)
  patches_rest [] s each w = rests_here s w
  patches_rest (p ∷ ps) s each w =
      let r : Rests s (patched p s) = patch_rests s p each.0 w in
      rests_on s (patched p s) (all_patched ps (patched p s)) r (patches_rest ps (patched p s)
      (all_reached s.world.store (patched p s).world.store (outlines-patched s p.place p.bytes each.0) ps each.1)
      r.world)

  released_rests : (number : Option ℕ) (store : Storage) (s : State) → IfReleased store args number → IsWorld s.world
      → Rests s (row_released number s)
  released_rests None store s fits w = rests_here s w
  released_rests (Some number) store s fits w =
      record { world = world_died s number w; same = released_lives s number fits.allocated }

  set_rests : (set : Option Pointer) (s : State) → IsWorld s.world → Rests s (row_set e set s)
  set_rests None s w = rests_here s w
  set_rests (Some p) s w = record { world = record { sized = w.sized; bytes = w.bytes }; same = refl }

  done_rests : (change : Change) (set : Option Pointer) (value : Value) (s : State)
      → IfMade s.world.store change.made value → AreReached (with_made change.made s.world.store) change.stores
      → IfReleased s.world.store args change.released → IsWorld s.world
      → RowRests s (bind (changed e change set s) (λ u s1. returned e call value s1))
  done_rests change set value s made reached released w =
      step_then s (changed e change set s) _
      (gives_then (λ (u : Unit {0}) s1. Rests s s1 × (s1.world.store ≡ with_made change.made s.world.store))
      (λ (u : Unit {0}) s1. Rests s s1) (row_made change.made s) _ (made_rests change.made value s made w)
      (λ u s1 r.
      let patched : Rests s1 (all_patched change.stores s1) = patches_rest change.stores s1
      (subst (λ store. AreReached store change.stores) (sym r.1) reached) r.0.world in
      let s2 : State = all_patched change.stores s1 in
      let gone : Rests s2 (row_released change.released s2) =
      released_rests change.released s.world.store s2 released patched.world in
      let s3 : State = row_released change.released s2 in
      rests_on s s1 (row_set e set s3) r.0 (rests_on s1 s2 (row_set e set s3) patched
      (rests_on s2 s3 (row_set e set s3) gone (set_rests set s3 gone.world)))))
      (λ u s1 w1. returned_rests value s1 w1)

  -- ---- a constraint that fails

  fill_reached : (f : Fill) (store : Storage) → IsReachedToStore store f.place f.len
      → IsReachedToStore store (patch_of f).place (length (patch_of f).bytes)
  fill_reached f store reached =
      subst (λ n. IsReachedToStore store f.place n) (sym (length-replicate f.len (Some f.byte))) reached

  acted_rests : (action : Option Fill) (s : State) → IfReached s.world.store action → IsWorld s.world
      → Rests s (acted action s)
  acted_rests None s reached w = rests_here s w
  acted_rests (Some f) s reached w = patch_rests s (patch_of f) (fill_reached f s.world.store reached) w

  row_rests : (did : Did) (value : Value) (s : State) → IsWorld s.world → RowRests s (row_handled e call value did s)
  row_rests (Done change set v) value s w = handler_rests value s w
  row_rests (Broken k class action v) value s w = handler_rests value s w
  row_rests (Asks function first second third rest) value s w = handler_rests value s w
  row_rests (Fails stop) value s w = stop_rests stop call.pos s

  streams_rest : (streams : Streams) (s : State) → Flows s.world.streams streams → IsWorld s.world
      → Rests s (with_streams streams s)
  streams_rest streams s flows w = record {
    world = record { sized = w.sized; bytes = bytes_left s.world.streams streams flows w.bytes };
    same = refl;
  }

  handled_rests : (kind : Handles) (failure : Failure) (s : State) → IsWorld s.world
      → RowRests s (handled e call failure kind s)
  handled_rests ByUnit failure s w = record { rests = record { world = w; same = refl }; fits = tt }
  handled_rests (ByLibrary row) failure s w =
      let reply : Reply = e.library.call row (told failure.class) s.world in
      let r : Rests s (with_streams reply.streams s) =
      streams_rest reply.streams s (laws.call_flows row (told failure.class) s.world) w in
      behind_step s _ _ (record { world = r.world; same = refl }) (row_rests reply.did failure.value _ r.world)
  handled_rests OfOtherType failure s w = tt

  violated_rests : (failure : Failure) (action : Option Fill) (s : State) → IfReached s.world.store action
      → IsWorld s.world → RowRests s (violated e call failure action s)
  violated_rests failure action s reached w =
      let line : State = logged (event.Violated call.row failure.constraint) s in
      let r : Rests line (acted action line) = acted_rests action line reached w in
      behind_step s (acted action line) _ (record { world = r.world; same = r.same })
      (step_then (acted action line) (ticked (acted action line)) _ (ticks_rest (acted action line) r.world)
      (λ u s1 w1. handled_rests (handles (function_at e s1.world.handler.current)) failure s1 w1))

  -- ---- a function that the row wants

  asked_rests : (found : Option Function) (wish : Wish) (s : State) → laws.waits call.row args wish.rest ≡ true
      → IsWorld s.world → RowRests s (asked e call found wish s)
  asked_rests None wish s waits w = tt
  asked_rests (Some (OfUnit name handles true)) wish s waits w =
      step_then s (ticked s) _ (ticks_rest s w) (λ u s1 w1. record { rests = rests_here s1 w1; fits = (args, waits) })
  asked_rests (Some (OfUnit name handles false)) wish s waits w = tt
  asked_rests (Some (OfLibrary row)) wish s waits w = tt

  -- ---- what the row answers

  served_rests : (did : Did) (streams before : Streams) (handler : Handler) (s : State)
      → CallFits (laws.waits call.row args) call.row args (world s.world.store handler before) streams did
      → IsWorld s.world → RowRests s (served e call did s)
  served_rests (Done change set value) streams before handler s fits w =
      done_rests change set value s fits.made fits.reached fits.released w
  served_rests (Broken k class action value) streams before handler s fits w =
      violated_rests (record { constraint = k; class = class; value = value }) action s fits.reached w
  served_rests (Asks function first second third rest) streams before handler s fits w =
      asked_rests (function_at e function) _ s fits w
  served_rests (Fails stop) streams before handler s fits w = stop_rests stop call.pos s

  resumed_rests : (did : Did) (streams before : Streams) (handler : Handler) (s : State)
      → ResumeFits (laws.waits call.row args) call.row args (world s.world.store handler before) streams did
      → IsWorld s.world → RowRests s (served e call did s)
  resumed_rests (Done change set value) streams before handler s fits w =
      done_rests change set value s fits.done.made fits.done.reached fits.done.released w
  resumed_rests (Broken k class action value) streams before handler s fits w = absurd fits
  resumed_rests (Asks function first second third rest) streams before handler s fits w =
      asked_rests (function_at e function) _ s fits w
  resumed_rests (Fails stop) streams before handler s fits w = stop_rests stop call.pos s

  begun_by : (test : Bool) (s : State) → IsWorld s.world → RowRests s (begun_if test e call args
      (logged (event.Called call.row (line_values call.row (values_of args))) s))
  begun_by true s w = tt
  begun_by false s w =
      let reply : Reply = e.library.call call.row args s.world in
      let line : State = logged (event.Called call.row (line_values call.row (values_of args))) s in
      let r : Rests s (with_streams reply.streams line) = record {
        world = (streams_rest reply.streams s (laws.call_flows call.row args s.world) w).world;
        same = refl;
      } in
      behind_step s (with_streams reply.streams line) _ r (served_rests reply.did reply.streams s.world.streams
      s.world.handler (with_streams reply.streams line) (laws.call call.row args s.world w) r.world)

  pub begun_rests : (s : State) → IsWorld s.world → RowRests s (begun e call args s)
  begun_rests s w = begun_by (sets_no_function e call.row (first_pointer args)) s w

module _ (e : Environment) (laws : KeepsLaws e.library) where
  gone_on_rests : (call : LibraryCall) (waits : Waits) (answer : Value) (s : State) → WaitsFit laws.waits call.row waits
      → IsWorld s.world → OnGives (Serves laws.waits s) (gone_on e call waits answer s)
  gone_on_rests call (ForHandler k value) answer s fits w = handler_rests e laws call [] value s w
  gone_on_rests call (ForFunction rest) answer s fits w =
      let reply : Reply = e.library.resume rest answer s.world in
      let r : Rests s (with_streams reply.streams s) =
      streams_rest e laws call fits.0 reply.streams s (laws.resume_flows rest answer s.world) w in
      behind_step e laws call fits.0 s (with_streams reply.streams s) _ r (resumed_rests e laws call fits.0 reply.did
      reply.streams s.world.streams s.world.handler (with_streams reply.streams s)
      (laws.resume call.row fits.0 rest answer s.world w fits.1) r.world)

  -- functions of the unit that a library call wants
  module _ (enter : Enter) (enters : (f : ℕ) (args : List Value) (here : Pos) → StepRests (enter f args here)) where
    completed_rests : (n : ℕ) (s : State) (x : Evaluation Served) → OnGives (Serves laws.waits s) x
        → OnGives (λ v s1. Rests s s1) (completed e n enter x)
    completed_rests n s (Stops outcome s1) served = tt
    completed_rests n s (Gives (Answers value) s1) served = served.rests
    completed_rests zero s (Gives (Wants f args suspended) s1) served = tt
    completed_rests (suc n) s (Gives (Wants f args suspended) s1) served =
        gives_then (λ v s2. Rests s s2) (λ v s3. Rests s s3) (enter f args suspended.call.pos s1) _
        (gives_from (λ v s2. Rests s1 s2) (λ v s2. Rests s s2) _ (enters f args suspended.call.pos s1
        served.rests.world) (λ v s2 r. rests_on s s1 s2 served.rests r))
        (λ v s2 r. completed_rests n s (continued e suspended v s2)
        (gives_from (Serves laws.waits s2) (Serves laws.waits s) _
        (gone_on_rests suspended.call suspended.waits v s2 served.fits r.world)
        (λ a s3 q. record { rests = rests_on s s2 s3 r q.rests; fits = q.fits })))

    pub library_rests : (n : ℕ) (call : LibraryCall) (args : List Arg)
        → StepRests (library_call e n enter call args)
    library_rests n call args s w = rests_then s (ticked s) _ (ticks_rest s w) (λ u s1 w1.
        completed_rests n s1 (begun e call args s1) (begun_rests e laws call args s1 w1))
