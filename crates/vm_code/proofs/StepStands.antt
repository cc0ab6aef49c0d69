-- Each step of a run keeps what stands.
use Rattle.std.proofs.Common.{◌≡◌, ℕ, zero, suc, true, ◌||◌, List, [], ◌∷◌}
use Rattle.std.proofs.Common.{Contains, Some, refl, sym}
use Rattle.std.proofs.Common.{subst}
use Rattle.std.specs.Prelude.{nat_lt}
use Rattle.std.specs.List.{slice_get, list_all}
use Rattle.critical_table.specs.declared.pos.Pos.{Pos}
use Rattle.lib_defs.specs.Library.{Library}
use Rattle.lib_defs.specs.Variants.{KeepsVariants}
use Rattle.run_defs.specs.State.{State}
use Rattle.vm_code.specs.declared.instr.Instr.{Instr}
use Rattle.vm_code.specs.declared.parts.CodeFunction.{CodeFunction}
use Rattle.vm_code.specs.Contents.{Contents, function_at}
use Rattle.vm_code.specs.CodeFunctions.{environment}
use Rattle.vm_code.specs.Slots.{Held}
use Rattle.vm_code.specs.Frames.{Activation, Frame, Active, Waiting, Place, Goes, Ends, Stuck}
use Rattle.vm_code.specs.Machine.{next}
use Rattle.vm_code.specs.Machine.{fetched, acts, step_in, step, run}
use Rattle.vm_code.specs.OperandKinds.{Kinds}
use Rattle.vm_code.specs.OperandKinds.{kinds_after}
use Rattle.vm_code.specs.Sound.{is_place, next_places, leads}
use Rattle.vm_code.specs.Sound.{is_plain, is_sound, is_tick}
use Rattle.vm_code.specs.Ways.{slots_after, stretch_of}
use Rattle.vm_code.specs.Valid.{Comes, IsValid}
use Rattle.vm_code.specs.Progress.{HasRowTypes}
use Rattle.vm_code.proofs.Falling.{and_left, and_right, all_of}
use Rattle.vm_code.proofs.Standing.{IsAt, Runs, FramesStand, PlaceStands, finds_object, fetches, finds}
use Rattle.vm_code.proofs.Standing.{lacks_none, sound}
use Rattle.vm_code.proofs.ActStands.{act_stands}

module _ (library : Library) (keeps : KeepsVariants library) (code : Contents) (valid : IsValid code)
    (types : HasRowTypes code) where
  -- where an instruction of a way leads
  leads_on : (f : CodeFunction) (at : ℕ) (k left : Kinds) (held : List Held) (there : IsAt code f at k held)
      (instr : Instr) (here : Pos) → slice_get code.instrs at ≡ Some (instr, here)
      → kinds_after code f.form instr k ≡ Some left → is_sound code (stretch_of code f) at instr ≡ true
      → (to : ℕ) → Contains (next_places code at instr) to → (Comes code f to left (slots_after instr there.slots))
      × (is_place code (stretch_of code f) to ≡ true)
  leads_on f at k left held there instr here stands is ok to next =
      let led : leads code (stretch_of code f) at to ≡ true =
      all_of (leads code (stretch_of code f) at) (next_places code at instr) to
      (and_right (is_plain code (stretch_of code f) at instr)
      (list_all (leads code (stretch_of code f) at) (next_places code at instr)) ok) next in
      let place : is_place code (stretch_of code f) to ≡ true =
      and_left (is_place code (stretch_of code f) to) (nat_lt at to || is_tick (slice_get code.instrs to)) led in (
        record {
          steps = suc there.comes.steps;
          way = (
            at,
            k,
            there.slots,
            there.comes.way,
            record {
              instr = instr;
              pos = here;
              stands = stands;
              operands = is;
              objects = refl;
              next = next;
              within = place;
            },
          );
        },
        place,
      )

  step_active : (f : CodeFunction) (a : Activation) (frames : List Frame) (s : State)
      → function_at code.functions a.function ≡ Some f → Runs code f a → FramesStand code keeps.waits f.form frames
      → PlaceStands code keeps.waits (step (environment library code) code (Active a ∷ frames) s)
  step_active f a frames s running runs under =
      let at : (x : Instr × Pos) × (slice_get code.instrs a.at ≡ Some x) × (fetched code f a.at ≡ Some x) =
      fetches code valid f a.function running a.at runs.kinds a.held runs.is_at in
      let left : (left : Kinds) × (kinds_after code f.form at.0.0 runs.kinds ≡ Some left) =
      finds code valid f a.function running a.at runs.kinds a.held runs.is_at at.0.0 (at.0.1, at.1) in
      let ok : is_sound code (stretch_of code f) a.at at.0.0 ≡ true =
      sound code valid f a.function running a.at runs.kinds a.held runs.is_at at.0.0 (at.0.1, at.1) in
      subst (λ o. PlaceStands code keeps.waits (step_in o (environment library code) code a frames s)) (sym running)
      (subst (λ o. PlaceStands code keeps.waits (acts o (environment library code) code f a frames s)) (sym at.2)
      (act_stands (record {
        library = library;
        keeps = keeps;
        code = code;
        valid = valid;
        types = types;
        function = f;
        frame = a;
        below = frames;
        pos = at.0.1;
        state = s;
        running = running;
        under = under;
        slots = runs.is_at.slots;
        holds = runs.is_at.holds;
      }) runs.kinds runs.operands left.0 at.0.0 left.1
      (finds_object at.0.0 runs.is_at.slots a.held runs.is_at.holds
      (lacks_none code valid f a.function running a.at runs.kinds a.held runs.is_at at.0.0 (at.0.1, at.1)))
      (and_left (is_plain code (stretch_of code f) a.at at.0.0)
      (list_all (leads code (stretch_of code f) a.at) (next_places code a.at at.0.0)) ok)
      (λ to next. let led : (Comes code f to left.0 (slots_after at.0.0 runs.is_at.slots))
      × (is_place code (stretch_of code f) to ≡ true) =
      leads_on f a.at runs.kinds left.0 a.held runs.is_at at.0.0 at.0.1 at.1 left.1 ok to next in
      record { comes = led.0; within = led.1 })))

  pub run_stands : (n : ℕ) (place : Place) → PlaceStands code keeps.waits place
      → PlaceStands code keeps.waits (run (environment library code) code place n)
  run_stands n (Ends outcome s) st = tt
  run_stands n Stuck st = st
  run_stands n (Goes [] s) st = absurd st
  run_stands n (Goes (Waiting call ∷ frames) s) st = absurd st
  run_stands zero (Goes (Active a ∷ frames) s) st = st
  run_stands (suc n) (Goes (Active a ∷ frames) s) st =
      run_stands n (step (environment library code) code (Active a ∷ frames) s)
      (step_active st.0 a frames s st.1 st.2 st.3)
