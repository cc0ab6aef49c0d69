-- What is left of a run: two passes of the code for each tick, and the rest of each function that runs.
use Rattle.std.proofs.Common.{ℕ, zero, suc, ◌+◌, ◌-◌, ◌<◌, ◌≤◌, Bool, true, false, List, [], ◌∷◌, length, Option, Some}
use Rattle.std.proofs.Common.{None, sym, subst, arith}
use Rattle.std.specs.List.{slice_get}
use Rattle.lib_defs.specs.declared.value.Value.{Value}
use Rattle.run_defs.specs.State.{State, call_left}
use Rattle.run_defs.specs.Evaluation.{Evaluation, Gives, Stops, ticked_at, call_entered}
use Rattle.run_defs.specs.Functions.{Function, OfLibrary, OfUnit, Environment, function_at}
use Rattle.run_defs.specs.Served.{Served, Answers, Wants, begun, continued}
use Rattle.c_core.specs.declared.form.Form.{Form}
use Rattle.object_store.specs.declared.pointer.Pointer.{Pointer}
use Rattle.vm_code.specs.declared.parts.CodeFunction.{CodeFunction}
use Rattle.vm_code.specs.declared.parts.CodeCalled.{CodeCalled}
use Rattle.vm_code.specs.Contents.{Contents}
use Rattle.vm_code.specs.Contents as code_parts
use Rattle.vm_code.specs.CodeFunctions.{calls_function}
use Rattle.vm_code.specs.Slots.{numbers, all_died}
use Rattle.vm_code.specs.Frames.{Activation, Frame, Active, Waiting, Place, Goes, Ends, Stuck, after}
use Rattle.vm_code.specs.Calling.{fit_parameters, parameters_made, Entry, activation, entered_if, entered_at, entered}
use Rattle.vm_code.specs.Calling.{left_by, row_left, replied, returned, leaves, args_of, row_called, compatible_if}
use Rattle.vm_code.specs.Calling.{called_at, called_through}
use Rattle.vm_code.specs.Sound.{is_tick}
use Rattle.vm_code.proofs.TicksFall.{all_died_ticks, Leaves, leaves_entered}
use Rattle.vm_code.proofs.ServedTicks.{Serves, serves_begun, serves_continued}
use Rattle.vm_code.proofs.AccessTicks.{leaves_parameters}

-- two passes of u instructions for each tick
abbrev pub spent : ℕ → ℕ → ℕ
spent u zero = 0
spent u (suc t) = spent u t + (u + u)

pub spent_le : (u a b : ℕ) → a ≤ b → spent u a ≤ spent u b
spent_le u zero b le = omega arith
spent_le u (suc a) zero le = absurd (let none : ⊥ = omega (arith, le) in none)
spent_le u (suc a) (suc b) le =
    let below : spent u a ≤ spent u b = spent_le u a b (omega (arith, le)) in omega (arith, below)

pub spent_less : (u a b : ℕ) → a < b → spent u a + (u + u) ≤ spent u b
spent_less u a zero less = absurd (let none : ⊥ = omega (arith, less) in none)
spent_less u a (suc b) less =
    let below : spent u a ≤ spent u b = spent_le u a b (omega (arith, less)) in omega (arith, below)

-- what is left of a function from a place on: none at a tick, which pays for itself
abbrev pub rest_if : Bool → ℕ → ℕ → ℕ
rest_if true u at = 0
rest_if false u at = u - at

abbrev pub rest_at : Contents → ℕ → ℕ
rest_at code at = rest_if (is_tick (slice_get code.instrs at)) (length code.instrs) at

rest_if_le : (b : Bool) (u at : ℕ) → rest_if b u at ≤ u
rest_if_le true u at = omega arith
rest_if_le false u at = omega arith

pub rest_le : (code : Contents) (at : ℕ) → rest_at code at ≤ length code.instrs
rest_le code at = rest_if_le (is_tick (slice_get code.instrs at)) (length code.instrs) at

-- What is left of a run is counted in some scale: what half a tick is worth, and what is left of a function from a
-- place on, which is no more.
pub record Scale : Type 0 where
  pub pass : ℕ
  pub rest : ℕ → ℕ
  pub rest_small : (at : ℕ) → rest at ≤ pass

-- in instructions
abbrev pub by_instructions : Contents → Scale
by_instructions code = record { pass = length code.instrs; rest = rest_at code; rest_small = rest_le code }

-- in ticks alone
abbrev pub by_ticks : Scale
by_ticks = record { pass = 1; rest = λ at. 0; rest_small = λ at. omega arith }

abbrev pub weights : Scale → List Frame → ℕ
weights scale [] = 0
weights scale (Active a ∷ frames) = scale.rest a.at + weights scale frames
weights scale (Waiting call ∷ frames) = weights scale frames

-- no more than m is left at a place
abbrev pub Within : Scale → ℕ → Place → Type 0
Within scale m (Goes frames s) = spent scale.pass s.ticks + weights scale frames ≤ m
Within scale m (Ends outcome s) = spent scale.pass s.ticks ≤ m
Within scale m Stuck = Unit {0}

module _ (scale : Scale) where
  pub within_after : {A : Type 0} (m t : ℕ) (x : Evaluation A) (next : A → State → Place)
      → Leaves t x → spent scale.pass t ≤ m
      → ((value : A) (s : State) → s.ticks ≤ t → Within scale m (next value s)) → Within scale m (after x next)
  within_after m t (Gives value s) next le enough go = go value s le
  within_after m t (Stops outcome s) next le enough go =
      let less : spent scale.pass s.ticks ≤ spent scale.pass t =
      spent_le scale.pass s.ticks t le in omega (arith, less, enough)

  -- behind a tick
  within_ticked : (m n t : ℕ) (s : State) (next : State → Place) → s.ticks ≤ t → n ≤ t
      → spent scale.pass t ≤ m → ((s1 : State) → s1.ticks < t → Within scale m (next s1))
      → Within scale m (after (ticked_at n s) (λ u s1. next s1))
  within_ticked m zero t s next le less enough go =
      let under : spent scale.pass s.ticks ≤ spent scale.pass t =
      spent_le scale.pass s.ticks t le in omega (arith, under, enough)
  within_ticked m (suc n) t s next le less enough go = go (record s { ticks = n }) (omega (arith, less))

  -- ---- calls

  -- a function that is entered has at most a pass of the code before it
  within_entered_if : (b : Bool) (code : Contents) (m : ℕ) (f : CodeFunction) (entry : Entry) (frames : List Frame)
      (s : State) → spent scale.pass s.ticks + scale.pass + weights scale frames ≤ m
      → Within scale m (entered_if b f entry frames s)
  within_entered_if false code m f entry frames s enough = tt
  within_entered_if true code m f entry frames s enough =
      within_after m s.ticks (call_entered s)
      (λ u s1. after (parameters_made 0 f.parameters entry.arguments [] entry.pos s1) (λ held s2.
      Goes (Active (activation entry f held) ∷ frames) s2))
      (leaves_entered s.ticks s (omega arith)) (omega (arith, enough))
      (λ u s1 le1. within_after m s.ticks (parameters_made 0 f.parameters entry.arguments [] entry.pos s1)
      (λ held s2. Goes (Active (activation entry f held) ∷ frames) s2)
      (leaves_parameters 0 f.parameters entry.arguments [] entry.pos s.ticks s1 le1) (omega (arith, enough))
      (λ held s2 le2.
      let less : spent scale.pass s2.ticks ≤ spent scale.pass s.ticks =
      spent_le scale.pass s2.ticks s.ticks le2 in
      let rest : scale.rest f.start ≤ scale.pass = scale.rest_small f.start in
      omega (arith, less, rest, enough)))

  within_entered_at : (o : Option CodeFunction) (code : Contents) (m : ℕ) (entry : Entry) (frames : List Frame)
      (s : State) → spent scale.pass s.ticks + scale.pass + weights scale frames ≤ m
      → Within scale m (entered_at o entry frames s)
  within_entered_at None code m entry frames s enough = tt
  within_entered_at (Some f) code m entry frames s enough =
      within_entered_if (fit_parameters f.parameters entry.arguments) code m f entry frames s enough

  pub within_entered : (code : Contents) (m : ℕ) (entry : Entry) (frames : List Frame) (s : State)
      → spent scale.pass s.ticks + scale.pass + weights scale frames ≤ m
      → Within scale m (entered code entry frames s)
  within_entered code m entry frames s enough =
      within_entered_at (code_parts.function_at code.functions entry.function) code m entry frames s enough

  -- a library call that has these ticks before it, above these frames
  within_replied : (code : Contents) (m t : ℕ) (x : Evaluation Served) (frames : List Frame)
      (next : Value → State → Place) → Serves t x → spent scale.pass t + weights scale frames ≤ m
      → ((v : Value) (s : State) → s.ticks ≤ t → Within scale m (next v s))
      → Within scale m (replied code x frames next)
  within_replied code m t (Stops outcome s) frames next le enough go =
      let less : spent scale.pass s.ticks ≤ spent scale.pass t =
      spent_le scale.pass s.ticks t le in omega (arith, less, enough)
  within_replied code m t (Gives (Answers v) s) frames next le enough go = go v s le
  within_replied code m t (Gives (Wants function arguments call) s) frames next less enough go =
      let paid : spent scale.pass s.ticks + (scale.pass + scale.pass)
      ≤ spent scale.pass t = spent_less scale.pass s.ticks t less in
      within_entered code m _ (Waiting call ∷ frames) s (omega (arith, paid, enough))

  pub within_returned : (e : Environment) (code : Contents) (m : ℕ) (left : List Value) (v : Value)
      (frames : List Frame) (s : State) → spent scale.pass s.ticks + weights scale frames ≤ m
      → Within scale m (returned e code left v frames s)
  within_returned e code m left v [] s enough = omega (arith, enough)
  within_returned e code m left v (Active a ∷ frames) s enough = enough
  within_returned e code m left v (Waiting call ∷ frames) s enough =
      within_replied code m s.ticks (continued e call v s) frames (λ w s1. returned e code (row_left w) w frames s1)
      (serves_continued e call v s.ticks s (omega arith)) enough
      (λ w s1 le. let less : spent scale.pass s1.ticks ≤ spent scale.pass s.ticks =
      spent_le scale.pass s1.ticks s.ticks le in
      within_returned e code m (row_left w) w frames s1 (omega (arith, less, enough)))

  pub within_leaves : (e : Environment) (code : Contents) (m : ℕ) (gives : Form) (a : Activation) (v : Value)
      (frames : List Frame) (s : State) → spent scale.pass s.ticks + weights scale frames ≤ m
      → Within scale m (leaves e code gives a v frames s)
  within_leaves e code m gives a v frames s enough =
      let P : ℕ → Type 0 = λ n. spent scale.pass n + weights scale frames ≤ m in
      within_returned e code m (left_by gives a.result v) v frames (call_left (all_died (numbers a.held) s))
      (subst P (sym (all_died_ticks (numbers a.held) s)) enough)

  within_row_called : (e : Environment) (code : Contents) (m t : ℕ) (f : Function) (called : CodeCalled) (entry : Entry)
      (frames : List Frame) (s : State) → s.ticks < t → spent scale.pass t + weights scale frames ≤ m
      → Within scale m (row_called e code f called entry frames s)
  within_row_called e code m t (OfUnit name handles compares) called entry frames s less enough =
      let paid : spent scale.pass s.ticks + (scale.pass + scale.pass)
      ≤ spent scale.pass t = spent_less scale.pass s.ticks t less in
      within_entered code m entry frames s (omega (arith, paid, enough))
  within_row_called e code m t (OfLibrary row) called entry frames s less enough =
      let under : spent scale.pass s.ticks ≤ spent scale.pass t =
      spent_le scale.pass s.ticks t (omega (arith, less)) in
      within_replied code m s.ticks
      (begun e (record { row = row; pos = entry.pos }) (args_of entry.arguments called.kinds) s) frames
      (λ v s1. returned e code (row_left v) v frames s1)
      (serves_begun e (record { row = row; pos = entry.pos }) (args_of entry.arguments called.kinds) s.ticks s
      (omega arith)) (omega (arith, under, enough))
      (λ v s1 le. let lower : spent scale.pass s1.ticks ≤ spent scale.pass s.ticks =
      spent_le scale.pass s1.ticks s.ticks le in
      within_returned e code m (row_left v) v frames s1 (omega (arith, lower, under, enough)))

  within_compatible : (b : Bool) (e : Environment) (code : Contents) (m : ℕ) (f : Function) (called : CodeCalled)
      (entry : Entry) (frames : List Frame) (s : State) → spent scale.pass s.ticks + weights scale frames ≤ m
      → Within scale m (compatible_if b e code f called entry frames s)
  within_compatible false e code m f called entry frames s enough = omega (arith, enough)
  within_compatible true e code m f called entry frames s enough =
      within_ticked m s.ticks s.ticks s (λ s1. row_called e code f called entry frames s1) (omega arith)
      (omega arith) (omega (arith, enough))
      (λ s1 less. within_row_called e code m s.ticks f called entry frames s1 less enough)

  within_called_at : (o : Option Function) (e : Environment) (code : Contents) (m : ℕ) (p : Pointer)
      (called : CodeCalled) (entry : Entry) (frames : List Frame) (s : State)
      → spent scale.pass s.ticks + weights scale frames ≤ m
      → Within scale m (called_at o e code p called entry frames s)
  within_called_at None e code m p called entry frames s enough = omega (arith, enough)
  within_called_at (Some f) e code m p called entry frames s enough =
      within_compatible (calls_function entry.function called) e code m f called entry frames s enough

  pub within_called : (e : Environment) (code : Contents) (m : ℕ) (p : Pointer) (called : CodeCalled) (entry : Entry)
      (frames : List Frame) (s : State) → spent scale.pass s.ticks + weights scale frames ≤ m
      → Within scale m (called_through e code p called entry frames s)
  within_called e code m p called entry frames s enough =
      within_called_at (function_at e p) e code m p called entry frames s enough
