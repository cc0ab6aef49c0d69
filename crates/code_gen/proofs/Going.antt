-- How stretches of a run are put together.
use Rattle.std.proofs.Common.{◌≡◌, ◌∙◌, ℕ, suc, ◌+◌, List, [], ◌∷◌, ◌++◌, length, Some, refl, ap, subst, arith}
use Rattle.critical_table.specs.declared.pos.Pos.{Pos}
use Rattle.lib_defs.specs.declared.value.Value.{Value}
use Rattle.run_defs.specs.State.{State}
use Rattle.run_defs.specs.Evaluation.{Evaluation, Gives, Stops, bind}
use Rattle.run_defs.specs.Functions.{Environment}
use Rattle.vm_code.specs.declared.instr.Instr.{Instr}
use Rattle.vm_code.specs.declared.parts.CodeFunction.{CodeFunction}
use Rattle.vm_code.specs.Contents.{Contents}
use Rattle.vm_code.specs.Frames.{Activation, Frame, Place, Goes, Ends, Stuck, after}
use Rattle.vm_code.specs.Machine.{Context, act, fetched, acts, step_in, run}
use Rattle.vm_code.proofs.RunTicks.{run_ticks, LeavesAt as AtMost}
use Rattle.code_gen.specs.RunLaw.{LeavesAt, Comes, Reaches, Running, StandAt, standing}

-- of the value and the state that an evaluation gives
abbrev pub IfGives : {A : Type 0} → (A → Type 0) → Evaluation A → Type 0
IfGives P (Gives value s) = P value
IfGives P (Stops outcome s) = Unit {0}

-- From a place the machine does what an evaluation does, where the value alone says where it leads.
pub record Does {A : Type 0} (e : Environment) (code : Contents) (from : Place) (evaluation : Evaluation A)
    (to : A → State → Place) (fits : A → Type 0) : Type 0 where
  pub comes : Comes e code from (after evaluation to)
  pub fit : IfGives fits evaluation

module _ (code : Contents) (function : CodeFunction) where
  pub stand_front : (at : ℕ) (a b : List (Instr × Pos)) → StandAt code function at (a ++ b) → StandAt code function at a
  stand_front at [] b h = tt
  stand_front at (x ∷ a) b h = (h.0, stand_front (at + 1) a b h.1)

  pub stand_back : (at n : ℕ) (a b : List (Instr × Pos)) → length a ≡ n → StandAt code function at (a ++ b)
      → StandAt code function (at + n) b
  stand_back at n [] b long h = let same : at ≡ at + n = omega (arith, long) in
      subst (λ k. StandAt code function k b) same h
  stand_back at n (x ∷ a) b long h = let same : at + 1 + length a ≡ at + n = omega (arith, long) in
      subst (λ k. StandAt code function k b) same (stand_back (at + 1) (length a) a b refl h.1)

module _ (e : Environment) (code : Contents) where
  pub comes_on : (p p1 p2 : Place) → Comes e code p p1 → Comes e code p1 p2 → Comes e code p p2
  comes_on p p1 p2 a b = record { by = λ k. let y = b.by k in let x = a.by y.0 in (x.0, x.1 ∙ y.1) }

  pub comes_same : (p p1 : Place) → p ≡ p1 → Comes e code p p1
  comes_same p p1 same = record { by = λ k. (k, ap (λ x. run e code x k) same) }

  pub does_from : {A : Type 0} (p p1 : Place) (x : Evaluation A) (to : A → State → Place) (fits : A → Type 0)
      → Comes e code p p1 → Does e code p1 x to fits → Does e code p x to fits
  does_from p p1 x to fits c d = record { comes = comes_on p p1 (after x to) c d.comes; fit = d.fit }

  -- and farther from where the value leads
  pub does_on : {A : Type 0} (p : Place) (x : Evaluation A) (to then : A → State → Place) (fits : A → Type 0)
      → Does e code p x to fits → ((v : A) (s : State) → Comes e code (to v s) (then v s)) → Does e code p x then fits
  does_on p (Gives v s) to then fits d go = record {
    comes = comes_on p (to v s) (then v s) d.comes (go v s);
    fit =
        d.fit;
  }
  does_on p (Stops outcome s) to then fits d go = record { comes = d.comes; fit = tt }

  -- what fits, fits otherwise
  pub does_fits : {A : Type 0} (p : Place) (x : Evaluation A) (to : A → State → Place) (fits fit : A → Type 0)
      → Does e code p x to fits → ((v : A) → fits v → fit v) → Does e code p x to fit
  does_fits p (Gives v s) to fits fit d go = record { comes = d.comes; fit = go v d.fit }
  does_fits p (Stops outcome s) to fits fit d go = record { comes = d.comes; fit = tt }

  -- where no more ticks are left
  as_run : (most : ℕ) (p : Place) → LeavesAt most p → AtMost most p
  as_run most (Goes frames s) le = le
  as_run most (Ends outcome s) le = le
  as_run most Stuck le = tt

  at_once : (most : ℕ) (p : Place) → AtMost most (run e code p 0) → LeavesAt most p
  at_once most (Goes frames s) le = le
  at_once most (Ends outcome s) le = le
  at_once most Stuck le = tt

  pub comes_ticks : (most : ℕ) (p p1 : Place) → Comes e code p p1 → LeavesAt most p → LeavesAt most p1
  comes_ticks most p p1 c le = let there = c.by 0 in
      at_once most p1 (subst (λ q. AtMost most q) there.1 (run_ticks e code there.0 most p (as_run most p le)))

  -- one thing after another
  pub does_bind : {A B : Type 0} (p : Place) (x : Evaluation A) (next : A → State → Evaluation B)
      (to : A → State → Place) (then : B → State → Place) (fits : A → Type 0) (fit : B → Type 0)
      → Does e code p x to fits
      → ((v : A) (s : State) → fits v → Does e code (to v s) (next v s) then fit)
      → Does e code p (bind x next) then fit
  does_bind p (Gives v s) next to then fits fit d go = does_from p (to v s) (next v s) then fit d.comes (go v s d.fit)
  does_bind p (Stops outcome s) next to then fits fit d go = record { comes = d.comes; fit = tt }

  -- an operation that the machine does too
  pub does_same : {A : Type 0} (p : Place) (x : Evaluation A) (to : A → State → Place) (fits : A → Type 0)
      → p ≡ after x to → IfGives fits x → Does e code p x to fits
  does_same p x to fits same fit = record { comes = comes_same p (after x to) same; fit = fit }

  pub does_gives : {A : Type 0} (p : Place) (v : A) (s : State) (to : A → State → Place) (fits : A → Type 0)
      → p ≡ to v s → fits v → Does e code p (Gives v s) to fits
  does_gives p v s to fits same fit = record { comes = comes_same p (to v s) same; fit = fit }

-- ---- where what is left says where the value leads

module _ (e : Environment) (code : Contents) (most : ℕ) where
  pub reaches_from : {A : Type 0} (p p1 : Place) (x : Evaluation A) (Left : A → Type 0)
      (to : (v : A) → Left v → State → Place) → Comes e code p p1 → Reaches e code most p1 x Left to
      → Reaches e code most p x Left to
  reaches_from p p1 (Gives v s) Left to c r = record {
    arrives = λ le. let a = r.arrives (comes_ticks e code most p p1 c le) in
        (a.0, comes_on e code p p1 (to v a.0 s) c a.1);
  }
  reaches_from p p1 (Stops outcome s) Left to c r = record {
    arrives = λ le. comes_on e code p p1 (Ends outcome s) c (r.arrives (comes_ticks e code most p p1 c le));
  }

  pub reaches_gives : {A : Type 0} (p : Place) (v : A) (s : State) (Left : A → Type 0)
      (to : (v : A) → Left v → State → Place) (left : Left v) → p ≡ to v left s
      → Reaches e code most p (Gives v s) Left to
  reaches_gives p v s Left to left same = record { arrives = λ le. (left, comes_same e code p (to v left s) same) }

  -- where no more ticks are left
  pub reaches_known : {A : Type 0} (p : Place) (x : Evaluation A) (Left : A → Type 0)
      (to : (v : A) → Left v → State → Place) → (LeavesAt most p → Reaches e code most p x Left to)
      → Reaches e code most p x Left to
  reaches_known p (Gives v s) Left to known = record { arrives = λ le. (known le).arrives le }
  reaches_known p (Stops outcome s) Left to known = record { arrives = λ le. (known le).arrives le }

  -- one thing after another
  pub reaches_bind : {A B : Type 0} (p : Place) (x : Evaluation A) (next : A → State → Evaluation B)
      (Left : A → Type 0) (to : (v : A) → Left v → State → Place) (Last : B → Type 0)
      (then : (v : B) → Last v → State → Place) → Reaches e code most p x Left to
      → ((v : A) (s : State) (left : Left v) → Reaches e code most (to v left s) (next v s) Last then)
      → Reaches e code most p (bind x next) Last then
  reaches_bind p (Gives v s) next Left to Last then r go = reaches_known p (next v s) Last then
      (λ le. let a = r.arrives le in reaches_from p (to v a.0 s) (next v s) Last then a.1 (go v s a.0))
  reaches_bind p (Stops outcome s) next Left to Last then r go = record { arrives = r.arrives }

  pub does_then : {A B : Type 0} (p : Place) (x : Evaluation A) (next : A → State → Evaluation B)
      (to : A → State → Place) (fits : A → Type 0) (Last : B → Type 0)
      (then : (v : B) → Last v → State → Place) → Does e code p x to fits
      → ((v : A) (s : State) → fits v → Reaches e code most (to v s) (next v s) Last then)
      → Reaches e code most p (bind x next) Last then
  does_then p (Gives v s) next to fits Last then d go =
      reaches_from p (to v s) (next v s) Last then d.comes (go v s d.fit)
  does_then p (Stops outcome s) next to fits Last then d go = record { arrives = λ le. d.comes }

  pub does_reaches : {A : Type 0} (p : Place) (x : Evaluation A) (to : A → State → Place) (fits : A → Type 0)
      → Does e code p x to fits → Reaches e code most p x fits (λ v fit s. to v s)
  does_reaches p (Gives v s) to fits d = record { arrives = λ le. (d.fit, d.comes) }
  does_reaches p (Stops outcome s) to fits d = record { arrives = λ le. d.comes }

  -- and farther from where the value leads
  pub reaches_on : {A : Type 0} (p : Place) (x : Evaluation A) (Left : A → Type 0)
      (to : (v : A) → Left v → State → Place) (Last : A → Type 0) (then : (v : A) → Last v → State → Place)
      → Reaches e code most p x Left to
      → ((v : A) (s : State) (left : Left v) → (last : Last v) × Comes e code (to v left s) (then v last s))
      → Reaches e code most p x Last then
  reaches_on p (Gives v s) Left to Last then r go = record {
    arrives = λ le. let a = r.arrives le in let b = go v s a.0 in
        (b.0, comes_on e code p (to v a.0 s) (then v b.0 s) a.1 b.1);
  }
  reaches_on p (Stops outcome s) Left to Last then r go = record { arrives = r.arrives }

module _ (it : Running) where
  abbrev e : Environment
  e = it.environment

  abbrev code : Contents
  code = it.code

  abbrev function : CodeFunction
  function = it.function

  abbrev frame : Activation
  frame = it.frame

  abbrev rest : List Frame
  rest = it.rest

  -- what the machine sees where the activation stands
  abbrev pub sees : ℕ → List Value → Pos → State → Context
  sees at operands pos s = record {
    environment = e;
    code = code;
    function = function;
    frame = record frame { at = at; operands = operands };
    rest = rest;
    pos = pos;
    state = s;
  }

  -- one instruction
  pub one_step : (at : ℕ) (operands : List Value) (s : State) (instr : Instr) (pos : Pos)
      → fetched code function at ≡ Some (instr, pos)
      → Comes e code (standing frame rest at operands s) (act (sees at operands pos s) instr)
  one_step at operands s instr pos is =
      let now : Activation = record frame { at = at; operands = operands } in
      record {
        by = λ k. (
          suc k,
          ap (λ f. run e code (step_in f e code now rest s) k) it.own
              ∙ ap (λ x. run e code (acts x e code function now rest s) k) is,
        );
      }

  pub does_one : {A : Type 0} (at : ℕ) (operands : List Value) (s : State) (instr : Instr) (pos : Pos)
      (x : Evaluation A) (to : A → State → Place) (fits : A → Type 0)
      → fetched code function at ≡ Some (instr, pos)
      → Does e code (act (sees at operands pos s) instr) x to fits
      → Does e code (standing frame rest at operands s) x to fits
  does_one at operands s instr pos x to fits is d = does_from e code (standing frame rest at operands s)
      (act (sees at operands pos s) instr) x to fits (one_step at operands s instr pos is) d
