-- How the replay of a journal goes on, line by line, and what is kept over the evaluations of a unit's parts.
use Rattle.std.proofs.Common.{◌≡◌, ℕ, zero, suc, ◌≤◌, Bool, true, false, List, [], ◌∷◌, ◌++◌, length, Option, Some}
use Rattle.std.proofs.Common.{None, refl, ◌+◌, arith, ap, sym, ◌∙◌, length-append}
use Rattle.std.specs.Option.{option_and_then}
use Rattle.std.proofs.lemmas.Bool.{le-leb, eq-eqb, and_from, or_left, cond-true, cond_both}
use Rattle.critical_table.specs.declared.case.Case.{Case}
use Rattle.critical_table.specs.declared.code.Code.{Code}
use Rattle.critical_table.specs.declared.code.Code.TheVariants as code
use Rattle.critical_table.specs.declared.pos.Pos.{Pos}
use Rattle.critical_table.specs.Texts.{case_row}
use Rattle.object_store.specs.declared.by.By.TheVariants.{Store}
use Rattle.object_store.specs.declared.class.Class.{Class}
use Rattle.object_store.specs.declared.class.Class.TheVariants.{Static, Automatic}
use Rattle.object_store.specs.declared.pointer.Pointer.{Pointer}
use Rattle.object_store.specs.Storage.{fits}
use Rattle.object_store.specs.Steps.{next_number}
use Rattle.object_store.specs.Reach.{reach, IsReachedToStore}
use Rattle.object_store.specs.Storage.{is_live}
use Rattle.lib_defs.specs.declared.shown.Shown.{Shown}
use Rattle.lib_defs.specs.Units.{rsize_max}
use Rattle.lib_defs.specs.Reply.{Patch}
use Rattle.run_defs.specs.declared.attempt.Attempt.{Attempt}
use Rattle.run_defs.specs.declared.event.Event.{Event}
use Rattle.run_defs.specs.declared.event.Event.TheVariants as event
use Rattle.run_defs.specs.declared.outcome.Outcome.{Outcome}
use Rattle.run_defs.specs.declared.outcome.Outcome.TheVariants.{Trapped, Undefined, OutOfTicks, OutOfBytes}
use Rattle.run_defs.specs.declared.seal.Seal.{Seal}
use Rattle.run_defs.specs.Outcomes.{end_of}
use Rattle.run_defs.specs.State.{State, logged, made, static_made, has_range, sealed, died, bytes_patched, patched}
use Rattle.run_defs.specs.State.{call_left}
use Rattle.run_defs.specs.Evaluation.{Evaluation, Gives, Stops, bind, ticked_at, ticked, within_if, within, reached_if}
use Rattle.run_defs.specs.Evaluation.{reached, store_attempt, stored, automatic_made, call_entered}
use Rattle.run_defs.specs.Functions.{Environment}
use Rattle.run_defs.specs.Fits.{same_case, same_code, is_quiet, is_told, is_case, is_call_trap}
use Rattle.run_defs.specs.Replay.{Phase, Running, Handling, OpenCall, AnyLine, TheEnd, NoLine, Replay, stored_phase}
use Rattle.run_defs.specs.Replay.{with_phase, step, replay, at_start}
use Rattle.run_defs.specs.Kept.{Reads, flag_phase, with_flag, seen, most_objects, At, Closes, Keeps}
use Rattle.run_defs.specs.KeptSteps.{SetsMark}
use Rattle.run_defs.proofs.Outlines.{outlines-new, outlines-static, next_number-outlines, is_live-outlines}
use Rattle.run_defs.proofs.Outlines.{has_range-outlines, outlines-dead, outlines-mark, reach-outlines, outlines-stored}
use Rattle.run_defs.proofs.Outlines.{is_store-outlines}
use Rattle.run_defs.proofs.Worlds.{sized_new, sized_static, sized_dead, sized_mark, sized_stored, length-dead}
use Rattle.run_defs.proofs.Worlds.{length-mark, length-stored}

-- a journal is read in two parts
append_found : (j1 j2 : List Event)
    → ((r : Replay) → replay r (j1 ++ j2) ≡ option_and_then (λ (r1 : Replay). replay r1 j2) (replay r j1))
    → (found : Option Replay) → option_and_then (λ (r : Replay). replay r (j1 ++ j2)) found
    ≡ option_and_then (λ (r1 : Replay). replay r1 j2) (option_and_then (λ (r : Replay). replay r j1) found)
append_found j1 j2 each None = refl
append_found j1 j2 each (Some r) = each r

replay-append : (r : Replay) (j1 j2 : List Event)
    → replay r (j1 ++ j2) ≡ option_and_then (λ (r1 : Replay). replay r1 j2) (replay r j1)
replay-append r [] j2 = refl
replay-append r (e ∷ j1) j2 = append_found j1 j2 (λ r1. replay-append r1 j1 j2) (step r e)

pub reads_on : (s : State) (line : Event) (r r2 : Replay) → Reads s r → step r line ≡ Some r2 → Reads (logged line s) r2
reads_on s line r r2 reads fits = replay-append at_start s.journal (line ∷ []) ∙ rw reads (rw fits refl)

stored_flag : (flag : Bool) (phase : Phase) → stored_phase (flag_phase flag phase) ≡ flag_phase true phase
stored_flag flag (Running stored) = refl
stored_flag flag (Handling k) = refl

pub store_flag : (flag : Bool) (calls : List OpenCall)
    → with_phase stored_phase (with_flag flag calls) ≡ with_flag true calls
store_flag flag [] = refl
store_flag flag (c ∷ calls) = ap (λ phase. record c { phase = phase } ∷ calls) (stored_flag flag c.phase)

pub same_case_itself : (c : Case) → same_case c c ≡ true
same_case_itself c = eq-eqb (case_row c).number (case_row c).number refl

pub same_code_itself : (c : Code) → same_code c c ≡ true
same_code_itself code.U01 = refl
same_code_itself code.U02 = refl
same_code_itself code.U03 = refl
same_code_itself code.U04 = refl
same_code_itself code.U05 = refl
same_code_itself code.U06 = refl
same_code_itself code.U07 = refl
same_code_itself code.U08 = refl
same_code_itself code.U09 = refl
same_code_itself code.U10 = refl
same_code_itself code.U11 = refl
same_code_itself code.U12 = refl

is_its_case : (case : Case) (found : Option Case) → found ≡ Some case → is_case case found ≡ true
is_its_case case found is = rw is (same_case_itself case)

module _ (e : Environment) where
  -- Changes of the objects.

  pub at_made : (s : State) (calls : List OpenCall) (size : ℕ) (class : Class) → 1 ≤ size → size ≤ rsize_max
      → length s.world.store.objects + 1 + s.ticks ≤ most_objects → At e s calls → At e (made size class s) calls
  at_made s calls size class some within room a = record {
    flag = a.flag;
    reads = reads_on s (event.Made (next_number s.world.store class) size class)
        (seen e a.flag s calls AnyLine) _ a.reads
        (cond-true _ _ _ (and_from _ _ (eq-eqb _ _ (sym (next_number-outlines s.world.store class)))
        (and_from _ _ (le-leb 1 size some) (le-leb size rsize_max within)))
        ∙ ap (λ st. Some (record (seen e a.flag s calls AnyLine) { store = st }))
        (sym (outlines-new s.world.store.objects size class)));
    world = record { sized = sized_new s.world.store size class within a.world.sized; bytes = a.world.bytes };
    few = rw length-append room;
  }

  pub at_static_made : (s : State) (calls : List OpenCall) (bytes : List ℕ) → 1 ≤ length bytes
      → length bytes ≤ rsize_max
      → length s.world.store.objects + 1 + s.ticks ≤ most_objects → At e s calls → At e (static_made bytes s) calls
  at_static_made s calls bytes some within room a = record {
    flag = a.flag;
    reads = reads_on s (event.Made (next_number s.world.store Static) (length bytes) Static)
        (seen e a.flag s calls AnyLine) _ a.reads
        (cond-true _ _ _ (and_from _ _ (eq-eqb _ _ (sym (next_number-outlines s.world.store Static)))
        (and_from _ _ (le-leb 1 (length bytes) some) (le-leb (length bytes) rsize_max within)))
        ∙ ap (λ st. Some (record (seen e a.flag s calls AnyLine) { store = st }))
        (sym (outlines-static s.world.store.objects bytes)));
    world = record { sized = sized_static s.world.store bytes within a.world.sized; bytes = a.world.bytes };
    few = rw length-append room;
  }

  pub at_sealed : (s : State) (calls : List OpenCall) (number : ℕ) (seal : Seal) → SetsMark seal → At e s calls
      → At e (sealed number seal s) calls
  at_sealed s calls number seal sets a = cond_both (has_range s.world.store number seal.at seal.len) _ _
      (λ s1. At e s1 calls)
      (λ has. record {
        flag = a.flag;
        reads = reads_on s (event.Sealed number seal) (seen e a.flag s calls AnyLine) _ a.reads
            (cond-true _ _ _ (and_from _ _ sets (has_range-outlines s.world.store number seal.at seal.len ∙ has))
            ∙ ap (λ st. Some (record (seen e a.flag s calls AnyLine) { store = st }))
            (sym (outlines-mark s.world.store number seal.at seal.len seal.mark)));
        world = record {
          sized = sized_mark s.world.store number seal.at seal.len seal.mark a.world.sized;
          bytes = a.world.bytes;
        };
        few = rw (length-mark s.world.store number seal.at seal.len seal.mark) a.few;
      })
      (λ no. a)

  pub at_died : (s : State) (calls : List OpenCall) (number : ℕ) → At e s calls → At e (died number s) calls
  at_died s calls number a = cond_both (is_live s.world.store number) _ _ (λ s1. At e s1 calls)
      (λ live. record {
        flag = a.flag;
        reads = reads_on s (event.Died number) (seen e a.flag s calls AnyLine) _ a.reads
            (cond-true _ _ _ (is_live-outlines s.world.store number ∙ live)
            ∙ ap (λ st. Some (record (seen e a.flag s calls AnyLine) { store = st }))
            (sym (outlines-dead s.world.store number)));
        world = record { sized = sized_dead s.world.store number a.world.sized; bytes = a.world.bytes };
        few = rw (length-dead s.world.store number) a.few;
      })
      (λ dead. a)

  at_bytes : (s : State) (calls : List OpenCall) (place : Pointer) (bytes : List (Option ℕ))
      → IsReachedToStore s.world.store place (length bytes) → At e s calls → At e (bytes_patched bytes place s) calls
  at_bytes s calls place [] reached a = a
  at_bytes s calls place (b ∷ bytes) reached a = record {
    flag = true;
    reads = reads_on s (event.Stored (record { object = place.object; at = place.offset; len = length (b ∷ bytes) }))
        (seen e a.flag s calls AnyLine) _ a.reads
        (cond-true _ _ _ (is_store-outlines s.world.store place (b ∷ bytes) reached (omega arith))
        ∙ rw (outlines-stored s.world.store place (b ∷ bytes) reached, store_flag a.flag calls) refl);
    world = record {
      sized = sized_stored s.world.store place (b
          ∷ bytes) reached a.world.sized;
      bytes = a.world.bytes;
    };
    few = rw (length-stored s.world.store.objects place (b ∷ bytes)) a.few;
  }

  pub at_patched : (s : State) (calls : List OpenCall) (p : Patch)
      → IsReachedToStore s.world.store p.place (length p.bytes)
      → At e s calls → At e (patched p s) calls
  at_patched s calls p reached a = at_bytes s calls p.place p.bytes reached a

  -- Ends.

  pub quiet_closes : (s : State) (calls : List OpenCall) (outcome : Outcome) → is_quiet (end_of outcome) ≡ true
      → At e s calls
      → Closes outcome s
  quiet_closes s calls outcome quiet a = record {
    last = seen e a.flag s calls NoLine;
    fits = reads_on s (event.Ended (end_of outcome)) (seen e a.flag s calls AnyLine) _ a.reads (cond-true _ _ _ quiet);
    ends = refl;
  }

  -- a line that demands an end, and this end
  pub told_closes : (s : State) (line : Event) (r : Replay) (outcome : Outcome) → Reads s r
      → step r line ≡ Some (record r { due = TheEnd (end_of outcome) })
      → is_told (end_of outcome) (end_of outcome) ≡ true → Closes outcome (logged line s)
  told_closes s line r outcome reads fits told = record {
    last = record r { due = NoLine };
    fits = reads_on (logged line s) (event.Ended (end_of outcome)) (record r { due = TheEnd (end_of outcome) }) _
        (reads_on s line r _ reads fits) (cond-true _ _ _ told);
    ends = refl;
  }

  pub reach_closes : (s : State) (calls : List OpenCall) (case : Case) (attempt : Attempt) (pos : Pos)
      → reach s.world.store attempt.place attempt.len attempt.align attempt.by ≡ Some case → At e s calls
      → Closes (Trapped case pos) (logged (event.ReachFailed case pos attempt) s)
  reach_closes s calls case attempt pos is a = told_closes s (event.ReachFailed case pos attempt)
      (seen e a.flag s calls AnyLine) (Trapped case pos) a.reads
      (cond-true _ _ _ (is_its_case case _
      (reach-outlines s.world.store attempt.place attempt.len attempt.align attempt.by ∙ is)))
      (same_case_itself case)

  -- a call through a pointer of another type, or to no function
  pub value_closes : (s : State) (calls : List OpenCall) (case : Case) (value : Shown) (pos : Pos)
      → is_call_trap case value ≡ true → At e s calls
      → Closes (Trapped case pos) (logged (event.ValueFailed case pos value) s)
  value_closes s calls case value pos is a = told_closes s (event.ValueFailed case pos value)
      (seen e a.flag s calls AnyLine) (Trapped case pos) a.reads
      (cond-true _ _ _ (or_left _ _ is)) (same_case_itself case)

  pub undefined_closes : (s : State) (calls : List OpenCall) (code : Code) (pos : Pos) → At e s calls
      → Closes (Undefined code pos) (logged (event.Stopped code pos) s)
  undefined_closes s calls code pos a = told_closes s (event.Stopped code pos)
      (seen e a.flag s calls AnyLine) (Undefined code pos) a.reads refl (same_code_itself code)

  -- One thing after another. While a library call is open inside, the open calls there are others than at the end.

  pub keeps_bind : {A B : Type 0} (inner calls : List OpenCall) (x : Evaluation A) (next : A → State → Evaluation B)
      → Keeps e inner x → ((value : A) (s : State) → At e s inner → Keeps e calls (next value s))
      → Keeps e calls (bind x next)
  keeps_bind inner calls (Gives value s) next a go = go value s a
  keeps_bind inner calls (Stops outcome s) next a go = a

  by_ticks : {B : Type 0} (inner calls : List OpenCall) (s : State) (ticks : ℕ) (next : Unit {0} → State → Evaluation B)
      → At e s inner → ((left : ℕ) → suc left ≡ ticks → Keeps e calls (next tt (record s { ticks = left })))
      → Keeps e calls (bind (ticked_at ticks s) next)
  by_ticks inner calls s zero next a go = quiet_closes s inner OutOfTicks refl a
  by_ticks inner calls s (suc left) next a go = go left refl

  pub keeps_tick : {B : Type 0} (inner calls : List OpenCall) (s : State) (next : Unit {0} → State → Evaluation B)
      → At e s inner → ((left : ℕ) → suc left ≡ s.ticks → Keeps e calls (next tt (record s { ticks = left })))
      → Keeps e calls (bind (ticked s) next)
  keeps_tick inner calls s next a go = by_ticks inner calls s s.ticks next a go

  -- a tick changes nothing that a journal shows
  pub at_tick : (s : State) (calls : List OpenCall) (left : ℕ) → suc left ≡ s.ticks → At e s calls
      → At e (record s { ticks = left }) calls
  at_tick s calls left is a =
      record { flag = a.flag; reads = a.reads; world = a.world; few = omega (arith, is, a.few) }

  by_room : {B : Type 0} (inner calls : List OpenCall) (s : State) (room : Bool)
      (next : Unit {0} → State → Evaluation B)
      → At e s inner → Keeps e calls (next tt s) → Keeps e calls (bind (within_if room s) next)
  by_room inner calls s true next a go = go
  by_room inner calls s false next a go = quiet_closes s inner OutOfBytes refl a

  pub keeps_within : {B : Type 0} (inner calls : List OpenCall) (size : ℕ) (s : State)
      (next : Unit {0} → State → Evaluation B) → At e s inner → Keeps e calls (next tt s)
      → Keeps e calls (bind (within size s) next)
  keeps_within inner calls size s next a go = by_room inner calls s (fits s.world.store 0 size) next a go

  by_reach : {B : Type 0} (inner calls : List OpenCall) (found : Option Case) (attempt : Attempt) (pos : Pos)
      (s : State)
      (next : Unit {0} → State → Evaluation B)
      → reach s.world.store attempt.place attempt.len attempt.align attempt.by ≡ found → At e s inner
      → (reach s.world.store attempt.place attempt.len attempt.align attempt.by ≡ None → Keeps e calls (next tt s))
      → Keeps e calls (bind (reached_if found attempt pos s) next)
  by_reach inner calls None attempt pos s next is a go = go is
  by_reach inner calls (Some case) attempt pos s next is a go = reach_closes s inner case attempt pos is a

  pub keeps_reach : {B : Type 0} (inner calls : List OpenCall) (attempt : Attempt) (pos : Pos) (s : State)
      (next : Unit {0} → State → Evaluation B) → At e s inner
      → (reach s.world.store attempt.place attempt.len attempt.align attempt.by ≡ None → Keeps e calls (next tt s))
      → Keeps e calls (bind (reached attempt pos s) next)
  keeps_reach inner calls attempt pos s next a go = by_reach inner calls
      (reach s.world.store attempt.place attempt.len attempt.align attempt.by) attempt pos s next refl a go

  -- the steps of a unit

  pub stored_keeps : (align : ℕ) (p : Patch) (pos : Pos) (s : State) (calls : List OpenCall) → At e s calls
      → Keeps e calls (stored align p pos s)
  stored_keeps align p pos s calls a = keeps_reach calls calls (store_attempt align p) pos s _ a (λ is.
      at_patched s calls p (record { align = align; by = Store; storing = refl; reached = is }) a)

  pub automatic_keeps : (size : ℕ) (s : State) (calls : List OpenCall) → 1 ≤ size → size ≤ rsize_max → At e s calls
      → Keeps e calls (automatic_made size s)
  automatic_keeps size s calls some within a = keeps_tick calls calls s _ a (λ left is.
      keeps_within calls calls size (record s { ticks = left }) _ (at_tick s calls left is a)
      (at_made (record s { ticks = left }) calls size Automatic some within (omega (arith, is, a.few))
      (at_tick s calls left is a)))

  pub entered_keeps : (s : State) (calls : List OpenCall) → At e s calls → Keeps e calls (call_entered s)
  entered_keeps s calls a = keeps_within calls calls 256 s _ a
      (record {
        flag = a.flag;
        reads = a.reads;
        world = record { sized = a.world.sized; bytes = a.world.bytes };
        few = a.few;
      })

  pub at_left : (s : State) (calls : List OpenCall) → At e s calls → At e (call_left s) calls
  at_left s calls a = record {
    flag = a.flag;
    reads = a.reads;
    world = record { sized = a.world.sized; bytes = a.world.bytes };
    few = a.few;
  }
