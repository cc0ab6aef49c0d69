-- Each step of a unit, and each library call, leaves the automatic objects that live as they are.
use Rattle.std.proofs.Common.{◌≡◌, ℕ, zero, suc, ◌≤◌, Bool, true, false, List, [], ◌∷◌, ◌++◌, length, map, Option}
use Rattle.std.proofs.Common.{Some, None, refl, ap, sym, ◌∙◌, append_assoc}
use Rattle.std.proofs.lemmas.List.{map-append}
use Rattle.std.proofs.lemmas.Bool.{cond_both}
use Rattle.critical_table.specs.declared.case.Case.{Case}
use Rattle.critical_table.specs.declared.pos.Pos.{Pos}
use Rattle.object_store.specs.declared.by.By.TheVariants.{Store}
use Rattle.object_store.specs.declared.class.Class.TheVariants.{Automatic}
use Rattle.object_store.specs.declared.pointer.Pointer.{Pointer}
use Rattle.object_store.specs.Storage.{fits}
use Rattle.object_store.specs.Reach.{reach, IsReachedToStore}
use Rattle.lib_defs.specs.Laws.{IsWorld}
use Rattle.lib_defs.specs.Reply.{Patch}
use Rattle.lib_defs.specs.Units.{rsize_max}
use Rattle.run_defs.specs.declared.attempt.Attempt.{Attempt}
use Rattle.run_defs.specs.declared.seal.Seal.{Seal}
use Rattle.run_defs.specs.State.{State, made, sealed, patched, bytes_patched, has_range, call_left}
use Rattle.run_defs.specs.Evaluation.{Evaluation, Gives, Stops, bind, ticked_at, ticked, within_if, within, reached_if}
use Rattle.run_defs.specs.Evaluation.{reached, store_attempt, stored, automatic_made, call_entered}
use Rattle.run_defs.proofs.Outlines.{outlines-stored}
use Rattle.run_defs.proofs.Worlds.{sized_new, sized_mark, sized_stored}
use Rattle.vm_code.specs.Slots.{Held}
use Rattle.code_gen.specs.Lifetimes.{Living, living, living_from, living_numbers, OnGives, Rests, Grows, as_living}
use Rattle.code_gen.proofs.Living.{mark_lives, same_outlines, made_automatic}

-- ---- one after another

pub rests_here : (s : State) → IsWorld s.world → Rests s s
rests_here s w = record { world = w; same = refl }

pub rests_on : (s s1 s2 : State) → Rests s s1 → Rests s1 s2 → Rests s s2
rests_on s s1 s2 a b = record { world = b.world; same = b.same ∙ a.same }

pub grows_none : (made : List ℕ) (s s1 : State) → Rests s s1 → Grows made made s s1
grows_none made s s1 r = record { new = []; world = r.world; on_top = r.same; numbers = refl }

pub grows_on : (made made1 made2 : List ℕ) (s s1 s2 : State) → Grows made made1 s s1 → Grows made1 made2 s1 s2
    → Grows made made2 s s2
grows_on made made1 made2 s s1 s2 a b = record {
  new = b.new ++ a.new;
  world = b.world;
  on_top = b.on_top ∙ ap (λ l. b.new ++ l) a.on_top ∙ sym (append_assoc b.new a.new (living s));
  numbers = b.numbers ∙ ap (λ l. living_numbers b.new ++ l) a.numbers
      ∙ sym (append_assoc (living_numbers b.new) (living_numbers a.new) made)
      ∙ ap (λ l. l ++ made) (sym (map-append (λ (x : Living). x.number) b.new a.new));
}

-- a fact of what an evaluation gives, and of what is given behind it
pub gives_then : {A B : Type 0} (P : A → State → Type 0) (Q : B → State → Type 0) (x : Evaluation A)
    (next : A → State → Evaluation B) → OnGives P x → ((v : A) (s : State) → P v s → OnGives Q (next v s))
    → OnGives Q (bind x next)
gives_then P Q (Gives v s) next p go = go v s p
gives_then P Q (Stops outcome s) next p go = tt

pub gives_from : {A : Type 0} (P Q : A → State → Type 0) (x : Evaluation A) → OnGives P x
    → ((v : A) (s : State) → P v s → Q v s) → OnGives Q x
gives_from P Q (Gives v s) p go = go v s p
gives_from P Q (Stops outcome s) p go = tt

abbrev pub StepRests : {A : Type 0} → (State → Evaluation A) → Type 0
StepRests step = (s : State) → IsWorld s.world → OnGives (λ v s1. Rests s s1) (step s)

pub rests_then : {A B : Type 0} (s : State) (x : Evaluation A) (next : A → State → Evaluation B)
    → OnGives (λ v s1. Rests s s1) x → ((v : A) → StepRests (next v)) → OnGives (λ v s2. Rests s s2) (bind x next)
rests_then s x next rests go = gives_then (λ v s1. Rests s s1) (λ v s2. Rests s s2) x next rests (λ v s1 r.
    gives_from (λ w s2. Rests s1 s2) (λ w s2. Rests s s2) (next v s1) (go v s1 r.world) (λ w s2. rests_on s s1 s2 r))

-- ---- ticks, bytes, reaches

by_ticks : {B : Type 0} (Q : B → State → Type 0) (ticks : ℕ) (s : State) (next : Unit {0} → State → Evaluation B)
    → ((left : ℕ) → OnGives Q (next tt (record s { ticks = left }))) → OnGives Q (bind (ticked_at ticks s) next)
by_ticks Q zero s next go = tt
by_ticks Q (suc left) s next go = go left

pub tick_then : {B : Type 0} (Q : B → State → Type 0) (s : State) (next : Unit {0} → State → Evaluation B)
    → ((left : ℕ) → OnGives Q (next tt (record s { ticks = left }))) → OnGives Q (bind (ticked s) next)
tick_then Q s next go = by_ticks Q s.ticks s next go

pub ticks_rest : StepRests ticked
ticks_rest s w = by_left s.ticks
  where
    by_left : (ticks : ℕ) → OnGives (λ (u : Unit {0}) s1. Rests s s1) (ticked_at ticks s)
    by_left zero = tt
    by_left (suc left) = record { world = w; same = refl }

by_room : {B : Type 0} (Q : B → State → Type 0) (room : Bool) (s : State) (next : Unit {0} → State → Evaluation B)
    → OnGives Q (next tt s) → OnGives Q (bind (within_if room s) next)
by_room Q true s next go = go
by_room Q false s next go = tt

pub within_then : {B : Type 0} (Q : B → State → Type 0) (size : ℕ) (s : State)
    (next : Unit {0} → State → Evaluation B) → OnGives Q (next tt s) → OnGives Q (bind (within size s) next)
within_then Q size s next go = by_room Q (fits s.world.store 0 size) s next go

by_reach : {B : Type 0} (Q : B → State → Type 0) (found : Option Case) (attempt : Attempt) (here : Pos) (s : State)
    (next : Unit {0} → State → Evaluation B)
    → reach s.world.store attempt.place attempt.len attempt.align attempt.by ≡ found
    → (reach s.world.store attempt.place attempt.len attempt.align attempt.by ≡ None → OnGives Q (next tt s))
    → OnGives Q (bind (reached_if found attempt here s) next)
by_reach Q None attempt here s next is go = go is
by_reach Q (Some case) attempt here s next is go = tt

pub reach_then : {B : Type 0} (Q : B → State → Type 0) (attempt : Attempt) (here : Pos) (s : State)
    (next : Unit {0} → State → Evaluation B)
    → (reach s.world.store attempt.place attempt.len attempt.align attempt.by ≡ None → OnGives Q (next tt s))
    → OnGives Q (bind (reached attempt here s) next)
reach_then Q attempt here s next go =
    by_reach Q (reach s.world.store attempt.place attempt.len attempt.align attempt.by) attempt here s next refl go

-- ---- changes

pub patch_rests : (s : State) (p : Patch) → IsReachedToStore s.world.store p.place (length p.bytes) → IsWorld s.world
    → Rests s (patched p s)
patch_rests s p reached w = by_bytes p.bytes reached
  where
    by_bytes : (bytes : List (Option ℕ)) → IsReachedToStore s.world.store p.place (length bytes)
        → Rests s (bytes_patched bytes p.place s)
    by_bytes [] reached = rests_here s w
    by_bytes (b ∷ bytes) reached = record {
      world = record { sized = sized_stored s.world.store p.place (b ∷ bytes) reached w.sized; bytes = w.bytes };
      same = ap (living_from 1) (same_outlines _ s.world.store.objects
          (outlines-stored s.world.store p.place (b ∷ bytes) reached));
    }

pub seal_rests : (s : State) (number : ℕ) (seal : Seal) → IsWorld s.world → Rests s (sealed number seal s)
seal_rests s number seal w = cond_both (has_range s.world.store number seal.at seal.len) _ _
    (λ (s1 : State). Rests s s1)
    (λ has. record {
      world = record {
        sized = sized_mark s.world.store number seal.at seal.len seal.mark w.sized;
        bytes = w.bytes;
      };
      same = ap (living_from 1) (mark_lives s.world.store number seal.at seal.len seal.mark);
    })
    (λ no. rests_here s w)

pub leave_rests : (s : State) → IsWorld s.world → Rests s (call_left s)
leave_rests s w = record { world = record { sized = w.sized; bytes = w.bytes }; same = refl }

pub enter_rests : StepRests call_entered
enter_rests s w = within_then (λ v s1. Rests s s1) 256 s _
    (record { world = record { sized = w.sized; bytes = w.bytes }; same = refl })

pub stored_rests : (align : ℕ) (p : Patch) (here : Pos) → StepRests (stored align p here)
stored_rests align p here s w = reach_then (λ v s1. Rests s s1) (store_attempt align p) here s _ (λ is.
    patch_rests s p (record { align = align; by = Store; storing = refl; reached = is }) w)

-- an automatic object is made: it lives on top
pub record IsMade (size : ℕ) (s : State) (place : Pointer) (s1 : State) : Type 0 where
  pub world : IsWorld s1.world
  pub on_top : living s1 ≡ record { number = place.object; size = size } ∷ living s

pub automatic_lives : (size : ℕ) (s : State) → size ≤ rsize_max → IsWorld s.world
    → OnGives (IsMade size s) (automatic_made size s)
automatic_lives size s le w = tick_then (IsMade size s) s _ (λ left.
    within_then (IsMade size s) size (record s { ticks = left }) _ (record {
      world = record { sized = sized_new s.world.store size Automatic le w.sized; bytes = w.bytes };
      on_top = made_automatic size (record s { ticks = left });
    }))

-- The objects of a block or of parameters are made on top, the last made first.
pub record HeldOnTop (made made1 : List Held) (s s1 : State) : Type 0 where
  pub new : List Held
  pub world : IsWorld s1.world
  pub on_top : living s1 ≡ map as_living new ++ living s
  pub held : made1 ≡ new ++ made
