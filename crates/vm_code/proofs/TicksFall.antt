-- No step of a run gains a tick, and a function that a library call wants has taken one.
use Rattle.std.proofs.Common.{◌≡◌, ℕ, zero, suc, ◌≤◌, Bool, true, false, List, [], ◌∷◌, Option, Some, None}
use Rattle.std.proofs.Common.{refl, sym, ◌∙◌, subst, arith, if◌then◌else◌}
use Rattle.critical_table.specs.declared.case.Case.{Case}
use Rattle.critical_table.specs.declared.pos.Pos.{Pos}
use Rattle.object_store.specs.declared.class.Class.TheVariants.{Automatic}
use Rattle.object_store.specs.declared.pointer.Pointer.{Pointer}
use Rattle.object_store.specs.Storage.{fits}
use Rattle.object_store.specs.Steps.{next_number, with_call}
use Rattle.object_store.specs.Reach.{reach}
use Rattle.lib_defs.specs.Reply.{Patch}
use Rattle.run_defs.specs.declared.attempt.Attempt.{Attempt}
use Rattle.run_defs.specs.declared.seal.Seal.{Seal}
use Rattle.run_defs.specs.State.{State, with_storage, made, bytes_patched, patched, all_patched, died, sealed}
use Rattle.run_defs.specs.Evaluation.{Evaluation, Gives, Stops, bind, ticked_at, ticked, within_if, reached_if, reached}
use Rattle.run_defs.specs.Evaluation.{within, store_attempt, stored, whole, automatic_made, call_entered}
use Rattle.vm_code.specs.Slots.{all_died}

-- ---- changes of the state that take no tick

if_ticks : (b : Bool) (x y : State) (n : ℕ) → x.ticks ≡ n → y.ticks ≡ n → (if b then x else y).ticks ≡ n
if_ticks true x y n ex ey = ex
if_ticks false x y n ex ey = ey

bytes_ticks : (bytes : List (Option ℕ)) (place : Pointer) (s : State) → (bytes_patched bytes place s).ticks ≡ s.ticks
bytes_ticks [] place s = refl
bytes_ticks (b ∷ bytes) place s = refl

pub patched_ticks : (p : Patch) (s : State) → (patched p s).ticks ≡ s.ticks
patched_ticks p s = bytes_ticks p.bytes p.place s

pub all_patched_ticks : (ps : List Patch) (s : State) → (all_patched ps s).ticks ≡ s.ticks
all_patched_ticks [] s = refl
all_patched_ticks (p ∷ ps) s = all_patched_ticks ps (patched p s) ∙ patched_ticks p s

pub died_ticks : (number : ℕ) (s : State) → (died number s).ticks ≡ s.ticks
died_ticks number s = if_ticks _ _ _ s.ticks refl refl

pub all_died_ticks : (numbers : List ℕ) (s : State) → (all_died numbers s).ticks ≡ s.ticks
all_died_ticks [] s = refl
all_died_ticks (number ∷ rest) s = all_died_ticks rest (died number s) ∙ died_ticks number s

pub sealed_ticks : (number : ℕ) (seal : Seal) (s : State) → (sealed number seal s).ticks ≡ s.ticks
sealed_ticks number seal s = if_ticks _ _ _ s.ticks refl refl

-- ---- evaluations

-- at most so many ticks are left behind it
abbrev pub Leaves : {A : Type 0} → ℕ → Evaluation A → Type 0
Leaves t (Gives value s) = s.ticks ≤ t
Leaves t (Stops outcome s) = s.ticks ≤ t

pub leaves_bind : {A B : Type 0} (t : ℕ) (x : Evaluation A) (next : A → State → Evaluation B) → Leaves t x
    → ((value : A) (s : State) → s.ticks ≤ t → Leaves t (next value s)) → Leaves t (bind x next)
leaves_bind t (Gives value s) next le go = go value s le
leaves_bind t (Stops outcome s) next le go = le

leaves_ticked_at : (n t : ℕ) (s : State) → s.ticks ≤ t → n ≤ t → Leaves t (ticked_at n s)
leaves_ticked_at zero t s le less = le
leaves_ticked_at (suc n) t s le less = omega (arith, less)

pub leaves_ticked : (t : ℕ) (s : State) → s.ticks ≤ t → Leaves t (ticked s)
leaves_ticked t s le = leaves_ticked_at s.ticks t s le le

leaves_within_if : (b : Bool) (t : ℕ) (s : State) → s.ticks ≤ t → Leaves t (within_if b s)
leaves_within_if true t s le = le
leaves_within_if false t s le = le

pub leaves_within : (size t : ℕ) (s : State) → s.ticks ≤ t → Leaves t (within size s)
leaves_within size t s le = leaves_within_if (fits s.world.store 0 size) t s le

leaves_reached_if : (o : Option Case) (attempt : Attempt) (pos : Pos) (t : ℕ) (s : State) → s.ticks ≤ t
    → Leaves t (reached_if o attempt pos s)
leaves_reached_if None attempt pos t s le = le
leaves_reached_if (Some case) attempt pos t s le = le

pub leaves_reached : (attempt : Attempt) (pos : Pos) (t : ℕ) (s : State) → s.ticks ≤ t
    → Leaves t (reached attempt pos s)
leaves_reached attempt pos t s le = leaves_reached_if
    (reach s.world.store attempt.place attempt.len attempt.align attempt.by) attempt pos t s le

patched_le : (p : Patch) (t : ℕ) (s : State) → s.ticks ≤ t → (patched p s).ticks ≤ t
patched_le p t s le = let P : ℕ → Type 0 = λ n. n ≤ t in subst P (sym (patched_ticks p s)) le

pub leaves_stored : (align : ℕ) (p : Patch) (pos : Pos) (t : ℕ) (s : State) → s.ticks ≤ t
    → Leaves t (stored align p pos s)
leaves_stored align p pos t s le = leaves_bind t (reached (store_attempt align p) pos s)
    (λ u s1. Gives tt (patched p s1)) (leaves_reached (store_attempt align p) pos t s le)
    (λ u s1 le1. patched_le p t s1 le1)

new_object : ℕ → State → Evaluation Pointer
new_object size s = Gives (whole (next_number s.world.store Automatic) size) (made size Automatic s)

pub leaves_made : (size t : ℕ) (s : State) → s.ticks ≤ t → Leaves t (automatic_made size s)
unfolding new_object
leaves_made size t s le = leaves_bind t (ticked s) (λ u s1. bind (within size s1) (λ v s2. new_object size s2))
    (leaves_ticked t s le)
    (λ u s1 le1. leaves_bind t (within size s1) (λ v s2. new_object size s2) (leaves_within size t s1 le1)
    (λ v s2 le2. le2))

pub leaves_entered : (t : ℕ) (s : State) → s.ticks ≤ t → Leaves t (call_entered s)
leaves_entered t s le = leaves_bind t (within 256 s) (λ u s1. Gives tt (with_storage (with_call s1.world.store) s1))
    (leaves_within 256 t s le) (λ u s1 le1. le1)
