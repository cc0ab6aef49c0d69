-- A library call gains no tick, and a function that it wants has taken one.
use Rattle.std.proofs.Common.{◌≡◌, ℕ, zero, suc, ◌<◌, ◌≤◌, Bool, true, false, List, [], ◌∷◌, Option, Some, None, refl}
use Rattle.std.proofs.Common.{sym, ◌∙◌, subst, arith}
use Rattle.critical_table.specs.declared.pos.Pos.{Pos}
use Rattle.object_store.specs.declared.class.Class.TheVariants.{Allocated}
use Rattle.object_store.specs.declared.pointer.Pointer.{Pointer}
use Rattle.lib_defs.specs.declared.value.Arg.{Arg}
use Rattle.lib_defs.specs.declared.value.Value.{Value}
use Rattle.lib_defs.specs.declared.value.Value.TheVariants.{Ptr}
use Rattle.lib_defs.specs.Laws.{first_pointer}
use Rattle.lib_defs.specs.Library.{values_of}
use Rattle.lib_defs.specs.Reply.{Fill, patch_of, Change, Stop, FailsReach, FailsValue, FailsArgument, IsUndefined, Ends}
use Rattle.lib_defs.specs.Reply.{Did, Done, Broken, Asks, Fails}
use Rattle.lib_defs.specs.Shown.{line_values}
use Rattle.lib_defs.specs.World.{Reply}
use Rattle.run_defs.specs.declared.event.Event.TheVariants.{Called, Violated, HandlerCalled}
use Rattle.run_defs.specs.declared.library_call.LibraryCall.{LibraryCall}
use Rattle.run_defs.specs.declared.library_call.Suspended.{Suspended}
use Rattle.run_defs.specs.declared.library_call.Waits.{Waits}
use Rattle.run_defs.specs.declared.library_call.Waits.TheVariants.{ForHandler, ForFunction}
use Rattle.run_defs.specs.State.{State, logged, with_streams, made, all_patched}
use Rattle.run_defs.specs.Evaluation.{Evaluation, Gives, Stops, bind, ticked_at, ticked}
use Rattle.run_defs.specs.Functions.{Function, OfLibrary, OfUnit, Environment, function_at, function_number}
use Rattle.run_defs.specs.Functions.{handler_name}
use Rattle.run_defs.specs.Functions.{Handles, ByUnit, ByLibrary, OfOtherType, handles}
use Rattle.run_defs.specs.Served.{Served, Answers, Wants, stopped, row_made, row_released, row_set, changed, returned}
use Rattle.run_defs.specs.Served.{acted, told, row_handled, Failure, handled, violated, Wish, asked, served, replied}
use Rattle.run_defs.specs.Served.{sets_no_function, begun_if, begun, gone_on, continued}
use Rattle.vm_code.proofs.TicksFall.{patched_ticks, all_patched_ticks, died_ticks, Leaves, leaves_bind, leaves_ticked}

abbrev pub Serves : ℕ → Evaluation Served → Type 0
Serves t (Stops outcome s) = s.ticks ≤ t
Serves t (Gives (Answers value) s) = s.ticks ≤ t
Serves t (Gives (Wants function arguments suspended) s) = s.ticks < t

serves_tick : (n t : ℕ) (s : State) (next : State → Evaluation Served) → s.ticks ≤ t → n ≤ t
    → ((s1 : State) → s1.ticks < t → Serves t (next s1)) → Serves t (bind (ticked_at n s) (λ u s1. next s1))
serves_tick zero t s next le less go = le
serves_tick (suc n) t s next le less go = go (record s { ticks = n }) (omega (arith, less))

serves_returned : (e : Environment) (call : LibraryCall) (value : Value) (t : ℕ) (x : Evaluation (Unit {0}))
    → Leaves t x → Serves t (bind x (λ u s. returned e call value s))
serves_returned e call value t (Gives u s) le = le
serves_returned e call value t (Stops outcome s) le = le

serves_stopped : (e : Environment) (stop : Stop) (pos : Pos) (t : ℕ) (s : State) → s.ticks ≤ t
    → Serves t (stopped e stop pos s)
serves_stopped e (FailsReach case place len align by) pos t s le = le
serves_stopped e (FailsValue case p) pos t s le = le
serves_stopped e (FailsArgument number) pos t s le = le
serves_stopped e (IsUndefined code) pos t s le = le
serves_stopped e (Ends ended) pos t s le = le

-- ---- a row that is done

set_ticks : (e : Environment) (set : Option Pointer) (s : State) → (row_set e set s).ticks ≡ s.ticks
set_ticks e None s = refl
set_ticks e (Some p) s = refl

released_ticks : (released : Option ℕ) (s : State) → (row_released released s).ticks ≡ s.ticks
released_ticks None s = refl
released_ticks (Some number) s = died_ticks number s

changes : Environment → Change → Option Pointer → State → State
changes e change set s = row_set e set (row_released change.released (all_patched change.stores s))

changes_le : (e : Environment) (change : Change) (set : Option Pointer) (t : ℕ) (s : State) → s.ticks ≤ t
    → (changes e change set s).ticks ≤ t
unfolding changes
changes_le e change set t s le =
    let same : (row_set e set (row_released change.released (all_patched change.stores s))).ticks ≡ s.ticks =
    set_ticks e set (row_released change.released (all_patched change.stores s))
    ∙ released_ticks change.released (all_patched change.stores s) ∙ all_patched_ticks change.stores s in
    let P : ℕ → Type 0 = λ n. n ≤ t in subst P (sym same) le

leaves_row_made : (size : Option ℕ) (t : ℕ) (s : State) → s.ticks ≤ t → Leaves t (row_made size s)
leaves_row_made None t s le = le
leaves_row_made (Some size) t s le = leaves_bind t (ticked s) (λ u s1. Gives tt (made size Allocated s1))
    (leaves_ticked t s le) (λ u s1 le1. le1)

leaves_changed : (e : Environment) (change : Change) (set : Option Pointer) (t : ℕ) (s : State) → s.ticks ≤ t
    → Leaves t (changed e change set s)
unfolding changes
leaves_changed e change set t s le =
    leaves_bind t (row_made change.made s) (λ u s1. Gives tt (changes e change set s1))
    (leaves_row_made change.made t s le) (λ u s1 le1. changes_le e change set t s1 le1)

-- ---- a violation

acted_le : (action : Option Fill) (t : ℕ) (s : State) → s.ticks ≤ t → (acted action s).ticks ≤ t
acted_le None t s le = le
acted_le (Some action) t s le =
    let P : ℕ → Type 0 = λ n. n ≤ t in subst P (sym (patched_ticks (patch_of action) s)) le

serves_row_handled : (e : Environment) (call : LibraryCall) (value : Value) (did : Did) (t : ℕ) (s : State)
    → s.ticks ≤ t → Serves t (row_handled e call value did s)
serves_row_handled e call value (Fails stop) t s le = serves_stopped e stop call.pos t s le
serves_row_handled e call value (Done change set v) t s le = le
serves_row_handled e call value (Broken k class action v) t s le = le
serves_row_handled e call value (Asks function first second third rest) t s le = le

serves_handled : (e : Environment) (call : LibraryCall) (failure : Failure) (by : Handles) (t : ℕ) (s : State)
    → s.ticks < t → Serves t (handled e call failure by s)
serves_handled e call failure ByUnit t s less = less
serves_handled e call failure (ByLibrary row) t s less =
    serves_row_handled e call failure.value (e.library.call row (told failure.class) s.world).did t
    (with_streams (e.library.call row (told failure.class) s.world).streams
    (logged (HandlerCalled (handler_name e s.world.handler.current)) s)) (omega (arith, less))
serves_handled e call failure OfOtherType t s less = omega (arith, less)

serves_violated : (e : Environment) (call : LibraryCall) (failure : Failure) (action : Option Fill) (t : ℕ) (s : State)
    → s.ticks ≤ t → Serves t (violated e call failure action s)
serves_violated e call failure action t s le =
    let there : State = acted action (logged (Violated call.row failure.constraint) s) in
    let there_le : there.ticks ≤ t = acted_le action t (logged (Violated call.row failure.constraint) s) le in
    serves_tick there.ticks t there
    (λ s1. handled e call failure (handles (function_at e s1.world.handler.current)) s1) there_le there_le
    (λ s1 less. serves_handled e call failure (handles (function_at e s1.world.handler.current)) t s1 less)

-- ---- what a row does

serves_asked : (e : Environment) (call : LibraryCall) (f : Option Function) (wish : Wish) (t : ℕ) (s : State)
    → s.ticks ≤ t → Serves t (asked e call f wish s)
serves_asked e call None wish t s le = le
serves_asked e call (Some (OfUnit name handles true)) wish t s le = serves_tick s.ticks t s
    (λ s1. Gives (Wants (function_number wish.function) wish.arguments
    (record { call = call; waits = ForFunction wish.rest })) s1) le le (λ s1 less. less)
serves_asked e call (Some (OfUnit name handles false)) wish t s le = le
serves_asked e call (Some (OfLibrary row)) wish t s le = le

serves_did : (e : Environment) (call : LibraryCall) (did : Did) (t : ℕ) (s : State) → s.ticks ≤ t
    → Serves t (served e call did s)
serves_did e call (Done change set value) t s le =
    serves_returned e call value t (changed e change set s) (leaves_changed e change set t s le)
serves_did e call (Broken constraint class action value) t s le =
    serves_violated e call (record { constraint = constraint; class = class; value = value }) action t s le
serves_did e call (Asks function first second third rest) t s le =
    serves_asked e call (function_at e function)
    (record { function = function; arguments = Ptr first ∷ Ptr second ∷ Ptr third ∷ []; rest = rest }) t s le
serves_did e call (Fails stop) t s le = serves_stopped e stop call.pos t s le

serves_reply : (e : Environment) (call : LibraryCall) (reply : Reply) (t : ℕ) (s : State) → s.ticks ≤ t
    → Serves t (replied e call reply s)
serves_reply e call reply t s le = serves_did e call reply.did t (with_streams reply.streams s) le

serves_begun_if : (b : Bool) (e : Environment) (call : LibraryCall) (args : List Arg) (t : ℕ) (s : State)
    → s.ticks ≤ t → Serves t (begun_if b e call args s)
serves_begun_if true e call args t s le = le
serves_begun_if false e call args t s le = serves_reply e call (e.library.call call.row args s.world) t s le

pub serves_begun : (e : Environment) (call : LibraryCall) (args : List Arg) (t : ℕ) (s : State) → s.ticks ≤ t
    → Serves t (begun e call args s)
serves_begun e call args t s le = serves_begun_if (sets_no_function e call.row (first_pointer args)) e call args t
    (logged (Called call.row (line_values call.row (values_of args))) s) le

serves_gone_on : (e : Environment) (call : LibraryCall) (waits : Waits) (answer : Value) (t : ℕ) (s : State)
    → s.ticks ≤ t → Serves t (gone_on e call waits answer s)
serves_gone_on e call (ForHandler constraint value) answer t s le = le
serves_gone_on e call (ForFunction rest) answer t s le =
    serves_reply e call (e.library.resume rest answer s.world) t s le

pub serves_continued : (e : Environment) (call : Suspended) (answer : Value) (t : ℕ) (s : State) → s.ticks ≤ t
    → Serves t (continued e call answer s)
serves_continued e call answer t s le = serves_gone_on e call.call call.waits answer t s le
