-- Loads, stores, operators and calls gain no tick.
use Rattle.std.proofs.Common.{ℕ, ◌+◌, ◌≤◌, Bool, true, false, ℤ, List, [], ◌∷◌, length}
use Rattle.std.proofs.Common.{Result, Ok, Err, sym, subst}
use Rattle.acc_num.specs.declared.fault.NumFault.{NumFault}
use Rattle.acc_num.specs.declared.kind.IntKind.{IntKind}
use Rattle.acc_num.specs.Kinds.{bytes_of}
use Rattle.critical_table.specs.declared.code.Code.{Code}
use Rattle.critical_table.specs.declared.pos.Pos.{Pos}
use Rattle.object_store.specs.declared.by.By.{By}
use Rattle.object_store.specs.declared.by.By.TheVariants.{Store}
use Rattle.object_store.specs.declared.pointer.Pointer.{Pointer}
use Rattle.object_store.specs.Steps.{bytes_at}
use Rattle.object_store.specs.Load.{load_integer, load_pointer}
use Rattle.lib_defs.specs.declared.value.Value.{Value}
use Rattle.lib_defs.specs.declared.value.Value.TheVariants.{Num, Ptr}
use Rattle.lib_defs.specs.Units.{size}
use Rattle.run_defs.specs.State.{State, patched}
use Rattle.run_defs.specs.Evaluation.{Gives, bind, reached, automatic_made}
use Rattle.run_defs.specs.Loads.{pointer_size, pointer_align, read_attempt, found, number_loaded, pointer_loaded, known}
use Rattle.c_core.specs.declared.form.Form.{Form}
use Rattle.c_core.specs.declared.form.Form.TheVariants as form
use Rattle.c_core.specs.declared.form.Scalar.{Scalar}
use Rattle.c_core.specs.declared.form.Scalar.TheVariants as scalar
use Rattle.vm_code.specs.declared.parts.Parameter.{Parameter}
use Rattle.vm_code.specs.Accesses.{loaded, scalar_stored, overlap_partly, apart_if, copied}
use Rattle.vm_code.specs.Calling.{argument_stored, parameters_made}
use Rattle.vm_code.specs.Machine.{reaches, text_stored}
use Rattle.vm_code.specs.Operators.{computed, told_if_found, pointer_moved, assigned}
use Rattle.vm_code.specs.Slots.{Held}
use Rattle.vm_code.proofs.TicksFall.{patched_ticks, Leaves, leaves_bind, leaves_reached, leaves_stored, leaves_made}

-- ---- what comes of a result

pub leaves_found : {A : Type 0} (r : Result A Code) (pos : Pos) (t : ℕ) (s : State) → s.ticks ≤ t
    → Leaves t (found r pos s)
leaves_found (Ok value) pos t s le = le
leaves_found (Err code) pos t s le = le

pub leaves_computed : (r : Result ℤ NumFault) (pos : Pos) (t : ℕ) (s : State) → s.ticks ≤ t
    → Leaves t (computed r pos s)
leaves_computed (Ok n) pos t s le = le
leaves_computed (Err fault) pos t s le = le

pub leaves_told : (r : Result Bool Code) (pos : Pos) (t : ℕ) (s : State) → s.ticks ≤ t
    → Leaves t (told_if_found r pos s)
leaves_told (Ok b) pos t s le = le
leaves_told (Err code) pos t s le = le

pub leaves_moved : (r : Result Pointer Code) (pos : Pos) (t : ℕ) (s : State) → s.ticks ≤ t
    → Leaves t (pointer_moved r pos s)
leaves_moved (Ok p) pos t s le = le
leaves_moved (Err code) pos t s le = le

pub leaves_counted : (r : Result ℤ Code) (pos : Pos) (t : ℕ) (s : State) → s.ticks ≤ t
    → Leaves t (bind (found r pos s) (λ n s1. Gives (Num n) s1))
leaves_counted (Ok n) pos t s le = le
leaves_counted (Err code) pos t s le = le

-- ---- loads and stores

leaves_number : (kind : IntKind) (place : Pointer) (pos : Pos) (t : ℕ) (s : State) → s.ticks ≤ t
    → Leaves t (number_loaded kind place pos s)
leaves_number kind place pos t s le =
    leaves_bind t (reached (read_attempt place (bytes_of kind) (bytes_of kind)) pos s)
    (λ u s1. found (load_integer kind (bytes_at s1.world.store place (bytes_of kind))) pos s1)
    (leaves_reached (read_attempt place (bytes_of kind) (bytes_of kind)) pos t s le)
    (λ u s1 le1. leaves_found (load_integer kind (bytes_at s1.world.store place (bytes_of kind))) pos t s1 le1)

leaves_pointer : (place : Pointer) (pos : Pos) (t : ℕ) (s : State) → s.ticks ≤ t
    → Leaves t (pointer_loaded place pos s)
leaves_pointer place pos t s le =
    leaves_bind t (reached (read_attempt place pointer_size pointer_align) pos s)
    (λ u s1. found (load_pointer (bytes_at s1.world.store place pointer_size)) pos s1)
    (leaves_reached (read_attempt place pointer_size pointer_align) pos t s le)
    (λ u s1 le1. leaves_found (load_pointer (bytes_at s1.world.store place pointer_size)) pos t s1 le1)

pub leaves_loaded : (scalar : Scalar) (place : Pointer) (pos : Pos) (t : ℕ) (s : State) → s.ticks ≤ t
    → Leaves t (loaded scalar place pos s)
leaves_loaded (scalar.Number kind) place pos t s le = leaves_bind t (number_loaded kind place pos s)
    (λ n s1. Gives (Num n) s1) (leaves_number kind place pos t s le) (λ n s1 le1. le1)
leaves_loaded scalar.Pointer place pos t s le = leaves_bind t (pointer_loaded place pos s)
    (λ p s1. Gives (Ptr p) s1) (leaves_pointer place pos t s le) (λ p s1 le1. le1)

leaves_scalar : (scalar : Scalar) (place : Pointer) (v : Value) (pos : Pos) (t : ℕ) (s : State) → s.ticks ≤ t
    → Leaves t (scalar_stored scalar place v pos s)
leaves_scalar (scalar.Number kind) place v pos t s le = leaves_stored _ _ pos t s le
leaves_scalar scalar.Pointer place v pos t s le = leaves_stored _ _ pos t s le

pub leaves_assigned : (scalar : Scalar) (place : Pointer) (v : Value) (pos : Pos) (t : ℕ) (s : State) → s.ticks ≤ t
    → Leaves t (assigned scalar place v pos s)
leaves_assigned scalar place v pos t s le = leaves_bind t (scalar_stored scalar place v pos s)
    (λ u s1. Gives v s1) (leaves_scalar scalar place v pos t s le) (λ u s1 le1. le1)

leaves_apart : (b : Bool) (pos : Pos) (t : ℕ) (s : State) → s.ticks ≤ t → Leaves t (apart_if b pos s)
leaves_apart true pos t s le = le
leaves_apart false pos t s le = le

pub leaves_copied : (len : ℕ) (to from : Pointer) (pos : Pos) (t : ℕ) (s : State) → s.ticks ≤ t
    → Leaves t (copied len to from pos s)
leaves_copied len to from pos t s le =
    leaves_bind t (reached (record { place = to; len = len; align = 1; by = Store }) pos s)
    (λ u s1. bind (apart_if (overlap_partly len to from) pos s1) (λ v s2.
    bind (reached (read_attempt from len 1) pos s2) (λ w s3.
    Gives tt (patched (record { place = to; bytes = bytes_at s3.world.store from len }) s3))))
    (leaves_reached (record { place = to; len = len; align = 1; by = Store }) pos t s le)
    (λ u s1 le1. leaves_bind t (apart_if (overlap_partly len to from) pos s1)
    (λ v s2. bind (reached (read_attempt from len 1) pos s2) (λ w s3.
    Gives tt (patched (record { place = to; bytes = bytes_at s3.world.store from len }) s3)))
    (leaves_apart (overlap_partly len to from) pos t s1 le1)
    (λ v s2 le2. leaves_bind t (reached (read_attempt from len 1) pos s2)
    (λ w s3. Gives tt (patched (record { place = to; bytes = bytes_at s3.world.store from len }) s3))
    (leaves_reached (read_attempt from len 1) pos t s2 le2)
    (λ w s3 le3. let P : ℕ → Type 0 = λ n. n ≤ t in
    subst P (sym (patched_ticks (record { place = to; bytes = bytes_at s3.world.store from len }) s3)) le3)))

pub leaves_reaches : (p : Pointer) (len align : ℕ) (by : By) (pos : Pos) (t : ℕ) (s : State) → s.ticks ≤ t
    → Leaves t (reaches p len align by pos s)
leaves_reaches p len align by pos t s le =
    leaves_bind t (reached (record { place = p; len = len; align = align; by = by }) pos s) (λ u s1. Gives (Ptr p) s1)
    (leaves_reached (record { place = p; len = len; align = align; by = by }) pos t s le) (λ u s1 le1. le1)

pub leaves_text : (p : Pointer) (text : List ℕ) (pos : Pos) (t : ℕ) (s : State) → s.ticks ≤ t
    → Leaves t (text_stored p text pos s)
leaves_text p text pos t s le =
    leaves_bind t (reached (record { place = p; len = size 1 (length text); align = 1; by = Store }) pos s)
    (λ u s1. Gives tt (patched (record { place = p; bytes = known text }) s1))
    (leaves_reached (record { place = p; len = size 1 (length text); align = 1; by = Store }) pos t s le)
    (λ u s1 le1. let P : ℕ → Type 0 = λ n. n ≤ t in
    subst P (sym (patched_ticks (record { place = p; bytes = known text }) s1)) le1)

-- ---- the parameters of a call

leaves_argument : (f : Form) (bytes : ℕ) (place : Pointer) (v : Value) (pos : Pos) (t : ℕ) (s : State) → s.ticks ≤ t
    → Leaves t (argument_stored f bytes place v pos s)
leaves_argument (form.Number kind) bytes place v pos t s le =
    leaves_scalar (scalar.Number kind) place v pos t s le
leaves_argument form.Pointer bytes place v pos t s le = leaves_scalar scalar.Pointer place v pos t s le
leaves_argument form.Place bytes place v pos t s le = leaves_copied bytes place _ pos t s le
leaves_argument form.Nothing bytes place v pos t s le = le

pub leaves_parameters : (slot : ℕ) (ps : List Parameter) (vs : List Value) (held : List Held) (pos : Pos) (t : ℕ)
    (s : State) → s.ticks ≤ t → Leaves t (parameters_made slot ps vs held pos s)
leaves_parameters slot [] vs held pos t s le = le
leaves_parameters slot (p ∷ ps) [] held pos t s le = le
leaves_parameters slot (p ∷ ps) (v ∷ vs) held pos t s le =
    leaves_bind t (automatic_made p.size s)
    (λ place s1. bind (argument_stored p.form p.size place v pos s1) (λ u s2.
    parameters_made (slot + 1) ps vs (record { slot = slot; number = place.object; size = p.size } ∷ held) pos s2))
    (leaves_made p.size t s le)
    (λ place s1 le1. leaves_bind t (argument_stored p.form p.size place v pos s1)
    (λ u s2. parameters_made (slot + 1) ps vs
    (record { slot = slot; number = place.object; size = p.size } ∷ held) pos s2)
    (leaves_argument p.form p.size place v pos t s1 le1)
    (λ u s2 le2. leaves_parameters (slot + 1) ps vs
    (record { slot = slot; number = place.object; size = p.size } ∷ held) pos t s2 le2))
