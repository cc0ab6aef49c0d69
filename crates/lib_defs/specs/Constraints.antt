-- The runtime-constraints of a row in order, and which of them is the first that fails (K.3.1.4).
use Rattle.std.specs.Prelude.{ℕ, ◌+◌, Bool, not, List, [], ◌∷◌, map, Option, Some, None, if◌then◌else◌}
use Rattle.critical_table.specs.declared.case.Case.{Case}
use Rattle.critical_table.specs.declared.code.Code.TheVariants.{U05}
use Rattle.object_store.specs.declared.by.By.{By}
use Rattle.object_store.specs.declared.by.By.TheVariants.{TextRead}
use Rattle.object_store.specs.declared.pointer.Pointer.{Pointer}
use Rattle.object_store.specs.Storage.{Storage}
use Rattle.object_store.specs.Reach.{reach}
use Rattle.lib_defs.specs.declared.reading.Reading.{Reading}
use Rattle.lib_defs.specs.declared.reading.Reading.TheVariants.{Length, Unreached, Unknown}
use Rattle.lib_defs.specs.declared.violation.Violation.{Violation}
use Rattle.lib_defs.specs.declared.violation.Violation.TheVariants.{NullPointer, SizeAbove, SizeZero, DoesNotFit}
use Rattle.lib_defs.specs.declared.violation.Violation.TheVariants.{NotEnded, Overlap, TokenNotEnded, SizeNotZero}
use Rattle.lib_defs.specs.Units.{rsize_max}
use Rattle.lib_defs.specs.Text.{text}
use Rattle.lib_defs.specs.Reply.{Stop, FailsReach, IsUndefined}

-- what a look into the store gives, or the reach that fails or the byte that is indeterminate
pub data Look (A : Type 0) : Type 0 where
  Saw : A → Look A
  Stuck : Stop → Look A

-- goes on with what was seen
abbrev pub look : {A B : Type 0} → Look A → (A → Look B) → Look B
look (Saw a) go = go a
look (Stuck stop) go = Stuck stop

-- whether a constraint fails: the arguments decide it, or the store does
pub data Test : Type 0 where
  Sure : (fails : Bool) → Test
  Looks : (Storage → Look Bool) → Test

pub record Constraint : Type 0 where
  pub class : Violation
  pub test : Test

-- the classes, by the letters of the table
abbrev pub N : Test → Constraint
N test = record { class = NullPointer; test = test }

abbrev pub M : Test → Constraint
M test = record { class = SizeAbove; test = test }

abbrev pub Z : Test → Constraint
Z test = record { class = SizeZero; test = test }

abbrev pub L : Test → Constraint
L test = record { class = DoesNotFit; test = test }

abbrev pub D : Test → Constraint
D test = record { class = NotEnded; test = test }

abbrev pub O : Test → Constraint
O test = record { class = Overlap; test = test }

abbrev pub E : Test → Constraint
E test = record { class = TokenNotEnded; test = test }

abbrev pub W : Test → Constraint
W test = record { class = SizeNotZero; test = test }

-- the length of a text
abbrev pub length_seen : ℕ → Reading → Look ℕ
length_seen w (Length n) = Saw n
length_seen w (Unreached case place) = Stuck (FailsReach case place w w TextRead)
length_seen w Unknown = Stuck (IsUndefined U05)

abbrev pub see_text : ℕ → Storage → Pointer → ℕ → Look ℕ
see_text w s p m = length_seen w (text w s p m)

-- the length of a text that is read to its null: no object has as many units
abbrev pub see_string : ℕ → Storage → Pointer → Look ℕ
see_string w s p = see_text w s p (rsize_max + 1)

-- a range is reached
abbrev pub reach_seen : {A : Type 0} → Option Case → Pointer → (len align : ℕ) → By → Look A → Look A
reach_seen None place len align by go = go
reach_seen (Some case) place len align by go = Stuck (FailsReach case place len align by)

abbrev pub see_range : {A : Type 0} → Storage → Pointer → (len align : ℕ) → By → Look A → Look A
see_range s place len align by go = reach_seen (reach s place len align by) place len align by go

-- The first constraint that fails, counted from k, with its class; or the read that one of them needs and that does
-- not go on. A read is done when its turn comes.
pub data Refusal : Type 0 where
  Breaks : (constraint : ℕ) (class : Violation) → Refusal
  Stops : (stop : Stop) → Refusal

abbrev pub refusal_by_look : Look Bool → ℕ → Violation → Option Refusal → Option Refusal
refusal_by_look (Saw fails) k class rest = if fails then Some (Breaks k class) else rest
refusal_by_look (Stuck stop) k class rest = Some (Stops stop)

abbrev pub refusal_by_test : Test → ℕ → Violation → Storage → Option Refusal → Option Refusal
refusal_by_test (Sure fails) k class s rest = if fails then Some (Breaks k class) else rest
refusal_by_test (Looks look) k class s rest = refusal_by_look (look s) k class rest

abbrev pub refusal : List Constraint → ℕ → Storage → Option Refusal
refusal [] k s = None
refusal (c ∷ cs) k s = refusal_by_test c.test k c.class s (refusal cs (k + 1) s)

-- what the arguments alone decide of each: that it holds, or that it fails
abbrev pub decision_of : Test → Option Bool
decision_of (Sure fails) = Some (not fails)
decision_of (Looks look) = None

abbrev pub decisions : List Constraint → List (Option Bool)
decisions cs = map (λ (c : Constraint). decision_of c.test) cs

abbrev pub classes : List Constraint → List Violation
classes cs = map (λ (c : Constraint). c.class) cs
