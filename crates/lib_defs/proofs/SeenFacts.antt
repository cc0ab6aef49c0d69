-- The facts of rows are the same at the values that a line shows.
use Rattle.std.proofs.Common.{◌≡◌, ℕ, zero, suc, ◌==◌, Bool, true, false, cond, List, [], ◌∷◌, map, slice_get, Option}
use Rattle.std.proofs.Common.{Some, None, refl, ap, subst, ◌∙◌}
use Rattle.object_store.specs.declared.pointer.Pointer.{Pointer}
use Rattle.lib_defs.specs.declared.shown.Shown.TheVariants.{Place}
use Rattle.lib_defs.specs.declared.value.Value.{Value}
use Rattle.lib_defs.specs.declared.value.Value.TheVariants.{Num, Ptr, Nothing}
use Rattle.lib_defs.specs.declared.violation.Violation.{Violation}
use Rattle.lib_defs.specs.Reply.{null}
use Rattle.lib_defs.specs.Constraints.{decisions, classes}
use Rattle.lib_defs.specs.Columns.{is_null}
use Rattle.lib_defs.specs.Rules.{Rule}
use Rattle.lib_defs.specs.RowTable.{pointer_of, size_of, number_of, ptr, count, num}
use Rattle.lib_defs.specs.Shown.{argument_shown, value_shown, write_of, none_fails, is_first_failing}

-- a value as far as a line shows it
abbrev pub seen : Value → Value
seen value = value_shown (argument_shown value)

abbrev pub seen_all : List Value → List Value
seen_all values = map value_shown (map argument_shown values)

abbrev pub seen_pointer : Pointer → Pointer
seen_pointer p = cond (is_null p) null (record null { object = p.object; offset = p.offset })

abbrev pub seen_option : Option Value → Option Value
seen_option None = None
seen_option (Some value) = Some (seen value)

slice_get-seen : (values : List Value) (k : ℕ) → slice_get (seen_all values) k ≡ seen_option (slice_get values k)
slice_get-seen [] k = refl
slice_get-seen (v ∷ values) zero = refl
slice_get-seen (v ∷ values) (suc k) = slice_get-seen values k

place_seen : (b : Bool) (p : Pointer) → value_shown (cond b (Place 0 0) (Place p.object p.offset))
    ≡ Ptr (cond b null (record null { object = p.object; offset = p.offset }))
place_seen true p = refl
place_seen false p = refl

pointer_seen : (o : Option Value) → pointer_of (seen_option o) ≡ seen_pointer (pointer_of o)
pointer_seen None = refl
pointer_seen (Some (Num n)) = refl
pointer_seen (Some (Ptr p)) = ap (λ v. pointer_of (Some v)) (place_seen (is_null p) p)
pointer_seen (Some Nothing) = refl

size_seen : (o : Option Value) → size_of (seen_option o) ≡ size_of o
size_seen None = refl
size_seen (Some (Num n)) = refl
size_seen (Some (Ptr p)) = ap (λ v. size_of (Some v)) (place_seen (is_null p) p)
size_seen (Some Nothing) = refl

number_seen : (o : Option Value) → number_of (seen_option o) ≡ number_of o
number_seen None = refl
number_seen (Some (Num n)) = refl
number_seen (Some (Ptr p)) = ap (λ v. number_of (Some v)) (place_seen (is_null p) p)
number_seen (Some Nothing) = refl

pub ptr_seen : (values : List Value) (k : ℕ) → ptr (seen_all values) k ≡ seen_pointer (ptr values k)
ptr_seen values k = ap pointer_of (slice_get-seen values k) ∙ pointer_seen (slice_get values k)

pub count_seen : (values : List Value) (k : ℕ) → count (seen_all values) k ≡ count values k
count_seen values k = ap size_of (slice_get-seen values k) ∙ size_seen (slice_get values k)

pub num_seen : (values : List Value) (k : ℕ) → num (seen_all values) k ≡ num values k
num_seen values k = ap number_of (slice_get-seen values k) ∙ number_seen (slice_get values k)

-- null stays null, and another pointer its object and offset
null_at : (b : Bool) (p : Pointer) → (p.object == 0) ≡ b
    → is_null (cond b null (record null { object = p.object; offset = p.offset })) ≡ b
null_at true p e = refl
null_at false p e = e

pub null_seen : (p : Pointer) → is_null (seen_pointer p) ≡ is_null p
null_seen p = null_at (is_null p) p refl

pub some_seen : (p : Pointer) → is_null p ≡ false
    → seen_pointer p ≡ record null { object = p.object; offset = p.offset }
some_seen p e = rw e refl

-- the facts of one rule hold of another
pub record SameFacts (r q : Rule) : Type 0 where
  pub passes : none_fails (decisions r.constraints) ≡ true → none_fails (decisions q.constraints) ≡ true
  pub first : (k : ℕ) → is_first_failing (decisions r.constraints) k ≡ true
      → is_first_failing (decisions q.constraints) k ≡ true
  pub action : write_of r.action ≡ write_of q.action
  pub classes : classes r.constraints ≡ classes q.constraints
  pub failure : (class : Violation) → r.failure class ≡ q.failure class

-- where the decided constraints are the same
pub same_facts : (r q : Rule) → decisions r.constraints ≡ decisions q.constraints
    → write_of r.action ≡ write_of q.action
    → classes r.constraints ≡ classes q.constraints → ((class : Violation) → r.failure class ≡ q.failure class)
    → SameFacts r q
same_facts r q same action classes failure = record {
  passes = λ e. subst (λ ds. none_fails ds ≡ true) same e;
  first = λ k e. subst (λ ds. is_first_failing ds k ≡ true) same e;
  action = action;
  classes = classes;
  failure = failure;
}
