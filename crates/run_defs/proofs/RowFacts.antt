-- What the laws of rows say of a line: failure values, releases, and the handler that is set.
use Rattle.std.proofs.Common.{◌≡◌, ℕ, ◌≤◌, ◌==◌, ◌%◌, ◌&&◌, Bool, true, false, not, List, [], Option, Some, None, refl}
use Rattle.std.proofs.Common.{arith, subst, sym, ◌∙◌, length, cond}
use Rattle.std.specs.Prelude.{nat_lt, IfSome}
use Rattle.std.specs.Option.{option_and_then}
use Rattle.std.proofs.lemmas.Bool.{ne_eqb, ltb-false}
use Rattle.std.proofs.lemmas.Bool.Decides.{Decides-int_eq}
use Rattle.std.proofs.lemmas.Option.{slice_get_past}
use Rattle.critical_table.specs.declared.case.Case.{Case}
use Rattle.critical_table.specs.declared.case.Case.TheVariants.{L6, L9, L11}
use Rattle.object_store.specs.declared.pointer.Pointer.{Pointer}
use Rattle.object_store.specs.Object.{Object, place_of, object_of}
use Rattle.object_store.specs.Storage.{Storage}
use Rattle.lib_defs.specs.declared.row.Row.{Row}
use Rattle.lib_defs.specs.declared.row_name.RowName.{RowName}
use Rattle.lib_defs.specs.declared.row_name.RowName.TheVariants as n
use Rattle.lib_defs.specs.declared.shown.Shown.{Shown}
use Rattle.lib_defs.specs.declared.shown.Shown.TheVariants.{Place}
use Rattle.lib_defs.specs.declared.value.Value.{Value}
use Rattle.lib_defs.specs.declared.value.Value.TheVariants.{Num, Ptr, Nothing}
use Rattle.lib_defs.specs.declared.violation.Violation.{Violation}
use Rattle.lib_defs.specs.RowNumbers.{name_at}
use Rattle.lib_defs.specs.Reply.{null}
use Rattle.lib_defs.specs.Handlers.{first_function}
use Rattle.lib_defs.specs.Columns.{is_null}
use Rattle.lib_defs.specs.Rules.{Rule}
use Rattle.lib_defs.specs.RowTable.{rule_of, violation_at}
use Rattle.lib_defs.specs.Shown.{argument_shown, line_rule, failure_at}
use Rattle.lib_defs.specs.Allocation.{is_dead, release_case}
use Rattle.run_defs.specs.Functions.{Function, Environment, function_number, function_at, pointer_shown, value_shown}
use Rattle.run_defs.specs.Fits.{same_shown, is_failure, is_case, is_call_trap, is_function, is_null as shows_null}
use Rattle.run_defs.specs.Fits.{release_trap}
use Rattle.run_defs.specs.Kept.{outlined_store, most_objects}
use Rattle.run_defs.proofs.Outlines.{test-outlines, is_live-outlines}
use Rattle.run_defs.proofs.Following.{same_case_itself}

-- Failure values are numbers, or null.

abbrev IsPlain : Value → Type 0
IsPlain (Num n) = Unit {0}
IsPlain (Ptr p) = p ≡ null
IsPlain Nothing = Unit {0}

abbrev FailsPlainly : Option Rule → Type 0
FailsPlainly rule = IfSome rule (λ (r : Rule). (class : Violation) → IsPlain (r.failure class))

rule_fails : (name : RowName) → FailsPlainly (rule_of name [])
rule_fails n.MemcpyS = λ class. tt
rule_fails n.WmemcpyS = λ class. tt
rule_fails n.MemmoveS = λ class. tt
rule_fails n.WmemmoveS = λ class. tt
rule_fails n.MemsetS = λ class. tt
rule_fails n.StrcpyS = λ class. tt
rule_fails n.WcscpyS = λ class. tt
rule_fails n.StrncpyS = λ class. tt
rule_fails n.WcsncpyS = λ class. tt
rule_fails n.StrcatS = λ class. tt
rule_fails n.WcscatS = λ class. tt
rule_fails n.StrncatS = λ class. tt
rule_fails n.WcsncatS = λ class. tt
rule_fails n.StrtokS = λ class. refl
rule_fails n.WcstokS = λ class. refl
rule_fails n.StrerrorS = λ class. tt
rule_fails n.WctombS = λ class. tt
rule_fails n.StrnlenS = λ class. tt
rule_fails n.WcsnlenS = λ class. tt
rule_fails n.StrerrorlenS = λ class. tt
rule_fails _ = tt

row_fails : (found : Option RowName) → FailsPlainly (option_and_then (λ (name : RowName). rule_of name []) found)
row_fails None = tt
row_fails (Some name) = rule_fails name

by_rule : (rule : Option Rule) → FailsPlainly rule → (class : Violation) (value : Value)
    → option_and_then (λ (r : Rule). Some (r.failure class)) rule ≡ Some value → IsPlain value
by_rule None plain class value is = cc
by_rule (Some r) plain class value is = let same : r.failure class ≡ value = cc in subst IsPlain same (plain class)

by_class : (found : Option Violation) (rule : Option Rule) → FailsPlainly rule → (value : Value)
    → option_and_then (λ (class : Violation). option_and_then (λ (r : Rule). Some (r.failure class)) rule) found
    ≡ Some value
    → IsPlain value
by_class None rule plain value is = cc
by_class (Some class) rule plain value is = by_rule rule plain class value is

plain_failure : (row : Row) (k : ℕ) (value : Value) → failure_at row k ≡ Some value → IsPlain value
plain_failure row k value is = by_class (violation_at row k) (line_rule row []) (row_fails (name_at row)) value is

-- a line shows a failure value as it shows an argument
shown_alike : (e : Environment) (value : Value) → IsPlain value
    → same_shown (argument_shown value) (value_shown e value) ≡ true
shown_alike e (Num n) plain = (Decides-int_eq n n).1 refl
shown_alike e (Ptr p) plain =
    subst (λ (q : Pointer). same_shown (argument_shown (Ptr q)) (value_shown e (Ptr q)) ≡ true) (sym plain) refl
shown_alike e Nothing plain = refl

pub failure_shown : (e : Environment) (row : Row) (k : ℕ) (value : Value) → failure_at row k ≡ Some value
    → is_failure (failure_at row k) (value_shown e value) ≡ true
failure_shown e row k value is = rw is (shown_alike e value (plain_failure row k value is))

-- Releases.

is_dead-outlines : (s : Storage) (number : ℕ) → is_dead (outlined_store s.objects) number ≡ is_dead s number
is_dead-outlines s number = test-outlines (λ (o : Object). not o.live) (λ o. refl) s.objects number

pub release-outlines : (s : Storage) (p : Pointer) → release_case (outlined_store s.objects) p ≡ release_case s p
release-outlines s p = rw (is_dead-outlines s p.object, is_live-outlines s p.object) refl

-- a function's number is no object's
no_object : (objects : List Object) (number : ℕ) → length objects ≤ most_objects → first_function ≤ number
    → object_of objects number ≡ None
no_object objects number few far = rw (slice_get_past objects (place_of number) (omega (arith, few, far))) refl

no_release : (odd : Bool) → cond (odd && false) (Some L11) (cond (odd && false) None (Some L9)) ≡ Some L9
no_release true = refl
no_release false = refl

release_function : (s : Storage) (p : Pointer) → length s.objects ≤ most_objects → first_function ≤ p.object
    → release_case s p ≡ Some L9
release_function s p few far = rw (
  ne_eqb p.object 0 (λ is. omega (arith, is, far)),
  no_object s.objects p.object few far,
) (no_release (p.object % 2 == 1))

-- the trap of a release is told by the value that its line shows
module _ (e : Environment) (s : Storage) (p : Pointer) (case : Case) (few : length s.objects ≤ most_objects)
    (is : release_case s p ≡ Some case) where
  abbrev IsTold : Shown → Type 0
  IsTold value = is_case case (release_trap (outlined_store s.objects) value) ≡ true

  of_place : (is_it_null : Bool) → is_null p ≡ is_it_null
      → IsTold (cond is_it_null (Place 0 0) (Place p.object p.offset))
  of_place true null = let no : None ≡ Some case = sym (rw null refl) ∙ is in cc
  of_place false null = rw (release-outlines s p ∙ is) (same_case_itself case)

  of_function : (f : Function) → first_function ≤ p.object → IsTold (pointer_shown (Some f) p)
  of_function f far =
      let same : L9 ≡ case = (let found : Some L9 ≡ Some case = sym (release_function s p few far) ∙ is in cc) in
      subst (λ c. is_case c (Some L9) ≡ true) same refl

  by_function : (below : Bool) → nat_lt p.object first_function ≡ below → (found : Option Function)
      → cond below None (e.functions (function_number p)) ≡ found → IsTold (pointer_shown found p)
  by_function below near None at = of_place (is_null p) refl
  by_function true near (Some f) at = cc
  by_function false near (Some f) at = of_function f (ltb-false p.object first_function near)

  pub release_shown : IsTold (value_shown e (Ptr p))
  release_shown = by_function (nat_lt p.object first_function) refl (function_at e p) refl

-- A pointer to no function, null or not.
pub no_function : (e : Environment) (p : Pointer) → function_at e p ≡ None
    → is_call_trap L6 (value_shown e (Ptr p)) ≡ true
no_function e p at = rw at (by_null (is_null p))
  where
    by_null : (is_it_null : Bool) → is_call_trap L6 (cond is_it_null (Place 0 0) (Place p.object p.offset)) ≡ true
    by_null true = refl
    by_null false = refl

pub no_handler : (e : Environment) (p : Pointer) → is_null p ≡ false → function_at e p ≡ None
    → (not (shows_null (value_shown e (Ptr p))) && not (is_function (value_shown e (Ptr p)))) ≡ true
no_handler e p null at = rw (at, null) (rw null refl)
