-- The functions of code: what is known of one that a call designates.
use Rattle.std.proofs.Common.{◌≡◌, ℕ, zero, suc, ◌-◌, ◌==◌, Bool, true, false, ◌&&◌, ◌||◌, List, [], ◌∷◌}
use Rattle.std.proofs.Common.{length, Contains, Option, Some, None, refl, ap, subst}
use Rattle.std.proofs.Common.{if◌then◌else◌}
use Rattle.std.proofs.lemmas.Bool.{eqb-true}
use Rattle.std.specs.Prelude.{nat_lt}
use Rattle.std.specs.List.{slice_get, list_any}
use Rattle.std.specs.Option.{option_map_or}
use Rattle.acc_num.specs.declared.kind.IntKind.{IntKind}
use Rattle.acc_num.specs.declared.kind.IntKind.TheVariants as k
use Rattle.acc_num.specs.declared.kind.IntKind.TheVariants.{I32}
use Rattle.object_store.specs.declared.pointer.Pointer.{Pointer}
use Rattle.lib_defs.specs.declared.row.Row.{Row}
use Rattle.lib_defs.specs.declared.row_name.RowName.{RowName}
use Rattle.lib_defs.specs.Handlers.{first_function}
use Rattle.lib_defs.specs.Library.{Library}
use Rattle.lib_defs.specs.Prototypes.{prototype}
use Rattle.lib_defs.specs.RowNumbers.{name_at}
use Rattle.run_defs.specs.Functions.{Function, OfLibrary, OfUnit, Environment, function_at, function_number}
use Rattle.run_defs.specs.Functions.{handles}
use Rattle.c_core.specs.declared.form.Form.{Form}
use Rattle.c_core.specs.declared.form.Form.TheVariants as form
use Rattle.vm_code.specs.declared.parts.CodeFunction.{CodeFunction}
use Rattle.vm_code.specs.declared.parts.CodeCalled.{CodeCalled}
use Rattle.vm_code.specs.Contents.{Contents}
use Rattle.vm_code.specs.Contents as code_parts
use Rattle.vm_code.specs.CodeFunctions.{calls_function, is_called_by, handler_type, comparing_type, row_if}
use Rattle.vm_code.specs.CodeFunctions.{function_of, function_numbered, environment}
use Rattle.vm_code.specs.OperandKinds.{same_kind}
use Rattle.vm_code.specs.Sound.{same_form, form_of, prototype_fits, takes_forms, kinds_of_forms, function_fits}
use Rattle.vm_code.specs.Sound.{library_fits}
use Rattle.vm_code.proofs.Acting.{first_of}
use Rattle.vm_code.proofs.ActingOn.{later}
use Rattle.vm_code.proofs.Falling.{and_left, all_of}
use Rattle.vm_code.proofs.Standing.{GivesForm}

pub any_contained : (functions : List ℕ) (f : ℕ) → list_any (λ (g : ℕ). g == f) functions ≡ true → Contains functions f
any_contained [] f is = absurd (let none : ⊥ = cc in none)
any_contained (g ∷ functions) f is = at_head (g == f) refl is (λ found. any_contained functions f found)
  where
    at_head : (b : Bool) → (g == f) ≡ b → (b || list_any (λ (h : ℕ). h == f) functions) ≡ true
        → (list_any (λ (h : ℕ). h == f) functions ≡ true → Contains functions f) → Contains (g ∷ functions) f
    at_head true same found rest = let P : ℕ → Type 0 = λ n. Contains (g ∷ functions) n in
        subst P (eqb-true g f same) (first_of g functions)
    at_head false other found rest = later g functions f (rest found)

same_kind_is : (a b : IntKind) → same_kind a b ≡ true → a ≡ b
same_kind_is k.Bool k.Bool is = refl
same_kind_is k.I8 k.I8 is = refl
same_kind_is k.U8 k.U8 is = refl
same_kind_is k.I16 k.I16 is = refl
same_kind_is k.U16 k.U16 is = refl
same_kind_is k.I32 k.I32 is = refl
same_kind_is k.U32 k.U32 is = refl
same_kind_is k.I64 k.I64 is = refl
same_kind_is k.U64 k.U64 is = refl
same_kind_is _ _ is = absurd (let none : ⊥ = cc in none)

same_form_is : (a b : Form) → same_form a b ≡ true → a ≡ b
same_form_is (form.Number a) (form.Number b) is = ap form.Number (same_kind_is a b is)
same_form_is form.Pointer form.Pointer is = refl
same_form_is form.Place form.Place is = refl
same_form_is form.Nothing form.Nothing is = refl
same_form_is _ _ is = absurd (let none : ⊥ = cc in none)

module _ (library : Library) (code : Contents) where
  abbrev e : Environment
  e = environment library code

  -- a function of the unit, with what the code knows of it
  pub record OwnFunction (number : ℕ) (handles compares : Bool) : Type 0 where
    pub function : CodeFunction
    pub stands : code_parts.function_at code.functions number ≡ Some function
    pub handling : handles ≡ is_called_by code handler_type number
    pub comparing : compares ≡ is_called_by code comparing_type number

  not_own : (name : List ℕ) (handles compares : Bool) (o : Option RowName) (row : Row)
      → row_if o row ≡ Some (OfUnit name handles compares) → ⊥
  not_own name handles compares None row is = cc
  not_own name handles compares (Some n) row is = cc

  own_of : (number : ℕ) (name : List ℕ) (handles compares : Bool) (o : Option CodeFunction)
      → code_parts.function_at code.functions number ≡ o → function_of code number o ≡ Some
      (OfUnit name handles compares)
      → OwnFunction number handles compares
  own_of number name handles compares (Some f) at is =
      record { function = f; stands = at; handling = cc; comparing = cc }
  own_of number name handles compares None at is =
      let row : Row = record { 0 = number - 1 - length code.functions } in
      absurd (not_own name handles compares (name_at row) row is)

  numbered_own : (number : ℕ) (name : List ℕ) (handles compares : Bool)
      → function_numbered code number ≡ Some (OfUnit name handles compares) → OwnFunction number handles compares
  numbered_own zero name handles compares is = absurd (let none : ⊥ = cc in none)
  numbered_own (suc k) name handles compares is = own_of (suc k) name handles compares
      (code_parts.function_at code.functions (suc k)) refl is

  pub own_at : (p : Pointer) (name : List ℕ) (handles compares : Bool)
      → function_at e p ≡ Some (OfUnit name handles compares) → OwnFunction (function_number p) handles compares
  own_at p name handles compares is = by_number (nat_lt p.object first_function) is
    where
      by_number : (b : Bool) → (if b then None else e.functions (function_number p)) ≡ Some
          (OfUnit name handles compares)
          → OwnFunction (function_number p) handles compares
      by_number true is = absurd (let none : ⊥ = cc in none)
      by_number false is = numbered_own (function_number p) name handles compares is

  -- a library function has a name
  named_if : (o : Option RowName) (row other : Row) → name_at row ≡ o → row_if o row ≡ Some (OfLibrary other)
      → (name : RowName) × (name_at other ≡ Some name)
  named_if None row other at is = absurd (let none : ⊥ = cc in none)
  named_if (Some name) row other at is = let same : row ≡ other = cc in
      (name, subst (λ r. name_at r ≡ Some name) same at)

  named_of : (number : ℕ) (row : Row) (o : Option CodeFunction) → function_of code number o ≡ Some (OfLibrary row)
      → (name : RowName) × (name_at row ≡ Some name)
  named_of number row (Some f) is = absurd (let none : ⊥ = cc in none)
  named_of number row None is =
      let first : Row = record { 0 = number - 1 - length code.functions } in
      named_if (name_at first) first row refl is

  numbered_named : (number : ℕ) (row : Row) → function_numbered code number ≡ Some (OfLibrary row)
      → (name : RowName) × (name_at row ≡ Some name)
  numbered_named zero row is = absurd (let none : ⊥ = cc in none)
  numbered_named (suc k) row is =
      named_of (suc k) row (code_parts.function_at code.functions (suc k)) is

  pub numbered_at : (p : Pointer) (f : Function) → function_at e p ≡ Some f
      → function_numbered code (function_number p) ≡ Some f
  numbered_at p f is = by_number (nat_lt p.object first_function) is
    where
      by_number : (b : Bool) → (if b then None else e.functions (function_number p)) ≡ Some f
          → function_numbered code (function_number p) ≡ Some f
      by_number true is = absurd (let none : ⊥ = cc in none)
      by_number false is = is

-- the type that a function is called through
pub called_by : (code : Contents) (type number : ℕ) → is_called_by code type number ≡ true
    → (called : CodeCalled) × (slice_get code.types type ≡ Some called) × Contains called.functions number
called_by code type number is = by_type (slice_get code.types type) refl is
  where
    by_type : (o : Option CodeCalled) → slice_get code.types type ≡ o
        → option_map_or (calls_function number) o false ≡ true
        → (called : CodeCalled) × (slice_get code.types type ≡ Some called) × Contains called.functions number
    by_type None at is = absurd (let none : ⊥ = cc in none)
    by_type (Some called) at is = (called, at, any_contained called.functions number is)

-- a library function gives the form of the type
pub form_given : (code : Contents) (called : CodeCalled) (number : ℕ) (row : Row) → library_fits code called ≡ true
    → Contains called.functions number → function_numbered code number ≡ Some (OfLibrary row)
    → (library : Library) → GivesForm row called.form
form_given code called number row fit contained is library =
    let named : (name : RowName) × (name_at row ≡ Some name) = numbered_named library code number row is in
    let one : function_fits called (function_numbered code number) ≡ true =
    all_of (λ f. function_fits called (function_numbered code f)) called.functions number fit contained in
    let of_row : function_fits called (Some (OfLibrary row)) ≡ true =
    subst (λ o. function_fits called o ≡ true) is one in
    let whole : prototype_fits called (prototype named.0) ≡ true =
    subst (λ o. option_map_or (λ (n : RowName). prototype_fits called (prototype n)) o true ≡ true) named.1 of_row in
    record {
      name = named.0;
      named = named.1;
      form_is = same_form_is (form_of (prototype named.0).gives) called.form
          (and_left (same_form (form_of (prototype named.0).gives) called.form)
          (takes_forms (prototype named.0).takes (prototype named.0).variadic called.arguments)
          (and_left (same_form (form_of (prototype named.0).gives) called.form
          && takes_forms (prototype named.0).takes (prototype named.0).variadic called.arguments)
          (kinds_of_forms called.kinds called.arguments) whole));
    }
