-- Each call of a unit is made through a type that stands in the table, and the table says which functions have it.
use Rattle.std.proofs.Common.{◌≡◌, ◌∙◌, ℕ, zero, suc, ◌+◌, ◌-◌, ◌<◌, ◌==◌, Bool, true, false, ◌&&◌, ◌||◌, List, []}
use Rattle.std.proofs.Common.{◌∷◌, ◌++◌, refl, sym, ap, subst, arith, Option, Some, None, map, length, eqb-true, lt-ltb}
use Rattle.std.proofs.Common.{if◌then◌else◌}
use Rattle.std.proofs.lemmas.Bool.{eq-eqb, ne_eqb}
use Rattle.std.specs.Prelude.{nat_lt}
use Rattle.std.specs.List.{slice_get, list_any}
use Rattle.std.specs.Option.{option_map}
use Rattle.c_types.specs.declared.shape.Quals.{Quals}
use Rattle.c_types.specs.CType.{CType, CTypes, Bare, Plain, Array, BasicType, Pointer, Function, Compound, Enumerated}
use Rattle.c_types.specs.CType.{Nil, Cons, number_of}
use Rattle.c_types.specs.Compatible.{compatible, same_bool, same_quals}
use Rattle.lib_defs.specs.declared.row.Row.{Row}
use Rattle.lib_defs.specs.declared.row_name.RowName.{RowName}
use Rattle.lib_defs.specs.declared.value.Value.{Value}
use Rattle.lib_defs.specs.Names.{row_names}
use Rattle.library_types.specs.LibraryTypes.{row_type}
use Rattle.library_types.specs.ArgumentKinds.{argument_kind}
use Rattle.c_core.specs.Tree.{Cores, NoCore, MoreCores, type_in}
use Rattle.c_core.specs.TreeUnit.{Definition, Program}
use Rattle.vm_code.specs.Calling.{args_of}
use Rattle.vm_code.specs.CodeFunctions.{calls_function}
use Rattle.code_gen.specs.Arguments.{arguments}
use Rattle.code_gen.specs.CalledTypes.{Through, same_length, same_type, same_bare, same_types, same_through, added}
use Rattle.code_gen.specs.CalledTypes.{all_added, index_of, type_number, function_types, compatible_from, entry}
use Rattle.code_gen.specs.CalledTypes.{called_types, kinds_of, types_of}
use Rattle.code_gen.specs.ProgramFunctions.{Named, UnitFunction, LibraryFunction, unit_or_library}
use Rattle.code_gen.specs.ProgramFunctions.{function_numbered, type_of_function}
use Rattle.code_gen.specs.RunLaw.{AreArguments}
use Rattle.code_gen.proofs.CompatibleForms.{and_first, and_second, some_is, basic_same}

-- ---- which types are the same

bool_is : (x y : Bool) → same_bool x y ≡ true → x ≡ y
bool_is true true is = refl
bool_is true false is = absurd (let none : ⊥ = cc in none)
bool_is false true is = absurd (let none : ⊥ = cc in none)
bool_is false false is = refl

quals_are : (q r : Quals) → same_quals q r ≡ true → q ≡ r
quals_are q r is =
    let front : (same_bool q.constant r.constant && same_bool q.volatile r.volatile) ≡ true =
    and_first (same_bool q.constant r.constant && same_bool q.volatile r.volatile)
    (same_bool q.restricted r.restricted) is in
    let one : q.constant ≡ r.constant = bool_is q.constant r.constant
    (and_first (same_bool q.constant r.constant) (same_bool q.volatile r.volatile) front) in
    let two : q.volatile ≡ r.volatile = bool_is q.volatile r.volatile
    (and_second (same_bool q.constant r.constant) (same_bool q.volatile r.volatile) front) in
    let three : q.restricted ≡ r.restricted = bool_is q.restricted r.restricted
    (and_second (same_bool q.constant r.constant && same_bool q.volatile r.volatile)
    (same_bool q.restricted r.restricted) is) in
    ap (λ c. record { constant = c; volatile = q.volatile; restricted = q.restricted }) one
    ∙ ap (λ v. record { constant = r.constant; volatile = v; restricted = q.restricted }) two
    ∙ ap (λ k. record { constant = r.constant; volatile = r.volatile; restricted = k }) three

length_is : (m n : Option ℕ) → same_length m n ≡ true → m ≡ n
length_is None None is = refl
length_is (Some m) (Some n) is = ap Some (eqb-true m n is)
length_is _ _ is = absurd (let none : ⊥ = cc in none)

mutual
  type_is : (x y : CType) → same_type x y ≡ true → x ≡ y
  type_is (Plain x q) (Plain y r) is =
      ap (λ z. Plain z q) (bare_is x y (and_second (same_quals q r) (same_bare x y) is))
      ∙ ap (Plain y) (quals_are q r (and_first (same_quals q r) (same_bare x y) is))
  type_is (Array t m) (Array u n) is =
      ap (λ z. Array z m) (type_is t u (and_second (same_length m n) (same_type t u) is))
      ∙ ap (Array u) (length_is m n (and_first (same_length m n) (same_type t u) is))
  type_is _ _ is = absurd (let none : ⊥ = cc in none)

  bare_is : (x y : Bare) → same_bare x y ≡ true → x ≡ y
  bare_is (BasicType x) (BasicType y) is = ap BasicType (basic_same x y is)
  bare_is (Pointer t) (Pointer u) is = ap Pointer (type_is t u is)
  bare_is (Function g ps v) (Function h qs w) is =
      let front : (same_type g h && same_bool v w) ≡ true =
      and_first (same_type g h && same_bool v w) (same_types ps qs) is in
      ap (λ z. Function z ps v) (type_is g h (and_first (same_type g h) (same_bool v w) front))
      ∙ ap (λ z. Function h z v) (types_are ps qs (and_second (same_type g h && same_bool v w) (same_types ps qs) is))
      ∙ ap (Function h qs) (bool_is v w (and_second (same_type g h) (same_bool v w) front))
  bare_is (Compound m) (Compound n) is = ap Compound (eqb-true m n is)
  bare_is (Enumerated m) (Enumerated n) is = ap Enumerated (eqb-true m n is)
  bare_is _ _ is = absurd (let none : ⊥ = cc in none)

  types_are : (ps qs : CTypes) → same_types ps qs ≡ true → ps ≡ qs
  types_are Nil Nil is = refl
  types_are (Cons p ps) (Cons q qs) is =
      ap (λ z. Cons z ps) (type_is p q (and_first (same_type p q) (same_types ps qs) is))
      ∙ ap (Cons q) (types_are ps qs (and_second (same_type p q) (same_types ps qs) is))
  types_are _ _ is = absurd (let none : ⊥ = cc in none)

through_is : (a b : Through) → same_through a b ≡ true → a ≡ b
through_is a b is =
    ap (λ t. record { type = t; arguments = a.arguments })
    (type_is a.type b.type (and_first (same_type a.type b.type) (same_types a.arguments b.arguments) is))
    ∙ ap (λ ts. record { type = b.type; arguments = ts })
    (types_are a.arguments b.arguments (and_second (same_type a.type b.type) (same_types a.arguments b.arguments) is))

-- ---- a type is the same as itself

bool_own : (x : Bool) → same_bool x x ≡ true
bool_own true = refl
bool_own false = refl

quals_own : (q : Quals) → same_quals q q ≡ true
quals_own q = rw (bool_own q.constant, bool_own q.volatile) (bool_own q.restricted)

length_own : (m : Option ℕ) → same_length m m ≡ true
length_own None = refl
length_own (Some m) = eq-eqb m m refl

mutual
  type_own : (x : CType) → same_type x x ≡ true
  type_own (Plain x q) = rw (quals_own q) (bare_own x)
  type_own (Array t m) = rw (length_own m) (type_own t)

  bare_own : (x : Bare) → same_bare x x ≡ true
  bare_own (BasicType x) = eq-eqb (number_of x) (number_of x) refl
  bare_own (Pointer t) = type_own t
  bare_own (Function g ps v) = rw (type_own g, bool_own v) (types_own ps)
  bare_own (Compound m) = eq-eqb m m refl
  bare_own (Enumerated m) = eq-eqb m m refl

  types_own : (ps : CTypes) → same_types ps ps ≡ true
  types_own Nil = refl
  types_own (Cons p ps) = rw (type_own p) (types_own ps)

through_own : (a : Through) → same_through a a ≡ true
through_own a = rw (type_own a.type) (types_own a.arguments)

-- ---- the table

abbrev pub StandsIn : List Through → Through → Type 0
StandsIn table call = list_any (same_through call) table ≡ true

abbrev pub AllStandIn : List Through → List Through → Type 0
AllStandIn table [] = Unit {0}
AllStandIn table (call ∷ calls) = StandsIn table call × AllStandIn table calls

or_later : (x y : Bool) → y ≡ true → (x || y) ≡ true
or_later true y is = refl
or_later false y is = is

either_more : (x y z : Bool) → (x || y) ≡ true → (y ≡ true → z ≡ true) → (x || z) ≡ true
either_more true y z is more = refl
either_more false y z is more = more is

stands_behind : (table : List Through) (call other : Through) → StandsIn table call
    → StandsIn (table ++ other ∷ []) call
stands_behind [] call other is = absurd (let none : ⊥ = cc in none)
stands_behind (first ∷ rest) call other is = either_more (same_through call first)
    (list_any (same_through call) rest) (list_any (same_through call) (rest ++ other ∷ [])) is
    (λ later. stands_behind rest call other later)

stands_last : (table : List Through) (call : Through) → StandsIn (table ++ call ∷ []) call
stands_last [] call = rw (through_own call) refl
stands_last (first ∷ rest) call =
    or_later (same_through call first) (list_any (same_through call) (rest ++ call ∷ [])) (stands_last rest call)

stands_on : (table : List Through) (call other : Through) → StandsIn table call → StandsIn (added table other) call
stands_on table call other is = by_found (list_any (same_through other) table)
  where
    by_found : (b : Bool) → StandsIn (if b then table else table ++ other ∷ []) call
    by_found true = is
    by_found false = stands_behind table call other is

stands_added : (table : List Through) (call : Through) → StandsIn (added table call) call
stands_added table call = by_found (list_any (same_through call) table) refl
  where
    by_found : (b : Bool) → list_any (same_through call) table ≡ b
        → StandsIn (if b then table else table ++ call ∷ []) call
    by_found true found = found
    by_found false not_there = stands_last table call

stands_all : (table calls : List Through) (call : Through) → StandsIn table call → StandsIn (all_added table calls) call
stands_all table [] call is = is
stands_all table (other ∷ calls) call is = stands_all (added table other) calls call (stands_on table call other is)

pub all_stand : (table calls : List Through) → AllStandIn (all_added table calls) calls
all_stand table [] = tt
all_stand table (call ∷ calls) =
    (stands_all (added table call) calls call (stands_added table call), all_stand (added table call) calls)

pub all_front : (table a b : List Through) → AllStandIn table (a ++ b) → AllStandIn table a
all_front table [] b all = tt
all_front table (x ∷ a) b all = (all.0, all_front table a b all.1)

pub all_back : (table a b : List Through) → AllStandIn table (a ++ b) → AllStandIn table b
all_back table [] b all = all
all_back table (x ∷ a) b all = all_back table a b all.1

indexed : (table : List Through) (call : Through) → StandsIn table call
    → slice_get table (index_of call table) ≡ Some call
indexed [] call is = absurd (let none : ⊥ = cc in none)
indexed (first ∷ rest) call is = by_first (same_through call first) refl is (λ later. indexed rest call later)
  where
    by_first : (b : Bool) → same_through call first ≡ b → (b || list_any (same_through call) rest) ≡ true
        → (StandsIn rest call → slice_get rest (index_of call rest) ≡ Some call)
        → slice_get (first ∷ rest) (if b then 0 else suc (index_of call rest)) ≡ Some call
    by_first true same found later = ap Some (sym (through_is call first same))
    by_first false differ found later = later found

pub mapped : {A B : Type 0} (f : A → B) (xs : List A) (k : ℕ) (x : A) → slice_get xs k ≡ Some x
    → slice_get (map f xs) k ≡ Some (f x)
mapped f [] k x is = absurd (let none : ⊥ = cc in none)
mapped f (y ∷ xs) zero x is = ap (λ z. Some (f z)) (some_is y x is)
mapped f (y ∷ xs) (suc k) x is = mapped f xs k x is

pub called_stands : (program : Program) (table : List Through) (call : Through) → StandsIn table call
    → slice_get (called_types program table) (type_number table call) ≡ Some (entry program call)
called_stands program table call is =
    let two : index_of call table + 2 ≡ suc (suc (index_of call table)) = omega arith in
    ap (slice_get (called_types program table)) two
    ∙ mapped (entry program) table (index_of call table) call (indexed table call is)

-- ---- which functions have a type

-- a function with another number
passed_over : (start f : ℕ) (b : Bool) (functions : List ℕ) (found : Bool) → (start ≡ f → ⊥)
    → list_any (λ g. g == f) functions ≡ found
    → list_any (λ g. g == f) (if b then start ∷ functions else functions) ≡ found
passed_over start f true functions found other is = rw (ne_eqb start f other) is
passed_over start f false functions found other is = is

none_before : (start f : ℕ) (type : CType) (types : List CType) → f < start
    → list_any (λ g. g == f) (compatible_from start type types) ≡ false
none_before start f type [] less = refl
none_before start f type (first ∷ rest) less = passed_over start f (compatible type first)
    (compatible_from (start + 1) type rest) false (λ same. omega (arith, same, less))
    (none_before (start + 1) f type rest (omega (arith, less)))

has_type : (start f : ℕ) (type : CType) (types : List CType) (k : ℕ) (own : CType) → slice_get types k ≡ Some own
    → f ≡ start + k → list_any (λ g. g == f) (compatible_from start type types) ≡ compatible type own
has_type start f type [] k own is at = absurd (let none : ⊥ = cc in none)
has_type start f type (first ∷ rest) zero own is at =
    by_first (compatible type first) ∙ ap (compatible type) (some_is first own is)
  where
    here : (start == f) ≡ true
    here = eq-eqb start f (omega (arith, at))

    later : list_any (λ g. g == f) (compatible_from (start + 1) type rest) ≡ false
    later = none_before (start + 1) f type rest (omega (arith, at))

    by_first : (b : Bool) → list_any (λ g. g == f)
        (if b then start ∷ compatible_from (start + 1) type rest else compatible_from (start + 1) type rest) ≡ b
    by_first true = rw here refl
    by_first false = later
has_type start f type (first ∷ rest) (suc k) own is at = passed_over start f (compatible type first)
    (compatible_from (start + 1) type rest) (compatible type own) (λ same. omega (arith, same, at))
    (has_type (start + 1) f type rest k own is (omega (arith, at)))

-- the types of functions, by number from 0

row_named_type : (o : Option RowName) (row : Row) (named : Named) (k : ℕ) → slice_get row_names k ≡ o
    → option_map (LibraryFunction row) o ≡ Some named
    → slice_get (map row_type row_names) k ≡ Some (type_of_function named)
row_named_type None row named k at is = absurd (let none : ⊥ = cc in none)
row_named_type (Some name) row named k at is =
    mapped row_type row_names k name at
    ∙ ap (λ n. Some (type_of_function n)) (some_is (LibraryFunction row name) named is)

named_type : (functions : List Definition) (k m : ℕ) (named : Named) → m ≡ k - length functions
    → unit_or_library (slice_get functions k) m ≡ Some named
    → slice_get (map (λ (f : Definition). f.type) functions ++ map row_type row_names) k ≡ Some (type_of_function named)
named_type [] k m named at is =
    let same : m ≡ k = omega (arith, at) in
    subst (λ j. slice_get (map row_type row_names) j ≡ Some (type_of_function named)) same
    (row_named_type (slice_get row_names m) (record { 0 = m }) named m refl is)
named_type (first ∷ rest) zero m named at is =
    ap (λ n. Some (type_of_function n)) (some_is (UnitFunction first) named is)
named_type (first ∷ rest) (suc k) m named at is =
    let less : m ≡ k - length rest = omega (arith, at) in named_type rest k m named less is

pub calls_alike : (program : Program) (call : Through) (f : ℕ) (named : Named)
    → function_numbered program.functions f ≡ Some named
    → calls_function f (entry program call) ≡ compatible call.type (type_of_function named)
calls_alike program call zero named is = absurd (let none : ⊥ = cc in none)
calls_alike program call (suc k) named is =
    has_type 1 (suc k) call.type (function_types program) k (type_of_function named)
    (named_type program.functions k (k - length program.functions) named refl is) (omega arith)

-- ---- the kinds of arguments

pub some_above : (u f : ℕ) (functions : List ℕ) → u < f → list_any (λ g. g == f) functions ≡ true
    → list_any (λ g. nat_lt u g) functions ≡ true
some_above u f [] less is = absurd (let none : ⊥ = cc in none)
some_above u f (g ∷ rest) less is = by_first (g == f) refl is (λ later. some_above u f rest less later)
  where
    by_first : (b : Bool) → (g == f) ≡ b → (b || list_any (λ h. h == f) rest) ≡ true
        → (list_any (λ h. h == f) rest ≡ true → list_any (λ h. nat_lt u h) rest ≡ true)
        → list_any (λ h. nat_lt u h) (g ∷ rest) ≡ true
    by_first true same found later = rw (lt-ltb u g (subst (λ h. u < h) (sym (eqb-true g f same)) less)) refl
    by_first false differ found later = or_later (nat_lt u g) (list_any (λ h. nat_lt u h) rest) (later found)

pub same_arguments : (cores : Cores) (vs : List Value) → AreArguments cores vs
    → args_of vs (kinds_of (types_of cores)) ≡ arguments cores vs
same_arguments NoCore [] are = refl
same_arguments NoCore (v ∷ vs) are = absurd are
same_arguments (MoreCores first rest) [] are = absurd are
same_arguments (MoreCores first rest) (v ∷ vs) are =
    ap (λ l. record { value = v; kind = argument_kind (type_in first) } ∷ l) (same_arguments rest vs are.1)
