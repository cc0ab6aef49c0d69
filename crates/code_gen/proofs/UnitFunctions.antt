-- The functions of a unit's code: each stands at its start, with its literals among the texts.
use Rattle.std.proofs.Common.{◌≡◌, ◌∙◌, ℕ, zero, suc, ◌+◌, ◌-◌, ◌<◌, ◌≤◌, Bool, true, false, ◌&&◌, List, [], ◌∷◌, ◌++◌}
use Rattle.std.proofs.Common.{refl, sym, ap, subst, arith, Option, Some, None, length, append_assoc, lt-ltb, le-leb}
use Rattle.std.proofs.Common.{if◌then◌else◌, le-ltb}
use Rattle.std.proofs.lemmas.List.{length-append}
use Rattle.std.specs.Prelude.{nat_lt}
use Rattle.std.specs.List.{slice_get}
use Rattle.std.specs.Option.{option_map}
use Rattle.critical_table.specs.declared.pos.Pos.{Pos}
use Rattle.lib_defs.specs.declared.row.Row.{Row}
use Rattle.lib_defs.specs.declared.row_name.RowName.{RowName}
use Rattle.lib_defs.specs.RowNumbers.{name_at}
use Rattle.c_core.specs.TreeUnit.{Definition, Program}
use Rattle.c_core.specs.TypedUnit.{DefinitionTyped, DefinitionsTyped}
use Rattle.vm_code.specs.declared.instr.Instr.{Instr}
use Rattle.vm_code.specs.declared.parts.CodeFunction.{CodeFunction}
use Rattle.vm_code.specs.Contents.{Contents}
use Rattle.vm_code.specs.Contents as code_parts
use Rattle.vm_code.specs.CodeFunctions.{end_from, end_of}
use Rattle.vm_code.specs.Machine.{fetched_if, fetched}
use Rattle.code_gen.specs.CalledTypes.{Through}
use Rattle.code_gen.specs.CallsMade.{calls_in_statement, calls_in_functions}
use Rattle.code_gen.specs.ProgramFunctions.{Named, UnitFunction, LibraryFunction, unit_or_library}
use Rattle.code_gen.specs.ProgramFunctions.{function_numbered}
use Rattle.code_gen.specs.RunLaw.{StandAt}
use Rattle.code_gen.specs.StatementCode.{texts_in}
use Rattle.code_gen.specs.StatementRunLaw.{TextsStandAt}
use Rattle.code_gen.specs.UnitCode.{end_code, is_main, function_size, function_code, functions_code, function_at}
use Rattle.code_gen.specs.UnitCode.{functions_from, texts_of_functions, call_table, unit_code}
use Rattle.code_gen.proofs.CallTable.{AllStandIn, all_front, all_back, all_stand}
use Rattle.code_gen.proofs.CompatibleForms.{some_is}
use Rattle.code_gen.proofs.Sizes.{all_long as sizes_all}

sizes_function : (program : Program) (table : List Through) (at text : ℕ) (d : Definition)
    → length (function_code program table at text d) ≡ function_size d
sizes_function program table at text d = let all = sizes_all program table in all.function at text d

-- ---- stretches of lists

pub got_at : {A : Type 0} (front : List A) (x : A) (behind : List A)
    → slice_get (front ++ x ∷ behind) (length front) ≡ Some x
got_at [] x behind = refl
got_at (y ∷ front) x behind = got_at front x behind

module _ (code : Contents) (f : CodeFunction) where
  fetched_there : (at : ℕ) (x : Instr × Pos) → f.start ≤ at → at < end_of code f
      → slice_get code.instrs at ≡ Some x → fetched code f at ≡ Some x
  fetched_there at x from below is =
      ap (λ b. fetched_if (b && nat_lt at (end_of code f)) code at) (le-leb f.start at from)
      ∙ ap (λ b. fetched_if b code at) (lt-ltb at (end_of code f) below) ∙ is

  pub stands_there : (at : ℕ) (front a behind : List (Instr × Pos)) → code.instrs ≡ front ++ a ++ behind
      → at ≡ length front → f.start ≤ at → at + length a ≤ end_of code f → StandAt code f at a
  stands_there at front [] behind is here from within = tt
  stands_there at front (x ∷ a) behind is here from within = (
    fetched_there at x from (omega (arith, within)) (ap (λ l. slice_get l at) (is ∙ append_assoc front (x ∷ a) behind)
        ∙ ap (slice_get (front ++ x ∷ (a ++ behind))) here ∙ got_at front x (a ++ behind)),
    stands_there (at + 1) (front ++ x ∷ []) a behind (is ∙ ap (λ l. l ++ behind) (sym (append_assoc front (x ∷ []) a)))
        (omega (arith, here, length-append front (x ∷ []))) (omega (arith, from)) (omega (arith, within)),
  )

pub texts_there : (code : Contents) (at : ℕ) (front a behind : List (List ℕ)) → code.texts ≡ front ++ a ++ behind
    → at ≡ length front → TextsStandAt code at a
texts_there code at front [] behind is here = tt
texts_there code at front (x ∷ a) behind is here = (
  ap (λ l. slice_get l at) (is ∙ append_assoc front (x ∷ a) behind)
      ∙ ap (slice_get (front ++ x ∷ (a ++ behind))) here ∙ got_at front x (a ++ behind),
  texts_there code (at + 1) (front ++ x ∷ []) a behind
      (is ∙ ap (λ l. l ++ behind) (sym (append_assoc front (x ∷ []) a)))
      (omega (arith, here, length-append front (x ∷ []))),
)

-- ---- where functions stand

end_long : (b : Bool) → 1 ≤ length (end_code b)
end_long true = omega arith
end_long false = omega arith

size_some : (d : Definition) → 1 ≤ function_size d
size_some d = omega (arith, end_long (is_main d))

abbrev total : List Definition → ℕ
total [] = 0
total (d ∷ rest) = function_size d + total rest

-- the start of the k-th, and the number of its first text
abbrev pub start_of : ℕ → List Definition → ℕ → ℕ
start_of at [] k = at
start_of at (d ∷ rest) zero = at
start_of at (d ∷ rest) (suc k) = start_of (at + function_size d) rest k

abbrev pub text_of : ℕ → List Definition → ℕ → ℕ
text_of text [] k = text
text_of text (d ∷ rest) zero = text
text_of text (d ∷ rest) (suc k) = text_of (text + length (texts_in d.body)) rest k

start_from : (at : ℕ) (functions : List Definition) (k : ℕ) → at ≤ start_of at functions k
start_from at [] k = omega arith
start_from at (d ∷ rest) zero = omega arith
start_from at (d ∷ rest) (suc k) =
    let later : at + function_size d ≤ start_of (at + function_size d) rest k =
    start_from (at + function_size d) rest k in omega (arith, later)

skip_first : (x y : Bool) (a b : ℕ) → x ≡ false → (if x && y then a else b) ≡ b
skip_first true y a b is = absurd (let none : ⊥ = cc in none)
skip_first false y a b is = refl

skip_second : (x y : Bool) (a b : ℕ) → y ≡ false → (if x && y then a else b) ≡ b
skip_second true true a b is = absurd (let none : ⊥ = cc in none)
skip_second true false a b is = refl
skip_second false y a b is = refl

stays : (start at end : ℕ) (functions : List Definition) → end ≤ at
    → end_from start (functions_from at functions) end ≡ end
stays start at end [] le = refl
stays start at end (d ∷ rest) le =
    skip_second (nat_lt start at) (nat_lt at end) (end_from start (functions_from (at + function_size d) rest) at)
    (end_from start (functions_from (at + function_size d) rest) end) (le-ltb at end le)
    ∙ stays start (at + function_size d) end rest (omega (arith, le))

first_end : (at end : ℕ) (d : Definition) (rest : List Definition) → end ≡ at + (function_size d + total rest)
    → end_from at (functions_from (at + function_size d) rest) end ≡ at + function_size d
first_end at end d [] is = omega (arith, is)
first_end at end d (next ∷ rest) is =
    let n : ℕ = at + function_size d in
    let more : List CodeFunction = functions_from (n + function_size next) rest in
    ap (λ b. if b && nat_lt n end then end_from at more n else end_from at more end)
    (lt-ltb at n (omega (arith, size_some d)))
    ∙ ap (λ b. if b then end_from at more n else end_from at more end)
    (lt-ltb n end (omega (arith, is, size_some next)))
    ∙ stays at (n + function_size next) n rest (omega arith)

ends_there : (functions : List Definition) (at end k : ℕ) (d : Definition) → slice_get functions k ≡ Some d
    → end ≡ at + total functions
    → end_from (start_of at functions k) (functions_from at functions) end ≡ start_of at functions k + function_size d
ends_there [] at end k d is last = absurd (let none : ⊥ = cc in none)
ends_there (first ∷ rest) at end zero d is last =
    skip_first (nat_lt at at) (nat_lt at end) (end_from at (functions_from (at + function_size first) rest) at)
    (end_from at (functions_from (at + function_size first) rest) end) (le-ltb at at (omega arith))
    ∙ first_end at end first rest last ∙ ap (λ f. at + function_size f) (some_is first d is)
ends_there (first ∷ rest) at end (suc k) d is last =
    let start : ℕ = start_of (at + function_size first) rest k in
    let above : at + function_size first ≤ start = start_from (at + function_size first) rest k in
    skip_first (nat_lt start at) (nat_lt at end) (end_from start (functions_from (at + function_size first) rest) at)
    (end_from start (functions_from (at + function_size first) rest) end) (le-ltb start at (omega (arith, above)))
    ∙ ends_there rest (at + function_size first) end k d is (omega (arith, last))

-- ---- the code of one among all

pub record Within {A : Type 0} (whole part : List A) (at : ℕ) : Type 0 where
  pub front : List A
  pub behind : List A
  pub is : whole ≡ front ++ part ++ behind
  pub here : at ≡ length front

more_within : {A : Type 0} (before own rest part : List A) (at : ℕ) → Within ((before ++ own) ++ rest) part at
    → Within (before ++ (own ++ rest)) part at
more_within before own rest part at w = record {
  front = w.front;
  behind = w.behind;
  is = sym (append_assoc before own rest) ∙ w.is;
  here = w.here;
}

code_within : (program : Program) (table : List Through) (functions : List Definition) (at text k : ℕ)
    (d : Definition) (before : List (Instr × Pos)) → slice_get functions k ≡ Some d → at ≡ length before
    → Within (before ++ functions_code program table at text functions)
    (function_code program table (start_of at functions k) (text_of text functions k) d) (start_of at functions k)
code_within program table [] at text k d before is here = absurd (let none : ⊥ = cc in none)
code_within program table (first ∷ rest) at text zero d before is here = record {
  front = before;
  behind = functions_code program table (at + function_size first) (text + length (texts_in first.body)) rest;
  is = ap (λ f. before ++ (function_code program table at text f
      ++ functions_code program table (at + function_size first) (text + length (texts_in first.body)) rest))
      (some_is first d is)
      ∙ sym (append_assoc before (function_code program table at text d)
      (functions_code program table (at + function_size first) (text + length (texts_in first.body)) rest));
  here = here;
}
code_within program table (first ∷ rest) at text (suc k) d before is here =
    let own : List (Instr × Pos) = function_code program table at text first in
    more_within before own
    (functions_code program table (at + function_size first) (text + length (texts_in first.body)) rest)
    (function_code program table (start_of (at + function_size first) rest k)
    (text_of (text + length (texts_in first.body)) rest k) d) (start_of (at + function_size first) rest k)
    (code_within program table rest (at + function_size first) (text + length (texts_in first.body)) k d
    (before ++ own) is (omega (arith, here, length-append before own, sizes_function program table at text first)))

texts_within : (functions : List Definition) (text k : ℕ) (d : Definition) (before : List (List ℕ))
    → slice_get functions k ≡ Some d → text ≡ length before
    → Within (before ++ texts_of_functions functions) (texts_in d.body) (text_of text functions k)
texts_within [] text k d before is here = absurd (let none : ⊥ = cc in none)
texts_within (first ∷ rest) text zero d before is here = record {
  front = before;
  behind = texts_of_functions rest;
  is = ap (λ (f : Definition). before ++ (texts_in f.body ++ texts_of_functions rest)) (some_is first d is)
      ∙ sym (append_assoc before (texts_in d.body) (texts_of_functions rest));
  here = here;
}
texts_within (first ∷ rest) text (suc k) d before is here =
    let own : List (List ℕ) = texts_in first.body in
    more_within before own (texts_of_functions rest) (texts_in d.body) (text_of (text + length own) rest k)
    (texts_within rest (text + length own) k d (before ++ own) is (omega (arith, here, length-append before own)))

all_long : (program : Program) (table : List Through) (at text : ℕ) (functions : List Definition)
    → length (functions_code program table at text functions) ≡ total functions
all_long program table at text [] = refl
all_long program table at text (first ∷ rest) = omega (
  arith,
  length-append (function_code program table at text first)
      (functions_code program table (at + function_size first) (text + length (texts_in first.body)) rest),
  sizes_function program table at text first,
  all_long program table (at + function_size first) (text + length (texts_in first.body)) rest,
)

pub listed : (at : ℕ) (functions : List Definition) (k : ℕ) (d : Definition) → slice_get functions k ≡ Some d
    → slice_get (functions_from at functions) k ≡ Some (function_at (start_of at functions k) d)
listed at [] k d is = absurd (let none : ⊥ = cc in none)
listed at (first ∷ rest) zero d is = ap (λ f. Some (function_at at f)) (some_is first d is)
listed at (first ∷ rest) (suc k) d is = listed (at + function_size first) rest k d is

-- ---- a function of the unit

module _ (program : Program) where
  abbrev code : Contents
  code = unit_code program

  -- a function with its place in the code
  pub record Located (number : ℕ) (d : Definition) : Type 0 where
    pub start : ℕ
    pub text : ℕ
    pub own : code_parts.function_at code.functions number ≡ Some (function_at start d)
    pub stands : StandAt code (function_at start d) start (function_code program (call_table program) start text d)
    pub texts : TextsStandAt code text (texts_in d.body)
    pub calls : AllStandIn (call_table program) (calls_in_statement d.body)

  calls_stand : (table : List Through) (functions : List Definition) (k : ℕ) (d : Definition)
      → slice_get functions k ≡ Some d → AllStandIn table (calls_in_functions functions)
      → AllStandIn table (calls_in_statement d.body)
  calls_stand table [] k d is all = absurd (let none : ⊥ = cc in none)
  calls_stand table (first ∷ rest) zero d is all =
      subst (λ (f : Definition). AllStandIn table (calls_in_statement f.body)) (some_is first d is)
      (all_front table (calls_in_statement first.body) (calls_in_functions rest) all)
  calls_stand table (first ∷ rest) (suc k) d is all = calls_stand table rest k d is
      (all_back table (calls_in_statement first.body) (calls_in_functions rest) all)

  located_at : (k : ℕ) (d : Definition) → slice_get program.functions k ≡ Some d → Located (suc k) d
  located_at k d is =
      let start : ℕ = start_of 0 program.functions k in
      let text : ℕ = text_of 0 program.functions k in
      let f : CodeFunction = function_at start d in
      let w = code_within program (call_table program) program.functions 0 0 k d [] is refl in
      let t = texts_within program.functions 0 k d [] is refl in
      let long : length code.instrs ≡ total program.functions =
      all_long program (call_table program) 0 0 program.functions in
      let ends : end_of code f ≡ start + function_size d =
      ends_there program.functions 0 (length code.instrs) k d is (omega (arith, long)) in
      record {
        start = start;
        text = text;
        own = listed 0 program.functions k d is;
        stands = stands_there code f start w.front (function_code program (call_table program) start text d) w.behind
            w.is w.here (omega arith)
            (omega (arith, ends, sizes_function program (call_table program) start text d));
        texts = texts_there code text t.front (texts_in d.body) t.behind t.is t.here;
        calls = calls_stand (call_table program) program.functions k d is
            (all_stand [] (calls_in_functions program.functions));
      }

-- which function of the unit a number is
no_unit : (o : Option RowName) (row : Row) (d : Definition)
    → option_map (LibraryFunction row) o ≡ Some (UnitFunction d) → ⊥
no_unit None row d is = cc
no_unit (Some name) row d is = cc

abbrev definition_of : Definition → Named → Definition
definition_of other (UnitFunction d) = d
definition_of other (LibraryFunction row name) = other

pub unit_at : (functions : List Definition) (k m : ℕ) (d : Definition)
    → unit_or_library (slice_get functions k) m ≡ Some (UnitFunction d) → slice_get functions k ≡ Some d
unit_at functions k m d is = by_found (slice_get functions k) refl is
  where
    by_found : (o : Option Definition) → slice_get functions k ≡ o → unit_or_library o m ≡ Some (UnitFunction d)
        → slice_get functions k ≡ Some d
    by_found (Some e) at same =
        at ∙ ap (λ n. Some (definition_of d n)) (some_is (UnitFunction e) (UnitFunction d) same)
    by_found None at same = absurd (no_unit (name_at (record { 0 = m })) (record { 0 = m }) d same)

pub located : (program : Program) (number : ℕ) (d : Definition)
    → function_numbered program.functions number ≡ Some (UnitFunction d) → Located program number d
located program zero d is = absurd (let none : ⊥ = cc in none)
located program (suc k) d is =
    located_at program k d (unit_at program.functions k (k - length program.functions) d is)

-- it is well-typed
typed_at : (functions statics : List Pos) (ds : List Definition) (k : ℕ) (d : Definition) → slice_get ds k ≡ Some d
    → DefinitionsTyped functions statics ds → DefinitionTyped functions statics d
typed_at functions statics [] k d is t = absurd (let none : ⊥ = cc in none)
typed_at functions statics (first ∷ rest) zero d is t =
    subst (DefinitionTyped functions statics) (some_is first d is) t.0
typed_at functions statics (first ∷ rest) (suc k) d is t = typed_at functions statics rest k d is t.1

pub definition_typed : (functions statics : List Pos) (program : Program) (number : ℕ) (d : Definition)
    → function_numbered program.functions number ≡ Some (UnitFunction d)
    → DefinitionsTyped functions statics program.functions → DefinitionTyped functions statics d
definition_typed functions statics program zero d is t = absurd (let none : ⊥ = cc in none)
definition_typed functions statics program (suc k) d is t = typed_at functions statics program.functions k d
    (unit_at program.functions k (k - length program.functions) d is) t
