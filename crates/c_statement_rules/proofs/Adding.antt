-- Values of labels and names in ordered sets, and one more; lists without parameters.
use Rattle.std.proofs.Common.{◌≡◌, ◌∙◌, ℕ, Bool, true, false, cond, List, [], ◌∷◌, ◌++◌, length, refl, ap}
use Rattle.std.specs.Prelude.{ℤ, ◌||◌, ◌==◌, Result, Ok, Err, OnOk, is_err}
use Rattle.std.proofs.Math.Dec.{eqb-suc-zero}
use Rattle.std.proofs.lemmas.Map.Text.{is_eq-slice_cmp}
use Rattle.std.specs.BTreeSet.{BTreeSet, Updates}
use Rattle.std.specs.Cmp.Lexicographic.{slice_cmp}
use Rattle.std.specs.Ordering.{int_cmp, int_eq, nat_cmp}
use Rattle.std.specs.Str.{bytes_eq}
use Rattle.c_types.specs.declared.shape.TypeId.{TypeId}
use Rattle.c_types.specs.CType.{CType, CTypes, types_at}
use Rattle.c_core.specs.declared.statement.Case.{Case}
use Rattle.c_type_rules.specs.Members as names
use Rattle.c_statement_rules.specs.Labels as labels
use Rattle.c_statement_rules.specs.Units as units

either : (last first rest among : Bool) → cond last true rest ≡ among → cond last true (first || rest) ≡ first || among
either true true rest among e = refl
either false true rest among e = refl
either last false rest among e = e

alone : (last : Bool) → cond last true false ≡ last || false
alone true = refl
alone false = refl

-- ---- labels

case_more : (cases : List Case) (last : Case) (value : ℤ)
    → cond (int_eq last.value value) true (labels.is_among value cases) ≡ labels.is_among value (cases ++ last ∷ [])
case_more [] last value = alone (int_eq last.value value)
case_more (first ∷ rest) last value =
    either (int_eq last.value value) (int_eq first.value value) (labels.is_among value rest)
    (labels.is_among value (rest ++ last ∷ [])) (case_more rest last value)

-- one more label, and its value
pub kept_cases : (cases : List Case) (given more : BTreeSet ℤ) (last : Case) → labels.IsKept cases given
    → Updates int_cmp given more last.value true → labels.IsKept (cases ++ last ∷ []) more
kept_cases cases given more last kept updates = λ value. updates.0 value
    ∙ (λ i. cond (int_eq last.value value) true (kept value i)) ∙ case_more cases last value

-- ---- names

name_more : (all : List (List ℕ)) (last name : List ℕ)
    → cond (bytes_eq last name) true (names.is_among name all) ≡ names.is_among name (all ++ last ∷ [])
name_more [] last name = alone (bytes_eq last name)
name_more (first ∷ rest) last name =
    either (bytes_eq last name) (bytes_eq first name) (names.is_among name rest)
    (names.is_among name (rest ++ last ∷ [])) (name_more rest last name)

-- one more name
pub kept_names : (all : List (List ℕ)) (given more : BTreeSet (List ℕ)) (last : List ℕ) → units.IsKept all given
    → Updates (slice_cmp nat_cmp) given more last true → units.IsKept (all ++ last ∷ []) more
kept_names all given more last kept updates = λ name. updates.0 name
    ∙ (λ i. cond (is_eq-slice_cmp last name i) true (kept name i)) ∙ name_more all last name

-- what holds where a call succeeds
pub if_no_error : {A E P : Type 0} (result : Result A E) → is_err result ≡ false → OnOk result P → P
if_no_error (Ok x) e holds = holds
if_no_error (Err x) e holds = absurd (cc)

-- ---- parameters

none_of : (all : List CType) (ids : List TypeId) → (length ids == 0) ≡ units.takes_nothing (types_at all ids)
none_of all [] = refl
none_of all (id ∷ ids) = eqb-suc-zero (length ids)

pub none_taken : (all : List CType) (ids : List TypeId) (types : CTypes) → types_at all ids ≡ types
    → (length ids == 0) ≡ units.takes_nothing types
none_taken all ids types same = none_of all ids ∙ ap (λ (t : CTypes). units.takes_nothing t) same
