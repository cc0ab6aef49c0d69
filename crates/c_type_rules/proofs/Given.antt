-- Names that were given, and one more.
use Rattle.std.proofs.Common.{◌≡◌, ◌∙◌, ℕ, Bool, true, false, cond, List, [], ◌∷◌, ◌++◌, refl, arith}
use Rattle.std.proofs.Common.{length-append}
use Rattle.std.specs.Prelude.{◌||◌, Result, Ok, Err, OnOk, is_err, is_ok, if◌then◌else◌}
use Rattle.std.proofs.lemmas.Map.Text.{is_eq-slice_cmp}
use Rattle.std.specs.BTreeSet.{BTreeSet, Updates}
use Rattle.std.specs.Cmp.Lexicographic.{slice_cmp}
use Rattle.std.specs.Ordering.{nat_cmp}
use Rattle.std.specs.Str.{bytes_eq}
use Rattle.c_types.specs.declared.shape.TypeId.{TypeId}
use Rattle.c_type_rules.specs.Completing.{IsKept}
use Rattle.c_type_rules.specs.Members.{is_among}

either : (last first rest among : Bool) → cond last true rest ≡ among → cond last true (first || rest) ≡ first || among
either true true rest among e = refl
either false true rest among e = refl
either last false rest among e = e

alone : (last : Bool) → cond last true false ≡ last || false
alone true = refl
alone false = refl

among_more : (names : List (List ℕ)) (last name : List ℕ)
    → cond (bytes_eq last name) true (is_among name names) ≡ is_among name (names ++ last ∷ [])
among_more [] last name = alone (bytes_eq last name)
among_more (first ∷ rest) last name =
    either (bytes_eq last name) (bytes_eq first name) (is_among name rest) (is_among name (rest ++ last ∷ []))
    (among_more rest last name)

-- one more member, and its name
pub kept_more : (names : List (List ℕ)) (types : List TypeId) (given more : BTreeSet (List ℕ)) (last : List ℕ)
    (of : TypeId) → IsKept names types given → Updates (slice_cmp nat_cmp) given more last true
    → IsKept (names ++ last ∷ []) (types ++ of ∷ []) more
kept_more names types given more last of kept updates = record {
  count = omega (arith, kept.count, length-append names (last ∷ []), length-append types (of ∷ []));
  given = λ name. updates.0 name
      ∙ (λ i. cond (is_eq-slice_cmp last name i) true (kept.given name i)) ∙ among_more names last name;
}

-- what holds where a call succeeds
pub if_no_error : {A E P : Type 0} (result : Result A E) → is_err result ≡ false → OnOk result P → P
if_no_error (Ok x) e holds = holds
if_no_error (Err x) e holds = absurd (cc)

pub chosen_if_no_error : {A E X : Type 0} (result : Result A E) (done failed : X) → is_err result ≡ false
    → (if is_ok result then done else failed) ≡ done
chosen_if_no_error (Ok x) done failed e = refl
chosen_if_no_error (Err x) done failed e = absurd (cc)
