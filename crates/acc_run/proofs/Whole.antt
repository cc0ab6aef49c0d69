-- A unit is read in one way.
use Rattle.std.proofs.Common.{◌≡◌, ℕ, ◌≤◌, List, [], ◌∷◌, ◌++◌, length, get_or, refl, sym, ◌∙◌, ap, subst, arith}
use Rattle.std.proofs.Common.{append_assoc}
use Rattle.std.proofs.lemmas.List.{append_cancel_left}
use Rattle.std.proofs.lemmas.List.Elements.{recursion_from_All}
use Rattle.std.specs.List.{flat_map, All, AllByRecursion}
use Rattle.std.specs.Prelude.{codes}
use Rattle.std.specs.Fmt.{decimal}
use Rattle.acc_run.specs.Program.{UnitParts, IsUnit, greatest_constant, longest_unit, putchar_call, plus_term, spelling}
use Rattle.acc_run.specs.PartEnds.{EndsNumeral, EndsCalls, EndsSum}
use Rattle.acc_run.proofs.Fronts.{number_front, call_front, term_front}

-- constants that fit
abbrev pub AreConstants : List ℕ → Type 0
AreConstants = AllByRecursion (λ constant. constant ≤ greatest_constant)

-- the calls at the front are of one list of arguments
pub calls_front : (ms ns x y : _) → AreConstants ms → AreConstants ns → EndsCalls x → EndsCalls y
    → flat_map putchar_call ms ++ x ≡ flat_map putchar_call ns ++ y → (ms ≡ ns) × (x ≡ y)
calls_front [] [] x y p q stops ends h = (refl, h)
calls_front [] (n ∷ ns) x y p q stops ends h =
    absurd (stops n (flat_map putchar_call ns ++ y) q.0 (h ∙ append_assoc (putchar_call n) _ y))
calls_front (m ∷ ms) [] x y p q stops ends h =
    absurd (ends m (flat_map putchar_call ms ++ x) p.0 (sym h ∙ append_assoc (putchar_call m) _ x))
calls_front (m ∷ ms) (n ∷ ns) x y p q stops ends h =
    let one = call_front m n (flat_map putchar_call ms ++ x) (flat_map putchar_call ns ++ y) p.0 q.0
    (sym (append_assoc (putchar_call m) _ x) ∙ (h ∙ append_assoc (putchar_call n) _ y)) in
    let rest = calls_front ms ns x y p.1 q.1 stops ends one.1 in
    let same : m ≡ n = one.0 in
    let others : ms ≡ ns = rest.0 in
    ((cc), rest.1)

-- a summand, and what stands behind it, ends a numeral
pub term_ends : (ns y : List ℕ) → EndsNumeral y → EndsNumeral (flat_map plus_term ns ++ y)
term_ends [] y ends = ends
term_ends (n ∷ ns) y ends = refl

-- the summands at the front are one list
pub terms_front : (ms ns x y : _) → AreConstants ms → AreConstants ns → EndsSum x → EndsSum y → EndsNumeral x
    → EndsNumeral y → flat_map plus_term ms ++ x ≡ flat_map plus_term ns ++ y → (ms ≡ ns) × (x ≡ y)
terms_front [] [] x y p q stops ends closes finishes h = (refl, h)
terms_front [] (n ∷ ns) x y p q stops ends closes finishes h =
    absurd (stops n (flat_map plus_term ns ++ y) q.0 (term_ends ns y finishes) (h ∙ append_assoc (plus_term n) _ y))
terms_front (m ∷ ms) [] x y p q stops ends closes finishes h =
    absurd (ends m (flat_map plus_term ms ++ x) p.0 (term_ends ms x closes) (sym h ∙ append_assoc (plus_term m) _ x))
terms_front (m ∷ ms) (n ∷ ns) x y p q stops ends closes finishes h =
    let one = term_front m n (flat_map plus_term ms ++ x) (flat_map plus_term ns ++ y) p.0 q.0
    (term_ends ms x closes) (term_ends ns y finishes) (sym (append_assoc (plus_term m) _ x)
    ∙ (h ∙ append_assoc (plus_term n) _ y)) in
    let rest = terms_front ms ns x y p.1 q.1 stops ends closes finishes one.1 in
    let same : m ≡ n = one.0 in
    let others : ms ≡ ns = rest.0 in
    ((cc), rest.1)

-- the text behind the first summand
abbrev pub terms_text : UnitParts → List ℕ
terms_text parts = flat_map plus_term parts.rest ++ codes ";}"

-- the text from the first summand on
abbrev pub sum_text : UnitParts → List ℕ
sum_text parts = decimal parts.first ++ terms_text parts

-- the spelling, part after part
pub spelling_parts : (parts : UnitParts)
    → spelling parts ≡ codes "int main(void){"
    ++ (flat_map putchar_call parts.outputs ++ (codes "return " ++ sum_text parts))
spelling_parts parts =
    append_assoc (codes "int main(void){") (flat_map putchar_call parts.outputs ++ codes "return ") (sum_text parts)
    ∙ ap (λ text. codes "int main(void){" ++ text)
    (append_assoc (flat_map putchar_call parts.outputs) (codes "return ") (sum_text parts))

-- no call stands at `return`
return_ends : (more : List ℕ) → EndsCalls (codes "return " ++ more)
return_ends more n after small h = let first : ◌≡◌ {A = ℕ} 114 112 = ap (λ (text : List ℕ). get_or text 0 0) h in
    omega arith

-- no summand stands at the end
end_ends : EndsSum (codes ";}")
end_ends n after small ends h = let first : ◌≡◌ {A = ℕ} 59 43 = ap (λ (text : List ℕ). get_or text 0 0) h in omega arith

module _ (parts : UnitParts) (bytes : List ℕ) (unit : IsUnit parts bytes) where
  -- the bytes, part after part
  spelled_parts : bytes ≡ codes "int main(void){"
      ++ (flat_map putchar_call parts.outputs ++ (codes "return " ++ sum_text parts))
  spelled_parts = unit.spelled ∙ spelling_parts parts

  -- what stands behind the head
  pub behind_head : (rest : List ℕ) → bytes ≡ codes "int main(void){" ++ rest
      → rest ≡ flat_map putchar_call parts.outputs ++ (codes "return " ++ sum_text parts)
  behind_head rest h = append_cancel_left (codes "int main(void){") _ _ (sym h ∙ spelled_parts)

  pub has_head : ((rest : List ℕ) → bytes ≡ codes "int main(void){" ++ rest → ⊥) → ⊥
  has_head none = none _ spelled_parts

  -- the calls are those of the unit, and what stands behind them
  pub behind_calls : (rest after : List ℕ) (outputs : List ℕ) → bytes ≡ codes "int main(void){" ++ rest
      → rest ≡ flat_map putchar_call outputs ++ after → All (λ constant. constant ≤ greatest_constant) outputs
      → EndsCalls after → (outputs ≡ parts.outputs) × (after ≡ codes "return " ++ sum_text parts)
  behind_calls rest after outputs head spelled fit stops =
      calls_front outputs parts.outputs after (codes "return " ++ sum_text parts) (recursion_from_All _ _ fit)
      (recursion_from_All _ _ unit.fits.outputs) stops (return_ends (sum_text parts)) (sym spelled
      ∙ behind_head rest head)

  -- the first summand is that of the unit, and what stands behind it
  pub behind_first : (rest after : List ℕ) (first : ℕ) → rest ≡ sum_text parts → rest ≡ decimal first ++ after
      → first ≤ greatest_constant → EndsNumeral after → (first ≡ parts.first) × (after ≡ terms_text parts)
  behind_first rest after first is spelled small ends =
      number_front first parts.first after (terms_text parts) small unit.fits.first ends
      (term_ends parts.rest (codes ";}") refl) (sym spelled ∙ is)

  -- the further summands are those of the unit, and what stands behind them
  pub behind_terms : (after end : List ℕ) (terms : List ℕ) → after ≡ terms_text parts
      → after ≡ flat_map plus_term terms ++ end → All (λ constant. constant ≤ greatest_constant) terms → EndsSum end
      → EndsNumeral end → (terms ≡ parts.rest) × (end ≡ codes ";}")
  behind_terms after end terms is spelled fit stops ends =
      terms_front terms parts.rest end (codes ";}") (recursion_from_All _ _ fit)
      (recursion_from_All _ _ unit.fits.rest) stops end_ends ends refl (sym spelled ∙ is)

-- parts that agree are the same
same_parts : (f g : UnitParts) → f.outputs ≡ g.outputs → f.first ≡ g.first → f.rest ≡ g.rest → f ≡ g
same_parts f g outputs first rest =
    let with_outputs : List ℕ → UnitParts = λ outputs. record { outputs = outputs; first = f.first; rest = f.rest } in
    let with_first : ℕ → UnitParts = λ first. record { outputs = g.outputs; first = first; rest = f.rest } in
    let with_rest : List ℕ → UnitParts = λ rest. record { outputs = g.outputs; first = g.first; rest = rest } in
    ap with_outputs outputs ∙ (ap with_first first ∙ ap with_rest rest)

-- one form is spelled so
pub unique_parts : (f g : UnitParts) (bytes : List ℕ) → IsUnit f bytes → IsUnit g bytes → f ≡ g
unique_parts f g bytes p q =
    let rest = flat_map putchar_call g.outputs ++ (codes "return " ++ sum_text g) in
    let head : bytes ≡ codes "int main(void){" ++ rest = q.spelled ∙ spelling_parts g in
    let calls = behind_calls f bytes p rest (codes "return " ++ sum_text g) g.outputs head refl q.fits.outputs
    (return_ends (sum_text g)) in
    let sum : sum_text g ≡ sum_text f = append_cancel_left (codes "return ") _ _ calls.1 in
    let first = behind_first f bytes p (sum_text g) (terms_text g) g.first sum refl q.fits.first
    (term_ends g.rest (codes ";}") refl) in
    let terms = behind_terms f bytes p (terms_text g) (codes ";}") g.rest first.1 refl q.fits.rest end_ends refl in
    same_parts f g (sym calls.0) (sym first.0) (sym terms.0)

-- spelled_parts that follow one another are the unit
pub unit_of_pieces : (parts : UnitParts) (bytes behind_head behind_calls behind_return behind_first end : List ℕ) →
    bytes ≡ codes "int main(void){" ++ behind_head → behind_head ≡ flat_map putchar_call parts.outputs ++ behind_calls →
    behind_calls ≡ codes "return " ++ behind_return → behind_return ≡ decimal parts.first ++ behind_first →
    behind_first ≡ flat_map plus_term parts.rest ++ end → end ≡ codes ";}" → length bytes ≤ longest_unit →
    All (λ constant. constant ≤ greatest_constant) parts.outputs → parts.first ≤ greatest_constant
    → All (λ constant. constant ≤ greatest_constant) parts.rest →
    IsUnit parts bytes
unit_of_pieces parts bytes r1 r2 r3 r4 r5 head calls return first rest end short outputs_fit first_fits rest_fit =
    let whole : bytes ≡ spelling parts =
    head ∙ (ap (λ text. codes "int main(void){" ++ text) (calls
    ∙ ap (λ text. flat_map putchar_call parts.outputs ++ text) (return
    ∙ ap (λ text. codes "return " ++ text) (first
    ∙ ap (λ text. decimal parts.first ++ text) (rest
    ∙ ap (λ text. flat_map plus_term parts.rest ++ text) end)))) ∙ sym (spelling_parts parts)) in
    record {
      spelled = whole;
      fits = record {
        outputs = outputs_fit;
        first = first_fits;
        rest = rest_fit;
        short =
            subst (λ text. length text ≤ longest_unit) whole short;
      };
    }
