-- The string rows keep the laws.
use Rattle.std.proofs.Common.{◌≡◌, ℕ, ◌+◌, ◌-◌, ◌<◌, nat_le, Bool, true, false, [], ◌∷◌, refl, subst, arith}
use Rattle.std.specs.Prelude.{pos}
use Rattle.std.proofs.lemmas.Grind.{common_steps}
use Rattle.object_store.specs.declared.by.By.TheVariants.{TextWrite}
use Rattle.object_store.specs.declared.pointer.Pointer.{Pointer}
use Rattle.object_store.specs.Storage.{Storage}
use Rattle.lib_defs.specs.declared.value.Value.TheVariants.{Num}
use Rattle.lib_defs.specs.Units.{size, unit_place}
use Rattle.lib_defs.specs.Text.{goes_on, text}
use Rattle.lib_defs.specs.Constraints.{Look, Saw, look, see_text}
use Rattle.lib_defs.specs.Columns.{is_null, units}
use Rattle.lib_defs.specs.TextRows.{length_row, text_copy_row, append_row}
use Rattle.lib_defs.specs.RuleLaws.{RuleKeeps}
use Rattle.lib_defs.proofs.RuleLemmas.{SeenFits, look_fits, span_fits, rule_keeps, reaching_fits, doing_fits}
use Rattle.lib_defs.proofs.RuleLemmas.{bytes_long, stores_reached}
use Rattle.lib_defs.proofs.RuleSuccess.{stores_fit, nothing_fits, branch_fits, length_of, size_within}
use Rattle.lib_defs.proofs.WholeTexts.{span_reached}

pub text_fits : (w : ℕ) (s : Storage) (p : Pointer) (m : ℕ) → SeenFits s (see_text w s p m)
text_fits w s p m = span_fits goes_on w s p m

pub length_keeps : (w : ℕ) (p : Pointer) (max : ℕ) → RuleKeeps (length_row w p max)
length_keeps w p max = rule_keeps (length_row w p max) (λ s sized. tt) (λ s sized e passes.
    branch_fits (length_row w p max) s (is_null p) _ _
    (λ null. nothing_fits (length_row w p max) s passes (Num (pos 0)))
    (λ some. doing_fits (length_row w p max) s (see_text w s p max) _ (text_fits w s p max) (λ k is.
    nothing_fits (length_row w p max) s passes (Num (pos k)))))

saw_false : (b : Bool) → Saw b ≡ Saw false → b ≡ false
saw_false true e = cc
saw_false false e = refl

-- a constraint on what was seen holds
pub seen_holds : {A : Type 0} (seen : Look A) (go : A → Look Bool) (a : A) → seen ≡ Saw a → look seen go ≡ Saw false
    → go a ≡ Saw false
seen_holds seen go a is e = subst (λ x. look x go ≡ Saw false) is e

pub test_holds : {A : Type 0} (seen : Look A) (test : A → Bool) (a : A) → seen ≡ Saw a
    → look seen (λ x. Saw (test x)) ≡ Saw false
    → test a ≡ false
test_holds seen test a is e = saw_false (test a) (seen_holds seen (λ x. Saw (test x)) a is e)

pub text_copy_keeps : (w : ℕ) → 0 < w → (s1 : Pointer) (s1max : ℕ) (s2 : Pointer)
    → RuleKeeps (text_copy_row w s1 s1max s2)
text_copy_keeps w some s1 s1max s2 = rule_keeps (text_copy_row w s1 s1max s2)
    (λ s sized. (
      tt,
      (
        tt,
        (
          tt,
          (
            tt,
            (
              look_fits s (see_text w s s2 s1max) _ (text_fits w s s2 s1max) (λ k e. tt),
              (look_fits s (see_text w s s2 s1max) _ (text_fits w s s2 s1max) (λ k e. tt), tt),
            ),
          ),
        ),
      ),
    ))
    (λ s sized e passes.
    doing_fits (text_copy_row w s1 s1max s2) s (see_text w s s2 s1max) _ (text_fits w s s2 s1max) (λ k is.
    let fits : nat_le s1max k ≡ false = test_holds (see_text w s s2 s1max) (λ n. nat_le s1max n) k is e.1.1.1.1.0 in
    let more : k < s1max = grind (arith, common_steps, fits) in
    let read : text w s s2 s1max ≡ _ = length_of w (text w s s2 s1max) k is in
    reaching_fits (text_copy_row w s1 s1max s2) s s1 (size w (k + 1)) w TextWrite _ (λ write.
    stores_fit (text_copy_row w s1 s1max s2) s passes (record { place = s1; bytes = units w s s2 (k + 1) } ∷ [])
    (Num (pos 0)) (
      stores_reached s s1 (size w (k + 1)) w (units w s s2 (k + 1))
          (bytes_long s s2 (size w (k + 1))
          (span_reached goes_on w s s2 some s1max k (size w (k + 1)) read more (size_within w k))) write,
      tt,
    )
    (omega arith))))

pub append_keeps : (w : ℕ) → 0 < w → (s1 : Pointer) (s1max : ℕ) (s2 : Pointer) → RuleKeeps (append_row w s1 s1max s2)
append_keeps w some s1 s1max s2 = rule_keeps (append_row w s1 s1max s2)
    (λ s sized.
    let tail : (j : ℕ) (go : ℕ → Look Bool) → ((k : ℕ) → SeenFits s (go k))
    → SeenFits s (look (see_text w s s2 (s1max - j)) go) =
    λ j go next. look_fits s (see_text w s s2 (s1max - j)) go (text_fits w s s2 (s1max - j)) (λ k e. next k) in (
      tt,
      (
        tt,
        (
          tt,
          (
            tt,
            (
              look_fits s (see_text w s s1 s1max) _ (text_fits w s s1 s1max) (λ j e. tt),
              (
                look_fits s (see_text w s s1 s1max) _ (text_fits w s s1 s1max) (λ j e. tail j _ (λ k. tt)),
                (look_fits s (see_text w s s1 s1max) _ (text_fits w s s1 s1max) (λ j e. tail j _ (λ k. tt)), tt),
              ),
            ),
          ),
        ),
      ),
    ))
    (λ s sized e passes.
    doing_fits (append_row w s1 s1max s2) s (see_text w s s1 s1max) _ (text_fits w s s1 s1max) (λ j is.
    doing_fits (append_row w s1 s1max s2) s (see_text w s s2 (s1max - j)) _ (text_fits w s s2 (s1max - j)) (λ k read.
    let fits : nat_le (s1max - j) k ≡ false =
    test_holds (see_text w s s2 (s1max - j)) (λ n. nat_le (s1max - j) n) k read
    (seen_holds (see_text w s s1 s1max) (λ i. look (see_text w s s2 (s1max - i)) (λ n. Saw (nat_le (s1max - i) n)))
    j is e.1.1.1.1.1.0) in
    let more : k < s1max - j = grind (arith, common_steps, fits) in
    let tail : text w s s2 (s1max - j) ≡ _ = length_of w (text w s s2 (s1max - j)) k read in
    reaching_fits (append_row w s1 s1max s2) s (unit_place w s1 j) (size w (k + 1)) w TextWrite _ (λ write.
    stores_fit (append_row w s1 s1max s2) s passes (record {
      place = unit_place w s1 j;
      bytes =
          units w s s2 (k + 1);
    } ∷ []) (Num (pos 0)) (
      stores_reached s (unit_place w s1 j) (size w (k + 1)) w (units w s s2 (k + 1))
          (bytes_long s s2 (size w (k + 1))
          (span_reached goes_on w s s2 some (s1max - j) k (size w (k + 1)) tail more (size_within w k))) write,
      tt,
    )
    (omega arith)))))
