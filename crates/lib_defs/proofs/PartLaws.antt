-- The rows that store at most so many units and a null keep the laws.
use Rattle.std.proofs.Common.{◌≡◌, ℕ, zero, suc, ◌+◌, ◌-◌, ◌*◌, ◌<◌, nat_le, nat_lt, Bool, true, false, cond, List}
use Rattle.std.proofs.Common.{[], ◌∷◌, length, take, drop, Some, None, refl, sym, subst, ◌∙◌, arith}
use Rattle.std.specs.Prelude.{pos}
use Rattle.std.proofs.lemmas.List.{length-map, length-replicate}
use Rattle.object_store.specs.declared.by.By.TheVariants.{TextWrite}
use Rattle.object_store.specs.declared.cell.Cell.{Cell}
use Rattle.object_store.specs.declared.pointer.Pointer.{Pointer}
use Rattle.object_store.specs.Storage.{Storage}
use Rattle.object_store.specs.Steps.{bytes_at, cells_of, range}
use Rattle.object_store.specs.Reach.{reach, IsReachedToStore}
use Rattle.lib_defs.specs.declared.value.Value.TheVariants.{Num}
use Rattle.lib_defs.specs.declared.reading.Reading.TheVariants.{Length}
use Rattle.lib_defs.specs.Units.{size, unit_place}
use Rattle.lib_defs.specs.Text.{goes_on, text}
use Rattle.lib_defs.specs.Constraints.{Saw, look, see_text}
use Rattle.lib_defs.specs.Columns.{ended_units, null_unit}
use Rattle.lib_defs.specs.Laws.{IsSized, AreReached}
use Rattle.lib_defs.specs.TextRows.{is_long, part_copy_row, part_append_row}
use Rattle.lib_defs.specs.RuleLaws.{RuleKeeps}
use Rattle.lib_defs.proofs.Parts.{part_reached, front_reached, size_exact}
use Rattle.lib_defs.proofs.RuleLemmas.{SeenFits, look_fits, rule_keeps, reaching_fits, doing_fits, bytes_long}
use Rattle.lib_defs.proofs.RuleSuccess.{stores_fit, length_of}
use Rattle.lib_defs.proofs.TextLaws.{text_fits}
use Rattle.lib_defs.proofs.WholeTexts.{units_reached}

take_none : (cells : List Cell) → length (take 0 cells) ≡ 0
take_none [] = refl
take_none (c ∷ cells) = refl

none_long : (s : Storage) (p : Pointer) (n : ℕ) → n ≡ 0 → length (bytes_at s p n) ≡ n
none_long s p n e =
    rw e (length-map (range (cells_of s.objects p.object) p.offset 0) (λ (c : Cell). c.byte)
    ∙ take_none (drop p.offset (cells_of s.objects p.object)))

-- the units of a text without its null
pub units_long : (w : ℕ) (s : Storage) (p : Pointer) (m k : ℕ) → 0 < w → text w s p m ≡ Length k
    → length (bytes_at s p (w * k)) ≡ w * k
units_long w s p m zero some e = none_long s p (w * 0) (omega arith)
units_long w s p m (suc k) some e =
    bytes_long s p (w * suc k) (units_reached goes_on w s p some m (suc k) (w * suc k) (omega arith) e (omega arith))

-- units and a null, where the whole is reached
pub ended_reached : (w : ℕ) (s : Storage) (to from : Pointer) (k : ℕ) → IsSized s
    → length (bytes_at s from (w * k)) ≡ w * k
    → reach s to (size w (k + 1)) w TextWrite ≡ None → AreReached s (ended_units w s to from k)
ended_reached w s to from k sized long write =
    let exact : size w (k + 1) ≡ w * (k + 1) = size_exact s to w (k + 1) w TextWrite sized write in
    let next : w * (k + 1) ≡ w * k + w = grind arith in
    let whole : IsReachedToStore s to (w * (k + 1)) =
    record {
      align = w;
      by = TextWrite;
      storing = refl;
      reached =
          subst (λ n. reach s to n w TextWrite ≡ None) exact write;
    } in
    let units : IsReachedToStore s to (w * k) = front_reached s to (w * (k + 1)) (w * k) (omega (arith, next)) whole in
    let null : IsReachedToStore s (unit_place w to k) w =
    part_reached s to (w * (k + 1)) (w * k) w (omega (arith, next)) whole in
    let ended : length (null_unit w) ≡ w = length-replicate w (Some 0) in (
      subst (λ n. IsReachedToStore s to n) (sym long) units,
      (subst (λ n. IsReachedToStore s (unit_place w to k) n) (sym ended) null, tt),
    )

long_fits : (w : ℕ) (s : Storage) (s2 : Pointer) (n m : ℕ) → SeenFits s (is_long w s s2 n m)
long_fits w s s2 n m = at_test (nat_lt n m)
  where
    at_test : (b : Bool) → SeenFits s (cond b (Saw false) (look (see_text w s s2 m) (λ k. Saw (nat_le m k))))
    at_test true = tt
    at_test false = look_fits s (see_text w s s2 m) _ (text_fits w s s2 m) (λ k e. tt)

pub part_copy_keeps : (w : ℕ) → 0 < w → (s1 : Pointer) (s1max : ℕ) (s2 : Pointer) (n : ℕ)
    → RuleKeeps (part_copy_row w s1 s1max s2 n)
part_copy_keeps w some s1 s1max s2 n = rule_keeps (part_copy_row w s1 s1max s2 n)
    (λ s sized. (
      tt,
      (
        tt,
        (
          tt,
          (
            tt,
            (
              tt,
              (
                long_fits w s s2 n s1max,
                (look_fits s (see_text w s s2 n) _ (text_fits w s s2 n) (λ k e. tt), tt),
              ),
            ),
          ),
        ),
      ),
    ))
    (λ s sized e passes.
    doing_fits (part_copy_row w s1 s1max s2 n) s (see_text w s s2 n) _ (text_fits w s s2 n) (λ k is.
    reaching_fits (part_copy_row w s1 s1max s2 n) s s1 (size w (k + 1)) w TextWrite _ (λ write.
    stores_fit (part_copy_row w s1 s1max s2 n) s passes (ended_units w s s1 s2 k) (Num (pos 0))
    (ended_reached w s s1 s2 k sized (units_long w s s2 n k some (length_of w (text w s s2 n) k is)) write)
    (omega arith))))

pub part_append_keeps : (w : ℕ) → 0 < w → (s1 : Pointer) (s1max : ℕ) (s2 : Pointer) (n : ℕ)
    → RuleKeeps (part_append_row w s1 s1max s2 n)
part_append_keeps w some s1 s1max s2 n = rule_keeps (part_append_row w s1 s1max s2 n)
    (λ s sized. (
      tt,
      (
        tt,
        (
          tt,
          (
            tt,
            (
              tt,
              (
                look_fits s (see_text w s s1 s1max) _ (text_fits w s s1 s1max) (λ j e. tt),
                (
                  look_fits s (see_text w s s1 s1max) _ (text_fits w s s1 s1max)
                      (λ j e. long_fits w s s2 n (s1max - j)),
                  (
                    look_fits s (see_text w s s1 s1max) _ (text_fits w s s1 s1max) (λ j e.
                        look_fits s (see_text w s s2 n) _ (text_fits w s s2 n) (λ k f. tt)),
                    tt,
                  ),
                ),
              ),
            ),
          ),
        ),
      ),
    ))
    (λ s sized e passes.
    doing_fits (part_append_row w s1 s1max s2 n) s (see_text w s s1 s1max) _ (text_fits w s s1 s1max) (λ j front.
    doing_fits (part_append_row w s1 s1max s2 n) s (see_text w s s2 n) _ (text_fits w s s2 n) (λ k is.
    reaching_fits (part_append_row w s1 s1max s2 n) s (unit_place w s1 j) (size w (k + 1)) w TextWrite _ (λ write.
    stores_fit (part_append_row w s1 s1max s2 n) s passes (ended_units w s (unit_place w s1 j) s2 k) (Num (pos 0))
    (ended_reached w s (unit_place w s1 j) s2 k sized
    (units_long w s s2 n k some (length_of w (text w s s2 n) k is)) write)
    (omega arith)))))
