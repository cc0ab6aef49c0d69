-- The row of tokens keeps the laws.
use Rattle.std.proofs.Common.{◌≡◌, ℕ, ◌+◌, ◌-◌, ◌==◌, Bool, true, false, cond, ◌∷◌, map, length, Option, Some, None}
use Rattle.std.proofs.Common.{refl, arith}
use Rattle.std.specs.Prelude.{ok_or}
use Rattle.std.proofs.lemmas.List.{length-replicate}
use Rattle.critical_table.specs.declared.code.Code.TheVariants.{U05}
use Rattle.object_store.specs.declared.by.By.TheVariants.{TextRead, TextWrite}
use Rattle.object_store.specs.declared.pointer.Pointer.{Pointer}
use Rattle.object_store.specs.Storage.{Storage}
use Rattle.object_store.specs.Steps.{bytes_at}
use Rattle.object_store.specs.Reach.{reach, IsReachedToStore}
use Rattle.object_store.specs.Load.{known_number, pointer_bytes, load_pointer}
use Rattle.lib_defs.specs.declared.value.Value.{Value}
use Rattle.lib_defs.specs.declared.value.Value.TheVariants.{Ptr}
use Rattle.lib_defs.specs.Units.{rsize_max, unit_place}
use Rattle.lib_defs.specs.Spans.{span}
use Rattle.lib_defs.specs.Shown.{none_fails}
use Rattle.lib_defs.specs.Reply.{Did, null}
use Rattle.lib_defs.specs.Constraints.{Look, Saw, length_seen, see_string, decisions}
use Rattle.lib_defs.specs.Columns.{is_null, null_unit}
use Rattle.lib_defs.specs.Rules.{done_with}
use Rattle.lib_defs.specs.Laws.{AreReached}
use Rattle.lib_defs.specs.TokenRows.{see_load, see_max, see_place, see_start, is_separator, is_inside, is_null_at}
use Rattle.lib_defs.specs.TokenRows.{Found, NoToken, ByNull, BySeparator, NotEnded, behind, see_token, see_window}
use Rattle.lib_defs.specs.TokenRows.{both_patches, reach_both_then, found_did, token_row}
use Rattle.lib_defs.specs.RuleLaws.{RuleFits, RuleKeeps}
use Rattle.lib_defs.proofs.RuleLemmas.{SeenFits, look_fits, range_fits, span_fits, rule_keeps, reaching_fits}
use Rattle.lib_defs.proofs.RuleLemmas.{doing_fits}
use Rattle.lib_defs.proofs.RuleSuccess.{stores_fit, nothing_fits}
use Rattle.lib_defs.proofs.TextLaws.{text_fits}

loaded_fits : {A : Type 0} (s : Storage) (found : Option A) → SeenFits s (see_load (ok_or found U05))
loaded_fits s None = refl
loaded_fits s (Some a) = tt

max_fits : (s : Storage) (s1max : Pointer) → SeenFits s (see_max s s1max)
max_fits s s1max = range_fits s s1max 8 8 TextRead _ (loaded_fits s (known_number (bytes_at s s1max 8)))

place_fits : (s : Storage) (ptr : Pointer) → SeenFits s (see_place s ptr)
unfolding load_pointer
place_fits s ptr = range_fits s ptr 16 8 TextRead _ (loaded_fits s _)

test_fits : {A : Type 0} (s : Storage) (b : Bool) (x y : Look A) → SeenFits s x → SeenFits s y → SeenFits s (cond b x y)
test_fits s true x y hx hy = hx
test_fits s false x y hx hy = hy

start_fits : (s : Storage) (s1 ptr : Pointer) → SeenFits s (see_start s s1 ptr)
start_fits s s1 ptr = test_fits s (is_null s1) (see_place s ptr) (Saw s1) (place_fits s ptr) tt

behind_fits : (w : ℕ) (s : Storage) (s2 : Pointer) (k : ℕ) (p : Pointer) (window t : ℕ)
    → SeenFits s (behind w s s2 k p window t)
behind_fits w s s2 k p window t =
    test_fits s (t == window) (Saw NotEnded) _ tt
    (test_fits s (is_null_at w s p t) (Saw (NoToken t)) _ tt
    (look_fits s (length_seen w (span (is_inside w s s2 k) w s (unit_place w p t) (window - t))) _
    (span_fits (is_inside w s s2 k) w s (unit_place w p t) (window - t)) (λ n e. tt)))

token_fits : (w : ℕ) (s : Storage) (s2 p : Pointer) (window : ℕ) → SeenFits s (see_token w s s2 p window)
token_fits w s s2 p window =
    look_fits s (see_string w s s2) _ (text_fits w s s2 (rsize_max + 1)) (λ k e.
    look_fits s (length_seen w (span (is_separator w s s2 k) w s p window)) _
    (span_fits (is_separator w s s2 k) w s p window) (λ t f.
    behind_fits w s s2 k p window t))

window_fits : (w : ℕ) (s : Storage) (s1 s1max s2 ptr : Pointer) → SeenFits s (see_window w s s1 s1max s2 ptr)
window_fits w s s1 s1max s2 ptr =
    look_fits s (see_start s s1 ptr) _ (start_fits s s1 ptr) (λ p e.
    look_fits s (see_max s s1max) _ (max_fits s s1max) (λ window f.
    look_fits s (see_token w s s2 p window) _ (token_fits w s s2 p window) (λ found g. tt)))

-- a pointer has sixteen bytes
pointer_long : (p : Pointer) → length (map Some (pointer_bytes p)) ≡ 16
unfolding pointer_bytes
pointer_long p = refl

module _ (w : ℕ) (s1 s1max s2 ptr : Pointer) (s : Storage)
    (passes : none_fails (decisions (token_row w s1 s1max s2 ptr).constraints) ≡ true) where
  abbrev Fits : Did → Type 0
  Fits d = RuleFits (token_row w s1 s1max s2 ptr) s d

  both_reached : (units : ℕ) (place : Pointer) → reach s s1max 8 8 TextWrite ≡ None → reach s ptr 16 8 TextWrite ≡ None
      → AreReached s (both_patches s1max ptr units place)
  both_reached units place max there = (
    record { align = 8; by = TextWrite; storing = refl; reached = max },
    (record { align = 8; by = TextWrite; storing = refl; reached = rw (pointer_long place) there }, tt),
  )

  both_fit : (go : Did) → (reach s s1max 8 8 TextWrite ≡ None → reach s ptr 16 8 TextWrite ≡ None → Fits go)
      → Fits (reach_both_then s s1max ptr go)
  both_fit go next =
      reaching_fits (token_row w s1 s1max s2 ptr) s s1max 8 8 TextWrite _ (λ max.
      reaching_fits (token_row w s1 s1max s2 ptr) s ptr 16 8 TextWrite _ (λ there. next max there))

  two_fit : (units : ℕ) (place : Pointer) (value : Value)
      → Fits (reach_both_then s s1max ptr (done_with (both_patches s1max ptr units place) value))
  two_fit units place value = both_fit _ (λ max there.
      stores_fit (token_row w s1 s1max s2 ptr) s passes (both_patches s1max ptr units place) value
      (both_reached units place max there) (omega arith))

  unit_reached : (p : Pointer) → reach s p w w TextWrite ≡ None → IsReachedToStore s p (length (null_unit w))
  unit_reached p unit =
      let long : length (null_unit w) ≡ w = length-replicate w (Some 0) in
      record { align = w; by = TextWrite; storing = refl; reached = rw long unit }

  found_fits : (p : Pointer) (window : ℕ) (found : Found) → Fits (found_did w s s1max ptr p window found)
  found_fits p window (NoToken i) = two_fit (window - i) (unit_place w p i) (Ptr null)
  found_fits p window (ByNull t j) = two_fit (window - j) (unit_place w p j) (Ptr (unit_place w p t))
  found_fits p window (BySeparator t j) =
      reaching_fits (token_row w s1 s1max s2 ptr) s (unit_place w p j) w w TextWrite _ (λ unit.
      both_fit _ (λ max there.
      stores_fit (token_row w s1 s1max s2 ptr) s passes
      (record { place = unit_place w p j; bytes = null_unit w } ∷ both_patches s1max ptr (window - j - 1)
      (unit_place w p (j + 1)))
      (Ptr (unit_place w p t))
      (unit_reached (unit_place w p j) unit, both_reached (window - j - 1) (unit_place w p (j + 1)) max there)
      (omega arith)))
  found_fits p window NotEnded = nothing_fits (token_row w s1 s1max s2 ptr) s passes (Ptr null)

pub token_keeps : (w : ℕ) (s1 s1max s2 ptr : Pointer) → RuleKeeps (token_row w s1 s1max s2 ptr)
token_keeps w s1 s1max s2 ptr = rule_keeps (token_row w s1 s1max s2 ptr)
    (λ s sized. (
      tt,
      (
        tt,
        (
          tt,
          (
            test_fits s (is_null s1) _ (Saw false) (look_fits s (see_place s ptr) _ (place_fits s ptr) (λ p e. tt)) tt,
            (
              look_fits s (see_max s s1max) _ (max_fits s s1max) (λ window e. tt),
              (look_fits s (see_window w s s1 s1max s2 ptr) _ (window_fits w s s1 s1max s2 ptr) (λ window e. tt), tt),
            ),
          ),
        ),
      ),
    ))
    (λ s sized e passes.
    doing_fits (token_row w s1 s1max s2 ptr) s (see_window w s s1 s1max s2 ptr) _ (window_fits w s s1 s1max s2 ptr)
    (λ window is.
    found_fits w s1 s1max s2 ptr s passes window.from window.units window.found))
