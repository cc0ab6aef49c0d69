-- The rows of error texts and of wide characters keep the laws.
use Rattle.std.proofs.Common.{◌≡◌, ℕ, cond, List, [], ◌∷◌, length, map, not, Some, None, refl, arith}
use Rattle.std.specs.Prelude.{ℤ, pos, negsuc}
use Rattle.std.proofs.lemmas.List.{length-map}
use Rattle.object_store.specs.declared.by.By.TheVariants.{TextWrite, OtherWrite}
use Rattle.object_store.specs.declared.pointer.Pointer.{Pointer}
use Rattle.object_store.specs.Storage.{Storage}
use Rattle.object_store.specs.Reach.{reach, IsReachedToStore}
use Rattle.lib_defs.specs.declared.value.Value.TheVariants.{Num}
use Rattle.lib_defs.specs.Units.{byte_number}
use Rattle.lib_defs.specs.Columns.{is_null}
use Rattle.lib_defs.specs.OtherRows.{error_text, text_within, fits_within, error_text_row, error_length_row, has_byte}
use Rattle.lib_defs.specs.OtherRows.{int_patch, wide_char_row}
use Rattle.lib_defs.specs.RuleLaws.{RuleKeeps}
use Rattle.lib_defs.proofs.RuleLemmas.{rule_keeps, reaching_fits, stores_reached}
use Rattle.lib_defs.proofs.RuleSuccess.{stores_fit, nothing_fits, branch_fits}

pub error_text_keeps : (p : Pointer) (max : ℕ) (errnum : ℤ) → RuleKeeps (error_text_row p max errnum)
error_text_keeps p max errnum = rule_keeps (error_text_row p max errnum) (λ s sized. (tt, (tt, (tt, tt))))
    (λ s sized e passes.
    let bytes : List ℕ = text_within (error_text errnum) max in
    reaching_fits (error_text_row p max errnum) s p (length bytes) 1 TextWrite _ (λ write.
    stores_fit (error_text_row p max errnum) s passes (record { place = p; bytes = map Some bytes } ∷ [])
    (Num (cond (fits_within (error_text errnum) max) (pos 0) (pos 34)))
    (stores_reached s p (length bytes) 1 (map Some bytes) (length-map bytes Some) write, tt) (omega arith)))

pub error_length_keeps : (errnum : ℤ) → RuleKeeps (error_length_row errnum)
error_length_keeps errnum = rule_keeps (error_length_row errnum) (λ s sized. tt)
    (λ s sized e passes. nothing_fits (error_length_row errnum) s passes (Num (pos (length (error_text errnum)))))

int_reached : (s : Storage) (status : Pointer) (n : ℤ) → reach s status 4 4 OtherWrite ≡ None
    → IsReachedToStore s status (length (int_patch status n).bytes)
int_reached s status n write = record { align = 4; by = OtherWrite; storing = refl; reached = write }

pub wide_char_keeps : (status p : Pointer) (max : ℕ) (wc : ℤ) → RuleKeeps (wide_char_row status p max wc)
wide_char_keeps status p max wc = rule_keeps (wide_char_row status p max wc) (λ s sized. (tt, (tt, (tt, tt))))
    (λ s sized e passes.
    branch_fits (wide_char_row status p max wc) s (is_null p) _ _
    (λ null. reaching_fits (wide_char_row status p max wc) s status 4 4 OtherWrite _ (λ write.
    stores_fit (wide_char_row status p max wc) s passes (int_patch status (pos 0) ∷ []) (Num (pos 0))
    (int_reached s status (pos 0) write, tt) (omega arith)))
    (λ some. branch_fits (wide_char_row status p max wc) s (not (has_byte wc)) _ _
    (λ none. reaching_fits (wide_char_row status p max wc) s status 4 4 OtherWrite _ (λ write.
    stores_fit (wide_char_row status p max wc) s passes (int_patch status (negsuc 0) ∷ []) (Num (pos 84))
    (int_reached s status (negsuc 0) write, tt) (omega arith)))
    (λ byte. reaching_fits (wide_char_row status p max wc) s p 1 1 OtherWrite _ (λ first.
    reaching_fits (wide_char_row status p max wc) s status 4 4 OtherWrite _ (λ write.
    stores_fit (wide_char_row status p max wc) s passes
    (record { place = p; bytes = Some (byte_number wc) ∷ [] } ∷ int_patch status (pos 1) ∷ []) (Num (pos 0))
    (record { align = 1; by = OtherWrite; storing = refl; reached = first }, (int_reached s status (pos 1) write, tt))
    (omega arith))))))
