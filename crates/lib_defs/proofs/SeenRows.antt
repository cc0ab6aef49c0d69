-- Each row has the same facts at the pointers that a line shows.
use Rattle.std.proofs.Common.{◌≡◌, ℕ, zero, suc, ◌*◌, ◌==◌, Bool, true, false, cond, not, ◌&&◌, nat_lt, List, [], ◌∷◌}
use Rattle.std.proofs.Common.{Option, Some, None, refl, ap, subst, ◌∙◌}
use Rattle.std.specs.Prelude.{ℤ}
use Rattle.object_store.specs.declared.pointer.Pointer.{Pointer}
use Rattle.lib_defs.specs.Units.{size}
use Rattle.lib_defs.specs.Reply.{Fill, null}
use Rattle.lib_defs.specs.Constraints.{decisions}
use Rattle.lib_defs.specs.Columns.{is_null, above, overlap, fill_action, end_action}
use Rattle.lib_defs.specs.MemoryRows.{copy_row, move_row, fill_row}
use Rattle.lib_defs.specs.TextRows.{length_row, text_copy_row, part_copy_row, append_row, part_append_row}
use Rattle.lib_defs.specs.TokenRows.{token_row}
use Rattle.lib_defs.specs.OtherRows.{has_byte, error_text_row, error_length_row, wide_char_row}
use Rattle.lib_defs.specs.Shown.{write_of, write_of_len, none_fails, is_first_failing}
use Rattle.lib_defs.proofs.SeenFacts.{seen_pointer, null_seen, some_seen, SameFacts, same_facts}

-- the action's store is the same
same_write : (n : ℕ) (f g : Fill) → f.place.object ≡ g.place.object → f.place.offset ≡ g.place.offset
    → write_of_len n f ≡ write_of_len n g
same_write zero f g object offset = refl
same_write (suc n) f g object offset = rw (object, offset) refl

write_if : (b : Bool) (f g : Fill) → f.len ≡ g.len → f.place.object ≡ g.place.object → f.place.offset ≡ g.place.offset
    → write_of (cond b (Some f) None) ≡ write_of (cond b (Some g) None)
write_if true f g len object offset = ap (λ n. write_of_len n f) len ∙ same_write g.len f g object offset
write_if false f g len object offset = refl

write_seen : (p : Pointer) (null_is b : Bool) (len byte : ℕ) → is_null p ≡ null_is
    → write_of (cond (not (is_null p) && b) (Some (record { place = p; len = len; byte = byte })) None)
    ≡ write_of (cond (not (is_null (seen_pointer p)) && b)
    (Some (record { place = seen_pointer p; len = len; byte = byte })) None)
write_seen p true b len byte e = rw (null_seen p, e) refl
write_seen p false b len byte e =
    rw (null_seen p, e)
    (write_if b (record { place = p; len = len; byte = byte })
    (record { place = record null { object = p.object; offset = p.offset }; len = len; byte = byte }) refl refl refl)

fills_seen : (w : ℕ) (p : Pointer) (max byte : ℕ) → write_of (fill_action w p max byte)
    ≡ write_of (fill_action w (seen_pointer p) max byte)
fills_seen w p max byte = write_seen p (is_null p) (not (above max)) (size w max) byte refl

ends_seen : (w : ℕ) (p : Pointer) (max : ℕ)
    → write_of (end_action w p max) ≡ write_of (end_action w (seen_pointer p) max)
ends_seen w p max = write_seen p (is_null p) (nat_lt 0 max && not (above max)) w 0 refl

-- the decided constraints, by whether pointers are null
one_null : (a c : Bool) (rest : List (Option Bool)) → c ≡ a → (Some (not a) ∷ rest) ≡ (Some (not c) ∷ rest)
one_null a c rest e = rw e refl

two_nulls : (a b c d : Bool) (rest : List (Option Bool)) → c ≡ a → d ≡ b
    → (Some (not a) ∷ Some (not b) ∷ rest) ≡ (Some (not c) ∷ Some (not d) ∷ rest)
two_nulls a b c d rest e f = rw (e, f) refl

pub move_facts : (w : ℕ) (s1 : Pointer) (s1max : ℕ) (s2 : Pointer) (n : ℕ)
    → SameFacts (move_row w s1 s1max s2 n) (move_row w (seen_pointer s1) s1max (seen_pointer s2) n)
move_facts w s1 s1max s2 n =
    same_facts (move_row w s1 s1max s2 n) (move_row w (seen_pointer s1) s1max (seen_pointer s2) n)
    (two_nulls (is_null s1) (is_null s2) _ _ _ (null_seen s1) (null_seen s2)) (fills_seen w s1 s1max 0) refl
    (λ class. refl)

pub fill_facts : (p : Pointer) (max c n : ℕ) → SameFacts (fill_row p max c n) (fill_row (seen_pointer p) max c n)
fill_facts p max c n = same_facts (fill_row p max c n) (fill_row (seen_pointer p) max c n)
    (one_null (is_null p) _ _ (null_seen p)) (fills_seen 1 p max c) refl (λ class. refl)

pub text_copy_facts : (w : ℕ) (s1 : Pointer) (s1max : ℕ) (s2 : Pointer)
    → SameFacts (text_copy_row w s1 s1max s2) (text_copy_row w (seen_pointer s1) s1max (seen_pointer s2))
text_copy_facts w s1 s1max s2 =
    same_facts (text_copy_row w s1 s1max s2) (text_copy_row w (seen_pointer s1) s1max (seen_pointer s2))
    (two_nulls (is_null s1) (is_null s2) _ _ _ (null_seen s1) (null_seen s2)) (ends_seen w s1 s1max) refl
    (λ class. refl)

pub part_copy_facts : (w : ℕ) (s1 : Pointer) (s1max : ℕ) (s2 : Pointer) (n : ℕ)
    → SameFacts (part_copy_row w s1 s1max s2 n) (part_copy_row w (seen_pointer s1) s1max (seen_pointer s2) n)
part_copy_facts w s1 s1max s2 n =
    same_facts (part_copy_row w s1 s1max s2 n) (part_copy_row w (seen_pointer s1) s1max (seen_pointer s2) n)
    (two_nulls (is_null s1) (is_null s2) _ _ _ (null_seen s1) (null_seen s2)) (ends_seen w s1 s1max) refl
    (λ class. refl)

pub append_facts : (w : ℕ) (s1 : Pointer) (s1max : ℕ) (s2 : Pointer)
    → SameFacts (append_row w s1 s1max s2) (append_row w (seen_pointer s1) s1max (seen_pointer s2))
append_facts w s1 s1max s2 =
    same_facts (append_row w s1 s1max s2) (append_row w (seen_pointer s1) s1max (seen_pointer s2))
    (two_nulls (is_null s1) (is_null s2) _ _ _ (null_seen s1) (null_seen s2)) (ends_seen w s1 s1max) refl
    (λ class. refl)

pub part_append_facts : (w : ℕ) (s1 : Pointer) (s1max : ℕ) (s2 : Pointer) (n : ℕ)
    → SameFacts (part_append_row w s1 s1max s2 n) (part_append_row w (seen_pointer s1) s1max (seen_pointer s2) n)
part_append_facts w s1 s1max s2 n =
    same_facts (part_append_row w s1 s1max s2 n) (part_append_row w (seen_pointer s1) s1max (seen_pointer s2) n)
    (two_nulls (is_null s1) (is_null s2) _ _ _ (null_seen s1) (null_seen s2)) (ends_seen w s1 s1max) refl
    (λ class. refl)

pub token_facts : (w : ℕ) (s1 s1max s2 ptr : Pointer)
    → SameFacts (token_row w s1 s1max s2 ptr)
    (token_row w (seen_pointer s1) (seen_pointer s1max) (seen_pointer s2) (seen_pointer ptr))
token_facts w s1 s1max s2 ptr =
    same_facts (token_row w s1 s1max s2 ptr)
    (token_row w (seen_pointer s1) (seen_pointer s1max) (seen_pointer s2) (seen_pointer ptr))
    (two_nulls (is_null s1max) (is_null s2) _ _ _ (null_seen s1max) (null_seen s2)
    ∙ ap (λ rest. Some (not (is_null (seen_pointer s1max))) ∷ Some (not (is_null (seen_pointer s2))) ∷ rest)
    (one_null (is_null ptr) _ _ (null_seen ptr)))
    refl refl (λ class. refl)

pub error_text_facts : (p : Pointer) (max : ℕ) (errnum : ℤ)
    → SameFacts (error_text_row p max errnum) (error_text_row (seen_pointer p) max errnum)
error_text_facts p max errnum = same_facts (error_text_row p max errnum) (error_text_row (seen_pointer p) max errnum)
    (one_null (is_null p) _ _ (null_seen p)) refl refl (λ class. refl)

wide_decided : (a c : Bool) (max : ℕ) (wc : ℤ) → c ≡ a
    → (Some (not (not a && (has_byte wc && nat_lt max 1))) ∷ Some (not (not a && above max)) ∷ Some
    (not (a && not (max == 0))) ∷ [])
    ≡ (Some (not (not c && (has_byte wc && nat_lt max 1))) ∷ Some (not (not c && above max)) ∷ Some
    (not (c && not (max == 0))) ∷ [])
wide_decided a c max wc e = rw e refl

pub wide_char_facts : (status p : Pointer) (max : ℕ) (wc : ℤ)
    → SameFacts (wide_char_row status p max wc) (wide_char_row (seen_pointer status) (seen_pointer p) max wc)
wide_char_facts status p max wc =
    same_facts (wide_char_row status p max wc) (wide_char_row (seen_pointer status) (seen_pointer p) max wc)
    (wide_decided (is_null p) (is_null (seen_pointer p)) max wc (null_seen p)) refl refl (λ class. refl)

-- rows without constraints
pub length_facts : (w : ℕ) (p q : Pointer) (max most : ℕ) → SameFacts (length_row w p max) (length_row w q most)
length_facts w p q max most = same_facts (length_row w p max) (length_row w q most) refl refl refl (λ class. refl)

pub error_length_facts : (errnum other : ℤ) → SameFacts (error_length_row errnum) (error_length_row other)
error_length_facts errnum other =
    same_facts (error_length_row errnum) (error_length_row other) refl refl refl (λ class. refl)

-- memcpy_s: its overlap is by the offsets of pointers, of which none is null once the first two hold
pub record SameFails (ds es : List (Option Bool)) : Type 0 where
  pub passes : none_fails ds ≡ true → none_fails es ≡ true
  pub first : (k : ℕ) → is_first_failing ds k ≡ true → is_first_failing es k ≡ true

both_fail : (ds es : List (Option Bool)) → SameFails (Some false ∷ ds) (Some false ∷ es)
both_fail ds es = record { passes = λ e. cc; first = at }
  where
    at : (k : ℕ) → is_first_failing (Some false ∷ ds) k ≡ true → is_first_failing (Some false ∷ es) k ≡ true
    at zero e = cc
    at (suc zero) e = refl
    at (suc (suc k)) e = cc

both_hold : (ds es : List (Option Bool)) → SameFails ds es → SameFails (Some true ∷ ds) (Some true ∷ es)
both_hold ds es h = record { passes = h.passes; first = at }
  where
    at : (k : ℕ) → is_first_failing (Some true ∷ ds) k ≡ true → is_first_failing (Some true ∷ es) k ≡ true
    at zero e = cc
    at (suc zero) e = cc
    at (suc (suc k)) e = h.first (suc k) e

copies : (a b x y : Bool) (m n l : Option Bool) → (a ≡ false → b ≡ false → x ≡ y)
    → SameFails (Some (not a) ∷ Some (not b) ∷ m ∷ n ∷ l ∷ Some (not x) ∷ [])
    (Some (not a) ∷ Some (not b) ∷ m ∷ n ∷ l ∷ Some (not y) ∷ [])
copies true b x y m n l same = both_fail _ _
copies false true x y m n l same = both_hold _ _ (both_fail _ _)
copies false false x y m n l same = let e : x ≡ y = same refl refl in
    rw e (record { passes = λ h. h; first = λ k h. h })

overlap_seen : (p : Pointer) (n : ℕ) (q : Pointer) (k : ℕ) → is_null p ≡ false → is_null q ≡ false
    → overlap p n q k ≡ overlap (seen_pointer p) n (seen_pointer q) k
overlap_seen p n q k a b = rw (some_seen p a, some_seen q b) refl

copy_fails : (w : ℕ) (s1 : Pointer) (s1max : ℕ) (s2 : Pointer) (n : ℕ)
    → SameFails (decisions (copy_row w s1 s1max s2 n).constraints)
    (decisions (copy_row w (seen_pointer s1) s1max (seen_pointer s2) n).constraints)
copy_fails w s1 s1max s2 n =
    subst (λ ds. SameFails (decisions (copy_row w s1 s1max s2 n).constraints) ds)
    (two_nulls (is_null s1) (is_null s2) (is_null (seen_pointer s1)) (is_null (seen_pointer s2)) _ (null_seen s1)
    (null_seen s2))
    (copies (is_null s1) (is_null s2) (overlap s1 (w * n) s2 (w * n))
    (overlap (seen_pointer s1) (w * n) (seen_pointer s2) (w * n)) _ _ _
    (λ a b. overlap_seen s1 (w * n) s2 (w * n) a b))

pub copy_facts : (w : ℕ) (s1 : Pointer) (s1max : ℕ) (s2 : Pointer) (n : ℕ)
    → SameFacts (copy_row w s1 s1max s2 n) (copy_row w (seen_pointer s1) s1max (seen_pointer s2) n)
copy_facts w s1 s1max s2 n = record {
  passes = (copy_fails w s1 s1max s2 n).passes;
  first = (copy_fails w s1 s1max s2 n).first;
  action = fills_seen w s1 s1max 0;
  classes = refl;
  failure = λ class. refl;
}
