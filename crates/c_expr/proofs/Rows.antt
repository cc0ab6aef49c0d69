-- Lists of parts as a loop goes through them: what is left.
use Rattle.std.proofs.Common.{◌≡◌, ◌∙◌, ℕ, ◌+◌, ◌<◌, ◌≤◌, List, [], ◌∷◌, length, get_or, drop, map, ap, sym}
use Rattle.std.proofs.Math.ListN.{drop_of_length-le}
use Rattle.std.proofs.Math.Numerals.{add-one}
use Rattle.std.proofs.Math.Seq.{drop-cons}

module _ {A B C : Type 0} (row : List B → C) (f : A → B) (list : List A) where
  -- the part at the index, and those behind it
  pub left_at : (i : ℕ) (x : A) → i < length list → x ≡ get_or list i x
      → row (map f (drop i list)) ≡ row (f x ∷ map f (drop (i + 1) list))
  left_at i x h e =
      ap (λ xs. row (map f xs)) (drop-cons list i x h)
      ∙ (λ k. row (f (sym e k) ∷ map f (drop (sym (add-one i) k) list)))

  -- nothing
  pub left_none : (i : ℕ) → length list ≤ i → row (map f (drop i list)) ≡ row []
  left_none i h = ap (λ xs. row (map f xs)) (drop_of_length-le list h)
