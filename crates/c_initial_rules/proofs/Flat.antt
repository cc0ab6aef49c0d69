-- Loops that put the parts of a list behind one another.
use Rattle.std.proofs.Common.{◌≡◌, ◌∙◌, ℕ, ◌+◌, ◌<◌, ◌≤◌, List, [], ◌∷◌, ◌++◌, length, drop, ap, sym, append_assoc}
use Rattle.std.proofs.Common.{append-nil, slice_index_or}
use Rattle.std.proofs.lemmas.List.{drop_more, drop_all}

-- what is made of a list is what is made of its first, and behind that what is made of the rest
module _ {X Y : Type 0} (of_one : X → List Y) (of_all : List X → List Y)
    (opened : (x : X) (xs : List X) → of_all (x ∷ xs) ≡ of_one x ++ of_all xs) where
  -- one more is done
  pub flat_step : (xs : List X) (i : ℕ) (d : X) (done after all : List Y) → i < length xs
      → done ++ of_all (drop i xs) ≡ all → after ≡ done ++ of_one (slice_index_or xs i d)
      → after ++ of_all (drop (i + 1) xs) ≡ all
  flat_step xs i d done after all h so_far is =
      ap (λ r. r ++ of_all (drop (i + 1) xs)) is
      ∙ append_assoc done (of_one (slice_index_or xs i d)) (of_all (drop (i + 1) xs))
      ∙ ap (λ r. done ++ r) (sym (opened (slice_index_or xs i d) (drop (i + 1) xs)))
      ∙ ap (λ r. done ++ of_all r) (sym (drop_more xs i d h)) ∙ so_far

  -- all are done
  pub flat_end : of_all [] ≡ [] → (xs : List X) (i : ℕ) (done all : List Y) → length xs ≤ i
      → done ++ of_all (drop i xs) ≡ all → done ≡ all
  flat_end none xs i done all h so_far =
      sym (append-nil done) ∙ ap (λ r. done ++ r) (sym none) ∙ ap (λ r. done ++ of_all r) (sym (drop_all i xs h))
      ∙ so_far
