use Rattle.std.proofs.Common.{rules}
use Rattle.std.proofs.lemmas.List.Sorted.{IsNonDecreasingBy-from_sort_by_key, answers_always}
use Rattle.c_initial_rules.proofs.InPlace.{sorted_in_place}
use Rattle.c_initial_rules.proofs.seals.put_in_place.Goals as goal

pub returns : goal.returns
returns c =
    sorted_in_place _ _
    (IsNonDecreasingBy-from_sort_by_key (λ range. range.at) _ c.in_ok-sort_by_key.ensures.sorted
    (λ a r q k. search rules))
    (c.sort_by_key.ensures.stable (λ range. range.at) (answers_always _ _ _ (λ f a r g h. search rules)))
