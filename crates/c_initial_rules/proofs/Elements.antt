-- Ranges of elements and of members, and how far structures lie in one another.
use Rattle.std.proofs.Common.{◌≡◌, ◌∙◌, ℕ, zero, suc, ◌+◌, ◌-◌, ◌*◌, ◌<◌, List, [], ◌∷◌, ◌++◌, refl, ap, sym, arith}
use Rattle.std.proofs.Common.{append_assoc, length}
use Rattle.std.specs.Prelude.{true, ◌==◌}
use Rattle.std.proofs.lemmas.Bool.Decides.{nat_tests}
use Rattle.c_core.specs.declared.function.Range.{Range}
use Rattle.c_types.specs.Structures.{Structure, structure_at, members_of_body}
use Rattle.c_initial_rules.specs.Seals.{of_elements, all_later, of_members, type_sealed, structure_sealed}

-- elements without ranges have none
pub no_elements : (count at size : ℕ) → of_elements count at size [] ≡ []
unfolding of_elements
no_elements zero at size = refl
no_elements (suc count) at size = no_elements count (at + size) size

-- no elements have none
pub elements_end : (at size : ℕ) (ranges : List Range) → of_elements 0 at size ranges ≡ []
unfolding of_elements
elements_end at size ranges = refl

opened_elements : (count at size : ℕ) (ranges : List Range)
    → of_elements (suc count) at size ranges ≡ all_later at ranges ++ of_elements count (at + size) size ranges
unfolding of_elements
opened_elements count at size ranges = refl

-- one more element
pub elements_step : (left at size : ℕ) (ranges done after all : List Range) → 0 < left
    → done ++ of_elements left at size ranges ≡ all → after ≡ done ++ all_later at ranges
    → after ++ of_elements (left - 1) (at + size) size ranges ≡ all
elements_step zero at size ranges done after all h so_far is = absurd (omega arith)
elements_step (suc left) at size ranges done after all h so_far is =
    let rest = of_elements left (at + size) size ranges in
    let one : suc left - 1 ≡ left = omega arith in
    ap (λ n. after ++ of_elements n (at + size) size ranges) one
    ∙ ap (λ r. r ++ rest) is ∙ append_assoc done (all_later at ranges) rest
    ∙ ap (λ r. done ++ r) (sym (opened_elements left at size ranges)) ∙ so_far

-- a structure's members
pub opened_structure : (depth : ℕ) (structures : List Structure) (number : ℕ) → 0 < depth
    → structure_sealed depth structures number
    ≡ of_members (λ type. type_sealed (structure_sealed (depth - 1) structures) type structures)
    (members_of_body (structure_at structures number).body)
unfolding structure_sealed
opened_structure zero structures number h = absurd (omega arith)
opened_structure (suc depth) structures number h =
    let one : depth ≡ suc depth - 1 = omega arith in
    ap (λ d. of_members (λ type. type_sealed (structure_sealed d structures) type structures)
    (members_of_body (structure_at structures number).body)) one

-- types of members lie lower
pub lies_lower : (depth count id : ℕ) → 0 < depth → id < count
    → (depth - 1) * (2 * count + 2) + 2 * id + 1 < depth * (2 * count + 2)
lies_lower zero count id h below = absurd (omega arith)
lies_lower (suc depth) count id h below =
    let one : suc depth - 1 ≡ depth = omega arith in
    let more : suc depth * (2 * count + 2) ≡ depth * (2 * count + 2) + (2 * count + 2) = grind arith in
    rw (one, more) (omega arith)

-- elements of an empty list of ranges
pub elements_of_none : (ranges : List Range) (count at size : ℕ) → true ≡ (length ranges == 0)
    → of_elements count at size ranges ≡ []
elements_of_none [] count at size h = no_elements count at size
elements_of_none (range ∷ ranges) count at size h = absurd (grind (arith, nat_tests))
