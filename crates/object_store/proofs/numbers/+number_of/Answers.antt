-- Seven bytes make a number below 256 ^ 7.
use Rattle.std.proofs.Common.{ℕ, ◌-◌, ◌<◌, ◌≤◌, ◌^◌, List, length, take, drop, arith, lit<}
use Rattle.std.proofs.lemmas.List.{length-take, length-drop}
use Rattle.std.proofs.Math.Nat.{pow-le-pow_right}
use Rattle.object_store.specs.declared.cell.Cell.{Cell}
use Rattle.object_store.proofs.numbers.+number_of.Goals as goal

below_rest : (cells : List Cell) (n : ℕ) → length cells ≤ 8
    → n < 256 ^ length (take (length cells - 1) (drop 1 cells)) → n < 256 ^ 7
below_rest cells n few below =
    let count : length (take (length cells - 1) (drop 1 cells)) ≤ 7 = rw (length-take, length-drop) (omega arith) in
    omega (
      arith,
      pow-le-pow_right {n = 256} (lit< tt) {i = length (take (length cells - 1) (drop 1 cells))} {j =
          7} count,
    )

pub join-requires : goal.join-requires
join-requires t c =
    below_rest c.args.cells.now c.in_ok-others-in-len1-up.others c.requires c.in_ok-others-in-len1-up.ensures.bound
