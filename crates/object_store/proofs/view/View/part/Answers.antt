-- A part of the cells is that part of their bytes.
use Rattle.std.proofs.Common.{◌≡◌, ◌-◌, ◌+◌, arith}
use Rattle.std.proofs.lemmas.List.{take-map, drop-map}
use Rattle.object_store.proofs.view.View.part.Goals as goal

pub returns : goal.returns
returns c =
    let same : c.args.at + c.args.len - c.args.at ≡ c.args.len = omega arith in
    rw (← c.self.view_is, c.new.ensures) (simp (take-map, drop-map, same))
