-- The range that is read lies in an object that stays in the list.
use Rattle.std.proofs.Common.{◌≡◌, [], length, slice_get, Some, arith}
use Rattle.std.proofs.lemmas.List.{length-set}
use Rattle.std.proofs.lemmas.Option.{slice_get_within}
use Rattle.object_store.specs.Object.{Object}
use Rattle.object_store.proofs.RangeLemmas.{IsLiveRange-set_other, slice_get-set_same, copy_is_store, length_read}
use Rattle.object_store.proofs.ranges.copy_between.Goals as goal

pub cells_at-requires : goal.cells_at-requires
cells_at-requires c =
    let o : Object = c.requires.to.object in
    let at : slice_get c.args.slots.now.items c.index_of-index.result ≡ Some o =
    rw c.index_of-index.ensures c.requires.to.at in
    rw (c.take_cells-cells.ensures o at).1
    (IsLiveRange-set_other c.args.slots.now.items c.index_of-index.result (record o { cells = [] })
    c.args.from c.args.len (rw c.index_of-index.ensures c.requires.other) c.requires.from)

pub copy_into-requires : goal.copy_into-requires
copy_into-requires c =
    let o : Object = c.requires.to.object in
    let at : slice_get c.args.slots.now.items c.index_of-index.result ≡ Some o =
    rw c.index_of-index.ensures c.requires.to.at in
    let taken = c.take_cells-cells.ensures o at in
    let read : length c.cells_at.result.now ≡ c.args.len =
    length_read c.args.slots.now.items c.take_cells-cells.new.slots.items c.args.from c.args.len c.index_of-index.result
    (record o { cells = [] }) c.cells_at.result.now c.requires.from (rw c.index_of-index.ensures c.requires.other)
    taken.1 c.cells_at.ensures in
    rw taken.0 (omega (arith, c.requires.to.high, c.requires.to.within))

pub give_cells-requires : goal.give_cells-requires
give_cells-requires c =
    let o : Object = c.requires.to.object in
    let at : slice_get c.args.slots.now.items c.index_of-index.result ≡ Some o =
    rw c.index_of-index.ensures c.requires.to.at in
    rw ((c.take_cells-cells.ensures o at).1, length-set {A = Object})
    (slice_get_within c.args.slots.now.items c.index_of-index.result o at)

pub returns : goal.returns
returns c =
    let o : Object = c.requires.to.object in
    let at : slice_get c.args.slots.now.items c.index_of-index.result ≡ Some o =
    rw c.index_of-index.ensures c.requires.to.at in
    let taken = c.take_cells-cells.ensures o at in
    let empty : Object = record o { cells = [] } in
    let mid : slice_get c.take_cells-cells.new.slots.items c.index_of-index.result ≡ Some empty =
    rw taken.1 (slice_get-set_same c.args.slots.now.items c.index_of-index.result o empty at) in
    copy_is_store c.args.slots.now.items c.take_cells-cells.new.slots.items c.give_cells.new.slots.items c.args.to
    c.args.from c.args.len
    c.index_of-index.result c.cells_at.result.now c.copy_into.new.cells.items c.requires.to c.requires.from
    c.index_of-index.ensures
    (rw c.index_of-index.ensures c.requires.other) taken.1 c.cells_at.ensures (rw taken.0 at c.copy_into.ensures)
    (c.give_cells.ensures empty mid)
