-- What the marks of some cells say of a store to them.
use Rattle.std.specs.Prelude.{List, Option, Some, None, if◌then◌else◌}
use Rattle.std.specs.List.{list_any}
use Rattle.critical_table.specs.declared.case.Case.{Case}
use Rattle.critical_table.specs.declared.case.Case.TheVariants.{L2, L5, L8}
use Rattle.object_store.specs.declared.cell.Cell.{Cell}
use Rattle.object_store.specs.Reach.{is_clash, is_literal, is_const}

-- the case that the store is
abbrev pub marked_case : List Cell → Option Case
marked_case cells =
    if list_any (λ c. is_clash c.mark) cells then Some L2 else
    if list_any (λ c. is_literal c.mark) cells then Some L5 else
    if list_any (λ c. is_const c.mark) cells then Some L8 else None
