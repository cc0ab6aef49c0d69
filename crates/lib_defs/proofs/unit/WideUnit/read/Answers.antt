-- The unit is the number of the bytes that the view has at its place.
use Rattle.std.proofs.Common.{◌≡◌, refl, rules, ap, sym, ◌∙◌, ◌*◌, take, drop, Some, None}
use Rattle.object_store.specs.Load.{known_number}
use Rattle.lib_defs.proofs.Views.{four_bytes}
use Rattle.lib_defs.proofs.unit.WideUnit.read.Goals as goal

pub returns-in-None-clause-value : goal.returns-in-None-clause-value
returns-in-None-clause-value c =
    let h : known_number (take 4 (drop (4 * c.args.index) c.args.view.now)) ≡ None =
    ap known_number (four_bytes c.args.view.now _ _ _ _ _ c.byte.ensures c.byte-2.ensures c.byte-3.ensures
    c.byte-4.ensures) ∙ sym c.known_four.ensures ∙ c.in-None.is in
    rw h refl

pub returns-in-Some-clause-value : goal.returns-in-Some-clause-value
returns-in-Some-clause-value c =
    let h : known_number (take 4 (drop (4 * c.args.index) c.args.view.now)) ≡ Some c.in-Some.number =
    ap known_number (four_bytes c.args.view.now _ _ _ _ _ c.byte.ensures c.byte-2.ensures c.byte-3.ensures
    c.byte-4.ensures) ∙ sym c.known_four.ensures ∙ c.in-Some.is in
    rw h (search rules)
