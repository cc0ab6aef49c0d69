-- A composite that is not made leaves the table as it was.
use Rattle.std.proofs.Common.{◌≡◌, length, rules, subst, sym, ◌∙◌}
use Rattle.std.specs.Prelude.{Result, Ok, Err, OnErr}
use Rattle.std.proofs.lemmas.List.{length-map}
use Rattle.c_types.specs.Types.{Types}
use Rattle.c_types.specs.Composite.{AddsTypes}
use Rattle.c_types.specs.Inner.{IsSound, types_of, parts_of}
use Rattle.c_types.proofs.Composites.{agree-loose}
use Rattle.c_types.proofs.Composing.{cut}
use Rattle.c_types.proofs.table.TypeTable.composite.Goals as goal

pub compose-composite-requires-clause-compatible : goal.compose-composite-requires-clause-compatible
compose-composite-requires-clause-compatible c = agree-loose _ _ c.requires.compatible

pub invariant_of-self : goal.invariant_of-self
invariant_of-self c =
    let old = types_of c.self.inside in
    let mid = types_of c.self-2.inside in
    let count : c.len-made.result ≡ length c.self.inside.made.items = search rules in
    let counted : c.len-functions.result ≡ length c.self.inside.functions.items = search rules in
    let number : c.len-functions.result ≡ length old.functions =
    counted ∙ sym (length-map c.self.inside.functions.items parts_of) in
    let added : AddsTypes old mid =
    subst (λ (t : Types). AddsTypes t mid) (sym c.self.view_is)
    (subst (λ (t : Types). AddsTypes c.args.self.now t) (sym c.self-2.view_is) c.compose-composite.ensures.more) in
    let same = cut c.self-2.inside.made.items c.truncate.new.self.items c.self-2.inside.functions.items
    c.truncate-then-is_err.new.self.items c.self-2.inside.compounds.items c.self-2.inside.enumerations _ _ old
    c.truncate.ensures.items c.truncate-then-is_err.ensures.items count number added in
    subst IsSound (sym same) c.self.invariant

pub returns-then-is_err-clause-err : goal.returns-then-is_err-clause-err
returns-then-is_err-clause-err c =
    let old = types_of c.self.inside in
    let mid = types_of c.self-2.inside in
    let count : c.len-made.result ≡ length c.self.inside.made.items = search rules in
    let counted : c.len-functions.result ≡ length c.self.inside.functions.items = search rules in
    let number : c.len-functions.result ≡ length old.functions =
    counted ∙ sym (length-map c.self.inside.functions.items parts_of) in
    let added : AddsTypes old mid =
    subst (λ (t : Types). AddsTypes t mid) (sym c.self.view_is)
    (subst (λ (t : Types). AddsTypes c.args.self.now t) (sym c.self-2.view_is) c.compose-composite.ensures.more) in
    let same = cut c.self-2.inside.made.items c.truncate.new.self.items c.self-2.inside.functions.items
    c.truncate-then-is_err.new.self.items c.self-2.inside.compounds.items c.self-2.inside.enumerations _ _ old
    c.truncate.ensures.items c.truncate-then-is_err.ensures.items count number added in
    OnErr-from c.compose-composite.result (same ∙ c.self.view_is)
  where
    OnErr-from : {T E P : Type 0} (r : Result T E) → P → OnErr r P
    OnErr-from (Ok x) p = tt
    OnErr-from (Err e) p = p
