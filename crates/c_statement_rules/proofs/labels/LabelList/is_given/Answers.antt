-- The set has the values of the labels.
use Rattle.std.proofs.Common.{◌≡◌, ◌∙◌, ap, rules}
use mir.Syntax.{w128}
use mir.Val.{of_z, to_z}
use Rattle.std.specs.BTreeSet.{contains_by}
use Rattle.std.specs.Ordering.{int_cmp}
use Rattle.c_statement_rules.specs.Labels.{Labels, is_among}
use Rattle.c_statement_rules.proofs.labels.LabelList.is_given.Goals as goal

pub returns : goal.returns
returns c =
    let same : to_z w128 (of_z w128 c.args.value) ≡ c.args.value = search rules in
    c.contains.ensures ∙ ap (λ z. contains_by (int_cmp z) c.self.inside.values) same ∙ c.self.invariant c.args.value
    ∙ ap (λ (labels : Labels). is_among c.args.value labels.cases) c.self.view_is
