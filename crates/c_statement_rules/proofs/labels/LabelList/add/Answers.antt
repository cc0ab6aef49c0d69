-- The set has the value of the new label.
use Rattle.std.proofs.Common.{◌≡◌, ◌∙◌, [], ◌∷◌, ◌++◌, true, subst, sym, rules}
use mir.Syntax.{w128}
use mir.Val.{of_z, to_z}
use Rattle.std.specs.BTreeSet.{Updates}
use Rattle.std.specs.Ordering.{int_cmp}
use Rattle.c_statement_rules.specs.Labels.{IsKept}
use Rattle.c_statement_rules.proofs.Adding.{if_no_error, kept_cases}
use Rattle.c_statement_rules.proofs.labels.LabelList.add.Goals as goal

pub invariant_of-self-else-is_err : goal.invariant_of-self-else-is_err
invariant_of-self-else-is_err c =
    let set = c.insert.new.self in
    let cases : c.push.new.self.items ≡ c.self.inside.cases.items ++ c.args.case ∷ [] = c.in_ok-push.ensures.items in
    let same : to_z w128 (of_z w128 c.args.case.value) ≡ c.args.case.value = search rules in
    let updates =
    subst (λ z. Updates int_cmp c.self.inside.values set z true) same
    (if_no_error _ (sym c.is_err.ensures.value ∙ c.if-is_err.false) c.insert.ensures.updates) in
    subst (λ all. IsKept all set) (sym cases)
    (kept_cases c.self.inside.cases.items c.self.inside.values set c.args.case c.self.invariant updates)
