-- The set has the new name.
use Rattle.std.proofs.Common.{◌≡◌, ◌∙◌, [], ◌∷◌, ◌++◌, true, subst, sym}
use Rattle.std.specs.BTreeSet.{Updates}
use Rattle.std.specs.Cmp.Lexicographic.{slice_cmp}
use Rattle.std.specs.Ordering.{nat_cmp}
use Rattle.c_statement_rules.specs.Units.{IsKept}
use Rattle.c_statement_rules.proofs.Adding.{if_no_error, kept_names}
use Rattle.c_statement_rules.proofs.names.NameList.push.Goals as goal

pub invariant_of-self-else-is_err : goal.invariant_of-self-else-is_err
invariant_of-self-else-is_err c =
    let set = c.insert.new.self in
    let name = c.args.name.now in
    let key : c.in_ok-key.key ≡ name = c.in_ok-key.ensures ∙ c.bytes.ensures in
    let last : c.in_ok-kept.kept ≡ name = c.in_ok-kept.ensures ∙ c.bytes-2.ensures in
    let names : c.push.new.self.items ≡ c.self.inside.names.items ++ c.in_ok-kept.kept ∷ [] =
    c.in_ok-push.ensures.items in
    let updates : Updates (slice_cmp nat_cmp) c.self.inside.given set c.in_ok-key.key true =
    if_no_error _ (sym c.is_err.ensures.value ∙ c.if-is_err.false) c.insert.ensures.updates in
    let all =
    kept_names c.self.inside.names.items c.self.inside.given set name c.self.invariant
    (subst (λ k. Updates (slice_cmp nat_cmp) c.self.inside.given set k true) key updates) in
    subst (λ all. IsKept all set) (sym names)
    (subst (λ k. IsKept (c.self.inside.names.items ++ k ∷ []) set) (sym last) all)
