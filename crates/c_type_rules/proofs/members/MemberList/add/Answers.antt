-- The set has the name of the new member.
use Rattle.std.proofs.Common.{◌≡◌, ◌∙◌, [], ◌∷◌, ◌++◌, true, subst, sym}
use Rattle.std.specs.BTreeSet.{Updates}
use Rattle.std.specs.Cmp.Lexicographic.{slice_cmp}
use Rattle.std.specs.Ordering.{nat_cmp}
use Rattle.c_type_rules.specs.Completing.{IsKept}
use Rattle.c_type_rules.proofs.Given.{chosen_if_no_error, if_no_error, kept_more}
use Rattle.c_type_rules.proofs.members.MemberList.add.Goals as goal

pub invariant_of-self-else-is_err-2 : goal.invariant_of-self-else-is_err-2
invariant_of-self-else-is_err-2 c =
    let set = c.insert.new.self in
    let name = c.args.member.name in
    let names : c.push.new.self.items ≡ c.self.inside.names.items ++ name ∷ [] = c.in_ok-push.ensures.items in
    let types : c.push-2.new.self.items ≡ c.self.inside.types.items ++ c.args.member.of ∷ [] =
    c.push-2.ensures.items ∙ chosen_if_no_error _ _ _ (sym c.is_err.ensures.value ∙ c.if-is_err.false) in
    let key : c.in_ok-key.key ≡ name = c.in_ok-key.ensures ∙ c.bytes.ensures in
    let updates : Updates (slice_cmp nat_cmp) c.self.inside.given set c.in_ok-key.key true =
    if_no_error _ (sym c.is_err-2.ensures.value ∙ c.if-is_err-2.false) c.insert.ensures.updates in
    let kept =
    kept_more c.self.inside.names.items c.self.inside.types.items c.self.inside.given set name c.args.member.of
    c.self.invariant (subst (λ k. Updates (slice_cmp nat_cmp) c.self.inside.given set k true) key updates) in
    subst (λ all. IsKept all c.push-2.new.self.items set) (sym names)
    (subst (λ all. IsKept (c.self.inside.names.items ++ name ∷ []) all set) (sym types) kept)
