-- The goals of `declare` that are answered by hand.
use Rattle.std.proofs.Common.{◌≡◌, [], ◌∷◌, ◌++◌, Some, sym, ◌∙◌, subst}
use Rattle.std.specs.BTreeMap.{get, Updates}
use Rattle.std.specs.Cmp.Lexicographic.{slice_cmp}
use Rattle.std.specs.Ordering.{nat_cmp}
use Rattle.c_parser.specs.declared.scope.Entry.{Entry}
use Rattle.c_parser.specs.Known.{IsKept}
use Rattle.c_parser.proofs.Kept.{kept_more}
use Rattle.c_parser.proofs.scope.Scope.declare.Goals as goal

pub invariant_of-self-in-Ok : goal.invariant_of-self-in-Ok
invariant_of-self-in-Ok c =
    let last : Entry = record {
      name = c.in_ok-name.name;
      names_type = c.args.names_type;
      hidden =
          c.copied-hidden.result;
    } in
    let items : c.push.new.self.items ≡ c.self.inside.entries.items ++ last ∷ [] = c.in_ok-push.ensures.items in
    let same : c.in_ok-key.key ≡ c.in_ok-name.name = c.in_ok-key.ensures ∙ c.bytes.ensures
    ∙ sym (c.in_ok-name.ensures ∙ c.bytes-2.ensures) in
    let found : c.copied-hidden.result ≡ get (slice_cmp nat_cmp) c.self.inside.names c.in_ok-key.key =
    cc (c.get.ensures.value, c.copied-hidden.ensures) in
    let updates : Updates (slice_cmp nat_cmp) c.self.inside.names c.insert.new.self c.in_ok-key.key
    (Some c.args.names_type) = c.in-Ok.ensures.updates in
    let found_last : last.hidden ≡ get (slice_cmp nat_cmp) c.self.inside.names last.name =
    subst (λ name. last.hidden ≡ get (slice_cmp nat_cmp) c.self.inside.names name) same found in
    let updates_last =
    subst (λ name. Updates (slice_cmp nat_cmp) c.self.inside.names c.insert.new.self name
    (Some c.args.names_type)) same updates in
    subst
    (λ all. IsKept all c.insert.new.self)
    (sym items)
    (kept_more c.self.inside.entries.items last c.self.inside.names c.insert.new.self c.self.invariant found_last
    updates_last)
