-- The goals of `externals` that are answered by hand.
use Rattle.std.proofs.Common.{◌≡◌, false, [], ◌∷◌, ◌++◌, map, refl, ◌∙◌, ap, rules}
use Rattle.std.proofs.lemmas.Result.{err_from_is_err_and}
use Rattle.c_reading.specs.ReadBody.{external_at}
use Rattle.c_syntax.specs.ViewUnit.{external_of}
use Rattle.c_reading.proofs.Online.Statement.{external_at_online, external_at_takes}
use Rattle.c_parser.proofs.Pushed.{pushed}
use Rattle.c_parser.proofs.Refused.{refused}
use Rattle.c_parser.proofs.Turns.{all_over, all_refused, all_turn, all_shorter}
use Rattle.c_parser.proofs.UnitTurns.{first_refused, first_read, some_seen, none_seen}
use Rattle.c_parser.proofs.body.unit.externals.Goals as goal

pub returns-in_err-first : goal.returns-in_err-first
returns-in_err-first c =
    let p = err_from_is_err_and c.from_residual-in_err-first.result c.from_residual-in_err-first.ensures.1 in
    rw (p.1, p.2) (refused _ (external_at c.args.k c.in_ok-scope.scope c.args.tokens.now) c.in_err-first.field-0.0
    (λ why rest e. first_refused c.args.k c.in_ok-scope.scope c.args.tokens.now rest why c.in_ok-scope.ensures e)
    c.in_err-first.ensures.reads)

pub each-init : goal.each-init
each-init c =
    let items = c.in_ok-push.ensures.items ∙ (λ i. c.new-all.ensures.items i ++ c.into_inner.ensures i ∷ []) in
    first_read c.args.k c.in_ok-scope.scope c.external_at.new.scope c.args.tokens.now c.in_ok-first.behind.now
    (external_of c.in_ok-first.first.value) _ c.in_ok-scope.ensures c.in_ok-first.ensures.reads
    c.in_ok-first.ensures.scope (ap (map external_of) items)

pub returns-in_err-one : goal.returns-in_err-one
returns-in_err-one c =
    let p = err_from_is_err_and c.from_residual-in_err-one.result c.from_residual-in_err-one.ensures.1 in
    let test : c.is_empty.result ≡ false = search rules in
    rw (p.1, p.2) (refused _ (external_at c.args.k c.each.scope c.each.rest.now) c.in_err-one.field-0.0
    (λ why rest e. all_refused _ _ _ (external_at_online c.args.k) (λ s. refl) (external_at_takes c.args.k) _ _
    c.each.scope c.each.rest.now c.each.invariant rest why
    (some_seen c.each.rest.now c.is_empty.result c.is_empty.ensures test) e)
    c.in_err-one.ensures.reads)

pub each-smaller : goal.each-smaller
each-smaller c =
    let test : c.is_empty.result ≡ false = search rules in
    all_shorter _ _ _ (external_at_online c.args.k) (λ s. refl) (external_at_takes c.args.k) _ _ c.each.scope
    c.each.rest.now c.each.invariant
    c.in_ok-one.behind.now (external_of c.in_ok-one.one.value)
    (some_seen c.each.rest.now c.is_empty.result c.is_empty.ensures test) c.in_ok-one.ensures.reads

pub each-preserved : goal.each-preserved
each-preserved c =
    let test : c.is_empty.result ≡ false = search rules in
    let items = c.in_ok-push-2.ensures.items ∙ ap (λ one. c.each.all.items ++ one ∷ []) c.into_inner-in-each.ensures in
    all_turn _ _ _ (external_at_online c.args.k) (λ s. refl) (external_at_takes c.args.k) _ _ c.each.scope
    c.each.rest.now c.each.invariant
    c.in_ok-one.behind.now (external_of c.in_ok-one.one.value) _ _ (pushed external_of _ _ _ items)
    c.in_ok-one.ensures.scope (some_seen c.each.rest.now c.is_empty.result c.is_empty.ensures test)
    c.in_ok-one.ensures.reads

pub returns : goal.returns
returns c =
    all_over _ _ _ (external_at_online c.args.k) (λ s. refl) (external_at_takes c.args.k) _ _ c.each.scope
    c.each.rest.now c.each.invariant
    (none_seen c.each.rest.now c.is_empty.result c.is_empty.ensures (search rules))
