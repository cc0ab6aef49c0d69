-- What the goals of the cycle are left with.
use Rattle.std.proofs.Common.{◌≡◌, ℕ, zero, suc, [], ◌∷◌, ◌++◌, map, ap, ◌-◌, ◌<◌, true, false, sym, ◌∙◌, refl, subst}
use Rattle.std.proofs.Common.{arith}
use Rattle.std.proofs.lemmas.Result.{err_from_is_err_and}
use Rattle.c_lexer.specs.declared.punct.Punct.TheVariants as p
use Rattle.c_parser.specs.Agree.{Gives}
use Rattle.c_reading.specs.ReadBody.{initializers, listed_items}
use Rattle.c_syntax.specs.ViewUnit.{items}
use Rattle.c_reading.specs.Parser.{Found, next_body, tail}
use Rattle.c_reading.specs.ReadToken.{is_mark}
use Rattle.c_syntax.specs.ScopesUnit.{items_add}
use Rattle.c_syntax.specs.ViewUnit.{initializer_of, item_of}
use Rattle.c_reading.proofs.Online.Declaration.{initializers_online}
use Rattle.c_reading.proofs.Online.Steps.{online_pure}
use Rattle.c_parser.proofs.Pushed.{pushed, added}
use Rattle.c_parser.proofs.PushedBody.{items_add_more}
use Rattle.c_parser.proofs.Refused.{refused}
use Rattle.c_parser.proofs.Turns.{list_refused, list_last, list_ended, list_turn, mark_shorter}
use Rattle.c_parser.proofs.body.initializer.+initializing.Goals as goal

initializers_at : (h : ℕ) → 0 < h → initializers h ≡ initializers (suc (h - 1))
initializers_at zero some = absurd (omega arith)
initializers_at (suc k) some = let below : k ≡ suc k - 1 = omega arith in ap (λ j. initializers (suc j)) below

pub initializer-returns-then-h-gt0-clause-reads : goal.initializer-returns-then-h-gt0-clause-reads
initializer-returns-then-h-gt0-clause-reads t c =
    subst (λ r. Gives (λ x. initializer_of x.value) (r.initializer c.args.scope.now c.args.tokens.now)
    c.initializer_at.result) (sym (initializers_at c.args.h (omega arith))) c.initializer_at.ensures.reads

pub item-returns-then-h-gt0-clause-reads : goal.item-returns-then-h-gt0-clause-reads
item-returns-then-h-gt0-clause-reads t c =
    subst (λ r. Gives (λ x. item_of x.value) (r.item c.args.scope.now c.args.tokens.now) c.item_at.result)
    (sym (initializers_at c.args.h (omega arith))) c.item_at.ensures.reads

-- ---- lists

pub listed_items-returns-in_err-one-clause-reads : goal.listed_items-returns-in_err-one-clause-reads
unfolding listed_items
listed_items-returns-in_err-one-clause-reads t c =
    let p = err_from_is_err_and c.from_residual.result c.from_residual.ensures.1 in
    rw (p.1, p.2) (refused _ ((initializers c.args.k).item c.each.scope c.each.rest.now) c.in_err-one.field-0.0
    (λ why rest e. list_refused _ _ _ _ _ refl (online_pure tt) (initializers_online c.args.k).item _ _ c.each.scope
    c.each.rest.now c.each.invariant.reads rest why e)
    c.in_err-one.ensures.reads)

pub listed_items-returns-then-not-is_mark-clause-reads : goal.listed_items-returns-then-not-is_mark-clause-reads
unfolding listed_items
listed_items-returns-then-not-is_mark-clause-reads t c =
    let more = c.in_ok-push.ensures.items ∙ ap (λ x. c.each.items.items ++ x ∷ []) c.into_inner.ensures in
    list_last _ _ _ _ _ refl (online_pure tt) (initializers_online c.args.k).item _ _ c.each.scope c.each.rest.now
    c.each.invariant.reads
    c.in_ok-one.behind.now (item_of c.in_ok-one.one.value) _ (pushed item_of _ _ _ more) c.in_ok-one.ensures.reads
    (sym c.if-not-is_mark.ensures)

pub listed_items-returns-then-not-is_mark-clause-scope : goal.listed_items-returns-then-not-is_mark-clause-scope
listed_items-returns-then-not-is_mark-clause-scope t c =
    let more = c.in_ok-push.ensures.items ∙ ap (λ x. c.each.items.items ++ x ∷ []) c.into_inner.ensures in
    added _ _ _ _ _ _ c.each.invariant.scope c.in_ok-one.ensures.scope
    (ap (λ all. items_add (items (map item_of all))) more ∙ items_add_more c.each.items.items c.in_ok-one.one.value)

pub listed_items-returns-then-is_mark-clause-reads : goal.listed_items-returns-then-is_mark-clause-reads
unfolding listed_items
listed_items-returns-then-is_mark-clause-reads t c =
    let more = c.in_ok-push.ensures.items ∙ ap (λ x. c.each.items.items ++ x ∷ []) c.into_inner.ensures in
    let over : is_mark p.CloseBrace (next_body (tail c.in_ok-one.behind.now)) ≡ true =
    ap (λ rest. is_mark p.CloseBrace (next_body rest)) (sym c.tail-rest.ensures) ∙ sym c.if-is_mark.ensures in
    list_ended _ _ _ _ _ refl (online_pure tt) (initializers_online c.args.k).item _ _ c.each.scope c.each.rest.now
    c.each.invariant.reads
    c.in_ok-one.behind.now c.tail-rest.result.now (item_of c.in_ok-one.one.value) _ (pushed item_of _ _ _ more)
    c.in_ok-one.ensures.reads (sym c.if-not-is_mark.ensures) over
    (ap (Found tt) (sym c.tail-rest.ensures))

pub listed_items-returns-then-is_mark-clause-scope : goal.listed_items-returns-then-is_mark-clause-scope
listed_items-returns-then-is_mark-clause-scope t c =
    let more = c.in_ok-push.ensures.items ∙ ap (λ x. c.each.items.items ++ x ∷ []) c.into_inner.ensures in
    added _ _ _ _ _ _ c.each.invariant.scope c.in_ok-one.ensures.scope
    (ap (λ all. items_add (items (map item_of all))) more ∙ items_add_more c.each.items.items c.in_ok-one.one.value)

pub listed_items-each-smaller : goal.listed_items-each-smaller
listed_items-each-smaller t c =
    mark_shorter ((initializers c.args.k).item c.each.scope) ((initializers_online c.args.k).item c.each.scope)
    p.Comma c.each.rest.now c.in_ok-one.behind.now c.tail-rest.result.now _ c.in_ok-one.ensures.reads
    (sym c.if-not-is_mark.ensures) c.tail-rest.ensures

pub listed_items-each-preserved : goal.listed_items-each-preserved
unfolding listed_items
listed_items-each-preserved t c =
    let more = c.in_ok-push.ensures.items ∙ ap (λ x. c.each.items.items ++ x ∷ []) c.into_inner.ensures in
    let another : is_mark p.CloseBrace (next_body (tail c.in_ok-one.behind.now)) ≡ false =
    ap (λ rest. is_mark p.CloseBrace (next_body rest)) (sym c.tail-rest.ensures) ∙ sym c.if-is_mark.ensures in
    record {
      reads = list_turn _ _ _ _ _ refl (online_pure tt) (initializers_online c.args.k).item _ _ c.each.scope
          c.each.rest.now c.each.invariant.reads
          c.in_ok-one.behind.now c.tail-rest.result.now (item_of c.in_ok-one.one.value) _ _
          (pushed item_of _ _ _ more) c.in_ok-one.ensures.scope c.tail-rest.ensures c.in_ok-one.ensures.reads
          (sym c.if-not-is_mark.ensures) another;
      scope = added _ _ _ _ _ _ c.each.invariant.scope c.in_ok-one.ensures.scope
          (ap (λ all. items_add (items (map item_of all))) more
          ∙ items_add_more c.each.items.items c.in_ok-one.one.value);
    }
