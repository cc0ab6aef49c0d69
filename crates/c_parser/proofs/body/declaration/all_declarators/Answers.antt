-- The goals of `all_declarators` that are answered by hand.
use Rattle.std.proofs.Common.{List, [], ◌∷◌, ◌++◌, map, ap, sym, ◌∙◌, refl}
use Rattle.std.proofs.lemmas.List.{append-nil}
use Rattle.std.proofs.lemmas.Result.{err_from_is_err_and}
use Rattle.c_lexer.specs.declared.punct.Punct.TheVariants as p
use Rattle.c_reading.specs.Parser.{and_then, pure, ones}
use Rattle.c_reading.specs.ReadBody.{init_declarator, more_declarators, init_declarator_adds}
use Rattle.c_syntax.specs.ScopesUnit.{init_declarators_add}
use Rattle.c_syntax.specs.TreeUnit.{InitDeclarator}
use Rattle.c_syntax.specs.ViewUnit.{init_declarator_of}
use Rattle.c_reading.proofs.Online.Declaration.{init_declarator_online}
use Rattle.c_reading.proofs.Online.Steps.{online_pure}
use Rattle.c_parser.proofs.Pushed.{pushed, added}
use Rattle.c_parser.proofs.PushedBody.{inits_add_more}
use Rattle.c_parser.proofs.Refused.{refused}
use Rattle.c_parser.proofs.Turns.{rest_over, rest_refused, rest_turn, behind_shorter}
use Rattle.c_parser.proofs.body.declaration.all_declarators.Goals as goal

pub each-init : goal.each-init
each-init c =
    let one = init_declarator_adds c.args.k c.args.names_type (init_declarator_of c.args.first.value) in
    let more = c.in_ok-push.ensures.items ∙ (λ i. c.new-all.ensures.items i ++ c.into_inner.ensures i ∷ []) in
    let all = ap (map init_declarator_of) more in
    record {
      reads = ap (λ list. and_then (more_declarators c.args.k c.args.names_type c.args.scope.now c.args.tokens.now)
          (λ rest. pure {A = List InitDeclarator} (list ++ ones rest))) (sym all);
      scope = λ outer h. h
          ∙ ap (λ names. outer ++ names) (sym (append-nil one) ∙ ap (init_declarators_add c.args.names_type) (sym all));
    }

pub returns-in_err-one-clause-reads : goal.returns-in_err-one-clause-reads
unfolding more_declarators
returns-in_err-one-clause-reads c =
    let p = err_from_is_err_and c.from_residual-in_err-one.result c.from_residual-in_err-one.ensures.1 in
    rw (p.1, p.2) (refused _ (init_declarator c.args.k c.args.names_type c.each.scope c.tail.result.now)
    c.in_err-one.field-0.0
    (λ why rest e. rest_refused _ _ _ _ _ refl (online_pure tt) (init_declarator_online c.args.k c.args.names_type)
    _ _ c.each.scope c.each.rest.now c.each.invariant.reads rest why (sym c.each-test.ensures) refl
    (ap (init_declarator c.args.k c.args.names_type c.each.scope) (sym c.tail.ensures) ∙ e))
    c.in_err-one.ensures.reads)

pub each-smaller : goal.each-smaller
each-smaller c =
    behind_shorter (init_declarator c.args.k c.args.names_type c.each.scope)
    (init_declarator_online c.args.k c.args.names_type c.each.scope) p.Comma c.each.rest.now
    c.in_ok-one.behind.now _ (sym c.each-test.ensures)
    (ap (init_declarator c.args.k c.args.names_type c.each.scope) (sym c.tail.ensures) ∙ c.in_ok-one.ensures.reads)

pub each-preserved : goal.each-preserved
unfolding more_declarators
each-preserved c =
    let one = init_declarator_of c.in_ok-one.one.value in
    let more = c.in_ok-push-2.ensures.items ∙ ap (λ x. c.each.all.items ++ x ∷ []) c.into_inner-in-each.ensures in
    let all = pushed init_declarator_of c.each.all.items c.in_ok-one.one.value _ more in
    record {
      reads = rest_turn _ _ _ _ _ refl (online_pure tt) (init_declarator_online c.args.k c.args.names_type) _ _
          c.each.scope c.each.rest.now c.each.invariant.reads
          c.in_ok-one.behind.now one _ _ all c.in_ok-one.ensures.scope (sym c.each-test.ensures) refl
          (ap (init_declarator c.args.k c.args.names_type c.each.scope) (sym c.tail.ensures)
          ∙ c.in_ok-one.ensures.reads);
      scope = λ outer h. added _ _ _ _ _ _ (c.each.invariant.scope outer h) c.in_ok-one.ensures.scope
          (ap (init_declarators_add c.args.names_type) all
          ∙ inits_add_more c.args.k c.args.names_type (map init_declarator_of c.each.all.items) one);
    }

pub returns-clause-reads : goal.returns-clause-reads
unfolding more_declarators
returns-clause-reads c =
    rest_over _ _ _ _ _ refl (online_pure tt) (init_declarator_online c.args.k c.args.names_type) _ _ c.each.scope
    c.each.rest.now c.each.invariant.reads (sym c.each-test.ensures)

pub returns-clause-scope : goal.returns-clause-scope
returns-clause-scope c = c.each.invariant.scope
