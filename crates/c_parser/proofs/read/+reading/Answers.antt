-- What the goals of the cycle are left with.
use Rattle.std.proofs.Common.{◌++◌, map, ap, sym, ◌∙◌, refl, subst, arith, rules}
use Rattle.std.proofs.lemmas.Result.{err_from_is_err_and}
use Rattle.c_parser.specs.Agree.{Gives, Refuses}
use Rattle.c_syntax.specs.View.{expr_of, type_name_of, declarator_of, parameter_of, member_of, specifier_of}
use Rattle.c_reading.specs.Parser.{Found, expect}
use Rattle.c_reading.specs.ReadExpr.{postfixes, infixes}
use Rattle.c_syntax.specs.Scopes.{declarator_adds}
use Rattle.c_parser.proofs.Pushed.{pushed, row_height, row_scope, expr_row}
use Rattle.c_parser.proofs.ClimbTurns.{climb_start, climbed, too_high, climb_stopped, climb_on}
use Rattle.c_parser.proofs.ManyTurns.{run_over, run_stopped, run_shorter, run_on}
use Rattle.c_parser.proofs.ListTurns.{arguments_listed, declarators_listed, parameters_listed, enumerators_listed}
use Rattle.c_parser.proofs.ListTurns.{listing_stopped, listing_last, listing_ended, listing_shorter, listing_on}
use Rattle.c_reading.specs.ReadSpecifier.{parsers, all_members, type_seen_with, types_seen}
use Rattle.c_syntax.proofs.HeightLaws.{expr_high}
use Rattle.c_parser.proofs.Refused.{refused}
use Rattle.c_parser.proofs.Turns.{then_stopped}
use Rattle.c_lexer.specs.declared.punct.Punct.TheVariants as p
use Rattle.c_parser.proofs.LowerParsers.{parsers_at}
use Rattle.c_parser.proofs.read.+reading.Goals as goal
use Rattle.std.proofs.lemmas.List.{append-nil}
use Rattle.c_reading.specs.ReadDeclarator.{qualifiers, suffix_on, suffixes, pointer}
use Rattle.c_syntax.specs.Tree.{Omitted}
use Rattle.c_reading.specs.ReadToken.{is_mark}
use Rattle.c_parser.proofs.SpecifierTurns.{body_refused, body_unclosed, many_stopped, enumerator_row, member_row}
use Rattle.c_parser.proofs.SpecifierTurns.{specifier_row, body_all, members_run, specifiers_run, types_seen_more}
use Rattle.c_parser.proofs.SpecifierTurns.{no_type, some_types}
use Rattle.c_reading.specs.declared.type_seen.TypeSeen.TheVariants.{Nothing}
use Rattle.c_parser.proofs.PushedDeclarator.{declarator_row, parameter_row}

-- ---- the parsers of each height

pub height::expr-returns-clause-reads : goal.height::expr-returns-clause-reads
height::expr-returns-clause-reads t c =
    subst (λ r. Gives (λ x. expr_of x.node.value) (r.expr c.args.scope.now c.args.level c.args.tokens.now)
    c.expr_at.result) (sym (parsers_at c.args.h c.if-h-eq0.false)) c.expr_at.ensures.reads

pub height::paren_expr-returns-clause-reads : goal.height::paren_expr-returns-clause-reads
height::paren_expr-returns-clause-reads t c =
    subst (λ r. Gives (λ x. expr_of x.node.value) (r.paren_expr c.args.scope.now c.args.tokens.now)
    c.paren_expr_at.result) (sym (parsers_at c.args.h c.if-h-eq0.false)) c.paren_expr_at.ensures.reads

pub height::type_name-returns-clause-reads : goal.height::type_name-returns-clause-reads
height::type_name-returns-clause-reads t c =
    subst (λ r. Gives (λ x. type_name_of x.node.value) (r.type_name c.args.scope.now c.args.tokens.now)
    c.type_name_at.result) (sym (parsers_at c.args.h c.if-h-eq0.false)) c.type_name_at.ensures.reads

pub height::declarator-returns-clause-reads : goal.height::declarator-returns-clause-reads
height::declarator-returns-clause-reads t c =
    subst (λ r. Gives (λ x. declarator_of x.node.value)
    (r.declarator c.args.form c.args.scope.now c.args.tokens.now) c.declarator_at.result)
    (sym (parsers_at c.args.h c.if-h-eq0.false)) c.declarator_at.ensures.reads

pub height::parameter-returns-clause-reads : goal.height::parameter-returns-clause-reads
height::parameter-returns-clause-reads t c =
    subst (λ r. Gives (λ x. parameter_of x.node.value) (r.parameter c.args.scope.now c.args.tokens.now)
    c.parameter_at.result) (sym (parsers_at c.args.h c.if-h-eq0.false)) c.parameter_at.ensures.reads

pub height::member-returns-clause-reads : goal.height::member-returns-clause-reads
height::member-returns-clause-reads t c =
    subst (λ r. Gives (λ x. member_of x.node.value) (r.member c.args.scope.now c.args.tokens.now)
    c.member_at.result) (sym (parsers_at c.args.h c.if-h-eq0.false)) c.member_at.ensures.reads

-- ---- postfix operators

pub postfix::postfixes-operators-init : goal.postfix::postfixes-operators-init
unfolding postfixes
postfix::postfixes-operators-init t c =
    climb_start c.requires.known c.requires.within
    (omega (arith, expr_high (expr_of c.args.left.node.value), c.requires.known)) (λ outer h. refl) (λ outer h. h)

pub postfix::postfixes-returns-clause-reads : goal.postfix::postfixes-returns-clause-reads
postfix::postfixes-returns-clause-reads t c =
    climbed c.operators.invariant (sym (c.goes_postfix.ensures (expr_of c.operators.left.node.value))
    ∙ c.operators-test.false)

pub postfix::postfixes-returns-then-left-k-clause-reads : goal.postfix::postfixes-returns-then-left-k-clause-reads
postfix::postfixes-returns-then-left-k-clause-reads t c =
    too_high c.operators.invariant (sym (c.goes_postfix.ensures (expr_of c.operators.left.node.value))
    ∙ c.operators-test.true) (omega arith)

pub postfix::postfixes-returns-in_err-whole-clause-reads : goal.postfix::postfixes-returns-in_err-whole-clause-reads
postfix::postfixes-returns-in_err-whole-clause-reads t c =
    let p = err_from_is_err_and c.from_residual.result c.from_residual.ensures.1 in
    rw (p.1, p.2)
    (climb_stopped c.operators.invariant (sym (c.goes_postfix.ensures (expr_of c.operators.left.node.value))
    ∙ c.operators-test.true) (omega arith) c.in_err-whole.field-0.0 c.in_err-whole.ensures.reads)

pub postfix::postfixes-operators-preserved : goal.postfix::postfixes-operators-preserved
postfix::postfixes-operators-preserved t c =
    climb_on c.operators.invariant (sym (c.goes_postfix.ensures (expr_of c.operators.left.node.value))
    ∙ c.operators-test.true) (omega arith) c.in_ok-whole.ensures.reads c.in_ok-whole.ensures.height
    c.in_ok-whole.ensures.scope

-- ---- arguments

pub postfix::listed_arguments-returns-in_err-one-clause-reads
    : goal.postfix::listed_arguments-returns-in_err-one-clause-reads
postfix::listed_arguments-returns-in_err-one-clause-reads t c =
    let p = err_from_is_err_and c.from_residual.result c.from_residual.ensures.1 in
    rw (p.1, p.2) (listing_stopped (arguments_listed c.args.k) c.each.invariant c.in_err-one.field-0.0
    c.in_err-one.ensures.reads)

pub postfix::listed_arguments-returns-then-not-is_mark-clause-reads
    : goal.postfix::listed_arguments-returns-then-not-is_mark-clause-reads
postfix::listed_arguments-returns-then-not-is_mark-clause-reads t c =
    listing_last (arguments_listed c.args.k) c.each.invariant c.in_ok-push.ensures.nodes c.in_ok-one.ensures.reads
    (sym c.is_mark.ensures ∙ search rules)

pub postfix::listed_arguments-returns-then-not-is_mark-clause-height
    : goal.postfix::listed_arguments-returns-then-not-is_mark-clause-height
postfix::listed_arguments-returns-then-not-is_mark-clause-height t c =
    row_height expr_row c.in_ok-push.ensures.nodes c.each.invariant.height c.in_ok-push.ensures.height
    c.in_ok-one.ensures.height

pub postfix::listed_arguments-returns-then-not-is_mark-clause-scope
    : goal.postfix::listed_arguments-returns-then-not-is_mark-clause-scope
postfix::listed_arguments-returns-then-not-is_mark-clause-scope t c =
    row_scope expr_row _ _ _ c.in_ok-push.ensures.nodes c.each.invariant.scope c.in_ok-one.ensures.scope

pub postfix::listed_arguments-each-smaller : goal.postfix::listed_arguments-each-smaller
postfix::listed_arguments-each-smaller t c =
    listing_shorter (arguments_listed c.args.k) c.each.invariant c.in_ok-push.ensures.nodes
    c.in_ok-one.ensures.reads (sym c.is_mark.ensures ∙ c.if-not-is_mark.false) c.tail-rest.ensures

pub postfix::listed_arguments-each-preserved : goal.postfix::listed_arguments-each-preserved
postfix::listed_arguments-each-preserved t c =
    listing_on (arguments_listed c.args.k) c.each.invariant c.in_ok-push.ensures.nodes c.in_ok-one.ensures.reads
    (sym c.is_mark.ensures ∙ c.if-not-is_mark.false) c.tail-rest.ensures expr_row refl
    c.in_ok-push.ensures.height c.in_ok-one.ensures.height c.in_ok-one.ensures.scope

-- ---- operators

pub infix::infixes-operators-init : goal.infix::infixes-operators-init
unfolding infixes
infix::infixes-operators-init t c =
    climb_start c.requires.known c.requires.within
    (omega (arith, expr_high (expr_of c.args.left.node.value), c.requires.known)) (λ outer h. refl) (λ outer h. h)

pub infix::infixes-returns-clause-reads : goal.infix::infixes-returns-clause-reads
infix::infixes-returns-clause-reads t c =
    climbed c.operators.invariant (sym c.goes_infix.ensures ∙ c.operators-test.false)

pub infix::infixes-returns-then-left-k-clause-reads : goal.infix::infixes-returns-then-left-k-clause-reads
infix::infixes-returns-then-left-k-clause-reads t c =
    too_high c.operators.invariant (sym c.goes_infix.ensures ∙ c.operators-test.true) (omega arith)

pub infix::infixes-returns-in_err-whole-clause-reads : goal.infix::infixes-returns-in_err-whole-clause-reads
infix::infixes-returns-in_err-whole-clause-reads t c =
    let p = err_from_is_err_and c.from_residual.result c.from_residual.ensures.1 in
    rw (p.1, p.2) (climb_stopped c.operators.invariant (sym c.goes_infix.ensures ∙ c.operators-test.true)
    (omega arith) c.in_err-whole.field-0.0 c.in_err-whole.ensures.reads)

pub infix::infixes-operators-preserved : goal.infix::infixes-operators-preserved
infix::infixes-operators-preserved t c =
    climb_on c.operators.invariant (sym c.goes_infix.ensures ∙ c.operators-test.true) (omega arith)
    c.in_ok-whole.ensures.reads c.in_ok-whole.ensures.height c.in_ok-whole.ensures.scope

-- ---- declarator

pub suffix::suffixes-each-init : goal.suffix::suffixes-each-init
unfolding suffixes
suffix::suffixes-each-init t c =
    climb_start c.requires.known c.requires.within (omega arith) (λ outer h. refl) (λ outer h. h)

pub suffix::suffixes-returns-clause-reads : goal.suffix::suffixes-returns-clause-reads
suffix::suffixes-returns-clause-reads t c =
    climbed c.each.invariant (sym (c.goes_suffix.ensures (declarator_of c.each.left.node.value)) ∙ c.each-test.false)

pub suffix::suffixes-returns-then-left-k-clause-reads : goal.suffix::suffixes-returns-then-left-k-clause-reads
suffix::suffixes-returns-then-left-k-clause-reads t c =
    too_high c.each.invariant (sym (c.goes_suffix.ensures (declarator_of c.each.left.node.value))
    ∙ c.each-test.true) (omega arith)

pub suffix::suffixes-returns-in_err-whole-clause-reads : goal.suffix::suffixes-returns-in_err-whole-clause-reads
suffix::suffixes-returns-in_err-whole-clause-reads t c =
    let p = err_from_is_err_and c.from_residual.result c.from_residual.ensures.1 in
    rw (p.1, p.2)
    (climb_stopped c.each.invariant (sym (c.goes_suffix.ensures (declarator_of c.each.left.node.value))
    ∙ c.each-test.true) (omega arith) c.in_err-whole.field-0.0 c.in_err-whole.ensures.reads)

pub suffix::suffixes-each-preserved : goal.suffix::suffixes-each-preserved
suffix::suffixes-each-preserved t c =
    climb_on c.each.invariant (sym (c.goes_suffix.ensures (declarator_of c.each.left.node.value))
    ∙ c.each-test.true) (omega arith) c.in_ok-whole.ensures.reads c.in_ok-whole.ensures.height
    c.in_ok-whole.ensures.scope

pub declarator::pointer-returns-in_err-words-clause-reads : goal.declarator::pointer-returns-in_err-words-clause-reads
unfolding pointer
declarator::pointer-returns-in_err-words-clause-reads t c =
    let p = err_from_is_err_and c.from_residual.result c.from_residual.ensures.1 in
    rw (p.1, p.2) (refused _ (qualifiers c.args.scope.now c.args.tokens.now) c.in_err-words.field-0.0
    (λ why rest e. then_stopped (qualifiers c.args.scope.now c.args.tokens.now) _ why rest e)
    (c.in_err-words.ensures c.args.scope.now))

pub declarator::unnamed_array-returns-in_err-left-clause-reads
    : goal.declarator::unnamed_array-returns-in_err-left-clause-reads
declarator::unnamed_array-returns-in_err-left-clause-reads t c =
    let scope = c.args.scope.now in
    let first = suffix_on c.args.k (parsers c.args.k) scope in
    let p = err_from_is_err_and c.from_residual-in_err-left.result c.from_residual-in_err-left.ensures.1 in
    let none = ap (λ d. scope ++ declarator_adds d) c.in_ok-inner.ensures.tree ∙ append-nil scope in
    rw (p.1, p.2) (refused _ (first Omitted c.args.tokens.now) c.in_err-left.field-0.0
    (λ why rest e. then_stopped (first Omitted c.args.tokens.now) _ why rest e)
    (subst (λ d. Refuses (first d c.args.tokens.now) c.in_err-left.field-0.0) c.in_ok-inner.ensures.tree
    (c.in_err-left.ensures.reads scope (sym none))))

-- ---- specifier

-- enumerators

pub enumeration::listed_enumerators-returns-in_err-one-clause-reads
    : goal.enumeration::listed_enumerators-returns-in_err-one-clause-reads
enumeration::listed_enumerators-returns-in_err-one-clause-reads t c =
    let p = err_from_is_err_and c.from_residual.result c.from_residual.ensures.1 in
    rw (p.1, p.2) (listing_stopped (enumerators_listed c.args.k) c.each.invariant c.in_err-one.field-0.0
    c.in_err-one.ensures.reads)

pub enumeration::listed_enumerators-returns-then-not-is_mark-clause-reads
    : goal.enumeration::listed_enumerators-returns-then-not-is_mark-clause-reads
enumeration::listed_enumerators-returns-then-not-is_mark-clause-reads t c =
    listing_last (enumerators_listed c.args.k) c.each.invariant c.in_ok-push.ensures.nodes c.in_ok-one.ensures.reads
    (sym c.is_mark.ensures ∙ search rules)

pub enumeration::listed_enumerators-returns-then-not-is_mark-clause-height
    : goal.enumeration::listed_enumerators-returns-then-not-is_mark-clause-height
enumeration::listed_enumerators-returns-then-not-is_mark-clause-height t c =
    row_height enumerator_row c.in_ok-push.ensures.nodes c.each.invariant.height c.in_ok-push.ensures.height
    c.in_ok-one.ensures.height

pub enumeration::listed_enumerators-returns-then-not-is_mark-clause-scope
    : goal.enumeration::listed_enumerators-returns-then-not-is_mark-clause-scope
enumeration::listed_enumerators-returns-then-not-is_mark-clause-scope t c =
    row_scope enumerator_row _ _ _ c.in_ok-push.ensures.nodes c.each.invariant.scope c.in_ok-one.ensures.scope

pub enumeration::listed_enumerators-returns-then-is_mark-clause-reads
    : goal.enumeration::listed_enumerators-returns-then-is_mark-clause-reads
enumeration::listed_enumerators-returns-then-is_mark-clause-reads t c =
    listing_ended (enumerators_listed c.args.k) c.each.invariant c.in_ok-push.ensures.nodes
    c.in_ok-one.ensures.reads (sym c.is_mark.ensures ∙ c.if-not-is_mark.false) c.tail-rest.ensures
    (sym c.is_mark-in-each.ensures ∙ c.if-is_mark.true) refl

pub enumeration::listed_enumerators-returns-then-is_mark-clause-height
    : goal.enumeration::listed_enumerators-returns-then-is_mark-clause-height
enumeration::listed_enumerators-returns-then-is_mark-clause-height t c =
    row_height enumerator_row c.in_ok-push.ensures.nodes c.each.invariant.height c.in_ok-push.ensures.height
    c.in_ok-one.ensures.height

pub enumeration::listed_enumerators-returns-then-is_mark-clause-scope
    : goal.enumeration::listed_enumerators-returns-then-is_mark-clause-scope
enumeration::listed_enumerators-returns-then-is_mark-clause-scope t c =
    row_scope enumerator_row _ _ _ c.in_ok-push.ensures.nodes c.each.invariant.scope c.in_ok-one.ensures.scope

pub enumeration::listed_enumerators-each-smaller : goal.enumeration::listed_enumerators-each-smaller
enumeration::listed_enumerators-each-smaller t c =
    listing_shorter (enumerators_listed c.args.k) c.each.invariant c.in_ok-push.ensures.nodes
    c.in_ok-one.ensures.reads (sym c.is_mark.ensures ∙ c.if-not-is_mark.false) c.tail-rest.ensures

pub enumeration::listed_enumerators-each-preserved : goal.enumeration::listed_enumerators-each-preserved
enumeration::listed_enumerators-each-preserved t c =
    listing_on (enumerators_listed c.args.k) c.each.invariant c.in_ok-push.ensures.nodes c.in_ok-one.ensures.reads
    (sym c.is_mark.ensures ∙ c.if-not-is_mark.false) c.tail-rest.ensures enumerator_row
    (sym c.is_mark-in-each.ensures ∙ c.if-is_mark.false) c.in_ok-push.ensures.height c.in_ok-one.ensures.height
    c.in_ok-one.ensures.scope

-- members

pub compound::compound_body-returns-clause-reads : goal.compound::compound_body-returns-clause-reads
compound::compound_body-returns-clause-reads t c =
    rw (body_all c.args.k (parsers c.args.k) c.args.scope.now c.args.pos c.args.word c.args.tag c.args.tokens.now)
    (search rules)

pub compound::compound_body-returns-in_err-all-clause-reads
    : goal.compound::compound_body-returns-in_err-all-clause-reads
compound::compound_body-returns-in_err-all-clause-reads t c =
    let p = err_from_is_err_and c.from_residual.result c.from_residual.ensures.1 in
    rw (p.1, p.2) (refused _ (all_members c.args.k (parsers c.args.k) c.args.scope.now c.args.tokens.now)
    c.in_err-all.field-0.0
    (λ why rest e. body_refused c.args.k (parsers c.args.k) c.args.scope.now c.args.pos c.args.word c.args.tag
    c.args.tokens.now rest why e)
    c.in_err-all.ensures.reads)

pub compound::compound_body-returns-in_err-rest-clause-reads
    : goal.compound::compound_body-returns-in_err-rest-clause-reads
compound::compound_body-returns-in_err-rest-clause-reads t c =
    let q = err_from_is_err_and c.from_residual-in_err-rest.result c.from_residual-in_err-rest.ensures.1 in
    rw (q.1, q.2) (refused _ (expect (is_mark p.CloseBrace) c.in_ok-all.rest.now) c.in_err-rest.field-0.0
    (λ why rest e. body_unclosed c.args.k (parsers c.args.k) c.args.scope.now c.args.pos c.args.word c.args.tag
    c.args.tokens.now c.in_ok-all.rest.now rest why _ c.in_ok-all.ensures.reads e)
    c.in_err-rest.ensures)

pub compound::all_members-returns-in_err-one-clause-reads : goal.compound::all_members-returns-in_err-one-clause-reads
compound::all_members-returns-in_err-one-clause-reads t c =
    let p = err_from_is_err_and c.from_residual-in_err-one.result c.from_residual-in_err-one.ensures.1 in
    rw (p.1, p.2) (run_stopped (members_run c.args.k) _ c.more.scope c.more.rest.now c.more.invariant.reads
    (sym c.begins_type.ensures ∙ c.more-test.true) c.in_err-one.field-0.0 c.in_err-one.ensures.reads)

pub compound::all_members-returns-clause-reads : goal.compound::all_members-returns-clause-reads
compound::all_members-returns-clause-reads t c =
    run_over (members_run c.args.k) _ c.more.scope c.more.rest.now c.more.invariant.reads (sym c.begins_type.ensures
    ∙ c.more-test.false)

pub compound::all_members-more-smaller : goal.compound::all_members-more-smaller
compound::all_members-more-smaller t c =
    run_shorter (members_run c.args.k) _ c.more.scope c.more.rest.now c.more.invariant.reads
    (sym c.begins_type.ensures ∙ c.more-test.true) c.in_ok-one.ensures.reads

pub compound::all_members-more-preserved : goal.compound::all_members-more-preserved
compound::all_members-more-preserved t c = record {
  reads = run_on (members_run c.args.k) _ c.more.scope c.more.rest.now c.more.invariant.reads
      (sym c.begins_type.ensures ∙ c.more-test.true) c.in_ok-one.ensures.reads
      (pushed member_of _ _ _ c.in_ok-push-2.ensures.nodes) c.in_ok-one.ensures.scope;
  height = row_height member_row c.in_ok-push-2.ensures.nodes c.more.invariant.height c.in_ok-push-2.ensures.height
      c.in_ok-one.ensures.height;
  scope = row_scope member_row _ _ _ c.in_ok-push-2.ensures.nodes c.more.invariant.scope c.in_ok-one.ensures.scope;
}

-- specifiers

pub specifier::specifiers-returns-in_err-one-clause-reads : goal.specifier::specifiers-returns-in_err-one-clause-reads
specifier::specifiers-returns-in_err-one-clause-reads t c =
    let p = err_from_is_err_and c.from_residual.result c.from_residual.ensures.1 in
    rw (p.1, p.2) (refused _ _ c.in_err-one.field-0.0 (many_stopped c.args.h c.args.scope.now c.args.tokens.now)
    (run_stopped (specifiers_run c.args.h) _ (record { scope = c.each.scope; type_seen = c.each.type_seen })
    c.each.rest.now c.each.invariant.reads (sym c.goes_specifier.ensures
    ∙ c.each-test.true) c.in_err-one.field-0.0 c.in_err-one.ensures.reads))

pub specifier::specifiers-returns-then-is_nothing-clause-reads
    : goal.specifier::specifiers-returns-then-is_nothing-clause-reads
specifier::specifiers-returns-then-is_nothing-clause-reads t c =
    no_type c.args.h c.args.scope.now c.args.tokens.now c.each.rest.now (map specifier_of c.each.all.nodes.items)
    c.each.type_seen c.each.invariant.type_seen
    (run_over (specifiers_run c.args.h) _ (record { scope = c.each.scope; type_seen = c.each.type_seen })
    c.each.rest.now c.each.invariant.reads (sym c.goes_specifier.ensures ∙ c.each-test.false))
    (sym c.is_nothing.ensures ∙ c.if-is_nothing.true)

pub specifier::specifiers-returns-clause-reads : goal.specifier::specifiers-returns-clause-reads
specifier::specifiers-returns-clause-reads t c =
    some_types c.args.h c.args.scope.now c.args.tokens.now c.each.rest.now (map specifier_of c.each.all.nodes.items)
    c.each.type_seen c.each.invariant.type_seen
    (run_over (specifiers_run c.args.h) _ (record { scope = c.each.scope; type_seen = c.each.type_seen })
    c.each.rest.now c.each.invariant.reads (sym c.goes_specifier.ensures ∙ c.each-test.false))
    (sym c.is_nothing.ensures ∙ c.if-is_nothing.false)

pub specifier::specifiers-each-smaller : goal.specifier::specifiers-each-smaller
specifier::specifiers-each-smaller t c =
    run_shorter (specifiers_run c.args.h) _ (record { scope = c.each.scope; type_seen = c.each.type_seen })
    c.each.rest.now c.each.invariant.reads (sym c.goes_specifier.ensures ∙ c.each-test.true) c.in_ok-one.ensures.reads

pub specifier::specifiers-each-preserved : goal.specifier::specifiers-each-preserved
specifier::specifiers-each-preserved t c =
    let one = c.in_ok-one.one.node.value in
    let more = pushed specifier_of _ _ _ c.in_ok-push.ensures.nodes in
    let type_seen = c.type_seen_with-type_seen.ensures
    ∙ ap (λ x. type_seen_with c.each.type_seen (specifier_of x)) c.deref.ensures in
    record {
      reads = run_on (specifiers_run c.args.h) _ (record { scope = c.each.scope; type_seen = c.each.type_seen })
          c.each.rest.now c.each.invariant.reads (sym c.goes_specifier.ensures
          ∙ c.each-test.true) c.in_ok-one.ensures.reads more
          (λ i. record { scope = c.in_ok-one.ensures.scope i; type_seen = type_seen i });
      type_seen = type_seen
          ∙ ap (λ type_seen. type_seen_with type_seen (specifier_of one)) c.each.invariant.type_seen
          ∙ sym (types_seen_more Nothing (map specifier_of c.each.all.nodes.items) (specifier_of one))
          ∙ sym (ap (types_seen Nothing) more);
      height = row_height specifier_row c.in_ok-push.ensures.nodes c.each.invariant.height
          c.in_ok-push.ensures.height c.in_ok-one.ensures.height;
      scope = row_scope specifier_row _ _ _ c.in_ok-push.ensures.nodes c.each.invariant.scope c.in_ok-one.ensures.scope;
    }

-- ---- parameter

pub member::listed_declarators-returns-in_err-one-clause-reads
    : goal.member::listed_declarators-returns-in_err-one-clause-reads
member::listed_declarators-returns-in_err-one-clause-reads t c =
    let p = err_from_is_err_and c.from_residual.result c.from_residual.ensures.1 in
    rw (p.1, p.2) (listing_stopped (declarators_listed c.args.k) c.each.invariant c.in_err-one.field-0.0
    c.in_err-one.ensures.reads)

pub member::listed_declarators-returns-then-not-is_mark-clause-reads
    : goal.member::listed_declarators-returns-then-not-is_mark-clause-reads
member::listed_declarators-returns-then-not-is_mark-clause-reads t c =
    listing_last (declarators_listed c.args.k) c.each.invariant c.in_ok-push.ensures.nodes c.in_ok-one.ensures.reads
    (sym c.is_mark.ensures ∙ search rules)

pub member::listed_declarators-returns-then-not-is_mark-clause-height
    : goal.member::listed_declarators-returns-then-not-is_mark-clause-height
member::listed_declarators-returns-then-not-is_mark-clause-height t c =
    row_height declarator_row c.in_ok-push.ensures.nodes c.each.invariant.height c.in_ok-push.ensures.height
    c.in_ok-one.ensures.height

pub member::listed_declarators-returns-then-not-is_mark-clause-scope
    : goal.member::listed_declarators-returns-then-not-is_mark-clause-scope
member::listed_declarators-returns-then-not-is_mark-clause-scope t c =
    row_scope declarator_row _ _ _ c.in_ok-push.ensures.nodes c.each.invariant.scope c.in_ok-one.ensures.scope

pub member::listed_declarators-each-smaller : goal.member::listed_declarators-each-smaller
member::listed_declarators-each-smaller t c =
    listing_shorter (declarators_listed c.args.k) c.each.invariant c.in_ok-push.ensures.nodes
    c.in_ok-one.ensures.reads (sym c.is_mark.ensures ∙ c.if-not-is_mark.false) c.tail-rest.ensures

pub member::listed_declarators-each-preserved : goal.member::listed_declarators-each-preserved
member::listed_declarators-each-preserved t c =
    listing_on (declarators_listed c.args.k) c.each.invariant c.in_ok-push.ensures.nodes c.in_ok-one.ensures.reads
    (sym c.is_mark.ensures ∙ c.if-not-is_mark.false) c.tail-rest.ensures declarator_row refl
    c.in_ok-push.ensures.height c.in_ok-one.ensures.height c.in_ok-one.ensures.scope

pub parameters::listed_parameters-returns-in_err-one-clause-reads
    : goal.parameters::listed_parameters-returns-in_err-one-clause-reads
parameters::listed_parameters-returns-in_err-one-clause-reads t c =
    let p = err_from_is_err_and c.from_residual.result c.from_residual.ensures.1 in
    rw (p.1, p.2) (listing_stopped (parameters_listed c.args.k) c.each.invariant c.in_err-one.field-0.0
    c.in_err-one.ensures.reads)

pub parameters::listed_parameters-returns-then-not-is_mark-clause-reads
    : goal.parameters::listed_parameters-returns-then-not-is_mark-clause-reads
parameters::listed_parameters-returns-then-not-is_mark-clause-reads t c =
    listing_last (parameters_listed c.args.k) c.each.invariant c.in_ok-push.ensures.nodes c.in_ok-one.ensures.reads
    (sym c.is_mark.ensures ∙ search rules)

pub parameters::listed_parameters-returns-then-not-is_mark-clause-height
    : goal.parameters::listed_parameters-returns-then-not-is_mark-clause-height
parameters::listed_parameters-returns-then-not-is_mark-clause-height t c =
    row_height parameter_row c.in_ok-push.ensures.nodes c.each.invariant.height c.in_ok-push.ensures.height
    c.in_ok-one.ensures.height

pub parameters::listed_parameters-returns-then-not-is_mark-clause-scope
    : goal.parameters::listed_parameters-returns-then-not-is_mark-clause-scope
parameters::listed_parameters-returns-then-not-is_mark-clause-scope t c =
    row_scope parameter_row _ _ _ c.in_ok-push.ensures.nodes c.each.invariant.scope c.in_ok-one.ensures.scope

pub parameters::listed_parameters-each-smaller : goal.parameters::listed_parameters-each-smaller
parameters::listed_parameters-each-smaller t c =
    listing_shorter (parameters_listed c.args.k) c.each.invariant c.in_ok-push.ensures.nodes
    c.in_ok-one.ensures.reads (sym c.is_mark.ensures ∙ c.if-not-is_mark.false) c.tail-rest.ensures

pub parameters::listed_parameters-each-preserved : goal.parameters::listed_parameters-each-preserved
parameters::listed_parameters-each-preserved t c =
    listing_on (parameters_listed c.args.k) c.each.invariant c.in_ok-push.ensures.nodes c.in_ok-one.ensures.reads
    (sym c.is_mark.ensures ∙ c.if-not-is_mark.false) c.tail-rest.ensures parameter_row
    (sym c.is_mark-in-each.ensures ∙ c.if-is_mark.false) c.in_ok-push.ensures.height c.in_ok-one.ensures.height
    c.in_ok-one.ensures.scope

pub parameters::listed_parameters-returns-then-is_mark-clause-reads
    : goal.parameters::listed_parameters-returns-then-is_mark-clause-reads
parameters::listed_parameters-returns-then-is_mark-clause-reads t c =
    listing_ended (parameters_listed c.args.k) c.each.invariant c.in_ok-push.ensures.nodes c.in_ok-one.ensures.reads
    (sym c.is_mark.ensures ∙ c.if-not-is_mark.false) c.tail-rest.ensures (sym c.is_mark-in-each.ensures
    ∙ c.if-is_mark.true) (ap (Found tt) (sym c.tail.ensures))

pub parameters::listed_parameters-returns-then-is_mark-clause-height
    : goal.parameters::listed_parameters-returns-then-is_mark-clause-height
parameters::listed_parameters-returns-then-is_mark-clause-height t c =
    row_height parameter_row c.in_ok-push.ensures.nodes c.each.invariant.height c.in_ok-push.ensures.height
    c.in_ok-one.ensures.height

pub parameters::listed_parameters-returns-then-is_mark-clause-scope
    : goal.parameters::listed_parameters-returns-then-is_mark-clause-scope
parameters::listed_parameters-returns-then-is_mark-clause-scope t c =
    row_scope parameter_row _ _ _ c.in_ok-push.ensures.nodes c.each.invariant.scope c.in_ok-one.ensures.scope
