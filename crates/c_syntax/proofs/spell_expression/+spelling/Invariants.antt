-- What the loops of the functions that spell expressions, specifiers and declarators keep.
use Rattle.std.proofs.Common.{◌≡◌, ◌∷◌, ◌++◌, map, take}
use Rattle.std.specs.List.{flat_map}
use Rattle.c_lexer.specs.declared.punct.Punct.TheVariants as p
use Rattle.c_syntax.specs.Spelling.{spell, spell_specifier, spell_member, spell_declarator, spell_enumerator}
use Rattle.c_syntax.specs.Spelling.{spell_parameter}
use Rattle.c_syntax.specs.View.{expr_of, specifier_of, member_of, declarator_of, enumerator_of, parameter_of}
use Rattle.c_syntax.specs.Tokens.{mark}
use Rattle.c_syntax.proofs.spell_expression.+spelling.Given as goal

abbrev pub invariant-arguments-loop-argument : goal.invariant-arguments-loop-argument
invariant-arguments-loop-argument l =
    l.out.items ≡ l.initial.out.items
    ++ flat_map (λ part. mark p.Comma ∷ part) (map (λ x. spell (expr_of x)) (take l.argument-index l.rest))

abbrev pub invariant-declarators-loop-each : goal.invariant-declarators-loop-each
invariant-declarators-loop-each l =
    l.out.items ≡ l.initial.out.items
    ++ flat_map (λ part. mark p.Comma ∷ part)
    (map (λ x. spell_declarator (declarator_of x)) (take l.each-index l.rest))

abbrev pub invariant-enumerators-loop-each : goal.invariant-enumerators-loop-each
invariant-enumerators-loop-each l =
    l.out.items ≡ l.initial.out.items
    ++ flat_map (λ part. mark p.Comma ∷ part)
    (map (λ x. spell_enumerator (enumerator_of x)) (take l.each-index l.rest))

abbrev pub invariant-members-loop-each : goal.invariant-members-loop-each
invariant-members-loop-each l =
    l.out.items ≡ l.initial.out.items ++ flat_map (λ x. spell_member (member_of x)) (take l.each-index l.list)

abbrev pub invariant-parameters-loop-each : goal.invariant-parameters-loop-each
invariant-parameters-loop-each l =
    l.out.items ≡ l.initial.out.items
    ++ flat_map (λ part. mark p.Comma ∷ part)
    (map (λ x. spell_parameter (parameter_of x)) (take l.each-index l.rest))

abbrev pub invariant-specifiers-loop-each : goal.invariant-specifiers-loop-each
invariant-specifiers-loop-each l =
    l.out.items ≡ l.initial.out.items ++ flat_map (λ x. spell_specifier (specifier_of x)) (take l.each-index l.list)
