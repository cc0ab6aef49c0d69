-- What the loops of the functions that declare the names of a node keep.
use Rattle.std.proofs.Common.{◌≡◌, ◌++◌, take}
use Rattle.std.specs.List.{flat_map}
use Rattle.c_syntax.specs.Scopes.{expr_adds, specifier_adds, member_adds, declarator_adds, enumerator_adds}
use Rattle.c_syntax.specs.View.{expr_of, specifier_of, member_of, declarator_of, enumerator_of}
use Rattle.c_parser.proofs.declares.+declaring.Given as goal

abbrev pub invariant-declare_arguments-loop-each : goal.invariant-declare_arguments-loop-each
invariant-declare_arguments-loop-each l =
    l.scope ≡ l.initial.scope ++ flat_map (λ x. expr_adds (expr_of x)) (take l.each-index l.list)

abbrev pub invariant-declare_declarators-loop-each : goal.invariant-declare_declarators-loop-each
invariant-declare_declarators-loop-each l =
    l.scope ≡ l.initial.scope ++ flat_map (λ x. declarator_adds (declarator_of x)) (take l.each-index l.list)

abbrev pub invariant-declare_enumerators-loop-each : goal.invariant-declare_enumerators-loop-each
invariant-declare_enumerators-loop-each l =
    l.scope ≡ l.initial.scope ++ flat_map (λ x. enumerator_adds (enumerator_of x)) (take l.each-index l.list)

abbrev pub invariant-declare_members-loop-each : goal.invariant-declare_members-loop-each
invariant-declare_members-loop-each l =
    l.scope ≡ l.initial.scope ++ flat_map (λ x. member_adds (member_of x)) (take l.each-index l.list)

abbrev pub invariant-declare_specifiers-loop-each : goal.invariant-declare_specifiers-loop-each
invariant-declare_specifiers-loop-each l =
    l.scope ≡ l.initial.scope ++ flat_map (λ x. specifier_adds (specifier_of x)) (take l.each-index l.list)
