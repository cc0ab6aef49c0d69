-- What the loop of `init_declarators` keeps.
use Rattle.std.proofs.Common.{◌≡◌, ◌∷◌, ◌++◌, map, take}
use Rattle.std.specs.List.{flat_map}
use Rattle.c_lexer.specs.declared.punct.Punct.TheVariants as p
use Rattle.c_syntax.specs.SpellingUnit.{spell_init_declarator}
use Rattle.c_syntax.specs.ViewUnit.{init_declarator_of}
use Rattle.c_syntax.specs.Tokens.{mark}
use Rattle.c_syntax.proofs.spell_unit.init_declarators.Given as goal

abbrev pub invariant-loop-one : goal.invariant-loop-one
invariant-loop-one l =
    l.out.items ≡ l.initial.out.items
    ++ flat_map (λ part. mark p.Comma ∷ part)
    (map (λ x. spell_init_declarator (init_declarator_of x)) (take l.one-index l.rest))
