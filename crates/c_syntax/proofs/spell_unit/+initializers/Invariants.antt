-- What the loops of the functions that spell initializers keep.
use Rattle.std.proofs.Common.{◌≡◌, ◌∷◌, ◌++◌, map, take}
use Rattle.std.specs.List.{flat_map}
use Rattle.c_lexer.specs.declared.punct.Punct.TheVariants as p
use Rattle.c_syntax.specs.SpellingUnit.{spell_item}
use Rattle.c_syntax.specs.ViewUnit.{item_of}
use Rattle.c_syntax.specs.Tokens.{mark}
use Rattle.c_syntax.proofs.spell_unit.+initializers.Given as goal

abbrev pub invariant-items-loop-each : goal.invariant-items-loop-each
invariant-items-loop-each l =
    l.out.items ≡ l.initial.out.items
    ++ flat_map (λ part. mark p.Comma ∷ part) (map (λ x. spell_item (item_of x)) (take l.each-index l.rest))
