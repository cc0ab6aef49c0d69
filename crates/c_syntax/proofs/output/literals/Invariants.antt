-- What the loop of `literals` keeps.
use Rattle.std.proofs.Common.{◌≡◌, ◌++◌, map, take}
use Rattle.c_lexer.specs.declared.token.Body.TheVariants as lexeme
use Rattle.c_syntax.specs.Tokens.{bare}
use Rattle.c_syntax.proofs.output.literals.Given as goal

abbrev pub invariant-loop-units : goal.invariant-loop-units
invariant-loop-units l =
    l.out.items ≡ l.initial.out.items ++ map (λ more. bare (lexeme.Literal more l.text.wide))
    (take l.units-index l.rest)
