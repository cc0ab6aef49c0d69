-- A shape stands behind `#` and blanks.
use Rattle.std.proofs.Common.{List, ℕ, subst, arith}
use Rattle.std.specs.Prelude.{IsTrue, ◌↔◌}
use Rattle.c_lexer.specs.Directives.{IsShape}
use Rattle.c_lexer.specs.ReadDirective.{skip_blanks}
use Rattle.c_lexer.proofs.PragmaLaws.{tail_is}
use Rattle.c_lexer.proofs.ShapeLaws.{directive_line}
use Rattle.c_lexer.proofs.pragma.is_directive.Goals as goal

pub returns-in-35 : goal.returns-in-35
returns-in-35 c =
    directive_line c.args.line.now c.has_shape.result c.in-35.len_at_least (omega arith)
    (subst (λ (t : List ℕ). IsTrue c.has_shape.result ↔ IsShape (skip_blanks t))
    (tail_is c.args.line.now c.in-35.len_at_least)
    (subst (λ (t : List ℕ). IsTrue c.has_shape.result ↔ IsShape t) c.past.ensures c.has_shape.ensures))
