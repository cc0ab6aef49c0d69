-- By how a pragma is read.
use Rattle.c_lexer.specs.Directives.{IsPragma}
use Rattle.c_lexer.specs.ReadDirective.{is_pragma}
use Rattle.c_lexer.proofs.DirectiveLaws.{exactly}
use Rattle.c_lexer.proofs.PragmaLaws.{pragma_sound, pragma_full}
use Rattle.c_lexer.proofs.pragma.is_pragma.Goals as goal

pub returns : goal.returns
returns c = exactly (is_pragma c.args.text.now) c.read_pragma.result (IsPragma c.args.text.now)
    c.read_pragma.ensures (pragma_sound c.args.text.now) (pragma_full c.args.text.now)
