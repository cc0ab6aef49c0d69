-- By how an include is read.
use Rattle.c_lexer.specs.Directives.{IsInclude}
use Rattle.c_lexer.specs.ReadDirective.{is_include}
use Rattle.c_lexer.proofs.DirectiveLaws.{include_sound, include_full, exactly}
use Rattle.c_lexer.proofs.directive.is_include.Goals as goal

pub returns : goal.returns
returns c = exactly (is_include c.args.text.now) c.read_include.result (IsInclude c.args.text.now)
    c.read_include.ensures (include_sound c.args.text.now) (include_full c.args.text.now)
