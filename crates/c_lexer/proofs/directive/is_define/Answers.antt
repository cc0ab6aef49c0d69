-- By how the define is read.
use Rattle.c_lexer.specs.Directives.{IsDefine}
use Rattle.c_lexer.specs.ReadDirective.{is_define}
use Rattle.c_lexer.proofs.DirectiveLaws.{define_sound, define_full, exactly}
use Rattle.c_lexer.proofs.directive.is_define.Goals as goal

pub returns : goal.returns
returns c = exactly (is_define c.args.text.now) c.read_define.result (IsDefine c.args.text.now)
    c.read_define.ensures (define_sound c.args.text.now) (define_full c.args.text.now)
