-- By how a line marker is read.
use Rattle.c_lexer.specs.Directives.{IsMarker}
use Rattle.c_lexer.specs.ReadDirective.{is_marker}
use Rattle.c_lexer.proofs.DirectiveLaws.{marker_sound, marker_full, exactly}
use Rattle.c_lexer.proofs.directive.is_marker.Goals as goal

pub returns : goal.returns
returns c = exactly (is_marker c.args.text.now) c.read_marker.result (IsMarker c.args.text.now)
    c.read_marker.ensures (marker_sound c.args.text.now) (marker_full c.args.text.now)
