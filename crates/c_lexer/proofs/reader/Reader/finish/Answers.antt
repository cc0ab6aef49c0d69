-- Two points are parted first; then what is open ends.
use Rattle.std.proofs.Common.{◌≡◌, refl, sym, ◌∙◌}
use Rattle.std.proofs.lemmas.Option.{none-some}
use Rattle.std.specs.Prelude.{None}
use Rattle.std.proofs.lemmas.Result.{on_ok_weaker}
use Rattle.c_lexer.specs.ReaderState.{state_of, Closes}
use Rattle.c_lexer.specs.ReadSoFar.{End}
use Rattle.c_lexer.proofs.Cases.{nothing_some}
use Rattle.c_lexer.proofs.ReaderLaws.{narrows}
use Rattle.c_lexer.proofs.TakeLaws.{parts, last_closes}
use Rattle.c_lexer.proofs.reader.Reader.finish.Goals as goal

pub returns-clause-read : goal.returns-clause-read
returns-clause-read c =
    let before = state_of c.args.self.now in
    let mid = state_of c.part_points.new.self in
    let none : before.refused ≡ None = nothing_some before.refused (sym c.is_some.ensures ∙ c.if-is_some.false) in
    on_ok_weaker c.close.result
    (λ (closes : Closes mid.mode mid (state_of c.close.new.self)) bytes read.
    let parted = parts None before.mode before mid bytes refl none c.in_ok-part_points.ensures.ok
    (narrows End before before.refused bytes read) in
    last_closes mid (state_of c.close.new.self) bytes parted.1 (λ points. none-some _ (parted.2 points)) closes
    parted.0)
    c.close.ensures.ok
