-- Two points are parted first, if they have to be; then the byte follows.
use Rattle.std.proofs.Common.{◌≡◌, List, ℕ, [], ◌∷◌, ◌++◌, refl, sym, ◌∙◌}
use Rattle.std.specs.Prelude.{Some, None}
use Rattle.std.proofs.lemmas.Result.{on_ok_weaker}
use Rattle.c_lexer.specs.declared.mode.Mode.TheVariants as mode
use Rattle.c_lexer.specs.ReaderState.{state_of}
use Rattle.c_lexer.specs.ReadSoFar.{IsRead, Anything, Byte}
use Rattle.c_lexer.proofs.Cases.{nothing_some}
use Rattle.c_lexer.proofs.ReaderLaws.{narrows}
use Rattle.c_lexer.proofs.TakeLaws.{parts}
use Rattle.c_lexer.proofs.reader.Reader.take.Goals as goal

pub returns-clause-read : goal.returns-clause-read
returns-clause-read c =
    let before = state_of c.args.self.now in
    let mid = state_of c.part_points.new.self in
    let none : before.refused ≡ None = nothing_some before.refused (sym c.is_some.ensures ∙ c.if-is_some.false) in
    on_ok_weaker c.follow.result
    (λ (follows : (bytes : List ℕ) → mid.refused ≡ None → (mid.mode ≡ Some mode.Dots → c.args.byte ≡ 46)
    → IsRead (Byte c.args.byte) mid bytes
    → IsRead Anything (state_of c.follow.new.self) (bytes ++ (c.args.byte ∷ []))) bytes read.
    let parted = parts (Some c.args.byte) before.mode before mid bytes refl none c.in_ok-part_points.ensures.ok
    (narrows (Byte c.args.byte) before before.refused bytes read) in
    follows bytes parted.1 (λ points. let e = parted.2 points in cc) parted.0)
    c.follow.ensures.read
