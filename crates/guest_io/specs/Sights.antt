-- What is known of a guest's streams, by what the source and the sinks tell.
use Rattle.std.specs.Prelude.{◌≡◌, ℕ, Bool, true, false, List, [], ◌++◌, Option, Some, None}
use Rattle.lib_defs.specs.World.{Ending, AtEnd, Broken, Input}
use Rattle.lib_defs.specs.Answers.{Written, Sight, IsFront}
use Rattle.guest_io.specs.Views.{InputView, OutputView, GuestView}

-- What may come of a source that has these bytes left: all of them and the end, or a front of them, behind which a
-- read fails.
abbrev pub MayComeOf : (left bytes : List ℕ) → Ending → Type 0
MayComeOf left bytes AtEnd = bytes ≡ left
MayComeOf left bytes Broken = IsFront bytes left

-- of a source that tells nothing anything may come
abbrev pub MayCome : Option (List ℕ) → Input → Type 0
MayCome None input = Unit {0}
MayCome (Some left) input = MayComeOf left input.bytes input.ending

-- The bytes that were read ahead come, and then what may come of the source.
pub record ComesBehind (left : Option (List ℕ)) (ahead : List ℕ) (input : Input) : Type 0 where
  pub later : Input
  pub may : MayCome left later
  pub bytes : input.bytes ≡ ahead ++ later.bytes
  pub ending : input.ending ≡ later.ending

-- Behind the end nothing comes but the bytes that were read ahead.
abbrev pub Comes : (ended : Bool) (left : Option (List ℕ)) (ahead : List ℕ) → Input → Type 0
Comes true left ahead input = input ≡ record { bytes = ahead; ending = AtEnd }
Comes false left ahead input = ComesBehind left ahead input

-- what a sink was handed, where it tells that, and what is held back
abbrev pub written_by : Option (List ℕ) → (held : List ℕ) → Option Written
written_by None held = None
written_by (Some handed) held = Some (record { handed = handed; held = held })

abbrev pub written_of : {O : Type 0} → (O → Option (List ℕ)) → OutputView O → Option Written
written_of told output = written_by (told output.sink) output.held

abbrev pub comes_of : {I : Type 0} → (I → Option (List ℕ)) → InputView I → Input → Type 0
comes_of left input = Comes input.ended (left input.source) input.ahead

-- by the bytes that are left of the source, and those that were written to the sinks
abbrev pub sight_of : {I O E : Type 0} → (I → Option (List ℕ)) → (O → Option (List ℕ)) → (E → Option (List ℕ))
    → GuestView I O E
    → Sight
sight_of left output err g = record {
  comes = comes_of left g.input;
  output = written_of output g.out;
  err = written_of err g.err;
}

-- Behind a read that failed nothing comes, and the input is broken.
abbrev pub comes_behind : (is_read_fault : Bool) → (Input → Type 0) → Input → Type 0
comes_behind false comes input = comes input
comes_behind true comes input = input ≡ record { bytes = []; ending = Broken }

abbrev pub sight_behind : (is_read_fault : Bool) → Sight → Sight
sight_behind is_fault s = record s { comes = comes_behind is_fault s.comes }
