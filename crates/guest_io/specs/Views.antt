-- What contracts see of a guest's input and output.
use Rattle.std.specs.Prelude.{ℕ, List, Bool}
use Rattle.guest_io.specs.Counting.{Faults}

-- source: where the input comes from; ahead: the bytes that were read and not asked for yet; ended: a read found the
-- end of the input
pub record InputView (I : Type 0) : Type 0 where
  pub source : I
  pub ahead : List ℕ
  pub ended : Bool

-- sink: where the bytes go; held: those that were not handed on yet
pub record OutputView (O : Type 0) : Type 0 where
  pub sink : O
  pub held : List ℕ

-- cut: a write has failed
pub record GuestView (I O E : Type 0) : Type 0 where
  pub input : InputView I
  pub out : OutputView O
  pub err : OutputView E
  pub cut : Bool

-- the counts of faults of its sinks
abbrev pub faults_of : {I O E : Type 0} → (O → ℕ) → (E → ℕ) → GuestView I O E → Faults
faults_of output err g = record { output = output g.out.sink; err = err g.err.sink }

-- the view with these parts
abbrev pub shape : {I O E : Type 0} → InputView I → OutputView O → OutputView E → Bool → GuestView I O E
shape input out err cut = record { input = input; out = out; err = err; cut = cut }
