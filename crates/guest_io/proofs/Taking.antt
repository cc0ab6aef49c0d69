-- What getchar gives of the bytes that were read ahead, and of those that a read gives.
use Rattle.std.proofs.Common.{◌≡◌, ℕ, Bool, true, false, List, [], ◌∷◌, ◌++◌, Option, Some, None, refl, sym, ap, subst}
use Rattle.std.proofs.Common.{◌∙◌, append_assoc, IfSome}
use Rattle.std.specs.Prelude.{pos, negsuc}
use Rattle.acc_io.specs.Bytes.{Gives}
use Rattle.critical_table.specs.declared.ended.Ended.TheVariants.{ReadFault}
use Rattle.lib_defs.specs.declared.step.LibStep.{LibStep}
use Rattle.lib_defs.specs.declared.step.LibStep.TheVariants.{Done, End}
use Rattle.lib_defs.specs.declared.value.Value.TheVariants.{Num}
use Rattle.lib_defs.specs.World.{Ending, AtEnd, Broken, Input}
use Rattle.lib_defs.specs.Answers.{IsFront}
use Rattle.guest_io.specs.Views.{InputView}
use Rattle.guest_io.specs.Sights.{MayComeOf, MayCome, Comes, comes_of}
use Rattle.guest_io.specs.Streams.{IsGot, Gets}

abbrev given : ℕ → LibStep
given b = Done (Num (pos b))

abbrev at_end : LibStep
at_end = Done (Num (negsuc 0))

abbrev ended : Input
ended = record { bytes = []; ending = AtEnd }

abbrev broken : Input
broken = record { bytes = []; ending = Broken }

abbrev with_byte : ℕ → Input → Input
with_byte b now = record { bytes = b ∷ now.bytes; ending = now.ending }

got_byte : (b : ℕ) (now : Input) → IsGot (with_byte b now) now (given b)
got_byte b now w e =
    record { step = record { step = refl; store = refl; handler = refl }; output = refl; err = refl; input = refl }

got_end : IsGot ended ended at_end
got_end w e =
    record { step = record { step = refl; store = refl; handler = refl }; output = refl; err = refl; input = e }

got_broken : IsGot broken broken (End ReadFault)
got_broken w e =
    record { step = record { step = refl; store = refl; handler = refl }; output = refl; err = refl; input = e }

-- a byte that was read ahead
pub takes_ahead : (over : Bool) (left : Option (List ℕ)) (b : ℕ) (ahead : List ℕ)
    → Gets (Comes over left (b ∷ ahead)) (Comes over left ahead) (given b)
takes_ahead true left b ahead = λ now e. (with_byte b now, rw e refl, got_byte b now)
takes_ahead false left b ahead = λ now h. (
  with_byte b now,
  record {
    later = h.later;
    may = h.may;
    bytes = ap (λ (l : List ℕ). b ∷ l) h.bytes;
    ending = h.ending;
  },
  got_byte b now,
)

-- the end, that was found before
pub takes_end : (left : Option (List ℕ)) → Gets (Comes true left []) (Comes true left []) at_end
takes_end left = λ now e. (ended, refl, subst (λ (i : Input). IsGot ended i at_end) (sym e) got_end)

-- the end is found
nothing_left : (left : Option (List ℕ)) → IfSome left (λ bytes. bytes ≡ []) → MayCome left ended
nothing_left None h = tt
nothing_left (Some left) h = sym h

pub finds_end : (before now : Option (List ℕ)) → IfSome before (λ bytes. bytes ≡ [])
    → Gets (Comes false before []) (Comes true now []) at_end
finds_end before now none = λ input e. (
  ended,
  record { later = ended; may = nothing_left before none; bytes = refl; ending = refl },
  subst (λ (i : Input). IsGot ended i at_end) (sym e) got_end,
)

-- bytes are read
front_more : (xs ys : List ℕ) (left : List ℕ) → IsFront ys left → IsFront (xs ++ ys) (xs ++ left)
front_more xs ys left h = record {
  rest = h.rest;
  front = ap (λ (l : List ℕ). xs ++ l) h.front ∙ sym (append_assoc xs ys h.rest);
}

more_of : (xs left bytes : List ℕ) (ending : Ending) → MayComeOf left bytes ending
    → MayComeOf (xs ++ left) (xs ++ bytes) ending
more_of xs left bytes AtEnd h = ap (λ (l : List ℕ). xs ++ l) h
more_of xs left bytes Broken h = front_more xs bytes left h

more_comes : (xs : List ℕ) (before now : Option (List ℕ)) (later : Input) → Gives before now xs → MayCome now later
    → MayCome before (record { bytes = xs ++ later.bytes; ending = later.ending })
more_comes xs before None later e h = rw e tt
more_comes xs before (Some left) later e h = rw e (more_of xs left later.bytes later.ending h)

pub reads_byte : (before now : Option (List ℕ)) (b : ℕ) (ahead : List ℕ) → Gives before now (b ∷ ahead)
    → Gets (Comes false before []) (Comes false now ahead) (given b)
reads_byte before now b ahead gives = λ input h. (
  with_byte b input,
  record {
    later = record { bytes = (b ∷ ahead) ++ h.later.bytes; ending = h.later.ending };
    may = more_comes (b ∷ ahead) before now h.later gives h.may;
    bytes = ap (λ (l : List ℕ). b ∷ l) h.bytes;
    ending = h.ending;
  },
  got_byte b input,
)

-- a read fails
nothing_comes : (left : Option (List ℕ)) → MayCome left broken
nothing_comes None = tt
nothing_comes (Some left) = record { rest = left; front = refl }

abbrev pub Breaks : Input → Type 0
Breaks now = now ≡ broken

read_fails : (left : Option (List ℕ)) → Gets (Comes false left []) Breaks (End ReadFault)
read_fails left = λ now e. (
  broken,
  record { later = broken; may = nothing_comes left; bytes = refl; ending = refl },
  subst (λ (i : Input). IsGot broken i (End ReadFault)) (sym e) got_broken,
)

-- of a source that is to be read
module _ {I : Type 0} (left : I → Option (List ℕ)) (input : InputView I) (none : input.ahead ≡ [])
    (more : input.ended ≡ false) where
  gets_from : (new : Input → Type 0) (answer : LibStep) → Gets (Comes false (left input.source) []) new answer
      → Gets (comes_of left input) new answer
  gets_from new answer h = rw (none, more) h

  pub fails_from : Gets (comes_of left input) Breaks (End ReadFault)
  fails_from = gets_from Breaks (End ReadFault) (read_fails (left input.source))

  pub byte_from : (source : I) (ahead : List ℕ) (over : Bool) → over ≡ false → (b : ℕ)
      → Gives (left input.source) (left source) (b ∷ ahead)
      → Gets (comes_of left input) (Comes over (left source) ahead) (given b)
  byte_from source ahead over open_still b gives =
      gets_from (Comes over (left source) ahead) (given b)
      (rw open_still (reads_byte (left input.source) (left source) b ahead gives))

  pub end_from : (source : I) (ahead : List ℕ) → ahead ≡ [] → IfSome (left input.source) (λ bytes. bytes ≡ [])
      → Gets (comes_of left input) (Comes true (left source) ahead) at_end
  end_from source ahead no_more end =
      gets_from (Comes true (left source) ahead) at_end
      (rw no_more (finds_end (left input.source) (left source) end))
