-- The functions that read a text and write it stop as the laws say.
use Rattle.std.proofs.Common.{◌≡◌, ℕ, zero, suc, ◌+◌, ◌<◌, ◌≤◌, Bool, true, false, cond, List, [], ◌∷◌}
use Rattle.std.proofs.Common.{Option, Some, None}
use Rattle.std.proofs.Common.{refl, arith}
use Rattle.std.specs.Prelude.{pos, nat_le, ◌-ℤ◌, ◌%◌, unwrap_or}
use Rattle.std.proofs.lemmas.Int.{ints}
use Rattle.std.proofs.lemmas.Grind.{common_steps}
use Rattle.acc_num.specs.declared.kind.IntKind.TheVariants.{I32}
use Rattle.acc_num.specs.Operations.{converted_to}
use Rattle.critical_table.specs.declared.code.Code.TheVariants.{U09}
use Rattle.object_store.specs.declared.pointer.Pointer.{Pointer}
use Rattle.object_store.specs.Storage.{Storage}
use Rattle.object_store.specs.Steps.{bytes_at}
use Rattle.object_store.specs.Load.{known_number}
use Rattle.object_store.specs.declared.by.By.TheVariants.{OtherRead}
use Rattle.lib_defs.specs.PlainMemory.{see_known}
use Rattle.lib_defs.specs.declared.value.Arg.{Arg}
use Rattle.lib_defs.specs.declared.value.Value.TheVariants.{Num}
use Rattle.lib_defs.specs.Units.{unit_place}
use Rattle.lib_defs.specs.Reply.{Stop, FailsReach, FailsValue, FailsArgument, IsUndefined, Ends}
use Rattle.lib_defs.specs.Constraints.{Look, Saw, Stuck, look}
use Rattle.lib_defs.specs.Prototypes.{IsGiven, int}
use Rattle.lib_defs.specs.Characters.{Characters, see_character, character_then, characters_from, characters_at}
use Rattle.lib_defs.specs.Characters.{whole_by, whole}
use Rattle.lib_defs.specs.Conversions.{Bare, Specification, Form, Signed, Unsigned, Character, String, Conversion}
use Rattle.lib_defs.specs.Conversions.{Percent, Takes, conversion_of, Piece, Ordinary, Specified, Unfinished}
use Rattle.lib_defs.specs.Conversions.{pieces_of}
use Rattle.lib_defs.specs.Printed.{signed_kind, unsigned_kind, number_for, text_for, most_of, argument, argument_text}
use Rattle.lib_defs.specs.Printed.{write_then, convert_then, printed_from, printed}
use Rattle.lib_defs.specs.RuleLaws.{RuleStop}
use Rattle.lib_defs.proofs.PlainFits.{Sees, sees_known, sees_range}

abbrev pub AnyText : List ℕ → Type 0
AnyText text = Unit {0}

abbrev pub Stops : (Stop → Type 0) → Option Stop → Type 0
Stops P None = Unit {0}
Stops P (Some stop) = P stop

-- how many characters were written, as an int
represented_given : (m : ℕ) (small : Bool) → m < 4294967296 → nat_le m 2147483647 ≡ small
    → IsGiven int (Num (cond small (pos m) (pos m -ℤ pos 4294967296)))
represented_given m true less e =
    let le : m ≤ 2147483647 = grind (arith, common_steps, e) in
    record { least = omega (arith, ints, le); greatest = omega (arith, ints, le) }
represented_given m false less e =
    let more : 2147483647 < m = grind (arith, common_steps, e) in
    record { least = omega (arith, ints, less, more); greatest = omega (arith, ints, less, more) }

pub count_given : (n : ℕ) → IsGiven int (Num (converted_to I32 (pos n)))
unfolding converted_to
count_given n = represented_given (n % 4294967296) _ (omega arith) refl

module _ (s : Storage) where
  -- characters that are read
  character_stops : (seen : Look ℕ) → Sees (λ (c : ℕ). Unit {0}) s seen → (rest : Unit {0} → Characters)
      → Stops (RuleStop s) (rest tt).stop → Stops (RuleStop s) (character_then seen rest).stop
  character_stops (Stuck stop) h rest r = h
  character_stops (Saw zero) h rest r = tt
  character_stops (Saw (suc c)) h rest r = r

  character_sees : (p : Pointer) → Sees (λ (c : ℕ). Unit {0}) s (see_character s p)
  character_sees p =
      sees_range (λ (c : ℕ). Unit {0}) s p 1 1 OtherRead (see_known (known_number (bytes_at s p 1)))
      (sees_known s (known_number (bytes_at s p 1)))

  characters_stop_from : (p : Pointer) (k most : ℕ) → Stops (RuleStop s) (characters_from s p k most).stop
  characters_stop_from p k zero = tt
  characters_stop_from p k (suc most) =
      character_stops (see_character s (unit_place 1 p k)) (character_sees (unit_place 1 p k))
      (λ u. characters_from s p (suc k) most) (characters_stop_from p (suc k) most)

  pub characters_stop : (p : Pointer) (most : ℕ) → Stops (RuleStop s) (characters_at s p most).stop
  characters_stop p most = characters_stop_from p 0 most

  whole_sees_by : (list : List ℕ) (stop : Option Stop) → Stops (RuleStop s) stop → Sees AnyText s (whole_by list stop)
  whole_sees_by list None h = tt
  whole_sees_by list (Some stop) h = h

  pub whole_sees : (p : Pointer) (most : ℕ) → Sees AnyText s (whole (characters_at s p most))
  whole_sees p most = whole_sees_by _ _ (characters_stop p most)

  -- a stop of printf: that of any row, or of an argument behind its format
  abbrev pub PrintStop : Stop → Type 0
  PrintStop (FailsArgument number) = 2 ≤ number
  PrintStop stop = RuleStop s stop

  print_stop : (stop : Stop) → RuleStop s stop → PrintStop stop
  print_stop (FailsReach case place len align by) h = h
  print_stop (FailsValue case value) h = h
  print_stop (FailsArgument number) h = absurd h
  print_stop (IsUndefined code) h = h
  print_stop (Ends ended) h = h

  abbrev Prints : Look (List ℕ) → Type 0
  Prints (Saw text) = Unit {0}
  Prints (Stuck stop) = PrintStop stop

  look_prints : {A : Type 0} (P : A → Type 0) (seen : Look A) (go : A → Look (List ℕ)) → Sees P s seen
      → ((a : A) → Prints (go a)) → Prints (look seen go)
  look_prints P (Saw a) go h next = next a
  look_prints P (Stuck stop) go h next = print_stop stop h

  takes_prints : {A : Type 0} (k : ℕ) → 2 ≤ k → (found : Option A) (go : A → Look (List ℕ)) → ((a : A) → Prints (go a))
      → Prints (look (argument k found) go)
  takes_prints k more None go next = more
  takes_prints k more (Some a) go next = next a

  argument_prints : (form : Form) (c : Specification) (k : ℕ) → 2 ≤ k → (a : Arg) → Prints (argument_text s form c k a)
  argument_prints Signed c k more a =
      takes_prints k more (number_for c.modifier (signed_kind c.modifier) a) _ (λ n. tt)
  argument_prints (Unsigned base upper) c k more a =
      takes_prints k more (number_for c.modifier (unsigned_kind c.modifier) a) _ (λ n. tt)
  argument_prints Character c k more a = takes_prints k more (number_for Bare I32 a) _ (λ n. tt)
  argument_prints String c k more a = takes_prints k more (text_for a.kind a.value) _ (λ p.
      look_prints AnyText (whole (characters_at s p (most_of c.precision))) _ (whole_sees p (most_of c.precision))
      (λ text. tt))

  write_stops : (seen : Look (List ℕ)) (go : Unit {0} → Characters) → Prints seen → Stops PrintStop (go tt).stop
      → Stops PrintStop (write_then seen go).stop
  write_stops (Saw text) go h r = r
  write_stops (Stuck stop) go h r = h

  -- what is behind a conversion
  abbrev Goes : (ℕ → List Arg → Characters) → Type 0
  Goes go = (k : ℕ) → 2 ≤ k → (args : List Arg) → Stops PrintStop (go k args).stop

  convert_stops : (found : Option Conversion) (c : Specification) (k : ℕ) → 2 ≤ k → (args : List Arg)
      (go : ℕ → List Arg → Characters) → Goes go → Stops PrintStop (convert_then s found c k args go).stop
  convert_stops None c k more args go r = refl
  convert_stops (Some Percent) c k more args go r = r k more args
  convert_stops (Some (Takes form)) c k more [] go r = more
  convert_stops (Some (Takes form)) c k more (a ∷ args) go r =
      write_stops (argument_text s form c k a) (λ u. go (k + 1) args) (argument_prints form c k more a)
      (r (k + 1) (omega (arith, more)) args)

  -- the end of a format
  end_stops : (end : Option Stop) → Stops (RuleStop s) end → Stops PrintStop end
  end_stops None h = tt
  end_stops (Some stop) h = print_stop stop h

  unfinished_stops : (end : Option Stop) → Stops (RuleStop s) end → PrintStop (unwrap_or end (IsUndefined U09))
  unfinished_stops None h = refl
  unfinished_stops (Some stop) h = print_stop stop h

  pieces_stop : (end : Option Stop) → Stops (RuleStop s) end → (pieces : List Piece) (k : ℕ) → 2 ≤ k → (args : List Arg)
      → Stops PrintStop (printed_from s end pieces k args).stop
  pieces_stop end h [] k more args = end_stops end h
  pieces_stop end h (Ordinary c ∷ pieces) k more args = pieces_stop end h pieces k more args
  pieces_stop end h (Unfinished text ∷ pieces) k more args = unfinished_stops end h
  pieces_stop end h (Specified c ∷ pieces) k more args =
      convert_stops (conversion_of c) c k more args (λ j rest. printed_from s end pieces j rest)
      (λ j behind rest. pieces_stop end h pieces j behind rest)

  pub printed_stops : (format : Characters) → Stops (RuleStop s) format.stop → (args : List Arg)
      → Stops PrintStop (printed s format args).stop
  printed_stops format h args = pieces_stop format.stop h (pieces_of format.list) 2 (omega arith) args
