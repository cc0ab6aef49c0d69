-- The functions of handlers and of streams keep the laws.
use Rattle.std.proofs.Common.{◌≡◌, ℕ, ◌+◌, ◌<◌, ◌≤◌, nat_lt, Bool, true, false, List, []}
use Rattle.std.proofs.Common.{◌∷◌, ◌++◌, length, Option, Some, None, refl, subst, arith}
use Rattle.std.specs.Prelude.{ℤ, pos, negsuc}
use Rattle.std.specs.Option.{option_map_or}
use Rattle.std.specs.List.{All}
use Rattle.lib_defs.specs.declared.row.Row.{Row}
use Rattle.lib_defs.specs.declared.row_name.RowName.{RowName}
use Rattle.lib_defs.specs.declared.row_name.RowName.TheVariants as n
use Rattle.lib_defs.specs.declared.step.Rest.{Rest}
use Rattle.lib_defs.specs.declared.value.Arg.{Arg}
use Rattle.lib_defs.specs.declared.value.Value.TheVariants.{Num}
use Rattle.lib_defs.specs.Units.{rsize_max}
use Rattle.lib_defs.specs.RowNumbers.{name_at}
use Rattle.lib_defs.specs.Reply.{Stop, FailsReach, FailsValue, FailsArgument, IsUndefined, Ends}
use Rattle.lib_defs.specs.Reply.{Fails}
use Rattle.lib_defs.specs.Handlers.{set_did, first_function}
use Rattle.lib_defs.specs.Constraints.{Look, Saw, Stuck}
use Rattle.lib_defs.specs.Columns.{is_null}
use Rattle.lib_defs.specs.RowTable.{modulo_byte}
use Rattle.lib_defs.specs.World.{Ending, AtEnd, Broken as BrokenInput, World, Streams}
use Rattle.lib_defs.specs.StreamRows.{reply_with, put_reply, puts_by, get_reply, print_text, abort_by}
use Rattle.lib_defs.specs.Profile.{reply_of}
use Rattle.lib_defs.specs.Laws.{first_pointer, RowStopFits}
use Rattle.lib_defs.specs.Laws.{HandlerFits, is_handler_name}
use Rattle.lib_defs.specs.RuleLaws.{RuleStop}
use Rattle.lib_defs.proofs.AnnexRows.{has_form}
use Rattle.lib_defs.proofs.PlainFits.{Sees}
use Rattle.lib_defs.proofs.RowsFit.{stop_fits}
use Rattle.lib_defs.proofs.Forms.{int_given}
use Rattle.lib_defs.proofs.PlainMemoryLaws.{order_given}
use Rattle.lib_defs.proofs.PlainCalls.{Fits, answer_fits}
use Rattle.lib_defs.proofs.PrintLaws.{AnyText, Stops, count_given, whole_sees, PrintStop}

byte_small : (z : ℤ) → modulo_byte z ≤ 255
byte_small (pos n) = omega arith
byte_small (negsuc n) = omega arith

pub first_small : (bytes : List ℕ) → All (λ (b : ℕ). b < 256) bytes → (b : ℕ) (rest : List ℕ) → bytes ≡ b ∷ rest
    → b ≤ 255
first_small bytes all b rest e =
    let h : b < 256 = subst (λ (xs : List ℕ). All (λ (x : ℕ). x < 256) xs) e all 0 b (omega arith) in
    omega (arith, h)

module _ (row : Row) (args : List Arg) (w : World) (keeps : Rest → Bool) where
  pub set_fits : name_at row ≡ Some n.SetConstraintHandlerS → (below none : Bool)
      → nat_lt (first_pointer args).object first_function ≡ below → is_null (first_pointer args) ≡ none
      → Fits row args w keeps (reply_with w (set_did w.handler (first_pointer args)))
  set_fits named below true e is =
      rw is (record {
        passes = rw named refl;
        made = tt;
        reached = tt;
        few = omega arith;
        released = tt;
        set = record { setter = named; new = rw is refl; former = refl };
        form = has_form row args n.SetConstraintHandlerS named _ (λ fit. tt);
      })
  set_fits named true false e is =
      rw (is, e) (record {
        name = n.SetConstraintHandlerS;
        named = named;
        first = refl;
        fits =
            (refl, rw (is, e) refl);
      })
  set_fits named false false e is =
      rw (is, e) (record {
        passes = rw named refl;
        made = tt;
        reached = tt;
        few = omega arith;
        released = tt;
        set = record { setter = named; new = rw is refl; former = refl };
        form = has_form row args n.SetConstraintHandlerS named _ (λ fit. tt);
      })

  pub put_fits : name_at row ≡ Some n.Putchar → (c : ℤ) → Fits row args w keeps (put_reply w c)
  put_fits named c =
      answer_fits row args w keeps (rw named refl) (Num (pos (modulo_byte c)))
      (has_form row args n.Putchar named (Num (pos (modulo_byte c)))
      (λ fit. int_given (modulo_byte c) (let le = byte_small c in omega (arith, le))))

  pub get_fits : name_at row ≡ Some n.Getchar → (bytes : List ℕ) (ending : Ending) → w.streams.input.bytes ≡ bytes
      → w.streams.input.ending ≡ ending
      → ((b : ℕ) (rest : List ℕ) → bytes ≡ b ∷ rest → b ≤ 255) → Fits row args w keeps (get_reply w bytes ending)
  get_fits named [] AtEnd e is small =
      answer_fits row args w keeps (rw named refl) (Num (negsuc 0))
      (has_form row args n.Getchar named (Num (negsuc 0)) (λ fit. order_given true))
  get_fits named [] BrokenInput e is small = (e, is)
  get_fits named (b ∷ bytes) ending e is small =
      answer_fits row args w keeps (rw named refl) (Num (pos b))
      (has_form row args n.Getchar named (Num (pos b))
      (λ fit. int_given b (let le = small b bytes refl in omega (arith, le))))

  pub puts_fits : name_at row ≡ Some n.Puts → (seen : Look (List ℕ)) → Sees AnyText w.store seen
      → Fits row args w keeps (puts_by seen w)
  puts_fits named (Saw text) h =
      answer_fits row args w keeps (rw named refl) (Num (pos 0))
      (has_form row args n.Puts named (Num (pos 0)) (λ fit. int_given 0 (omega arith)))
  puts_fits named (Stuck stop) h = stop_fits row args w w.streams stop h

  pub abort_fits : (seen : Look (List ℕ)) → Sees AnyText w.store seen → Fits row args w keeps (abort_by seen w)
  abort_fits (Saw text) h = tt
  abort_fits (Stuck stop) h = stop_fits row args w w.streams stop h

  print_stop_fits : (streams : Streams) → name_at row ≡ Some n.Printf → (stop : Stop) → PrintStop w.store stop
      → RowStopFits row args w streams stop
  print_stop_fits streams named (FailsReach case place len align by) h = h
  print_stop_fits streams named (FailsValue case value) h = absurd h
  print_stop_fits streams named (FailsArgument number) h = record { printer = named; behind = h }
  print_stop_fits streams named (IsUndefined code) h = h
  print_stop_fits streams named (Ends ended) h = absurd h

  pub print_fits : name_at row ≡ Some n.Printf → (text : List ℕ) (stop : Option Stop) → Stops (PrintStop w.store) stop
      → Fits row args w keeps (print_text w (record { list = text; stop = stop }))
  print_fits named text None h =
      answer_fits row args w keeps (rw named refl) _
      (has_form row args n.Printf named _ (λ fit. count_given (length text)))
  print_fits named text (Some stop) h =
      print_stop_fits (record (w.streams) { output = w.streams.output ++ text }) named stop h

-- a handler changes nothing, or stops as any row may
abort_handles : (w : World) (seen : Look (List ℕ)) → Sees AnyText w.store seen
    → HandlerFits w (abort_by seen w).streams (abort_by seen w).did
abort_handles w (Saw text) h = tt
abort_handles w (Stuck stop) h = stops stop h
  where
    stops : (stop : Stop) → RuleStop w.store stop → HandlerFits w w.streams (Fails stop)
    stops (FailsReach case place len align by) h = h
    stops (FailsValue case value) h = absurd h
    stops (FailsArgument number) h = absurd h
    stops (IsUndefined code) h = h
    stops (Ends ended) h = absurd h

handler_named : (name : RowName) (args : List Arg) (w : World) → is_handler_name name ≡ true
    → HandlerFits w (reply_of (Some name) args w).streams (reply_of (Some name) args w).did
handler_named n.AbortHandlerS args w e = abort_handles w _ (whole_sees w.store (first_pointer args) (rsize_max + 1))
handler_named n.IgnoreHandlerS args w e = (refl, refl, refl)
handler_named _ args w e = cc

pub handler_fits : (args : List Arg) (w : World) (o : Option RowName) → option_map_or is_handler_name o false ≡ true
    → HandlerFits w (reply_of o args w).streams (reply_of o args w).did
handler_fits args w None e = cc
handler_fits args w (Some name) e = handler_named name args w e
