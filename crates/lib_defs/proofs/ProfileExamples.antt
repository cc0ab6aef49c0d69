-- Calls of the whole library: streams, handlers, and the ends of a run.
use Rattle.std.proofs.Common.{◌≡◌, ℕ, List, [], ◌∷◌, ◌++◌, Some, None, refl}
use Rattle.std.specs.Prelude.{ℤ, pos, negsuc, codes}
use Rattle.std.specs.Fmt.{digits}
use Rattle.acc_num.specs.Operations.{converted_to}
use Rattle.critical_table.specs.declared.case.Case.TheVariants.{L9}
use Rattle.critical_table.specs.declared.code.Code.TheVariants.{U09}
use Rattle.critical_table.specs.declared.ended.Ended.TheVariants.{Exited, Aborted, ReadFault}
use Rattle.object_store.specs.declared.by.By.TheVariants.{OtherRead}
use Rattle.object_store.specs.declared.mark.Mark.TheVariants.{Plain}
use Rattle.object_store.specs.declared.pointer.Pointer.{Pointer}
use Rattle.object_store.specs.Messages.{message_bytes}
use Rattle.object_store.specs.Storage.{Storage}
use Rattle.object_store.specs.Reach.{reach_table}
use Rattle.lib_defs.specs.declared.row_name.RowName.{RowName}
use Rattle.lib_defs.specs.declared.row_name.RowName.TheVariants as n
use Rattle.lib_defs.specs.declared.value.Arg.{Arg}
use Rattle.lib_defs.specs.declared.value.ArgKind.TheVariants as kind
use Rattle.lib_defs.specs.declared.value.Value.TheVariants.{Num, Ptr, Nothing}
use Rattle.lib_defs.specs.declared.violation.Violation.TheVariants.{NullPointer}
use Rattle.lib_defs.specs.Violations.{message_place}
use Rattle.lib_defs.specs.RowNumbers.{name_at}
use Rattle.lib_defs.specs.Reply.{Did, Fails, FailsReach, FailsArgument, IsUndefined, Ends, null}
use Rattle.lib_defs.specs.Rules.{done_with}
use Rattle.lib_defs.specs.StreamRows.{reply_with, gives}
use Rattle.lib_defs.specs.Profile.{profile, reply_of}
use Rattle.lib_defs.specs.World.{Ending, AtEnd, Broken, World, Reply}
use Rattle.lib_defs.proofs.ExampleStore.{object, store, at, known, text_bytes}

-- a format, a string, and three characters without a null
abbrev texts : List ℕ → Storage
texts format = store
    (object Plain (text_bytes format)
    ∷ object Plain (text_bytes (codes "abc"))
    ∷ object Plain (known (codes "abc"))
    ∷ [])

abbrev abort_handler : Pointer
abort_handler = at 4200000002 0 0

abbrev guest_handler : Pointer
guest_handler = at 4200000001 0 0

-- "out " was written and "err " told, and this input is still to come
abbrev run : List ℕ → Ending → List ℕ → World
run format ending input = record {
  store = texts format;
  handler = record { current = guest_handler; fallback = abort_handler };
  streams =
      record { input = record { bytes = input; ending = ending }; output = codes "out "; err = codes "err " };
}

abbrev world : World
world = run (codes "%s|%d") AtEnd (codes "x")

abbrev number : ℤ → Arg
number n = record { value = Num n; kind = kind.Int }

abbrev pointer : Pointer → Arg
pointer p = record { value = Ptr p; kind = kind.CharPointer }

abbrev format : Pointer
format = at 4 0 6

abbrev call : RowName → List Arg → World → Reply
call name args w = reply_of (Some name) args w

abbrev written : List ℕ → Did → Reply
written text did = record { did = did; streams = record (world.streams) { output = codes "out " ++ text } }

abbrev told : List ℕ → Did → Reply
told text did = record { did = did; streams = record (world.streams) { err = codes "err " ++ text } }

abbrev same : Did → Reply
same did = reply_with world did

-- putchar writes and gives the character modulo 256
put_some : call n.Putchar (number (pos 97) ∷ []) world ≡ written (codes "a") (gives (pos 97))
put_some = refl

put_modulo : call n.Putchar (number (negsuc 0) ∷ []) world ≡ written (255 ∷ []) (gives (pos 255))
put_modulo = refl

-- puts: the text and a newline; of a text that is not read nothing is written
puts_some : call n.Puts (pointer (at 6 0 4) ∷ []) world ≡ written (codes "abc\n") (gives (pos 0))
unfolding reach_table
puts_some = refl

puts_open : call n.Puts (pointer (at 8 0 3) ∷ []) world ≡ same (Fails (FailsReach L9 (at 8 3 3) 1 1 OtherRead))
unfolding reach_table
puts_open = refl

-- getchar: the next byte, then the end or a read that fails
get_some : call n.Getchar [] world
    ≡ record {
      did = gives (pos 120);
      streams =
          record (world.streams) { input = record { bytes = []; ending = AtEnd } };
    }
get_some = refl

get_end : call n.Getchar [] (run [] AtEnd []) ≡ reply_with (run [] AtEnd []) (gives (negsuc 0))
get_end = refl

get_broken : call n.Getchar [] (run [] Broken []) ≡ reply_with (run [] Broken []) (Fails (Ends ReadFault))
get_broken = refl

-- printf gives how many characters it wrote
print_some : call n.Printf (pointer format ∷ pointer (at 6 0 4) ∷ number (negsuc 6) ∷ []) world
    ≡ written (codes "abc|-7") (gives (pos 6))
unfolding reach_table digits converted_to
print_some = refl

-- what stands before a stop is written
print_stops : call n.Printf (pointer format ∷ pointer (at 6 0 4) ∷ []) world
    ≡ written (codes "abc|") (Fails (FailsArgument 3))
unfolding reach_table
print_stops = refl

print_undefined : (call n.Printf (pointer (at 4 0 4) ∷ []) (run (codes "a%q") AtEnd [])).did ≡ Fails (IsUndefined U09)
unfolding reach_table
print_undefined = refl

print_null : call n.Printf (pointer null ∷ []) world ≡ same (Fails (FailsReach L9 null 1 1 OtherRead))
unfolding reach_table
print_null = refl

-- abort_handler_s tells its text, and the run ends; a text that is not read is a trap instead
abort_some : call n.AbortHandlerS (pointer (message_place NullPointer) ∷ pointer null ∷ number (pos 22) ∷ []) world
    ≡ told (codes "abort_handler_s: null pointer\n") (Fails (Ends Aborted))
unfolding reach_table message_bytes
abort_some = refl

abort_open : call n.AbortHandlerS (pointer (at 8 0 3) ∷ pointer null ∷ number (pos 22) ∷ []) world
    ≡ same (Fails (FailsReach L9 (at 8 3 3) 1 1 OtherRead))
unfolding reach_table
abort_open = refl

ignore_some : call n.IgnoreHandlerS (pointer null ∷ pointer null ∷ number (pos 22) ∷ []) world
    ≡ same (done_with [] Nothing)
ignore_some = refl

-- exit: the status is taken modulo 256
exit_some : call n.Exit (number (pos 263) ∷ []) world ≡ same (Fails (Ends (Exited 7)))
exit_some = refl

exit_negative : call n.Exit (number (negsuc 0) ∷ []) world ≡ same (Fails (Ends (Exited 255)))
exit_negative = refl

abort_run : call n.Abort [] world ≡ same (Fails (Ends Aborted))
abort_run = refl

-- the library finds its functions by number: the first, the last, and none behind it
first_row : name_at (record { 0 = 0 }) ≡ Some n.MemcpyS
first_row = refl

last_row : profile.call (record { 0 = 52 }) (pointer format ∷ pointer (at 6 0 4) ∷ number (pos 1) ∷ []) world
    ≡ written (codes "abc|1") (gives (pos 5))
unfolding reach_table digits converted_to
last_row = refl

no_row : name_at (record { 0 = 53 }) ≡ None
no_row = refl
