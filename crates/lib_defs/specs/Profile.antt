-- The library of the profile: all functions that have a name.
use Rattle.std.specs.Prelude.{List, [], Option, Some, None, IsSome, unwrap_or}
use Rattle.critical_table.specs.declared.ended.Ended.TheVariants.{Aborted}
use Rattle.lib_defs.specs.declared.row_name.RowName.{RowName}
use Rattle.lib_defs.specs.declared.row_name.RowName.TheVariants as n
use Rattle.lib_defs.specs.declared.value.Arg.{Arg}
use Rattle.lib_defs.specs.declared.value.Value.{Value}
use Rattle.lib_defs.specs.declared.value.Value.TheVariants.{Nothing}
use Rattle.object_store.specs.Storage.{Storage}
use Rattle.lib_defs.specs.Units.{byte_unit, wide_unit, wide_number}
use Rattle.lib_defs.specs.RowNumbers.{name_at}
use Rattle.lib_defs.specs.Reply.{Ends, Did, Fails}
use Rattle.lib_defs.specs.Handlers.{set_did}
use Rattle.lib_defs.specs.Rules.{Rule, done_with, run_rule}
use Rattle.lib_defs.specs.RowTable.{ptr, count, num, modulo_byte, rule_of}
use Rattle.lib_defs.specs.PlainMemory.{copy_did, move_did, fill_did, memory_order_did, memory_find_did}
use Rattle.lib_defs.specs.PlainTexts.{length_did, text_copy_did, append_did, part_copy_did, part_append_did}
use Rattle.lib_defs.specs.PlainTexts.{text_order_did, part_order_did, text_find_did, first_place, last_place}
use Rattle.lib_defs.specs.Allocation.{malloc_did, calloc_did, realloc_did, free_did}
use Rattle.lib_defs.specs.StreamRows.{reply_with, put_reply, puts_reply, get_reply, print_reply, abort_reply, exit_did}
use Rattle.lib_defs.specs.World.{World, Reply}
use Rattle.lib_defs.specs.Library.{Library, values_of}

-- The functions of clause 7 that see the store alone.
abbrev pub plain_did : RowName → List Value → Storage → Option Did
plain_did n.Memcpy v s = Some (copy_did 1 s (ptr v 0) (ptr v 1) (count v 2))
plain_did n.Memmove v s = Some (move_did s (ptr v 0) (ptr v 1) (count v 2))
plain_did n.Wmemcpy v s = Some (copy_did 4 s (ptr v 0) (ptr v 1) (count v 2))
plain_did n.Memset v s = Some (fill_did 1 s (ptr v 0) (modulo_byte (num v 1)) (count v 2))
plain_did n.Wmemset v s = Some (fill_did 4 s (ptr v 0) (wide_number (num v 1)) (count v 2))
plain_did n.Memcmp v s = Some (memory_order_did s (ptr v 0) (ptr v 1) (count v 2))
plain_did n.Memchr v s = Some (memory_find_did s (ptr v 0) (modulo_byte (num v 1)) (count v 2))
plain_did n.Strlen v s = Some (length_did 1 s (ptr v 0))
plain_did n.Wcslen v s = Some (length_did 4 s (ptr v 0))
plain_did n.Strcpy v s = Some (text_copy_did 1 s (ptr v 0) (ptr v 1))
plain_did n.Wcscpy v s = Some (text_copy_did 4 s (ptr v 0) (ptr v 1))
plain_did n.Strcat v s = Some (append_did 1 s (ptr v 0) (ptr v 1))
plain_did n.Wcscat v s = Some (append_did 4 s (ptr v 0) (ptr v 1))
plain_did n.Strncpy v s = Some (part_copy_did s (ptr v 0) (ptr v 1) (count v 2))
plain_did n.Strncat v s = Some (part_append_did s (ptr v 0) (ptr v 1) (count v 2))
plain_did n.Strcmp v s = Some (text_order_did byte_unit 1 s (ptr v 0) (ptr v 1))
plain_did n.Strncmp v s = Some (part_order_did byte_unit 1 s (ptr v 0) (ptr v 1) (count v 2))
plain_did n.Wcscmp v s = Some (text_order_did wide_unit 4 s (ptr v 0) (ptr v 1))
plain_did n.Strchr v s = Some (text_find_did s (ptr v 0) (first_place (modulo_byte (num v 1)) 0))
plain_did n.Strrchr v s = Some (text_find_did s (ptr v 0) (last_place (modulo_byte (num v 1)) 0))
plain_did n.Malloc v s = Some (malloc_did s (count v 0))
plain_did n.Calloc v s = Some (calloc_did s (count v 0) (count v 1))
plain_did n.Realloc v s = Some (realloc_did s (ptr v 0) (count v 1))
plain_did n.Free v s = Some (free_did s (ptr v 0))
plain_did _ v s = None

-- Handlers, streams, and the ends of a run.
abbrev pub other_reply : RowName → List Arg → World → Option Reply
other_reply n.SetConstraintHandlerS args w = Some (reply_with w (set_did w.handler (ptr (values_of args) 0)))
other_reply n.AbortHandlerS args w = Some (abort_reply w (ptr (values_of args) 0))
other_reply n.IgnoreHandlerS args w = Some (reply_with w (done_with [] Nothing))
other_reply n.Exit args w = Some (reply_with w (exit_did (num (values_of args) 0)))
other_reply n.Abort args w = Some (reply_with w (Fails (Ends Aborted)))
other_reply n.Putchar args w = Some (put_reply w (num (values_of args) 0))
other_reply n.Puts args w = Some (puts_reply w (ptr (values_of args) 0))
other_reply n.Getchar args w = Some (get_reply w w.streams.input.bytes w.streams.input.ending)
other_reply n.Printf args w = Some (print_reply w (ptr (values_of args) 0) args)
other_reply _ args w = None

abbrev pub plain_or : Option Did → RowName → List Arg → World → Option Reply
plain_or (Some d) name args w = Some (reply_with w d)
plain_or None name args w = other_reply name args w

abbrev pub rule_or : Option Rule → RowName → List Arg → World → Option Reply
rule_or (Some r) name args w = Some (reply_with w (run_rule r w.store))
rule_or None name args w = plain_or (plain_did name (values_of args) w.store) name args w

-- what a function answers: it is one of Annex K with a row of constraints, one that sees the store alone, or another
abbrev pub named_reply : RowName → List Arg → World → Option Reply
named_reply name args w = rule_or (rule_of name (values_of args)) name args w

-- each function has an answer, at all arguments and in all worlds
abbrev pub HasAll : Type 0
HasAll = (name : RowName) (args : List Arg) (w : World) → IsSome (named_reply name args w)

-- a number that is no function's: no call has it
abbrev pub no_reply : World → Reply
no_reply w = reply_with w (Fails (Ends Aborted))

abbrev pub reply_of : Option RowName → List Arg → World → Reply
reply_of None args w = no_reply w
reply_of (Some name) args w = unwrap_or (named_reply name args w) (no_reply w)

-- No function of the profile wants one of the guest's.
abbrev pub profile : Library
profile = record { call = λ row args w. reply_of (name_at row) args w; resume = λ rest value w. no_reply w }
