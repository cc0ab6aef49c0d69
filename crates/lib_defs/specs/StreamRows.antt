-- The functions of input and output, of handlers and of the end of a run (7.21.6.3, 7.21.7.6, 7.21.7.8, 7.21.7.9,
-- 7.22.4.1, 7.22.4.4, K.3.6.1.2, K.3.6.1.3).
use Rattle.std.specs.Prelude.{ℕ, List, [], ◌∷◌, ◌++◌, length, drop, Option, Some, None, ℤ, pos, negsuc, codes}
use Rattle.acc_num.specs.declared.kind.IntKind.TheVariants.{I32}
use Rattle.acc_num.specs.Operations.{converted_to}
use Rattle.critical_table.specs.declared.ended.Ended.TheVariants.{Exited, Aborted, ReadFault}
use Rattle.object_store.specs.declared.pointer.Pointer.{Pointer}
use Rattle.lib_defs.specs.declared.value.Arg.{Arg}
use Rattle.lib_defs.specs.declared.value.Value.TheVariants.{Num}
use Rattle.lib_defs.specs.Reply.{Stop, no_change, Ends, Did, Done, Fails}
use Rattle.lib_defs.specs.Constraints.{Look, Saw, Stuck}
use Rattle.lib_defs.specs.RowTable.{modulo_byte}
use Rattle.lib_defs.specs.Characters.{Characters, string_at, whole}
use Rattle.lib_defs.specs.Printed.{printed}
use Rattle.lib_defs.specs.World.{Ending, AtEnd, Broken, World, Reply}

-- an answer that leaves the streams
abbrev pub reply_with : World → Did → Reply
reply_with w d = record { did = d; streams = w.streams }

-- an answer behind which so much more is written, or told as an error
abbrev pub reply_writing : World → List ℕ → Did → Reply
reply_writing w text d = record { did = d; streams = record (w.streams) { output = w.streams.output ++ text } }

abbrev pub reply_telling : World → List ℕ → Did → Reply
reply_telling w text d = record { did = d; streams = record (w.streams) { err = w.streams.err ++ text } }

abbrev pub gives : ℤ → Did
gives n = Done no_change None (Num n)

-- putchar
abbrev pub put_reply : World → ℤ → Reply
put_reply w c = reply_writing w (modulo_byte c ∷ []) (gives (pos (modulo_byte c)))

-- puts: the text and a newline
abbrev pub puts_by : Look (List ℕ) → World → Reply
puts_by (Saw text) w = reply_writing w (text ++ codes "\n") (gives (pos 0))
puts_by (Stuck stop) w = reply_with w (Fails stop)

abbrev pub puts_reply : World → Pointer → Reply
puts_reply w p = puts_by (whole (string_at w.store p)) w

-- getchar: the next byte; at the end -1; where the input is broken the read fails
abbrev pub get_reply : World → List ℕ → Ending → Reply
get_reply w [] AtEnd = reply_with w (gives (negsuc 0))
get_reply w [] Broken = reply_with w (Fails (Ends ReadFault))
get_reply w (b ∷ bytes) ending = record {
  did = gives (pos b);
  streams = record (w.streams) { input = record { bytes = bytes; ending = ending } };
}

-- printf: how many characters were written, as an int
abbrev pub print_did : List ℕ → Option Stop → Did
print_did text None = gives (converted_to I32 (pos (length text)))
print_did text (Some stop) = Fails stop

abbrev pub print_text : World → Characters → Reply
print_text w text = reply_writing w text.list (print_did text.list text.stop)

abbrev pub print_reply : World → Pointer → List Arg → Reply
print_reply w format args = print_text w (printed w.store (string_at w.store format) (drop 1 args))

-- abort_handler_s: the message, and the run ends
abbrev pub abort_by : Look (List ℕ) → World → Reply
abort_by (Saw text) w = reply_telling w (codes "abort_handler_s: " ++ text ++ codes "\n") (Fails (Ends Aborted))
abort_by (Stuck stop) w = reply_with w (Fails stop)

abbrev pub abort_reply : World → Pointer → Reply
abort_reply w p = abort_by (whole (string_at w.store p)) w

-- exit: the status is the value modulo 256
abbrev pub exit_did : ℤ → Did
exit_did n = Fails (Ends (Exited (modulo_byte n)))
