-- Runs of the rows of error texts and wide characters, and of the handler.
use Rattle.std.proofs.Common.{◌≡◌, ℕ, [], ◌∷◌, Some, None, refl}
use Rattle.std.specs.Prelude.{pos, negsuc, codes}
use Rattle.critical_table.specs.declared.case.Case.TheVariants.{L9}
use Rattle.object_store.specs.declared.by.By.TheVariants.{OtherRead, OtherWrite}
use Rattle.object_store.specs.declared.mark.Mark.TheVariants.{Plain}
use Rattle.object_store.specs.declared.pointer.Pointer.{Pointer}
use Rattle.object_store.specs.Storage.{Storage}
use Rattle.object_store.specs.Reach.{reach_table}
use Rattle.lib_defs.specs.declared.handler.Handler.{Handler}
use Rattle.lib_defs.specs.declared.step.LibStep.TheVariants as step
use Rattle.lib_defs.specs.declared.value.Value.TheVariants.{Num, Ptr}
use Rattle.lib_defs.specs.declared.violation.Violation.TheVariants.{NullPointer, SizeAbove, SizeZero}
use Rattle.lib_defs.specs.declared.violation.Violation.TheVariants.{DoesNotFit, SizeNotZero}
use Rattle.lib_defs.specs.Reply.{Broken, Fails, FailsReach, null}
use Rattle.lib_defs.specs.Handlers.{set_step, set_handler_after}
use Rattle.lib_defs.specs.Rules.{done_with, run_rule}
use Rattle.lib_defs.specs.OtherRows.{error_text_row, error_length_row, wide_char_row}
use Rattle.lib_defs.proofs.ExampleStore.{object, store, at, known, text_bytes, unset}

-- char s[20]; int t; char c;
abbrev three : Storage
three = store (object Plain (unset 20) ∷ object Plain (unset 4) ∷ object Plain (unset 1) ∷ [])

abbrev s : Pointer
s = at 4 0 20

abbrev t : Pointer
t = at 6 0 4

abbrev c : Pointer
c = at 8 0 1

-- strerror_s(s, 17, 22) has the whole text, and in 16 bytes it has dots
text_whole : run_rule (error_text_row s 17 (pos 22)) three
    ≡ done_with (record { place = s; bytes = text_bytes (codes "Invalid argument") } ∷ []) (Num (pos 0))
unfolding reach_table
text_whole = refl

text_dots : run_rule (error_text_row s 16 (pos 22)) three
    ≡ done_with (record { place = s; bytes = text_bytes (codes "Invalid argu...") } ∷ []) (Num (pos 34))
unfolding reach_table
text_dots = refl

text_five : run_rule (error_text_row s 5 (pos 22)) three
    ≡ done_with (record { place = s; bytes = text_bytes (codes "I...") } ∷ []) (Num (pos 34))
unfolding reach_table
text_five = refl

text_four : run_rule (error_text_row s 4 (pos 22)) three
    ≡ done_with (record { place = s; bytes = text_bytes (codes "...") } ∷ []) (Num (pos 34))
unfolding reach_table
text_four = refl

-- dots need a size above 3
text_three : run_rule (error_text_row s 3 (pos 22)) three
    ≡ done_with (record { place = s; bytes = text_bytes (codes "In") } ∷ []) (Num (pos 34))
unfolding reach_table
text_three = refl

text_one : run_rule (error_text_row s 1 (pos 22)) three
    ≡ done_with (record { place = s; bytes = Some 0 ∷ [] } ∷ []) (Num (pos 34))
unfolding reach_table
text_one = refl

text_no_size : run_rule (error_text_row s 0 (pos 22)) three ≡ Broken 3 SizeZero None (Num (pos 34))
text_no_size = refl

text_unknown : run_rule (error_text_row s 14 (negsuc 0)) three
    ≡ done_with (record { place = s; bytes = text_bytes (codes "Unknown error") } ∷ []) (Num (pos 0))
unfolding reach_table
text_unknown = refl

-- strerrorlen_s(22), and of the number of an invalid wide character
text_length : run_rule (error_length_row (pos 22)) three ≡ done_with [] (Num (pos 16))
text_length = refl

wide_length : run_rule (error_length_row (pos 84)) three ≡ done_with [] (Num (pos 22))
wide_length = refl

-- wctomb_s(&t, &c, 1, L'A'), and of a wide character that has no byte
character : run_rule (wide_char_row t c 1 (pos 65)) three
    ≡ done_with (record { place = c; bytes = Some 65 ∷ [] } ∷ record {
      place = t;
      bytes =
          known (1 ∷ 0 ∷ 0 ∷ 0 ∷ []);
    } ∷ []) (Num (pos 0))
unfolding reach_table
character = refl

character_last : run_rule (wide_char_row t c 1 (pos 255)) three
    ≡ done_with (record { place = c; bytes = Some 255 ∷ [] } ∷ record {
      place = t;
      bytes =
          known (1 ∷ 0 ∷ 0 ∷ 0 ∷ []);
    } ∷ []) (Num (pos 0))
unfolding reach_table
character_last = refl

no_byte : run_rule (wide_char_row t c 1 (pos 256)) three
    ≡ done_with (record { place = t; bytes = known (255 ∷ 255 ∷ 255 ∷ 255 ∷ []) } ∷ []) (Num (pos 84))
unfolding reach_table
no_byte = refl

-- without room: only a character that has a byte fails
no_room : run_rule (wide_char_row t c 0 (pos 65)) three ≡ Broken 1 DoesNotFit None (Num (pos 34))
no_room = refl

no_byte_no_room : run_rule (wide_char_row t c 0 (pos 300)) three
    ≡ done_with (record { place = t; bytes = known (255 ∷ 255 ∷ 255 ∷ 255 ∷ []) } ∷ []) (Num (pos 84))
unfolding reach_table
no_byte_no_room = refl

room_above : run_rule (wide_char_row t c 16777217 (pos 65)) three ≡ Broken 2 SizeAbove None (Num (pos 34))
room_above = refl

-- wctomb_s(&t, NULL, 0, L'A') tells that there is no state, and with a size it violates
no_state : run_rule (wide_char_row t null 0 (pos 65)) three
    ≡ done_with (record { place = t; bytes = known (0 ∷ 0 ∷ 0 ∷ 0 ∷ []) } ∷ []) (Num (pos 0))
unfolding reach_table
no_state = refl

size_not_zero : run_rule (wide_char_row t null 1 (pos 65)) three ≡ Broken 3 SizeNotZero None (Num (pos 34))
size_not_zero = refl

-- the status is an int
no_status : run_rule (wide_char_row c null 0 (pos 65)) three ≡ Fails (FailsReach L9 c 4 4 OtherWrite)
unfolding reach_table
no_status = refl

-- the handler: a function's number is set, null sets the fallback, an object's number is refused
abbrev function : ℕ → Pointer
function number = record { object = number; offset = 0; low = 0; high = 0 }

abbrev handler : Handler
handler = record { current = function 4200000007; fallback = function 4200000001 }

sets : set_step handler (function 4200000000) ≡ step.Done (Ptr (function 4200000007))
sets = refl

sets_it : set_handler_after handler (function 4200000000) ≡ record handler { current = function 4200000000 }
sets_it = refl

sets_fallback : set_handler_after handler null ≡ record handler { current = function 4200000001 }
sets_fallback = refl

refuses : set_step handler (function 4199999999) ≡ step.Trap L9 (function 4199999999) 0 0 OtherRead
refuses = refl

-- strerror_s with a null pointer, and with a size above RSIZE_MAX
text_null : run_rule (error_text_row null 0 (pos 22)) three ≡ Broken 1 NullPointer None (Num (pos 22))
text_null = refl

text_above : run_rule (error_text_row s 16777217 (pos 22)) three ≡ Broken 2 SizeAbove None (Num (pos 34))
text_above = refl

-- the other texts
lengths : run_rule (error_length_row (pos 0)) three ≡ done_with [] (Num (pos 8))
lengths = refl

length_of_range : run_rule (error_length_row (pos 34)) three ≡ done_with [] (Num (pos 19))
length_of_range = refl

length_of_others : run_rule (error_length_row (pos 1)) three ≡ done_with [] (Num (pos 13))
length_of_others = refl

-- wctomb_s: a negative wide character has no byte; a null s has no size above RSIZE_MAX, but one that is not zero
negative : run_rule (wide_char_row t c 1 (negsuc 0)) three
    ≡ done_with (record { place = t; bytes = known (255 ∷ 255 ∷ 255 ∷ 255 ∷ []) } ∷ []) (Num (pos 84))
unfolding reach_table
negative = refl

room_greatest : run_rule (wide_char_row t c 16777216 (pos 0)) three
    ≡ done_with (record { place = c; bytes = Some 0 ∷ [] } ∷ record {
      place = t;
      bytes = known (1 ∷ 0 ∷ 0 ∷ 0 ∷ []);
    } ∷ []) (Num (pos 0))
unfolding reach_table
room_greatest = refl

null_above : run_rule (wide_char_row t null 16777217 (pos 65)) three ≡ Broken 3 SizeNotZero None (Num (pos 34))
null_above = refl

-- s is reached before the status
no_place : run_rule (wide_char_row null (at 8 1 1) 1 (pos 65)) three
    ≡ Fails (FailsReach L9 (at 8 1 1) 1 1 OtherWrite)
unfolding reach_table
no_place = refl
