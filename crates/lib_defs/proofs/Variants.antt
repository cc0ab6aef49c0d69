-- The rows of the profile and of the sample answer numbers, pointers or nothing as their prototypes give.
use Rattle.std.proofs.Common.{◌≡◌, ℕ, ◌+◌, ◌-◌, Bool, true, false, cond, not, List, [], ◌∷◌, drop, ◌*◌, ◌==◌, if◌then◌else◌, Option, Some}
use Rattle.std.proofs.Common.{None, refl, sym, subst, ◌∙◌}
use Rattle.std.specs.Prelude.{ℤ, pos, unwrap_or, is_none, nat_lt}
use Rattle.std.proofs.lemmas.Option.{same_Some}
use Rattle.critical_table.specs.declared.case.Case.{Case}
use Rattle.critical_table.specs.declared.case.Case.TheVariants.{L9}
use Rattle.object_store.specs.declared.by.By.{By}
use Rattle.object_store.specs.declared.by.By.TheVariants.{TextRead, TextWrite, OtherWrite}
use Rattle.object_store.specs.declared.pointer.Pointer.{Pointer}
use Rattle.object_store.specs.Storage.{Storage}
use Rattle.object_store.specs.Reach.{reach}
use Rattle.lib_defs.specs.declared.row.Row.{Row}
use Rattle.lib_defs.specs.declared.row_name.RowName.{RowName}
use Rattle.lib_defs.specs.declared.row_name.RowName.TheVariants as n
use Rattle.lib_defs.specs.declared.step.Rest.{Rest}
use Rattle.lib_defs.specs.declared.value.Arg.{Arg}
use Rattle.lib_defs.specs.declared.value.Value.{Value}
use Rattle.lib_defs.specs.declared.value.Value.TheVariants.{Num, Ptr}
use Rattle.lib_defs.specs.declared.violation.Violation.{Violation}
use Rattle.lib_defs.specs.Units.{unit_place, byte_unit, wide_unit, wide_number, rsize_max}
use Rattle.lib_defs.specs.RowNumbers.{name_at}
use Rattle.lib_defs.specs.Reply.{null, no_change, Patch, Fill, Stop, FailsValue, Did, Done, Broken, Asks, Fails}
use Rattle.acc_num.specs.declared.kind.IntKind.TheVariants.{I32}
use Rattle.lib_defs.specs.Handlers.{set_did, first_function}
use Rattle.lib_defs.specs.Spans.{span}
use Rattle.lib_defs.specs.Constraints.{Look, Saw, Stuck, length_seen, see_text, see_string, Refusal, Breaks, Stops}
use Rattle.lib_defs.specs.Constraints.{refusal}
use Rattle.lib_defs.specs.Columns.{is_null, units}
use Rattle.lib_defs.specs.Rules.{Rule, done_with, reach_then_case, reach_then, look_then, act_then, run_by, run_rule}
use Rattle.lib_defs.specs.MemoryRows.{copy_row, move_row, fill_row}
use Rattle.lib_defs.specs.TextRows.{length_row, text_copy_row, part_copy_row, append_row, part_append_row}
use Rattle.lib_defs.specs.TokenRows.{Found, NoToken, ByNull, BySeparator, NotEnded, Window, see_window}
use Rattle.lib_defs.specs.TokenRows.{reach_both_then, found_did, token_row}
use Rattle.lib_defs.specs.OtherRows.{has_byte, error_text_row, error_length_row, wide_char_row}
use Rattle.lib_defs.specs.PlainMemory.{unless_overlap, copy_did, move_did, fill_did, byte_order, memory_order_did}
use Rattle.lib_defs.specs.PlainMemory.{memory_find_did}
use Rattle.lib_defs.specs.PlainTexts.{length_did, text_copy_did, append_did, part_copy_did, part_append_did}
use Rattle.lib_defs.specs.PlainTexts.{text_order, part_order_did, first_place, last_place, text_find_did}
use Rattle.lib_defs.specs.PlainTexts as texts
use Rattle.lib_defs.specs.Allocation.{release_case, can_make, make_if, object_size}
use Rattle.lib_defs.specs.Allocation.{release_then, realloc_did}
use Rattle.lib_defs.specs.RowTable.{ptr, num, count, modulo_byte}
use Rattle.lib_defs.specs.Characters.{string_at, whole}
use Rattle.lib_defs.specs.Printed.{printed}
use Rattle.lib_defs.specs.StreamRows.{puts_by, get_reply, print_did, abort_by}
use Rattle.lib_defs.specs.World.{Ending, AtEnd, World, Reply}
use Rattle.lib_defs.specs.World.{Broken as BrokenInput}
use Rattle.lib_defs.specs.Library.{values_of}
use Rattle.lib_defs.specs.Prototypes.{GivesNumber, GivesPointer, prototype}
use Rattle.lib_defs.specs.Profile.{named_reply, no_reply, reply_of, profile}
use Rattle.lib_defs.specs.Sample.{sample_reply, sample}
use Rattle.lib_defs.specs.Variants.{IsVariant, IsVariantOf, AnswersVariant, KeepsVariants}

-- the value that is answered is such, if one is, and no function of the guest is wanted
abbrev Answers : (Value → Type 0) → Did → Type 0
Answers P (Done change set value) = P value
Answers P (Broken k class action value) = P value
Answers P (Asks function first second third rest) = ⊥
Answers P (Fails stop) = Unit {0}

module _ (P : Value → Type 0) where
  at_reach : (s : Storage) (place : Pointer) (len align : ℕ) (by : By) (go : Did) → Answers P go
      → Answers P (reach_then s place len align by go)
  at_reach s place len align by go h = at_case (reach s place len align by)
    where
      at_case : (o : Option Case) → Answers P (reach_then_case o place len align by go)
      at_case None = h
      at_case (Some case) = tt

  at_seen : {A : Type 0} (seen : Look A) (go : A → Did) → ((a : A) → Answers P (go a)) → Answers P (look_then seen go)
  at_seen (Saw a) go all = all a
  at_seen (Stuck stop) go all = tt

  at_branch : (b : Bool) (x y : Did) → Answers P x → Answers P y → Answers P (cond b x y)
  at_branch true x y hx hy = hx
  at_branch false x y hx hy = hy

  at_unless : (overlaps : Bool) (go : Did) → Answers P go → Answers P (unless_overlap overlaps go)
  at_unless true go h = tt
  at_unless false go h = h

  at_acting : (w : ℕ) (action : Option Fill) (s : Storage) (go : Did) → Answers P go
      → Answers P (act_then w action s go)
  at_acting w None s go h = h
  at_acting w (Some f) s go h = at_reach s f.place f.len w TextWrite go h

  at_refusal : (r : Rule) (s : Storage) (o : Option Refusal) → ((class : Violation) → P (r.failure class))
      → Answers P (r.success s) → Answers P (run_by o r s)
  at_refusal r s None failure success = success
  at_refusal r s (Some (Breaks k class)) failure success =
      at_acting r.width r.action s (Broken k class r.action (r.failure class)) (failure class)
  at_refusal r s (Some (Stops stop)) failure success = tt

  at_rule : (r : Rule) (s : Storage) → ((class : Violation) → P (r.failure class)) → Answers P (r.success s)
      → Answers P (run_rule r s)
  at_rule r s failure success = at_refusal r s (refusal r.constraints 1 s) failure success

  releases : (o : Option Case) (none : Bool) (p : Pointer) (if_null go : Did) → Answers P if_null → Answers P go
      → Answers P (release_then o none p if_null go)
  releases (Some case) none p if_null go h g = tt
  releases None true p if_null go h g = h
  releases None false p if_null go h g = g

-- rows that answer numbers
module _ (P : Value → Type 0) (all : (n : ℤ) → P (Num n)) (s : Storage) where
  copies : (w : ℕ) (s1 : Pointer) (s1max : ℕ) (s2 : Pointer) (n : ℕ)
      → Answers P (run_rule (copy_row w s1 s1max s2 n) s)
  copies w s1 s1max s2 n = at_rule P (copy_row w s1 s1max s2 n) s (λ class. all _)
      (at_reach P s s2 _ w TextRead _ (at_reach P s s1 _ w TextWrite _ (all (pos 0))))

  moves : (w : ℕ) (s1 : Pointer) (s1max : ℕ) (s2 : Pointer) (n : ℕ)
      → Answers P (run_rule (move_row w s1 s1max s2 n) s)
  moves w s1 s1max s2 n = at_rule P (move_row w s1 s1max s2 n) s (λ class. all _)
      (at_reach P s s2 _ w TextRead _ (at_reach P s s1 _ w TextWrite _ (all (pos 0))))

  fills : (p : Pointer) (max c n : ℕ) → Answers P (run_rule (fill_row p max c n) s)
  fills p max c n = at_rule P (fill_row p max c n) s (λ class. all _) (at_reach P s p _ 1 TextWrite _ (all (pos 0)))

  text_copies : (w : ℕ) (s1 : Pointer) (s1max : ℕ) (s2 : Pointer)
      → Answers P (run_rule (text_copy_row w s1 s1max s2) s)
  text_copies w s1 s1max s2 = at_rule P (text_copy_row w s1 s1max s2) s (λ class. all _)
      (at_seen P (see_text w s s2 s1max) _ (λ k. at_reach P s s1 _ w TextWrite _ (all (pos 0))))

  part_copies : (w : ℕ) (s1 : Pointer) (s1max : ℕ) (s2 : Pointer) (n : ℕ)
      → Answers P (run_rule (part_copy_row w s1 s1max s2 n) s)
  part_copies w s1 s1max s2 n = at_rule P (part_copy_row w s1 s1max s2 n) s (λ class. all _)
      (at_seen P (see_text w s s2 n) _ (λ k. at_reach P s s1 _ w TextWrite _ (all (pos 0))))

  appends : (w : ℕ) (s1 : Pointer) (s1max : ℕ) (s2 : Pointer) → Answers P (run_rule (append_row w s1 s1max s2) s)
  appends w s1 s1max s2 = at_rule P (append_row w s1 s1max s2) s (λ class. all _)
      (at_seen P (see_text w s s1 s1max) _ (λ j. at_seen P (see_text w s s2 (s1max - j)) _
      (λ k. at_reach P s _ _ w TextWrite _ (all (pos 0)))))

  part_appends : (w : ℕ) (s1 : Pointer) (s1max : ℕ) (s2 : Pointer) (n : ℕ)
      → Answers P (run_rule (part_append_row w s1 s1max s2 n) s)
  part_appends w s1 s1max s2 n = at_rule P (part_append_row w s1 s1max s2 n) s (λ class. all _)
      (at_seen P (see_text w s s1 s1max) _ (λ j. at_seen P (see_text w s s2 n) _
      (λ k. at_reach P s _ _ w TextWrite _ (all (pos 0)))))

  error_texts : (p : Pointer) (max : ℕ) (errnum : ℤ) → Answers P (run_rule (error_text_row p max errnum) s)
  error_texts p max errnum = at_rule P (error_text_row p max errnum) s (λ class. all _)
      (at_reach P s p _ 1 TextWrite _ (all _))

  error_lengths : (errnum : ℤ) → Answers P (run_rule (error_length_row errnum) s)
  error_lengths errnum = at_rule P (error_length_row errnum) s (λ class. all _) (all _)

  lengths : (w : ℕ) (p : Pointer) (max : ℕ) → Answers P (run_rule (length_row w p max) s)
  lengths w p max = at_rule P (length_row w p max) s (λ class. all _)
      (at_branch P (is_null p) _ _ (all (pos 0)) (at_seen P (see_text w s p max) _ (λ k. all (pos k))))

  wide_chars : (status p : Pointer) (max : ℕ) (wc : ℤ) → Answers P (run_rule (wide_char_row status p max wc) s)
  wide_chars status p max wc = at_rule P (wide_char_row status p max wc) s (λ class. all _)
      (at_branch P (is_null p) _ _ (at_reach P s status 4 4 OtherWrite _ (all (pos 0)))
      (at_branch P (not (has_byte wc)) _ _ (at_reach P s status 4 4 OtherWrite _ (all (pos 84)))
      (at_reach P s p 1 1 OtherWrite _ (at_reach P s status 4 4 OtherWrite _ (all (pos 0))))))

  string_lengths : (w : ℕ) (p : Pointer) → Answers P (length_did w s p)
  string_lengths w p = at_seen P (see_string w s p) _ (λ k. all (pos k))

  memory_orders : (s1 s2 : Pointer) (n : ℕ) → Answers P (memory_order_did s s1 s2 n)
  memory_orders s1 s2 n = at_reach P s s1 _ 1 TextRead _ (at_reach P s s2 _ 1 TextRead _
      (at_seen P (byte_order (units 1 s s1 n) (units 1 s s2 n)) (λ answer. done_with [] (Num answer))
      (λ answer. all answer)))

  text_orders : (value : ℕ → ℤ) (w : ℕ) (s1 s2 : Pointer) (n : ℕ) → Answers P (part_order_did value w s s1 s2 n)
  text_orders value w s1 s2 n = at_seen P (text_order value w s s1 s2 n) _ (λ answer. all answer)

  printed_did : (text : List ℕ) (o : Option Stop) → Answers P (print_did text o)
  printed_did text None = all _
  printed_did text (Some stop) = tt

-- rows that answer pointers
module _ (P : Value → Type 0) (all : (p : Pointer) → P (Ptr p)) (s : Storage) where
  both : (s1max ptr : Pointer) (go : Did) → Answers P go → Answers P (reach_both_then s s1max ptr go)
  both s1max ptr go h = at_reach P s s1max 8 8 TextWrite _ (at_reach P s ptr 16 8 TextWrite go h)

  found_tokens : (w : ℕ) (s1max ptr p : Pointer) (window : ℕ) (found : Found)
      → Answers P (found_did w s s1max ptr p window found)
  found_tokens w s1max ptr p window (NoToken i) = both s1max ptr _ (all _)
  found_tokens w s1max ptr p window (ByNull t j) = both s1max ptr _ (all _)
  found_tokens w s1max ptr p window (BySeparator t j) = at_reach P s _ w w TextWrite _ (both s1max ptr _ (all _))
  found_tokens w s1max ptr p window NotEnded = all _

  tokens : (w : ℕ) (s1 s1max s2 ptr : Pointer) → Answers P (run_rule (token_row w s1 s1max s2 ptr) s)
  tokens w s1 s1max s2 ptr = at_rule P (token_row w s1 s1max s2 ptr) s (λ class. all _)
      (at_seen P (see_window w s s1 s1max s2 ptr) _
      (λ (window : Window). found_tokens w s1max ptr window.from window.units window.found))

  plain_copies : (w : ℕ) (s1 s2 : Pointer) (n : ℕ) → Answers P (copy_did w s s1 s2 n)
  plain_copies w s1 s2 n = at_reach P s s2 _ w TextRead _
      (at_unless P _ _ (at_reach P s s1 _ w TextWrite _ (all s1)))

  plain_moves : (s1 s2 : Pointer) (n : ℕ) → Answers P (move_did s s1 s2 n)
  plain_moves s1 s2 n = at_reach P s s2 _ 1 TextRead _ (at_reach P s s1 _ 1 TextWrite _ (all s1))

  plain_fills : (w : ℕ) (p : Pointer) (number n : ℕ) → Answers P (fill_did w s p number n)
  plain_fills w p number n = at_reach P s p _ w TextWrite _ (all p)

  memory_finds : (p : Pointer) (c n : ℕ) → Answers P (memory_find_did s p c n)
  memory_finds p c n = at_seen P (length_seen 1 (span (λ b. not (b == c)) 1 s p n))
      (λ k. done_with [] (Ptr (if k == n then null else unit_place 1 p k)))
      (λ k. all (if k == n then null else unit_place 1 p k))

  plain_text_copies : (w : ℕ) (s1 s2 : Pointer) → Answers P (text_copy_did w s s1 s2)
  plain_text_copies w s1 s2 = at_seen P (see_string w s s2) _ (λ k.
      at_unless P _ _ (at_reach P s s1 _ w TextWrite _ (all s1)))

  plain_appends : (w : ℕ) (s1 s2 : Pointer) → Answers P (append_did w s s1 s2)
  plain_appends w s1 s2 = at_seen P (see_string w s s1) _ (λ j. at_seen P (see_string w s s2) _ (λ k.
      at_unless P _ _ (at_reach P s _ _ w TextWrite _ (all s1))))

  plain_part_copies : (s1 s2 : Pointer) (n : ℕ) → Answers P (part_copy_did s s1 s2 n)
  plain_part_copies s1 s2 n = at_seen P (see_text 1 s s2 n) _ (λ k.
      at_unless P _ _ (at_reach P s s1 _ 1 TextWrite _ (all s1)))

  plain_part_appends : (s1 s2 : Pointer) (n : ℕ) → Answers P (part_append_did s s1 s2 n)
  plain_part_appends s1 s2 n = at_seen P (see_string 1 s s1) _ (λ j. at_seen P (see_text 1 s s2 n) _ (λ k.
      at_unless P _ _ (at_reach P s _ _ 1 TextWrite _ (all s1))))

  found_places : (p : Pointer) (o : Option ℕ) → Answers P (texts.found_did p o)
  found_places p None = all _
  found_places p (Some k) = all _

  text_finds : (p : Pointer) (find : List (Option ℕ) → Option ℕ) → Answers P (text_find_did s p find)
  text_finds p find = at_seen P (see_string 1 s p) _ (λ k. found_places p _)

  makes : (b : Bool) (size : ℕ) (stores : List Patch) (released : Option ℕ)
      → Answers P (make_if b s size stores released)
  makes false size stores released = all _
  makes true size stores released = all _

  reallocs : (p : Pointer) (size : ℕ) → Answers P (realloc_did s p size)
  reallocs p size = releases P (release_case s p) (is_null p) p _ _ (makes (can_make s 0 size) size _ _)
      (makes (can_make s (object_size s p.object) size) size _ _)

-- of each function
abbrev Wanted : RowName → Option Reply → Type 0
Wanted name None = Unit {0}
Wanted name (Some reply) = Answers (IsVariant (prototype name).gives) reply.did

module _ (args : List Arg) (w : World) where
  abbrev s : Storage
  s = w.store

  abbrev p : ℕ → Pointer
  p k = ptr (values_of args) k

  abbrev c : ℕ → ℕ
  c k = count (values_of args) k

  abbrev i : ℕ → ℤ
  i k = num (values_of args) k

  puts_wanted : (seen : Look (List ℕ)) → Answers (IsVariant (GivesNumber I32)) (puts_by seen w).did
  puts_wanted (Saw text) = tt
  puts_wanted (Stuck stop) = tt

  get_wanted : (bytes : List ℕ) (ending : Ending) → Answers (IsVariant (GivesNumber I32)) (get_reply w bytes ending).did
  get_wanted [] AtEnd = tt
  get_wanted [] BrokenInput = tt
  get_wanted (b ∷ bytes) ending = tt

  set_wanted : (new : Pointer) → Answers (IsVariant GivesPointer) (set_did w.handler new)
  set_wanted new = at_branch (IsVariant GivesPointer) (new.object == 0) _ _ tt
      (at_branch (IsVariant GivesPointer) (nat_lt new.object first_function) (Fails (FailsValue L9 new))
      (Done no_change (Some new) (Ptr w.handler.current)) tt tt)

  abort_wanted : (seen : Look (List ℕ)) → Answers (IsVariant (prototype n.AbortHandlerS).gives) (abort_by seen w).did
  abort_wanted (Saw text) = tt
  abort_wanted (Stuck stop) = tt

  wanted : (name : RowName) → Wanted name (named_reply name args w)
  wanted n.MemcpyS = copies (IsVariant (prototype n.MemcpyS).gives) (λ n. tt) s 1 (p 0) (c 1) (p 2) (c 3)
  wanted n.WmemcpyS = copies (IsVariant (prototype n.WmemcpyS).gives) (λ n. tt) s 4 (p 0) (c 1) (p 2) (c 3)
  wanted n.MemmoveS = moves (IsVariant (prototype n.MemmoveS).gives) (λ n. tt) s 1 (p 0) (c 1) (p 2) (c 3)
  wanted n.WmemmoveS = moves (IsVariant (prototype n.WmemmoveS).gives) (λ n. tt) s 4 (p 0) (c 1) (p 2) (c 3)
  wanted n.MemsetS = fills (IsVariant (prototype n.MemsetS).gives) (λ n. tt) s (p 0) (c 1) (modulo_byte (i 2)) (c 3)
  wanted n.StrcpyS = text_copies (IsVariant (prototype n.StrcpyS).gives) (λ n. tt) s 1 (p 0) (c 1) (p 2)
  wanted n.WcscpyS = text_copies (IsVariant (prototype n.WcscpyS).gives) (λ n. tt) s 4 (p 0) (c 1) (p 2)
  wanted n.StrncpyS = part_copies (IsVariant (prototype n.StrncpyS).gives) (λ n. tt) s 1 (p 0) (c 1) (p 2) (c 3)
  wanted n.WcsncpyS = part_copies (IsVariant (prototype n.WcsncpyS).gives) (λ n. tt) s 4 (p 0) (c 1) (p 2) (c 3)
  wanted n.StrcatS = appends (IsVariant (prototype n.StrcatS).gives) (λ n. tt) s 1 (p 0) (c 1) (p 2)
  wanted n.WcscatS = appends (IsVariant (prototype n.WcscatS).gives) (λ n. tt) s 4 (p 0) (c 1) (p 2)
  wanted n.StrncatS = part_appends (IsVariant (prototype n.StrncatS).gives) (λ n. tt) s 1 (p 0) (c 1) (p 2) (c 3)
  wanted n.WcsncatS = part_appends (IsVariant (prototype n.WcsncatS).gives) (λ n. tt) s 4 (p 0) (c 1) (p 2) (c 3)
  wanted n.StrtokS = tokens (IsVariant (prototype n.StrtokS).gives) (λ p. tt) s 1 (p 0) (p 1) (p 2) (p 3)
  wanted n.WcstokS = tokens (IsVariant (prototype n.WcstokS).gives) (λ p. tt) s 4 (p 0) (p 1) (p 2) (p 3)
  wanted n.StrerrorS = error_texts (IsVariant (prototype n.StrerrorS).gives) (λ n. tt) s (p 0) (c 1) (i 2)
  wanted n.WctombS = wide_chars (IsVariant (prototype n.WctombS).gives) (λ n. tt) s (p 0) (p 1) (c 2) (i 3)
  wanted n.StrnlenS = lengths (IsVariant (prototype n.StrnlenS).gives) (λ n. tt) s 1 (p 0) (c 1)
  wanted n.WcsnlenS = lengths (IsVariant (prototype n.WcsnlenS).gives) (λ n. tt) s 4 (p 0) (c 1)
  wanted n.StrerrorlenS = error_lengths (IsVariant (prototype n.StrerrorlenS).gives) (λ n. tt) s (i 0)
  wanted n.Memcpy = plain_copies (IsVariant (prototype n.Memcpy).gives) (λ p. tt) s 1 (p 0) (p 1) (c 2)
  wanted n.Memmove = plain_moves (IsVariant (prototype n.Memmove).gives) (λ p. tt) s (p 0) (p 1) (c 2)
  wanted n.Wmemcpy = plain_copies (IsVariant (prototype n.Wmemcpy).gives) (λ p. tt) s 4 (p 0) (p 1) (c 2)
  wanted n.Memset = plain_fills (IsVariant (prototype n.Memset).gives) (λ p. tt) s 1 (p 0) (modulo_byte (i 1)) (c 2)
  wanted n.Wmemset = plain_fills (IsVariant (prototype n.Wmemset).gives) (λ p. tt) s 4 (p 0) (wide_number (i 1)) (c 2)
  wanted n.Memcmp = memory_orders (IsVariant (prototype n.Memcmp).gives) (λ n. tt) s (p 0) (p 1) (c 2)
  wanted n.Memchr = memory_finds (IsVariant (prototype n.Memchr).gives) (λ p. tt) s (p 0) (modulo_byte (i 1)) (c 2)
  wanted n.Strlen = string_lengths (IsVariant (prototype n.Strlen).gives) (λ n. tt) s 1 (p 0)
  wanted n.Wcslen = string_lengths (IsVariant (prototype n.Wcslen).gives) (λ n. tt) s 4 (p 0)
  wanted n.Strcpy = plain_text_copies (IsVariant (prototype n.Strcpy).gives) (λ p. tt) s 1 (p 0) (p 1)
  wanted n.Wcscpy = plain_text_copies (IsVariant (prototype n.Wcscpy).gives) (λ p. tt) s 4 (p 0) (p 1)
  wanted n.Strcat = plain_appends (IsVariant (prototype n.Strcat).gives) (λ p. tt) s 1 (p 0) (p 1)
  wanted n.Wcscat = plain_appends (IsVariant (prototype n.Wcscat).gives) (λ p. tt) s 4 (p 0) (p 1)
  wanted n.Strncpy = plain_part_copies (IsVariant (prototype n.Strncpy).gives) (λ p. tt) s (p 0) (p 1) (c 2)
  wanted n.Strncat = plain_part_appends (IsVariant (prototype n.Strncat).gives) (λ p. tt) s (p 0) (p 1) (c 2)
  wanted n.Strcmp = text_orders (IsVariant (prototype n.Strcmp).gives) (λ n. tt) s byte_unit 1 (p 0) (p 1) (rsize_max + 1)
  wanted n.Strncmp = text_orders (IsVariant (prototype n.Strncmp).gives) (λ n. tt) s byte_unit 1 (p 0) (p 1) (c 2)
  wanted n.Wcscmp = text_orders (IsVariant (prototype n.Wcscmp).gives) (λ n. tt) s wide_unit 4 (p 0) (p 1) (rsize_max + 1)
  wanted n.Strchr = text_finds (IsVariant (prototype n.Strchr).gives) (λ p. tt) s (p 0) (first_place (modulo_byte (i 1)) 0)
  wanted n.Strrchr = text_finds (IsVariant (prototype n.Strrchr).gives) (λ p. tt) s (p 0) (last_place (modulo_byte (i 1)) 0)
  wanted n.Malloc = makes (IsVariant (prototype n.Malloc).gives) (λ p. tt) s (can_make s 0 (c 0)) (c 0) _ _
  wanted n.Calloc = makes (IsVariant (prototype n.Calloc).gives) (λ p. tt) s (can_make s 0 (c 0 * c 1)) (c 0 * c 1) _ _
  wanted n.Realloc = reallocs (IsVariant (prototype n.Realloc).gives) (λ p. tt) s (p 0) (c 1)
  wanted n.Free = releases (IsVariant (prototype n.Free).gives) (release_case s (p 0)) (is_null (p 0)) (p 0)
      _ _ tt tt
  wanted n.SetConstraintHandlerS = set_wanted (p 0)
  wanted n.AbortHandlerS = abort_wanted (whole (string_at s (p 0)))
  wanted n.IgnoreHandlerS = tt
  wanted n.Exit = tt
  wanted n.Abort = tt
  wanted n.Putchar = tt
  wanted n.Puts = puts_wanted (whole (string_at s (p 0)))
  wanted n.Getchar = get_wanted w.streams.input.bytes w.streams.input.ending
  wanted n.Printf = printed_did (IsVariant (prototype n.Printf).gives) (λ n. tt) s
      (printed s (string_at s (p 0)) (drop 1 args)).list (printed s (string_at s (p 0)) (drop 1 args)).stop

  any_wanted : (name : RowName) (o : Option Reply) → Wanted name o
      → Answers (IsVariant (prototype name).gives) (unwrap_or o (no_reply w)).did
  any_wanted name None h = tt
  any_wanted name (Some reply) h = h

-- a row with a name
module _ (waits : Row → Rest → Bool) (row : Row) where
  of_name : (name : RowName) → name_at row ≡ Some name → (value : Value) → IsVariant (prototype name).gives value
      → IsVariantOf row value
  of_name name named value h other is = let same : name ≡ other = same_Some name other (sym named ∙ is) in
      subst (λ n. IsVariant (prototype n).gives value) same h

  answers : (name : RowName) → name_at row ≡ Some name → (d : Did) → Answers (IsVariant (prototype name).gives) d
      → AnswersVariant waits row d
  answers name named (Done change set value) h = of_name name named value h
  answers name named (Broken k class action value) h = of_name name named value h
  answers name named (Asks function first second third rest) h = absurd h
  answers name named (Fails stop) h = tt

  named_variant : (args : List Arg) (w : World) (name : RowName) → name_at row ≡ Some name
      → AnswersVariant waits row (reply_of (Some name) args w).did
  named_variant args w name named = answers name named (reply_of (Some name) args w).did
      (any_wanted args w name (named_reply name args w) (wanted args w name))

profile_call : (row : Row) (args : List Arg) (w : World) (o : Option RowName) → name_at row ≡ o
    → AnswersVariant (λ row rest. false) row (reply_of o args w).did
profile_call row args w None is = tt
profile_call row args w (Some name) is = named_variant (λ row rest. false) row args w name is

pub profile_variants : KeepsVariants profile
profile_variants = record {
  waits = λ row rest. false;
  call = λ row args w. profile_call row args w (name_at row) refl;
  resume = λ row rest value w waiting. tt;
}

abbrev unnamed : Row → Rest → Bool
unnamed row rest = is_none (name_at row)

sample_call : (row : Row) (args : List Arg) (w : World) (o : Option RowName) → name_at row ≡ o
    → AnswersVariant unnamed row (sample_reply o row args w).did
sample_call row args w None is = rw is refl
sample_call row args w (Some name) is = named_variant unnamed row args w name is

-- no prototype says what a row without a name answers
sample_resume : (row : Row) (value : Value) (o : Option RowName) → name_at row ≡ o → is_none o ≡ true
    → IsVariantOf row value
sample_resume row value None is none name named = cc
sample_resume row value (Some other) is none name named = cc

pub sample_variants : KeepsVariants sample
sample_variants = record {
  waits = unnamed;
  call = λ row args w. sample_call row args w (name_at row) refl;
  resume = λ row rest value w waiting. sample_resume row value (name_at row) refl waiting;
}
