-- The library of the profile keeps the laws.
use Rattle.std.proofs.Common.{◌≡◌, ℕ, ◌+◌, ◌*◌, Bool, false, List, [], ◌∷◌, drop, Option, Some, None, refl}
use Rattle.std.specs.Prelude.{ℤ, unwrap_or}
use Rattle.object_store.specs.declared.pointer.Pointer.{Pointer}
use Rattle.object_store.specs.Storage.{Storage}
use Rattle.lib_defs.specs.declared.row.Row.{Row}
use Rattle.lib_defs.specs.declared.row_name.RowName.{RowName}
use Rattle.lib_defs.specs.declared.row_name.RowName.TheVariants as n
use Rattle.lib_defs.specs.declared.step.Rest.{Rest}
use Rattle.lib_defs.specs.declared.value.Arg.{Arg}
use Rattle.lib_defs.specs.declared.value.Value.{Value}
use Rattle.lib_defs.specs.declared.value.Value.TheVariants.{Ptr, Nothing}
use Rattle.lib_defs.specs.Units.{byte_narrow, wide_narrow, rsize_max, byte_unit, wide_unit, wide_number}
use Rattle.lib_defs.specs.RowNumbers.{name_at}
use Rattle.lib_defs.specs.Prototypes.{IsGiven, prototype}
use Rattle.lib_defs.specs.Reply.{Did}
use Rattle.lib_defs.specs.Rules.{Rule}
use Rattle.lib_defs.specs.RowTable.{ptr, num, count, modulo_byte, rule_of}
use Rattle.lib_defs.specs.World.{World, Reply, Flows}
use Rattle.lib_defs.specs.Library.{values_of}
use Rattle.lib_defs.specs.PlainMemory.{copy_did, move_did, fill_did, memory_order_did, memory_find_did}
use Rattle.lib_defs.specs.PlainTexts.{length_did, text_copy_did, append_did, part_copy_did, part_append_did}
use Rattle.lib_defs.specs.PlainTexts.{text_order_did, part_order_did, text_find_did, first_place, last_place}
use Rattle.lib_defs.specs.Characters.{string_at, whole}
use Rattle.lib_defs.specs.Printed.{printed}
use Rattle.lib_defs.specs.StreamRows.{reply_with}
use Rattle.lib_defs.specs.Profile.{plain_did, other_reply, plain_or, rule_or, named_reply, HasAll, no_reply, reply_of}
use Rattle.lib_defs.specs.Profile.{profile}
use Rattle.lib_defs.specs.Laws.{IsWorld, HasForm}
use Rattle.lib_defs.specs.Laws.{KeepsLaws}
use Rattle.lib_defs.proofs.AnnexRows.{annex_row_fits, has_form}
use Rattle.lib_defs.proofs.PlainFits.{PlainFits}
use Rattle.lib_defs.proofs.PlainCalls.{Fits, FitsAny, Undecided, answer_fits, plain_fits}
use Rattle.lib_defs.proofs.PlainMemoryLaws.{copy_fits, move_fits, fill_fits, memory_order_fits, memory_find_fits}
use Rattle.lib_defs.proofs.PlainTextLaws.{length_fits, text_copy_fits, append_fits, part_copy_fits, part_append_fits}
use Rattle.lib_defs.proofs.PlainTextLaws.{order_fits, text_find_fits}
use Rattle.lib_defs.proofs.PrintLaws.{characters_stop, whole_sees, printed_stops}
use Rattle.lib_defs.proofs.Flows.{flows_still, flows_writing, puts_flows, abort_flows, get_flows}
use Rattle.lib_defs.proofs.AllocationLaws.{malloc_fits, calloc_fits, realloc_fits, free_fits}
use Rattle.lib_defs.proofs.StreamLaws.{first_small, set_fits, put_fits, get_fits, puts_fits, abort_fits, print_fits}
use Rattle.lib_defs.proofs.StreamLaws.{handler_fits}
use Rattle.lib_defs.proofs.Variants.{profile_variants}

module _ (row : Row) (args : List Arg) (w : World) (keeps : Rest → Bool) where
  abbrev s : Storage
  s = w.store

  abbrev p : ℕ → Pointer
  p k = ptr (values_of args) k

  abbrev c : ℕ → ℕ
  c k = count (values_of args) k

  abbrev i : ℕ → ℤ
  i k = num (values_of args) k

  plain : (name : RowName) → name_at row ≡ Some name → Undecided row args w keeps → (d : Did)
      → PlainFits (IsGiven (prototype name).gives) s d → Fits row args w keeps (reply_with w d)
  plain name named passes d h = plain_fits row args w keeps name named passes d h

  form : (name : RowName) → name_at row ≡ Some name → (value : Value) → IsGiven (prototype name).gives value
      → HasForm row args value
  form name named value given = has_form row args name named value (λ fit. given)

  -- the functions of clause 7, handlers and streams
  other_fits : (name : RowName) → name_at row ≡ Some name → IsWorld w
      → FitsAny row args w keeps (plain_or (plain_did name (values_of args) s) name args w)
  other_fits n.Memcpy named is =
      plain n.Memcpy named (rw named refl) (copy_did 1 s (p 0) (p 1) (c 2))
      (copy_fits s 1 (p 0) (p 1) (c 2))
  other_fits n.Memmove named is =
      plain n.Memmove named (rw named refl) (move_did s (p 0) (p 1) (c 2))
      (move_fits s (p 0) (p 1) (c 2))
  other_fits n.Wmemcpy named is =
      plain n.Wmemcpy named (rw named refl) (copy_did 4 s (p 0) (p 1) (c 2))
      (copy_fits s 4 (p 0) (p 1) (c 2))
  other_fits n.Memset named is =
      plain n.Memset named (rw named refl) (fill_did 1 s (p 0) (modulo_byte (i 1)) (c 2))
      (fill_fits s 1 is.sized (p 0) (modulo_byte (i 1)) (c 2))
  other_fits n.Wmemset named is =
      plain n.Wmemset named (rw named refl) (fill_did 4 s (p 0) (wide_number (i 1)) (c 2))
      (fill_fits s 4 is.sized (p 0) (wide_number (i 1)) (c 2))
  other_fits n.Memcmp named is =
      plain n.Memcmp named (rw named refl) (memory_order_did s (p 0) (p 1) (c 2))
      (memory_order_fits s (p 0) (p 1) (c 2))
  other_fits n.Memchr named is =
      plain n.Memchr named (rw named refl) (memory_find_did s (p 0) (modulo_byte (i 1)) (c 2))
      (memory_find_fits s (p 0) (modulo_byte (i 1)) (c 2))
  other_fits n.Strlen named is =
      plain n.Strlen named (rw named refl) (length_did 1 s (p 0))
      (length_fits s is.sized 1 byte_narrow.0 (p 0))
  other_fits n.Wcslen named is =
      plain n.Wcslen named (rw named refl) (length_did 4 s (p 0))
      (length_fits s is.sized 4 wide_narrow.0 (p 0))
  other_fits n.Strcpy named is =
      plain n.Strcpy named (rw named refl) (text_copy_did 1 s (p 0) (p 1))
      (text_copy_fits s is.sized 1 byte_narrow.0 (p 0) (p 1))
  other_fits n.Wcscpy named is =
      plain n.Wcscpy named (rw named refl) (text_copy_did 4 s (p 0) (p 1))
      (text_copy_fits s is.sized 4 wide_narrow.0 (p 0) (p 1))
  other_fits n.Strcat named is =
      plain n.Strcat named (rw named refl) (append_did 1 s (p 0) (p 1))
      (append_fits s is.sized 1 byte_narrow.0 (p 0) (p 1))
  other_fits n.Wcscat named is =
      plain n.Wcscat named (rw named refl) (append_did 4 s (p 0) (p 1))
      (append_fits s is.sized 4 wide_narrow.0 (p 0) (p 1))
  other_fits n.Strncpy named is =
      plain n.Strncpy named (rw named refl) (part_copy_did s (p 0) (p 1) (c 2))
      (part_copy_fits s is.sized (p 0) (p 1) (c 2))
  other_fits n.Strncat named is =
      plain n.Strncat named (rw named refl) (part_append_did s (p 0) (p 1) (c 2))
      (part_append_fits s is.sized (p 0) (p 1) (c 2))
  other_fits n.Strcmp named is =
      plain n.Strcmp named (rw named refl) (text_order_did byte_unit 1 s (p 0) (p 1))
      (order_fits s is.sized byte_unit 1 (p 0) (p 1) (rsize_max + 1))
  other_fits n.Strncmp named is =
      plain n.Strncmp named (rw named refl) (part_order_did byte_unit 1 s (p 0) (p 1) (c 2))
      (order_fits s is.sized byte_unit 1 (p 0) (p 1) (c 2))
  other_fits n.Wcscmp named is =
      plain n.Wcscmp named (rw named refl) (text_order_did wide_unit 4 s (p 0) (p 1))
      (order_fits s is.sized wide_unit 4 (p 0) (p 1) (rsize_max + 1))
  other_fits n.Strchr named is =
      plain n.Strchr named (rw named refl) (text_find_did s (p 0) (first_place (modulo_byte (i 1)) 0))
      (text_find_fits s is.sized (p 0) (first_place (modulo_byte (i 1)) 0))
  other_fits n.Strrchr named is =
      plain n.Strrchr named (rw named refl) (text_find_did s (p 0) (last_place (modulo_byte (i 1)) 0))
      (text_find_fits s is.sized (p 0) (last_place (modulo_byte (i 1)) 0))
  other_fits n.Malloc named is =
      malloc_fits row args w keeps (rw named refl) (λ q. form n.Malloc named (Ptr q) tt) (c 0)
  other_fits n.Calloc named is =
      calloc_fits row args w keeps (rw named refl) (λ q. form n.Calloc named (Ptr q) tt) (c 0 * c 1)
  other_fits n.Realloc named is = realloc_fits row args w keeps named
  other_fits n.Free named is = free_fits row args w keeps named
  other_fits n.SetConstraintHandlerS named is = set_fits row args w keeps named _ _ refl refl
  other_fits n.AbortHandlerS named is =
      abort_fits row args w keeps (whole (string_at s (p 0))) (whole_sees s (p 0) (rsize_max + 1))
  other_fits n.IgnoreHandlerS named is =
      answer_fits row args w keeps (rw named refl) Nothing (form n.IgnoreHandlerS named Nothing tt)
  other_fits n.Exit named is = tt
  other_fits n.Abort named is = tt
  other_fits n.Putchar named is = put_fits row args w keeps named (i 0)
  other_fits n.Puts named is =
      puts_fits row args w keeps named (whole (string_at s (p 0))) (whole_sees s (p 0) (rsize_max + 1))
  other_fits n.Getchar named is =
      get_fits row args w keeps named w.streams.input.bytes w.streams.input.ending refl refl
      (first_small w.streams.input.bytes is.bytes)
  other_fits n.Printf named is =
      print_fits row args w keeps named (printed s (string_at s (p 0)) (drop 1 args)).list
      (printed s (string_at s (p 0)) (drop 1 args)).stop
      (printed_stops s (string_at s (p 0)) (characters_stop s (p 0) (rsize_max + 1)) (drop 1 args))
  other_fits _ named is = tt

  named_fits : (name : RowName) (o : Option Rule) → name_at row ≡ Some name → rule_of name (values_of args) ≡ o
      → IsWorld w
      → FitsAny row args w keeps (rule_or o name args w)
  named_fits name (Some r) named e is = annex_row_fits row args name r named e w is.sized keeps w.streams
  named_fits name None named e is = other_fits name named is

  any_fits : (o : Option Reply) → FitsAny row args w keeps o → Fits row args w keeps (unwrap_or o (no_reply w))
  any_fits None h = tt
  any_fits (Some reply) h = h

  pub name_fits : (name : RowName) → name_at row ≡ Some name → IsWorld w
      → Fits row args w keeps (reply_of (Some name) args w)
  name_fits name named is =
      any_fits (named_reply name args w) (named_fits name (rule_of name (values_of args)) named refl is)

row_fits : (row : Row) (args : List Arg) (w : World) (keeps : Rest → Bool) (o : Option RowName) → name_at row ≡ o
    → IsWorld w → Fits row args w keeps (reply_of o args w)
row_fits row args w keeps None e is = tt
row_fits row args w keeps (Some name) e is = name_fits row args w keeps name e is

abbrev FlowsAny : World → Option Reply → Type 0
FlowsAny w None = Unit {0}
FlowsAny w (Some reply) = Flows w.streams reply.streams

other_flows : (name : RowName) (args : List Arg) (w : World) → FlowsAny w (other_reply name args w)
other_flows n.SetConstraintHandlerS args w = flows_still w.streams
other_flows n.AbortHandlerS args w = abort_flows w (whole (string_at w.store (ptr (values_of args) 0)))
other_flows n.IgnoreHandlerS args w = flows_still w.streams
other_flows n.Exit args w = flows_still w.streams
other_flows n.Abort args w = flows_still w.streams
other_flows n.Putchar args w = flows_writing w (modulo_byte (num (values_of args) 0) ∷ [])
other_flows n.Puts args w = puts_flows w (whole (string_at w.store (ptr (values_of args) 0)))
other_flows n.Getchar args w = get_flows w w.streams.input.bytes w.streams.input.ending refl refl
other_flows n.Printf args w =
    flows_writing w (printed w.store (string_at w.store (ptr (values_of args) 0)) (drop 1 args)).list
other_flows _ args w = tt

plain_flows : (o : Option Did) (name : RowName) (args : List Arg) (w : World) → FlowsAny w (plain_or o name args w)
plain_flows (Some d) name args w = flows_still w.streams
plain_flows None name args w = other_flows name args w

named_flows : (o : Option Rule) (name : RowName) (args : List Arg) (w : World) → FlowsAny w (rule_or o name args w)
named_flows (Some r) name args w = flows_still w.streams
named_flows None name args w = plain_flows (plain_did name (values_of args) w.store) name args w

any_flows : (w : World) (o : Option Reply) → FlowsAny w o → Flows w.streams (unwrap_or o (no_reply w)).streams
any_flows w None h = flows_still w.streams
any_flows w (Some reply) h = h

pub row_flows : (args : List Arg) (w : World) (o : Option RowName) → Flows w.streams (reply_of o args w).streams
row_flows args w None = flows_still w.streams
row_flows args w (Some name) =
    any_flows w (named_reply name args w) (named_flows (rule_of name (values_of args)) name args w)

pub profile_keeps : KeepsLaws profile
profile_keeps = record {
  waits = λ row args rest. false;
  call = λ row args w is. row_fits row args w (λ rest. false) (name_at row) refl is;
  resume = λ row args rest value w is waiting. cc;
  handler = λ row args w e. handler_fits args w (name_at row) e;
  call_flows = λ row args w. row_flows args w (name_at row);
  resume_flows = λ rest value w. flows_still w.streams;
  variants = profile_variants;
}

-- each function stands in one of the tables
pub has_all : HasAll
has_all n.MemcpyS args w = refl
has_all _ args w = refl
