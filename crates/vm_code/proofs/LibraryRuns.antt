-- Runs of codes with library calls: rows that are done, handlers, and a row that wants a function of the unit.
use Rattle.std.proofs.Common.{◌≡◌, ℕ, List, [], ◌∷◌, refl}
use Rattle.std.specs.Prelude.{◌+◌, ◌++◌, pos, codes}
use Rattle.acc_num.specs.declared.kind.IntKind.TheVariants as k
use Rattle.critical_table.specs.declared.case.Case.TheVariants.{L3, L6, L9}
use Rattle.object_store.specs.declared.class.Class.TheVariants.{Static, Allocated}
use Rattle.object_store.specs.declared.mark.Mark.TheVariants.{Literal}
use Rattle.object_store.specs.Load.{integer_bytes, pointer_bytes}
use Rattle.object_store.specs.Messages.{message_bytes}
use Rattle.object_store.specs.Reach.{reach_table}
use Rattle.object_store.specs.Storage.{live_bytes}
use Rattle.lib_defs.specs.declared.row.Row.{Row}
use Rattle.lib_defs.specs.declared.shown.Shown.TheVariants.{Number, Function, Place, NoValue}
use Rattle.lib_defs.specs.declared.value.ArgKind.TheVariants as kind
use Rattle.lib_defs.specs.Reply.{null}
use Rattle.lib_defs.specs.Spans.{span}
use Rattle.lib_defs.specs.Library.{Library}
use Rattle.lib_defs.specs.Sample.{sample, ask_reply}
use Rattle.lib_defs.specs.World.{AtEnd, Broken}
use Rattle.run_defs.specs.declared.event.Event.{Event}
use Rattle.run_defs.specs.declared.event.Event.TheVariants as e
use Rattle.run_defs.specs.declared.outcome.Outcome.TheVariants as o
use Rattle.c_core.specs.declared.form.Form.TheVariants as form
use Rattle.vm_code.specs.declared.instr.Instr.{Instr}
use Rattle.vm_code.specs.declared.instr.Instr.TheVariants as i
use Rattle.vm_code.specs.declared.parts.CodeFunction.{CodeFunction}
use Rattle.vm_code.specs.Contents.{Contents}
use Rattle.vm_code.proofs.RunWords.{here, int, function, object, unit, gives_int, called, handlers, comparers, types_of}
use Rattle.vm_code.proofs.RunWords.{seen, seen_of, budgets, no_input, writes, ends, wrote, made, died}

-- library functions by their numbers; behind the functions of the unit they follow in this order
abbrev strcpy_s : Row
strcpy_s = record { 0 = 5 }

abbrev set_handler : Row
set_handler = record { 0 = 20 }

abbrev malloc : Row
malloc = record { 0 = 43 }

abbrev free : Row
free = record { 0 = 46 }

abbrev putchar : Row
putchar = record { 0 = 49 }

abbrev getchar : Row
getchar = record { 0 = 51 }

-- int main(void){return putchar('x');}
prints : seen_of (unit [] (types_of (51 ∷ []) (gives_int ∷ []) (kind.Int ∷ []) gives_int)
    (function 51 ∷ int 120 ∷ i.Call 1 2 ∷ i.Used ∷ i.Give ∷ []))
    ≡ writes (codes "x") (o.Exited 120) (e.Called putchar [] ∷ e.Returned putchar (Number (pos 120)) ∷ []) 8 5
unfolding message_bytes live_bytes
prints = refl

-- int main(void){return getchar();}, with a byte of input, and with input that is broken
abbrev reads : Contents
reads = unit [] (types_of (53 ∷ []) [] [] gives_int) (function 53 ∷ i.Call 0 2 ∷ i.Used ∷ i.Give ∷ [])

reads_byte : seen sample reads (budgets 2 256) (record { bytes = 97 ∷ []; ending = AtEnd }) 60
    ≡ ends (o.Exited 97) (e.Called getchar [] ∷ e.Returned getchar (Number (pos 97)) ∷ []) 0 4
unfolding message_bytes live_bytes
reads_byte = refl

reads_broken : seen sample reads (budgets 2 256) (record { bytes = []; ending = Broken }) 60
    ≡ ends o.ReadFault (e.Called getchar [] ∷ []) 0 2
unfolding message_bytes live_bytes
reads_broken = refl

-- a library call needs a tick
reads_without_tick : seen sample reads (budgets 1 256) no_input 60 ≡ ends o.OutOfTicks [] 0 2
unfolding message_bytes live_bytes
reads_without_tick = refl

-- free(malloc(8)); the object takes a tick of its own
allocates : seen_of (unit [] (types_of (45 ∷ []) (form.Number k.U64 ∷ []) (kind.ULong ∷ []) form.Pointer
    ++ called (48 ∷ []) (form.Pointer ∷ []) (kind.CharPointer ∷ []) form.Nothing ∷ [])
    (function 48 ∷ function 45 ∷ i.Number k.U64 (pos 8) ∷ i.Call 1 2 ∷ i.Call 1 3 ∷ int 0 ∷ i.Give ∷ []))
    ≡ ends (o.Exited 0) (e.Called malloc [] ∷ e.Made 5 8 Allocated ∷ e.Returned malloc (Place 5 0) ∷ e.Called free []
    ∷ died 5 ∷ e.Returned free NoValue ∷ []) 6 7
unfolding message_bytes live_bytes
allocates = refl

-- ---- handlers

-- code with the literal "a", behind n functions: strcpy_s has the number n + 6, the setter n + 21
abbrev with_literal : ℕ → List ℕ → List CodeFunction → List Instr → Contents
with_literal n handling functions instrs = record (unit functions (handlers handling ∷ comparers []
    ∷ called ((n + 6) ∷ []) (form.Pointer ∷ form.Number k.U64 ∷ form.Pointer ∷ [])
    (kind.CharPointer ∷ kind.ULong ∷ kind.CharPointer ∷ []) gives_int
    ∷ called ((n + 21) ∷ []) (form.Pointer ∷ []) (kind.OtherPointer ∷ []) form.Pointer
    ∷ called ((n + 50) ∷ []) (gives_int ∷ []) (kind.Int ∷ []) gives_int ∷ []) instrs) {
      objects = record { bytes = codes "a" ++ 0 ∷ []; seals = record { at = 0; len = 2; mark = Literal } ∷ [] } ∷ [];
    }

-- strcpy_s(0, 1, "a")
abbrev violates : ℕ → List Instr
violates n = function (n + 6) ∷ i.Pointer null ∷ i.Number k.U64 (pos 1) ∷ i.Pointer (object 4 2) ∷ i.Call 3 2 ∷ []

-- set_constraint_handler_s of the function f
abbrev sets : ℕ → (f : ℕ) → List Instr
sets n f = function (n + 21) ∷ function f ∷ i.Call 1 3 ∷ i.Drop ∷ []

abbrev literal_made : List Event
literal_made = e.Made 4 2 Static ∷ e.Sealed 4 (record { at = 0; len = 2; mark = Literal }) ∷ []

abbrev handler_set : List ℕ → List Event
handler_set name = e.Called set_handler [] ∷ e.HandlerSet name
    ∷ e.Returned set_handler (Function (codes "abort_handler_s")) ∷ []

abbrev violation : List Event
violation = e.Called strcpy_s (Place 0 0 ∷ Number (pos 1) ∷ Place 4 0 ∷ []) ∷ e.Violated strcpy_s 1 ∷ []

abbrev failure : List Event
failure = e.HandlerReturned ∷ e.Returned strcpy_s (Number (pos 22)) ∷ []

-- the default handler aborts
aborts : seen_of (with_literal 1 [] [] (violates 1 ++ i.Give ∷ []))
    ≡ ends o.Aborted (literal_made ++ violation ++ e.HandlerCalled (codes "abort_handler_s") ∷ []) 7 5
unfolding message_bytes live_bytes reach_table span
aborts = refl

-- ignore_handler_s returns, and the call gives 22
ignores : seen_of (with_literal 1 [] [] (sets 1 24 ++ violates 1 ++ i.Give ∷ []))
    ≡ ends (o.Exited 22) (literal_made ++ handler_set (codes "ignore_handler_s") ++ violation
    ++ e.HandlerCalled (codes "ignore_handler_s") ∷ failure) 6 10
unfolding message_bytes live_bytes
ignores = refl

-- void h(const char *m, void *o, errno_t e){putchar('h');}
abbrev handler : CodeFunction
handler = record {
  name = codes "h";
  start = 10;
  parameters = record { size = 16; form = form.Pointer } ∷ record { size = 16; form = form.Pointer }
      ∷ record { size = 4; form = gives_int } ∷ [];
  form = form.Nothing;
  room = 0;
}

abbrev handles : List ℕ → Contents
handles handling = with_literal 2 handling (handler ∷ []) (sets 2 2 ++ violates 2
    ++ i.Give ∷ function 52 ∷ int 104 ∷ i.Call 1 4 ∷ i.Drop ∷ i.Leave ∷ [])

-- the suspended call waits for the handler, which calls the library itself
calls_handler : seen_of (handles (2 ∷ []))
    ≡ writes (codes "h") (o.Exited 22) (literal_made ++ handler_set (codes "h") ++ violation
    ++ e.HandlerCalled (codes "h") ∷ made 6 16 ∷ wrote 6 0 16 ∷ made 8 16 ∷ wrote 8 0 16 ∷ made 10 4 ∷ wrote 10 0 4
    ∷ e.Called putchar [] ∷ e.Returned putchar (Number (pos 104)) ∷ died 10 ∷ died 8 ∷ died 6 ∷ failure) 2 15
unfolding message_bytes live_bytes reach_table integer_bytes pointer_bytes
calls_handler = refl

-- a handler of another type traps at the place of the library call, behind the tick of its own call
traps_at_handler : seen_of (handles []) ≡ ends (o.Trapped L3 (here 8))
    (literal_made ++ handler_set (codes "h") ++ violation ++ e.ValueFailed L3 (here 8) (Function (codes "h")) ∷ []) 6 9
unfolding message_bytes live_bytes
traps_at_handler = refl

-- the fourth tick is that of the handler's call
handler_without_tick : seen sample (handles (2 ∷ [])) (budgets 3 1000) no_input 60
    ≡ ends o.OutOfTicks (literal_made ++ handler_set (codes "h") ++ violation) 0 9
unfolding message_bytes live_bytes
handler_without_tick = refl

-- a parameter of the handler passes the budget of bytes: 2, twice 256, 16, 16 and 4
handler_without_byte : seen sample (handles (2 ∷ [])) (budgets 10 549) no_input 60 ≡ ends o.OutOfBytes
    (literal_made ++ handler_set (codes "h") ++ violation
    ++ e.HandlerCalled (codes "h") ∷ made 6 16 ∷ wrote 6 0 16 ∷ made 8 16 ∷ wrote 8 0 16 ∷ []) 3 9
unfolding message_bytes live_bytes reach_table integer_bytes pointer_bytes
handler_without_byte = refl

-- what is no function of the program is no handler
sets_no_function : seen_of (with_literal 1 [] [] (sets 1 60)) ≡ ends (o.Trapped L9 (here 2))
    (literal_made ++ e.Called set_handler [] ∷ e.ValueFailed L9 (here 2) (Place 4200000060 0) ∷ []) 8 3
unfolding message_bytes live_bytes
sets_no_function = refl

-- ---- a row that wants a function of the unit

-- each row calls the function that its first argument points to, and has its value
abbrev asking : Library
asking = record {
  call = ask_reply;
  resume = sample.resume;
}

-- int c(const void *a, const void *b, void *x){return 5;}
abbrev comparing : CodeFunction
comparing = record {
  name = codes "c";
  start = 4;
  parameters = record { size = 16; form = form.Pointer } ∷ record { size = 16; form = form.Pointer }
      ∷ record { size = 16; form = form.Pointer } ∷ [];
  form = gives_int;
  room = 0;
}

abbrev asks : List ℕ → Instr → Contents
asks compared argument = unit (comparing ∷ []) (handlers [] ∷ comparers compared
    ∷ called (52 ∷ []) (form.Pointer ∷ []) (kind.OtherPointer ∷ []) gives_int ∷ [])
    (function 52 ∷ argument ∷ i.Call 1 2 ∷ i.Give ∷ int 5 ∷ i.Give ∷ [])

calls_back : seen asking (asks (2 ∷ []) (function 2)) (budgets 10 1000) no_input 60 ≡ ends (o.Exited 5)
    (e.Called putchar [] ∷ made 4 16 ∷ wrote 4 0 16 ∷ made 6 16 ∷ wrote 6 0 16 ∷ made 8 16 ∷ wrote 8 0 16 ∷ died 8
    ∷ died 6 ∷ died 4 ∷ e.Returned putchar (Number (pos 5)) ∷ []) 4 6
unfolding message_bytes live_bytes reach_table pointer_bytes
calls_back = refl

-- a function of another type, and no function
calls_back_other : seen asking (asks [] (function 2)) (budgets 10 1000) no_input 60 ≡ ends (o.Trapped L3 (here 2))
    (e.Called putchar [] ∷ e.ValueFailed L3 (here 2) (Function (codes "c")) ∷ []) 8 3
unfolding message_bytes live_bytes
calls_back_other = refl

calls_back_null : seen asking (asks (2 ∷ []) (i.Pointer null)) (budgets 10 1000) no_input 60
    ≡ ends (o.Trapped L6 (here 2)) (e.Called putchar [] ∷ e.ValueFailed L6 (here 2) (Place 0 0) ∷ []) 8 3
unfolding message_bytes live_bytes
calls_back_null = refl
