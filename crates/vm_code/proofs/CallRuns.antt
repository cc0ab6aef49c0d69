-- Runs of codes with calls of functions of the unit, and with static objects.
use Rattle.std.proofs.Common.{◌≡◌, ℕ, List, [], ◌∷◌, refl}
use Rattle.std.specs.Prelude.{pos, codes}
use Rattle.acc_num.specs.Numbers.{value_of}
use Rattle.acc_num.specs.declared.kind.IntKind.TheVariants as k
use Rattle.critical_table.specs.declared.case.Case.TheVariants.{L3, L6}
use Rattle.critical_table.specs.declared.code.Code.TheVariants.{U04}
use Rattle.object_store.specs.declared.class.Class.TheVariants.{Static}
use Rattle.object_store.specs.declared.mark.Mark.TheVariants.{Literal}
use Rattle.object_store.specs.Load.{integer_bytes, load_integer}
use Rattle.object_store.specs.Messages.{message_bytes}
use Rattle.object_store.specs.Reach.{reach_table}
use Rattle.object_store.specs.Storage.{live_bytes}
use Rattle.lib_defs.specs.declared.shown.Shown.TheVariants.{Function, Place}
use Rattle.lib_defs.specs.Reply.{null}
use Rattle.lib_defs.specs.Sample.{sample}
use Rattle.run_defs.specs.declared.event.Event.TheVariants as e
use Rattle.run_defs.specs.declared.outcome.Outcome.TheVariants as o
use Rattle.c_core.specs.declared.form.Form.{Form}
use Rattle.c_core.specs.declared.form.Form.TheVariants as form
use Rattle.c_core.specs.declared.form.Scalar.TheVariants as scalar
use Rattle.c_core.specs.declared.operator.Operator.TheVariants as op
use Rattle.c_core.specs.Operations.{operator_outcome}
use Rattle.vm_code.specs.declared.instr.Instr.{Instr}
use Rattle.vm_code.specs.declared.instr.Instr.TheVariants as i
use Rattle.vm_code.specs.declared.parts.CodeFunction.{CodeFunction}
use Rattle.vm_code.specs.declared.parts.Parameter.{Parameter}
use Rattle.vm_code.specs.Contents.{Contents}
use Rattle.vm_code.specs.Frames.{Stuck}
use Rattle.vm_code.proofs.RunWords.{here, int, load_int, with, function, unit, alone, gives_int, types_of}
use Rattle.vm_code.proofs.RunWords.{seen, seen_of, place_of_run, budgets, no_input, ends, wrote, made, died}

-- a function f that starts at an instruction, and is called through the called type 2
abbrev f : ℕ → List Parameter → Form → CodeFunction
f start parameters gives = record { name = codes "f"; start = start; parameters = parameters; form = gives; room = 2 }

abbrev code : CodeFunction → List Form → List Instr → Contents
code callee arguments instrs = unit (callee ∷ []) (types_of (2 ∷ []) arguments [] callee.form) instrs

-- int f(int x){return x + 1;} int main(void){return f(4);}
calls_function : seen_of (code (f 5 (record { size = 4; form = gives_int } ∷ []) gives_int) (gives_int ∷ [])
    (function 2 ∷ int 4 ∷ i.Call 1 2 ∷ i.Used ∷ i.Give ∷ i.Slot 0 ∷ load_int ∷ int 1 ∷ with op.Add ∷ i.Give ∷ []))
    ≡ ends (o.Exited 5) (made 4 4 ∷ wrote 4 0 4 ∷ died 4 ∷ []) 7 10
unfolding message_bytes live_bytes reach_table integer_bytes load_integer operator_outcome value_of
calls_function = refl

-- int f(void){} : its value is 0, and may not be used
abbrev without_value : List Instr → Contents
without_value instrs = code (f 3 [] gives_int) [] instrs

leaves_zero : seen_of (without_value (function 2 ∷ i.Call 0 2 ∷ i.Give ∷ i.Leave ∷ [])) ≡ ends (o.Exited 0) [] 8 4
unfolding message_bytes live_bytes
leaves_zero = refl

uses_no_value : seen_of (code (f 4 [] gives_int) [] (function 2 ∷ i.Call 0 2 ∷ i.Used ∷ i.Give ∷ i.Leave ∷ []))
    ≡ ends (o.Undefined U04 (here 2)) (e.Stopped U04 (here 2) ∷ []) 8 4
unfolding message_bytes live_bytes
uses_no_value = refl

-- the function is tested before the tick of the call: it is none, or has another type
calls_null : seen_of (without_value (i.Pointer null ∷ i.Call 0 2 ∷ i.Give ∷ i.Leave ∷ []))
    ≡ ends (o.Trapped L6 (here 1)) (e.ValueFailed L6 (here 1) (Place 0 0) ∷ []) 9 2
unfolding message_bytes live_bytes
calls_null = refl

calls_other_type : seen_of (without_value (function 2 ∷ i.Call 0 0 ∷ int 0 ∷ i.Leave ∷ []))
    ≡ ends (o.Trapped L3 (here 1)) (e.ValueFailed L3 (here 1) (Function (codes "f")) ∷ []) 9 2
unfolding message_bytes live_bytes
calls_other_type = refl

-- struct s {char c[2];} f(void){..}: the function stores in the caller's value object
gives_structure : seen_of (code (f 7 [] form.Place) [] (i.Make 0 2 ∷ function 2 ∷ i.Slot 0 ∷ i.Call 0 2 ∷ i.Used
    ∷ i.Load (scalar.Number k.U8) ∷ i.Give ∷ i.Result ∷ i.Number k.U8 (pos 7) ∷ i.Store (scalar.Number k.U8) ∷ i.Drop
    ∷ i.Result ∷ i.Give ∷ [])) ≡ ends (o.Exited 7) (made 4 2 ∷ wrote 4 0 1 ∷ died 4 ∷ []) 7 13
unfolding message_bytes live_bytes reach_table integer_bytes load_integer
gives_structure = refl

-- int f(struct s v){return v.c[0];}: the argument is copied to the parameter
takes_structure : seen_of (code (f 7 (record { size = 2; form = form.Place } ∷ []) gives_int) (form.Place ∷ [])
    (i.Make 0 2 ∷ i.Slot 0 ∷ i.Zero 2 ∷ function 2 ∷ i.Slot 0 ∷ i.Call 1 2 ∷ i.Give ∷ i.Slot 0
    ∷ i.Load (scalar.Number k.U8) ∷ i.Give ∷ []))
    ≡ ends (o.Exited 0) (made 4 2 ∷ wrote 4 0 2 ∷ made 6 2 ∷ wrote 6 0 2 ∷ died 6 ∷ died 4 ∷ []) 6 10
unfolding message_bytes live_bytes reach_table load_integer
takes_structure = refl

-- int f(void){return f();}: each open call counts 256 bytes, behind its tick
calls_itself : seen_of (code (f 3 [] gives_int) []
    (function 2 ∷ i.Call 0 2 ∷ i.Give ∷ function 2 ∷ i.Call 0 2 ∷ i.Give ∷ [])) ≡ ends o.OutOfBytes [] 6 6
unfolding message_bytes live_bytes
calls_itself = refl

-- an argument that is missing, and one that is no number
lacks_argument : place_of_run (code (f 3 (record { size = 4; form = gives_int } ∷ []) gives_int) []
    (function 2 ∷ i.Call 0 2 ∷ i.Give ∷ i.Leave ∷ [])) ≡ Stuck
unfolding message_bytes live_bytes
lacks_argument = refl

finds_pointer : place_of_run (code (f 4 (record { size = 4; form = gives_int } ∷ []) gives_int) (gives_int ∷ [])
    (function 2 ∷ function 2 ∷ i.Call 1 2 ∷ i.Give ∷ i.Leave ∷ [])) ≡ Stuck
unfolding message_bytes live_bytes
finds_pointer = refl

-- main's code ends before f begins
runs_into_next : place_of_run (code (f 1 [] gives_int) [] (int 0 ∷ i.Give ∷ [])) ≡ Stuck
unfolding message_bytes live_bytes
runs_into_next = refl

-- ---- static objects: made in turn, before main and without a tick

abbrev with_text : Contents
with_text = record (alone (int 0 ∷ i.Give ∷ [])) {
  objects = record { bytes = 97 ∷ 0 ∷ []; seals = record { at = 0; len = 2; mark = Literal } ∷ [] } ∷ [];
}

makes_static : seen sample with_text (budgets 1 258) no_input 60 ≡ ends (o.Exited 0)
    (e.Made 4 2 Static ∷ e.Sealed 4 (record { at = 0; len = 2; mark = Literal }) ∷ []) 0 2
unfolding message_bytes live_bytes
makes_static = refl

makes_main_beyond : seen sample with_text (budgets 1 257) no_input 60 ≡ ends o.OutOfBytes
    (e.Made 4 2 Static ∷ e.Sealed 4 (record { at = 0; len = 2; mark = Literal }) ∷ []) 0 0
unfolding message_bytes live_bytes
makes_main_beyond = refl

makes_static_beyond : seen sample with_text (budgets 1 1) no_input 60 ≡ ends o.OutOfBytes [] 1 0
unfolding message_bytes live_bytes
makes_static_beyond = refl
