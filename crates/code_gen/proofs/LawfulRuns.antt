-- The journal of each run is lawful.
use Rattle.std.proofs.Common.{◌≡◌, ℕ, zero, suc, ◌+◌, ◌-◌, ◌≤◌, true, false, List, [], ◌∷◌, length, map}
use Rattle.std.proofs.Common.{replicate, refl, ap, arith, Option, None, ◌∙◌, length-take, length-drop, length-append}
use Rattle.std.proofs.lemmas.List.{length-replicate, length-map}
use Rattle.std.proofs.lemmas.List.Elements.{All-nil, All-cons}
use Rattle.std.proofs.lemmas.Bool.{le-ltb}
use Rattle.std.specs.Prelude.{codes, nat_lt, slice_get}
use Rattle.std.specs.List.{All}
use Rattle.acc_num.specs.Kinds.{bytes_of}
use Rattle.critical_table.specs.declared.pos.Pos.{Pos}
use Rattle.object_store.specs.Load.{number_bytes, integer_bytes, pointer_bytes}
use Rattle.lib_defs.specs.declared.value.Value.{Value}
use Rattle.lib_defs.specs.Handlers.{first_function}
use Rattle.lib_defs.specs.Library.{Library}
use Rattle.run_defs.specs.declared.outcome.Outcome.TheVariants.{Exited}
use Rattle.run_defs.specs.Evaluation.{Evaluation, Gives, Stops}
use Rattle.run_defs.specs.Functions.{Environment, handler_name}
use Rattle.run_defs.specs.Replay.{IsLawful}
use Rattle.run_defs.specs.Kept.{At, Keeps, most_objects}
use Rattle.run_defs.specs.Starts.{Budgets, StaticObject, start_state}
use Rattle.run_defs.proofs.Following.{at_tick, quiet_closes, keeps_bind, keeps_tick}
use Rattle.run_defs.specs.Fits.{is_marked}
use Rattle.run_defs.specs.KeptSteps.{SetsMark, IsStatic}
use Rattle.run_defs.proofs.Starting.{statics_keep, at_begin, start_size}
use Rattle.c_core.specs.declared.static_object.Mark.{Mark}
use Rattle.c_core.specs.declared.static_object.Mark.TheVariants as marks
use Rattle.c_core.specs.declared.static_object.Seal.{Seal}
use Rattle.c_core.specs.TreeUnit.{StaticValue, StaticNumber, StaticNull, StaticAddress, StaticFunction, StaticBytes}
use Rattle.c_core.specs.TreeUnit.{StaticItem, Static, Definition, Program}
use Rattle.c_core.specs.TypedUnit.{value_size, ItemsTyped, StaticTyped, StaticsTyped}
use Rattle.code_gen.specs.StaticContents.{with_item, item_bytes, with_items, static_bytes, mark_of, seal_of}
use Rattle.code_gen.specs.ProgramFunctions.{environment}
use Rattle.object_store.specs.declared.pointer.Pointer.{Pointer}
use Rattle.lib_defs.specs.Reply.{null}
use Rattle.code_gen.specs.Meaning.{first_handler, static_object, started, run, ended, status_of, main_from, main_token}
use Rattle.code_gen.specs.JournalLaw.{EachJournalIsLawful}
use Rattle.code_gen.proofs.KeptCalls.{enters_keep}

-- ---- the sizes of static objects

number_long : (n number : ℕ) → length (number_bytes n number) ≡ n
number_long zero number = refl
number_long (suc n) number = ap suc (number_long n _)

item_long : (program : Program) (value : StaticValue) → length (item_bytes program value) ≡ value_size value
unfolding integer_bytes pointer_bytes
item_long program (StaticNumber kind value) = number_long (bytes_of kind) _
item_long program StaticNull = refl
item_long program (StaticAddress address) = refl
item_long program (StaticFunction name) = refl
item_long program (StaticBytes bytes) = refl

with_item_long : (at : ℕ) (item bytes : List ℕ) → at + length item ≤ length bytes
    → length (with_item at item bytes) ≡ length bytes
with_item_long at item bytes fits = simp (length-append, length-take, length-drop) (omega (arith, fits))

items_long : (program : Program) (fs : List Pos) (ss : List Static) (size : ℕ) (items : List StaticItem)
    → ItemsTyped fs ss size items → (bytes : List ℕ) → length bytes ≡ size
    → length (with_items program items bytes) ≡ size
items_long program fs ss size [] t bytes long = long
items_long program fs ss size (item ∷ rest) t bytes long = items_long program fs ss size rest t.2 _
    (with_item_long item.at (item_bytes program item.value) bytes
    (omega (arith, t.1, item_long program item.value, long)) ∙ long)

pub static_long : (program : Program) (fs : List Pos) (ss : List Static) (static : Static) → StaticTyped fs ss static
    → length (static_bytes program static) ≡ static.size
static_long program fs ss static t =
    items_long program fs ss static.size static.items t.items (replicate static.size 0) (length-replicate static.size 0)

mark_set : (mark : Mark) → is_marked (mark_of mark) ≡ true
mark_set marks.Literal = refl
mark_set marks.Const = refl

seals_set : (seals : List Seal) → All SetsMark (map seal_of seals)
seals_set [] = All-nil SetsMark
seals_set (seal ∷ rest) =
    All-cons SetsMark (seal_of seal) (map seal_of rest) (mark_set seal.mark) (seals_set rest)

all_static : (program : Program) (fs : List Pos) (ss statics : List Static) → StaticsTyped fs ss statics
    → All IsStatic (map (static_object program) statics)
all_static program fs ss [] t = All-nil IsStatic
all_static program fs ss (first ∷ rest) t = All-cons IsStatic (static_object program first)
    (map (static_object program) rest)
    (record {
      some = omega (arith, static_long program fs ss first t.0, t.0.size.0);
      within = omega (arith, static_long program fs ss first t.0, t.0.size.1);
      seals = seals_set first.seals;
    })
    (all_static program fs ss rest t.1)

-- ---- the handler at the start

beyond : (functions : List Definition) (k : ℕ) → slice_get functions (length functions + k) ≡ None
beyond [] k = refl
beyond (first ∷ rest) k =
    let next : length (first ∷ rest) + k ≡ suc (length rest + k) = omega arith in
    rw next (beyond rest k)

-- abort_handler_s stands behind the functions of the unit
abort_named : (library : Library) (program : Program)
    → handler_name (environment library program) (first_handler program.functions) ≡ codes "abort_handler_s"
abort_named library program =
    let n : ℕ = length program.functions in
    let near : nat_lt (first_function + (n + 1 + 21)) first_function ≡ false =
    le-ltb (first_function + (n + 1 + 21)) first_function (omega arith) in
    let number : first_function + (n + 1 + 21) - first_function ≡ suc (n + 21) = omega arith in
    let left : n + 21 - n ≡ 21 = omega arith in
    rw (near, number, beyond program.functions 21, left) refl

-- ---- the whole run

ended_lawful : (e : Environment) (x : Evaluation (Option Value)) (budgets : Budgets) → Keeps e [] x
    → IsLawful (ended x budgets).journal
ended_lawful e (Gives value s) budgets a = quiet_closes e s [] (Exited (status_of value)) refl a
ended_lawful e (Stops outcome s) budgets closes = closes

pub each_lawful : EachJournalIsLawful
each_lawful library laws program typed input bytes budgets few =
    let e : Environment = environment library program in
    let handler : Pointer = first_handler program.functions in
    let begins : At e (start_state budgets input handler) [] =
    at_begin e budgets input handler (abort_named library program) bytes (omega (arith, few)) in
    let objects : List StaticObject = map (static_object program) program.statics in
    let room : length objects + (length (start_state budgets input handler).world.store.objects
    + (start_state budgets input handler).ticks) ≤ most_objects = omega (
      arith,
      few,
      typed.few_statics,
      start_size e budgets input handler,
      length-map program.statics (static_object program),
    ) in
    let starts : Keeps e [] (started program input budgets) = statics_keep e objects _ []
    (all_static program _ program.statics program.statics typed.statics) room begins in
    ended_lawful e (run library program input budgets) budgets (keeps_bind e [] [] _ _ starts (λ u s a.
    keeps_tick e [] [] s _ a (λ left is.
    enters_keep library laws program typed.functions budgets.ticks (main_from 1 program.functions) [] null
    (main_token program.functions) [] _ (at_tick e s [] left is a))))
