-- A library call gives a value as its prototype has it, and each function of the unit that it wants takes what it is
-- given.
use Rattle.std.proofs.Common.{◌≡◌, ℕ, zero, suc, Bool, true, false, List, [], ◌∷◌, refl, sym, subst}
use Rattle.std.proofs.Common.{Option, Some, None, if◌then◌else◌}
use Rattle.std.specs.Prelude.{nat_lt}
use Rattle.std.specs.Option.{option_map}
use Rattle.acc_num.specs.declared.kind.IntKind.TheVariants.{I32}
use Rattle.critical_table.specs.declared.pos.Pos.{Pos}
use Rattle.object_store.specs.declared.pointer.Pointer.{Pointer}
use Rattle.c_types.specs.CType.{Nil, Cons, no_quals, void}
use Rattle.c_types.specs.Compatible.{compatible}
use Rattle.lib_defs.specs.declared.row.Row.{Row}
use Rattle.lib_defs.specs.declared.step.Rest.{Rest}
use Rattle.lib_defs.specs.declared.value.Arg.{Arg}
use Rattle.lib_defs.specs.declared.value.Value.{Value}
use Rattle.lib_defs.specs.declared.value.Value.TheVariants.{Ptr}
use Rattle.lib_defs.specs.declared.violation.Violation.{Violation}
use Rattle.lib_defs.specs.Handlers.{first_function}
use Rattle.lib_defs.specs.Laws.{is_handler, first_pointer}
use Rattle.lib_defs.specs.Library.{Library, values_of}
use Rattle.lib_defs.specs.Reply.{null, Fill, Stop, FailsReach, FailsValue, FailsArgument, IsUndefined, Ends as EndsRow}
use Rattle.lib_defs.specs.Reply.{Did, Done, Broken, Asks, Fails}
use Rattle.lib_defs.specs.Shown.{line_values}
use Rattle.lib_defs.specs.Variants.{IsVariantOf, AnswersVariant, KeepsVariants}
use Rattle.lib_defs.specs.Violations.{errno_of, message_place}
use Rattle.run_defs.specs.declared.event.Event.TheVariants.{Called, Violated, HandlerCalled}
use Rattle.run_defs.specs.declared.library_call.LibraryCall.{LibraryCall}
use Rattle.run_defs.specs.declared.library_call.Suspended.{Suspended}
use Rattle.run_defs.specs.declared.library_call.Waits.{Waits}
use Rattle.run_defs.specs.declared.library_call.Waits.TheVariants.{ForHandler, ForFunction}
use Rattle.run_defs.specs.State.{State, logged, with_streams}
use Rattle.run_defs.specs.Evaluation.{Evaluation, Gives, Stops, bind, ticked_at}
use Rattle.run_defs.specs.Functions.{Function, OfLibrary, OfUnit, Environment, function_at, function_number}
use Rattle.run_defs.specs.Functions.{handler_name, ByLibrary, OfOtherType, handles}
use Rattle.run_defs.specs.Served.{Served, Answers, Wants, stopped, changed, acted, told, row_handled, Failure, handled}
use Rattle.run_defs.specs.Served.{violated, asked, served, sets_no_function, begun_if, begun, gone_on, continued}
use Rattle.run_defs.specs.Served.{returned}
use Rattle.library_types.specs.LibraryTypes.{handler_type, comparing_type, int, to, const_char, const_void}
use Rattle.c_core.specs.declared.form.Form.TheVariants as form
use Rattle.c_core.specs.TreeUnit.{Definition, Program}
use Rattle.c_core.specs.TypedUnit.{DefinitionsTyped, tokens_of, static_tokens}
use Rattle.code_gen.specs.ProgramFunctions.{Named, UnitFunction, LibraryFunction, function_numbered, designated_by}
use Rattle.code_gen.specs.ProgramFunctions.{seen}
use Rattle.code_gen.specs.ProgramFunctions.{environment}
use Rattle.code_gen.proofs.CompatibleForms.{AreTakenValues, defined_agrees}
use Rattle.code_gen.proofs.UnitFunctions.{definition_typed}

module _ (library : Library) (program : Program) where
  abbrev e : Environment
  e = environment library program

  below_seen : (below : Bool) (found : Option Named)
      → (if below then None else option_map seen found) ≡ option_map seen (if below then None else found)
  below_seen true found = refl
  below_seen false found = refl

  -- what a library call knows of a pointer is read off the function that it designates
  pub seen_at : (p : Pointer) → function_at e p ≡ option_map seen (designated_by program.functions p)
  seen_at p = below_seen (nat_lt p.object first_function) (function_numbered program.functions (function_number p))

  -- a pointer that designates a function has its number
  pub numbered_at : (p : Pointer) (named : Named) → designated_by program.functions p ≡ Some named
      → function_numbered program.functions (function_number p) ≡ Some named
  numbered_at p named is = by_number (nat_lt p.object first_function) is
    where
      by_number : (b : Bool)
          → (if b then None else function_numbered program.functions (function_number p)) ≡ Some named
          → function_numbered program.functions (function_number p) ≡ Some named
      by_number true is = absurd (let none : ⊥ = cc in none)
      by_number false is = is

  record Own (number : ℕ) (handling comparing : Bool) : Type 0 where
    definition : Definition
    numbered : function_numbered program.functions number ≡ Some (UnitFunction definition)
    handler : handling ≡ compatible handler_type definition.type
    compares : comparing ≡ compatible comparing_type definition.type

  own_of : (number : ℕ) (name : List ℕ) (handling comparing : Bool) (o : Option Named)
      → function_numbered program.functions number ≡ o → option_map seen o ≡ Some (OfUnit name handling comparing)
      → Own number handling comparing
  own_of number name handling comparing None at is = absurd (let none : ⊥ = cc in none)
  own_of number name handling comparing (Some (UnitFunction d)) at is =
      record { definition = d; numbered = at; handler = cc; compares = cc }
  own_of number name handling comparing (Some (LibraryFunction row n)) at is = absurd (let none : ⊥ = cc in none)

  own_at : (p : Pointer) (name : List ℕ) (handling comparing : Bool)
      → function_at e p ≡ Some (OfUnit name handling comparing) → Own (function_number p) handling comparing
  own_at p name handling comparing is = by_number (nat_lt p.object first_function) is
    where
      by_number : (b : Bool) → (if b then None else e.functions (function_number p)) ≡ Some
          (OfUnit name handling comparing) → Own (function_number p) handling comparing
      by_number true is = absurd (let none : ⊥ = cc in none)
      by_number false is =
          own_of (function_number p) name handling comparing (function_numbered program.functions (function_number p))
          refl is

  module _ (keeps : KeepsVariants library)
      (typed : DefinitionsTyped (tokens_of program.functions) (static_tokens program.statics) program.functions) where
    -- the number is that of a function of the unit, which takes these values
    abbrev pub Takes : ℕ → List Value → Type 0
    Takes number arguments = (d : Definition) × (function_numbered program.functions number ≡ Some (UnitFunction d))
        × AreTakenValues d.parameters arguments

    abbrev pub WaitsSo : Row → Waits → Type 0
    WaitsSo row (ForHandler k value) = IsVariantOf row value
    WaitsSo row (ForFunction rest) = keeps.waits row rest ≡ true

    -- what a call of a row comes to
    abbrev pub ServesSo : Row → Evaluation Served → Type 0
    ServesSo row (Stops outcome s) = Unit {0}
    ServesSo row (Gives (Answers v) s) = IsVariantOf row v
    ServesSo row (Gives (Wants number arguments call) s) =
        Takes number arguments × (call.call.row ≡ row) × WaitsSo row call.waits

    tick_serves : (row : Row) (n : ℕ) (s : State) (next : State → Evaluation Served)
        → ((s1 : State) → ServesSo row (next s1)) → ServesSo row (bind (ticked_at n s) (λ u s1. next s1))
    tick_serves row zero s next all = tt
    tick_serves row (suc n) s next all = all (record s { ticks = n })

    stop_serves : (row : Row) (stop : Stop) (pos : Pos) (s : State) → ServesSo row (stopped e stop pos s)
    stop_serves row (FailsReach case place len align by) pos s = tt
    stop_serves row (FailsValue case p) pos s = tt
    stop_serves row (FailsArgument number) pos s = tt
    stop_serves row (IsUndefined code) pos s = tt
    stop_serves row (EndsRow ended) pos s = tt

    handler_takes : (p : Pointer) (class : Violation) (name : List ℕ) (comparing : Bool)
        → function_at e p ≡ Some (OfUnit name true comparing) → Takes (function_number p) (values_of (told class))
    handler_takes p class name comparing is =
        let o = own_at p name true comparing is in
        let t = definition_typed (tokens_of program.functions) (static_tokens program.statics) program
        (function_number p) o.definition o.numbered typed in
        let agrees = defined_agrees o.definition.type void (Cons (to const_char) (Cons (to void) (Cons int Nil))) false
        no_quals o.definition.parameters o.definition.gives t.type (sym o.handler) in (
          o.definition,
          o.numbered,
          agrees.takes (values_of (told class)) (
            (form.Pointer, refl, (message_place class, refl)),
            ((form.Pointer, refl, (null, refl)), ((form.Number I32, refl, (errno_of class, refl)), tt)),
          ),
        )

    wish_takes : (p a b c : Pointer) (name : List ℕ) (handling : Bool)
        → function_at e p ≡ Some (OfUnit name handling true) → Takes (function_number p) (Ptr a ∷ Ptr b ∷ Ptr c ∷ [])
    wish_takes p a b c name handling is =
        let o = own_at p name handling true is in
        let t = definition_typed (tokens_of program.functions) (static_tokens program.statics) program
        (function_number p) o.definition o.numbered typed in
        let agrees = defined_agrees o.definition.type int (Cons (to const_void) (Cons (to const_void) (Cons (to void)
        Nil))) false no_quals o.definition.parameters o.definition.gives t.type (sym o.compares) in (
          o.definition,
          o.numbered,
          agrees.takes (Ptr a ∷ Ptr b ∷ Ptr c ∷ []) (
            (form.Pointer, refl, (a, refl)),
            ((form.Pointer, refl, (b, refl)), ((form.Pointer, refl, (c, refl)), tt)),
          ),
        )

    module _ (call : LibraryCall) where
      abbrev Serves : Evaluation Served → Type 0
      Serves x = ServesSo call.row x

      row_serves : (value : Value) (did : Did) (s : State) → IsVariantOf call.row value
          → Serves (row_handled e call value did s)
      row_serves value (Done change set v) s is = is
      row_serves value (Broken k class action v) s is = is
      row_serves value (Asks function first second third rest) s is = is
      row_serves value (Fails stop) s is = stop_serves call.row stop call.pos s

      handler_serves : (o : Option Function) (failure : Failure) (s : State) → function_at e s.world.handler.current ≡ o
          → IsVariantOf call.row failure.value → Serves (handled e call failure (handles o) s)
      handler_serves None failure s at is = tt
      handler_serves (Some (OfUnit name true comparing)) failure s at is =
          (handler_takes s.world.handler.current failure.class name comparing at, refl, is)
      handler_serves (Some (OfUnit name false comparing)) failure s at is = tt
      handler_serves (Some (OfLibrary row)) failure s at is = by_handler (is_handler row)
        where
          by_handler : (b : Bool) → Serves (handled e call failure (if b then ByLibrary row else OfOtherType) s)
          by_handler true = row_serves failure.value (library.call row (told failure.class) s.world).did
              (with_streams (library.call row (told failure.class) s.world).streams
              (logged (HandlerCalled (handler_name e s.world.handler.current)) s)) is
          by_handler false = tt

      violated_serves : (failure : Failure) (action : Option Fill) (s : State) → IsVariantOf call.row failure.value
          → Serves (violated e call failure action s)
      violated_serves failure action s is =
          let there : State = acted action (logged (Violated call.row failure.constraint) s) in
          tick_serves call.row there.ticks there
          (λ s1. handled e call failure (handles (function_at e s1.world.handler.current)) s1)
          (λ s1. handler_serves (function_at e s1.world.handler.current) failure s1 refl is)

      asked_serves : (o : Option Function) (function a b c : Pointer) (rest : Rest) (s : State)
          → function_at e function ≡ o → keeps.waits call.row rest ≡ true
          → Serves (asked e call o
          (record { function = function; arguments = Ptr a ∷ Ptr b ∷ Ptr c ∷ []; rest = rest }) s)
      asked_serves None function a b c rest s at waiting = tt
      asked_serves (Some (OfUnit name handling true)) function a b c rest s at waiting =
          tick_serves call.row s.ticks s (λ s1. Gives (Wants (function_number function) (Ptr a ∷ Ptr b ∷ Ptr c ∷ [])
          (record { call = call; waits = ForFunction rest })) s1)
          (λ s1. (wish_takes function a b c name handling at, refl, waiting))
      asked_serves (Some (OfUnit name handling false)) function a b c rest s at waiting = tt
      asked_serves (Some (OfLibrary row)) function a b c rest s at waiting = tt

      changed_serves : (value : Value) (x : Evaluation (Unit {0})) → IsVariantOf call.row value
          → Serves (bind x (λ u s. returned e call value s))
      changed_serves value (Gives u s) is = is
      changed_serves value (Stops outcome s) is = tt

      did_serves : (did : Did) (s : State) → AnswersVariant keeps.waits call.row did → Serves (served e call did s)
      did_serves (Done change set value) s is = changed_serves value (changed e change set s) is
      did_serves (Broken k class action value) s is =
          violated_serves (record { constraint = k; class = class; value = value }) action s is
      did_serves (Asks function a b c rest) s is = asked_serves (function_at e function) function a b c rest s refl is
      did_serves (Fails stop) s is = stop_serves call.row stop call.pos s

      if_serves : (b : Bool) (args : List Arg) (s : State) → Serves (begun_if b e call args s)
      if_serves true args s = tt
      if_serves false args s = did_serves (library.call call.row args s.world).did
          (with_streams (library.call call.row args s.world).streams s) (keeps.call call.row args s.world)

      pub begun_serves : (args : List Arg) (s : State) → Serves (begun e call args s)
      begun_serves args s = if_serves (sets_no_function e call.row (first_pointer args)) args
          (logged (Called call.row (line_values call.row (values_of args))) s)

      on_serves : (waiting : Waits) (v : Value) (s : State) → WaitsSo call.row waiting
          → Serves (gone_on e call waiting v s)
      on_serves (ForHandler k value) v s is = is
      on_serves (ForFunction rest) v s is = did_serves (library.resume rest v s.world).did
          (with_streams (library.resume rest v s.world).streams s) (keeps.resume call.row rest v s.world is)

    pub continued_serves : (row : Row) (call : Suspended) (v : Value) (s : State) → call.call.row ≡ row
        → WaitsSo row call.waits → ServesSo row (continued e call v s)
    continued_serves row call v s same waiting =
        subst (λ r. ServesSo r (continued e call v s)) same
        (on_serves call.call call.waits v s (subst (λ r. WaitsSo r call.waits) (sym same) waiting))
