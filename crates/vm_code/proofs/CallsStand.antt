-- Calls keep what stands: functions that are entered and left, library calls, and what these want.
use Rattle.std.proofs.Common.{◌≡◌, ℕ, zero, suc, Bool, true, false, List, [], ◌∷◌}
use Rattle.std.proofs.Common.{Contains, Option, Some, None, refl, sym, ◌∙◌, ap, subst}
use Rattle.std.proofs.Common.{if◌then◌else◌}
use Rattle.std.specs.List.{slice_get}
use Rattle.acc_num.specs.declared.kind.IntKind.TheVariants.{I32}
use Rattle.critical_table.specs.declared.pos.Pos.{Pos}
use Rattle.object_store.specs.declared.pointer.Pointer.{Pointer}
use Rattle.lib_defs.specs.declared.row.Row.{Row}
use Rattle.lib_defs.specs.declared.row_name.RowName.{RowName}
use Rattle.lib_defs.specs.declared.step.Rest.{Rest}
use Rattle.lib_defs.specs.declared.value.Arg.{Arg}
use Rattle.lib_defs.specs.declared.value.Value.{Value}
use Rattle.lib_defs.specs.declared.value.Value.TheVariants.{Ptr}
use Rattle.lib_defs.specs.declared.violation.Violation.{Violation}
use Rattle.lib_defs.specs.Laws.{is_handler, first_pointer}
use Rattle.lib_defs.specs.Library.{Library, values_of}
use Rattle.lib_defs.specs.Prototypes.{prototype}
use Rattle.lib_defs.specs.Reply.{null, Fill, Stop, FailsReach, FailsValue, FailsArgument, IsUndefined, Ends as EndsRow}
use Rattle.lib_defs.specs.Reply.{Did, Done, Broken, Asks, Fails}
use Rattle.lib_defs.specs.RowNumbers.{name_at}
use Rattle.lib_defs.specs.Shown.{line_values}
use Rattle.lib_defs.specs.Variants.{IsVariant, AnswersVariant, KeepsVariants}
use Rattle.run_defs.specs.declared.event.Event.TheVariants.{Called, Violated, HandlerCalled}
use Rattle.run_defs.specs.declared.library_call.LibraryCall.{LibraryCall}
use Rattle.run_defs.specs.declared.library_call.Waits.{Waits}
use Rattle.run_defs.specs.declared.library_call.Waits.TheVariants.{ForHandler, ForFunction}
use Rattle.run_defs.specs.State.{State, logged, with_streams, call_left}
use Rattle.run_defs.specs.Evaluation.{Evaluation, Gives, Stops, bind, ticked_at, ticked, call_entered}
use Rattle.run_defs.specs.Functions.{Function, OfLibrary, OfUnit, Environment, function_at, function_number}
use Rattle.run_defs.specs.Functions.{handler_name, ByLibrary, OfOtherType, handles}
use Rattle.run_defs.specs.Served.{Served, Answers, Wants, stopped, changed, acted, told, row_handled, Failure, handled}
use Rattle.run_defs.specs.Served.{violated, asked, served, sets_no_function, begun_if, begun, gone_on, continued}
use Rattle.run_defs.specs.Served as serving
use Rattle.c_core.specs.declared.form.Form.{Form}
use Rattle.c_core.specs.declared.form.Form.TheVariants as form
use Rattle.vm_code.specs.declared.parts.CodeFunction.{CodeFunction}
use Rattle.vm_code.specs.declared.parts.CodeCalled.{CodeCalled}
use Rattle.vm_code.specs.Contents.{Contents}
use Rattle.vm_code.specs.Contents as code_parts
use Rattle.vm_code.specs.CodeFunctions.{calls_function, is_called_by, handler_type, comparing_type}
use Rattle.vm_code.specs.CodeFunctions.{function_numbered, environment}
use Rattle.vm_code.specs.Slots.{Held, numbers, all_died}
use Rattle.vm_code.specs.Frames.{Activation, Frame, Active, Waiting, Place, Goes, after}
use Rattle.vm_code.specs.Calling.{fit_parameters, parameters_made, Entry, activation}
use Rattle.vm_code.specs.Calling.{entered_if, entered_at, entered, left_by, row_left, replied, returned, leaves}
use Rattle.vm_code.specs.Calling.{args_of, row_called, compatible_if, called_at, called_through}
use Rattle.vm_code.specs.Sound.{library_fits, is_place}
use Rattle.vm_code.specs.Ways.{parameter_slots, stretch_of}
use Rattle.vm_code.specs.Valid.{HasType, OwnFit, CannotStart, IsValid}
use Rattle.vm_code.specs.Progress.{HasRowTypes}
use Rattle.vm_code.proofs.Falling.{bool_true, function_contained}
use Rattle.vm_code.proofs.Operands.{AreOfForms}
use Rattle.vm_code.proofs.Standing.{IsLeft, GivesForm, WaitsFor, FramesStand, PlaceStands}
use Rattle.vm_code.proofs.CallValues.{has_arguments, left_variant, MayReturn, left_by_form, pushed_kinds}
use Rattle.vm_code.proofs.ParameterSlots.{MadeSo, made_so}
use Rattle.vm_code.proofs.OwnFunctions.{any_contained, OwnFunction, own_at, numbered_at, called_by, form_given}

module _ (library : Library) (keeps : KeepsVariants library) (code : Contents) (valid : IsValid code)
    (types : HasRowTypes code) where
  abbrev env : Environment
  env = environment library code

  abbrev Stands : Place → Type 0
  Stands place = PlaceStands code keeps.waits place

  abbrev Await : Form → List Frame → Type 0
  Await gives frames = FramesStand code keeps.waits gives frames

  pub after_stands : {A : Type 0} (x : Evaluation A) (next : A → State → Place)
      → ((v : A) (s : State) → Stands (next v s)) → Stands (after x next)
  after_stands (Gives v s) next all = all v s
  after_stands (Stops outcome s) next all = tt

  -- A function is entered.

  starts_there : (f : CodeFunction) → Contains code.functions f → is_place code (stretch_of code f) f.start ≡ true
  starts_there f own = bool_true (is_place code (stretch_of code f) f.start)
      (λ no_place. valid.holds f.start (CannotStart f own refl no_place))

  begins : (entry : Entry) (f : CodeFunction) (frames : List Frame) (x : Evaluation (List Held))
      → code_parts.function_at code.functions entry.function ≡ Some f → Await f.form frames
      → MadeSo 0 f.parameters [] x
      → Stands (after x (λ held s. Goes (Active (activation entry f held) ∷ frames) s))
  begins entry f frames (Stops outcome s) is below m = tt
  begins entry f frames (Gives held s) is below m = (
    f,
    is,
    record {
      kinds = [];
      is_at = record {
        slots = parameter_slots 0 f.parameters;
        comes = record { steps = 0; way = (refl, refl, refl) };
        within = starts_there f (function_contained code.functions entry.function f is);
        holds = m.own;
      };
      operands = tt;
    },
    below,
  )

  pub entered_stands : (entry : Entry) (f : CodeFunction) (frames : List Frame) (s : State)
      → code_parts.function_at code.functions entry.function ≡ Some f
      → fit_parameters f.parameters entry.arguments ≡ true → Await f.form frames
      → Stands (entered code entry frames s)
  entered_stands entry f frames s is fit below =
      subst (λ o. Stands (entered_at o entry frames s)) (sym is)
      (subst (λ b. Stands (entered_if b f entry frames s)) (sym fit)
      (after_stands (call_entered s) _ (λ u s1.
      begins entry f frames (parameters_made 0 f.parameters entry.arguments [] entry.pos s1) is below
      (made_so 0 f.parameters entry.arguments [] entry.pos s1 fit))))

  -- What a library call comes to: a value of its form, or a function that is entered while it waits.

  abbrev pub Serves : Form → Evaluation Served → Type 0
  Serves gives (Stops outcome s) = Unit {0}
  Serves gives (Gives (Answers v) s) = IsLeft gives (row_left v)
  Serves gives (Gives (Wants number arguments call) s) = (f : CodeFunction)
      × (code_parts.function_at code.functions number ≡ Some f) × (fit_parameters f.parameters arguments ≡ true)
      × GivesForm call.call.row gives × WaitsFor keeps.waits call.call.row gives call.waits

  replied_stands : (gives : Form) (x : Evaluation Served) (frames : List Frame) (next : Value → State → Place)
      → Serves gives x → Await gives frames
      → ((v : Value) (s : State) → IsLeft gives (row_left v) → Stands (next v s)) → Stands (replied code x frames next)
  replied_stands gives (Stops outcome s) frames next h below all = tt
  replied_stands gives (Gives (Answers v) s) frames next h below all = all v s h
  replied_stands gives (Gives (Wants number arguments call) s) frames next h below all =
      entered_stands (record { function = number; arguments = arguments; result = null; pos = call.call.pos }) h.0
      (Waiting call ∷ frames) s h.1 h.2 (gives, h.3, h.4, below)

  serves_tick : (gives : Form) (n : ℕ) (s : State) (next : State → Evaluation Served)
      → ((s1 : State) → Serves gives (next s1)) → Serves gives (bind (ticked_at n s) (λ u s1. next s1))
  serves_tick gives zero s next all = tt
  serves_tick gives (suc n) s next all = all (record s { ticks = n })

  serves_value : (row : Row) (gives : Form) (v : Value) → GivesForm row gives
      → ((name : RowName) → name_at row ≡ Some name → IsVariant (prototype name).gives v) → IsLeft gives (row_left v)
  serves_value row gives v g is = subst (λ f. IsLeft f (row_left v)) g.form_is
      (left_variant (prototype g.name).gives v (is g.name g.named))

  serves_stopped : (gives : Form) (stop : Stop) (pos : Pos) (s : State) → Serves gives (stopped env stop pos s)
  serves_stopped gives (FailsReach case place len align by) pos s = tt
  serves_stopped gives (FailsValue case p) pos s = tt
  serves_stopped gives (FailsArgument number) pos s = tt
  serves_stopped gives (IsUndefined code) pos s = tt
  serves_stopped gives (EndsRow ended) pos s = tt

  -- a function of the unit that a row wants, or that is the handler, takes what it is given
  abbrev Takes : Pointer → List Value → Type 0
  Takes p arguments = (f : CodeFunction) × (code_parts.function_at code.functions (function_number p) ≡ Some f)
      × (fit_parameters f.parameters arguments ≡ true)

  takes_of : (number type : ℕ) (f : CodeFunction) (forms : List Form) (arguments : List Value)
      → code_parts.function_at code.functions number ≡ Some f → is_called_by code type number ≡ true
      → ((called : CodeCalled) → slice_get code.types type ≡ Some called → called.arguments ≡ forms)
      → AreOfForms forms arguments → fit_parameters f.parameters arguments ≡ true
  takes_of number type f forms arguments at by_type are of_forms =
      let c : (called : CodeCalled) × (slice_get code.types type ≡ Some called) × Contains called.functions number =
      called_by code type number by_type in
      has_arguments c.0 f arguments (valid.own type c.0 c.1 number f c.2 at)
      (subst (λ fs. AreOfForms fs arguments) (sym (are c.0 c.1)) of_forms)

  handler_takes : (p : Pointer) (class : Violation) (name : List ℕ) (compares : Bool)
      → function_at env p ≡ Some (OfUnit name true compares) → Takes p (values_of (told class))
  handler_takes p class name compares is =
      let o : OwnFunction library code (function_number p) true compares = own_at library code p name true compares
      is in (
        o.function,
        o.stands,
        takes_of (function_number p) handler_type o.function
            (form.Pointer ∷ form.Pointer ∷ form.Number I32 ∷ []) (values_of (told class)) o.stands (sym o.handling)
            types.handlers (refl, (refl, (refl, tt))),
      )

  wish_takes : (p a b c : Pointer) (name : List ℕ) (handling : Bool)
      → function_at env p ≡ Some (OfUnit name handling true) → Takes p (Ptr a ∷ Ptr b ∷ Ptr c ∷ [])
  wish_takes p a b c name handling is =
      let o : OwnFunction library code (function_number p) handling true = own_at library code p name handling true
      is in (
        o.function,
        o.stands,
        takes_of (function_number p) comparing_type o.function
            (form.Pointer ∷ form.Pointer ∷ form.Pointer ∷ []) (Ptr a ∷ Ptr b ∷ Ptr c ∷ []) o.stands (sym o.comparing)
            types.comparing (refl, (refl, (refl, tt))),
      )

  module _ (call : LibraryCall) (gives : Form) (g : GivesForm call.row gives) where
    serves_row_handled : (value : Value) (did : Did) (s : State) → IsLeft gives (row_left value)
        → Serves gives (row_handled env call value did s)
    serves_row_handled value (Done change set v) s is = is
    serves_row_handled value (Broken k class action v) s is = is
    serves_row_handled value (Asks function first second third rest) s is = is
    serves_row_handled value (Fails stop) s is = serves_stopped gives stop call.pos s

    handled_by : (o : Option Function) (failure : Failure) (s : State) → function_at env s.world.handler.current ≡ o
        → IsLeft gives (row_left failure.value) → Serves gives (handled env call failure (handles o) s)
    handled_by None failure s at is = tt
    handled_by (Some (OfUnit name true compares)) failure s at is =
        let t : Takes s.world.handler.current (values_of (told failure.class)) =
        handler_takes s.world.handler.current failure.class name compares at in (t.0, t.1, t.2, g, is)
    handled_by (Some (OfUnit name false compares)) failure s at is = tt
    handled_by (Some (OfLibrary row)) failure s at is = by_handler (is_handler row)
      where
        by_handler : (b : Bool)
            → Serves gives (handled env call failure (if b then ByLibrary row else OfOtherType) s)
        by_handler true = serves_row_handled failure.value
            (library.call row (told failure.class) s.world).did
            (with_streams (library.call row (told failure.class) s.world).streams
            (logged (HandlerCalled (handler_name env s.world.handler.current)) s)) is
        by_handler false = tt

    serves_violated : (failure : Failure) (action : Option Fill) (s : State) → IsLeft gives (row_left failure.value)
        → Serves gives (violated env call failure action s)
    serves_violated failure action s is =
        let there : State = acted action (logged (Violated call.row failure.constraint) s) in
        serves_tick gives there.ticks there
        (λ s1. handled env call failure (handles (function_at env s1.world.handler.current)) s1)
        (λ s1. handled_by (function_at env s1.world.handler.current) failure s1 refl is)

    serves_asked : (o : Option Function) (function a b c : Pointer) (rest : Rest) (s : State)
        → function_at env function ≡ o → keeps.waits call.row rest ≡ true
        → Serves gives (asked env call o
        (record { function = function; arguments = Ptr a ∷ Ptr b ∷ Ptr c ∷ []; rest = rest }) s)
    serves_asked None function a b c rest s at waiting = tt
    serves_asked (Some (OfUnit name handling true)) function a b c rest s at waiting =
        let t : Takes function (Ptr a ∷ Ptr b ∷ Ptr c ∷ []) = wish_takes function a b c name handling at in
        serves_tick gives s.ticks s (λ s1. Gives (Wants (function_number function) (Ptr a ∷ Ptr b ∷ Ptr c ∷ [])
        (record { call = call; waits = ForFunction rest })) s1) (λ s1. (t.0, t.1, t.2, g, waiting))
    serves_asked (Some (OfUnit name handling false)) function a b c rest s at waiting = tt
    serves_asked (Some (OfLibrary row)) function a b c rest s at waiting = tt

    serves_changed : (value : Value) (x : Evaluation (Unit {0})) → IsLeft gives (row_left value)
        → Serves gives (bind x (λ u s. serving.returned env call value s))
    serves_changed value (Gives u s) is = is
    serves_changed value (Stops outcome s) is = tt

    serves_did : (did : Did) (s : State) → AnswersVariant keeps.waits call.row did
        → Serves gives (served env call did s)
    serves_did (Done change set value) s is =
        serves_changed value (changed env change set s) (serves_value call.row gives value g is)
    serves_did (Broken k class action value) s is =
        serves_violated (record { constraint = k; class = class; value = value }) action s
        (serves_value call.row gives value g is)
    serves_did (Asks function a b c rest) s is =
        serves_asked (function_at env function) function a b c rest s refl is
    serves_did (Fails stop) s is = serves_stopped gives stop call.pos s

    serves_begun_if : (b : Bool) (args : List Arg) (s : State) → Serves gives (begun_if b env call args s)
    serves_begun_if true args s = tt
    serves_begun_if false args s = serves_did (library.call call.row args s.world).did
        (with_streams (library.call call.row args s.world).streams s) (keeps.call call.row args s.world)

    serves_begun : (args : List Arg) (s : State) → Serves gives (begun env call args s)
    serves_begun args s = serves_begun_if (sets_no_function env call.row (first_pointer args)) args
        (logged (Called call.row (line_values call.row (values_of args))) s)

    serves_gone_on : (waiting : Waits) (v : Value) (s : State) → WaitsFor keeps.waits call.row gives waiting
        → Serves gives (gone_on env call waiting v s)
    serves_gone_on (ForHandler k value) v s is = is
    serves_gone_on (ForFunction rest) v s is = serves_did (library.resume rest v s.world).did
        (with_streams (library.resume rest v s.world).streams s) (keeps.resume call.row rest v s.world is)

  -- A call returns.

  returned_stands : (gives : Form) (left : List Value) (v : Value) (frames : List Frame) (s : State)
      → IsLeft gives left → Await gives frames → Stands (returned env code left v frames s)
  returned_stands gives left v [] s is below = tt
  returned_stands gives left v (Active a ∷ frames) s is below = (
    below.0,
    below.1,
    record {
      kinds = below.2.kinds;
      is_at = below.2.is_at;
      operands = pushed_kinds gives below.2.below below.2.kinds left a.operands below.2.pushed is below.2.operands;
    },
    below.3,
  )
  returned_stands gives left v (Waiting call ∷ frames) s is below =
      replied_stands below.0 (continued env call v s) frames (λ w s1. returned env code (row_left w) w frames s1)
      (serves_gone_on call.call below.0 below.1 call.waits v s below.2) below.3
      (λ w s1 h. returned_stands below.0 (row_left w) w frames s1 h below.3)

  pub leaves_stands : (gives : Form) (a : Activation) (v : Value) (frames : List Frame) (s : State)
      → MayReturn gives v → Await gives frames → Stands (leaves env code gives a v frames s)
  leaves_stands gives a v frames s may below =
      returned_stands gives (left_by gives a.result v) v frames (call_left (all_died (numbers a.held) s))
      (left_by_form gives a.result v may) below

  -- A call through a pointer.

  module _ (p : Pointer) (called : CodeCalled) (entry : Entry) (frames : List Frame) (is : entry.function
      ≡ function_number p) (fits : library_fits code called ≡ true) (own_fit : OwnFit code called)
      (are : AreOfForms called.arguments entry.arguments) (below : Await called.form frames) where
    contained : calls_function entry.function called ≡ true → Contains called.functions entry.function
    contained calls = any_contained called.functions entry.function calls

    row_stands : (f : Function) (s : State) → function_at env p ≡ Some f
        → calls_function entry.function called ≡ true → Stands (row_called env code f called entry frames s)
    row_stands (OfUnit name handling compares) s at calls =
        let o : OwnFunction library code (function_number p) handling compares =
        own_at library code p name handling compares at in
        let there : code_parts.function_at code.functions entry.function ≡ Some o.function =
        ap (code_parts.function_at code.functions) is ∙ o.stands in
        let has : HasType called o.function = own_fit entry.function o.function (contained calls) there in
        entered_stands entry o.function frames s there (has_arguments called o.function entry.arguments has are)
        (subst (λ g. Await g frames) (sym has.gives) below)
    row_stands (OfLibrary row) s at calls =
        let g : GivesForm row called.form = form_given code called entry.function row fits (contained calls)
        (ap (function_numbered code) is ∙ numbered_at library code p (OfLibrary row) at) library in
        replied_stands called.form
        (begun env (record { row = row; pos = entry.pos }) (args_of entry.arguments called.kinds) s) frames
        (λ v s1. returned env code (row_left v) v frames s1)
        (serves_begun (record { row = row; pos = entry.pos }) called.form g (args_of entry.arguments called.kinds) s)
        below
        (λ v s1 h. returned_stands called.form (row_left v) v frames s1 h below)

    compatible_stands : (b : Bool) (f : Function) (s : State) → function_at env p ≡ Some f
        → calls_function entry.function called ≡ b → Stands (compatible_if b env code f called entry frames s)
    compatible_stands false f s at calls = tt
    compatible_stands true f s at calls =
        after_stands (ticked s) (λ u s1. row_called env code f called entry frames s1)
        (λ u s1. row_stands f s1 at calls)

    called_at_stands : (o : Option Function) (s : State) → function_at env p ≡ o
        → Stands (called_at o env code p called entry frames s)
    called_at_stands None s at = tt
    called_at_stands (Some f) s at = compatible_stands (calls_function entry.function called) f s at refl

    pub called_stands : (s : State) → Stands (called_through env code p called entry frames s)
    called_stands s = called_at_stands (function_at env p) s refl
