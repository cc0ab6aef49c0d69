-- The machine does what expressions mean, where their calls run as they are meant.
use Rattle.std.proofs.Common.{◌≡◌, ℕ, ◌+◌, ◌≤◌, true, false, List, [], ◌∷◌, ◌++◌, refl, sym, subst, arith, length}
use Rattle.std.proofs.lemmas.List.{length-append}
use Rattle.std.specs.Prelude.{not}
use Rattle.acc_num.specs.declared.kind.IntKind.TheVariants.{I32, I64}
use Rattle.acc_num.specs.Operations.{is_zero, converted_to}
use Rattle.critical_table.specs.declared.pos.Pos.{Pos}
use Rattle.object_store.specs.declared.pointer.Pointer.{Pointer}
use Rattle.c_types.specs.Compatible.{same_bool}
use Rattle.c_core.specs.declared.form.Form.{Form}
use Rattle.c_core.specs.declared.form.Form.TheVariants as form
use Rattle.c_core.specs.Forms.{form_of, node_form, scalar_form, changed_form}
use Rattle.c_core.specs.Named.{Names}
use Rattle.c_core.specs.Operations.{operator_outcome, negation, complement, compares, truth, is_shift}
use Rattle.c_core.specs.Tree.{Core, At, Node, Cores, NoCore, MoreCores}
use Rattle.c_core.specs.Tree as tree
use Rattle.c_core.specs.TreeUnit.{Program}
use Rattle.c_core.specs.Typed.{CoreTyped, CoresTyped, NodeTyped}
use Rattle.c_core.specs.Types.{IsNumber}
use Rattle.lib_defs.specs.declared.value.Value.TheVariants.{Num, Ptr, Nothing}
use Rattle.lib_defs.specs.Columns.{is_null}
use Rattle.run_defs.specs.Evaluation.{Gives, bind, reached}
use Rattle.run_defs.specs.Loads.{found}
use Rattle.vm_code.specs.declared.instr.Instr.{Instr}
use Rattle.vm_code.specs.declared.instr.Instr.TheVariants as i
use Rattle.vm_code.specs.declared.parts.CodeFunction.{CodeFunction}
use Rattle.vm_code.specs.Accesses.{number_in, pointer_in, loaded, copied}
use Rattle.vm_code.specs.Contents.{Contents}
use Rattle.vm_code.specs.Frames.{Activation, Frame}
use Rattle.vm_code.specs.Operators.{computed, told, told_if_found, pointer_moved, assigned}
use Rattle.vm_code.specs.Pointers.{moved, difference, ordered, same_pointer, member_place, array_pointer}
use Rattle.code_gen.specs.CalledTypes.{Through}
use Rattle.code_gen.specs.Designation.{function_number}
use Rattle.lib_defs.specs.Reply.{null}
use Rattle.vm_code.specs.CodeFunctions.{function_pointer}
use Rattle.code_gen.specs.Evaluating.{Evaluates}
use Rattle.code_gen.specs.ExpressionCode.{on, code_at, code_of, size_of, same_code, same_size, objects_in, objects_of}
use Rattle.code_gen.specs.ExpressionCode.{object_code, codes_at, size_among, objects_among}
use Rattle.code_gen.specs.ExpressionCode.{truth_code, false_code, true_code, update_code, postfix_code}
use Rattle.code_gen.specs.ExpressionCode as code_sizes
use Rattle.code_gen.specs.Expressions.{Call, value, node_value}
use Rattle.code_gen.specs.Updates.{designated, kind_of_reach}
use Rattle.code_gen.specs.RunLaw.{EachExpressionRuns, CallsOfNodeRun, CallsAmongRun, CallsRunIn, HasKind}
use Rattle.code_gen.specs.RunLaw.{StandAt, Running, IsAround, AreLeft}
use Rattle.code_gen.proofs.Going.{stand_front, stand_back}
use Rattle.code_gen.proofs.Lengths.{code_long}
use Rattle.code_gen.proofs.PlainParts as part
use Rattle.code_gen.proofs.PlainStretches as stretch
use Rattle.code_gen.proofs.PlainParts.{IsPointer, a_pointer, a_place, a_number, IsLeftAs, number_left, pointer_left}
use Rattle.code_gen.proofs.PlainActs as acts
use Rattle.code_gen.proofs.PlainCalls as calls
use Rattle.code_gen.proofs.PlainChoices as choices
use Rattle.code_gen.proofs.PlainNodes as nodes
use Rattle.code_gen.proofs.PlainPieces as pieces_of
use Rattle.code_gen.proofs.PlainUpdates as updates
use Rattle.code_gen.proofs.ValueObjects as values

module _ (it : Running) (low : ℕ) (program : Program) (table : List Through) (call : Call) (names : Names)
    (around : IsAround names low it.frame.held) where
  abbrev code : Contents
  code = it.code

  abbrev function : CodeFunction
  function = it.function

  abbrev frame : Activation
  frame = it.frame

  abbrev rest : List Frame
  rest = it.rest

  abbrev val : Core → Evaluates
  val core = value program call frame.held core

  abbrev Runs : Evaluates → Form → (from to slot next : ℕ) → Type 0
  Runs x f from to slot next = stretch.Runs it low x f from to slot next

  abbrev StandsAt : ℕ → List (Instr × Pos) → Type 0
  StandsAt at instrs = StandAt code function at instrs

  abbrev size_in : Core → ℕ
  size_in core = code_sizes.size_in core

  mutual
    value_runs : (core : Core) → CoreTyped names core → CallsRunIn it table call core → (at slot : ℕ) → low ≤ slot
        → StandsAt at (code_at program table at slot core)
        → Runs (val core) (form_of core) at (at + size_in core) slot (slot + objects_in core)
    value_runs (At of position node) t plain at slot above stands =
        node_runs position node t.1 plain at slot above stands

    node_runs : (position : Pos) (node : Node) → NodeTyped names node
        → CallsOfNodeRun it.environment it.code it.most it.rest table call node → (at slot : ℕ) → low ≤ slot
        → StandsAt at (code_of program table at slot position node)
        → Runs (node_value program call frame.held position node) (node_form node) at (at + size_of node) slot
        (slot + objects_of node)
    node_runs position (tree.Number kind n) t plain at slot above stands =
        stretch.leaf_runs it low (Num n) (form.Number kind) at (i.Number kind n) position stands (n, refl) (λ objects
        answered operands s slots. refl)
    node_runs position tree.Null t plain at slot above stands =
        stretch.leaf_runs it low (Ptr null) form.Pointer at (i.Pointer null) position stands (null, refl) (λ objects
        answered operands s slots. refl)
    node_runs position (tree.Object name) t plain at slot above stands =
        nodes.object_runs it low program table call names around name t at slot position stands
    node_runs position (tree.Function name) t plain at slot above stands =
        let p : Pointer = function_pointer (function_number program.functions name) in
        stretch.leaf_runs it low (Ptr p) form.Pointer at (i.Pointer p) position stands (p, refl)
        (λ objects answered operands s slots. refl)
    node_runs position (tree.AddressOf place) t plain at slot above stands =
        stretch.place_runs it low {slot = slot} {next = slot + objects_in place} (val place) at (at + size_in place)
        (nodes.as_form it low program table call place form.Place t.0 at slot (value_runs place t.1 plain at slot
        above stands))
    node_runs position (tree.Retype pointer) t plain at slot above stands =
        nodes.as_form it low program table call pointer form.Pointer t.0 at slot (value_runs pointer t.1 plain at slot
        above stands)
    node_runs position (tree.Reach by size align pointer) t plain at slot above stands =
        nodes.one_node it low program table call pointer (λ p. designated by size align (pointer_in p) position)
        form.Place (i.Reach size align
        (kind_of_reach by)) at slot position stands
        (value_runs pointer t.4 plain at slot above)
        (λ objects answered. part.on_pointer (stretch.beside it objects answered) (form_of pointer) form.Place (at +
        size_in pointer) (i.Reach size align (kind_of_reach
        by)) position
        (λ p. designated by size align (pointer_in p) position) (a_pointer (form_of pointer) t.3) (λ operands p s. refl)
        (λ p s. acts.gives_fit (HasKind form.Place)
        (reached (record { place = p; len = size; align = align; by = kind_of_reach by }) position s) (λ u. Ptr p)
        (λ u. (p, refl))))
    node_runs position (tree.Member byte place) t plain at slot above stands =
        nodes.one_node it low program table call place (λ p. Gives (Ptr (member_place byte (pointer_in p))))
        form.Place (i.Member byte) at slot position stands (value_runs place t.2 plain at slot above) (λ objects
        answered. part.on_pointer (stretch.beside it objects answered) (form_of place) form.Place (at + size_in place)
        (i.Member byte) position (λ p. Gives (Ptr (member_place byte (pointer_in p)))) (a_place (form_of place) t.1)
        (λ operands p s. refl) (λ p s. (member_place byte p, refl)))
    node_runs position (tree.Narrow size place) t plain at slot above stands =
        nodes.one_node it low program table call place (λ p. Gives (Ptr (array_pointer size (pointer_in p))))
        form.Pointer (i.Narrow size) at slot position stands (value_runs place t.2 plain at slot above) (λ objects
        answered. part.on_pointer (stretch.beside it objects answered) (form_of place) form.Pointer (at + size_in
        place) (i.Narrow size) position (λ p. Gives (Ptr (array_pointer size (pointer_in p)))) (a_place (form_of
        place) t.1) (λ operands p s. refl) (λ p s. (array_pointer size p, refl)))
    node_runs position (tree.Load of place) t plain at slot above stands =
        nodes.one_node it low program table call place (λ p. loaded of (pointer_in p) position) (scalar_form of)
        (i.Load of) at slot position stands (value_runs place t.1 plain at slot above) (λ objects answered.
        acts.load_acts (stretch.beside it objects answered) of (form_of place) (at + size_in place) position (a_place
        (form_of place) t.0))
    node_runs position (tree.Convert kind operand) t plain at slot above stands =
        nodes.one_node it low program table call operand (λ a. Gives (Num (converted_to kind (number_in a))))
        (form.Number kind) (i.Convert kind) at slot position stands (value_runs operand t.1 plain at slot above) (λ
        objects answered. part.on_number (stretch.beside it objects answered) (form_of operand) (form.Number kind) (at
        + size_in operand) (i.Convert kind) position (λ a. Gives (Num (converted_to kind (number_in a)))) t.0 (λ
        operands n s. refl) (λ n s. (converted_to kind n, refl)))
    node_runs position (tree.IsNull pointer) t plain at slot above stands =
        nodes.one_node it low program table call pointer (λ p. Gives (told (is_null (pointer_in p)))) (form.Number
        I32) i.IsNull at slot position stands (value_runs pointer t.1 plain at slot above) (λ objects answered.
        part.on_pointer (stretch.beside it objects answered) (form_of pointer) (form.Number I32) (at + size_in
        pointer) i.IsNull position (λ p. Gives (told (is_null (pointer_in p)))) (a_pointer (form_of pointer) t.0) (λ
        operands p s. refl) (λ p s. (truth (is_null p), refl)))
    node_runs position (tree.Negate kind operand) t plain at slot above stands =
        nodes.one_node it low program table call operand (λ a. computed (negation kind (number_in a)) position)
        (form.Number kind) (i.Negate kind) at slot position stands (value_runs operand t.1 plain at slot above) (λ
        objects answered. part.on_number (stretch.beside it objects answered) (form_of operand) (form.Number kind) (at
        + size_in operand) (i.Negate kind) position (λ a. computed (negation kind (number_in a)) position) (a_number
        (form_of operand) kind t.0) (λ operands n s. refl) (λ n s. acts.computed_fits it kind (negation kind n)
        position s))
    node_runs position (tree.Flip kind operand) t plain at slot above stands =
        nodes.one_node it low program table call operand (λ a. Gives (Num (complement kind (number_in a))))
        (form.Number kind) (i.Flip kind) at slot position stands (value_runs operand t.1 plain at slot above) (λ
        objects answered. part.on_number (stretch.beside it objects answered) (form_of operand) (form.Number kind) (at
        + size_in operand) (i.Flip kind) position (λ a. Gives (Num (complement kind (number_in a)))) (a_number
        (form_of operand) kind t.0) (λ operands n s. refl) (λ n s. (complement kind n, refl)))
    node_runs position (tree.Not operand) t plain at slot above stands =
        nodes.one_node it low program table call operand (λ a. Gives (told (is_zero (number_in a)))) (form.Number I32)
        i.Not at slot position stands (value_runs operand t.1 plain at slot above) (λ objects answered. part.on_number
        (stretch.beside it objects answered) (form_of operand) (form.Number I32) (at + size_in operand) i.Not position
        (λ a. Gives (told (is_zero (number_in a)))) t.0 (λ operands n s. refl) (λ n s. (truth (is_zero n), refl)))
    node_runs position (tree.Discard operand) t plain at slot above stands =
        nodes.one_node it low program table call operand (λ a. Gives Nothing) form.Nothing i.Drop at slot position
        stands (value_runs operand t.1 plain at slot above) (λ objects answered. acts.drop_acts (stretch.beside it
        objects answered) (form_of operand) (at + size_in operand) position t.0)
    node_runs position (tree.Arithmetic operator kind left right) t plain at slot above stands =
        nodes.two_nodes it low program table call left right (λ a b. computed (operator_outcome operator kind
        (number_in a) (number_in b)) position) (form.Number kind) (i.Binary operator kind) at slot position stands
        (value_runs left t.1 plain.0 at slot above) (value_runs right t.3 plain.1 (at + size_in left) (slot +
        objects_in left) (omega (arith, above))) (λ objects answered. part.on_numbers (stretch.beside it objects
        answered) (form_of left) (form_of right) (form.Number kind) (at + (size_in left + size_in right)) (i.Binary
        operator kind) position (λ a b. computed (operator_outcome operator kind (number_in a) (number_in b))
        position) (a_number (form_of left) kind t.0) (acts.right_number (is_shift operator) kind (form_of right) t.2)
        (λ operands n m s. refl) (λ n m s. acts.computed_fits it kind (operator_outcome operator kind n m) position s))
    node_runs position (tree.Compare comparison left right) t plain at slot above stands =
        nodes.two_nodes it low program table call left right (λ a b. Gives (told (compares comparison (number_in a)
        (number_in b)))) (form.Number I32) (i.Compare comparison) at slot position stands (value_runs left t.1 plain.0
        at slot above) (value_runs right t.3 plain.1 (at + size_in left) (slot + objects_in left) (omega (
          arith,
          above,
        ))) (λ objects answered. part.on_numbers (stretch.beside it objects answered) (form_of left) (form_of
        right) (form.Number I32) (at + (size_in left + size_in right)) (i.Compare comparison) position (λ a b. Gives
        (told (compares comparison (number_in a) (number_in b)))) t.0 (subst IsNumber (sym t.2) t.0) (λ operands n m
        s. refl) (λ n m s. (truth (compares comparison n m), refl)))
    node_runs position (tree.Order relation left right) t plain at slot above stands =
        nodes.two_nodes it low program table call left right (λ p q. told_if_found (ordered relation (pointer_in p)
        (pointer_in q)) position) (form.Number I32) (i.Order relation) at slot position stands (value_runs left t.1
        plain.0 at slot above) (value_runs right t.3 plain.1 (at + size_in left) (slot + objects_in left) (omega
        (arith, above))) (λ objects answered. part.on_pointers (stretch.beside it objects answered) (form_of left)
        (form_of right) (form.Number I32) (at + (size_in left + size_in right)) (i.Order relation) position (λ p q.
        told_if_found (ordered relation (pointer_in p) (pointer_in q)) position) (a_pointer (form_of left) t.0)
        (a_pointer (form_of right) t.2) (λ operands p q s. refl) (λ p q s. acts.told_fits it (ordered relation p q)
        position s))
    node_runs position (tree.Difference size left right) t plain at slot above stands =
        nodes.two_nodes it low program table call left right (λ p q s. bind (found (difference size (pointer_in p)
        (pointer_in q)) position s) (λ n s1. Gives (Num n) s1)) (form.Number I64) (i.Difference size) at slot position
        stands (value_runs left t.2 plain.0 at slot above) (value_runs right t.4 plain.1 (at + size_in left) (slot +
        objects_in left) (omega (arith, above))) (λ objects answered. part.on_pointers (stretch.beside it objects
        answered) (form_of left) (form_of right) (form.Number I64) (at + (size_in left + size_in right)) (i.Difference
        size) position (λ p q s. bind (found (difference size (pointer_in p) (pointer_in q)) position s) (λ n s1.
        Gives (Num n) s1)) (a_pointer (form_of left) t.1) (a_pointer (form_of right) t.3) (λ operands p q s. refl) (λ
        p q s. acts.gives_fit (HasKind (form.Number I64)) (found (difference size p q) position s) (λ n. Num n) (λ n.
        (n, refl))))
    node_runs position (tree.AssignWhole size place operand) t plain at slot above stands =
        nodes.two_nodes it low program table call place operand (λ p q s. bind (copied size (pointer_in p) (pointer_in
        q) position s) (λ u s1. Gives p s1)) form.Place (i.Copy size) at slot position stands (value_runs place t.2
        plain.0 at slot above) (value_runs operand t.4 plain.1 (at + size_in place) (slot + objects_in place) (omega
        (arith, above))) (λ objects answered. part.on_pointers (stretch.beside it objects answered) (form_of place)
        (form_of operand) form.Place (at + (size_in place + size_in operand)) (i.Copy size) position (λ p q s. bind
        (copied size (pointer_in p) (pointer_in q) position s) (λ u s1. Gives p s1)) (a_place (form_of place) t.1)
        (a_place (form_of operand) t.3) (λ operands p q s. refl) (λ p q s. acts.gives_fit (HasKind form.Place) (copied
        size p q position s) (λ u. Ptr p) (λ u. (p, refl))))
    node_runs position (tree.Assign of place operand) t plain at slot above stands =
        nodes.two_nodes it low program table call place operand (λ p a. assigned of (pointer_in p) a position)
        (scalar_form of) (i.Store of) at slot position stands (value_runs place t.1 plain.0 at slot above) (value_runs
        operand t.3 plain.1 (at + size_in place) (slot + objects_in place) (omega (arith, above))) (λ objects
        answered. acts.store_acts (stretch.beside it objects answered) of (form_of place) (form_of operand) (at +
        (size_in place + size_in operand)) position (a_place (form_of place) t.0) t.2)
    node_runs position (tree.NotNull pointer) t plain at slot above stands =
        stretch.to_place it low _ (form.Number I32) at (at + size_in pointer + 1 + 1) _ (omega arith)
        (stretch.operand_runs it low (val pointer) (λ p. Gives (told (not (is_null (pointer_in p))))) (form_of
        pointer) (form.Number I32) at (size_in pointer) (at + size_in pointer + 1 + 1) (i.IsNull ∷ i.Not ∷ [])
        position (code_at program table at slot pointer) (code_long program table at slot pointer) stands (value_runs
        pointer t.1 plain at slot above) (λ after objects answered operands v s has. acts.not_null_acts
        (stretch.beside it objects answered) (form_of pointer) (at + size_in pointer) (at + size_in pointer + 1 + 1)
        position refl (a_pointer (form_of pointer) t.0) operands v s has after))
    node_runs position (tree.Same true left right) t plain at slot above stands =
        nodes.two_nodes it low program table call left right (λ p q. Gives (told (same_bool true (same_pointer
        (pointer_in p) (pointer_in q))))) (form.Number I32) i.Same at slot position stands (value_runs left t.1
        plain.0 at slot above) (value_runs right t.3 plain.1 (at + size_in left) (slot + objects_in left) (omega
        (arith, above))) (λ objects answered. part.on_pointers (stretch.beside it objects answered) (form_of left)
        (form_of right) (form.Number I32) (at + (size_in left + size_in right)) i.Same position (λ p q. Gives (told
        (same_bool true (same_pointer (pointer_in p) (pointer_in q))))) (a_pointer (form_of left) t.0) (a_pointer
        (form_of right) t.2) (λ operands p q s. refl) (λ p q s. (truth (same_pointer p q), refl)))
    node_runs position (tree.Same false left right) t plain at slot above stands =
        stretch.to_place it low _ (form.Number I32) at (at + (size_in left + size_in right) + 1 + 1) _ (omega arith)
        (nodes.more_nodes it low program table call left right (λ p q. Gives (told (same_bool false (same_pointer
        (pointer_in p) (pointer_in q))))) (form.Number I32) (at + (size_in left + size_in right) + 1 + 1) (i.Same ∷
        i.Not ∷ []) at slot position stands (value_runs left t.1 plain.0 at slot above) (value_runs right t.3 plain.1
        (at + size_in left) (slot + objects_in left) (omega (arith, above))) (λ after objects answered operands v w s
        has_v has_w. acts.not_same_acts (stretch.beside it objects answered) (form_of left) (form_of right) (at +
        (size_in left + size_in right)) (at + (size_in left + size_in right) + 1 + 1) position refl (a_pointer
        (form_of left) t.0) (a_pointer (form_of right) t.2) operands v w s has_v has_w after))
    node_runs position (tree.Step stride false pointer number) t plain at slot above stands =
        nodes.two_nodes it low program table call pointer number (λ p n. pointer_moved (moved stride (pointer_in p)
        (number_in n)) position) form.Pointer (i.Step stride) at slot position stands (value_runs pointer t.2 plain.0
        at slot above) (value_runs number t.4 plain.1 (at + size_in pointer) (slot + objects_in pointer) (omega
        (arith, above))) (λ objects answered. part.on_pointer_number (stretch.beside it objects answered) (form_of
        pointer) (form_of number) form.Pointer (at + (size_in pointer + size_in number)) (i.Step stride) position (λ p
        n. pointer_moved (moved stride (pointer_in p) (number_in n)) position) (a_pointer (form_of pointer) t.1) t.3
        (λ operands p n s. refl) (λ p n s. acts.moved_fits it (moved stride p n) position s))
    node_runs position (tree.Step stride true pointer number) t plain at slot above stands =
        stretch.to_place it low _ form.Pointer at (at + (size_in number + size_in pointer) + 1 + 1) _ (omega arith)
        (stretch.in_slots it low _ form.Pointer at (at + (size_in number + size_in pointer) + 1 + 1) slot (slot +
        (objects_in pointer + objects_in number)) (omega arith) (omega arith) (nodes.more_nodes it low program table
        call number pointer (λ n p. pointer_moved (moved stride (pointer_in p) (number_in n)) position) form.Pointer
        (at + (size_in number + size_in pointer) + 1 + 1) (i.Swap ∷ i.Step stride ∷ []) at slot position stands
        (value_runs number t.4 plain.1 at slot above) (value_runs pointer t.2 plain.0 (at + size_in number) (slot +
        objects_in number) (omega (arith, above))) (λ after objects answered operands v w s has_v has_w.
        acts.swapped_acts (stretch.beside it objects answered) stride (form_of number) (form_of pointer) (at +
        (size_in number + size_in pointer)) (at + (size_in number + size_in pointer) + 1 + 1) position refl t.3
        (a_pointer (form_of pointer) t.1) operands v w s has_v has_w after)))
    node_runs position (tree.Comma left right) t plain at slot above stands =
        let a : List (Instr × Pos) = code_at program table at slot left in
        let b : List (Instr × Pos) = code_at program table (at + size_in left) (slot + objects_in left) right in
        nodes.slots_together it low program table call slot (objects_in left) (objects_in right)
        (stretch.to_place it low _ (form_of right) at (at + size_in left + size_in right) _ (omega arith)
        (stretch.then_right_runs it low (val left) (val right) (form_of right) at (at + size_in left)
        (at + size_in left + size_in right)
        (nodes.as_form it low program table call left form.Nothing t.0 at slot
        (value_runs left t.1 plain.0 at slot above (stand_front code function at a b stands)))
        (value_runs right t.2 plain.1 (at + size_in left) (slot + objects_in left) (omega (arith, above))
        (stand_back code function at (size_in left) a b (code_long program table at slot left) stands))))
    node_runs position (tree.AndAlso left right) t plain at slot above stands =
        let l : ℕ = size_in left in
        let r : ℕ = size_in right in
        let pieces = pieces_of.in_pieces it at l 1 r (code_at program table at slot left)
        (on position (i.IfZero (at + (l + (r + 4))) ∷ []))
        (code_at program table (at + (l + 1)) (slot + objects_in left) right)
        (on position (truth_code ++ i.Jump (at + (l + (r + 5))) ∷ false_code ∷ []))
        (code_long program table at slot left) refl
        (code_long program table (at + (l + 1)) (slot + objects_in left) right) stands in
        nodes.slots_together it low program table call slot (objects_in left) (objects_in right)
        (choices.and_runs it low program call left right at slot position (at + (l + (1 + r))) t.0 t.2 refl
        (value_runs left t.1 plain.0 at slot above pieces.first)
        (value_runs right t.3 plain.1 (at + (l + 1)) (slot + objects_in left) (omega (arith, above)) pieces.third)
        pieces.second pieces.last)
    node_runs position (tree.OrElse left right) t plain at slot above stands =
        let l : ℕ = size_in left in
        let r : ℕ = size_in right in
        let pieces = pieces_of.in_pieces it at l 3 r (code_at program table at slot left)
        (on position (i.IfZero (at + (l + 3)) ∷ true_code ∷ i.Jump (at + (l + (r + 5))) ∷ []))
        (code_at program table (at + (l + 3)) (slot + objects_in left) right) (on position truth_code)
        (code_long program table at slot left) refl
        (code_long program table (at + (l + 3)) (slot + objects_in left) right) stands in
        nodes.slots_together it low program table call slot (objects_in left) (objects_in right)
        (choices.or_runs it low program call left right at slot position (at + (l + (3 + r))) t.0 t.2 refl
        (value_runs left t.1 plain.0 at slot above pieces.first)
        (value_runs right t.3 plain.1 (at + (l + 3)) (slot + objects_in left) (omega (arith, above)) pieces.third)
        pieces.second pieces.last)
    node_runs position (tree.Cond test first second) t plain at slot above stands =
        let l : ℕ = size_in test in
        let m : ℕ = size_in first in
        let r : ℕ = size_in second in
        let a : List (Instr × Pos) = code_at program table at slot test in
        let z : List (Instr × Pos) = on position (i.IfZero (at + (l + (m + 2))) ∷ []) in
        let b : List (Instr × Pos) = code_at program table (at + (l + 1)) (slot + objects_in test) first in
        let j : List (Instr × Pos) = on position (i.Jump (at + (l + (m + (r + 2)))) ∷ []) in
        let c : List (Instr × Pos) =
        code_at program table (at + (l + (m + 2))) (slot + (objects_in test + objects_in first)) second in
        let long_a : length a ≡ l = code_long program table at slot test in
        let long_b : length b ≡ m = code_long program table (at + (l + 1)) (slot + objects_in test) first in
        let long_z : length z ≡ 1 = refl in
        let long_j : length j ≡ 1 = refl in
        let pieces = pieces_of.in_pieces it at l 1 m a z b j long_a refl long_b
        (stand_front code function at (a ++ z ++ b ++ j) c stands) in
        stretch.in_slots it low _ (form_of first) at _ slot
        (slot + (objects_in test + (objects_in first + objects_in second))) (omega arith) (omega arith)
        (choices.cond_runs it low program call test first second at slot position (form_of first) t.0 refl t.3
        (value_runs test t.1 plain.0 at slot above pieces.first)
        (value_runs first t.2 plain.1 (at + (l + 1)) (slot + objects_in test) (omega (arith, above)) pieces.third)
        (value_runs second t.4 plain.2 (at + (l + (m + 2))) (slot + (objects_in test + objects_in first)) (omega
        (arith, above))
        (stand_back code function at (l + (m + 2)) (a ++ z ++ b ++ j) c (omega (
          arith,
          length-append (a ++ z ++ b) j,
          length-append (a ++ z) b,
          length-append a z,
          long_a,
          long_b,
          long_z,
          long_j,
        )) stands))
        pieces.second pieces.last)
    node_runs position (tree.Call used gives operation operands) t plain at slot above stands =
        calls.call_runs it low program table call used gives operation operands position at slot above t.0 t.5 plain.2
        stands (value_runs operation t.1 plain.0 at slot above)
        (values_run operands t.2 plain.2.left plain.1 (at + size_in operation) (slot + objects_in operation)
        (omega (arith, above)))
    node_runs position (tree.ValueObject size operand) t plain at slot above stands =
        values.value_object_runs it low program table call operand size at slot position above stands t.1 (value_runs
        operand t.2 plain at slot above)
    node_runs position (tree.Update by place number) t plain at slot above stands =
        stretch.to_place it low _ (changed_form by) at (updates.end_of_update it by (at + (size_in place + size_in
        number))) _ (updates.update_ends it by at (size_in place) (size_in number)) (nodes.more_nodes it low program
        table call place number (updates.gives_new it by position) (changed_form by) (updates.end_of_update it by (at
        + (size_in place + size_in number))) (update_code by) at slot position stands (value_runs place t.1 plain.0 at
        slot above) (value_runs number t.3 plain.1 (at + size_in place) (slot + objects_in place)
        (omega (arith, above))) (λ after objects answered operands v w s has_v has_w. updates.update_acts
        (stretch.beside it objects answered) by (form_of place) (form_of number) (at + (size_in place + size_in number)) position (a_place
        (form_of place) t.0) (updates.fits_number it by (form_of number) t.2) operands v w s has_v has_w after))
    node_runs position (tree.Postfix by place) t plain at slot above stands =
        stretch.to_place it low _ (changed_form by) at (updates.end_of_postfix it by (at + size_in place)) _
        (updates.postfix_ends it by at (size_in place)) (stretch.operand_runs it low (val place) (updates.gives_old it
        by position) (form_of place) (changed_form by) at (size_in place) (updates.end_of_postfix it by (at + size_in
        place)) (postfix_code by) position (code_at program table at slot place) (code_long program table at slot
        place) stands (value_runs place t.2 plain at slot above) (λ after objects answered operands v s has.
        updates.postfix_acts (stretch.beside it objects answered) by (form_of place) (at + size_in place) position
        (a_place (form_of place) t.1) operands v s has after))

    -- arguments
    values_run : (cores : Cores) → CoresTyped names cores → AreLeft cores
        → CallsAmongRun it.environment it.code it.most it.rest table call cores → (at slot : ℕ) → low ≤ slot
        → StandsAt at (codes_at program table at slot cores)
        → calls.ValuesRun it low program table call cores at (at + size_among cores) slot (slot + objects_among cores)
    values_run NoCore t left plain at slot above stands = calls.none_run it low program table call at slot
    values_run (MoreCores first rest) t left plain at slot above stands =
        let mid : ℕ = at + size_in first in
        let between : ℕ = slot + objects_in first in
        let a : List (Instr × Pos) = code_at program table at slot first in
        let b : List (Instr × Pos) = codes_at program table mid between rest in
        let there : mid + size_among rest ≡ at + (size_in first + size_among rest) = omega arith in
        let last : between + objects_among rest ≡ slot + (objects_in first + objects_among rest) = omega arith in
        subst (λ k. calls.ValuesRun it low program table call (MoreCores first rest) at k slot
        (slot + (objects_in first + objects_among rest))) there
        (subst (λ k. calls.ValuesRun it low program table call (MoreCores first rest) at (mid + size_among rest) slot k)
        last
        (calls.more_run it low program table call first rest at mid (mid + size_among rest) slot between
        (between + objects_among rest) left.0
        (value_runs first t.0 plain.0 at slot above (stand_front code function at a b stands))
        (values_run rest t.1 left.1 plain.1 mid between (omega (arith, above))
        (stand_back code function at (size_in first) a b (code_long program table at slot first) stands))))

-- as the statement has it
pub plain_runs : EachExpressionRuns
plain_runs it program table call names low around core t plain at slot above stands =
    value_runs it low program table call names around core t plain at slot above stands
