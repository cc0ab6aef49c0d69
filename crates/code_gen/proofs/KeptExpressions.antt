-- Each expression keeps what is kept, where calls do.
use Rattle.std.proofs.Common.{ℕ, Bool, true, false, List, Option, Some, None}
use Rattle.std.specs.Prelude.{pos, not}
use Rattle.critical_table.specs.declared.code.Code.TheVariants.{U04}
use Rattle.critical_table.specs.declared.pos.Pos.{Pos}
use Rattle.object_store.specs.declared.pointer.Pointer.{Pointer}
use Rattle.c_types.specs.CType.{CType}
use Rattle.lib_defs.specs.declared.value.Arg.{Arg}
use Rattle.lib_defs.specs.declared.value.Value.{Value}
use Rattle.run_defs.specs.Functions.{Environment}
use Rattle.run_defs.specs.Replay.{OpenCall}
use Rattle.run_defs.proofs.Following.{automatic_keeps, undefined_closes}
use Rattle.c_core.specs.declared.form.Content.{Content}
use Rattle.c_core.specs.declared.form.Content.TheVariants as content
use Rattle.c_core.specs.Tree.{Core, At as Node-at, Node, Cores, NoCore, MoreCores}
use Rattle.c_core.specs.Tree as tree
use Rattle.c_core.specs.TreeUnit.{Program}
use Rattle.c_core.specs.Operations.{operator_outcome, negation, complement, compares}
use Rattle.c_core.specs.Types.{IsSize, IsGiven}
use Rattle.c_core.specs.Named.{Names}
use Rattle.c_core.specs.Typed.{CoreTyped, NodeTyped, CoresTyped}
use Rattle.vm_code.specs.Accesses.{number_in, pointer_in}
use Rattle.vm_code.specs.Pointers.{moved, difference, ordered, same_pointer, member_place, array_pointer}
use Rattle.vm_code.specs.Operators.{told}
use Rattle.lib_defs.specs.Columns.{is_null}
use Rattle.lib_defs.specs.declared.value.Value.TheVariants.{Num, Ptr, Nothing}
use Rattle.c_types.specs.Compatible.{same_bool}
use Rattle.acc_num.specs.Operations.{is_zero, converted_to}
use Rattle.run_defs.specs.Evaluation.{Gives}
use Rattle.vm_code.specs.Slots.{Held}
use Rattle.code_gen.specs.Expressions.{Call, value_object, result_object, argument_object, call_value, value}
use Rattle.code_gen.specs.Expressions.{node_value}
use Rattle.code_gen.specs.Expressions.{values}
use Rattle.code_gen.proofs.KeptParts.{StepKeeps, PartKeeps, then_keeps, computed_keeps, told_keeps, moved_keeps}
use Rattle.code_gen.proofs.KeptParts.{found_keeps, loaded_keeps, designated_keeps, assigned_keeps, copied_keeps}
use Rattle.code_gen.proofs.KeptParts.{updated_keeps, one_keeps, two_keep, two_keep_if, then_right_keeps, test_keeps}
use Rattle.code_gen.proofs.KeptParts.{yields_keeps, truth_keeps}

module _ (e : Environment) (calls : List OpenCall) where
  -- what is asked of calls
  abbrev pub CallKeeps : Call → Type 0
  CallKeeps call = (type : CType) (p : Pointer) (args : List Arg) (result : Pointer) (here : Pos)
      → StepKeeps e calls (call type p args result here)

  -- ---- parts of a call

  object_keeps : (size : ℕ) → IsSize size → (made : List ℕ) → StepKeeps e calls (value_object size made)
  object_keeps size is made s a =
      then_keeps e calls _ _ (automatic_keeps e size s calls is.0 is.1 a) (λ place s1 a1. a1)

  result_keeps : (gives : Option Content) → IsGiven gives → (made : List ℕ)
      → StepKeeps e calls (result_object gives made)
  result_keeps None is made s a = a
  result_keeps (Some (content.Scalar scalar)) is made s a = a
  result_keeps (Some (content.Whole size)) is made s a = object_keeps size is made s a

  argument_keeps : (size : ℕ) → IsSize size → (from : Pointer) (here : Pos) (made : List ℕ)
      → StepKeeps e calls (argument_object size from here made)
  argument_keeps size is from here made s a = then_keeps e calls _ _ (object_keeps size is made s a) (λ x s1 a1.
      then_keeps e calls _ _ (copied_keeps e calls size (pointer_in x.value) from here s1 a1) (λ u s2 a2. a2))

  given_keeps : (used : Bool) (gives : Option Content) (result : Pointer) (given : Option Value) (here : Pos)
      → StepKeeps e calls (call_value used gives result given here)
  given_keeps used gives result (Some v) here s a = a
  given_keeps true gives result None here s a = undefined_closes e s calls U04 here a
  given_keeps false gives result None here s a = a

module _ (e : Environment) (calls : List OpenCall) (program : Program) (call : Call) (kept : CallKeeps e calls call)
    (held : List Held) where
  mutual
    pub value_keeps : (names : Names) (core : Core) → CoreTyped names core
        → PartKeeps e calls (value program call held core)
    value_keeps names (Node-at of here node) t = node_keeps names here node t.1

    node_keeps : (names : Names) (here : Pos) (node : Node) → NodeTyped names node
        → PartKeeps e calls (node_value program call held here node)
    node_keeps names here (tree.Number kind n) t = λ made s a. a
    node_keeps names here tree.Null t = λ made s a. a
    node_keeps names here (tree.Object name) t = λ made s a. a
    node_keeps names here (tree.Function name) t = λ made s a. a
    node_keeps names here (tree.AddressOf place) t = value_keeps names place t.1
    node_keeps names here (tree.Retype pointer) t = value_keeps names pointer t.1
    node_keeps names here (tree.Reach by size align pointer) t =
        one_keeps e calls _ _ (value_keeps names pointer t.4)
        (λ p. designated_keeps e calls by size align (pointer_in p) here)
    node_keeps names here (tree.Member at place) t =
        one_keeps e calls _ (λ p. Gives (Ptr (member_place at (pointer_in p))))
        (value_keeps names place t.2) (λ p s a. a)
    node_keeps names here (tree.Load scalar place) t =
        one_keeps e calls _ _ (value_keeps names place t.1) (λ p. loaded_keeps e calls scalar (pointer_in p) here)
    node_keeps names here (tree.Narrow size place) t =
        one_keeps e calls _ (λ p. Gives (Ptr (array_pointer size (pointer_in p))))
        (value_keeps names place t.2) (λ p s a. a)
    node_keeps names here (tree.Convert kind operand) t =
        one_keeps e calls _ (λ a. Gives (Num (converted_to kind (number_in a))))
        (value_keeps names operand t.1) (λ p s a. a)
    node_keeps names here (tree.NotNull pointer) t =
        one_keeps e calls _ (λ p. Gives (told (not (is_null (pointer_in p)))))
        (value_keeps names pointer t.1) (λ p s a. a)
    node_keeps names here (tree.IsNull pointer) t =
        one_keeps e calls _ (λ p. Gives (told (is_null (pointer_in p))))
        (value_keeps names pointer t.1) (λ p s a. a)
    node_keeps names here (tree.Discard operand) t =
        one_keeps e calls _ (λ a. Gives Nothing)
        (value_keeps names operand t.1) (λ p s a. a)
    node_keeps names here (tree.Negate kind operand) t =
        one_keeps e calls _ _ (value_keeps names operand t.1)
        (λ p. computed_keeps e calls (negation kind (number_in p)) here)
    node_keeps names here (tree.Flip kind operand) t =
        one_keeps e calls _ (λ a. Gives (Num (complement kind (number_in a))))
        (value_keeps names operand t.1) (λ p s a. a)
    node_keeps names here (tree.Not operand) t =
        one_keeps e calls _ (λ a. Gives (told (is_zero (number_in a))))
        (value_keeps names operand t.1) (λ p s a. a)
    node_keeps names here (tree.Arithmetic operator kind left right) t =
        two_keep e calls _ _ _ (value_keeps names left t.1) (value_keeps names right t.3)
        (λ v w. computed_keeps e calls (operator_outcome operator kind (number_in v) (number_in w)) here)
    node_keeps names here (tree.Compare comparison left right) t =
        two_keep e calls _ _ (λ a b. Gives (told (compares comparison (number_in a) (number_in b))))
        (value_keeps names left t.1) (value_keeps names right t.3)
        (λ v w s a. a)
    node_keeps names here (tree.Same equal left right) t =
        two_keep e calls _ _ (λ p q. Gives (told (same_bool equal (same_pointer (pointer_in p) (pointer_in q)))))
        (value_keeps names left t.1) (value_keeps names right t.3)
        (λ v w s a. a)
    node_keeps names here (tree.Order relation left right) t =
        two_keep e calls _ _ _ (value_keeps names left t.1) (value_keeps names right t.3)
        (λ v w. told_keeps e calls (ordered relation (pointer_in v) (pointer_in w)) here)
    node_keeps names here (tree.Difference size left right) t =
        two_keep e calls _ _ _ (value_keeps names left t.2) (value_keeps names right t.4)
        (λ v w. λ s a. then_keeps e calls _ _
        (found_keeps e calls (difference size (pointer_in v) (pointer_in w)) here s a)
        (λ n s1 a1. a1))
    node_keeps names here (tree.Assign scalar place operand) t =
        two_keep e calls _ _ _ (value_keeps names place t.1) (value_keeps names operand t.3)
        (λ v w. assigned_keeps e calls scalar (pointer_in v) w here)
    node_keeps names here (tree.AssignWhole size place operand) t =
        two_keep e calls _ _ _ (value_keeps names place t.2) (value_keeps names operand t.4)
        (λ v w. λ s a. then_keeps e calls _ _ (copied_keeps e calls size (pointer_in v) (pointer_in w) here s a)
        (λ u s1 a1. a1))
    node_keeps names here (tree.Update change place number) t =
        two_keep e calls _ _ _ (value_keeps names place t.1) (value_keeps names number t.3)
        (λ v w. λ s a. then_keeps e calls _ _ (updated_keeps e calls change (pointer_in v) (number_in w) here s a)
        (λ contents s1 a1. a1))
    node_keeps names here (tree.Step stride number_first pointer number) t = two_keep_if e calls number_first _ _ _
        (value_keeps names pointer t.2) (value_keeps names number t.4)
        (λ v w. moved_keeps e calls (moved stride (pointer_in v) (number_in w)) here)
    node_keeps names here (tree.AndAlso left right) t = test_keeps e calls _ _ _ (value_keeps names left t.1)
        (truth_keeps e calls _ (value_keeps names right t.3)) (yields_keeps e calls (told false))
    node_keeps names here (tree.OrElse left right) t = test_keeps e calls _ _ _ (value_keeps names left t.1)
        (yields_keeps e calls (told true)) (truth_keeps e calls _ (value_keeps names right t.3))
    node_keeps names here (tree.Cond test first second) t = test_keeps e calls _ _ _ (value_keeps names test t.1)
        (value_keeps names first t.2) (value_keeps names second t.4)
    node_keeps names here (tree.Comma left right) t =
        then_right_keeps e calls _ _ (value_keeps names left t.1) (value_keeps names right t.2)
    node_keeps names here (tree.Postfix change place) t = one_keeps e calls _ _ (value_keeps names place t.2)
        (λ p s a. then_keeps e calls _ _ (updated_keeps e calls change (pointer_in p) (pos 1) here s a)
        (λ contents s1 a1. a1))
    node_keeps names here (tree.Call used gives function operands) t = λ made s a.
        then_keeps e calls _ _ (value_keeps names function t.1 made s a) (λ f s1 a1.
        then_keeps e calls _ _ (values_keep names operands t.2 f.made s1 a1) (λ args s2 a2.
        then_keeps e calls _ _ (result_keeps e calls gives t.4 args.made s2 a2) (λ x s3 a3.
        then_keeps e calls _ _ (kept _ _ _ _ here s3 a3) (λ given s4 a4.
        then_keeps e calls _ _ (given_keeps e calls used gives _ given here s4 a4) (λ v s5 a5. a5)))))
    node_keeps names here (tree.ValueObject size operand) t = λ made s a.
        then_keeps e calls _ _ (value_keeps names operand t.2 made s a) (λ x s1 a1.
        argument_keeps e calls size t.0 (pointer_in x.value) here x.made s1 a1)

    values_keep : (names : Names) (operands : Cores) → CoresTyped names operands → (made : List ℕ)
        → StepKeeps e calls (values program call held operands made)
    values_keep names NoCore t made s a = a
    values_keep names (MoreCores first rest) t made s a =
        then_keeps e calls _ _ (value_keeps names first t.0 made s a) (λ x s1 a1.
        then_keeps e calls _ _ (values_keep names rest t.1 x.made s1 a1) (λ more s2 a2. a2))
