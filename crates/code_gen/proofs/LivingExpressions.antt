-- Each expression leaves the objects that it made on top of those that lived, where calls leave these as they are.
use Rattle.std.proofs.Common.{ℕ, Bool, true, false, List, [], ◌∷◌, refl, Option, Some, None}
use Rattle.std.specs.Prelude.{pos, not}
use Rattle.critical_table.specs.declared.pos.Pos.{Pos}
use Rattle.object_store.specs.declared.pointer.Pointer.{Pointer}
use Rattle.c_types.specs.CType.{CType}
use Rattle.lib_defs.specs.declared.value.Arg.{Arg}
use Rattle.lib_defs.specs.declared.value.Value.{Value}
use Rattle.lib_defs.specs.declared.value.Value.TheVariants.{Num, Ptr, Nothing}
use Rattle.lib_defs.specs.Columns.{is_null}
use Rattle.lib_defs.specs.Laws.{IsWorld}
use Rattle.run_defs.specs.State.{State}
use Rattle.run_defs.specs.Evaluation.{Gives, automatic_made}
use Rattle.c_core.specs.declared.form.Content.{Content}
use Rattle.c_core.specs.declared.form.Content.TheVariants as content
use Rattle.c_core.specs.Tree.{Core, At as Node-at, Node, Cores, NoCore, MoreCores}
use Rattle.c_core.specs.Tree as tree
use Rattle.c_core.specs.TreeUnit.{Program}
use Rattle.c_core.specs.Operations.{operator_outcome, negation, complement, compares}
use Rattle.c_core.specs.Types.{IsSize, IsGiven}
use Rattle.c_core.specs.Named.{Names}
use Rattle.c_core.specs.Typed.{CoreTyped, NodeTyped, CoresTyped}
use Rattle.c_types.specs.Compatible.{same_bool}
use Rattle.acc_num.specs.Operations.{is_zero, converted_to}
use Rattle.vm_code.specs.Accesses.{number_in, pointer_in}
use Rattle.vm_code.specs.Pointers.{moved, difference, ordered, same_pointer, member_place, array_pointer}
use Rattle.vm_code.specs.Operators.{told}
use Rattle.vm_code.specs.Slots.{Held}
use Rattle.code_gen.specs.Evaluating.{Yield}
use Rattle.code_gen.specs.Expressions.{Call, Yields, value_object, result_object, argument_object, call_value, value}
use Rattle.code_gen.specs.Expressions.{node_value, values}
use Rattle.code_gen.specs.Lifetimes.{OnGives, Grows}
use Rattle.code_gen.proofs.LivingSteps.{StepRests, IsMade, rests_here, rests_then, gives_then, automatic_lives}
use Rattle.code_gen.proofs.LivingParts.{computed_rests, told_rests, moved_rests, found_rests, loaded_rests}
use Rattle.code_gen.proofs.LivingParts.{designated_rests, assigned_rests, copied_rests, updated_rests, PartGrows}
use Rattle.code_gen.proofs.LivingParts.{grows_then, made_by, step_then, none_grows, one_grows, yields_grows}
use Rattle.code_gen.proofs.LivingParts.{truth_grows, two_grow, two_grow_if, then_right_grows, test_grows}

-- what is asked of calls
abbrev pub CallRests : Call → Type 0
CallRests call = (type : CType) (p : Pointer) (args : List Arg) (result : Pointer) (here : Pos)
    → StepRests (call type p args result here)

-- ---- parts of a call

abbrev made_of : Yields → List ℕ
made_of x = x.made

object_grows : (size : ℕ) → IsSize size → (made : List ℕ) (s : State) → IsWorld s.world
    → OnGives (λ (x : Yield) s1. Grows made x.made s s1) (value_object size made s)
object_grows size is made s w =
    gives_then (IsMade size s) (λ (x : Yield) s1. Grows made x.made s s1) (automatic_made size s) _
    (automatic_lives size s is.1 w) (λ place s1 m. record {
      new = record { number = place.object; size = size } ∷ [];
      world = m.world;
      on_top = m.on_top;
      numbers = refl;
    })

result_grows : (gives : Option Content) → IsGiven gives → (made : List ℕ) (s : State) → IsWorld s.world
    → OnGives (λ (x : Yield) s1. Grows made x.made s s1) (result_object gives made s)
result_grows None is made s w = none_grows made s w
result_grows (Some (content.Scalar scalar)) is made s w = none_grows made s w
result_grows (Some (content.Whole size)) is made s w = object_grows size is made s w

argument_grows : (size : ℕ) → IsSize size → (from : Pointer) (here : Pos) (made : List ℕ) (s : State)
    → IsWorld s.world → OnGives (λ (x : Yield) s1. Grows made x.made s s1) (argument_object size from here made s)
argument_grows size is from here made s w =
    grows_then made_by made_by made s _ _ (object_grows size is made s w) (λ x s1 w1.
    step_then made_by x.made s1 _ _ (copied_rests size (pointer_in x.value) from here s1 w1) (λ u s2 w2.
    none_grows x.made s2 w2))

given_rests : (used : Bool) (gives : Option Content) (result : Pointer) (given : Option Value) (here : Pos)
    → StepRests (call_value used gives result given here)
given_rests used gives result (Some v) here s w = rests_here s w
given_rests true gives result None here s w = tt
given_rests false gives result None here s w = rests_here s w

module _ (program : Program) (call : Call) (rests : CallRests call) (held : List Held) where
  mutual
    pub value_grows : (names : Names) (core : Core) → CoreTyped names core
        → PartGrows (value program call held core)
    value_grows names (Node-at of here node) t = node_grows names here node t.1

    node_grows : (names : Names) (here : Pos) (node : Node) → NodeTyped names node
        → PartGrows (node_value program call held here node)
    node_grows names here (tree.Number kind n) t = λ made s w. none_grows made s w
    node_grows names here tree.Null t = λ made s w. none_grows made s w
    node_grows names here (tree.Object name) t = λ made s w. none_grows made s w
    node_grows names here (tree.Function name) t = λ made s w. none_grows made s w
    node_grows names here (tree.AddressOf place) t = value_grows names place t.1
    node_grows names here (tree.Retype pointer) t = value_grows names pointer t.1
    node_grows names here (tree.Reach by size align pointer) t =
        one_grows _ _ (value_grows names pointer t.4)
        (λ p. designated_rests by size align (pointer_in p) here)
    node_grows names here (tree.Member at place) t =
        one_grows _ (λ p. Gives (Ptr (member_place at (pointer_in p))))
        (value_grows names place t.2) (λ p s w. rests_here s w)
    node_grows names here (tree.Load scalar place) t =
        one_grows _ _ (value_grows names place t.1) (λ p. loaded_rests scalar (pointer_in p) here)
    node_grows names here (tree.Narrow size place) t =
        one_grows _ (λ p. Gives (Ptr (array_pointer size (pointer_in p))))
        (value_grows names place t.2) (λ p s w. rests_here s w)
    node_grows names here (tree.Convert kind operand) t =
        one_grows _ (λ a. Gives (Num (converted_to kind (number_in a))))
        (value_grows names operand t.1) (λ p s w. rests_here s w)
    node_grows names here (tree.NotNull pointer) t =
        one_grows _ (λ p. Gives (told (not (is_null (pointer_in p)))))
        (value_grows names pointer t.1) (λ p s w. rests_here s w)
    node_grows names here (tree.IsNull pointer) t =
        one_grows _ (λ p. Gives (told (is_null (pointer_in p))))
        (value_grows names pointer t.1) (λ p s w. rests_here s w)
    node_grows names here (tree.Discard operand) t =
        one_grows _ (λ a. Gives Nothing)
        (value_grows names operand t.1) (λ p s w. rests_here s w)
    node_grows names here (tree.Negate kind operand) t =
        one_grows _ _ (value_grows names operand t.1)
        (λ p. computed_rests (negation kind (number_in p)) here)
    node_grows names here (tree.Flip kind operand) t =
        one_grows _ (λ a. Gives (Num (complement kind (number_in a))))
        (value_grows names operand t.1) (λ p s w. rests_here s w)
    node_grows names here (tree.Not operand) t =
        one_grows _ (λ a. Gives (told (is_zero (number_in a))))
        (value_grows names operand t.1) (λ p s w. rests_here s w)
    node_grows names here (tree.Arithmetic operator kind left right) t =
        two_grow _ _ _ (value_grows names left t.1) (value_grows names right t.3)
        (λ v w. computed_rests (operator_outcome operator kind (number_in v) (number_in w)) here)
    node_grows names here (tree.Compare comparison left right) t =
        two_grow _ _ (λ a b. Gives (told (compares comparison (number_in a) (number_in b))))
        (value_grows names left t.1) (value_grows names right t.3)
        (λ v w s i. rests_here s i)
    node_grows names here (tree.Same equal left right) t =
        two_grow _ _ (λ p q. Gives (told (same_bool equal (same_pointer (pointer_in p) (pointer_in q)))))
        (value_grows names left t.1) (value_grows names right t.3)
        (λ v w s i. rests_here s i)
    node_grows names here (tree.Order relation left right) t =
        two_grow _ _ _ (value_grows names left t.1) (value_grows names right t.3)
        (λ v w. told_rests (ordered relation (pointer_in v) (pointer_in w)) here)
    node_grows names here (tree.Difference size left right) t =
        two_grow _ _ _ (value_grows names left t.2) (value_grows names right t.4)
        (λ v w s i. rests_then s _ _ (found_rests (difference size (pointer_in v) (pointer_in w)) here s i)
        (λ n s1 i1. rests_here s1 i1))
    node_grows names here (tree.Assign scalar place operand) t =
        two_grow _ _ _ (value_grows names place t.1) (value_grows names operand t.3)
        (λ v w. assigned_rests scalar (pointer_in v) w here)
    node_grows names here (tree.AssignWhole size place operand) t =
        two_grow _ _ _ (value_grows names place t.2) (value_grows names operand t.4)
        (λ v w s i. rests_then s _ _ (copied_rests size (pointer_in v) (pointer_in w) here s i)
        (λ u s1 i1. rests_here s1 i1))
    node_grows names here (tree.Update change place number) t =
        two_grow _ _ _ (value_grows names place t.1) (value_grows names number t.3)
        (λ v w s i. rests_then s _ _ (updated_rests change (pointer_in v) (number_in w) here s i)
        (λ contents s1 i1. rests_here s1 i1))
    node_grows names here (tree.Step stride number_first pointer number) t = two_grow_if number_first _ _ _
        (value_grows names pointer t.2) (value_grows names number t.4)
        (λ v w. moved_rests (moved stride (pointer_in v) (number_in w)) here)
    node_grows names here (tree.AndAlso left right) t = test_grows _ _ _ (value_grows names left t.1)
        (truth_grows _ (value_grows names right t.3)) (yields_grows (told false))
    node_grows names here (tree.OrElse left right) t = test_grows _ _ _ (value_grows names left t.1)
        (yields_grows (told true)) (truth_grows _ (value_grows names right t.3))
    node_grows names here (tree.Cond test first second) t = test_grows _ _ _ (value_grows names test t.1)
        (value_grows names first t.2) (value_grows names second t.4)
    node_grows names here (tree.Comma left right) t =
        then_right_grows _ _ (value_grows names left t.1) (value_grows names right t.2)
    node_grows names here (tree.Postfix change place) t = one_grows _ _ (value_grows names place t.2)
        (λ p s i. rests_then s _ _ (updated_rests change (pointer_in p) (pos 1) here s i)
        (λ contents s1 i1. rests_here s1 i1))
    node_grows names here (tree.Call used gives function operands) t = λ made s w.
        grows_then made_by made_by made s _ _ (value_grows names function t.1 made s w) (λ f s1 w1.
        grows_then made_of made_by f.made s1 _ _ (values_grow names operands t.2 f.made s1 w1) (λ args s2 w2.
        grows_then made_by made_by args.made s2 _ _ (result_grows gives t.4 args.made s2 w2) (λ x s3 w3.
        step_then made_by x.made s3 _ _ (rests _ _ _ _ here s3 w3) (λ given s4 w4.
        step_then made_by x.made s4 _ _ (given_rests used gives _ given here s4 w4) (λ v s5 w5.
        none_grows x.made s5 w5)))))
    node_grows names here (tree.ValueObject size operand) t = λ made s w.
        grows_then made_by made_by made s _ _ (value_grows names operand t.2 made s w) (λ x s1 w1.
        argument_grows size t.0 (pointer_in x.value) here x.made s1 w1)

    values_grow : (names : Names) (operands : Cores) → CoresTyped names operands → (made : List ℕ) (s : State)
        → IsWorld s.world
        → OnGives (λ (x : Yields) s1. Grows made x.made s s1) (values program call held operands made s)
    values_grow names NoCore t made s w = none_grows made s w
    values_grow names (MoreCores first rest) t made s w =
        grows_then made_by made_of made s _ _ (value_grows names first t.0 made s w) (λ x s1 w1.
        grows_then made_of made_of x.made s1 _ _ (values_grow names rest t.1 x.made s1 w1) (λ more s2 w2.
        none_grows more.made s2 w2))
