-- What the evaluation of an expression does, one clause a node (6.5). Operands are evaluated from left to right.
use Rattle.std.specs.Prelude.{ℕ, Bool, true, false, not, List, [], ◌∷◌, pos, Option, Some, None}
use Rattle.acc_num.specs.Operations.{is_zero, converted_to}
use Rattle.critical_table.specs.declared.code.Code.TheVariants.{U04}
use Rattle.critical_table.specs.declared.pos.Pos.{Pos}
use Rattle.object_store.specs.declared.pointer.Pointer.{Pointer}
use Rattle.c_types.specs.CType.{CType}
use Rattle.c_types.specs.Compatible.{same_bool}
use Rattle.lib_defs.specs.declared.value.Arg.{Arg}
use Rattle.lib_defs.specs.declared.value.Value.{Value}
use Rattle.lib_defs.specs.declared.value.Value.TheVariants.{Num, Ptr, Nothing}
use Rattle.lib_defs.specs.Reply.{null}
use Rattle.lib_defs.specs.Columns.{is_null}
use Rattle.run_defs.specs.State.{State}
use Rattle.run_defs.specs.Evaluation.{Evaluation, Gives, bind, undefined, automatic_made}
use Rattle.run_defs.specs.Loads.{found}
use Rattle.c_core.specs.declared.form.Scalar.TheVariants as scalar
use Rattle.c_core.specs.declared.form.Content.{Content}
use Rattle.c_core.specs.declared.form.Content.TheVariants as content
use Rattle.c_core.specs.Tree.{Core, At, Node, Cores, NoCore, MoreCores, type_in}
use Rattle.c_core.specs.Tree as tree
use Rattle.c_core.specs.TreeUnit.{Program}
use Rattle.c_core.specs.Operations.{operator_outcome, negation, complement, compares}
use Rattle.vm_code.specs.Slots.{Held}
use Rattle.vm_code.specs.Pointers.{moved, difference, ordered, same_pointer, member_place, array_pointer}
use Rattle.vm_code.specs.CodeFunctions.{function_pointer}
use Rattle.code_gen.specs.Designation.{object_place, function_number}
use Rattle.vm_code.specs.Accesses.{number_in, pointer_in, loaded, copied}
use Rattle.vm_code.specs.Operators.{computed, told, told_if_found, pointer_moved, assigned}
use Rattle.code_gen.specs.Updates.{designated, updated}
use Rattle.code_gen.specs.Evaluating.{Yield, Evaluates, yields, of_one, of_two, of_two_if, one_then, by_test, as_truth}
use Rattle.code_gen.specs.Arguments.{arguments}

-- What a call does, once its function and its arguments are evaluated: through a pointer to a function of a type, with
-- the object that a structure is returned to and the place of the call. It gives a value, or none where the function
-- ended without one.
abbrev pub Call : Type 0
Call = CType → Pointer → List Arg → (result : Pointer) → Pos → State → Evaluation (Option Value)

-- ---- parts of a call (6.5.2.2)

-- what arguments yield
pub record Yields : Type 0 where
  pub values : List Value
  pub made : List ℕ

-- a value object, the last that was made
abbrev pub value_object : ℕ → List ℕ → State → Evaluation Yield
value_object size made s = bind (automatic_made size s) (λ place s1.
    Gives (record { value = Ptr place; made = place.object ∷ made }) s1)

-- the value object of a call that gives a structure (6.2.4p8)
abbrev pub result_object : Option Content → List ℕ → State → Evaluation Yield
result_object (Some (content.Whole size)) made s = value_object size made s
result_object other made s = Gives (record { value = Nothing; made = made }) s

-- a structure argument: a value object with its bytes
abbrev pub argument_object : ℕ → Pointer → Pos → List ℕ → State → Evaluation Yield
argument_object size from here made s = bind (value_object size made s) (λ x s1.
    bind (copied size (pointer_in x.value) from here s1) (λ u s2. Gives x s2))

-- a value that is not used, and so may be any
abbrev pub unused : Option Content → Pointer → Value
unused None result = Nothing
unused (Some (content.Scalar (scalar.Number kind))) result = Num (pos 0)
unused (Some (content.Scalar scalar.Pointer)) result = Ptr null
unused (Some (content.Whole size)) result = Ptr result

-- The value of a call. That of a function that ended without one is undefined where it is used (6.9.1p12).
abbrev pub call_value : (used : Bool) → Option Content → (result : Pointer) → Option Value → Pos → State
    → Evaluation Value
call_value used gives result (Some value) here s = Gives value s
call_value true gives result None here s = undefined U04 here s
call_value false gives result None here s = Gives (unused gives result) s

module _ (program : Program) (call : Call) (held : List Held) where
  abbrev mutual
    pub value : Core → Evaluates
    value (At of here node) = node_value here node

    pub node_value : Pos → Node → Evaluates
    node_value here (tree.Number kind n) = yields (Num n)
    node_value here tree.Null = yields (Ptr null)
    node_value here (tree.Object name) = yields (Ptr (object_place program.statics held name))
    node_value here (tree.Function name) = yields (Ptr (function_pointer (function_number program.functions name)))
    node_value here (tree.Reach by size align pointer) =
        of_one (value pointer) (λ p. designated by size align (pointer_in p) here)
    node_value here (tree.Member at place) = of_one (value place) (λ p. Gives (Ptr (member_place at (pointer_in p))))
    node_value here (tree.Load scalar place) = of_one (value place) (λ p. loaded scalar (pointer_in p) here)
    node_value here (tree.Narrow size place) =
        of_one (value place) (λ p. Gives (Ptr (array_pointer size (pointer_in p))))
    node_value here (tree.AddressOf place) = value place
    node_value here (tree.Convert kind operand) =
        of_one (value operand) (λ a. Gives (Num (converted_to kind (number_in a))))
    node_value here (tree.Retype pointer) = value pointer
    node_value here (tree.NotNull pointer) = of_one (value pointer) (λ p. Gives (told (not (is_null (pointer_in p)))))
    node_value here (tree.IsNull pointer) = of_one (value pointer) (λ p. Gives (told (is_null (pointer_in p))))
    node_value here (tree.Discard operand) = of_one (value operand) (λ a. Gives Nothing)
    node_value here (tree.Negate kind operand) =
        of_one (value operand) (λ a. computed (negation kind (number_in a)) here)
    node_value here (tree.Flip kind operand) =
        of_one (value operand) (λ a. Gives (Num (complement kind (number_in a))))
    node_value here (tree.Not operand) = of_one (value operand) (λ a. Gives (told (is_zero (number_in a))))
    node_value here (tree.Arithmetic operator kind left right) = of_two (value left) (value right)
        (λ a b. computed (operator_outcome operator kind (number_in a) (number_in b)) here)
    node_value here (tree.Compare comparison left right) = of_two (value left) (value right)
        (λ a b. Gives (told (compares comparison (number_in a) (number_in b))))
    node_value here (tree.Same equal left right) = of_two (value left) (value right)
        (λ p q. Gives (told (same_bool equal (same_pointer (pointer_in p) (pointer_in q)))))
    node_value here (tree.Order relation left right) = of_two (value left) (value right)
        (λ p q. told_if_found (ordered relation (pointer_in p) (pointer_in q)) here)
    node_value here (tree.Step stride number_first pointer number) =
        of_two_if number_first (value pointer) (value number)
        (λ p n. pointer_moved (moved stride (pointer_in p) (number_in n)) here)
    node_value here (tree.Difference size left right) = of_two (value left) (value right)
        (λ p q s. bind (found (difference size (pointer_in p) (pointer_in q)) here s) (λ n s1. Gives (Num n) s1))
    node_value here (tree.AndAlso left right) = by_test (value left) (as_truth (value right)) (yields (told false))
    node_value here (tree.OrElse left right) = by_test (value left) (yields (told true)) (as_truth (value right))
    node_value here (tree.Cond test first second) = by_test (value test) (value first) (value second)
    node_value here (tree.Comma left right) = one_then (value left) (value right)
    node_value here (tree.Assign scalar place operand) = of_two (value place) (value operand)
        (λ p a. assigned scalar (pointer_in p) a here)
    node_value here (tree.AssignWhole size place operand) = of_two (value place) (value operand)
        (λ p q s. bind (copied size (pointer_in p) (pointer_in q) here s) (λ u s1. Gives p s1))
    node_value here (tree.Update change place number) = of_two (value place) (value number)
        (λ p n s. bind (updated change (pointer_in p) (number_in n) here s) (λ contents s1. Gives contents.new s1))
    node_value here (tree.Postfix change place) = of_one (value place)
        (λ p s. bind (updated change (pointer_in p) (pos 1) here s) (λ contents s1. Gives contents.old s1))
    node_value here (tree.Call used gives function operands) = λ made s.
        bind (value function made s) (λ f s1.
        bind (values operands f.made s1) (λ args s2.
        bind (result_object gives args.made s2) (λ x s3.
        bind (call (type_in function) (pointer_in f.value) (arguments operands args.values) (pointer_in x.value)
        here s3) (λ given s4.
        bind (call_value used gives (pointer_in x.value) given here s4) (λ v s5.
        Gives (record x { value = v }) s5)))))
    node_value here (tree.ValueObject size operand) = λ made s.
        bind (value operand made s) (λ x s1. argument_object size (pointer_in x.value) here x.made s1)

    -- arguments, from left to right
    pub values : Cores → List ℕ → State → Evaluation Yields
    values NoCore made s = Gives (record { values = []; made = made }) s
    values (MoreCores first rest) made s = bind (value first made s) (λ x s1.
        bind (values rest x.made s1) (λ more s2. Gives (record more { values = x.value ∷ more.values }) s2))
