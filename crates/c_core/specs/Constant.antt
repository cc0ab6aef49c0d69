-- Integer constant expressions (6.6): which expressions are, and the value of each.
use Rattle.std.specs.Prelude.{Bool, true, false, not, ◌&&◌, ℤ, pos, Result, Ok, Err, if◌then◌else◌}
use Rattle.acc_num.specs.declared.kind.IntKind.{IntKind}
use Rattle.acc_num.specs.declared.fault.NumFault.{NumFault}
use Rattle.acc_num.specs.Operations.{converted_to, is_zero}
use Rattle.c_core.specs.declared.operator.Operator.{Operator}
use Rattle.c_core.specs.declared.fault.ConstFault.{ConstFault}
use Rattle.c_core.specs.declared.fault.ConstFault.TheVariants.{NotConstant, Value}
use Rattle.c_core.specs.Tree.{Core, At, Node}
use Rattle.c_core.specs.Tree as tree
use Rattle.c_core.specs.Operations.{operator_outcome, negation, complement, compares, truth, is_shift}

-- An integer constant expression is made of numbers by conversions to integers, `+ - ~ !`, the operators on two
-- numbers, `&&`, `||` and the conditional, whose operands are such expressions, evaluated or not (6.6p3, p6).
abbrev mutual
  pub is_constant : Core → Bool
  is_constant (At of place node) = is_constant_node node

  pub is_constant_node : Node → Bool
  is_constant_node (tree.Number kind value) = true
  is_constant_node (tree.Convert kind value) = is_constant value
  is_constant_node (tree.Negate kind value) = is_constant value
  is_constant_node (tree.Flip kind value) = is_constant value
  is_constant_node (tree.Not value) = is_constant value
  is_constant_node (tree.Arithmetic operator kind left right) = is_constant left && is_constant right
  is_constant_node (tree.Compare comparison left right) = is_constant left && is_constant right
  is_constant_node (tree.AndAlso left right) = is_constant left && is_constant right
  is_constant_node (tree.OrElse left right) = is_constant left && is_constant right
  is_constant_node (tree.Cond test first second) = is_constant test && is_constant first && is_constant second
  is_constant_node other = false

-- what is made of a value, where there is one
abbrev pub and_then : Result ℤ NumFault → (ℤ → Result ℤ NumFault) → Result ℤ NumFault
and_then (Ok value) go = go value
and_then (Err fault) go = Err fault

-- 1 for a value that is not 0
abbrev pub truth_of : Result ℤ NumFault → Result ℤ NumFault
truth_of outcome = and_then outcome (λ a. Ok (truth (not (is_zero a))))

-- The outcome of an operator on two numbers, each taken in the kind of the operation, but for the count of a shift. In
-- a well-typed tree they are of that kind (6.3.1.8, 6.5.7p3).
abbrev pub outcome_in : Operator → IntKind → ℤ → ℤ → Result ℤ NumFault
outcome_in operator kind a b =
    operator_outcome operator kind (converted_to kind a) (if is_shift operator then b else converted_to kind b)

-- The value, or why an operation in an evaluated part has none. The right part of `&&` and `||` that the left decides
-- is not evaluated (6.5.13p4, 6.5.14p4), nor is the part of a conditional that is not chosen (6.5.15p4).
abbrev mutual
  pub constant_value : Core → Result ℤ NumFault
  constant_value (At of place node) = node_value node

  pub node_value : Node → Result ℤ NumFault
  node_value (tree.Number kind value) = Ok value
  node_value (tree.Convert kind value) = and_then (constant_value value) (λ a. Ok (converted_to kind a))
  node_value (tree.Negate kind value) = and_then (constant_value value) (λ a. negation kind (converted_to kind a))
  node_value (tree.Flip kind value) = and_then (constant_value value) (λ a. Ok (complement kind a))
  node_value (tree.Not value) = and_then (constant_value value) (λ a. Ok (truth (is_zero a)))
  node_value (tree.Arithmetic operator kind left right) =
      and_then (constant_value left) (λ a. and_then (constant_value right) (λ b. outcome_in operator kind a b))
  node_value (tree.Compare comparison left right) =
      and_then (constant_value left) (λ a. and_then (constant_value right) (λ b. Ok (truth (compares comparison a b))))
  node_value (tree.AndAlso left right) =
      and_then (constant_value left) (λ a. if is_zero a then Ok (pos 0) else truth_of (constant_value right))
  node_value (tree.OrElse left right) =
      and_then (constant_value left) (λ a. if is_zero a then truth_of (constant_value right) else Ok (pos 1))
  node_value (tree.Cond test first second) =
      and_then (constant_value test) (λ a. if is_zero a then constant_value second else constant_value first)
  node_value other = Ok (pos 0)

abbrev pub or_undefined : Result ℤ NumFault → Result ℤ ConstFault
or_undefined (Ok value) = Ok value
or_undefined (Err fault) = Err Value

-- what `constant` answers
abbrev pub constant_of : Core → Result ℤ ConstFault
constant_of core = if is_constant core then or_undefined (constant_value core) else Err NotConstant
