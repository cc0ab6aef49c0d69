-- How expressions are put together: what one yields, and operands from left to right.
use Rattle.std.specs.Prelude.{ℕ, Bool, true, false, List, []}
use Rattle.lib_defs.specs.declared.value.Value.{Value}
use Rattle.run_defs.specs.State.{State}
use Rattle.run_defs.specs.Evaluation.{Evaluation, Gives, bind}
use Rattle.vm_code.specs.Slots.{all_died}
use Rattle.vm_code.specs.Operators.{told, is_true}

-- What an expression yields: a value, and the value objects that its full expression has made so far, the last first.
pub record Yield : Type 0 where
  pub value : Value
  pub made : List ℕ

-- the evaluation of an expression, behind the parts of its full expression that have made these objects
abbrev pub Evaluates : Type 0
Evaluates = List ℕ → State → Evaluation Yield

-- nothing is evaluated
abbrev pub yields : Value → Evaluates
yields v made s = Gives (record { value = v; made = made }) s

-- an operand, and what the operator makes of it
abbrev pub of_one : Evaluates → (Value → State → Evaluation Value) → Evaluates
of_one operand apply made s = bind (operand made s) (λ x s1.
    bind (apply x.value s1) (λ v s2. Gives (record x { value = v }) s2))

-- the operands from left to right, and what the operator makes of them
abbrev pub of_two : (left right : Evaluates) → (Value → Value → State → Evaluation Value) → Evaluates
of_two left right apply made s = bind (left made s) (λ x s1. of_one right (apply x.value) x.made s1)

-- the same of a pointer and a number, of which either stands first
abbrev pub of_two_if : (number_first : Bool) → (pointer number : Evaluates) → (Value → Value → State → Evaluation Value)
    → Evaluates
of_two_if false pointer number apply = of_two pointer number apply
of_two_if true pointer number apply = of_two number pointer (λ n p. apply p n)

-- the left operand, and then the right one, whose value is that of both (6.5.17p2)
abbrev pub one_then : (left right : Evaluates) → Evaluates
one_then left right made s = bind (left made s) (λ x s1. right x.made s1)

-- one of two, by a truth value
abbrev pub one_of : Bool → (when_true when_false : Evaluates) → Evaluates
one_of true when_true when_false = when_true
one_of false when_true when_false = when_false

-- a test, and then one of two (6.5.15p4)
abbrev pub by_test : (test when_true when_false : Evaluates) → Evaluates
by_test test when_true when_false made s =
    bind (test made s) (λ x s1. one_of (is_true x.value) when_true when_false x.made s1)

-- a number as a truth value
abbrev pub as_truth : Evaluates → Evaluates
as_truth operand = of_one operand (λ v. Gives (told (is_true v)))

-- A full expression (6.8p4), and what is done with its value. Then the value objects that it has made die, the last
-- made first (6.2.4p8).
abbrev pub full : {A : Type 0} → Evaluates → (Value → State → Evaluation A) → State → Evaluation A
full expression use_value s = bind (expression [] s) (λ x s1.
    bind (use_value x.value s1) (λ a s2. Gives a (all_died x.made s2)))
