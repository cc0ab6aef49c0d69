-- Stacks of operands by number: equal stacks have one number.
use Rattle.std.specs.Prelude.{◌≡◌, ℕ, suc, ◌+◌, ◌*◌, ◌<◌, ◌≤◌, List, [], ◌∷◌, ◌++◌, length, get_or, slice_get, Option}
use Rattle.std.specs.Prelude.{Some, None}
use Rattle.std.specs.Option.{option_map_or}
use Rattle.acc_num.specs.declared.kind.IntKind.TheVariants as k
use Rattle.c_core.specs.declared.form.Scalar.{Scalar}
use Rattle.c_core.specs.declared.form.Scalar.TheVariants.{Number, Pointer}
use Rattle.operand_stacks.specs.declared.stacks.Node.{Node}
use Rattle.operand_stacks.specs.declared.stacks.Stacks.TheInside.{Inside}
use Rattle.vm_code.specs.OperandKinds.{Kinds}

-- the stack with a number
abbrev pub stack_at : List Kinds → ℕ → Kinds
stack_at stacks number = get_or stacks number []

-- kinds by number, below 10
abbrev pub kind_number : Scalar → ℕ
kind_number Pointer = 0
kind_number (Number k.Bool) = 1
kind_number (Number k.I8) = 2
kind_number (Number k.U8) = 3
kind_number (Number k.I16) = 4
kind_number (Number k.U16) = 5
kind_number (Number k.I32) = 6
kind_number (Number k.U32) = 7
kind_number (Number k.I64) = 8
kind_number (Number k.U64) = 9

-- the stack of a node, over stacks that come before it
abbrev pub stack_of : List Kinds → Option Node → Kinds
stack_of stacks None = []
stack_of stacks (Some node) = node.kind ∷ stack_at stacks node.below

-- the top of the stack with a number, where it has one
abbrev pub node_at : List (Option Node) → ℕ → Option Node
node_at nodes number = option_map_or (λ node. node) (slice_get nodes number) None

-- the stacks of nodes in order, behind others
abbrev pub stacks_behind : List Kinds → List (Option Node) → List Kinds
stacks_behind stacks [] = stacks
stacks_behind stacks (node ∷ nodes) = stacks_behind (stacks ++ stack_of stacks node ∷ []) nodes

abbrev pub stacks_of : Inside → List Kinds
stacks_of stacks = stacks_behind [] stacks.nodes.items

-- Number 0 is the empty stack and no other is. Each other one is a kind above a stack before it, and is found by these
-- two.
pub record AreStacks (nodes : List (Option Node)) (above : List ℕ) : Type 0 where
  pub first : slice_get nodes 0 ≡ Some None
  pub others : (number : ℕ) → slice_get nodes (suc number) ≡ Some None → ⊥
  pub before : (number : ℕ) (node : Node) → slice_get nodes number ≡ Some (Some node) → node.below < number
  pub long : 10 * length nodes ≤ length above
  pub noted : (number : ℕ) (node : Node) → slice_get nodes number ≡ Some (Some node)
      → slice_get above (10 * node.below + kind_number node.kind) ≡ Some number
  pub right : (below : ℕ) (kind : Scalar) (number : ℕ)
      → slice_get above (10 * below + kind_number kind) ≡ Some (suc number)
      → slice_get nodes (suc number) ≡ Some (Some (record { kind = kind; below = below }))

abbrev pub AreStacksInside : Inside → Type 0
AreStacksInside stacks = AreStacks stacks.nodes.items stacks.above.items

-- more stacks may stand behind those that were there
abbrev pub MoreStacks : List Kinds → List Kinds → Type 0
MoreStacks before after = (more : List Kinds) × (after ≡ before ++ more)
