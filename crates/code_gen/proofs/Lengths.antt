-- The code of each expression and statement has as many instructions as its size says.
use Rattle.std.proofs.Common.{◌≡◌, ℕ, suc, ◌+◌, Bool, true, false, List, [], ◌∷◌, ◌++◌, length, refl, ap, arith}
use Rattle.std.proofs.lemmas.List.{length-append}
use Rattle.std.specs.Prelude.{Option, Some, None}
use Rattle.critical_table.specs.declared.pos.Pos.{Pos}
use Rattle.c_core.specs.declared.form.Content.{Content}
use Rattle.c_core.specs.declared.form.Content.TheVariants as content
use Rattle.c_core.specs.declared.operator.Change.{Change}
use Rattle.c_core.specs.declared.operator.Change.TheVariants as change
use Rattle.c_core.specs.Tree.{Core, At, Node, Cores, NoCore, MoreCores}
use Rattle.c_core.specs.Tree as tree
use Rattle.c_core.specs.TreeUnit.{Program}
use Rattle.vm_code.specs.declared.instr.Instr.{Instr}
use Rattle.vm_code.specs.declared.instr.Instr.TheVariants as i
use Rattle.code_gen.specs.CalledTypes.{Through, through, type_number}
use Rattle.code_gen.specs.ExpressionCode.{on, code_at, code_of, codes_at, size_in, size_of, size_among, same_code}
use Rattle.code_gen.specs.ExpressionCode.{same_size, update_code, update_size, postfix_code, postfix_size, result_code}
use Rattle.code_gen.specs.ExpressionCode.{result_size, used_code, used_size, objects_in, objects_among, truth_code}
use Rattle.code_gen.specs.ExpressionCode.{false_code, true_code, count_among}
use Rattle.code_gen.specs.Updates.{kind_of_reach}

pub on_long : (here : Pos) (instrs : List Instr) → length (on here instrs) ≡ length instrs
on_long here [] = refl
on_long here (instr ∷ rest) = ap suc (on_long here rest)

-- ---- stretches of known lengths behind one another

module _ (here : Pos) (instrs : List Instr) where
  pub one_long : (a : List (Instr × Pos)) (m n : ℕ) → length a ≡ m → length instrs ≡ n
      → length (a ++ on here instrs) ≡ m + n
  one_long a m n ea ei = omega (arith, length-append a (on here instrs), on_long here instrs, ea, ei)

  pub two_long : (a b : List (Instr × Pos)) (m n k : ℕ) → length a ≡ m → length b ≡ n → length instrs ≡ k
      → length (a ++ b ++ on here instrs) ≡ m + (n + k)
  two_long a b m n k ea eb ei =
      omega (arith, length-append (a ++ b) (on here instrs), length-append a b, on_long here instrs, ea, eb, ei)

pub split_long : (here : Pos) (a : List (Instr × Pos)) (is : List Instr) (b : List (Instr × Pos)) (js : List Instr)
    (m k n l : ℕ) → length a ≡ m → length is ≡ k → length b ≡ n → length js ≡ l
    → length (a ++ on here is ++ b ++ on here js) ≡ m + (k + (n + l))
split_long here a is b js m k n l ea ei eb ej = omega (
  arith,
  two_long here js (a ++ on here is) b (m + k) n l
      (one_long here is a m k ea ei) eb ej,
)

pub both_long : (a b : List (Instr × Pos)) (m n : ℕ) → length a ≡ m → length b ≡ n → length (a ++ b) ≡ m + n
both_long a b m n ea eb = omega (arith, length-append a b, ea, eb)

same_long : (equal : Bool) → length (same_code equal) ≡ same_size equal
same_long true = refl
same_long false = refl

update_long : (change : Change) → length (update_code change) ≡ update_size change
update_long (change.Number operator held at) = refl
update_long (change.Pointer stride) = refl

postfix_long : (change : Change) → length (postfix_code change) ≡ postfix_size change
postfix_long (change.Number operator held at) = refl
postfix_long (change.Pointer stride) = refl

used_long : (used : Bool) → length (used_code used) ≡ used_size used
used_long true = refl
used_long false = refl

pub result_long : (gives : Option Content) (slot : ℕ) → length (result_code gives slot) ≡ result_size gives
result_long None slot = refl
result_long (Some (content.Scalar scalar)) slot = refl
result_long (Some (content.Whole size)) slot = refl

call_long : (used : Bool) (gives : Option Content) (slot : ℕ) (call : Instr)
    → length (result_code gives slot ++ call ∷ used_code used) ≡ result_size gives + (used_size used + 1)
call_long used gives slot call =
    omega (
      arith,
      length-append (result_code gives slot) (call ∷ used_code used),
      result_long gives slot,
      used_long used,
    )

module _ (program : Program) (table : List Through) where
  mutual
    pub code_long : (at slot : ℕ) (core : Core) → length (code_at program table at slot core) ≡ size_in core
    code_long at slot (At of here node) = node_long at slot here node

    node_long : (at slot : ℕ) (here : Pos) (node : Node)
        → length (code_of program table at slot here node) ≡ size_of node
    node_long at slot here (tree.Number kind value) = refl
    node_long at slot here tree.Null = refl
    node_long at slot here (tree.Object name) = refl
    node_long at slot here (tree.Function name) = refl
    node_long at slot here (tree.AddressOf place) = code_long at slot place
    node_long at slot here (tree.Retype pointer) = code_long at slot pointer
    node_long at slot here (tree.Reach by size align pointer) =
        one_long here (i.Reach size align (kind_of_reach by) ∷ []) _ _ 1 (code_long at slot pointer) refl
    node_long at slot here (tree.Member byte place) =
        one_long here (i.Member byte ∷ []) _ _ 1 (code_long at slot place) refl
    node_long at slot here (tree.Load scalar place) =
        one_long here (i.Load scalar ∷ []) _ _ 1 (code_long at slot place) refl
    node_long at slot here (tree.Narrow size place) =
        one_long here (i.Narrow size ∷ []) _ _ 1 (code_long at slot place) refl
    node_long at slot here (tree.Convert kind value) =
        one_long here (i.Convert kind ∷ []) _ _ 1 (code_long at slot value) refl
    node_long at slot here (tree.NotNull pointer) =
        one_long here (i.IsNull ∷ i.Not ∷ []) _ _ 2 (code_long at slot pointer) refl
    node_long at slot here (tree.IsNull pointer) =
        one_long here (i.IsNull ∷ []) _ _ 1 (code_long at slot pointer) refl
    node_long at slot here (tree.Discard value) = one_long here (i.Drop ∷ []) _ _ 1 (code_long at slot value) refl
    node_long at slot here (tree.Negate kind value) =
        one_long here (i.Negate kind ∷ []) _ _ 1 (code_long at slot value) refl
    node_long at slot here (tree.Flip kind value) =
        one_long here (i.Flip kind ∷ []) _ _ 1 (code_long at slot value) refl
    node_long at slot here (tree.Not value) = one_long here (i.Not ∷ []) _ _ 1 (code_long at slot value) refl
    node_long at slot here (tree.Arithmetic operator kind left right) =
        two_long here (i.Binary operator kind ∷ []) _ _ _ _ 1 (code_long at slot left)
        (code_long _ _ right) refl
    node_long at slot here (tree.Compare comparison left right) =
        two_long here (i.Compare comparison ∷ []) _ _ _ _ 1 (code_long at slot left)
        (code_long _ _ right) refl
    node_long at slot here (tree.Same equal left right) =
        two_long here (same_code equal) _ _ _ _ (same_size equal) (code_long at slot left)
        (code_long _ _ right) (same_long equal)
    node_long at slot here (tree.Order relation left right) =
        two_long here (i.Order relation ∷ []) _ _ _ _ 1 (code_long at slot left)
        (code_long _ _ right) refl
    node_long at slot here (tree.Step stride false pointer number) =
        two_long here (i.Step stride ∷ []) _ _ _ _ 1 (code_long at slot pointer)
        (code_long _ _ number) refl
    node_long at slot here (tree.Difference size left right) =
        two_long here (i.Difference size ∷ []) _ _ _ _ 1 (code_long at slot left)
        (code_long _ _ right) refl
    node_long at slot here (tree.Assign scalar place value) =
        two_long here (i.Store scalar ∷ []) _ _ _ _ 1 (code_long at slot place)
        (code_long _ _ value) refl
    node_long at slot here (tree.AssignWhole size place value) =
        two_long here (i.Copy size ∷ []) _ _ _ _ 1 (code_long at slot place)
        (code_long _ _ value) refl
    node_long at slot here (tree.Update change place number) =
        two_long here (update_code change) _ _ _ _ (update_size change) (code_long at slot place)
        (code_long _ _ number) (update_long change)
    node_long at slot here (tree.Postfix change place) =
        one_long here (postfix_code change) _ _ (postfix_size change) (code_long at slot place) (postfix_long change)
    node_long at slot here (tree.Comma left right) =
        both_long _ _ _ _ (code_long at slot left) (code_long _ _ right)
    node_long at slot here (tree.ValueObject size value) = one_long here
        (i.Make (slot + objects_in value) size ∷ i.Slot (slot + objects_in value) ∷ i.Swap ∷ i.Copy size ∷ []) _ _ 4
        (code_long at slot value) refl
    node_long at slot here (tree.Step stride true pointer number) =
        let h : length (code_of program table at slot here (tree.Step stride true pointer number))
        ≡ size_in number + (size_in pointer + 2) = two_long here (i.Swap ∷ i.Step stride ∷ []) _ _ _ _ 2
        (code_long at slot number)
        (code_long _ _ pointer) refl in
        omega (arith, h)
    node_long at slot here (tree.AndAlso left right) =
        let h : length (code_of program table at slot here (tree.AndAlso left right))
        ≡ size_in left + (1 + (size_in right + 4)) = split_long here _
        (i.IfZero (at + (size_in left + (size_in right + 4))) ∷ []) _
        (truth_code ++ i.Jump (at + (size_in left + (size_in right + 5))) ∷ false_code ∷ [])
        _ 1 _ 4 (code_long at slot left) refl
        (code_long _ _ right) refl in
        omega (arith, h)
    node_long at slot here (tree.OrElse left right) =
        let h : length (code_of program table at slot here (tree.OrElse left right))
        ≡ size_in left + (3 + (size_in right + 2)) = split_long here _
        (i.IfZero (at + (size_in left + 3)) ∷ true_code ∷ i.Jump (at + (size_in left + (size_in right + 5))) ∷ []) _
        truth_code _ 3 _ 2 (code_long at slot left) refl
        (code_long _ _ right) refl in
        omega (arith, h)
    node_long at slot here (tree.Cond test first second) =
        let h : length (code_of program table at slot here (tree.Cond test first second))
        ≡ size_in test + (1 + (size_in first + 1)) + size_in second = both_long _ _ _ _
        (split_long here _ (i.IfZero (at + (size_in test + (size_in first + 2))) ∷ []) _
        (i.Jump (at + (size_in test + (size_in first + (size_in second + 2)))) ∷ []) _ 1 _ 1
        (code_long at slot test) refl (code_long _ _ first) refl)
        (code_long _ _ second) in
        omega (arith, h)
    node_long at slot here (tree.Call used gives function operands) =
        two_long here
        (result_code gives (slot + (objects_in function + objects_among operands))
        ++ i.Call (count_among operands) (type_number table (through function operands)) ∷ used_code used)
        _ _ _ _ _ (code_long at slot function) (codes_long _ _ operands) (call_long used gives _ _)

    pub codes_long : (at slot : ℕ) (operands : Cores)
        → length (codes_at program table at slot operands) ≡ size_among operands
    codes_long at slot NoCore = refl
    codes_long at slot (MoreCores first rest) = both_long _ _ _ _ (code_long at slot first) (codes_long _ _ rest)
