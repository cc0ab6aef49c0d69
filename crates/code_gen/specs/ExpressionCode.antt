-- The code of an expression, one clause a node: how many instructions it has, and which they are.
use Rattle.std.specs.Prelude.{ℕ, ◌+◌, Bool, true, false, List, [], ◌∷◌, ◌++◌, Option, Some}
use Rattle.std.specs.Prelude as integer
use Rattle.acc_num.specs.declared.kind.IntKind.TheVariants.{I32}
use Rattle.acc_num.specs.Kinds.{bytes_of}
use Rattle.critical_table.specs.declared.pos.Pos.{Pos}
use Rattle.object_store.specs.declared.by.By.TheVariants.{Store}
use Rattle.lib_defs.specs.Reply.{null}
use Rattle.run_defs.specs.Loads.{pointer_size, pointer_align}
use Rattle.c_core.specs.declared.form.Scalar.TheVariants as scalar
use Rattle.c_core.specs.declared.form.Content.{Content}
use Rattle.c_core.specs.declared.form.Content.TheVariants as content
use Rattle.c_core.specs.declared.named.ObjectName.{ObjectName}
use Rattle.c_core.specs.declared.named.ObjectName.TheVariants as object
use Rattle.c_core.specs.declared.operator.Change.{Change}
use Rattle.c_core.specs.declared.operator.Change.TheVariants as change
use Rattle.c_core.specs.Tree.{Core, At, Node, Cores, NoCore, MoreCores}
use Rattle.c_core.specs.Tree as tree
use Rattle.c_core.specs.TreeUnit.{Program}
use Rattle.vm_code.specs.declared.instr.Instr.{Instr}
use Rattle.vm_code.specs.declared.instr.Instr.TheVariants as i
use Rattle.vm_code.specs.CodeFunctions.{function_pointer}
use Rattle.code_gen.specs.Designation.{static_place, function_number}
use Rattle.code_gen.specs.Updates.{kind_of_reach}
use Rattle.code_gen.specs.CalledTypes.{Through, through, type_number}

-- ---- how many value objects an expression may make; each has a slot of its own

abbrev pub result_objects : Option Content → ℕ
result_objects (Some (content.Whole size)) = 1
result_objects other = 0

abbrev mutual
  pub objects_in : Core → ℕ
  objects_in (At of here node) = objects_of node

  pub objects_of : Node → ℕ
  objects_of (tree.Number kind value) = 0
  objects_of tree.Null = 0
  objects_of (tree.Object name) = 0
  objects_of (tree.Function name) = 0
  objects_of (tree.Reach by size align pointer) = objects_in pointer
  objects_of (tree.Member at place) = objects_in place
  objects_of (tree.Load scalar place) = objects_in place
  objects_of (tree.Narrow size place) = objects_in place
  objects_of (tree.AddressOf place) = objects_in place
  objects_of (tree.Convert kind value) = objects_in value
  objects_of (tree.Retype pointer) = objects_in pointer
  objects_of (tree.NotNull pointer) = objects_in pointer
  objects_of (tree.IsNull pointer) = objects_in pointer
  objects_of (tree.Discard value) = objects_in value
  objects_of (tree.Negate kind value) = objects_in value
  objects_of (tree.Flip kind value) = objects_in value
  objects_of (tree.Not value) = objects_in value
  objects_of (tree.Arithmetic operator kind left right) = objects_in left + objects_in right
  objects_of (tree.Compare comparison left right) = objects_in left + objects_in right
  objects_of (tree.Same equal left right) = objects_in left + objects_in right
  objects_of (tree.Order relation left right) = objects_in left + objects_in right
  objects_of (tree.Step stride number_first pointer number) = objects_in pointer + objects_in number
  objects_of (tree.Difference size left right) = objects_in left + objects_in right
  objects_of (tree.AndAlso left right) = objects_in left + objects_in right
  objects_of (tree.OrElse left right) = objects_in left + objects_in right
  objects_of (tree.Cond test first second) = objects_in test + (objects_in first + objects_in second)
  objects_of (tree.Comma left right) = objects_in left + objects_in right
  objects_of (tree.Assign scalar place value) = objects_in place + objects_in value
  objects_of (tree.AssignWhole size place value) = objects_in place + objects_in value
  objects_of (tree.Update change place number) = objects_in place + objects_in number
  objects_of (tree.Postfix change place) = objects_in place
  objects_of (tree.Call used gives function operands) =
      objects_in function + (objects_among operands + result_objects gives)
  objects_of (tree.ValueObject size value) = objects_in value + 1

  pub objects_among : Cores → ℕ
  objects_among NoCore = 0
  objects_among (MoreCores first rest) = objects_in first + objects_among rest

-- ---- how many instructions an expression has

abbrev pub swap_size : (number_first : Bool) → ℕ
swap_size true = 1
swap_size false = 0

abbrev pub same_size : (equal : Bool) → ℕ
same_size true = 1
same_size false = 2

abbrev pub update_size : Change → ℕ
update_size (change.Number operator held at) = 8
update_size (change.Pointer stride) = 6

abbrev pub postfix_size : Change → ℕ
postfix_size (change.Number operator held at) = 11
postfix_size (change.Pointer stride) = 9

abbrev pub used_size : (used : Bool) → ℕ
used_size true = 1
used_size false = 0

abbrev pub result_size : Option Content → ℕ
result_size (Some (content.Whole size)) = 2
result_size other = 0

abbrev mutual
  pub size_in : Core → ℕ
  size_in (At of here node) = size_of node

  pub size_of : Node → ℕ
  size_of (tree.Number kind value) = 1
  size_of tree.Null = 1
  size_of (tree.Object name) = 1
  size_of (tree.Function name) = 1
  size_of (tree.Reach by size align pointer) = size_in pointer + 1
  size_of (tree.Member at place) = size_in place + 1
  size_of (tree.Load scalar place) = size_in place + 1
  size_of (tree.Narrow size place) = size_in place + 1
  size_of (tree.AddressOf place) = size_in place
  size_of (tree.Convert kind value) = size_in value + 1
  size_of (tree.Retype pointer) = size_in pointer
  size_of (tree.NotNull pointer) = size_in pointer + 2
  size_of (tree.IsNull pointer) = size_in pointer + 1
  size_of (tree.Discard value) = size_in value + 1
  size_of (tree.Negate kind value) = size_in value + 1
  size_of (tree.Flip kind value) = size_in value + 1
  size_of (tree.Not value) = size_in value + 1
  size_of (tree.Arithmetic operator kind left right) = size_in left + (size_in right + 1)
  size_of (tree.Compare comparison left right) = size_in left + (size_in right + 1)
  size_of (tree.Same equal left right) = size_in left + (size_in right + same_size equal)
  size_of (tree.Order relation left right) = size_in left + (size_in right + 1)
  size_of (tree.Step stride number_first pointer number) =
      size_in pointer + (size_in number + (swap_size number_first + 1))
  size_of (tree.Difference size left right) = size_in left + (size_in right + 1)
  size_of (tree.AndAlso left right) = size_in left + (size_in right + 5)
  size_of (tree.OrElse left right) = size_in left + (size_in right + 5)
  size_of (tree.Cond test first second) = size_in test + (size_in first + (size_in second + 2))
  size_of (tree.Comma left right) = size_in left + size_in right
  size_of (tree.Assign scalar place value) = size_in place + (size_in value + 1)
  size_of (tree.AssignWhole size place value) = size_in place + (size_in value + 1)
  size_of (tree.Update change place number) = size_in place + (size_in number + update_size change)
  size_of (tree.Postfix change place) = size_in place + postfix_size change
  size_of (tree.Call used gives function operands) =
      size_in function + (size_among operands + (result_size gives + (used_size used + 1)))
  size_of (tree.ValueObject size value) = size_in value + 4

  pub size_among : Cores → ℕ
  size_among NoCore = 0
  size_among (MoreCores first rest) = size_in first + size_among rest

-- ---- which instructions these are

-- instructions with one place in the unit
abbrev pub on : Pos → List Instr → List (Instr × Pos)
on here [] = []
on here (instr ∷ rest) = (instr, here) ∷ on here rest

abbrev pub count_among : Cores → ℕ
count_among NoCore = 0
count_among (MoreCores first rest) = count_among rest + 1

-- a number as a truth value
abbrev pub truth_code : List Instr
truth_code = i.Not ∷ i.Not ∷ []

abbrev pub false_code : Instr
false_code = i.Number I32 (integer.pos 0)

abbrev pub true_code : Instr
true_code = i.Number I32 (integer.pos 1)

abbrev pub same_code : (equal : Bool) → List Instr
same_code true = i.Same ∷ []
same_code false = i.Same ∷ i.Not ∷ []

-- Behind the place and the number: the place is reached to store and loaded, and what is made of both is stored.
abbrev pub update_code : Change → List Instr
update_code (change.Number operator held at) =
    i.Over ∷ i.Reach (bytes_of held) (bytes_of held) Store ∷ i.Load (scalar.Number held) ∷ i.Convert at
    ∷ i.Swap ∷ i.Binary operator at ∷ i.Convert held ∷ i.Store (scalar.Number held) ∷ []
update_code (change.Pointer stride) =
    i.Over ∷ i.Reach pointer_size pointer_align Store ∷ i.Load scalar.Pointer
    ∷ i.Swap ∷ i.Step stride ∷ i.Store scalar.Pointer ∷ []

-- Behind the place: the old content is left, and the new one stored.
abbrev pub postfix_code : Change → List Instr
postfix_code (change.Number operator held at) =
    i.Duplicate ∷ i.Reach (bytes_of held) (bytes_of held) Store ∷ i.Load (scalar.Number held) ∷ i.Swap ∷ i.Over
    ∷ i.Convert at ∷ i.Number at (integer.pos 1) ∷ i.Binary operator at ∷ i.Convert held
    ∷ i.Store (scalar.Number held) ∷ i.Drop ∷ []
postfix_code (change.Pointer stride) =
    i.Duplicate ∷ i.Reach pointer_size pointer_align Store ∷ i.Load scalar.Pointer ∷ i.Swap ∷ i.Over
    ∷ i.Number I32 (integer.pos 1) ∷ i.Step stride ∷ i.Store scalar.Pointer ∷ i.Drop ∷ []

-- the value object of a call that gives a structure
abbrev pub result_code : Option Content → ℕ → List Instr
result_code (Some (content.Whole size)) slot = i.Make slot size ∷ i.Slot slot ∷ []
result_code other slot = []

abbrev pub used_code : (used : Bool) → List Instr
used_code true = i.Used ∷ []
used_code false = []

module _ (program : Program) (table : List Through) where
  abbrev pub object_code : ObjectName → Instr
  object_code (object.Slot slot) = i.Slot slot
  object_code (object.Static token) = i.Pointer (static_place program.statics token)

  -- The code that stands at an instruction, with the slot for the next value object.
  abbrev mutual
    pub code_at : ℕ → ℕ → Core → List (Instr × Pos)
    code_at at slot (At of here node) = code_of at slot here node

    pub code_of : ℕ → ℕ → Pos → Node → List (Instr × Pos)
    code_of at slot here (tree.Number kind value) = on here (i.Number kind value ∷ [])
    code_of at slot here tree.Null = on here (i.Pointer null ∷ [])
    code_of at slot here (tree.Object name) = on here (object_code name ∷ [])
    code_of at slot here (tree.Function name) =
        on here (i.Pointer (function_pointer (function_number program.functions name)) ∷ [])
    code_of at slot here (tree.Reach by size align pointer) =
        code_at at slot pointer ++ on here (i.Reach size align (kind_of_reach by) ∷ [])
    code_of at slot here (tree.Member byte place) = code_at at slot place ++ on here (i.Member byte ∷ [])
    code_of at slot here (tree.Load scalar place) = code_at at slot place ++ on here (i.Load scalar ∷ [])
    code_of at slot here (tree.Narrow size place) = code_at at slot place ++ on here (i.Narrow size ∷ [])
    code_of at slot here (tree.AddressOf place) = code_at at slot place
    code_of at slot here (tree.Convert kind value) = code_at at slot value ++ on here (i.Convert kind ∷ [])
    code_of at slot here (tree.Retype pointer) = code_at at slot pointer
    code_of at slot here (tree.NotNull pointer) = code_at at slot pointer ++ on here (i.IsNull ∷ i.Not ∷ [])
    code_of at slot here (tree.IsNull pointer) = code_at at slot pointer ++ on here (i.IsNull ∷ [])
    code_of at slot here (tree.Discard value) = code_at at slot value ++ on here (i.Drop ∷ [])
    code_of at slot here (tree.Negate kind value) = code_at at slot value ++ on here (i.Negate kind ∷ [])
    code_of at slot here (tree.Flip kind value) = code_at at slot value ++ on here (i.Flip kind ∷ [])
    code_of at slot here (tree.Not value) = code_at at slot value ++ on here (i.Not ∷ [])
    code_of at slot here (tree.Arithmetic operator kind left right) = code_at at slot left
        ++ code_at (at + size_in left) (slot + objects_in left) right ++ on here (i.Binary operator kind ∷ [])
    code_of at slot here (tree.Compare comparison left right) = code_at at slot left
        ++ code_at (at + size_in left) (slot + objects_in left) right ++ on here (i.Compare comparison ∷ [])
    code_of at slot here (tree.Same equal left right) = code_at at slot left
        ++ code_at (at + size_in left) (slot + objects_in left) right ++ on here (same_code equal)
    code_of at slot here (tree.Order relation left right) = code_at at slot left
        ++ code_at (at + size_in left) (slot + objects_in left) right ++ on here (i.Order relation ∷ [])
    code_of at slot here (tree.Step stride false pointer number) = code_at at slot pointer
        ++ code_at (at + size_in pointer) (slot + objects_in pointer) number ++ on here (i.Step stride ∷ [])
    code_of at slot here (tree.Step stride true pointer number) = code_at at slot number
        ++ code_at (at + size_in number) (slot + objects_in number) pointer ++ on here (i.Swap ∷ i.Step stride ∷ [])
    code_of at slot here (tree.Difference size left right) = code_at at slot left
        ++ code_at (at + size_in left) (slot + objects_in left) right ++ on here (i.Difference size ∷ [])
    -- to the 0 at the end where the left operand is 0
    code_of at slot here (tree.AndAlso left right) = code_at at slot left
        ++ on here (i.IfZero (at + (size_in left + (size_in right + 4))) ∷ [])
        ++ code_at (at + (size_in left + 1)) (slot + objects_in left) right
        ++ on here (truth_code ++ i.Jump (at + (size_in left + (size_in right + 5))) ∷ false_code ∷ [])
    -- to the right operand where the left one is 0
    code_of at slot here (tree.OrElse left right) = code_at at slot left
        ++ on here (i.IfZero (at + (size_in left + 3)) ∷ true_code
        ∷ i.Jump (at + (size_in left + (size_in right + 5))) ∷ [])
        ++ code_at (at + (size_in left + 3)) (slot + objects_in left) right ++ on here truth_code
    code_of at slot here (tree.Cond test first second) = code_at at slot test
        ++ on here (i.IfZero (at + (size_in test + (size_in first + 2))) ∷ [])
        ++ code_at (at + (size_in test + 1)) (slot + objects_in test) first
        ++ on here (i.Jump (at + (size_in test + (size_in first + (size_in second + 2)))) ∷ [])
        ++ code_at (at + (size_in test + (size_in first + 2))) (slot + (objects_in test + objects_in first)) second
    code_of at slot here (tree.Comma left right) =
        code_at at slot left ++ code_at (at + size_in left) (slot + objects_in left) right
    code_of at slot here (tree.Assign scalar place value) = code_at at slot place
        ++ code_at (at + size_in place) (slot + objects_in place) value ++ on here (i.Store scalar ∷ [])
    code_of at slot here (tree.AssignWhole size place value) = code_at at slot place
        ++ code_at (at + size_in place) (slot + objects_in place) value ++ on here (i.Copy size ∷ [])
    code_of at slot here (tree.Update change place number) = code_at at slot place
        ++ code_at (at + size_in place) (slot + objects_in place) number ++ on here (update_code change)
    code_of at slot here (tree.Postfix change place) = code_at at slot place ++ on here (postfix_code change)
    code_of at slot here (tree.Call used gives function operands) = code_at at slot function
        ++ codes_at (at + size_in function) (slot + objects_in function) operands
        ++ on here (result_code gives (slot + (objects_in function + objects_among operands))
        ++ i.Call (count_among operands) (type_number table (through function operands)) ∷ used_code used)
    code_of at slot here (tree.ValueObject size value) = code_at at slot value
        ++ on here (i.Make (slot + objects_in value) size ∷ i.Slot (slot + objects_in value)
        ∷ i.Swap ∷ i.Copy size ∷ [])

    pub codes_at : ℕ → ℕ → Cores → List (Instr × Pos)
    codes_at at slot NoCore = []
    codes_at at slot (MoreCores first rest) =
        code_at at slot first ++ codes_at (at + size_in first) (slot + objects_in first) rest
