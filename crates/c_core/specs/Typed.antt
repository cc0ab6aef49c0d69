-- Well-typed core expressions: what each operand leaves, which numbers lie in range, which names stand for something.
use Rattle.std.specs.Prelude.{◌≡◌, ◌<◌, ◌≤◌, Bool, true, false, Option, Some, None}
use Rattle.acc_num.specs.Numbers.{InRange}
use Rattle.acc_num.specs.declared.kind.IntKind.{IntKind}
use Rattle.c_types.specs.CType.{CType, CTypes, Plain, Pointer, Nil, Cons}
use Rattle.c_types.specs.CType as type
use Rattle.c_types.specs.Layouts.{largest}
use Rattle.c_core.specs.declared.form.Form.{Form}
use Rattle.c_core.specs.declared.form.Form.TheVariants as form
use Rattle.c_core.specs.declared.form.Content.{Content}
use Rattle.c_core.specs.declared.operator.Operator.{Operator}
use Rattle.c_core.specs.declared.operator.Stride.{Stride}
use Rattle.c_core.specs.declared.operator.Change.{Change}
use Rattle.c_core.specs.declared.operator.Change.TheVariants as change
use Rattle.c_core.specs.Tree.{Core, At, Node, Cores, NoCore, MoreCores, type_in}
use Rattle.c_core.specs.Tree as tree
use Rattle.c_core.specs.Forms.{scalar_form, given_form, form_of, node_form}
use Rattle.c_core.specs.Operations.{is_shift}
use Rattle.c_core.specs.Types.{value_form, HasForm, IsNumber, IsScalar, IsLeft, IsSize, IsGiven}
use Rattle.c_core.specs.Named.{Names, NamesObject, NamesFunction}

abbrev pub IsCount : Bool → IntKind → Form → Type 0
IsCount true kind right = IsNumber right
IsCount false kind right = right ≡ form.Number kind

-- the right operand of an operation in a kind; the count of a shift may have any kind (6.5.7p3)
abbrev pub FitsRight : Operator → IntKind → Form → Type 0
FitsRight operator kind right = IsCount (is_shift operator) kind right

-- a pointer moves over elements that have a size
abbrev pub IsStride : Stride → Type 0
IsStride stride = IsSize stride.size

-- the number by which an object is changed
abbrev pub FitsChange : Change → Form → Type 0
FitsChange (change.Number operator held at) number = FitsRight operator at number
FitsChange (change.Pointer stride) number = IsStride stride × IsNumber number

-- an object may be changed by 1 so
abbrev pub IsStep : Change → Type 0
IsStep (change.Number operator held at) = Unit {0}
IsStep (change.Pointer stride) = IsStride stride

-- Each parameter is given a value as its type has them, and what goes beyond them is a number or a pointer (6.5.2.2p2).
abbrev pub ArePassed : CTypes → Bool → Cores → Type 0
ArePassed Nil variadic NoCore = Unit {0}
ArePassed Nil true (MoreCores first rest) = IsScalar (form_of first) × ArePassed Nil true rest
ArePassed Nil false (MoreCores first rest) = ⊥
ArePassed (Cons type types) variadic NoCore = ⊥
ArePassed (Cons type types) variadic (MoreCores first rest) =
    (value_form type ≡ Some (form_of first)) × IsLeft (form_of first) × ArePassed types variadic rest

-- The type is a pointer to a function that gives this and takes these arguments (6.5.2.2p1, p2).
abbrev pub IsCalled : CType → Option Content → Cores → Type 0
IsCalled (Plain (Pointer (Plain (type.Function result parameters variadic) quals)) quals2) gives arguments =
    (value_form result ≡ Some (given_form gives)) × ArePassed parameters variadic arguments
IsCalled other gives arguments = ⊥

-- what is used is a value
abbrev pub MayBeUsed : Bool → Option Content → Type 0
MayBeUsed true None = ⊥
MayBeUsed used gives = Unit {0}

abbrev mutual
  pub CoreTyped : Names → Core → Type 0
  CoreTyped names (At of pos node) = HasForm of (node_form node) × NodeTyped names node

  pub NodeTyped : Names → Node → Type 0
  NodeTyped names (tree.Number kind value) = InRange kind value
  NodeTyped names tree.Null = Unit {0}
  NodeTyped names (tree.Object name) = NamesObject names name
  NodeTyped names (tree.Function name) = NamesFunction names.functions name
  NodeTyped names (tree.Reach by size align pointer) =
      IsSize size × (0 < align) × (align ≤ 8) × (form_of pointer ≡ form.Pointer) × CoreTyped names pointer
  NodeTyped names (tree.Member at place) = (at < largest) × (form_of place ≡ form.Place) × CoreTyped names place
  NodeTyped names (tree.Load scalar place) = (form_of place ≡ form.Place) × CoreTyped names place
  NodeTyped names (tree.Narrow size place) = IsSize size × (form_of place ≡ form.Place) × CoreTyped names place
  NodeTyped names (tree.AddressOf place) = (form_of place ≡ form.Place) × CoreTyped names place
  NodeTyped names (tree.Convert kind value) = IsNumber (form_of value) × CoreTyped names value
  NodeTyped names (tree.Retype pointer) = (form_of pointer ≡ form.Pointer) × CoreTyped names pointer
  NodeTyped names (tree.NotNull pointer) = (form_of pointer ≡ form.Pointer) × CoreTyped names pointer
  NodeTyped names (tree.IsNull pointer) = (form_of pointer ≡ form.Pointer) × CoreTyped names pointer
  NodeTyped names (tree.Discard value) = IsLeft (form_of value) × CoreTyped names value
  NodeTyped names (tree.Negate kind value) = (form_of value ≡ form.Number kind) × CoreTyped names value
  NodeTyped names (tree.Flip kind value) = (form_of value ≡ form.Number kind) × CoreTyped names value
  NodeTyped names (tree.Not value) = IsNumber (form_of value) × CoreTyped names value
  NodeTyped names (tree.Arithmetic operator kind left right) =
      (form_of left ≡ form.Number kind) × CoreTyped names left × FitsRight operator kind (form_of right)
      × CoreTyped names right
  NodeTyped names (tree.Compare comparison left right) =
      IsNumber (form_of left) × CoreTyped names left × (form_of right ≡ form_of left) × CoreTyped names right
  NodeTyped names (tree.Same equal left right) =
      (form_of left ≡ form.Pointer) × CoreTyped names left × (form_of right ≡ form.Pointer) × CoreTyped names right
  NodeTyped names (tree.Order relation left right) =
      (form_of left ≡ form.Pointer) × CoreTyped names left × (form_of right ≡ form.Pointer) × CoreTyped names right
  NodeTyped names (tree.Step stride number_first pointer number) =
      IsStride stride × (form_of pointer ≡ form.Pointer) × CoreTyped names pointer × IsNumber (form_of number)
      × CoreTyped names number
  NodeTyped names (tree.Difference size left right) =
      IsSize size × (form_of left ≡ form.Pointer) × CoreTyped names left × (form_of right ≡ form.Pointer)
      × CoreTyped names right
  NodeTyped names (tree.AndAlso left right) =
      IsNumber (form_of left) × CoreTyped names left × IsNumber (form_of right) × CoreTyped names right
  NodeTyped names (tree.OrElse left right) =
      IsNumber (form_of left) × CoreTyped names left × IsNumber (form_of right) × CoreTyped names right
  NodeTyped names (tree.Cond test first second) =
      IsNumber (form_of test) × CoreTyped names test × CoreTyped names first × (form_of second ≡ form_of first)
      × CoreTyped names second
  NodeTyped names (tree.Comma left right) =
      (form_of left ≡ form.Nothing) × CoreTyped names left × CoreTyped names right
  NodeTyped names (tree.Assign scalar place value) =
      (form_of place ≡ form.Place) × CoreTyped names place × (form_of value ≡ scalar_form scalar)
      × CoreTyped names value
  NodeTyped names (tree.AssignWhole size place value) =
      IsSize size × (form_of place ≡ form.Place) × CoreTyped names place × (form_of value ≡ form.Place)
      × CoreTyped names value
  NodeTyped names (tree.Update change place number) =
      (form_of place ≡ form.Place) × CoreTyped names place × FitsChange change (form_of number) × CoreTyped names number
  NodeTyped names (tree.Postfix change place) = IsStep change × (form_of place ≡ form.Place) × CoreTyped names place
  NodeTyped names (tree.Call used gives function arguments) =
      (form_of function ≡ form.Pointer) × CoreTyped names function × CoresTyped names arguments
      × IsCalled (type_in function) gives arguments × IsGiven gives × MayBeUsed used gives
  NodeTyped names (tree.ValueObject size value) = IsSize size × (form_of value ≡ form.Place) × CoreTyped names value

  pub CoresTyped : Names → Cores → Type 0
  CoresTyped names NoCore = Unit {0}
  CoresTyped names (MoreCores first rest) = CoreTyped names first × CoresTyped names rest
