-- What an expression leaves for the one around it.
use Rattle.std.specs.Prelude.{Option, Some, None}
use Rattle.acc_num.specs.declared.kind.IntKind.TheVariants.{I32, I64}
use Rattle.c_core.specs.declared.form.Form.{Form}
use Rattle.c_core.specs.declared.form.Form.TheVariants as form
use Rattle.c_core.specs.declared.form.Scalar.{Scalar}
use Rattle.c_core.specs.declared.form.Scalar.TheVariants as scalar
use Rattle.c_core.specs.declared.form.Content.{Content}
use Rattle.c_core.specs.declared.form.Content.TheVariants as content
use Rattle.c_core.specs.declared.operator.Change.{Change}
use Rattle.c_core.specs.declared.operator.Change.TheVariants as change
use Rattle.c_core.specs.Tree.{Core, At, Node}
use Rattle.c_core.specs.Tree as tree

-- the value of a scalar
abbrev pub scalar_form : Scalar → Form
scalar_form (scalar.Number kind) = form.Number kind
scalar_form scalar.Pointer = form.Pointer

-- a structure is left as the place where it stands
abbrev pub content_form : Content → Form
content_form (content.Scalar scalar) = scalar_form scalar
content_form (content.Whole size) = form.Place

-- what a call gives
abbrev pub given_form : Option Content → Form
given_form None = form.Nothing
given_form (Some content) = content_form content

-- the content of an object that is changed
abbrev pub changed_form : Change → Form
changed_form (change.Number operator held at) = form.Number held
changed_form (change.Pointer stride) = form.Pointer

abbrev mutual
  pub form_of : Core → Form
  form_of (At of pos node) = node_form node

  pub node_form : Node → Form
  node_form (tree.Number kind value) = form.Number kind
  node_form tree.Null = form.Pointer
  node_form (tree.Object name) = form.Place
  node_form (tree.Function name) = form.Pointer
  node_form (tree.Reach by size align pointer) = form.Place
  node_form (tree.Member at place) = form.Place
  node_form (tree.Load scalar place) = scalar_form scalar
  node_form (tree.Narrow size place) = form.Pointer
  node_form (tree.AddressOf place) = form.Pointer
  node_form (tree.Convert kind value) = form.Number kind
  node_form (tree.Retype pointer) = form.Pointer
  node_form (tree.NotNull pointer) = form.Number I32
  node_form (tree.IsNull pointer) = form.Number I32
  node_form (tree.Discard value) = form.Nothing
  node_form (tree.Negate kind value) = form.Number kind
  node_form (tree.Flip kind value) = form.Number kind
  node_form (tree.Not value) = form.Number I32
  node_form (tree.Arithmetic operator kind left right) = form.Number kind
  node_form (tree.Compare comparison left right) = form.Number I32
  node_form (tree.Same equal left right) = form.Number I32
  node_form (tree.Order relation left right) = form.Number I32
  node_form (tree.Step stride number_first pointer number) = form.Pointer
  node_form (tree.Difference size left right) = form.Number I64
  node_form (tree.AndAlso left right) = form.Number I32
  node_form (tree.OrElse left right) = form.Number I32
  node_form (tree.Cond test first second) = form_of first
  node_form (tree.Comma left right) = form_of right
  node_form (tree.Assign scalar place value) = scalar_form scalar
  node_form (tree.AssignWhole size place value) = form.Place
  node_form (tree.Update change place number) = changed_form change
  node_form (tree.Postfix change place) = changed_form change
  node_form (tree.Call used gives function arguments) = given_form gives
  node_form (tree.ValueObject size value) = form.Place
