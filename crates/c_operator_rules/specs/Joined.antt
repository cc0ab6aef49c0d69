-- Nodes of two operands, by what joins them.
use Rattle.c_core.specs.Tree.{Core, Node}
use Rattle.c_core.specs.Tree as tree
use Rattle.c_operator_rules.specs.declared.joint.Joint.{Joint}
use Rattle.c_operator_rules.specs.declared.joint.Joint.TheVariants as j

abbrev pub joined : Joint → Core → Core → Node
joined (j.Arithmetic operator kind) left right = tree.Arithmetic operator kind left right
joined (j.Compare comparison) left right = tree.Compare comparison left right
joined (j.Order relation) left right = tree.Order relation left right
joined (j.Same equal) left right = tree.Same equal left right
joined (j.Difference size) left right = tree.Difference size left right
joined j.AndAlso left right = tree.AndAlso left right
joined j.OrElse left right = tree.OrElse left right
joined j.Comma left right = tree.Comma left right
joined (j.Assign scalar) left right = tree.Assign scalar left right
joined (j.AssignWhole size) left right = tree.AssignWhole size left right
joined (j.Update change) left right = tree.Update change left right
