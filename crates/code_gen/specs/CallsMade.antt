-- The calls of a unit in order: what each is made through.
use Rattle.std.specs.Prelude.{List, [], ◌∷◌, ◌++◌}
use Rattle.c_core.specs.Tree.{Core, At, Node, Cores, NoCore, MoreCores}
use Rattle.c_core.specs.Tree as tree
use Rattle.c_core.specs.TreeUnit.{Statement, Stands, Action, Statements, NoStatement, MoreStatements, Definition}
use Rattle.c_core.specs.TreeUnit as unit
use Rattle.code_gen.specs.CalledTypes.{Through, through}

abbrev mutual
  pub calls_in : Core → List Through
  calls_in (At of here node) = calls_of node

  pub calls_of : Node → List Through
  calls_of (tree.Number kind value) = []
  calls_of tree.Null = []
  calls_of (tree.Object name) = []
  calls_of (tree.Function name) = []
  calls_of (tree.Reach by size align pointer) = calls_in pointer
  calls_of (tree.Member at place) = calls_in place
  calls_of (tree.Load scalar place) = calls_in place
  calls_of (tree.Narrow size place) = calls_in place
  calls_of (tree.AddressOf place) = calls_in place
  calls_of (tree.Convert kind value) = calls_in value
  calls_of (tree.Retype pointer) = calls_in pointer
  calls_of (tree.NotNull pointer) = calls_in pointer
  calls_of (tree.IsNull pointer) = calls_in pointer
  calls_of (tree.Discard value) = calls_in value
  calls_of (tree.Negate kind value) = calls_in value
  calls_of (tree.Flip kind value) = calls_in value
  calls_of (tree.Not value) = calls_in value
  calls_of (tree.Arithmetic operator kind left right) = calls_in left ++ calls_in right
  calls_of (tree.Compare comparison left right) = calls_in left ++ calls_in right
  calls_of (tree.Same equal left right) = calls_in left ++ calls_in right
  calls_of (tree.Order relation left right) = calls_in left ++ calls_in right
  calls_of (tree.Step stride number_first pointer number) = calls_in pointer ++ calls_in number
  calls_of (tree.Difference size left right) = calls_in left ++ calls_in right
  calls_of (tree.AndAlso left right) = calls_in left ++ calls_in right
  calls_of (tree.OrElse left right) = calls_in left ++ calls_in right
  calls_of (tree.Cond test first second) = calls_in test ++ calls_in first ++ calls_in second
  calls_of (tree.Comma left right) = calls_in left ++ calls_in right
  calls_of (tree.Assign scalar place value) = calls_in place ++ calls_in value
  calls_of (tree.AssignWhole size place value) = calls_in place ++ calls_in value
  calls_of (tree.Update change place number) = calls_in place ++ calls_in number
  calls_of (tree.Postfix change place) = calls_in place
  calls_of (tree.Call used gives function operands) =
      calls_in function ++ calls_among operands ++ through function operands ∷ []
  calls_of (tree.ValueObject size value) = calls_in value

  pub calls_among : Cores → List Through
  calls_among NoCore = []
  calls_among (MoreCores first rest) = calls_in first ++ calls_among rest

abbrev mutual
  pub calls_in_statement : Statement → List Through
  calls_in_statement (Stands here action) = calls_in_action action

  pub calls_in_action : Action → List Through
  calls_in_action (unit.Block locals items) = calls_in_items items
  calls_in_action (unit.Zero slot size) = []
  calls_in_action (unit.Initialize slot at content value) = calls_in value
  calls_in_action (unit.InitializeBytes slot at bytes) = []
  calls_in_action (unit.SealBytes slot at len) = []
  calls_in_action (unit.Evaluate core) = calls_in core
  calls_in_action (unit.If test first second) =
      calls_in test ++ calls_in_statement first ++ calls_in_statement second
  calls_in_action (unit.While test body) = calls_in test ++ calls_in_statement body
  calls_in_action (unit.Do body test) = calls_in_statement body ++ calls_in test
  calls_in_action (unit.For test step body) = calls_in test ++ calls_in step ++ calls_in_statement body
  calls_in_action (unit.Switch value locals items cases default) = calls_in value ++ calls_in_items items
  calls_in_action unit.Break = []
  calls_in_action unit.Continue = []
  calls_in_action unit.Return = []
  calls_in_action (unit.ReturnValue value) = calls_in value
  calls_in_action (unit.ReturnWhole size value) = calls_in value

  pub calls_in_items : Statements → List Through
  calls_in_items NoStatement = []
  calls_in_items (MoreStatements first rest) = calls_in_statement first ++ calls_in_items rest

abbrev pub calls_in_functions : List Definition → List Through
calls_in_functions [] = []
calls_in_functions (first ∷ rest) = calls_in_statement first.body ++ calls_in_functions rest
