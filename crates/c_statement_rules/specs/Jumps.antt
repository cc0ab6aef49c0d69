-- Jump statements (6.8.6). Each rule stands at the statement, before its expression.
use Rattle.std.specs.Prelude.{Bool, not, List, [], ◌∷◌, Option, Some, if◌then◌else◌}
use Rattle.c_types.specs.CType.{CType}
use Rattle.c_types.specs.Structures.{Structure}
use Rattle.c_core.specs.declared.form.Content.{Content}
use Rattle.c_core.specs.declared.form.Content.TheVariants as content
use Rattle.c_core.specs.Tree.{Core}
use Rattle.c_core.specs.TreeUnit.{Action, ReturnValue, ReturnWhole}
use Rattle.c_scopes.specs.Ruled.{Ruled, Demand, ruled}
use Rattle.c_conversions.specs.Contents.{content_in}
use Rattle.c_conversions.specs.Versions.{is_void}

-- A `break` stands in the body of a loop or of a `switch`, a `continue` in that of a loop (6.8.6.2p1, 6.8.6.3p1).
abbrev pub jump_demands : (has_target : Bool) → List Demand
jump_demands has_target = (40, has_target) ∷ []

abbrev pub jump_rule : Bool → Ruled (Unit {0})
jump_rule has_target = ruled (jump_demands has_target) tt

-- A `return` has an expression exactly where its function gives a value (6.8.6.4p1).
abbrev pub return_demands : CType → (with_value : Bool) → List Demand
return_demands gives with_value = (41, if with_value then not (is_void gives) else is_void gives) ∷ []

abbrev pub return_rule : CType → Bool → Ruled (Unit {0})
return_rule gives with_value = ruled (return_demands gives with_value) tt

-- What a `return` does with a value that was converted to what its function gives (6.8.6.4p3).
abbrev pub hands_over : Option Content → Core → Action
hands_over (Some (content.Whole size)) value = ReturnWhole size value
hands_over other value = ReturnValue value

abbrev pub returning : List Structure → CType → Core → Action
returning structures gives value = hands_over (content_in gives structures) value
