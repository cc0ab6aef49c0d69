-- The lists of parts that a node holds, as trees: for whoever builds a call, a block or a switch.
use Rattle.std.proofs.Common.{◌≡◌, ℕ, Bool, map, Option, Box, Vec, refl, sym, ◌∙◌, ap, subst}
use Rattle.std.specs.Global.{Global}
use Rattle.c_types.specs.Types.{Types}
use Rattle.c_core.specs.declared.form.Content.{Content}
use Rattle.c_core.specs.declared.expression.CoreExpr.{CoreExpr}
use Rattle.c_core.specs.declared.expression.CoreNode as n
use Rattle.c_core.specs.declared.statement.Local.{Local}
use Rattle.c_core.specs.declared.statement.Case.{Case}
use Rattle.c_core.specs.declared.statement.CoreAction as a
use Rattle.c_core.specs.declared.statement.CoreStatement.{CoreStatement}
use Rattle.c_core.specs.Tree.{MoreCores, cores}
use Rattle.c_core.specs.Tree as tree
use Rattle.c_core.specs.TreeUnit.{Stands, MoreStatements, statements}
use Rattle.c_core.specs.TreeUnit as unit
use Rattle.c_core.specs.View.{node_of, core_of, cores_row}
use Rattle.c_core.specs.ViewUnit.{action_of, statement_of, statements_row}
use Rattle.c_core.specs.Ids.{CoreIn, NodeIn, RowIn, CoresIn, ActionIn, ItemsIn, StatementsIn}

module _ (types : Types) where
  cores_listed : (count : _) (row : n.Row_of-CoreExpr count)
      → cores_row types row ≡ cores (map (core_of types) (n.items-the_row-CoreExpr count row))
  cores_listed count n.end_of-CoreExpr = refl
  cores_listed count (n.more_of-CoreExpr of pos node rest) =
      ap (MoreCores (core_of types (record { of = of; pos = pos; node = node }))) (cores_listed _ rest)

  statements_listed : (count : _) (row : a.Row_of-CoreStatement count)
      → statements_row types row ≡ statements (map (statement_of types) (a.items-the_row-CoreStatement count row))
  statements_listed count a.end_of-CoreStatement = refl
  statements_listed count (a.more_of-CoreStatement pos action rest) =
      ap (MoreStatements (Stands pos (action_of types action))) (statements_listed _ rest)

  pub call_of : (used : Bool) (gives : Option Content) (function : Box CoreExpr Global)
      (arguments : Vec CoreExpr Global)
      → node_of types (n.Call used gives function arguments)
      ≡ tree.Call used gives (core_of types function.value) (cores (map (core_of types) arguments.items))
  call_of used gives function arguments =
      ap (tree.Call used gives (core_of types function.value))
      (cores_listed _ (n.TheBlock.hidden-the_row-CoreExpr-0 arguments)
      ∙ ap (λ list. cores (map (core_of types) list)) (n.items_hidden-the_row-CoreExpr-0 arguments))

  items_of : (items : Vec CoreStatement Global)
      → statements_row types (a.TheBlock.hidden-the_row-CoreStatement-0 items)
      ≡ statements (map (statement_of types) items.items)
  items_of items =
      statements_listed _ (a.TheBlock.hidden-the_row-CoreStatement-0 items)
      ∙ ap (λ list. statements (map (statement_of types) list)) (a.items_hidden-the_row-CoreStatement-0 items)

  pub block_of : (locals : Vec Local Global) (items : Vec CoreStatement Global)
      → action_of types (a.Block locals items)
      ≡ unit.Block locals.items (statements (map (statement_of types) items.items))
  block_of locals items = ap (unit.Block locals.items) (items_of items)

  pub switch_of : (value : CoreExpr) (locals : Vec Local Global) (items : Vec CoreStatement Global)
      (cases : Vec Case Global)
      (default : Option ℕ)
      → action_of types (a.Switch value locals items cases default)
      ≡ unit.Switch (core_of types value) locals.items (statements (map (statement_of types) items.items))
      cases.items default
  switch_of value locals items cases default =
      ap (λ list. unit.Switch (core_of types value) locals.items list cases.items default) (items_of items)

  -- ---- ids

  row_in : (count : _) (row : n.Row_of-CoreExpr count) → CoresIn types (n.items-the_row-CoreExpr count row)
      → RowIn types row
  row_in count n.end_of-CoreExpr h = tt
  row_in count (n.more_of-CoreExpr of pos node rest) h = (h.0, row_in _ rest h.1)

  statements_in : (count : _) (row : a.Row_of-CoreStatement count)
      → StatementsIn types (a.items-the_row-CoreStatement count row) → ItemsIn types row
  statements_in count a.end_of-CoreStatement h = tt
  statements_in count (a.more_of-CoreStatement pos action rest) h = (h.0, statements_in _ rest h.1)

  pub call_in : (used : Bool) (gives : Option Content) (function : Box CoreExpr Global)
      (arguments : Vec CoreExpr Global)
      → CoreIn types function.value → CoresIn types arguments.items
      → NodeIn types (n.Call used gives function arguments)
  call_in used gives function arguments f h = (
    f,
    row_in _ (n.TheBlock.hidden-the_row-CoreExpr-0 arguments)
        (subst (CoresIn types) (sym (n.items_hidden-the_row-CoreExpr-0 arguments)) h),
  )

  items_in : (items : Vec CoreStatement Global) → StatementsIn types items.items
      → ItemsIn types (a.TheBlock.hidden-the_row-CoreStatement-0 items)
  items_in items h = statements_in _ (a.TheBlock.hidden-the_row-CoreStatement-0 items)
      (subst (StatementsIn types) (sym (a.items_hidden-the_row-CoreStatement-0 items)) h)

  pub block_in : (locals : Vec Local Global) (items : Vec CoreStatement Global) → StatementsIn types items.items
      → ActionIn types (a.Block locals items)
  block_in locals items h = items_in items h

  pub switch_in : (value : CoreExpr) (locals : Vec Local Global) (items : Vec CoreStatement Global)
      (cases : Vec Case Global)
      (default : Option ℕ) → CoreIn types value → StatementsIn types items.items
      → ActionIn types (a.Switch value locals items cases default)
  switch_in value locals items cases default v h = (v, items_in items h)
