-- What a statement does, one clause a node (6.8).
use Rattle.std.specs.Prelude.{ℕ, zero, suc, Bool, List, replicate, Option, Some, None}
use Rattle.critical_table.specs.declared.pos.Pos.{Pos}
use Rattle.object_store.specs.declared.mark.Mark.TheVariants.{Const}
use Rattle.object_store.specs.declared.pointer.Pointer.{Pointer}
use Rattle.lib_defs.specs.declared.value.Value.{Value}
use Rattle.lib_defs.specs.declared.value.Value.TheVariants.{Ptr}
use Rattle.run_defs.specs.State.{State, sealed}
use Rattle.run_defs.specs.Evaluation.{Evaluation, Gives, bind, stored}
use Rattle.run_defs.specs.Loads.{known}
use Rattle.c_core.specs.Tree.{Core, pos_in}
use Rattle.c_core.specs.TreeUnit.{Statement, Stands, Action, Statements, NoStatement, MoreStatements, Program}
use Rattle.c_core.specs.TreeUnit as unit
use Rattle.vm_code.specs.Slots.{Held}
use Rattle.code_gen.specs.Designation.{place_in}
use Rattle.vm_code.specs.Pointers.{member_place}
use Rattle.vm_code.specs.Accesses.{number_in, pointer_in, copied, content_stored}
use Rattle.vm_code.specs.Operators.{is_true}
use Rattle.code_gen.specs.Evaluating.{full}
use Rattle.code_gen.specs.Expressions.{Call, value}
use Rattle.code_gen.specs.Flows.{Flow, Next, Broke, Continued, Returned, after, branch, loop, do_loop, label_at}
use Rattle.code_gen.specs.Flows.{behind_switch}
use Rattle.code_gen.specs.Blocks.{in_block}

-- nothing is done
abbrev pub no_step : State → Evaluation (Unit {0})
no_step s = Gives tt s

-- the next statement runs behind a step
abbrev pub then_next : Evaluation (Unit {0}) → Evaluation Flow
then_next step = bind step (λ u s. Gives Next s)

-- The block of a switch is entered before an item, and a `break` goes on behind it; where no label fits, it isn't
-- entered.
abbrev pub entered_at : Option ℕ → (ℕ → State → Evaluation Flow) → State → Evaluation Flow
entered_at None items s = Gives Next s
entered_at (Some at) items s = bind (items at s) (λ flow s1. Gives (behind_switch flow) s1)

module _ (program : Program) (call : Call) where
  -- an expression and what is done with its value, as a full expression
  abbrev pub evaluated : {A : Type 0} → Core → List Held → (Value → State → Evaluation A) → State → Evaluation A
  evaluated core held use_value s = full (value program call held core) use_value s

  -- a controlling expression (6.8.4p3, 6.8.5p3)
  abbrev pub tested : Core → List Held → State → Evaluation Bool
  tested test held s = evaluated test held (λ v. Gives (is_true v)) s

  -- an expression that is evaluated for what it does (6.8.3p2)
  abbrev pub done : Core → List Held → State → Evaluation (Unit {0})
  done core held s = evaluated core held (λ v. Gives tt) s

module _ (program : Program) (call : Call) (result : Pointer) where
  abbrev mutual
    pub statement : Statement → List Held → State → Evaluation Flow
    statement (Stands here action) = action_done here action

    pub action_done : Pos → Action → List Held → State → Evaluation Flow
    action_done here (unit.Block locals items) held s = in_block locals (items_from items 0) held s
    action_done here (unit.Zero slot size) held s =
        then_next (stored 1 (record { place = place_in slot held; bytes = known (replicate size 0) }) here s)
    action_done here (unit.Initialize slot at content core) held s = then_next (evaluated program call core held
        (λ v. content_stored content (member_place at (place_in slot held)) v (pos_in core)) s)
    action_done here (unit.InitializeBytes slot at bytes) held s =
        then_next (stored 1 (record { place = member_place at (place_in slot held); bytes = known bytes }) here s)
    action_done here (unit.SealBytes slot at len) held s =
        Gives Next (sealed (place_in slot held).object (record { at = at; len = len; mark = Const }) s)
    action_done here (unit.Evaluate core) held s = then_next (done program call core held s)
    action_done here (unit.If test first second) held s = bind (tested program call test held s)
        (λ is_so. branch is_so (statement first held) (statement second held))
    action_done here (unit.While test body) held s = loop (tested program call test held) (statement body held)
        no_step s
    action_done here (unit.Do body test) held s = do_loop (statement body held) (tested program call test held) s
    action_done here (unit.For test step body) held s =
        loop (tested program call test held) (statement body held) (done program call step held) s
    action_done here (unit.Switch core locals items cases default) held s =
        bind (evaluated program call core held Gives s) (λ v s1.
        entered_at (label_at (number_in v) cases default) (λ at. in_block locals (items_from items at) held) s1)
    action_done here unit.Break held s = Gives Broke s
    action_done here unit.Continue held s = Gives Continued s
    action_done here unit.Return held s = Gives (Returned None) s
    action_done here (unit.ReturnValue core) held s =
        evaluated program call core held (λ v. Gives (Returned (Some v))) s
    -- a structure is copied before anything dies (6.8.6.4p3)
    action_done here (unit.ReturnWhole size core) held s = evaluated program call core held (λ v s1.
        bind (copied size result (pointer_in v) (pos_in core) s1) (λ u s2. Gives (Returned (Some (Ptr result))) s2)) s

    -- the items of a block, without the first ones
    pub items_from : Statements → ℕ → List Held → State → Evaluation Flow
    items_from NoStatement skipped held s = Gives Next s
    items_from (MoreStatements first rest) (suc skipped) held s = items_from rest skipped held s
    items_from (MoreStatements first rest) zero held s =
        bind (statement first held s) (λ flow. after flow (items_from rest 0 held))
