-- Blocks.
use Rattle.std.proofs.Common.{◌≡◌, ◌∙◌, ℕ, ◌+◌, Bool, List, [], ◌∷◌, ◌++◌, refl, ap, sym, subst}
use Rattle.std.proofs.Common.{map, length, reverse, append_assoc}
use Rattle.std.proofs.lemmas.List.{append-nil, length-map}
use Rattle.critical_table.specs.declared.pos.Pos.{Pos}
use Rattle.c_core.specs.declared.statement.Local.{Local}
use Rattle.c_core.specs.Named.{Names, names_in_block, objects_with}
use Rattle.c_core.specs.TreeUnit.{Program}
use Rattle.c_core.specs.TypedUnit.{AreFresh, Flow as FlowTyped}
use Rattle.run_defs.specs.State.{State, call_left}
use Rattle.run_defs.specs.Evaluation.{Evaluation, Gives}
use Rattle.vm_code.specs.Calling.{returned, left_by}
use Rattle.vm_code.specs.Slots.{Held, numbers, all_died}
use Rattle.lib_defs.specs.declared.value.Value.{Value}
use Rattle.lib_defs.specs.declared.value.Value.TheVariants.{Nothing}
use Rattle.std.specs.Prelude.{unwrap_or}
use Rattle.code_gen.specs.Blocks.{locals_made, in_block}
use Rattle.code_gen.specs.CalledTypes.{Through}
use Rattle.code_gen.specs.ExpressionCode.{on}
use Rattle.code_gen.specs.Expressions.{Call}
use Rattle.code_gen.specs.Flows.{Flow, Next, Broke, Continued, Returned}
use Rattle.code_gen.specs.RunLaw.{Comes, Reaches, StandAt, Running, stands_at, standing}
use Rattle.code_gen.specs.StatementCode.{Around, makes, slots_of, kills, kills_of, within_block}
use Rattle.code_gen.specs.StatementRunLaw.{OnTop, Inside, AreSizes, leads}
use Rattle.code_gen.proofs.Going.{comes_on, comes_same, reaches_gives, reaches_bind}
use Rattle.code_gen.proofs.Going.{reaches_from, does_then}
use Rattle.code_gen.proofs.FullExpressions as whole
use Rattle.code_gen.proofs.PlainStatements as parts
use Rattle.code_gen.proofs.PlainStretches as stretch
use Rattle.code_gen.proofs.StatementLengths as long

-- a block's objects stand on top of those that a jump leaves
abbrev pub on_top_more : (slots more : List ℕ) (made held : List Held) → map (λ (h : Held). h.slot) made ≡ more
    → OnTop slots held → OnTop (more ++ slots) (made ++ held)
on_top_more slots more made held are top = record {
  left = made ++ top.left;
  others = top.others;
  both = ap (λ l. made ++ l) top.both ∙ sym (append_assoc made top.left top.others);
  slots_are = parts.slots_both made top.left
      ∙ ap (λ l. l ++ map (λ (h : Held). h.slot) top.left) are
      ∙ ap (λ l. more ++ l) top.slots_are;
}

-- fresh objects have sizes
pub sizes_more : (bound : ℕ) (locals objects : List Local) → AreFresh bound locals objects → AreSizes objects
    → AreSizes (objects_with locals objects)
sizes_more bound [] objects fresh sizes = sizes
sizes_more bound (local ∷ rest) objects fresh sizes =
    sizes_more bound rest (local ∷ objects) fresh.3 (fresh.1, sizes)

module _ (it : Running) (names : Names) (flow : FlowTyped) (around : Around) (inside : Inside it names flow around)
    (locals : List Local) (made : List Held) (answered : Bool)
    (are : parts.AreMade it locals [] names around.values made)
    (fresh : AreFresh flow.slots locals names.objects) where
  abbrev pub block_of : Running
  block_of = stretch.beside it made answered

  abbrev inner : Around
  inner = within_block locals around

  pub slots_of_made : map (λ (h : Held). h.slot) made ≡ reverse (slots_of locals)
  slots_of_made = are.slots_are ∙ append-nil (reverse (slots_of locals))

  abbrev pub inside_block : Inside block_of (names_in_block locals names) flow inner
  inside_block = record {
    form_is = inside.form_is;
    above = inside.above;
    named = are.around;
    sizes = sizes_more flow.slots locals names.objects fresh inside.sizes;
    breaks = on_top_more around.left (reverse (slots_of locals)) made it.frame.held slots_of_made inside.breaks;
    continues =
        on_top_more around.left_again (reverse (slots_of locals)) made it.frame.held slots_of_made inside.continues;
  }

  -- where the items lead, the block leads once its objects are dead
  pub block_left : (next : ℕ) (position : Pos)
      → StandAt it.code it.function next (on position (kills_of locals)) → (f : Flow) (answered1 : Bool) (s : State)
      → Comes it.environment it.code (leads block_of inside_block next f answered1 s)
      (leads it inside (next + length locals) f answered1 (all_died (numbers made) s))
  block_left next position stands Next answered1 s =
      let kill : StandAt it.code it.function next (on position (kills (map (λ (h : Held). h.slot) made))) =
      subst (λ l. StandAt it.code it.function next (on position (kills l))) (sym slots_of_made) stands in
      let long : next + length made ≡ next + length locals =
      ap (λ k. next + k) (sym (length-map made (λ (h : Held). h.slot)) ∙ ap length slots_of_made
      ∙ long.slots_long locals) in
      comes_on it.environment it.code _ _ _
      (whole.held_die it made answered1 next [] position s kill)
      (comes_same it.environment it.code _ _
      (ap (λ k. stands_at it [] answered1 k [] (all_died (numbers made) s)) long))
  block_left next position stands Broke answered1 s = comes_same it.environment it.code _ _
      (ap (λ s1. standing (record it.frame { held = inside.breaks.others; answered = answered1 }) it.rest
      around.behind []
      s1) (parts.died_both made inside.breaks.left s))
  block_left next position stands Continued answered1 s = comes_same it.environment it.code _ _
      (ap (λ s1. standing (record it.frame { held = inside.continues.others; answered = answered1 }) it.rest
      around.again [] s1) (parts.died_both made inside.continues.left s))
  block_left next position stands (Returned v) answered1 s = comes_same it.environment it.code _ _
      (ap (λ s1. returned it.environment it.code
      (left_by it.function.form it.frame.result (unwrap_or v Nothing)) (unwrap_or v Nothing) it.rest (call_left s1))
      (parts.died_both made it.frame.held s))

module _ (program : Program) (table : List Through) (call : Call) where
  -- a block, where its items do what they mean, also with operands that they take
  pub block_runs : (it : Running) (names : Names) (flow : FlowTyped) (around : Around)
      (inside : Inside it names flow around) (locals : List Local) (items : List Held → State → Evaluation Flow)
      (position : Pos) (at size : ℕ) (answered : Bool) (operands : List Value) (s : State)
      → (fresh : AreFresh flow.slots locals names.objects)
      → StandAt it.code it.function at (on position (makes locals))
      → StandAt it.code it.function (at + length locals + size) (on position (kills_of locals))
      → ((made : List Held) (s1 : State) (are : parts.AreMade it locals [] names around.values made)
      → Reaches it.environment it.code it.most (stands_at it made answered (at + length locals) operands s1)
      (items (made ++ it.frame.held) s1) (λ f. Bool)
      (leads (block_of it names flow around inside locals made answered are fresh)
      (inside_block it names flow around inside locals made answered are fresh) (at + length locals + size)))
      → Reaches it.environment it.code it.most (stands_at it [] answered at operands s)
      (in_block locals items it.frame.held s)
      (λ f. Bool) (leads it inside (at + length locals + size + length locals))
  block_runs it names flow around inside locals items position at size answered operands s fresh stands dead runs =
      let next : ℕ = at + length locals + size in
      does_then it.environment it.code it.most _ (locals_made locals [] s) _
      (λ made s1. stands_at it made answered (at + length locals) operands s1)
      (parts.AreMade it locals [] names around.values) (λ f. Bool)
      (leads it inside (next + length locals))
      (parts.makes_do it locals names around.values flow.slots at position [] answered operands s inside.above fresh
      inside.named stands)
      (λ made s1 are.
      reaches_bind it.environment it.code it.most _ (items (made ++ it.frame.held) s1) _ (λ f. Bool)
      (leads (block_of it names flow around inside locals made answered are fresh)
      (inside_block it names flow around inside locals made answered are fresh) next) (λ f. Bool)
      (leads it inside (next + length locals)) (runs made s1 are)
      (λ f s2 answered1.
      reaches_from it.environment it.code it.most _
      (leads it inside (next + length locals) f answered1 (all_died (numbers made) s2))
      (Gives f (all_died (numbers made) s2)) (λ f. Bool) (leads it inside (next + length locals))
      (block_left it names flow around inside locals made answered are fresh next position dead f answered1 s2)
      (reaches_gives it.environment it.code it.most _ f (all_died (numbers made) s2) (λ f. Bool)
      (leads it inside (next + length locals)) answered1 refl)))
