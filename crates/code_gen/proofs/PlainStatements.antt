-- How the objects of a block are made, and jumps that leave some.
use Rattle.std.proofs.Common.{◌≡◌, ◌∙◌, ℕ, ◌+◌, ◌<◌, ◌≤◌, ◌==◌, Bool, true, false, cond, List, [], ◌∷◌, ◌++◌, refl}
use Rattle.std.proofs.Common.{ap, sym}
use Rattle.std.proofs.Common.{subst, arith, map, length, reverse, Some, append_assoc}
use Rattle.std.proofs.lemmas.List.{length-map, reverse-append}
use Rattle.std.specs.Prelude.{unwrap_or}
use Rattle.critical_table.specs.declared.pos.Pos.{Pos}
use Rattle.c_core.specs.declared.statement.Local.{Local}
use Rattle.c_core.specs.Named.{Names, objects_with, size_in}
use Rattle.c_core.specs.TypedUnit.{AreFresh}
use Rattle.lib_defs.specs.declared.value.Value.{Value}
use Rattle.run_defs.specs.State.{State, died}
use Rattle.run_defs.specs.Evaluation.{automatic_made}
use Rattle.run_defs.specs.Functions.{Environment}
use Rattle.vm_code.specs.declared.instr.Instr.{Instr}
use Rattle.vm_code.specs.declared.instr.Instr.TheVariants as i
use Rattle.vm_code.specs.declared.parts.CodeFunction.{CodeFunction}
use Rattle.vm_code.specs.Contents.{Contents}
use Rattle.vm_code.specs.Frames.{Place}
use Rattle.vm_code.specs.Slots.{Held, held_in, numbers, all_died}
use Rattle.code_gen.specs.Blocks.{held_at, locals_made}
use Rattle.code_gen.specs.ExpressionCode.{on}
use Rattle.code_gen.specs.RunLaw.{IsAround, Comes, StandAt, Running, stands_at, standing}
use Rattle.code_gen.specs.StatementCode.{kills, makes, slots_of}
use Rattle.code_gen.specs.StatementRunLaw.{OnTop, jumped}
use Rattle.code_gen.proofs.Going.{Does, comes_on, comes_same, one_step, stand_front, stand_back, does_bind}
use Rattle.code_gen.proofs.Going.{does_gives, does_fits}
use Rattle.code_gen.proofs.Lengths.{on_long}
use Rattle.code_gen.proofs.FullExpressions as full
use Rattle.code_gen.proofs.PlainStretches as stretch
use Rattle.code_gen.proofs.ValueObjects as values

pub on_both : (here : Pos) (a b : List Instr) → on here (a ++ b) ≡ on here a ++ on here b
on_both here [] b = refl
on_both here (x ∷ a) b = ap (λ l. (x, here) ∷ l) (on_both here a b)

pub died_both : (a b : List Held) (s : State)
    → all_died (numbers (a ++ b)) s ≡ all_died (numbers b) (all_died (numbers a) s)
died_both [] b s = refl
died_both (h ∷ a) b s = died_both a b (died h.number s)

pub slots_both : (a b : List Held)
    → map (λ (h : Held). h.slot) (a ++ b) ≡ map (λ (h : Held). h.slot) a ++ map (λ (h : Held). h.slot) b
slots_both [] b = refl
slots_both (h ∷ a) b = ap (λ l. h.slot ∷ l) (slots_both a b)

reversed : (x : ℕ) (xs ys : List ℕ) → reverse xs ++ x ∷ ys ≡ reverse (x ∷ xs) ++ ys
reversed x xs ys = sym (ap (λ l. l ++ ys) (reverse-append (x ∷ []) xs) ∙ append_assoc (reverse xs) (x ∷ []) ys)

some_same : (a b : ℕ) → Some a ≡ Some b → a ≡ b
some_same a b same = ap (λ o. unwrap_or o a) same

-- with one object more
around_more : (names : Names) (low : ℕ) (held : List Held) (local : Local) (h : Held) → h.slot ≡ local.slot
    → h.size ≡ local.size → local.slot < low → IsAround names low held
    → IsAround (record names { objects = local ∷ names.objects }) low (h ∷ held)
around_more names low held local h slot_is size_is under around = record {
  named = λ slot size. by_slot slot size (local.slot == slot) refl;
  below = (omega (arith, slot_is, under), around.below);
}
  where
    by_slot : (slot size : ℕ) (b : Bool) → (local.slot == slot) ≡ b
        → cond (local.slot == slot) (Some local.size) (size_in slot names.objects) ≡ Some size
        → (found : Held) × (held_in slot (h ∷ held) ≡ Some found) × (found.size ≡ size)
    by_slot slot size true own is =
        let same : (h.slot == slot) ≡ true = ap (λ k. k == slot) slot_is ∙ own in
        let sized : Some local.size ≡ Some size = subst (λ b. cond b (Some local.size) (size_in slot names.objects)
        ≡ Some size) own is in
        (h, rw same refl, size_is ∙ some_same local.size size sized)
    by_slot slot size false other is =
        let same : (h.slot == slot) ≡ false = ap (λ k. k == slot) slot_is ∙ other in
        let before = around.named slot size (subst (λ b. cond b (Some local.size) (size_in slot names.objects)
        ≡ Some size) other is) in
        (before.0, rw same before.1, before.2)

module _ (it : Running) where
  abbrev e : Environment
  e = it.environment

  abbrev code : Contents
  code = it.code

  abbrev function : CodeFunction
  function = it.function

  abbrev here : List Held → Bool → ℕ → List Value → State → Place
  here objects answered at operands s = stands_at it objects answered at operands s

  -- a jump, behind the deaths of the objects that it leaves
  pub jump_comes : (slots : List ℕ) (objects : OnTop slots it.frame.held) (to at : ℕ) (answered : Bool) (position : Pos)
      (s : State) → StandAt code function at (on position (kills slots ++ i.Jump to ∷ []))
      → Comes e code (here [] answered at [] s) (jumped it objects to answered s)
  jump_comes slots objects to at answered position s stands =
      let base : Running = record {
        environment = it.environment;
        code = it.code;
        most = it.most;
        function = it.function;
        frame = record it.frame { held = objects.others };
        rest = it.rest;
        own = it.own;
      } in
      let two : StandAt code function at (on position (kills slots) ++ on position (i.Jump to ∷ [])) =
      subst (λ l. StandAt code function at l) (on_both position (kills slots) (i.Jump to ∷ [])) stands in
      let first : StandAt code function at (on position (kills (map (λ (h : Held). h.slot) objects.left))) =
      subst (λ l. StandAt code function at (on position (kills l))) (sym objects.slots_are)
      (stand_front code function at (on position (kills slots)) (on position (i.Jump to ∷ [])) two) in
      let long : length (on position (kills slots)) ≡ length objects.left =
      on_long position (kills slots) ∙ length-map slots i.Kill ∙ sym (ap length objects.slots_are)
      ∙ length-map objects.left (λ (h : Held). h.slot) in
      let last : StandAt code function (at + length objects.left) (on position (i.Jump to ∷ [])) =
      stand_back code function at (length objects.left) (on position (kills slots)) (on position (i.Jump to ∷ [])) long
      two in
      comes_on e code _ _ _
      (comes_same e code _ _ (ap (λ held. standing (record it.frame { held = held; answered = answered }) it.rest at []
      s) objects.both))
      (comes_on e code _ _ _ (full.held_die base objects.left answered at [] position s first)
      (one_step (stretch.beside base [] answered) (at + length objects.left) []
      (all_died (numbers objects.left) s) (i.Jump to) position last.0))

  -- what the objects of a block are, when they are made
  pub record AreMade (locals : List Local) (slots : List ℕ) (names : Names) (low : ℕ) (made : List Held) : Type 0 where
    pub slots_are : map (λ (h : Held). h.slot) made ≡ reverse (slots_of locals) ++ slots
    pub around : IsAround (record names { objects = objects_with locals names.objects }) low (made ++ it.frame.held)

  -- the objects of a block are made, above these operands
  pub makes_do : (locals : List Local) (names : Names) (low bound at : ℕ) (position : Pos) (objects : List Held)
      (answered : Bool) (operands : List Value) (s : State) → bound ≤ low → AreFresh bound locals names.objects
      → IsAround names low (objects ++ it.frame.held)
      → StandAt code function at (on position (makes locals))
      → Does e code (here objects answered at operands s) (locals_made locals objects s)
      (λ made s1. here made answered (at + length locals) operands s1)
      (AreMade locals (map (λ (h : Held). h.slot) objects) names low)
  makes_do [] names low bound at position objects answered operands s up fresh around stands =
      let same : at ≡ at + 0 = omega arith in
      does_gives e code _ objects s _ (AreMade [] (map (λ (h : Held). h.slot) objects) names low)
      (ap (λ k. here objects answered k operands s) same) (record { slots_are = refl; around = around })
  makes_do (local ∷ rest) names low bound at position objects answered operands s up fresh around stands =
      let more : Names = record names { objects = local ∷ names.objects } in
      does_bind e code _ (automatic_made local.size s) _
      (λ place s1. here (held_at local.slot place local.size ∷ objects) answered (at + 1) operands s1)
      (λ made s1. here made answered (at + length (local ∷ rest)) operands s1) (values.IsWhole local.size)
      (AreMade (local ∷ rest) (map (λ (h : Held). h.slot) objects) names low)
      (values.make_does it 0 local.slot local.size at position objects answered operands s (stands.0, tt))
      (λ place s1 whole.
      let h : Held = held_at local.slot place local.size in
      let same : at + 1 + length rest ≡ at + length (local ∷ rest) = omega arith in
      subst (λ k. Does e code (here (h ∷ objects) answered (at + 1) operands s1) (locals_made rest (h ∷ objects) s1)
      (λ made s2. here made answered k operands s2)
      (AreMade (local ∷ rest) (map (λ (o : Held). o.slot) objects) names low)) same
      (does_fits e code _ (locals_made rest (h ∷ objects) s1)
      (λ made s2. here made answered (at + 1 + length rest) operands s2)
      (AreMade rest (map (λ (o : Held). o.slot) (h ∷ objects)) more low)
      (AreMade (local ∷ rest) (map (λ (o : Held). o.slot) objects) names low)
      (makes_do rest more low bound (at + 1) position (h ∷ objects) answered operands s1 up fresh.3
      (around_more names low (objects ++ it.frame.held) local h refl refl (omega (arith, up, fresh.0)) around) stands.1)
      (λ made are. record {
        slots_are = are.slots_are ∙ reversed local.slot (slots_of rest) (map (λ (o : Held). o.slot) objects);
        around = are.around;
      })))
