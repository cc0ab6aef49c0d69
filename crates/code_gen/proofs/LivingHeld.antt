-- Where a statement runs, each object that it may name is held and lives.
use Rattle.std.proofs.Common.{◌≡◌, ◌∙◌, ℕ, suc, ◌+◌, ◌==◌, ◌≤◌, ◌<◌, Bool, true, false, cond, List, [], ◌∷◌, ◌++◌}
use Rattle.std.proofs.Common.{map, refl, ap, sym, subst, arith, Option, Some, None, reverse, append_assoc}
use Rattle.std.specs.Prelude.{IsSomeAnd}
use Rattle.std.specs.List.{Contains}
use Rattle.std.proofs.lemmas.List.{append-nil, reverse-append}
use Rattle.std.proofs.lemmas.List.Elements.{Contains-append_right}
use Rattle.std.proofs.lemmas.Bool.{eqb-true, ne_eqb}
use Rattle.critical_table.specs.declared.pos.Pos.{Pos}
use Rattle.object_store.specs.declared.pointer.Pointer.{Pointer}
use Rattle.lib_defs.specs.declared.value.Value.{Value}
use Rattle.lib_defs.specs.Laws.{IsWorld}
use Rattle.run_defs.specs.declared.seal.Seal.{Seal}
use Rattle.run_defs.specs.State.{State, sealed, has_range}
use Rattle.run_defs.specs.Evaluation.{automatic_made}
use Rattle.object_store.specs.declared.mark.Mark.TheVariants.{Const}
use Rattle.c_core.specs.declared.function.Range.{Range}
use Rattle.c_core.specs.declared.statement.Local.{Local}
use Rattle.c_core.specs.Named.{size_in, objects_with, LieIn}
use Rattle.c_core.specs.TreeUnit.{Parameter}
use Rattle.c_core.specs.Types.{content_size}
use Rattle.c_core.specs.TypedUnit.{AreFresh, LieWithin, ParametersTyped, parameter_objects}
use Rattle.vm_code.specs.Accesses.{content_stored}
use Rattle.vm_code.specs.Slots.{Held}
use Rattle.code_gen.specs.Designation.{place_in}
use Rattle.code_gen.specs.Blocks.{held_at, first_value, locals_made, parameters_made, ranges_sealed}
use Rattle.code_gen.specs.Lifetimes.{Living, as_living, living, OnGives, Rests, IsHeld, Holds, RangesLie, MarksLie}
use Rattle.code_gen.proofs.Living.{IsNone, some_or, in_range}
use Rattle.code_gen.proofs.LivingSteps.{HeldOnTop, IsMade, gives_then, gives_from, seal_rests, automatic_lives}
use Rattle.code_gen.proofs.LivingStatements.{held_on, content_rests}
use Rattle.code_gen.proofs.LivingFunctions.{ranges_rest}

pub holds_on : (objects : List Local) (held : List Held) (s s1 : State) (top : List Living)
    → living s1 ≡ top ++ living s → Holds objects held s → Holds objects held s1
holds_on objects held s s1 top on_top holds slot size is =
    let h : IsHeld held s slot size = holds slot size is in (
      h.0,
      h.1,
      h.2,
      subst (λ l. Contains l (as_living h.0)) (sym on_top)
          (Contains-append_right top (living s) (as_living h.0) h.3),
    )

-- one object more is made, in a slot
holds_more : (objects : List Local) (held : List Held) (s s1 : State) (slot size : ℕ) (place : Pointer)
    → IsMade size s place s1 → Holds objects held s
    → Holds (record { slot = slot; size = size } ∷ objects) (held_at slot place size ∷ held) s1
holds_more objects held s s1 slot size place m holds wanted found is = by_slot (slot == wanted) refl is
  where
    own : Contains (living s1) (as_living (held_at slot place size))
    own = subst (λ l. Contains l (as_living (held_at slot place size))) (sym m.on_top) (0, omega arith, refl)

    by_slot : (b : Bool) → slot == wanted ≡ b → cond b (Some size) (size_in wanted objects) ≡ Some found
        → IsHeld (held_at slot place size ∷ held) s1 wanted found
    by_slot true same size_is = (held_at slot place size, rw same refl, ap some_or size_is, own)
    by_slot false other size_is =
        let before : IsHeld held s1 wanted found =
        holds_on objects held s s1 (as_living (held_at slot place size) ∷ []) m.on_top holds wanted found size_is in
        (before.0, rw other before.1, before.2, before.3)

-- ---- a block

pub block_holds : (slots : ℕ) (locals objects : List Local) → AreFresh slots locals objects → (made held : List Held)
    (s : State) → IsWorld s.world → Holds objects (made ++ held) s
    → OnGives (λ (made1 : List Held) s1. Holds (objects_with locals objects) (made1 ++ held) s1)
    (locals_made locals made s)
block_holds slots [] objects fresh made held s w holds = holds
block_holds slots (local ∷ rest) objects fresh made held s w holds =
    gives_then (IsMade local.size s)
    (λ (made1 : List Held) s1. Holds (objects_with rest (local ∷ objects)) (made1 ++ held) s1)
    (automatic_made local.size s) _ (automatic_lives local.size s fresh.1.1 w) (λ place s1 m.
    block_holds slots rest (local ∷ objects) fresh.3 (held_at local.slot place local.size ∷ made) held s1 m.world
    (holds_more objects (made ++ held) s s1 local.slot local.size place m holds))

-- ---- a function: its parameters, the last made first

pushed_hold : (parameters : List Parameter) → ParametersTyped parameters → (objects : List Local) (slot : ℕ)
    (args : List Value) (made : List Held) (here : Pos) (s : State) → IsWorld s.world → Holds objects made s
    → OnGives (λ (made1 : List Held) s1. Holds (objects_with (parameter_objects slot parameters) objects) made1 s1)
    (parameters_made parameters slot args made here s)
pushed_hold [] t objects slot args made here s w holds = holds
pushed_hold (parameter ∷ rest) t objects slot args made here s w holds =
    let size : ℕ = content_size parameter.content in
    let Q : List Held → State → Type 0 = λ made1 s3.
    Holds (objects_with (parameter_objects (suc slot) rest) (record { slot = slot; size = size } ∷ objects)) made1 s3 in
    gives_then (IsMade size s) Q (automatic_made size s) _ (automatic_lives size s t.0.1 w) (λ place s1 m.
    gives_then (λ u s2. Rests s1 s2) Q (content_stored parameter.content place (first_value args) here s1) _
    (content_rests parameter.content place (first_value args) here s1 m.world) (λ u s2 r.
    pushed_hold rest t.2 (record { slot = slot; size = size } ∷ objects) (suc slot) _ (held_at slot place size ∷ made)
    here s2 r.world
    (holds_on (record { slot = slot; size = size } ∷ objects) (held_at slot place size ∷ made) s1 s2 [] r.same
    (holds_more objects made s s1 slot size place m holds))))

-- objects in later slots hide none
behind_slots : (parameters : List Parameter) (objects : List Local) (first slot : ℕ) → slot < first
    → size_in slot (objects_with (parameter_objects first parameters) objects) ≡ size_in slot objects
behind_slots [] objects first slot lt = refl
behind_slots (parameter ∷ rest) objects first slot lt =
    behind_slots rest _ (suc first) slot (omega (arith, lt))
    ∙ ap (λ b. cond b (Some (content_size parameter.content)) (size_in slot objects))
    (ne_eqb first slot (λ same. let one : first ≡ slot = same in omega (arith, lt, one)))

among_parameters : (parameters : List Parameter) (objects : List Local) (first slot size : ℕ)
    → size_in slot (parameter_objects first parameters) ≡ Some size
    → size_in slot (objects_with (parameter_objects first parameters) objects) ≡ Some size
among_parameters [] objects first slot size is = absurd (subst IsNone is tt)
among_parameters (parameter ∷ rest) objects first slot size is = by_slot (first == slot) refl is
    (λ found. among_parameters rest (record { slot = first; size = content_size parameter.content } ∷ objects)
    (suc first) slot size found)
  where
    by_slot : (b : Bool) → first == slot ≡ b
        → cond b (Some (content_size parameter.content)) (size_in slot (parameter_objects (suc first) rest)) ≡ Some size
        → (size_in slot (parameter_objects (suc first) rest) ≡ Some size
        → size_in slot (objects_with (parameter_objects (suc first) rest)
        (record { slot = first; size = content_size parameter.content } ∷ objects)) ≡ Some size)
        → size_in slot (objects_with (parameter_objects (suc first) rest)
        (record { slot = first; size = content_size parameter.content } ∷ objects)) ≡ Some size
    by_slot true same size_is later =
        let one : first ≡ slot = eqb-true first slot same in
        behind_slots rest _ (suc first) slot (omega (arith, one)) ∙ rw same size_is
    by_slot false other size_is later = later size_is

none_hold : (s : State) → Holds [] [] s
none_hold s slot size is = absurd (subst IsNone is tt)

pub parameters_hold : (parameters : List Parameter) → ParametersTyped parameters → (args : List Value) (here : Pos)
    (s : State) → IsWorld s.world
    → OnGives (λ (made1 : List Held) s1. Holds (parameter_objects 0 parameters) made1 s1)
    (parameters_made parameters 0 args [] here s)
parameters_hold parameters t args here s w = gives_from
    (λ (made1 : List Held) s1. Holds (objects_with (parameter_objects 0 parameters) []) made1 s1)
    (λ (made1 : List Held) s1. Holds (parameter_objects 0 parameters) made1 s1) _
    (pushed_hold parameters t [] 0 args [] here s w (none_hold s))
    (λ made1 s1 holds slot size is. holds slot size (among_parameters parameters [] 0 slot size is))

-- ---- a mark

size_found : (objects : List Local) (slot at len : ℕ) → LieIn objects slot at len
    → (size : ℕ) × (size_in slot objects ≡ Some size) × (at + len ≤ size)
size_found objects slot at len lies = by_found (size_in slot objects) refl lies
  where
    by_found : (found : Option ℕ) → size_in slot objects ≡ found → IsSomeAnd found (λ size. at + len ≤ size)
        → (size : ℕ) × (size_in slot objects ≡ Some size) × (at + len ≤ size)
    by_found None is within = absurd within
    by_found (Some size) is within = (size, is, within)

pub mark_lies : (objects : List Local) (held : List Held) (s : State) → Holds objects held s → (slot at len : ℕ)
    → LieIn objects slot at len → has_range s.world.store (place_in slot held).object at len ≡ true
mark_lies objects held s holds slot at len lies =
    let size = size_found objects slot at len lies in
    let h : IsHeld held s slot size.0 = holds slot size.0 size.1 in
    rw h.1 (in_range s (as_living h.0) h.3 at len (omega (arith, size.2, h.2)))

-- ---- the marks of parameters

-- objects stand for these parameters, in order, and live
abbrev Stand : List Parameter → List Held → State → Type 0
Stand [] held s = held ≡ []
Stand (parameter ∷ rest) [] s = ⊥
Stand (parameter ∷ rest) (h ∷ held) s =
    (h.size ≡ content_size parameter.content) × Contains (living s) (as_living h) × Stand rest held s

stand_on : (parameters : List Parameter) (held : List Held) (s s1 : State) (top : List Living)
    → living s1 ≡ top ++ living s → Stand parameters held s → Stand parameters held s1
stand_on [] held s s1 top on_top stand = stand
stand_on (parameter ∷ rest) [] s s1 top on_top stand = absurd stand
stand_on (parameter ∷ rest) (h ∷ held) s s1 top on_top stand = (
  stand.0,
  subst (λ l. Contains l (as_living h)) (sym on_top) (Contains-append_right top (living s) (as_living h) stand.1),
  stand_on rest held s s1 top on_top stand.2,
)

ranges_lie : (h : Held) (ranges : List Range) (size : ℕ) → h.size ≡ size → LieWithin size ranges → (s : State)
    → IsWorld s.world → Contains (living s) (as_living h) → RangesLie h.number ranges s
ranges_lie h [] size same within s w lives = tt
ranges_lie h (range ∷ rest) size same within s w lives =
    let mark : Seal = record { at = range.at; len = range.len; mark = Const } in
    let r : Rests s (sealed h.number mark s) = seal_rests s h.number mark w in (
      in_range s (as_living h) lives range.at range.len (omega (arith, same, within.1)),
      ranges_lie h rest size same within.2 (sealed h.number mark s) r.world
          (subst (λ l. Contains l (as_living h)) (sym r.same) lives),
    )

stand_lie : (parameters : List Parameter) → ParametersTyped parameters → (held : List Held) (s : State)
    → IsWorld s.world → Stand parameters held s → MarksLie parameters held s
stand_lie [] t [] s w stand = tt
stand_lie [] t (h ∷ held) s w stand = tt
stand_lie (parameter ∷ rest) t [] s w stand = absurd stand
stand_lie (parameter ∷ rest) t (h ∷ held) s w stand =
    let r : Rests s (ranges_sealed h.number parameter.seals s) = ranges_rest h.number parameter.seals s w in (
      ranges_lie h parameter.seals (content_size parameter.content) stand.0 t.1 s w stand.1,
      stand_lie rest t.2 held (ranges_sealed h.number parameter.seals s) r.world
          (stand_on rest held s (ranges_sealed h.number parameter.seals s) [] r.same stand.2),
    )

-- in the order of the parameters, behind those that were made before
record InOrder (parameters : List Parameter) (made made1 : List Held) (s s1 : State) : Type 0 where
  more : List Held
  top : HeldOnTop made made1 s s1
  order : reverse made1 ≡ reverse made ++ more
  stand : Stand parameters more s1

ordered : (parameters : List Parameter) → ParametersTyped parameters → (slot : ℕ) (args : List Value)
    (made : List Held) (here : Pos) (s : State) → IsWorld s.world
    → OnGives (λ made1 s1. InOrder parameters made made1 s s1) (parameters_made parameters slot args made here s)
ordered [] t slot args made here s w = record {
  more = [];
  top = record { new = []; world = w; on_top = refl; held = refl };
  order = sym (append-nil (reverse made));
  stand = refl;
}
ordered (parameter ∷ rest) t slot args made here s w =
    let size : ℕ = content_size parameter.content in
    let Q : List Held → State → Type 0 = λ made1 s3. InOrder (parameter ∷ rest) made made1 s s3 in
    gives_then (IsMade size s) Q (automatic_made size s) _ (automatic_lives size s t.0.1 w) (λ place s1 m.
    gives_then (λ u s2. Rests s1 s2) Q (content_stored parameter.content place (first_value args) here s1) _
    (content_rests parameter.content place (first_value args) here s1 m.world) (λ u s2 r.
    let h : Held = held_at slot place size in
    let on_top : living s2 ≡ as_living h ∷ living s = r.same ∙ m.on_top in
    gives_from (λ made1 s3. InOrder rest (h ∷ made) made1 s2 s3) Q _
    (ordered rest t.2 (suc slot) _ (h ∷ made) here s2 r.world) (λ made1 s3 b. record {
      more = h ∷ b.more;
      top = held_on h made made1 s s2 s3 (record { world = r.world; on_top = on_top }) b.top;
      order = b.order ∙ ap (λ l. l ++ b.more) (reverse-append (h ∷ []) made)
          ∙ append_assoc (reverse made) (h ∷ []) b.more;
      stand = (
        refl,
        subst (λ l. Contains l (as_living h)) (sym (b.top.on_top ∙ ap (λ l. map as_living b.top.new ++ l) on_top))
            (Contains-append_right (map as_living b.top.new) (as_living h ∷ living s) (as_living h)
            (0, omega arith, refl)),
        b.stand,
      );
    })))

pub marks_lie : (parameters : List Parameter) → ParametersTyped parameters → (args : List Value) (here : Pos)
    (s : State) → IsWorld s.world
    → OnGives (λ (held : List Held) s1. HeldOnTop [] held s s1 × MarksLie parameters (reverse held) s1)
    (parameters_made parameters 0 args [] here s)
marks_lie parameters t args here s w = gives_from (λ made1 s1. InOrder parameters [] made1 s s1)
    (λ (held : List Held) s1. HeldOnTop [] held s s1 × MarksLie parameters (reverse held) s1) _
    (ordered parameters t 0 args [] here s w) (λ held s1 b. (
      b.top,
      stand_lie parameters t (reverse held) s1
          b.top.world (subst (λ l. Stand parameters l s1) (sym b.order) b.stand),
    ))
