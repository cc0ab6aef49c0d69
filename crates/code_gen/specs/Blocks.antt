-- The objects of blocks and of parameters (6.2.4p6, 6.8.2, 6.9.1p9).
use Rattle.std.specs.Prelude.{ℕ, suc, List, [], ◌∷◌, ◌++◌, drop}
use Rattle.critical_table.specs.declared.pos.Pos.{Pos}
use Rattle.object_store.specs.declared.mark.Mark.TheVariants.{Const}
use Rattle.object_store.specs.declared.pointer.Pointer.{Pointer}
use Rattle.lib_defs.specs.declared.value.Value.{Value}
use Rattle.lib_defs.specs.declared.value.Value.TheVariants.{Nothing}
use Rattle.run_defs.specs.State.{State, sealed}
use Rattle.run_defs.specs.Evaluation.{Evaluation, Gives, bind, automatic_made}
use Rattle.c_core.specs.declared.function.Range.{Range}
use Rattle.c_core.specs.declared.statement.Local.{Local}
use Rattle.c_core.specs.TreeUnit.{Parameter}
use Rattle.c_core.specs.Types.{content_size}
use Rattle.vm_code.specs.Slots.{Held, numbers, all_died}
use Rattle.vm_code.specs.Accesses.{content_stored}

-- the object in a slot
abbrev pub held_at : ℕ → Pointer → ℕ → Held
held_at slot place size = record { slot = slot; number = place.object; size = size }

-- objects are made in order; gives them, the last first, in front of others
abbrev pub locals_made : List Local → List Held → State → Evaluation (List Held)
locals_made [] made s = Gives made s
locals_made (local ∷ rest) made s = bind (automatic_made local.size s) (λ place s1.
    locals_made rest (held_at local.slot place local.size ∷ made) s1)

-- A block: its objects are made as it is entered, and die as it is left, the last made first.
abbrev pub in_block : {A : Type 0} → List Local → (List Held → State → Evaluation A) → List Held → State → Evaluation A
in_block locals items held s = bind (locals_made locals [] s) (λ made s1.
    bind (items (made ++ held) s1) (λ flow s2. Gives flow (all_died (numbers made) s2)))

-- ---- parameters

-- the value of the next parameter; a well-typed call has one for each
abbrev pub first_value : List Value → Value
first_value [] = Nothing
first_value (value ∷ rest) = value

-- each parameter is made and stored in turn; gives them, the last first
abbrev pub parameters_made : List Parameter → (slot : ℕ) → List Value → List Held → Pos → State → Evaluation (List Held)
parameters_made [] slot args made here s = Gives made s
parameters_made (parameter ∷ rest) slot args made here s =
    bind (automatic_made (content_size parameter.content) s) (λ place s1.
    bind (content_stored parameter.content place (first_value args) here s1) (λ u s2.
    parameters_made rest (suc slot) (drop 1 args) (held_at slot place (content_size parameter.content) ∷ made) here s2))

-- bytes of an object are const (6.7.3p6)
abbrev pub ranges_sealed : ℕ → List Range → State → State
ranges_sealed number [] s = s
ranges_sealed number (range ∷ rest) s =
    ranges_sealed number rest (sealed number (record { at = range.at; len = range.len; mark = Const }) s)

-- the marks of parameters are set in order, once all are stored
abbrev pub parameters_sealed : List Parameter → List Held → State → State
parameters_sealed [] held s = s
parameters_sealed (parameter ∷ rest) [] s = s
parameters_sealed (parameter ∷ rest) (held ∷ more) s =
    parameters_sealed rest more (ranges_sealed held.number parameter.seals s)
