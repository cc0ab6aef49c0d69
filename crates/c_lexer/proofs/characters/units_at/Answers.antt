-- Each turn adds the unit of one item, which an i64 holds.
use Rattle.std.proofs.Common.{◌≡◌, ◌++◌, [], ◌∷◌, sym, ◌∙◌, ap}
use Rattle.std.specs.Prelude.{ℤ}
use Rattle.std.proofs.lemmas.Int.{to_z-of_z}
use Rattle.std.proofs.Common.{arith}
use Rattle.std.proofs.lemmas.Int.{ints}
use mir.Syntax.{w32, w64}
use mir.Val.{SFits}
use Rattle.c_lexer.specs.Characters.{unit_of}
use Rattle.c_lexer.proofs.UnitLaws.{units_turn}
use Rattle.c_lexer.proofs.characters.units_at.Goals as goal

pub loop-value-preserved : goal.loop-value-preserved
loop-value-preserved c =
    let fits : SFits w64 c.from.result = omega (arith, ints, c.from.type_inv) in
    let narrow : SFits w32 c.unit_of.result = omega (arith, ints, c.unit_of.type_inv) in
    let now : c.push.new.self.items ≡ c.loop-value.units.items ++ (unit_of c.args.wide c.in-Some.value ∷ []) =
    c.in_ok-push.ensures.items
    ∙ ap (λ (u : ℤ). c.loop-value.units.items ++ (u ∷ [])) (to_z-of_z w64 c.from.result fits
    ∙ (c.from.ensures ∙ (to_z-of_z w32 c.unit_of.result narrow ∙ c.unit_of.ensures))) in
    units_turn c.args.wide c.loop-value.units.items c.push.new.self.items c.loop-value.rest.now (
      c.in-Some.value,
      c.in-Some.after.now,
    ) _ (sym c.in-Some.ensures.value) now c.loop-value.invariant
