-- Pieces of code, and texts, behind one another.
use Rattle.std.proofs.lemmas.List.{length-append}
use Rattle.std.specs.Prelude.{length}
use Rattle.std.specs.Prelude.{◌++◌}
use Rattle.std.proofs.Common.{◌≡◌, ℕ, ◌+◌, List, [], ◌∷◌, subst}
use Rattle.std.proofs.Common.{arith}
use Rattle.critical_table.specs.declared.pos.Pos.{Pos}
use Rattle.vm_code.specs.declared.instr.Instr.{Instr}
use Rattle.vm_code.specs.declared.parts.CodeFunction.{CodeFunction}
use Rattle.vm_code.specs.Contents.{Contents}
use Rattle.code_gen.specs.RunLaw.{StandAt, Running}
use Rattle.code_gen.specs.StatementRunLaw.{TextsStandAt}
use Rattle.code_gen.proofs.Going.{stand_front, stand_back}
use Rattle.code_gen.proofs.PlainStretches as stretch

-- ---- texts behind one another

pub texts_front : (code : Contents) (text : ℕ) (a b : List (List ℕ)) → TextsStandAt code text (a ++ b)
    → TextsStandAt code text a
texts_front code text [] b h = tt
texts_front code text (x ∷ a) b h = (h.0, texts_front code (text + 1) a b h.1)

pub texts_back : (code : Contents) (text : ℕ) (a b : List (List ℕ)) → TextsStandAt code text (a ++ b)
    → TextsStandAt code (text + length a) b
texts_back code text [] b h =
    let same : text ≡ text + 0 = omega arith in subst (λ k. TextsStandAt code k b) same h
texts_back code text (x ∷ a) b h =
    let same : text + 1 + length a ≡ text + length (x ∷ a) = omega arith in
    subst (λ k. TextsStandAt code k b) same (texts_back code (text + 1) a b h.1)

module _ (it : Running) where
  abbrev code : Contents
  code = it.code

  abbrev function : CodeFunction
  function = it.function

  -- ---- four pieces of code behind one another

  pub record Pieces (at l k m : ℕ) (a z b c : List (Instr × Pos)) : Type 0 where
    pub first : StandAt code function at a
    pub second : StandAt code function (at + l) z
    pub third : StandAt code function (at + (l + k)) b
    pub last : StandAt code function (at + (l + (k + m))) c

  pub in_pieces : (at l k m : ℕ) (a z b c : List (Instr × Pos)) → length a ≡ l → length z ≡ k → length b ≡ m
      → StandAt code function at (a ++ z ++ b ++ c) → Pieces at l k m a z b c
  in_pieces at l k m a z b c long_a long_z long_b stands =
      let three : StandAt code function at (a ++ z ++ b) = stand_front code function at (a ++ z ++ b) c stands in
      let two : StandAt code function at (a ++ z) = stand_front code function at (a ++ z) b three in
      record {
        first = stand_front code function at a z two;
        second = stand_back code function at l a z long_a two;
        third = stretch.behind_two it 0 at l k a z b long_a long_z three;
        last = stand_back code function at (l + (k + m)) (a ++ z ++ b) c
            (omega (arith, length-append (a ++ z) b, length-append a z, long_a, long_z, long_b)) stands;
      }
