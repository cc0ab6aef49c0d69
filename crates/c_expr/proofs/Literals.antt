-- A literal with very many units has too many bytes.
use Rattle.std.proofs.Common.{◌≡◌, ◌≤◌, ◌*◌, ◌+◌, ◌∷◌, [], ℕ, Bool, true, false, ap, arith}
use Rattle.std.specs.Prelude.{nat_le}
use Rattle.std.proofs.lemmas.Bool.Decides.{nat_tests}
use Rattle.critical_table.specs.declared.pos.Pos.{Pos}
use Rattle.c_scopes.specs.Ruled.{Breaks, ruled}
use Rattle.c_expr_rules.specs.Primary.{literal_rule, literal_part}

exceeds : (n : ℕ) → 4294967296 ≤ n → nat_le n 16777216 ≡ false
exceeds n h = grind (arith, nat_tests)

pub too_long : (at : Pos) (wide : Bool) (units : ℕ) → 4294967296 ≤ units → literal_rule at wide units ≡ Breaks 8
too_long at true units h =
    ap (λ test. ruled ((8, test) ∷ []) (literal_part at true units)) (exceeds ((units + 1) * 4) (omega arith))
too_long at false units h =
    ap (λ test. ruled ((8, test) ∷ []) (literal_part at false units)) (exceeds ((units + 1) * 1) (omega arith))
