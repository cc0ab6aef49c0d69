-- The parsers of statements and declarations of a height by those of the height below.
use Rattle.std.proofs.Common.{◌≡◌, ℕ, zero, suc, ◌-◌, refl, subst, arith}
use Rattle.c_syntax.specs.Scopes.{Scope}
use Rattle.c_reading.specs.ReadBody.{Statements, statements, statement_at, block_item_at, switch_item_at}
use Rattle.c_reading.specs.ReadBody.{declaration_at, declaration_lower}

abbrev pub above : ℕ → Statements
above k = record {
  statement = statement_at k (statements k);
  block_item =
      block_item_at k (statements k);
  switch_item = switch_item_at k (statements k);
}

pub statements_at : (h : ℕ) → (h ≡ 0 → ⊥) → statements h ≡ above (h - 1)
statements_at zero some = absurd (some refl)
statements_at (suc k) some = let below : k ≡ suc k - 1 = omega arith in
    subst (λ j. statements (suc k) ≡ above j) below refl

pub declaration_below : (h : ℕ) (scope : Scope) → (h ≡ 0 → ⊥) → declaration_lower h scope ≡ declaration_at (h - 1) scope
declaration_below zero scope some = absurd (some refl)
declaration_below (suc k) scope some = let below : k ≡ suc k - 1 = omega arith in
    subst (λ j. declaration_lower (suc k) scope ≡ declaration_at j scope) below refl
