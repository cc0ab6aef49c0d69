-- Whole units: one that is well-formed, the greatest height, and the empty text.
use Rattle.std.proofs.Common.{◌≡◌, inl, inr, ℕ, zero, suc, ◌+◌, true, false, List, [], ◌∷◌, Some, refl, ap, arith}
use Rattle.std.specs.Prelude.{codes}
use Rattle.critical_table.specs.declared.refusal.Refusal.TheVariants.{Syntax}
use Rattle.c_syntax.specs.declared.expression.Constant.TheVariants as constant
use Rattle.c_syntax.specs.declared.specifier.BasicWord.TheVariants.{Void}
use Rattle.c_syntax.specs.declared.spelled.Spelled.{Spelled}
use Rattle.c_syntax.specs.Tree as tree
use Rattle.c_syntax.specs.Tree.{Expr}
use Rattle.c_syntax.specs.TreeUnit.{Return, Executes, NoBlockItem, MoreBlockItems, Defines, Declaring, Tree}
use Rattle.c_syntax.specs.Height.{height}
use Rattle.c_syntax.specs.HeightUnit.{tree_height}
use Rattle.c_syntax.specs.Levels.{expression}
use Rattle.c_syntax.specs.Scopes.{Scope}
use Rattle.c_syntax.specs.Tokens.{Match}
use Rattle.c_syntax.specs.WellFormed.{IsExpr}
use Rattle.c_syntax.specs.WellFormedUnit.{IsTree, IsWellFormed}
use Rattle.c_syntax.specs.Parsing.{RefusedAt}
use Rattle.c_syntax.proofs.EmptyLaws.{some_tree}
use Rattle.c_syntax.proofs.Examples.{here, int}

abbrev nought : Expr
nought = tree.Const here (constant.Number (record { value = 0; decimal = true; unsigned = false; longs = 0 }))

abbrev in_parentheses : ℕ → Expr → Expr
in_parentheses zero expr = expr
in_parentheses (suc n) expr = tree.Paren (in_parentheses n expr)

-- int main(void) {return expr;}
abbrev main_returns : Expr → Tree
main_returns expr = record {
  externals = Defines (record {
    specifiers = int;
    declarator = tree.FunctionOf (tree.Name here (codes "main"))
        (tree.MoreParameters (tree.Param (tree.MoreSpecifiers (tree.BasicType here Void) tree.NoSpecifier)
        tree.Omitted) tree.NoParameter) false;
    body = MoreBlockItems (Executes (Return here (Some expr))) NoBlockItem;
  }) ∷ [];
  end = here;
}

parentheses_fit : (n : ℕ) (scope : Scope) → IsExpr (in_parentheses n nought) scope expression
parentheses_fit zero scope = tt
parentheses_fit (suc n) scope = parentheses_fit n scope

main_fits : (n : ℕ) → IsTree (main_returns (in_parentheses n nought))
main_fits n = (
  λ e. cc (e),
  (
    (
      inl (omega arith, refl),
      (tt, tt),
      (tt, tt, ((inl (omega arith, refl), (tt, tt), tt, tt), tt), tt),
      refl,
      refl,
      (parentheses_fit n _, tt),
    ),
    tt,
  ),
)

parentheses_high : (n : ℕ) → height (in_parentheses n nought) ≡ n + 1
parentheses_high zero = refl
parentheses_high (suc n) = omega (arith, ap suc (parentheses_high n))

main_high : (n : ℕ) → tree_height (main_returns (in_parentheses n nought)) ≡ n + 5
main_high n = omega (arith, parentheses_high n)

pub deepest : IsWellFormed (main_returns (in_parentheses 251 nought))
deepest = (main_fits 251, omega (arith, main_high 251))

pub too_deep : IsWellFormed (main_returns (in_parentheses 252 nought)) → ⊥
too_deep is = omega (arith, main_high 252, is.1)

-- the empty text is refused at its end, since int; begins with nothing
none_matches : (spelled : List Spelled) → Match [] spelled → spelled ≡ []
none_matches [] match = refl
none_matches (first ∷ more) match = absurd match

pub empty_text : RefusedAt (record { tokens = []; end = here }) Syntax here
empty_text = inr (record {
  place = refl;
  begins = record {
    node = record { externals = Declaring (record { specifiers = int; declarators = [] }) ∷ []; end = here };
    front = [];
    more = _;
    fits = (λ e. cc (e), ((inl (omega arith, refl), (tt, tt), tt), tt));
    within = omega arith;
    parts = refl;
    match = tt;
  };
  none = λ syntactic. some_tree syntactic.0 syntactic.1.0 (none_matches _ syntactic.2);
  reason = refl;
})
