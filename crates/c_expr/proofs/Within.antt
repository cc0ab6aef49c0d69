-- A part of a list of trees has less than the list.
use Rattle.std.proofs.Common.{ℕ, zero, suc, ◌<◌, List, [], ◌∷◌, length, map, get_or, arith}
use Rattle.c_syntax.specs.declared.expression.Expr as e
use Rattle.c_syntax.specs.View.{expr_of, exprs}
use Rattle.c_expr.proofs.Size.{size, exprs_size}

-- an argument has less than all of them
pub size_within : (all : List e.Expr) (i : ℕ) (d : e.Expr) → i < length all
    → size (expr_of (get_or all i d)) < exprs_size (exprs (map expr_of all))
size_within [] i d h = absurd (omega arith)
size_within (first ∷ rest) zero d h = omega arith
size_within (first ∷ rest) (suc i) d h =
    let below : i < length rest = omega arith in
    let inner = size_within rest i d below in
    omega arith
