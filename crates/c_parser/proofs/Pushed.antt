-- A list of nodes with one more behind it: its height, and the names that it adds.
use Rattle.std.proofs.Common.{◌≡◌, ℕ, ◌≤◌, max, List, [], ◌∷◌, ◌++◌, map, sym, ◌∙◌, ap, append_assoc, arith}
use Rattle.std.proofs.lemmas.List.{append-nil, map-append}
use Rattle.c_syntax.specs.declared.expression.Expr.{Expr}
use Rattle.c_syntax.specs.Height.{height, exprs_height}
use Rattle.c_syntax.specs.Scopes.{Scope, expr_adds, exprs_add}
use Rattle.c_syntax.specs.View.{expr_of, exprs}

pub pushed : {A B : Type 0} (f : A → B) (all : List A) (one : A) (more : List A) → more ≡ all ++ one ∷ []
    → map f more ≡ map f all ++ f one ∷ []
pushed f all one more e = ap (map f) e ∙ map-append f all (one ∷ [])

-- what is in scope behind one more
pub added : (start before after all one more : Scope) → before ≡ start ++ all → after ≡ before ++ one
    → more ≡ all ++ one → after ≡ start ++ more
added start before after all one more h then both = then ∙ ap (λ s. s ++ one) h ∙ append_assoc start all one
    ∙ ap (λ s. start ++ s) (sym both)

-- what one more does to the height of such a list, and to the names that it adds
pub record Row {N A : Type 0} (view : N → A) (one_high : A → ℕ) (one_adds : A → Scope) (high : List N
    → ℕ) (adds : List N → Scope) : Type 0 where
  pub higher : (all : List N) (one : N) → high (all ++ one ∷ []) ≡ max (high all) (one_high (view one))
  pub add_more : (all : List N) (one : N) → adds (all ++ one ∷ []) ≡ adds all ++ one_adds (view one)

module _ {N A : Type 0} {view : N → A} {one_high : A → ℕ} {one_adds : A → Scope} {high : List N → ℕ} {adds : List N
    → Scope} (row : Row view one_high one_adds high adds) where
  pub row_height : {all more : List N} {one : N} {k tall one_tall taller : ℕ} → more ≡ all ++ one ∷ []
      → (tall ≡ high all) × (tall ≤ k) → taller ≡ max tall one_tall
      → (one_tall ≡ one_high (view one)) × (one_tall ≤ k) → (taller ≡ high more) × (taller ≤ k)
  row_height {all} {more} {one} pushes known grows one_known =
      let h = ap high pushes ∙ row.higher all one in
      (omega (arith, h, known.0, grows, one_known.0), omega (arith, known.1, grows, one_known.1))

  pub row_scope : (all : List N) (one : N) (start : Scope) {more : List N} {before after : Scope}
      → more ≡ all ++ one ∷ [] → before ≡ start ++ adds all → after ≡ before ++ one_adds (view one)
      → after ≡ start ++ adds more
  row_scope all one start {more} {before} {after} pushes known then =
      added start before after (adds all) (one_adds (view one)) (adds more) known
      then (ap adds pushes ∙ row.add_more all one)

exprs_higher : (all : List Expr) (one : Expr) → exprs_height (exprs (map expr_of (all ++ one ∷ [])))
    ≡ max (exprs_height (exprs (map expr_of all))) (height (expr_of one))
exprs_higher [] one = omega arith
exprs_higher (first ∷ rest) one = let h = exprs_higher rest one in omega arith

exprs_add_more : (all : List Expr) (one : Expr) → exprs_add (exprs (map expr_of (all ++ one ∷ [])))
    ≡ exprs_add (exprs (map expr_of all)) ++ expr_adds (expr_of one)
exprs_add_more [] one = append-nil (expr_adds (expr_of one))
exprs_add_more (first ∷ rest) one =
    ap (λ more. expr_adds (expr_of first) ++ more) (exprs_add_more rest one)
    ∙ sym (append_assoc (expr_adds (expr_of first)) (exprs_add (exprs (map expr_of rest)))
    (expr_adds (expr_of one)))

pub expr_row : Row expr_of height expr_adds (λ all. exprs_height (exprs (map expr_of all)))
    (λ all. exprs_add (exprs (map expr_of all)))
expr_row = record { higher = exprs_higher; add_more = exprs_add_more }
