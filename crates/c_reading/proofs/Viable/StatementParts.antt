-- Where the reading of a part of a statement stops, one begins with what was read.
use Rattle.std.proofs.Common.{◌≡◌, inl, inr, ℕ, zero, suc, ◌<◌, List, [], ◌∷◌, Bool, true, false, Some, None, refl}
use Rattle.std.proofs.Common.{sym, append-nil, arith}
use Rattle.c_lexer.specs.declared.punct.Punct.{Punct}
use Rattle.c_lexer.specs.declared.punct.Punct.TheVariants as p
use Rattle.c_lexer.specs.declared.token.Token.{Token}
use Rattle.c_syntax.specs.Begin.{Begins}
use Rattle.c_syntax.specs.Height.{height}
use Rattle.c_syntax.specs.HeightUnit.{declaration_height, optional_height, for_init_height}
use Rattle.c_syntax.specs.Levels.{expression}
use Rattle.c_reading.specs.Parser.{Why, Stopped, ◌>>=◌, pure, expect, next_body, place}
use Rattle.c_reading.specs.ReadBody.{Statements, declaration_lower, an_expr, optional, controlling, for_init_by}
use Rattle.c_reading.specs.ReadBody.{for_init}
use Rattle.c_reading.specs.ReadSpecifier.{parsers}
use Rattle.c_reading.specs.ReadToken.{is_mark, begins_type}
use Rattle.c_syntax.specs.Scopes.{Scope}
use Rattle.c_syntax.specs.Spelling.{spell}
use Rattle.c_syntax.specs.SpellingUnit.{spell_declaration, spell_for_init, spell_controlling}
use Rattle.c_syntax.specs.Tokens.{mark}
use Rattle.c_syntax.specs.TreeUnit.{WithDeclaration, WithExpression}
use Rattle.c_syntax.specs.WellFormed.{IsExpr}
use Rattle.c_syntax.specs.WellFormedUnit.{IsDeclaration, IsOptional, IsForInit}
use Rattle.c_reading.proofs.Viable.Completions.{before_part, fewer, refused_behind, too_deep_in}
use Rattle.c_reading.proofs.Viable.Contexts.{bind_stopped, given_stopped, close_stopped, mark_stopped}
use Rattle.c_reading.proofs.Viable.Contexts.{expr_lower_stopped, Completed, Context, refused, into}
use Rattle.c_reading.proofs.Sound.Steps.{chosen, nothing_spelt}
use Rattle.c_reading.proofs.Sound.Expr.{expr_lower_found}
use Rattle.c_reading.proofs.Sound.Specifier.{parsers_sound}
use Rattle.c_reading.proofs.Viable.Started.{least_expr, expr_begun}
use Rattle.c_reading.proofs.Viable.StatementContexts.{spell_up_to}
use Rattle.c_reading.proofs.Viable.Law.{Holds}
use Rattle.c_reading.proofs.Viable.Declaration.{declaration_viable}
use Rattle.c_reading.proofs.Viable.Declarator.{parsers_viable}

-- ---- up to a mark, an expression or none

abbrev pub BeginsOptional : Punct → Scope → ℕ → List Token → Type 0
BeginsOptional m scope = Begins (λ e. IsOptional e scope) optional_height (spell_up_to m)

some_expr : (m : Punct) (scope : Scope)
    → Context (λ e. IsExpr e scope expression) height spell (λ e. IsOptional e scope) optional_height
    (spell_up_to m) (λ j. j) 0 []
some_expr m scope = record {
  make = λ e. Some e;
  behind = mark m ∷ [];
  fits = λ e fits. fits;
  within =
      λ e j others low. low;
  spells = λ e. refl;
}

no_expr : (m : Punct) (scope : Scope) (k : ℕ) → Completed (λ e. IsOptional e scope) optional_height (spell_up_to m) k []
no_expr m scope k = record { node = None; more = mark m ∷ []; fits = tt; within = omega arith; parts = refl }

-- ---- an expression in parentheses

abbrev pub BeginsTest : Scope → ℕ → List Token → Type 0
BeginsTest scope = Begins (λ e. IsExpr e scope expression) height spell_controlling

in_parens : (scope : Scope)
    → Context (λ e. IsExpr e scope expression) height spell (λ e. IsExpr e scope expression) height
    spell_controlling (λ j. j) 0 (mark p.OpenParen ∷ [])
in_parens scope = record {
  make = λ e. e;
  behind = mark p.CloseParen ∷ [];
  fits = λ e fits. fits;
  within =
      λ e j others low. low;
  spells = λ e. refl;
}

-- ---- what stands before the first semicolon of a for

abbrev pub BeginsForInit : Scope → ℕ → List Token → Type 0
BeginsForInit scope = Begins (λ one. IsForInit one scope) for_init_height spell_for_init

with_declaration : (scope : Scope)
    → Context (λ one. IsDeclaration one scope) declaration_height spell_declaration (λ one. IsForInit one scope)
    for_init_height spell_for_init (λ j. j) 0 []
with_declaration scope = record {
  make = λ one. WithDeclaration one;
  behind = [];
  fits = λ one fits. fits;
  within =
      λ one j others low. low;
  spells = λ one. sym (append-nil (spell_declaration one));
}

with_expression : (scope : Scope)
    → Context (λ e. IsOptional e scope) optional_height (spell_up_to p.Semicolon) (λ one. IsForInit one scope)
    for_init_height spell_for_init (λ j. j) 0 []
with_expression scope = record {
  make = λ e. WithExpression e;
  behind = [];
  fits = λ e fits. fits;
  within =
      λ e j others low. low;
  spells = λ e. sym (append-nil (spell_up_to p.Semicolon e));
}

declaration_lower_viable : (k : ℕ) (scope : Scope) (tokens rest : List Token) (why : Why) → 0 < k
    → declaration_lower k scope tokens ≡ Stopped why rest
    → Holds (Begins (λ one. IsDeclaration one scope) declaration_height spell_declaration) k tokens why rest
declaration_lower_viable zero scope tokens rest why some h = absurd (omega (arith, some))
declaration_lower_viable (suc k) scope tokens rest why some h = declaration_viable k scope tokens rest why h

module _ (k : ℕ) (low : Statements) where
  some_viable : (m : Punct) (scope : Scope) (tokens rest : List Token) (why : Why)
      → (an_expr k low scope >>= λ e. expect (is_mark m) >>= λ _. pure (Some e)) tokens ≡ Stopped why rest
      → Holds (BeginsOptional m scope) k tokens why rest
  unfolding an_expr
  some_viable m scope tokens rest why h =
      elim (bind_stopped (an_expr k low scope tokens) (λ e. expect (is_mark m) >>= λ _. pure (Some e)) why rest h) [
        | inl x ↦ expr_lower_stopped (Holds (BeginsOptional m scope) k tokens) scope k
            ((parsers k).expr scope expression) tokens why rest x
            (refused (nothing_spelt tokens) (no_expr m scope k))
            (λ begins. too_deep_in (some_expr m scope) (nothing_spelt tokens) (no_expr m scope k)
            (expr_begun scope expression (omega arith) (place tokens) (next_body tokens) begins))
            (λ some h. into (some_expr m scope) (omega arith) (nothing_spelt tokens)
            ((parsers_viable k).expr scope expression tokens rest why (omega arith) some h))
        | inr x ↦
            let read = (parsers_sound k).expr scope expression (omega arith) tokens x.mid x.value
            (expr_lower_found scope k ((parsers k).expr scope expression) tokens x.mid x.value x.one) in
            close_stopped m (Some x.value) (Holds (BeginsOptional m scope) k tokens) x.mid why rest x.two
            (refused_behind (some_expr m scope) (omega arith) (nothing_spelt tokens) read)
      ]

  pub optional_viable : (m : Punct) (scope : Scope) (tokens rest : List Token) (why : Why)
      → optional k low (is_mark m) scope tokens ≡ Stopped why rest → Holds (BeginsOptional m scope) k tokens why rest
  unfolding optional
  optional_viable m scope tokens rest why h =
      elim (chosen (is_mark m (next_body tokens)) _ _ tokens (Stopped why rest) h) [
        | inl x ↦ absurd (cc (x.1))
        | inr x ↦ some_viable m scope tokens rest why x.1
      ]

  pub controlling_viable : (scope : Scope) (tokens rest : List Token) (why : Why) → 0 < k
      → controlling k low scope tokens ≡ Stopped why rest → Holds (BeginsTest scope) k tokens why rest
  unfolding controlling
  controlling_viable scope tokens rest why some h =
      mark_stopped p.OpenParen ((parsers k).expr scope expression >>= λ test. expect (is_mark p.CloseParen)
      >>= λ _. pure test) (Holds (BeginsTest scope) k tokens) tokens why rest h
      (refused (nothing_spelt tokens)
      (fewer [] (mark p.OpenParen ∷ [])
      (before_part (in_parens scope) k least_expr tt (omega (arith, some)) (omega arith))))
      (λ mid behind_paren h.
      elim (bind_stopped ((parsers k).expr scope expression mid) (λ test. expect (is_mark p.CloseParen)
      >>= λ _. pure test) why rest h) [
        | inl x ↦ into (in_parens scope) (omega arith) behind_paren
            ((parsers_viable k).expr scope expression mid rest why (omega arith) some x)
        | inr x ↦ close_stopped p.CloseParen x.value (Holds (BeginsTest scope) k tokens) x.mid why rest x.two
            (refused_behind (in_parens scope) (omega arith) behind_paren
            ((parsers_sound k).expr scope expression (omega arith) mid x.mid x.value x.one))
      ])

  for_init_by_viable : (scope : Scope) (tokens rest : List Token) (why : Why) (b : Bool) → 0 < k
      → for_init_by k low scope b tokens ≡ Stopped why rest → Holds (BeginsForInit scope) k tokens why rest
  for_init_by_viable scope tokens rest why true some h =
      into (with_declaration scope) (omega arith) (nothing_spelt tokens)
      (declaration_lower_viable k scope tokens rest why some
      (given_stopped (declaration_lower k scope tokens) (λ one. WithDeclaration one) why rest h))
  for_init_by_viable scope tokens rest why false some h =
      into (with_expression scope) (omega arith) (nothing_spelt tokens)
      (optional_viable p.Semicolon scope tokens rest why
      (given_stopped (optional k low (is_mark p.Semicolon) scope tokens) (λ e. WithExpression e) why rest h))

  pub for_init_viable : (scope : Scope) (tokens rest : List Token) (why : Why) → 0 < k
      → for_init k low scope tokens ≡ Stopped why rest → Holds (BeginsForInit scope) k tokens why rest
  unfolding for_init
  for_init_viable scope tokens rest why some h =
      for_init_by_viable scope tokens rest why (begins_type scope (next_body tokens)) some h
