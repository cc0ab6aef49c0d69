-- Declarators, type names, parameters and members are read the same with more height.
use Rattle.std.proofs.Common.{ℕ, ◌≤◌, false, List, ◌++◌, Option, Some}
use Rattle.critical_table.specs.declared.pos.Pos.{Pos}
use Rattle.c_lexer.specs.declared.punct.Punct.TheVariants as p
use Rattle.c_lexer.specs.declared.token.Body.{Body}
use Rattle.c_lexer.specs.declared.token.Body.TheVariants as lexeme
use Rattle.c_reading.specs.declared.declarator_form.DeclaratorForm.{DeclaratorForm}
use Rattle.c_reading.specs.declared.declarator_form.DeclaratorForm.TheVariants as form
use Rattle.c_syntax.specs.Height.{declarator_height}
use Rattle.c_syntax.specs.Levels.{conditional}
use Rattle.c_reading.specs.Parser.{Parser, Unfit, TooDeep, ◌>>=◌, pure, fail, skip, choose, expect, next_body, place}
use Rattle.c_reading.specs.ReadToken.{is_mark, begins_type}
use Rattle.c_reading.specs.ReadExpr.{Parsers, expr_lower}
use Rattle.c_reading.specs.ReadDeclarator.{begins_declarator, omission, no_declarator, qualifiers, listed_parameters}
use Rattle.c_reading.specs.ReadDeclarator.{parameters_by, parameters_at, length_by, array_on, function_on, suffix_by}
use Rattle.c_reading.specs.ReadDeclarator.{suffix_on, suffixes, nested_declarator, omitted_list, behind_paren}
use Rattle.c_reading.specs.ReadDeclarator.{open_by, room, pointer, name_by, bracket_by, declarator_by, declarator_at}
use Rattle.c_reading.specs.ReadDeclarator.{type_name_at, parameter_at, listed_declarators, member_by, member_on}
use Rattle.c_reading.specs.ReadDeclarator.{member_at}
use Rattle.c_syntax.specs.Scopes.{Scope, specifiers_add, declarator_adds}
use Rattle.c_syntax.specs.Tree as tree
use Rattle.c_syntax.specs.Tree.{Specifiers, Declarator}
use Rattle.c_syntax.specs.View.{declarators, parameters}
use Rattle.c_reading.proofs.Grows.Steps.{Grown, grown_same, deep_grown, grown_bind, grown_then, grown_before}
use Rattle.c_reading.proofs.Grows.Steps.{grown_skip, grown_peek, grown_here, grown_choose, grown_deeper, still_fits}
use Rattle.c_reading.proofs.Grows.Steps.{listed_grown, climb_grown}
use Rattle.c_reading.proofs.Grows.Law.{AllGrown}
use Rattle.c_reading.proofs.Grows.Expr.{grown_expr_lower}

module _ (k k' : ℕ) (le : k ≤ k') (low low' : Parsers) (on : AllGrown low low') where
  -- ---- parameters

  listed_parameters_grown : (scope : Scope) → Grown (listed_parameters k low scope) (listed_parameters k' low' scope)
  unfolding listed_parameters
  listed_parameters_grown scope = listed_grown _ _ _ _ _ _ on.parameter scope

  parameters_at_grown : (scope : Scope) → Grown (parameters_at k low scope) (parameters_at k' low' scope)
  unfolding parameters_at
  parameters_at_grown scope = grown_peek _ _ by
    where
      by : (o : Option Body) → Grown (parameters_by k low scope o) (parameters_by k' low' scope o)
      by (Some (lexeme.Mark p.CloseParen)) = grown_same (skip (pure (tree.NoParameter, false)))
      by o = grown_then (listed_parameters k low scope) (listed_parameters k' low' scope)
          (λ all. expect (is_mark p.CloseParen) >>= λ _. pure (parameters all.0, all.1)) (listed_parameters_grown scope)

  -- ---- what follows the identifier

  length_grown : (scope : Scope) (left : Declarator)
      → Grown (expr_lower (scope ++ declarator_adds left) k (low.expr (scope ++ declarator_adds left) conditional)
      >>= λ length. expect (is_mark p.CloseBracket) >>= λ _. pure (tree.ArrayOf left (tree.With length)))
      (expr_lower (scope ++ declarator_adds left) k' (low'.expr (scope ++ declarator_adds left) conditional)
      >>= λ length. expect (is_mark p.CloseBracket) >>= λ _. pure (tree.ArrayOf left (tree.With length)))
  length_grown scope left =
      grown_then _ _ (λ length. expect (is_mark p.CloseBracket) >>= λ _. pure (tree.ArrayOf left (tree.With length)))
      (grown_expr_lower (scope ++ declarator_adds left) k k' _ _ le
      (on.expr (scope ++ declarator_adds left) conditional))

  array_on_grown : (scope : Scope) (left : Declarator) → Grown (array_on k low scope left) (array_on k' low' scope left)
  unfolding array_on
  array_on_grown scope left = grown_peek _ _ by
    where
      by : (o : Option Body) → Grown (length_by k low scope left o) (length_by k' low' scope left o)
      by (Some (lexeme.Mark p.CloseBracket)) = grown_same (skip (pure (tree.ArrayOf left tree.Without)))
      by o = length_grown scope left

  function_on_grown : (scope : Scope) (left : Declarator)
      → Grown (function_on k low scope left) (function_on k' low' scope left)
  unfolding function_on
  function_on_grown scope left =
      grown_then _ _ (λ all. pure (tree.FunctionOf left all.0 all.1))
      (parameters_at_grown (scope ++ declarator_adds left))

  suffix_on_grown : (scope : Scope) (left : Declarator)
      → Grown (suffix_on k low scope left) (suffix_on k' low' scope left)
  unfolding suffix_on
  suffix_on_grown scope left = grown_peek _ _ by
    where
      by : (o : Option Body) → Grown (suffix_by k low scope left o) (suffix_by k' low' scope left o)
      by (Some (lexeme.Mark p.OpenBracket)) = grown_skip _ _ (array_on_grown scope left)
      by (Some (lexeme.Mark p.OpenParen)) = grown_skip _ _ (function_on_grown scope left)
      by o = grown_same (fail Unfit)

  suffixes_grown : (scope : Scope) (left : Declarator) → Grown (suffixes k low scope left) (suffixes k' low' scope left)
  unfolding suffixes
  suffixes_grown scope left =
      climb_grown _ _ _ _ _ (λ d. still_fits (declarator_height d) k k' le) (suffix_on_grown scope) k k' left le

  -- ---- what a declarator begins with

  nested_declarator_grown : (shape : DeclaratorForm) (scope : Scope)
      → Grown (nested_declarator k low shape scope) (nested_declarator k' low' shape scope)
  unfolding nested_declarator
  nested_declarator_grown shape scope =
      grown_before _ _ (is_mark p.CloseParen) _ _ (on.declarator shape scope)
      (λ inner. suffixes_grown scope (tree.DParen inner))

  omitted_list_grown : (scope : Scope) → Grown (omitted_list k low scope) (omitted_list k' low' scope)
  unfolding omitted_list
  omitted_list_grown scope =
      grown_before _ _ (is_mark p.CloseParen) _ _ (listed_parameters_grown scope)
      (λ all. suffixes_grown scope (tree.FunctionOf tree.Omitted (parameters all.0) all.1))

  behind_paren_grown : (shape : DeclaratorForm) (scope : Scope)
      → Grown (behind_paren k low shape scope) (behind_paren k' low' shape scope)
  unfolding behind_paren
  behind_paren_grown shape scope = grown_peek _ _ (λ o.
      grown_choose (is_mark p.CloseParen o) _ _ _ _
      (grown_skip _ _ (suffixes_grown scope (tree.FunctionOf tree.Omitted tree.NoParameter false)))
      (grown_choose (begins_type scope o) _ _ _ _ (grown_deeper k k' _ _ le (omitted_list_grown scope))
      (grown_choose (begins_declarator shape o) _ _ _ _
      (grown_deeper k k' _ _ le (nested_declarator_grown shape scope)) (grown_same (fail Unfit)))))

  open_by_grown : (shape : DeclaratorForm) (scope : Scope)
      → Grown (open_by k low shape scope) (open_by k' low' shape scope)
  open_by_grown form.Named scope = grown_deeper k k' _ _ le (grown_skip _ _ (nested_declarator_grown form.Named scope))
  open_by_grown form.Abstract scope = grown_skip _ _ (behind_paren_grown form.Abstract scope)
  open_by_grown form.Parameter scope = grown_skip _ _ (behind_paren_grown form.Parameter scope)

  room_grown : (shape : DeclaratorForm) (r r' : Parser Declarator) → Grown r r'
      → Grown (room k low shape r) (room k' low' shape r')
  room_grown form.Named r r' h = grown_deeper k k' r r' le h
  room_grown form.Abstract r r' h = h
  room_grown form.Parameter r r' h = h

  pointer_grown : (shape : DeclaratorForm) (scope : Scope)
      → Grown (pointer k low shape scope) (pointer k' low' shape scope)
  unfolding pointer
  pointer_grown shape scope =
      grown_bind _ _ _ _ (grown_same (qualifiers scope))
      (λ words. grown_then _ _ (λ inner. pure (tree.PointerTo words inner)) (on.declarator shape scope))

  name_by_grown : (shape : DeclaratorForm) (scope : Scope) (pos : Pos) (x : List ℕ)
      → Grown (name_by k low shape scope pos x) (name_by k' low' shape scope pos x)
  name_by_grown form.Named scope pos x = grown_skip _ _ (suffixes_grown scope (tree.Name pos x))
  name_by_grown form.Abstract scope pos x = grown_same (pure tree.Omitted)
  name_by_grown form.Parameter scope pos x = grown_skip _ _ (suffixes_grown scope (tree.Name pos x))

  bracket_by_grown : (shape : DeclaratorForm) (scope : Scope)
      → Grown (bracket_by k low shape scope) (bracket_by k' low' shape scope)
  bracket_by_grown form.Named scope = grown_same (fail Unfit)
  bracket_by_grown form.Abstract scope =
      grown_bind (suffix_on k low scope tree.Omitted) (suffix_on k' low' scope tree.Omitted) _ _
      (suffix_on_grown scope tree.Omitted) (λ d. suffixes_grown scope d)
  bracket_by_grown form.Parameter scope =
      grown_bind (suffix_on k low scope tree.Omitted) (suffix_on k' low' scope tree.Omitted) _ _
      (suffix_on_grown scope tree.Omitted) (λ d. suffixes_grown scope d)

  pub declarator_at_grown : (shape : DeclaratorForm) (scope : Scope)
      → Grown (declarator_at k low shape scope) (declarator_at k' low' shape scope)
  unfolding declarator_at
  declarator_at_grown shape scope = grown_here _ _ (λ pos. grown_peek _ _ (by pos))
    where
      by : (pos : Pos) (o : Option Body)
          → Grown (declarator_by k low shape scope pos o) (declarator_by k' low' shape scope pos o)
      by pos (Some (lexeme.Mark p.Star)) = room_grown shape _ _ (grown_skip _ _ (pointer_grown shape scope))
      by pos (Some (lexeme.Mark p.OpenParen)) = open_by_grown shape scope
      by pos (Some (lexeme.Mark p.OpenBracket)) = bracket_by_grown shape scope
      by pos (Some (lexeme.Name x)) = name_by_grown shape scope pos x
      by pos o = grown_same (omission shape)

  -- ---- type names, parameters and members

  pub type_name_at_grown : (scope : Scope) → Grown (type_name_at k low scope) (type_name_at k' low' scope)
  unfolding type_name_at
  type_name_at_grown scope =
      grown_bind _ _ _ _ (on.specifiers scope)
      (λ all. grown_then _ _ (λ one. pure (tree.NamedType all one))
      (on.declarator form.Abstract (scope ++ specifiers_add all)))

  pub parameter_at_grown : (scope : Scope) → Grown (parameter_at k low scope) (parameter_at k' low' scope)
  unfolding parameter_at
  parameter_at_grown scope =
      grown_bind _ _ _ _ (on.specifiers scope)
      (λ all. grown_then _ _ (λ one. pure (tree.Param all one))
      (on.declarator form.Parameter (scope ++ specifiers_add all)))

  listed_declarators_grown : (scope : Scope) → Grown (listed_declarators k low scope) (listed_declarators k' low' scope)
  unfolding listed_declarators
  listed_declarators_grown scope = listed_grown _ _ _ _ _ _ (on.declarator form.Named) scope

  member_on_grown : (scope : Scope) (all : Specifiers) → Grown (member_on k low scope all) (member_on k' low' scope all)
  unfolding member_on
  member_on_grown scope all = grown_peek _ _ by
    where
      by : (o : Option Body) → Grown (member_by k low scope all o) (member_by k' low' scope all o)
      by (Some (lexeme.Mark p.Semicolon)) = grown_same (skip (pure (tree.Declares all tree.NoDeclarator)))
      by o = grown_then (listed_declarators k low (scope ++ specifiers_add all))
          (listed_declarators k' low' (scope ++ specifiers_add all))
          (λ found. expect (is_mark p.Semicolon) >>= λ _. pure (tree.Declares all (declarators found.0)))
          (listed_declarators_grown (scope ++ specifiers_add all))

  pub member_at_grown : (scope : Scope) → Grown (member_at k low scope) (member_at k' low' scope)
  unfolding member_at
  member_at_grown scope = grown_bind _ _ _ _ (on.specifiers scope) (member_on_grown scope)

-- ---- from no height

module _ (k : ℕ) (low : Parsers) where
  no_name_grown : (shape : DeclaratorForm) (scope : Scope) (pos : Pos) (x : List ℕ)
      → Grown (choose (begins_declarator shape (Some (lexeme.Name x))) (fail TooDeep) (omission shape))
      (name_by k low shape scope pos x)
  no_name_grown form.Named scope pos x = deep_grown (name_by k low form.Named scope pos x)
  no_name_grown form.Abstract scope pos x = grown_same (pure tree.Omitted)
  no_name_grown form.Parameter scope pos x = deep_grown (name_by k low form.Parameter scope pos x)

  no_bracket_grown : (shape : DeclaratorForm) (scope : Scope)
      → Grown (choose (begins_declarator shape (Some (lexeme.Mark p.OpenBracket))) (fail TooDeep) (omission shape))
      (bracket_by k low shape scope)
  no_bracket_grown form.Named scope = grown_same (fail Unfit)
  no_bracket_grown form.Abstract scope = deep_grown (bracket_by k low form.Abstract scope)
  no_bracket_grown form.Parameter scope = deep_grown (bracket_by k low form.Parameter scope)

  no_declarator_by_grown : (shape : DeclaratorForm) (scope : Scope) (pos : Pos) (o : Option Body)
      → Grown (choose (begins_declarator shape o) (fail TooDeep) (omission shape))
      (declarator_by k low shape scope pos o)
  no_declarator_by_grown shape scope pos (Some (lexeme.Mark p.Star)) = deep_grown _
  no_declarator_by_grown shape scope pos (Some (lexeme.Mark p.OpenParen)) = deep_grown _
  no_declarator_by_grown shape scope pos (Some (lexeme.Mark p.OpenBracket)) = no_bracket_grown shape scope
  no_declarator_by_grown shape scope pos (Some (lexeme.Name x)) = no_name_grown shape scope pos x
  no_declarator_by_grown shape scope pos o = grown_same (omission shape)

  pub no_declarator_grown : (shape : DeclaratorForm) (scope : Scope)
      → Grown (no_declarator shape) (declarator_at k low shape scope)
  unfolding no_declarator declarator_at
  no_declarator_grown shape scope =
      record { grows = λ tokens. (no_declarator_by_grown shape scope (place tokens) (next_body tokens)).grows tokens }
