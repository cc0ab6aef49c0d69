-- Declarators, type names, parameters and members are read online.
use Rattle.std.proofs.Common.{ℕ, false, List, ◌++◌, Option, Some, None, refl}
use Rattle.critical_table.specs.declared.pos.Pos.{Pos}
use Rattle.c_lexer.specs.declared.punct.Punct.TheVariants as p
use Rattle.c_lexer.specs.declared.token.Body.{Body}
use Rattle.c_lexer.specs.declared.token.Body.TheVariants as lexeme
use Rattle.c_reading.specs.declared.declarator_form.DeclaratorForm.{DeclaratorForm}
use Rattle.c_reading.specs.declared.declarator_form.DeclaratorForm.TheVariants as form
use Rattle.c_syntax.specs.declared.specifier.Qualifier.{Qualifier}
use Rattle.c_syntax.specs.Levels.{conditional}
use Rattle.c_reading.specs.Parser.{Parser, Unfit, TooDeep, ◌>>=◌, pure, expect}
use Rattle.c_reading.specs.ReadToken.{is_mark, begins_type, qualifier_of}
use Rattle.c_reading.specs.ReadExpr.{Parsers, expr_lower}
use Rattle.c_reading.specs.ReadDeclarator.{begins_declarator, omission, no_declarator, qualifier_by, qualifier}
use Rattle.c_reading.specs.ReadDeclarator.{qualifiers, listed_parameters, parameters_by, parameters_at, length_by}
use Rattle.c_reading.specs.ReadDeclarator.{array_on, function_on, suffix_by, suffix_on, suffixes, nested_declarator}
use Rattle.c_reading.specs.ReadDeclarator.{omitted_list, behind_paren, open_by, room, pointer, name_by, bracket_by}
use Rattle.c_reading.specs.ReadDeclarator.{declarator_by, declarator_at, type_name_at, parameter_at}
use Rattle.c_reading.specs.ReadDeclarator.{listed_declarators, member_by, member_on, member_at}
use Rattle.c_syntax.specs.Scopes.{Scope, specifiers_add, declarator_adds}
use Rattle.c_syntax.specs.Tree as tree
use Rattle.c_syntax.specs.Tree.{Specifiers, Declarator}
use Rattle.c_syntax.specs.View.{declarators, parameters}
use Rattle.c_reading.proofs.Online.Steps.{Online, TakesOne, online_pure, online_fail, online_skip, online_peek}
use Rattle.c_reading.proofs.Online.Steps.{online_here, online_choose, online_deeper, online_bind, online_before}
use Rattle.c_reading.proofs.Online.Steps.{takes_fail, takes_skip, takes_peek, takes_bind, many_online, listed_online}
use Rattle.c_reading.proofs.Online.Steps.{climb_online}
use Rattle.c_reading.proofs.Online.Law.{AllOnline}
use Rattle.c_reading.proofs.Online.Expr.{online_expr_lower}

omission_online : (shape : DeclaratorForm) → Online (omission shape)
omission_online form.Named = online_fail Unfit
omission_online form.Abstract = online_pure tree.Omitted
omission_online form.Parameter = online_pure tree.Omitted

pub no_declarator_online : (shape : DeclaratorForm) → Online (no_declarator shape)
unfolding no_declarator
no_declarator_online shape =
    online_peek _ (λ o. online_choose (begins_declarator shape o) _ _ (online_fail TooDeep) (omission_online shape))

qualifier_by_online : (o : Option Qualifier) → Online (qualifier_by o)
qualifier_by_online (Some word) = online_skip _ (online_pure word)
qualifier_by_online None = online_fail Unfit

qualifier_by_takes : (o : Option Qualifier) → TakesOne (qualifier_by o)
qualifier_by_takes (Some word) = takes_skip _ (online_pure word)
qualifier_by_takes None = takes_fail Unfit

pub qualifier_online : Online qualifier
unfolding qualifier
qualifier_online = online_peek _ (λ o. qualifier_by_online (qualifier_of o))

pub qualifier_takes : TakesOne qualifier
unfolding qualifier
qualifier_takes =
    takes_peek (λ o. qualifier_by (qualifier_of o)) (λ next. qualifier_by_takes (qualifier_of (Some next)))

qualifiers_online : (scope : Scope) → Online (qualifiers scope)
unfolding qualifiers
qualifiers_online scope = many_online _ _ _ (λ s. qualifier_online) (λ s. refl) (λ s. qualifier_takes) scope

module _ (k : ℕ) (low : Parsers) (on : AllOnline low) where
  -- ---- parameters

  listed_parameters_online : (scope : Scope) → Online (listed_parameters k low scope)
  unfolding listed_parameters
  listed_parameters_online scope = listed_online _ _ _ _ _ refl (online_skip _ (online_pure tt)) on.parameter scope

  parameters_at_online : (scope : Scope) → Online (parameters_at k low scope)
  unfolding parameters_at
  parameters_at_online scope = online_peek _ by
    where
      by : (o : Option Body) → Online (parameters_by k low scope o)
      by (Some (lexeme.Mark p.CloseParen)) = online_skip _ (online_pure (tree.NoParameter, false))
      by o = online_before (listed_parameters k low scope) (is_mark p.CloseParen)
          (λ all. pure (parameters all.0, all.1)) (listed_parameters_online scope)
          (λ all. online_pure (parameters all.0, all.1))

  -- ---- what follows the identifier

  length_online : (scope : Scope) (left : Declarator)
      → Online (expr_lower (scope ++ declarator_adds left) k (low.expr (scope ++ declarator_adds left) conditional)
      >>= λ length. expect (is_mark p.CloseBracket) >>= λ _. pure (tree.ArrayOf left (tree.With length)))
  length_online scope left =
      online_before _ (is_mark p.CloseBracket) _
      (online_expr_lower (scope ++ declarator_adds left) k _ (on.expr (scope ++ declarator_adds left) conditional))
      (λ length. online_pure (tree.ArrayOf left (tree.With length)))

  array_on_online : (scope : Scope) (left : Declarator) → Online (array_on k low scope left)
  unfolding array_on
  array_on_online scope left = online_peek _ by
    where
      by : (o : Option Body) → Online (length_by k low scope left o)
      by (Some (lexeme.Mark p.CloseBracket)) = online_skip _ (online_pure (tree.ArrayOf left tree.Without))
      by o = length_online scope left

  function_on_online : (scope : Scope) (left : Declarator) → Online (function_on k low scope left)
  unfolding function_on
  function_on_online scope left =
      online_bind _ _ (parameters_at_online (scope ++ declarator_adds left))
      (λ all. online_pure (tree.FunctionOf left all.0 all.1))

  suffix_on_online : (scope : Scope) (left : Declarator) → Online (suffix_on k low scope left)
  unfolding suffix_on
  suffix_on_online scope left = online_peek _ by
    where
      by : (o : Option Body) → Online (suffix_by k low scope left o)
      by (Some (lexeme.Mark p.OpenBracket)) = online_skip _ (array_on_online scope left)
      by (Some (lexeme.Mark p.OpenParen)) = online_skip _ (function_on_online scope left)
      by o = online_fail Unfit

  suffixes_online : (scope : Scope) (left : Declarator) → Online (suffixes k low scope left)
  unfolding suffixes
  suffixes_online scope left = climb_online _ _ _ (suffix_on_online scope) k left

  -- ---- what a declarator begins with

  nested_declarator_online : (shape : DeclaratorForm) (scope : Scope) → Online (nested_declarator k low shape scope)
  unfolding nested_declarator
  nested_declarator_online shape scope =
      online_before _ (is_mark p.CloseParen) _ (on.declarator shape scope)
      (λ inner. suffixes_online scope (tree.DParen inner))

  omitted_list_online : (scope : Scope) → Online (omitted_list k low scope)
  unfolding omitted_list
  omitted_list_online scope =
      online_before _ (is_mark p.CloseParen) _ (listed_parameters_online scope)
      (λ all. suffixes_online scope (tree.FunctionOf tree.Omitted (parameters all.0) all.1))

  behind_paren_online : (shape : DeclaratorForm) (scope : Scope) → Online (behind_paren k low shape scope)
  unfolding behind_paren
  behind_paren_online shape scope = online_peek _ (λ o.
      online_choose (is_mark p.CloseParen o) _ _
      (online_skip _ (suffixes_online scope (tree.FunctionOf tree.Omitted tree.NoParameter false)))
      (online_choose (begins_type scope o) _ _ (online_deeper k _ (omitted_list_online scope))
      (online_choose (begins_declarator shape o) _ _ (online_deeper k _ (nested_declarator_online shape scope))
      (online_fail Unfit))))

  open_by_online : (shape : DeclaratorForm) (scope : Scope) → Online (open_by k low shape scope)
  open_by_online form.Named scope = online_deeper k _ (online_skip _ (nested_declarator_online form.Named scope))
  open_by_online form.Abstract scope = online_skip _ (behind_paren_online form.Abstract scope)
  open_by_online form.Parameter scope = online_skip _ (behind_paren_online form.Parameter scope)

  room_online : (shape : DeclaratorForm) (r : Parser Declarator) → Online r → Online (room k low shape r)
  room_online form.Named r on = online_deeper k _ on
  room_online form.Abstract r on = on
  room_online form.Parameter r on = on

  pointer_online : (shape : DeclaratorForm) (scope : Scope) → Online (pointer k low shape scope)
  unfolding pointer
  pointer_online shape scope =
      online_bind _ _ (qualifiers_online scope)
      (λ words. online_bind _ _ (on.declarator shape scope) (λ inner. online_pure (tree.PointerTo words inner)))

  name_by_online : (shape : DeclaratorForm) (scope : Scope) (pos : Pos) (x : List ℕ)
      → Online (name_by k low shape scope pos x)
  name_by_online form.Named scope pos x = online_skip _ (suffixes_online scope (tree.Name pos x))
  name_by_online form.Abstract scope pos x = online_pure tree.Omitted
  name_by_online form.Parameter scope pos x = online_skip _ (suffixes_online scope (tree.Name pos x))

  bracket_by_online : (shape : DeclaratorForm) (scope : Scope) → Online (bracket_by k low shape scope)
  bracket_by_online form.Named scope = online_fail Unfit
  bracket_by_online form.Abstract scope =
      online_bind (suffix_on k low scope tree.Omitted) _ (suffix_on_online scope tree.Omitted)
      (λ d. suffixes_online scope d)
  bracket_by_online form.Parameter scope =
      online_bind (suffix_on k low scope tree.Omitted) _ (suffix_on_online scope tree.Omitted)
      (λ d. suffixes_online scope d)

  pub declarator_at_online : (shape : DeclaratorForm) (scope : Scope) → Online (declarator_at k low shape scope)
  unfolding declarator_at
  declarator_at_online shape scope = online_here _ (λ pos. online_peek _ (by pos))
    where
      by : (pos : Pos) (o : Option Body) → Online (declarator_by k low shape scope pos o)
      by pos (Some (lexeme.Mark p.Star)) = room_online shape _ (online_skip _ (pointer_online shape scope))
      by pos (Some (lexeme.Mark p.OpenParen)) = open_by_online shape scope
      by pos (Some (lexeme.Mark p.OpenBracket)) = bracket_by_online shape scope
      by pos (Some (lexeme.Name x)) = name_by_online shape scope pos x
      by pos o = omission_online shape

  -- ---- type names, parameters and members

  pub type_name_at_online : (scope : Scope) → Online (type_name_at k low scope)
  unfolding type_name_at
  type_name_at_online scope =
      online_bind _ _ (on.specifiers scope)
      (λ all. online_bind _ _ (on.declarator form.Abstract (scope ++ specifiers_add all))
      (λ one. online_pure (tree.NamedType all one)))

  pub parameter_at_online : (scope : Scope) → Online (parameter_at k low scope)
  unfolding parameter_at
  parameter_at_online scope =
      online_bind _ _ (on.specifiers scope)
      (λ all. online_bind _ _ (on.declarator form.Parameter (scope ++ specifiers_add all))
      (λ one. online_pure (tree.Param all one)))

  listed_declarators_online : (scope : Scope) → Online (listed_declarators k low scope)
  unfolding listed_declarators
  listed_declarators_online scope = listed_online _ _ _ _ _ refl (online_pure tt) (on.declarator form.Named) scope

  member_on_online : (scope : Scope) (all : Specifiers) → Online (member_on k low scope all)
  unfolding member_on
  member_on_online scope all = online_peek _ by
    where
      by : (o : Option Body) → Online (member_by k low scope all o)
      by (Some (lexeme.Mark p.Semicolon)) = online_skip _ (online_pure (tree.Declares all tree.NoDeclarator))
      by o = online_before (listed_declarators k low (scope ++ specifiers_add all)) (is_mark p.Semicolon)
          (λ found. pure (tree.Declares all (declarators found.0)))
          (listed_declarators_online (scope ++ specifiers_add all))
          (λ found. online_pure (tree.Declares all (declarators found.0)))

  pub member_at_online : (scope : Scope) → Online (member_at k low scope)
  unfolding member_at
  member_at_online scope = online_bind _ _ (on.specifiers scope) (member_on_online scope)

  pub member_at_takes : ((scope : Scope) → TakesOne (low.specifiers scope)) → (scope : Scope)
      → TakesOne (member_at k low scope)
  unfolding member_at
  member_at_takes takes scope =
      takes_bind (low.specifiers scope) (member_on k low scope) (takes scope) (member_on_online scope)
