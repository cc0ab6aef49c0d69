-- How declarators, parameters, members and type names are read: trees of one height more than the lower parsers read.
use Rattle.std.specs.Prelude.{ℕ, nat_le, Bool, true, false, List, ◌++◌, Option, Some, None, is_some}
use Rattle.critical_table.specs.declared.pos.Pos.{Pos}
use Rattle.c_lexer.specs.declared.punct.Punct.TheVariants as p
use Rattle.c_lexer.specs.declared.token.Body.{Body}
use Rattle.c_lexer.specs.declared.token.Body.TheVariants as lexeme
use Rattle.c_reading.specs.declared.declarator_form.DeclaratorForm.{DeclaratorForm}
use Rattle.c_reading.specs.declared.declarator_form.DeclaratorForm.TheVariants as form
use Rattle.c_syntax.specs.declared.specifier.Qualifier.{Qualifier}
use Rattle.c_syntax.specs.Height.{declarator_height}
use Rattle.c_syntax.specs.Levels.{conditional}
use Rattle.c_reading.specs.Parser.{Parser, Unfit, TooDeep, ◌>>=◌, pure, fail, peek, here, skip, choose, deeper}
use Rattle.c_reading.specs.Parser.{expect, many, climb, comma_list}
use Rattle.c_reading.specs.ReadToken.{is_mark, begins_type, qualifier_of}
use Rattle.c_reading.specs.ReadExpr.{Parsers, expr_lower}
use Rattle.c_syntax.specs.Scopes.{Scope, specifiers_add, declarator_adds, parameter_adds}
use Rattle.c_syntax.specs.Tree as tree
use Rattle.c_syntax.specs.Tree.{TypeName, Specifiers, MemberDeclaration, Declarator, Parameter, Parameters}
use Rattle.c_syntax.specs.View.{declarators, parameters}

-- the token begins a declarator of the form
abbrev pub begins_declarator : DeclaratorForm → Option Body → Bool
begins_declarator shape (Some (lexeme.Mark p.Star)) = true
begins_declarator shape (Some (lexeme.Mark p.OpenParen)) = true
begins_declarator form.Abstract (Some (lexeme.Mark p.OpenBracket)) = true
begins_declarator form.Parameter (Some (lexeme.Mark p.OpenBracket)) = true
begins_declarator form.Named (Some (lexeme.Name x)) = true
begins_declarator form.Parameter (Some (lexeme.Name x)) = true
begins_declarator shape _ = false

-- no declarator has a token here
abbrev pub omission : DeclaratorForm → Parser Declarator
omission form.Named = fail Unfit
omission form.Abstract = pure tree.Omitted
omission form.Parameter = pure tree.Omitted

-- where no height is left, only an omitted identifier is
unfoldable pub no_declarator : DeclaratorForm → Parser Declarator
no_declarator shape = peek (λ o. choose (begins_declarator shape o) (fail TooDeep) (omission shape))

abbrev pub qualifier_by : Option Qualifier → Parser Qualifier
qualifier_by (Some word) = skip (pure word)
qualifier_by None = fail Unfit

unfoldable pub qualifier : Parser Qualifier
qualifier = peek (λ o. qualifier_by (qualifier_of o))

-- 6.7.6.1
unfoldable pub qualifiers : Scope → Parser (List Qualifier)
qualifiers = many (λ s o. is_some (qualifier_of o)) (λ s. qualifier) (λ s word. s)

abbrev pub goes_suffix : Declarator → Option Body → Bool
goes_suffix left (Some (lexeme.Mark p.OpenBracket)) = true
goes_suffix left (Some (lexeme.Mark p.OpenParen)) = true
goes_suffix left _ = false

module _ (k : ℕ) (low : Parsers) where
  -- ---- parameters (6.7.6.3)

  unfoldable pub listed_parameters : Scope → Parser (List Parameter × Bool)
  listed_parameters =
      comma_list (is_mark p.Comma) (is_mark p.Ellipsis) (skip (pure tt)) low.parameter
      (λ s parameter. s ++ parameter_adds parameter)

  -- behind the opening parenthesis
  abbrev pub parameters_by : Scope → Option Body → Parser (Parameters × Bool)
  parameters_by scope (Some (lexeme.Mark p.CloseParen)) = skip (pure (tree.NoParameter, false))
  parameters_by scope _ = listed_parameters scope >>= λ all. expect (is_mark p.CloseParen)
      >>= λ _. pure (parameters all.0, all.1)

  unfoldable pub parameters_at : Scope → Parser (Parameters × Bool)
  parameters_at scope = peek (parameters_by scope)

  -- ---- what follows the identifier (6.7.6.2, 6.7.6.3)

  -- in the scope behind the declarator of the array's elements
  abbrev pub length_in : Scope → Declarator → Option Body → Parser Declarator
  length_in scope left (Some (lexeme.Mark p.CloseBracket)) = skip (pure (tree.ArrayOf left tree.Without))
  length_in scope left _ =
      expr_lower scope k (low.expr scope conditional) >>= λ length.
      expect (is_mark p.CloseBracket) >>= λ _. pure (tree.ArrayOf left (tree.With length))

  abbrev pub length_by : Scope → Declarator → Option Body → Parser Declarator
  length_by scope left = length_in (scope ++ declarator_adds left) left

  abbrev pub array_in : Scope → Declarator → Parser Declarator
  array_in scope left = peek (length_in scope left)

  unfoldable pub array_on : Scope → Declarator → Parser Declarator
  array_on scope left = array_in (scope ++ declarator_adds left) left

  -- in the scope behind the function's own declarator
  abbrev pub function_in : Scope → Declarator → Parser Declarator
  function_in scope left = parameters_at scope >>= λ all. pure (tree.FunctionOf left all.0 all.1)

  unfoldable pub function_on : Scope → Declarator → Parser Declarator
  function_on scope left = function_in (scope ++ declarator_adds left) left

  abbrev pub suffix_by : Scope → Declarator → Option Body → Parser Declarator
  suffix_by scope left (Some (lexeme.Mark p.OpenBracket)) = skip (array_on scope left)
  suffix_by scope left (Some (lexeme.Mark p.OpenParen)) = skip (function_on scope left)
  suffix_by scope left _ = fail Unfit

  unfoldable pub suffix_on : Scope → Declarator → Parser Declarator
  suffix_on scope left = peek (suffix_by scope left)

  unfoldable pub suffixes : Scope → Declarator → Parser Declarator
  suffixes scope left = climb goes_suffix (λ d. nat_le (declarator_height d) k) (suffix_on scope) k left

  -- ---- what a declarator begins with

  -- behind an opening parenthesis that begins no parameter list
  unfoldable pub nested_declarator : DeclaratorForm → Scope → Parser Declarator
  nested_declarator shape scope =
      low.declarator shape scope >>= λ inner. expect (is_mark p.CloseParen) >>= λ _. suffixes scope (tree.DParen inner)

  -- behind one, where the identifier may be omitted
  unfoldable pub omitted_list : Scope → Parser Declarator
  omitted_list scope = listed_parameters scope >>= λ all. expect (is_mark p.CloseParen)
      >>= λ _. suffixes scope (tree.FunctionOf tree.Omitted (parameters all.0) all.1)

  -- A parameter list of an omitted identifier, or a declarator in parentheses: in a parameter a name that could be a
  -- typedef name is one (6.7.6.3p11).
  unfoldable pub behind_paren : DeclaratorForm → Scope → Parser Declarator
  behind_paren shape scope = peek (λ o.
      choose (is_mark p.CloseParen o) (skip (suffixes scope (tree.FunctionOf tree.Omitted tree.NoParameter false)))
      (choose (begins_type scope o) (deeper k (omitted_list scope))
      (choose (begins_declarator shape o) (deeper k (nested_declarator shape scope)) (fail Unfit))))

  abbrev pub open_by : DeclaratorForm → Scope → Parser Declarator
  open_by form.Named scope = deeper k (skip (nested_declarator form.Named scope))
  open_by form.Abstract scope = skip (behind_paren form.Abstract scope)
  open_by form.Parameter scope = skip (behind_paren form.Parameter scope)

  -- a pointer to an omitted identifier has height 1
  abbrev pub room : DeclaratorForm → Parser Declarator → Parser Declarator
  room form.Named p = deeper k p
  room form.Abstract p = p
  room form.Parameter p = p

  unfoldable pub pointer : DeclaratorForm → Scope → Parser Declarator
  pointer shape scope = qualifiers scope >>= λ words. low.declarator shape scope
      >>= λ inner. pure (tree.PointerTo words inner)

  abbrev pub name_by : DeclaratorForm → Scope → Pos → List ℕ → Parser Declarator
  name_by form.Named scope pos x = skip (suffixes scope (tree.Name pos x))
  name_by form.Abstract scope pos x = pure tree.Omitted
  name_by form.Parameter scope pos x = skip (suffixes scope (tree.Name pos x))

  abbrev pub unnamed_array : Scope → Parser Declarator
  unnamed_array scope = suffix_on scope tree.Omitted >>= suffixes scope

  -- an array of an omitted identifier has height 1 at least
  abbrev pub bracket_by : DeclaratorForm → Scope → Parser Declarator
  bracket_by form.Named scope = fail Unfit
  bracket_by form.Abstract scope = unnamed_array scope
  bracket_by form.Parameter scope = unnamed_array scope

  abbrev pub declarator_by : DeclaratorForm → Scope → Pos → Option Body → Parser Declarator
  declarator_by shape scope pos (Some (lexeme.Mark p.Star)) = room shape (skip (pointer shape scope))
  declarator_by shape scope pos (Some (lexeme.Mark p.OpenParen)) = open_by shape scope
  declarator_by shape scope pos (Some (lexeme.Mark p.OpenBracket)) = bracket_by shape scope
  declarator_by shape scope pos (Some (lexeme.Name x)) = name_by shape scope pos x
  declarator_by shape scope pos _ = omission shape

  unfoldable pub declarator_at : DeclaratorForm → Scope → Parser Declarator
  declarator_at shape scope = here (λ pos. peek (declarator_by shape scope pos))

  -- ---- type names, parameters and members (6.7.7, 6.7.6.3, 6.7.2.1)

  unfoldable pub type_name_at : Scope → Parser TypeName
  type_name_at scope =
      low.specifiers scope >>= λ all. low.declarator form.Abstract (scope ++ specifiers_add all)
      >>= λ one. pure (tree.NamedType all one)

  unfoldable pub parameter_at : Scope → Parser Parameter
  parameter_at scope =
      low.specifiers scope >>= λ all. low.declarator form.Parameter (scope ++ specifiers_add all)
      >>= λ one. pure (tree.Param all one)

  -- declarators have no ending
  unfoldable pub listed_declarators : Scope → Parser (List Declarator × Bool)
  listed_declarators =
      comma_list (is_mark p.Comma) (λ o. false) (pure tt) (low.declarator form.Named)
      (λ s one. s ++ declarator_adds one)

  -- in the scope behind the specifiers
  abbrev pub member_in : Scope → Specifiers → Parser MemberDeclaration
  member_in scope all =
      listed_declarators scope >>= λ found. expect (is_mark p.Semicolon)
      >>= λ _. pure (tree.Declares all (declarators found.0))

  abbrev pub member_by : Scope → Specifiers → Option Body → Parser MemberDeclaration
  member_by scope all (Some (lexeme.Mark p.Semicolon)) = skip (pure (tree.Declares all tree.NoDeclarator))
  member_by scope all _ = member_in (scope ++ specifiers_add all) all

  unfoldable pub member_on : Scope → Specifiers → Parser MemberDeclaration
  member_on scope all = peek (member_by scope all)

  unfoldable pub member_at : Scope → Parser MemberDeclaration
  member_at scope = low.specifiers scope >>= member_on scope
