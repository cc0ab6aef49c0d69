-- The tokens of expressions, type names, specifiers and declarators: one clause for each node.
use Rattle.std.specs.Prelude.{List, [], ◌∷◌, ◌++◌, map, Option, Some, None}
use Rattle.c_lexer.specs.declared.punct.Punct.TheVariants as p
use Rattle.c_lexer.specs.declared.word.Word.TheVariants as w
use Rattle.c_syntax.specs.declared.specifier.Tag.{Tag}
use Rattle.c_syntax.specs.declared.specifier.Qualifier.{Qualifier}
use Rattle.c_syntax.specs.declared.spelled.Spelled.{Spelled}
use Rattle.c_syntax.specs.Tokens.{token_at, word, word_at, mark, mark_at, name, name_at, commas, comma_if}
use Rattle.c_syntax.specs.Tokens.{ellipsis_if, spell_pieces}
use Rattle.c_syntax.specs.Operators.{constant_token, access_token, postfix_token, prefix_token, measure_word}
use Rattle.c_syntax.specs.Operators.{infix_token, storage_word, qualifier_word, basic_word, compound_word}
use Rattle.c_syntax.specs.Tree as tree
use Rattle.c_syntax.specs.Tree.{Expr, Exprs, Maybe, TypeName, Specifier, Specifiers, MemberDeclaration, Members}
use Rattle.c_syntax.specs.Tree.{Declarators, Enumerator, Enumerators, Declarator, Parameter, Parameters}

abbrev pub spell_tag : Option Tag → List Spelled
spell_tag None = []
spell_tag (Some tag) = name_at tag.pos tag.name ∷ []

-- 6.7.3
abbrev pub spell_qualifiers : List Qualifier → List Spelled
spell_qualifiers qualifiers = map (λ qualifier. word (qualifier_word qualifier)) qualifiers

abbrev mutual
  -- 6.5
  pub spell : Expr → List Spelled
  spell (tree.Const pos constant) = token_at pos (constant_token constant) ∷ []
  spell (tree.Id pos x) = name_at pos x ∷ []
  spell (tree.Text pos text) = spell_pieces (Some pos) text.wide text.pieces
  spell (tree.Paren inner) = mark p.OpenParen ∷ spell inner ++ mark p.CloseParen ∷ []
  spell (tree.Index pos array index) =
      spell array ++ mark_at pos p.OpenBracket ∷ spell index ++ mark p.CloseBracket ∷ []
  spell (tree.Call pos function arguments) =
      spell function ++ mark_at pos p.OpenParen ∷ commas (spelled_arguments arguments) ++ mark p.CloseParen ∷ []
  spell (tree.Member pos access whole x) = spell whole ++ mark_at pos (access_token access) ∷ name x ∷ []
  spell (tree.PostfixOp pos operator operand) = spell operand ++ mark_at pos (postfix_token operator) ∷ []
  spell (tree.PrefixOp pos operator operand) = token_at pos (prefix_token operator) ∷ spell operand
  spell (tree.MeasureOp pos operator type) =
      word_at pos (measure_word operator) ∷ mark p.OpenParen ∷ spell_type_name type ++ mark p.CloseParen ∷ []
  spell (tree.Cast pos type operand) =
      mark_at pos p.OpenParen ∷ spell_type_name type ++ mark p.CloseParen ∷ spell operand
  spell (tree.InfixOp pos operator left right) = spell left ++ mark_at pos (infix_token operator) ∷ spell right
  spell (tree.Cond pos test then else) =
      spell test ++ mark_at pos p.Question ∷ spell then ++ mark p.Colon ∷ spell else

  -- 6.5.2
  pub spelled_arguments : Exprs → List (List Spelled)
  spelled_arguments tree.NoExpr = []
  spelled_arguments (tree.MoreExprs first rest) = spell first ∷ spelled_arguments rest

  pub spell_maybe : Maybe → List Spelled
  spell_maybe tree.Without = []
  spell_maybe (tree.With expr) = spell expr

  -- 6.7.7
  pub spell_type_name : TypeName → List Spelled
  spell_type_name (tree.NamedType specifiers declarator) = spell_specifiers specifiers ++ spell_declarator declarator

  -- 6.7.1 to 6.7.4, 6.7.8
  pub spell_specifier : Specifier → List Spelled
  spell_specifier (tree.StorageClass pos storage) = word_at pos (storage_word storage) ∷ []
  spell_specifier (tree.TypeQualifier pos qualifier) = word_at pos (qualifier_word qualifier) ∷ []
  spell_specifier (tree.Inline pos) = word_at pos w.Inline ∷ []
  spell_specifier (tree.BasicType pos basic) = word_at pos (basic_word basic) ∷ []
  spell_specifier (tree.CompoundTag pos compound tag) =
      word_at pos (compound_word compound) ∷ name_at tag.pos tag.name ∷ []
  spell_specifier (tree.Compound pos compound tag members) =
      word_at pos (compound_word compound) ∷ spell_tag tag
      ++ mark p.OpenBrace ∷ spell_members members ++ mark p.CloseBrace ∷ []
  spell_specifier (tree.EnumTag pos tag) = word_at pos w.Enum ∷ name_at tag.pos tag.name ∷ []
  spell_specifier (tree.Enum pos tag enumerators comma) =
      word_at pos w.Enum ∷ spell_tag tag
      ++ mark p.OpenBrace ∷ commas (spelled_enumerators enumerators) ++ comma_if comma ++ mark p.CloseBrace ∷ []
  spell_specifier (tree.TypedefName pos x) = name_at pos x ∷ []

  pub spell_specifiers : Specifiers → List Spelled
  spell_specifiers tree.NoSpecifier = []
  spell_specifiers (tree.MoreSpecifiers first rest) = spell_specifier first ++ spell_specifiers rest

  -- 6.7.2.1
  pub spell_member : MemberDeclaration → List Spelled
  spell_member (tree.Declares specifiers declarators) =
      spell_specifiers specifiers ++ commas (spelled_declarators declarators) ++ mark p.Semicolon ∷ []

  pub spell_members : Members → List Spelled
  spell_members tree.NoMember = []
  spell_members (tree.MoreMembers first rest) = spell_member first ++ spell_members rest

  pub spelled_declarators : Declarators → List (List Spelled)
  spelled_declarators tree.NoDeclarator = []
  spelled_declarators (tree.MoreDeclarators first rest) = spell_declarator first ∷ spelled_declarators rest

  -- 6.7.2.2
  pub spell_enumerator : Enumerator → List Spelled
  spell_enumerator (tree.Enumerates pos x tree.Without) = name_at pos x ∷ []
  spell_enumerator (tree.Enumerates pos x (tree.With value)) = name_at pos x ∷ mark p.Assign ∷ spell value

  pub spelled_enumerators : Enumerators → List (List Spelled)
  spelled_enumerators tree.NoEnumerator = []
  spelled_enumerators (tree.MoreEnumerators first rest) = spell_enumerator first ∷ spelled_enumerators rest

  -- 6.7.6, 6.7.7
  pub spell_declarator : Declarator → List Spelled
  spell_declarator tree.Omitted = []
  spell_declarator (tree.Name pos x) = name_at pos x ∷ []
  spell_declarator (tree.DParen inner) = mark p.OpenParen ∷ spell_declarator inner ++ mark p.CloseParen ∷ []
  spell_declarator (tree.PointerTo qualifiers inner) =
      mark p.Star ∷ spell_qualifiers qualifiers ++ spell_declarator inner
  spell_declarator (tree.ArrayOf inner length) =
      spell_declarator inner ++ mark p.OpenBracket ∷ spell_maybe length ++ mark p.CloseBracket ∷ []
  spell_declarator (tree.FunctionOf inner parameters variadic) =
      spell_declarator inner
      ++ mark p.OpenParen ∷ commas (spelled_parameters parameters) ++ ellipsis_if variadic ++ mark p.CloseParen ∷ []

  -- 6.7.6.3
  pub spell_parameter : Parameter → List Spelled
  spell_parameter (tree.Param specifiers declarator) = spell_specifiers specifiers ++ spell_declarator declarator

  pub spelled_parameters : Parameters → List (List Spelled)
  spelled_parameters tree.NoParameter = []
  spelled_parameters (tree.MoreParameters first rest) = spell_parameter first ∷ spelled_parameters rest
