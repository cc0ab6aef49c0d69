-- The spelling of a node whose parts are lists, by these lists.
use Rattle.std.proofs.Common.{◌≡◌, Bool, List, [], ◌∷◌, ◌++◌, map, refl, ◌∙◌, ap, Vec, Global, Box, Option}
use Rattle.std.specs.List.{flat_map}
use Rattle.critical_table.specs.declared.pos.Pos.{Pos}
use Rattle.c_lexer.specs.declared.punct.Punct.TheVariants as punct
use Rattle.c_lexer.specs.declared.word.Word.TheVariants as w
use Rattle.c_syntax.specs.declared.expression.Expr as e
use Rattle.c_syntax.specs.declared.operator.Measure.{Measure}
use Rattle.c_syntax.specs.declared.declarator.Declarator as d
use Rattle.c_syntax.specs.declared.declarator.Parameter as p
use Rattle.c_syntax.specs.declared.specifier.Specifier as s
use Rattle.c_syntax.specs.declared.specifier.CompoundWord.{CompoundWord}
use Rattle.c_syntax.specs.declared.specifier.Tag.{Tag}
use Rattle.c_syntax.specs.declared.specifier.MemberDeclaration as m
use Rattle.c_syntax.specs.declared.specifier.Enumerator as n
use Rattle.c_syntax.specs.declared.type_name.TypeName as t
use Rattle.c_syntax.specs.Tree as tree
use Rattle.c_syntax.specs.Operators.{measure_word, compound_word}
use Rattle.c_syntax.specs.Tokens.{commas, comma_if, ellipsis_if, mark, mark_at, word_at}
use Rattle.c_syntax.specs.Spelling.{spell, spelled_arguments, spell_type_name, spell_specifier, spell_specifiers}
use Rattle.c_syntax.specs.Spelling.{spell_tag, spell_member, spell_members, spell_declarator, spelled_declarators}
use Rattle.c_syntax.specs.Spelling.{spell_enumerator, spelled_enumerators, spell_parameter, spelled_parameters}
use Rattle.c_syntax.specs.View.{expr_of, exprs, specifier_of, specifiers_of, declarator_of, declarators, parameter_of}
use Rattle.c_syntax.specs.View.{parameters, member_of, members, enumerator_of, enumerators, type_name_of}
use Rattle.c_syntax.proofs.Rows.{exprs_listed, specifiers_listed, parameters_listed, members_listed, enumerators_listed}

-- ---- lists

spelled_exprs : (all : List e.Expr) → spelled_arguments (exprs (map expr_of all)) ≡ map (λ x. spell (expr_of x)) all
spelled_exprs [] = refl
spelled_exprs (first ∷ rest) = ap (λ more. spell (expr_of first) ∷ more) (spelled_exprs rest)

-- specifiers and declarators one by one, as a loop meets them
pub spells_specifiers : (all : List s.Specifier)
    → spell_specifiers (specifiers_of all) ≡ flat_map (λ x. spell_specifier (specifier_of x)) all
spells_specifiers [] = refl
spells_specifiers (first ∷ rest) = ap (λ more. spell_specifier (specifier_of first) ++ more) (spells_specifiers rest)

spells_members : (all : List m.MemberDeclaration)
    → spell_members (members (map member_of all)) ≡ flat_map (λ x. spell_member (member_of x)) all
spells_members [] = refl
spells_members (first ∷ rest) = ap (λ more. spell_member (member_of first) ++ more) (spells_members rest)

pub spelled_all : (all : List d.Declarator)
    → spelled_declarators (declarators (map declarator_of all)) ≡ map (λ x. spell_declarator (declarator_of x)) all
spelled_all [] = refl
spelled_all (first ∷ rest) = ap (λ more. spell_declarator (declarator_of first) ∷ more) (spelled_all rest)

spelled_enums : (all : List n.Enumerator)
    → spelled_enumerators (enumerators (map enumerator_of all)) ≡ map (λ x. spell_enumerator (enumerator_of x)) all
spelled_enums [] = refl
spelled_enums (first ∷ rest) = ap (λ more. spell_enumerator (enumerator_of first) ∷ more) (spelled_enums rest)

spelled_params : (all : List p.Parameter)
    → spelled_parameters (parameters (map parameter_of all)) ≡ map (λ x. spell_parameter (parameter_of x)) all
spelled_params [] = refl
spelled_params (first ∷ rest) = ap (λ more. spell_parameter (parameter_of first) ∷ more) (spelled_params rest)

-- ---- nodes

arguments_row : e.Expr → (count : _) × e.Row_of-Expr count
arguments_row (e.Call' _ _ _ _ row) = (_, row)
arguments_row _ = (_, e.end_of-Expr)

-- of each node with a list: the tree of it, and then its spelling
pub call_of : (pos : Pos) (function : Box e.Expr Global) (all : Vec e.Expr Global)
    → expr_of (e.Call pos function all) ≡ tree.Call pos (expr_of function.value) (exprs (map expr_of all.items))
unfolding arguments_row
call_of pos function all =
    let row = arguments_row (e.Call pos function all) in
    ap (λ list. tree.Call pos (expr_of function.value) list) (exprs_listed row.0 row.1
    ∙ ap (λ list. exprs (map expr_of list)) (e.items_hidden-the_row-Expr-2 all))

pub spells_call : (pos : Pos) (function : Box e.Expr Global) (all : Vec e.Expr Global)
    → spell (expr_of (e.Call pos function all))
    ≡ spell (expr_of function.value)
    ++ mark_at pos punct.OpenParen ∷ commas (map (λ x. spell (expr_of x)) all.items) ++ mark punct.CloseParen ∷ []
spells_call pos function all =
    ap spell (call_of pos function all)
    ∙ ap (λ list. spell (expr_of function.value) ++ mark_at pos punct.OpenParen ∷ commas list
    ++ mark punct.CloseParen ∷ []) (spelled_exprs all.items)

measure_row : e.Expr → (count : _) × s.Row_of-Specifier count
measure_row (e.Measure' _ _ _ _ row _) = (_, row)
measure_row _ = (_, s.end_of-Specifier)

-- of `sizeof` and `_Alignof` of a type, and of a cast: likewise, through the box of the type name
pub type_measure : (pos : Pos) (operator : Measure) (type : Box t.TypeName Global)
    → expr_of (e.Measure pos operator type) ≡ tree.MeasureOp pos operator (type_name_of type.value)
unfolding measure_row
type_measure pos operator type =
    let row = measure_row (e.Measure pos operator type) in
    ap
    (λ list. tree.MeasureOp pos operator (tree.NamedType list (declarator_of type.value.declarator)))
    (specifiers_listed row.0 row.1 ∙ ap specifiers_of (s.items_hidden-the_row-Specifier-0 type.value.specifiers))

pub spells_measure : (pos : Pos) (operator : Measure) (type : Box t.TypeName Global)
    → spell (expr_of (e.Measure pos operator type))
    ≡ word_at pos (measure_word operator)
    ∷ mark punct.OpenParen ∷ spell_type_name (type_name_of type.value) ++ mark punct.CloseParen ∷ []
spells_measure pos operator type = ap spell (type_measure pos operator type)

cast_row : e.Expr → (count : _) × s.Row_of-Specifier count
cast_row (e.Cast' _ _ _ row _ _ _) = (_, row)
cast_row _ = (_, s.end_of-Specifier)

pub casts : (pos : Pos) (type : Box t.TypeName Global) (operand : Box e.Expr Global)
    → expr_of (e.Cast pos type operand) ≡ tree.Cast pos (type_name_of type.value) (expr_of operand.value)
unfolding cast_row
casts pos type operand =
    let row = cast_row (e.Cast pos type operand) in
    ap
    (λ list. tree.Cast pos (tree.NamedType list (declarator_of type.value.declarator)) (expr_of operand.value))
    (specifiers_listed row.0 row.1 ∙ ap specifiers_of (s.items_hidden-the_row-Specifier-0 type.value.specifiers))

pub spells_cast : (pos : Pos) (type : Box t.TypeName Global) (operand : Box e.Expr Global)
    → spell (expr_of (e.Cast pos type operand))
    ≡ mark_at pos punct.OpenParen
    ∷ spell_type_name (type_name_of type.value) ++ mark punct.CloseParen ∷ spell (expr_of operand.value)
spells_cast pos type operand = ap spell (casts pos type operand)

members_of : s.Specifier → (count : _) × s.Row_of-MemberDeclaration count
members_of (s.Compound' _ _ _ _ row) = (_, row)
members_of _ = (_, s.end_of-MemberDeclaration)

pub compound_tree : (pos : Pos) (compound : CompoundWord) (tag : Option Tag) (all : Vec m.MemberDeclaration Global)
    → specifier_of (s.Compound pos compound tag all)
    ≡ tree.Compound pos compound tag (members (map member_of all.items))
unfolding members_of
compound_tree pos compound tag all =
    let row = members_of (s.Compound pos compound tag all) in
    ap (tree.Compound pos compound tag)
    (members_listed row.0 row.1
    ∙ ap (λ list. members (map member_of list)) (s.items_hidden-the_row-MemberDeclaration-4 all))

pub spells_compound : (pos : Pos) (compound : CompoundWord) (tag : Option Tag) (all : Vec m.MemberDeclaration Global)
    → spell_specifier (specifier_of (s.Compound pos compound tag all))
    ≡ word_at pos (compound_word compound) ∷ spell_tag tag
    ++ mark punct.OpenBrace ∷ flat_map (λ x. spell_member (member_of x)) all.items ++ mark punct.CloseBrace ∷ []
spells_compound pos compound tag all =
    ap spell_specifier (compound_tree pos compound tag all)
    ∙ ap
    (λ list. word_at pos (compound_word compound) ∷ spell_tag tag
    ++ mark punct.OpenBrace ∷ list ++ mark punct.CloseBrace ∷ [])
    (spells_members all.items)

enumerators_of : s.Specifier → (count : _) × s.Row_of-Enumerator count
enumerators_of (s.Enum' _ _ _ row _) = (_, row)
enumerators_of _ = (_, s.end_of-Enumerator)

pub enum_tree : (pos : Pos) (tag : Option Tag) (all : Vec n.Enumerator Global) (comma : Bool)
    → specifier_of (s.Enum pos tag all comma) ≡ tree.Enum pos tag (enumerators (map enumerator_of all.items)) comma
unfolding enumerators_of
enum_tree pos tag all comma =
    let row = enumerators_of (s.Enum pos tag all comma) in
    ap (λ list. tree.Enum pos tag list comma)
    (enumerators_listed row.0 row.1
    ∙ ap (λ list. enumerators (map enumerator_of list)) (s.items_hidden-the_row-Enumerator-5 all))

pub spells_enum : (pos : Pos) (tag : Option Tag) (all : Vec n.Enumerator Global) (comma : Bool)
    → spell_specifier (specifier_of (s.Enum pos tag all comma))
    ≡ word_at pos w.Enum ∷ spell_tag tag
    ++ mark punct.OpenBrace ∷ commas (map (λ x. spell_enumerator (enumerator_of x)) all.items)
    ++ comma_if comma ++ mark punct.CloseBrace ∷ []
spells_enum pos tag all comma =
    ap spell_specifier (enum_tree pos tag all comma)
    ∙ ap
    (λ list. word_at pos w.Enum ∷ spell_tag tag
    ++ mark punct.OpenBrace ∷ commas list ++ comma_if comma ++ mark punct.CloseBrace ∷ [])
    (spelled_enums all.items)

parameters_row_of : d.Declarator → (count : _) × d.Row_of-Parameter count
parameters_row_of (d.FunctionOf' _ _ _ row _) = (_, row)
parameters_row_of _ = (_, d.end_of-Parameter)

pub function_seen : (inner : Box d.Declarator Global) (all : Vec p.Parameter Global) (variadic : Bool)
    → declarator_of (d.FunctionOf inner all variadic)
    ≡ tree.FunctionOf (declarator_of inner.value) (parameters (map parameter_of all.items)) variadic
unfolding parameters_row_of
function_seen inner all variadic =
    let row = parameters_row_of (d.FunctionOf inner all variadic) in
    ap
    (λ list. tree.FunctionOf (declarator_of inner.value) list variadic)
    (parameters_listed row.0 row.1
    ∙ ap (λ list. parameters (map parameter_of list)) (d.items_hidden-the_row-Parameter-1 all))

pub spells_function : (inner : Box d.Declarator Global) (all : Vec p.Parameter Global) (variadic : Bool)
    → spell_declarator (declarator_of (d.FunctionOf inner all variadic))
    ≡ spell_declarator (declarator_of inner.value)
    ++ mark punct.OpenParen ∷ commas (map (λ x. spell_parameter (parameter_of x)) all.items)
    ++ ellipsis_if variadic ++ mark punct.CloseParen ∷ []
spells_function inner all variadic =
    ap spell_declarator (function_seen inner all variadic)
    ∙ ap
    (λ list. spell_declarator (declarator_of inner.value)
    ++ mark punct.OpenParen ∷ commas list ++ ellipsis_if variadic ++ mark punct.CloseParen ∷ [])
    (spelled_params all.items)

pub spells_member : (member : m.MemberDeclaration)
    → spell_member (member_of member)
    ≡ flat_map (λ x. spell_specifier (specifier_of x)) member.specifiers.items
    ++ commas (map (λ x. spell_declarator (declarator_of x)) member.declarators.items) ++ mark punct.Semicolon ∷ []
spells_member member =
    λ i. spells_specifiers member.specifiers.items i
    ++ commas (spelled_all member.declarators.items i) ++ mark punct.Semicolon ∷ []
