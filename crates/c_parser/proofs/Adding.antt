-- What a node whose parts are lists adds to a scope, by these lists.
use Rattle.std.proofs.Common.{◌≡◌, Bool, true, cond, List, [], ◌∷◌, ◌++◌, map, refl, ◌∙◌, ap, Vec, Global, Box}
use Rattle.std.proofs.Common.{Option, Some}
use Rattle.std.specs.List.{flat_map}
use Rattle.critical_table.specs.declared.pos.Pos.{Pos}
use Rattle.c_syntax.specs.declared.expression.Expr as e
use Rattle.c_syntax.specs.declared.operator.Measure.{Measure}
use Rattle.c_syntax.specs.declared.declarator.Declarator as d
use Rattle.c_syntax.specs.declared.declarator.Parameter as p
use Rattle.c_syntax.specs.declared.specifier.Specifier as s
use Rattle.c_syntax.specs.declared.specifier.CompoundWord.{CompoundWord}
use Rattle.c_syntax.specs.declared.specifier.Tag.{Tag}
use Rattle.c_syntax.specs.declared.specifier.MemberDeclaration as m
use Rattle.c_syntax.specs.declared.specifier.Enumerator as n
use Rattle.c_syntax.specs.declared.type_name.TypeName as t
use Rattle.c_syntax.specs.Tree as tree
use Rattle.c_syntax.specs.Scopes.{expr_adds, exprs_add, type_name_adds, specifier_adds, specifiers_add, member_adds}
use Rattle.c_syntax.specs.Scopes.{members_add, declarator_adds, declarators_add, enumerator_adds, enumerators_add}
use Rattle.c_syntax.specs.Scopes.{parameter_adds, parameters_add}
use Rattle.c_syntax.specs.ScopesUnit.{is_identifier, own_parameters, own_parameters_add}
use Rattle.c_syntax.specs.View.{expr_of, exprs, specifier_of, specifiers_of, declarator_of, declarators, parameter_of}
use Rattle.c_syntax.specs.View.{parameters, member_of, members, enumerator_of, enumerators, type_name_of}
use Rattle.c_syntax.proofs.Rows.{exprs_listed, specifiers_listed, parameters_listed, members_listed, enumerators_listed}

-- ---- lists

exprs_listed_add : (all : List e.Expr) → exprs_add (exprs (map expr_of all)) ≡ flat_map (λ x. expr_adds (expr_of x)) all
exprs_listed_add [] = refl
exprs_listed_add (first ∷ rest) = ap (λ more. expr_adds (expr_of first) ++ more) (exprs_listed_add rest)

pub specifiers_listed_add : (all : List s.Specifier)
    → specifiers_add (specifiers_of all) ≡ flat_map (λ x. specifier_adds (specifier_of x)) all
specifiers_listed_add [] = refl
specifiers_listed_add (first ∷ rest) =
    ap (λ more. specifier_adds (specifier_of first) ++ more) (specifiers_listed_add rest)

members_listed_add : (all : List m.MemberDeclaration)
    → members_add (members (map member_of all)) ≡ flat_map (λ x. member_adds (member_of x)) all
members_listed_add [] = refl
members_listed_add (first ∷ rest) = ap (λ more. member_adds (member_of first) ++ more) (members_listed_add rest)

declarators_listed_add : (all : List d.Declarator)
    → declarators_add (declarators (map declarator_of all)) ≡ flat_map (λ x. declarator_adds (declarator_of x)) all
declarators_listed_add [] = refl
declarators_listed_add (first ∷ rest) =
    ap (λ more. declarator_adds (declarator_of first) ++ more) (declarators_listed_add rest)

enumerators_listed_add : (all : List n.Enumerator)
    → enumerators_add (enumerators (map enumerator_of all)) ≡ flat_map (λ x. enumerator_adds (enumerator_of x)) all
enumerators_listed_add [] = refl
enumerators_listed_add (first ∷ rest) =
    ap (λ more. enumerator_adds (enumerator_of first) ++ more) (enumerators_listed_add rest)

pub parameters_listed_add : (all : List p.Parameter)
    → parameters_add (parameters (map parameter_of all)) ≡ flat_map (λ x. parameter_adds (parameter_of x)) all
parameters_listed_add [] = refl
parameters_listed_add (first ∷ rest) =
    ap (λ more. parameter_adds (parameter_of first) ++ more) (parameters_listed_add rest)

-- ---- nodes

arguments_row : e.Expr → (count : _) × e.Row_of-Expr count
arguments_row (e.Call' _ _ _ _ row) = (_, row)
arguments_row _ = (_, e.end_of-Expr)

pub call_adds : (pos : Pos) (function : Box e.Expr Global) (all : Vec e.Expr Global)
    → expr_adds (expr_of (e.Call pos function all))
    ≡ expr_adds (expr_of function.value) ++ flat_map (λ x. expr_adds (expr_of x)) all.items
unfolding arguments_row
call_adds pos function all =
    let row = arguments_row (e.Call pos function all) in
    ap (λ list. expr_adds (expr_of function.value) ++ exprs_add list) (exprs_listed row.0 row.1
    ∙ ap (λ list. exprs (map expr_of list)) (e.items_hidden-the_row-Expr-2 all))
    ∙ ap (λ list. expr_adds (expr_of function.value) ++ list) (exprs_listed_add all.items)

measure_row : e.Expr → (count : _) × s.Row_of-Specifier count
measure_row (e.Measure' _ _ _ _ row _) = (_, row)
measure_row _ = (_, s.end_of-Specifier)

pub measure_adds : (pos : Pos) (operator : Measure) (type : Box t.TypeName Global)
    → expr_adds (expr_of (e.Measure pos operator type)) ≡ type_name_adds (type_name_of type.value)
unfolding measure_row
measure_adds pos operator type =
    let row = measure_row (e.Measure pos operator type) in
    ap
    (λ list. specifiers_add list ++ declarator_adds (declarator_of type.value.declarator))
    (specifiers_listed row.0 row.1 ∙ ap specifiers_of (s.items_hidden-the_row-Specifier-0 type.value.specifiers))

cast_row : e.Expr → (count : _) × s.Row_of-Specifier count
cast_row (e.Cast' _ _ _ row _ _ _) = (_, row)
cast_row _ = (_, s.end_of-Specifier)

pub cast_adds : (pos : Pos) (type : Box t.TypeName Global) (operand : Box e.Expr Global)
    → expr_adds (expr_of (e.Cast pos type operand))
    ≡ type_name_adds (type_name_of type.value) ++ expr_adds (expr_of operand.value)
unfolding cast_row
cast_adds pos type operand =
    let row = cast_row (e.Cast pos type operand) in
    ap
    (λ list. (specifiers_add list ++ declarator_adds (declarator_of type.value.declarator))
    ++ expr_adds (expr_of operand.value))
    (specifiers_listed row.0 row.1 ∙ ap specifiers_of (s.items_hidden-the_row-Specifier-0 type.value.specifiers))

members_of : s.Specifier → (count : _) × s.Row_of-MemberDeclaration count
members_of (s.Compound' _ _ _ _ row) = (_, row)
members_of _ = (_, s.end_of-MemberDeclaration)

pub compound_adds : (pos : Pos) (compound : CompoundWord) (tag : Option Tag) (all : Vec m.MemberDeclaration Global)
    → specifier_adds (specifier_of (s.Compound pos compound tag all))
    ≡ flat_map (λ x. member_adds (member_of x)) all.items
unfolding members_of
compound_adds pos compound tag all =
    let row = members_of (s.Compound pos compound tag all) in
    ap members_add (members_listed row.0 row.1
    ∙ ap (λ list. members (map member_of list)) (s.items_hidden-the_row-MemberDeclaration-4 all))
    ∙ members_listed_add all.items

enumerators_of : s.Specifier → (count : _) × s.Row_of-Enumerator count
enumerators_of (s.Enum' _ _ _ row _) = (_, row)
enumerators_of _ = (_, s.end_of-Enumerator)

pub enum_adds : (pos : Pos) (tag : Option Tag) (all : Vec n.Enumerator Global) (comma : Bool)
    → specifier_adds (specifier_of (s.Enum pos tag all comma))
    ≡ flat_map (λ x. enumerator_adds (enumerator_of x)) all.items
unfolding enumerators_of
enum_adds pos tag all comma =
    let row = enumerators_of (s.Enum pos tag all comma) in
    ap enumerators_add (enumerators_listed row.0 row.1
    ∙ ap (λ list. enumerators (map enumerator_of list)) (s.items_hidden-the_row-Enumerator-5 all))
    ∙ enumerators_listed_add all.items

parameters_row_of : d.Declarator → (count : _) × d.Row_of-Parameter count
parameters_row_of (d.FunctionOf' _ _ _ row _) = (_, row)
parameters_row_of _ = (_, d.end_of-Parameter)

-- where the declarator inside is the identifier
pub own_parameters_listed : (inner : Box d.Declarator Global) (all : Vec p.Parameter Global) (variadic : Bool)
    → is_identifier (declarator_of inner.value) ≡ true
    → own_parameters_add (own_parameters (declarator_of (d.FunctionOf inner all variadic)))
    ≡ flat_map (λ x. parameter_adds (parameter_of x)) all.items
unfolding parameters_row_of
own_parameters_listed inner all variadic named =
    let row = parameters_row_of (d.FunctionOf inner all variadic) in
    ap
    (λ list. own_parameters_add (own_parameters (tree.FunctionOf (declarator_of inner.value) list variadic)))
    (parameters_listed row.0 row.1
    ∙ ap (λ list. parameters (map parameter_of list)) (d.items_hidden-the_row-Parameter-1 all))
    ∙ ap
    (λ first. own_parameters_add
    (cond first (Some (parameters (map parameter_of all.items))) (own_parameters (declarator_of inner.value))))
    named
    ∙ parameters_listed_add all.items

pub member_listed_adds : (member : m.MemberDeclaration)
    → member_adds (member_of member)
    ≡ flat_map (λ x. specifier_adds (specifier_of x)) member.specifiers.items
    ++ flat_map (λ x. declarator_adds (declarator_of x)) member.declarators.items
member_listed_adds member =
    λ i. specifiers_listed_add member.specifiers.items i ++ declarators_listed_add member.declarators.items i
