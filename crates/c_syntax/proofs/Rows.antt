-- The parts of a node as the program holds them, a row, and as a list.
use Rattle.std.proofs.Common.{◌≡◌, map, refl, ◌∙◌, ap, sym}
use Rattle.c_syntax.specs.declared.expression.Expr as e
use Rattle.c_syntax.specs.declared.declarator.Declarator as d
use Rattle.c_syntax.specs.declared.specifier.Specifier as s
use Rattle.c_syntax.specs.declared.specifier.MemberDeclaration as m
use Rattle.c_syntax.specs.Tree as tree
use Rattle.c_syntax.specs.View.{expr_of, exprs_row, exprs, specifier_of, specifiers_row, specifiers_of, declarator_of}
use Rattle.c_syntax.specs.View.{declarators_row, declarators, parameter_of, parameters_row, parameters, member_of}
use Rattle.c_syntax.specs.View.{members_row, members, maybe_of, value_of, enumerator_of, enumerators_row, enumerators}

-- of each kind: the tree of the row is that of the list of its parts
pub exprs_listed : (count : _) (row : e.Row_of-Expr count)
    → exprs_row row ≡ exprs (map expr_of (e.items-the_row-Expr count row))
exprs_listed count e.end_of-Expr = refl
exprs_listed count (e.more_of-Expr first rest) = ap (tree.MoreExprs (expr_of first)) (exprs_listed _ rest)

pub specifiers_listed : (count : _) (row : s.Row_of-Specifier count)
    → specifiers_row row ≡ specifiers_of (s.items-the_row-Specifier count row)
specifiers_listed count s.end_of-Specifier = refl
specifiers_listed count (s.more_of-Specifier first rest) =
    ap (tree.MoreSpecifiers (specifier_of first)) (specifiers_listed _ rest)

pub declarators_listed : (count : _) (row : m.Row_of-Declarator count)
    → declarators_row row ≡ declarators (map declarator_of (m.items-the_row-Declarator count row))
declarators_listed count m.end_of-Declarator = refl
declarators_listed count (m.more_of-Declarator first rest) =
    ap (tree.MoreDeclarators (declarator_of first)) (declarators_listed _ rest)

value_seen : (value : d.Held-Declarator-ArrayOf-1) → maybe_of value ≡ value_of (d.view-Declarator-ArrayOf-1 value)
value_seen d.None' = refl
value_seen (d.Some' _ expr) = refl

pub enumerators_listed : (count : _) (row : s.Row_of-Enumerator count)
    → enumerators_row row ≡ enumerators (map enumerator_of (s.items-the_row-Enumerator count row))
enumerators_listed count s.end_of-Enumerator = refl
enumerators_listed count (s.more_of-Enumerator pos name value rest) =
    λ i. tree.MoreEnumerators (tree.Enumerates pos name (value_seen value i)) (enumerators_listed _ rest i)

pub parameters_listed : (count : _) (row : d.Row_of-Parameter count)
    → parameters_row row ≡ parameters (map parameter_of (d.items-the_row-Parameter count row))
parameters_listed count d.end_of-Parameter = refl
parameters_listed count (d.more_of-Parameter shape row declarator rest) =
    let next_body = specifiers_listed _ row ∙ ap specifiers_of (sym (s.items_shown-the_row-Specifier-0 shape row)) in
    λ i. tree.MoreParameters (tree.Param (next_body i) (declarator_of declarator)) (parameters_listed _ rest i)

pub members_listed : (count : _) (row : s.Row_of-MemberDeclaration count)
    → members_row row ≡ members (map member_of (s.items-the_row-MemberDeclaration count row))
members_listed count s.end_of-MemberDeclaration = refl
members_listed count (s.more_of-MemberDeclaration shape row shape' row' rest) =
    let next_body = specifiers_listed _ row ∙ ap specifiers_of (sym (s.items_shown-the_row-Specifier-0 shape row)) in
    let seen' = declarators_listed _ row'
    ∙ ap (λ all. declarators (map declarator_of all)) (sym (m.items_shown-the_row-Declarator-3 shape' row')) in
    λ i. tree.MoreMembers (tree.Declares (next_body i) (seen' i)) (members_listed _ rest i)
