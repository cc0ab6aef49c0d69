-- The law of the walk.
use Rattle.std.proofs.Common.{true}
use Rattle.c_types.specs.CType.{CType}
use Rattle.c_core.specs.Named.{Names}
use Rattle.c_syntax.specs.Tree.{Expr, Specifiers, Declarator}
use Rattle.c_scopes.specs.Env.{Env}
use Rattle.c_type_rules.specs.declared.context.Context.{Context}
use Rattle.c_type_parts.specs.declared.derivations.Around.{Around}
use Rattle.c_type_parts.specs.Declaring.{own_around}
use Rattle.c_type_parts.specs.Outlines.{nothing, outline}
use Rattle.c_type_parts.specs.Shapes.{place_of, name_in, place_in}
use Rattle.c_expr.specs.Typing as walk
use Rattle.c_typing_law.specs.WellFormed.{TypeFormed}
use Rattle.c_walk_law.specs.InScope.{EnvTyped, GivesTyped}
use Rattle.c_walk_law.specs.Law.{IsNeeded, IsCore}
use Rattle.c_walk_law.specs.Literals.{LiteralsInExpr, LiteralsInSpecifiers, LiteralsInDeclarator}
use Rattle.c_walk_law.proofs.Deriving.{outline_formed, specifiers_give, derivations_give}
use Rattle.c_walk_law.proofs.Operands.{value_gives}
use Rattle.c_walk_law.proofs.Reaching.{gives_here, then_gives}
use Rattle.c_walk_law.proofs.Walk.{typed_gives, type_name_gives, each_gives, derived_gives}
use Rattle.c_walk_law.proofs.walk_law.Goals as goal

-- the type of specifiers, of a declarator, and the core of a value
list_gives : (names : Names) (context : Context) (all : Specifiers) (env : Env)
    → LiteralsInSpecifiers names.statics all → EnvTyped names env
    → GivesTyped names env TypeFormed (walk.specified context all env)
list_gives names context all env h t =
    specifiers_give names all (walk.each_specified context (outline all env) all nothing env) env
    (each_gives names context (outline all env) all nothing env h (outline_formed names all env t) tt t)

declarator_gives : (names : Names) (around : Around) (declarator : Declarator) (base : CType) (env : Env)
    → LiteralsInDeclarator names.statics declarator → EnvTyped names env → TypeFormed env.structures base
    → GivesTyped names env TypeFormed (walk.declared around declarator base env)
declarator_gives names around declarator base env h t formed =
    derivations_give names (place_in (name_in declarator)) around.at base
    (walk.derived (own_around declarator around) declarator env) env formed
    (derived_gives names (own_around declarator around) declarator env h t)

core_gives : (names : Names) (e : Expr) (env : Env) → LiteralsInExpr names.statics e → EnvTyped names env
    → GivesTyped names env (IsCore names) (walk.value_of e env)
core_gives names e env h t =
    then_gives names env (IsNeeded names) (IsCore names) (walk.valued e env) _
    (value_gives names (place_of e) env (walk.typed true e env) (typed_gives names true e env h t))
    (λ v after is reaches. gives_here names after (IsCore names) v.core is.0.core reaches.typed)

pub returns : goal.returns
returns c = record {
  expression = λ names e env h t. record {
    part = λ used. typed_gives names used e env h t;
    value = value_gives names (place_of e) env (walk.typed true e env) (typed_gives names true e env h t);
    core = core_gives names e env h t;
  };
  type_name = type_name_gives;
  specifiers = list_gives;
  declarator = declarator_gives;
}
