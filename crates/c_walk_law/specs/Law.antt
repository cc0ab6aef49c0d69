-- The law of the walk: what it answers keeps to types.
use Rattle.std.specs.Prelude.{◌≡◌, Bool, false, List}
use Rattle.critical_table.specs.declared.pos.Pos.{Pos}
use Rattle.c_types.specs.CType.{CType}
use Rattle.c_types.specs.Structures.{Structure}
use Rattle.c_core.specs.Named.{Names}
use Rattle.c_core.specs.Tree.{Core}
use Rattle.c_core.specs.Typed.{CoreTyped}
use Rattle.c_syntax.specs.Tree.{Expr, TypeName, Specifiers, Declarator}
use Rattle.c_scopes.specs.Env.{Env}
use Rattle.c_conversions.specs.Parts.{Part}
use Rattle.c_conversions.specs.Versions.{is_void}
use Rattle.c_type_rules.specs.declared.context.Context.{Context}
use Rattle.c_type_parts.specs.declared.derivations.Around.{Around}
use Rattle.c_expr_rules.specs.Targets.{type_of_part}
use Rattle.c_expr.specs.Typing.{typed, named, valued, value_of, specified, declared}
use Rattle.c_typing_law.specs.Law.{IsValue}
use Rattle.c_typing_law.specs.TypedParts.{PartTyped}
use Rattle.c_typing_law.specs.WellFormed.{TypeFormed}
use Rattle.c_walk_law.specs.InScope.{EnvTyped, GivesTyped}
use Rattle.c_walk_law.specs.Literals.{LiteralsInExpr, LiteralsInTypeName, LiteralsInSpecifiers, LiteralsInDeclarator}

-- a value, and no void expression (6.3.2.2)
abbrev pub IsNeeded : Names → List Structure → Part → Type 0
IsNeeded names structures part = IsValue names structures part × (is_void (type_of_part part) ≡ false)

abbrev pub IsCore : Names → List Structure → Core → Type 0
IsCore names structures core = CoreTyped names core

module _ (names : Names) (env : Env) where
  -- 6.5: an expression, and an expression as a value that is needed
  pub record ExpressionsTyped (e : Expr) : Type 0 where
    pub part : (used : Bool) → GivesTyped names env (PartTyped names) (typed used e env)
    pub value : GivesTyped names env (IsNeeded names) (valued e env)
    pub core : GivesTyped names env (IsCore names) (value_of e env)

-- Where what is in scope is typed, and the literals of a tree are static objects, the walk gives what is well-typed.
pub record WalkKeepsTypes : Type 0 where
  pub expression : (names : Names) (e : Expr) (env : Env) → LiteralsInExpr names.statics e → EnvTyped names env
      → ExpressionsTyped names env e
  -- 6.7.7
  pub type_name : (names : Names) (around : Pos) (name : TypeName) (env : Env)
      → LiteralsInTypeName names.statics name → EnvTyped names env
      → GivesTyped names env TypeFormed (named around name env)
  -- 6.7.2, 6.7.3
  pub specifiers : (names : Names) (context : Context) (all : Specifiers) (env : Env)
      → LiteralsInSpecifiers names.statics all → EnvTyped names env
      → GivesTyped names env TypeFormed (specified context all env)
  -- 6.7.6
  pub declarator : (names : Names) (around : Around) (declarator : Declarator) (base : CType) (env : Env)
      → LiteralsInDeclarator names.statics declarator → EnvTyped names env → TypeFormed env.structures base
      → GivesTyped names env TypeFormed (declared around declarator base env)
