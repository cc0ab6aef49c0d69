-- The walk: the parts of a node in the order of their tokens, then the node by its rule, with the environment running
-- through them. The walk knows no constraint: which type a node has, and what it breaks, is for its rule to say.
--
-- A rule that needs nothing of a node's parts comes before them, any other behind them.
use Rattle.std.specs.Prelude.{ℕ, ◌+◌, ℤ, Bool, true, false, ◌&&◌, List, [], ◌∷◌, ◌++◌, Option, Some, None}
use Rattle.critical_table.specs.declared.pos.Pos.{Pos}
use Rattle.c_types.specs.CType.{CType, CTypes, Nil}
use Rattle.c_core.specs.Constant.{constant_of}
use Rattle.c_core.specs.Tree.{Core, Cores, NoCore, MoreCores}
use Rattle.c_syntax.specs.Tree.{Expr, Exprs, Maybe, TypeName, Specifier, Specifiers, MemberDeclaration, Members}
use Rattle.c_syntax.specs.Tree.{Declarators, Enumerators, Declarator, Parameter, Parameters}
use Rattle.c_syntax.specs.Tree as tree
use Rattle.c_scopes.specs.Env.{Env}
use Rattle.c_scopes.specs.Scopes.{found}
use Rattle.c_conversions.specs.Parts.{Part}
use Rattle.c_type_rules.specs.Arrays.{length_rule}
use Rattle.c_type_rules.specs.Enumerators.{given_value_rule, first_value, next_value}
use Rattle.c_type_rules.specs.Members.{no_member_rule}
use Rattle.c_type_rules.specs.Qualified.{quals_of_words}
use Rattle.c_type_rules.specs.declared.context.Context.{Context}
use Rattle.c_type_rules.specs.declared.context.Setting.TheVariants as setting
use Rattle.c_operator_rules.specs.Assignment.{postfix_rule}
use Rattle.c_expr_rules.specs.Calls.{call_rule}
use Rattle.c_operator_rules.specs.Conditional.{conditional_rule}
use Rattle.c_expr_rules.specs.Pointers.{index_rule}
use Rattle.c_expr_rules.specs.Primary.{literal_rule, name_rule}
use Rattle.c_type_parts.specs.Answers.{Answer, Gives, and_then, settle}
use Rattle.c_type_parts.specs.declared.derivations.Around.{Around}
use Rattle.c_type_parts.specs.Declaring.{ToPointer, Derived, of_derivations, own_around, no_ellipsis, is_alone}
use Rattle.c_type_parts.specs.Declaring.{parameter_of}
use Rattle.c_type_parts.specs.Declaring.{and_type, plain_derived, array_derived, function_derived, is_first}
use Rattle.c_type_parts.specs.Declaring.{TypedMembers}
use Rattle.c_type_parts.specs.Declaring.{no_members, member_added, name_or_none, enumerator_bound}
use Rattle.c_type_parts.specs.Environments.{scope_entered, scope_left}
use Rattle.c_expr.specs.Operands.{constant_rule, units_among, callee_parameters, callee_varies, first_of}
use Rattle.c_expr.specs.Operands.{behind_first, whole_usage, selection_rule, prefix_usage, prefixed_rule}
use Rattle.c_expr.specs.Operands.{measure_rule, is_decrement, cast_usage, cast_to_rule, two_values, infix_usages}
use Rattle.c_expr.specs.Operands.{choice_usages}
use Rattle.c_type_parts.specs.Outlines.{Outline, Before, nothing, outline, of_specifiers, storage_on, qualifier_on}
use Rattle.c_type_parts.specs.Outlines.{inline_on, basic_on, type_on, typedef_rule, bare_context}
use Rattle.c_type_parts.specs.Shapes.{place_of, name_in, place_in, own_place, first_place, names_something, start}
use Rattle.c_type_parts.specs.Tagging.{is_union, tagged_compound, tagged_enumeration, compound_with, enumeration_with}
use Rattle.c_expr.specs.Uses.{as_used, as_value, as_test, as_argument, Side, side_as, both, joined}

unfoldable mutual
  -- ---- 6.5: what an expression is, before it becomes a value (6.3.2.1); `used` tells that its value is used

  pub typed : (used : Bool) → Expr → Env → Answer Part
  typed used (tree.Const at constant) env = settle at env (constant_rule at constant)
  typed used (tree.Id at x) env = settle at env (name_rule at (found env.scopes false x))
  typed used (tree.Text at text) env = settle at env (literal_rule at text.wide (units_among text.pieces))
  typed used (tree.Paren inner) env = typed used inner env
  typed used (tree.Index at array index) env =
      and_then (both two_values (record { at = place_of array; answer = λ u env. typed u array env })
      (record { at = place_of index; answer = λ u env. typed u index env }) env) (λ p env.
      settle at env (index_rule env.structures at p.0 p.1))
  typed used (tree.Call at function arguments) env =
      and_then (as_used (place_of function) (typed true function env)) (λ f env.
      and_then (passed arguments (callee_parameters f) (callee_varies f) env) (λ all env.
      settle at env (call_rule env.structures at used f all)))
  typed used (tree.Member at access whole x) env =
      and_then (side_as (whole_usage access) (record { at = place_of whole; answer = λ u env. typed u whole env }) env)
      (λ w env. settle at env (selection_rule env.structures at access x w))
  typed used (tree.PostfixOp at operator operand) env =
      and_then (typed true operand env) (λ o env.
      settle at env (postfix_rule env.structures at (is_decrement operator) o))
  typed used (tree.PrefixOp at operator operand) env =
      and_then (side_as (prefix_usage operator)
      (record { at = place_of operand; answer = λ u env. typed u operand env }) env) (λ o env.
      settle at env (prefixed_rule env.structures at operator o))
  typed used (tree.MeasureOp at operator type) env =
      and_then (named at type env) (λ t env. settle at env (measure_rule env.structures at operator t))
  typed used (tree.Cast at type operand) env =
      and_then (named at type env) (λ t env.
      and_then (side_as (cast_usage t) (record { at = place_of operand; answer = λ u env. typed u operand env }) env)
      (λ o env. settle at env (cast_to_rule at t o)))
  typed used (tree.InfixOp at operator left right) env =
      and_then (both (infix_usages used operator)
      (record { at = place_of left; answer = λ u env. typed u left env })
      (record { at = place_of right; answer = λ u env. typed u right env }) env) (λ p env.
      joined at (place_of right) operator p.0 p.1 env)
  typed used (tree.Cond at test then else) env =
      and_then (as_test (place_of test) (typed true test env)) (λ c env.
      and_then (both (choice_usages used) (record { at = place_of then; answer = λ u env. typed u then env })
      (record { at = place_of else; answer = λ u env. typed u else env }) env) (λ p env.
      settle at env (conditional_rule at c p.0 p.1)))

  -- arguments, where these parameters are left
  pub passed : Exprs → CTypes → Bool → Env → Answer Cores
  passed tree.NoExpr parameters variadic env = Gives NoCore env
  passed (tree.MoreExprs first rest) parameters variadic env =
      and_then (as_argument (first_of parameters) variadic (place_of first) (typed true first env)) (λ a env.
      and_then (passed rest (behind_first parameters) variadic env) (λ more env. Gives (MoreCores a more) env))

  -- ---- 6.7.7: the rules on the type that a type name names have the place of the operator around it

  pub named : Pos → TypeName → Env → Answer CType
  named around (tree.NamedType specifiers declarator) env =
      and_then (of_specifiers specifiers
      (each_specified (bare_context setting.TypeName) (outline specifiers env) specifiers nothing env)) (λ base env.
      of_derivations (place_in (name_in declarator)) around base
      (derived (own_around declarator (no_ellipsis around)) declarator env))

  -- ---- 6.7.2, 6.7.3: specifiers, in the order of their tokens

  pub each_specified : Context → Outline → Specifiers → Before → Env → Answer Before
  each_specified context whole tree.NoSpecifier before env = Gives before env
  each_specified context whole (tree.MoreSpecifiers first rest) before env =
      and_then (one_specified context whole first before env) (λ next env.
      each_specified context whole rest next env)

  pub one_specified : Context → Outline → Specifier → Before → Env → Answer Before
  one_specified context whole (tree.StorageClass at word) before env =
      storage_on context.setting before at word env
  one_specified context whole (tree.TypeQualifier at word) before env = qualifier_on whole before at word env
  one_specified context whole (tree.Inline at) before env = inline_on context whole before at env
  one_specified context whole (tree.BasicType at word) before env = basic_on at whole before.basic before env
  one_specified context whole (tree.CompoundTag at word tag) before env =
      type_on before (tagged_compound (is_union word) tag context.alone env)
  one_specified context whole (tree.Compound at word tag members) before env =
      type_on before (compound_with (is_union word) at tag (λ env. members_typed members no_members env) env)
  one_specified context whole (tree.EnumTag at tag) before env = type_on before (tagged_enumeration tag env)
  one_specified context whole (tree.Enum at tag enumerators comma) before env =
      type_on before (enumeration_with tag (λ env. enumerated enumerators first_value env) env)
  one_specified context whole (tree.TypedefName at x) before env =
      type_on before (settle at env (typedef_rule whole.typedef))

  -- ---- 6.7.2.1: members behind others

  pub members_typed : Members → TypedMembers → Env → Answer TypedMembers
  members_typed tree.NoMember earlier env = Gives earlier env
  members_typed (tree.MoreMembers first rest) earlier env =
      and_then (member_typed first earlier env) (λ more env. members_typed rest more env)

  pub member_typed : MemberDeclaration → TypedMembers → Env → Answer TypedMembers
  member_typed (tree.Declares specifiers tree.NoDeclarator) earlier env =
      and_then (settle (first_place specifiers) env (no_member_rule (names_something specifiers))) (λ none env.
      Gives earlier env)
  member_typed (tree.Declares specifiers (tree.MoreDeclarators first rest)) earlier env =
      and_then (of_specifiers specifiers
      (each_specified (bare_context setting.Member) (outline specifiers env) specifiers nothing env)) (λ base env.
      each_member (tree.MoreDeclarators first rest) base earlier env)

  pub each_member : Declarators → CType → TypedMembers → Env → Answer TypedMembers
  each_member tree.NoDeclarator base earlier env = Gives earlier env
  each_member (tree.MoreDeclarators first rest) base earlier env =
      and_then (and_then (of_derivations (place_in (name_in first)) start base
      (derived (own_around first (no_ellipsis start)) first env)) (λ type env.
      member_added (own_place first start) (name_or_none (name_in first)) type earlier env)) (λ more env.
      each_member rest base more env)

  -- ---- 6.7.2.2: enumerators from a value on, each in scope behind its own value (6.2.1p7)

  pub enumerated : Enumerators → ℤ → Env → Answer (Unit {0})
  enumerated tree.NoEnumerator next env = Gives tt env
  enumerated (tree.MoreEnumerators (tree.Enumerates at x given) rest) next env =
      and_then (enumerator_value given next env) (λ value env.
      and_then (enumerator_bound at x value env) (λ n env. enumerated rest (next_value n) env))

  pub enumerator_value : Maybe → ℤ → Env → Answer (Option ℤ)
  enumerator_value tree.Without next env = Gives (Some next) env
  enumerator_value (tree.With given) next env =
      and_then (as_value (place_of given) (typed true given env)) (λ v env.
      settle (place_of given) env (given_value_rule (constant_of v.core)))

  -- ---- 6.7.6

  -- the parts of a declarator in the order of their tokens; its derivations from the name outwards
  pub derived : Around → Declarator → Env → Answer (List Derived)
  derived around tree.Omitted env = Gives [] env
  derived around (tree.Name pos x) env = Gives [] env
  derived around (tree.DParen inner) env = derived around inner env
  derived around (tree.PointerTo qualifiers inner) env =
      and_then (derived around inner env) (λ all env.
      Gives (all ++ plain_derived (ToPointer (quals_of_words qualifiers)) ∷ []) env)
  derived around (tree.ArrayOf inner length) env =
      and_then (derived around inner env) (λ all env.
      and_then (array_length length env) (λ n env. Gives (all ++ array_derived length n ∷ []) env))
  derived around (tree.FunctionOf inner parameters variadic) env =
      and_then (derived around inner env) (λ all env.
      and_then (parameters_typed around.at (is_alone parameters variadic) parameters 0 (scope_entered env))
      (λ types env.
      Gives (all ++ function_derived types variadic (around.may_vary && is_first all) env ∷ []) (scope_left env)))

  pub array_length : Maybe → Env → Answer (Option ℕ)
  array_length tree.Without env = Gives None env
  array_length (tree.With length) env =
      and_then (as_used (place_of length) (typed true length env)) (λ v env.
      and_then (settle (place_of length) env (length_rule (constant_of v.core))) (λ n env. Gives (Some n) env))

  -- ---- 6.7.6.3: the types of parameters, adjusted; the first has this number

  pub parameters_typed : Pos → Bool → Parameters → ℕ → Env → Answer CTypes
  parameters_typed around alone tree.NoParameter number env = Gives Nil env
  parameters_typed around alone (tree.MoreParameters first rest) number env =
      and_then (parameter_typed around alone first number env) (λ type env.
      and_then (parameters_typed around alone rest (number + 1) env) (λ types env.
      Gives (and_type type types) env))

  pub parameter_typed : Pos → Bool → Parameter → ℕ → Env → Answer (Option CType)
  parameter_typed around alone (tree.Param specifiers declarator) number env =
      and_then (of_specifiers specifiers
      (each_specified (bare_context setting.Parameter) (outline specifiers env) specifiers nothing env))
      (λ base env.
      and_then (of_derivations (place_in (name_in declarator)) around base
      (derived (own_around declarator (no_ellipsis around)) declarator env)) (λ type env.
      parameter_of alone specifiers declarator number type env))

-- an expression as an operand
abbrev pub side_of : Expr → Side
side_of e = record { at = place_of e; answer = λ used env. typed used e env }

-- ---- what other crates ask

-- an expression as a value that is needed
abbrev pub valued : Expr → Env → Answer Part
valued e env = as_value (place_of e) (typed true e env)

-- its core
abbrev pub value_of : Expr → Env → Answer Core
value_of e env = and_then (valued e env) (λ v env. Gives v.core env)

-- the type of specifiers
abbrev pub specified : Context → Specifiers → Env → Answer CType
specified context all env =
    of_specifiers all (each_specified context (outline all env) all nothing env)

-- what a declarator makes of a type
abbrev pub declared : Around → Declarator → CType → Env → Answer CType
declared around declarator base env =
    of_derivations (place_in (name_in declarator)) around.at base (derived (own_around declarator around) declarator
    env)

-- one member, behind the type of its specifiers
abbrev pub one_member : Declarator → CType → TypedMembers → Env → Answer TypedMembers
one_member declarator base earlier env =
    and_then (declared (no_ellipsis start) declarator base env)
    (λ type env. member_added (own_place declarator start) (name_or_none (name_in declarator)) type earlier env)
