-- The walk keeps to types: an induction over the trees, one case a node.
use Rattle.std.proofs.Common.{ℕ, ◌+◌, ◌<◌, ℤ, Bool, true, false, List, [], ◌∷◌, ◌++◌, Option, Some, None}
use Rattle.std.proofs.Common.{IfSome}
use Rattle.critical_table.specs.declared.pos.Pos.{Pos}
use Rattle.c_types.specs.CType.{CType, CTypes, Nil, Cons}
use Rattle.c_types.specs.Structures.{Structure}
use Rattle.c_core.specs.declared.named.ObjectName.TheVariants as object
use Rattle.c_core.specs.Named.{Names, NamesObject}
use Rattle.c_core.specs.Constant.{constant_of}
use Rattle.c_core.specs.Tree.{Cores, NoCore, MoreCores}
use Rattle.c_syntax.specs.Tree.{Expr, Exprs, Maybe, TypeName, Specifier, Specifiers, MemberDeclaration, Members}
use Rattle.c_syntax.specs.Tree.{Declarators, Enumerators, Declarator, Parameter, Parameters}
use Rattle.c_syntax.specs.Tree as tree
use Rattle.c_scopes.specs.Env.{Env}
use Rattle.c_scopes.specs.Scopes.{found}
use Rattle.c_type_rules.specs.Arrays.{length_rule}
use Rattle.c_type_rules.specs.Enumerators.{given_value_rule, first_value, next_value}
use Rattle.c_type_rules.specs.Members.{no_member_rule}
use Rattle.c_type_rules.specs.Qualified.{quals_of_words}
use Rattle.c_type_rules.specs.declared.context.Context.{Context}
use Rattle.c_type_rules.specs.declared.context.Setting.TheVariants as setting
use Rattle.c_type_parts.specs.Answers.{Gives, and_then, settle}
use Rattle.c_type_parts.specs.declared.derivations.Around.{Around}
use Rattle.c_type_parts.specs.Declaring.{ToPointer, own_around, no_ellipsis, is_alone}
use Rattle.c_type_parts.specs.Declaring.{and_type, plain_derived, array_derived}
use Rattle.c_type_parts.specs.Declaring.{TypedMembers, no_members, member_added, name_or_none}
use Rattle.c_type_parts.specs.Declaring.{enumerator_bound}
use Rattle.c_type_parts.specs.Environments.{scope_entered}
use Rattle.c_type_parts.specs.Outlines.{Outline, Before, nothing, outline, bare_context}
use Rattle.c_type_parts.specs.Shapes.{place_of, name_in, place_in, own_place, first_place, names_something, start}
use Rattle.c_type_parts.specs.Tagging as tagging
use Rattle.c_expr.specs.Operands.{two_values, callee_parameters, callee_varies, first_of, behind_first, whole_usage}
use Rattle.c_expr.specs.Operands.{prefix_usage, cast_usage, infix_usages, choice_usages}
use Rattle.c_expr.specs.Typing as walk
use Rattle.c_expr.specs.Uses.{as_used, as_value, as_test, as_argument, side_as, both}
use Rattle.c_expr_rules.specs.Targets.{type_of_part}
use Rattle.c_typing_law.specs.Law.{IsValue}
use Rattle.c_typing_law.specs.TypedParts.{PartTyped, ArgumentsTyped}
use Rattle.c_typing_law.specs.WellFormed.{TypeFormed, TypesFormed}
use Rattle.c_typing_law.proofs.Called.{call_typed}
use Rattle.c_typing_law.proofs.Chosen.{conditional_typed}
use Rattle.c_typing_law.proofs.Made.{types_made}
use Rattle.c_typing_law.proofs.Named.{primary_typed}
use Rattle.c_typing_law.proofs.Reached.{index_typed}
use Rattle.c_typing_law.proofs.Stays.{stays_typed}
use Rattle.c_typing_law.proofs.Stored.{assignment_rules_typed}
use Rattle.c_walk_law.specs.InScope.{EnvTyped, GivesTyped}
use Rattle.c_walk_law.specs.Law.{IsNeeded}
use Rattle.c_walk_law.specs.Literals.{LiteralsInExpr, LiteralsInExprs, LiteralsInMaybe, LiteralsInTypeName}
use Rattle.c_walk_law.specs.Literals.{LiteralsInSpecifier, LiteralsInSpecifiers, LiteralsInMember, LiteralsInMembers}
use Rattle.c_walk_law.specs.Literals.{LiteralsInDeclarators, LiteralsInEnumerators, LiteralsInDeclarator}
use Rattle.c_walk_law.specs.Literals.{LiteralsInParameter, LiteralsInParameters}
use Rattle.c_walk_law.proofs.Deriving.{BeforeFormed, OutlineFormed, outline_formed, may_be_stays, storage_gives}
use Rattle.c_walk_law.proofs.Deriving.{qualifier_gives, inline_gives, basic_gives, type_gives, typedef_gives}
use Rattle.c_walk_law.proofs.Deriving.{specifiers_give, AllDerived, derived_with, types_stay, derived_stay}
use Rattle.c_walk_law.proofs.Deriving.{derivations_give, function_gives, parameter_gives, enumerator_gives}
use Rattle.c_walk_law.proofs.Operands.{value_stays, used_gives, value_gives, IsTest, test_gives}
use Rattle.c_walk_law.proofs.Operands.{OperandTyped, side_gives, BothTyped, both_give, constant_fits, selection_fits}
use Rattle.c_walk_law.proofs.Operands.{prefixed_fits, measure_fits, cast_fits, joined_gives, callee_formed, IsArgument}
use Rattle.c_walk_law.proofs.Operands.{first_formed, behind_formed, arguments_with, argument_gives}
use Rattle.c_walk_law.proofs.Reaching.{gives_here, then_gives, settled, settled_then, fits_always}
use Rattle.c_walk_law.proofs.Scopes.{found_typed, with_slots, SlotsNamed, all_slots, entered_typed}
use Rattle.c_walk_law.proofs.Tags.{MayBeType, Anything, tagged_gives, tagged_enumeration_gives, MembersTyped}
use Rattle.c_walk_law.proofs.Tags.{no_members_typed, member_added_gives, members_stay, compound_gives}
use Rattle.c_walk_law.proofs.Tags.{enumeration_gives}

-- the arguments for these parameters, and the length of an array where it has one
abbrev AreArguments : Names → CTypes → Bool → List Structure → Cores → Type 0
AreArguments names types variadic structures cores = ArgumentsTyped names types variadic cores

abbrev IsLength : List Structure → Option ℕ → Type 0
IsLength structures length = IfSome length (λ n. 0 < n)

abbrev IsAboveZero : List Structure → ℕ → Type 0
IsAboveZero structures n = 0 < n

no_arguments : (names : Names) (types : CTypes) (variadic : Bool) → ArgumentsTyped names types variadic NoCore
no_arguments names Nil true = tt
no_arguments names Nil false = tt
no_arguments names (Cons first rest) variadic = tt

types_with : (structures : List Structure) (type : Option CType) (types : CTypes) → MayBeType structures type
    → TypesFormed structures types → TypesFormed structures (and_type type types)
types_with structures None types h g = g
types_with structures (Some type) types h g = (h, g)

mutual
  unfolding walk.typed

  pub typed_gives : (names : Names) (used : Bool) (e : Expr) (env : Env) → LiteralsInExpr names.statics e
      → EnvTyped names env → GivesTyped names env (PartTyped names) (walk.typed used e env)
  typed_gives names used (tree.Const at constant) env h t =
      settled names env (PartTyped names) at _ t (constant_fits names env.structures t.structures at constant h)
  typed_gives names used (tree.Id at x) env h t =
      settled names env (PartTyped names) at _ t
      ((primary_typed names env.structures).name at (found env.scopes false x)
      (found_typed names env.structures env.scopes false x t.scopes))
  typed_gives names used (tree.Text at text) env h t =
      settled names env (PartTyped names) at _ t ((primary_typed names env.structures).literal at text.wide _ h)
  typed_gives names used (tree.Paren inner) env h t = typed_gives names used inner env h t
  typed_gives names used (tree.Index at array index) env h t =
      then_gives names env (BothTyped names two_values) (PartTyped names)
      (both two_values (walk.side_of array) (walk.side_of index) env) _
      (both_give names two_values (walk.side_of array) (walk.side_of index) env
      (λ u env t. typed_gives names u array env h.0 t) (λ u env t. typed_gives names u index env h.1 t) t)
      (λ p after are reaches. settled names after (PartTyped names) at _ reaches.typed
      (index_typed names after.structures reaches.typed.structures at p.0 p.1 are.left are.right))
  typed_gives names used (tree.Call at function arguments) env h t =
      then_gives names env (IsValue names) (PartTyped names)
      (as_used (place_of function) (walk.typed true function env)) _
      (used_gives names (place_of function) env (walk.typed true function env)
      (typed_gives names true function env h.0 t)) (λ f after is reaches.
      then_gives names after (AreArguments names (callee_parameters f) (callee_varies f)) (PartTyped names)
      (walk.passed arguments (callee_parameters f) (callee_varies f) after) _
      (passed_gives names arguments (callee_parameters f) (callee_varies f) after h.1
      (callee_formed after.structures (type_of_part f) is.type) reaches.typed) (λ all last are walked.
      settled names last (PartTyped names) at _ walked.typed
      (call_typed names last.structures walked.typed.structures at used f all
      (value_stays names after.structures last.structures f walked.kept is) are)))
  typed_gives names used (tree.Member at access whole x) env h t =
      then_gives names env (OperandTyped names (whole_usage access)) (PartTyped names)
      (side_as (whole_usage access) (walk.side_of whole) env) _
      (side_gives names (whole_usage access) (walk.side_of whole) env
      (λ u env t. typed_gives names u whole env h t) t) (λ w after is reaches.
      settled names after (PartTyped names) at _ reaches.typed
      (selection_fits names after.structures reaches.typed.structures at access x w is))
  typed_gives names used (tree.PostfixOp at operator operand) env h t =
      then_gives names env (PartTyped names) (PartTyped names) (walk.typed true operand env) _
      (typed_gives names true operand env h t) (λ o after is reaches.
      settled names after (PartTyped names) at _ reaches.typed
      ((assignment_rules_typed names after.structures reaches.typed.structures).postfix at _ o is))
  typed_gives names used (tree.PrefixOp at operator operand) env h t =
      then_gives names env (OperandTyped names (prefix_usage operator)) (PartTyped names)
      (side_as (prefix_usage operator) (walk.side_of operand) env) _
      (side_gives names (prefix_usage operator) (walk.side_of operand) env
      (λ u env t. typed_gives names u operand env h t) t) (λ o after is reaches.
      settled names after (PartTyped names) at _ reaches.typed
      (prefixed_fits names after.structures reaches.typed.structures at operator o is))
  typed_gives names used (tree.MeasureOp at operator type) env h t =
      then_gives names env TypeFormed (PartTyped names) (walk.named at type env) _
      (type_name_gives names at type env h t) (λ of after is reaches.
      settled names after (PartTyped names) at _ reaches.typed
      (measure_fits names after.structures reaches.typed.structures at operator of is))
  typed_gives names used (tree.Cast at type operand) env h t =
      then_gives names env TypeFormed (PartTyped names) (walk.named at type env) _
      (type_name_gives names at type env h.0 t) (λ to after formed reaches.
      then_gives names after (OperandTyped names (cast_usage to)) (PartTyped names)
      (side_as (cast_usage to) (walk.side_of operand) after) _
      (side_gives names (cast_usage to) (walk.side_of operand) after
      (λ u env t. typed_gives names u operand env h.1 t) reaches.typed) (λ o last is walked.
      settled names last (PartTyped names) at _ walked.typed
      (cast_fits names last.structures walked.typed.structures at to o
      ((stays_typed after.structures last.structures walked.kept).type to formed) is)))
  typed_gives names used (tree.InfixOp at operator left right) env h t =
      then_gives names env (BothTyped names (infix_usages used operator)) (PartTyped names)
      (both (infix_usages used operator) (walk.side_of left) (walk.side_of right) env) _
      (both_give names (infix_usages used operator) (walk.side_of left) (walk.side_of right) env
      (λ u env t. typed_gives names u left env h.0 t) (λ u env t. typed_gives names u right env h.1 t) t)
      (λ p after are reaches. joined_gives names used at (place_of right) operator p.0 p.1 after reaches.typed are.left
      are.right)
  typed_gives names used (tree.Cond at test then else) env h t =
      then_gives names env (IsTest names) (PartTyped names) (as_test (place_of test) (walk.typed true test env)) _
      (test_gives names (place_of test) env (walk.typed true test env) (typed_gives names true test env h.0 t))
      (λ c after is reaches.
      then_gives names after (BothTyped names (choice_usages used)) (PartTyped names)
      (both (choice_usages used) (walk.side_of then) (walk.side_of else) after) _
      (both_give names (choice_usages used) (walk.side_of then) (walk.side_of else) after
      (λ u env t. typed_gives names u then env h.1 t) (λ u env t. typed_gives names u else env h.2 t) reaches.typed)
      (λ p last are walked. settled names last (PartTyped names) at _ walked.typed
      (conditional_typed names last.structures walked.typed.structures at c p.0 p.1 is.0 is.1 are.left are.right)))

  passed_gives : (names : Names) (all : Exprs) (types : CTypes) (variadic : Bool) (env : Env)
      → LiteralsInExprs names.statics all → TypesFormed env.structures types → EnvTyped names env
      → GivesTyped names env (AreArguments names types variadic) (walk.passed all types variadic env)
  passed_gives names tree.NoExpr types variadic env h formed t =
      gives_here names env (AreArguments names types variadic) NoCore (no_arguments names types variadic) t
  passed_gives names (tree.MoreExprs first rest) types variadic env h formed t =
      then_gives names env (IsArgument names (first_of types) variadic) (AreArguments names types variadic)
      (as_argument (first_of types) variadic (place_of first) (walk.typed true first env)) _
      (argument_gives names (first_of types) variadic (place_of first) env (walk.typed true first env)
      (first_formed env.structures types formed) (typed_gives names true first env h.0 t)) (λ a after is reaches.
      then_gives names after (AreArguments names (behind_first types) variadic) (AreArguments names types variadic)
      (walk.passed rest (behind_first types) variadic after) _
      (passed_gives names rest (behind_first types) variadic after h.1
      (types_stay env.structures after.structures (behind_first types) reaches.kept
      (behind_formed env.structures types formed)) reaches.typed) (λ more last are walked.
      gives_here names last (AreArguments names types variadic) (MoreCores a more)
      (arguments_with names types variadic a more is are) walked.typed))

  pub type_name_gives : (names : Names) (around : Pos) (name : TypeName) (env : Env)
      → LiteralsInTypeName names.statics name → EnvTyped names env
      → GivesTyped names env TypeFormed (walk.named around name env)
  type_name_gives names around (tree.NamedType specifiers declarator) env h t =
      then_gives names env TypeFormed TypeFormed
      (walk.specified (bare_context setting.TypeName) specifiers env) _
      (specifiers_give names specifiers _ env
      (each_gives names (bare_context setting.TypeName) (outline specifiers env) specifiers nothing env h.0
      (outline_formed names specifiers env t) tt t)) (λ base after formed reaches.
      derivations_give names (place_in (name_in declarator)) around base _ after formed
      (derived_gives names (own_around declarator (no_ellipsis around)) declarator after h.1 reaches.typed))

  pub each_gives : (names : Names) (context : Context) (whole : Outline) (all : Specifiers) (before : Before)
      (env : Env) → LiteralsInSpecifiers names.statics all → OutlineFormed env.structures whole
      → BeforeFormed env.structures before → EnvTyped names env
      → GivesTyped names env BeforeFormed (walk.each_specified context whole all before env)
  each_gives names context whole tree.NoSpecifier before env h outlined formed t =
      gives_here names env BeforeFormed before formed t
  each_gives names context whole (tree.MoreSpecifiers first rest) before env h outlined formed t =
      then_gives names env BeforeFormed BeforeFormed (walk.one_specified context whole first before env) _
      (one_gives names context whole first before env h.0 outlined formed t) (λ next after is reaches.
      each_gives names context whole rest next after h.1
      (may_be_stays env.structures after.structures whole.typedef reaches.kept outlined) is reaches.typed)

  one_gives : (names : Names) (context : Context) (whole : Outline) (first : Specifier) (before : Before) (env : Env)
      → LiteralsInSpecifier names.statics first → OutlineFormed env.structures whole
      → BeforeFormed env.structures before → EnvTyped names env
      → GivesTyped names env BeforeFormed (walk.one_specified context whole first before env)
  one_gives names context whole (tree.StorageClass at word) before env h outlined formed t =
      storage_gives names context.setting before at word env t formed
  one_gives names context whole (tree.TypeQualifier at word) before env h outlined formed t =
      qualifier_gives names whole before at word env t formed
  one_gives names context whole (tree.Inline at) before env h outlined formed t =
      inline_gives names context whole before at env t formed
  one_gives names context whole (tree.BasicType at word) before env h outlined formed t =
      basic_gives names at whole before.basic before env t formed
  one_gives names context whole (tree.CompoundTag at word tag) before env h outlined formed t =
      type_gives names before _ env (tagged_gives names (tagging.is_union word) tag context.alone env t)
  one_gives names context whole (tree.Compound at word tag members) before env h outlined formed t =
      type_gives names before _ env
      (compound_gives names (tagging.is_union word) at tag (λ env. walk.members_typed members no_members env) env
      (λ env t. members_give names members no_members env h (no_members_typed env.structures) t) t)
  one_gives names context whole (tree.EnumTag at tag) before env h outlined formed t =
      type_gives names before _ env (tagged_enumeration_gives names tag env t)
  one_gives names context whole (tree.Enum at tag enumerators comma) before env h outlined formed t =
      type_gives names before _ env
      (enumeration_gives names tag (λ env. walk.enumerated enumerators first_value env) env
      (λ env t. enumerated_gives names enumerators first_value env h t) t)
  one_gives names context whole (tree.TypedefName at x) before env h outlined formed t =
      type_gives names before _ env (typedef_gives names at whole.typedef env t outlined)

  members_give : (names : Names) (all : Members) (earlier : TypedMembers) (env : Env)
      → LiteralsInMembers names.statics all → MembersTyped env.structures earlier → EnvTyped names env
      → GivesTyped names env MembersTyped (walk.members_typed all earlier env)
  members_give names tree.NoMember earlier env h are t = gives_here names env MembersTyped earlier are t
  members_give names (tree.MoreMembers first rest) earlier env h are t =
      then_gives names env MembersTyped MembersTyped (walk.member_typed first earlier env) _
      (member_gives names first earlier env h.0 are t)
      (λ more after is reaches. members_give names rest more after h.1 is reaches.typed)

  member_gives : (names : Names) (first : MemberDeclaration) (earlier : TypedMembers) (env : Env)
      → LiteralsInMember names.statics first → MembersTyped env.structures earlier → EnvTyped names env
      → GivesTyped names env MembersTyped (walk.member_typed first earlier env)
  member_gives names (tree.Declares specifiers tree.NoDeclarator) earlier env h are t =
      settled_then names env MembersTyped (first_place specifiers) (no_member_rule (names_something specifiers)) _
      (fits_always (λ none. GivesTyped names env MembersTyped (Gives earlier env))
      (no_member_rule (names_something specifiers)) (λ none. gives_here names env MembersTyped earlier are t))
  member_gives names (tree.Declares specifiers (tree.MoreDeclarators first rest)) earlier env h are t =
      then_gives names env TypeFormed MembersTyped
      (walk.specified (bare_context setting.Member) specifiers env) _
      (specifiers_give names specifiers _ env
      (each_gives names (bare_context setting.Member) (outline specifiers env) specifiers nothing env h.0
      (outline_formed names specifiers env t) tt t)) (λ base after formed reaches.
      each_member_gives names (tree.MoreDeclarators first rest) base earlier after h.1 formed
      (members_stay env.structures after.structures earlier reaches.kept are) reaches.typed)

  each_member_gives : (names : Names) (all : Declarators) (base : CType) (earlier : TypedMembers) (env : Env)
      → LiteralsInDeclarators names.statics all → TypeFormed env.structures base → MembersTyped env.structures earlier
      → EnvTyped names env → GivesTyped names env MembersTyped (walk.each_member all base earlier env)
  each_member_gives names tree.NoDeclarator base earlier env h formed are t =
      gives_here names env MembersTyped earlier are t
  each_member_gives names (tree.MoreDeclarators first rest) base earlier env h formed are t =
      then_gives names env MembersTyped MembersTyped
      (and_then (walk.declared (no_ellipsis start) first base env)
      (λ type env. member_added (own_place first start) (name_or_none (name_in first)) type earlier env)) _
      (then_gives names env TypeFormed MembersTyped (walk.declared (no_ellipsis start) first base env) _
      (derivations_give names (place_in (name_in first)) start base _ env formed
      (derived_gives names (own_around first (no_ellipsis start)) first env h.0 t)) (λ type after is reaches.
      member_added_gives names (own_place first start) (name_or_none (name_in first)) type earlier after reaches.typed
      (members_stay env.structures after.structures earlier reaches.kept are) is)) (λ more after members reaches.
      each_member_gives names rest base more after h.1
      ((stays_typed env.structures after.structures reaches.kept).type base formed) members reaches.typed)

  enumerated_gives : (names : Names) (all : Enumerators) (next : ℤ) (env : Env)
      → LiteralsInEnumerators names.statics all → EnvTyped names env
      → GivesTyped names env Anything (walk.enumerated all next env)
  enumerated_gives names tree.NoEnumerator next env h t = gives_here names env Anything tt tt t
  enumerated_gives names (tree.MoreEnumerators (tree.Enumerates at x given) rest) next env h t =
      then_gives names env Anything Anything (walk.enumerator_value given next env) _
      (enumerator_value_gives names given next env h.0 t) (λ value after any reaches.
      then_gives names after Anything Anything (enumerator_bound at x value after) _
      (enumerator_gives names at x value after reaches.typed)
      (λ n last some walked. enumerated_gives names rest (next_value n) last h.1 walked.typed))

  enumerator_value_gives : (names : Names) (given : Maybe) (next : ℤ) (env : Env)
      → LiteralsInMaybe names.statics given → EnvTyped names env
      → GivesTyped names env Anything (walk.enumerator_value given next env)
  enumerator_value_gives names tree.Without next env h t = gives_here names env Anything (Some next) tt t
  enumerator_value_gives names (tree.With given) next env h t =
      then_gives names env (IsNeeded names) Anything (as_value (place_of given) (walk.typed true given env)) _
      (value_gives names (place_of given) env (walk.typed true given env) (typed_gives names true given env h t))
      (λ v after is reaches.
      settled names after Anything (place_of given) (given_value_rule (constant_of v.core)) reaches.typed
      (fits_always (Anything after.structures) (given_value_rule (constant_of v.core)) (λ n. tt)))

  pub derived_gives : (names : Names) (around : Around) (declarator : Declarator) (env : Env)
      → LiteralsInDeclarator names.statics declarator → EnvTyped names env
      → GivesTyped names env AllDerived (walk.derived around declarator env)
  derived_gives names around tree.Omitted env h t = gives_here names env AllDerived [] tt t
  derived_gives names around (tree.Name pos x) env h t = gives_here names env AllDerived [] tt t
  derived_gives names around (tree.DParen inner) env h t = derived_gives names around inner env h t
  derived_gives names around (tree.PointerTo qualifiers inner) env h t =
      then_gives names env AllDerived AllDerived (walk.derived around inner env) _
      (derived_gives names around inner env h t) (λ all after are reaches.
      gives_here names after AllDerived (all ++ plain_derived (ToPointer (quals_of_words qualifiers)) ∷ [])
      (derived_with after.structures all (plain_derived (ToPointer (quals_of_words qualifiers))) are tt) reaches.typed)
  derived_gives names around (tree.ArrayOf inner length) env h t =
      then_gives names env AllDerived AllDerived (walk.derived around inner env) _
      (derived_gives names around inner env h.0 t) (λ all after are reaches.
      then_gives names after IsLength AllDerived (walk.array_length length after) _
      (length_gives names length after h.1 reaches.typed) (λ n last is walked.
      gives_here names last AllDerived (all ++ array_derived length n ∷ [])
      (derived_with last.structures all (array_derived length n)
      (derived_stay after.structures last.structures all walked.kept are) is) walked.typed))
  derived_gives names around (tree.FunctionOf inner parameters variadic) env h t =
      then_gives names env AllDerived AllDerived (walk.derived around inner env) _
      (derived_gives names around inner env h.0 t) (λ all after are reaches.
      function_gives names around parameters variadic all after are reaches.typed
      (parameters_give (with_slots names parameters) around.at (is_alone parameters variadic) parameters 0
      (scope_entered after) h.1 (all_slots names parameters) (entered_typed names after parameters reaches.typed)))

  length_gives : (names : Names) (given : Maybe) (env : Env) → LiteralsInMaybe names.statics given
      → EnvTyped names env → GivesTyped names env IsLength (walk.array_length given env)
  length_gives names tree.Without env h t = gives_here names env IsLength None tt t
  length_gives names (tree.With given) env h t =
      then_gives names env (IsValue names) IsLength (as_used (place_of given) (walk.typed true given env)) _
      (used_gives names (place_of given) env (walk.typed true given env) (typed_gives names true given env h t))
      (λ v after is reaches.
      then_gives names after IsAboveZero IsLength
      (settle (place_of given) after (length_rule (constant_of v.core))) _
      (settled names after IsAboveZero (place_of given) (length_rule (constant_of v.core)) reaches.typed
      ((types_made after.structures).length (constant_of v.core)))
      (λ n last above walked. gives_here names last IsLength (Some n) above walked.typed))

  pub parameters_give : (names : Names) (around : Pos) (alone : Bool) (all : Parameters) (number : ℕ) (env : Env)
      → LiteralsInParameters names.statics all → SlotsNamed names number all → EnvTyped names env
      → GivesTyped names env TypesFormed (walk.parameters_typed around alone all number env)
  parameters_give names around alone tree.NoParameter number env h slots t =
      gives_here names env TypesFormed Nil tt t
  parameters_give names around alone (tree.MoreParameters first rest) number env h slots t =
      then_gives names env MayBeType TypesFormed (walk.parameter_typed around alone first number env) _
      (parameter_typed_gives names around alone first number env h.0 slots.0 t) (λ type after is reaches.
      then_gives names after TypesFormed TypesFormed (walk.parameters_typed around alone rest (number + 1) after) _
      (parameters_give names around alone rest (number + 1) after h.1 slots.1 reaches.typed) (λ types last are walked.
      gives_here names last TypesFormed (and_type type types)
      (types_with last.structures type types (may_be_stays after.structures last.structures type walked.kept is) are)
      walked.typed))

  parameter_typed_gives : (names : Names) (around : Pos) (alone : Bool) (first : Parameter) (number : ℕ) (env : Env)
      → LiteralsInParameter names.statics first → NamesObject names (object.Slot number) → EnvTyped names env
      → GivesTyped names env MayBeType (walk.parameter_typed around alone first number env)
  parameter_typed_gives names around alone (tree.Param specifiers declarator) number env h slot t =
      then_gives names env TypeFormed MayBeType
      (walk.specified (bare_context setting.Parameter) specifiers env) _
      (specifiers_give names specifiers _ env
      (each_gives names (bare_context setting.Parameter) (outline specifiers env) specifiers nothing env h.0
      (outline_formed names specifiers env t) tt t)) (λ base after formed reaches.
      then_gives names after TypeFormed MayBeType
      (walk.declared (no_ellipsis around) declarator base after) _
      (derivations_give names (place_in (name_in declarator)) around base _ after formed
      (derived_gives names (own_around declarator (no_ellipsis around)) declarator after h.1 reaches.typed))
      (λ type last is walked.
      parameter_gives names alone specifiers declarator number type last walked.typed slot is))
