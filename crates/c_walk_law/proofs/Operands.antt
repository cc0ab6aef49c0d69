-- Operands by their use, and operators of them, are typed (6.3.2, 6.5).
use Rattle.std.proofs.Common.{◌≡◌, ℕ, Bool, true, false, cond, List, Option, Some, None, IfSome, refl, ap, sym}
use Rattle.std.proofs.Common.{subst}
use Rattle.critical_table.specs.declared.pos.Pos.{Pos}
use Rattle.c_types.specs.declared.basic.Basic.TheVariants as b
use Rattle.c_types.specs.CType.{CType, CTypes, Plain, Array, BasicType, Pointer, Function, Compound, Enumerated, Nil}
use Rattle.c_types.specs.CType.{Cons}
use Rattle.c_types.specs.Functions.{parameters_of}
use Rattle.c_types.specs.Making.{KeepsStructures}
use Rattle.c_types.specs.Structures.{Structure}
use Rattle.c_core.specs.declared.form.Form.{Form}
use Rattle.c_core.specs.declared.form.Form.TheVariants as form
use Rattle.c_core.specs.Forms.{form_of}
use Rattle.c_core.specs.Named.{Names}
use Rattle.c_core.specs.Tree.{Core, At, Cores, MoreCores, type_in}
use Rattle.c_core.specs.Typed.{CoreTyped}
use Rattle.c_core.specs.Types.{HasForm, IsNumber, IsScalar, IsVoid}
use Rattle.c_syntax.specs.declared.expression.Constant.{Constant}
use Rattle.c_syntax.specs.declared.expression.Constant.TheVariants as constant
use Rattle.c_syntax.specs.declared.operator.Access.{Access}
use Rattle.c_syntax.specs.declared.operator.Access.TheVariants as access
use Rattle.c_syntax.specs.declared.operator.Infix.{Infix}
use Rattle.c_syntax.specs.declared.operator.Infix.TheVariants as between
use Rattle.c_syntax.specs.declared.operator.Measure.{Measure}
use Rattle.c_syntax.specs.declared.operator.Measure.TheVariants as measure
use Rattle.c_syntax.specs.declared.operator.Prefix.{Prefix}
use Rattle.c_syntax.specs.declared.operator.Prefix.TheVariants as prefix
use Rattle.c_scopes.specs.Env.{Env}
use Rattle.c_scopes.specs.Ruled.{Ruled, Fits}
use Rattle.c_conversions.specs.Parts.{Part, value}
use Rattle.c_conversions.specs.Versions.{is_void}
use Rattle.c_expr_rules.specs.Casts.{cast_rule}
use Rattle.c_expr_rules.specs.Targets.{type_of_part, target_of}
use Rattle.c_expr_rules.specs.Uses.{used_rule, value_rule, test_rule, discard_rule}
use Rattle.c_operator_rules.specs.Assignment.{assigned_rule, assign_rule, may_hold}
use Rattle.c_operator_rules.specs.Conditional.{comma_part}
use Rattle.c_type_parts.specs.Answers.{Answer, settle}
use Rattle.c_expr.specs.declared.usage.Usage.{Usage}
use Rattle.c_expr.specs.declared.usage.Usage.TheVariants as usage
use Rattle.c_expr.specs.declared.usage.Usages.{Usages}
use Rattle.c_expr.specs.Operands.{operator_of, comparison_of, constant_rule, first_of, behind_first}
use Rattle.c_expr.specs.Operands.{argument_rule, whole_usage, selection_rule, prefix_usage}
use Rattle.c_expr.specs.Operands.{prefixed_rule, measure_rule, cast_usage, cast_to_rule, infix_usages}
use Rattle.c_expr.specs.Uses.{as_used, as_value, as_test, as_unused, as_argument, Side, side_as, both, joined}
use Rattle.c_typing_law.specs.Law.{IsValue, GivesPart}
use Rattle.c_typing_law.specs.TypedParts.{ValueTyped, PartTyped, Leaves, ArgumentsTyped, IfFits}
use Rattle.c_typing_law.specs.WellFormed.{TypeFormed, TypesFormed, StructuresFormed}
use Rattle.c_typing_law.proofs.Binaries.{binary_typed, and_typed, or_typed}
use Rattle.c_typing_law.proofs.Called.{pass_typed, further_typed}
use Rattle.c_typing_law.proofs.Chosen.{comma_typed}
use Rattle.c_typing_law.proofs.Compared.{comparison_typed}
use Rattle.c_typing_law.proofs.Converted.{has_form}
use Rattle.c_typing_law.proofs.Named.{primary_typed}
use Rattle.c_typing_law.proofs.Reached.{dot_typed, arrow_typed}
use Rattle.c_typing_law.proofs.Stays.{stays_typed}
use Rattle.c_typing_law.proofs.Stored.{assignment_rules_typed}
use Rattle.c_typing_law.proofs.Unaries.{unary_typed}
use Rattle.c_typing_law.proofs.Used.{uses_typed}
use Rattle.c_walk_law.specs.InScope.{EnvTyped, GivesTyped}
use Rattle.c_walk_law.specs.Law.{IsNeeded}
use Rattle.c_walk_law.specs.Literals.{IsInt}
use Rattle.c_walk_law.proofs.Reaching.{widens_own, gives_here, gives_less, then_gives, settled, settled_then, fits_then}

-- ---- what is typed stays so

pub part_stays : (names : Names) (old new : List Structure) (part : Part) → KeepsStructures old new
    → PartTyped names old part → PartTyped names new part
part_stays names old new part kept h = (stays_typed old new kept).part names names part (widens_own names) h

pub value_stays : (names : Names) (old new : List Structure) (part : Part) → KeepsStructures old new
    → IsValue names old part → IsValue names new part
value_stays names old new part kept h = part_stays names old new (value part.core) kept h

-- ---- operands by their use

-- what is left by an expression whose value is not used
pub record IsUnused (names : Names) (held : Core) : Type 0 where
  pub core : CoreTyped names held
  pub nothing : form_of held ≡ form.Nothing

-- what an operand is to its operator
abbrev pub OperandTyped : Names → Usage → List Structure → Part → Type 0
OperandTyped names usage.Value structures part = IsValue names structures part
OperandTyped names (usage.Used used) structures part = IsValue names structures part
OperandTyped names usage.Target structures part = PartTyped names structures part
OperandTyped names usage.Unused structures part = PartTyped names structures part × IsUnused names part.core

pub operand_stays : (names : Names) (how : Usage) (old new : List Structure) (part : Part) → KeepsStructures old new
    → OperandTyped names how old part → OperandTyped names how new part
operand_stays names usage.Value old new part kept h = value_stays names old new part kept h
operand_stays names (usage.Used used) old new part kept h = value_stays names old new part kept h
operand_stays names usage.Target old new part kept h = part_stays names old new part kept h
operand_stays names usage.Unused old new part kept h = (part_stays names old new part kept h.0, h.1)

void_typed : (names : Names) (structures : List Structure) (core : Core) → CoreTyped names core
    → form_of core ≡ form.Nothing → IsVoid (type_in core) → ValueTyped names structures core
void_typed names structures (At (Plain (BasicType b.Void) quals) at node) typed nothing void =
    record { core = typed; type = tt; form = ap Some (sym nothing); whole = refl }
void_typed names structures (At (Plain (BasicType basic) quals) at node) typed nothing void = absurd void
void_typed names structures (At (Plain (Pointer to) quals) at node) typed nothing void = absurd void
void_typed names structures (At (Plain (Function result parameters variadic) quals) at node) typed nothing void =
    absurd void
void_typed names structures (At (Plain (Compound number) quals) at node) typed nothing void = absurd void
void_typed names structures (At (Plain (Enumerated number) quals) at node) typed nothing void = absurd void
void_typed names structures (At (Array of len) at node) typed nothing void = absurd void

-- what leaves nothing is a void expression
unused_typed : (names : Names) (structures : List Structure) (core : Core) → IsUnused names core
    → ValueTyped names structures core
unused_typed names structures core h =
    let P : Form → Type 0 = HasForm (type_in core) in
    void_typed names structures core h.core h.nothing (subst P h.nothing (has_form names core h.core))

pub used_gives : (names : Names) (at : Pos) (env : Env) (part : Answer Part)
    → GivesTyped names env (PartTyped names) part → GivesTyped names env (IsValue names) (as_used at part)
unfolding as_used
used_gives names at env part h =
    then_gives names env (PartTyped names) (IsValue names) part _ h (λ p after typed reaches.
    settled names after (IsValue names) at (used_rule after.structures p) reaches.typed
    ((uses_typed names after.structures reaches.typed.structures).used p typed))

pub value_gives : (names : Names) (at : Pos) (env : Env) (part : Answer Part)
    → GivesTyped names env (PartTyped names) part → GivesTyped names env (IsNeeded names) (as_value at part)
unfolding as_value
value_gives names at env part h =
    then_gives names env (PartTyped names) (IsNeeded names) part _ h (λ p after typed reaches.
    settled names after (IsNeeded names) at (value_rule after.structures p) reaches.typed
    ((uses_typed names after.structures reaches.typed.structures).value p typed))

-- a number that is tested
abbrev pub IsTest : Names → List Structure → Core → Type 0
IsTest names structures core = CoreTyped names core × IsNumber (form_of core)

pub test_gives : (names : Names) (at : Pos) (env : Env) (part : Answer Part)
    → GivesTyped names env (PartTyped names) part → GivesTyped names env (IsTest names) (as_test at part)
unfolding as_test
test_gives names at env part h =
    then_gives names env (PartTyped names) (IsTest names) part _ h (λ p after typed reaches.
    settled names after (IsTest names) at (test_rule after.structures p) reaches.typed
    ((uses_typed names after.structures reaches.typed.structures).test p typed))

abbrev IsDiscarded : Names → List Structure → Core → Type 0
IsDiscarded names structures core = IsUnused names core

unused_gives : (names : Names) (at : Pos) (env : Env) (part : Answer Part)
    → GivesTyped names env (PartTyped names) part → GivesTyped names env (IsDiscarded names) (as_unused at part)
unfolding as_unused
unused_gives names at env part h =
    then_gives names env (PartTyped names) (IsDiscarded names) part _ h (λ p after typed reaches.
    settled names after (IsDiscarded names) at (discard_rule after.structures p) reaches.typed
    (fits_then (λ core. CoreTyped names core × (form_of core ≡ form.Nothing)) (IsUnused names)
    (discard_rule after.structures p) (λ core is. record { core = is.0; nothing = is.1 })
    ((uses_typed names after.structures reaches.typed.structures).discard p typed)))

-- the parts of an operand are typed, whatever its use
abbrev pub SideTyped : Names → Side → Type 0
SideTyped names side = (used : Bool) (env : Env) → EnvTyped names env
    → GivesTyped names env (PartTyped names) (side.answer used env)

pub side_gives : (names : Names) (how : Usage) (side : Side) (env : Env) → SideTyped names side → EnvTyped names env
    → GivesTyped names env (OperandTyped names how) (side_as how side env)
unfolding side_as
side_gives names usage.Value side env h t =
    gives_less names env (IsNeeded names) (IsValue names) (as_value side.at (side.answer true env))
    (λ structures p is. is.0) (value_gives names side.at env (side.answer true env) (h true env t))
side_gives names (usage.Used used) side env h t =
    used_gives names side.at env (side.answer used env) (h used env t)
side_gives names usage.Target side env h t = h true env t
side_gives names usage.Unused side env h t =
    then_gives names env (IsDiscarded names) (OperandTyped names usage.Unused)
    (as_unused side.at (side.answer false env)) _
    (unused_gives names side.at env (side.answer false env) (h false env t))
    (λ core after is reaches. gives_here names after (OperandTyped names usage.Unused) (value core)
    (unused_typed names after.structures core is, is) reaches.typed)

-- two operands
pub record BothTyped (names : Names) (usages : Usages) (structures : List Structure) (p : Part × Part) : Type 0 where
  pub left : OperandTyped names usages.left structures p.0
  pub right : OperandTyped names usages.right structures p.1

pub both_give : (names : Names) (usages : Usages) (left right : Side) (env : Env) → SideTyped names left
    → SideTyped names right → EnvTyped names env
    → GivesTyped names env (BothTyped names usages) (both usages left right env)
unfolding both
both_give names usages left right env l r t =
    then_gives names env (OperandTyped names usages.left) (BothTyped names usages) (side_as usages.left left env) _
    (side_gives names usages.left left env l t) (λ p after first reaches.
    then_gives names after (OperandTyped names usages.right) (BothTyped names usages) (side_as usages.right right after)
    _ (side_gives names usages.right right after r reaches.typed) (λ q last second walked.
    gives_here names last (BothTyped names usages) (p, q)
    (record {
      left = operand_stays names usages.left after.structures last.structures p walked.kept first;
      right = second;
    }) walked.typed))

-- ---- operators

module _ (names : Names) (structures : List Structure) (formed : StructuresFormed structures) where
  pub constant_fits : (at : Pos) (c : Constant) → IsInt c → GivesPart names structures (constant_rule at c)
  constant_fits at (constant.Number number) h = (primary_typed names structures).number at number
  constant_fits at (constant.Character n wide) h = (primary_typed names structures).character at n h

  pub selection_fits : (at : Pos) (a : Access) (name : List ℕ) (part : Part)
      → OperandTyped names (whole_usage a) structures part
      → GivesPart names structures (selection_rule structures at a name part)
  selection_fits at access.Dot name part h = dot_typed names structures formed at name part h
  selection_fits at access.Arrow name part h = arrow_typed names structures formed at name part h

  pub prefixed_fits : (at : Pos) (operator : Prefix) (part : Part)
      → OperandTyped names (prefix_usage operator) structures part
      → GivesPart names structures (prefixed_rule structures at operator part)
  prefixed_fits at prefix.PreInc part h = (assignment_rules_typed names structures formed).prefix at false part h
  prefixed_fits at prefix.PreDec part h = (assignment_rules_typed names structures formed).prefix at true part h
  prefixed_fits at prefix.AddressOf part h = (unary_typed names structures formed).address at part h
  prefixed_fits at prefix.SizeExpr part h = (unary_typed names structures formed).size_of at part h
  prefixed_fits at prefix.Deref part h = (unary_typed names structures formed).deref at part h
  prefixed_fits at prefix.Plus part h = (unary_typed names structures formed).plus part h
  prefixed_fits at prefix.Minus part h = (unary_typed names structures formed).minus at part h
  prefixed_fits at prefix.Flip part h = (unary_typed names structures formed).flip at part h
  prefixed_fits at prefix.Not part h = (unary_typed names structures formed).not at part h

  pub measure_fits : (at : Pos) (m : Measure) (type : CType) → TypeFormed structures type
      → GivesPart names structures (measure_rule structures at m type)
  measure_fits at measure.SizeType type h = (unary_typed names structures formed).size at type h
  measure_fits at measure.AlignType type h = (unary_typed names structures formed).align at type h

  pub cast_fits : (at : Pos) (type : CType) (part : Part) → TypeFormed structures type
      → OperandTyped names (cast_usage type) structures part → GivesPart names structures (cast_to_rule at type part)
  cast_fits at type part h operand = by (is_void type) operand
    where
      by : (void : Bool) → OperandTyped names (cond void usage.Unused usage.Value) structures part
          → GivesPart names structures (cond void (Fits part) (cast_rule at type part))
      by true operand = operand.0
      by false operand = (unary_typed names structures formed).cast at type part h operand

-- what is assigned, where the target may hold values
abbrev IsAssigned : Names → List Structure → Part → Core → Type 0
IsAssigned names structures target core =
    may_hold structures target ≡ true → Leaves names (type_of_part target) core

assigned_fits : (names : Names) (structures : List Structure) → StructuresFormed structures → (target v : Part)
    → PartTyped names structures target → IsValue names structures v
    → IfFits (assigned_rule structures target v) (IsAssigned names structures target)
assigned_fits names structures formed target v t h =
    when (may_hold structures target) (assigned_rule structures target v)
    ((assignment_rules_typed names structures formed).assigned target v t h)
  where
    when : (b : Bool) (rule : Ruled Core) → (b ≡ true → IfFits rule (Leaves names (type_of_part target)))
        → IfFits rule (λ core. b ≡ true → Leaves names (type_of_part target) core)
    when true rule f =
        fits_then (Leaves names (type_of_part target)) (λ core. true ≡ true → Leaves names (type_of_part target) core)
        rule (λ core is e. is) (f refl)
    when false (Fits core) f = λ e. cc
    when false other f = tt

pub joined_gives : (names : Names) (used : Bool) (at right_at : Pos) (operator : Infix) (l r : Part) (env : Env)
    → EnvTyped names env → OperandTyped names (infix_usages used operator).left env.structures l
    → OperandTyped names (infix_usages used operator).right env.structures r
    → GivesTyped names env (PartTyped names) (joined at right_at operator l r env)
unfolding joined
joined_gives names used at right_at (between.Arithmetic operator) l r env t h g =
    settled names env (PartTyped names) at _ t
    (binary_typed names env.structures t.structures at (operator_of operator) l r h g)
joined_gives names used at right_at (between.Comparison comparison) l r env t h g =
    settled names env (PartTyped names) at _ t
    (comparison_typed names env.structures t.structures at (comparison_of comparison) l r h g)
joined_gives names used at right_at between.AndAlso l r env t h g =
    settled names env (PartTyped names) at _ t (and_typed names env.structures t.structures at l r h g)
joined_gives names used at right_at between.OrElse l r env t h g =
    settled names env (PartTyped names) at _ t (or_typed names env.structures t.structures at l r h g)
joined_gives names used at right_at between.Assign l r env t h g =
    settled_then names env (PartTyped names) right_at (assigned_rule env.structures l r) _
    (fits_then (IsAssigned names env.structures l)
    (λ core. GivesTyped names env (PartTyped names) (settle at env (assign_rule env.structures at l core)))
    (assigned_rule env.structures l r) (λ core is.
    settled names env (PartTyped names) at (assign_rule env.structures at l core) t
    ((assignment_rules_typed names env.structures t.structures).assign at l core h is))
    (assigned_fits names env.structures t.structures l r h g))
joined_gives names used at right_at (between.AssignOp operator) l r env t h g =
    settled names env (PartTyped names) at _ t
    ((assignment_rules_typed names env.structures t.structures).compound at (operator_of operator) l r h g)
joined_gives names used at right_at between.Comma l r env t h g =
    gives_here names env (PartTyped names) (comma_part at l.core r)
    (comma_typed names env.structures t.structures at l.core r h.1.core h.1.nothing g) t

-- ---- arguments

-- the parameters of what is called are well-formed
pub callee_formed : (structures : List Structure) (type : CType) → TypeFormed structures type
    → TypesFormed structures (parameters_of (target_of type))
callee_formed structures (Plain (Pointer (Plain (Function result parameters variadic) inner)) quals) h = h.1
callee_formed structures (Plain (Pointer (Plain (BasicType basic) inner)) quals) h = tt
callee_formed structures (Plain (Pointer (Plain (Pointer to) inner)) quals) h = tt
callee_formed structures (Plain (Pointer (Plain (Compound number) inner)) quals) h = tt
callee_formed structures (Plain (Pointer (Plain (Enumerated number) inner)) quals) h = tt
callee_formed structures (Plain (Pointer (Array of len)) quals) h = tt
callee_formed structures (Plain (BasicType basic) quals) h = tt
callee_formed structures (Plain (Function result parameters variadic) quals) h = tt
callee_formed structures (Plain (Compound number) quals) h = tt
callee_formed structures (Plain (Enumerated number) quals) h = tt
callee_formed structures (Array of len) h = tt

-- an argument for the next parameter, for none where the function takes further ones, and for none
abbrev pub ArgumentTyped : Names → Option CType → Bool → Core → Type 0
ArgumentTyped names (Some type) variadic core = Leaves names type core
ArgumentTyped names None true core = CoreTyped names core × IsScalar (form_of core)
ArgumentTyped names None false core = Unit {0}

abbrev pub IsArgument : Names → Option CType → Bool → List Structure → Core → Type 0
IsArgument names parameter variadic structures core = ArgumentTyped names parameter variadic core

pub first_formed : (structures : List Structure) (types : CTypes) → TypesFormed structures types
    → IfSome (first_of types) (TypeFormed structures)
first_formed structures Nil h = tt
first_formed structures (Cons first rest) h = h.0

pub behind_formed : (structures : List Structure) (types : CTypes) → TypesFormed structures types
    → TypesFormed structures (behind_first types)
behind_formed structures Nil h = tt
behind_formed structures (Cons first rest) h = h.1

pub arguments_with : (names : Names) (types : CTypes) (variadic : Bool) (a : Core)
    (more : Cores) → ArgumentTyped names (first_of types) variadic a
    → ArgumentsTyped names (behind_first types) variadic more
    → ArgumentsTyped names types variadic (MoreCores a more)
arguments_with names (Cons type types) variadic a more h g = (h, g)
arguments_with names Nil true a more h g = (h.0, h.1, g)
arguments_with names Nil false a more h g = tt

pub argument_gives : (names : Names) (parameter : Option CType) (variadic : Bool) (at : Pos) (env : Env)
    (part : Answer Part) → IfSome parameter (TypeFormed env.structures)
    → GivesTyped names env (PartTyped names) part
    → GivesTyped names env (IsArgument names parameter variadic) (as_argument parameter variadic at part)
unfolding as_argument
argument_gives names (Some type) variadic at env part formed h =
    then_gives names env (PartTyped names) (IsArgument names (Some type) variadic) part _ h (λ p after typed reaches.
    settled_then names after (IsArgument names (Some type) variadic) at (used_rule after.structures p) _
    (fits_then (IsValue names after.structures)
    (λ v. GivesTyped names after (IsArgument names (Some type) variadic)
    (settle at after (argument_rule after.structures (Some type) variadic v))) (used_rule after.structures p)
    (λ v is. settled names after (IsArgument names (Some type) variadic) at
    (argument_rule after.structures (Some type) variadic v) reaches.typed
    (pass_typed names after.structures reaches.typed.structures type v
    ((stays_typed env.structures after.structures reaches.kept).type type formed) is))
    ((uses_typed names after.structures reaches.typed.structures).used p typed)))
argument_gives names None true at env part formed h =
    then_gives names env (PartTyped names) (IsArgument names None true) part _ h (λ p after typed reaches.
    settled_then names after (IsArgument names None true) at (value_rule after.structures p) _
    (fits_then (IsNeeded names after.structures)
    (λ v. GivesTyped names after (IsArgument names None true)
    (settle at after (argument_rule after.structures None true v))) (value_rule after.structures p)
    (λ v is. settled names after (IsArgument names None true) at (argument_rule after.structures None true v)
    reaches.typed (further_typed names after.structures reaches.typed.structures v is.0 is.1))
    ((uses_typed names after.structures reaches.typed.structures).value p typed)))
argument_gives names None false at env part formed h =
    then_gives names env (PartTyped names) (IsArgument names None false) part _ h (λ p after typed reaches.
    settled_then names after (IsArgument names None false) at (value_rule after.structures p) _
    (fits_then (IsNeeded names after.structures)
    (λ v. GivesTyped names after (IsArgument names None false)
    (settle at after (argument_rule after.structures None false v))) (value_rule after.structures p)
    (λ v is. settled names after (IsArgument names None false) at (argument_rule after.structures None false v)
    reaches.typed tt) ((uses_typed names after.structures reaches.typed.structures).value p typed)))
