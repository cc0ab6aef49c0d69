-- The law of typing: of well-typed parts a rule gives what is well-typed.
use Rattle.std.specs.Prelude.{◌≡◌, ℕ, ℤ, Bool, true, false, List, Option, IfSome}
use Rattle.acc_num.specs.Numbers.{InRange}
use Rattle.acc_num.specs.declared.kind.IntKind.TheVariants.{I32}
use Rattle.critical_table.specs.declared.pos.Pos.{Pos}
use Rattle.c_types.specs.CType.{CType}
use Rattle.c_types.specs.Functions.{parameters_of, variadic_of}
use Rattle.c_types.specs.Structures.{Structure}
use Rattle.c_core.specs.declared.form.Form.TheVariants as form
use Rattle.c_core.specs.declared.named.ObjectName.TheVariants as object
use Rattle.c_core.specs.declared.operator.Comparison.{Comparison}
use Rattle.c_core.specs.declared.operator.Operator.{Operator}
use Rattle.c_core.specs.Forms.{form_of}
use Rattle.c_core.specs.Named.{Names, NamesObject}
use Rattle.c_core.specs.Tree.{Core, Cores}
use Rattle.c_core.specs.Typed.{CoreTyped}
use Rattle.c_core.specs.Types.{IsNumber, IsScalar}
use Rattle.c_lexer.specs.declared.number.Number.{Number as Written}
use Rattle.c_scopes.specs.Named.{Named}
use Rattle.c_scopes.specs.Ruled.{Ruled}
use Rattle.c_conversions.specs.Parts.{Part}
use Rattle.c_conversions.specs.Versions.{is_void}
use Rattle.c_expr_rules.specs.Calls.{pass_rule, further_rule, call_rule}
use Rattle.c_expr_rules.specs.Casts.{cast_rule}
use Rattle.c_expr_rules.specs.Members.{dot_rule, arrow_rule}
use Rattle.c_expr_rules.specs.Pointers.{address_rule, deref_rule, index_rule}
use Rattle.c_expr_rules.specs.Primary.{number_rule, character_part, literal_rule, name_rule}
use Rattle.c_expr_rules.specs.Targets.{type_of_part, target_of}
use Rattle.c_expr_rules.specs.Unary.{plus_rule, minus_rule, flip_rule, not_rule, size_rule, align_rule, size_of_rule}
use Rattle.c_expr_rules.specs.Uses.{used_rule, value_rule, test_rule, switch_rule, discard_rule}
use Rattle.c_operator_rules.specs.Assignment.{convert_rule, assigned_rule, assign_rule, compound_rule, prefix_rule}
use Rattle.c_operator_rules.specs.Assignment.{postfix_rule, may_hold}
use Rattle.c_operator_rules.specs.Binary.{binary_rule, and_rule, or_rule}
use Rattle.c_operator_rules.specs.Comparisons.{comparison_rule}
use Rattle.c_operator_rules.specs.Conditional.{conditional_rule, comma_part}
use Rattle.c_typing_law.specs.TypedParts.{ValueTyped, PartTyped, Leaves, ArgumentsTyped, NamedTyped, IfFits}
use Rattle.c_typing_law.specs.WellFormed.{TypeFormed, StructuresFormed}

module _ (names : Names) (structures : List Structure) where
  -- what a rule gives is a value; a part; a number
  abbrev pub GivesValue : Ruled Part → Type 0
  GivesValue rule = IfFits rule (λ (part : Part). ValueTyped names structures part.core)

  abbrev pub GivesPart : Ruled Part → Type 0
  GivesPart rule = IfFits rule (PartTyped names structures)

  abbrev pub GivesNumber : Ruled Core → Type 0
  GivesNumber rule = IfFits rule (λ core. CoreTyped names core × IsNumber (form_of core))

  abbrev pub GivesCore : CType → Ruled Core → Type 0
  GivesCore type rule = IfFits rule (Leaves names type)

  abbrev pub IsValue : Part → Type 0
  IsValue part = ValueTyped names structures part.core

  -- 6.3.2.1, 6.3.2.2: the uses of an expression
  pub record UsesTyped : Type 0 where
    pub used : (part : Part) → PartTyped names structures part → GivesValue (used_rule structures part)
    pub value : (part : Part) → PartTyped names structures part
        → IfFits (value_rule structures part) (λ (v : Part). IsValue v × (is_void (type_of_part v) ≡ false))
    pub test : (part : Part) → PartTyped names structures part → GivesNumber (test_rule structures part)
    pub switch : (part : Part) → PartTyped names structures part → GivesNumber (switch_rule structures part)
    pub discard : (part : Part) → PartTyped names structures part
        → IfFits (discard_rule structures part) (λ core. CoreTyped names core × (form_of core ≡ form.Nothing))

  -- 6.5.1, 6.4.4, 6.4.5: a literal is one of the static objects, and a name stands for something that is typed
  pub record PrimaryTyped : Type 0 where
    pub number : (at : Pos) (number : Written) → GivesPart (number_rule at number)
    pub character : (at : Pos) (n : ℤ) → InRange I32 n → PartTyped names structures (character_part at n)
    pub literal : (at : Pos) (wide : Bool) (units : ℕ) → NamesObject names (object.Static at)
        → GivesPart (literal_rule at wide units)
    pub name : (at : Pos) (named : Option Named) → IfSome named (NamedTyped names structures)
        → GivesPart (name_rule at named)

  -- 6.5.2
  pub record PostfixTyped : Type 0 where
    pub index : (at : Pos) (left right : Part) → IsValue left → IsValue right
        → GivesPart (index_rule structures at left right)
    pub dot : (at : Pos) (name : List ℕ) (part : Part) → PartTyped names structures part
        → GivesPart (dot_rule structures at name part)
    pub arrow : (at : Pos) (name : List ℕ) (part : Part) → IsValue part
        → GivesPart (arrow_rule structures at name part)
    pub call : (at : Pos) (used : Bool) (function : Part) (arguments : Cores) → IsValue function
        → ArgumentsTyped names (parameters_of (target_of (type_of_part function)))
        (variadic_of (target_of (type_of_part function))) arguments
        → GivesPart (call_rule structures at used function arguments)
    pub pass : (type : CType) (part : Part) → TypeFormed structures type → IsValue part
        → GivesCore type (pass_rule structures type part)
    pub further : (part : Part) → IsValue part → is_void (type_of_part part) ≡ false
        → IfFits (further_rule part) (λ core. CoreTyped names core × IsScalar (form_of core))

  -- 6.5.3, 6.5.4
  pub record UnaryTyped : Type 0 where
    pub address : (at : Pos) (part : Part) → PartTyped names structures part → GivesPart (address_rule at part)
    pub deref : (at : Pos) (part : Part) → IsValue part → GivesPart (deref_rule structures at part)
    pub plus : (part : Part) → IsValue part → GivesPart (plus_rule part)
    pub minus : (at : Pos) (part : Part) → IsValue part → GivesPart (minus_rule at part)
    pub flip : (at : Pos) (part : Part) → IsValue part → GivesPart (flip_rule at part)
    pub not : (at : Pos) (part : Part) → IsValue part → GivesPart (not_rule at part)
    pub size : (at : Pos) (type : CType) → TypeFormed structures type → GivesPart (size_rule structures at type)
    pub align : (at : Pos) (type : CType) → TypeFormed structures type → GivesPart (align_rule structures at type)
    pub size_of : (at : Pos) (part : Part) → PartTyped names structures part
        → GivesPart (size_of_rule structures at part)
    pub cast : (at : Pos) (type : CType) (part : Part) → TypeFormed structures type → IsValue part
        → GivesPart (cast_rule at type part)

  -- 6.5.5 to 6.5.15, 6.5.17
  pub record BinaryTyped : Type 0 where
    pub binary : (at : Pos) (operator : Operator) (left right : Part) → IsValue left → IsValue right
        → GivesPart (binary_rule structures at operator left right)
    pub both : (at : Pos) (left right : Part) → IsValue left → IsValue right → GivesPart (and_rule at left right)
    pub either : (at : Pos) (left right : Part) → IsValue left → IsValue right → GivesPart (or_rule at left right)
    pub comparison : (at : Pos) (comparison : Comparison) (left right : Part) → IsValue left → IsValue right
        → GivesPart (comparison_rule at comparison left right)
    pub conditional : (at : Pos) (test : Core) (left right : Part) → CoreTyped names test → IsNumber (form_of test)
        → IsValue left → IsValue right → GivesPart (conditional_rule at test left right)
    pub comma : (at : Pos) (left : Core) (right : Part) → CoreTyped names left → form_of left ≡ form.Nothing
        → IsValue right → PartTyped names structures (comma_part at left right)

  -- 6.5.16, 6.5.2.4, 6.5.3.1: what is assigned is asked for nothing where the target holds no values
  pub record AssignmentTyped : Type 0 where
    pub convert : (type : CType) (part : Part) → TypeFormed structures type → IsValue part
        → GivesCore type (convert_rule type part)
    pub assigned : (target part : Part) → PartTyped names structures target → IsValue part
        → may_hold structures target ≡ true → GivesCore (type_of_part target) (assigned_rule structures target part)
    pub assign : (at : Pos) (target : Part) (core : Core) → PartTyped names structures target
        → (may_hold structures target ≡ true → Leaves names (type_of_part target) core)
        → GivesPart (assign_rule structures at target core)
    pub compound : (at : Pos) (operator : Operator) (target right : Part) → PartTyped names structures target
        → IsValue right → GivesPart (compound_rule structures at operator target right)
    pub prefix : (at : Pos) (back : Bool) (target : Part) → PartTyped names structures target
        → GivesPart (prefix_rule structures at back target)
    pub postfix : (at : Pos) (back : Bool) (target : Part) → PartTyped names structures target
        → GivesPart (postfix_rule structures at back target)

-- Where structures and unions are well-formed, all rules of expressions keep to types.
pub record RulesKeepTypes : Type 0 where
  pub uses : (names : Names) (structures : List Structure) → StructuresFormed structures → UsesTyped names structures
  pub primary : (names : Names) (structures : List Structure) → StructuresFormed structures
      → PrimaryTyped names structures
  pub postfix : (names : Names) (structures : List Structure) → StructuresFormed structures
      → PostfixTyped names structures
  pub unary : (names : Names) (structures : List Structure) → StructuresFormed structures → UnaryTyped names structures
  pub binary : (names : Names) (structures : List Structure) → StructuresFormed structures
      → BinaryTyped names structures
  pub assignment : (names : Names) (structures : List Structure) → StructuresFormed structures
      → AssignmentTyped names structures
