-- Constants, literals and names keep to types.
use Rattle.std.proofs.Common.{◌≡◌, ℕ, ◌+◌, ◌*◌, pos, Bool, true, false, List, [], ◌∷◌, Option, Some, None}
use Rattle.std.proofs.Common.{refl}
use Rattle.std.proofs.Common.{IfSome, nat_le, arith}
use Rattle.acc_num.specs.Kinds.{bytes_of}
use Rattle.acc_num.specs.Numbers.{greatest_of}
use Rattle.critical_table.specs.declared.pos.Pos.{Pos}
use Rattle.c_types.specs.declared.basic.Basic.{Basic}
use Rattle.c_types.specs.declared.basic.Basic.TheVariants as b
use Rattle.c_types.specs.Layouts.{layout_of, largest}
use Rattle.c_types.specs.Structures.{Structure}
use Rattle.c_core.specs.Named.{Names}
use Rattle.c_core.specs.Tree as tree
use Rattle.c_lexer.specs.declared.number.Number.{Number as Written}
use Rattle.c_scopes.specs.Named.{Named, ObjectOf, FunctionOf, TypedefOf, ConstantOf, NullPointerOf, TagOf}
use Rattle.c_conversions.specs.Kinds.{basic_type, pointer_to, int_kind}
use Rattle.c_expr_rules.specs.Primary.{may_have, is_listed, holds, first_type, number_of_type, number_types, unit_type}
use Rattle.c_expr_rules.specs.Primary.{literal_demands, literal_part, name_rule}
use Rattle.c_typing_law.specs.Law.{GivesPart, PrimaryTyped}
use Rattle.c_typing_law.specs.TypedParts.{PartTyped, NamedTyped}
use Rattle.c_typing_law.specs.WellFormed.{IsElement}
use Rattle.c_typing_law.proofs.Facts.{both_hold, if_either, fits_if, IsReal}
use Rattle.c_typing_law.proofs.Integers.{le_test, le_holds, natural_in_range, integer_node}
use Rattle.c_typing_law.proofs.Converted.{number_node, pointer_value}

abbrev AllReal : List Basic → Type 0
AllReal [] = Unit {0}
AllReal (basic ∷ rest) = IsReal basic × AllReal rest

-- a literal that is not too large is an array that can be had
literal_formed : (wide : Bool) (units : ℕ) (structures : List Structure)
    → nat_le ((units + 1) * bytes_of (int_kind (unit_type wide))) largest ≡ true
    → IsElement (Some (units + 1)) (layout_of (basic_type (unit_type wide)) structures)
literal_formed true units structures h = (omega arith, le_test ((units + 1) * 4) largest h)
literal_formed false units structures h = (omega arith, le_test ((units + 1) * 1) largest h)

module _ (names : Names) (structures : List Structure) where
  number_among : (at : Pos) (number : Written) (types : List Basic) → AllReal types
      → GivesPart names structures (number_of_type at number.value (first_type number types))
  number_among at number [] real = tt
  number_among at number (basic ∷ rest) real =
      if_either
      (λ (type : Option Basic). GivesPart names structures (number_of_type at number.value type))
      (may_have number basic) (Some basic) (first_type number rest)
      (λ h. number_node names structures basic at (tree.Number (int_kind basic) (pos number.value)) real.0 refl
      (natural_in_range (int_kind basic) number.value
      (le_holds (pos number.value) (greatest_of (int_kind basic)) (both_hold (is_listed number basic)
      (holds basic number.value) h).1)))
      (λ h. number_among at number rest real.1)

  name_typed : (at : Pos) (named : Option Named) → IfSome named (NamedTyped names structures)
      → GivesPart names structures (name_rule at named)
  name_typed at None h = tt
  name_typed at (Some (ObjectOf type object)) h =
      record { core = (h.1, h.2); type = h.0; form = refl; below = h.0 }
  name_typed at (Some (FunctionOf type function)) h =
      pointer_value names structures (pointer_to type) at (tree.Function function.name) refl h.0 refl h.2
  name_typed at (Some (ConstantOf type n)) h = integer_node names structures type at _ h.0 refl h.1
  name_typed at (Some (NullPointerOf type)) h = pointer_value names structures type at tree.Null h.1 h.0 refl tt
  name_typed at (Some (TypedefOf type)) h = tt
  name_typed at (Some (TagOf type state)) h = tt

  pub primary_typed : PrimaryTyped names structures
  primary_typed = record {
    number = λ at number. number_among at number number_types (refl, (refl, (refl, (refl, (refl, (refl, tt))))));
    character = λ at n h. number_node names structures b.Int at (tree.Number (int_kind b.Int) n) refl refl h;
    literal = λ at wide units h.
        fits_if (PartTyped names structures) (literal_demands wide units) (literal_part at wide units)
        (λ hold. record {
          core = (tt, h);
          type = (tt, literal_formed wide units structures hold.0);
          form = refl;
          below = (tt, literal_formed wide units structures hold.0);
        });
    name = name_typed;
  }
