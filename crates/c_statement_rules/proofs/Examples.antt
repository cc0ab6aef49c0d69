-- Each rule on either side of its constraints, and where two of them fail.
use Rattle.std.proofs.Common.{◌≡◌, ℕ, List, [], ◌∷◌, true, false, refl}
use Rattle.std.specs.Prelude.{pos, negsuc, Bool, Some, None, codes}
use Rattle.acc_num.specs.Operations.{converted_to}
use Rattle.acc_num.specs.declared.kind.IntKind.TheVariants as k
use Rattle.critical_table.specs.declared.pos.Pos.{Pos}
use Rattle.c_types.specs.declared.basic.Basic.TheVariants as b
use Rattle.c_types.specs.CType.{CType, Nil, Cons, Plain, Array, Function, Compound, no_quals, void}
use Rattle.c_types.specs.Compatible.{agree, bare_agree, all_agree}
use Rattle.c_types.specs.Composite.{composite_of, bare_composite, all_composites}
use Rattle.c_types.specs.Structures.{Structure, no_members}
use Rattle.c_core.specs.declared.named.FunctionName.TheVariants as function
use Rattle.c_syntax.specs.declared.specifier.Storage.TheVariants as storage
use Rattle.c_scopes.specs.declared.binding.Linkage.TheVariants as linkage
use Rattle.c_scopes.specs.declared.binding.Linkage.{Linkage}
use Rattle.c_scopes.specs.Named.{Named, FunctionOf, TypedefOf}
use Rattle.c_scopes.specs.Ruled.{Fits, Breaks}
use Rattle.c_conversions.specs.Kinds.{basic_type, pointer_to}
use Rattle.c_decl_rules.specs.DeclaredNames.{Seen}
use Rattle.c_statement_rules.specs.Assertions.{assertion_rule}
use Rattle.c_statement_rules.specs.Definitions.{Defines, parameter_rule, name_rule, definition_rule}
use Rattle.c_statement_rules.specs.Jumps.{jump_rule, return_rule}
use Rattle.c_statement_rules.specs.Labels.{Labels, no_labels, case_rule, default_rule}
use Rattle.c_statement_rules.specs.declared.units.DefinedNames.{DefinedNames}
use Rattle.c_statement_rules.specs.Units.{use_rule, main_rule}

abbrev int : CType
int = basic_type b.Int

-- ---- jumps

break_in_loop : jump_rule true ≡ Fits tt
break_in_loop = refl

break_outside : jump_rule false ≡ Breaks 40
break_outside = refl

value_of_int : return_rule int true ≡ Fits tt
value_of_int = refl

no_value_of_int : return_rule int false ≡ Breaks 41
no_value_of_int = refl

value_of_void : return_rule void true ≡ Breaks 41
value_of_void = refl

no_value_of_void : return_rule void false ≡ Fits tt
no_value_of_void = refl

-- ---- labels

abbrev one_case : Labels
one_case = record { cases = record { value = pos 1; at = 0 } ∷ []; default = Some 1 }

first_case : case_rule k.I32 no_labels (Some (pos 1)) 0 ≡ Fits (record { cases = one_case.cases; default = None })
unfolding converted_to
first_case = refl

-- case 1: case 1:
case_twice : case_rule k.I32 one_case (Some (pos 1)) 1 ≡ Breaks 39
unfolding converted_to
case_twice = refl

-- case 1: case 4294967297: of an `int`
case_converted : case_rule k.I32 one_case (Some (pos 4294967297)) 1 ≡ Breaks 39
unfolding converted_to
case_converted = refl

no_constant : case_rule k.I32 one_case None 1 ≡ Breaks 39
no_constant = refl

first_default : default_rule no_labels 3 ≡ Fits (record { cases = []; default = Some 3 })
first_default = refl

default_twice : default_rule one_case 3 ≡ Breaks 39
default_twice = refl

-- ---- assertions

asserted : assertion_rule (Some (negsuc 0)) ≡ Fits tt
asserted = refl

not_asserted : assertion_rule (Some (pos 0)) ≡ Breaks 15
not_asserted = refl

asserted_variable : assertion_rule None ≡ Breaks 15
asserted_variable = refl

-- ---- parameters

-- int f(int x[3]) {}
array_parameter : parameter_rule true (Array int (Some 3)) ≡ Fits (pointer_to int)
array_parameter = refl

-- int f(int) {}
unnamed : parameter_rule false int ≡ Breaks 44
unnamed = refl

-- int f(void, int x) {}
unnamed_void : parameter_rule false void ≡ Breaks 44
unnamed_void = refl

-- int f(void x) {}
void_parameter : parameter_rule true void ≡ Breaks 45
void_parameter = refl

-- one structure, which is incomplete
abbrev one_structure : List Structure
one_structure = no_members false ∷ []

abbrev incomplete : CType
incomplete = Plain (Compound 0) no_quals

new_name : name_rule one_structure None int ≡ Fits tt
new_name = refl

-- int f(int x, int x) {}
name_twice : name_rule one_structure (Some (TypedefOf int)) incomplete ≡ Breaks 2
name_twice = refl

incomplete_parameter : name_rule one_structure None incomplete ≡ Breaks 7
incomplete_parameter = refl

-- ---- definitions

abbrev at : ℕ → Pos
at column = record { line = 1; column = column }

abbrev no_arguments : CType → CType
no_arguments gives = Plain (Function gives Nil false) no_quals

abbrev defines : CType → Defines
defines type = record { storage = None; type = type; at = at 5 }

abbrev new : Seen
new = record { named = None; here = false }

abbrev known : Linkage → (is_defined : Bool) → CType → Named
known linkage is_defined type =
    FunctionOf type (record { name = function.Unit (at 1); linkage = linkage; is_defined = is_defined })

abbrev here : Named → Seen
here named = record { named = Some named; here = true }

abbrev printf : Seen
printf = record {
  named = Some (FunctionOf (Plain (Function int (Cons (pointer_to int) Nil) true) no_quals)
      (record { name = function.Library 50; linkage = linkage.External; is_defined = false }));
  here = false;
}

-- int f(void) {}
first_definition : definition_rule [] (defines (no_arguments int)) new
    ≡ Fits (FunctionOf (no_arguments int)
    (record { name = function.Unit (at 5); linkage = linkage.External; is_defined = true }))
unfolding agree bare_agree all_agree composite_of bare_composite all_composites
first_definition = refl

-- static int f(void); int f(void) {}
behind_static : definition_rule [] (defines (no_arguments int)) (here (known linkage.Internal false (no_arguments int)))
    ≡ Fits (known linkage.Internal true (no_arguments int))
unfolding agree bare_agree all_agree composite_of bare_composite all_composites
behind_static = refl

-- int f(void) {} int f(void) {}
second_definition : definition_rule [] (defines (no_arguments int))
    (here (known linkage.External true (no_arguments int))) ≡ Breaks 20
unfolding agree bare_agree all_agree composite_of bare_composite all_composites
second_definition = refl

-- struct s f(void) {}, with an incomplete s
incomplete_result : definition_rule one_structure (defines (no_arguments incomplete)) new ≡ Breaks 7
unfolding agree bare_agree all_agree composite_of bare_composite all_composites
incomplete_result = refl

-- int f(void); struct s f(void) {}
other_result : definition_rule one_structure (defines (no_arguments incomplete))
    (here (known linkage.External false (no_arguments int))) ≡ Breaks 2
unfolding agree bare_agree all_agree composite_of bare_composite all_composites
other_result = refl

-- int printf(int *, ...) {}
library_definition : definition_rule [] (defines (Plain (Function int (Cons (pointer_to int) Nil) true) no_quals)) printf
    ≡ Breaks 18
unfolding agree bare_agree all_agree composite_of bare_composite all_composites
library_definition = refl

-- static int printf(int *, ...) {}
variadic_definition : definition_rule [] (record {
  storage = Some storage.Static;
  type = Plain (Function int (Cons (pointer_to int) Nil) true) no_quals;
  at = at 5;
}) printf ≡ Breaks 43
unfolding agree bare_agree all_agree composite_of bare_composite all_composites
variadic_definition = refl

-- ---- units

abbrev defined : DefinedNames
defined = record { functions = codes "main" ∷ []; objects = [] }

defined_function : use_rule defined (known linkage.External false (no_arguments int)) (codes "main") ≡ Fits tt
defined_function = refl

only_declared : use_rule defined (known linkage.External false (no_arguments int)) (codes "f") ≡ Breaks 19
only_declared = refl

main_defined : main_rule (Some (known linkage.External true (no_arguments int))) ≡ Fits tt
unfolding agree bare_agree all_agree
main_defined = refl

main_declared : main_rule (Some (known linkage.External false (no_arguments int))) ≡ Breaks 21
unfolding agree bare_agree all_agree
main_declared = refl

main_takes_int : main_rule (Some (known linkage.External true (Plain (Function int (Cons int Nil) false) no_quals)))
    ≡ Breaks 21
unfolding agree bare_agree all_agree
main_takes_int = refl

main_gives_void : main_rule (Some (known linkage.External true (no_arguments void))) ≡ Breaks 21
unfolding agree bare_agree all_agree
main_gives_void = refl

no_main : main_rule None ≡ Breaks 21
no_main = refl
