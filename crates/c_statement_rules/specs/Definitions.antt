-- Function definitions: their parameters, what they give, and the name that they define (6.9.1).
use Rattle.std.specs.Prelude.{Bool, false, not, ◌||◌, is_some, ◌==◌, List, [], ◌∷◌, Option}
use Rattle.std.specs.Prelude.{if◌then◌else◌}
use Rattle.critical_table.specs.declared.pos.Pos.{Pos}
use Rattle.c_types.specs.CType.{CType, type_of}
use Rattle.c_types.specs.Functions.{gives_of, variadic_of}
use Rattle.c_types.specs.Structures.{Structure}
use Rattle.c_types.specs.Types.{Types}
use Rattle.c_syntax.specs.declared.specifier.Storage.{Storage}
use Rattle.c_scopes.specs.declared.binding.Linkage.{Linkage}
use Rattle.c_scopes.specs.Named.{Named}
use Rattle.c_scopes.specs.Ruled.{Ruled, Fits, Breaks, Demand, ruled}
use Rattle.c_conversions.specs.Contents.{given_in}
use Rattle.c_conversions.specs.Versions.{is_void}
use Rattle.c_type_rules.specs.Arrays.{is_complete}
use Rattle.c_type_rules.specs.Functions.{adjusted}
use Rattle.c_type_rules.specs.declared.context.Setting.TheVariants as s
use Rattle.c_decl_rules.specs.DeclaredNames.{Declares, Seen, agrees, function_before, function_type, is_library}
use Rattle.c_decl_rules.specs.DeclaredNames.{was_defined, function_declared, function_linkage}
use Rattle.c_statement_rules.specs.declared.definitions.Defining.{Defining}

-- ---- parameters

-- A parameter of a definition has a name (6.9.1p5); none is `void` (6.7.6.3p10). Both stand at its first token.
abbrev pub parameter_demands : (is_named : Bool) → CType → List Demand
parameter_demands is_named type = (44, is_named) ∷ (45, not (is_void type)) ∷ []

-- the type of a parameter that was declared with this one
abbrev pub parameter_rule : Bool → CType → Ruled CType
parameter_rule is_named type = ruled (parameter_demands is_named type) (adjusted type)

-- Its name is new in its scope (6.7p3), and its adjusted type is complete (6.7.6.3p4). `here` is what the scope has the
-- name for.
abbrev pub name_demands : List Structure → Option Named → CType → List Demand
name_demands structures here adjusted = (2, not (is_some here)) ∷ (7, is_complete adjusted structures) ∷ []

abbrev pub name_rule : List Structure → Option Named → CType → Ruled (Unit {0})
name_rule structures here adjusted = ruled (name_demands structures here adjusted) tt

-- ---- the function

-- A definition: the storage word among its specifiers, its type, and the place of its name.
pub record Defines : Type 0 where
  pub storage : Option Storage
  pub type : CType
  pub at : Pos

abbrev pub declares : Defines → Declares
declares definition = record {
  manner = record { setting = s.Definition; storage = definition.storage; initialized = false };
  type = definition.type;
  at = definition.at;
  slot = 0;
}

-- a definition as the program holds it
abbrev pub defines_of : Types → Defining → Defines
defines_of types definition =
    record { storage = definition.storage; type = type_of types definition.of; at = definition.at }

-- what the function gives is `void` or a complete object type (6.9.1p3)
abbrev pub has_result : List Structure → CType → Bool
has_result structures type = is_some (given_in (gives_of type) structures)

-- The function has its type wherever it is declared (6.7p4) and one definition (6.9p3). A library function is not
-- defined (7.1.4p2), and no function of a unit is variadic.
abbrev pub definition_demands : List Structure → Defines → Seen → Linkage → List Demand
definition_demands structures definition seen linkage = let before = function_before linkage seen.named in
    (2, not seen.here || agrees (function_type before) definition.type)
    ∷ (7, has_result structures definition.type)
    ∷ (18, not (is_library before))
    ∷ (20, not (was_defined before))
    ∷ (43, not (variadic_of definition.type)) ∷ []

abbrev pub linked_definition : List Structure → Defines → Seen → Linkage → Ruled Named
linked_definition structures definition seen linkage = ruled (definition_demands structures definition seen linkage)
    (function_declared (declares definition) linkage (function_before linkage seen.named))

-- what the name of a defined function stands for from its declarator on
abbrev pub definition_rule : List Structure → Defines → Seen → Ruled Named
definition_rule structures definition seen =
    linked_definition structures definition seen (function_linkage (declares definition).manner seen)

-- The rule of a declaration, once two more constraints are looked at: that there is a result, and that the function takes
-- no further arguments. That a definition's rule is this is proved.
abbrev pub narrowed : (has_result is_fixed : Bool) → Ruled Named → Ruled Named
narrowed has_result is_fixed (Fits named) =
    if has_result then (if is_fixed then Fits named else Breaks 43) else Breaks 7
narrowed has_result is_fixed (Breaks number) =
    if has_result || number == 2 then Breaks number else Breaks 7
