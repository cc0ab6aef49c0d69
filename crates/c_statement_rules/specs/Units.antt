-- What is asked of a whole unit: that it defines what it uses, and has a `main` (5.1.2.2.1, 6.9).
use Rattle.std.specs.Prelude.{◌≡◌, ℕ, Bool, true, false, not, ◌&&◌, ◌||◌, List, [], ◌∷◌, Option, Some}
use Rattle.std.specs.BTreeSet.{BTreeSet, contains}
use Rattle.std.specs.Cmp.Lexicographic.{slice_cmp}
use Rattle.std.specs.Ordering.{nat_cmp}
use Rattle.c_types.specs.declared.basic.Basic.TheVariants.{Int}
use Rattle.c_types.specs.CType.{CType, CTypes, Nil, Cons}
use Rattle.c_types.specs.Functions.{gives_of, parameters_of, variadic_of}
use Rattle.c_types.specs.Compatible.{compatible}
use Rattle.c_scopes.specs.declared.binding.Linkage.{Linkage}
use Rattle.c_scopes.specs.declared.binding.Linkage.TheVariants as linkage
use Rattle.c_scopes.specs.Named.{Named, ObjectOf, FunctionOf}
use Rattle.c_scopes.specs.Ruled.{Ruled, Demand, ruled}
use Rattle.c_conversions.specs.Kinds.{basic_type}
use Rattle.c_conversions.specs.Versions.{is_function}
use Rattle.c_type_rules.specs.Members.{is_among}
use Rattle.c_decl_rules.specs.DeclaredNames.{is_library_name}
use Rattle.c_statement_rules.specs.declared.units.DefinedNames.{DefinedNames}

abbrev pub nothing_defined : DefinedNames
nothing_defined = record { functions = []; objects = [] }

abbrev pub has_no_linkage : Linkage → Bool
has_no_linkage linkage.None = true
has_no_linkage other = false

-- What the name stands for is defined: an object without linkage, or one that the unit defines; a library function, or
-- a function that the unit defines. Of other names no definition is asked.
abbrev pub is_defined : DefinedNames → Named → List ℕ → Bool
is_defined defined (ObjectOf type object) name = has_no_linkage object.linkage || is_among name defined.objects
is_defined defined (FunctionOf type function) name =
    is_library_name function.name || is_among name defined.functions
is_defined defined other name = true

-- A function or object whose name is used in an expression, but for the operand of `sizeof` or `_Alignof`, is defined
-- (6.9p3, p5).
abbrev pub use_demands : DefinedNames → Named → List ℕ → List Demand
use_demands defined named name = (19, is_defined defined named name) ∷ []

abbrev pub use_rule : DefinedNames → Named → List ℕ → Ruled (Unit {0})
use_rule defined named name = ruled (use_demands defined named name) tt

-- ---- the function that a run begins with

abbrev pub takes_nothing : CTypes → Bool
takes_nothing Nil = true
takes_nothing (Cons first rest) = false

-- int (void), or a compatible type (5.1.2.2.1p1)
abbrev pub is_main_type : CType → Bool
is_main_type type = is_function type && takes_nothing (parameters_of type) && not (variadic_of type)
    && compatible (gives_of type) (basic_type Int)

-- a function that is defined, with that type
abbrev pub is_main : Option Named → Bool
is_main (Some (FunctionOf type function)) = function.is_defined && is_main_type type
is_main other = false

-- the rule of the unit, by what `main` stands for behind it
abbrev pub main_demands : Option Named → List Demand
main_demands main = (21, is_main main) ∷ []

abbrev pub main_rule : Option Named → Ruled (Unit {0})
main_rule main = ruled (main_demands main) tt

-- an ordered set beside a list of names has each of them
abbrev pub IsKept : List (List ℕ) → BTreeSet (List ℕ) → Type 0
IsKept names set = (name : List ℕ) → contains (slice_cmp nat_cmp) set name ≡ is_among name names
