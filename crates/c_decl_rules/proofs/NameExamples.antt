-- Declared names on either side of each constraint, by the texts that declare them.
use Rattle.std.proofs.Common.{◌≡◌, ℕ, List, [], ◌∷◌, true, false, refl}
use Rattle.std.specs.Prelude.{pos, Bool, Option, Some, None}
use Rattle.critical_table.specs.declared.pos.Pos.{Pos}
use Rattle.c_types.specs.declared.basic.Basic.TheVariants as b
use Rattle.c_types.specs.CType.{CType, Nil, Cons, Plain, Array, Function, Compound, no_quals, void}
use Rattle.c_types.specs.Compatible.{agree, bare_agree, all_agree}
use Rattle.c_types.specs.Composite.{composite_of, bare_composite, all_composites}
use Rattle.c_types.specs.Structures.{Structure, no_members}
use Rattle.c_core.specs.declared.named.FunctionName.TheVariants as function
use Rattle.c_core.specs.declared.named.ObjectName.TheVariants as object
use Rattle.c_syntax.specs.declared.specifier.Storage.{Storage}
use Rattle.c_syntax.specs.declared.specifier.Storage.TheVariants as storage
use Rattle.c_scopes.specs.declared.binding.Linkage.{Linkage}
use Rattle.c_scopes.specs.declared.binding.Linkage.TheVariants as linkage
use Rattle.c_scopes.specs.declared.binding.Standing.{Standing}
use Rattle.c_scopes.specs.declared.binding.Standing.TheVariants as standing
use Rattle.c_scopes.specs.Named.{Named, ObjectOf, FunctionOf, TypedefOf, ConstantOf}
use Rattle.c_scopes.specs.Ruled.{Fits, Breaks}
use Rattle.c_conversions.specs.Kinds.{basic_type}
use Rattle.c_type_rules.specs.declared.context.Setting.{Setting}
use Rattle.c_type_rules.specs.declared.context.Setting.TheVariants as s
use Rattle.c_decl_rules.specs.DeclaredNames.{Declares, Seen, name_rule}
use Rattle.c_decl_rules.specs.SameType.{same, same_bare, all_same}

abbrev at : ℕ → Pos
at column = record { line = 1; column = column }

abbrev int : CType
int = basic_type b.Int

abbrev char : CType
char = basic_type b.Char

-- int (void)
abbrev no_arguments : CType
no_arguments = Plain (Function int Nil false) no_quals

-- int (int)
abbrev one_argument : CType
one_argument = Plain (Function int (Cons int Nil) false) no_quals

-- the first structure, which is incomplete
abbrev incomplete : CType
incomplete = Plain (Compound 0) no_quals

abbrev one_structure : List Structure
one_structure = no_members false ∷ []

abbrev declares : Setting → Option Storage → Bool → CType → Declares
declares setting word initialized type = record {
  manner = record { setting = setting; storage = word; initialized = initialized };
  type = type;
  at = at 5;
  slot = 2;
}

abbrev in_file : Option Storage → CType → Declares
in_file word type = declares s.File word false type

abbrev initialized : Option Storage → CType → Declares
initialized word type = declares s.File word true type

abbrev in_block : Option Storage → CType → Declares
in_block word type = declares s.Block word false type

abbrev new : Seen
new = record { named = None; here = false }

abbrev here : Named → Seen
here named = record { named = Some named; here = true }

abbrev around : Named → Seen
around named = record { named = Some named; here = false }

-- an object that was first declared in column 1
abbrev known_object : Linkage → Standing → CType → Named
known_object linkage standing type = ObjectOf type (record {
  name = object.Static (at 1);
  register = false;
  linkage = linkage;
  standing = standing;
})

abbrev own : Linkage → Bool → CType → Named
own linkage defined type =
    FunctionOf type (record { name = function.Unit (at 1); linkage = linkage; is_defined = defined })

abbrev library : CType → Named
library type =
    FunctionOf type (record { name = function.Library 50; linkage = linkage.External; is_defined = false })

abbrev new_object : Linkage → Standing → CType → Named
new_object linkage standing type = ObjectOf type (record {
  name = object.Static (at 5);
  register = false;
  linkage = linkage;
  standing = standing;
})

-- ---- objects

-- int x;
int_x : name_rule [] (in_file None int) new ≡ Fits (new_object linkage.External standing.Tentative int)
unfolding agree bare_agree all_agree composite_of bare_composite all_composites same same_bare all_same
int_x = refl

-- static int x = 1;
static_x : name_rule [] (initialized (Some storage.Static) int) new
    ≡ Fits (new_object linkage.Internal standing.Defined int)
unfolding agree bare_agree all_agree composite_of bare_composite all_composites same same_bare all_same
static_x = refl

-- extern int x;
extern_x : name_rule [] (in_file (Some storage.Extern) int) new
    ≡ Fits (new_object linkage.External standing.Declared int)
unfolding agree bare_agree all_agree composite_of bare_composite all_composites same same_bare all_same
extern_x = refl

-- int x; int x;
tentative_again : name_rule [] (in_file None int) (here (known_object linkage.External standing.Tentative int))
    ≡ Fits (known_object linkage.External standing.Tentative int)
unfolding agree bare_agree all_agree composite_of bare_composite all_composites same same_bare all_same
tentative_again = refl

-- int x; int x = 1;
defined_behind : name_rule [] (initialized None int) (here (known_object linkage.External standing.Tentative int))
    ≡ Fits (known_object linkage.External standing.Defined int)
unfolding agree bare_agree all_agree composite_of bare_composite all_composites same same_bare all_same
defined_behind = refl

-- int x = 1; int x = 1;
defined_twice : name_rule [] (initialized None int) (here (known_object linkage.External standing.Defined int)) ≡
    Breaks 20
unfolding agree bare_agree all_agree composite_of bare_composite all_composites same same_bare all_same
defined_twice = refl

-- int x; char x;
another_type : name_rule [] (in_file None char) (here (known_object linkage.External standing.Tentative int)) ≡ Breaks 2
unfolding agree bare_agree all_agree composite_of bare_composite all_composites same same_bare all_same
another_type = refl

-- static int x; extern int x;
extern_behind_static : name_rule [] (in_file (Some storage.Extern) int)
    (here (known_object linkage.Internal standing.Tentative int)) ≡ Fits
    (known_object linkage.Internal standing.Tentative int)
unfolding agree bare_agree all_agree composite_of bare_composite all_composites same same_bare all_same
extern_behind_static = refl

-- static int x; int x;
plain_behind_static : name_rule [] (in_file None int) (here (known_object linkage.Internal standing.Tentative int)) ≡
    Breaks 2
unfolding agree bare_agree all_agree composite_of bare_composite all_composites same same_bare all_same
plain_behind_static = refl

-- int x; static int x;
static_behind_plain : name_rule [] (in_file (Some storage.Static) int)
    (here (known_object linkage.External standing.Tentative int)) ≡ Breaks 2
unfolding agree bare_agree all_agree composite_of bare_composite all_composites same same_bare all_same
static_behind_plain = refl

-- extern int x[]; int x[3];
length_behind : name_rule [] (in_file None (Array int (Some 3)))
    (here (known_object linkage.External standing.Declared (Array int None)))
    ≡ Fits (known_object linkage.External standing.Tentative (Array int (Some 3)))
unfolding agree bare_agree all_agree composite_of bare_composite all_composites same same_bare all_same
length_behind = refl

-- extern int x[2]; int x[3];
other_length : name_rule [] (in_file None (Array int (Some 3)))
    (here (known_object linkage.External standing.Declared (Array int (Some 2)))) ≡ Breaks 2
unfolding agree bare_agree all_agree composite_of bare_composite all_composites same same_bare all_same
other_length = refl

-- enum {x}; int x;
constant_here : name_rule [] (in_file None int) (here (ConstantOf int (pos 0))) ≡ Breaks 2
unfolding agree bare_agree all_agree composite_of bare_composite all_composites same same_bare all_same
constant_here = refl

-- int x[];
no_length : name_rule [] (in_file None (Array int None)) new ≡ Breaks 9
unfolding agree bare_agree all_agree composite_of bare_composite all_composites same same_bare all_same
no_length = refl

-- int x[3]; int x[];
no_length_behind : name_rule [] (in_file None (Array int None))
    (here (known_object linkage.External standing.Tentative (Array int (Some 3)))) ≡ Breaks 9
unfolding agree bare_agree all_agree composite_of bare_composite all_composites same same_bare all_same
no_length_behind = refl

-- int x[] = ..;
length_given : name_rule [] (initialized None (Array int None)) new
    ≡ Fits (new_object linkage.External standing.Defined (Array int None))
unfolding agree bare_agree all_agree composite_of bare_composite all_composites same same_bare all_same
length_given = refl

-- extern int x[];
extern_length : name_rule [] (in_file (Some storage.Extern) (Array int None)) new
    ≡ Fits (new_object linkage.External standing.Declared (Array int None))
unfolding agree bare_agree all_agree composite_of bare_composite all_composites same same_bare all_same
extern_length = refl

-- struct s x; with an incomplete s
incomplete_object : name_rule one_structure (in_file None incomplete) new ≡ Breaks 7
unfolding agree bare_agree all_agree composite_of bare_composite all_composites same same_bare all_same
incomplete_object = refl

-- extern struct s x;
incomplete_extern : name_rule one_structure (in_file (Some storage.Extern) incomplete) new
    ≡ Fits (new_object linkage.External standing.Declared incomplete)
unfolding agree bare_agree all_agree composite_of bare_composite all_composites same same_bare all_same
incomplete_extern = refl

-- extern void x;
extern_void : name_rule [] (in_file (Some storage.Extern) void) new ≡ Breaks 7
unfolding agree bare_agree all_agree composite_of bare_composite all_composites same same_bare all_same
extern_void = refl

-- ---- functions

-- int x(void);
function_f : name_rule [] (in_file None no_arguments) new ≡ Fits (FunctionOf no_arguments
    (record { name = function.Unit (at 5); linkage = linkage.External; is_defined = false }))
unfolding agree bare_agree all_agree composite_of bare_composite all_composites same same_bare all_same
function_f = refl

-- static int x(void); int x(void);
static_function_again : name_rule [] (in_file None no_arguments) (here (own linkage.Internal false no_arguments))
    ≡ Fits (own linkage.Internal false no_arguments)
unfolding agree bare_agree all_agree composite_of bare_composite all_composites same same_bare all_same
static_function_again = refl

-- int x(void); static int x(void);
static_function_behind : name_rule [] (in_file (Some storage.Static) no_arguments)
    (here (own linkage.External false no_arguments)) ≡ Breaks 2
unfolding agree bare_agree all_agree composite_of bare_composite all_composites same same_bare all_same
static_function_behind = refl

-- int x(void); int x(int);
other_parameters : name_rule [] (in_file None one_argument) (here (own linkage.External false no_arguments)) ≡ Breaks 2
unfolding agree bare_agree all_agree composite_of bare_composite all_composites same same_bare all_same
other_parameters = refl

-- int x(void) {} int x(void) {}
defined_function : name_rule [] (declares s.Definition None false no_arguments)
    (here (own linkage.External true no_arguments)) ≡ Breaks 20
unfolding agree bare_agree all_agree composite_of bare_composite all_composites same same_bare all_same
defined_function = refl

-- int x(void) {} int x(void);
declared_behind : name_rule [] (in_file None no_arguments) (here (own linkage.External true no_arguments))
    ≡ Fits (own linkage.External true no_arguments)
unfolding agree bare_agree all_agree composite_of bare_composite all_composites same same_bare all_same
declared_behind = refl

-- int x(void) = 1;
initialized_function : name_rule [] (initialized None no_arguments) new ≡ Breaks 7
unfolding agree bare_agree all_agree composite_of bare_composite all_composites same same_bare all_same
initialized_function = refl

-- ---- library

-- a library function is declared with its type, and stays it
library_declared : name_rule [] (in_file None no_arguments) (around (library no_arguments)) ≡ Fits
    (library no_arguments)
unfolding agree bare_agree all_agree composite_of bare_composite all_composites same same_bare all_same
library_declared = refl

-- with another type
library_other_type : name_rule [] (in_file None one_argument) (around (library no_arguments)) ≡ Breaks 18
unfolding agree bare_agree all_agree composite_of bare_composite all_composites same same_bare all_same
library_other_type = refl

-- as an object
library_object : name_rule [] (in_file None int) (around (library no_arguments)) ≡ Breaks 18
unfolding agree bare_agree all_agree composite_of bare_composite all_composites same same_bare all_same
library_object = refl

-- it is defined
library_defined : name_rule [] (declares s.Definition None false no_arguments) (around (library no_arguments)) ≡
    Breaks 18
unfolding agree bare_agree all_agree composite_of bare_composite all_composites same same_bare all_same
library_defined = refl

-- static: a function of the unit's own
library_static : name_rule [] (in_file (Some storage.Static) one_argument) (around (library no_arguments)) ≡ Fits
    (FunctionOf
    one_argument (record { name = function.Unit (at 5); linkage = linkage.Internal; is_defined = false }))
unfolding agree bare_agree all_agree composite_of bare_composite all_composites same same_bare all_same
library_static = refl

-- an object of a block hides it
library_in_block : name_rule [] (in_block None int) (around (library no_arguments)) ≡ Fits (ObjectOf int (record {
  name = object.Slot 2;
  register = false;
  linkage = linkage.None;
  standing = standing.Defined;
}))
unfolding agree bare_agree all_agree composite_of bare_composite all_composites same same_bare all_same
library_in_block = refl

-- ---- blocks

-- { int x; int x; }
block_twice : name_rule [] (in_block None int) (here (known_object linkage.None standing.Defined int)) ≡ Breaks 2
unfolding agree bare_agree all_agree composite_of bare_composite all_composites same same_bare all_same
block_twice = refl

-- { static int x; }
block_static : name_rule [] (in_block (Some storage.Static) int) new
    ≡ Fits (new_object linkage.None standing.Defined int)
unfolding agree bare_agree all_agree composite_of bare_composite all_composites same same_bare all_same
block_static = refl

-- { extern int x; }
block_extern : name_rule [] (in_block (Some storage.Extern) int) new ≡ Breaks 47
unfolding agree bare_agree all_agree composite_of bare_composite all_composites same same_bare all_same
block_extern = refl

-- { int x(void); }
block_function : name_rule [] (in_block None no_arguments) new ≡ Breaks 47
unfolding agree bare_agree all_agree composite_of bare_composite all_composites same same_bare all_same
block_function = refl

-- int x; { char x; }
block_hides : name_rule [] (in_block None char) (around (known_object linkage.External standing.Tentative int))
    ≡ Fits (ObjectOf char (record {
      name = object.Slot 2;
      register = false;
      linkage = linkage.None;
      standing = standing.Defined;
    }))
unfolding agree bare_agree all_agree composite_of bare_composite all_composites same same_bare all_same
block_hides = refl

-- ---- typedef names

-- typedef int x; typedef int x;
typedef_again : name_rule [] (in_file (Some storage.Typedef) int) (here (TypedefOf int)) ≡ Fits (TypedefOf int)
unfolding agree bare_agree all_agree composite_of bare_composite all_composites same same_bare all_same
typedef_again = refl

-- typedef int x[]; typedef int x[3];
typedef_other : name_rule [] (in_file (Some storage.Typedef) (Array int (Some 3)))
    (here (TypedefOf (Array int None))) ≡ Breaks 2
unfolding agree bare_agree all_agree composite_of bare_composite all_composites same same_bare all_same
typedef_other = refl

-- typedef int x = 1;
typedef_initialized : name_rule [] (initialized (Some storage.Typedef) int) new ≡ Breaks 17
unfolding agree bare_agree all_agree composite_of bare_composite all_composites same same_bare all_same
typedef_initialized = refl

-- typedef int x; int x;
typedef_and_object : name_rule [] (in_file None int) (here (TypedefOf int)) ≡ Breaks 2
unfolding agree bare_agree all_agree composite_of bare_composite all_composites same same_bare all_same
typedef_and_object = refl
