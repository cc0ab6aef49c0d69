-- What a function of the program that decides a typing rule ensures: it answers what the rule does, unless memory runs
-- out, and gives a broken rule the place that it was handed.
use Rattle.std.specs.Prelude.{◌≡◌, Option, Result, Ok, Err, IfSome, option_map}
use Rattle.critical_table.specs.declared.pos.Pos.{Pos}
use Rattle.c_types.specs.declared.shape.TypeId.{TypeId}
use Rattle.c_types.specs.CType.{CType, type_of}
use Rattle.c_types.specs.Making.{Grows}
use Rattle.c_types.specs.Structures.{structures_of}
use Rattle.c_types.specs.Types.{Types, count_of}
use Rattle.c_core.specs.declared.fault.TypeFault.{TypeFault}
use Rattle.c_core.specs.declared.fault.TypeFault.TheVariants as fault
use Rattle.c_core.specs.Ids.{IdIn}
use Rattle.c_scopes.specs.Ruled.{Ruled, Fits, Breaks}

-- The table may have made types, and nothing else: structures, unions and enumerations are as they were.
pub record KeepsTable (old new : Types) : Type 0 where
  pub grows : Grows old new
  pub structures : structures_of new ≡ structures_of old
  pub enumerations : new.enumerations ≡ old.enumerations

-- The rule gives this, and the ids in it are the table's.
pub record Follows {A : Type 0} (rule : Ruled A) (a : A) (In : Types → Type 0) (old new : Types) : Type 0 where
  pub is : rule ≡ Fits a
  pub is_in : In new
  pub kept : KeepsTable old new

-- The rule breaks with the number of the fault, which is told at this place.
abbrev pub BreaksAt : {A : Type 0} → Ruled A → Pos → TypeFault → Type 0
BreaksAt rule at (fault.Constraint number place) = (rule ≡ Breaks number) × (place ≡ at)
BreaksAt rule at (fault.Memory _) = Unit {0}

-- what a rule without types answers
abbrev pub Settles : {A : Type 0} → Ruled A → Pos → Result A TypeFault → Type 0
Settles rule at (Ok a) = rule ≡ Fits a
Settles rule at (Err e) = BreaksAt rule at e

module _ {A B : Type 0} (view : Types → B → A) (In : Types → B → Type 0) where
  -- what is answered is what the rule says
  abbrev pub Rules : Ruled A → Pos → Types → Types → Result B TypeFault → Type 0
  Rules rule at old new (Ok x) = Follows rule (view new x) (λ types. In types x) old new
  Rules rule at old new (Err e) = BreaksAt rule at e

  -- what only want of memory can hinder is made
  pub record Makes (a : A) (old new : Types) (x : B) : Type 0 where
    pub is : view new x ≡ a
    pub is_in : In new x
    pub kept : KeepsTable old new

-- a type that may be none
abbrev pub type_or_none : Types → Option TypeId → Option CType
type_or_none types id = option_map (type_of types) id

abbrev pub OptionIn : Types → Option TypeId → Type 0
OptionIn types id = IfSome id (λ of. IdIn types of)

abbrev pub RulesOption : Ruled (Option CType) → Pos → Types → Types → Result (Option TypeId) TypeFault → Type 0
RulesOption = Rules type_or_none OptionIn

-- a rule that gives a type
abbrev pub RulesType : Ruled CType → Pos → Types → Types → Result TypeId TypeFault → Type 0
RulesType = Rules type_of IdIn
