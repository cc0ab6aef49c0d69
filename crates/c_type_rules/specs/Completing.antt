-- Members as the program keeps them, and what becomes of a table whose structure or union gets them.
use Rattle.std.specs.Prelude.{◌≡◌, ℕ, List, length, map, slice_set, Result, Ok, Err}
use Rattle.std.specs.BTreeSet.{BTreeSet, contains}
use Rattle.std.specs.Cmp.Lexicographic.{slice_cmp}
use Rattle.std.specs.Ordering.{nat_cmp}
use Rattle.critical_table.specs.declared.pos.Pos.{Pos}
use Rattle.c_types.specs.declared.shape.TypeId.{TypeId}
use Rattle.c_types.specs.Compounds.{number_in}
use Rattle.c_types.specs.CType.{CType, type_of}
use Rattle.c_types.specs.Making.{Grows}
use Rattle.c_types.specs.Structures.{Structure, structure_at, structures_of}
use Rattle.c_types.specs.Types.{Types}
use Rattle.c_core.specs.declared.fault.TypeFault.{TypeFault}
use Rattle.c_scopes.specs.Clauses.{BreaksAt}
use Rattle.c_scopes.specs.Ruled.{Ruled, Fits}
use Rattle.c_type_rules.specs.Members.{is_among, body_rule}

-- the names and the types of some members, in order
pub record MembersSoFar : Type 0 where
  pub names : List (List ℕ)
  pub types : List TypeId

-- a set of names beside them has each name
pub record IsKept (names : List (List ℕ)) (types : List TypeId) (set : BTreeSet (List ℕ)) : Type 0 where
  pub count : length types ≡ length names
  pub given : (name : List ℕ) → contains (slice_cmp nat_cmp) set name ≡ is_among name names

-- the rule of the body of a structure or union, in a table
abbrev pub body_in : Types → CType → MembersSoFar → Ruled Structure
body_in types type members = body_rule (structure_at (structures_of types) (number_in type)).is_union members.names
    (map (type_of types) members.types) (structures_of types)

-- The rule gives this structure or union, and the table has it under the number of the type.
pub record Completed (type : CType) (members : MembersSoFar) (old new : Types) : Type 0 where
  pub structure : Structure
  pub is : body_in old type members ≡ Fits structure
  pub structures : structures_of new ≡ slice_set (structures_of old) (number_in type) structure
  pub enumerations : new.enumerations ≡ old.enumerations
  pub grows : Grows old new

abbrev pub RulesBody : CType → MembersSoFar → Pos → Types → Types → Result (Unit {0}) TypeFault → Type 0
RulesBody type members at old new (Ok done) = Completed type members old new
RulesBody type members at old new (Err fault) = BreaksAt (body_in old type members) at fault
