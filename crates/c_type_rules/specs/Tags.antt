-- Which type a tag stands for, by what it stands for so far (6.7.2.3).
use Rattle.std.specs.Prelude.{ℕ, Bool, true, false, not, ◌&&◌, List, [], ◌∷◌, length, is_some}
use Rattle.std.specs.Prelude.{Option, Some, None}
use Rattle.c_types.specs.CType.{CType, Plain, Compound, Enumerated, no_quals}
use Rattle.c_types.specs.Structures.{Structure, structure_at}
use Rattle.c_scopes.specs.declared.binding.TagState.{TagState}
use Rattle.c_scopes.specs.declared.binding.TagState.TheVariants as state
use Rattle.c_scopes.specs.Named.{Named, TagOf}
use Rattle.c_scopes.specs.Ruled.{Ruled, Fits, Breaks, Demand, ruled}

abbrev pub same_truth : Bool → Bool → Bool
same_truth true b = b
same_truth false b = not b

-- a union, or a structure
abbrev pub is_compound : Bool → CType → List Structure → Bool
is_compound is_union (Plain (Compound number) quals) structures =
    same_truth is_union (structure_at structures number).is_union
is_compound is_union other structures = false

abbrev pub is_enumerated : CType → Bool
is_enumerated (Plain (Enumerated number) quals) = true
is_enumerated other = false

-- the next structure or union, and the next enumerated type
abbrev pub next_compound : List Structure → CType
next_compound structures = Plain (Compound (length structures)) no_quals

abbrev pub next_enumerated : ℕ → CType
next_enumerated enumerations = Plain (Enumerated enumerations) no_quals

-- ---- `struct tag` and `union tag` without a body: the type that is known, or none, and then a new one is declared

abbrev pub compound_tag_rule : List Structure → Bool → Option Named → Ruled (Option CType)
compound_tag_rule structures is_union (Some (TagOf type state)) =
    ruled ((6, is_compound is_union type structures) ∷ []) (Some type)
compound_tag_rule structures is_union other = Fits None

-- ---- with a body: the type that is completed, or none where the tag isn't declared in this scope

abbrev pub is_without_body : TagState → Bool
is_without_body state.Declared = true
is_without_body other = false

abbrev pub compound_body_rule : List Structure → Bool → Option Named → Ruled (Option CType)
compound_body_rule structures is_union (Some (TagOf type state)) =
    ruled ((6, is_compound is_union type structures && is_without_body state) ∷ []) (Some type)
compound_body_rule structures is_union other = Fits None

-- ---- `enum tag` without a body, which stands behind its body alone (6.7.2.3p3)

abbrev pub is_with_body : TagState → Bool
is_with_body state.Complete = true
is_with_body other = false

abbrev pub enumerated_demands : CType → TagState → List Demand
enumerated_demands type state = (6, is_enumerated type) ∷ (7, is_with_body state) ∷ []

abbrev pub enumerated_tag_rule : Option Named → Ruled CType
enumerated_tag_rule (Some (TagOf type state)) = ruled (enumerated_demands type state) type
enumerated_tag_rule other = Breaks 7

-- with a body: a tag that this scope has is of another kind, or has a body
abbrev pub enumerated_body_rule : Option Named → Ruled (Unit {0})
enumerated_body_rule here = ruled ((6, not (is_some here)) ∷ []) tt
