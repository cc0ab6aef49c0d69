-- What is const of a type, and the members of a structure by its number.
use Rattle.std.proofs.Common.{◌≡◌, ◌∙◌, ℕ, List, [], refl, ap, sym, map}
use Rattle.std.specs.Prelude.{true, Option, Some, None, option_map}
use Rattle.c_types.specs.CType.{CType, Plain, Array, BasicType, Pointer, Function, Compound, Enumerated, quals_of}
use Rattle.c_types.specs.CType.{all_types}
use Rattle.c_types.specs.Compounds.{IsCompound, compound_at, members_in, number_in}
use Rattle.c_types.specs.Layouts.{layout_of}
use Rattle.c_types.specs.Structures.{Structure, structure_at, structures_of, members_of, members_of_body}
use Rattle.c_types.specs.Structures.{typed_member}
use Rattle.c_types.specs.Types.{Types, CompoundBody}
use Rattle.c_types.proofs.Members.{typed-members_at}
use Rattle.c_core.specs.declared.function.Range.{Range}
use Rattle.c_conversions.specs.Contents.{size_in}
use Rattle.c_initial_rules.specs.Seals.{type_sealed, whole_range}

-- a const object whole
pub const_sealed : (inside : ℕ → List Range) (type : CType) (structures : List Structure)
    → (quals_of type).constant ≡ true
    → type_sealed inside type structures ≡ whole_range (size_in (layout_of type structures))
const_sealed inside (Plain bare quals) structures h = rw h refl
const_sealed inside (Array of len) structures h = rw h refl

-- the members by the number are those of the type
pub members_by_number : (type : CType) (structures : List Structure) → IsCompound type
    → members_of_body (structure_at structures (number_in type)).body ≡ members_of type structures
members_by_number (Plain (Compound number) quals) structures h = refl
members_by_number (Plain (BasicType basic) quals) structures h = absurd h
members_by_number (Plain (Pointer to) quals) structures h = absurd h
members_by_number (Plain (Function gives parameters variadic) quals) structures h = absurd h
members_by_number (Plain (Enumerated number) quals) structures h = absurd h
members_by_number (Array of len) structures h = absurd h

without_body : (body : Option CompoundBody) → None ≡ option_map (λ (b : CompoundBody). b.members) body
    → members_in body ≡ []
without_body None h = refl
without_body (Some body) h = cc

-- a structure that is incomplete has no members
pub no_members_of : (types : Types) (type : CType)
    → None ≡ option_map (λ (b : CompoundBody). b.members) (compound_at types type).body
    → members_of type (structures_of types) ≡ []
no_members_of types type h = sym (typed-members_at types type)
    ∙ ap (map (typed_member (all_types types))) (without_body (compound_at types type).body h)
