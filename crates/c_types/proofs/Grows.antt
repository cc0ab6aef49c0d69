-- What the ids stand for as a table grows.
use Rattle.std.proofs.Common.{◌≡◌, ◌+◌, ◌<◌, List, [], ◌∷◌, ◌++◌, length, refl, sym, ◌∙◌, arith, length-append}
use Rattle.std.proofs.lemmas.List.{get_or_append_left, get_or_push}
use Rattle.c_types.specs.declared.shape.TypeId.{TypeId}
use Rattle.c_types.specs.declared.parts.Made.{Made}
use Rattle.c_types.specs.Types.{Types, FunctionParts, count_of}
use Rattle.c_types.specs.CType.{CType, types_from, type_of, type_with, all_types, void}
use Rattle.c_types.specs.Making.{KeepsTypes, MakesType, with_made}
use Rattle.c_types.specs.Inner.{IsSound}
use Rattle.c_types.proofs.Kept.{same_structures, grows_by_types}

-- each entry makes a type
pub length-types_from : (functions : List FunctionParts) (types : List CType) (made : List Made)
    → length (types_from functions types made) ≡ length types + length made
unfolding types_from
length-types_from functions types [] = omega arith
length-types_from functions types (next ∷ rest) =
    let step = length-types_from functions (types ++ type_with functions types next.shape next.quals ∷ []) rest in
    omega (arith, step, length-append types (type_with functions types next.shape next.quals ∷ []))

-- one more entry makes one more type
pub types_from-push : (functions : List FunctionParts) (types : List CType) (made : List Made) (last : Made)
    → types_from functions types (made ++ last ∷ []) ≡ types_from functions types made
    ++ type_with functions (types_from functions types made) last.shape last.quals ∷ []
unfolding types_from
types_from-push functions types [] last = refl
types_from-push functions types (next ∷ rest) last =
    types_from-push functions (types ++ type_with functions types next.shape next.quals ∷ []) rest last

-- there are as many types as ids
pub length-all_types : (types : Types) → length (all_types types) ≡ count_of types
length-all_types types = omega (arith, length-types_from types.functions [] types.made)

-- What one more type changes: the others stay, and it stands for what its shape says.
pub record Adds (old new : Types) (id : TypeId) (made : CType) : Type 0 where
  pub is_there : id.0 < count_of new
  pub stands_for : type_of new id ≡ made
  pub types : KeepsTypes old new

-- one more entry adds the type that its shape says
pub adds-with_made : (old : Types) (id : TypeId) (next : Made) → id.0 ≡ count_of old →
    Adds old (with_made old next) id (type_with old.functions (all_types old) next.shape next.quals)
adds-with_made old id next place =
    let all = types_from-push old.functions [] old.made next in
    let len = length-all_types old in
    record {
      is_there = omega (arith, place, length-append old.made (next ∷ []));
      stands_for = rw all (get_or_push (all_types old) _ void id.0 (len ∙ sym place));
      types = record {
        count = omega (arith, length-append old.made (next ∷ []));
        same = λ q below. rw all (get_or_append_left (all_types old) _ void q.0 (omega (arith, len)));
      };
    }

-- a sound table that adds a type, and nothing else, makes it
pub makes : (old new : Types) (id : TypeId) (made : CType) → IsSound old → Adds old new id made →
    new.compounds ≡ old.compounds → new.enumerations ≡ old.enumerations → MakesType old new id made
makes old new id made sound adds same count =
    let structures = same_structures old new adds.types sound same in
    record {
      is_there = adds.is_there;
      stands_for = adds.stands_for;
      grows = grows_by_types old new adds.types structures count;
      compounds = same;
      structures = structures;
      enumerations = count;
    }

-- the same of a sound table, where nothing else changes
pub makes-with_made : (old new : Types) (id : TypeId) (next : Made) → IsSound old → new ≡ with_made old next →
    id.0 ≡ count_of old →
    MakesType old new id (type_with old.functions (all_types old) next.shape next.quals)
makes-with_made old new id next sound grows place =
    rw grows (makes old (with_made old next) id _ sound (adds-with_made old id next place) refl refl)
