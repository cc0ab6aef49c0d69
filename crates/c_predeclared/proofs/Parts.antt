-- How a table makes the types of prototypes.
use Rattle.std.proofs.Common.{◌≡◌, ◌∙◌, ◌<◌, List, [], ◌∷◌, ◌++◌, map, refl, ap, sym, arith}
use Rattle.std.proofs.Common.{ℕ, ◌+◌, length, take, get_or}
use Rattle.std.specs.Prelude.{All, false}
use Rattle.std.proofs.lemmas.List.{map-append, take_more}
use Rattle.std.proofs.lemmas.List.Elements.{All-head, All-tail, All-push, All-weaker}
use Rattle.c_types.specs.declared.shape.TypeId.{TypeId}
use Rattle.c_types.specs.CType.{CType, CTypes, Plain, Function, Cons, no_quals, all_types, type_at, type_of, types_at}
use Rattle.c_types.specs.Making.{Grows, MakesType}
use Rattle.c_types.specs.Types.{Types}
use Rattle.c_core.specs.Ids.{IdIn}
use Rattle.c_scopes.specs.Clauses.{Makes}
use Rattle.c_scopes.proofs.Keeps.{keeps_then}
use Rattle.library_types.specs.LibraryTypes.{types}
use Rattle.c_predeclared.specs.declared.prototypes.Part.{Part}
use Rattle.c_predeclared.specs.Prototypes.{MakesParts, part_type, prototype_type}

-- ---- ids of a table that grows

module _ (old new : Types) (grows : Grows old new) where
  stays_in : (id : TypeId) → IdIn old id → IdIn new id
  stays_in id h = let count = grows.types.count in omega (arith, h, count)

  all_stay_in : (ids : List TypeId) → All (λ (id : TypeId). IdIn old id) ids → All (λ (id : TypeId). IdIn new id)
      ids
  all_stay_in ids h = All-weaker (λ (id : TypeId). IdIn old id) (λ (id : TypeId). IdIn new id) stays_in ids h

  all_stay : (ids : List TypeId) → All (λ (id : TypeId). IdIn old id) ids → map (type_of new) ids ≡ map (type_of old)
      ids
  all_stay [] h = refl
  all_stay (id ∷ ids) h =
      let first = All-head (λ (id : TypeId). IdIn old id) id ids h in
      let rest = All-tail (λ (id : TypeId). IdIn old id) id ids h in
      λ i. grows.types.same id first i ∷ all_stay ids rest i

-- ---- parameters

-- one more is made
pub parts_more : (parts : List Part) (part : Part) (old mid new : Types) (made : List TypeId) (id : TypeId)
    → MakesParts parts old mid made → Makes type_of IdIn (part_type part) mid new id
    → MakesParts (parts ++ part ∷ []) old new (made ++ id ∷ [])
parts_more parts part old mid new made id before one = record {
  are = map-append (type_of new) made (id ∷ [])
      ∙ ap (λ (all : List CType). all ++ type_of new id ∷ [])
      (all_stay mid new one.kept.grows made before.are_in ∙ before.are)
      ∙ ap (λ (type : CType). map part_type parts ++ type ∷ []) one.is
      ∙ sym (map-append part_type parts (part ∷ []));
  are_in = All-push (λ (id : TypeId). IdIn new id) made id
      (all_stay_in mid new one.kept.grows made before.are_in) one.is_in;
  kept = keeps_then old mid new before.kept one.kept;
}

-- that of the next part of a list is made
pub parts_next : (parts : List Part) (i : ℕ) (part : Part) {old mid new : Types} {made more : List TypeId} {id : TypeId}
    → i < length parts → MakesParts (take i parts) old mid made
    → Makes type_of IdIn (part_type (get_or parts i part)) mid new id → more ≡ made ++ id ∷ []
    → MakesParts (take (i + 1) parts) old new more
parts_next parts i part {old = old} {mid = mid} {new = new} {made = made} {id = id} below before one more =
    let all = parts_more (take i parts) (get_or parts i part) old mid new made id before one in
    let next = take_more parts i part below in
    rw (next, more) all

-- ---- the function

types_listed : (all : List CType) (ids : List TypeId) → types_at all ids ≡ types (map (type_at all) ids)
types_listed all [] = refl
types_listed all (id ∷ ids) = ap (Cons (type_at all id)) (types_listed all ids)

-- from its parameters, what it gives, and the table that has it
pub function_made : (parts : List Part) (part : Part) {old mid there new : Types} {ids list : List TypeId}
    {gives id : TypeId} → MakesParts parts old mid ids → Makes type_of IdIn (part_type part) mid there gives
    → list ≡ ids
    → MakesType there new id (Plain (Function (type_of there gives) (types_at (all_types there) list) false) no_quals)
    → Makes type_of IdIn (prototype_type part parts) old new id
function_made parts part {old = old} {mid = mid} {there = there} {new = new} {ids = ids} {list = list} all one same
    function =
    record {
      is = function.stands_for
          ∙ ap (λ (type : CType). Plain (Function type (types_at (all_types there) list) false) no_quals) one.is
          ∙ ap (λ (parameters : CTypes). Plain (Function (part_type part) parameters false) no_quals)
          (ap (types_at (all_types there)) same ∙ types_listed (all_types there) ids
          ∙ ap types (all_stay mid there one.kept.grows ids all.are_in ∙ all.are));
      is_in = function.is_there;
      kept = keeps_then old there new (keeps_then old mid there all.kept one.kept) (record {
        grows = function.grows;
        structures = function.structures;
        enumerations = function.enumerations;
      });
    }
