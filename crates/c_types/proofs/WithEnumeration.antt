-- One more enumerated type changes nothing of the types that are there, and is none of them.
use Rattle.std.proofs.Common.{◌≡◌, ◌≢◌, ℕ, ◌+◌, List, [], ◌∷◌, ◌++◌, length, refl, ap, sym, subst, ◌∙◌}
use Rattle.std.proofs.Common.{arith, slice_get}
use Rattle.std.specs.Prelude.{Option, Some, None}
use Rattle.std.proofs.lemmas.List.{length-map}
use Rattle.c_types.specs.declared.shape.Shape.{Shape}
use Rattle.c_types.specs.declared.shape.Shape.TheVariants as s
use Rattle.c_types.specs.declared.shape.Quals.{Quals}
use Rattle.c_types.specs.declared.shape.TypeId.{TypeId}
use Rattle.c_types.specs.declared.parts.Made.{Made}
use Rattle.c_types.specs.Types.{Types, FunctionParts, CompoundParts, count_of}
use Rattle.c_types.specs.CType.{Compound, Enumerated, bare_of}
use Rattle.c_types.specs.CType.{type_with, function_at, all_types, no_quals}
use Rattle.c_types.specs.Shapes.{RefersBelow, entry_at}
use Rattle.c_types.specs.Structures.{Structure, structures_of, typed_structure}
use Rattle.c_types.specs.Layouts.{scalar}
use Rattle.c_types.specs.Making.{IsNew, KeepsTypes, KeepsStructures, MakesEnumerated, with_made, with_enumeration}
use Rattle.c_types.specs.Inner.{IsSound}
use Rattle.c_types.proofs.Kept.{same_structures, structures_own}
use Rattle.c_types.proofs.Grows.{adds-with_made}
use Rattle.c_types.proofs.Showing.{shows}
use Rattle.c_types.proofs.Sound.{sound-with_made}

-- a type of this shape is no enumerated type of a number that is not given yet
other_enumeration : (types : Types) (id : ℕ) (shape : Shape) (quals : Quals) → RefersBelow types id shape →
    bare_of (type_with types.functions (all_types types) shape quals) ≢ Enumerated types.enumerations
other_enumeration types id (s.Basic basic) quals refers e = cc
other_enumeration types id (s.Pointer to) quals refers e = cc
other_enumeration types id (s.Array of len) quals refers e = cc
other_enumeration types id (s.Compound n) quals refers e = cc
other_enumeration types id (s.Enumerated n) quals refers e =
    let same : n ≡ types.enumerations = cc in
    absurd (omega (arith, same, refers))
other_enumeration types id (s.Function n) quals refers e = parts (slice_get types.functions n) e
  where
    parts : (o : Option FunctionParts) → function_at (all_types types) o ≢ Enumerated types.enumerations
    parts None f = cc
    parts (Some p) f = cc

-- nor a structure or union of such a number
other_compound : (types : Types) (id : ℕ) (shape : Shape) (quals : Quals) → RefersBelow types id shape →
    bare_of (type_with types.functions (all_types types) shape quals) ≢ Compound (length (structures_of types))
other_compound types id (s.Basic basic) quals refers e = cc
other_compound types id (s.Pointer to) quals refers e = cc
other_compound types id (s.Array of len) quals refers e = cc
other_compound types id (s.Enumerated n) quals refers e = cc
other_compound types id (s.Compound n) quals refers e =
    let same : n ≡ length (structures_of types) = cc in
    let count : length (structures_of types) ≡ length types.compounds =
    length-map types.compounds (typed_structure (all_types types)) in
    absurd (omega (arith, same, count, refers))
other_compound types id (s.Function n) quals refers e = parts (slice_get types.functions n) e
  where
    parts : (o : Option FunctionParts) → function_at (all_types types) o ≢ Compound (length (structures_of types))
    parts None f = cc
    parts (Some p) f = cc

-- the next enumerated type is none of those that are there
pub enumeration_is_new : (types : Types) → IsSound types → IsNew types (Enumerated types.enumerations)
enumeration_is_new types sound id there e =
    let refers = sound.refers id.0 there in
    let shown = shows types id there refers in
    other_enumeration types id.0 (entry_at types id.0).shape (entry_at types id.0).quals refers
    (sym (ap bare_of shown.stands_for) ∙ e)

-- nor is the next structure or union
pub compound_is_new : (types : Types) → IsSound types → IsNew types (Compound (length (structures_of types)))
compound_is_new types sound id there e =
    let refers = sound.refers id.0 there in
    let shown = shows types id there refers in
    other_compound types id.0 (entry_at types id.0).shape (entry_at types id.0).quals refers
    (sym (ap bare_of shown.stands_for) ∙ e)

-- the table is sound, with one more number that no type has
sound-with_enumeration : (types : Types) → IsSound types → IsSound (with_enumeration types)
sound-with_enumeration types sound = record {
  begins = sound.begins;
  refers = λ id h. refers id (entry_at types id).shape (sound.refers id h);
  layouts = sound.layouts;
  parts = sound.parts;
  members = sound.members;
}
  where
    refers : (id : ℕ) (shape : Shape) → RefersBelow types id shape → RefersBelow (with_enumeration types) id shape
    refers id (s.Enumerated n) h = omega (arith, h)
    refers id (s.Compound n) h = h
    refers id (s.Function n) h = h
    refers id (s.Basic basic) h = h
    refers id (s.Pointer to) h = h
    refers id (s.Array of len) h = h

-- the entry of an enumerated type
abbrev pub enumerated_entry : ℕ → Made
enumerated_entry number =
    record { shape = s.Enumerated number; quals = no_quals; layout = Some (scalar 4); parts = 1 }

-- the table with one more enumerated type
abbrev pub with_enumerated_type : Types → Types
with_enumerated_type types = with_made (with_enumeration types) (enumerated_entry types.enumerations)

-- and with its type
pub sound-with_enumerated_type : (types : Types) → IsSound types → IsSound (with_enumerated_type types)
sound-with_enumerated_type types sound =
    sound-with_made (with_enumeration types) (enumerated_entry types.enumerations)
    (sound-with_enumeration types sound)
    (omega arith)
    (record { layout = refl; own = tt })
    (record { count = refl; bound = omega arith })

-- the table has made an enumerated type
pub makes-with_enumerated_type : (types : Types) (id : TypeId) → IsSound types → id.0 ≡ count_of types →
    MakesEnumerated types (with_enumerated_type types) id
makes-with_enumerated_type types id sound place =
    let made = adds-with_made (with_enumeration types) id (enumerated_entry types.enumerations) place in
    let keeps : KeepsTypes types (with_enumerated_type types) =
    record { count = made.types.count; same = made.types.same } in
    let structures = same_structures types (with_enumerated_type types) keeps sound refl in
    record {
      is_there = made.is_there;
      stands_for = made.stands_for;
      is_new = enumeration_is_new types sound;
      grows = record {
        types = keeps;
        structures = subst (λ (ss : List Structure). KeepsStructures (structures_of types) ss) (sym structures)
            (structures_own (structures_of types));
        enumerations = omega arith;
      };
      compounds = refl;
      structures = structures;
      enumerations = refl;
    }

-- the fields of a table stand for the table with one more enumerated type
pub fields-with_enumerated_type : (made made2 : List Made) (fs : List FunctionParts) (cs : List CompoundParts)
    (n n2 : ℕ) → made2 ≡ made ++ enumerated_entry n ∷ [] → n2 ≡ n + 1 →
    record { made = made2; functions = fs; compounds = cs; enumerations = n2 }
    ≡ with_enumerated_type (record { made = made; functions = fs; compounds = cs; enumerations = n })
fields-with_enumerated_type made made2 fs cs n n2 m p =
    ap (λ (l : List Made). record { made = l; functions = fs; compounds = cs; enumerations = n2 }) m
    ∙ ap (λ k. record { made = made ++ enumerated_entry n ∷ []; functions = fs; compounds = cs; enumerations = k }) p
