-- One more structure or union, still incomplete, changes nothing of the types that are there, and is none of them.
use Rattle.std.proofs.Common.{◌≡◌, ℕ, zero, suc, List, [], ◌∷◌, ◌++◌, length, map, refl, ap, sym, subst, ◌∙◌, arith}
use Rattle.std.proofs.Common.{length-append}
use Rattle.std.specs.Prelude.{Bool, false, Option, Some, None, Result, is_ok, is_err, option_map, if◌then◌else◌}
use Rattle.std.proofs.lemmas.List.{map-append, length-map}
use Rattle.std.proofs.lemmas.List.Elements.{All-push}
use Rattle.c_types.specs.declared.layout.Layout.{Layout}
use Rattle.c_types.specs.declared.shape.Shape.{Shape}
use Rattle.c_types.specs.declared.shape.Shape.TheVariants as s
use Rattle.c_types.specs.declared.shape.TypeId.{TypeId}
use Rattle.c_types.specs.declared.parts.Made.{Made}
use Rattle.c_types.specs.declared.parts.Signature.{Signature}
use Rattle.c_types.specs.declared.parts.CompoundType.{CompoundType}
use Rattle.c_types.specs.Types.{Types, count_of}
use Rattle.c_types.specs.CType.{CType, Plain, Array, BasicType, Pointer, Function, Compound, Enumerated, type_of}
use Rattle.c_types.specs.CType.{all_types, no_quals}
use Rattle.c_types.specs.Shapes.{RefersBelow, entry_at}
use Rattle.c_types.specs.Structures.{Structure, StructureBody, structure_at, structures_of, typed_structure}
use Rattle.c_types.specs.Structures.{no_members, IsIncomplete}
use Rattle.c_types.specs.Layouts.{layout_of, times}
use Rattle.c_types.specs.Making.{KeepsTypes, KeepsStructures, with_made}
use Rattle.c_types.specs.Compounds.{MakesCompound, with_compound, incomplete}
use Rattle.c_types.specs.Inner.{IsSound, KeepsLayout, HasMembersIn, kept_layout, parts_of, compound_of}
use Rattle.c_types.proofs.Kept.{structures_stay, structures_pushed}
use Rattle.c_types.proofs.Grows.{adds-with_made}
use Rattle.c_types.proofs.Sound.{sound-with_made}
use Rattle.c_types.proofs.WithEnumeration.{compound_is_new}
use Rattle.c_types.proofs.WithFunction.{pushed}

-- at each number there is the body that was there, or none
slot : (structures : List Structure) (u : Bool) (n : ℕ) →
    (structure_at (structures ++ no_members u ∷ []) n).body ≡ (structure_at structures n).body
slot [] u zero = refl
slot [] u (suc n) = refl
slot (x ∷ structures) u zero = refl
slot (x ∷ structures) u (suc n) = slot structures u n

-- so the layout is the one that was there, or none
slot_layout : (structures : List Structure) (u : Bool) (n : ℕ) →
    option_map (λ (b : StructureBody). b.layout) (structure_at (structures ++ no_members u ∷ []) n).body
    ≡ option_map (λ (b : StructureBody). b.layout) (structure_at structures n).body
slot_layout structures u n = ap (option_map (λ (b : StructureBody). b.layout)) (slot structures u n)

-- no layout changes
layout_of-incomplete : (type : CType) (structures : List Structure) (u : Bool) →
    layout_of type (structures ++ no_members u ∷ []) ≡ layout_of type structures
layout_of-incomplete (Plain (BasicType basic) quals) structures u = refl
layout_of-incomplete (Plain (Pointer to) quals) structures u = refl
layout_of-incomplete (Plain (Function gives parameters variadic) quals) structures u = refl
layout_of-incomplete (Plain (Compound n) quals) structures u = slot_layout structures u n
layout_of-incomplete (Plain (Enumerated n) quals) structures u = refl
layout_of-incomplete (Array of None) structures u = refl
layout_of-incomplete (Array of (Some n)) structures u = ap (option_map (times n)) (layout_of-incomplete of structures u)

-- nor does one that is kept
kept_layout-incomplete : (shape : Shape) (kept : Option Layout) (structures : List Structure) (u : Bool) →
    kept_layout shape kept (structures ++ no_members u ∷ []) ≡ kept_layout shape kept structures
kept_layout-incomplete (s.Basic basic) kept structures u = refl
kept_layout-incomplete (s.Pointer to) kept structures u = refl
kept_layout-incomplete (s.Array of len) kept structures u = refl
kept_layout-incomplete (s.Function n) kept structures u = refl
kept_layout-incomplete (s.Compound n) kept structures u = slot_layout structures u n
kept_layout-incomplete (s.Enumerated n) kept structures u = refl

-- the structures and unions of the table are one more
one_more : (types : Types) (u : Bool) →
    structures_of (with_compound types (incomplete u)) ≡ structures_of types ++ no_members u ∷ []
one_more types u = map-append (typed_structure (all_types types)) types.compounds (incomplete u ∷ [])

-- the table is sound, with one more structure or union that no type has
sound-with_compound : (types : Types) (u : Bool) → IsSound types → IsSound (with_compound types (incomplete u))
sound-with_compound types u sound = record {
  begins = sound.begins;
  refers = λ id h. refers id (entry_at types id).shape (sound.refers id h);
  layouts = λ id h.
      subst (λ (ss : List Structure).
      KeepsLayout (entry_at types id.0).shape (entry_at types id.0).layout (type_of types id) ss)
      (sym (one_more types u)) (layout (entry_at types id.0) (type_of types id) (sound.layouts id h));
  parts = sound.parts;
  members = All-push (HasMembersIn types) types.compounds (incomplete u) sound.members tt;
}
  where
    refers : (id : ℕ) (shape : Shape) → RefersBelow types id shape
        → RefersBelow (with_compound types (incomplete u)) id shape
    refers id (s.Compound n) h = omega (arith, length-append types.compounds (incomplete u ∷ []))
    refers id (s.Function n) h = h
    refers id (s.Basic basic) h = h
    refers id (s.Pointer to) h = h
    refers id (s.Array of len) h = h
    refers id (s.Enumerated n) h = h

    layout : (m : Made) (type : CType) → KeepsLayout m.shape m.layout type (structures_of types) →
        KeepsLayout m.shape m.layout type (structures_of types ++ no_members u ∷ [])
    layout m type k = record {
      layout = kept_layout-incomplete m.shape m.layout (structures_of types) u ∙ k.layout
          ∙ sym (layout_of-incomplete type (structures_of types) u);
      own = k.own;
    }

-- the entry of the structure or union whose parts come next
abbrev pub compound_entry : ℕ → Made
compound_entry number = record { shape = s.Compound number; quals = no_quals; layout = None; parts = 1 }

-- the table with one more structure or union
abbrev pub with_compound_type : Types → Bool → Types
with_compound_type types u =
    with_made (with_compound types (incomplete u)) (compound_entry (length types.compounds))

-- and with its type
pub sound-with_compound_type : (types : Types) (u : Bool) → IsSound types → IsSound (with_compound_type types u)
sound-with_compound_type types u sound =
    sound-with_made (with_compound types (incomplete u)) (compound_entry (length types.compounds))
    (sound-with_compound types u sound)
    (omega (arith, length-append types.compounds (incomplete u ∷ [])))
    (record { layout = refl; own = tt })
    (record { count = refl; bound = omega arith })

-- the new structure or union has no members
none_yet : (structures : List Structure) (u : Bool) →
    (structure_at (structures ++ no_members u ∷ []) (length structures)).body ≡ None
none_yet [] u = refl
none_yet (x ∷ structures) u = none_yet structures u

-- the table has made a structure or union
pub makes-with_compound_type : (types : Types) (u : Bool) (id : TypeId) → IsSound types → id.0 ≡ count_of types →
    MakesCompound types (with_compound_type types u) id u
makes-with_compound_type types u id sound place =
    let new = with_compound_type types u in
    let made = adds-with_made (with_compound types (incomplete u)) id (compound_entry (length types.compounds)) place in
    let keeps : KeepsTypes types new = record { count = made.types.count; same = made.types.same } in
    let number : length (structures_of types) ≡ length types.compounds =
    length-map types.compounds (typed_structure (all_types types)) in
    let structures : structures_of new ≡ structures_of types ++ no_members u ∷ [] =
    map-append (typed_structure (all_types new)) types.compounds (incomplete u ∷ [])
    ∙ ap (λ (ss : List Structure). ss ++ no_members u ∷ [])
    (structures_stay types new types.compounds keeps sound.members) in
    let type : type_of new id ≡ Plain (Compound (length (structures_of types))) no_quals =
    made.stands_for ∙ ap (λ n. Plain (Compound n) no_quals) (sym number) in
    record {
      is_there = made.is_there;
      stands_for = type;
      incomplete = subst (λ (t : CType). IsIncomplete t (structures_of new)) (sym type)
          (subst (λ (ss : List Structure). (structure_at ss (length (structures_of types))).body ≡ None)
          (sym structures)
          (none_yet (structures_of types) u));
      is_new = compound_is_new types sound;
      grows = record {
        types = keeps;
        structures = subst (λ (ss : List Structure). KeepsStructures (structures_of types) ss) (sym structures)
            (structures_pushed (structures_of types) u);
        enumerations = omega arith;
      };
      compounds = refl;
      structures = structures;
      enumerations = refl;
    }

-- the fields of a table stand for the table with one more structure or union
pub fields-with_compound_type : (made made2 : List Made) (fs : List Signature) (cs cs2 : List CompoundType) (n : ℕ)
    (u : Bool) →
    made2 ≡ made ++ (record { shape = s.Compound (length cs); quals = no_quals; layout = None; parts = 1 }) ∷ [] →
    cs2 ≡ cs ++ (record { is_union = u; body = None }) ∷ [] →
    record { made = made2; functions = map parts_of fs; compounds = map compound_of cs2; enumerations = n }
    ≡ with_compound_type
    (record { made = made; functions = map parts_of fs; compounds = map compound_of cs; enumerations = n }) u
fields-with_compound_type made made2 fs cs cs2 n u m p =
    let compounds : map compound_of cs2 ≡ map compound_of cs ++ incomplete u ∷ [] =
    ap (map compound_of) p ∙ map-append compound_of cs ((record { is_union = u; body = None }) ∷ []) in
    let number : length (map compound_of cs) ≡ length cs = length-map cs compound_of in
    cc

-- the same fields, by what the two pushes have left
pub pushed-compound : {E : Type 0} (made made2 : List Made) (fs : List Signature) (cs cs2 : List CompoundType)
    (n number : ℕ) (u : Bool) (entry : Made) (r : Result (Unit {0}) E) → number ≡ length cs →
    entry ≡ record { shape = s.Compound number; quals = no_quals; layout = None; parts = 1 } →
    made2 ≡ made ++ entry ∷ [] → is_err r ≡ false →
    cs2 ≡ (if is_ok r then cs ++ (record { is_union = u; body = None }) ∷ [] else cs) →
    record { made = made2; functions = map parts_of fs; compounds = map compound_of cs2; enumerations = n }
    ≡ with_compound_type
    (record { made = made; functions = map parts_of fs; compounds = map compound_of cs; enumerations = n }) u
pushed-compound made made2 fs cs cs2 n number u entry r place plain m no_fault p =
    let named : ℕ → Made = λ k. record { shape = s.Compound k; quals = no_quals; layout = None; parts = 1 } in
    fields-with_compound_type made made2 fs cs cs2 n u
    (m ∙ ap (λ (e : Made). made ++ e ∷ []) (plain ∙ ap named place))
    (pushed r cs2 (cs ++ (record { is_union = u; body = None }) ∷ []) cs no_fault p)
