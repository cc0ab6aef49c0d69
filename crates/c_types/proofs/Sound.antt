-- A table that is sound stays so as it grows.
use Rattle.std.proofs.Common.{◌≡◌, ℕ, ◌<◌, ◌≤◌, List, [], ◌∷◌, length, All, refl, ap, sym, subst, ◌∙◌, arith}
use Rattle.std.proofs.Common.{length-append, inl, inr}
use Rattle.std.proofs.Math.Nat.{eq-or-lt_of_le}
use Rattle.std.proofs.lemmas.List.{get_or_append_left, get_or_push, take-append-le, length-take}
use Rattle.std.proofs.lemmas.List.Elements.{All-weaker}
use Rattle.std.specs.Prelude.{Option, Some, None, IfSome}
use Rattle.c_types.specs.declared.member.Member.{Member}
use Rattle.c_types.specs.declared.shape.TypeId.{TypeId}
use Rattle.c_types.specs.declared.parts.Made.{Made}
use Rattle.c_types.specs.Types.{Types, CompoundParts, CompoundBody, count_of}
use Rattle.c_types.specs.Structures.{Structure, structures_of}
use Rattle.c_types.specs.Inner.{IsSound, KeepsLayout, CountsParts, HasMembersIn}
use Rattle.c_types.specs.CType.{CType, type_of, type_with, all_types}
use Rattle.c_types.specs.Shapes.{RefersBelow, no_entry, entry_at}
use Rattle.c_types.specs.Making.{with_made}
use Rattle.c_types.proofs.Kept.{same_structures}
use Rattle.c_types.proofs.Grows.{Adds, adds-with_made}

-- the first thirteen types are there
pub begins_there : (types : Types) → IsSound types → 13 ≤ count_of types
begins_there types sound = omega (arith, length-take 13 types.made, ap length sound.begins)

-- more types leave the members of compound types where they were
HasMembersIn-more : (old new : Types) → count_of old ≤ count_of new → (parts : CompoundParts)
    → HasMembersIn old parts → HasMembersIn new parts
HasMembersIn-more old new more parts h = body parts.body h
  where
    body : (b : Option CompoundBody)
        → IfSome b (λ (x : CompoundBody). All (λ (m : Member). m.of.0 < count_of old) x.members)
        → IfSome b (λ (x : CompoundBody). All (λ (m : Member). m.of.0 < count_of new) x.members)
    body None i = tt
    body (Some x) i =
        All-weaker (λ (m : Member). m.of.0 < count_of old) (λ (m : Member). m.of.0 < count_of new)
        (λ m l. omega arith) x.members i

-- one more type, whose entry is right, leaves the table sound
pub sound-with_made : (types : Types) (next : Made) → IsSound types →
    RefersBelow types (count_of types) next.shape →
    KeepsLayout next.shape next.layout (type_with types.functions (all_types types) next.shape next.quals)
    (structures_of types) →
    CountsParts next.parts (type_with types.functions (all_types types) next.shape next.quals) →
    IsSound (with_made types next)
sound-with_made types next sound below layout parts =
    let new = with_made types next in
    let type = type_with types.functions (all_types types) next.shape next.quals in
    let len = length-append types.made (next ∷ []) in
    let entry_old : (id : ℕ) → id < count_of types → entry_at new id ≡ entry_at types id =
    λ id l. get_or_append_left types.made (next ∷ []) no_entry id l in
    let entry_new : (id : ℕ) → id ≡ count_of types → entry_at new id ≡ next =
    λ id e. get_or_push types.made next no_entry id (sym e) in
    let made : (id : TypeId) → id.0 ≡ count_of types → Adds types new id type =
    λ id e. adds-with_made types id next e in
    let kept = (made (record { 0 = count_of types }) refl).types in
    let structures : structures_of new ≡ structures_of types = same_structures types new kept sound refl in
    record {
      begins = take-append-le 13 types.made (next ∷ []) (begins_there types sound) ∙ sound.begins;
      refers = λ id h. elim (eq-or-lt_of_le {n = id} {m = count_of types} (omega (arith, len, h))) [
        | inl e ↦ subst (λ (m : Made). RefersBelow types id m.shape) (sym (entry_new id e))
            (subst (λ n. RefersBelow types n next.shape) (sym e) below)
        | inr l ↦ subst (λ (m : Made). RefersBelow types id m.shape) (sym (entry_old id l)) (sound.refers id l)
      ];
      layouts = λ id h. subst (λ (ss : List Structure).
          KeepsLayout (entry_at new id.0).shape (entry_at new id.0).layout (type_of new id) ss) (sym structures)
          (elim (eq-or-lt_of_le {n = id.0} {m = count_of types} (omega (arith, len, h))) [
            | inl e ↦ subst (λ (m : Made). KeepsLayout m.shape m.layout (type_of new id) (structures_of types))
                (sym (entry_new id.0 e))
                (subst (λ (t : CType). KeepsLayout next.shape next.layout t (structures_of types))
                (sym (made id e).stands_for) layout)
            | inr l ↦ subst (λ (m : Made). KeepsLayout m.shape m.layout (type_of new id) (structures_of types))
                (sym (entry_old id.0 l))
                (subst (λ (t : CType). KeepsLayout (entry_at types id.0).shape (entry_at types id.0).layout t
                (structures_of types))
                (sym (kept.same id l)) (sound.layouts id l))
          ]);
      parts = λ id h. elim (eq-or-lt_of_le {n = id.0} {m = count_of types} (omega (arith, len, h))) [
        | inl e ↦ subst (λ (m : Made). CountsParts m.parts (type_of new id)) (sym (entry_new id.0 e))
            (subst (λ (t : CType). CountsParts next.parts t) (sym (made id e).stands_for) parts)
        | inr l ↦ subst (λ (m : Made). CountsParts m.parts (type_of new id)) (sym (entry_old id.0 l))
            (subst (λ (t : CType). CountsParts (entry_at types id.0).parts t) (sym (kept.same id l))
            (sound.parts id l))
      ];
      members = All-weaker (HasMembersIn types) (HasMembersIn new)
          (HasMembersIn-more types new (omega (arith, len))) types.compounds sound.members;
    }
