-- A new table is sound.
use Rattle.std.proofs.Common.{◌≡◌, ℕ, ◌<◌, zero, suc, List, [], map, refl, ap, sym, subst, ◌∙◌, arith, slice_index_or}
use Rattle.std.proofs.lemmas.List.{get_or-take}
use Rattle.std.proofs.lemmas.List.Elements.{All-nil}
use Rattle.c_types.specs.declared.basic.Basic.{Basic}
use Rattle.c_types.specs.declared.basic.Basic.TheVariants as b
use Rattle.c_types.specs.declared.parts.Made.{Made}
use Rattle.c_types.specs.declared.parts.Signature.{Signature}
use Rattle.c_types.specs.declared.parts.CompoundType.{CompoundType}
use Rattle.c_types.specs.declared.shape.TypeId.{TypeId}
use Rattle.c_types.specs.Types.{Types, count_of}
use Rattle.c_types.specs.CType.{CType, number_of, Plain, BasicType, type_of, type_with, all_types, no_quals}
use Rattle.c_types.specs.Layouts.{basic_layout, layout_of}
use Rattle.c_types.specs.Shapes.{RefersBelow, no_entry, entry_at}
use Rattle.c_types.specs.Inner.{IsSound, KeepsLayout, CountsParts, HasMembersIn, basics, entry_of, parts_of}
use Rattle.c_types.specs.Inner.{compound_of}
use Rattle.c_types.proofs.Showing.{shows}
use Rattle.c_types.proofs.Sound.{begins_there}

-- each of the first types is a basic one
pub basic_at : (id : ℕ) → id < 13 → (basic : Basic) × (slice_index_or basics id no_entry ≡ entry_of basic)
basic_at zero h = (b.Void, refl)
basic_at (suc zero) h = (b.Bool, refl)
basic_at (suc (suc zero)) h = (b.Char, refl)
basic_at (suc (suc (suc zero))) h = (b.SChar, refl)
basic_at (suc (suc (suc (suc zero)))) h = (b.UChar, refl)
basic_at (suc (suc (suc (suc (suc zero))))) h = (b.Short, refl)
basic_at (suc (suc (suc (suc (suc (suc zero)))))) h = (b.UShort, refl)
basic_at (suc (suc (suc (suc (suc (suc (suc zero))))))) h = (b.Int, refl)
basic_at (suc (suc (suc (suc (suc (suc (suc (suc zero)))))))) h = (b.UInt, refl)
basic_at (suc (suc (suc (suc (suc (suc (suc (suc (suc zero))))))))) h = (b.Long, refl)
basic_at (suc (suc (suc (suc (suc (suc (suc (suc (suc (suc zero)))))))))) h = (b.ULong, refl)
basic_at (suc (suc (suc (suc (suc (suc (suc (suc (suc (suc (suc zero))))))))))) h = (b.LongLong, refl)
basic_at (suc (suc (suc (suc (suc (suc (suc (suc (suc (suc (suc (suc zero)))))))))))) h = (b.ULongLong, refl)
basic_at (suc (suc (suc (suc (suc (suc (suc (suc (suc (suc (suc (suc (suc n))))))))))))) h = absurd (omega arith)

abbrev pub fresh : Types
fresh = record { made = basics; functions = []; compounds = []; enumerations = 0 }

-- the fields of a new table stand for it
pub fresh_is : (made : List Made) (functions : List Signature) (compounds : List CompoundType) → made ≡ basics →
    functions ≡ [] → compounds ≡ [] →
    record {
      made = made;
      functions = map parts_of functions;
      compounds = map compound_of compounds;
      enumerations = 0;
    } ≡ fresh
fresh_is made functions compounds m f c = cc

-- what is always true of a table is true of a new one
pub sound-fresh : IsSound fresh
sound-fresh =
    let refers : (id : ℕ) → id < 13 → RefersBelow fresh id (entry_at fresh id).shape =
    λ id h. let e = basic_at id h in subst (λ (m : Made). RefersBelow fresh id m.shape) (sym e.1) tt in
    record {
      begins = refl;
      refers = refers;
      layouts = λ id h.
          let e = basic_at id.0 h in
          let shown = shows fresh id h (refers id.0 h) in
          layout id e.0 e.1 shown.stands_for;
      parts = λ id h.
          let e = basic_at id.0 h in
          let shown = shows fresh id h (refers id.0 h) in
          parts id e.0 e.1 shown.stands_for;
      members = All-nil (HasMembersIn fresh);
    }
  where
    layout : (id : TypeId) (basic : Basic) → entry_at fresh id.0 ≡ entry_of basic
        → type_of fresh id ≡ type_with [] (all_types fresh) (entry_at fresh id.0).shape (entry_at fresh id.0).quals
        → KeepsLayout (entry_at fresh id.0).shape (entry_at fresh id.0).layout (type_of fresh id) []
    layout id basic e stands =
        let type : type_of fresh id ≡ Plain (BasicType basic) no_quals =
        stands ∙ ap (λ (m : Made). type_with [] (all_types fresh) m.shape m.quals) e in
        subst (λ (m : Made). KeepsLayout m.shape m.layout (type_of fresh id) []) (sym e)
        (record { layout = subst (λ (t : CType). basic_layout basic ≡ layout_of t []) (sym type) refl; own = tt })

    parts : (id : TypeId) (basic : Basic) → entry_at fresh id.0 ≡ entry_of basic →
        type_of fresh id ≡ type_with [] (all_types fresh) (entry_at fresh id.0).shape (entry_at fresh id.0).quals →
        CountsParts (entry_at fresh id.0).parts (type_of fresh id)
    parts id basic e stands =
        let type : type_of fresh id ≡ Plain (BasicType basic) no_quals =
        stands ∙ ap (λ (m : Made). type_with [] (all_types fresh) m.shape m.quals) e in
        subst (λ (m : Made). CountsParts m.parts (type_of fresh id)) (sym e)
        (subst (λ (t : CType). CountsParts 1 t) (sym type) (record { count = refl; bound = omega arith }))

-- a basic type has one of the first thirteen places
place_below : (basic : Basic) → number_of basic < 13
place_below basic = grind arith

-- each basic type stands in its place
pub first_entry : (basic : Basic) → slice_index_or basics (number_of basic) no_entry ≡ entry_of basic
first_entry b.Void = refl
first_entry b.Bool = refl
first_entry b.Char = refl
first_entry b.SChar = refl
first_entry b.UChar = refl
first_entry b.Short = refl
first_entry b.UShort = refl
first_entry b.Int = refl
first_entry b.UInt = refl
first_entry b.Long = refl
first_entry b.ULong = refl
first_entry b.LongLong = refl
first_entry b.ULongLong = refl

-- each table has the basic types in the first places
pub basic_there : (types : Types) (basic : Basic) (id : TypeId) → IsSound types → id.0 ≡ number_of basic
    → (id.0 < count_of types) × (type_of types id ≡ Plain (BasicType basic) no_quals)
basic_there types basic id sound place =
    let small : id.0 < 13 = omega (arith, place, place_below basic) in
    let below : id.0 < count_of types = omega (arith, begins_there types sound, small) in
    let entry : entry_at types id.0 ≡ entry_of basic =
    sym (get_or-take 13 types.made id.0 no_entry small)
    ∙ ap (λ (l : List Made). slice_index_or l id.0 no_entry) sound.begins
    ∙ ap (λ n. slice_index_or basics n no_entry) place ∙ first_entry basic in
    let shown = shows types id below (sound.refers id.0 below) in
    (below, shown.stands_for ∙ ap (λ (m : Made). type_with types.functions (all_types types) m.shape m.quals) entry)
