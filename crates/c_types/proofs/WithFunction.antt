-- One more function type among the parts changes nothing of the types that are there.
use Rattle.std.proofs.Common.{◌≡◌, ℕ, zero, suc, ◌<◌, ◌≤◌, List, [], ◌∷◌, ◌++◌, length, All, map, refl, ap, sym}
use Rattle.std.proofs.Common.{subst, ◌∙◌, slice_get}
use Rattle.std.specs.Prelude.{false, Option, Some, None, Result, Ok, Err, is_ok, is_err, if◌then◌else◌, IsSomeAnd}
use Rattle.std.specs.Prelude.{IsSome}
use Rattle.std.proofs.lemmas.List.{map-append, length-map}
use Rattle.std.proofs.lemmas.List.Elements.{All-head, All-tail, All-from_get_or}
use Rattle.c_types.specs.declared.shape.Shape.{Shape}
use Rattle.c_types.specs.declared.shape.Shape.TheVariants as s
use Rattle.c_types.specs.declared.shape.Quals.{Quals}
use Rattle.c_types.specs.declared.shape.TypeId.{TypeId}
use Rattle.c_types.specs.declared.parts.Made.{Made}
use Rattle.c_types.specs.declared.parts.Signature.{Signature}
use Rattle.c_types.specs.declared.parts.CompoundType.{CompoundType}
use Rattle.c_types.specs.Types.{Types, FunctionParts, count_of}
use Rattle.c_types.specs.CType.{CType, Plain, types_from, Function, type_with, type_at, types_at, function_at}
use Rattle.c_types.specs.CType.{all_types, type_of, no_quals}
use Rattle.c_types.specs.Shapes.{RefersBelow, entry_at, no_entry}
use Rattle.c_types.specs.Functions.{with_function}
use Rattle.c_types.specs.PartCount.{function_count, part_count, most_parts}
use Rattle.c_types.specs.Structures.{typed_structure, structures_of}
use Rattle.c_types.specs.Inner.{IsSound, KeepsLayout, CountsParts, parts_of, compound_of}
use Rattle.c_types.specs.Layouts.{layout_of}
use Rattle.c_types.specs.Making.{MakesType, with_made}
use Rattle.c_types.proofs.Grows.{adds-with_made, makes}
use Rattle.c_types.proofs.Sound.{sound-with_made}

-- the parts that were there stand in their places
slice_get-front : (fs : List FunctionParts) (f : FunctionParts) (n : ℕ) → IsSome (slice_get fs n)
    → slice_get (fs ++ f ∷ []) n ≡ slice_get fs n
slice_get-front [] f n h = cc
slice_get-front (x ∷ fs) f zero h = refl
slice_get-front (x ∷ fs) f (suc n) h = slice_get-front fs f n h

-- the new parts stand in the last place
slice_get-last : (fs : List FunctionParts) (f : FunctionParts) → slice_get (fs ++ f ∷ []) (length fs) ≡ Some f
slice_get-last [] f = refl
slice_get-last (x ∷ fs) f = slice_get-last fs f

-- the function that a shape speaks of is there
abbrev HasFunction : List FunctionParts → Shape → Type 0
HasFunction fs (s.Function n) = IsSome (slice_get fs n)
HasFunction fs shape = Unit {0}

-- a shape stands for the same type
type_with-function : (fs : List FunctionParts) (f : FunctionParts) (types : List CType) (shape : Shape)
    (quals : Quals) → HasFunction fs shape → type_with (fs ++ f ∷ []) types shape quals ≡ type_with fs types shape quals
type_with-function fs f types (s.Function n) quals h =
    ap (λ o. Plain (function_at types o) quals) (slice_get-front fs f n h)
type_with-function fs f types (s.Basic basic) quals h = refl
type_with-function fs f types (s.Pointer to) quals h = refl
type_with-function fs f types (s.Array of len) quals h = refl
type_with-function fs f types (s.Compound n) quals h = refl
type_with-function fs f types (s.Enumerated n) quals h = refl

-- so do the entries
types_from-function : (fs : List FunctionParts) (f : FunctionParts) (types : List CType) (made : List Made)
    → All (λ (m : Made). HasFunction fs m.shape) made → types_from (fs ++ f ∷ []) types made ≡ types_from fs types made
unfolding types_from
types_from-function fs f types [] h = refl
types_from-function fs f types (next ∷ rest) h =
    ap (λ t. types_from (fs ++ f ∷ []) (types ++ t ∷ []) rest)
    (type_with-function fs f types next.shape next.quals
    (All-head (λ (m : Made). HasFunction fs m.shape) next rest h))
    ∙ types_from-function fs f (types ++ type_with fs types next.shape next.quals ∷ []) rest
    (All-tail (λ (m : Made). HasFunction fs m.shape) next rest h)

-- a shape that speaks of a function type speaks of one that is there
has_function : (types : Types) (id : ℕ) (shape : Shape) → RefersBelow types id shape → HasFunction types.functions shape
has_function types id (s.Function n) h = some (slice_get types.functions n) h
  where
    some : (o : Option FunctionParts)
        → IsSomeAnd o (λ (parts : FunctionParts). (parts.gives.0 < id)
        × All (λ (p : TypeId). p.0 < id) parts.parameters) → IsSome o
    some None i = absurd i
    some (Some p) i = refl
has_function types id (s.Basic basic) h = tt
has_function types id (s.Pointer to) h = tt
has_function types id (s.Array of len) h = tt
has_function types id (s.Compound n) h = tt
has_function types id (s.Enumerated n) h = tt

-- no type changes
pub all_types-with_function : (types : Types) (f : FunctionParts) → IsSound types
    → all_types (with_function types f) ≡ all_types types
all_types-with_function types f sound =
    types_from-function types.functions f [] types.made
    (All-from_get_or (λ (m : Made). HasFunction types.functions m.shape) types.made no_entry
    (λ i h. has_function types i (entry_at types i).shape (sound.refers i h)))

-- the table is sound, with parts that no type has
sound-with_function : (types : Types) (f : FunctionParts) → IsSound types → IsSound (with_function types f)
sound-with_function types f sound = record {
  begins = sound.begins;
  refers = λ id h. refers id (entry_at types id).shape (sound.refers id h);
  layouts = λ id h. subst (λ (all : List CType). KeepsLayout (entry_at types id.0).shape (entry_at types id.0).layout
      (type_at all id) (map (typed_structure all) types.compounds)) (sym (all_types-with_function types f sound))
      (sound.layouts id h);
  parts = λ id h. subst (λ (all : List CType). CountsParts (entry_at types id.0).parts (type_at all id))
      (sym (all_types-with_function types f sound)) (sound.parts id h);
  members = sound.members;
}
  where
    refers : (id : ℕ) (shape : Shape) → RefersBelow types id shape → RefersBelow (with_function types f) id shape
    refers id (s.Function n) h =
        subst (λ (o : Option FunctionParts). IsSomeAnd o (λ (parts : FunctionParts). (parts.gives.0 < id)
        × All (λ (p : TypeId). p.0 < id) parts.parameters))
        (sym (slice_get-front types.functions f n (has_function types id (s.Function n) h))) h
    refers id (s.Basic basic) h = h
    refers id (s.Pointer to) h = h
    refers id (s.Array of len) h = h
    refers id (s.Compound n) h = h
    refers id (s.Enumerated n) h = h

-- the entry of the function type whose parts come next
abbrev pub function_entry : Types → ℕ → Made
function_entry types count =
    record { shape = s.Function (length types.functions); quals = no_quals; layout = None; parts = count }

-- the table with one more function type, which has so many parts
abbrev pub with_function_type : Types → FunctionParts → ℕ → Types
with_function_type types f count = with_made (with_function types f) (function_entry types count)

abbrev pub IsBelow : ℕ → FunctionParts → Type 0
IsBelow n f = (f.gives.0 < n) × All (λ (p : TypeId). p.0 < n) f.parameters

-- the count is right, and not too large
abbrev pub Counts : Types → FunctionParts → ℕ → Type 0
Counts types f count =
    (count ≡ function_count (type_of types f.gives) (types_at (all_types types) f.parameters)) × (count ≤ most_parts)

-- the type that the entry stands for
last_function : (types : Types) (f : FunctionParts) → IsSound types →
    Plain (function_at (all_types (with_function types f))
    (slice_get (types.functions ++ f ∷ []) (length types.functions)))
    no_quals
    ≡ Plain (Function (type_of types f.gives) (types_at (all_types types) f.parameters) f.variadic) no_quals
last_function types f sound =
    ap (λ o. Plain (function_at (all_types (with_function types f)) o) no_quals) (slice_get-last types.functions f)
    ∙ ap (λ (all : List CType). Plain (function_at all (Some f)) no_quals) (all_types-with_function types f sound)

-- and with their type
pub sound-with_function_type : (types : Types) (f : FunctionParts) (count : ℕ) → IsSound types →
    IsBelow (count_of types) f → Counts types f count → IsSound (with_function_type types f count)
sound-with_function_type types f count sound below counts =
    let last = slice_get-last types.functions f in
    let type = last_function types f sound in
    sound-with_made (with_function types f) (function_entry types count) (sound-with_function types f sound)
    (subst (λ (o : Option FunctionParts). IsSomeAnd o (IsBelow (count_of types))) (sym last) below)
    (record {
      layout = ap (λ (t : CType). layout_of t (structures_of (with_function types f))) (sym type);
      own = tt;
    })
    (record { count = counts.0 ∙ ap part_count (sym type); bound = counts.1 })

-- the table has made a function type
pub makes-with_function_type : (types : Types) (f : FunctionParts) (count : ℕ) (id : TypeId) → IsSound types →
    id.0 ≡ count_of types →
    MakesType types (with_function_type types f count) id
    (Plain (Function (type_of types f.gives) (types_at (all_types types) f.parameters) f.variadic) no_quals)
makes-with_function_type types f count id sound place =
    let same = all_types-with_function types f sound in
    let made = adds-with_made (with_function types f) id (function_entry types count) place in
    makes types (with_function_type types f count) id _ sound
    (record {
      is_there = made.is_there;
      stands_for = made.stands_for ∙ last_function types f sound;
      types = record {
        count = made.types.count;
        same = λ q below. made.types.same q below ∙ ap (λ (all : List CType). type_at all q) same;
      };
    })
    refl refl

-- the fields of a table stand for the table with one more function type
pub fields-with_function_type : (made made2 : List Made) (fs fs2 : List Signature) (cs : List CompoundType)
    (n count : ℕ) (f : Signature) →
    made2 ≡ made ++ (record { shape = s.Function (length fs); quals = no_quals; layout = None; parts = count }) ∷ [] →
    fs2 ≡ fs ++ f ∷ [] →
    record { made = made2; functions = map parts_of fs2; compounds = map compound_of cs; enumerations = n }
    ≡ with_function_type
    (record { made = made; functions = map parts_of fs; compounds = map compound_of cs; enumerations = n })
    (parts_of f) count
fields-with_function_type made made2 fs fs2 cs n count f m p =
    let functions : map parts_of fs2 ≡ map parts_of fs ++ parts_of f ∷ [] =
    ap (map parts_of) p ∙ map-append parts_of fs (f ∷ []) in
    let number : length (map parts_of fs) ≡ length fs = length-map fs parts_of in
    cc

-- what a push that did not fail has left
pub pushed : {E X : Type 0} (r : Result (Unit {0}) E) (xs ys zs : List X) → is_err r ≡ false →
    xs ≡ (if is_ok r then ys else zs) → xs ≡ ys
pushed (Ok u) xs ys zs h e = e
pushed (Err e) xs ys zs h f = cc

-- the same fields, by what the two pushes have left
pub pushed-function : {E : Type 0} (made made2 : List Made) (fs fs2 : List Signature) (cs : List CompoundType)
    (n count number : ℕ) (f : Signature) (entry : Made) (r : Result (Unit {0}) E) → number ≡ length fs →
    entry ≡ record { shape = s.Function number; quals = no_quals; layout = None; parts = count } →
    made2 ≡ made ++ entry ∷ [] → is_err r ≡ false → fs2 ≡ (if is_ok r then fs ++ f ∷ [] else fs) →
    record { made = made2; functions = map parts_of fs2; compounds = map compound_of cs; enumerations = n }
    ≡ with_function_type
    (record { made = made; functions = map parts_of fs; compounds = map compound_of cs; enumerations = n })
    (parts_of f) count
pushed-function made made2 fs fs2 cs n count number f entry r place plain m no_fault p =
    let named : ℕ → Made = λ k. record { shape = s.Function k; quals = no_quals; layout = None; parts = count } in
    fields-with_function_type made made2 fs fs2 cs n count f
    (m ∙ ap (λ (e : Made). made ++ e ∷ []) (plain ∙ ap named place)) (pushed r fs2 (fs ++ f ∷ []) fs no_fault p)
