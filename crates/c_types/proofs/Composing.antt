-- What the steps towards a composite type make of a table.
use Rattle.std.proofs.Common.{◌≡◌, ℕ, ◌+◌, ◌<◌, ◌≤◌, List, [], ◌∷◌, ◌++◌, length, take, map, All, refl, ap, sym}
use Rattle.std.proofs.Common.{subst, ◌∙◌, arith, slice_index_or, append-nil, append_assoc}
use Rattle.std.specs.Prelude.{Bool, true, false, Option}
use Rattle.std.proofs.lemmas.List.{take-map, take_all}
use Rattle.std.proofs.lemmas.List.Elements.{All-append, All-cons, All-nil, All-get_or, All-weaker, All-head, All-tail}
use Rattle.std.proofs.Math.Seq.{take-append_seam}
use Rattle.c_types.specs.declared.shape.Shape.{Shape}
use Rattle.c_types.specs.declared.shape.Shape.TheVariants as s
use Rattle.c_types.specs.declared.shape.Quals.{Quals}
use Rattle.c_types.specs.declared.shape.TypeId.{TypeId}
use Rattle.c_types.specs.declared.parts.Made.{Made}
use Rattle.c_types.specs.declared.parts.Signature.{Signature}
use Rattle.c_types.specs.declared.parts.CompoundType.{CompoundType}
use Rattle.c_types.specs.declared.layout.Layout.{Layout}
use Rattle.c_types.specs.Types.{Types, FunctionParts, count_of}
use Rattle.c_types.specs.CType.{CType, CTypes, Plain, Array, Pointer, Function, Nil, Cons, type_with, quals_of}
use Rattle.c_types.specs.CType.{types_at, type_of, all_types, no_quals}
use Rattle.c_types.specs.Shapes.{ShowsType, entry_at}
use Rattle.c_types.specs.Functions.{IsFunction, gives_of, parameters_of, variadic_of}
use Rattle.c_types.specs.Structures.{structures_of}
use Rattle.c_types.specs.Making.{KeepsTypes, MakesType, at_made}
use Rattle.c_types.specs.Qualified.{with_quals, without_quals}
use Rattle.c_types.specs.Compatible.{agree, bare_agree, all_agree, lengths_agree}
use Rattle.c_types.specs.Composite.{composite_of, bare_composite, all_composites, AddsTypes, MakesTypes}
use Rattle.c_types.specs.Inner.{KeepsLayout, parts_of, compound_of}
use Rattle.c_types.proofs.Kept.{types_then, grows_own, grows_then}
use Rattle.c_types.proofs.Composites.{left_true, right_true, agree-loose, next_composite}

-- nothing is added
pub adds-none : (types : Types) → AddsTypes types types
adds-none types = record {
  more = [];
  functions = [];
  is = ap (at_made types) (sym (append-nil types.made))
      ∙ ap (λ (f : List FunctionParts). record {
        made = types.made ++ [];
        functions = f;
        compounds = types.compounds;
        enumerations = types.enumerations;
      }) (sym (append-nil types.functions));
}

-- what is added in two steps is added
pub adds-then : (old mid new : Types) → AddsTypes old mid → AddsTypes mid new → AddsTypes old new
adds-then old mid new a b =
    let made : mid.made ≡ old.made ++ a.more = ap (λ (t : Types). t.made) a.is in
    let functions : mid.functions ≡ old.functions ++ a.functions = ap (λ (t : Types). t.functions) a.is in
    let compounds : mid.compounds ≡ old.compounds = ap (λ (t : Types). t.compounds) a.is in
    let enumerations : mid.enumerations ≡ old.enumerations = ap (λ (t : Types). t.enumerations) a.is in
    let all_made : mid.made ++ b.more ≡ old.made ++ (a.more ++ b.more) =
    ap (λ (m : List Made). m ++ b.more) made ∙ append_assoc old.made a.more b.more in
    let all_functions : mid.functions ++ b.functions ≡ old.functions ++ (a.functions ++ b.functions) =
    ap (λ (f : List FunctionParts). f ++ b.functions) functions ∙ append_assoc old.functions a.functions b.functions in
    record {
      more = a.more ++ b.more;
      functions = a.functions ++ b.functions;
      is = b.is
          ∙ ap (λ (m : List Made). record {
            made = m;
            functions = mid.functions ++ b.functions;
            compounds = mid.compounds;
            enumerations = mid.enumerations;
          }) all_made
          ∙ ap (λ (f : List FunctionParts). record {
            made = old.made ++ (a.more ++ b.more);
            functions = f;
            compounds = mid.compounds;
            enumerations = mid.enumerations;
          }) all_functions
          ∙ ap (λ c. record {
            made = old.made ++ (a.more ++ b.more);
            functions = old.functions ++ (a.functions ++ b.functions);
            compounds = c;
            enumerations = mid.enumerations;
          }) compounds
          ∙ ap (λ k. record {
            made = old.made ++ (a.more ++ b.more);
            functions = old.functions ++ (a.functions ++ b.functions);
            compounds = old.compounds;
            enumerations = k;
          }) enumerations;
    }

-- the table without what was added is what it was
pub cut : (made made2 : List Made) (fs fs2 : List Signature) (cs : List CompoundType) (e m n : ℕ) (old : Types) →
    made2 ≡ take m made → fs2 ≡ take n fs → m ≡ length old.made → n ≡ length old.functions →
    AddsTypes old (record {
      made = made;
      functions = map parts_of fs;
      compounds = map compound_of cs;
      enumerations = e;
    }) →
    record { made = made2; functions = map parts_of fs2; compounds = map compound_of cs; enumerations = e } ≡ old
cut made made2 fs fs2 cs e m n old cut_made cut_functions count number a =
    let whole : made ≡ old.made ++ a.more = ap (λ (t : Types). t.made) a.is in
    let all : map parts_of fs ≡ old.functions ++ a.functions = ap (λ (t : Types). t.functions) a.is in
    let compounds : map compound_of cs ≡ old.compounds = ap (λ (t : Types). t.compounds) a.is in
    let enumerations : e ≡ old.enumerations = ap (λ (t : Types). t.enumerations) a.is in
    let first : made2 ≡ old.made =
    cut_made ∙ ap (λ k. take k made) count ∙ ap (take (length old.made)) whole
    ∙ take-append_seam old.made a.more in
    let functions : map parts_of fs2 ≡ old.functions =
    ap (map parts_of) cut_functions ∙ sym (take-map parts_of n fs) ∙ ap (λ k. take k (map parts_of fs)) number
    ∙ ap (take (length old.functions)) all ∙ take-append_seam old.functions a.functions in
    ap (λ (x : List Made). record {
      made = x;
      functions = map parts_of fs2;
      compounds = map compound_of cs;
      enumerations = e;
    }) first
    ∙ ap (λ (x : List FunctionParts). record {
      made = old.made;
      functions = x;
      compounds = map compound_of cs;
      enumerations = e;
    }) functions
    ∙ ap (λ c. record { made = old.made; functions = old.functions; compounds = c; enumerations = e }) compounds
    ∙ ap (λ k. record { made = old.made; functions = old.functions; compounds = old.compounds; enumerations = k })
    enumerations

-- types that were there are the same in a table that has more
types_at-keeps : (old new : Types) (ids : List TypeId) → KeepsTypes old new
    → All (λ (id : TypeId). id.0 < count_of old) ids → types_at (all_types new) ids ≡ types_at (all_types old) ids
types_at-keeps old new [] k h = refl
types_at-keeps old new (id ∷ ids) k h =
    ap (λ t. Cons t (types_at (all_types new) ids))
    (k.same id (All-head (λ (id : TypeId). id.0 < count_of old) id ids h))
    ∙ ap (Cons (type_of old id))
    (types_at-keeps old new ids k (All-tail (λ (id : TypeId). id.0 < count_of old) id ids h))

-- types agree where those that they are agree
pub agree_as : (x x2 y y2 : CType) → x ≡ x2 → y ≡ y2 → agree x2 y2 false ≡ true → agree x y false ≡ true
agree_as x x2 y y2 e f h = ap (λ z. agree z y false) e ∙ ap (λ z. agree x2 z false) f ∙ h

-- what pointers point to is compatible
pub pointers_agree : (types : Types) (a b : TypeId) (shape shape2 : Shape) (to to2 : TypeId)
    → ShowsType types a shape → ShowsType types b shape2 → shape ≡ s.Pointer to → shape2 ≡ s.Pointer to2
    → agree (type_of types a) (type_of types b) false ≡ true → agree (type_of types to) (type_of types to2) false ≡ true
unfolding agree bare_agree
pointers_agree types a b shape shape2 to to2 shows shows2 is is2 h =
    inner (type_of types a) (type_of types b) (shown a shape to shows is) (shown b shape2 to2 shows2 is2) h
  where
    shown : (id : TypeId) (x : Shape) (t : TypeId) → ShowsType types id x → x ≡ s.Pointer t → (q : Quals)
        × (type_of types id ≡ Plain (Pointer (type_of types t)) q)
    shown id x t sh e = (
      (entry_at types id.0).quals,
      sh.stands_for
          ∙ ap (λ (y : Shape). type_with types.functions (all_types types) y (entry_at types id.0).quals) e,
    )

    inner : (x y : CType) → (q : Quals) × (x ≡ Plain (Pointer (type_of types to)) q) → (q : Quals)
        × (y ≡ Plain (Pointer (type_of types to2)) q) → agree x y false ≡ true
        → agree (type_of types to) (type_of types to2) false ≡ true
    inner x y p p2 g =
        agree-loose (type_of types to) (type_of types to2)
        (sym (ap (λ z. agree z y false) p.1 ∙ ap (λ z. agree (Plain (Pointer (type_of types to)) p.0) z false) p2.1)
        ∙ g)

-- so are the parts of functions
pub functions_agree : (a b : CType) → IsFunction a → IsFunction b → agree a b false ≡ true
    → (agree (gives_of a) (gives_of b) false ≡ true) × (all_agree (parameters_of a) (parameters_of b) ≡ true)
unfolding agree bare_agree
functions_agree (Plain (Function g ps v) q) (Plain (Function g2 qs w) r) i j h =
    (agree-loose g g2 (left_true _ _ (left_true _ _ h)), right_true _ _ h)
functions_agree (Plain (Function g ps v) q) b i j h = absurd j
functions_agree a b i j h = absurd i

-- the composite of functions, from those of their parts
composite_functions : (a b : CType) → IsFunction a → IsFunction b
    → Plain (Function (composite_of (gives_of a) (gives_of b)) (all_composites (parameters_of a) (parameters_of b))
    (variadic_of a)) (quals_of a) ≡ composite_of a b
unfolding composite_of bare_composite
composite_functions (Plain (Function g ps v) q) (Plain (Function g2 qs w) r) i j = refl
composite_functions (Plain (Function g ps v) q) b i j = absurd j
composite_functions a b i j = absurd i

-- the steps of the composite of function types: the parameters, the result, the function and its qualifiers
pub composes_function : (old m1 m2 m3 m4 : Types) (a b : CType) (ids ids2 : List TypeId) (given other gives bare id
    : TypeId) (v : Bool) (q : Quals) → IsFunction a → IsFunction b → given.0 < count_of old → other.0 < count_of old
    → type_of old given ≡ gives_of a → type_of old other ≡ gives_of b → v ≡ variadic_of a → q ≡ quals_of a
    → MakesTypes old m1 ids (all_composites (parameters_of a) (parameters_of b))
    → MakesType m1 m2 gives (composite_of (type_of m1 given) (type_of m1 other))
    → MakesType m2 m3 bare (Plain (Function (type_of m2 gives) (types_at (all_types m2) ids2) v) no_quals)
    → ids2 ≡ ids → MakesType m3 m4 id (with_quals q (type_of m3 bare)) → MakesType old m4 id (composite_of a b)
composes_function old m1 m2 m3 m4 a b ids ids2 given other gives bare id v q i j p p2 g g2 variadic quals made1
    made2 made3 same made4 =
    let result : type_of m2 gives ≡ composite_of (gives_of a) (gives_of b) =
    made2.stands_for ∙ ap (λ x. composite_of x (type_of m1 other)) (made1.grows.types.same given p ∙ g)
    ∙ ap (composite_of (gives_of a)) (made1.grows.types.same other p2 ∙ g2) in
    let parameters : types_at (all_types m2) ids2 ≡ all_composites (parameters_of a) (parameters_of b) =
    ap (types_at (all_types m2)) same ∙ types_at-keeps m1 m2 ids made2.grows.types made1.are_there ∙ made1.stand_for in
    record {
      is_there = made4.is_there;
      stands_for = made4.stands_for
          ∙ ap (with_quals q) made3.stands_for
          ∙ ap (λ x. Plain (Function x (types_at (all_types m2) ids2) v) q) result
          ∙ ap (λ x. Plain (Function (composite_of (gives_of a) (gives_of b)) x v) q) parameters
          ∙ ap (λ x. Plain
          (Function (composite_of (gives_of a) (gives_of b)) (all_composites (parameters_of a) (parameters_of b)) x)
          q) variadic
          ∙ ap (Plain (Function (composite_of (gives_of a) (gives_of b))
          (all_composites (parameters_of a) (parameters_of b)) (variadic_of a))) quals
          ∙ composite_functions a b i j;
      grows = grows_then old m1 m4 made1.grows
          (grows_then m1 m2 m4 made2.grows (grows_then m2 m3 m4 made3.grows made4.grows));
      compounds = made4.compounds ∙ made3.compounds ∙ made2.compounds ∙ made1.compounds;
      structures = made4.structures ∙ made3.structures ∙ made2.structures ∙ made1.structures;
      enumerations = made4.enumerations ∙ made3.enumerations ∙ made2.enumerations ∙ made1.enumerations;
    }

-- no parameters yet
pub makes-none : (types : Types) (ids : List TypeId) → ids ≡ [] → MakesTypes types types ids (all_composites Nil Nil)
unfolding all_composites
makes-none types ids none =
    subst (λ (l : List TypeId). MakesTypes types types l (all_composites Nil Nil)) (sym none)
    (record {
      are_there = All-nil (λ (k : TypeId). k.0 < count_of types);
      stand_for = refl;
      grows = grows_own types;
      compounds = refl;
      structures = refl;
      enumerations = refl;
    })

-- one more parameter of a function: its composite, and that without qualifiers
pub makes-next : (old mid mid2 new : Types) (made made2 xs ys : List TypeId) (i : ℕ) (x y id bare : TypeId) →
    i < length xs → i < length ys → x ≡ slice_index_or xs i x → y ≡ slice_index_or ys i y →
    x.0 < count_of old → y.0 < count_of old →
    MakesTypes old mid made
    (all_composites (types_at (all_types old) (take i xs)) (types_at (all_types old) (take i ys))) →
    MakesType mid mid2 id (composite_of (type_of mid x) (type_of mid y)) →
    MakesType mid2 new bare (without_quals (type_of mid2 id)) → made2 ≡ made ++ bare ∷ [] →
    MakesTypes old new made2
    (all_composites (types_at (all_types old) (take (i + 1) xs)) (types_at (all_types old) (take (i + 1) ys)))
makes-next old mid mid2 new made made2 xs ys i x y id bare p q is is2 below below2 before next last grows =
    let kept = types_then mid mid2 new next.grows.types last.grows.types in
    let there : All (λ (k : TypeId). k.0 < count_of new) made =
    All-weaker (λ (k : TypeId). k.0 < count_of mid) (λ (k : TypeId). k.0 < count_of new)
    (λ k l. omega (arith, l, kept.count)) made before.are_there in
    let composite : type_of mid2 id
    ≡ composite_of (type_of old (slice_index_or xs i x)) (type_of old (slice_index_or ys i y)) =
    next.stands_for
    ∙ ap (λ t. composite_of t (type_of mid y)) (before.grows.types.same x below ∙ ap (type_of old) is)
    ∙ ap (composite_of (type_of old (slice_index_or xs i x)))
    (before.grows.types.same y below2 ∙ ap (type_of old) is2) in
    let result : MakesTypes old new (made ++ bare ∷ [])
    (all_composites (types_at (all_types old) (take (i + 1) xs)) (types_at (all_types old) (take (i + 1) ys))) =
    record {
      are_there = All-append (λ (k : TypeId). k.0 < count_of new) made (bare ∷ []) there
          (All-cons (λ (k : TypeId). k.0 < count_of new) bare [] last.is_there
          (All-nil (λ (k : TypeId). k.0 < count_of new)));
      stand_for = next_composite (all_types old) (all_types new) made xs ys i x y bare p q
          (types_at-keeps mid new made kept before.are_there ∙ before.stand_for)
          (last.stands_for ∙ ap without_quals composite);
      grows = grows_then old mid new before.grows (grows_then mid mid2 new next.grows last.grows);
      compounds = last.compounds ∙ next.compounds ∙ before.compounds;
      structures = last.structures ∙ next.structures ∙ before.structures;
      enumerations = last.enumerations ∙ next.enumerations ∙ before.enumerations;
    } in
    subst (λ (ids : List TypeId). MakesTypes old new ids
    (all_composites (types_at (all_types old) (take (i + 1) xs)) (types_at (all_types old) (take (i + 1) ys))))
    (sym grows) result

-- all parameters are made
pub makes-all : (old new : Types) (made xs xs2 ys ys2 : List TypeId) (i : ℕ) (ps qs : CTypes)
    → MakesTypes old new made
    (all_composites (types_at (all_types old) (take i xs)) (types_at (all_types old) (take i ys))) → length xs ≤ i
    → length ys ≤ i → xs ≡ xs2 → ys ≡ ys2 → types_at (all_types old) xs2 ≡ ps → types_at (all_types old) ys2 ≡ qs
    → MakesTypes old new made (all_composites ps qs)
makes-all old new made xs xs2 ys ys2 i ps qs m p q e e2 f f2 = record {
  are_there = m.are_there;
  stand_for = m.stand_for
      ∙ ap (λ (l : List TypeId). all_composites (types_at (all_types old) l) (types_at (all_types old) (take i ys)))
      (take_all i xs p ∙ e)
      ∙ ap (λ (l : List TypeId). all_composites (types_at (all_types old) xs2) (types_at (all_types old) l))
      (take_all i ys q ∙ e2)
      ∙ ap (λ (x : CTypes). all_composites x (types_at (all_types old) ys2)) f
      ∙ ap (all_composites ps) f2;
  grows = m.grows;
  compounds = m.compounds;
  structures = m.structures;
  enumerations = m.enumerations;
}

-- lists of parameters that stand for compatible ones
pub lists_agree : (types : Types) (xs xs2 ys ys2 : List TypeId) (ps qs : CTypes) → xs ≡ xs2 → ys ≡ ys2
    → types_at (all_types types) xs2 ≡ ps → types_at (all_types types) ys2 ≡ qs → all_agree ps qs ≡ true
    → all_agree (types_at (all_types types) xs) (types_at (all_types types) ys) ≡ true
lists_agree types xs xs2 ys ys2 ps qs e e2 f f2 h =
    ap (λ (x : CTypes). all_agree x (types_at (all_types types) ys)) (ap (types_at (all_types types)) e ∙ f)
    ∙ ap (all_agree ps) (ap (types_at (all_types types)) e2 ∙ f2)
    ∙ h

-- a parameter is below what all are below
pub below_at : (n : ℕ) (xs xs2 : List TypeId) (i : ℕ) (x : TypeId) → xs ≡ xs2 → All (λ (p : TypeId). p.0 < n) xs2
    → i < length xs → x ≡ slice_index_or xs i x → x.0 < n
below_at n xs xs2 i x e all p is =
    subst (λ (k : TypeId). k.0 < n) (sym is)
    (All-get_or (λ (p : TypeId). p.0 < n) xs i x p (subst (All (λ (p : TypeId). p.0 < n)) (sym e) all))

-- an array of this shape
pub array_shown : (types : Types) (id of : TypeId) (len : Option ℕ) (shape : Shape) → ShowsType types id shape
    → shape ≡ s.Array of len → type_of types id ≡ Array (type_of types of) len
array_shown types id of len shape shows is =
    shows.stands_for ∙ ap (λ (y : Shape). type_with types.functions (all_types types) y (entry_at types id.0).quals) is

-- the elements of compatible arrays are compatible
pub elements_agree : (x y t u : CType) (m n : Option ℕ) → x ≡ Array t m → y ≡ Array u n → agree x y false ≡ true
    → agree t u false ≡ true
unfolding agree
elements_agree x y t u m n e f h =
    right_true (lengths_agree m n) _ (sym (ap (λ z. agree z y false) e ∙ ap (λ z. agree (Array t m) z false) f) ∙ h)

-- what is kept for an array is kept for the tree of one
pub kept_array : (types : Types) (id of : TypeId) (len : Option ℕ) (shape : Shape) (kept : Option Layout)
    → KeepsLayout shape kept (type_of types id) (structures_of types) → shape ≡ s.Array of len
    → type_of types id ≡ Array (type_of types of) len
    → KeepsLayout (s.Array of len) kept (Array (type_of types of) len) (structures_of types)
kept_array types id of len shape kept k is type =
    subst (λ (x : CType). KeepsLayout (s.Array of len) kept x (structures_of types)) type
    (subst (λ (x : Shape). KeepsLayout x kept (type_of types id) (structures_of types)) is k)
