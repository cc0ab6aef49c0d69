-- What an id stands for, from what the table keeps for it.
use Rattle.std.proofs.Common.{◌≡◌, ◌+◌, ◌<◌, List, [], ◌∷◌, ◌++◌, length, take, drop, All, refl, ap, sym, subst, ◌∙◌}
use Rattle.std.proofs.Common.{arith, append_assoc, append-nil, slice_get}
use Rattle.std.specs.Prelude.{Option, Some, None, IsSomeAnd}
use Rattle.std.proofs.lemmas.List.{get_or_append_left, get_or_at, drop_more, take-append-drop, length-take-le}
use Rattle.std.proofs.lemmas.List.Elements.{All-head, All-tail}
use Rattle.c_types.specs.declared.shape.Shape.{Shape}
use Rattle.c_types.specs.declared.shape.Shape.TheVariants as s
use Rattle.c_types.specs.declared.shape.Quals.{Quals}
use Rattle.c_types.specs.declared.shape.TypeId.{TypeId}
use Rattle.c_types.specs.declared.parts.Made.{Made}
use Rattle.c_types.specs.Types.{Types, FunctionParts, count_of}
use Rattle.c_types.specs.CType.{CType, Plain, Array, Pointer, types_from, type_with, type_at, types_at, function_at}
use Rattle.c_types.specs.CType.{all_types, void}
use Rattle.c_types.specs.Shapes.{RefersBelow, ShowsType, entry_at, no_entry}
use Rattle.c_types.proofs.Grows.{length-types_from}

-- types that are made in two steps
pub types_from-append : (functions : List FunctionParts) (types : List CType) (a b : List Made)
    → types_from functions types (a ++ b) ≡ types_from functions (types_from functions types a) b
unfolding types_from
types_from-append functions types [] b = refl
types_from-append functions types (next ∷ rest) b =
    types_from-append functions (types ++ type_with functions types next.shape next.quals ∷ []) rest b

-- the types that were there stand in front
pub types_from-front : (functions : List FunctionParts) (types : List CType) (made : List Made)
    → (more : List CType) × (types_from functions types made ≡ types ++ more)
unfolding types_from
types_from-front functions types [] = ([], sym (append-nil types))
types_from-front functions types (next ∷ rest) =
    let w = type_with functions types next.shape next.quals in
    let more = types_from-front functions (types ++ w ∷ []) rest in
    (w ∷ more.0, more.1 ∙ append_assoc types (w ∷ []) more.0)

-- a list of types is the same, whatever types come later
types_at-front : (types more : List CType) (ids : List TypeId) → All (λ (p : TypeId). p.0 < length types) ids
    → types_at (types ++ more) ids ≡ types_at types ids
types_at-front types more [] h = refl
types_at-front types more (id ∷ ids) h =
    let first : type_at (types ++ more) id ≡ type_at types id =
    get_or_append_left types more void id.0 (All-head (λ (p : TypeId). p.0 < length types) id ids h) in
    let rest = types_at-front types more ids (All-tail (λ (p : TypeId). p.0 < length types) id ids h) in
    cc

-- a shape stands for the same, whatever types come later
type_with-front : (table : Types) (types more : List CType) (shape : Shape) (quals : Quals)
    → RefersBelow table (length types) shape → type_with table.functions (types ++ more) shape quals
    ≡ type_with table.functions types shape quals
type_with-front table types more (s.Basic basic) quals h = refl
type_with-front table types more (s.Pointer to) quals h =
    ap (λ t. Plain (Pointer t) quals) (get_or_append_left types more void to.0 h)
type_with-front table types more (s.Array of len) quals h =
    ap (λ t. Array t len) (get_or_append_left types more void of.0 h)
type_with-front table types more (s.Function number) quals h =
    ap (λ f. Plain f quals) (parts (slice_get table.functions number) h)
  where
    parts : (o : Option FunctionParts)
        → IsSomeAnd o (λ (p : FunctionParts). (p.gives.0 < length types)
        × All (λ (q : TypeId). q.0 < length types) p.parameters) → function_at (types ++ more) o ≡ function_at types o
    parts None i = absurd i
    parts (Some p) i =
        let gives : type_at (types ++ more) p.gives ≡ type_at types p.gives =
        get_or_append_left types more void p.gives.0 i.0 in
        let rest = types_at-front types more p.parameters i.1 in
        cc
type_with-front table types more (s.Compound number) quals h = refl
type_with-front table types more (s.Enumerated number) quals h = refl

-- the first entry makes the first type
types_from-next : (f : List FunctionParts) (first : List CType) (e : Made) (after : List Made)
    → types_from f first (e ∷ after) ≡ types_from f (first ++ type_with f first e.shape e.quals ∷ []) after
unfolding types_from
types_from-next f first e after = refl

-- an id stands for what its entry says
pub shows : (table : Types) (id : TypeId) → id.0 < count_of table
    → RefersBelow table id.0 (entry_at table id.0).shape → ShowsType table id (entry_at table id.0).shape
shows table id below refers =
    let f = table.functions in
    let e = entry_at table id.0 in
    let before = take id.0 table.made in
    let after = drop (id.0 + 1) table.made in
    let split : table.made ≡ before ++ e ∷ after =
    sym (take-append-drop id.0 table.made) ∙ ap (λ r. before ++ r) (drop_more table.made id.0 no_entry below) in
    let first = types_from f [] before in
    let own = type_with f first e.shape e.quals in
    let rest = types_from-front f (first ++ own ∷ []) after in
    let len : length first ≡ id.0 =
    omega (arith, length-types_from f [] before, length-take-le id.0 table.made (omega arith)) in
    let all : all_types table ≡ first ++ own ∷ rest.0 =
    ap (types_from f []) split ∙ types_from-append f [] before (e ∷ after) ∙ types_from-next f first e after
    ∙ rest.1 ∙ append_assoc first (own ∷ []) rest.0 in
    let same = type_with-front table first (own ∷ rest.0) e.shape e.quals
    (subst (λ n. RefersBelow table n e.shape) (sym len) refers) in
    record {
      stands_for = ap (λ ts. type_at ts id) all ∙ get_or_at first own rest.0 void id.0 len ∙ sym same
          ∙ ap (λ ts. type_with f ts e.shape e.quals) (sym all);
      refers = refers;
    }
