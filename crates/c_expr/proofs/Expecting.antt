-- The parameter at a place: of a list of ids, and of the list of types that they stand for.
use Rattle.std.proofs.Common.{◌≡◌, ◌∙◌, ◌<◌, ◌≤◌, ℕ, zero, suc, List, [], ◌∷◌, refl, ap, sym, arith, false}
use Rattle.std.specs.Prelude.{Option, Some, None, option_map, IfSome}
use Rattle.std.specs.List.{All, slice_get}
use Rattle.std.proofs.lemmas.Option.{slice_get_within, get_or_from_slice_get}
use Rattle.c_types.specs.declared.shape.TypeId.{TypeId}
use Rattle.c_types.specs.CType.{CType, CTypes, Nil, Cons, Plain, Array, BasicType, Pointer, Function, Compound}
use Rattle.c_types.specs.CType.{Enumerated, types_at, type_at}
use Rattle.c_types.specs.Functions.{parameters_of, variadic_of}
use Rattle.c_conversions.specs.Versions.{is_function}
use Rattle.c_expr.specs.Operands.{behind_first, first_of, types_behind}

behind_more : (n : ℕ) (type : CType) (types : CTypes) → types_behind (suc n) (Cons type types) ≡ types_behind n types
behind_more zero type types = refl
behind_more (suc n) type types = ap behind_first (behind_more n type types)

behind_none : (n : ℕ) → types_behind n Nil ≡ Nil
behind_none zero = refl
behind_none (suc n) = ap behind_first (behind_none n)

pub parameter_at : (all : List CType) (ids : List TypeId) (index : ℕ)
    → option_map (type_at all) (slice_get ids index) ≡ first_of (types_behind index (types_at all ids))
parameter_at all [] index = sym (ap first_of (behind_none index))
parameter_at all (id ∷ ids) zero = refl
parameter_at all (id ∷ ids) (suc n) =
    parameter_at all ids n ∙ sym (ap first_of (behind_more n (type_at all id) (types_at all ids)))

found_below : (ids : List TypeId) (index bound : ℕ) (found : Option TypeId) → slice_get ids index ≡ found
    → All (λ (p : TypeId). p.0 < bound) ids → IfSome found (λ (p : TypeId). p.0 < bound)
found_below ids index bound None e all = tt
found_below ids index bound (Some id) e all =
    let same = get_or_from_slice_get ids index id id e in
    let within = all index id (slice_get_within ids index id e) in
    rw same at within

-- a parameter that is found is one of the table's
pub parameter_below : (ids : List TypeId) (index below count : ℕ) (found : Option TypeId)
    → found ≡ slice_get ids index → All (λ (p : TypeId). p.0 < below) ids → below ≤ count
    → IfSome found (λ (p : TypeId). p.0 < count)
parameter_below ids index below count None e all h = tt
parameter_below ids index below count (Some id) e all h =
    let within : id.0 < below = found_below ids index below (Some id) (sym e) all in
    omega arith

-- what is no function has no parameters
pub no_parameters : (type : CType) → is_function type ≡ false
    → (parameters_of type ≡ Nil) × (variadic_of type ≡ false)
no_parameters (Array of len) e = (refl, refl)
no_parameters (Plain (BasicType basic) quals) e = (refl, refl)
no_parameters (Plain (Pointer to) quals) e = (refl, refl)
no_parameters (Plain (Function gives parameters variadic) quals) e = absurd (cc)
no_parameters (Plain (Compound number) quals) e = (refl, refl)
no_parameters (Plain (Enumerated number) quals) e = (refl, refl)

pub none_expected : (type : CType) (index : ℕ) → is_function type ≡ false
    → None ≡ first_of (types_behind index (parameters_of type))
none_expected type index e =
    sym (ap (λ types. first_of (types_behind index types)) (no_parameters type e).0 ∙ ap first_of (behind_none index))
