-- Lists of parameters by their length.
use Rattle.std.proofs.Common.{◌≡◌, Bool, true, false, List, [], ◌∷◌, length, map, not, refl, arith}
use Rattle.c_syntax.specs.declared.declarator.Parameter as p
use Rattle.c_syntax.specs.View.{parameter_of, parameters}
use Rattle.c_type_parts.specs.Declaring.{is_alone}

-- none, or more than one
pub not_one : (all : List p.Parameter) (variadic : Bool) → (length all ≡ 1 → ⊥)
    → false ≡ is_alone (parameters (map parameter_of all)) variadic
not_one [] variadic h = refl
not_one (first ∷ []) variadic h = absurd (h refl)
not_one (first ∷ second ∷ rest) variadic h = refl

-- one
pub just_one : (all : List p.Parameter) (variadic : Bool) → length all ≡ 1
    → not variadic ≡ is_alone (parameters (map parameter_of all)) variadic
just_one [] variadic h = absurd (omega (arith, h))
just_one (first ∷ []) true h = refl
just_one (first ∷ []) false h = refl
just_one (first ∷ second ∷ rest) variadic h = absurd (omega (arith, h))
