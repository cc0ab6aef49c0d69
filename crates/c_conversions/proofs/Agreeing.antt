-- Versions of compatible types without their qualifiers.
use Rattle.std.proofs.Common.{◌≡◌, true, refl}
use Rattle.c_types.specs.CType.{CType, Plain, Array}
use Rattle.c_types.specs.Compatible.{compatible, agree}
use Rattle.c_conversions.specs.Versions.{are_versions, own_unqualified}

-- they are compatible
pub compatible-own_unqualified : (a b : CType) → are_versions a b ≡ true
    → compatible (own_unqualified a) (own_unqualified b) ≡ true
unfolding agree
compatible-own_unqualified (Plain bare quals) (Plain other quals2) h = h
compatible-own_unqualified (Plain bare quals) (Array of len) h = h
compatible-own_unqualified (Array of len) (Plain other quals) h = h
compatible-own_unqualified (Array of len) (Array of2 len2) h = h
