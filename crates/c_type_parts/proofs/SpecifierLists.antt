-- Specifiers that are left.
use Rattle.std.proofs.Common.{◌≡◌, ◌≤◌, List, [], ◌∷◌, length, false, refl, arith}
use Rattle.c_syntax.specs.declared.specifier.Specifier as s
use Rattle.c_syntax.specs.View.{specifiers_of}
use Rattle.c_type_parts.specs.Shapes.{is_end}

pub no_end : (all : List s.Specifier) → 1 ≤ length all → is_end (specifiers_of all) ≡ false
no_end [] h = absurd (omega (arith, h))
no_end (first ∷ rest) h = refl
