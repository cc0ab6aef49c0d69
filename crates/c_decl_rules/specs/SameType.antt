-- The same type, which a typedef name that is declared again asks for (6.7p3).
use Rattle.std.specs.Prelude.{ℕ, Bool, true, false, not, ◌&&◌, ◌||◌, ◌==◌, Option, Some, None}
use Rattle.c_types.specs.declared.shape.Shape.{Shape}
use Rattle.c_types.specs.declared.shape.Shape.TheVariants as s
use Rattle.c_types.specs.CType.{CType, CTypes, Bare, Plain, Array, BasicType, Pointer, Function, Compound, Enumerated}
use Rattle.c_types.specs.CType.{Nil, Cons, number_of}
use Rattle.c_types.specs.Compatible.{same_bool, same_quals}

abbrev pub same_length : Option ℕ → Option ℕ → Bool
same_length None None = true
same_length (Some m) (Some n) = m == n
same_length None (Some n) = false
same_length (Some m) None = false

-- Compatible types that don't differ in a length that is left out, nor in `int` for an enumerated type. `strict` says
-- that the outermost qualifiers count, which they don't at a parameter (6.7.6.3p15).
unfoldable mutual
  pub same : CType → CType → Bool → Bool
  same (Plain bare quals) (Plain other quals2) strict =
      (not strict || same_quals quals quals2) && same_bare bare other
  same (Array of len) (Array of2 len2) strict = same_length len len2 && same of of2 strict
  same (Plain bare quals) (Array of2 len2) strict = false
  same (Array of len) (Plain other quals2) strict = false

  pub same_bare : Bare → Bare → Bool
  same_bare (BasicType basic) (BasicType basic2) = number_of basic == number_of basic2
  same_bare (Enumerated number) (Enumerated number2) = number == number2
  same_bare (Compound number) (Compound number2) = number == number2
  same_bare (Pointer to) (Pointer to2) = same to to2 true
  same_bare (Function gives parameters variadic) (Function gives2 parameters2 variadic2) =
      same gives gives2 true && same_bool variadic variadic2 && all_same parameters parameters2
  same_bare bare other = false

  pub all_same : CTypes → CTypes → Bool
  all_same Nil Nil = true
  all_same (Cons first rest) (Cons first2 rest2) = same first first2 false && all_same rest rest2
  all_same Nil (Cons first2 rest2) = false
  all_same (Cons first rest) Nil = false

abbrev pub same_type : CType → CType → Bool
same_type a b = same a b true

-- whether the shapes of types without parts are the same; the second may be any shape
abbrev pub same_leaves : Shape → Shape → Bool
same_leaves (s.Basic basic) (s.Basic basic2) = number_of basic == number_of basic2
same_leaves (s.Enumerated number) (s.Enumerated number2) = number == number2
same_leaves (s.Compound number) (s.Compound number2) = number == number2
same_leaves shape other = false
