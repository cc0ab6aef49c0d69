-- Compatible types (6.2.7p1).
use Rattle.std.specs.Prelude.{ℕ, Bool, true, false, not, ◌&&◌, ◌||◌, ◌==◌, Option, Some, None}
use Rattle.c_types.specs.declared.basic.Basic.{Basic}
use Rattle.c_types.specs.declared.shape.Shape.{Shape}
use Rattle.c_types.specs.declared.shape.Shape.TheVariants as s
use Rattle.c_types.specs.declared.shape.Quals.{Quals}
use Rattle.c_types.specs.CType.{CType, CTypes, Bare, Plain, Array, BasicType, Pointer, Function, Compound, Enumerated}
use Rattle.c_types.specs.CType.{Nil, Cons, number_of}

abbrev pub same_bool : Bool → Bool → Bool
same_bool true b = b
same_bool false b = not b

-- identically qualified (6.7.3p10)
abbrev pub same_quals : Quals → Quals → Bool
same_quals q r = same_bool q.constant r.constant && same_bool q.volatile r.volatile
    && same_bool q.restricted r.restricted

abbrev pub is_int : Basic → Bool
is_int basic = number_of basic == 7

-- the lengths of two arrays agree where one is not given, or both are equal (6.7.6.2p6)
abbrev pub lengths_agree : Option ℕ → Option ℕ → Bool
lengths_agree None n = true
lengths_agree (Some m) None = true
lengths_agree (Some m) (Some n) = m == n

-- Whether two types are compatible. At a parameter the outermost qualifiers do not count (6.7.6.3p15): `strict` says
-- that
-- they do. The parts of a type are smaller than the type, and a compound type is compatible with itself alone, whatever
-- its members are, so the comparison ends.
unfoldable mutual
  pub agree : CType → CType → Bool → Bool
  agree (Plain bare quals) (Plain other quals2) strict =
      (not strict || same_quals quals quals2) && bare_agree bare other
  agree (Array of len) (Array of2 len2) strict = lengths_agree len len2 && agree of of2 strict
  agree (Plain bare quals) (Array of2 len2) strict = false
  agree (Array of len) (Plain other quals2) strict = false

  pub bare_agree : Bare → Bare → Bool
  bare_agree (BasicType basic) (BasicType basic2) = number_of basic == number_of basic2
  bare_agree (BasicType basic) (Enumerated number) = is_int basic
  bare_agree (Enumerated number) (BasicType basic) = is_int basic
  bare_agree (Enumerated number) (Enumerated number2) = number == number2
  bare_agree (Compound number) (Compound number2) = number == number2
  bare_agree (Pointer to) (Pointer to2) = agree to to2 true
  bare_agree (Function gives parameters variadic) (Function gives2 parameters2 variadic2) =
      agree gives gives2 true && same_bool variadic variadic2 && all_agree parameters parameters2
  bare_agree bare other = false

  pub all_agree : CTypes → CTypes → Bool
  all_agree Nil Nil = true
  all_agree (Cons first rest) (Cons first2 rest2) = agree first first2 false && all_agree rest rest2
  all_agree Nil (Cons first2 rest2) = false
  all_agree (Cons first rest) Nil = false

-- whether two types are compatible
abbrev pub compatible : CType → CType → Bool
compatible a b = agree a b true

-- whether the shapes of types without parts are compatible; the second may be any shape
abbrev pub leaves_agree : Shape → Shape → Bool
leaves_agree (s.Basic basic) (s.Basic basic2) = number_of basic == number_of basic2
leaves_agree (s.Basic basic) (s.Enumerated number) = is_int basic
leaves_agree (s.Enumerated number) (s.Basic basic) = is_int basic
leaves_agree (s.Enumerated number) (s.Enumerated number2) = number == number2
leaves_agree (s.Compound number) (s.Compound number2) = number == number2
leaves_agree shape other = false
