-- How many parts a type has, each counted as often as it stands in it; how deep it nests; how long a comparison takes.
use Rattle.std.specs.Prelude.{ℕ, ◌+◌, max}
use Rattle.c_types.specs.CType.{CType, CTypes, Bare, Plain, Array, BasicType, Pointer, Function, Compound, Enumerated}
use Rattle.c_types.specs.CType.{Nil, Cons}

-- the most parts that a type of a table has
abbrev pub most_parts : ℕ
most_parts = 4096

abbrev mutual
  -- The parts of a type, itself counted. A structure, union or enumerated type is one part, whatever its members are.
  pub part_count : CType → ℕ
  part_count (Plain bare quals) = bare_count bare
  part_count (Array of len) = part_count of + 1

  pub bare_count : Bare → ℕ
  bare_count (BasicType basic) = 1
  bare_count (Pointer to) = part_count to + 1
  bare_count (Function gives parameters variadic) = part_count gives + 1 + all_counts parameters
  bare_count (Compound number) = 1
  bare_count (Enumerated number) = 1

  pub all_counts : CTypes → ℕ
  all_counts Nil = 0
  all_counts (Cons first rest) = part_count first + all_counts rest

-- the parts of a function type
abbrev pub function_count : CType → CTypes → ℕ
function_count gives parameters = part_count gives + 1 + all_counts parameters

abbrev mutual
  -- how deep a type nests
  pub height : CType → ℕ
  height (Plain bare quals) = bare_height bare
  height (Array of len) = height of + 1

  pub bare_height : Bare → ℕ
  bare_height (BasicType basic) = 1
  bare_height (Pointer to) = height to + 1
  bare_height (Function gives parameters variadic) = max (height gives) (greatest_height parameters) + 1
  bare_height (Compound number) = 1
  bare_height (Enumerated number) = 1

  pub greatest_height : CTypes → ℕ
  greatest_height Nil = 0
  greatest_height (Cons first rest) = max (height first) (greatest_height rest)

abbrev mutual
  -- How many pairs of types a comparison of two types looks at, themselves counted: it goes down both together, and at
  -- each pair of parts once.
  pub comparisons : CType → CType → ℕ
  comparisons (Plain bare quals) (Plain other quals2) = bare_comparisons bare other + 1
  comparisons (Array of len) (Array of2 len2) = comparisons of of2 + 1
  comparisons (Plain bare quals) (Array of2 len2) = 1
  comparisons (Array of len) (Plain other quals2) = 1

  pub bare_comparisons : Bare → Bare → ℕ
  bare_comparisons (Pointer to) (Pointer to2) = comparisons to to2
  bare_comparisons (Function gives parameters variadic) (Function gives2 parameters2 variadic2) =
      comparisons gives gives2 + all_comparisons parameters parameters2
  bare_comparisons bare other = 0

  pub all_comparisons : CTypes → CTypes → ℕ
  all_comparisons (Cons first rest) (Cons first2 rest2) = comparisons first first2 + all_comparisons rest rest2
  all_comparisons Nil types = 0
  all_comparisons (Cons first rest) Nil = 0
