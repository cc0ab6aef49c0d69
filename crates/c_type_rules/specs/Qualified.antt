-- Qualified types and pointers (6.7.3, 6.7.6.1).
use Rattle.std.specs.Prelude.{Bool, true, false, not, ◌||◌, List, [], ◌∷◌, Option, Some, None}
use Rattle.c_types.specs.declared.shape.Quals.{Quals}
use Rattle.c_types.specs.CType.{CType, Plain, Array, Pointer, no_quals}
use Rattle.c_types.specs.Qualified.{with_quals}
use Rattle.c_syntax.specs.declared.specifier.Qualifier.{Qualifier}
use Rattle.c_syntax.specs.declared.specifier.Qualifier.TheVariants as q
use Rattle.c_scopes.specs.Ruled.{Ruled, Fits, ruled}
use Rattle.c_conversions.specs.Kinds.{pointer_to}
use Rattle.c_conversions.specs.Versions.{is_function}

abbrev pub with_qualifier : Quals → Qualifier → Quals
with_qualifier quals q.Const = record quals { constant = true }
with_qualifier quals q.Volatile = record quals { volatile = true }
with_qualifier quals q.Restrict = record quals { restricted = true }

-- a qualifier that stands twice counts once (6.7.3p5)
abbrev pub quals_from : Quals → List Qualifier → Quals
quals_from quals [] = quals
quals_from quals (first ∷ rest) = quals_from (with_qualifier quals first) rest

abbrev pub quals_of_words : List Qualifier → Quals
quals_of_words words = quals_from no_quals words

-- a pointer to an object type; the qualifiers of an array are its elements' (6.7.3p2, p9)
abbrev pub may_be_restricted : CType → Bool
may_be_restricted (Plain (Pointer to) quals) = not (is_function to)
may_be_restricted (Plain other quals) = false
may_be_restricted (Array of len) = may_be_restricted of

-- None is no such type.
abbrev pub may_known_be_restricted : Option CType → Bool
may_known_be_restricted None = false
may_known_be_restricted (Some type) = may_be_restricted type

-- A qualifier among specifiers; `known` is what their typedef name stands for, where they have one. No other type that
-- specifiers name is a pointer.
abbrev pub restrict_rule : Option CType → Qualifier → Ruled (Unit {0})
restrict_rule known q.Restrict = ruled ((12, may_known_be_restricted known) ∷ []) tt
restrict_rule known other = Fits tt

-- a pointer that is so qualified (6.7.6.1p1)
abbrev pub pointer_rule : Quals → CType → Ruled CType
pointer_rule quals to =
    ruled ((12, not quals.restricted || not (is_function to)) ∷ []) (with_quals quals (pointer_to to))
