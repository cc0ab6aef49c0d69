-- Types with more qualifiers, and without any (6.7.3).
use Rattle.std.specs.Prelude.{◌≡◌, ◌||◌, List, ◌++◌}
use Rattle.c_types.specs.declared.shape.Quals.{Quals}
use Rattle.c_types.specs.declared.parts.Made.{Made}
use Rattle.c_types.specs.Types.{Types}
use Rattle.c_types.specs.CType.{CType, Plain, Array, no_quals}
use Rattle.c_types.specs.Making.{at_made}

-- the qualifiers of both (6.7.3p5)
abbrev pub both_quals : Quals → Quals → Quals
both_quals q r = record {
  constant = q.constant || r.constant;
  volatile = q.volatile || r.volatile;
  restricted = q.restricted || r.restricted;
}

-- a type with more qualifiers; those of an array go to its elements (6.7.3p9)
abbrev pub with_quals : Quals → CType → CType
with_quals more (Plain bare quals) = Plain bare (both_quals quals more)
with_quals more (Array of len) = Array (with_quals more of) len

-- the unqualified version of a type (6.2.5p26); those of an array are its elements' (6.7.3p9)
abbrev pub without_quals : CType → CType
without_quals (Plain bare quals) = Plain bare no_quals
without_quals (Array of len) = Array (without_quals of) len

-- The table has made more types, and changed nothing else.
pub record MakesMore (old new : Types) : Type 0 where
  pub more : List Made
  pub is : new ≡ at_made old (old.made ++ more)
