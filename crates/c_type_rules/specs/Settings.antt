-- Which storage words and `inline` may stand in specifiers (6.7.1, 6.7.4).
use Rattle.std.specs.Prelude.{Bool, true, false, not, ◌&&◌, [], ◌∷◌, List}
use Rattle.c_syntax.specs.declared.specifier.Storage.{Storage}
use Rattle.c_syntax.specs.declared.specifier.Storage.TheVariants as storage
use Rattle.c_scopes.specs.Ruled.{Ruled, Demand, ruled}
use Rattle.c_type_rules.specs.declared.context.Context.{Context}
use Rattle.c_type_rules.specs.declared.context.Setting.{Setting}
use Rattle.c_type_rules.specs.declared.context.Setting.TheVariants as s

abbrev pub is_register : Storage → Bool
is_register storage.Register = true
is_register other = false

abbrev pub is_auto_or_register : Storage → Bool
is_auto_or_register storage.Auto = true
is_auto_or_register storage.Register = true
is_auto_or_register other = false

abbrev pub is_extern_or_static : Storage → Bool
is_extern_or_static storage.Extern = true
is_extern_or_static storage.Static = true
is_extern_or_static other = false

-- The word may stand there, were it the only one. `extern` in a block is told at each declared name.
abbrev pub may_stand : Setting → Storage → Bool
-- 6.9p2
may_stand s.File word = not (is_auto_or_register word)
-- 6.9.1p4
may_stand s.Definition word = is_extern_or_static word
may_stand s.Block word = true
-- 6.8.5p3
may_stand s.For word = is_auto_or_register word
-- 6.7.6.3p2
may_stand s.Parameter word = is_register word
-- 6.7.2.1p1, 6.7.7p1: specifiers and qualifiers alone
may_stand s.Member word = false
may_stand s.TypeName word = false

abbrev pub is_parameter : Setting → Bool
is_parameter s.Parameter = true
is_parameter other = false

-- At most one storage word, and one that may stand there (6.7.1p2). Of a parameter a word other than `register` has a
-- number of its own, which is told in place of the other.
abbrev pub storage_demands : Bool → Bool → Bool → List Demand
storage_demands true before stands = (5, not (before && stands)) ∷ (46, stands) ∷ []
storage_demands false before stands = (5, not before && stands) ∷ []

-- a storage word; `before` tells that another stands before it
abbrev pub storage_rule : Setting → Bool → Storage → Ruled (Unit {0})
storage_rule setting before word = ruled (storage_demands (is_parameter setting) before (may_stand setting word)) tt

-- `inline` stands beside `static`, and each declarator declares a function (6.7.4p2; the profile has no other `inline`)
abbrev pub inline_rule : Context → Bool → Ruled (Unit {0})
inline_rule context static = ruled ((13, static && context.functions) ∷ []) tt
