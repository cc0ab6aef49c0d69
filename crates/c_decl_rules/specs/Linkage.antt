-- Whether declarations of a name stand for the same object or function (6.2.2).
use Rattle.std.specs.Prelude.{Bool, true, false, Option, Some, None, if◌then◌else◌}
use Rattle.c_syntax.specs.declared.specifier.Storage.{Storage}
use Rattle.c_syntax.specs.declared.specifier.Storage.TheVariants as storage
use Rattle.c_scopes.specs.declared.binding.Linkage.{Linkage}
use Rattle.c_scopes.specs.declared.binding.Linkage.TheVariants as linkage

-- `extern`: as the declaration that is visible, if that has a linkage, and else external (6.2.2p4)
abbrev pub as_before : Linkage → Linkage
as_before linkage.None = linkage.External
as_before other = other

-- A function without a storage word is as one with `extern`; an object is external in the file scope, and has no
-- linkage in a block (6.2.2p5, p6).
abbrev pub without_word : (at_file is_function : Bool) → (prior : Linkage) → Linkage
without_word at_file true prior = as_before prior
without_word at_file false prior = if at_file then linkage.External else linkage.None

-- The linkage of what is declared with a storage word or none; `prior` is that of a declaration of the name that is
-- visible (6.2.2p3 to p6).
abbrev pub linkage_of : (at_file : Bool) → Option Storage → (is_function : Bool) → (prior : Linkage) → Linkage
linkage_of at_file (Some storage.Static) is_function prior = if at_file then linkage.Internal else linkage.None
linkage_of at_file (Some storage.Extern) is_function prior = as_before prior
linkage_of at_file (Some other) is_function prior = linkage.None
linkage_of at_file None is_function prior = without_word at_file is_function prior
