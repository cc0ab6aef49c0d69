-- The arguments of a library call: their values, with the kinds by which the library reads them (6.5.2.2p6).
use Rattle.std.specs.Prelude.{List, [], ◌∷◌}
use Rattle.lib_defs.specs.declared.value.Arg.{Arg}
use Rattle.lib_defs.specs.declared.value.Value.{Value}
use Rattle.library_types.specs.ArgumentKinds.{argument_kind}
use Rattle.c_core.specs.Tree.{Cores, NoCore, MoreCores, type_in}

-- the arguments with these values
abbrev pub arguments : Cores → List Value → List Arg
arguments NoCore values = []
arguments (MoreCores first rest) [] = []
arguments (MoreCores first rest) (value ∷ values) =
    record { value = value; kind = argument_kind (type_in first) } ∷ arguments rest values
