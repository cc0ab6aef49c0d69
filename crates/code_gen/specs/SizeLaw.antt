-- The sizes by which places are computed are the lengths of the code.
use Rattle.std.specs.Prelude.{◌≡◌, ℕ, length}
use Rattle.c_core.specs.Tree.{Core}
use Rattle.c_core.specs.TreeUnit.{Statement, Definition, Program}
use Rattle.code_gen.specs.CalledTypes.{Through}
use Rattle.code_gen.specs.ExpressionCode.{code_at, size_in}
use Rattle.code_gen.specs.StatementCode.{Around, statement_code, statement_size}
use Rattle.code_gen.specs.UnitCode.{function_code, function_size}
use Rattle.std.specs.Prelude.{List}

pub record SizesAreLengths (program : Program) (table : List Through) : Type 0 where
  pub expression : (at slot : ℕ) (core : Core) → length (code_at program table at slot core) ≡ size_in core
  pub statement : (at text : ℕ) (around : Around) (st : Statement)
      → length (statement_code program table at text around st)
      ≡ statement_size (length around.left) (length around.left_again) st
  pub function : (at text : ℕ) (definition : Definition)
      → length (function_code program table at text definition) ≡ function_size definition

abbrev pub AllSizesAreLengths : Type 0
AllSizesAreLengths = (program : Program) (table : List Through) → SizesAreLengths program table
