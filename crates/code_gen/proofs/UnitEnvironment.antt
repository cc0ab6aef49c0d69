-- A run of a unit's code is given what its meaning is given: the functions by their numbers, and the first handler.
use Rattle.std.proofs.Common.{◌≡◌, ◌∙◌, ℕ, zero, suc, ◌+◌, ◌-◌, List, [], ◌∷◌, refl, sym, ap}
use Rattle.std.proofs.Common.{arith, Option, Some, None, length}
use Rattle.std.proofs.Math.Path.{fun_ext}
use Rattle.std.specs.List.{slice_get}
use Rattle.std.specs.Option.{option_map, option_map_or}
use Rattle.c_types.specs.Compatible.{compatible}
use Rattle.lib_defs.specs.declared.row.Row.{Row}
use Rattle.lib_defs.specs.declared.row_name.RowName.{RowName}
use Rattle.lib_defs.specs.declared.row_name.RowName.TheVariants.{AbortHandlerS}
use Rattle.lib_defs.specs.Library.{Library}
use Rattle.lib_defs.specs.Names.{name_text}
use Rattle.lib_defs.specs.Reply.{null}
use Rattle.lib_defs.specs.RowNumbers.{name_at, row_named}
use Rattle.run_defs.specs.Functions.{OfUnit}
use Rattle.library_types.specs.LibraryTypes.{handler_type, comparing_type}
use Rattle.c_core.specs.TreeUnit.{Definition, Program}
use Rattle.vm_code.specs.CodeFunctions.{is_called_by, function_of, function_pointer, abort_handler, row_if}
use Rattle.vm_code.specs.CodeFunctions as machine
use Rattle.vm_code.specs.Contents.{Contents}
use Rattle.code_gen.specs.CalledTypes.{through_type}
use Rattle.code_gen.specs.Meaning.{first_handler}
use Rattle.code_gen.specs.ProgramFunctions.{UnitFunction, LibraryFunction, unit_or_library, function_numbered}
use Rattle.code_gen.specs.ProgramFunctions.{seen, environment}
use Rattle.code_gen.specs.UnitCode.{unit_code, functions_from, function_size}
use Rattle.code_gen.proofs.CallTable.{calls_alike}
use Rattle.code_gen.proofs.UnitFunctions.{listed}

pub functions_long : (at : ℕ) (functions : List Definition) → length (functions_from at functions) ≡ length functions
functions_long at [] = refl
functions_long at (first ∷ rest) = ap suc (functions_long (at + function_size first) rest)

none_listed : (at : ℕ) (functions : List Definition) (k : ℕ) → slice_get functions k ≡ None
    → slice_get (functions_from at functions) k ≡ None
none_listed at [] k is = refl
none_listed at (first ∷ rest) zero is = absurd (let none : ⊥ = cc in none)
none_listed at (first ∷ rest) (suc k) is = none_listed (at + function_size first) rest k is

row_seen : (o : Option RowName) (row : Row) → row_if o row ≡ option_map seen (option_map (LibraryFunction row) o)
row_seen None row = refl
row_seen (Some name) row = refl

module _ (program : Program) where
  abbrev code : Contents
  code = unit_code program

  unit_seen : (k : ℕ) (d : Definition) → slice_get program.functions k ≡ Some d
      → function_of code (suc k) (slice_get code.functions k) ≡ Some (seen (UnitFunction d))
  unit_seen k d is =
      let named : function_numbered program.functions (suc k) ≡ Some (UnitFunction d) =
      ap (λ o. unit_or_library o (k - length program.functions)) is in
      ap (λ o. function_of code (suc k) o) (listed 0 program.functions k d is)
      ∙ ap (λ b. Some (OfUnit d.name b (is_called_by code machine.comparing_type (suc k))))
      (calls_alike program (through_type handler_type) (suc k) (UnitFunction d) named)
      ∙ ap (λ b. Some (OfUnit d.name (compatible handler_type d.type) b))
      (calls_alike program (through_type comparing_type) (suc k) (UnitFunction d) named)

  library_seen : (k : ℕ) → slice_get program.functions k ≡ None
      → function_of code (suc k) (slice_get code.functions k)
      ≡ option_map seen (function_numbered program.functions (suc k))
  library_seen k is =
      let long : length code.functions ≡ length program.functions = functions_long 0 program.functions in
      let number : suc k - 1 - length code.functions ≡ k - length program.functions = omega (arith, long) in
      ap (λ o. function_of code (suc k) o) (none_listed 0 program.functions k is)
      ∙ ap (λ n. machine.library_function (record { 0 = n })) number
      ∙ row_seen (name_at (record { 0 = k - length program.functions })) (record { 0 = k - length program.functions })
      ∙ ap (λ o. option_map seen (unit_or_library o (k - length program.functions))) (sym is)

  numbered_seen : (f : ℕ) → machine.function_numbered code f ≡ option_map seen (function_numbered program.functions f)
  numbered_seen zero = refl
  numbered_seen (suc k) = by_found (slice_get program.functions k) refl
    where
      by_found : (o : Option Definition) → slice_get program.functions k ≡ o
          → machine.function_numbered code (suc k) ≡ option_map seen (function_numbered program.functions (suc k))
      by_found (Some d) at = unit_seen k d at
          ∙ ap (λ o. option_map seen (unit_or_library o (k - length program.functions))) (sym at)
      by_found None at = library_seen k at

  pub environments : (library : Library) → machine.environment library code ≡ environment library program
  environments library = ap (λ functions. record { library = library; functions = functions }) (fun_ext numbered_seen)

  pub first_handlers : abort_handler code ≡ first_handler program.functions
  first_handlers =
      ap (λ n. option_map_or (λ (row : Row). function_pointer (n + 1 + row.0)) (row_named (name_text AbortHandlerS))
      null)
      (functions_long 0 program.functions)
