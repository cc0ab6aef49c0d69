-- What a row answers is a number, a pointer or nothing, as its prototype gives, whatever its arguments are.
use Rattle.std.specs.Prelude.{◌≡◌, Bool, true, List, Some}
use Rattle.lib_defs.specs.declared.row.Row.{Row}
use Rattle.lib_defs.specs.declared.row_name.RowName.{RowName}
use Rattle.lib_defs.specs.declared.step.Rest.{Rest}
use Rattle.lib_defs.specs.declared.value.Arg.{Arg}
use Rattle.lib_defs.specs.declared.value.Value.{Value}
use Rattle.lib_defs.specs.declared.value.Value.TheVariants.{Num, Ptr, Nothing}
use Rattle.lib_defs.specs.RowNumbers.{name_at}
use Rattle.lib_defs.specs.Prototypes.{Gives, GivesNumber, GivesPointer, GivesNothing, prototype}
use Rattle.lib_defs.specs.Reply.{Did, Done, Broken, Asks, Fails}
use Rattle.lib_defs.specs.World.{World}
use Rattle.lib_defs.specs.Library.{Library}

-- the value is a number, a pointer or nothing, as is given
abbrev pub IsVariant : Gives → Value → Type 0
IsVariant (GivesNumber kind) (Num n) = Unit {0}
IsVariant GivesPointer (Ptr p) = Unit {0}
IsVariant GivesNothing Nothing = Unit {0}
IsVariant _ _ = ⊥

abbrev pub IsVariantOf : Row → Value → Type 0
IsVariantOf row value = (name : RowName) → name_at row ≡ Some name → IsVariant (prototype name).gives value

-- What the row does answers such a value, or goes on with what it may keep while it waits for a guest's function.
abbrev pub AnswersVariant : (Row → Rest → Bool) → Row → Did → Type 0
AnswersVariant waits row (Done change set value) = IsVariantOf row value
AnswersVariant waits row (Broken k class action value) = IsVariantOf row value
AnswersVariant waits row (Asks function first second third rest) = waits row rest ≡ true
AnswersVariant waits row (Fails stop) = Unit {0}

-- So it is at all arguments and in all worlds, also once a guest's function has returned. `waits` tells what a row may
-- keep while it waits.
pub record KeepsVariants (l : Library) : Type 0 where
  pub waits : Row → Rest → Bool
  pub call : (row : Row) (args : List Arg) (w : World) → AnswersVariant waits row (l.call row args w).did
  pub resume : (row : Row) (rest : Rest) (value : Value) (w : World) → waits row rest ≡ true
      → AnswersVariant waits row (l.resume rest value w).did
