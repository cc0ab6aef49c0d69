-- A library: what each call of a row answers, and what a row answers once a guest's function that it wanted has
-- returned.
use Rattle.std.specs.Prelude.{◌≡◌, List, map}
use Rattle.object_store.specs.declared.pointer.Pointer.{Pointer}
use Rattle.lib_defs.specs.declared.row.Row.{Row}
use Rattle.lib_defs.specs.declared.step.Rest.{Rest}
use Rattle.lib_defs.specs.declared.value.Arg.{Arg}
use Rattle.lib_defs.specs.declared.value.Value.{Value}
use Rattle.lib_defs.specs.Reply.{Asks}
use Rattle.lib_defs.specs.World.{World, Reply}

pub record Library : Type 0 where
  pub call : Row → List Arg → World → Reply
  pub resume : Rest → Value → World → Reply

abbrev pub values_of : List Arg → List Value
values_of args = map (λ (a : Arg). a.value) args

-- a row that wanted a guest's function keeps this
pub data IsAsked (l : Library) (rest : Rest) : Type 0 where
  ByCall : (row : Row) (args : List Arg) (w : World) (f a b c : Pointer) → (l.call row args w).did ≡ Asks f a b c rest
      → IsAsked l rest
  ByResume : (earlier : Rest) (value : Value) (w : World) (f a b c : Pointer)
      → (l.resume earlier value w).did ≡ Asks f a b c rest → IsAsked l rest
