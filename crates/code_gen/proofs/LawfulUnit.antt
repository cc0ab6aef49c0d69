-- What the law of journals asks can be met: a unit that is well-typed, over the library of the profile.
use Rattle.std.proofs.Common.{◌≤◌, [], ◌∷◌, refl, lit<, lit≤}
use Rattle.std.proofs.lemmas.List.Elements.{All-nil}
use Rattle.lib_defs.specs.Profile.{profile}
use Rattle.lib_defs.proofs.ProfileLaws.{profile_keeps}
use Rattle.run_defs.specs.Starts.{Budgets}
use Rattle.run_defs.specs.Replay.{IsLawful}
use Rattle.c_core.specs.TreeUnit.{Program}
use Rattle.c_core.specs.TypedUnit.{IsWellTyped}
use Rattle.code_gen.specs.Meaning.{meaning}
use Rattle.code_gen.proofs.LawfulRuns.{each_lawful}
use Rattle.code_gen.proofs.Runs.{no_input}
use Rattle.code_gen.proofs.Trees.{unit_of, main, return, add, num}

-- int main(void){return 40+2;}
abbrev sum : Program
sum = unit_of (main [] (return (add 25 (num 40) (num 2)) ∷ []) ∷ []) []

sum_typed : IsWellTyped sum
sum_typed = record {
  functions = (
    record {
      type = (refl, tt);
      gives = (lit< tt, lit≤ tt);
      parameters = tt;
      taken = lit≤ tt;
      slots = lit≤ tt;
      body = (
        tt,
        (
          (
            refl,
            (
              refl,
              (
                refl,
                (refl, record { least = record { le = tt }; greatest = record { le = tt } }),
                refl,
                (refl, record { least = record { le = tt }; greatest = record { le = tt } }),
              ),
            ),
          ),
          tt,
        ),
      );
    },
    tt,
  );
  statics = tt;
  main = (refl, refl);
  distinct = (refl, tt);
  rising = tt;
  few_functions = lit≤ tt;
  few_statics = lit≤ tt;
  few_calls = lit≤ tt;
}

sum_lawful : (budgets : Budgets) → budgets.ticks ≤ 2000000000 → IsLawful (meaning profile sum no_input budgets).journal
sum_lawful budgets few = each_lawful profile profile_keeps sum sum_typed no_input (All-nil _) budgets few
