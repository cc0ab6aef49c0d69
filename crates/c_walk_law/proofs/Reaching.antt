-- How parts of a unit follow each other: what is given, and what is in scope behind it.
use Rattle.std.proofs.Common.{List}
use Rattle.critical_table.specs.declared.pos.Pos.{Pos}
use Rattle.c_types.specs.Structures.{Structure}
use Rattle.c_types.proofs.Kept.{structures_own, structures_then}
use Rattle.c_core.specs.Named.{Names, Widens}
use Rattle.c_scopes.specs.Env.{Env}
use Rattle.c_scopes.specs.Ruled.{Ruled, Fits, Breaks}
use Rattle.c_type_parts.specs.Answers.{Answer, Gives, Refuses, and_then, settle}
use Rattle.c_typing_law.specs.TypedParts.{IfFits}
use Rattle.c_walk_law.specs.InScope.{EnvTyped, Reaches, GivesTyped}

-- what could be named still can, where nothing else can
pub widens_own : (names : Names) → Widens names names
widens_own names = record {
  functions = λ token h. h;
  statics = λ token h. h;
  objects = λ slot h. h;
}

-- nothing has changed
pub reaches_own : (names : Names) (env : Env) → EnvTyped names env → Reaches names env env
reaches_own names env t = record { typed = t; kept = structures_own env.structures }

pub reaches_then : (names : Names) (env mid after : Env) → Reaches names env mid → Reaches names mid after
    → Reaches names env after
reaches_then names env mid after first second = record {
  typed = second.typed;
  kept = structures_then env.structures mid.structures after.structures first.kept second.kept;
}

-- ---- answers

-- something is given in an environment that was reached
pub gives : {A : Type 0} (names : Names) (env after : Env) (Is : List Structure → A → Type 0) (a : A)
    → Is after.structures a → Reaches names env after → GivesTyped names env Is (Gives a after)
gives names env after Is a h reaches = record { given = (h, reaches) }

-- something is given where nothing has changed
pub gives_here : {A : Type 0} (names : Names) (env : Env) (Is : List Structure → A → Type 0) (a : A)
    → Is env.structures a → EnvTyped names env → GivesTyped names env Is (Gives a env)
gives_here names env Is a h t = gives names env env Is a h (reaches_own names env t)

-- what is given from an environment that was reached
pub from_later : {A : Type 0} (names : Names) (env mid : Env) (Is : List Structure → A → Type 0) (answer : Answer A)
    → Reaches names env mid → GivesTyped names mid Is answer → GivesTyped names env Is answer
from_later names env mid Is (Gives a after) reaches h =
    record { given = (h.given.0, reaches_then names env mid after reaches h.given.1) }
from_later names env mid Is (Refuses number at) reaches h = record { given = tt }

-- what is given is something less, too
pub gives_less : {A : Type 0} (names : Names) (env : Env) (Is Then : List Structure → A → Type 0) (answer : Answer A)
    → ((structures : List Structure) (a : A) → Is structures a → Then structures a) → GivesTyped names env Is answer
    → GivesTyped names env Then answer
gives_less names env Is Then (Gives a after) f h =
    record { given = (f after.structures a h.given.0, h.given.1) }
gives_less names env Is Then (Refuses number at) f h = record { given = tt }

-- one part behind another
pub then_gives : {A B : Type 0} (names : Names) (env : Env) (Is : List Structure → A → Type 0)
    (Then : List Structure → B → Type 0) (answer : Answer A) (next : A → Env → Answer B)
    → GivesTyped names env Is answer
    → ((a : A) (after : Env) → Is after.structures a → Reaches names env after
    → GivesTyped names after Then (next a after))
    → GivesTyped names env Then (and_then answer next)
unfolding and_then
then_gives names env Is Then (Gives a after) next h rest =
    from_later names env after Then (next a after) h.given.1 (rest a after h.given.0 h.given.1)
then_gives names env Is Then (Refuses number at) next h rest = record { given = tt }

-- what a rule says, and nothing has changed
pub settled : {A : Type 0} (names : Names) (env : Env) (Is : List Structure → A → Type 0) (at : Pos) (rule : Ruled A)
    → EnvTyped names env → IfFits rule (Is env.structures) → GivesTyped names env Is (settle at env rule)
unfolding settle
settled names env Is at (Fits a) t h = gives_here names env Is a h t
settled names env Is at (Breaks number) t h = record { given = tt }

-- a part behind a rule
pub settled_then : {A B : Type 0} (names : Names) (env : Env) (Then : List Structure → B → Type 0) (at : Pos)
    (rule : Ruled A) (next : A → Env → Answer B) → IfFits rule (λ a. GivesTyped names env Then (next a env))
    → GivesTyped names env Then (and_then (settle at env rule) next)
unfolding and_then settle
settled_then names env Then at (Fits a) next h = h
settled_then names env Then at (Breaks number) next h = record { given = tt }

-- ---- rules

-- what a rule gives has another property too
pub fits_then : {A : Type 0} (P Q : A → Type 0) (rule : Ruled A) → ((a : A) → P a → Q a) → IfFits rule P
    → IfFits rule Q
fits_then P Q (Fits a) f h = f a h
fits_then P Q (Breaks number) f h = tt

-- and two at once
pub fits_both : {A : Type 0} (P Q : A → Type 0) (rule : Ruled A) → IfFits rule P → IfFits rule Q
    → IfFits rule (λ a. P a × Q a)
fits_both P Q (Fits a) h g = (h, g)
fits_both P Q (Breaks number) h g = tt

-- a rule without constraints
pub fits_always : {A : Type 0} (P : A → Type 0) (rule : Ruled A) → ((a : A) → P a) → IfFits rule P
fits_always P (Fits a) f = f a
fits_always P (Breaks number) f = tt
