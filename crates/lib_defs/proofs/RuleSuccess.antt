-- What the successes of rows come to, for the laws.
use Rattle.std.proofs.Common.{◌≡◌, ℕ, ◌+◌, ◌*◌, ◌≤◌, nat_le, Bool, true, false, cond, List, [], length, refl, ap, arith}
use Rattle.std.proofs.lemmas.Grind.{common_steps}
use Rattle.object_store.specs.Storage.{Storage}
use Rattle.lib_defs.specs.declared.reading.Reading.{Reading}
use Rattle.lib_defs.specs.declared.reading.Reading.TheVariants.{Length, Unreached, Unknown}
use Rattle.lib_defs.specs.declared.value.Value.{Value}
use Rattle.lib_defs.specs.Units.{size, rsize_max}
use Rattle.lib_defs.specs.Reply.{Patch, Did}
use Rattle.lib_defs.specs.Constraints.{Saw, length_seen, decisions}
use Rattle.lib_defs.specs.Rules.{Rule, done_with}
use Rattle.lib_defs.specs.Shown.{none_fails}
use Rattle.lib_defs.specs.Laws.{AreReached}
use Rattle.lib_defs.specs.RuleLaws.{RuleFits}

module _ (row : Rule) (s : Storage) (passes : none_fails (decisions row.constraints) ≡ true) where
  -- stores that are reached
  pub stores_fit : (patches : List Patch) (value : Value) → AreReached s patches → length patches ≤ 4
      → RuleFits row s (done_with patches value)
  stores_fit patches value reached few =
      record { passes = passes; reached = reached; few = few; makes_none = refl; ends_none = refl; sets_none = refl }

  pub nothing_fits : (value : Value) → RuleFits row s (done_with [] value)
  nothing_fits value = stores_fit [] value tt (omega arith)

-- either branch
pub branch_fits : (row : Rule) (s : Storage) (b : Bool) (x y : Did) → (b ≡ true → RuleFits row s x)
    → (b ≡ false → RuleFits row s y)
    → RuleFits row s (cond b x y)
branch_fits row s true x y one other = one refl
branch_fits row s false x y one other = other refl

-- the length that a text was seen to have
pub length_of : (w : ℕ) (r : Reading) (n : ℕ) → length_seen w r ≡ Saw n → r ≡ Length n
length_of w (Length m) n e = let same : m ≡ n = cc in ap Length same
length_of w (Unreached case place) n e = cc
length_of w Unknown n e = cc

-- a size is what it cuts, or less
pub size_within : (w k : ℕ) → size w (k + 1) ≤ w * k + w
size_within w k =
    let next : w * (k + 1) ≡ w * k + w = grind arith in
    cut (w * (k + 1)) (w * k + w) (nat_le (w * (k + 1)) rsize_max) next (λ e. large e)
  where
    large : nat_le (w * (k + 1)) rsize_max ≡ false → rsize_max + 1 ≤ w * (k + 1)
    large e = grind (arith, common_steps, e)

    cut : (x y : ℕ) (b : Bool) → x ≡ y → (b ≡ false → rsize_max + 1 ≤ x) → cond b x (rsize_max + 1) ≤ y
    cut x y true e more = omega (arith, e)
    cut x y false e more = let h = more refl in omega (arith, e, h)
