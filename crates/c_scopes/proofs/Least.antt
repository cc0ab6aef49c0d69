-- The first constraint that fails is the least.
use Rattle.std.proofs.Common.{◌≡◌, ◌⊎◌, inl, inr, ℕ, ◌<◌, ◌≤◌, Bool, true, false, cond, List, [], ◌∷◌, refl, arith}
use Rattle.c_scopes.specs.Ruled.{Ruled, Fits, Breaks, Demand, verdict, IsBelow, Rises, Fails}

-- a number below all is below those that fail
below_failing : (number : ℕ) (demands : List Demand) (other : ℕ) → IsBelow number demands → Fails other demands
    → number < other
below_failing number [] other below fails = absurd fails
below_failing number (demand ∷ rest) other below (inl fails) =
    let b : number < demand.0 = below.0 in
    let e : demand.0 ≡ other = fails.0 in omega arith
below_failing number (demand ∷ rest) other below (inr fails) = below_failing number rest other below.1 fails

abbrev Least : ℕ → List Demand → Type 0
Least number demands = Fails number demands × ((other : ℕ) → Fails other demands → number ≤ other)

-- a constraint that holds before the others
later : (demand : Demand) (rest : List Demand) (number : ℕ) → demand.1 ≡ true → Least number rest
    → Least number (demand ∷ rest)
later demand rest number holds least = (inr least.0, λ other fails. among other fails)
  where
    among : (other : ℕ) → Fails other (demand ∷ rest) → number ≤ other
    among other (inl fails) = let f : demand.1 ≡ false = fails.1 in absurd (cc)
    among other (inr fails) = least.1 other fails

-- a constraint that fails before the others
first : (demand : Demand) (rest : List Demand) (number : ℕ) → demand.1 ≡ false → demand.0 ≡ number
    → IsBelow demand.0 rest → Least number (demand ∷ rest)
first demand rest number fails same below = (inl (same, fails), λ other f. among other f)
  where
    among : (other : ℕ) → Fails other (demand ∷ rest) → number ≤ other
    among other (inl f) = let e : demand.0 ≡ other = f.0 in omega arith
    among other (inr f) = let l : demand.0 < other = below_failing demand.0 rest other below f in omega arith

abbrev Verdict : Type 0
Verdict = Ruled (Unit {0})

-- the verdict where the first constraint holds or fails
abbrev verdict_after : Bool → Verdict → ℕ → Verdict
verdict_after holds rest number = cond holds rest (Breaks number)

breaks_number : (a b : ℕ) → verdict_after false (Fits tt) a ≡ Breaks b → a ≡ b
breaks_number a b e = cc

step : (demand : Demand) (rest : List Demand) (number : ℕ) (holds : Bool) → demand.1 ≡ holds
    → IsBelow demand.0 rest → (verdict rest ≡ Breaks number → Least number rest)
    → verdict_after holds (verdict rest) demand.0 ≡ Breaks number → Least number (demand ∷ rest)
step demand rest number true is below least e = later demand rest number is (least e)
step demand rest number false is below least e = first demand rest number is (breaks_number _ _ e) below

pub tells_least : (demands : List Demand) (number : ℕ) → Rises demands → verdict demands ≡ Breaks number
    → Fails number demands × ((other : ℕ) → Fails other demands → number ≤ other)
tells_least [] number rises e = absurd (cc)
tells_least (demand ∷ rest) number rises e =
    step demand rest number demand.1 refl rises.0 (tells_least rest number rises.1) e

fits_step : (demand : Demand) (rest : List Demand) (holds : Bool) → demand.1 ≡ holds
    → ((number : ℕ) → Fails number (demand ∷ rest) → ⊥) → verdict rest ≡ Fits tt
    → verdict_after holds (verdict rest) demand.0 ≡ Fits tt
fits_step demand rest true is none e = e
fits_step demand rest false is none e = absurd (none demand.0 (inl (refl, is)))

pub fits_where_none : (demands : List Demand) → ((number : ℕ) → Fails number demands → ⊥) → verdict demands ≡ Fits tt
fits_where_none [] none = refl
fits_where_none (demand ∷ rest) none =
    fits_step demand rest demand.1 refl none (fits_where_none rest (λ number fails. none number (inr fails)))
