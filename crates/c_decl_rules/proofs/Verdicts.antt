-- From what the constraints of a rule say to what the rule answers.
use Rattle.std.proofs.Common.{◌≡◌, ◌∙◌, ℕ, List, [], ◌∷◌, refl, ap, sym}
use Rattle.std.specs.Prelude.{Bool, true, false, cond}
use Rattle.critical_table.specs.declared.pos.Pos.{Pos}
use Rattle.c_types.specs.Types.{Types}
use Rattle.c_core.specs.declared.fault.TypeFault.{TypeFault}
use Rattle.c_core.specs.declared.fault.TypeFault.TheVariants as fault
use Rattle.c_scopes.specs.Clauses.{BreaksAt, Follows, Makes}
use Rattle.c_scopes.specs.Ruled.{Ruled, Fits, Breaks, Demand, ruled, verdict}

-- a constraint that holds, and what comes behind it
held : {A : Type 0} (b : Bool) (m : ℕ) (v : Ruled (Unit {0})) (r x : Ruled A) → (v ≡ Fits tt → r ≡ x)
    → cond b v (Breaks m) ≡ Fits tt → cond b r (Breaks m) ≡ x
held true m v r x rest e = rest e
held false m v r x rest e = cc

-- a constraint that fails, or one behind it
refused : {A : Type 0} (b : Bool) (m n : ℕ) (v : Ruled (Unit {0})) (r : Ruled A) → (v ≡ Breaks n → r ≡ Breaks n)
    → cond b v (Breaks m) ≡ Breaks n → cond b r (Breaks m) ≡ Breaks n
refused true m n v r rest e = rest e
refused false m n v r rest e = let same : m ≡ n = cc in ap (λ k. Breaks k) same

pub fits : {A : Type 0} (demands : List Demand) (a : A) → verdict demands ≡ Fits tt → ruled demands a ≡ Fits a
fits [] a e = refl
fits (demand ∷ rest) a e = held demand.1 demand.0 (verdict rest) (ruled rest a) (Fits a) (fits rest a) e

breaks : {A : Type 0} (demands : List Demand) (a : A) (n : ℕ) → verdict demands ≡ Breaks n → ruled demands a ≡ Breaks n
breaks [] a n e = cc
breaks (demand ∷ rest) a n e =
    refused demand.1 demand.0 n (verdict rest) (ruled rest a) (breaks rest a n) e

-- ---- as the functions of the program say it

pub told : {A : Type 0} (demands : List Demand) (a : A) (at : Pos) (fault : TypeFault)
    → BreaksAt (verdict demands) at fault → BreaksAt (ruled demands a) at fault
told demands a at (fault.Constraint number place) t = (breaks demands a number t.0, t.1)
told demands a at (fault.Memory cause) t = tt

pub follows : {A B : Type 0} {view : Types → B → A} {In : Types → B → Type 0} (demands : List Demand) (a : A) (x : B)
    (old new : Types) → verdict demands ≡ Fits tt → Makes view In a old new x
    → Follows (ruled demands a) (view new x) (λ types. In types x) old new
follows demands a x old new e made = record {
  is = fits demands a e ∙ ap (λ b. Fits b) (sym made.is);
  is_in = made.is_in;
  kept = made.kept;
}
